-- Each call of a hash join's operator keeps what it stands for.
use Rattle.std.proofs.Common.{ℕ, ◌+◌, ◌-◌, ◌≤◌, ◌≡◌, refl, sym, ap, ◌∙◌, subst, cond, List, [], ◌∷◌, ◌++◌, length, replicate, drop, unwrap_or, Bool, true, false, ◌&&◌, arith}
use Rattle.std.specs.List.{flat_map, fold}
use Rattle.std.proofs.lemmas.Bool.{true≢false}
use Rattle.std.proofs.lemmas.List.{append-nil, append_assoc, drop-append-le, drop-drop, length-append, length-drop, replicate-append-replicate}
use Rattle.std.proofs.lemmas.List.Concat.{flat_map-append}
use Rattle.std.proofs.lemmas.List.Sums.{fold-append}
use Rattle.dfx_value.specs.Rows.{cells_at}
use Rattle.logical_plan.specs.Items.{Cells, Item, rows, of_rows, of_faults}
use Rattle.logical_plan.specs.Joins.{residual, nulls, alone, left_alone, right_pairs, keeps_left, keeps_right, when}
use Rattle.physical_plan.specs.Properties.{left_keys, right_keys}
use Rattle.tree_laws.specs.Operators.{Told, with_rows, with_end, with_flush}
use Rattle.content_laws.proofs.Items.{rows_of_rows, faults_of_rows}
use Rattle.key_laws.specs.Entries.{find}
use Rattle.join_laws.specs.Joining.{probe, last}
use Rattle.join_laws.specs.Tables.{KeyPlaces, entered, matches, row_at, marked, marks_after, unmarked}
use Rattle.join_laws.specs.States.{Join, op_of, JoinState, at_start, places_at, pairs_at, given_by, took_left, took_right, accepted, ended, gave, StandsFor}
use Rattle.join_laws.proofs.Found.{pairs_are, entered-append}
use Rattle.join_laws.proofs.Marks.{lefts_are}

module _ (j : Join) where
  -- what a right row gives with left rows
  abbrev gives : List Cells → Cells → List Item
  gives ls r = right_pairs j.keys j.rest ls r ++ when (keeps_right j.kind) (alone (nulls j.left_width ++ r) (right_pairs j.keys j.rest ls r))

  probes_are : (ls rs : List Cells) → flat_map (probe j.kind j.left_width j.keys j.rest (of_rows ls)) (of_rows rs) ≡ flat_map (gives ls) rs
  probes_are ls [] = refl
  probes_are ls (r ∷ rs) = ap (λ zs. gives zs r ++ flat_map (probe j.kind j.left_width j.keys j.rest (of_rows ls)) (of_rows rs)) (rows_of_rows ls) ∙ ap (λ zs. gives ls r ++ zs) (probes_are ls rs)

  lasts_are : (ls rs : List Cells) → last j.kind j.right_width j.keys j.rest (of_rows ls) (of_rows rs) ≡ when (keeps_left j.kind) (left_alone j.keys j.rest j.right_width ls rs)
  lasts_are ls rs =
      ap (λ fs. when (keeps_left j.kind) (left_alone j.keys j.rest j.right_width (rows (of_rows ls)) (rows (of_rows rs))) ++ of_faults fs) (faults_of_rows ls)
      ∙ (append-nil (when (keeps_left j.kind) (left_alone j.keys j.rest j.right_width (rows (of_rows ls)) (rows (of_rows rs))))
      ∙ (ap (λ zs. when (keeps_left j.kind) (left_alone j.keys j.rest j.right_width zs (rows (of_rows rs)))) (rows_of_rows ls)
      ∙ ap (λ zs. when (keeps_left j.kind) (left_alone j.keys j.rest j.right_width ls zs)) (rows_of_rows rs)))

  -- ---- its items, by which sides have ended

  items_none : (t : Told) → t.ended 0 ≡ false → (op_of j).items t ≡ []
  items_none t e = ap (λ b. cond b (flat_map (probe j.kind j.left_width j.keys j.rest (of_rows (t.taken 0))) (of_rows (t.taken 1)) ++ cond (t.ended 1) (last j.kind j.right_width j.keys j.rest (of_rows (t.taken 0)) (of_rows (t.taken 1))) []) []) e

  items_some : (t : Told) (b : Bool) → t.ended 0 ≡ true → t.ended 1 ≡ b → (op_of j).items t ≡ flat_map (gives (t.taken 0)) (t.taken 1) ++ cond b (when (keeps_left j.kind) (left_alone j.keys j.rest j.right_width (t.taken 0) (t.taken 1))) []
  items_some t b e f =
      ap (λ b. cond b (flat_map (probe j.kind j.left_width j.keys j.rest (of_rows (t.taken 0))) (of_rows (t.taken 1)) ++ cond (t.ended 1) (last j.kind j.right_width j.keys j.rest (of_rows (t.taken 0)) (of_rows (t.taken 1))) []) []) e
      ∙ (ap (λ b. flat_map (probe j.kind j.left_width j.keys j.rest (of_rows (t.taken 0))) (of_rows (t.taken 1)) ++ cond b (last j.kind j.right_width j.keys j.rest (of_rows (t.taken 0)) (of_rows (t.taken 1))) []) f
      ∙ (ap (λ zs. zs ++ cond b (last j.kind j.right_width j.keys j.rest (of_rows (t.taken 0)) (of_rows (t.taken 1))) []) (probes_are (t.taken 0) (t.taken 1))
      ∙ ap (λ zs. flat_map (gives (t.taken 0)) (t.taken 1) ++ cond b zs []) (lasts_are (t.taken 0) (t.taken 1))))

  -- ---- rows of the right side

  pub took_all : (s : JoinState) (rs : List Cells) → fold (took_right j) s rs ≡ record s { marks = fold (λ marks r. marked j.rest s.lefts r marks (places_at j s r)) s.marks rs; waiting = s.waiting ++ flat_map (given_by j s) rs }
  took_all s [] = ap (λ zs. record s { waiting = zs }) (sym (append-nil s.waiting))
  took_all s (r ∷ rs) =
      took_all (took_right j s r) rs
      ∙ ap (λ zs. record s { marks = fold (λ marks r. marked j.rest s.lefts r marks (places_at j s r)) (marked j.rest s.lefts r s.marks (places_at j s r)) rs; waiting = zs }) (append_assoc s.waiting (given_by j s r) (flat_map (given_by j s) rs))

  places_same : (s : JoinState) (ls : List Cells) (r : Cells) → s.table ≡ entered (left_keys j.keys) [] 0 ls → places_at j s r ≡ matches j.keys ls r
  places_same s ls r e = ap (λ (t : KeyPlaces). unwrap_or (find t (cells_at (right_keys j.keys) r)) []) e

  given_same : (s : JoinState) (ls : List Cells) (r : Cells) → s.lefts ≡ ls → s.table ≡ entered (left_keys j.keys) [] 0 ls → given_by j s r ≡ gives ls r
  given_same s ls r e f =
      let same : pairs_at j s r ≡ right_pairs j.keys j.rest ls r
      = ap (λ zs. flat_map (λ at. residual j.rest (row_at zs at ++ r)) (places_at j s r)) e ∙ (ap (flat_map (λ at. residual j.rest (row_at ls at ++ r))) (places_same s ls r f) ∙ pairs_are j.keys j.rest ls r) in
      ap (λ zs. zs ++ when (keeps_right j.kind) (alone (nulls j.left_width ++ r) zs)) same

  -- ---- steps

  stands_left : (s : JoinState) (t : Told) (n : ℕ) (rs : List Cells) → StandsFor j s t n → t.ended 0 ≡ false → StandsFor j (took_left j s rs) (with_rows t 0 rs) n
  stands_left s t n rs h e = record {
    lefts = ap (λ zs. zs ++ rs) h.lefts;
    table = ap (λ (es : KeyPlaces). entered (left_keys j.keys) es (length s.lefts) rs) h.table
        ∙ (ap (λ m. entered (left_keys j.keys) (entered (left_keys j.keys) [] 0 (t.taken 0)) m rs) (let z : length s.lefts ≡ length (t.taken 0) = ap length h.lefts in let y : length s.lefts ≡ 0 + length (t.taken 0) = omega arith in y)
        ∙ sym (entered-append (left_keys j.keys) [] 0 (t.taken 0) rs));
    marks = ap (λ zs. zs ++ replicate (length rs) false) (h.marks ∙ ap (marks_after j.keys j.rest (t.taken 0)) (h.early e).0)
        ∙ (replicate-append-replicate (length (t.taken 0)) (length rs) false ∙ (ap (λ m. replicate m false) (sym (length-append (t.taken 0) rs)) ∙ sym (ap (marks_after j.keys j.rest (t.taken 0 ++ rs)) (h.early e).0)));
    waiting = h.waiting ∙ ap (drop n) same;
    within = subst (λ zs. n ≤ length zs) same h.within;
    left_over = h.left_over;
    right_over = h.right_over;
    early = h.early;
  }
    where
      same : (op_of j).items t ≡ (op_of j).items (with_rows t 0 rs)
      same = items_none t e ∙ sym (items_none (with_rows t 0 rs) e)

  -- more items at the end of those before
  waits_more : (xs ys zs : List Item) (n : ℕ) → n ≤ length xs → ys ≡ xs ++ zs → drop n xs ++ zs ≡ drop n ys
  waits_more xs ys zs n l e = sym (ap (drop n) e ∙ drop-append-le n xs zs l)

  within_more : (xs ys zs : List Item) (n : ℕ) → n ≤ length xs → ys ≡ xs ++ zs → n ≤ length ys
  within_more xs ys zs n l e = let a : length ys ≡ length xs + length zs = ap length e ∙ length-append xs zs in omega arith

  stands_right : (s : JoinState) (t : Told) (n : ℕ) (rs : List Cells) → StandsFor j s t n → t.ended 0 ≡ true → t.ended 1 ≡ false → StandsFor j (fold (took_right j) s rs) (with_rows t 1 rs) n
  stands_right s t n rs h e f = subst (λ z. StandsFor j z (with_rows t 1 rs) n) (sym (took_all s rs)) (record {
    lefts = h.lefts;
    table = h.table;
    marks = fold_same (λ marks r. marked j.rest s.lefts r marks (places_at j s r)) (λ marks r. marked j.rest (t.taken 0) r marks (matches j.keys (t.taken 0) r))
        (λ marks r. ap (λ ls. marked j.rest ls r marks (places_at j s r)) h.lefts ∙ ap (marked j.rest (t.taken 0) r marks) (places_same s (t.taken 0) r h.table)) s.marks rs
        ∙ (ap (λ marks. fold (λ marks r. marked j.rest (t.taken 0) r marks (matches j.keys (t.taken 0) r)) marks rs) h.marks
        ∙ sym (fold-append (λ marks r. marked j.rest (t.taken 0) r marks (matches j.keys (t.taken 0) r)) (replicate (length (t.taken 0)) false) (t.taken 1) rs));
    waiting = ap (λ zs. zs ++ flat_map (given_by j s) rs) h.waiting
        ∙ (ap (λ zs. drop n ((op_of j).items t) ++ zs) (flat_map_same (given_by j s) (gives (t.taken 0)) (λ r. given_same s (t.taken 0) r h.lefts h.table) rs)
        ∙ waits_more ((op_of j).items t) ((op_of j).items (with_rows t 1 rs)) (flat_map (gives (t.taken 0)) rs) n h.within more);
    within = within_more ((op_of j).items t) ((op_of j).items (with_rows t 1 rs)) (flat_map (gives (t.taken 0)) rs) n h.within more;
    left_over = h.left_over;
    right_over = h.right_over;
    early = λ z. absurd (true≢false (sym e ∙ z));
  })
    where
      fold_same : {A B : Type 0} (f g : B → A → B) → ((b : B) (x : A) → f b x ≡ g b x) → (b : B) (xs : List A) → fold f b xs ≡ fold g b xs
      fold_same f g h b [] = refl
      fold_same f g h b (x ∷ xs) = ap (λ b. fold f b xs) (h b x) ∙ fold_same f g h (g b x) xs

      flat_map_same : (f g : Cells → List Item) → ((r : Cells) → f r ≡ g r) → (xs : List Cells) → flat_map f xs ≡ flat_map g xs
      flat_map_same f g h [] = refl
      flat_map_same f g h (x ∷ xs) = ap (λ zs. zs ++ flat_map f xs) (h x) ∙ ap (λ zs. g x ++ zs) (flat_map_same f g h xs)

      more : (op_of j).items (with_rows t 1 rs) ≡ (op_of j).items t ++ flat_map (gives (t.taken 0)) rs
      more =
          items_some (with_rows t 1 rs) false e f
          ∙ (append-nil (flat_map (gives (t.taken 0)) (t.taken 1 ++ rs))
          ∙ (flat_map-append (gives (t.taken 0)) (t.taken 1) rs
          ∙ ap (λ zs. zs ++ flat_map (gives (t.taken 0)) rs) (sym (items_some t false e f ∙ append-nil (flat_map (gives (t.taken 0)) (t.taken 1))))))

  stands_left_end : (s : JoinState) (t : Told) (n : ℕ) → StandsFor j s t n → t.ended 0 ≡ false → StandsFor j (record s { left_over = true }) (with_end t 0) n
  stands_left_end s t n h e = record {
    lefts = h.lefts;
    table = h.table;
    marks = h.marks;
    waiting = h.waiting ∙ ap (drop n) same;
    within = subst (λ zs. n ≤ length zs) same h.within;
    left_over = refl;
    right_over = h.right_over;
    early = λ z. absurd (true≢false z);
  }
    where
      same : (op_of j).items t ≡ (op_of j).items (with_end t 0)
      same = items_none t e ∙ sym (items_some (with_end t 0) false refl (h.early e).1 ∙ (append-nil (flat_map (gives (t.taken 0)) (t.taken 1)) ∙ ap (flat_map (gives (t.taken 0))) (h.early e).0))

  stands_right_end : (s : JoinState) (t : Told) (n : ℕ) → StandsFor j s t n → t.ended 0 ≡ true → t.ended 1 ≡ false
      → StandsFor j (record s { right_over = true; waiting = s.waiting ++ when (keeps_left j.kind) (unmarked j.right_width s.lefts s.marks) }) (with_end t 1) n
  stands_right_end s t n h e f = record {
    lefts = h.lefts;
    table = h.table;
    marks = h.marks;
    waiting = ap (λ zs. zs ++ when (keeps_left j.kind) (unmarked j.right_width s.lefts s.marks)) h.waiting
        ∙ (ap (λ zs. drop n ((op_of j).items t) ++ when (keeps_left j.kind) zs) alone_are
        ∙ waits_more ((op_of j).items t) ((op_of j).items (with_end t 1)) (when (keeps_left j.kind) (left_alone j.keys j.rest j.right_width (t.taken 0) (t.taken 1))) n h.within more);
    within = within_more ((op_of j).items t) ((op_of j).items (with_end t 1)) (when (keeps_left j.kind) (left_alone j.keys j.rest j.right_width (t.taken 0) (t.taken 1))) n h.within more;
    left_over = h.left_over;
    right_over = refl;
    early = λ z. absurd (true≢false (sym e ∙ z));
  }
    where
      alone_are : unmarked j.right_width s.lefts s.marks ≡ left_alone j.keys j.rest j.right_width (t.taken 0) (t.taken 1)
      alone_are = ap (λ ls. unmarked j.right_width ls s.marks) h.lefts ∙ (ap (unmarked j.right_width (t.taken 0)) h.marks ∙ lefts_are j.keys j.rest j.right_width (t.taken 0) (t.taken 1))

      more : (op_of j).items (with_end t 1) ≡ (op_of j).items t ++ when (keeps_left j.kind) (left_alone j.keys j.rest j.right_width (t.taken 0) (t.taken 1))
      more = items_some (with_end t 1) true e refl ∙ ap (λ zs. zs ++ when (keeps_left j.kind) (left_alone j.keys j.rest j.right_width (t.taken 0) (t.taken 1))) (sym (items_some t false e f ∙ append-nil (flat_map (gives (t.taken 0)) (t.taken 1))))

  -- ---- the laws

  goes_on : (a b : Bool) → a ≡ true → (a && b) ≡ false → b ≡ false
  goes_on true b e f = f
  goes_on false b e f = absurd (true≢false (sym e))

  pub accepts : (s : JoinState) (t : Told) (n : ℕ) (rs : List Cells) → StandsFor j s t n → (op_of j).is_complete t ≡ false → StandsFor j (accepted j s rs) (with_rows t ((op_of j).wanted t) rs) n
  accepts s t n rs h c = by (t.ended 0) refl
    where
      by : (b : Bool) → t.ended 0 ≡ b → StandsFor j (accepted j s rs) (with_rows t (cond b 1 0) rs) n
      by true e = subst (λ b. StandsFor j (cond b (fold (took_right j) s rs) (took_left j s rs)) (with_rows t 1 rs) n) (sym (h.left_over ∙ e)) (stands_right s t n rs h e (goes_on (t.ended 0) (t.ended 1) e c))
      by false e = subst (λ b. StandsFor j (cond b (fold (took_right j) s rs) (took_left j s rs)) (with_rows t 0 rs) n) (sym (h.left_over ∙ e)) (stands_left s t n rs h e)

  pub ends : (s : JoinState) (t : Told) (n : ℕ) → StandsFor j s t n → (op_of j).is_complete t ≡ false → StandsFor j (ended j s) (with_end t ((op_of j).wanted t)) n
  ends s t n h c = by (t.ended 0) refl
    where
      by : (b : Bool) → t.ended 0 ≡ b → StandsFor j (ended j s) (with_end t (cond b 1 0)) n
      by true e = subst (λ b. StandsFor j (cond b (record s { right_over = true; waiting = s.waiting ++ when (keeps_left j.kind) (unmarked j.right_width s.lefts s.marks) }) (record s { left_over = true })) (with_end t 1) n) (sym (h.left_over ∙ e))
          (stands_right_end s t n h e (goes_on (t.ended 0) (t.ended 1) e c))
      by false e = subst (λ b. StandsFor j (cond b (record s { right_over = true; waiting = s.waiting ++ when (keeps_left j.kind) (unmarked j.right_width s.lefts s.marks) }) (record s { left_over = true })) (with_end t 0) n) (sym (h.left_over ∙ e))
          (stands_left_end s t n h e)

  pub gives_some : (s : JoinState) (t : Told) (n k : ℕ) → StandsFor j s t n → k ≤ length s.waiting → StandsFor j (gave s k) t (n + k)
  gives_some s t n k h l = record {
    lefts = h.lefts;
    table = h.table;
    marks = h.marks;
    waiting = ap (drop k) h.waiting ∙ drop-drop k n ((op_of j).items t);
    within = let a : length s.waiting ≡ length (drop n ((op_of j).items t)) = ap length h.waiting in let b : length (drop n ((op_of j).items t)) ≡ length ((op_of j).items t) - n = length-drop n ((op_of j).items t) in let c : n ≤ length ((op_of j).items t) = h.within in omega arith;
    left_over = h.left_over;
    right_over = h.right_over;
    early = h.early;
  }

  pub starts : (t : Told) → t.taken 0 ≡ [] → t.taken 1 ≡ [] → t.ended 0 ≡ false → t.ended 1 ≡ false → StandsFor j at_start t 0
  starts t a b c d = record {
    lefts = sym a;
    table = ap (entered (left_keys j.keys) [] 0) (sym a);
    marks = sym (ap (λ ls. marks_after j.keys j.rest ls (t.taken 1)) a ∙ ap (marks_after j.keys j.rest []) b);
    waiting = sym (items_none t c);
    within = omega arith;
    left_over = sym c;
    right_over = sym d;
    early = λ z. (b, d);
  }

  pub wants : (s : JoinState) (t : Told) (n : ℕ) → StandsFor j s t n → cond {A = ℕ} s.left_over 1 0 ≡ (op_of j).wanted t
  wants s t n h = ap (λ b. cond {A = ℕ} b 1 0) h.left_over

  pub completes : (s : JoinState) (t : Told) (n : ℕ) → StandsFor j s t n → (s.left_over && s.right_over) ≡ (op_of j).is_complete t
  completes s t n h = ap (λ b. b && s.right_over) h.left_over ∙ ap (λ b. t.ended 0 && b) h.right_over

  -- it isn't spilled: a flush tells it nothing
  pub flushes : (s : JoinState) (t : Told) (n : ℕ) → StandsFor j s t n → StandsFor j s (with_flush t) n
  flushes s t n h = record { lefts = h.lefts; table = h.table; marks = h.marks; waiting = h.waiting; within = h.within; left_over = h.left_over; right_over = h.right_over; early = h.early }
