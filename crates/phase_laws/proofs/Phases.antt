-- The two phases give the groups of the whole.
use Rattle.std.proofs.Common.{ℕ, zero, suc, ◌+◌, ◌≡◌, refl, sym, ap, ◌∙◌, subst, cond, List, [], ◌∷◌, ◌++◌, map, length, drop, Bool, true, false, not, ◌||◌, Ok, arith}
use Rattle.std.specs.Prelude.{slice_get}
use Rattle.std.specs.List.{sum_by, filter, list_any, flat_map}
use Rattle.std.proofs.lemmas.List.Folds.{list_any-append}
use Rattle.std.proofs.lemmas.List.Elements.{filter-append}
use Rattle.dfx_value.specs.Checked.{◌>>=◌}
use Rattle.dfx_value.specs.Rows.{cell, cells_at}
use Rattle.dfx_value.specs.Kinds.{are_of}
use Rattle.dfx_value.specs.declared.kind.Kind.{Kind}
use Rattle.dfx_value.specs.declared.value.Value.{Value}
use Rattle.dfx_value.specs.declared.op.AggCall.{AggCall}
use Rattle.scalar_exprs.specs.Agg.{agg_rows}
use Rattle.scalar_exprs.specs.Groups.{same_keys, firsts}
use Rattle.logical_plan.specs.Items.{Cells, Item, all_values, as_item, concat}
use Rattle.logical_plan.specs.Body.{kind_or_text}
use Rattle.logical_plan.specs.Groups.{group_item}
use Rattle.phase_laws.specs.Phases.{grouped, states_of, phase_row, phase_rows, states_kinds, phase_kinds, answers, final_item}
use Rattle.physical_plan.specs.Numbers.{numbers, numbers_from}
use Rattle.content_laws.specs.Bags.{SameBag}
use Rattle.phase_laws.proofs.Bags.{Each, each_more, each-append, each_left, each_right, each-filter, bag_each}
use Rattle.content_laws.proofs.Weights.{bag-filter, bag-map, bag_any}
use Rattle.phase_laws.proofs.Firsts.{any-firsts}
use Rattle.phase_laws.proofs.Exact.{key_fits, cells_at_fits, keys_exact}
use Rattle.key_laws.proofs.Found.{same_keys_laws}
use Rattle.phase_laws.proofs.Groups.{of_keys, like, any-map, grouped_same, each-firsts}
use Rattle.phase_laws.proofs.Core.{piece, map-append, EachOf, answers_are, agg_order}

-- ---- rows of one key among first ones

filter-map : {A B : Type 0} (p : B → Bool) (h : A → B) (xs : List A) → filter p (map h xs) ≡ map h (filter (λ x. p (h x)) xs)
filter-map p h [] = refl
filter-map p h (x ∷ xs) = by (p (h x)) (filter-map p h xs)
  where
    by : (b : Bool) → filter p (map h xs) ≡ map h (filter (λ x. p (h x)) xs) → cond b (h x ∷ filter p (map h xs)) (filter p (map h xs)) ≡ map h (cond b (x ∷ filter (λ x. p (h x)) xs) (filter (λ x. p (h x)) xs))
    by true ih = ap (λ zs. h x ∷ zs) ih
    by false ih = ih

filter_same : {A : Type 0} (p q : A → Bool) → ((x : A) → p x ≡ q x) → (xs : List A) → filter p xs ≡ filter q xs
filter_same p q h [] = refl
filter_same p q h (x ∷ xs) = ap (λ b. cond b (x ∷ filter p xs) (filter p xs)) (h x) ∙ ap (λ zs. cond (q x) (x ∷ zs) zs) (filter_same p q h xs)

filter_each : {A : Type 0} (p : A → Bool) (xs : List A) → Each p (filter p xs)
filter_each p [] = tt
filter_each p (x ∷ xs) = by (p x) refl (filter_each p xs)
  where
    by : (b : Bool) → p x ≡ b → Each p (filter p xs) → Each p (cond b (x ∷ filter p xs) (filter p xs))
    by true e ih = (e, ih)
    by false e ih = ih

abbrev front : {A : Type 0} → List A → List A
front [] = []
front (x ∷ xs) = x ∷ []

filter_firsts : {A : Type 0} (p : A → Bool) (rel : A → A → Bool) → ((a b : A) → p a ≡ true → rel a b ≡ p b) → ((a b : A) → p a ≡ false → rel a b ≡ true → p b ≡ false)
    → (xs : List A) → filter p (firsts rel xs) ≡ front (filter p xs)
filter_firsts p rel takes leaves [] = refl
filter_firsts {A = A} p rel takes leaves (x ∷ xs) = by (p x) refl (filter_firsts p rel takes leaves xs)
  where
    gone : p x ≡ true → (ys : List A) → filter p (filter (λ s. not (rel x s)) ys) ≡ []
    gone e [] = refl
    gone e (y ∷ ys) = at (p y) refl (gone e ys)
      where
        at : (b : Bool) → p y ≡ b → filter p (filter (λ s. not (rel x s)) ys) ≡ [] → filter p (cond (not (rel x y)) (y ∷ filter (λ s. not (rel x s)) ys) (filter (λ s. not (rel x s)) ys)) ≡ []
        at true f ih = rw (takes x y e ∙ f) ih
        at false f ih = rw (takes x y e ∙ f) (rw f ih)

    kept : p x ≡ false → (ys : List A) → filter p (filter (λ s. not (rel x s)) ys) ≡ filter p ys
    kept e [] = refl
    kept e (y ∷ ys) = at (rel x y) refl (kept e ys)
      where
        at : (b : Bool) → rel x y ≡ b → filter p (filter (λ s. not (rel x s)) ys) ≡ filter p ys → filter p (cond (not b) (y ∷ filter (λ s. not (rel x s)) ys) (filter (λ s. not (rel x s)) ys)) ≡ filter p (y ∷ ys)
        at true f ih = ih ∙ ap (λ b. cond b (y ∷ filter p ys) (filter p ys)) (sym (leaves x y e f))
        at false f ih = ap (λ zs. cond (p y) (y ∷ zs) zs) ih

    by : (b : Bool) → p x ≡ b → filter p (firsts rel xs) ≡ front (filter p xs) → cond b (x ∷ filter p (filter (λ s. not (rel x s)) (firsts rel xs))) (filter p (filter (λ s. not (rel x s)) (firsts rel xs))) ≡ front (cond b (x ∷ filter p xs) (filter p xs))
    by true e ih = ap (λ zs. x ∷ zs) (gone e (firsts rel xs))
    by false e ih = kept e (firsts rel xs) ∙ ih

-- ---- the first phase

shift : (x : Value) (xs : Cells) (at n : ℕ) → map (cell (x ∷ xs)) (numbers_from (suc at) n) ≡ map (cell xs) (numbers_from at n)
shift x xs at zero = refl
shift x xs at (suc n) =
    let e : suc at + 1 ≡ suc (at + 1) = omega arith in
    ap (λ zs. cell xs at ∷ zs) (ap (λ i. map (cell (x ∷ xs)) (numbers_from i n)) e ∙ shift x xs (at + 1) n)

pub all_columns : (row more : Cells) → cells_at (numbers (length row)) (row ++ more) ≡ row
all_columns [] more = refl
all_columns (x ∷ xs) more = ap (λ zs. x ∷ zs) (shift x (xs ++ more) 0 (length xs) ∙ all_columns xs more)

length-map : {A B : Type 0} (h : A → B) (xs : List A) → length (map h xs) ≡ length xs
length-map h [] = refl
length-map h (x ∷ xs) = ap suc (length-map h xs)

pub length-numbers_from : (at n : ℕ) → length (numbers_from at n) ≡ n
length-numbers_from at zero = refl
length-numbers_from at (suc n) = ap suc (length-numbers_from (at + 1) n)

take_front : (columns : List ℕ) (row more : Cells) → cells_at (numbers (length columns)) (cells_at columns row ++ more) ≡ cells_at columns row
take_front columns row more = ap (λ n. cells_at (numbers n) (cells_at columns row ++ more)) (sym (length-map (cell row) columns)) ∙ all_columns (cells_at columns row) more

drop_all : {A : Type 0} (xs ys : List A) → drop (length xs) (xs ++ ys) ≡ ys
drop_all [] ys = refl
drop_all (x ∷ xs) ys = drop_all xs ys

drop_front : {A : Type 0} (columns : List ℕ) (h : ℕ → A) (more : List A) → drop (length (numbers (length columns))) (map h columns ++ more) ≡ more
drop_front columns h more = ap (λ n. drop n (map h columns ++ more)) (length-numbers_from 0 (length columns) ∙ sym (length-map h columns)) ∙ drop_all (map h columns) more

module _ (columns : List ℕ) (calls : List AggCall) (kinds : List Kind) where
  abbrev pub key : Cells → Cells
  key = cells_at columns

  abbrev pub behind : Cells → Cells
  behind = cells_at (numbers (length columns))

  abbrev pub row_of : List Cells → Cells → Cells
  row_of segment r = phase_row calls kinds (key r) (filter (like key r) segment)

  abbrev pub whole_piece : List Cells → List Cells
  whole_piece [] = []
  whole_piece (r ∷ rs) = phase_row calls kinds (key r) (r ∷ rs) ∷ []

  phase_at : (k : Cells) (segment : List Cells) → of_keys behind k (phase_rows columns calls kinds segment) ≡ whole_piece (of_keys key k segment)
  phase_at k segment =
      filter-map (λ s. same_keys k (behind s)) (row_of segment) (firsts (like key) segment)
      ∙ (ap (map (row_of segment)) (filter_same (λ r. same_keys k (behind (row_of segment r))) (λ r. same_keys k (key r)) (λ r. ap (same_keys k) (take_front columns r (states_of calls kinds (filter (like key r) segment)))) (firsts (like key) segment)
      ∙ filter_firsts (λ r. same_keys k (key r)) (like key) takes leaves segment)
      ∙ at (of_keys key k segment) refl)
    where
      takes : (a b : Cells) → same_keys k (key a) ≡ true → same_keys (key a) (key b) ≡ same_keys k (key b)
      takes a b e = sym (same_keys_laws.congr k (key a) (key b) e)

      leaves : (a b : Cells) → same_keys k (key a) ≡ false → same_keys (key a) (key b) ≡ true → same_keys k (key b) ≡ false
      leaves a b e f = same_keys_laws.symm k (key b) ∙ (sym (same_keys_laws.congr (key a) (key b) k f) ∙ (same_keys_laws.symm (key a) k ∙ e))

      at : (g : List Cells) → of_keys key k segment ≡ g → map (row_of segment) (front g) ≡ whole_piece g
      at [] e = refl
      at (r ∷ rs) e =
          let h : Each (λ s. same_keys k (key s)) (r ∷ rs) = subst (Each (λ s. same_keys k (key s))) e (filter_each (λ s. same_keys k (key s)) segment) in
          ap (λ g. phase_row calls kinds (key r) g ∷ []) (filter_same (like key r) (λ s. same_keys k (key s)) (λ s. takes r s h.0) segment ∙ e)

  drop_piece : (g : List Cells) → map (drop (length (numbers (length columns)))) (whole_piece g) ≡ piece calls kinds g
  drop_piece [] = refl
  drop_piece (r ∷ rs) = ap (λ z. z ∷ []) (drop_front columns (cell r) (states_of calls kinds (r ∷ rs)))

  -- what is left of the rows of a key
  pieces_are : (k : Cells) (segments : List (List Cells)) → map (drop (length (numbers (length columns)))) (of_keys behind k (flat_map (phase_rows columns calls kinds) segments)) ≡ flat_map (piece calls kinds) (map (of_keys key k) segments)
  pieces_are k [] = refl
  pieces_are k (s ∷ ss) =
      ap (map (drop (length (numbers (length columns))))) (filter-append (λ s. same_keys k (behind s)) (phase_rows columns calls kinds s) (flat_map (phase_rows columns calls kinds) ss))
      ∙ (map-append (drop (length (numbers (length columns)))) (of_keys behind k (phase_rows columns calls kinds s)) (of_keys behind k (flat_map (phase_rows columns calls kinds) ss))
      ∙ (ap (λ zs. zs ++ map (drop (length (numbers (length columns)))) (of_keys behind k (flat_map (phase_rows columns calls kinds) ss))) (ap (map (drop (length (numbers (length columns))))) (phase_at k s) ∙ drop_piece (of_keys key k s))
      ∙ ap (λ zs. piece calls kinds (of_keys key k s) ++ zs) (pieces_are k ss)))

  any_phase : (k : Cells) (segment : List Cells) → list_any (λ s. same_keys k (behind s)) (phase_rows columns calls kinds segment) ≡ list_any (λ r. same_keys k (key r)) segment
  any_phase k segment =
      any-map (row_of segment) (λ s. same_keys k (behind s)) (firsts (like key) segment)
      ∙ (ap (λ p. list_any p (firsts (like key) segment)) (λ i. λ r. same_keys k (take_front columns r (states_of calls kinds (filter (like key r) segment)) i))
      ∙ any-firsts (like key) (λ r. same_keys k (key r)) (λ a b e. same_keys_laws.symm k (key a) ∙ (same_keys_laws.congr (key a) (key b) k e ∙ same_keys_laws.symm (key b) k)) segment)

  -- the keys of the rows of the first phase are those of the rows
  keys_any : (k : Cells) (segments : List (List Cells)) → list_any (λ s. same_keys k (behind s)) (flat_map (phase_rows columns calls kinds) segments) ≡ list_any (λ r. same_keys k (key r)) (concat segments)
  keys_any k [] = refl
  keys_any k (s ∷ ss) =
      list_any-append (λ s. same_keys k (behind s)) (phase_rows columns calls kinds s) (flat_map (phase_rows columns calls kinds) ss)
      ∙ (ap (λ b. b || list_any (λ s. same_keys k (behind s)) (flat_map (phase_rows columns calls kinds) ss)) (any_phase k s)
      ∙ (ap (λ b. list_any (λ r. same_keys k (key r)) s || b) (keys_any k ss) ∙ sym (list_any-append (λ r. same_keys k (key r)) s (concat ss))))

  keys_fit_one : (segment rest : List Cells) → Each (are_of kinds) rest → Each (λ s. key_fits kinds columns (behind s)) (map (row_of segment) rest)
  keys_fit_one segment [] h = tt
  keys_fit_one segment (r ∷ rs) h = (ap (key_fits kinds columns) (take_front columns r (states_of calls kinds (filter (like key r) segment))) ∙ cells_at_fits kinds columns r h.0, keys_fit_one segment rs h.1)

  keys_fit : (segments : List (List Cells)) → Each (are_of kinds) (concat segments) → Each (λ s. key_fits kinds columns (behind s)) (flat_map (phase_rows columns calls kinds) segments)
  keys_fit [] h = tt
  keys_fit (s ∷ ss) h = each-append (λ s. key_fits kinds columns (behind s)) (phase_rows columns calls kinds s) (flat_map (phase_rows columns calls kinds) ss) (keys_fit_one s (firsts (like key) s) (each-firsts (are_of kinds) (like key) s (each_left (are_of kinds) s (concat ss) h))) (keys_fit ss (each_right (are_of kinds) s (concat ss) h))

  concat_keys : (k : Cells) (segments : List (List Cells)) → concat (map (of_keys key k) segments) ≡ of_keys key k (concat segments)
  concat_keys k [] = refl
  concat_keys k (s ∷ ss) = ap (λ zs. of_keys key k s ++ zs) (concat_keys k ss) ∙ sym (filter-append (λ r. same_keys k (key r)) s (concat ss))

  each_of : (k : Cells) (segments : List (List Cells)) → Each (are_of kinds) (concat segments) → EachOf kinds (map (of_keys key k) segments)
  each_of k [] h = tt
  each_of k (s ∷ ss) h = (each-filter (are_of kinds) (λ r. same_keys k (key r)) s (each_left (are_of kinds) s (concat ss) h), each_of k ss (each_right (are_of kinds) s (concat ss) h))

  -- the answers of the second phase for a key, from any arrangement of the rows of the first, are those of its rows in any arrangement
  pub core : (k : Cells) (segments : List (List Cells)) (input firsts_in : List Cells) → Each (are_of kinds) input → SameBag (concat segments) input → SameBag (flat_map (phase_rows columns calls kinds) segments) firsts_in
      → answers calls (states_kinds calls kinds) (map (drop (length (numbers (length columns)))) (of_keys behind k firsts_in)) ≡ map (agg_rows kinds (of_keys key k input)) calls
  core k segments input firsts_in h same came =
      answers_are calls kinds (map (of_keys key k) segments) (map (drop (length (numbers (length columns)))) (of_keys behind k firsts_in)) (each_of k segments whole)
      (λ w. sym (ap (sum_by w) (pieces_are k segments)) ∙ bag-map (drop (length (numbers (length columns)))) (of_keys behind k (flat_map (phase_rows columns calls kinds) segments)) (of_keys behind k firsts_in) (bag-filter (λ s. same_keys k (behind s)) (flat_map (phase_rows columns calls kinds) segments) firsts_in came) w)
      ∙ (ap (λ zs. map (agg_rows kinds zs) calls) (concat_keys k segments)
      ∙ each_call calls)
    where
      whole : Each (are_of kinds) (concat segments)
      whole = bag_each (are_of kinds) input (concat segments) (λ w. sym (same w)) h

      each_call : (cs : List AggCall) → map (agg_rows kinds (of_keys key k (concat segments))) cs ≡ map (agg_rows kinds (of_keys key k input)) cs
      each_call [] = refl
      each_call (c ∷ cs) = ap (λ x. x ∷ map (agg_rows kinds (of_keys key k (concat segments))) cs) (agg_order kinds c (of_keys key k (concat segments)) (of_keys key k input) (each-filter (are_of kinds) (λ r. same_keys k (key r)) (concat segments) whole) (bag-filter (λ r. same_keys k (key r)) (concat segments) input same))
          ∙ ap (λ xs. agg_rows kinds (of_keys key k input) c ∷ xs) (each_call cs)

  pub core_item : (k : Cells) (segments : List (List Cells)) (input firsts_in : List Cells) → Each (are_of kinds) input → SameBag (concat segments) input → SameBag (flat_map (phase_rows columns calls kinds) segments) firsts_in
      → final_item (length (numbers (length columns))) calls (phase_kinds columns calls kinds) k (of_keys behind k firsts_in) ≡ group_item k calls kinds (of_keys key k input)
  core_item k segments input firsts_in h same came = ap (λ os. as_item (all_values os >>= λ vs. Ok (k ++ vs))) (ap (λ ks. answers calls ks (map (drop (length (numbers (length columns)))) (of_keys behind k firsts_in))) (drop_front columns (λ c. kind_or_text (slice_get kinds c)) (states_kinds calls kinds)) ∙ core k segments input firsts_in h same came)

  -- the groups of any arrangement of the rows of the first phase are the groups of the rows
  pub groups_same : (w : Item → ℕ) (segments : List (List Cells)) (input firsts_in : List Cells) → Each (are_of kinds) input → SameBag (concat segments) input → SameBag (flat_map (phase_rows columns calls kinds) segments) firsts_in
      → sum_by w (grouped behind (final_item (length (numbers (length columns))) calls (phase_kinds columns calls kinds)) firsts_in) ≡ sum_by w (grouped key (λ k group. group_item k calls kinds group) input)
  groups_same w segments input firsts_in h same came =
      grouped_same behind key (final_item (length (numbers (length columns))) calls (phase_kinds columns calls kinds)) (λ k group. group_item k calls kinds group) w (key_fits kinds columns) (keys_exact kinds columns) firsts_in input
      (bag_each (λ s. key_fits kinds columns (behind s)) (flat_map (phase_rows columns calls kinds) segments) firsts_in came (keys_fit segments (bag_each (are_of kinds) input (concat segments) (λ w. sym (same w)) h)))
      (each_more (are_of kinds) (λ r. key_fits kinds columns (key r)) (λ r e. cells_at_fits kinds columns r e) input h)
      (λ k. ap w (core_item k segments input firsts_in h same came))
      (λ k. sym (bag_any (λ s. same_keys k (behind s)) (flat_map (phase_rows columns calls kinds) segments) firsts_in came) ∙ (keys_any k segments ∙ bag_any (λ r. same_keys k (key r)) (concat segments) input same))
