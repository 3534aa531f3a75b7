-- Each kind of operator owes what it has to.
use Rattle.std.proofs.Common.{ℕ, zero, suc, ◌+◌, ◌-◌, ◌≤◌, ◌≡◌, inl, inr, refl, sym, ap, ◌∙◌, subst, eqb, leb, cond, List, [], ◌∷◌, ◌++◌, length, take, drop, Bool, true, false, ◌&&◌, ◌||◌, Option, Some, None, arith, append_assoc}
use Rattle.std.specs.List.{flat_map}
use Rattle.std.proofs.lemmas.Bool.{eqb-true}
use Rattle.std.proofs.lemmas.Bool.Decides.{leb_tells}
use Rattle.std.proofs.lemmas.Grind.{flat_map-append}
use Rattle.std.proofs.lemmas.List.{append-nil, drop-append-le, take-append-le, length-drop}
use Rattle.std.proofs.Math.Seq.{drop-append_seam}
use Rattle.logical_plan.specs.Items.{Cells, Item, of_rows, concat}
use Rattle.tree_laws.specs.Operators.{Told, IsSplit, IsFront, ReadsAll, IsOp}
use Rattle.tree_laws.specs.OperatorKinds.{each_op, end_op, closed_items, segment_op, cut, has_cut, limit_op, join_op}
use Rattle.tree_laws.proofs.Fronts.{of_rows-append, of_rows_long, front_refl, front_both, front_append}

pub rows_front : (xs ys : List Cells) → IsFront (of_rows xs) (of_rows (xs ++ ys))
rows_front xs ys = (of_rows ys, sym (of_rows-append xs ys))

each_front : (f : Item → List Item) (xs ys : List Item) → IsFront xs ys → IsFront (flat_map f xs) (flat_map f ys)
each_front f xs ys k = (flat_map f k.0, sym (flat_map-append f xs k.0) ∙ ap (flat_map f) k.1)

-- nothing is there until the flag is set
until : (b : Bool) (c xs ys : List Item) → b ≡ false → IsFront (c ++ cond b xs []) (c ++ ys)
until true c xs ys e = cc
until false c xs ys e = (ys, ap (λ l. l ++ ys) (append-nil c))

-- and where it is set, all is
when : (b : Bool) (c xs ys : List Item) → (b ≡ true → xs ≡ ys) → IsFront (c ++ cond b xs []) (c ++ ys)
when true c xs ys e = ([], append-nil (c ++ xs) ∙ ap (λ l. c ++ l) (e refl))
when false c xs ys e = (ys, ap (λ l. l ++ ys) (append-nil c))

set : (b : Bool) (xs : List Item) → b ≡ true → cond b xs [] ≡ xs
set true xs e = refl
set false xs e = cc

-- ------------------------------------------------------------ one item after the other

pub each_is : (f : Item → List Item) → IsOp (each_op f)
each_is f = record {
  grows = λ t rows s c. each_front f (of_rows (t.taken 0)) (of_rows (t.taken 0 ++ rows)) (rows_front (t.taken 0) rows);
  grows_end = λ t s c. front_refl (flat_map f (of_rows (t.taken 0)));
  grows_flush = λ t s c. front_refl (flat_map f (of_rows (t.taken 0)));
  wants = λ t s c. c;
  same_side = λ t s. refl;
  front = λ t inputs s r. each_front f (of_rows (t.taken 0)) (inputs 0) (r 0).front;
  all = λ t inputs s r c. ap (flat_map f) ((r 0).all c);
}

-- ------------------------------------------------------------ all items at the end

pub end_is : (f : List Item → List Item) (amount : Told → List Cells → ℕ) (consumer : Option ℕ) → IsOp (end_op f amount consumer)
end_is f amount consumer = record {
  grows = λ t rows s c. until (t.ended 0) [] (f (of_rows (t.taken 0))) _ c;
  grows_end = λ t s c. until (t.ended 0) [] (f (of_rows (t.taken 0))) _ c;
  grows_flush = λ t s c. until (t.ended 0) [] (f (of_rows (t.taken 0))) _ c;
  wants = λ t s c. c;
  same_side = λ t s. refl;
  front = λ t inputs s r. when (t.ended 0) [] (f (of_rows (t.taken 0))) (f (inputs 0)) (λ e. ap f ((r 0).all e));
  all = λ t inputs s r c. set (t.ended 0) (f (of_rows (t.taken 0))) c ∙ ap f ((r 0).all c);
}

-- ------------------------------------------------------------ segments

closed_more : (f : List Item → List Item) (segments : List (List Cells)) (rows : List Cells) → closed_items f (segments ++ rows ∷ []) ≡ closed_items f segments ++ f (of_rows rows)
closed_more f [] rows = append-nil (f (of_rows rows))
closed_more f (x ∷ segments) rows = ap (λ l. f (of_rows x) ++ l) (closed_more f segments rows) ∙ sym (append_assoc (f (of_rows x)) (closed_items f segments) (f (of_rows rows)))

-- what came since is what is left of the input after the segments
since_is : (t : Told) (input : List Item) → IsSplit t → of_rows (t.taken 0) ≡ input → of_rows t.since ≡ drop (length (concat t.closed)) input
since_is t input s e = subst (λ l. of_rows t.since ≡ drop (length (concat t.closed)) l) e (subst (λ l. of_rows t.since ≡ drop (length (concat t.closed)) (of_rows l)) s
    (sym (ap (drop (length (concat t.closed))) (of_rows-append (concat t.closed) t.since) ∙ (ap (λ n. drop n (of_rows (concat t.closed) ++ of_rows t.since)) (sym (of_rows_long (concat t.closed))) ∙ drop-append_seam (of_rows (concat t.closed)) (of_rows t.since)))))

pub segment_is : (f : List Item → List Item) (amount : Told → List Cells → ℕ) (consumer : Option ℕ) → IsOp (segment_op f amount consumer)
segment_is f amount consumer = record {
  grows = λ t rows s c. until (t.ended 0) (closed_items f t.closed) (f (of_rows t.since)) _ c;
  grows_end = λ t s c. until (t.ended 0) (closed_items f t.closed) (f (of_rows t.since)) _ c;
  grows_flush = λ t s c. subst (IsFront (closed_items f t.closed ++ cond (t.ended 0) (f (of_rows t.since)) []))
      (sym (append_assoc (closed_items f t.closed) (f (of_rows t.since)) (cond (t.ended 0) (f (of_rows [])) [])) ∙ ap (λ l. l ++ cond (t.ended 0) (f (of_rows [])) []) (sym (closed_more f t.closed t.since)))
      (until (t.ended 0) (closed_items f t.closed) (f (of_rows t.since)) (f (of_rows t.since) ++ cond (t.ended 0) (f (of_rows [])) []) c);
  wants = λ t s c. c;
  same_side = λ t s. refl;
  front = λ t inputs s r. when (t.ended 0) (closed_items f t.closed) (f (of_rows t.since)) (f (drop (length (concat t.closed)) (inputs 0))) (λ e. ap f (since_is t (inputs 0) s ((r 0).all e)));
  all = λ t inputs s r c. ap (λ l. closed_items f t.closed ++ l) (set (t.ended 0) (f (of_rows t.since)) c ∙ ap f (since_is t (inputs 0) s ((r 0).all c)));
}

-- ------------------------------------------------------------ a limit

take_front : {A : Type 0} (n : ℕ) (xs ys : List A) → IsFront xs ys → IsFront (take n xs) (take n ys)
take_front {A} n xs ys k = subst (λ l. IsFront (take n xs) (take n l)) k.1 (go n xs k.0)
  where
    go : (n : ℕ) (xs rest : List A) → IsFront (take n xs) (take n (xs ++ rest))
    go zero xs rest = ([], refl)
    go (suc n) [] rest = (take (suc n) rest, refl)
    go (suc n) (x ∷ xs) rest = (let r = go n xs rest in (r.0, ap (λ l. x ∷ l) r.1))

pub drop_front : {A : Type 0} (n : ℕ) (xs ys : List A) → IsFront xs ys → IsFront (drop n xs) (drop n ys)
drop_front {A} n xs ys k = subst (λ l. IsFront (drop n xs) (drop n l)) k.1 (go n xs k.0)
  where
    go : (n : ℕ) (xs rest : List A) → IsFront (drop n xs) (drop n (xs ++ rest))
    go zero xs rest = (rest, refl)
    go (suc n) [] rest = (drop (suc n) rest, refl)
    go (suc n) (x ∷ xs) rest = go n xs rest

-- where enough stands in front, the rest isn't looked at
cut_same : {A : Type 0} (skip fetch : ℕ) (xs rest : List A) → skip + fetch ≤ length xs → take fetch (drop skip xs) ≡ take fetch (drop skip (xs ++ rest))
cut_same skip fetch xs rest h = sym (ap (take fetch) (drop-append-le skip xs rest (omega arith)) ∙ take-append-le fetch (drop skip xs) rest (let e : length (drop skip xs) ≡ length xs - skip = length-drop skip xs in omega arith))

cut_front : (skip : ℕ) (fetch : Option ℕ) (xs ys : List Item) → IsFront xs ys → IsFront (cut skip fetch xs) (cut skip fetch ys)
cut_front skip None xs ys k = drop_front skip xs ys k
cut_front skip (Some fetch) xs ys k = take_front fetch (drop skip xs) (drop skip ys) (drop_front skip xs ys k)

cut_all : (skip : ℕ) (fetch : Option ℕ) (rows : List Cells) (items : List Item) → has_cut skip fetch rows ≡ true → IsFront (of_rows rows) items → cut skip fetch (of_rows rows) ≡ cut skip fetch items
cut_all skip None rows items h k = cc
cut_all skip (Some fetch) rows items h k = go (eqb fetch 0) refl h
  where
    none : {A : Type 0} (n : ℕ) (xs ys : List A) → n ≡ 0 → take n xs ≡ take n ys
    none zero xs ys e = refl
    none (suc n) xs ys e = absurd (omega arith)

    go : (b : Bool) → eqb fetch 0 ≡ b → b || leb (skip + fetch) (length rows) ≡ true → take fetch (drop skip (of_rows rows)) ≡ take fetch (drop skip items)
    go true e z = none fetch (drop skip (of_rows rows)) (drop skip items) (eqb-true fetch 0 e)
    go false e z = elim (leb_tells (skip + fetch) (length rows)) [
      | inl w ↦ subst (λ l. take fetch (drop skip (of_rows rows)) ≡ take fetch (drop skip l)) k.1 (cut_same skip fetch (of_rows rows) k.0 (let l : length (of_rows rows) ≡ length rows = of_rows_long rows in let v : skip + fetch ≤ length rows = w.1 in omega arith))
      | inr w ↦ (let y : true ≡ false = sym z ∙ w.0 in cc)
    ]

limit_ended : (a b : Bool) → a || b ≡ false → a ≡ false
limit_ended true b e = cc
limit_ended false b e = refl

pub limit_is : (skip : ℕ) (fetch : Option ℕ) → IsOp (limit_op skip fetch)
limit_is skip fetch = record {
  grows = λ t rows s c. cut_front skip fetch (of_rows (t.taken 0)) (of_rows (t.taken 0 ++ rows)) (rows_front (t.taken 0) rows);
  grows_end = λ t s c. front_refl (cut skip fetch (of_rows (t.taken 0)));
  grows_flush = λ t s c. front_refl (cut skip fetch (of_rows (t.taken 0)));
  wants = λ t s c. limit_ended (t.ended 0) (has_cut skip fetch (t.taken 0)) c;
  same_side = λ t s. refl;
  front = λ t inputs s r. cut_front skip fetch (of_rows (t.taken 0)) (inputs 0) (r 0).front;
  all = λ t inputs s r c. whole t inputs r (t.ended 0) refl c;
}
  where
    whole : (t : Told) (inputs : ℕ → List Item) → ReadsAll t inputs → (b : Bool) → t.ended 0 ≡ b → b || has_cut skip fetch (t.taken 0) ≡ true → cut skip fetch (of_rows (t.taken 0)) ≡ cut skip fetch (inputs 0)
    whole t inputs r true e c = ap (cut skip fetch) ((r 0).all e)
    whole t inputs r false e c = cut_all skip fetch (t.taken 0) (inputs 0) c (r 0).front

-- ------------------------------------------------------------ a join

module _ (probe : List Item → Item → List Item) (last : List Item → List Item → List Item) where
  -- the items by what has ended
  given : Bool → Bool → List Item → List Item → List Item
  given a b l r = cond a (flat_map (probe l) r ++ cond b (last l r) []) []

  given_rows : (a b : Bool) (left right rows : List Cells) → a && b ≡ false
      → IsFront (given a b (of_rows left) (of_rows right)) (given a b (of_rows (cond (eqb 0 (cond a 1 0)) (left ++ rows) left)) (of_rows (cond (eqb 1 (cond a 1 0)) (right ++ rows) right)))
  unfolding given
  given_rows true true left right rows c = cc
  given_rows true false left right rows c = (let k = each_front (probe (of_rows left)) (of_rows right) (of_rows (right ++ rows)) (rows_front right rows) in
      subst (λ l. IsFront l (flat_map (probe (of_rows left)) (of_rows (right ++ rows)) ++ [])) (sym (append-nil (flat_map (probe (of_rows left)) (of_rows right))))
      (subst (λ l. IsFront (flat_map (probe (of_rows left)) (of_rows right)) l) (sym (append-nil (flat_map (probe (of_rows left)) (of_rows (right ++ rows))))) k))
  given_rows false b left right rows c = ([], refl)

  given_end : (a b : Bool) (l r : List Item) → a && b ≡ false → IsFront (given a b l r) (given (cond (eqb 0 (cond a 1 0)) true a) (cond (eqb 1 (cond a 1 0)) true b) l r)
  unfolding given
  given_end true true l r c = cc
  given_end true false l r c = until false (flat_map (probe l) r) (last l r) (last l r) refl
  given_end false b l r c = (_, refl)

  given_front : (a b : Bool) (l r l2 r2 : List Item) → (a ≡ true → l ≡ l2) → (b ≡ true → r ≡ r2) → IsFront r r2 → IsFront (given a b l r) (flat_map (probe l2) r2 ++ last l2 r2)
  unfolding given
  given_front false b l r l2 r2 x y k = (_, refl)
  given_front true true l r l2 r2 x y k = ([], append-nil (flat_map (probe l) r ++ last l r) ∙ (ap (λ z. flat_map (probe z) r ++ last z r) (x refl) ∙ ap (λ z. flat_map (probe l2) z ++ last l2 z) (y refl)))
  given_front true false l r l2 r2 x y k = subst (λ z. IsFront z (flat_map (probe l2) r2 ++ last l2 r2)) (sym (append-nil (flat_map (probe l) r) ∙ ap (λ z. flat_map (probe z) r) (x refl)))
      (front_both (flat_map (probe l2) r) (flat_map (probe l2) r2) (flat_map (probe l2) r2 ++ last l2 r2) (each_front (probe l2) r r2 k) (front_append (flat_map (probe l2) r2) (last l2 r2)))

  given_all : (a b : Bool) (l r l2 r2 : List Item) → a && b ≡ true → (a ≡ true → l ≡ l2) → (b ≡ true → r ≡ r2) → given a b l r ≡ flat_map (probe l2) r2 ++ last l2 r2
  unfolding given
  given_all true true l r l2 r2 c x y = ap (λ z. flat_map (probe z) r ++ last z r) (x refl) ∙ ap (λ z. flat_map (probe l2) z ++ last l2 z) (y refl)
  given_all true false l r l2 r2 c x y = cc
  given_all false b l r l2 r2 c x y = cc

  goes_on : (a b : Bool) (t : Told) → t.ended 0 ≡ a → t.ended 1 ≡ b → a && b ≡ false → t.ended (cond a 1 0) ≡ false
  goes_on true b t x y c = y ∙ c
  goes_on false b t x y c = x

  pub join_is : (amount : Told → List Cells → ℕ) (consumer : Option ℕ) → IsOp (join_op probe last amount consumer)
  unfolding given
  join_is amount consumer = record {
    grows = λ t rows s c. given_rows (t.ended 0) (t.ended 1) (t.taken 0) (t.taken 1) rows c;
    grows_end = λ t s c. given_end (t.ended 0) (t.ended 1) (of_rows (t.taken 0)) (of_rows (t.taken 1)) c;
    grows_flush = λ t s c. front_refl (given (t.ended 0) (t.ended 1) (of_rows (t.taken 0)) (of_rows (t.taken 1)));
    wants = λ t s c. goes_on (t.ended 0) (t.ended 1) t refl refl c;
    same_side = λ t s. refl;
    front = λ t inputs s r. given_front (t.ended 0) (t.ended 1) (of_rows (t.taken 0)) (of_rows (t.taken 1)) (inputs 0) (inputs 1) (r 0).all (r 1).all (r 1).front;
    all = λ t inputs s r c. given_all (t.ended 0) (t.ended 1) (of_rows (t.taken 0)) (of_rows (t.taken 1)) (inputs 0) (inputs 1) c (r 0).all (r 1).all;
  }
