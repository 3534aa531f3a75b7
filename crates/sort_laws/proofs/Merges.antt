-- Merges of items: their bag, their rows, and the order of both.
use Rattle.std.proofs.Common.{ℕ, zero, suc, ◌+◌, ◌<◌, ◌≤◌, ◌≡◌, ◌⊎◌, inl, inr, refl, sym, ap, ◌∙◌, subst, eqb, cond, List, [], ◌∷◌, length, drop, Bool, true, false, Ok, Err, arith}
use Rattle.std.specs.List.{sum_by}
use Rattle.std.specs.Cmp.{IsStrictWeakOrder}
use Rattle.std.proofs.lemmas.Bool.{true≢false, cases_eq}
use Rattle.std.proofs.lemmas.Bool.Decides.{eqb_tells}
use Rattle.std.proofs.lemmas.List.{length-append}
use Rattle.std.proofs.lemmas.List.Sums.{sum_by-cons}
use Rattle.dfx_value.specs.declared.rows.SortKey.{SortKey}
use Rattle.logical_plan.specs.Items.{Item}
use Rattle.tree_laws.specs.OperatorKinds.{Pick, Unknown, Nobody, Takes, pick_with, pick, without_front, merged_by, merged, lengths, merge}
use Rattle.content_laws.specs.Bags.{SameBag, together}
use Rattle.sort_laws.specs.Sorting.{sorted, item_before}
use Rattle.sort_laws.proofs.Sorts.{Ascends, below}
use Rattle.sort_laws.proofs.Rows.{row_order}
use Rattle.sort_laws.proofs.Splits.{together_none, IsTaken, taken_weighs, IsFirst, first_sorts, Starts, starts_behind, starts_after}

-- ---- the order of items

pub item_order : (keys : List SortKey) → IsStrictWeakOrder (item_before keys)
item_order keys = record { one_way = one_way; chain = chain }
  where
    one_way : (x y : Item) → item_before keys x y ≡ true → item_before keys y x ≡ false
    one_way (Err f) (Err g) e = refl
    one_way (Err f) (Ok s) e = refl
    one_way (Ok r) (Err g) e = absurd (true≢false (sym e))
    one_way (Ok r) (Ok s) e = (row_order keys).one_way r s e

    chain : (x y z : Item) → item_before keys x y ≡ false → item_before keys y z ≡ false → item_before keys x z ≡ false
    chain (Err f) (Err g) (Err h) a b = refl
    chain (Err f) (Err g) (Ok t) a b = b
    chain (Err f) (Ok s) z a b = absurd (true≢false a)
    chain (Ok r) (Err g) (Err h) a b = refl
    chain (Ok r) (Err g) (Ok t) a b = absurd (true≢false b)
    chain (Ok r) (Ok s) (Err h) a b = refl
    chain (Ok r) (Ok s) (Ok t) a b = (row_order keys).chain r s t a b

-- ---- what is picked

module _ (before : Item → Item → Bool) (order : IsStrictWeakOrder before) where
  -- input i has x in front: those of earlier inputs come after it, and none comes before it
  pub record Picks (n : ℕ) (inputs : ℕ → List Item) (i : ℕ) (x : Item) : Type 0 where
    pub within : i < n
    pub here : inputs i ≡ x ∷ drop 1 (inputs i)
    pub earlier : (j : ℕ) → j < i → Starts before order (λ y. before x y ≡ true) (inputs j)
    pub least : (j : ℕ) → j < n → Starts before order (λ y. before y x ≡ false) (inputs j)

  abbrev pub Picked : ℕ → (ℕ → List Item) → Pick → Type 0
  Picked n inputs Unknown = ⊥
  Picked n inputs Nobody = (j : ℕ) → j < n → inputs j ≡ []
  Picked n inputs (Takes i x) = Picks n inputs i x

  starts_map : (P Q : Item → Type 0) → ((y : Item) → P y → Q y) → (xs : List Item) → Starts before order P xs → Starts before order Q xs
  starts_map P Q f [] s = tt
  starts_map P Q f (x ∷ xs) s = f x s

  starts_none : (P : Item → Type 0) (xs : List Item) → xs ≡ [] → Starts before order P xs
  starts_none P xs e = subst (Starts before order P) (sym e) tt

  starts_at : (P : Item → Type 0) (x : Item) (xs ys : List Item) → ys ≡ x ∷ xs → P x → Starts before order P ys
  starts_at P x xs ys e p = subst (Starts before order P) (sym e) p

  irreflexive : (x : Item) → before x x ≡ false
  irreflexive x = by (before x x) refl
    where
      by : (b : Bool) → before x x ≡ b → b ≡ false
      by true e = sym e ∙ order.one_way x x e
      by false e = refl

  -- z isn't before y, and x is: z isn't before x
  beyond : (x y z : Item) → before x y ≡ true → before z y ≡ false → before z x ≡ false
  beyond x y z a b = order.one_way x z (below before order x y z a b)

  below_or_at : (P : ℕ → Type 0) (n : ℕ) → ((j : ℕ) → j < n → P j) → P n → (j : ℕ) → j < suc n → P j
  below_or_at P n f p j h = by (cases_eq j n)
    where
      by : (j ≡ n) ⊎ (j ≡ n → ⊥) → P j
      by (inl e) = subst P (sym e) p
      by (inr e) = f j (omega (arith, h, e))

  picked_with : (n : ℕ) (inputs : ℕ → List Item) (p : Pick) (l : List Item) → inputs n ≡ l → Picked n inputs p → Picked (suc n) inputs (pick_with before n p l true)
  picked_with n inputs Unknown l e h = absurd h
  picked_with n inputs Nobody [] e h = below_or_at (λ j. inputs j ≡ []) n h e
  picked_with n inputs Nobody (x ∷ xs) e h = record {
    within = omega arith;
    here = e ∙ ap (λ l. x ∷ drop 1 l) (sym e);
    earlier = λ j k. starts_none (λ y. before x y ≡ true) (inputs j) (h j k);
    least = below_or_at (λ j. Starts before order (λ y. before y x ≡ false) (inputs j)) n (λ j k. starts_none (λ y. before y x ≡ false) (inputs j) (h j k)) (starts_at (λ y. before y x ≡ false) x xs (inputs n) e (irreflexive x));
  }
  picked_with n inputs (Takes i y) [] e h = record {
    within = (let w : i < n = h.within in omega arith);
    here = h.here;
    earlier = h.earlier;
    least = below_or_at (λ j. Starts before order (λ z. before z y ≡ false) (inputs j)) n h.least (starts_none (λ z. before z y ≡ false) (inputs n) e);
  }
  picked_with n inputs (Takes i y) (x ∷ xs) e h = by (before x y) refl
    where
      by : (b : Bool) → before x y ≡ b → Picked (suc n) inputs (cond b (Takes n x) (Takes i y))
      by true q = record {
        within = omega arith;
        here = e ∙ ap (λ l. x ∷ drop 1 l) (sym e);
        earlier = λ j k. starts_map (λ z. before z y ≡ false) (λ z. before x z ≡ true) (λ z a. below before order x y z q a) (inputs j) (h.least j k);
        least = below_or_at (λ j. Starts before order (λ z. before z x ≡ false) (inputs j)) n
            (λ j k. starts_map (λ z. before z y ≡ false) (λ z. before z x ≡ false) (λ z a. beyond x y z q a) (inputs j) (h.least j k))
            (starts_at (λ z. before z x ≡ false) x xs (inputs n) e (irreflexive x));
      }
      by false q = record {
        within = (let w : i < n = h.within in omega arith);
        here = h.here;
        earlier = h.earlier;
        least = below_or_at (λ j. Starts before order (λ z. before z y ≡ false) (inputs j)) n h.least (starts_at (λ z. before z y ≡ false) x xs (inputs n) e q);
      }

  pub picked : (n : ℕ) (inputs : ℕ → List Item) → Picked n inputs (pick before n inputs (λ _. true))
  picked zero inputs = λ j h. absurd (omega (arith, h))
  picked (suc n) inputs = picked_with n inputs (pick before n inputs (λ _. true)) (inputs n) refl (picked n inputs)

  -- ---- one front taken

  pub front_taken : (n : ℕ) (inputs : ℕ → List Item) (i : ℕ) (x : Item) → Picks n inputs i x → IsTaken n i x inputs (without_front inputs i)
  front_taken n inputs i x p = record { within = p.within; here = here (eqb_tells i i); others = λ j h q. others j q (eqb_tells j i) }
    where
      here : ((eqb i i ≡ true) × (i ≡ i)) ⊎ ((eqb i i ≡ false) × (i ≡ i → ⊥)) → inputs i ≡ x ∷ without_front inputs i i
      here (inl t) = p.here ∙ ap (λ b. x ∷ cond b (drop 1 (inputs i)) (inputs i)) (sym t.0)
      here (inr t) = absurd (t.1 refl)

      others : (j : ℕ) → (j ≡ i → ⊥) → ((eqb j i ≡ true) × (j ≡ i)) ⊎ ((eqb j i ≡ false) × (j ≡ i → ⊥)) → without_front inputs i j ≡ inputs j
      others j q (inl t) = absurd (q t.1)
      others j q (inr t) = ap (λ b. cond b (drop 1 (inputs j)) (inputs j)) t.0

  lengths_are : (n : ℕ) (inputs : ℕ → List Item) → lengths n inputs ≡ length (together n inputs)
  lengths_are zero inputs = refl
  lengths_are (suc n) inputs = ap (λ m. m + length (inputs n)) (lengths_are n inputs) ∙ sym (length-append (together n inputs) (inputs n))

  ones : (xs : List Item) → sum_by (λ _. 1) xs ≡ length xs
  ones [] = refl
  ones (x ∷ xs) = let a : sum_by (λ _. 1) (x ∷ xs) ≡ 1 + sum_by (λ _. 1) xs = sum_by-cons (λ _. 1) x xs in let b : sum_by (λ _. 1) xs ≡ length xs = ones xs in omega arith

  pub fewer : (n m : ℕ) (inputs : ℕ → List Item) (i : ℕ) (x : Item) → Picks n inputs i x → lengths n inputs ≤ suc m → lengths n (without_front inputs i) ≤ m
  fewer n m inputs i x p h =
      let a : sum_by (λ _. 1) (together n inputs) ≡ 1 + sum_by (λ _. 1) (together n (without_front inputs i)) = taken_weighs (λ _. 1) n i x inputs (without_front inputs i) (front_taken n inputs i x p) in
      let b : sum_by (λ _. 1) (together n inputs) ≡ length (together n inputs) = ones (together n inputs) in
      let c : sum_by (λ _. 1) (together n (without_front inputs i)) ≡ length (together n (without_front inputs i)) = ones (together n (without_front inputs i)) in
      let d : lengths n inputs ≡ length (together n inputs) = lengths_are n inputs in
      let e : lengths n (without_front inputs i) ≡ length (together n (without_front inputs i)) = lengths_are n (without_front inputs i) in
      omega (arith, h)

  -- ---- induction over a merge: what holds of the inputs as fronts are taken

  module _ (P : (ℕ → List Item) → List Item → Type 0) (n : ℕ)
      (done : (inputs : ℕ → List Item) → ((j : ℕ) → j < n → inputs j ≡ []) → P inputs [])
      (step : (inputs : ℕ → List Item) (i : ℕ) (x : Item) (given : List Item) → Picks n inputs i x → P (without_front inputs i) given → P inputs (x ∷ given)) where
    each_none : (inputs : ℕ → List Item) → lengths n inputs ≤ 0 → (j : ℕ) → j < n → inputs j ≡ []
    each_none inputs h j k = go n h k
      where
        nil : (xs : List Item) → length xs ≤ 0 → xs ≡ []
        nil [] h = refl
        nil (x ∷ xs) h = absurd (omega (arith, h))

        go : (m : ℕ) → lengths m inputs ≤ 0 → j < m → inputs j ≡ []
        go zero h k = absurd (omega (arith, k))
        go (suc m) h k = at (cases_eq j m) (go m)
          where
            at : (j ≡ m) ⊎ (j ≡ m → ⊥) → (lengths m inputs ≤ 0 → j < m → inputs j ≡ []) → inputs j ≡ []
            at (inl e) more = nil (inputs j) (let q : length (inputs j) ≡ length (inputs m) = ap (λ a. length (inputs a)) e in omega (arith, h, q))
            at (inr e) more = more (omega (arith, h)) (omega (arith, k, e))

    by_fronts : (m : ℕ) (inputs : ℕ → List Item) → lengths n inputs ≤ m → P inputs (merged before n m inputs (λ _. true)).given
    by_fronts zero inputs h = done inputs (each_none inputs h)
    by_fronts (suc m) inputs h = go (pick before n inputs (λ _. true)) (picked n inputs) (λ i x p. by_fronts m (without_front inputs i) (fewer n m inputs i x p h))
      where
        go : (p : Pick) → Picked n inputs p → ((i : ℕ) (x : Item) → Picks n inputs i x → P (without_front inputs i) (merged before n m (without_front inputs i) (λ _. true)).given)
            → P inputs (merged_by p inputs (λ i. merged before n m (without_front inputs i) (λ _. true))).given
        go Unknown k rec = absurd k
        go Nobody k rec = done inputs k
        go (Takes i x) k rec = step inputs i x (merged before n m (without_front inputs i) (λ _. true)).given k (rec i x k)

    pub merge_by : (inputs : ℕ → List Item) → P inputs (merge before n inputs (λ _. true)).given
    merge_by inputs = by_fronts (lengths n inputs) inputs (omega arith)

  -- ---- the bag

  pub merge_bag : (n : ℕ) (inputs : ℕ → List Item) → SameBag (merge before n inputs (λ _. true)).given (together n inputs)
  merge_bag n inputs = λ w. merge_by (λ F given. sum_by w given ≡ sum_by w (together n F)) n
      (λ F e. ap (sum_by w) (sym (together_none n F e)))
      (λ F i x given p ih. sum_by-cons w x given ∙ (ap (λ m. w x + m) ih ∙ sym (taken_weighs w n i x F (without_front F i) (front_taken n F i x p))))
      inputs

  -- ---- inputs that ascend

  ascends_drop : (xs : List Item) → Ascends before xs → Ascends before (drop 1 xs)
  ascends_drop [] a = tt
  ascends_drop (x ∷ xs) a = a.1

  all_dropped : (n : ℕ) (inputs : ℕ → List Item) (i : ℕ) → ((j : ℕ) → j < n → Ascends before (inputs j)) → (j : ℕ) → j < n → Ascends before (without_front inputs i j)
  all_dropped n inputs i a j h = by (eqb j i)
    where
      by : (b : Bool) → Ascends before (cond b (drop 1 (inputs j)) (inputs j))
      by true = ascends_drop (inputs j) (a j h)
      by false = a j h

  pub picks_first : (n : ℕ) (inputs : ℕ → List Item) (i : ℕ) (x : Item) → ((j : ℕ) → j < n → Ascends before (inputs j)) → Picks n inputs i x → IsFirst before n i x inputs (without_front inputs i)
  picks_first n inputs i x a p =
      let t = front_taken n inputs i x p in
      record {
        taken = t;
        earlier = λ j h. starts_behind before order x (inputs j) (a j (let w : i < n = p.within in omega (arith, h))) (p.earlier j h);
        later = λ j h k. starts_after before order x (inputs j) (a j k) (p.least j k);
        rest = (subst (Ascends before) t.here (a i p.within)).0;
      }

  pub merge_sorts : (n : ℕ) (inputs : ℕ → List Item) → ((j : ℕ) → j < n → Ascends before (inputs j)) → (merge before n inputs (λ _. true)).given ≡ sorted before (together n inputs)
  merge_sorts n inputs a = merge_by (λ F given. ((j : ℕ) → j < n → Ascends before (F j)) → given ≡ sorted before (together n F)) n
      (λ F e a. ap (sorted before) (sym (together_none n F e)))
      (λ F i x given p ih a. ap (λ l. x ∷ l) (ih (all_dropped n F i a)) ∙ sym (first_sorts before n i x F (without_front F i) (picks_first n F i x a p)))
      inputs a
