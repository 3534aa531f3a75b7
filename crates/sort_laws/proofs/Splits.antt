-- Lists of lists put one after the other, with one element taken off the front of one of them.
use Rattle.std.proofs.Common.{ℕ, zero, suc, ◌+◌, ◌<◌, ◌≡◌, ◌⊎◌, inl, inr, refl, sym, ap, ◌∙◌, subst, List, [], ◌∷◌, ◌++◌, length, Bool, true, false, not, arith, append_assoc}
use Rattle.std.specs.Prelude.{slice_index_or}
use Rattle.std.specs.List.{sum_by, list_any}
use Rattle.std.proofs.lemmas.Bool.{or_parts, or_from, cases_eq}
use Rattle.std.proofs.lemmas.List.{append-nil}
use Rattle.std.proofs.lemmas.List.Folds.{list_any-append}
use Rattle.std.proofs.lemmas.List.Sums.{sum_by-cons, sum_by-append}
use Rattle.std.specs.Cmp.{IsStrictWeakOrder}
use Rattle.logical_plan.specs.Items.{concat}
use Rattle.content_laws.specs.Bags.{together}
use Rattle.sort_laws.specs.Sorting.{sorted}
use Rattle.sort_laws.proofs.Sorts.{Ascends, below, first_of_sort}

pub together_same : {A : Type 0} (n : ℕ) (F G : ℕ → List A) → ((i : ℕ) → i < n → F i ≡ G i) → together n F ≡ together n G
together_same zero F G e = refl
together_same (suc n) F G e = (λ i. together_same n F G (λ j h. e j (omega (arith, h))) i ++ e n (omega arith) i)

pub together_none : {A : Type 0} (n : ℕ) (F : ℕ → List A) → ((i : ℕ) → i < n → F i ≡ []) → together n F ≡ []
together_none zero F e = refl
together_none (suc n) F e = (λ i. together_none n F (λ j h. e j (omega (arith, h))) i ++ e n (omega arith) i)

together_any : {A : Type 0} (p : A → Bool) (n : ℕ) (F : ℕ → List A) → ((i : ℕ) → i < n → list_any p (F i) ≡ false) → list_any p (together n F) ≡ false
together_any p zero F e = refl
together_any p (suc n) F e = list_any-append p (together n F) (F n) ∙ or_from _ _ (together_any p n F (λ j h. e j (omega (arith, h)))) (e n (omega arith))

-- after: the lists once x is taken off the front of list i
pub record IsTaken {A : Type 0} (n i : ℕ) (x : A) (F G : ℕ → List A) : Type 0 where
  pub within : i < n
  pub here : F i ≡ x ∷ G i
  pub others : (j : ℕ) → j < n → (j ≡ i → ⊥) → G j ≡ F j

pub taken_weighs : {A : Type 0} (w : A → ℕ) (n i : ℕ) (x : A) (F G : ℕ → List A) → IsTaken n i x F G → sum_by w (together n F) ≡ w x + sum_by w (together n G)
taken_weighs w zero i x F G t = absurd (let l : i < 0 = t.within in omega arith)
taken_weighs w (suc n) i x F G t = by (cases_eq i n) (taken_weighs w n i x F G)
  where
    by : (i ≡ n) ⊎ (i ≡ n → ⊥) → (IsTaken n i x F G → sum_by w (together n F) ≡ w x + sum_by w (together n G)) → sum_by w (together n F ++ F n) ≡ w x + sum_by w (together n G ++ G n)
    by (inl e) more =
        let same : together n G ≡ together n F = together_same n G F (λ j h. t.others j (omega (arith, h)) (λ q. omega (arith, h, q, e))) in
        let here : F n ≡ x ∷ G n = subst (λ k. F k ≡ x ∷ G k) e t.here in
        let a : sum_by w (together n F ++ F n) ≡ sum_by w (together n F) + sum_by w (F n) = sum_by-append w (together n F) (F n) in
        let b : sum_by w (F n) ≡ w x + sum_by w (G n) = ap (sum_by w) here ∙ sum_by-cons w x (G n) in
        let c : sum_by w (together n G ++ G n) ≡ sum_by w (together n G) + sum_by w (G n) = sum_by-append w (together n G) (G n) in
        let d : sum_by w (together n G) ≡ sum_by w (together n F) = ap (sum_by w) same in
        omega arith
    by (inr e) more =
        let l : i < n = (let m : i < suc n = t.within in omega (arith, m, e)) in
        let r = more (record { within = l; here = t.here; others = λ j h q. t.others j (omega (arith, h)) q }) in
        let a : sum_by w (together n F ++ F n) ≡ sum_by w (together n F) + sum_by w (F n) = sum_by-append w (together n F) (F n) in
        let b : sum_by w (F n) ≡ sum_by w (G n) = ap (sum_by w) (sym (t.others n (omega arith) (λ q. e (sym q)))) in
        let c : sum_by w (together n G ++ G n) ≡ sum_by w (together n G) + sum_by w (G n) = sum_by-append w (together n G) (G n) in
        let d : sum_by w (together n F) ≡ w x + sum_by w (together n G) = r in
        omega arith

-- ---- an element that comes first of all

module _ {A : Type 0} (lt : A → A → Bool) where
  pub record IsSplit (x : A) (whole left : List A) : Type 0 where
    pub front : List A
    pub back : List A
    pub whole_is : whole ≡ front ++ x ∷ back
    pub left_is : left ≡ front ++ back
    pub before : list_any (λ z. not (lt x z)) front ≡ false
    pub behind : list_any (λ z. lt z x) back ≡ false

  pub split_sorts : (x : A) (whole left : List A) → IsSplit x whole left → sorted lt whole ≡ x ∷ sorted lt left
  split_sorts x whole left s = ap (sorted lt) s.whole_is ∙ (first_of_sort lt x s.front s.back s.before s.behind ∙ ap (λ l. x ∷ sorted lt l) (sym s.left_is))

  pub record IsFirst (n i : ℕ) (x : A) (F G : ℕ → List A) : Type 0 where
    pub taken : IsTaken n i x F G
    pub earlier : (j : ℕ) → j < i → list_any (λ z. not (lt x z)) (F j) ≡ false
    pub later : (j : ℕ) → i < j → j < n → list_any (λ z. lt z x) (F j) ≡ false
    pub rest : list_any (λ z. lt z x) (G i) ≡ false

  pub first_splits : (n i : ℕ) (x : A) (F G : ℕ → List A) → IsFirst n i x F G → IsSplit x (together n F) (together n G)
  first_splits zero i x F G f = absurd (let l : i < 0 = f.taken.within in omega arith)
  first_splits (suc n) i x F G f = by (cases_eq i n) (first_splits n i x F G)
    where
      by : (i ≡ n) ⊎ (i ≡ n → ⊥) → (IsFirst n i x F G → IsSplit x (together n F) (together n G)) → IsSplit x (together n F ++ F n) (together n G ++ G n)
      by (inl e) more =
          let same : together n G ≡ together n F = together_same n G F (λ j h. f.taken.others j (omega (arith, h)) (λ q. omega (arith, h, q, e))) in
          let here : F n ≡ x ∷ G n = subst (λ k. F k ≡ x ∷ G k) e f.taken.here in
          record {
            front = together n F;
            back = G n;
            whole_is = ap (λ l. together n F ++ l) here;
            left_is = ap (λ l. l ++ G n) same;
            before = together_any (λ z. not (lt x z)) n F (λ j h. f.earlier j (omega (arith, h, e)));
            behind = subst (λ k. list_any (λ z. lt z x) (G k) ≡ false) e f.rest;
          }
      by (inr e) more =
          let l : i < n = (let m : i < suc n = f.taken.within in omega (arith, m, e)) in
          let s = more (record {
            taken = record { within = l; here = f.taken.here; others = λ j h q. f.taken.others j (omega (arith, h)) q };
            earlier = f.earlier;
            later = λ j h k. f.later j h (omega (arith, k));
            rest = f.rest;
          }) in
          record {
            front = s.front;
            back = s.back ++ F n;
            whole_is = ap (λ l. l ++ F n) s.whole_is ∙ append_assoc s.front (x ∷ s.back) (F n);
            left_is = (λ k. s.left_is k ++ f.taken.others n (omega arith) (λ q. e (sym q)) k) ∙ append_assoc s.front s.back (F n);
            before = s.before;
            behind = list_any-append (λ z. lt z x) s.back (F n) ∙ or_from _ _ s.behind (f.later n l (omega arith));
          }

  pub first_sorts : (n i : ℕ) (x : A) (F G : ℕ → List A) → IsFirst n i x F G → sorted lt (together n F) ≡ x ∷ sorted lt (together n G)
  first_sorts n i x F G f = split_sorts x (together n F) (together n G) (first_splits n i x F G f)

-- ---- lists that ascend, by their first elements

module _ {A : Type 0} (lt : A → A → Bool) (order : IsStrictWeakOrder lt) where
  abbrev pub Starts : (A → Type 0) → List A → Type 0
  Starts P [] = Unit {0}
  Starts P (x ∷ xs) = P x

  all_behind : (x y : A) → lt x y ≡ true → (zs : List A) → list_any (λ z. lt z y) zs ≡ false → list_any (λ z. not (lt x z)) zs ≡ false
  all_behind x y a [] h = refl
  all_behind x y a (z ∷ zs) h =
      let p = or_parts (lt z y) (list_any (λ z. lt z y) zs) h in
      or_from (not (lt x z)) _ (ap not (below lt order x y z a p.0)) (all_behind x y a zs p.1)

  pub starts_behind : (x : A) (xs : List A) → Ascends lt xs → Starts (λ y. lt x y ≡ true) xs → list_any (λ z. not (lt x z)) xs ≡ false
  starts_behind x [] a s = refl
  starts_behind x (y ∷ ys) a s = or_from (not (lt x y)) _ (ap not s) (all_behind x y s ys a.0)

  none_before : (x y : A) → lt y x ≡ false → (zs : List A) → list_any (λ z. lt z y) zs ≡ false → list_any (λ z. lt z x) zs ≡ false
  none_before x y a [] h = refl
  none_before x y a (z ∷ zs) h =
      let p = or_parts (lt z y) (list_any (λ z. lt z y) zs) h in
      or_from (lt z x) _ (order.chain z y x p.0 a) (none_before x y a zs p.1)

  pub starts_after : (x : A) (xs : List A) → Ascends lt xs → Starts (λ y. lt y x ≡ false) xs → list_any (λ z. lt z x) xs ≡ false
  starts_after x [] a s = refl
  starts_after x (y ∷ ys) a s = or_from (lt y x) _ s (none_before x y s ys a.0)

-- ---- lists of lists

together_front : {A : Type 0} (n : ℕ) (F : ℕ → List A) → together (suc n) F ≡ F 0 ++ together n (λ i. F (suc i))
together_front zero F = sym (append-nil (F 0))
together_front (suc n) F = ap (λ l. l ++ F (suc n)) (together_front n F) ∙ append_assoc (F 0) (together n (λ i. F (suc i))) (F (suc n))

pub concat_together : {A : Type 0} (xs : List (List A)) → concat xs ≡ together (length xs) (λ i. slice_index_or xs i [])
concat_together [] = refl
concat_together (x ∷ xs) = ap (λ l. x ++ l) (concat_together xs) ∙ sym (together_front (length xs) (λ i. slice_index_or (x ∷ xs) i []))
