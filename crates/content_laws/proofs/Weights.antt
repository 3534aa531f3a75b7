-- Sums of weights over lists and bags, and what bags keep.
use Rattle.std.proofs.Common.{ℕ, ◌+◌, ◌≡◌, refl, sym, ap, ◌∙◌, subst, cond, ltb, List, [], ◌∷◌, ◌++◌, map, Bool, true, false, ◌||◌, arith}
use Rattle.std.specs.Prelude.{IsPermutation}
use Rattle.std.specs.List.{sum_by, filter, flat_map, list_any}
use Rattle.std.proofs.lemmas.Bool.{true≢false, lt-ltb}
use Rattle.std.proofs.lemmas.List.Sums.{sum_by-cons, sum_by-append}
use Rattle.std.proofs.lemmas.List.Sorted.{IsPermutation-refl, IsPermutation-trans, IsPermutation-sym, IsPermutation-cons, IsPermutation-middle}
use Rattle.content_laws.specs.Bags.{SameBag}
use Rattle.content_laws.proofs.Identity.{IsExact}

-- ---- sums

pub sum_same : {A : Type 0} (f g : A → ℕ) → ((x : A) → f x ≡ g x) → (xs : List A) → sum_by f xs ≡ sum_by g xs
sum_same f g h [] = refl
sum_same f g h (x ∷ xs) = sum_by-cons f x xs ∙ (ap (λ m. m + sum_by f xs) (h x) ∙ (ap (λ m. g x + m) (sum_same f g h xs) ∙ sym (sum_by-cons g x xs)))

-- what the elements give, one after the other
pub sum-flat_map : {A B : Type 0} (f : A → List B) (w : B → ℕ) (xs : List A) → sum_by w (flat_map f xs) ≡ sum_by (λ x. sum_by w (f x)) xs
sum-flat_map f w [] = refl
sum-flat_map f w (x ∷ xs) = sum_by-append w (f x) (flat_map f xs) ∙ (ap (λ m. sum_by w (f x) + m) (sum-flat_map f w xs) ∙ sym (sum_by-cons (λ x. sum_by w (f x)) x xs))

sum_zero : {A : Type 0} (xs : List A) → sum_by (λ x. 0) xs ≡ 0
sum_zero [] = refl
sum_zero {A} (x ∷ xs) = let a : sum_by {X = A} (λ x. 0) (x ∷ xs) ≡ 0 + sum_by {X = A} (λ x. 0) xs = sum_by-cons {X = A} (λ x. 0) x xs in let b : sum_by {X = A} (λ x. 0) xs ≡ 0 = sum_zero xs in omega arith

pub sum_both : {A : Type 0} (f g : A → ℕ) (xs : List A) → sum_by (λ x. f x + g x) xs ≡ sum_by f xs + sum_by g xs
sum_both f g [] = refl
sum_both f g (x ∷ xs) =
    let a : sum_by (λ x. f x + g x) (x ∷ xs) ≡ (f x + g x) + sum_by (λ x. f x + g x) xs = sum_by-cons (λ x. f x + g x) x xs in
    let b : sum_by (λ x. f x + g x) xs ≡ sum_by f xs + sum_by g xs = sum_both f g xs in
    let c : sum_by f (x ∷ xs) ≡ f x + sum_by f xs = sum_by-cons f x xs in
    let d : sum_by g (x ∷ xs) ≡ g x + sum_by g xs = sum_by-cons g x xs in
    omega arith

-- over all pairs, in either order
pub sum_swap : {A B : Type 0} (g : A → B → ℕ) (xs : List A) (ys : List B) → sum_by (λ x. sum_by (g x) ys) xs ≡ sum_by (λ y. sum_by (λ x. g x y) xs) ys
sum_swap g [] ys = sym (sum_zero ys)
sum_swap g (x ∷ xs) ys =
    sum_by-cons (λ x. sum_by (g x) ys) x xs
    ∙ (ap (λ m. sum_by (g x) ys + m) (sum_swap g xs ys)
    ∙ (sym (sum_both (g x) (λ y. sum_by (λ x. g x y) xs) ys) ∙ sum_same (λ y. g x y + sum_by (λ x. g x y) xs) (λ y. sum_by (λ x. g x y) (x ∷ xs)) (λ y. sym (sum_by-cons (λ x. g x y) x xs)) ys))

pub sum_by-map : {A B : Type 0} (h : A → B) (f : B → ℕ) (xs : List A) → sum_by f (map h xs) ≡ sum_by (λ x. f (h x)) xs
sum_by-map h f [] = refl
sum_by-map h f (x ∷ xs) = sum_by-cons f (h x) (map h xs) ∙ (ap (λ m. f (h x) + m) (sum_by-map h f xs) ∙ sym (sum_by-cons (λ x. f (h x)) x xs))

pub sum-filter : {A : Type 0} (p : A → Bool) (f : A → ℕ) (xs : List A) → sum_by f (filter p xs) ≡ sum_by (λ x. cond (p x) (f x) 0) xs
sum-filter p f [] = refl
sum-filter p f (x ∷ xs) = by (p x) refl (sum-filter p f xs)
  where
    by : (b : Bool) → p x ≡ b → sum_by f (filter p xs) ≡ sum_by (λ x. cond (p x) (f x) 0) xs → sum_by f (cond b (x ∷ filter p xs) (filter p xs)) ≡ sum_by (λ x. cond (p x) (f x) 0) (x ∷ xs)
    by true e ih = sum_by-cons f x (filter p xs) ∙ (ap (λ m. f x + m) ih ∙ (ap (λ b. cond b (f x) 0 + sum_by (λ x. cond (p x) (f x) 0) xs) (sym e) ∙ sym (sum_by-cons (λ x. cond (p x) (f x) 0) x xs)))
    by false e ih =
        let a : sum_by (λ x. cond (p x) (f x) 0) (x ∷ xs) ≡ cond (p x) (f x) 0 + sum_by (λ x. cond (p x) (f x) 0) xs = sum_by-cons (λ x. cond (p x) (f x) 0) x xs in
        let b : cond (p x) (f x) 0 ≡ 0 = ap (λ b. cond b (f x) 0) e in
        omega arith

-- ---- what bags keep

pub bag-filter : {A : Type 0} (p : A → Bool) (xs ys : List A) → SameBag xs ys → SameBag (filter p xs) (filter p ys)
bag-filter p xs ys h = λ w. sum-filter p w xs ∙ (h (λ x. cond (p x) (w x) 0) ∙ sym (sum-filter p w ys))

pub bag-map : {A B : Type 0} (f : A → B) (xs ys : List A) → SameBag xs ys → SameBag (map f xs) (map f ys)
bag-map f xs ys h = λ w. sum_by-map f w xs ∙ (h (λ x. w (f x)) ∙ sym (sum_by-map f w ys))

pub bag-flat_map : {A B : Type 0} (f : A → List B) (xs ys : List A) → SameBag xs ys → SameBag (flat_map f xs) (flat_map f ys)
bag-flat_map f xs ys h = λ w. sum-flat_map f w xs ∙ (h (λ x. sum_by w (f x)) ∙ sym (sum-flat_map f w ys))

some_weigh : {A : Type 0} (p : A → Bool) (xs : List A) → list_any p xs ≡ ltb 0 (sum_by (λ x. cond (p x) 1 0) xs)
some_weigh p [] = refl
some_weigh p (x ∷ xs) = by (p x) refl (some_weigh p xs)
  where
    by : (b : Bool) → p x ≡ b → list_any p xs ≡ ltb 0 (sum_by (λ x. cond (p x) 1 0) xs) → (b || list_any p xs) ≡ ltb 0 (sum_by (λ x. cond (p x) 1 0) (x ∷ xs))
    by true e ih = sym (lt-ltb 0 (sum_by (λ x. cond (p x) 1 0) (x ∷ xs)) (let a : sum_by (λ x. cond (p x) 1 0) (x ∷ xs) ≡ cond (p x) 1 0 + sum_by (λ x. cond (p x) 1 0) xs = sum_by-cons (λ x. cond (p x) 1 0) x xs in let b : cond {A = ℕ} (p x) 1 0 ≡ 1 = ap (λ b. cond {A = ℕ} b 1 0) e in omega arith))
    by false e ih = ih ∙ ap (ltb 0) (let a : sum_by (λ x. cond (p x) 1 0) (x ∷ xs) ≡ cond (p x) 1 0 + sum_by (λ x. cond (p x) 1 0) xs = sum_by-cons (λ x. cond (p x) 1 0) x xs in let b : cond {A = ℕ} (p x) 1 0 ≡ 0 = ap (λ b. cond {A = ℕ} b 1 0) e in let c : sum_by (λ x. cond (p x) 1 0) xs ≡ sum_by (λ x. cond (p x) 1 0) (x ∷ xs) = omega arith in c)

pub bag_any : {A : Type 0} (p : A → Bool) (xs ys : List A) → SameBag xs ys → list_any p xs ≡ list_any p ys
bag_any p xs ys h = some_weigh p xs ∙ (ap (ltb 0) (h (λ x. cond (p x) 1 0)) ∙ sym (some_weigh p ys))

-- ---- one element less

weighs_one : {A : Type 0} (y : A) (ys : List A) → sum_by (λ _. 1) (y ∷ ys) ≡ 0 → ⊥
weighs_one y ys e = let b : sum_by (λ _. 1) (y ∷ ys) ≡ 1 + sum_by (λ _. 1) ys = sum_by-cons (λ _. 1) y ys in omega arith

-- an empty bag has no elements
pub none_left : {A B : Type 0} (y : A) (ys : List A) → SameBag [] (y ∷ ys) → B
none_left y ys same = absurd (weighs_one y ys (sym (same (λ _. 1))))

module _ {A : Type 0} (eq : A → A → Bool) (exact : IsExact eq) where
  pub split : (a : A) (ys : List A) → list_any (eq a) ys ≡ true → (l : List A) × (r : List A) × (ys ≡ l ++ a ∷ r)
  split a [] h = absurd (true≢false (sym h))
  split a (y ∷ ys) h = by (eq a y) refl (split a ys)
    where
      by : (b : Bool) → eq a y ≡ b → (list_any (eq a) ys ≡ true → (l : List A) × (r : List A) × (ys ≡ l ++ a ∷ r)) → (l : List A) × (r : List A) × (y ∷ ys ≡ l ++ a ∷ r)
      by true e more = ([], ys, ap (λ z. z ∷ ys) (sym (exact.same a y e)))
      by false e more = let m = more (ap (λ b. b || list_any (eq a) ys) (sym e) ∙ h) in (y ∷ m.0, m.1, ap (λ zs. y ∷ zs) m.2)

  pub less : (x : A) (xs l r ys : List A) → ys ≡ l ++ x ∷ r → SameBag (x ∷ xs) ys → SameBag xs (l ++ r)
  less x xs l r ys is same = λ w.
      let a : sum_by w (x ∷ xs) ≡ sum_by w ys = same w in
      let b : sum_by w ys ≡ sum_by w (l ++ x ∷ r) = ap (sum_by w) is in
      let c : sum_by w (l ++ x ∷ r) ≡ sum_by w l + sum_by w (x ∷ r) = sum_by-append w l (x ∷ r) in
      let d : sum_by w (x ∷ r) ≡ w x + sum_by w r = sum_by-cons w x r in
      let e : sum_by w (x ∷ xs) ≡ w x + sum_by w xs = sum_by-cons w x xs in
      let i : sum_by w (l ++ r) ≡ sum_by w l + sum_by w r = sum_by-append w l r in
      omega arith

  -- a bag is a permutation
  pub permuted : (xs ys : List A) → SameBag xs ys → IsPermutation xs ys
  permuted [] [] same = IsPermutation-refl []
  permuted [] (y ∷ ys) same = none_left y ys same
  permuted (x ∷ xs) ys same = at (split x ys (sym (bag_any (eq x) (x ∷ xs) ys same) ∙ ap (λ b. b || list_any (eq x) xs) (exact.own x))) (λ zs s. permuted xs zs s)
    where
      at : (l : List A) × (r : List A) × (ys ≡ l ++ x ∷ r) → ((zs : List A) → SameBag xs zs → IsPermutation xs zs) → IsPermutation (x ∷ xs) ys
      at m ih = subst (IsPermutation (x ∷ xs)) (sym m.2)
          (IsPermutation-trans (x ∷ xs) (x ∷ (m.0 ++ m.1)) (m.0 ++ x ∷ m.1) (IsPermutation-cons x xs (m.0 ++ m.1) (ih (m.0 ++ m.1) (less x xs m.0 m.1 ys m.2 same)))
          (IsPermutation-sym (m.0 ++ x ∷ m.1) (x ∷ (m.0 ++ m.1)) (IsPermutation-middle m.0 x m.1)))
