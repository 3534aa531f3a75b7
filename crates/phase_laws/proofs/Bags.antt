-- Tests of each element, and folds over bags.
use Rattle.std.proofs.Common.{ℕ, ◌+◌, ◌≡◌, refl, sym, ap, ◌∙◌, subst, cond, List, [], ◌∷◌, ◌++◌, map, Bool, true, false, not, ◌||◌, arith}
use Rattle.std.specs.List.{sum_by, filter, list_any, fold}
use Rattle.std.proofs.lemmas.Bool.{or_parts, or_from, not-false}
use Rattle.std.proofs.lemmas.List.Sums.{sum_by-cons}
use Rattle.content_laws.specs.Bags.{SameBag}
use Rattle.content_laws.proofs.Identity.{IsExact}
use Rattle.content_laws.proofs.Weights.{bag_any, none_left, split, less}
pub use Rattle.content_laws.proofs.Weights.{sum_by-map}

abbrev pub Each : {A : Type 0} → (A → Bool) → List A → Type 0
Each p [] = Unit {0}
Each p (x ∷ xs) = (p x ≡ true) × Each p xs

pub each_more : {A : Type 0} (p q : A → Bool) → ((x : A) → p x ≡ true → q x ≡ true) → (xs : List A) → Each p xs → Each q xs
each_more p q h [] e = tt
each_more p q h (x ∷ xs) e = (h x e.0, each_more p q h xs e.1)

pub each_both : {A : Type 0} (p q r : A → Bool) → ((x : A) → p x ≡ true → q x ≡ true → r x ≡ true) → (xs : List A) → Each p xs → Each q xs → Each r xs
each_both p q r h [] e f = tt
each_both p q r h (x ∷ xs) e f = (h x e.0 f.0, each_both p q r h xs e.1 f.1)

pub each-append : {A : Type 0} (p : A → Bool) (xs ys : List A) → Each p xs → Each p ys → Each p (xs ++ ys)
each-append p [] ys e f = f
each-append p (x ∷ xs) ys e f = (e.0, each-append p xs ys e.1 f)

pub each_left : {A : Type 0} (p : A → Bool) (xs ys : List A) → Each p (xs ++ ys) → Each p xs
each_left p [] ys e = tt
each_left p (x ∷ xs) ys e = (e.0, each_left p xs ys e.1)

pub each_right : {A : Type 0} (p : A → Bool) (xs ys : List A) → Each p (xs ++ ys) → Each p ys
each_right p [] ys e = e
each_right p (x ∷ xs) ys e = each_right p xs ys e.1

pub each-filter : {A : Type 0} (p q : A → Bool) (xs : List A) → Each p xs → Each p (filter q xs)
each-filter p q [] e = tt
each-filter p q (x ∷ xs) e = by (q x) (each-filter p q xs e.1)
  where
    by : (b : Bool) → Each p (filter q xs) → Each p (cond b (x ∷ filter q xs) (filter q xs))
    by true ih = (e.0, ih)
    by false ih = ih

pub each-map : {A B : Type 0} (h : A → B) (p : B → Bool) (xs : List A) → Each (λ x. p (h x)) xs → Each p (map h xs)
each-map h p [] e = tt
each-map h p (x ∷ xs) e = (e.0, each-map h p xs e.1)

-- functions that agree where a test passes have one sum
pub sum_each : {A : Type 0} (p : A → Bool) (f g : A → ℕ) → ((x : A) → p x ≡ true → f x ≡ g x) → (xs : List A) → Each p xs → sum_by f xs ≡ sum_by g xs
sum_each p f g h [] e = refl
sum_each p f g h (x ∷ xs) e = let a : sum_by f xs ≡ sum_by g xs = sum_each p f g h xs e.1 in let b : f x ≡ g x = h x e.0 in let c : sum_by f (x ∷ xs) ≡ f x + sum_by f xs = sum_by-cons f x xs in let d : sum_by g (x ∷ xs) ≡ g x + sum_by g xs = sum_by-cons g x xs in omega arith

none_other : {A : Type 0} (p : A → Bool) (xs : List A) → list_any (λ x. not (p x)) xs ≡ false → Each p xs
none_other p [] e = tt
none_other p (x ∷ xs) e = let q = or_parts (not (p x)) (list_any (λ x. not (p x)) xs) e in (not-false (p x) q.0, none_other p xs q.1)

no_other : {A : Type 0} (p : A → Bool) (xs : List A) → Each p xs → list_any (λ x. not (p x)) xs ≡ false
no_other p [] e = refl
no_other p (x ∷ xs) e = or_from (not (p x)) _ (ap not e.0) (no_other p xs e.1)

pub bag_each : {A : Type 0} (p : A → Bool) (xs ys : List A) → SameBag xs ys → Each p xs → Each p ys
bag_each p xs ys h e = none_other p ys (sym (bag_any (λ x. not (p x)) xs ys h) ∙ no_other p xs e)

-- ---- a fold over a bag, where the order of two doesn't matter

module _ {A : Type 0} (eq : A → A → Bool) (exact : IsExact eq) where
  module _ {S : Type 0} (f : S → A → S) (ok : A → Bool) (swap : (s : S) (a b : A) → ok a ≡ true → ok b ≡ true → f (f s a) b ≡ f (f s b) a) where
    fold_front : (s : S) (l r : List A) (a : A) → ok a ≡ true → Each ok l → fold f s (l ++ a ∷ r) ≡ fold f (f s a) (l ++ r)
    fold_front s [] r a g h = refl
    fold_front s (b ∷ l) r a g h = fold_front (f s b) l r a g h.1 ∙ ap (λ s. fold f s (l ++ r)) (swap s b a h.0 g)

    pub fold_bag : (s : S) (xs ys : List A) → Each ok xs → Each ok ys → SameBag xs ys → fold f s xs ≡ fold f s ys
    fold_bag s [] [] g h same = refl
    fold_bag s [] (y ∷ ys) g h same = none_left y ys same
    fold_bag s (x ∷ xs) ys g h same = at (split eq exact x ys (sym (bag_any (eq x) (x ∷ xs) ys same) ∙ ap (λ b. b || list_any (eq x) xs) (exact.own x))) (λ zs k e. fold_bag (f s x) xs zs g.1 k e)
      where
        at : (l : List A) × (r : List A) × (ys ≡ l ++ x ∷ r) → ((zs : List A) → Each ok zs → SameBag xs zs → fold f (f s x) xs ≡ fold f (f s x) zs) → fold f (f s x) xs ≡ fold f s ys
        at m ih =
            let good : Each ok (m.0 ++ x ∷ m.1) = subst (Each ok) m.2 h in
            ih (m.0 ++ m.1) (each-append ok m.0 m.1 (each_left ok m.0 (x ∷ m.1) good) (each_right ok m.0 (x ∷ m.1) good).1) (less eq exact x xs m.0 m.1 ys m.2 same)
            ∙ (sym (fold_front s m.0 m.1 x g.0 (each_left ok m.0 (x ∷ m.1) good)) ∙ ap (fold f s) (sym m.2))
