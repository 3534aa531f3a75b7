-- Rows that are collected, and rows that are sorted.
use Rattle.std.proofs.Common.{◌≡◌, refl, sym, ap, subst, true≢false, ℕ, Bool, true, List, [], ◌∷◌, ◌++◌, map, nat_eq}
use Rattle.std.specs.Cmp.{first_so, second_so}
use Rattle.std.specs.Cmp.Lexicographic.{pointwise, bytes_decides}
use Rattle.std.specs.List.Sorted.{IsPermutation}
use Rattle.std.proofs.lemmas.List.Sorted.{IsPermutation-map, IsPermutation-trans, IsPermutation-sym}

pub one_more : {R : Type 0} (f : R → List ℕ) (rows : List R) (row : R) (others : List (List ℕ))
    → map f (rows ++ row ∷ []) ++ others ≡ map f rows ++ f row ∷ others
one_more f [] row others = refl
one_more f (x ∷ rows) row others = ap (λ (rest : List (List ℕ)). f x ∷ rest) (one_more f rows row others)

pub rows_equal : {R : Type 0} (f : R → List ℕ) (xs ys : List R)
    → pointwise (λ x y. pointwise nat_eq (f x) (f y)) xs ys ≡ true → map f xs ≡ map f ys
rows_equal f [] [] e = refl
rows_equal f [] (y ∷ ys) e = absurd (true≢false (sym e))
rows_equal f (x ∷ xs) [] e = absurd (true≢false (sym e))
rows_equal {R} f (x ∷ xs) (y ∷ ys) e =
    both (f x) (f y) (map f xs) (map f ys)
    ((bytes_decides (f x) (f y)).0 (first_so (here x y) (later xs ys) e))
    (rows_equal f xs ys (second_so (here x y) (later xs ys) e)) where
      here : (x y : R) → Bool
      here x y = pointwise nat_eq (f x) (f y)

      later : (xs ys : List R) → Bool
      later xs ys = pointwise (λ x y. pointwise nat_eq (f x) (f y)) xs ys

      both : (a b : List ℕ) (rest others : List (List ℕ)) → a ≡ b → rest ≡ others → (a ∷ rest) ≡ (b ∷ others)
      both a b rest others e h = cc

-- lists that sorting makes equal are permutations of each other
pub sorted_equal : {R : Type 0} (f : R → List ℕ) (xs sorted ys ordered : List R)
    → IsPermutation xs sorted → IsPermutation ys ordered
    → pointwise (λ x y. pointwise nat_eq (f x) (f y)) sorted ordered ≡ true
    → IsPermutation (map f xs) (map f ys)
sorted_equal f xs sorted ys ordered p q e =
    IsPermutation-trans (map f xs) (map f sorted) (map f ys) (IsPermutation-map f xs sorted p)
    (subst (λ (rows : List (List ℕ)). IsPermutation rows (map f ys)) (sym (rows_equal f sorted ordered e))
    (IsPermutation-sym (map f ys) (map f ordered) (IsPermutation-map f ys ordered q)))
