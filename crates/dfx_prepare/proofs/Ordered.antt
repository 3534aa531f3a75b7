-- Lists of paths in order: two of the same paths are one list.
use Rattle.std.proofs.Common.{◌≡◌, refl, sym, ap, ap₂, ◌∙◌, ℕ, suc, ◌+◌, ◌<◌, ◌≤◌, Bool, true, false, cond, List, [], ◌∷◌, length, get_or, sum_by, IsPermutation, IsSorted, nat_cmp, is_lt, is_eq, Ordering, Less, Equal, Greater, arith, if◌then◌else◌}
use Rattle.std.specs.Prelude.{⊤}
use Rattle.std.specs.Cmp.{IsStrictWeakOrder}
use Rattle.std.specs.Cmp.Lexicographic.{slice_cmp}
use Rattle.std.specs.FinMap.{slice_cmp-IsAntisymmetric, nat_cmp-IsAntisymmetric}
use Rattle.std.specs.Ordering.{ordering_reverse}
use Rattle.std.proofs.lemmas.Cmp.{nat_list_cmp_total, tied_itself}
use Rattle.std.proofs.lemmas.List.Sorted.{ranks_by, sorted_far, sum_by-IsPermutation}
use Rattle.std.proofs.lemmas.List.Sums.{sum_by-cons}
use Rattle.dfx_prepare.specs.Listings.{is_before, put_in, in_order}

abbrev Path : Type 0
Path = List ℕ

-- ---- the order

strict : IsStrictWeakOrder is_before
strict = ranks_by nat_list_cmp_total (λ x. x)

not_itself : (x : Path) → is_before x x ≡ false
not_itself x = ap is_lt (tied_itself nat_list_cmp_total x)

one_of : (r s : Ordering) → r ≡ ordering_reverse s → is_lt r ≡ false → is_lt s ≡ false → r ≡ Equal
one_of Less s e a b = cc
one_of Equal s e a b = refl
one_of Greater Less e a b = cc
one_of Greater Equal e a b = cc
one_of Greater Greater e a b = cc

-- two paths of which none is before the other are one
one_path : (x y : Path) → is_before x y ≡ false → is_before y x ≡ false → x ≡ y
one_path x y a b = slice_cmp-IsAntisymmetric nat_cmp-IsAntisymmetric x y (one_of (slice_cmp nat_cmp x y) (slice_cmp nat_cmp y x) (nat_list_cmp_total.antisymm x y) a b)

-- ---- how often a path stands in a list

abbrev one : Path → Path → ℕ
one v x = cond (is_eq (slice_cmp nat_cmp x v)) 1 0

abbrev count : Path → List Path → ℕ
count v [] = 0
count v (x ∷ xs) = one v x + count v xs

one_itself : (x : Path) → one x x ≡ 1
one_itself x = ap (λ (r : Ordering). cond (is_eq r) 1 0) (tied_itself nat_list_cmp_total x)

count_is : (v : Path) (xs : List Path) → sum_by (one v) xs ≡ count v xs
count_is v [] = refl
count_is v (x ∷ xs) = sum_by-cons (one v) x xs ∙ ap (λ (n : ℕ). one v x + n) (count_is v xs)

-- an order of a list has its paths as often
count_moved : (v : Path) (xs ys : List Path) → IsPermutation xs ys → count v ys ≡ count v xs
count_moved v xs ys h = sym (count_is v ys) ∙ (sum_by-IsPermutation (one v) xs ys h ∙ count_is v xs)

count_put_by : (b : Bool) (v x y : Path) (ys : List Path) → count v (put_in x ys) ≡ one v x + count v ys → count v (if b then y ∷ put_in x ys else x ∷ y ∷ ys) ≡ one v x + (one v y + count v ys)
count_put_by true v x y ys h = omega arith
count_put_by false v x y ys h = refl

count_put : (v x : Path) (ys : List Path) → count v (put_in x ys) ≡ one v x + count v ys
count_put v x [] = refl
count_put v x (y ∷ ys) = count_put_by (is_before y x) v x y ys (count_put v x ys)

count_in_order : (v : Path) (xs : List Path) → count v (in_order xs) ≡ count v xs
count_in_order v [] = refl
count_in_order v (x ∷ xs) = count_put v x (in_order xs) ∙ ap (λ (n : ℕ). one v x + n) (count_in_order v xs)

-- ---- lists in order

-- none is before this path
abbrev Least : Path → List Path → Type 0
Least x [] = ⊤
Least x (y ∷ ys) = (is_before y x ≡ false) × Least x ys

abbrev Rises : List Path → Type 0
Rises [] = ⊤
Rises (x ∷ xs) = Least x xs × Rises xs

abbrev Far : List Path → Type 0
Far xs = (i j : ℕ) (d : Path) → i ≤ j → j < length xs → is_before (get_or xs j d) (get_or xs i d) ≡ false

least_from : (x : Path) (xs : List Path) → ((j : ℕ) (d : Path) → j < length xs → is_before (get_or xs j d) x ≡ false) → Least x xs
least_from x [] h = tt
least_from x (y ∷ ys) h = (h 0 y (omega arith), least_from x ys (λ j d l. h (suc j) d (omega arith)))

rises_from : (xs : List Path) → Far xs → Rises xs
rises_from [] h = tt
rises_from (x ∷ xs) h = (least_from x xs (λ j d l. h 0 (suc j) d (omega arith) (omega arith)), rises_from xs (λ i j d up l. h (suc i) (suc j) d (omega arith) (omega arith)))

pub rises_sorted : (xs : List Path) → IsSorted (slice_cmp nat_cmp) xs → Rises xs
rises_sorted xs h = rises_from xs (sorted_far is_before strict xs h)

least_below : (x y : Path) (ys : List Path) → is_before y x ≡ false → Least y ys → Least x ys
least_below x y [] h l = tt
least_below x y (z ∷ zs) h l = (strict.chain z y x l.0 h, least_below x y zs h l.1)

least_put_by : (b : Bool) (x y z : Path) (zs : List Path) → is_before x y ≡ false → is_before z y ≡ false → Least y zs → Least y (put_in x zs) → Least y (if b then z ∷ put_in x zs else x ∷ z ∷ zs)
least_put_by true x y z zs a b l m = (b, m)
least_put_by false x y z zs a b l m = (a, (b, l))

least_put : (x y : Path) (zs : List Path) → is_before x y ≡ false → Least y zs → Least y (put_in x zs)
least_put x y [] a l = (a, tt)
least_put x y (z ∷ zs) a l = least_put_by (is_before z x) x y z zs a l.0 l.1 (least_put x y zs a l.1)

rises_put_by : (b : Bool) (x y : Path) (ys : List Path) → is_before y x ≡ b → Least y ys → Rises ys → Rises (put_in x ys) → Rises (if b then y ∷ put_in x ys else x ∷ y ∷ ys)
rises_put_by true x y ys e l r m = (least_put x y ys (strict.one_way y x e) l, m)
rises_put_by false x y ys e l r m = ((e, least_below x y ys e l), (l, r))

rises_put : (x : Path) (ys : List Path) → Rises ys → Rises (put_in x ys)
rises_put x [] r = (tt, tt)
rises_put x (y ∷ ys) r = rises_put_by (is_before y x) x y ys refl r.0 r.1 (rises_put x ys r.1)

pub rises_in_order : (xs : List Path) → Rises (in_order xs)
rises_in_order [] = tt
rises_in_order (x ∷ xs) = rises_put x (in_order xs) (rises_in_order xs)

-- ---- one list

-- a path that stands in a list isn't before its least one
member_by : (r : Ordering) (v y z : Path) (zs : List Path) → slice_cmp nat_cmp z v ≡ r → is_before z y ≡ false → (1 ≤ count v zs → is_before v y ≡ false) → 1 ≤ cond (is_eq r) 1 0 + count v zs → is_before v y ≡ false
member_by Less v y z zs e a more n = more (omega arith)
member_by Equal v y z zs e a more n = ap (λ (p : Path). is_before p y) (sym (slice_cmp-IsAntisymmetric nat_cmp-IsAntisymmetric z v e)) ∙ a
member_by Greater v y z zs e a more n = more (omega arith)

member : (v y : Path) (zs : List Path) → Least y zs → 1 ≤ count v zs → is_before v y ≡ false
member v y [] l n = absurd (omega arith)
member v y (z ∷ zs) l n = member_by (slice_cmp nat_cmp z v) v y z zs refl l.0 (member v y zs l.1) n

abbrev AsOften : List Path → List Path → Type 0
AsOften xs ys = (v : Path) → count v xs ≡ count v ys

stands : (x : Path) (n m : ℕ) → one x x + n ≡ m → 1 ≤ m
stands x n m e = let i : one x x ≡ 1 = one_itself x in omega arith

heads : (x : Path) (xs : List Path) (y : Path) (ys : List Path) → Least x xs → Least y ys → AsOften (x ∷ xs) (y ∷ ys) → x ≡ y
heads x xs y ys l m same = one_path x y
    (member x y (y ∷ ys) (not_itself y, m) (stands x (count x xs) (count x (y ∷ ys)) (same x)))
    (member y x (x ∷ xs) (not_itself x, l) (stands y (count y ys) (count y (x ∷ xs)) (sym (same y))))

tails : (x : Path) (xs : List Path) (y : Path) (ys : List Path) → x ≡ y → AsOften (x ∷ xs) (y ∷ ys) → AsOften xs ys
tails x xs y ys e same v = let h : one v x + count v xs ≡ one v y + count v ys = same v in let k : one v x ≡ one v y = ap (one v) e in omega arith

pub one_list : (xs ys : List Path) → Rises xs → Rises ys → AsOften xs ys → xs ≡ ys
one_list [] [] r s same = refl
one_list [] (y ∷ ys) r s same = let n : 1 ≤ 0 = stands y (count y ys) 0 (sym (same y)) in absurd (omega arith)
one_list (x ∷ xs) [] r s same = let n : 1 ≤ 0 = stands x (count x xs) 0 (same x) in absurd (omega arith)
one_list (x ∷ xs) (y ∷ ys) r s same =
    let e : x ≡ y = heads x xs y ys r.0 s.0 same in
    ap₂ (λ (p : Path) (ps : List Path). p ∷ ps) e (one_list xs ys r.1 s.1 (tails x xs y ys e same))

-- the order of paths is the one list of them that rises
pub in_order_is : (xs ys : List Path) → IsPermutation xs ys → IsSorted (slice_cmp nat_cmp) ys → in_order xs ≡ ys
in_order_is xs ys h up = one_list (in_order xs) ys (rises_in_order xs) (rises_sorted ys up) (λ v. count_in_order v xs ∙ sym (count_moved v xs ys h))
