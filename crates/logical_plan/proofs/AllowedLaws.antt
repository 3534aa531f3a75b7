-- What a query may answer: examples, and that an answer of all items leaves no fault out.
use Rattle.std.proofs.Common.{◌≡◌, refl, ℕ, zero, suc, ◌+◌, ◌<◌, ◌≤◌, false, List, [], ◌∷◌, length, take, None, Some, Ok, Err, arith, ap, sym, ◌∙◌, subst, inl, inr, lit≤}
use Rattle.std.specs.Prelude.{IsPermutation, IsSorted}
use Rattle.std.specs.List.{sum_by}
use Rattle.std.specs.Ordering.{is_lt}
use Rattle.std.proofs.lemmas.List.Sorted.{IsPermutation-refl, IsPermutation-append_comm, sum_by-IsPermutation}
use Rattle.std.proofs.lemmas.Bool.{false≢true}
use Rattle.std.proofs.lemmas.List.Sums.{sum_by-cons}
use Rattle.dfx_value.specs.Order.{value_cmp}
use Rattle.dfx_value.specs.Rows.{row_cmp}
use Rattle.dfx_value.specs.declared.rows.SortKey.{SortKey}
use Rattle.dfx_value.specs.declared.fault.ItemFault.{ItemFault}
use Rattle.logical_plan.specs.Items.{Cells, Item, rows, faults}
use Rattle.logical_plan.specs.Allowed.{IsArranged, Allows}
use Rattle.logical_plan.proofs.Examples.{int, one, two, zero_divided}

-- ---- a limit before a fault, and none past it

unordered : (rs : List Cells) → IsSorted (row_cmp []) rs
unordered rs = λ k d low high. refl

abbrev pub sixes : List Item
sixes = one (int 6) ∷ one (int 6) ∷ zero_divided ∷ []

pub before_the_fault : Allows [] 0 (Some 2) sixes ((int 6 ∷ []) ∷ (int 6 ∷ []) ∷ [])
before_the_fault = inr (record {
  arranged = sixes;
  same = IsPermutation-refl sixes;
  answers = record { sorted = unordered (rows sixes); clean = refl; cut = refl };
})

-- LIMIT 0 asks nothing
pub limit_zero : Allows [] 5 (Some 0) (zero_divided ∷ []) []
limit_zero = inl (refl, refl)

-- rows that tie may stand in either order, and a row that comes before may not stand after
abbrev pub by_first : List SortKey
by_first = record { column = 0; descending = false; nulls_first = false } ∷ []

sorted_two : (r s : Cells) → is_lt (row_cmp by_first s r) ≡ false → IsSorted (row_cmp by_first) (r ∷ s ∷ [])
sorted_two r s e zero d low high = e
sorted_two r s e (suc k) d low high = absurd (no_more k high) where
  no_more : (k : ℕ) → suc k + 1 < 2 → ⊥
  no_more k h = omega arith

abbrev pub tied : List Item
tied = two (int 1) (int 5) ∷ two (int 1) (int 6) ∷ []

pub as_they_stand : Allows by_first 0 (Some 1) tied ((int 1 ∷ int 5 ∷ []) ∷ [])
unfolding value_cmp
as_they_stand = inr (record {
  arranged = tied;
  same = IsPermutation-refl tied;
  answers = record { sorted = sorted_two (int 1 ∷ int 5 ∷ []) (int 1 ∷ int 6 ∷ []) refl; clean = refl; cut = refl };
})

pub the_other_way : Allows by_first 0 (Some 1) tied ((int 1 ∷ int 6 ∷ []) ∷ [])
unfolding value_cmp
the_other_way = inr (record {
  arranged = two (int 1) (int 6) ∷ two (int 1) (int 5) ∷ [];
  same = IsPermutation-append_comm (two (int 1) (int 6) ∷ []) (two (int 1) (int 5) ∷ []);
  answers = record { sorted = sorted_two (int 1 ∷ int 6 ∷ []) (int 1 ∷ int 5 ∷ []) refl; clean = refl; cut = refl };
})

pub unsorted : IsSorted (row_cmp by_first) ((int 2 ∷ []) ∷ (int 1 ∷ []) ∷ []) → ⊥
unfolding value_cmp
unsorted s = false≢true (sym (s 0 [] (lit≤ tt) (lit≤ tt)))

-- ---- an answer from all items leaves no fault out

abbrev fault_weight : Item → ℕ
fault_weight (Ok row) = 0
fault_weight (Err f) = 1

one_each : (items : List Item) → sum_by (λ _. 1) items ≡ length items
one_each [] = refl
one_each (item ∷ items) = let a = sum_by-cons (λ _. 1) item items in let b = one_each items in omega arith

fault_count : (items : List Item) → sum_by fault_weight items ≡ length (faults items)
fault_count [] = refl
fault_count (Ok row ∷ items) = let a = sum_by-cons fault_weight (Ok row) items in let b = fault_count items in omega arith
fault_count (Err f ∷ items) = let a = sum_by-cons fault_weight (Err f) items in let b = fault_count items in omega arith

none_left : (fs : List ItemFault) → length fs ≡ 0 → fs ≡ []
none_left [] e = refl
none_left (f ∷ fs) e = cc

same_faults : (xs ys : List Item) → IsPermutation xs ys → faults xs ≡ [] → faults ys ≡ []
same_faults xs ys p e = none_left (faults ys) (sym (fault_count ys) ∙ sum_by-IsPermutation fault_weight xs ys p ∙ fault_count xs ∙ ap length e)

same_length : (xs ys : List Item) → IsPermutation xs ys → length ys ≡ length xs
same_length xs ys p = sym (one_each ys) ∙ sum_by-IsPermutation (λ _. 1) xs ys p ∙ one_each xs

take_all : (n : ℕ) (xs : List Item) → length xs ≤ n → take n xs ≡ xs
take_all zero [] h = refl
take_all (suc n) [] h = refl
take_all zero (x ∷ xs) h = absurd (none (length xs) h) where
  none : (n : ℕ) → suc n ≤ 0 → ⊥
  none n h = omega arith
take_all (suc n) (x ∷ xs) h = ap (λ ys. x ∷ ys) (take_all n xs (omega arith))

-- where there is no limit, or one that no item is past
pub no_fault_left_out : (order : List SortKey) (offset : ℕ) (items : List Item) (answer : List Cells) → IsArranged order offset None items answer → faults items ≡ []
no_fault_left_out order offset items answer a = same_faults a.arranged items a.same a.answers.clean

pub no_fault_within : (order : List SortKey) (offset limit : ℕ) (items : List Item) (answer : List Cells) → length items ≤ offset + limit → IsArranged order offset (Some limit) items answer → faults items ≡ []
no_fault_within order offset limit items answer h a =
    same_faults a.arranged items a.same
    (subst (λ is. faults is ≡ []) (take_all (offset + limit) a.arranged (subst (λ n. n ≤ offset + limit) (same_length a.arranged items a.same) h)) a.answers.clean)

-- so LIMIT 3 allows nothing over these items
pub past_the_fault : (answer : List Cells) → Allows [] 0 (Some 3) sixes answer → ⊥
past_the_fault answer (inl (e, _)) = cc
past_the_fault answer (inr a) = some_fault (no_fault_within [] 0 3 sixes answer (lit≤ tt) a) where
  some_fault : faults sixes ≡ [] → ⊥
  some_fault e = let wrong : 1 ≡ 0 = ap length e in cc
