-- Small cases: faults among the rows that are merged, what would be with faults last, ties, and a fault behind a limit.
use Rattle.std.proofs.Common.{◌≡◌, refl, ℕ, zero, suc, Bool, true, false, List, [], ◌∷◌, Some, Ok, Err, pos}
use Rattle.dfx_value.specs.Order.{value_cmp}
use Rattle.dfx_value.specs.declared.fault.EvalFault.TheVariants.{DivideByZero}
use Rattle.dfx_value.specs.declared.fault.ItemFault.TheVariants.{Evaluation}
use Rattle.dfx_value.specs.declared.rows.SortKey.{SortKey}
use Rattle.dfx_value.specs.declared.value.Value.TheVariants as value
use Rattle.logical_plan.specs.Items.{Cells, Item, rows}
use Rattle.logical_plan.specs.Allowed.{Allows}
use Rattle.tree_laws.specs.OperatorKinds.{merge}
use Rattle.sort_laws.specs.Sorting.{sorted, row_before, item_before, sort_items}
use Rattle.sort_laws.proofs.Answers.{limit_taken}
use Rattle.sort_laws.proofs.Rows.{unordered}

row : ℕ → ℕ → Cells
row a b = value.Int (pos a) ∷ value.Int (pos b) ∷ []

fault : Item
fault = Err (Evaluation DivideByZero)

by_first : List SortKey
by_first = record { column = 0; descending = false; nulls_first = false } ∷ []

two : List Item → List Item → ℕ → List Item
two xs ys zero = xs
two xs ys (suc n) = ys

-- a fault in the middle of an input hides no row, and stays in the middle
middle : (merge (item_before by_first) 2 (two (Ok (row 1 0) ∷ fault ∷ Ok (row 3 0) ∷ []) (Ok (row 2 0) ∷ [])) (λ _. true)).given
    ≡ Ok (row 1 0) ∷ fault ∷ Ok (row 2 0) ∷ Ok (row 3 0) ∷ []
unfolding value_cmp row fault by_first two
middle = refl

-- with faults last it would hide the row behind it
last : Item → Item → Bool
last (Ok r) (Err g) = true
last (Ok r) (Ok s) = row_before by_first r s
last (Err f) y = false

hidden : rows (merge last 2 (two (fault ∷ Ok (row 1 0) ∷ []) (Ok (row 2 0) ∷ [])) (λ _. true)).given ≡ row 2 0 ∷ row 1 0 ∷ []
unfolding value_cmp row fault by_first two last
hidden = refl

-- ties in the order in which they stood, and to the lower input
ties_stand : sorted (row_before by_first) (row 2 0 ∷ row 1 5 ∷ row 1 4 ∷ []) ≡ row 1 5 ∷ row 1 4 ∷ row 2 0 ∷ []
unfolding value_cmp row by_first
ties_stand = refl

lower_first : (merge (item_before by_first) 2 (two (Ok (row 1 7) ∷ []) (Ok (row 1 6) ∷ [])) (λ _. true)).given ≡ Ok (row 1 7) ∷ Ok (row 1 6) ∷ []
unfolding value_cmp row by_first two
lower_first = refl

faults_first : sort_items by_first (Ok (row 2 0) ∷ fault ∷ Ok (row 1 0) ∷ []) ≡ fault ∷ Ok (row 1 0) ∷ Ok (row 2 0) ∷ []
unfolding value_cmp row fault by_first
faults_first = refl

-- LIMIT 1 that has read one row ends before the fault
before_the_fault : Allows [] 0 (Some 1) (Ok (row 1 0) ∷ fault ∷ []) (row 1 0 ∷ [])
unfolding row fault
before_the_fault =
    limit_taken [] 0 (Some 1) (row 1 0 ∷ []) false (Ok (row 1 0) ∷ fault ∷ []) (Ok (row 1 0) ∷ fault ∷ [])
    (record { front = (fault ∷ [], refl); all = λ e. cc }) refl (λ w same. refl) (unordered (row 1 0 ∷ []))
