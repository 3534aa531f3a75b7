-- What rows are alike to has no fault.
use Rattle.std.specs.List.{sum_by}
use Rattle.std.proofs.Common.{ℕ, ◌≡◌, refl, sym, ◌∙◌, List, [], ◌∷◌, Ok, Err, arith}
use Rattle.std.proofs.lemmas.List.Sums.{sum_by-cons}
use Rattle.logical_plan.specs.Items.{Cells, Item, of_rows, faults}
use Rattle.content_laws.specs.Bags.{Alike}

abbrev fault_weight : Item → ℕ
fault_weight (Ok row) = 0
fault_weight (Err f) = 1

unfaulty : (rows : List Cells) → sum_by fault_weight (of_rows rows) ≡ 0
unfaulty [] = refl
unfaulty (r ∷ rows) = (let a = sum_by-cons fault_weight (Ok r) (of_rows rows) in let b = unfaulty rows in omega arith)

no_faults : (items : List Item) → sum_by fault_weight items ≡ 0 → faults items ≡ []
no_faults [] e = refl
no_faults (Ok r ∷ items) e = no_faults items (let a = sum_by-cons fault_weight (Ok r) items in omega arith)
no_faults (Err f ∷ items) e = absurd (let a = sum_by-cons fault_weight (Err f) items in omega arith)

pub clean : (given : List Cells) (items : List Item) → Alike (of_rows given) items → faults items ≡ []
clean given items h = no_faults items (sym (h fault_weight (λ f g. refl)) ∙ unfaulty given)
