-- Meaning: what an operator gives of the items that are left.
use Rattle.std.specs.Prelude.{ℕ, ◌≡◌, Bool, true, false, Some, None, List, [], ◌∷◌, length, take}
use Rattle.dfx_value.specs.Items.{Item}
use Rattle.tree_laws.specs.Operators.{rows_in, first_fault}
use Rattle.task_stations.specs.declared.operator.Given.{Given}
use Rattle.task_stations.specs.declared.operator.Given.TheVariants as given
use Rattle.task_stations.specs.declared.operator.OperatorRefused.{OperatorRefused}
use Rattle.task_stations.specs.declared.operator.OperatorRefused.TheVariants as refused
use Rattle.task_stations.specs.declared.needs.StepRefused.{StepRefused}
use Rattle.task_stations.specs.declared.needs.StepRefused.TheVariants as step

abbrev pub is_none : List Item → Bool
is_none [] = true
is_none (_ ∷ _) = false

-- the answer is the cut of these items: nothing where there is none, else its rows or its first fault
abbrev pub IsCut : ℕ → List Item → Given → Type 0
IsCut most left given.Nothing = left ≡ []
IsCut most left (given.Rows rows) = (is_none left ≡ false) × (first_fault (take most left) ≡ None) × (rows.rows ≡ rows_in (take most left))
IsCut most left (given.Fault f) = first_fault (take most left) ≡ Some f

abbrev pub count : Given → ℕ
count (given.Rows rows) = length rows.rows
count _ = 0

-- after a fault nothing is said
abbrev pub UnlessFault : Given → Type 0 → Type 0
UnlessFault (given.Fault f) P = Unit {0}
UnlessFault _ P = P

-- a step that an operator refuses
abbrev pub step_refused : OperatorRefused → StepRefused
step_refused refused.Spill = step.Spill
step_refused refused.NoMemory = step.NoMemory
