-- Meaning: items of which some are NULL, side by side.
use Rattle.std.specs.Prelude.{ℤ, Bool, List, map, Option, Some, None, Result, Ok, Err, replicate, ◌≡◌}
use Rattle.dfx_value.specs.declared.value.Value.{Value}
use Rattle.dfx_value.specs.declared.value.Value.TheVariants as value
use Rattle.dfx_value.specs.declared.fault.EvalFault.{EvalFault}
use Rattle.scalar_exprs.specs.Functions.{Outcome}
use Rattle.value_columns.specs.Columns.{or_null}
use Rattle.value_columns.specs.Masked.{masked}
use Rattle.scalar_vector.specs.declared.items.Items.{Items}
use Rattle.scalar_vector.specs.declared.items.Items.TheVariants as items
use Rattle.scalar_vector.specs.Woven.{woven}

abbrev pub items_of : {A : Type 0} → Items A → List (Option A)
items_of (items.Many xs bits) = masked xs.now bits.now
items_of (items.One x n) = replicate n (Some x)
items_of (items.Nulls n) = replicate n None

-- whole numbers and truths as values
abbrev pub ints : List (Option ℤ) → List Value
ints = map (or_null value.Int)

abbrev pub truths : List (Option Bool) → List Value
truths = map (or_null value.Bool)

-- an item, NULL or a fault, as an outcome
abbrev pub outcome_of : {A : Type 0} → (A → Value) → Result (Option A) EvalFault → Outcome
outcome_of f (Ok item) = Ok (or_null f item)
outcome_of f (Err fault) = Err fault

-- these items are woven of two lists, whatever values they are
abbrev pub AreWoven : {A : Type 0} → List Bool → List (Option A) → Option EvalFault → List (Option A) → Option EvalFault → List (Option A) → Option EvalFault → Type 0
AreWoven {A} marks ts t_fault ns n_fault ws fault =
    (f : A → Value) → record { values = map (or_null f) ws; fault = fault } ≡ woven marks (map (or_null f) ts) t_fault (map (or_null f) ns) n_fault
