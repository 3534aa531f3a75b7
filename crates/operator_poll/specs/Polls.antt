-- Meaning: what an operator asks and gives, by what it was told and how many items it gave.
use Rattle.std.specs.Prelude.{ℕ, ◌<◌, ◌≡◌, false, Bool, if◌then◌else◌, Option, Some, None, List, [], Result, Ok, Err, length, drop}
use Rattle.dfx_value.specs.Items.{Item, of_rows}
use Rattle.dfx_value.specs.KindedRows.{KindedRows}
use Rattle.dfx_value.specs.declared.fault.ItemFault.TheVariants.{Evaluation}
use Rattle.tree_laws.specs.Operators.{Op, Told, first_fault}
use Rattle.tree_laws.specs.OperatorKinds.{is_empty}
use Rattle.operator_poll.specs.declared.refused.OpRefused.{OpRefused}
use Rattle.operator_poll.specs.declared.refused.OpRefused.TheVariants as refused

-- nothing was told yet
abbrev pub untold : Told
untold = record { taken = λ _. []; closed = []; since = []; ended = λ _. false }

-- the items that are left where so many were given
abbrev pub left : Op → Told → ℕ → List Item
left op t n = drop n (op.items t)

-- no input where items are left or the output is complete, else the one that the operator asks
abbrev pub wants : Op → Told → ℕ → Option ℕ
wants op t n = if is_empty (left op t n) then (if op.is_complete t then None else Some (op.wanted t)) else None

-- the answer to a wish for items of which these are the next ones: none, their rows, or their first fault; a spill file's
-- failure and want of memory may come in place of it
abbrev pub IsCut : List Item → Result (Option KindedRows) OpRefused → Type 0
IsCut cut (Ok None) = cut ≡ []
IsCut cut (Ok (Some batch)) = (cut ≡ of_rows batch.rows) × (0 < length batch.rows)
IsCut cut (Err (refused.Fault f)) = first_fault cut ≡ Some (Evaluation f)
IsCut cut (Err refused.Spill) = Unit {0}
IsCut cut (Err refused.NoMemory) = Unit {0}

-- how many rows were given
abbrev pub count : Option KindedRows → ℕ
count None = 0
count (Some batch) = length batch.rows
