-- Meaning: causes at the file that their fault names.
use Rattle.std.specs.Prelude.{ℕ, ◌≡◌, ◌⊎◌, true, Some, List, slice_get}
use Rattle.dfx_value.specs.declared.fault.ItemFault.{ItemFault}
use Rattle.run_journal.specs.declared.cause.Cause.{Cause}
use Rattle.kind_laws.specs.Tables.{names_file}
use Rattle.tree_laws.specs.Trees.{cause_at}
use Rattle.fault_laws.specs.Found.{IsIn, IsEvaluation}

-- the cause is one of these faults: of an evaluation by an operator, or one that names a file, at a source that is
-- this file, where the sources are these files
abbrev pub EndsAt : List ItemFault → List (ℕ × ℕ) → Cause → Type 0
EndsAt met places cause = (f : ItemFault) × IsIn f met
    × (IsEvaluation f cause
    ⊎ ((source table file : ℕ) × (slice_get places source ≡ Some (table, file)) × (names_file table file f ≡ true)
    × (cause ≡ cause_at source f)))
