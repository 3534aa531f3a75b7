-- Meaning: what a task as code is for a task of a run, by what it stands for and what it asks.
use Rattle.std.specs.Prelude.{ℕ, ◌≡◌, ◌⊎◌, true, Option, Some, None, List}
use Rattle.run_journal.specs.declared.cause.Cause.{Cause}
use Rattle.run_journal.specs.declared.entry.EntryKind.TheVariants.{Failed}
use Rattle.core_frame.specs.Step.{Need, Fail, may_fail}
use Rattle.logical_plan.specs.Items.{Cells}
use Rattle.tree_laws.specs.Tasks.{Task, Wait}
use Rattle.tree_laws.specs.Settles.{Settles}

-- What stands for the tasks of S and has this need is for the task k: it asks nothing yet, or asks what k comes to.
pub data IsHere (size : ℕ) (S : Task → Type 0) (need : Option (Need (List Cells))) (k : Task) : Type 0 where
  fresh : need ≡ None → S k → IsHere size S need k
  waits : (w : Wait) → Settles size k w → need ≡ Some w.need → S w.now → IsHere size S need k

-- it can't go on, for want of a device or of memory
pub record IsBroken (need : Option (Need (List Cells))) : Type 0 where
  pub cause : Cause
  pub device : may_fail (Failed cause) ≡ true
  pub fails : need ≡ Some (Fail cause)

abbrev pub IsFor : ℕ → (Task → Type 0) → Option (Need (List Cells)) → Task → Type 0
IsFor size S need k = IsHere size S need k ⊎ IsBroken need
