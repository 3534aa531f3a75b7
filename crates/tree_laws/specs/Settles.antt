-- Meaning: what a task comes to, and where entries lead, within some number of steps.
use Rattle.std.specs.Prelude.{ℕ, ◌≡◌, Some, List}
use Rattle.run_journal.specs.declared.entry.Entry.{Entry}
use Rattle.task_shape.specs.Shape.{Shape}
use Rattle.tree_laws.specs.Tasks.{Task, Wait, settle}
use Rattle.tree_laws.specs.Runs.{State, state_replay}

-- the task comes to this need
abbrev pub Settles : ℕ → Task → Wait → Type 0
Settles size k w = (steps : ℕ) × (settle size steps k ≡ Some w)

-- the entries lead from the one state to the other
abbrev pub Leads : Shape → ℕ → State → List Entry → State → Type 0
Leads p size start entries s = (steps : ℕ) × (state_replay p size steps (Some start) entries ≡ Some s)
