-- Meaning: batches that have rows, and tasks that cut such batches into such parts.
use Rattle.std.specs.Prelude.{ℕ, ◌≡◌, Some, List, [], ◌∷◌}
use Rattle.logical_plan.specs.Items.{Cells}
use Rattle.tree_laws.specs.Tasks.{Parts, Split, Task}
use Rattle.tree_laws.specs.Runs.{the_task}

-- the batch isn't empty
abbrev pub HasRows : List Cells → Type 0
HasRows [] = ⊥
HasRows (row ∷ rows) = Unit {0}

abbrev pub EachHasRows : List (List Cells) → Type 0
EachHasRows [] = Unit {0}
EachHasRows (b ∷ bs) = HasRows b × EachHasRows bs

-- no part is empty
abbrev pub AllHaveRows : Parts → Type 0
AllHaveRows [] = Unit {0}
AllHaveRows (x ∷ xs) = HasRows x.1 × AllHaveRows xs

-- a batch that has rows is cut into parts that have rows
abbrev pub SendsRows : Split → Type 0
SendsRows split = (j : ℕ) (b : List Cells) → HasRows b → AllHaveRows (split j b)

-- a task that cuts its batches so, and no part of which waits without rows
pub record IsFilled (k : Task) : Type 0 where
  pub split : (split : Split) → k.split ≡ Some split → SendsRows split
  pub parts : AllHaveRows k.parts

abbrev pub AreFilled : List Task → Type 0
AreFilled tasks = (t : ℕ) → IsFilled (the_task tasks t)
