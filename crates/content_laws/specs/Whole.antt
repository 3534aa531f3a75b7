-- Meaning: whole contents of a state's channels: what would have been sent and taken, had everybody gone on.
use Rattle.std.specs.Prelude.{ℕ, zero, suc, ◌≡◌, true, if◌then◌else◌, List, [], ◌++◌, length, drop}
use Rattle.std.specs.List.{sum_by}
use Rattle.task_shape.specs.Shape.{Shape, task_at, is_group, receives_at}
use Rattle.history_laws.specs.Histories.{Past, past_of}
use Rattle.history_laws.specs.Contents.{took, parts_sent, IsContents}
use Rattle.logical_plan.specs.Items.{Cells, Item, of_rows, concat}
use Rattle.tree_laws.specs.Trees.{Tree, gave_of}
use Rattle.tree_laws.specs.Linked.{whole}
use Rattle.tree_laws.specs.Tasks.{Parts, handled}
use Rattle.tree_laws.specs.Runs.{State, the_task, for_channel}
use Rattle.content_laws.specs.Bags.{sum_below}
use Rattle.content_laws.specs.Senders.{Deal}

abbrev pub past_in : State → ℕ → Past (List Cells)
past_in s t = past_of s.run.pasts t

abbrev pub tree_in : State → ℕ → Tree
tree_in s t = (the_task s.tasks t).tree

-- all parts that task u cut: those that were handled, and those that wait
abbrev pub parts_of : State → ℕ → Parts
parts_of s u = handled (past_in s u) ++ (the_task s.tasks u).parts

-- the parts that u cut for channel c and didn't send: those that were refused, and those that wait
abbrev pub unsent : State → ℕ → ℕ → List (List Cells)
unsent s u c = drop (length (parts_sent c (past_in s u))) (for_channel c (parts_of s u))

-- what u would still give of whole channels
abbrev pub still : State → (ℕ → ℕ → List Item) → ℕ → List Item
still s full u = drop (length (gave_of (tree_in s u))) (whole full (tree_in s u))

-- what channel c of group g would still get of the senders below n, each one's in its order
abbrev pub to_come : Shape → State → (ℕ → Deal) → (ℕ → ℕ → List Item) → ℕ → ℕ → ℕ → List Item
to_come p s deal full g c zero = []
to_come p s deal full g c (suc u) = to_come p s deal full g c u
    ++ (if is_group (task_at p u).sends g then of_rows (concat (unsent s u c)) ++ deal u c (still s full u) else [])

-- what its receiver t took of the channel, then what is left there, then what is to come
pub record IsFull (p : Shape) (s : State) (deal : ℕ → Deal) (full : ℕ → ℕ → List Item) (t g c : ℕ) : Type 0 where
  pub contents : IsContents p s.run.frame s.run.pasts t g c
  pub all : full g c ≡ of_rows (concat (took g c (past_in s t)))
      ++ (of_rows (concat contents.rest) ++ to_come p s deal full g c (length p.tasks))

-- these are whole contents of all channels
abbrev pub AreFull : Shape → State → (ℕ → Deal) → (ℕ → ℕ → List Item) → Type 0
AreFull p s deal full = (t g c : ℕ) → receives_at p t g c ≡ true → IsFull p s deal full t g c

-- what the senders of group g would give together, in this weight
abbrev pub given_weight : Shape → State → (ℕ → ℕ → List Item) → (Item → ℕ) → ℕ → ℕ
given_weight p s full w g = sum_below (length p.tasks) (λ u. if is_group (task_at p u).sends g then sum_by w (whole full (tree_in s u)) else 0)

-- what task u would give, where it sends to group g
abbrev pub given_to : Shape → State → (ℕ → ℕ → List Item) → ℕ → ℕ → List Item
given_to p s full g u = if is_group (task_at p u).sends g then whole full (tree_in s u) else []
