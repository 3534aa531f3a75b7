-- Meaning: what is asked of a task that sends: its parts keep its rows, and so does the way in which what it has not given would go.
use Rattle.std.specs.Prelude.{ℕ, ◌<◌, ◌≡◌, Bool, false, true, Some, List, [], ◌∷◌}
use Rattle.std.specs.List.{sum_by, AllPass}
use Rattle.task_shape.specs.Shape.{Shape, task_at, has, is_group, sends_at, width}
use Rattle.logical_plan.specs.Items.{Cells, Item, of_rows, concat}
use Rattle.tree_laws.specs.Tasks.{Parts, Split, Task}
use Rattle.tree_laws.specs.Runs.{the_task, for_channel}
use Rattle.content_laws.specs.Bags.{sum_below}
use Rattle.content_laws.specs.Subsequences.{IsSubsequence}

-- the rows of the parts, without their channels
abbrev pub bodies : Parts → List (List Cells)
bodies [] = []
bodies (x ∷ xs) = x.1 ∷ bodies xs

-- to which channel each item would go that a task still gives: of these items, those of a channel
abbrev pub Deal : Type 0
Deal = ℕ → List Item → List Item

-- a task u that sends to group g: a batch's parts hold its rows, and what is dealt to its targets is what there is to deal
pub record IsSender (p : Shape) (u g : ℕ) (split : Split) (deal : Deal) : Type 0 where
  pub kept : (w : Item → ℕ) (j : ℕ) (b : List Cells) → sum_by w (of_rows (concat (bodies (split j b)))) ≡ sum_by w (of_rows b)
  pub nothing : (c : ℕ) → deal c [] ≡ []
  pub aside : (c : ℕ) (xs : List Item) → has (task_at p u).targets c ≡ false → deal c xs ≡ []
  pub dealt : (w : Item → ℕ) (xs : List Item) → sum_below (width p g) (λ c. sum_by w (deal c xs)) ≡ sum_by w xs

-- each task that sends to a group does so in such a way
abbrev pub AreSenders : Shape → List Task → (ℕ → Deal) → Type 0
AreSenders p tasks deal = (u g : ℕ) → is_group (task_at p u).sends g ≡ true
    → (split : Split) × ((the_task tasks u).split ≡ Some split) × IsSender p u g split (deal u)

-- what passes a test, alone: the parts for channel c of each batch, and what is dealt to it
pub record SendsOnly (test : Item → Bool) (c : ℕ) (split : Split) (deal : Deal) : Type 0 where
  pub parts : (j : ℕ) (b : List Cells) → AllPass test (of_rows (concat (for_channel c (split j b))))
  pub dealt : (xs : List Item) → AllPass test (deal c xs)

-- task u alone sends to channel c of group g, and all that it gives, in order
pub record IsOnlySender (p : Shape) (tasks : List Task) (deal : ℕ → Deal) (u g c : ℕ) : Type 0 where
  pub sends : is_group (task_at p u).sends g ≡ true
  pub inside : c < width p g
  pub alone : (v : ℕ) → sends_at p v g c ≡ true → u ≡ v
  pub here : (split : Split) → (the_task tasks u).split ≡ Some split → (j : ℕ) (b : List Cells) → concat (for_channel c (split j b)) ≡ b
  pub dealt : (xs : List Item) → deal u c xs ≡ xs

-- what is sent to a channel stands in the order in which it is given: its parts of each batch, and what is dealt to it
pub record SendsInOrder (split : Split) (deal : Deal) : Type 0 where
  pub parts : (c j : ℕ) (b : List Cells) → IsSubsequence (concat (for_channel c (split j b))) b
  pub dealt : (c : ℕ) (xs : List Item) → IsSubsequence (deal c xs) xs

-- task u alone sends to group g, in order
pub record IsLoneSender (p : Shape) (tasks : List Task) (deal : ℕ → Deal) (u g : ℕ) : Type 0 where
  pub sends : is_group (task_at p u).sends g ≡ true
  pub alone : (v : ℕ) → is_group (task_at p v).sends g ≡ true → u ≡ v
  pub ordered : (split : Split) → (the_task tasks u).split ≡ Some split → SendsInOrder split (deal u)
