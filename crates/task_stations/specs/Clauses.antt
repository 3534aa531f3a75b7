-- Words: what steps and replies of stations ensure, for clauses.
use Rattle.std.specs.Prelude.{ℕ, ◌≡◌, Bool, true, Option, List, Result, IfOk, OnOk}
use Rattle.core_frame.specs.Step.{Need}
use Rattle.dfx_value.specs.Items.{Cells, Item}
use Rattle.tree_laws.specs.Operators.{Told, Op}
use Rattle.tree_laws.specs.Trees.{Tree, poll}
use Rattle.history_laws.specs.Histories.{Reply}
use Rattle.task_stations.specs.declared.station.Station.{Station}
use Rattle.task_stations.specs.declared.needs.Step.{Step}
use Rattle.task_stations.specs.Scans.{IsScan}
use Rattle.task_stations.specs.Stands.{Stands, Asked, StepIs, Replied}
use Rattle.task_stations.specs.Names.{are_named, is_named}

-- the step is one poll of each tree that the stations stand for, and they stand for it after that; most: the rows of a batch
abbrev pub Polls : {T F E : Type 0} → (T → Op → Told → ℕ → Type 0) → (F → ℕ) → (F → Option (List Item)) → ℕ → List (Station T F) → List (Station T F) → Result Step E → Type 0
Polls K source left most old new r =
    (t : Tree) → Stands K (IsScan source left most) old t
    → IfOk r (StepIs (Stands K (IsScan source left most) new) (Asked K (IsScan source left most) new) t (poll most t))

-- the stations that asked stand for what the tree is after the reply
abbrev pub Replies : {T F E A : Type 0} → (T → Op → Told → ℕ → Type 0) → (F → ℕ) → (F → Option (List Item)) → List (Station T F) → List (Station T F) → Need (List Cells) → Reply (List Cells) → Result A E → Type 0
Replies K source left old new need x r =
    (most : ℕ) (t : Tree) → Asked K (IsScan source left most) old t
    → OnOk r (Replied (Stands K (IsScan source left most) new) need (poll most t) x)

-- told or not: the stations have the channels and consumers that they had
abbrev pub KeepsNames : {T F : Type 0} → List (Station T F) → List (Station T F) → Type 0
KeepsNames old new =
    (reads : ℕ → ℕ → Bool) (reserves : ℕ → Bool) → are_named reads reserves old ≡ true
    → are_named reads reserves new ≡ true

-- told or not: the stations have the channels and consumers that they had, and a need names no others
abbrev pub AsksOwn : {T F E : Type 0} → List (Station T F) → List (Station T F) → Result Step E → Type 0
AsksOwn old new r =
    (reads : ℕ → ℕ → Bool) (reserves : ℕ → Bool) → are_named reads reserves old ≡ true
    → IfOk r (λ s. (are_named reads reserves new ≡ true) × (is_named reads reserves s ≡ true))
