-- Words: what turns, needs and replies of tasks ensure, for clauses.
use Rattle.std.specs.Prelude.{ℕ, ◌≡◌, Bool, true, false, Option, Some, List, [], Result, IfOk, OnOk}
use Rattle.dfx_value.specs.Items.{Cells, Item}
use Rattle.history_laws.specs.Histories.{Reply, Gone}
use Rattle.tree_laws.specs.Operators.{Told, Op}
use Rattle.tree_laws.specs.Tasks.{Task as Task_, Split, turn, top_turn}
use Rattle.tree_laws.specs.Trees.{poll}
use Rattle.task_stations.specs.declared.task.Task.{Task}
use Rattle.task_stations.specs.declared.task.Exit.{Exit}
use Rattle.dfx_value.specs.KindedRows.{KindedRows}
use Rattle.task_stations.specs.declared.needs.Need.{Need as Need_}
use Rattle.task_stations.specs.declared.task.Ask.{Ask}
use Rattle.task_stations.specs.declared.task.Ask.TheVariants.{Of, Send}
use Rattle.task_stations.specs.Scans.{IsScan}
use Rattle.task_stations.specs.Lines.{Line}
use Rattle.task_stations.specs.Names.{are_named}
use Rattle.task_stations.specs.Turns.{IsExit, IsTask, IsAsked, TurnIs, TurnReplied, Settles, is_turn_named, is_ask_named}

module _ {C S : Type 0} (cuts : C → Split → ℕ → Type 0) (lines : S → Option (List Line)) where
  -- of a task without a header to write the exit is what it was with one, and the header is written
  abbrev pub Heads : {A E : Type 0} → Exit C S → Exit C S → Result A E → Type 0
  Heads old new r =
      (first : List Line) (o : Option Split) (n : ℕ) (output : List Cells) → IsExit cuts lines first old o true n output
      → OnOk r (IsExit cuts lines first new o false n output)

  module _ {T F : Type 0} (K : T → Op → Told → ℕ → Type 0) (source : F → ℕ) (left : F → Option (List Item)) where
    -- the code's task stands for this one, of batches of so many rows, over a sink that begins with these lines
    abbrev pub StandsFor : ℕ → List Line → Task T F C S → Task_ → Type 0
    StandsFor most first = IsTask cuts lines first K (IsScan source left most)

    -- and what its stations ask is read
    abbrev pub AsksFor : ℕ → List Line → Task T F C S → Task_ → Type 0
    AsksFor most first = IsAsked cuts lines first K (IsScan source left most)

    -- it is one turn of each task that it stands for
    abbrev pub Turns : {E : Type 0} → ℕ → Task T F C S → Task T F C S → Result (Option Ask) E → Type 0
    Turns most old new r =
        (first : List Line) (k : Task_) → StandsFor most first old k
        → IfOk r (TurnIs (StandsFor most first new) (AsksFor most first new) k (turn most k))

    -- and that turn is its tree's, where the header is written, no part is left, and somebody receives
    abbrev pub TopTurns : {E : Type 0} → ℕ → Task T F C S → Task T F C S → Result (Option Ask) E → Type 0
    TopTurns most old new r =
        (first : List Line) (k : Task_) → StandsFor most first old k → k.header ≡ false → k.leaving ≡ false → k.parts ≡ []
        → IfOk r (TurnIs (StandsFor most first new) (AsksFor most first new) k (top_turn k k.split (poll most k.tree)))

    -- each task that it stands for settles, and this is its need then
    abbrev pub Advances : {E : Type 0} → ℕ → Task T F C S → Task T F C S → Result Ask E → Type 0
    Advances most old new r =
        (first : List Line) (k : Task_) → StandsFor most first old k
        → IfOk r (Settles (StandsFor most first new) (AsksFor most first new) most k)

    -- it stands at this need of the task
    abbrev pub WaitsAt : ℕ → List Line → Task T F C S → Task_ → Ask → Type 0
    WaitsAt most first task k ask = TurnIs (StandsFor most first task) (AsksFor most first task) k (turn most k) (Some ask)

    -- where it stood at a need of its stations, it stands for what the task is after the reply
    abbrev pub Answers : {A E : Type 0} → Task T F C S → Task T F C S → Need_ → Reply (List Cells) → Result A E → Type 0
    Answers old new need x r =
        (first : List Line) (most : ℕ) (k : Task_) → WaitsAt most first old k (Of need)
        → OnOk r (TurnReplied (StandsFor most first new) (turn most k) x)

    -- where it handed out a part that nobody receives, it stands for what the task is after that
    abbrev pub Drops : Task T F C S → Task T F C S → Bool → Type 0
    Drops old new last =
        (first : List Line) (most : ℕ) (k : Task_) (channel : ℕ) (batch : KindedRows) → WaitsAt most first old k (Send channel batch)
        → TurnReplied (StandsFor most first new) (turn most k) (Gone last)

-- told or not: the task has the channels and consumers that it had, and a need of its stations names no others
abbrev pub TurnAsksOwn : {T F C S E : Type 0} → Task T F C S → Task T F C S → Result (Option Ask) E → Type 0
TurnAsksOwn old new r =
    (reads : ℕ → ℕ → Bool) (reserves : ℕ → Bool) → are_named reads reserves old.stations.items ≡ true
    → IfOk r (λ o. (are_named reads reserves new.stations.items ≡ true) × (is_turn_named reads reserves o ≡ true))

abbrev pub TaskAsksOwn : {T F C S E : Type 0} → Task T F C S → Task T F C S → Result Ask E → Type 0
TaskAsksOwn old new r =
    (reads : ℕ → ℕ → Bool) (reserves : ℕ → Bool) → are_named reads reserves old.stations.items ≡ true
    → IfOk r (λ a. (are_named reads reserves new.stations.items ≡ true) × (is_ask_named reads reserves a ≡ true))
