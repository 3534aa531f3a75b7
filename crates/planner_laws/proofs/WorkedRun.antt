-- A worked run from a plan's start to its end: a Coalesce over the scan of two files, a row in each, in two partitions.
use Rattle.std.specs.Prelude.{pos}
use Rattle.std.proofs.Common.{ℕ, ◌≡◌, refl, sym, ap, ◌∙◌, List, [], ◌∷◌, Bool, false, Option, Some, None, Ok}
use Rattle.dfx_value.specs.declared.kind.Kind.TheVariants as kind
use Rattle.dfx_value.specs.declared.value.Value.TheVariants as value
use Rattle.run_journal.specs.declared.entry.Entry.{Entry}
use Rattle.run_journal.specs.declared.entry.EntryKind.{EntryKind}
use Rattle.run_journal.specs.declared.entry.EntryKind.TheVariants.{Claimed, Scanned, Received, Empty, Ended as EndedKind, Sent, Held, Wrote, Finished}
use Rattle.task_shape.proofs.Worked.{two_scans}
use Rattle.core_frame.specs.Frame.{place_of}
use Rattle.core_frame.specs.Step.{wake, put_gate, with_pool, move_to, progress_is, failed}
use Rattle.core_frame.specs.declared.place.Place.{Place}
use Rattle.core_frame.specs.declared.place.Place.TheVariants.{Woken, Done}
use Rattle.gate_channels.specs.Gate.{sent, received, ended, awaited, dropped, held}
use Rattle.plan_props.specs.Meets.{Hashing}
use Rattle.physical_plan.specs.declared.plan.Plan.{Plan}
use Rattle.physical_plan.specs.declared.plan.Plan.TheOpen.{Plan-F}
use Rattle.physical_plan.specs.declared.plan.Plan.TheViews.{roll-Plan}
use Rattle.physical_plan.specs.declared.plan.Plan.TheFolds.{fold-roll-Plan}
use Rattle.plan_shape.specs.Layout.{Laying, lay, layout, shape}
use Rattle.history_laws.specs.Histories.{begun}
use Rattle.logical_plan.specs.Items.{Cells}
use Rattle.logical_plan.specs.Body.{Tables}
use Rattle.tree_laws.specs.Tasks.{Task}
use Rattle.tree_laws.specs.Runs.{State, the_task, state_replay}
use Rattle.content_laws.specs.SenderKinds.{whole_split}
use Rattle.plan_task_laws.specs.Trees.{Doing, inlet, scan}
use Rattle.plan_task_laws.specs.Starts.{starting, tasks_of, start_of}
use Rattle.plan_task_laws.proofs.Laws.{grown, topped}
use Rattle.part_laws.specs.Made.{Amount}
use Rattle.part_laws.specs.Doing.{the_doing}
use Rattle.planner_laws.specs.Channels.{channel_by}

row : ℕ → Cells
row n = value.Int (pos n) ∷ []

two_files : Tables
two_files = ((Ok (row 7) ∷ []) ∷ (Ok (row 8) ∷ []) ∷ []) ∷ []

abbrev scanning : Plan-F Plan
scanning = Plan-F.Scan 0 (kind.Int ∷ []) 2 2

abbrev coalescing : Plan-F Plan
coalescing = Plan-F.Coalesce (roll-Plan scanning)

abbrev plan : Plan
plan = roll-Plan coalescing

shape_is : shape plan ≡ two_scans
unfolding shape layout two_scans
shape_is = (let a = fold-roll-Plan Laying lay coalescing in let b = fold-roll-Plan Laying lay scanning in rw (a, b) refl)

by : ℕ → EntryKind → Entry
by t k = record { worker = 0; task = t; kind = k }

-- the second scan finds the channel full, and waits at its gate
entries : List Entry
entries =
    by 0 Claimed ∷ by 0 Wrote ∷ by 0 Empty
    ∷ by 1 Claimed ∷ by 1 Scanned ∷ by 1 Sent ∷ by 1 Finished
    ∷ by 2 Claimed ∷ by 2 Scanned ∷ by 2 Held
    ∷ by 0 Claimed ∷ by 0 Received ∷ by 0 Wrote ∷ by 0 Empty
    ∷ by 2 Claimed ∷ by 2 Sent ∷ by 2 Finished
    ∷ by 0 Claimed ∷ by 0 Received ∷ by 0 Wrote ∷ by 0 EndedKind ∷ by 0 Finished ∷ []

output_of : Option State → List Cells
output_of None = []
output_of (Some s) = (the_task s.tasks 0).output

root_place : Option State → Place
root_place None = Woken
root_place (Some s) = place_of s.run.frame 0

module _ (h : Hashing) (amount : Plan-F Plan → Amount) where
  abbrev doing : Doing
  doing = the_doing two_files amount (channel_by h)

  tasks : List Task
  tasks = starting None (inlet 1 0)
      ∷ starting (Some (whole_split (λ j. 0))) (scan (record { source = 0; items = Ok (row 7) ∷ [] } ∷ []))
      ∷ starting (Some (whole_split (λ j. 0))) (scan (record { source = 1; items = Ok (row 8) ∷ [] } ∷ []))
      ∷ []

  tasks_are : tasks_of doing plan ≡ tasks
  unfolding tasks two_files
  tasks_are =
      let a = grown doing coalescing in
      let b = topped coalescing in
      let c = grown doing scanning in
      let d = topped scanning in
      rw (b, a, d, c) refl

  start : State
  start = record { run = begun two_scans 1000; tasks = tasks }

  start_is : start_of doing plan 1000 ≡ start
  unfolding start
  start_is = (let a = shape_is in let b = tasks_are in rw (a, b) refl)

  replay_is : state_replay (shape plan) 2 10 (Some (start_of doing plan 1000)) entries ≡ state_replay two_scans 2 10 (Some start) entries
  replay_is = ap (λ p. state_replay p 2 10 (Some (start_of doing plan 1000)) entries) shape_is ∙ ap (λ s. state_replay two_scans 2 10 (Some s) entries) start_is

  output_computed : output_of (state_replay two_scans 2 10 (Some start) entries) ≡ row 7 ∷ row 8 ∷ []
  unfolding two_scans start entries tasks row by output_of sent received ended awaited held dropped wake put_gate with_pool move_to progress_is failed
  output_computed = refl

  place_computed : root_place (state_replay two_scans 2 10 (Some start) entries) ≡ Done
  unfolding two_scans start entries tasks row by root_place sent received ended awaited held dropped wake put_gate with_pool move_to progress_is failed
  place_computed = refl

  -- the rows of both files are written, and the root has finished
  output : output_of (state_replay (shape plan) 2 10 (Some (start_of doing plan 1000)) entries) ≡ row 7 ∷ row 8 ∷ []
  output = ap output_of replay_is ∙ output_computed

  done : root_place (state_replay (shape plan) 2 10 (Some (start_of doing plan 1000)) entries) ≡ Done
  done = ap root_place replay_is ∙ place_computed
