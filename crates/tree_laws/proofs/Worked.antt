-- The worked runs of the README, computed from the definitions.
use Rattle.std.proofs.Common.{ℕ, ◌+◌, ◌≡◌, inr, ◌&&◌, not, refl, List, [], ◌∷◌, length, take, map, Option, Some, None, Bool, true, false, cond, eqb, Ok, Err}
use Rattle.dfx_value.specs.declared.fault.ItemFault.{ItemFault}
use Rattle.dfx_value.specs.declared.value.Value.TheVariants as value
use Rattle.run_journal.specs.declared.cause.Cause.{Cause}
use Rattle.run_journal.specs.declared.entry.Entry.{Entry}
use Rattle.run_journal.specs.declared.entry.EntryKind.{EntryKind}
use Rattle.run_journal.specs.declared.entry.EntryKind.TheVariants.{Claimed, Scanned, Received, Empty, Ended as EndedKind, Sent, Held, Granted, Refused as RefusedKind, Freed, Wrote, Finished}
use Rattle.gate_channels.specs.Gate.{sent, received, ended, awaited, dropped, held}
use Rattle.fair_pool.specs.Share.{share_of, grants, held_by}
use Rattle.task_shape.proofs.Worked.{two_scans, one_sort}
use Rattle.core_frame.specs.Step.{Need, Scan, Grow, Free, Writes, Fail, wake, put_gate, with_pool, move_to, progress_is, failed}
use Rattle.history_laws.specs.Histories.{Go, past_of, begun}
use Rattle.history_laws.specs.Reserved.{kept}
use Rattle.logical_plan.specs.Items.{Cells, Item}
use Rattle.tree_laws.specs.Operators.{Op}
use Rattle.tree_laws.specs.OperatorKinds.{end_op, merge}
use Rattle.tree_laws.specs.Trees.{File, Tree, Nothing, Files, Inlet, Node, Poll, Gives, Ends, Moves, Asks, cause_at, poll, IsSubtree, form, FormReads, FormReserves}
use Rattle.tree_laws.specs.Tasks.{Split, Task}
use Rattle.tree_laws.specs.Runs.{State, the_task, state_replay}
use Rattle.tree_laws.specs.Held.{IsApart, IsHolding}

by : ℕ → EntryKind → Entry
by t k = record { worker = 0; task = t; kind = k }

-- a row of one cell
row : Bool → Cells
row b = value.Bool b ∷ []

output_of : ℕ → Option State → List Cells
output_of t None = []
output_of t (Some s) = (the_task s.tasks t).output

needs_of : ℕ → Option State → List (Need (List Cells))
needs_of t None = []
needs_of t (Some s) = map (λ x. x.0) (past_of s.run.pasts t)

-- ------------------------------------------------------------ a Coalesce over the scans of two files

-- each batch goes whole to channel 0
to_first : Split
to_first j b = (0, b) ∷ []

scan_of : List Item → ℕ → Task
scan_of file source = record { tree = Files file (record { source = source; items = file } ∷ []) [] []; header = false; split = Some to_first; batches = 0; parts = []; leaving = false; output = [] }

root : Task
root = record { tree = Inlet 1 0 [] [] false; header = true; split = None; batches = 0; parts = []; leaving = false; output = [] }

two_scans_start : State
two_scans_start = record { run = begun two_scans 1000; tasks = root ∷ scan_of (Ok (row true) ∷ []) 0 ∷ scan_of (Ok (row false) ∷ []) 1 ∷ [] }

two_scans_run : List Entry
two_scans_run =
    by 0 Claimed ∷ by 0 Wrote ∷ by 0 Empty
    ∷ by 1 Claimed ∷ by 1 Scanned ∷ by 1 Sent ∷ by 1 Finished
    ∷ by 2 Claimed ∷ by 2 Scanned ∷ by 2 Held
    ∷ by 0 Claimed ∷ by 0 Received ∷ by 0 Wrote ∷ by 0 Empty
    ∷ by 2 Claimed ∷ by 2 Sent ∷ by 2 Finished
    ∷ by 0 Claimed ∷ by 0 Received ∷ by 0 Wrote ∷ by 0 EndedKind ∷ by 0 Finished ∷ []

-- the entries alone lead to the rows that are written
two_scans_output : output_of 0 (state_replay two_scans 2 10 (Some two_scans_start) two_scans_run) ≡ row true ∷ row false ∷ []
unfolding two_scans two_scans_start two_scans_run root scan_of to_first row by output_of sent received ended awaited held dropped wake put_gate with_pool move_to progress_is failed
two_scans_output = refl

-- and an entry of another kind than the need's leads nowhere: task 1 reads before it sends
no_early_send : output_of 0 (state_replay two_scans 2 10 (Some two_scans_start) (by 1 Claimed ∷ by 1 Sent ∷ [])) ≡ []
unfolding two_scans two_scans_start root scan_of to_first row by output_of sent received ended awaited held dropped wake put_gate with_pool move_to progress_is failed
no_early_send = refl

-- ------------------------------------------------------------ a sort that spills

-- the rows in the order taken, after the end; each takes 4 bytes
kept_rows : Op
kept_rows = end_op (λ items. items) (λ _ rows. length rows + length rows + length rows + length rows) (Some 0)

file : List Item
file = Ok (row true) ∷ Ok (row false) ∷ Ok (row true) ∷ []

-- of this node's inputs only the first is one
below : Tree → ℕ → Tree
below x i = cond (eqb i 0) x Nothing

sort_task : Task
sort_task = record {
  tree = Node kept_rows (record { taken = λ _. []; closed = []; since = []; ended = λ _. false }) (record { gave = []; offered = []; refused = false; held = 0 }) (below (Files file (record { source = 0; items = file } ∷ []) [] []));
  header = true;
  split = None;
  batches = 0;
  parts = [];
  leaving = false;
  output = [];
}

one_sort_start : State
one_sort_start = record { run = begun one_sort 8; tasks = sort_task ∷ [] }

-- three rows of 4 bytes, two a batch, under a limit of 8
one_sort_run : List Entry
one_sort_run =
    by 0 Claimed ∷ by 0 Wrote ∷ by 0 Scanned ∷ by 0 Granted ∷ by 0 Scanned ∷ by 0 RefusedKind
    ∷ by 0 Freed ∷ by 0 Granted ∷ by 0 Wrote ∷ by 0 Wrote ∷ by 0 Finished ∷ []

one_sort_needs : needs_of 0 (state_replay one_sort 2 10 (Some one_sort_start) one_sort_run) ≡ Writes ∷ Scan ∷ Grow 0 8 ∷ Scan ∷ Grow 0 4 ∷ Free 0 8 ∷ Grow 0 4 ∷ Writes ∷ Writes ∷ []
unfolding one_sort one_sort_start one_sort_run sort_task kept_rows below file row by needs_of wake put_gate with_pool move_to progress_is failed share_of grants
one_sort_needs = refl

one_sort_output : output_of 0 (state_replay one_sort 2 10 (Some one_sort_start) one_sort_run) ≡ row true ∷ row false ∷ row true ∷ []
unfolding one_sort one_sort_start one_sort_run sort_task kept_rows below file row by output_of wake put_gate with_pool move_to progress_is failed share_of grants
one_sort_output = refl

top_held : Tree → ℕ
top_held (Node op t d inputs) = d.held
top_held _ = 0

-- what the sort holds, what the pool holds for it, and what its history says
held_in : Option State → List ℕ
held_in None = []
held_in (Some s) = top_held (the_task s.tasks 0).tree ∷ held_by s.run.frame.pool 0 ∷ kept 0 (past_of s.run.pasts 0) ∷ []

-- after the grant of two rows all three are 8, also after the refusal; after what it gives back they are 0
held_at_refusal : held_in (state_replay one_sort 2 10 (Some one_sort_start) (take 6 one_sort_run)) ≡ 8 ∷ 8 ∷ 8 ∷ []
unfolding one_sort one_sort_start one_sort_run sort_task kept_rows below file row by held_in top_held wake put_gate with_pool move_to progress_is failed share_of grants
held_at_refusal = refl

held_after_giving_back : held_in (state_replay one_sort 2 10 (Some one_sort_start) (take 7 one_sort_run)) ≡ 0 ∷ 0 ∷ 0 ∷ []
unfolding one_sort one_sort_start one_sort_run sort_task kept_rows below file row by held_in top_held wake put_gate with_pool move_to progress_is failed share_of grants
held_after_giving_back = refl

-- its tree's operators have different consumers, and hold nothing at the start
scan : Tree
scan = Files file (record { source = 0; items = file } ∷ []) [] []

reads_none : (b : Bool) (g c : ℕ) → FormReads g c (form (cond b scan Nothing)) → ⊥
unfolding scan
reads_none true g c h = h
reads_none false g c h = h

reserves_none : (b : Bool) (c : ℕ) → FormReserves c (form (cond b scan Nothing)) → ⊥
unfolding scan
reserves_none true c h = h
reserves_none false c h = h

apart_below : (b : Bool) → IsApart (cond b scan Nothing)
unfolding scan
apart_below true = tt
apart_below false = tt

holds_below : (b : Bool) → IsHolding (λ c. 0) (cond b scan Nothing)
unfolding scan
holds_below true = tt
holds_below false = tt

sort_begins : IsApart sort_task.tree × IsHolding (λ c. 0) sort_task.tree
unfolding sort_task below scan
sort_begins = (
  (λ i j g c a b. absurd (reads_none (eqb i 0) g c a), λ i j c a b. absurd (reserves_none (eqb i 0) c a), λ i c s a. reserves_none (eqb i 0) c a, λ i. apart_below (eqb i 0)),
  (λ c s. refl, λ i. holds_below (eqb i 0)),
)

-- the scan stands in the sort's tree, and the sort not in the scan's
scan_inside : IsSubtree scan sort_task.tree
unfolding sort_task below scan
scan_inside = inr (0, refl)

sort_outside : (all : List Item) (files : List File) (gave unread : List Cells) → IsSubtree sort_task.tree (Files all files gave unread) → ⊥
unfolding sort_task
sort_outside all files gave unread e = cc

-- ------------------------------------------------------------ a merge

pair : Bool → Bool → Item
pair a b = Ok (value.Bool a ∷ value.Bool b ∷ [])

first_cell : Item → Bool
first_cell (Ok (value.Bool a ∷ cells)) = a
first_cell _ = true

-- by the first column, false before true
earlier : Item → Item → Bool
earlier x y = not (first_cell x) && first_cell y

two_inputs : ℕ → List Item
two_inputs i = cond (eqb i 0) (pair true true ∷ []) (pair false false ∷ pair true false ∷ [])

-- of two with the same first column, that of the lower input comes first
merged_whole : (merge earlier 2 two_inputs (λ _. true)).given ≡ pair false false ∷ pair true true ∷ pair true false ∷ []
unfolding two_inputs earlier first_cell pair
merged_whole = refl

-- while input 0 goes on, nothing is known after its last row
merged_so_far : (merge earlier 2 two_inputs (λ i. eqb i 1)).given ≡ pair false false ∷ pair true true ∷ []
unfolding two_inputs earlier first_cell pair
merged_so_far = refl

-- ------------------------------------------------------------ the source of a later file

-- the cause of a failure that a tree asks for, if it asks for one
cause_of : Poll → Option Cause
cause_of (Asks (Fail x) after) = Some x
cause_of _ = None

-- the tree after a step, where each need is answered that it stands
after_step : Poll → Tree
after_step Ends = Nothing
after_step (Gives rows rest) = rest
after_step (Moves rest) = rest
after_step (Asks need after) = after Go

-- the first file of partition 0 of 4 has one row; its second file is the table's fifth, of source 4, and has a fault
two_files : ItemFault → Tree
two_files f = Files (Ok (row true) ∷ Err f ∷ []) (record { source = 0; items = Ok (row true) ∷ [] } ∷ record { source = 4; items = Err f ∷ [] } ∷ []) [] []

-- the row is read, and given; then the run fails at source 4
fails_at_its_source : (f : ItemFault) → cause_of (poll 2 (after_step (poll 2 (after_step (poll 2 (two_files f)))))) ≡ Some (cause_at 4 f)
unfolding cause_of after_step two_files row
fails_at_its_source f = refl
