-- Worked examples: a start that meets `IsStart`, what a failed run leaves of places and loans, and why a frame has to be lawful.
use Rattle.std.proofs.Common.{ℕ, zero, suc, ◌≡◌, refl, sym, subst, List, [], ◌∷◌, ◌++◌, Option, Some, None, Bool, true, false, Ok}
use Rattle.dfx_value.specs.declared.value.Value.TheVariants as value
use Rattle.run_journal.specs.declared.cause.Cause.TheVariants.{NoMemory}
use Rattle.run_journal.specs.declared.entry.Entry.{Entry}
use Rattle.run_journal.specs.declared.entry.EntryKind.{EntryKind}
use Rattle.run_journal.specs.declared.entry.EntryKind.TheVariants.{Claimed, Scanned, Received, Empty, Sent, Wrote, Failed}
use Rattle.gate_channels.specs.Gate.{sent, received, awaited}
use Rattle.task_shape.specs.Shape.{task_at, has, receives_at}
use Rattle.core_frame.specs.declared.place.Place.{Place}
use Rattle.core_frame.specs.declared.place.Place.TheVariants.{Woken, OwnedBy, Done}
use Rattle.core_frame.specs.Frame.{Frame, opening}
use Rattle.core_frame.specs.Step.{Need, Scan, Recv, Send, frame_step, frame_replay, wake, put_gate, move_to, progress_is, failed}
use Rattle.task_shape.proofs.Worked.{two_scans, two_scans_shape}
use Rattle.history_laws.specs.Histories.{Go, begun}
use Rattle.logical_plan.specs.Items.{Cells, Item}
use Rattle.tree_laws.specs.Trees.{Files, Inlet}
use Rattle.tree_laws.specs.Tasks.{Split, Task, Wait, settle, IsTask}
use Rattle.tree_laws.specs.Runs.{State, the_task, AllTo, Fits, IsStart, state_replay}
use Rattle.turn_cell.specs.declared.act.Act.{Act}
use Rattle.turn_cell.specs.declared.act.Act.TheVariants.{Made, Returned}
use Rattle.turn_cell.specs.Loans.{loan_of}
use Rattle.turn_cell.specs.Acts.{journal_of, Follows}
use Rattle.tree_laws.specs.Settles.{Leads}
use Rattle.run_laws.specs.Others.{IsLeft}
use Rattle.run_laws.specs.Told.{answered}
use Rattle.run_laws.specs.Loans.{gave_up}
use Rattle.run_laws.proofs.Reached.{loan_stays}
use Rattle.run_laws.proofs.Told.{answered_step}

by : ℕ → ℕ → EntryKind → Entry
by w t k = record { worker = w; task = t; kind = k }

places_of : {B : Type 0} → Option (Frame B) → List Place
places_of None = []
places_of (Some f) = f.places

-- ------------------------------------------------------------ a Coalesce over the scans of two files
-- ------------------------------------------------------------ a failed run: worker 1 gives up, its task keeps its place; worker 2 keeps its loan until it returns it
failing : List (Entry × Need ℕ)
failing = (by 1 1 Claimed, Scan) ∷ (by 2 0 Claimed, Scan) ∷ (by 1 1 (Failed NoMemory), Scan) ∷ []

failing_acts : List Act
failing_acts = Made (by 1 1 Claimed) ∷ Made (by 2 0 Claimed) ∷ Made (by 1 1 (Failed NoMemory)) ∷ []

failing_places : places_of (frame_replay two_scans (Some (opening two_scans 0)) failing) ≡ OwnedBy 2 ∷ OwnedBy 1 ∷ Woken ∷ []
unfolding two_scans failing by places_of move_to progress_is failed
failing_places = refl

failing_loans : (loan_of 1 failing_acts ≡ None) × (gave_up 1 failing_acts ≡ true) × (loan_of 2 failing_acts ≡ Some 0) × (gave_up 2 failing_acts ≡ false)
unfolding failing_acts by
failing_loans = (refl, refl, refl, refl)

returned_loans : (loan_of 2 (Made (by 2 0 Claimed) ∷ Made (by 1 1 (Failed NoMemory)) ∷ Returned 2 0 ∷ []) ≡ None)
unfolding by
returned_loans = refl

-- ------------------------------------------------------------ a frame that isn't lawful: the task that worker 1 has stands in the gate's queue, too, and another worker's entry wakes it
unlawful : Frame ℕ
unlawful = record {
  gates = record { channels = []; queue = [] } ∷ record { channels = record { batches = 11 ∷ []; live = true; unended = 2; waiting = None } ∷ []; queue = 1 ∷ [] } ∷ [];
  pool = record { limit = 0; spillable = []; held = [] };
  queue = [];
  places = OwnedBy 2 ∷ OwnedBy 1 ∷ Done ∷ [];
  progress = false ∷ false ∷ false ∷ [];
  failure = None;
}

unlawful_places : places_of (frame_step two_scans unlawful (by 2 0 Received) (Recv 1 0)) ≡ OwnedBy 2 ∷ Woken ∷ Done ∷ []
unfolding two_scans unlawful by places_of received wake put_gate move_to progress_is
unlawful_places = refl

-- ------------------------------------------------------------ a start
row : Bool → Cells
row b = value.Bool b ∷ []

to_first : Split
to_first j b = (0, b) ∷ []

scan_of : List Item → ℕ → Task
scan_of file source = record { tree = Files file (record { source = source; items = file } ∷ []) [] []; header = false; split = Some to_first; batches = 0; parts = []; leaving = false; output = [] }

root : Task
root = record { tree = Inlet 1 0 [] [] false; header = true; split = None; batches = 0; parts = []; leaving = false; output = [] }

two_scans_start : State
two_scans_start = record { run = begun two_scans 1000; tasks = root ∷ scan_of (Ok (row true) ∷ []) 0 ∷ scan_of (Ok (row false) ∷ []) 1 ∷ [] }

no_task_is : IsTask 2 [] (the_task [] 0)
no_task_is = record { linked = tt; out = (refl, refl, refl); left = λ e. cc }

root_is : IsTask 2 [] root
unfolding root
root_is = record { linked = (refl, λ e. cc); out = (refl, refl, refl); left = λ e. cc }

scan_is : (file : List Item) (source : ℕ) → (file ++ [] ≡ file) → IsTask 2 [] (scan_of file source)
unfolding scan_of to_first
scan_is file source e = record { linked = e; out = record { cuts = []; rows = refl; count = refl; parts = refl }; left = λ e. cc }

root_fits : Fits two_scans 0 root
unfolding root two_scans
root_fits = record {
  inlets = λ g c i. subst (λ k. receives_at two_scans 0 k c ≡ true) i.0 (subst (λ k. receives_at two_scans 0 1 k ≡ true) i.1 refl);
  consumers = λ c i. absurd i;
  sends = λ split e. cc;
}

scan_fits : (t : ℕ) (file : List Item) (source : ℕ) → (task_at two_scans t).sends ≡ Some 1 → (task_at two_scans t).targets ≡ 0 ∷ [] → Fits two_scans t (scan_of file source)
unfolding scan_of to_first
scan_fits t file source sends targets = record {
  inlets = λ g c i. absurd i;
  consumers = λ c i. absurd i;
  sends = λ split e. (
    1,
    sends,
    λ j b.
        let same : to_first ≡ split = cc in
        subst (λ (s : Split). AllTo (has (task_at two_scans t).targets) (s j b)) same (subst (λ cs. has cs 0 ≡ true) (sym targets) refl, tt),
  );
}

no_task_fits : (t : ℕ) → Fits two_scans t (the_task [] 0)
no_task_fits t = record { inlets = λ g c i. absurd i; consumers = λ c i. absurd i; sends = λ split e. cc }

starts : IsStart two_scans 2 1000 two_scans_start
unfolding two_scans two_scans_start
starts = record { run = refl; long = refl; task = task_is; fits = fits_is }
  where
    task_is : (t : ℕ) → IsTask 2 [] (the_task two_scans_start.tasks t)
    task_is zero = root_is
    task_is (suc zero) = scan_is (Ok (row true) ∷ []) 0 refl
    task_is (suc (suc zero)) = scan_is (Ok (row false) ∷ []) 1 refl
    task_is (suc (suc (suc t))) = no_task_is

    fits_is : (t : ℕ) → Fits two_scans t (the_task two_scans_start.tasks t)
    fits_is zero = root_fits
    fits_is (suc zero) = scan_fits 1 (Ok (row true) ∷ []) 0 refl refl
    fits_is (suc (suc zero)) = scan_fits 2 (Ok (row false) ∷ []) 1 refl refl
    fits_is (suc (suc (suc t))) = no_task_fits (suc (suc (suc t)))

-- ------------------------------------------------------------ worker 1 has a scan; what worker 2 does with the root leaves it
state_in : Option State → State
state_in None = two_scans_start
state_in (Some s) = s

after : List Entry → State
after entries = state_in (state_replay two_scans 2 10 (Some two_scans_start) entries)

seen : List Act
seen = Made (by 1 1 Claimed) ∷ Made (by 1 1 Scanned) ∷ []

later : List Act
later = Made (by 1 1 Claimed) ∷ Made (by 1 1 Scanned) ∷ Made (by 2 0 Claimed) ∷ Made (by 2 0 Wrote) ∷ Made (by 2 0 Empty) ∷ []

follows : Follows 1 seen later
unfolding seen later by
follows = ((Made (by 2 0 Claimed) ∷ Made (by 2 0 Wrote) ∷ Made (by 2 0 Empty) ∷ [], refl), refl)

loan : loan_of 1 seen ≡ Some 1
unfolding seen by
loan = refl

leads : Leads two_scans 2 two_scans_start (journal_of later) (after (journal_of later))
unfolding after state_in two_scans two_scans_start root scan_of to_first row later by awaited wake put_gate move_to progress_is
leads = (10, refl)

stays : (s : State) × Leads two_scans 2 two_scans_start (journal_of seen) s × IsLeft 1 1 s (after (journal_of later)) × (loan_of 1 later ≡ Some 1)
stays = loan_stays two_scans 2 1000 two_scans_start (after (journal_of later)) seen later 1 1 two_scans_shape starts loan follows leads

-- ------------------------------------------------------------ a run over numbers, each of which stands for one row: what it sends leads the told run on
rows_of : ℕ → List Cells
rows_of n = row true ∷ []

frame_in : Option (Frame ℕ) → Frame ℕ
frame_in None = opening two_scans 1000
frame_in (Some f) = f

numbers : List (Entry × Need ℕ) → Frame ℕ
numbers steps = frame_in (frame_replay two_scans (Some (opening two_scans 1000)) steps)

scanned : List (Entry × Need ℕ)
scanned = (by 1 1 Claimed, Scan) ∷ (by 1 1 Scanned, Scan) ∷ []

sending : List (Entry × Need ℕ)
sending = (by 1 1 Claimed, Scan) ∷ (by 1 1 Scanned, Scan) ∷ (by 1 1 Sent, Send 0 7) ∷ []

wait_in : Task → Option Wait → Wait
wait_in k None = record { now = k; need = Scan; after = λ _. k }
wait_in k (Some w) = w

scan_waits : Wait
scan_waits = wait_in (the_task (after (journal_of seen)).tasks 1) (settle 2 10 (the_task (after (journal_of seen)).tasks 1))

told : Leads two_scans 2 (after (journal_of seen)) (by 1 1 Sent ∷ []) (answered rows_of (after (journal_of seen)) (by 1 1 Sent) scan_waits (numbers sending) (Some Go))
unfolding scan_waits wait_in numbers frame_in scanned sending rows_of after state_in two_scans two_scans_start root scan_of to_first row seen by sent wake put_gate move_to progress_is
told = answered_step rows_of two_scans 2 (after (journal_of seen)) (numbers scanned) (numbers sending) (by 1 1 Sent) (Send 0 7) refl refl scan_waits refl (10, refl) refl
