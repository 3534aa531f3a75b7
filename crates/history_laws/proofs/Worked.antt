-- The worked runs of the README, computed from the definitions.
use Rattle.std.proofs.Common.{ℕ, ◌≡◌, refl, List, [], ◌∷◌, map, Option, Some, None, IfSome, Bool, true, false, ltb}
use Rattle.run_journal.specs.declared.entry.Entry.{Entry}
use Rattle.run_journal.specs.declared.entry.EntryKind.{EntryKind}
use Rattle.run_journal.specs.declared.entry.EntryKind.TheVariants.{Claimed, Scanned, Received, Empty, Ended as EndedKind, Sent, Held, Dropped, Granted, Refused as RefusedKind, Freed, Wrote, Finished}
use Rattle.gate_channels.specs.Gate.{sent, received, ended, awaited, dropped, held}
use Rattle.fair_pool.specs.Share.{held_by, share_of, grants}
use Rattle.task_shape.specs.Shape.{Shape, IsShape}
use Rattle.core_frame.specs.Step.{Need, Scan, Recv, Send, Grow, Free, Writes, Finish, wake, put_gate, with_pool, move_to, progress_is, failed}
use Rattle.core_frame.specs.Carried.{map_step}
use Rattle.core_frame.specs.Sent.{Passes, SendsFit}
use Rattle.task_shape.proofs.ShapeTest.{is_shape}
use Rattle.task_shape.proofs.Worked.{two_scans, one_sort}
use Rattle.history_laws.specs.Histories.{Go, Batch, Ended, Gone, Past, past_of, Run, begun, next_run, run_replay}
use Rattle.history_laws.specs.Contents.{took, has_end, parts_sent}
use Rattle.history_laws.specs.Reserved.{kept}
use Rattle.history_laws.specs.Taken.{RunFits}
use Rattle.history_laws.proofs.Taken.{run_fits, begun_fits}

by : ℕ → EntryKind → Entry
by t k = record { worker = 0; task = t; kind = k }

-- by another worker
beside : ℕ → EntryKind → Entry
beside t k = record { worker = 1; task = t; kind = k }

pasts_of : {B : Type 0} → Option (Run B) → List (Past B)
pasts_of None = []
pasts_of (Some r) = r.pasts

-- ------------------------------------------------------------ a Coalesce over the scans of two files

two_scans_run : List (Entry × Need ℕ)
unfolding by
two_scans_run =
    (by 0 Claimed, Scan) ∷ (by 0 Wrote, Writes) ∷ (by 0 Empty, Recv 1 0)
    ∷ (by 1 Claimed, Scan) ∷ (by 1 Scanned, Scan) ∷ (by 1 Sent, Send 0 11) ∷ (by 1 Finished, Finish)
    ∷ (by 2 Claimed, Scan) ∷ (by 2 Scanned, Scan) ∷ (by 2 Held, Send 0 12)
    ∷ (by 0 Claimed, Scan) ∷ (by 0 Received, Recv 1 0) ∷ (by 0 Wrote, Writes) ∷ (by 0 Empty, Recv 1 0)
    ∷ (by 2 Claimed, Scan) ∷ (by 2 Sent, Send 0 12) ∷ (by 2 Finished, Finish)
    ∷ (by 0 Claimed, Scan) ∷ (by 0 Received, Recv 1 0) ∷ (by 0 Wrote, Writes) ∷ (by 0 EndedKind, Recv 1 0) ∷ (by 0 Finished, Finish) ∷ []

-- a Held, an Empty, a claim and an end answer nothing
two_scans_pasts : pasts_of (run_replay two_scans (Some (begun two_scans 1000)) two_scans_run) ≡
    ((Writes, Go) ∷ (Recv 1 0, Batch 11) ∷ (Writes, Go) ∷ (Recv 1 0, Batch 12) ∷ (Writes, Go) ∷ (Recv 1 0, Ended) ∷ [])
    ∷ ((Scan, Go) ∷ (Send 0 11, Go) ∷ [])
    ∷ ((Scan, Go) ∷ (Send 0 12, Go) ∷ []) ∷ []
unfolding two_scans by two_scans_run pasts_of sent received ended awaited held dropped wake put_gate with_pool move_to progress_is failed
two_scans_pasts = refl

two_scans_took : took 1 0 (past_of (pasts_of (run_replay two_scans (Some (begun two_scans 1000)) two_scans_run)) 0) ≡ 11 ∷ 12 ∷ []
unfolding two_scans by two_scans_run pasts_of sent received ended awaited held dropped wake put_gate with_pool move_to progress_is failed
two_scans_took = refl

two_scans_end : has_end 1 0 (past_of (pasts_of (run_replay two_scans (Some (begun two_scans 1000)) two_scans_run)) 0) ≡ true
unfolding two_scans by two_scans_run pasts_of sent received ended awaited held dropped wake put_gate with_pool move_to progress_is failed
two_scans_end = refl

-- ------------------------------------------------------------ a receiver that ends early

-- a Merge of two inputs, which one scan feeds by an exchange
one_fans : Shape
one_fans = record {
  tasks = record { stage = 0; sends = None; targets = []; receives = (1, 0) ∷ (1, 1) ∷ []; consumers = [] }
      ∷ record { stage = 1; sends = Some 1; targets = 0 ∷ []; receives = (2, 0) ∷ []; consumers = [] }
      ∷ record { stage = 1; sends = Some 1; targets = 1 ∷ []; receives = (2, 1) ∷ []; consumers = [] }
      ∷ record { stage = 2; sends = Some 2; targets = 0 ∷ 1 ∷ []; receives = []; consumers = [] } ∷ [];
  widths = 0 ∷ 2 ∷ 2 ∷ [];
  spillable = [];
}

one_fans_shape : IsShape one_fans
unfolding one_fans
one_fans_shape = is_shape one_fans refl

-- task 1 ends and leaves 5; then 6 finds its channel dropped, 7 goes to the other one, and when task 2 has ended too, 8 finds none live
one_fans_run : List (Entry × Need ℕ)
unfolding by
one_fans_run =
    (by 3 Claimed, Scan) ∷ (by 3 Scanned, Scan) ∷ (by 3 Sent, Send 0 5) ∷ (beside 1 Claimed, Scan) ∷ (beside 1 Finished, Finish)
    ∷ (by 3 Dropped, Send 0 6) ∷ (by 3 Sent, Send 1 7) ∷ (beside 2 Claimed, Scan) ∷ (beside 2 Received, Recv 2 1) ∷ (beside 2 Finished, Finish)
    ∷ (by 3 Dropped, Send 1 8) ∷ []

one_fans_pasts : pasts_of (run_replay one_fans (Some (begun one_fans 1000)) one_fans_run) ≡
    [] ∷ [] ∷ ((Recv 2 1, Batch 7) ∷ []) ∷ ((Scan, Go) ∷ (Send 0 5, Go) ∷ (Send 0 6, Gone false) ∷ (Send 1 7, Go) ∷ (Send 1 8, Gone true) ∷ []) ∷ []
unfolding one_fans by beside one_fans_run pasts_of sent received ended awaited held dropped wake put_gate with_pool move_to progress_is failed
one_fans_pasts = refl

sender : Past ℕ
sender = (Scan, Go) ∷ (Send 0 5, Go) ∷ (Send 0 6, Gone false) ∷ (Send 1 7, Go) ∷ (Send 1 8, Gone true) ∷ []

-- what was refused was not sent
sent_to_first : parts_sent 0 sender ≡ 5 ∷ []
unfolding sender
sent_to_first = refl

sent_to_second : parts_sent 1 sender ≡ 7 ∷ []
unfolding sender
sent_to_second = refl

-- ------------------------------------------------------------ a sort that spills

-- five rows of 16 bytes, two a batch
one_sort_run : List (Entry × Need ℕ)
unfolding by
one_sort_run =
    (by 0 Claimed, Scan) ∷ (by 0 Scanned, Scan) ∷ (by 0 Granted, Grow 0 32) ∷ (by 0 Scanned, Scan) ∷ (by 0 RefusedKind, Grow 0 32)
    ∷ (by 0 Freed, Free 0 32) ∷ (by 0 Granted, Grow 0 16) ∷ (by 0 Granted, Grow 0 16) ∷ (by 0 Finished, Finish) ∷ []

-- what the consumer holds, and what the history tells
held_and_kept : Option (Run ℕ) → List ℕ
held_and_kept None = []
held_and_kept (Some r) = held_by r.frame.pool 0 ∷ kept 0 (past_of r.pasts 0) ∷ []

after_each : Shape → Option (Run ℕ) → List (Entry × Need ℕ) → List (List ℕ)
after_each p o [] = []
after_each p o (s ∷ ss) = held_and_kept (next_run p o s) ∷ after_each p (next_run p o s) ss

-- the finished task holds nothing
one_sort_held : after_each one_sort (Some (begun one_sort 32)) one_sort_run ≡
    (0 ∷ 0 ∷ []) ∷ (0 ∷ 0 ∷ []) ∷ (32 ∷ 32 ∷ []) ∷ (32 ∷ 32 ∷ []) ∷ (32 ∷ 32 ∷ [])
    ∷ (0 ∷ 0 ∷ []) ∷ (16 ∷ 16 ∷ []) ∷ (32 ∷ 32 ∷ []) ∷ (0 ∷ 32 ∷ []) ∷ []
unfolding one_sort by one_sort_run held_and_kept after_each wake put_gate with_pool move_to progress_is failed share_of grants
one_sort_held = refl

-- ------------------------------------------------------------ the run of the Merge over other batches

-- each number is a list of one
list_of : ℕ → List ℕ
list_of b = b ∷ []

lists_pasts : pasts_of (run_replay one_fans (Some (begun one_fans 1000)) (map (map_step list_of) one_fans_run)) ≡
    [] ∷ [] ∷ ((Recv 2 1, Batch (7 ∷ [])) ∷ [])
    ∷ ((Scan, Go) ∷ (Send 0 (5 ∷ []), Go) ∷ (Send 0 (6 ∷ []), Gone false) ∷ (Send 1 (7 ∷ []), Go) ∷ (Send 1 (8 ∷ []), Gone true) ∷ []) ∷ []
unfolding one_fans by beside one_fans_run list_of pasts_of sent received ended awaited held dropped wake put_gate with_pool move_to progress_is failed
lists_pasts = refl

-- ------------------------------------------------------------ what may be sent, and so what was taken

-- numbers above 10 may be in each channel
above_ten : ℕ → ℕ → ℕ → Bool
above_ten g c b = ltb 10 b

takes_eleven : List (Entry × Need ℕ)
takes_eleven = (by 1 Claimed, Scan) ∷ (by 1 Sent, Send 0 11) ∷ (beside 0 Claimed, Scan) ∷ (beside 0 Received, Recv 1 0) ∷ []

eleven_fits : SendsFit two_scans (Passes above_ten) takes_eleven
unfolding two_scans takes_eleven above_ten by beside
eleven_fits = (tt, (λ g e. refl, (tt, (tt, tt))))

eleven_taken : took 1 0 (past_of (pasts_of (run_replay two_scans (Some (begun two_scans 1000)) takes_eleven)) 0) ≡ 11 ∷ []
unfolding two_scans by beside takes_eleven pasts_of sent received ended awaited held dropped wake put_gate with_pool move_to progress_is failed
eleven_taken = refl

taken_fits : IfSome (run_replay two_scans (Some (begun two_scans 1000)) takes_eleven) (RunFits (Passes above_ten))
taken_fits = run_fits (Passes above_ten) two_scans (Some (begun two_scans 1000)) takes_eleven eleven_fits (begun_fits (Passes above_ten) two_scans 1000)
