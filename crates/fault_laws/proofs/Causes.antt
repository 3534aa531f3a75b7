-- The cause of a failure that is no device's, nor of memory or a reservation, is a fault that the plan meets.
use Rattle.std.proofs.Common.{ℕ, zero, suc, ◌≡◌, ◌==◌, inl, inr, refl, sym, ap, ◌∙◌, subst, cond, List, [], ◌∷◌, Bool, true, false, ◌&&◌, not, Option, Some, None}
use Rattle.std.proofs.lemmas.Bool.{false≢true}
use Rattle.dfx_value.specs.declared.fault.ItemFault.{ItemFault}
use Rattle.run_journal.specs.SameKind.{same_kind}
use Rattle.run_journal.proofs.SameKind.{kind_is}
use Rattle.run_journal.specs.declared.cause.Cause.{Cause}
use Rattle.run_journal.specs.declared.cause.Cause.TheVariants.{Read, Write, Spill, NoMemory, Evaluation, Csv, Arrow, Exhausted}
use Rattle.run_journal.specs.declared.entry.Entry.{Entry}
use Rattle.run_journal.specs.declared.entry.EntryKind.{EntryKind}
use Rattle.run_journal.specs.declared.entry.EntryKind.TheVariants.{Scanned, Freed, Wrote, Finished, Failed}
use Rattle.gate_channels.specs.Gate.{is_empty, is_open}
use Rattle.fair_pool.specs.Share.{held_by, can_spill, grants}
use Rattle.task_shape.specs.Shape.{Shape, task_at}
use Rattle.core_frame.specs.Frame.{Frame, gate_of, channel_of, place_of, is_owned}
use Rattle.core_frame.specs.Step.{Need, Scan, Recv, Send, Grow, Free, Writes, Finish, Fail, made, made_send, made_send_to, made_recv, made_grow, may_fail, cause_of, failed, owner_step, claim_step, frame_step, is_over}
use Rattle.history_laws.specs.Histories.{Run, run_step, run_after}
use Rattle.physical_plan.specs.declared.plan.Plan.{Plan}
use Rattle.plan_shape.specs.Layout.{shape}
use Rattle.logical_plan.specs.Items.{Cells}
use Rattle.logical_plan.specs.Body.{Tables}
use Rattle.tree_laws.specs.Trees.{Poll, Gives, Ends, Moves, Asks, poll, FormReads, cause_at}
use Rattle.tree_laws.specs.Tasks.{Parts, Split, Task, Turn, Goes, Waits, Wait, top_turn, turn_by, turn, settled, settle}
use Rattle.tree_laws.specs.Runs.{State, the_task, wait_by, wait_for, state_after, step_by, state_step, state_replay}
use Rattle.content_laws.specs.Whole.{past_in}
use Rattle.plan_task_laws.specs.Trees.{Doing}
use Rattle.plan_task_laws.specs.Starts.{start_of}
use Rattle.plan_task_laws.specs.Sources.{files_of}
use Rattle.plan_task_laws.specs.Placed.{deal_of, HasChannels}
use Rattle.plan_task_laws.proofs.Begun.{is_start}
use Rattle.plan_task_laws.proofs.Senders.{are_senders}
use Rattle.plan_shape.proofs.Lawful.{is_shape}
use Rattle.tree_laws.proofs.Turns.{settle_keeps}
use Rattle.tree_laws.proofs.Runs.{reached as run_reached}
use Rattle.content_laws.proofs.Flows.{exist, flows}
use Rattle.part_laws.specs.Phased.{the_phases}
use Rattle.plan_props.specs.Meets.{Hashing}
use Rattle.finished_laws.specs.Engine.{IsEngineBy}
use Rattle.finished_laws.proofs.Hashes.{hashing_of}
use Rattle.fault_laws.specs.Met.{met_of}
use Rattle.fault_laws.specs.Trees.{Meets, FilesPass}
use Rattle.fault_laws.specs.Found.{Found, IsIn, is_of_fault, IsToldTop}
use Rattle.fault_laws.specs.Found as found
use Rattle.fault_laws.proofs.Meets.{badly}
use Rattle.fault_laws.proofs.Fails.{IsNone, NeedFound, PollFound}
use Rattle.fault_laws.proofs.Fails as fails
use Rattle.fault_laws.proofs.Leaves as leaves
use Rattle.fault_laws.proofs.Runs.{starts, tasks_meet}
use Rattle.fault_laws.proofs.Reading.{top_reads}
use Rattle.fault_laws.proofs.Chosen.{is_in, is_at, found_in, found_at, all_in, all_at}

-- ------------------------------------------------------------ an entry of a failure

module _ (p : Shape) (fr : Frame (List Cells)) (t : ℕ) (cause : Cause) (of : is_of_fault cause ≡ true) where
  -- kinds that aren't failures by this cause
  abbrev Differs : EntryKind → Type 0
  Differs k = k ≡ Failed cause → ⊥

  abbrev is_failed : EntryKind → Bool
  is_failed (Failed c) = is_of_fault c
  is_failed _ = false

  differs : (k : EntryKind) → is_failed k ≡ false → Differs k
  differs k e q = false≢true (sym e ∙ (ap is_failed q ∙ of))

  sends : (g c : ℕ) (b : List Cells) (live opened : Bool) → is_failed (made_send fr t g c b live opened).kind ≡ false
  sends g c b false opened = refl
  sends g c b true true = refl
  sends g c b true false = refl

  sends_to : (o : Option ℕ) (c : ℕ) (b : List Cells) → is_failed (made_send_to fr t o c b).kind ≡ false
  sends_to None c b = refl
  sends_to (Some g) c b = sends g c b (channel_of fr g c).live (is_open (gate_of fr g).channels)

  receives : (g c : ℕ) (empty over : Bool) → is_failed (made_recv fr t g c empty over).kind ≡ false
  receives g c false over = refl
  receives g c true true = refl
  receives g c true false = refl

  grows : (c bytes : ℕ) (granted gives : Bool) → is_failed (made_grow fr t c bytes granted gives).kind ≡ false
  grows c bytes true gives = refl
  grows c bytes false true = refl
  grows c bytes false false = refl

  by_need : (need : Need (List Cells)) → (made p fr t need).kind ≡ Failed cause → need ≡ Fail cause
  by_need Scan e = absurd (differs Scanned refl e)
  by_need (Recv g c) e = absurd (differs (made p fr t (Recv g c)).kind (receives g c (is_empty (channel_of fr g c).batches) ((channel_of fr g c).unended == 0)) e)
  by_need (Send c b) e = absurd (differs (made p fr t (Send c b)).kind (sends_to (task_at p t).sends c b) e)
  by_need (Grow c bytes) e = absurd (differs (made p fr t (Grow c bytes)).kind (grows c bytes (grants fr.pool c bytes) (can_spill fr.pool c && not (held_by fr.pool c == 0))) e)
  by_need (Free c bytes) e = absurd (differs Freed refl e)
  by_need Writes e = absurd (differs Wrote refl e)
  by_need Finish e = absurd (differs Finished refl e)
  by_need (Fail c) e = ap Fail (ap cause_of e)

-- of such a cause no device is one
no_device : (cause : Cause) → is_of_fault cause ≡ true → may_fail (Failed cause) ≡ false
no_device Read e = absurd (false≢true e)
no_device Write e = absurd (false≢true e)
no_device Spill e = absurd (false≢true e)
no_device NoMemory e = absurd (false≢true e)
no_device (Evaluation f) e = refl
no_device (Csv source number row column) e = refl
no_device (Arrow source number batch column place) e = refl
no_device (Exhausted requested held share) e = absurd (false≢true e)

-- a step by the entry of such a failure is by the need for it
owner_fails : (p : Shape) (fr : Frame (List Cells)) (t : ℕ) (cause : Cause) (need : Need (List Cells)) (next : Frame (List Cells)) → is_of_fault cause ≡ true
    → owner_step p fr t (Failed cause) need ≡ Some next → need ≡ Fail cause
owner_fails p fr t cause need next of e = by (may_fail (Failed cause)) (same_kind (made p fr t need).kind (Failed cause)) (no_device cause of) refl e
  where
    by : (m s : Bool) → m ≡ false → same_kind (made p fr t need).kind (Failed cause) ≡ s
        → cond m (Some (failed fr (cause_of (Failed cause)))) (cond s (Some (made p fr t need).frame) None) ≡ Some next → need ≡ Fail cause
    by true s z q e = absurd (false≢true (sym z))
    by false true z q e = by_need p fr t cause of need (kind_is (made p fr t need).kind (Failed cause) q)
    by false false z q e = absurd (subst IsNone e tt)

claim_fails : (fr : Frame (List Cells)) (t w : ℕ) (cause : Cause) (next : Frame (List Cells)) → is_of_fault cause ≡ true → claim_step fr t w (Failed cause) ≡ Some next → ⊥
claim_fails fr t w Read next of e = false≢true of
claim_fails fr t w Write next of e = false≢true of
claim_fails fr t w Spill next of e = false≢true of
claim_fails fr t w NoMemory next of e = false≢true of
claim_fails fr t w (Evaluation f) next of e = subst IsNone e tt
claim_fails fr t w (Csv source number row column) next of e = subst IsNone e tt
claim_fails fr t w (Arrow source number batch column place) next of e = subst IsNone e tt
claim_fails fr t w (Exhausted requested held share) next of e = false≢true of

frame_fails : (p : Shape) (fr : Frame (List Cells)) (e : Entry) (cause : Cause) (need : Need (List Cells)) (next : Frame (List Cells)) → e.kind ≡ Failed cause → is_of_fault cause ≡ true
    → frame_step p fr e need ≡ Some next → need ≡ Fail cause
frame_fails p fr e cause need next k of s = by (is_over fr) (is_owned e.worker (place_of fr e.task)) s
  where
    by : (o b : Bool) → cond o None (cond b (owner_step p fr e.task e.kind need) (claim_step fr e.task e.worker e.kind)) ≡ Some next → need ≡ Fail cause
    by true b s = absurd (subst IsNone s tt)
    by false true s = owner_fails p fr e.task cause need next of (ap (λ (j : EntryKind). owner_step p fr e.task j need) (sym k) ∙ s)
    by false false s = absurd (claim_fails fr e.task e.worker cause next of (ap (claim_step fr e.task e.worker) (sym k) ∙ s))

-- a state after such an entry: its task settled to the need for it
state_fails : (p : Shape) (size steps : ℕ) (s next : State) (e : Entry) (cause : Cause) → e.kind ≡ Failed cause → is_of_fault cause ≡ true
    → state_step p size steps s e ≡ Some next → (w : Wait) × (settle size steps (the_task s.tasks e.task) ≡ Some w) × (w.need ≡ Fail cause)
state_fails p size steps s next e cause k of q =
    by (settle size steps (the_task s.tasks e.task)) refl (ap (step_by p s e) (sym (ap (λ (j : EntryKind). wait_for size steps j (the_task s.tasks e.task)) k ∙ ap (wait_by size steps (the_task s.tasks e.task)) (no_device cause of))) ∙ q)
  where
    run : (w : Wait) → (o : Option (Run (List Cells))) → run_step p s.run e w.need ≡ o → state_after p s e w o ≡ Some next → (f : Option (Frame (List Cells))) → frame_step p s.run.frame e w.need ≡ f → run_after p s.run e w.need f ≡ o → w.need ≡ Fail cause
    run w None r q f g h = absurd (subst IsNone q tt)
    run w (Some x) r q None g h = absurd (subst IsNone h tt)
    run w (Some x) r q (Some y) g h = frame_fails p s.run.frame e cause w.need y k of g

    by : (o : Option Wait) → settle size steps (the_task s.tasks e.task) ≡ o → step_by p s e o ≡ Some next → (w : Wait) × (settle size steps (the_task s.tasks e.task) ≡ Some w) × (w.need ≡ Fail cause)
    by None z q = absurd (subst IsNone q tt)
    by (Some w) z q = (w, z, run w (run_step p s.run e w.need) refl q (frame_step p s.run.frame e w.need) refl refl)

-- ------------------------------------------------------------ the need of a settled task

-- the need is that of the task's next turn
settled_turn : (size steps : ℕ) (k : Task) (w : Wait) → settle size steps k ≡ Some w → turn size w.now ≡ Waits w.need w.after
settled_turn size zero k w e = absurd (subst IsNone e tt)
settled_turn size (suc steps) k w e = by (turn size k) refl e (settled_turn size steps)
  where
    by : (u : Turn) → turn size k ≡ u → settled k u (settle size steps) ≡ Some w → ((j : Task) (w : Wait) → settle size steps j ≡ Some w → turn size w.now ≡ Waits w.need w.after) → turn size w.now ≡ Waits w.need w.after
    by (Goes rest) t e go = go rest w e
    by (Waits need after) t e go = (let v : record { now = k; need = need; after = after } ≡ w = cc in subst (λ (x : Wait). turn size x.now ≡ Waits x.need x.after) v t)

module _ (met : ItemFault → Bool) (named : ℕ → ItemFault → Bool) where
  abbrev TurnFound : Turn → Type 0
  TurnFound (Goes rest) = Unit {0}
  TurnFound (Waits need after) = NeedFound met named need

  topped : (k : Task) (o : Option Split) (q : Poll) → PollFound met named q → TurnFound (top_turn k o q)
  topped k None (Gives rows rest) h = tt
  topped k (Some split) (Gives rows rest) h = tt
  topped k o Ends h = tt
  topped k o (Moves rest) h = tt
  topped k o (Asks need after) h = h

  turned : (size : ℕ) (k : Task) → PollFound met named (poll size k.tree) → (header leaving : Bool) (parts : Parts) → TurnFound (turn_by size k header leaving parts)
  turned size k h true leaving parts = tt
  turned size k h false true parts = tt
  turned size k h false false (x ∷ xs) = tt
  turned size k h false false [] = topped k k.split (poll size k.tree) h

  -- ------------------------------------------------------------ a run

  pub caused : (hash : Hashing) (f : Doing) (tables : Tables) (many : ℕ) → IsEngineBy hash f tables many the_phases → (p : Plan) → HasChannels p → IsToldTop tables many p
      → badly met (met_of tables p) ≡ 0 → FilesPass named (files_of f p 0)
      → (size limit steps : ℕ) (entries : List Entry) (s next : State) (e : Entry) (cause : Cause)
      → state_replay (shape p) size steps (Some (start_of f p limit)) entries ≡ Some s → state_step (shape p) size steps s e ≡ Some next
      → e.kind ≡ Failed cause → is_of_fault cause ≡ true → Found met named cause
  caused hash f tables many engine p wide told m files size limit steps entries s next e cause replay step k of =
      let start = start_of f p limit in
      let begins = is_start f engine.operators p size limit in
      let reached = run_reached (shape p) (is_shape p) size steps limit start begins entries s replay in
      let full = exist (shape p) (is_shape p) size limit start s entries begins reached (deal_of f p) in
      let u = e.task in
      let flow = flows (shape p) (is_shape p) size limit start s entries begins reached (deal_of f p) (are_senders f engine.operators (hashing_of hash f engine.channels) p wide) full.0 full.1 u in
      let meets = tasks_meet hash f tables many engine full.0 met p wide told m size limit entries s reached full.1 u in
      let w = state_fails (shape p) size steps s next e cause k of step in
      let wait = settle_keeps size steps (past_in s u) (the_task s.tasks u) w.0 (reached.task u) w.1 in
      let pass = leaves.replayed named (shape p) size steps start s entries (starts named f engine.operators p limit (top_reads tables many p told) files) replay in
      let own = subst (leaves.WaitPasses named) w.1 (leaves.settles named size steps (the_task s.tasks u) (pass u)) in
      let now = w.0.now in
      let found = fails.found met named size (past_in s u) full.0 now.tree wait.before.task.linked
      (λ g c r. flow g c (subst (FormReads g c) wait.before.same r)) (subst (Meets met full.0) (sym wait.before.same) meets) own.0 in
      let turns = turned size now found now.header now.leaving now.parts in
      let last : NeedFound met named w.0.need = subst TurnFound (settled_turn size steps (the_task s.tasks u) w.0 w.1) turns in
      subst (NeedFound met named) w.2 last

pub ends : (hash : Hashing) (f : Doing) (tables : Tables) (many : ℕ) → IsEngineBy hash f tables many the_phases → (p : Plan) → HasChannels p → IsToldTop tables many p
    → (size limit steps : ℕ) (entries : List Entry) (s next : State) (e : Entry) (cause : Cause)
    → state_replay (shape p) size steps (Some (start_of f p limit)) entries ≡ Some s → state_step (shape p) size steps s e ≡ Some next
    → e.kind ≡ Failed cause → is_of_fault cause ≡ true → found.Ends (met_of tables p) (files_of f p 0) cause
ends hash f tables many engine p wide told size limit steps entries s next e cause replay step k of =
    let mets = met_of tables p in
    let files = files_of f p 0 in
    let r = caused (is_in mets) (is_at files) hash f tables many engine p wide told (all_in mets) (all_at files) size limit steps entries s next e cause replay step k of in (
      r.0,
      found_in mets r.0 r.1,
      elim r.2 [
        | inl a ↦ inl a
        | inr b ↦ (let x = found_at files b.0 r.0 b.2 in inr (x.0, x.1, x.2, b.1 ∙ ap (λ (n : ℕ). cause_at n r.0) x.3))
      ],
    )
