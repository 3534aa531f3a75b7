-- An entry of a run over other batches is one of the told run, whose frame has rows for batches.
use Rattle.std.proofs.Common.{ℕ, zero, ◌≡◌, refl, ap, ◌∙◌, subst, cond, eqb, List, [], ◌∷◌, Bool, true, false, ◌&&◌, not, Option, Some, None, IfSome, option_map}
use Rattle.std.proofs.lemmas.List.{set-get_or}
use Rattle.run_journal.specs.declared.entry.Entry.{Entry}
use Rattle.run_journal.specs.declared.entry.EntryKind.{EntryKind}
use Rattle.run_journal.specs.declared.cause.Cause.TheVariants.{Read, Write, Spill, NoMemory}
use Rattle.run_journal.specs.declared.entry.EntryKind.TheVariants.{Claimed, Yielded, Failed}
use Rattle.run_journal.specs.SameKind.{same_kind}
use Rattle.gate_channels.specs.Gate.{is_empty, is_open}
use Rattle.fair_pool.specs.Share.{can_spill, held_by, grants}
use Rattle.task_shape.specs.Shape.{Shape, task_at}
use Rattle.core_frame.specs.Frame.{Frame, place_of, gate_of, channel_of, is_owned}
use Rattle.core_frame.specs.Step.{Need, Scan, Recv, Send, Grow, Free, Writes, Finish, Fail, made_send, made_send_to, made_recv, made_grow, made, owner_step, claim_step, is_over, frame_step}
use Rattle.history_laws.specs.Histories.{reply_of, pasts_after, run_after}
use Rattle.logical_plan.specs.Items.{Cells}
use Rattle.tree_laws.specs.Tasks.{Task, Wait}
use Rattle.tree_laws.specs.Runs.{State, no_task, the_task, asks_nothing, wait_by, tasks_after, state_after, step_by}
use Rattle.core_frame.specs.Carried.{map_frame, map_need}
use Rattle.history_laws.specs.Carried.{map_reply}
use Rattle.tree_laws.specs.Settles.{Settles, Leads}
use Rattle.run_laws.specs.Told.{answered, unanswered}
use Rattle.core_frame.specs.declared.place.Place.TheVariants.{OwnedBy}
use Rattle.core_frame.proofs.Lookups.{within_if}
use Rattle.run_laws.proofs.Loans.{owned_is}
use Rattle.core_frame.proofs.Carried.{step_map}
use Rattle.history_laws.proofs.Carried.{reply_map}

-- ------------------------------------------------------------ an entry that asks nothing stands whatever the need is
-- neither Claimed nor Yielded is made by a need
abbrev pub IsMade : EntryKind → Type 0
IsMade k = (same_kind k Claimed ≡ false) × (same_kind k Yielded ≡ false)

module _ {B : Type 0} where
  send_made : (f : Frame B) (t g c : ℕ) (x : B) (live opened : Bool) → IsMade (made_send f t g c x live opened).kind
  send_made f t g c x false opened = (refl, refl)
  send_made f t g c x true true = (refl, refl)
  send_made f t g c x true false = (refl, refl)

  send_to_made : (f : Frame B) (t c : ℕ) (x : B) (o : Option ℕ) → IsMade (made_send_to f t o c x).kind
  send_to_made f t c x None = (refl, refl)
  send_to_made f t c x (Some g) = send_made f t g c x (channel_of f g c).live (is_open (gate_of f g).channels)

  recv_made : (f : Frame B) (t g c : ℕ) (empty over : Bool) → IsMade (made_recv f t g c empty over).kind
  recv_made f t g c false over = (refl, refl)
  recv_made f t g c true true = (refl, refl)
  recv_made f t g c true false = (refl, refl)

  grow_made : (f : Frame B) (t c bytes : ℕ) (granted gives : Bool) → IsMade (made_grow f t c bytes granted gives).kind
  grow_made f t c bytes true gives = (refl, refl)
  grow_made f t c bytes false true = (refl, refl)
  grow_made f t c bytes false false = (refl, refl)

  need_made : (p : Shape) (f : Frame B) (t : ℕ) (need : Need B) → IsMade (made p f t need).kind
  need_made p f t Scan = (refl, refl)
  need_made p f t (Recv g c) = recv_made f t g c (is_empty (channel_of f g c).batches) (eqb (channel_of f g c).unended 0)
  need_made p f t (Send c x) = send_to_made f t c x (task_at p t).sends
  need_made p f t (Grow c bytes) = grow_made f t c bytes (grants f.pool c bytes) (can_spill f.pool c && not (eqb (held_by f.pool c) 0))
  need_made p f t (Free c bytes) = (refl, refl)
  need_made p f t Writes = (refl, refl)
  need_made p f t Finish = (refl, refl)
  need_made p f t (Fail cause) = (refl, refl)

  owner_any : (p : Shape) (f : Frame B) (t : ℕ) (k : EntryKind) (need other : Need B) → asks_nothing k ≡ true → owner_step p f t k need ≡ owner_step p f t k other
  owner_any p f t Claimed need other e = rw ((need_made p f t need).0, (need_made p f t other).0) refl
  owner_any p f t Yielded need other e = rw ((need_made p f t need).1, (need_made p f t other).1) refl
  owner_any p f t (Failed NoMemory) need other e = refl
  owner_any p f t (Failed Read) need other e = refl
  owner_any p f t (Failed Write) need other e = refl
  owner_any p f t (Failed Spill) need other e = refl
  owner_any p f t _ need other e = cc

  pub step_any : (p : Shape) (f : Frame B) (e : Entry) (need other : Need B) → asks_nothing e.kind ≡ true → frame_step p f e need ≡ frame_step p f e other
  step_any p f e need other h = ap (λ z. cond (is_over f) None (cond (is_owned e.worker (place_of f e.task)) z (claim_step f e.task e.worker e.kind))) (owner_any p f e.task e.kind need other h)

  -- an entry that asks something is its task's owner's
  owners_alone : (f : Frame B) (Q : Type 0) (t w : ℕ) (k : EntryKind) → asks_nothing k ≡ false → IfSome (claim_step f t w k) (λ _. Q)
  owners_alone f Q t w Claimed e = cc
  owners_alone f Q t w (Failed NoMemory) e = cc
  owners_alone f Q t w _ e = tt

  anyhow : (Q : Type 0) (o : Option (Frame B)) → Q → IfSome o (λ _. Q)
  anyhow Q None q = tt
  anyhow Q (Some new) q = q

  pub step_owner : (p : Shape) (f new : Frame B) (e : Entry) (need : Need B) → asks_nothing e.kind ≡ false → frame_step p f e need ≡ Some new → place_of f e.task ≡ OwnedBy e.worker
  step_owner p f new e need asks i =
      let Q : Type 0 = place_of f e.task ≡ OwnedBy e.worker in
      subst (λ o. IfSome o (λ _. Q)) i (within_if (λ _. Q) (is_over f) _ _ (λ _. tt)
      (λ _. within_if (λ _. Q) (is_owned e.worker (place_of f e.task)) _ _ (λ at. anyhow Q _ (owned_is e.worker (place_of f e.task) at)) (λ _. owners_alone f Q e.task e.worker e.kind asks)))

  none_answered : (p : Shape) (f : Frame B) (t : ℕ) (k : EntryKind) (need : Need B) → asks_nothing k ≡ true → reply_of p f t k need ≡ None
  none_answered p f t Claimed need e = refl
  none_answered p f t Yielded need e = refl
  none_answered p f t (Failed cause) need e = refl
  none_answered p f t _ need e = cc

-- ------------------------------------------------------------ entries of the told run
module _ {B : Type 0} (rows : B → List Cells) (p : Shape) (size : ℕ) (s : State) (f new : Frame B) (e : Entry) (need : Need B) (same : s.run.frame ≡ map_frame rows f) (i : frame_step p f e need ≡ Some new) where
  told_step : frame_step p s.run.frame e (map_need rows need) ≡ Some (map_frame rows new)
  told_step = ap (λ g. frame_step p g e (map_need rows need)) same ∙ (step_map rows p f e need ∙ ap (option_map (map_frame rows)) i)

  told_reply : reply_of p s.run.frame e.task e.kind (map_need rows need) ≡ option_map (map_reply rows) (reply_of p f e.task e.kind need)
  told_reply = ap (λ g. reply_of p g e.task e.kind (map_need rows need)) same ∙ reply_map rows p f e.task e.kind need

  -- by the need to which its task comes
  by_need : (w : Wait) → w.need ≡ map_need rows need → step_by p s e (Some w) ≡ Some (answered rows s e w new (reply_of p f e.task e.kind need))
  by_need w n =
      let step : frame_step p s.run.frame e w.need ≡ Some (map_frame rows new) = ap (frame_step p s.run.frame e) n ∙ told_step in
      let reply : reply_of p s.run.frame e.task e.kind w.need ≡ option_map (map_reply rows) (reply_of p f e.task e.kind need) = ap (reply_of p s.run.frame e.task e.kind) n ∙ told_reply in
      ap (λ o. state_after p s e w (run_after p s.run e w.need o)) step
      ∙ ap (λ o. Some (record { run = record { frame = map_frame rows new; pasts = pasts_after s.run.pasts e.task w.need o }; tasks = tasks_after s.tasks e.task w o })) reply

  pub answered_step : (w : Wait) → asks_nothing e.kind ≡ false → Settles size (the_task s.tasks e.task) w → w.need ≡ map_need rows need
      → Leads p size s (e ∷ []) (answered rows s e w new (reply_of p f e.task e.kind need))
  answered_step w asks settles n = (
    settles.0,
    ap (λ b. step_by p s e (wait_by size settles.0 (the_task s.tasks e.task) b)) asks
        ∙ (ap (step_by p s e) settles.1 ∙ by_need w n),
  )

  pub unanswered_step : asks_nothing e.kind ≡ true → Leads p size s (e ∷ []) (unanswered rows s new)
  unanswered_step asks =
      let k : Task = the_task s.tasks e.task in
      let w : Wait = record { now = k; need = Scan; after = λ _. k } in
      let step : frame_step p s.run.frame e Scan ≡ Some (map_frame rows new) = step_any p s.run.frame e Scan (map_need rows need) asks ∙ told_step in (
        zero,
        ap (λ b. step_by p s e (wait_by size zero k b)) asks
            ∙ (ap (λ o. state_after p s e w (run_after p s.run e Scan o)) step
            ∙ (ap (λ o. Some (record { run = record { frame = map_frame rows new; pasts = pasts_after s.run.pasts e.task Scan o }; tasks = tasks_after s.tasks e.task w o })) (none_answered p s.run.frame e.task e.kind Scan asks)
            ∙ ap (λ ks. Some (record { run = record { frame = map_frame rows new; pasts = s.run.pasts }; tasks = ks })) (set-get_or s.tasks e.task no_task))),
      )
