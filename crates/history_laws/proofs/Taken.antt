-- What holds of each batch that is sent to a channel holds of each that was taken of it.
use Rattle.std.proofs.Common.{ℕ, ◌≡◌, refl, subst, cond, eqb, List, [], ◌∷◌, ◌++◌, length, Bool, true, false, ◌&&◌, Option, Some, None, IfSome}
use Rattle.std.proofs.lemmas.Bool.{eqb-true}
use Rattle.std.specs.List.{AllByRecursion}
use Rattle.run_journal.specs.declared.entry.Entry.{Entry}
use Rattle.run_journal.specs.declared.entry.EntryKind.{EntryKind}
use Rattle.run_journal.specs.declared.entry.EntryKind.TheVariants.{Scanned, Received, Ended as EndedKind, Sent, Dropped, Granted, Refused as RefusedKind, Freed, Wrote}
use Rattle.task_shape.specs.Shape.{Shape, task_at}
use Rattle.core_frame.specs.Frame.{Frame, channel_of}
use Rattle.core_frame.specs.Step.{Need, Scan, Recv, Send, Grow, Free, Writes, Finish, Fail, frame_step}
use Rattle.core_frame.specs.Sent.{SendFits, SendsFit, ChannelsFit}
use Rattle.core_frame.proofs.Lookups.{set_at, tabulate_at, all_append}
use Rattle.core_frame.proofs.Sent.{step_fits, opening_fits}
use Rattle.history_laws.specs.Histories.{Reply, Go, Batch, Ended, Refused, Gone, Past, Run, past_of, begun, first_batch, received_reply, none_live, reply_of, pasts_after, run_after, run_step, next_run, run_replay}
use Rattle.history_laws.specs.Contents.{took_one, took}
use Rattle.history_laws.specs.Taken.{RunFits}

module _ {B : Type 0} (P : ℕ → ℕ → B → Type 0) where
  -- a reply to a task tells it of batches that may be in the channel of its need
  abbrev pub ReplyFits : Need B → Reply B → Type 0
  ReplyFits need reply = (g c : ℕ) → AllByRecursion (P g c) (took_one g c need reply)

  all_more : (bs xs ys : List B) (g c : ℕ) → (AllByRecursion (P g c) xs → AllByRecursion (P g c) ys) → AllByRecursion (P g c) (bs ++ xs) → AllByRecursion (P g c) (bs ++ ys)
  all_more [] xs ys g c f z = f z
  all_more (b ∷ bs) xs ys g c f z = (z.0, all_more bs xs ys g c f z.1)

  took_append : (g c : ℕ) (h k : Past B) → AllByRecursion (P g c) (took g c h) → AllByRecursion (P g c) (took g c k) → AllByRecursion (P g c) (took g c (h ++ k))
  took_append g c [] k x y = y
  took_append g c (s ∷ h) k x y = all_more (took_one g c s.0 s.1) (took g c h) (took g c (h ++ k)) g c (λ z. took_append g c h k z y) x

  first_fits : (g c : ℕ) (bs : List B) → AllByRecursion (P g c) bs → IfSome (first_batch bs) (ReplyFits (Recv g c))
  first_fits g c [] h = tt
  first_fits g c (b ∷ bs) h = λ a d. only a d (eqb g a) (eqb c d) refl refl
    where
      only : (a d : ℕ) (x y : Bool) → eqb g a ≡ x → eqb c d ≡ y → AllByRecursion (P a d) (cond (x && y) (b ∷ []) [])
      only a d true true e i = subst (λ k. AllByRecursion (P k d) (b ∷ [])) (eqb-true g a e) (subst (λ k. AllByRecursion (P g k) (b ∷ [])) (eqb-true c d i) (h.0, tt))
      only a d true false e i = tt
      only a d false y e i = tt

  batch_fits : (f : Frame B) (need : Need B) → ChannelsFit P f → IfSome (received_reply f need) (ReplyFits need)
  batch_fits f (Recv g c) h = first_fits g c (channel_of f g c).batches (h g c)
  batch_fits f Scan h = tt
  batch_fits f (Send c b) h = tt
  batch_fits f (Grow c bytes) h = tt
  batch_fits f (Free c bytes) h = tt
  batch_fits f Writes h = tt
  batch_fits f Finish h = tt
  batch_fits f (Fail cause) h = tt

  no_batch : (need : Need B) (reply : Reply B) → ((b : B) → reply ≡ Batch b → ⊥) → ReplyFits need reply
  no_batch (Recv g c) (Batch b) n a d = absurd (n b refl)
  no_batch (Recv g c) Go n a d = tt
  no_batch (Recv g c) Ended n a d = tt
  no_batch (Recv g c) Refused n a d = tt
  no_batch (Recv g c) (Gone last) n a d = tt
  no_batch Scan reply n a d = tt
  no_batch (Send c b) reply n a d = tt
  no_batch (Grow c bytes) reply n a d = tt
  no_batch (Free c bytes) reply n a d = tt
  no_batch Writes reply n a d = tt
  no_batch Finish reply n a d = tt
  no_batch (Fail cause) reply n a d = tt

  reply_fits : (p : Shape) (f : Frame B) (t : ℕ) (k : EntryKind) (need : Need B) → ChannelsFit P f → IfSome (reply_of p f t k need) (ReplyFits need)
  reply_fits p f t Scanned need h = no_batch need Go (λ b e. cc)
  reply_fits p f t Sent need h = no_batch need Go (λ b e. cc)
  reply_fits p f t Granted need h = no_batch need Go (λ b e. cc)
  reply_fits p f t Freed need h = no_batch need Go (λ b e. cc)
  reply_fits p f t Wrote need h = no_batch need Go (λ b e. cc)
  reply_fits p f t Received need h = batch_fits f need h
  reply_fits p f t EndedKind need h = no_batch need Ended (λ b e. cc)
  reply_fits p f t RefusedKind need h = no_batch need Refused (λ b e. cc)
  reply_fits p f t Dropped need h = no_batch need (Gone (none_live f (task_at p t).sends)) (λ b e. cc)
  reply_fits p f t _ need h = tt

  abbrev pub PastsFit : List (Past B) → Type 0
  PastsFit pasts = (t g c : ℕ) → AllByRecursion (P g c) (took g c (past_of pasts t))

  pasts_fit : (pasts : List (Past B)) (t : ℕ) (need : Need B) (o : Option (Reply B)) → PastsFit pasts → IfSome o (ReplyFits need) → PastsFit (pasts_after pasts t need o)
  pasts_fit pasts t need None h n u g c = h u g c
  pasts_fit pasts t need (Some reply) h n u g c = set_at (λ _ past. AllByRecursion (P g c) (took g c past)) pasts t _ [] u
      (took_append g c (past_of pasts t) ((need, reply) ∷ []) (h t g c) (all_append (P g c) (took_one g c need reply) [] (n g c) tt)) (h u g c)

  run_after_fits : (p : Shape) (r : Run B) (e : Entry) (need : Need B) (o : Option (Frame B)) → RunFits P r → IfSome o (ChannelsFit P) → IfSome (run_after p r e need o) (RunFits P)
  run_after_fits p r e need None h n = tt
  run_after_fits p r e need (Some f) h n = record { channels = n; taken = pasts_fit r.pasts e.task need _ h.taken (reply_fits p r.frame e.task e.kind need h.channels) }

  pub run_step_fits : (p : Shape) (r : Run B) (e : Entry) (need : Need B) → SendFits p P e.task need → RunFits P r → IfSome (run_step p r e need) (RunFits P)
  run_step_fits p r e need n h = run_after_fits p r e need (frame_step p r.frame e need) h (step_fits P p r.frame e need n h.channels)

  next_run_fits : (p : Shape) (o : Option (Run B)) (s : Entry × Need B) → SendFits p P (s.0).task s.1 → IfSome o (RunFits P) → IfSome (next_run p o s) (RunFits P)
  next_run_fits p None s n h = tt
  next_run_fits p (Some r) s n h = run_step_fits p r s.0 s.1 n h

  pub run_fits : (p : Shape) (o : Option (Run B)) (steps : List (Entry × Need B)) → SendsFit p P steps → IfSome o (RunFits P) → IfSome (run_replay p o steps) (RunFits P)
  run_fits p o [] n h = h
  run_fits p o (s ∷ steps) n h = run_fits p (next_run p o s) steps n.1 (next_run_fits p o s n.0 h)

  pub begun_fits : (p : Shape) (limit : ℕ) → RunFits P (begun p limit)
  begun_fits p limit = record {
    channels = opening_fits P p limit;
    taken = λ t g c. tabulate_at (λ _ past. AllByRecursion (P g c) (took g c past)) (length p.tasks) (λ _. []) [] t (λ _. tt) tt;
  }
