-- Steps of runs commute with any map of batches.
use Rattle.std.proofs.Common.{ℕ, ◌≡◌, refl, sym, ap, ◌∙◌, List, [], ◌∷◌, ◌++◌, map, length, set, not, Option, Some, None, option_map}
use Rattle.std.proofs.lemmas.List.{map-set, map-append}
use Rattle.run_journal.specs.declared.entry.Entry.{Entry}
use Rattle.run_journal.specs.declared.entry.EntryKind.{EntryKind}
use Rattle.run_journal.specs.declared.entry.EntryKind.TheVariants.{Received, Dropped}
use Rattle.task_shape.specs.Shape.{Shape, task_at}
use Rattle.core_frame.specs.Frame.{Frame, gate_of, channel_of, opening}
use Rattle.core_frame.specs.Step.{Need, Scan, Recv, Send, Grow, Free, Writes, Finish, Fail, frame_step}
use Rattle.history_laws.specs.Histories.{Reply, Gone, Past, Run, past_of, begun, first_batch, received_reply, none_live, reply_of, pasts_after, run_after, run_step, next_run, run_replay}
use Rattle.core_frame.specs.Carried.{map_frame, map_need, map_step}
use Rattle.history_laws.specs.Carried.{map_reply, map_answered, map_past, map_run}
use Rattle.core_frame.proofs.Lookups.{read_map, tabulate_map}
use Rattle.core_frame.proofs.Maps.{channel_map, gate_map, live_map}
use Rattle.core_frame.proofs.Carried.{step_map, opening_map}

module _ {A B : Type 0} (m : A → B) where
  first_map : (bs : List A) → first_batch (map m bs) ≡ option_map (map_reply m) (first_batch bs)
  first_map [] = refl
  first_map (b ∷ bs) = refl

  received_map : (f : Frame A) (need : Need A) → received_reply (map_frame m f) (map_need m need) ≡ option_map (map_reply m) (received_reply f need)
  received_map f (Recv g c) = rw (gate_map m f g, channel_map m (gate_of f g) c) (first_map (channel_of f g c).batches)
  received_map f Scan = refl
  received_map f (Send c b) = refl
  received_map f (Grow c bytes) = refl
  received_map f (Free c bytes) = refl
  received_map f Writes = refl
  received_map f Finish = refl
  received_map f (Fail cause) = refl

  none_map : (f : Frame A) (o : Option ℕ) → none_live (map_frame m f) o ≡ none_live f o
  none_map f None = refl
  none_map f (Some g) = rw (gate_map m f g) (ap not (live_map m (gate_of f g).channels))

  pub reply_map : (p : Shape) (f : Frame A) (t : ℕ) (k : EntryKind) (need : Need A) → reply_of p (map_frame m f) t k (map_need m need) ≡ option_map (map_reply m) (reply_of p f t k need)
  reply_map p f t Received need = received_map f need
  reply_map p f t Dropped need = ap (λ z. Some (Gone z)) (none_map f (task_at p t).sends)
  reply_map p f t _ need = refl

  pasts_map : (pasts : List (Past A)) (t : ℕ) (need : Need A) (o : Option (Reply A)) → pasts_after (map (map_past m) pasts) t (map_need m need) (option_map (map_reply m) o) ≡ map (map_past m) (pasts_after pasts t need o)
  pasts_map pasts t need None = refl
  pasts_map pasts t need (Some reply) = ap (λ h. set (map (map_past m) pasts) t (h ++ (map_need m need, map_reply m reply) ∷ [])) (read_map (map_past m) pasts t [])
      ∙ (ap (λ h. set (map (map_past m) pasts) t h) (sym (map-append (map_answered m) (past_of pasts t) ((need, reply) ∷ [])))
      ∙ sym (map-set (map_past m) pasts t (past_of pasts t ++ (need, reply) ∷ [])))

  after_map : (p : Shape) (r : Run A) (e : Entry) (need : Need A) (o : Option (Frame A)) → run_after p (map_run m r) e (map_need m need) (option_map (map_frame m) o) ≡ option_map (map_run m) (run_after p r e need o)
  after_map p r e need None = refl
  after_map p r e need (Some f) = ap (λ h. Some (record { frame = map_frame m f; pasts = h }))
      (ap (pasts_after (map (map_past m) r.pasts) e.task (map_need m need)) (reply_map p r.frame e.task e.kind need) ∙ pasts_map r.pasts e.task need (reply_of p r.frame e.task e.kind need))

  pub run_step_map : (p : Shape) (r : Run A) (e : Entry) (need : Need A) → run_step p (map_run m r) e (map_need m need) ≡ option_map (map_run m) (run_step p r e need)
  run_step_map p r e need = ap (run_after p (map_run m r) e (map_need m need)) (step_map m p r.frame e need) ∙ after_map p r e need (frame_step p r.frame e need)

  next_run_map : (p : Shape) (o : Option (Run A)) (s : Entry × Need A) → next_run p (option_map (map_run m) o) (map_step m s) ≡ option_map (map_run m) (next_run p o s)
  next_run_map p None s = refl
  next_run_map p (Some r) s = run_step_map p r s.0 s.1

  pub run_replay_map : (p : Shape) (o : Option (Run A)) (steps : List (Entry × Need A)) → run_replay p (option_map (map_run m) o) (map (map_step m) steps) ≡ option_map (map_run m) (run_replay p o steps)
  run_replay_map p o [] = refl
  run_replay_map p o (s ∷ steps) = ap (λ z. run_replay p z (map (map_step m) steps)) (next_run_map p o s) ∙ run_replay_map p (next_run p o s) steps

  pub begun_map : (p : Shape) (limit : ℕ) → map_run m (begun p limit) ≡ begun p limit
  begun_map p limit = ap (λ z. record { frame = z; pasts = (map_run m (begun p limit)).pasts }) (opening_map m p limit)
      ∙ ap (λ z. record { frame = opening p limit; pasts = z }) (tabulate_map (map_past m) (length p.tasks) (λ _. []) (λ _. []) (λ i. refl))
