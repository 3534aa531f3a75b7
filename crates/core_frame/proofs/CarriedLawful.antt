-- A lawful frame over other batches is lawful, and needs stay the task's own.
use Rattle.std.proofs.Common.{ℕ, ◌≡◌, inl, inr, refl, sym, ap, ◌∙◌, subst, List, [], ◌∷◌, map, length}
use Rattle.std.proofs.lemmas.List.{length-map}
use Rattle.run_journal.specs.declared.entry.Entry.{Entry}
use Rattle.task_shape.specs.Numbers.{count}
use Rattle.gate_channels.specs.Gate.{Channel, Gate, channel_at, one_of}
use Rattle.task_shape.specs.Shape.{Shape}
use Rattle.core_frame.specs.declared.place.Place.{Place}
use Rattle.core_frame.specs.declared.place.Place.TheVariants.{Woken, OwnedBy, AtGate, AtChannel, Done}
use Rattle.core_frame.specs.Frame.{Frame, gate_of, channel_of}
use Rattle.core_frame.specs.Step.{Need, Scan, Recv, Send, Grow, Free, Writes, Finish, Fail}
use Rattle.core_frame.specs.Good.{IsOwn, AreOwn}
use Rattle.core_frame.specs.Lawful.{Hungry, IsGate, waiting_list, IsLawful}
use Rattle.core_frame.specs.Carried.{map_channel, map_gate, map_frame, map_need, map_step}
use Rattle.core_frame.proofs.Maps.{channel_map, gate_map, open_map}

module _ {A B : Type 0} (m : A → B) where
  channel_of_map : (f : Frame A) (g c : ℕ) → channel_of (map_frame m f) g c ≡ map_channel m (channel_of f g c)
  channel_of_map f g c = ap (λ (x : Gate B). channel_at x c) (gate_map m f g) ∙ channel_map m (gate_of f g) c

  waiting_map : (f : Frame A) (q : Place) → waiting_list (map_frame m f) q ≡ waiting_list f q
  waiting_map f Woken = refl
  waiting_map f (AtGate g) = ap (λ (x : Gate B). x.queue) (gate_map m f g)
  waiting_map f (AtChannel g c) = ap (λ (ch : Channel B). one_of ch.waiting) (channel_of_map f g c)
  waiting_map f (OwnedBy w) = refl
  waiting_map f Done = refl

  hungry_map : (ch : Channel A) → Hungry ch → Hungry (map_channel m ch)
  hungry_map ch (inl none) = inl none
  hungry_map ch (inr x) = inr (ap (map m) x.0, x.1)

  is_gate_map : (g : Gate A) → IsGate g → IsGate (map_gate m g)
  is_gate_map g k = record {
    closed = elim k.closed [ inl none ↦ inl none | inr shut ↦ inr (open_map m g.channels ∙ shut) ];
    hungry = λ c. subst Hungry (sym (channel_map m g c)) (hungry_map (channel_at g c) (k.hungry c));
  }

  pub lawful_map : (p : Shape) (f : Frame A) → IsLawful p f → IsLawful p (map_frame m f)
  lawful_map p f k = record {
    frame = record {
      located = record { each = λ q w t. ap (count t) (waiting_map f q) ∙ k.frame.located.each q w t };
      gates = λ g. subst IsGate (sym (gate_map m f g)) (is_gate_map (gate_of f g) (k.frame.gates g));
      each = k.frame.each;
      owners = k.frame.owners;
      limit = k.frame.limit;
      tasks = k.frame.tasks;
      groups = length-map f.gates (map_gate m) ∙ k.frame.groups;
      channels = λ g. ap (λ (x : Gate B). length x.channels) (gate_map m f g) ∙ (length-map (gate_of f g).channels (map_channel m) ∙ k.frame.channels g);
    };
    counted = record {
      live = λ t g c r. ap (λ (ch : Channel B). ch.live) (channel_of_map f g c) ∙ k.counted.live t g c r;
      unended = λ g c. ap (λ (ch : Channel B). ch.unended) (channel_of_map f g c) ∙ k.counted.unended g c;
    };
  }

  own_map : (p : Shape) (t : ℕ) (need : Need A) → IsOwn p t need → IsOwn p t (map_need m need)
  own_map p t Scan k = k
  own_map p t (Recv g c) k = k
  own_map p t (Send c b) k = k
  own_map p t (Grow c bytes) k = k
  own_map p t (Free c bytes) k = k
  own_map p t Writes k = k
  own_map p t Finish k = k
  own_map p t (Fail cause) k = k

  pub are_own_map : (p : Shape) (steps : List (Entry × Need A)) → AreOwn p steps → AreOwn p (map (map_step m) steps)
  are_own_map p [] k = k
  are_own_map p (s ∷ steps) k = (own_map p (s.0).task s.1 k.0, are_own_map p steps k.1)
