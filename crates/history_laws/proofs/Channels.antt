-- What each call of a group changes of its channels.
use Rattle.std.proofs.Common.{ℕ, zero, suc, ◌<◌, ◌≡◌, ◌≢◌, refl, sym, ap, ◌∙◌, subst, List, [], ◌∷◌, ◌++◌, length, get_or, set, Bool, true, false, ◌||◌, Option, Some, None, arith}
use Rattle.gate_channels.specs.Gate.{Gate, Moved, Channel, no_gate, no_channel, channel_at, some_live, sent, received, after_taking, ended, dropped, held, awaited}
use Rattle.task_shape.specs.Shape.{Shape, task_at}
use Rattle.core_frame.specs.Frame.{Frame, gate_of, channel_of}
use Rattle.core_frame.specs.Step.{wake, put_gate, moved, with_pool, move_to, drops, ends_in, ends, finished}
use Rattle.core_frame.proofs.Lists.{read_other}
use Rattle.core_frame.proofs.Gates.{set_same}
use Rattle.core_frame.proofs.Steps.{gate_put_same, gate_put_other}
use Rattle.history_laws.proofs.Lists.{rel_set}

-- nothing comes or goes, but that the receiver or senders may end
pub record IsStill {B : Type 0} (a b : Channel B) : Type 0 where
  pub live : b.live ≡ true → a.live ≡ true
  pub batches : b.live ≡ true → b.batches ≡ a.batches
  pub ended : a.unended ≡ 0 → b.unended ≡ 0

pub still_refl : {B : Type 0} (a : Channel B) → IsStill a a
still_refl a = record { live = λ e. e; batches = λ e. refl; ended = λ e. e }

pub still_both : {B : Type 0} (a b c : Channel B) → IsStill a b → IsStill b c → IsStill a c
still_both a b c x y = record {
  live = λ e. x.live (y.live e);
  batches = λ e. y.batches e ∙ x.batches (y.live e);
  ended = λ e. y.ended (x.ended e);
}

-- two frames: nothing comes or goes
abbrev pub AreStill : {B : Type 0} → Frame B → Frame B → Type 0
AreStill f f2 = (g c : ℕ) → IsStill (channel_of f g c) (channel_of f2 g c)

pub still_gates : {B : Type 0} (f f2 : Frame B) → f2.gates ≡ f.gates → AreStill f f2
still_gates {B} f f2 e g c = subst (λ gs. IsStill (channel_of f g c) (channel_at (get_or gs g no_gate) c)) (sym e) (still_refl (channel_of f g c))

pub still_put : {B : Type 0} (f : Frame B) (g : ℕ) (x : Gate B) → ((d : ℕ) → IsStill (channel_of f g d) (channel_at x d)) → AreStill f (put_gate f g x)
unfolding put_gate
still_put {B} f g x k h d = rel_set (λ (a b : Gate B). IsStill (channel_at a d) (channel_at b d)) (λ a. still_refl (channel_at a d)) f.gates g x no_gate h (k d)

pub still_moved : {B : Type 0} (f : Frame B) (g : ℕ) (m : Moved B) → ((d : ℕ) → IsStill (channel_of f g d) (channel_at m.gate d)) → AreStill f (moved f g m)
unfolding wake
still_moved f g m k h d = still_put f g m.gate k h d

-- a write of one channel
still_set : {B : Type 0} (g : Gate B) (c : ℕ) (x : Channel B) (d : ℕ) → IsStill (channel_at g c) x → IsStill (channel_at g d) (get_or (set g.channels c x) d no_channel)
still_set {B} g c x d k = rel_set (λ (a b : Channel B). IsStill a b) (λ a. still_refl a) g.channels c x no_channel d k

ended_still : {B : Type 0} (g : Gate B) (c d : ℕ) → IsStill (channel_at g d) (channel_at (ended g c).gate d)
unfolding ended
ended_still {B} g c d = still_set g c _ d (record { live = λ e. e; batches = λ e. refl; ended = λ e. (omega (arith, e)) })

dropped_still : {B : Type 0} (g : Gate B) (c d : ℕ) → IsStill (channel_at g d) (channel_at (dropped g c).gate d)
unfolding dropped
dropped_still g c d = still_set g c _ d (record { live = λ e. cc; batches = λ e. cc; ended = λ e. e })

pub awaited_still : {B : Type 0} (g : Gate B) (c t d : ℕ) → IsStill (channel_at g d) (channel_at (awaited g c t) d)
unfolding awaited
awaited_still g c t d = still_set g c _ d (record { live = λ e. e; batches = λ e. refl; ended = λ e. e })

pub held_still : {B : Type 0} (g : Gate B) (t d : ℕ) → IsStill (channel_at g d) (channel_at (held g t) d)
unfolding held
held_still g t d = still_refl (channel_at g d)

pub still_then : {B : Type 0} (f f2 f3 : Frame B) → AreStill f f2 → AreStill f2 f3 → AreStill f f3
still_then f f2 f3 a b g c = still_both (channel_of f g c) (channel_of f2 g c) (channel_of f3 g c) (a g c) (b g c)

drops_still : {B : Type 0} (xs : List (ℕ × ℕ)) (f : Frame B) → AreStill f (drops xs f)
drops_still [] f = λ g c. still_refl (channel_of f g c)
drops_still (x ∷ xs) f = still_then f (moved f x.0 (dropped (gate_of f x.0) x.1)) (drops xs (moved f x.0 (dropped (gate_of f x.0) x.1)))
    (still_moved f x.0 (dropped (gate_of f x.0) x.1) (λ d. dropped_still (gate_of f x.0) x.1 d))
    (drops_still xs (moved f x.0 (dropped (gate_of f x.0) x.1)))

ends_in_still : {B : Type 0} (g : ℕ) (cs : List ℕ) (f : Frame B) → AreStill f (ends_in g cs f)
ends_in_still g [] f = λ h c. still_refl (channel_of f h c)
ends_in_still g (c ∷ cs) f = still_then f (moved f g (ended (gate_of f g) c)) (ends_in g cs (moved f g (ended (gate_of f g) c)))
    (still_moved f g (ended (gate_of f g) c) (λ d. ended_still (gate_of f g) c d))
    (ends_in_still g cs (moved f g (ended (gate_of f g) c)))

ends_still : {B : Type 0} (o : Option ℕ) (cs : List ℕ) (f : Frame B) → AreStill f (ends o cs f)
ends_still None cs f = λ g c. still_refl (channel_of f g c)
ends_still (Some g) cs f = ends_in_still g cs f

pub finished_still : {B : Type 0} (p : Shape) (f : Frame B) (t : ℕ) → AreStill f (finished p f t)
unfolding with_pool move_to
finished_still p f t = still_then f (drops (task_at p t).receives f) (ends (task_at p t).sends (task_at p t).targets (drops (task_at p t).receives f))
    (drops_still (task_at p t).receives f) (ends_still (task_at p t).sends (task_at p t).targets (drops (task_at p t).receives f))

-- ------------------------------------------------------------ the two calls by which batches come and go
pub moved_here : {B : Type 0} (f : Frame B) (g c : ℕ) (m : Moved B) → g < length f.gates → channel_of (moved f g m) g c ≡ channel_at m.gate c
unfolding wake
moved_here {B} f g c m h = ap (λ (x : Gate B). channel_at x c) (gate_put_same f g m.gate h)

pub moved_else : {B : Type 0} (f : Frame B) (g h c : ℕ) (m : Moved B) → g ≢ h → channel_of (moved f g m) h c ≡ channel_of f h c
unfolding wake
moved_else {B} f g h c m n = ap (λ (x : Gate B). channel_at x c) (gate_put_other f g h m.gate n)

pub sent_here : {B : Type 0} (g : Gate B) (c : ℕ) (b : B) → c < length g.channels → (channel_at (sent g c b).gate c).batches ≡ (channel_at g c).batches ++ b ∷ []
unfolding sent
sent_here {B} g c b h = ap (λ (x : Channel B). x.batches) (set_same g.channels c _ h)

pub sent_else : {B : Type 0} (g : Gate B) (c d : ℕ) (b : B) → c ≢ d → channel_at (sent g c b).gate d ≡ channel_at g d
unfolding sent
sent_else g c d b n = read_other g.channels c d _ no_channel n

taking_here : {B : Type 0} (g : Gate B) (c : ℕ) (b : B) (bs : List B) → c < length g.channels → ((channel_at (after_taking g c (b ∷ bs)).gate c).batches ≡ bs) × ((channel_at (after_taking g c (b ∷ bs)).gate c).unended ≡ (channel_at g c).unended)
taking_here {B} g c b [] h = (ap (λ (x : Channel B). x.batches) (set_same g.channels c _ h), ap (λ (x : Channel B). x.unended) (set_same g.channels c _ h))
taking_here {B} g c b (b2 ∷ bs) h = (ap (λ (x : Channel B). x.batches) (set_same g.channels c _ h), ap (λ (x : Channel B). x.unended) (set_same g.channels c _ h))

pub received_here : {B : Type 0} (g : Gate B) (c : ℕ) (b : B) (bs : List B) → c < length g.channels → (channel_at g c).batches ≡ b ∷ bs → ((channel_at (received g c).gate c).batches ≡ bs) × ((channel_at (received g c).gate c).unended ≡ (channel_at g c).unended)
unfolding received
received_here {B} g c b bs h e = subst (λ (l : List B). ((channel_at (after_taking g c l).gate c).batches ≡ bs) × ((channel_at (after_taking g c l).gate c).unended ≡ (channel_at g c).unended)) (sym e) (taking_here g c b bs h)

taking_else : {B : Type 0} (g : Gate B) (c d : ℕ) (bs : List B) → c ≢ d → channel_at (after_taking g c bs).gate d ≡ channel_at g d
taking_else g c d [] n = refl
taking_else g c d (b ∷ []) n = read_other g.channels c d _ no_channel n
taking_else g c d (b ∷ (b2 ∷ bs)) n = read_other g.channels c d _ no_channel n

pub received_else : {B : Type 0} (g : Gate B) (c d : ℕ) → c ≢ d → channel_at (received g c).gate d ≡ channel_at g d
unfolding received
received_else g c d n = taking_else g c d (channel_at g c).batches n

pub none_live_at : {B : Type 0} (xs : List (Channel B)) (c : ℕ) → some_live xs ≡ false → (get_or xs c no_channel).live ≡ false
none_live_at [] c e = refl
none_live_at (x ∷ xs) zero e = first (x.live) (some_live xs) e
  where
    first : (a b : Bool) → a || b ≡ false → a ≡ false
    first true b h = h
    first false b h = refl
none_live_at (x ∷ xs) (suc c) e = none_live_at xs c (second (x.live) (some_live xs) e)
  where
    second : (a b : Bool) → a || b ≡ false → b ≡ false
    second true b h = cc
    second false b h = h
