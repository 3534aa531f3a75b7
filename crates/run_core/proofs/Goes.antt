-- An owner that goes on leaves the run going, and has made progress.
use Rattle.std.proofs.Common.{ℕ, ◌<◌, ◌≡◌, refl, sym, subst, length, Bool, true, false, Option, Some, None, get_or, get_or-set_same}
use Rattle.turn_cell.specs.Loans.{keeps_task}
use Rattle.task_shape.specs.Shape.{Shape, task_at}
use Rattle.gate_channels.specs.Gate.{Moved, sent, received, is_open}
use Rattle.fair_pool.specs.Share.{Pool}
use Rattle.core_frame.specs.Frame.{Frame, gate_of, channel_of}
use Rattle.core_frame.specs.Step.{Need, Scan, Recv, Send, Grow, Free, Writes, Finish, Fail, wake, put_gate, moved, with_pool, progress_is, goes_on, made_send, made_send_to, made_recv, made_grow, made}

-- the run goes on, and the task is marked
pub record IsOn {B : Type 0} (f f2 : Frame B) (t : ℕ) : Type 0 where
  pub failure : f2.failure ≡ f.failure
  pub marked : t < length f.progress → get_or f2.progress t false ≡ true

on_goes : {B : Type 0} (f f2 : Frame B) (t : ℕ) → f2.failure ≡ f.failure → f2.progress ≡ f.progress → IsOn f (goes_on f2 t) t
unfolding progress_is
on_goes f f2 t e p = record { failure = e; marked = λ h. get_or-set_same f2.progress t true false (subst (λ xs. t < length xs) (sym p) h) }

on_moved : {B : Type 0} (f : Frame B) (g : ℕ) (m : Moved B) (t : ℕ) → IsOn f (goes_on (moved f g m) t) t
unfolding wake put_gate
on_moved f g m t = on_goes f (moved f g m) t refl refl

on_pool : {B : Type 0} (f : Frame B) (x : Pool) (t : ℕ) → IsOn f (goes_on (with_pool f x) t) t
unfolding with_pool
on_pool f x t = on_goes f (with_pool f x) t refl refl

send_on : {B : Type 0} (f : Frame B) (t g c : ℕ) (b : B) (live opened : Bool) → keeps_task (made_send f t g c b live opened).kind ≡ true → IsOn f (made_send f t g c b live opened).frame t
send_on f t g c b false opened e = on_goes f f t refl refl
send_on f t g c b true true e = on_moved f g (sent (gate_of f g) c b) t
send_on f t g c b true false e = cc

send_to_on : {B : Type 0} (f : Frame B) (t : ℕ) (o : Option ℕ) (c : ℕ) (b : B) → keeps_task (made_send_to f t o c b).kind ≡ true → IsOn f (made_send_to f t o c b).frame t
send_to_on f t None c b e = on_goes f f t refl refl
send_to_on f t (Some g) c b e = send_on f t g c b (channel_of f g c).live (is_open (gate_of f g).channels) e

recv_on : {B : Type 0} (f : Frame B) (t g c : ℕ) (empty over : Bool) → keeps_task (made_recv f t g c empty over).kind ≡ true → IsOn f (made_recv f t g c empty over).frame t
recv_on f t g c false over e = on_moved f g (received (gate_of f g) c) t
recv_on f t g c true true e = on_goes f f t refl refl
recv_on f t g c true false e = cc

grow_on : {B : Type 0} (f : Frame B) (t c bytes : ℕ) (granted gives : Bool) → keeps_task (made_grow f t c bytes granted gives).kind ≡ true → IsOn f (made_grow f t c bytes granted gives).frame t
grow_on f t c bytes true gives e = on_pool f _ t
grow_on f t c bytes false true e = on_goes f f t refl refl
grow_on f t c bytes false false e = cc

pub made_on : {B : Type 0} (p : Shape) (f : Frame B) (t : ℕ) (need : Need B) → keeps_task (made p f t need).kind ≡ true → IsOn f (made p f t need).frame t
made_on p f t Scan e = on_goes f f t refl refl
made_on p f t (Recv g c) e = recv_on f t g c _ _ e
made_on p f t (Send c b) e = send_to_on f t (task_at p t).sends c b e
made_on p f t (Grow c bytes) e = grow_on f t c bytes _ _ e
made_on p f t (Free c bytes) e = on_pool f _ t
made_on p f t Writes e = on_goes f f t refl refl
made_on p f t Finish e = cc
made_on p f t (Fail cause) e = cc
