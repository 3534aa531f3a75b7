-- What a call of the frame that serves a need makes of the run.
use Rattle.std.proofs.Common.{ℕ, ◌<◌, ◌≡◌, ◌⊎◌, inl, inr, refl, sym, ap, ◌∙◌, subst, List, [], ◌∷◌, ◌++◌, length, Bool, true, false, not, Option, Some, None, set, get_or}
use Rattle.run_journal.specs.declared.cause.Cause.{Cause}
use Rattle.run_journal.specs.declared.entry.EntryKind.{EntryKind}
use Rattle.run_journal.specs.declared.entry.EntryKind.TheVariants.{Failed}
use Rattle.turn_cell.specs.declared.act.Act.{Act}
use Rattle.turn_cell.specs.declared.act.Act.TheVariants.{Made}
use Rattle.turn_cell.specs.Loans.{loan_of, keeps_task, lent_by}
use Rattle.task_shape.specs.Shape.{Shape}
use Rattle.core_frame.specs.Frame.{Frame}
use Rattle.core_frame.specs.Step.{Need, Scan, Recv, Send, Grow, Free, Writes, Finish, Fail, may_fail, made, made_grow, frame_step}
use Rattle.core_frame.specs.Good.{IsOwn}
use Rattle.core_frame.specs.Carried.{map_need}
use Rattle.history_laws.specs.Histories.{Reply, reply_of, none_live}
use Rattle.history_laws.specs.Carried.{map_reply}
use Rattle.logical_plan.specs.Items.{Cells}
use Rattle.tree_laws.specs.Tasks.{Task}
use Rattle.tree_laws.specs.Runs.{asks_nothing}
use Rattle.run_frame.specs.Running.{Running}
use Rattle.run_frame.specs.Answers.{IsServed, is_received}
use Rattle.run_tasks.specs.Stands.{fresh, waits, IsFor}
use Rattle.run_tasks.specs.Moved.{Answered, Same}
use Rattle.turn_cell.proofs.Loans.{loan_after}
use Rattle.run_core.specs.Given.{Given}
use Rattle.run_core.specs.Fits.{IsOut, Fits}
use Rattle.run_core.specs.Holds.{Holds}
use Rattle.run_core.specs.Serves.{GoesOn}
use Rattle.run_core.proofs.Goes.{IsOn, made_on}
use Rattle.run_core.proofs.Claims.{failed_failure}
use Rattle.run_core.proofs.Turns.{entry_by, within, again_holds, again_fits, parked_holds, parked_free, device_holds, fault_holds}

module _ {B T : Type 0} (rows : B → List Cells) (number : T → ℕ) (suits : T → Shape → Type 0) (need : T → Option (Need (List Cells))) (stands : T → ℕ → Task → Type 0) where
  -- the run holds, and the worker goes on with what is answered so
  pub record Again (o : Given) (new : Running B) (slots : List (Option T)) (acts : List Act) (w : ℕ) (x : T) (r : Reply (List Cells)) : Type 0 where
    pub holds : Holds rows number suits need stands o new.shape new.frame slots acts
    pub next : (y : T) → Answered number suits need stands r x y → GoesOn number suits need stands o new.frame w acts x y

  -- the run holds, and the worker has no task
  pub record Parked (o : Given) (new : Running B) (slots : List (Option T)) (acts : List Act) (w : ℕ) : Type 0 where
    pub holds : Holds rows number suits need stands o new.shape new.frame slots acts
    pub free : loan_of w acts ≡ None

  module _ (o : Given) (r new : Running B) (slots : List (Option T)) (acts : List Act) (k : Holds rows number suits need stands o r.shape r.frame slots acts) (w : ℕ) (x : T)
      (fits : Fits o (suits x o.shape) (stands x o.size) (need x) (number x) w acts) (going : r.frame.failure ≡ None) (kd : EntryKind) (n : Need B) (needs : need x ≡ Some (map_need rows n)) (own : IsOwn r.shape (number x) n)
      (asks : asks_nothing kd ≡ false) (nf : (c : Cause) → map_need rows n ≡ Fail c → may_fail (Failed c) ≡ false) where
    own_here : IsOwn o.shape (number x) n
    own_here = subst (λ q. IsOwn q (number x) n) k.shape own

    served_again_at : IsServed r new w (number x) n kd → length r.frame.progress ≡ length r.frame.places → (reply : Reply B) → keeps_task kd ≡ true → reply_of r.shape r.frame (number x) kd n ≡ Some reply
        → Again o new slots (acts ++ Made (entry_by w (number x) kd) ∷ []) w x (map_reply rows reply)
    served_again_at i marks reply lends replies = record {
      holds = subst (λ q. Holds rows number suits need stands o q new.frame slots (acts ++ Made (entry_by w (number x) kd) ∷ [])) (sym i.shape)
          (again_holds rows number suits need stands o r.shape r.frame slots acts k w x fits kd n new.frame asks needs nf own_here going i.step reply lends replies_here);
      next = λ y a. record {
        fits = again_fits rows number suits need stands o r.shape r.frame slots acts k w x fits kd n new.frame asks needs nf own_here going i.step reply lends replies_here y a;
        same = a.same_number;
        free = a.free;
        going = ap (λ (f : Frame B). f.failure) i.frame ∙ (on.failure ∙ going);
        marked = ap (λ j. get_or new.frame.progress j false) a.same_number ∙ (ap (λ (f : Frame B). get_or f.progress (number x) false) i.frame ∙ on.marked inside);
      };
    }
      where
        replies_here : reply_of o.shape r.frame (number x) kd n ≡ Some reply
        replies_here = subst (λ q. reply_of q r.frame (number x) kd n ≡ Some reply) k.shape replies

        on : IsOn r.frame (made r.shape r.frame (number x) n).frame (number x)
        on = made_on r.shape r.frame (number x) n (ap keeps_task (sym i.kind) ∙ lends)

        inside : number x < length r.frame.progress
        inside = subst (λ m. number x < m) (k.stored.long ∙ (sym k.run.lawful.frame.tasks ∙ sym marks)) (within rows number suits need stands o r.shape r.frame slots acts k w x fits)

    served_parks_at : IsServed r new w (number x) n kd → lent_by (Made (entry_by w (number x) kd)) ≡ None → reply_of r.shape r.frame (number x) kd n ≡ None
        → Parked o new (set slots (number x) (Some x)) (acts ++ Made (entry_by w (number x) kd) ∷ []) w
    served_parks_at i lends replies = record {
      holds = subst (λ q. Holds rows number suits need stands o q new.frame (set slots (number x) (Some x)) (acts ++ Made (entry_by w (number x) kd) ∷ [])) (sym i.shape)
          (parked_holds rows number suits need stands o r.shape r.frame slots acts k w x fits kd n new.frame asks needs nf own_here going i.step lends replies_here);
      free = parked_free rows number suits need stands o r.shape r.frame slots acts k w x fits kd n new.frame asks needs nf own_here going i.step lends replies_here;
    }
      where
        replies_here : reply_of o.shape r.frame (number x) kd n ≡ None
        replies_here = subst (λ q. reply_of q r.frame (number x) kd n ≡ None) k.shape replies

    -- and where the task's number is another word for it
    pub served_again : (t : ℕ) → t ≡ number x → IsServed r new w t n kd → length r.frame.progress ≡ length r.frame.places → (reply : Reply B) → keeps_task kd ≡ true → reply_of r.shape r.frame t kd n ≡ Some reply
        → Again o new slots (acts ++ Made (entry_by w t kd) ∷ []) w x (map_reply rows reply)
    served_again t same i marks reply lends replies = subst (λ j. Again o new slots (acts ++ Made (entry_by w j kd) ∷ []) w x (map_reply rows reply)) (sym same)
        (served_again_at (subst (λ j. IsServed r new w j n kd) same i) marks reply lends (subst (λ j. reply_of r.shape r.frame j kd n ≡ Some reply) same replies))

    pub served_parks : (t : ℕ) → t ≡ number x → IsServed r new w t n kd → lent_by (Made (entry_by w t kd)) ≡ None → reply_of r.shape r.frame t kd n ≡ None
        → Parked o new (set slots t (Some x)) (acts ++ Made (entry_by w t kd) ∷ []) w
    served_parks t same i lends replies = subst (λ j. Parked o new (set slots j (Some x)) (acts ++ Made (entry_by w j kd) ∷ []) w) (sym same)
        (served_parks_at (subst (λ j. IsServed r new w j n kd) same i) (subst (λ j. lent_by (Made (entry_by w j kd)) ≡ None) same lends) (subst (λ j. reply_of r.shape r.frame j kd n ≡ None) same replies))

  -- ------------------------------------------------------------ the run fails
  module _ (o : Given) (r new : Running B) (slots : List (Option T)) (acts : List Act) (k : Holds rows number suits need stands o r.shape r.frame slots acts) (w : ℕ) (x : T)
      (fits : Fits o (suits x o.shape) (stands x o.size) (need x) (number x) w acts) (going : r.frame.failure ≡ None) (cause : Cause) where
    failed_at : IsServed r new w (number x) (Fail cause) (Failed cause) → (may_fail (Failed cause) ≡ true → (n : Need B) → frame_step r.shape r.frame (entry_by w (number x) (Failed cause)) n ≡ Some new.frame)
        → (may_fail (Failed cause) ≡ true) ⊎ (need x ≡ Some (Fail cause)) → Parked o new (set slots (number x) (Some x)) (acts ++ Made (entry_by w (number x) (Failed cause)) ∷ []) w
    failed_at i device why = record {
      holds = subst (λ q. Holds rows number suits need stands o q new.frame (set slots (number x) (Some x)) (acts ++ Made (entry_by w (number x) (Failed cause)) ∷ [])) (sym i.shape) (holds why);
      free = loan_after w acts (Made (entry_by w (number x) (Failed cause))) refl;
    }
      where
        failure : new.frame.failure ≡ Some cause
        failure = ap (λ (f : Frame B). f.failure) i.frame ∙ failed_failure r.frame cause

        holds : (may_fail (Failed cause) ≡ true) ⊎ (need x ≡ Some (Fail cause)) → Holds rows number suits need stands o r.shape new.frame (set slots (number x) (Some x)) (acts ++ Made (entry_by w (number x) (Failed cause)) ∷ [])
        holds (inl d) = device_holds rows number suits need stands o r.shape r.frame slots acts k w x fits cause new.frame d (device d Scan) failure
        holds (inr e) = fault_holds rows number suits need stands o r.shape r.frame slots acts k w x fits cause new.frame e going i.step (λ d. device d Scan) failure

    pub failed_parks : (t : ℕ) → t ≡ number x → IsServed r new w t (Fail cause) (Failed cause) → (may_fail (Failed cause) ≡ true → (n : Need B) → frame_step r.shape r.frame (entry_by w t (Failed cause)) n ≡ Some new.frame)
        → (may_fail (Failed cause) ≡ true) ⊎ (need x ≡ Some (Fail cause)) → Parked o new (set slots t (Some x)) (acts ++ Made (entry_by w t (Failed cause)) ∷ []) w
    failed_parks t same i device why = subst (λ j. Parked o new (set slots j (Some x)) (acts ++ Made (entry_by w j (Failed cause)) ∷ []) w) (sym same)
        (failed_at (subst (λ j. IsServed r new w j (Fail cause) (Failed cause)) same i) (subst (λ j. may_fail (Failed cause) ≡ true → (n : Need B) → frame_step r.shape r.frame (entry_by w j (Failed cause)) n ≡ Some new.frame) same device) why)

  -- a task that is for the same fits as it did
  pub same_fits : (o : Given) (x y : T) (w : ℕ) (acts : List Act) → Fits o (suits x o.shape) (stands x o.size) (need x) (number x) w acts → Same number suits need stands x y → Fits o (suits y o.shape) (stands y o.size) (need y) (number y) w acts
  same_fits o x y w acts fits s = record {
    loan = fits.loan ∙ ap Some (sym s.same_number);
    suits = s.still_suits o.shape fits.suits;
    told = λ start es. subst (λ j. IsOut o start (stands y o.size) (need y) j acts) (sym s.same_number) (let h = fits.told start es in record { task = h.task; is = h.is; stands = for h.task h.stands });
  }
    where
      for : (j : Task) → IsFor o.size (stands x o.size) (need x) j → IsFor o.size (stands y o.size) (need y) j
      for j (inl (fresh none a)) = inl (fresh (s.same_need ∙ none) (s.still_stands o.size j a))
      for j (inl (waits v settles is a)) = inl (waits v settles (s.same_need ∙ is) (s.still_stands o.size v.now a))
      for j (inr b) = inr (record { cause = b.cause; device = b.device; fails = s.same_need ∙ b.fails })

-- a need of the task's own is so with batches for rows
own_batches : {B : Type 0} (rows : B → List Cells) (p : Shape) (t : ℕ) (n : Need B) → IsOwn p t (map_need rows n) → IsOwn p t n
own_batches rows p t Scan e = tt
own_batches rows p t (Recv g c) e = e
own_batches rows p t (Send c b) e = e
own_batches rows p t (Grow c b) e = e
own_batches rows p t (Free c b) e = e
own_batches rows p t Writes e = tt
own_batches rows p t Finish e = tt
own_batches rows p t (Fail c) e = tt

pub own_is : {B : Type 0} (rows : B → List Cells) (p q : Shape) (t : ℕ) (n : Need B) → p ≡ q → IsOwn q t (map_need rows n) → IsOwn p t n
own_is rows p q t n s e = own_batches rows p t n (subst (λ z. IsOwn z t (map_need rows n)) (sym s) e)

-- nobody receives from the group any more
pub none_live_is : {B : Type 0} (f : Frame B) (o : Option ℕ) → none_live f o ≡ not (is_received f o)
none_live_is f None = refl
none_live_is f (Some g) = refl

-- a request past the share fails the run by its own cause
pub past_asks : {B : Type 0} (f : Frame B) (t c bytes : ℕ) (granted gives : Bool) (cause : Cause) → Failed cause ≡ (made_grow f t c bytes granted gives).kind → asks_nothing (Failed cause) ≡ false
past_asks f t c bytes true gives cause e = cc
past_asks f t c bytes false true cause e = cc
past_asks f t c bytes false false cause e = ap asks_nothing e
