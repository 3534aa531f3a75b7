-- A claim, an owner's entry, and a return: the run goes on holding, and the job fits, or is here again.
use Rattle.std.proofs.Common.{ℕ, ◌<◌, ◌≡◌, ◌≢◌, ◌⊎◌, inl, inr, refl, sym, ap, ◌∙◌, subst, List, [], ◌∷◌, ◌++◌, length, Bool, true, false, Option, Some, None, is_some, set, get_or-set_same, option_map}
use Rattle.run_journal.specs.declared.cause.Cause.{Cause}
use Rattle.run_journal.specs.declared.cause.Cause.TheVariants.{NoMemory}
use Rattle.run_journal.specs.declared.entry.Entry.{Entry}
use Rattle.run_journal.specs.declared.entry.EntryKind.{EntryKind}
use Rattle.run_journal.specs.declared.entry.EntryKind.TheVariants.{Claimed, Yielded, Failed}
use Rattle.turn_cell.specs.declared.act.Act.{Act}
use Rattle.turn_cell.specs.declared.act.Act.TheVariants.{Made, Returned}
use Rattle.turn_cell.specs.Loans.{loan_of, keeps_task, lent_by}
use Rattle.turn_cell.proofs.Loans.{loan_after}
use Rattle.task_shape.specs.Shape.{Shape}
use Rattle.task_shape.proofs.Numbers.{same_or_not}
use Rattle.core_frame.specs.declared.place.Place.TheVariants.{Woken, OwnedBy, Done}
use Rattle.core_frame.specs.Frame.{Frame, place_of}
use Rattle.core_frame.specs.Step.{Need, Scan, Fail, may_fail, frame_step}
use Rattle.core_frame.specs.Good.{IsOwn}
use Rattle.core_frame.specs.Carried.{map_need}
use Rattle.core_frame.proofs.Lists.{read_other}
use Rattle.core_frame.proofs.Moves.{not_done_inside}
use Rattle.history_laws.specs.Histories.{Reply, reply_of}
use Rattle.history_laws.specs.Carried.{map_reply}
use Rattle.logical_plan.specs.Items.{Cells}
use Rattle.tree_laws.specs.Tasks.{Task, Waits, Wait}
use Rattle.tree_laws.specs.Runs.{State, asks_nothing}
use Rattle.tree_laws.specs.Settles.{Settles}
use Rattle.tree_laws.proofs.Settles.{settled_turn, settle_again}
use Rattle.run_laws.specs.Told.{task_after}
use Rattle.run_laws.specs.Kept.{IsRun, IsToldRun, TaskIs}
use Rattle.run_laws.proofs.Loans.{loans_apart, kept_lent}
use Rattle.run_laws.proofs.Kept.{run_made, run_returned, task_apart, told_returned, told_unanswered, told_answered}
use Rattle.run_tasks.specs.Stands.{IsHere, fresh, waits, IsFor}
use Rattle.run_tasks.specs.Moved.{Answered}
use Rattle.run_core.specs.Given.{Given}
use Rattle.run_core.specs.Fits.{Fits}
use Rattle.run_core.specs.Holds.{slot, StandsHere, Holds}
use Rattle.run_core.proofs.Stored.{slot_inside, not_some, stored_out, stored_back, stored_same}

abbrev pub entry_by : ℕ → ℕ → EntryKind → Entry
entry_by w t kd = record { worker = w; task = t; kind = kd }

woken_not : (w : ℕ) → Woken ≢ OwnedBy w
woken_not w e = cc

-- what a job with this need that isn't a failure for want of a device or of memory comes to
pub record Asks (size : ℕ) (S : Task → Type 0) (n : Need (List Cells)) (k : Task) : Type 0 where
  pub wait : Wait
  pub settles : Settles size k wait
  pub is : wait.need ≡ n
  pub stands : S wait.now

some_need : (a b : Need (List Cells)) → Some a ≡ Some b → a ≡ b
some_need a b e = cc

asking : (size : ℕ) (S : Task → Type 0) (need : Option (Need (List Cells))) (n : Need (List Cells)) (k : Task) → need ≡ Some n → ((c : Cause) → n ≡ Fail c → may_fail (Failed c) ≡ false) → IsFor size S need k → Asks size S n k
asking size S need n k e nf (inl (fresh none s)) = absurd (not_some need n none e)
asking size S need n k e nf (inl (waits w settles is s)) = record { wait = w; settles = settles; is = some_need w.need n (sym is ∙ e); stands = s }
asking size S need n k e nf (inr b) = let f : may_fail (Failed b.cause) ≡ false = nf b.cause (some_need n (Fail b.cause) (sym e ∙ b.fails)) in let z : true ≡ false = sym b.device ∙ f in cc

module _ {B T : Type 0} (rows : B → List Cells) (number : T → ℕ) (suits : T → Shape → Type 0) (need : T → Option (Need (List Cells))) (stands : T → ℕ → Task → Type 0)
    (o : Given) (p : Shape) (f : Frame B) (slots : List (Option T)) (acts : List Act) (k : Holds rows number suits need stands o p f slots acts) where
  here_step : (e : Entry) (n : Need B) (f2 : Frame B) → frame_step p f e n ≡ Some f2 → frame_step o.shape f e n ≡ Some f2
  here_step e n f2 i = subst (λ q. frame_step q f e n ≡ Some f2) k.shape i

  -- a task that is somewhere but at its end is one of the run's
  pub inside : (t : ℕ) → place_of f t ≢ Done → t < length slots
  inside t d = subst (λ n. t < n) (k.run.lawful.frame.tasks ∙ sym k.stored.long) (not_done_inside f t d)

  -- ------------------------------------------------------------ a claim
  module _ (w t : ℕ) (going : f.failure ≡ None) (woken : place_of f t ≡ Woken) (free : loan_of w acts ≡ None) where
    -- a woken task is here
    pub is_here : (x : T) × (slot slots t ≡ Some x)
    is_here = go (slot slots t) refl
      where
        go : (q : Option T) → slot slots t ≡ q → (x : T) × (slot slots t ≡ Some x)
        go None e = let l = k.stored.lent t (inside t (λ d. (let z : Woken ≡ Done = sym woken ∙ d in cc))) e in absurd (woken_not l.0 (sym woken ∙ k.run.loans.place l.0 t l.1))
        go (Some x) e = (x, e)

    -- there is no memory for the claim
    pub failure_holds : (f2 : Frame B) → frame_step p f (entry_by w t (Failed NoMemory)) Scan ≡ Some f2 → f2.failure ≡ Some NoMemory
        → Holds rows number suits need stands o p f2 slots (acts ++ Made (entry_by w t (Failed NoMemory)) ∷ [])
    failure_holds f2 i failed = record {
      given = k.given;
      shape = k.shape;
      run = run_made o.shape o.limit acts f f2 (entry_by w t (Failed NoMemory)) Scan k.given.shape k.run tt (here_step (entry_by w t (Failed NoMemory)) Scan f2 i);
      stored = stored_same number suits o.shape slots acts (Made (entry_by w t (Failed NoMemory))) w t k.stored refl free;
      told = λ start es. record {
        run = (told_unanswered rows o.shape o.size o.limit start acts f f2 (entry_by w t (Failed NoMemory)) Scan (k.told start es).run (here_step (entry_by w t (Failed NoMemory)) Scan f2 i) refl).0;
        here = λ g. absurd (not_some f2.failure NoMemory g failed);
      };
    }

    pub failure_free : loan_of w (acts ++ Made (entry_by w t (Failed NoMemory)) ∷ []) ≡ None
    failure_free = loan_after w acts (Made (entry_by w t (Failed NoMemory))) refl

    module _ (f2 : Frame B) (i : frame_step p f (entry_by w t Claimed) Scan ≡ Some f2) (x : T) (at : slot slots t ≡ Some x) where
      claim_told : (start : State) → o.start ≡ Some start → IsToldRun rows o.shape o.size start (acts ++ Made (entry_by w t Claimed) ∷ []) f2
          × ((u : ℕ) (j : Task) → TaskIs o.shape o.size start acts u j → TaskIs o.shape o.size start (acts ++ Made (entry_by w t Claimed) ∷ []) u j)
      claim_told start es = told_unanswered rows o.shape o.size o.limit start acts f f2 (entry_by w t Claimed) Scan (k.told start es).run (here_step (entry_by w t Claimed) Scan f2 i) refl

      still : (u : ℕ) (y : T) → slot (set slots t None) u ≡ Some y → (t ≡ u) ⊎ (t ≢ u) → slot slots u ≡ Some y
      still u y e (inl s) = absurd (not_some (slot (set slots t None) u) y (subst (λ j. slot (set slots t None) j ≡ None) s (get_or-set_same slots t None None (slot_inside slots t x at))) e)
      still u y e (inr n) = sym (read_other slots t u None None n) ∙ e

      pub claim_holds : Holds rows number suits need stands o p f2 (set slots t None) (acts ++ Made (entry_by w t Claimed) ∷ [])
      claim_holds = record {
        given = k.given;
        shape = k.shape;
        run = run_made o.shape o.limit acts f f2 (entry_by w t Claimed) Scan k.given.shape k.run tt (here_step (entry_by w t Claimed) Scan f2 i);
        stored = stored_out number suits o.shape slots acts (Made (entry_by w t Claimed)) w t k.stored refl x at free refl;
        told = λ start es. record {
          run = (claim_told start es).0;
          here = λ g u y e. (let h = (k.told start es).here going u y (still u y e (same_or_not t u)) in record { task = h.task; is = (claim_told start es).1 u h.task h.is; is_for = h.is_for });
        };
      }

      pub claim_fits : Fits o (suits x o.shape) (stands x o.size) (need x) (number x) w (acts ++ Made (entry_by w t Claimed) ∷ [])
      claim_fits = record {
        loan = loan_after w acts (Made (entry_by w t Claimed)) refl ∙ ap Some (sym is);
        suits = k.stored.suited t x at;
        told = λ start es. (let h = (k.told start es).here going t x at in record {
          task = h.task;
          is = subst (λ j. TaskIs o.shape o.size start (acts ++ Made (entry_by w t Claimed) ∷ []) j h.task) (sym is) ((claim_told start es).1 t h.task h.is);
          stands = inl h.is_for;
        });
      }
        where
          is : number x ≡ t
          is = k.stored.numbered t x at

  -- ------------------------------------------------------------ an owner
  module _ (w : ℕ) (x : T) (fits : Fits o (suits x o.shape) (stands x o.size) (need x) (number x) w acts) where
    pub owned : place_of f (number x) ≡ OwnedBy w
    owned = k.run.loans.place w (number x) fits.loan

    pub none_here : slot slots (number x) ≡ None
    none_here = k.stored.out w (number x) fits.loan

    pub within : number x < length slots
    within = inside (number x) (λ d. (let z : OwnedBy w ≡ Done = sym owned ∙ d in cc))

    only : (v : ℕ) → loan_of v acts ≡ Some (number x) → v ≡ w
    only v h = loans_apart f acts v w (number x) k.run.loans h fits.loan

    others_here : (u : ℕ) (y : T) → slot slots u ≡ Some y → number x ≢ u
    others_here u y e s = not_some (slot slots u) y (ap (slot slots) (sym s) ∙ none_here) e

    itself : (u : ℕ) (y : T) → slot (set slots (number x) (Some x)) u ≡ Some y → number x ≡ u → x ≡ y
    itself u y e s = let z : Some x ≡ Some y = sym (get_or-set_same slots (number x) (Some x) None within) ∙ (ap (slot (set slots (number x) (Some x))) s ∙ e) in cc

    other : (u : ℕ) (y : T) → slot (set slots (number x) (Some x)) u ≡ Some y → number x ≢ u → slot slots u ≡ Some y
    other u y e n = sym (read_other slots (number x) u (Some x) None n) ∙ e

    -- a run that has failed takes the task back
    pub returned_holds : (c : Cause) → f.failure ≡ Some c → Holds rows number suits need stands o p f (set slots (number x) (Some x)) (acts ++ Returned w (number x) ∷ [])
    returned_holds c failed = record {
      given = k.given;
      shape = k.shape;
      run = run_returned o.shape o.limit acts f w (number x) k.run (ap is_some failed);
      stored = stored_back number suits o.shape slots acts (Returned w (number x)) w (number x) k.stored refl x within refl fits.suits fits.loan only refl;
      told = λ start es. record {
        run = told_returned rows o.shape o.size o.limit start acts f w (number x) (k.told start es).run;
        here = λ g. absurd (not_some f.failure c g failed);
      };
    }

    pub returned_free : loan_of w (acts ++ Returned w (number x) ∷ []) ≡ None
    returned_free = loan_after w acts (Returned w (number x)) refl

    -- ------------------------------------------------------------ for want of a device or of memory, whatever it asks
    pub device_holds : (cause : Cause) (f2 : Frame B) → may_fail (Failed cause) ≡ true → frame_step p f (entry_by w (number x) (Failed cause)) Scan ≡ Some f2 → f2.failure ≡ Some cause
        → Holds rows number suits need stands o p f2 (set slots (number x) (Some x)) (acts ++ Made (entry_by w (number x) (Failed cause)) ∷ [])
    device_holds cause f2 device i failed = record {
      given = k.given;
      shape = k.shape;
      run = run_made o.shape o.limit acts f f2 (entry_by w (number x) (Failed cause)) Scan k.given.shape k.run tt (here_step (entry_by w (number x) (Failed cause)) Scan f2 i);
      stored = stored_back number suits o.shape slots acts (Made (entry_by w (number x) (Failed cause))) w (number x) k.stored refl x within refl fits.suits fits.loan only refl;
      told = λ start es. record {
        run = (told_unanswered rows o.shape o.size o.limit start acts f f2 (entry_by w (number x) (Failed cause)) Scan (k.told start es).run (here_step (entry_by w (number x) (Failed cause)) Scan f2 i) device).0;
        here = λ g. absurd (not_some f2.failure cause g failed);
      };
    }

    -- ------------------------------------------------------------ it goes back to the queue
    pub yielded_holds : (f2 : Frame B) → need x ≡ None → f.failure ≡ None → frame_step p f (entry_by w (number x) Yielded) Scan ≡ Some f2
        → Holds rows number suits need stands o p f2 (set slots (number x) (Some x)) (acts ++ Made (entry_by w (number x) Yielded) ∷ [])
    yielded_holds f2 none going i = record {
      given = k.given;
      shape = k.shape;
      run = run_made o.shape o.limit acts f f2 (entry_by w (number x) Yielded) Scan k.given.shape k.run tt (here_step (entry_by w (number x) Yielded) Scan f2 i);
      stored = stored_back number suits o.shape slots acts (Made (entry_by w (number x) Yielded)) w (number x) k.stored refl x within refl fits.suits fits.loan only refl;
      told = λ start es. record { run = (told start es).0; here = λ g u y e. here start es u y e (same_or_not (number x) u) };
    }
      where
        told : (start : State) → o.start ≡ Some start → IsToldRun rows o.shape o.size start (acts ++ Made (entry_by w (number x) Yielded) ∷ []) f2
            × ((u : ℕ) (j : Task) → TaskIs o.shape o.size start acts u j → TaskIs o.shape o.size start (acts ++ Made (entry_by w (number x) Yielded) ∷ []) u j)
        told start es = told_unanswered rows o.shape o.size o.limit start acts f f2 (entry_by w (number x) Yielded) Scan (k.told start es).run (here_step (entry_by w (number x) Yielded) Scan f2 i) refl

        idle : (j : Task) → IsFor o.size (stands x o.size) (need x) j → IsHere o.size (stands x o.size) (need x) j
        idle j (inl h) = h
        idle j (inr b) = absurd (not_some (need x) (Fail b.cause) none b.fails)

        mine : (start : State) (es : o.start ≡ Some start) → StandsHere need stands o start (acts ++ Made (entry_by w (number x) Yielded) ∷ []) (number x) x
        mine start es = let h = fits.told start es in record { task = h.task; is = (told start es).1 (number x) h.task h.is; is_for = idle h.task h.stands }

        here : (start : State) (es : o.start ≡ Some start) (u : ℕ) (y : T) → slot (set slots (number x) (Some x)) u ≡ Some y → (number x ≡ u) ⊎ (number x ≢ u)
            → StandsHere need stands o start (acts ++ Made (entry_by w (number x) Yielded) ∷ []) u y
        here start es u y e (inl s) = subst (λ v. StandsHere need stands o start (acts ++ Made (entry_by w (number x) Yielded) ∷ []) v y) s
            (subst (StandsHere need stands o start (acts ++ Made (entry_by w (number x) Yielded) ∷ []) (number x)) (itself u y e s) (mine start es))
        here start es u y e (inr n) = let h = (k.told start es).here going u y (other u y e n) in record { task = h.task; is = (told start es).1 u h.task h.is; is_for = h.is_for }

    -- ------------------------------------------------------------ what it asks is met, or can't be
    module _ (kd : EntryKind) (n : Need B) (f2 : Frame B) (asks : asks_nothing kd ≡ false) (needs : need x ≡ Some (map_need rows n)) (nf : (c : Cause) → map_need rows n ≡ Fail c → may_fail (Failed c) ≡ false)
        (own : IsOwn o.shape (number x) n) (going : f.failure ≡ None) (i : frame_step p f (entry_by w (number x) kd) n ≡ Some f2) where
      run_then : IsRun o.shape o.limit (acts ++ Made (entry_by w (number x) kd) ∷ []) f2
      run_then = run_made o.shape o.limit acts f f2 (entry_by w (number x) kd) n k.given.shape k.run own (here_step (entry_by w (number x) kd) n f2 i)

      asked : (start : State) (es : o.start ≡ Some start) → Asks o.size (stands x o.size) (map_need rows n) (fits.told start es).task
      asked start es = asking o.size (stands x o.size) (need x) (map_need rows n) (fits.told start es).task needs nf (fits.told start es).stands

      after : (start : State) (es : o.start ≡ Some start) → IsToldRun rows o.shape o.size start (acts ++ Made (entry_by w (number x) kd) ∷ []) f2
          × TaskIs o.shape o.size start (acts ++ Made (entry_by w (number x) kd) ∷ []) (number x) (task_after (asked start es).wait (option_map (map_reply rows) (reply_of o.shape f (number x) kd n)))
      after start es = told_answered rows o.shape o.size o.limit start acts f f2 (entry_by w (number x) kd) n (fits.told start es).task (asked start es).wait k.given.shape (k.given.start start es) (k.told start es).run (fits.told start es).is
          (asked start es).settles (asked start es).is (here_step (entry_by w (number x) kd) n f2 i) asks

      apart : (start : State) (es : o.start ≡ Some start) (u : ℕ) (y : T) → number x ≢ u → slot slots u ≡ Some y → StandsHere need stands o start (acts ++ Made (entry_by w (number x) kd) ∷ []) u y
      apart start es u y m e =
          let h = (k.told start es).here going u y e in let r = (after start es).0 in
          record { task = h.task; is = task_apart o.shape o.size start acts (entry_by w (number x) kd) u h.task r.state m h.is r.leads; is_for = h.is_for }

      -- it goes on
      module _ (r : Reply B) (lends : keeps_task kd ≡ true) (replies : reply_of o.shape f (number x) kd n ≡ Some r) where
        pub again_holds : Holds rows number suits need stands o p f2 slots (acts ++ Made (entry_by w (number x) kd) ∷ [])
        again_holds = record {
          given = k.given;
          shape = k.shape;
          run = run_then;
          stored = stored_same number suits o.shape slots acts (Made (entry_by w (number x) kd)) w (number x) k.stored refl (fits.loan ∙ sym (kept_lent (entry_by w (number x) kd) lends));
          told = λ start es. record { run = (after start es).0; here = λ g u y e. apart start es u y (others_here u y e) e };
        }

        pub again_fits : (y : T) → Answered number suits need stands (map_reply rows r) x y → Fits o (suits y o.shape) (stands y o.size) (need y) (number y) w (acts ++ Made (entry_by w (number x) kd) ∷ [])
        again_fits y a = record {
          loan = loan_after w acts (Made (entry_by w (number x) kd)) refl ∙ (kept_lent (entry_by w (number x) kd) lends ∙ ap Some (sym a.same_number));
          suits = a.still_suits o.shape fits.suits;
          told = λ start es. (let q = asked start es in record {
            task = q.wait.after (map_reply rows r);
            is = subst (λ j. TaskIs o.shape o.size start (acts ++ Made (entry_by w (number x) kd) ∷ []) j (q.wait.after (map_reply rows r))) (sym a.same_number)
                (subst (λ z. TaskIs o.shape o.size start (acts ++ Made (entry_by w (number x) kd) ∷ []) (number x) (task_after q.wait (option_map (map_reply rows) z))) replies (after start es).1);
            stands = inl (fresh a.free (a.stands_after o.size q.wait.now (map_need rows n) q.wait.after needs (settled_turn o.size q.settles.0 (fits.told start es).task q.wait q.settles.1 ∙ ap (λ m. Waits m q.wait.after) q.is) q.stands));
          });
        }

      -- it waits, or has ended, or the run has failed
      module _ (lends : lent_by (Made (entry_by w (number x) kd)) ≡ None) (replies : reply_of o.shape f (number x) kd n ≡ None) where
        mine : (start : State) (es : o.start ≡ Some start) → StandsHere need stands o start (acts ++ Made (entry_by w (number x) kd) ∷ []) (number x) x
        mine start es = let q = asked start es in record {
          task = q.wait.now;
          is = subst (λ z. TaskIs o.shape o.size start (acts ++ Made (entry_by w (number x) kd) ∷ []) (number x) (task_after q.wait (option_map (map_reply rows) z))) replies (after start es).1;
          is_for = waits q.wait (1, settle_again o.size q.settles.0 (fits.told start es).task q.wait q.settles.1) (needs ∙ ap Some (sym q.is)) q.stands;
        }

        here : (start : State) (es : o.start ≡ Some start) (u : ℕ) (y : T) → slot (set slots (number x) (Some x)) u ≡ Some y → (number x ≡ u) ⊎ (number x ≢ u)
            → StandsHere need stands o start (acts ++ Made (entry_by w (number x) kd) ∷ []) u y
        here start es u y e (inl s) = subst (λ v. StandsHere need stands o start (acts ++ Made (entry_by w (number x) kd) ∷ []) v y) s
            (subst (StandsHere need stands o start (acts ++ Made (entry_by w (number x) kd) ∷ []) (number x)) (itself u y e s) (mine start es))
        here start es u y e (inr m) = apart start es u y m (other u y e m)

        pub parked_holds : Holds rows number suits need stands o p f2 (set slots (number x) (Some x)) (acts ++ Made (entry_by w (number x) kd) ∷ [])
        parked_holds = record {
          given = k.given;
          shape = k.shape;
          run = run_then;
          stored = stored_back number suits o.shape slots acts (Made (entry_by w (number x) kd)) w (number x) k.stored refl x within refl fits.suits fits.loan only lends;
          told = λ start es. record { run = (after start es).0; here = λ g u y e. here start es u y e (same_or_not (number x) u) };
        }

        pub parked_free : loan_of w (acts ++ Made (entry_by w (number x) kd) ∷ []) ≡ None
        parked_free = loan_after w acts (Made (entry_by w (number x) kd)) refl ∙ lends

    -- ------------------------------------------------------------ it asks to fail
    fail_cause : (a b : Cause) → ◌≡◌ {A = Need (List Cells)} (Fail a) (Fail b) → a ≡ b
    fail_cause a b e = cc

    pub fault_holds : (cause : Cause) (f2 : Frame B) → need x ≡ Some (Fail cause) → f.failure ≡ None → frame_step p f (entry_by w (number x) (Failed cause)) (Fail cause) ≡ Some f2
        → (may_fail (Failed cause) ≡ true → frame_step p f (entry_by w (number x) (Failed cause)) Scan ≡ Some f2) → f2.failure ≡ Some cause
        → Holds rows number suits need stands o p f2 (set slots (number x) (Some x)) (acts ++ Made (entry_by w (number x) (Failed cause)) ∷ [])
    fault_holds cause f2 needs going i device failed = go (may_fail (Failed cause)) refl
      where
        go : (b : Bool) → may_fail (Failed cause) ≡ b → Holds rows number suits need stands o p f2 (set slots (number x) (Some x)) (acts ++ Made (entry_by w (number x) (Failed cause)) ∷ [])
        go true eb = device_holds cause f2 eb (device eb) failed
        go false eb = parked_holds (Failed cause) (Fail cause) f2 eb needs (λ c e. ap (λ z. may_fail (Failed z)) (sym (fail_cause cause c e)) ∙ eb) tt going i refl refl
