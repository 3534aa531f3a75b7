-- Tasks that are taken out of a run, and put back.
use Rattle.std.proofs.Common.{ℕ, zero, suc, ◌+◌, ◌≤◌, ◌<◌, ◌≡◌, ◌≢◌, ◌⊎◌, inl, inr, refl, sym, ap, ◌∙◌, subst, List, [], ◌∷◌, ◌++◌, length, true, Option, Some, None, set, arith, get_or-set_same, eqb, cond, ne_eqb, append-nil}
use Rattle.std.specs.Prelude.{is_some}
use Rattle.std.proofs.Math.ListN.{length-set, get_or-eq_default}
use Rattle.task_shape.proofs.Numbers.{lt_or_le, same_or_not}
use Rattle.turn_cell.specs.declared.act.Act.{Act}
use Rattle.turn_cell.specs.Acts.{acts_by, worker_of}
use Rattle.turn_cell.specs.Loans.{loan_of, last_loan, lent_by}
use Rattle.turn_cell.proofs.Loans.{loan_after}
use Rattle.task_shape.specs.Shape.{Shape}
use Rattle.core_frame.proofs.Lists.{read_other}
use Rattle.run_journal.specs.declared.cause.Cause.{Cause}
use Rattle.run_core.specs.Holds.{slot, IsStored}
use Rattle.run_core.specs.Room.{outs, spare, HasRoom}
use Rattle.std.proofs.lemmas.List.Elements.{filter-append}

pub slot_inside : {T : Type 0} (slots : List (Option T)) (t : ℕ) (x : T) → slot slots t ≡ Some x → t < length slots
slot_inside {T} slots t x e = elim (lt_or_le t (length slots)) [
  | inl h ↦ h
  | inr h ↦ (let z : None ≡ Some x = sym (get_or-eq_default slots None h) ∙ e in cc)
]

pub not_some : {T : Type 0} (o : Option T) (x : T) → o ≡ None → o ≡ Some x → ⊥
not_some o x a b = let z : None ≡ Some x = sym a ∙ b in cc

pub some_number : (a b : ℕ) → Some a ≡ Some b → a ≡ b
some_number a b e = cc

-- what another worker does leaves a loan
pub loan_else : (v : ℕ) (acts : List Act) (a : Act) → worker_of a ≢ v → loan_of v (acts ++ a ∷ []) ≡ loan_of v acts
loan_else v acts a n = ap last_loan (filter-append (λ (x : Act). eqb (worker_of x) v) acts (a ∷ []) ∙ (ap (λ b. acts_by v acts ++ cond b (a ∷ []) []) (ne_eqb (worker_of a) v n) ∙ append-nil (acts_by v acts)))

module _ {T : Type 0} (number : T → ℕ) (suits : T → Shape → Type 0) (p : Shape) (slots : List (Option T)) (acts : List Act) (a : Act) (w t : ℕ) (k : IsStored number suits p slots acts) (mine : worker_of a ≡ w) where
  else_loan : (v u : ℕ) → w ≢ v → loan_of v acts ≡ Some u → loan_of v (acts ++ a ∷ []) ≡ Some u
  else_loan v u m h = loan_else v acts a (λ z. m (sym mine ∙ z)) ∙ h

  was_loan : (v u : ℕ) → w ≢ v → loan_of v (acts ++ a ∷ []) ≡ Some u → loan_of v acts ≡ Some u
  was_loan v u m h = sym (loan_else v acts a (λ z. m (sym mine ∙ z))) ∙ h

  my_loan : (v : ℕ) → w ≡ v → loan_of v (acts ++ a ∷ []) ≡ lent_by a
  my_loan v s = loan_after v acts a (mine ∙ s)

  -- a task is taken by a worker that had none
  pub stored_out : (x : T) → slot slots t ≡ Some x → loan_of w acts ≡ None → lent_by a ≡ Some t → IsStored number suits p (set slots t None) (acts ++ a ∷ [])
  stored_out x at free lends = record {
    long = length-set slots t None ∙ k.long;
    numbered = λ u y e. k.numbered u y (still u y e (same_or_not t u));
    suited = λ u y e. k.suited u y (still u y e (same_or_not t u));
    lent = λ u h e. lent u (subst (λ n. u < n) (length-set slots t None) h) e (same_or_not t u);
    out = λ v u h. out v u h (same_or_not w v);
  }
    where
      gone : slot (set slots t None) t ≡ None
      gone = get_or-set_same slots t None None (slot_inside slots t x at)

      still : (u : ℕ) (y : T) → slot (set slots t None) u ≡ Some y → (t ≡ u) ⊎ (t ≢ u) → slot slots u ≡ Some y
      still u y e (inl s) = absurd (not_some (slot (set slots t None) u) y (subst (λ j. slot (set slots t None) j ≡ None) s gone) e)
      still u y e (inr n) = sym (read_other slots t u None None n) ∙ e

      others : (u v : ℕ) → loan_of v acts ≡ Some u → (w ≡ v) ⊎ (w ≢ v) → (v : ℕ) × (loan_of v (acts ++ a ∷ []) ≡ Some u)
      others u v h (inl s) = absurd (not_some (loan_of w acts) u free (ap (λ j. loan_of j acts) s ∙ h))
      others u v h (inr m) = (v, else_loan v u m h)

      lent : (u : ℕ) → u < length slots → slot (set slots t None) u ≡ None → (t ≡ u) ⊎ (t ≢ u) → (v : ℕ) × (loan_of v (acts ++ a ∷ []) ≡ Some u)
      lent u h e (inl s) = (w, my_loan w refl ∙ (lends ∙ ap Some s))
      lent u h e (inr n) = let old = k.lent u h (sym (read_other slots t u None None n) ∙ e) in others u old.0 old.1 (same_or_not w old.0)

      none_at : (u : ℕ) → slot slots u ≡ None → (t ≡ u) ⊎ (t ≢ u) → slot (set slots t None) u ≡ None
      none_at u e (inl s) = subst (λ j. slot (set slots t None) j ≡ None) s gone
      none_at u e (inr n) = read_other slots t u None None n ∙ e

      out : (v u : ℕ) → loan_of v (acts ++ a ∷ []) ≡ Some u → (w ≡ v) ⊎ (w ≢ v) → slot (set slots t None) u ≡ None
      out v u h (inl s) = subst (λ j. slot (set slots t None) j ≡ None) (some_number t u (sym lends ∙ (sym (my_loan v s) ∙ h))) gone
      out v u h (inr m) = none_at u (k.out v u (was_loan v u m h)) (same_or_not t u)

  -- a worker gives its task back
  pub stored_back : (x : T) → t < length slots → number x ≡ t → suits x p → loan_of w acts ≡ Some t → ((v : ℕ) → loan_of v acts ≡ Some t → v ≡ w) → lent_by a ≡ None
      → IsStored number suits p (set slots t (Some x)) (acts ++ a ∷ [])
  stored_back x h0 nx sx had only lends = record {
    long = length-set slots t (Some x) ∙ k.long;
    numbered = λ u y e. numbered u y e (same_or_not t u);
    suited = λ u y e. suited u y e (same_or_not t u);
    lent = λ u h e. lent u (subst (λ n. u < n) (length-set slots t (Some x)) h) e (same_or_not t u);
    out = λ v u h. out v u h (same_or_not w v);
  }
    where
      here : slot (set slots t (Some x)) t ≡ Some x
      here = get_or-set_same slots t (Some x) None h0

      same : (u : ℕ) (y : T) → slot (set slots t (Some x)) u ≡ Some y → t ≡ u → x ≡ y
      same u y e s = let z : Some x ≡ Some y = sym here ∙ (ap (slot (set slots t (Some x))) s ∙ e) in cc

      numbered : (u : ℕ) (y : T) → slot (set slots t (Some x)) u ≡ Some y → (t ≡ u) ⊎ (t ≢ u) → number y ≡ u
      numbered u y e (inl s) = ap number (sym (same u y e s)) ∙ (nx ∙ s)
      numbered u y e (inr n) = k.numbered u y (sym (read_other slots t u (Some x) None n) ∙ e)

      suited : (u : ℕ) (y : T) → slot (set slots t (Some x)) u ≡ Some y → (t ≡ u) ⊎ (t ≢ u) → suits y p
      suited u y e (inl s) = subst (λ z. suits z p) (same u y e s) sx
      suited u y e (inr n) = k.suited u y (sym (read_other slots t u (Some x) None n) ∙ e)

      others : (u v : ℕ) → t ≢ u → loan_of v acts ≡ Some u → (w ≡ v) ⊎ (w ≢ v) → (v : ℕ) × (loan_of v (acts ++ a ∷ []) ≡ Some u)
      others u v n h (inl s) = absurd (n (some_number t u (sym had ∙ (ap (λ j. loan_of j acts) s ∙ h))))
      others u v n h (inr m) = (v, else_loan v u m h)

      lent : (u : ℕ) → u < length slots → slot (set slots t (Some x)) u ≡ None → (t ≡ u) ⊎ (t ≢ u) → (v : ℕ) × (loan_of v (acts ++ a ∷ []) ≡ Some u)
      lent u h e (inl s) = absurd (not_some (slot (set slots t (Some x)) u) x e (ap (slot (set slots t (Some x))) (sym s) ∙ here))
      lent u h e (inr n) = let old = k.lent u h (sym (read_other slots t u (Some x) None n) ∙ e) in others u old.0 n old.1 (same_or_not w old.0)

      out : (v u : ℕ) → loan_of v (acts ++ a ∷ []) ≡ Some u → (w ≡ v) ⊎ (w ≢ v) → slot (set slots t (Some x)) u ≡ None
      out v u h (inl s) = absurd (not_some (lent_by a) u lends (sym (my_loan v s) ∙ h))
      out v u h (inr m) =
          let was : loan_of v acts ≡ Some u = was_loan v u m h in
          read_other slots t u (Some x) None (λ s. m (sym (only v (was ∙ ap Some (sym s))))) ∙ k.out v u was

  -- a worker has the same loan, or still none
  pub stored_same : loan_of w acts ≡ lent_by a → IsStored number suits p slots (acts ++ a ∷ [])
  stored_same had = record {
    long = k.long;
    numbered = k.numbered;
    suited = k.suited;
    lent = λ u h e. (let old = k.lent u h e in (old.0, loan old.0 (same_or_not w old.0) ∙ old.1));
    out = λ v u h. k.out v u (sym (loan v (same_or_not w v)) ∙ h);
  }
    where
      loan : (v : ℕ) → (w ≡ v) ⊎ (w ≢ v) → loan_of v (acts ++ a ∷ []) ≡ loan_of v acts
      loan v (inl s) = my_loan v s ∙ (sym had ∙ ap (λ j. loan_of j acts) s)
      loan v (inr m) = loan_else v acts a (λ z. m (sym mine ∙ z))

-- ------------------------------------------------------------ room

pub outs_within : {T : Type 0} (slots : List (Option T)) → outs slots ≤ length slots
outs_within [] = omega arith
outs_within (None ∷ xs) = omega (arith, outs_within xs)
outs_within (Some x ∷ xs) = omega (arith, outs_within xs)

pub outs_back : {T : Type 0} (slots : List (Option T)) (t : ℕ) (x : T) → t < length slots → slot slots t ≡ None → outs (set slots t (Some x)) + 1 ≡ outs slots
outs_back [] t x h e = absurd (omega (arith, h))
outs_back (None ∷ xs) zero x h e = omega arith
outs_back (Some y ∷ xs) zero x h e = cc
outs_back (None ∷ xs) (suc t) x h e = let r : outs (set xs t (Some x)) + 1 ≡ outs xs = outs_back xs t x (omega (arith, h)) e in omega (arith, r)
outs_back (Some y ∷ xs) (suc t) x h e = outs_back xs t x (omega (arith, h)) e

pub spare_within : (o : Option Cause) → spare o ≤ 1
spare_within None = omega arith
spare_within (Some c) = omega arith

pub room_enough : {T : Type 0} (o : Option Cause) (slots : List (Option T)) (n long room : ℕ) → length slots ≤ n → long + (1 + n) ≤ room → HasRoom o slots long room
room_enough o slots n long room h e = omega (arith, outs_within slots, spare_within o, h, e)

pub room_failed : {T : Type 0} (o : Option Cause) (c : Cause) (slots : List (Option T)) (long room long2 room2 : ℕ) → o ≡ None → HasRoom o slots long room → long2 ≡ long + 1 → room ≤ room2 → HasRoom (Some c) slots long2 room2
room_failed o c slots long room long2 room2 e h el er = let k : long + (spare None + outs slots) ≤ room = subst (λ x. long + (spare x + outs slots) ≤ room) e h in omega (arith, k, el, er)

pub some_cause : (o : Option Cause) → is_some o ≡ true → (c : Cause) × (o ≡ Some c)
some_cause None e = cc
some_cause (Some c) e = (c, refl)

-- a task comes back in a run that went on
pub room_back : {T : Type 0} (o o2 : Option Cause) (slots : List (Option T)) (t : ℕ) (x : T) (long room long2 room2 : ℕ) → o ≡ None → t < length slots → slot slots t ≡ None → HasRoom o slots long room → long2 ≡ long + 1 → room ≤ room2
    → HasRoom o2 (set slots t (Some x)) long2 room2
room_back o o2 slots t x long room long2 room2 e h n r el er =
    let k : long + (1 + outs slots) ≤ room = subst (λ z. long + (spare z + outs slots) ≤ room) e r in
    omega (arith, k, el, er, outs_back slots t x h n, spare_within o2)

-- and in one that has failed
pub room_returned : {T : Type 0} (o : Option Cause) (c : Cause) (slots : List (Option T)) (t : ℕ) (x : T) (long room long2 room2 : ℕ) → o ≡ Some c → t < length slots → slot slots t ≡ None → HasRoom o slots long room → long2 ≡ long + 1 → room ≤ room2
    → HasRoom o (set slots t (Some x)) long2 room2
room_returned o c slots t x long room long2 room2 e h n r el er =
    let k : long + (0 + outs slots) ≤ room = subst (λ z. long + (spare z + outs slots) ≤ room) e r in
    subst (λ z. HasRoom z (set slots t (Some x)) long2 room2) (sym e) (let b : outs (set slots t (Some x)) + 1 ≡ outs slots = outs_back slots t x h n in omega (arith, k, el, er, b))

pub room_left : {T : Type 0} (o : Option Cause) (slots : List (Option T)) (t : ℕ) (x : T) (long room : ℕ) → t < length slots → slot slots t ≡ None → HasRoom o slots long room → long < room
room_left o slots t x long room h n r = omega (arith, r, outs_back slots t x h n)
