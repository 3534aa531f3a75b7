-- All seats joined into one.
use Rattle.std.proofs.Common.{◌≡◌, ℕ, ◌≤◌, List, [], ◌∷◌, ◌++◌, length, sym, ap, ◌∙◌, subst, arith, Option}
use Rattle.atomic_table.specs.Table.{State, Me, Joins}
use Rattle.turn_cell.specs.declared.act.Act.{Act}
use Rattle.turn_cell.specs.declared.view.Hand.{Hand}
use Rattle.turn_cell.specs.declared.view.View.{View}
use Rattle.turn_cell.specs.Views.{hand, resting, spent}
use Rattle.turn_cell.specs.Seats.{Idles, named_in, seen_at}
use Rattle.turn_cell.specs.Turns.{AllFollow, Orderly}
use Rattle.turn_cell.proofs.Parts.{joins}

module _ {T O : Type 0} (opened : T → O) (acts : T → List Act) (origin : O) (seats : ℕ) where
  joins_hands : (id : ℕ) (o : Option O) (hands : List Hand) (other : ℕ) (p : Option O) (ks : List Hand) → 1 ≤ length hands
      → Joins (Orderly opened acts origin seats) id (resting o hands) other (resting p ks) (resting o (hands ++ ks)) spent
  joins_hands id o [] other p ks above = absurd (omega arith)
  joins_hands id o (h ∷ hs) other p ks above = joins opened acts origin seats id o h hs other p ks

  pub joins_idle : (id n other : ℕ) (me you : Me (Option T) (View O)) → me ≡ (resting (named_in me) me.0.hands, []) → 1 ≤ length me.0.hands → Idles n you
      → Joins (Orderly opened acts origin seats) id me.0 other you.0 (resting me.0.opening (me.0.hands ++ you.0.hands)) spent
  joins_idle id n other me you is above idle =
      let Rule : State (Option T) (View O) → Type 0 = Orderly opened acts origin seats in
      let mine : me.0 ≡ resting me.0.opening me.0.hands = ap (λ (m : Me (Option T) (View O)). m.0) is in
      let yours : you.0 ≡ resting you.0.opening (hand n (seen_at you) ∷ []) = ap (λ (m : Me (Option T) (View O)). m.0) idle in
      subst (λ (v : View O). Joins Rule id v other you.0 (resting me.0.opening (me.0.hands ++ you.0.hands)) spent) (sym mine)
      (subst (λ (w : View O). Joins Rule id (resting me.0.opening me.0.hands) other w (resting me.0.opening (me.0.hands ++ w.hands)) spent) (sym yours)
      (joins_hands id me.0.opening me.0.hands other you.0.opening (hand n (seen_at you) ∷ []) above))

-- the seat after a join
pub joined_is : {T O : Type 0} (n : ℕ) (me you new : Me (Option T) (View O)) → me ≡ (resting (named_in me) me.0.hands, []) → Idles n you → new ≡ (resting me.0.opening (me.0.hands ++ you.0.hands), me.1)
    → (new ≡ (resting (named_in new) new.0.hands, [])) × (new.0.hands ≡ me.0.hands ++ hand n (seen_at you) ∷ [])
joined_is {T} {O} n me you new is idle e =
    let home : new ≡ (resting me.0.opening (me.0.hands ++ you.0.hands), []) = e ∙ ap (λ (m : Me (Option T) (View O)). (resting me.0.opening (me.0.hands ++ you.0.hands), m.1)) is in
    let again : (resting (named_in new) new.0.hands, []) ≡ (resting me.0.opening (me.0.hands ++ you.0.hands), []) = ap (λ (m : Me (Option T) (View O)). (resting m.0.opening m.0.hands, [])) home in (
      home ∙ sym again,
      ap (λ (m : Me (Option T) (View O)). m.0.hands) home ∙ ap (λ (m : Me (Option T) (View O)). me.0.hands ++ m.0.hands) idle,
    )

pub all_follow-split : (log : List Act) (xs ys : List Hand) → AllFollow log (xs ++ ys) → AllFollow log xs × AllFollow log ys
all_follow-split log [] ys f = (tt, f)
all_follow-split log (h ∷ hs) ys f = let t = all_follow-split log hs ys f.1 in ((f.0, t.0), t.1)
