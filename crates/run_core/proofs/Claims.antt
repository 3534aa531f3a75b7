-- A frame in which a claim is made.
use Rattle.std.proofs.Common.{ℕ, suc, ◌<◌, ◌≡◌, refl, ap, ◌∙◌, List, [], ◌∷◌, length, Bool, true, false, ◌&&◌, ◌||◌, not, Option, Some, None, is_some, get_or, arith}
use Rattle.run_journal.specs.declared.cause.Cause.{Cause}
use Rattle.turn_cell.specs.declared.act.Act.{Act}
use Rattle.turn_cell.specs.Loans.{loan_of}
use Rattle.task_shape.specs.Shape.{Shape}
use Rattle.task_shape.specs.Numbers.{count}
use Rattle.core_frame.specs.declared.place.Place.{Place}
use Rattle.core_frame.specs.declared.place.Place.TheVariants.{Woken, OwnedBy, AtGate, AtChannel, Done}
use Rattle.core_frame.specs.Frame.{Frame, place_of, all_done, unfinished}
use Rattle.core_frame.specs.Good.{IsGood, IsReady}
use Rattle.core_frame.specs.Step.{failed, is_over}
use Rattle.run_laws.specs.Loans.{AreLoans}
use Rattle.run_laws.proofs.Loans.{loans_whole}
use Rattle.run_frame.proofs.Claims.{queue_place}

pub none_some : (o : Option Cause) → is_some o ≡ false → o ≡ None
none_some None e = refl
none_some (Some c) e = cc

neither : (a b : Bool) → a || b ≡ false → (a ≡ false) × (b ≡ false)
neither true b e = cc
neither false b e = (refl, e)

pub going_on : {B : Type 0} (f : Frame B) → is_over f ≡ false → f.failure ≡ None
going_on f e = none_some f.failure (neither (all_done f.places) (is_some f.failure) e).1

pub failed_failure : {B : Type 0} (f : Frame B) (c : Cause) → (failed f c).failure ≡ Some c
unfolding failed
failed_failure f c = refl

pub failed_over : {B : Type 0} (f : Frame B) (c : Cause) → is_over (failed f c) ≡ true
unfolding failed
failed_over f c = either (all_done f.places)
  where
    either : (b : Bool) → b || true ≡ true
    either true = refl
    either false = refl

pub woken_there : {B : Type 0} (p : Shape) (f : Frame B) (i t : ℕ) → IsGood p f → i < length f.queue → t ≡ get_or f.queue i 0 → place_of f t ≡ Woken
woken_there p f i t good h e = ap (place_of f) e ∙ queue_place p f i good.sound h

some_unfinished : (ps : List Place) → all_done ps ≡ false → (t : ℕ) × (unfinished (get_or ps t Done) ≡ true)
some_unfinished [] e = cc
some_unfinished (q ∷ ps) e = go (some_unfinished ps) (unfinished q) refl e
  where
    go : (all_done ps ≡ false → (t : ℕ) × (unfinished (get_or ps t Done) ≡ true)) → (b : Bool) → unfinished q ≡ b → not b && all_done ps ≡ false → (t : ℕ) × (unfinished (get_or (q ∷ ps) t Done) ≡ true)
    go more true u z = (0, u)
    go more false u z = let r = more z in (suc r.0, r.1)

none_in : (xs : List ℕ) (t : ℕ) → length xs ≡ 0 → count t xs ≡ 0
none_in [] t e = refl
none_in (x ∷ xs) t e = absurd (omega arith)

-- where no task is woken, and the run isn't over, some worker has one in hand
pub idle_owner : {B : Type 0} (p : Shape) (f : Frame B) (acts : List Act) → IsGood p f → AreLoans acts f → is_over f ≡ false → length f.queue ≡ 0 → (w : ℕ) × (t : ℕ) × (loan_of w acts ≡ Some t)
idle_owner {B} p f acts good loans going empty = ready (place_of f u) refl at.1
  where
    left : (t : ℕ) × (unfinished (place_of f t) ≡ true)
    left = some_unfinished f.places (neither (all_done f.places) (is_some f.failure) going).0

    at : (u : ℕ) × IsReady (place_of f u)
    at = good.goes_on left.0 left.1

    u : ℕ
    u = at.0

    ready : (q : Place) → place_of f u ≡ q → IsReady q → (w : ℕ) × (t : ℕ) × (loan_of w acts ≡ Some t)
    ready Woken e r = absurd (let o : count u f.queue ≡ 1 = good.sound.queue u e in let z : count u f.queue ≡ 0 = none_in f.queue u empty in omega arith)
    ready (OwnedBy w) e r = (w, u, loans_whole f acts w u loans (going_on f going) e)
    ready (AtGate g) e r = absurd r
    ready (AtChannel g c) e r = absurd r
    ready Done e r = absurd r
