-- The plan may be run, and who owns its tasks.
use Rattle.std.proofs.Common.{ℕ, zero, suc, ◌≡◌, refl, sym, ap, eqb, List, [], ◌∷◌, length, get_or, Bool, true, false, ◌||◌, arith}
use Rattle.std.proofs.lemmas.Bool.{eqb-true}
use Rattle.task_shape.specs.Shape.{has, task_at}
use Rattle.task_shape.proofs.ShapeTest.{is_shape}
use Rattle.core_frame.specs.Frame.{is_owned, owns}
use Rattle.core_frame.specs.declared.place.Place.{Place}
use Rattle.core_frame.specs.declared.place.Place.TheVariants.{Woken, OwnedBy, AtGate, AtChannel, Done}
use Rattle.run_frame.specs.Running.{IsRunnable, owner_at}
use Rattle.frame_tests.specs.Pair.{pair, is_worker}

or_false : (b : Bool) → b || false ≡ true → b ≡ true
or_false true e = refl
or_false false e = e

no_consumer : (t c : ℕ) → has (task_at pair t).consumers c ≡ true → (t ≡ 1) × (c ≡ 0)
no_consumer zero c h = absurd (let z : false ≡ true = h in (let x : ⊥ = cc in x))
no_consumer (suc zero) c h = (refl, sym (eqb-true 0 c (or_false (eqb 0 c) h)))
no_consumer (suc (suc t)) c h = absurd (let z : false ≡ true = h in (let x : ⊥ = cc in x))

pub runnable : IsRunnable pair
runnable = record {
  plan = is_shape pair refl;
  owners = record {
    one_owner = λ t u c h k. (let a : t ≡ 1 = (no_consumer t c h).0 in let b : u ≡ 1 = (no_consumer u c k).0 in cc);
    within = λ t c h. (let a : c ≡ 0 = (no_consumer t c h).1 in omega arith);
  };
}

pub owned_by : (q : Place) (w : ℕ) → is_worker (owner_at q) w ≡ true → q ≡ OwnedBy w
owned_by (OwnedBy v) w e = ap OwnedBy (eqb-true v w e)
owned_by Woken w e = cc
owned_by (AtGate g) w e = cc
owned_by (AtChannel g c) w e = cc
owned_by Done w e = cc

not_owned : (q : Place) (w : ℕ) → is_worker (owner_at q) w ≡ false → is_owned w q ≡ false
not_owned (OwnedBy v) w e = e
not_owned Woken w e = refl
not_owned (AtGate g) w e = refl
not_owned (AtChannel g c) w e = refl
not_owned Done w e = refl

-- who owns neither of two tasks owns none
pub owns_none : (ps : List Place) (w : ℕ) → length ps ≡ 2 → is_worker (owner_at (get_or ps 0 Done)) w ≡ false → is_worker (owner_at (get_or ps 1 Done)) w ≡ false → owns w ps ≡ false
owns_none [] w l a b = absurd (omega arith)
owns_none (q ∷ []) w l a b = absurd (omega arith)
owns_none (q ∷ r ∷ []) w l a b = rw (not_owned q w a, not_owned r w b) refl
owns_none (q ∷ r ∷ s ∷ ps) w l a b = absurd (omega arith)
