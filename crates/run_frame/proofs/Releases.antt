-- Consumers give back what they hold, one by one.
use Rattle.std.proofs.Common.{ℕ, zero, suc, ◌+◌, ◌-◌, ◌<◌, ◌≡◌, refl, sym, ap, ◌∙◌, List, [], ◌∷◌, length, get_or, drop, true, arith}
use Rattle.std.proofs.lemmas.Bool.{eq-eqb}
use Rattle.fair_pool.specs.Share.{Pool, held_by, with_held}
use Rattle.task_shape.specs.Shape.{has}
use Rattle.core_frame.specs.Step.{released}
use Rattle.run_frame.proofs.Leaving.{drop_at, has_more}

pub has_at : (cs : List ℕ) (i : ℕ) → i < length cs → has cs (get_or cs i 0) ≡ true
has_at [] i h = absurd (omega arith)
has_at (x ∷ cs) zero h = rw (eq-eqb x x refl) refl
has_at (x ∷ cs) (suc i) h = has_more x (get_or cs i 0) cs (has_at cs i (omega arith))

-- the next one gives back all
pub released_step : (cs : List ℕ) (i : ℕ) (p p2 : Pool) (held : ℕ) → i < length cs → held ≡ held_by p (get_or cs i 0) → p2 ≡ with_held p (get_or cs i 0) (held_by p (get_or cs i 0) - held)
    → released (drop (i + 1) cs) p2 ≡ released (drop i cs) p
released_step cs i p p2 held h e f =
    let none : held_by p (get_or cs i 0) - held ≡ 0 = omega arith in
    ap (released (drop (i + 1) cs)) (f ∙ ap (with_held p (get_or cs i 0)) none) ∙ sym (ap (λ ys. released ys p) (drop_at cs i 0 h))

pub released_spillable : (cs : List ℕ) (p : Pool) → (released cs p).spillable ≡ p.spillable
released_spillable [] p = refl
released_spillable (c ∷ cs) p = released_spillable cs (with_held p c 0)
