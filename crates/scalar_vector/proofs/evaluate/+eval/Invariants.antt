use Rattle.std.proofs.Common.{◌≡◌, map, drop}
use Rattle.scalar_exprs.specs.declared.expr.Expr.TheVariants.{Case, Coalesce}
use Rattle.scalar_exprs.specs.declared.expr.Expr.{Expr}
use Rattle.scalar_vector.specs.Fronts.{evals}
use Rattle.scalar_vector.specs.Woven.{rebuilt}
use Rattle.scalar_vector.specs.Vectors.{level_of, places_of, open_places}
use Rattle.scalar_vector.proofs.evaluate.+eval.Given as goal

-- the arms that are done, around what is left
abbrev pub invariant-eval_arms-loop-arm : goal.invariant-eval_arms-loop-arm
invariant-eval_arms-loop-arm l = (other : Expr) → rebuilt (map level_of l.levels.items) (evals l.batch.rows (open_places (places_of l.places) l.left) (Case (drop l.arm-index l.arms) other))
    ≡ evals l.batch.rows (places_of l.places) (Case l.arms other)

abbrev pub invariant-eval_coalesce-loop-part : goal.invariant-eval_coalesce-loop-part
invariant-eval_coalesce-loop-part l = rebuilt (map level_of l.levels.items) (evals l.batch.rows (open_places (places_of l.places) l.left) (Coalesce (drop l.part-index l.parts)))
    ≡ evals l.batch.rows (places_of l.places) (Coalesce l.parts)
