-- Meaning: one arm of CASE, and one part of COALESCE, on rows.
use Rattle.std.specs.Prelude.{ℕ, Bool, not, List, map, None, ◌≡◌}
use Rattle.dfx_value.specs.declared.value.Value.{Value}
use Rattle.scalar_exprs.specs.declared.expr.Expr.{Expr}
use Rattle.scalar_exprs.specs.declared.expr.Expr.TheVariants.{Case}
use Rattle.scalar_exprs.specs.Truth.{is_true, is_null}
use Rattle.scalar_vector.specs.Fronts.{evals}
use Rattle.scalar_vector.specs.Woven.{Level, marked, unmarked, rebuilt}

-- the test on these rows, and the result on those of them for which it is true
abbrev pub arm_level : List (List Value) → List ℕ → Expr × Expr → Level
arm_level rows places arm = record {
  marks = map is_true (evals rows places arm.0).values;
  ended = (evals rows places arm.0).fault;
  taken = evals rows (marked (map is_true (evals rows places arm.0).values) places) arm.1;
}

-- which values aren't NULL
abbrev pub present : List Value → List Bool
present = map (λ v. not (is_null v))

-- the part on these rows; its values stay where they aren't NULL
abbrev pub part_level : List (List Value) → List ℕ → Expr → Level
part_level rows places part = record {
  marks = present (evals rows places part).values;
  ended = (evals rows places part).fault;
  taken = record { values = marked (present (evals rows places part).values) (evals rows places part).values; fault = None };
}

-- the rows that an arm or a part leaves to those after it
abbrev pub left_by : Level → List ℕ → List ℕ
left_by l places = unmarked l.marks places

-- arms that are done on these rows, with the rows that they leave, whatever is chosen for those
abbrev pub Surrounds : List (List Value) → List ℕ → List (Expr × Expr) → List Level → List ℕ → Type 0
Surrounds rows places arms levels left = (other : Expr) → rebuilt levels (evals rows left other) ≡ evals rows places (Case arms other)
