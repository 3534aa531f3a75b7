-- Words: the plan that the tests run: a root that receives what one task sends, whose consumer can spill.
use Rattle.std.specs.Prelude.{ℕ, ◌==◌, Bool, true, false, [], ◌∷◌, Option, Some, None}
use Rattle.task_shape.specs.Shape.{Shape}

abbrev pub pair : Shape
pair = record {
  tasks = record { stage = 0; sends = None; targets = []; receives = (1, 0) ∷ []; consumers = [] }
      ∷ (record { stage = 1; sends = Some 1; targets = 0 ∷ []; receives = []; consumers = 0 ∷ [] } ∷ []);
  widths = 0 ∷ 1 ∷ [];
  spillable = true ∷ [];
}

-- it is this worker
abbrev pub is_worker : Option ℕ → ℕ → Bool
is_worker None w = false
is_worker (Some v) w = v == w
