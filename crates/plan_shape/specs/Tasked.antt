-- Words: the task of one part.
use Rattle.std.specs.Prelude.{ℕ, List, length}
use Rattle.task_shape.specs.Shape.{TaskShape}
use Rattle.plan_shape.specs.Layout.{Part, group_of}
use Rattle.physical_plan.specs.Numbers.{numbers_from}

-- of a stage, with the number of its first consumer, and its targets
abbrev pub tasked : ℕ → ℕ → Part → List ℕ → TaskShape
tasked s c p ts = record { stage = s; sends = group_of s; targets = ts; receives = p.receives; consumers = numbers_from c (length p.consumers) }
