use Rattle.task_shape.proofs.ShapeTest.{is_shape}
use Rattle.task_shape.proofs.law.shape_test_law.Goals as goal

pub returns : goal.returns
returns c = record { tested = is_shape }
