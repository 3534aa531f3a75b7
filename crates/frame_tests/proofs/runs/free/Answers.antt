use Rattle.std.proofs.Common.{◌∙◌}
use Rattle.frame_tests.proofs.runs.free.Goals as goal

pub returns : goal.returns
returns g c = record { shape = (c.free.ensures 0).shape ∙ c.requires.shape }
