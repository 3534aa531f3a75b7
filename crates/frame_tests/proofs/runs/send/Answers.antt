use Rattle.std.proofs.Common.{refl}
use Rattle.frame_tests.proofs.runs.send.Goals as goal

pub send-requires-clause-own : goal.send-requires-clause-own
send-requires-clause-own g c = rw c.requires.shape (1, refl, refl)
