use Rattle.run_core.proofs.Sounds.{sound}
use Rattle.run_core.proofs.run.RunWork.vouch.Goals as goal

pub returns : goal.returns
returns g c = rw (← c.self.view_is) (sound _ _ _ _ _ _ _ _ _ _ c.self.invariant.0)
