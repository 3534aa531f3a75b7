use Rattle.logical_build.proofs.Shorter.{all_cast}
use Rattle.logical_build.proofs.unions.casts.Goals as goal

pub returns-in-None : goal.returns-in-None
returns-in-None c = all_cast c.loop-column.column c.args.unified.now c.args.kinds.now c.loop-column.items _ c.in-None.ensures.lookup.3 c.loop-column.invariant
