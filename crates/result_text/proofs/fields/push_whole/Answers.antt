use Rattle.std.proofs.Common.{rules}
use Rattle.result_text.proofs.LineSteps.{whole_text}
use Rattle.result_text.proofs.fields.push_whole.Goals as goal

pub returns : goal.returns
returns c = rw (whole_text c.args.number c.ranges.number.sfits) (search rules)
