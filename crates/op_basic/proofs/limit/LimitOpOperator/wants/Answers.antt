use Rattle.std.proofs.Common.{◌∙◌}
use Rattle.op_basic.proofs.Limits.{limit_wants}
use Rattle.op_basic.proofs.limit.LimitOpOperator.wants.Goals as goal

pub returns : goal.returns
returns c op t n h =
    c.asked.ensures
    ∙ limit_wants c.args.self.now.waiting.items c.args.self.now.skip c.args.self.now.fetch c.args.self.now.ended c.complete.result op t n h (c.complete.ensures op t n h)
