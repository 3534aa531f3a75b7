use Rattle.op_basic.proofs.Limits.{limit_cut, limit_gave}
use Rattle.op_basic.proofs.limit.LimitOpOperator.give.Goals as goal

pub returns-clause-cut : goal.returns-clause-cut
returns-clause-cut c op t n h =
    limit_cut c.args.self.now.waiting.items c.args.self.now.skip c.args.self.now.fetch c.args.self.now.ended op t n c.args.most c.give.result h c.give.ensures.cut

pub returns-clause-gave : goal.returns-clause-gave
returns-clause-gave c op t n h =
    limit_gave c.args.self.now.waiting.items c.give.new.self.items c.args.self.now.skip c.args.self.now.fetch c.args.self.now.ended op t n c.args.most c.give.result h
    c.give.ensures.cut c.give.ensures.rest
