use Rattle.std.proofs.Common.{[], ◌∷◌}
use Rattle.op_basic.proofs.Streams.{each_cut, each_gave}
use Rattle.op_basic.proofs.pass.PassOpOperator.give.Goals as goal

pub returns-clause-cut : goal.returns-clause-cut
returns-clause-cut c op t n h =
    each_cut (λ item. item ∷ []) c.args.self.now.waiting.items c.args.self.now.ended op t n c.args.most c.give.result h c.give.ensures.cut

pub returns-clause-gave : goal.returns-clause-gave
returns-clause-gave c op t n h =
    each_gave (λ item. item ∷ []) c.args.self.now.waiting.items c.give.new.self.items c.args.self.now.ended op t n c.args.most c.give.result h c.give.ensures.cut c.give.ensures.rest
