use Rattle.op_basic.proofs.Streams.{pass_took}
use Rattle.op_basic.proofs.pass.PassOpOperator.accept.Goals as goal

pub returns-clause-took : goal.returns-clause-took
returns-clause-took c op t n h w =
    pass_took c.args.self.now.waiting.items c.push.new.self.items c.args.self.now.ended op t n c.args._input c.args.batch.rows h w c.in_ok-push.ensures.ok
