use Rattle.dfx_prepare.proofs.WholeSteps.{in_range}
use Rattle.dfx_prepare.proofs.preparing.bound_query.Goals as goal

pub returns-clause-ranges : goal.returns-clause-ranges
returns-clause-ranges c =
    in_range c.bind.result _ c.bind.ensures (λ q is. c.binder_law.ensures.ranges c.args.script.now c.args.schemas.now q is)
