-- A plan whose top is known.
use Rattle.std.proofs.Common.{◌≡◌, sym, ap, ◌∙◌}
use Rattle.physical_plan.specs.declared.plan.Plan.{Plan, out-Plan}
use Rattle.physical_plan.specs.declared.plan.Plan.TheOpen.{Plan-F}
use Rattle.physical_plan.specs.declared.plan.Plan.TheViews.{roll-Plan, roll-out-Plan}

pub made : (p : Plan) (z : Plan-F Plan) (q : Plan) → out-Plan p ≡ z → roll-Plan z ≡ q → p ≡ q
made p z q e r = sym (roll-out-Plan p) ∙ ap roll-Plan e ∙ r
