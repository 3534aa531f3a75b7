use Rattle.std.proofs.Common.{◌≡◌, ◌∙◌, ap, sym, subst}
use Rattle.physical_plan.specs.declared.plan.Plan.{Plan}
use Rattle.planned_laws.specs.Wholly.{IsWhollyPlanned}
use Rattle.enforce_dist.specs.Distribute.{enforce_distribution}
use Rattle.enforce_sort.specs.Arrange.{enforce_sorting}
use Rattle.dfx_prepare.specs.Preparing.{plan_of}
use Rattle.dfx_prepare.proofs.WholeSteps.{if_ok_as}
use Rattle.dfx_prepare.proofs.preparing.plan_of.Goals as goal

pub returns-clause-planned : goal.returns-clause-planned
returns-clause-planned c =
    let is : enforce_sorting c.in_ok-spread.spread ≡ plan_of c.args.query.now c.args.files.now c.args.n =
    ap enforce_sorting (c.in_ok-spread.ensures ∙ ap (λ (p : Plan). enforce_distribution p c.args.n) c.in_ok-plain.ensures) in
    if_ok_as (λ (p : Plan). IsWhollyPlanned c.args.query.now c.args.files.now p c.args.n) (enforce_sorting c.in_ok-spread.spread) c.enforce_sorting.result
    (subst (λ (p : Plan). IsWhollyPlanned c.args.query.now c.args.files.now p c.args.n) (sym is) (c.range_law.ensures.planned c.args.query.now c.args.files.now c.args.n c.requires))
    c.enforce_sorting.ensures
