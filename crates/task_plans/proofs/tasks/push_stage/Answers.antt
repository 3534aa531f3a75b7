use Rattle.std.proofs.Common.{ℕ, ◌<◌, ◌≡◌, [], List, subst, arith}
use Rattle.plan_shape.specs.Counts.{counts_of}
use Rattle.plan_task_laws.specs.Branches.{seed_at}
use Rattle.plan_task_laws.specs.Starts.{split_by}
use Rattle.task_plans.specs.declared.station.StationPlan.{StationPlan}
use Rattle.task_plans.specs.Added.{AddsFor, way_of}
use Rattle.task_plans.proofs.Pushes.{ok_is}
use Rattle.task_plans.proofs.Stages.{stage_step, stage_end}
use Rattle.task_plans.proofs.tasks.push_stage.Goals as goal

pub loop-partition-preserved : goal.loop-partition-preserved
loop-partition-preserved c = λ f b.
    let within : c.loop-partition.partition < (counts_of c.args.plan.now).parts = omega arith in
    let a = ok_is _ _ c.in_ok-push_stations.was (c.push_stations.ensures.adds f within) in
    let from_none : AddsFor f [] c.push_stations.new.stations (seed_at f c.args.plan.now c.args.at.stage c.args.at.source c.loop-partition.partition) =
    subst (λ (old : List StationPlan). AddsFor f old c.push_stations.new.stations (seed_at f c.args.plan.now c.args.at.stage c.args.at.source c.loop-partition.partition)) c.new-backwards.ensures a in
    stage_step f _ _ _ c.args.plan.now c.args.at.stage c.args.at.source c.loop-partition.partition (split_by f (way_of c.args.way)) _ _ _ b within (c.loop-partition.invariant f b) from_none
    c.in_ok-reversed.ensures (c.sending.ensures f) c.in_ok-push.ensures.ok

pub returns-clause-adds : goal.returns-clause-adds
returns-clause-adds c = λ f b.
    let all : c.loop-partition.partition ≡ (counts_of c.args.plan.now).parts = omega arith in
    stage_end f _ _ c.args.plan.now c.args.at.stage c.args.at.source c.loop-partition.partition (split_by f (way_of c.args.way)) all (c.loop-partition.invariant f b)
