use Rattle.std.proofs.Common.{◌≡◌, [], subst, refl}
use Rattle.task_plans.specs.declared.refused.PlanRefused.{PlanRefused}
use Rattle.task_plans.specs.Refusals.{Refuses, RefusesSome}
use Rattle.task_plans.proofs.Pushes.{err_kept, some_refused, union_refused}
use Rattle.task_plans.proofs.Stages.{adds_none, adds_same, in_scan, input_step, input_end}
use Rattle.task_plans.proofs.StageNodes.{filter_stages, project_stages, coalesce_stages, repartition_stages, union_stages, below_coalesce, below_repartition, filter_fails, project_fails, coalesce_fails, repartition_fails}
use Rattle.task_plans.proofs.tasks.+stages.Goals as goal

pub push_stages_of_all-loop-plan-init : goal.push_stages_of_all-loop-plan-init
push_stages_of_all-loop-plan-init t c = λ f b. ([], adds_none f _, refl)

pub push_stages_of_all-loop-plan-preserved : goal.push_stages_of_all-loop-plan-preserved
push_stages_of_all-loop-plan-preserved t c = λ f b.
    input_step f _ _ _ _ _ _ _ _ _ _ _ _ _ c.loop-plan-test.true c.plan-item.is c.in_ok-place.ensures.stage c.in_ok-place.ensures.source c.in_ok-push_stages.was
    (c.push_stages.ensures.adds f) b (c.loop-plan.invariant f b)

pub push_stages_of_all-returns-clause-adds : goal.push_stages_of_all-returns-clause-adds
push_stages_of_all-returns-clause-adds t c = λ f b. input_end f _ _ _ _ _ _ _ c.loop-plan-test.false (c.loop-plan.invariant f b)

pub push_stages_of_all-returns-in_err-push_stages-clause-refused : goal.push_stages_of_all-returns-in_err-push_stages-clause-refused
push_stages_of_all-returns-in_err-push_stages-clause-refused t c =
    err_kept _ _ (λ (e : PlanRefused). RefusesSome e c.args.plans.now) c.from_residual.ensures.1 (λ e q. (
    let same : c.in_err-push_stages.field-0.0 ≡ e = cc in
    some_refused _ _ _ e c.loop-plan-test.true c.plan-item.is (subst (λ (x : PlanRefused). Refuses x c.plan-item.result) same c.in_err-push_stages.ensures.refused)))

pub push_stages-returns-in-Scan-clause-adds : goal.push_stages-returns-in-Scan-clause-adds
push_stages-returns-in-Scan-clause-adds t c = λ f b. adds_same f _ _ [] _ (in_scan f _ _ _ _ _ _ _ c.in-Scan.is) (adds_none f _)

pub push_stages-returns-in-Filter-clause-adds : goal.push_stages-returns-in-Filter-clause-adds
push_stages-returns-in-Filter-clause-adds t c = λ f b. filter_stages f _ _ _ _ _ _ _ _ _ c.in-Filter.is c.get.ensures (c.push_stages.ensures.adds f) b

pub push_stages-returns-in-Filter-clause-refused : goal.push_stages-returns-in-Filter-clause-refused
push_stages-returns-in-Filter-clause-refused t c = filter_fails _ _ _ _ _ c.in-Filter.is c.get.ensures c.push_stages.ensures.refused

pub push_stages-returns-in-Project-clause-adds : goal.push_stages-returns-in-Project-clause-adds
push_stages-returns-in-Project-clause-adds t c = λ f b. project_stages f _ _ _ _ _ _ _ _ _ c.in-Project.is c.get-in-Project.ensures (c.push_stages-in-Project.ensures.adds f) b

pub push_stages-returns-in-Project-clause-refused : goal.push_stages-returns-in-Project-clause-refused
push_stages-returns-in-Project-clause-refused t c = project_fails _ _ _ _ _ c.in-Project.is c.get-in-Project.ensures c.push_stages-in-Project.ensures.refused

pub push_stages-returns-in_ok-push_stage-in-Coalesce-clause-adds : goal.push_stages-returns-in_ok-push_stage-in-Coalesce-clause-adds
push_stages-returns-in_ok-push_stage-in-Coalesce-clause-adds t c = λ f b.
    coalesce_stages f _ _ _ _ _ _ _ _ _ _ _ _ _ _ c.in-Coalesce.is c.get-in-Coalesce.ensures c.get-in-Coalesce-2.ensures c.in_ok-next-in-Coalesce.ensures.stage c.in_ok-next-in-Coalesce.ensures.source
    c.in_ok-push_stage-in-Coalesce.was (c.push_stage.ensures.adds f) (c.push_stages-in-Coalesce.ensures.adds f) b

pub push_stages-returns-in_ok-push_stage-in-Coalesce-clause-refused : goal.push_stages-returns-in_ok-push_stage-in-Coalesce-clause-refused
push_stages-returns-in_ok-push_stage-in-Coalesce-clause-refused t c = coalesce_fails _ _ _ _ c.in-Coalesce.is c.get-in-Coalesce-2.ensures c.push_stages-in-Coalesce.ensures.refused

pub push_stages-returns-in_ok-push_stage-in-Repartition-clause-adds : goal.push_stages-returns-in_ok-push_stage-in-Repartition-clause-adds
push_stages-returns-in_ok-push_stage-in-Repartition-clause-adds t c = λ f b.
    repartition_stages f _ _ _ _ _ _ _ _ _ _ _ _ _ _ _ _ c.in-Repartition.is c.get-in-Repartition.ensures c.get-in-Repartition-2.ensures c.partition_count.ensures
    c.in_ok-next-in-Repartition.ensures.stage c.in_ok-next-in-Repartition.ensures.source
    c.in_ok-push_stage-in-Repartition.was (c.push_stage-in-Repartition.ensures.adds f) (c.push_stages-in-Repartition.ensures.adds f) b

pub push_stages-returns-in_ok-push_stage-in-Repartition-clause-refused : goal.push_stages-returns-in_ok-push_stage-in-Repartition-clause-refused
push_stages-returns-in_ok-push_stage-in-Repartition-clause-refused t c = repartition_fails _ _ _ _ _ c.in-Repartition.is c.get-in-Repartition-2.ensures c.push_stages-in-Repartition.ensures.refused

pub push_stages-returns-in-UnionAll-clause-adds : goal.push_stages-returns-in-UnionAll-clause-adds
push_stages-returns-in-UnionAll-clause-adds t c = λ f b. union_stages f _ _ _ _ _ _ _ _ c.in-UnionAll.is c.as_slice.ensures (c.push_stages_of_all.ensures.adds f) b

pub push_stages-returns-in-UnionAll-clause-refused : goal.push_stages-returns-in-UnionAll-clause-refused
push_stages-returns-in-UnionAll-clause-refused t c = union_refused _ _ _ _ c.in-UnionAll.is c.as_slice.ensures c.push_stages_of_all.ensures.refused

pub push_stages-returns-in_err-push_stage-in-Coalesce-clause-refused : goal.push_stages-returns-in_err-push_stage-in-Coalesce-clause-refused
push_stages-returns-in_err-push_stage-in-Coalesce-clause-refused t c =
    err_kept _ _ (λ (e : PlanRefused). Refuses e c.args.plan.now) c.from_residual-in_err-push_stage-in-Coalesce.ensures.1 (λ e q. (
    let same : c.in_err-push_stage-in-Coalesce.field-0.0 ≡ e = cc in
    below_coalesce _ _ _ e c.in-Coalesce.is c.get-in-Coalesce.ensures (subst (λ (x : PlanRefused). Refuses x c.get-in-Coalesce.result.now) same c.in_err-push_stage-in-Coalesce.ensures.refused)))

pub push_stages-returns-in_err-push_stage-in-Repartition-clause-refused : goal.push_stages-returns-in_err-push_stage-in-Repartition-clause-refused
push_stages-returns-in_err-push_stage-in-Repartition-clause-refused t c =
    err_kept _ _ (λ (e : PlanRefused). Refuses e c.args.plan.now) c.from_residual-in_err-push_stage-in-Repartition.ensures.1 (λ e q. (
    let same : c.in_err-push_stage-in-Repartition.field-0.0 ≡ e = cc in
    below_repartition _ _ _ _ e c.in-Repartition.is c.get-in-Repartition.ensures (subst (λ (x : PlanRefused). Refuses x c.get-in-Repartition.result.now) same c.in_err-push_stage-in-Repartition.ensures.refused)))
