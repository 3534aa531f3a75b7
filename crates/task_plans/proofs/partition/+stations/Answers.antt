use Rattle.std.proofs.Common.{◌≡◌, subst}
use Rattle.plan_task_laws.specs.Trees.{Doing}
use Rattle.plan_task_laws.specs.Branches.{union_at}
use Rattle.task_plans.specs.declared.refused.PlanRefused.{PlanRefused}
use Rattle.task_plans.specs.Refusals.{Refuses}
use Rattle.task_plans.proofs.Pushes.{err_kept, below_filter, below_project, filter_refused, project_refused, union_refused, inlet_refused, input_refused, scanned, gathered, split, filtered, projected, united, in_input, found_step, within_step, at_end}
use Rattle.task_plans.proofs.partition.+stations.Goals as goal

pub push_in_union-returns-then-left-count-clause-adds : goal.push_in_union-returns-then-left-count-clause-adds
push_in_union-returns-then-left-count-clause-adds t c =
    in_input _ _ _ _ _ _ _ _ _ _ _ (λ (f : Doing). union_at f c.args.inputs.now c.args.at.stage c.args.at.source c.args.partition) _
    c.loop-input-test.true c.input-item.is c.loop-input.invariant.stations c.in_ok-count.ensures c.if-left-count.true c.loop-input.invariant.found c.push_stations.ensures.adds

pub push_in_union-returns-then-left-count-clause-refused : goal.push_in_union-returns-then-left-count-clause-refused
push_in_union-returns-then-left-count-clause-refused t c = input_refused _ _ _ _ c.loop-input-test.true c.input-item.is c.push_stations.ensures.refused

pub push_in_union-loop-input-preserved : goal.push_in_union-loop-input-preserved
push_in_union-loop-input-preserved t c = record {
  stations = c.loop-input.invariant.stations;
  within = λ h. within_step _ _ _ _ _ c.loop-input-test.true c.input-item.is c.in_ok-count.ensures c.if-left-count.false (c.loop-input.invariant.within h);
  found = found_step _ _ _ _ _ _ _ _ _ (λ (f : Doing). union_at f c.args.inputs.now c.args.at.stage c.args.at.source c.args.partition)
      c.loop-input-test.true c.input-item.is c.in_ok-count.ensures c.if-left-count.false c.in_ok-place.ensures.stage c.in_ok-place.ensures.source c.loop-input.invariant.found;
}

pub push_in_union-returns-clause-adds : goal.push_in_union-returns-clause-adds
push_in_union-returns-clause-adds t c = λ f h. at_end _ _ _ c.loop-input-test.false (c.loop-input.invariant.within h)

pub push_stations-returns-in_ok-push-in-Scan-clause-adds : goal.push_stations-returns-in_ok-push-in-Scan-clause-adds
push_stations-returns-in_ok-push-in-Scan-clause-adds t c = scanned _ _ _ _ _ _ _ _ _ _ _ _ c.in-Scan.is c.in_ok-files-in-Scan.was c.dealt_files.ensures c.in_ok-push-in-Scan.ensures.ok

pub push_stations-returns-in_ok-copy_expr-in-Filter-clause-adds : goal.push_stations-returns-in_ok-copy_expr-in-Filter-clause-adds
push_stations-returns-in_ok-copy_expr-in-Filter-clause-adds t c =
    filtered _ _ _ _ _ _ _ _ _ _ _ _ _ _ _ _ _ _ c.in-Filter.is c.get.ensures c.get-in-Filter.ensures c.in_ok-copy_expr-in-Filter.ensures c.len-before.ensures c.len.ensures
    c.saturating_sub-size.ensures c.in_ok-push_stations-in-Filter.was c.push_stations.ensures.adds c.push_operator.ensures.ok

pub push_stations-returns-in_ok-copy_expr-in-Filter-clause-refused : goal.push_stations-returns-in_ok-copy_expr-in-Filter-clause-refused
push_stations-returns-in_ok-copy_expr-in-Filter-clause-refused t c = filter_refused _ _ _ _ _ c.in-Filter.is c.get-in-Filter.ensures c.push_operator.ensures.refused

pub push_stations-returns-in_ok-copy_exprs-in-Project-clause-adds : goal.push_stations-returns-in_ok-copy_exprs-in-Project-clause-adds
push_stations-returns-in_ok-copy_exprs-in-Project-clause-adds t c =
    projected _ _ _ _ _ _ _ _ _ _ _ _ _ _ _ _ _ _ _ c.in-Project.is c.get-in-Project.ensures c.get-in-Project-2.ensures c.as_slice.ensures c.in_ok-copy_exprs-in-Project.ensures
    c.len-before-in-Project.ensures c.len-in-Project.ensures c.saturating_sub-size-in-Project.ensures c.in_ok-push_stations-in-Project.was c.push_stations-in-Project.ensures.adds
    c.push_operator-in-Project.ensures.ok

pub push_stations-returns-in_ok-copy_exprs-in-Project-clause-refused : goal.push_stations-returns-in_ok-copy_exprs-in-Project-clause-refused
push_stations-returns-in_ok-copy_exprs-in-Project-clause-refused t c = project_refused _ _ _ _ _ c.in-Project.is c.get-in-Project-2.ensures c.push_operator-in-Project.ensures.refused

pub push_stations-returns-in-Coalesce-clause-adds : goal.push_stations-returns-in-Coalesce-clause-adds
push_stations-returns-in-Coalesce-clause-adds t c = gathered _ _ _ _ _ _ _ _ c.in-Coalesce.is c.push_inlet.ensures.ok

pub push_stations-returns-in-Coalesce-clause-refused : goal.push_stations-returns-in-Coalesce-clause-refused
push_stations-returns-in-Coalesce-clause-refused t c = inlet_refused _ _ c.push_inlet.ensures.refused

pub push_stations-returns-in-Repartition-clause-adds : goal.push_stations-returns-in-Repartition-clause-adds
push_stations-returns-in-Repartition-clause-adds t c = split _ _ _ _ _ _ _ _ _ c.in-Repartition.is c.push_inlet-in-Repartition.ensures.ok

pub push_stations-returns-in-Repartition-clause-refused : goal.push_stations-returns-in-Repartition-clause-refused
push_stations-returns-in-Repartition-clause-refused t c = inlet_refused _ _ c.push_inlet-in-Repartition.ensures.refused

pub push_stations-returns-in-UnionAll-clause-adds : goal.push_stations-returns-in-UnionAll-clause-adds
push_stations-returns-in-UnionAll-clause-adds t c = united _ _ _ _ _ _ _ _ _ c.in-UnionAll.is c.as_slice-in-UnionAll.ensures c.push_in_union.ensures.adds

pub push_stations-returns-in-UnionAll-clause-refused : goal.push_stations-returns-in-UnionAll-clause-refused
push_stations-returns-in-UnionAll-clause-refused t c = union_refused _ _ _ _ c.in-UnionAll.is c.as_slice-in-UnionAll.ensures c.push_in_union.ensures.refused

pub push_stations-returns-in_err-push_stations-in-Filter-clause-refused : goal.push_stations-returns-in_err-push_stations-in-Filter-clause-refused
push_stations-returns-in_err-push_stations-in-Filter-clause-refused t c =
    err_kept _ _ (λ (e : PlanRefused). Refuses e c.args.plan.now) c.from_residual-in_err-push_stations-in-Filter.ensures.1 (λ e q. (
    let same : c.in_err-push_stations-in-Filter.field-0.0 ≡ e = cc in
    below_filter _ _ _ _ e c.in-Filter.is c.get.ensures (subst (λ (x : PlanRefused). Refuses x c.get.result.now) same c.in_err-push_stations-in-Filter.ensures.refused)))

pub push_stations-returns-in_err-push_stations-in-Project-clause-refused : goal.push_stations-returns-in_err-push_stations-in-Project-clause-refused
push_stations-returns-in_err-push_stations-in-Project-clause-refused t c =
    err_kept _ _ (λ (e : PlanRefused). Refuses e c.args.plan.now) c.from_residual-in_err-push_stations-in-Project.ensures.1 (λ e q. (
    let same : c.in_err-push_stations-in-Project.field-0.0 ≡ e = cc in
    below_project _ _ _ _ e c.in-Project.is c.get-in-Project.ensures (subst (λ (x : PlanRefused). Refuses x c.get-in-Project.result.now) same c.in_err-push_stations-in-Project.ensures.refused)))
