use Rattle.std.proofs.lemmas.Result.{on_ok_weaker}
use Rattle.plan_text.proofs.LineSteps.{scan_inputs, join_inputs, node_written}
use Rattle.plan_text.proofs.lines.+lines.Goals as goal

pub push_inputs-returns-in-Scan : goal.push_inputs-returns-in-Scan
push_inputs-returns-in-Scan t c = scan_inputs _ _ _ _ _ _ _ _ c.in-Scan.is

pub push_inputs-returns-in_ok-push_lines-in-HashJoin : goal.push_inputs-returns-in_ok-push_lines-in-HashJoin
push_inputs-returns-in_ok-push_lines-in-HashJoin t c =
    on_ok_weaker c.push_lines-in-HashJoin-2.result (join_inputs _ _ _ _ _ _ _ _ _ _ _ _ _ c.in-HashJoin.is c.get-in-HashJoin.ensures c.get-in-HashJoin-2.ensures c.in_ok-push_lines-in-HashJoin.ensures) c.push_lines-in-HashJoin-2.ensures

pub push_lines-returns-in-Some : goal.push_lines-returns-in-Some
push_lines-returns-in-Some t c =
    on_ok_weaker c.push_inputs.result (node_written _ _ _ _ _ _ _ c.in-Some.ensures.1 c.in_ok-push_line.ensures) c.push_inputs.ensures
