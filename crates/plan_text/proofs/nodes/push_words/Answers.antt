use Rattle.std.proofs.lemmas.Result.{on_ok_weaker}
use Rattle.plan_text.proofs.NodeSteps.{partial_written, final_written, coalesce_written}
use Rattle.plan_text.proofs.nodes.push_words.Goals as goal

pub returns-in-PartialGroup : goal.returns-in-PartialGroup
returns-in-PartialGroup c =
    on_ok_weaker c.push_group.result (partial_written _ _ _ _ _ _ _ _ _ c.in-PartialGroup.is c.as_slice-in-PartialGroup.ensures c.as_slice-in-PartialGroup-2.ensures) c.push_group.ensures

pub returns-in-FinalGroup : goal.returns-in-FinalGroup
returns-in-FinalGroup c =
    on_ok_weaker c.push_group-in-FinalGroup.result (final_written _ _ _ _ _ _ _ _ _ c.in-FinalGroup.is c.as_slice-in-FinalGroup.ensures c.as_slice-in-FinalGroup-2.ensures) c.push_group-in-FinalGroup.ensures

pub returns-in_ok-push_str-in-Coalesce : goal.returns-in_ok-push_str-in-Coalesce
returns-in_ok-push_str-in-Coalesce c = coalesce_written _ _ _ _ _ c.in-Coalesce.is c.in_ok-push_str-in-Coalesce.ensures.bytes
