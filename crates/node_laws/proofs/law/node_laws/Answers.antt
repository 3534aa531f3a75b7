use Rattle.node_laws.proofs.Filters.{filter_meets, project_meets}
use Rattle.node_laws.proofs.Others.{sort_meets, repartition_meets, union_meets, left_join_meets, inner_join_meets}
use Rattle.node_laws.proofs.Weavings.{gathered_meets, merge_meets}
use Rattle.node_laws.proofs.Cuts.{stretches_meet, begun_meets}
use Rattle.node_laws.proofs.Dealings.{deal_meets, coalesce_meets}
use Rattle.node_laws.proofs.Groupings.{partial_meets, final_meets}
use Rattle.node_laws.proofs.Paddings.{right_meets, full_meets}
use Rattle.node_laws.proofs.law.node_laws.Goals as goal

pub returns : goal.returns
returns c = record {
  filter = filter_meets;
  project = project_meets;
  sort = sort_meets;
  hash = repartition_meets;
  union = union_meets;
  left = λ h keys d e lefts rights outs s m o. left_join_meets h keys d lefts s m e rights outs o;
  inner = λ h keys d e lefts rights outs s m mr o. inner_join_meets h keys d e lefts rights s m mr outs o;
  limit = λ h d ins outs s m. stretches_meet h d.props ins outs s m;
  begun = λ h d whole outs b m. begun_meets h d.props whole outs b m;
  coalesce = coalesce_meets;
  merge = merge_meets;
  in_order = gathered_meets;
  deal = λ h n d ins outs a m. deal_meets h n d ins outs a m;
  partial_group = partial_meets;
  final_group = final_meets;
  right = λ h keys d e lefts rights outs s m mr o. right_meets h keys d e lefts rights outs s m mr o;
  full = full_meets;
}
