use Rattle.plan_task_laws.proofs.Laws.{grown, topped, stages_rolled, sources_rolled, part_of, tree, reads, reserves}
use Rattle.plan_task_laws.proofs.Worked.{staged}
use Rattle.plan_task_laws.proofs.law.trees_law.Goals as goal

pub returns : goal.returns
returns c = record {
  tree = tree;
  stages = staged;
  spills = λ f are p k s i. (part_of f are p k s i).consumers;
  reads = reads;
  reserves = reserves;
  grown = grown;
  topped = topped;
  counted = λ z. (stages_rolled z, sources_rolled z);
}
