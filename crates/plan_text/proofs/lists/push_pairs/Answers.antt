use Rattle.std.proofs.Common.{arith}
use Rattle.std.proofs.lemmas.Grind.{common_steps}
use Rattle.plan_text.proofs.ListSteps.{comma_utf8}
use Rattle.plan_text.proofs.lists.push_pairs.Goals as goal

pub loop-pair-preserved : goal.loop-pair-preserved
loop-pair-preserved c = record {
  utf8 = comma_utf8;
  text = grind (arith, common_steps);
}
