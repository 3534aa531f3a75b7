use Rattle.std.proofs.Common.{codes}
use Rattle.std.proofs.lemmas.Result.{on_ok_weaker}
use Rattle.plan_text.proofs.Writes.{two_writes}
use Rattle.plan_text.proofs.nodes.push_exchange.Goals as goal

pub returns : goal.returns
returns c = on_ok_weaker c.push_partitioning.result (two_writes _ _ _ (codes "Repartition ") _ c.in_ok-push_str.ensures.bytes) c.push_partitioning.ensures
