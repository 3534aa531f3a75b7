use Rattle.std.proofs.Common.{codes}
use Rattle.std.proofs.lemmas.Result.{on_ok_weaker}
use Rattle.plan_text.proofs.Writes.{three_writes}
use Rattle.plan_text.proofs.nodes.push_limit.Goals as goal

pub returns : goal.returns
returns c = on_ok_weaker c.push_fetch.result (three_writes _ _ _ _ _ (codes " fetch=") _ c.in_ok-write.ensures.bytes c.in_ok-push_str.ensures.bytes) c.push_fetch.ensures
