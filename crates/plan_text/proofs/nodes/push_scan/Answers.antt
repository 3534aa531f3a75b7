use Rattle.std.proofs.Common.{codes}
use Rattle.plan_text.proofs.Writes.{three_writes}
use Rattle.plan_text.proofs.nodes.push_scan.Goals as goal

pub returns : goal.returns
returns c = three_writes _ _ _ _ (codes "Scan ") _ _ c.in_ok-push_str.ensures.bytes c.in_ok-push_name.ensures c.in_ok-write.ensures.bytes
