use Rattle.std.proofs.Common.{◌≡◌, drop}
use Rattle.join_lowering.specs.Lowering.{plain_keys}
use Rattle.join_lowering.proofs.PlainKeys.{behind}
use Rattle.join_lowering.proofs.lower.plain_keys.Given as goal

abbrev pub invariant-loop-key : goal.invariant-loop-key
invariant-loop-key l = behind l.all (plain_keys l.width (drop l.key-index l.keys)) ≡ plain_keys l.width l.keys
