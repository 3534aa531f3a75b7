use Rattle.std.proofs.Common.{◌≡◌, ◌+◌, drop}
use Rattle.sql_lexer.specs.Bytes as spec
use Rattle.sql_lexer.proofs.bytes.run.Given as goal

abbrev pub invariant-loop-i : goal.invariant-loop-i
invariant-loop-i l = l.i + spec.run l.group (drop l.i l.text) ≡ spec.run l.group l.text
