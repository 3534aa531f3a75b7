use Rattle.std.proofs.Common.{◌≡◌, ◌++◌, false, drop}
use Rattle.sql_lexer.specs.Texts as spec
use Rattle.sql_lexer.proofs.texts.undoubled.Given as goal

abbrev pub invariant-loop-byte : goal.invariant-loop-byte
invariant-loop-byte l = l.kept.items ++ spec.undoubled l.quote l.seen (drop l.byte-index l.bytes) ≡ spec.undoubled l.quote false l.bytes
