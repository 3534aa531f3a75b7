use Rattle.std.proofs.Common.{◌≡◌, drop}
use Rattle.sql_lexer.specs.Bytes.{further, quoted}
use Rattle.sql_lexer.proofs.Quotes.{rest_of}
use Rattle.sql_lexer.proofs.bytes.quoted_length.Given as goal

abbrev pub invariant-loop-i : goal.invariant-loop-i
invariant-loop-i l = further l.i (rest_of l.quote l.seen (drop l.i l.rest)) ≡ quoted l.quote l.rest
