use Rattle.std.proofs.Common.{◌≡◌, map, take}
use Rattle.sql_grammar.specs.TokenClasses.{seen}
use Rattle.sql_parser.proofs.script.seen_of.Given as goal

abbrev pub invariant-loop-token : goal.invariant-loop-token
invariant-loop-token l = l.found.items ≡ map (seen l.text) (take l.token-index l.tokens)
