use Rattle.std.proofs.Common.{◌≡◌, ◌≤◌, drop}
use Rattle.sql_grammar.specs.Trees as tree
use Rattle.expr_parser.proofs.kind.small.Given as goal

abbrev pub invariant-loop-byte : goal.invariant-loop-byte
invariant-loop-byte l = (l.number ≤ 38) × (tree.small l.number (drop l.byte-index l.text) ≡ tree.small 0 l.text)
