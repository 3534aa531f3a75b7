use Rattle.std.proofs.Common.{◌≡◌, ◌-◌}
use Rattle.sql_grammar.specs.declared.class.Class.TheVariants as class
use Rattle.sql_grammar.specs.Grammar.{one}
use Rattle.sql_grammar.specs.Reader.{up_to}
use Rattle.sql_grammar.specs.Reading.{behind, full, item_of, listing}
use Rattle.expr_parser.proofs.list.more.Given as goal

abbrev pub invariant-loop-turn : goal.invariant-loop-turn
invariant-loop-turn g l =
    let element = item_of (g.E.Element.reader l.element) in
    up_to (one class.Comma) (behind element) (full l.first) (255 - l._turn) l.found.items l.cursor.counted l.cursor.tokens
    ≡ listing l.first element 255 l.fn.found.items l.fn.cursor.counted l.fn.cursor.tokens
