use Rattle.std.proofs.Common.{◌≡◌, ◌-◌, []}
use Rattle.sql_grammar.specs.declared.class.Class.TheVariants as class
use Rattle.sql_grammar.specs.Grammar.{one}
use Rattle.sql_grammar.specs.Reader.{up_to, over, too_many}
use Rattle.sql_grammar.specs.Reading.{declared}
use Rattle.expr_parser.specs.Cursors.{lim}
use Rattle.sql_parser.proofs.create.tables_of.Given as goal

abbrev pub invariant-loop-turn : goal.invariant-loop-turn
invariant-loop-turn l =
    let past = over too_many (one class.Create) in
    up_to (one class.Create) (declared lim.more) past (64 - l._turn) l.tables.items l.cursor.counted l.cursor.tokens
    ≡ up_to (one class.Create) (declared lim.more) past 64 [] l.fn.cursor.counted l.fn.cursor.tokens
