use Rattle.std.proofs.Common.{sym, ◌∙◌}
use Rattle.sql_lexer.proofs.Quotes.{past_quote, past_other}
use Rattle.sql_lexer.proofs.bytes.quoted_length.Goals as goal
use Rattle.sql_lexer.proofs.bytes.quoted_length.Goals.{then-byte-quote, else-byte-quote+else-seen}

pub loop-i-preserved : goal.loop-i-preserved
loop-i-preserved c = elim c.if-byte-quote.branch [
  | then-byte-quote w ↦ rw w.seen-is (sym (past_quote c.args.quote c.args.rest.now c.loop-i.i c.loop-i-test.true c.loop-i.seen w.if-byte-quote.true) ∙ c.loop-i.invariant)
  | else-byte-quote+else-seen w ↦ rw w.seen-is (sym (past_other c.args.quote c.args.rest.now c.loop-i.i c.loop-i-test.true c.loop-i.seen w.if-seen.false w.if-byte-quote.false) ∙ c.loop-i.invariant)
]
