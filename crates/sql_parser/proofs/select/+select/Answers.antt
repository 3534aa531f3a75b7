use Rattle.std.proofs.Common.{◌≡◌, ◌+◌, ◌-◌, sym, ◌∙◌, arith, subst}
use Rattle.std.proofs.lemmas.Result.{err_from_is_err_and}
use Rattle.sql_grammar.specs.Reader.{Reader}
use Rattle.expr_parser.specs.Cursors.{IsRead}
use Rattle.expr_parser.proofs.Steps.{under_union, loop_end, loop_none, loop_next, loop_stop}
use Rattle.sql_parser.proofs.select.+select.Goals as goal

pub nested_union-returns : goal.nested_union-returns
nested_union-returns t c = subst (λ (r : Reader _). IsRead (λ e. e) (r c.args.cursor.now.counted c.args.cursor.now.tokens) c.union_of.result c.union_of.new.cursor) (sym (under_union c.args.depth c.requires)) c.union_of.ensures

pub joins_of-returns-then-not-starts : goal.joins_of-returns-then-not-starts
joins_of-returns-then-not-starts t c = loop_end _ _ _ _ _ _ _ c.loop-turn.invariant (sym c.starts.ensures ∙ c.if-not-starts.true)

pub joins_of-returns-in_err-joins : goal.joins_of-returns-in_err-joins
joins_of-returns-in_err-joins t c =
    let q = err_from_is_err_and c.from_residual.result c.from_residual.ensures.1 in
    let e : c.left-turn-end.result - c.loop-turn._turn ≡ (c.left-turn-end.result - (c.loop-turn._turn + 1)) + 1 = omega (arith, c.loop-turn-test.true) in
    rw (q.1, q.2) (loop_stop _ _ _ _ _ _ _ _ _ _ c.loop-turn.invariant e (sym c.starts.ensures ∙ c.if-not-starts.false) c.in_err-joins.ensures)

pub joins_of-loop-turn-preserved : goal.joins_of-loop-turn-preserved
joins_of-loop-turn-preserved t c =
    let e : c.left-turn-end.result - c.loop-turn._turn ≡ (c.left-turn-end.result - (c.loop-turn._turn + 1)) + 1 = omega (arith, c.loop-turn-test.true) in
    loop_next _ _ _ _ _ _ _ _ _ _ _ c.loop-turn.invariant e (sym c.starts.ensures ∙ c.if-not-starts.false) c.in_ok-joins.ensures

pub joins_of-returns : goal.joins_of-returns
joins_of-returns t c = let z : c.left-turn-end.result - c.loop-turn._turn ≡ 0 = omega (arith, c.loop-turn-test.false) in loop_none _ _ _ _ _ _ _ c.loop-turn.invariant z

pub more_parts-returns-then-not-starts : goal.more_parts-returns-then-not-starts
more_parts-returns-then-not-starts t c = loop_end _ _ _ _ _ _ _ c.loop-turn.invariant (sym c.starts.ensures ∙ c.if-not-starts.true)

pub more_parts-returns-in_err-parts : goal.more_parts-returns-in_err-parts
more_parts-returns-in_err-parts t c =
    let q = err_from_is_err_and c.from_residual.result c.from_residual.ensures.1 in
    let e : c.left-turn-end.result - c.loop-turn._turn ≡ (c.left-turn-end.result - (c.loop-turn._turn + 1)) + 1 = omega (arith, c.loop-turn-test.true) in
    rw (q.1, q.2) (loop_stop _ _ _ _ _ _ _ _ _ _ c.loop-turn.invariant e (sym c.starts.ensures ∙ c.if-not-starts.false) c.in_err-parts.ensures)

pub more_parts-loop-turn-preserved : goal.more_parts-loop-turn-preserved
more_parts-loop-turn-preserved t c =
    let e : c.left-turn-end.result - c.loop-turn._turn ≡ (c.left-turn-end.result - (c.loop-turn._turn + 1)) + 1 = omega (arith, c.loop-turn-test.true) in
    loop_next _ _ _ _ _ _ _ _ _ _ _ c.loop-turn.invariant e (sym c.starts.ensures ∙ c.if-not-starts.false) c.in_ok-parts.ensures

pub more_parts-returns : goal.more_parts-returns
more_parts-returns t c = let z : c.left-turn-end.result - c.loop-turn._turn ≡ 0 = omega (arith, c.loop-turn-test.false) in loop_none _ _ _ _ _ _ _ c.loop-turn.invariant z
