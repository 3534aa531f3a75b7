use Rattle.std.proofs.Common.{◌≡◌, ◌+◌, ◌-◌, List, sym, ap, ◌∙◌, arith, subst}
use Rattle.std.proofs.lemmas.Result.{err_from_is_err_and}
use Rattle.sql_grammar.specs.declared.class.Class.{Class}
use Rattle.sql_grammar.specs.Class.{starts}
use Rattle.sql_grammar.specs.Reader.{Reader}
use Rattle.sql_grammar.specs.Reading.{expr_first}
use Rattle.expr_parser.specs.Cursors.{IsRead}
use Rattle.expr_parser.proofs.Steps.{under_expr, under_negation, under_unary, loop_end, loop_none, loop_next, loop_stop, list_end, list_next, list_stop, list_past}
use Rattle.expr_parser.proofs.expr.+expr.Goals as goal

pub chain::nested-returns : goal.chain::nested-returns
chain::nested-returns t c = subst (λ (r : Reader _). IsRead (λ e. e) (r c.args.cursor.now.counted c.args.cursor.now.tokens) c.expression.result c.expression.new.cursor) (sym (under_expr c.args.depth c.requires)) c.expression.ensures

pub chain::nested_negation-returns : goal.chain::nested_negation-returns
chain::nested_negation-returns t c = subst (λ (r : Reader _). IsRead (λ e. e) (r c.args.cursor.now.counted c.args.cursor.now.tokens) c.negation.result c.negation.new.cursor) (sym (under_negation c.args.depth c.requires)) c.negation.ensures

pub chain::nested_unary-returns : goal.chain::nested_unary-returns
chain::nested_unary-returns t c = subst (λ (r : Reader _). IsRead (λ e. e) (r c.args.cursor.now.counted c.args.cursor.now.tokens) c.unary.result c.unary.new.cursor) (sym (under_unary c.args.depth c.requires)) c.unary.ensures

pub chain::chain-returns-then-not-starts : goal.chain::chain-returns-then-not-starts
chain::chain-returns-then-not-starts t c = loop_end _ _ _ _ _ _ _ c.loop-turn.invariant (ap (λ (x : List Class). starts x c.loop-turn.cursor.tokens) (sym c.operators.ensures) ∙ sym c.starts.ensures ∙ c.if-not-starts.true)

pub chain::chain-returns-in_err-left-2 : goal.chain::chain-returns-in_err-left-2
chain::chain-returns-in_err-left-2 t c =
    let q = err_from_is_err_and c.from_residual-in_err-left-2.result c.from_residual-in_err-left-2.ensures.1 in
    let e : c.left-turn-end.result - c.loop-turn._turn ≡ (c.left-turn-end.result - (c.loop-turn._turn + 1)) + 1 = omega (arith, c.loop-turn-test.true) in
    rw (q.1, q.2) (loop_stop _ _ _ _ _ _ _ _ _ _ c.loop-turn.invariant e (ap (λ (x : List Class). starts x c.loop-turn.cursor.tokens) (sym c.operators.ensures) ∙ sym c.starts.ensures ∙ c.if-not-starts.false) c.in_err-left-2.ensures)

pub chain::chain-loop-turn-preserved : goal.chain::chain-loop-turn-preserved
chain::chain-loop-turn-preserved t c =
    let e : c.left-turn-end.result - c.loop-turn._turn ≡ (c.left-turn-end.result - (c.loop-turn._turn + 1)) + 1 = omega (arith, c.loop-turn-test.true) in
    loop_next _ _ _ _ _ _ _ _ _ _ _ c.loop-turn.invariant e (ap (λ (x : List Class). starts x c.loop-turn.cursor.tokens) (sym c.operators.ensures) ∙ sym c.starts.ensures ∙ c.if-not-starts.false) c.in_ok-left-2.ensures

pub chain::chain-returns : goal.chain::chain-returns
chain::chain-returns t c = let z : c.left-turn-end.result - c.loop-turn._turn ≡ 0 = omega (arith, c.loop-turn-test.false) in loop_none _ _ _ _ _ _ _ c.loop-turn.invariant z

pub primary::more_arms-returns-then-not-starts : goal.primary::more_arms-returns-then-not-starts
primary::more_arms-returns-then-not-starts t c = loop_end _ _ _ _ _ _ _ c.loop-turn.invariant (sym c.starts.ensures ∙ c.if-not-starts.true)

pub primary::more_arms-returns-in_err-arms : goal.primary::more_arms-returns-in_err-arms
primary::more_arms-returns-in_err-arms t c =
    let q = err_from_is_err_and c.from_residual.result c.from_residual.ensures.1 in
    let e : c.left-turn-end.result - c.loop-turn._turn ≡ (c.left-turn-end.result - (c.loop-turn._turn + 1)) + 1 = omega (arith, c.loop-turn-test.true) in
    rw (q.1, q.2) (loop_stop _ _ _ _ _ _ _ _ _ _ c.loop-turn.invariant e (sym c.starts.ensures ∙ c.if-not-starts.false) c.in_err-arms.ensures)

pub primary::more_arms-loop-turn-preserved : goal.primary::more_arms-loop-turn-preserved
primary::more_arms-loop-turn-preserved t c =
    let e : c.left-turn-end.result - c.loop-turn._turn ≡ (c.left-turn-end.result - (c.loop-turn._turn + 1)) + 1 = omega (arith, c.loop-turn-test.true) in
    loop_next _ _ _ _ _ _ _ _ _ _ _ c.loop-turn.invariant e (sym c.starts.ensures ∙ c.if-not-starts.false) c.in_ok-arms.ensures

pub primary::more_arms-returns : goal.primary::more_arms-returns
primary::more_arms-returns t c = let z : c.left-turn-end.result - c.loop-turn._turn ≡ 0 = omega (arith, c.loop-turn-test.false) in loop_none _ _ _ _ _ _ _ c.loop-turn.invariant z

pub primary::more_arguments-returns-then-not-starts : goal.primary::more_arguments-returns-then-not-starts
primary::more_arguments-returns-then-not-starts t c = list_end _ _ _ _ _ _ _ _ c.loop-turn.invariant (sym c.starts.ensures ∙ c.if-not-starts.true)

pub primary::more_arguments-returns-in_err-found : goal.primary::more_arguments-returns-in_err-found
primary::more_arguments-returns-in_err-found t c =
    let q = err_from_is_err_and c.from_residual.result c.from_residual.ensures.1 in
    let e : 255 - c.loop-turn._turn ≡ (255 - (c.loop-turn._turn + 1)) + 1 = omega (arith, c.loop-turn-test.true) in
    rw (q.1, q.2) (list_stop _ _ _ _ _ _ _ _ _ _ _ c.loop-turn.invariant e (sym c.starts.ensures ∙ c.if-not-starts.false) c.in_err-found.ensures)

pub primary::more_arguments-loop-turn-preserved : goal.primary::more_arguments-loop-turn-preserved
primary::more_arguments-loop-turn-preserved t c =
    let e : 255 - c.loop-turn._turn ≡ (255 - (c.loop-turn._turn + 1)) + 1 = omega (arith, c.loop-turn-test.true) in
    list_next _ _ _ _ _ _ _ _ _ _ _ _ c.loop-turn.invariant e (sym c.starts.ensures ∙ c.if-not-starts.false) c.in_ok-found.ensures

pub primary::more_arguments-returns-then-not-starts-2 : goal.primary::more_arguments-returns-then-not-starts-2
primary::more_arguments-returns-then-not-starts-2 t c = list_end _ _ _ _ _ _ _ _ c.loop-turn.invariant (sym c.starts-2.ensures ∙ c.if-not-starts-2.true)

pub primary::more_arguments-returns : goal.primary::more_arguments-returns
primary::more_arguments-returns t c =
    let z : 255 - c.loop-turn._turn ≡ 0 = omega (arith, c.loop-turn-test.false) in
    rw c.into.ensures (list_past _ _ expr_first _ _ c.loop-turn.found _ _ _ _ c.loop-turn.invariant z (sym c.starts-2.ensures ∙ c.if-not-starts-2.false) c.past.ensures)

pub predicate::more_members-returns-then-not-starts : goal.predicate::more_members-returns-then-not-starts
predicate::more_members-returns-then-not-starts t c = list_end _ _ _ _ _ _ _ _ c.loop-turn.invariant (sym c.starts.ensures ∙ c.if-not-starts.true)

pub predicate::more_members-returns-in_err-found : goal.predicate::more_members-returns-in_err-found
predicate::more_members-returns-in_err-found t c =
    let q = err_from_is_err_and c.from_residual.result c.from_residual.ensures.1 in
    let e : 255 - c.loop-turn._turn ≡ (255 - (c.loop-turn._turn + 1)) + 1 = omega (arith, c.loop-turn-test.true) in
    rw (q.1, q.2) (list_stop _ _ _ _ _ _ _ _ _ _ _ c.loop-turn.invariant e (sym c.starts.ensures ∙ c.if-not-starts.false) c.in_err-found.ensures)

pub predicate::more_members-loop-turn-preserved : goal.predicate::more_members-loop-turn-preserved
predicate::more_members-loop-turn-preserved t c =
    let e : 255 - c.loop-turn._turn ≡ (255 - (c.loop-turn._turn + 1)) + 1 = omega (arith, c.loop-turn-test.true) in
    list_next _ _ _ _ _ _ _ _ _ _ _ _ c.loop-turn.invariant e (sym c.starts.ensures ∙ c.if-not-starts.false) c.in_ok-found.ensures

pub predicate::more_members-returns-then-not-starts-2 : goal.predicate::more_members-returns-then-not-starts-2
predicate::more_members-returns-then-not-starts-2 t c = list_end _ _ _ _ _ _ _ _ c.loop-turn.invariant (sym c.starts-2.ensures ∙ c.if-not-starts-2.true)

pub predicate::more_members-returns : goal.predicate::more_members-returns
predicate::more_members-returns t c =
    let z : 255 - c.loop-turn._turn ≡ 0 = omega (arith, c.loop-turn-test.false) in
    rw c.into.ensures (list_past _ _ expr_first _ _ c.loop-turn.found _ _ _ _ c.loop-turn.invariant z (sym c.starts-2.ensures ∙ c.if-not-starts-2.false) c.past.ensures)
