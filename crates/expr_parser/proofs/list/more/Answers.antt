use Rattle.std.proofs.Common.{◌≡◌, ◌+◌, ◌-◌, sym, ◌∙◌, arith}
use Rattle.std.proofs.lemmas.Result.{err_from_is_err_and}
use Rattle.expr_parser.proofs.Steps.{list_end, list_next, list_stop, list_past}
use Rattle.expr_parser.proofs.list.more.Goals as goal

pub returns-then-not-starts : goal.returns-then-not-starts
returns-then-not-starts g c = list_end _ _ _ _ _ _ _ _ c.loop-turn.invariant (sym c.starts.ensures ∙ c.if-not-starts.true)

pub returns-in_err-found : goal.returns-in_err-found
returns-in_err-found g c =
    let q = err_from_is_err_and c.from_residual.result c.from_residual.ensures.1 in
    let e : 255 - c.loop-turn._turn ≡ (255 - (c.loop-turn._turn + 1)) + 1 = omega (arith, c.loop-turn-test.true) in
    rw (q.1, q.2) (list_stop _ _ _ _ _ _ _ _ _ _ _ c.loop-turn.invariant e (sym c.starts.ensures ∙ c.if-not-starts.false) c.in_err-found.ensures)

pub loop-turn-preserved : goal.loop-turn-preserved
loop-turn-preserved g c =
    let e : 255 - c.loop-turn._turn ≡ (255 - (c.loop-turn._turn + 1)) + 1 = omega (arith, c.loop-turn-test.true) in
    list_next _ _ _ _ _ _ _ _ _ _ _ _ c.loop-turn.invariant e (sym c.starts.ensures ∙ c.if-not-starts.false) c.in_ok-found.ensures

pub returns-then-not-starts-2 : goal.returns-then-not-starts-2
returns-then-not-starts-2 g c = list_end _ _ _ _ _ _ _ _ c.loop-turn.invariant (sym c.starts-2.ensures ∙ c.if-not-starts-2.true)

pub returns : goal.returns
returns g c =
    let z : 255 - c.loop-turn._turn ≡ 0 = omega (arith, c.loop-turn-test.false) in
    rw c.into.ensures (list_past _ _ _ _ _ _ _ _ _ _ c.loop-turn.invariant z (sym c.starts-2.ensures ∙ c.if-not-starts-2.false) c.past.ensures)
