use Rattle.std.proofs.Common.{◌≡◌, ℕ, ◌+◌, ◌-◌, length, sym, ap, ◌∙◌, arith}
use Rattle.sql_lexer.specs.Cuts.{cut}
use Rattle.sql_lexer.proofs.Turns.{state, over, spent, bad_at, wide_at, open_at, blank_at, found_at}
use Rattle.sql_lexer.proofs.lexer.cuts.Goals as goal
use Rattle.sql_lexer.proofs.lexer.cuts.Goals.{in-Blank, in-Found+in_ok-push-in-Found}

pub returns-then-at-text-clause-value : goal.returns-then-at-text-clause-value
returns-then-at-text-clause-value c = sym c.loop-turn.invariant.rest ∙ over c.args.text.now c.loop-turn.found.items (length c.args.text.now - c.loop-turn._turn) c.loop-turn.at c.if-at-text.true

pub returns-in-Bad-clause-value : goal.returns-in-Bad-clause-value
returns-in-Bad-clause-value c =
    let e : length c.args.text.now - c.loop-turn._turn ≡ (length c.args.text.now - (c.loop-turn._turn + 1)) + 1 = omega (arith, c.loop-turn-test.true) in
    sym c.loop-turn.invariant.rest ∙ bad_at c.args.text.now c.loop-turn.found.items (length c.args.text.now - c.loop-turn._turn) _ c.loop-turn.at c.in-Bad.n e c.if-at-text.false (ap cut (sym c.split_at.ensures.back) ∙ sym c.in-Bad.ensures.value)

pub returns-in-Wide-clause-value : goal.returns-in-Wide-clause-value
returns-in-Wide-clause-value c =
    let e : length c.args.text.now - c.loop-turn._turn ≡ (length c.args.text.now - (c.loop-turn._turn + 1)) + 1 = omega (arith, c.loop-turn-test.true) in
    sym c.loop-turn.invariant.rest ∙ wide_at c.args.text.now c.loop-turn.found.items (length c.args.text.now - c.loop-turn._turn) _ c.loop-turn.at e c.if-at-text.false (ap cut (sym c.split_at.ensures.back) ∙ sym c.in-Wide.ensures.value)

pub returns-in-Open-clause-value : goal.returns-in-Open-clause-value
returns-in-Open-clause-value c =
    let e : length c.args.text.now - c.loop-turn._turn ≡ (length c.args.text.now - (c.loop-turn._turn + 1)) + 1 = omega (arith, c.loop-turn-test.true) in
    sym c.loop-turn.invariant.rest ∙ open_at c.args.text.now c.loop-turn.found.items (length c.args.text.now - c.loop-turn._turn) _ c.loop-turn.at e c.if-at-text.false (ap cut (sym c.split_at.ensures.back) ∙ sym c.in-Open.ensures.value)

pub returns-clause-value : goal.returns-clause-value
returns-clause-value c =
    let e : length c.args.text.now - c.loop-turn._turn ≡ 0 = omega (arith, c.loop-turn-test.false) in
    sym c.loop-turn.invariant.rest ∙ ap (λ (i : ℕ). state c.args.text.now c.loop-turn.found.items i c.loop-turn.at) e ∙ spent c.args.text.now c.loop-turn.found.items c.loop-turn.at

pub loop-turn-preserved : goal.loop-turn-preserved
loop-turn-preserved c =
    let e : length c.args.text.now - c.loop-turn._turn ≡ (length c.args.text.now - (c.loop-turn._turn + 1)) + 1 = omega (arith, c.loop-turn-test.true) in
    elim c.match-next_cut.branch [
      | in-Blank w ↦ record {
        at = omega (arith, w.at-is, w.in-Blank.ensures.within, c.split_at.ensures.back_len, c.if-at-text.false);
        rest = rw (w.found-is, w.at-is) (sym (blank_at c.args.text.now c.loop-turn.found.items (length c.args.text.now - c.loop-turn._turn) _ c.loop-turn.at w.in-Blank.n e c.if-at-text.false (ap cut (sym c.split_at.ensures.back) ∙ sym w.in-Blank.ensures.value)) ∙ c.loop-turn.invariant.rest);
      }
      | in-Found+in_ok-push-in-Found w ↦ record {
        at = omega (arith, w.at-is, w.in-Found.ensures.within, c.split_at.ensures.back_len, c.if-at-text.false);
        rest = rw (w.found-is, w.at-is, w.in_ok-push-in-Found.ensures.items) (sym (found_at c.args.text.now c.loop-turn.found.items (length c.args.text.now - c.loop-turn._turn) _ c.loop-turn.at w.in-Found.n w.in-Found.kind e c.if-at-text.false (ap cut (sym c.split_at.ensures.back) ∙ sym w.in-Found.ensures.value)) ∙ c.loop-turn.invariant.rest);
      }
    ]
