use Rattle.std.proofs.Common.{◌≡◌, sym, ap, ◌∙◌, drop, ℕ, ◌+◌, Some, arith}
use Rattle.sql_binder.specs.Orders.{number_from}
use Rattle.sql_binder.proofs.FirstNumbers.{all_passed, next_passed, next_found}
use Rattle.sql_binder.proofs.orders.number_in_items.Goals as goal

pub returns-in-Some : goal.returns-in-Some
returns-in-Some c = ap Some c.in_ok-sum.ensures ∙ sym (next_found c.args.single.columns.now c.loop-item.behind c.loop-item.item-index c.in-Some.number c.item-item.result c.args.single.items.now c.args.key.now c.loop-item-test.true c.item-item.is (sym c.in-Some.ensures)) ∙ c.loop-item.invariant

pub loop-item-preserved : goal.loop-item-preserved
loop-item-preserved c =
    ap (λ (b : ℕ). number_from c.args.single.columns.now b (drop (c.loop-item.item-index + 1) c.args.single.items.now) c.args.key.now) (c.in_ok-behind.ensures ∙ ap (λ (n : ℕ). c.loop-item.behind + n) c.width_of.ensures)
    ∙ sym (next_passed c.args.single.columns.now c.loop-item.behind c.loop-item.item-index c.item-item.result c.args.single.items.now c.args.key.now c.loop-item-test.true c.item-item.is (sym c.in_default.ensures)) ∙ c.loop-item.invariant

pub returns : goal.returns
returns c = sym (all_passed c.args.single.columns.now c.loop-item.behind c.loop-item.item-index c.args.single.items.now c.args.key.now (omega arith)) ∙ c.loop-item.invariant
