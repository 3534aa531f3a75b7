use Rattle.expr_binder.specs.Same as spec
use Rattle.expr_binder.proofs.SameLemmas.{uneven, uneven_arms}
use Rattle.expr_binder.proofs.equality.+same.Goals as goal

pub all_same-returns-then-left-right : goal.all_same-returns-then-left-right
all_same-returns-then-left-right t c = uneven (spec.same c.args.columns.now) c.args.left.now c.args.right.now c.if-left-right.true

pub arms_same-returns-then-left-right : goal.arms_same-returns-then-left-right
arms_same-returns-then-left-right t c = uneven_arms (spec.same_arm c.args.columns.now) c.args.left.now c.args.right.now c.if-left-right.true
