use Rattle.expr_binder.specs.Same as spec
use Rattle.std.proofs.Common.{sym, ◌∙◌}
use Rattle.expr_binder.proofs.NameLemmas.{unlike_names, unlike_calls}
use Rattle.expr_binder.proofs.SameLemmas.{uneven}
use Rattle.expr_binder.proofs.equality.+alike.Goals as goal

pub all_alike-returns-then-left-right : goal.all_alike-returns-then-left-right
all_alike-returns-then-left-right t c h columns = uneven (spec.same columns) c.args.left.now c.args.right.now c.if-left-right.true

pub alike_node-returns-in-Name-Name : goal.alike_node-returns-in-Name-Name
alike_node-returns-in-Name-Name t c h columns =
    let i = c.in-Name-Name in
    rw (i.is-0, i.is-1) (unlike_names columns i.p i.a i.q i.b (sym c.may_be_one.ensures ∙ h))

pub alike_node-returns-then-same_function : goal.alike_node-returns-then-same_function
alike_node-returns-then-same_function t c h columns =
    let i = c.in-Call-Call in
    rw (i.is-0, i.is-1, ← c.as_slice.ensures, ← c.as_slice-then-same_function.ensures) (unlike_calls columns i.f _ i.g _ (c.all_alike.ensures h columns))
