use Rattle.std.proofs.Common.{◌≡◌, ap, sym, ◌∙◌, ◌+◌, List, map, drop}
use Rattle.sql_binder.specs.Each.{each_after}
use Rattle.sql_binder.specs.Unions.{Placed}
use Rattle.sql_binder.specs.Selects.{placed, select}
use Rattle.sql_binder.proofs.SelectSteps.{bound_next}
use Rattle.sql_binder.proofs.selects.+select.Goals as goal

pub bind_all-loop-part-preserved : goal.bind_all-loop-part-preserved
bind_all-loop-part-preserved t c = ap (λ (ds : List Placed). each_after placed ds (map (select c.args.tables.now) (drop (c.loop-part.part-index + 1) c.args.parts.now))) c.in_ok-push.ensures.items
    ∙ sym (bound_next c.args.tables.now c.loop-part.part-index c.part-item.result c.args.parts.now c.loop-part.done.items c.in_ok-selected.selected c.loop-part-test.true c.part-item.is c.in_ok-selected.ensures)
    ∙ c.loop-part.invariant
