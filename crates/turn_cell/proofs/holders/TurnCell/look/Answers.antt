use Rattle.std.proofs.Common.{rules, Some, ap, sym, ◌∙◌, ◌∷◌}
use Rattle.atomic_table.specs.Table.{rest}
use Rattle.turn_cell.proofs.Looks.{looks_waiting}
use Rattle.turn_cell.proofs.holders.TurnCell.look.Goals as goal

pub load-serving-requires : goal.load-serving-requires
load-serving-requires g c = (search rules, search rules, looks_waiting g.T.Kept.opened g.T.Kept.acts _ _ _ _ _ _ _ c.requires.ticket)

pub exchange-requires : goal.exchange-requires
exchange-requires g c =
    let t = c.load-serving.ensures.2.0 (ap (λ m. m.0.ticket) c.requires.ticket ∙ ap Some (sym c.if-serving-ticket.true)) in
    (c.load-serving.ensures.0 ∙ c.requires.cell, (Some t.value, ap (λ m. m.1) t.after_is ∙ ap (λ m. (0, Some t.value) ∷ rest m.1) (sym t.after_is)))
