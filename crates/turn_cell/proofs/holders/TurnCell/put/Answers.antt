use Rattle.std.proofs.Common.{rules, Some, ◌∷◌, ap, ◌∙◌}
use Rattle.atomic_table.specs.Table.{rest}
use Rattle.turn_cell.proofs.Passes.{passes_turn}
use Rattle.turn_cell.proofs.Slots.{empty_slot}
use Rattle.turn_cell.proofs.holders.TurnCell.put.Goals as goal

pub unreachable-requires : goal.unreachable-requires
unreachable-requires g c = c.in_default.not-None (empty_slot _ _ (ap (λ m. m.1) c.requires.turn.1) c.exchange-nothing.ensures.2)

pub fetch_add-served-requires : goal.fetch_add-served-requires
fetch_add-served-requires g c =
    let e = c.exchange-nothing.ensures in (
      e.0 ∙ c.requires.cell,
      search rules,
      passes_turn g.T.Kept.opened g.T.Kept.acts (g.T.Kept.opened c.args.self.now.table.shared.key.value.value) _ _ _ _ _ _ c.args.value c.requires.turn
          (e.3 ∙ ap (λ l. (c.args.seat.now.place.me.0, (0, Some c.args.value) ∷ rest l)) (ap (λ m. m.1) c.requires.turn.1))
          c.requires.opening
          c.requires.acts,
    )
