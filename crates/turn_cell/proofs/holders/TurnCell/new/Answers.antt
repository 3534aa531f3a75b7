use Rattle.std.proofs.Common.{◌∙◌, ◌++◌, ◌∷◌, [], ap, Some}
use Rattle.turn_cell.proofs.Dealing.{starts_with}
use Rattle.turn_cell.proofs.holders.TurnCell.new.Goals as goal

pub new-requires : goal.new-requires
new-requires g c = starts_with g.T.Kept.opened g.T.Kept.acts c.args.seats c.args.value _ _ c.requires.unused c.ranges.seats.fits (c.push_reserved.ensures.items ∙ ap (λ l. l ++ Some c.args.value ∷ []) c.in-Ok-with_capacity.ensures.items) c.of.ensures
