use Rattle.std.proofs.Common.{rules}
use Rattle.turn_cell.proofs.Draws.{draws_idle}
use Rattle.turn_cell.proofs.holders.TurnCell.draw.Goals as goal

pub fetch_add-requires : goal.fetch_add-requires
fetch_add-requires g c = (search rules, search rules, draws_idle g.T.Kept.opened g.T.Kept.acts _ _ _ _ _ _ c.requires.idle)
