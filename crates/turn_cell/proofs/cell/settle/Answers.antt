use Rattle.std.proofs.Common.{sym, subst, refl}
use Rattle.std.specs.Option.{IsSome}
use Rattle.turn_cell.proofs.Settling.{settled, settled_value}
use Rattle.turn_cell.proofs.cell.settle.Goals as goal

pub unwrap-requires : goal.unwrap-requires
unwrap-requires g c =
    let t = settled g.T.Kept.opened g.T.Kept.acts _ _ _ c.args.place.me _ _ _ c.requires.idle c.requires.all c.requires.some c.close_with-closed.ensures.values.2 c.take-value.ensures.value in
    subst IsSome (sym t.1) refl

pub returns-clause-opening : goal.returns-clause-opening
returns-clause-opening g c =
    (settled_value g.T.Kept.opened g.T.Kept.acts _ _ _ c.args.place.me _ _ _ _ c.requires.idle c.requires.all c.requires.some c.close_with-closed.ensures.values.2 c.take-value.ensures.value c.unwrap.ensures).0

pub returns-clause-follow : goal.returns-clause-follow
returns-clause-follow g c =
    (settled_value g.T.Kept.opened g.T.Kept.acts _ _ _ c.args.place.me _ _ _ _ c.requires.idle c.requires.all c.requires.some c.close_with-closed.ensures.values.2 c.take-value.ensures.value c.unwrap.ensures).1

pub returns-clause-others : goal.returns-clause-others
returns-clause-others g c =
    (settled_value g.T.Kept.opened g.T.Kept.acts _ _ _ c.args.place.me _ _ _ _ c.requires.idle c.requires.all c.requires.some c.close_with-closed.ensures.values.2 c.take-value.ensures.value c.unwrap.ensures).2
