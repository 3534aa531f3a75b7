use Rattle.std.proofs.Common.{◌<◌, length, sym, subst}
use Rattle.run_frame.specs.Running.{Running}
use Rattle.run_frame.proofs.frame.RunFrame.held.Goals as goal

pub held-requires : goal.held-requires
held-requires g c =
    let inside = subst (λ (r : Running g.row.B.Denot). c.args.consumer < length r.shape.spillable) (sym c.self.view_is) c.requires.inside in
    record { inside = subst (λ xs. c.args.consumer < length xs) (sym c.self.invariant.spillable) inside }
