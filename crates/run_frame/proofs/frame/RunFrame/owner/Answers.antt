use Rattle.std.proofs.Common.{◌<◌, length, sym, subst, ◌∙◌, arith}
use Rattle.core_frame.proofs.Places.{length_wake_all}
use Rattle.run_frame.specs.Running.{Running}
use Rattle.run_frame.proofs.Tells.{kept_owner}
use Rattle.run_frame.proofs.frame.RunFrame.owner.Goals as goal

pub index-requires : goal.index-requires
index-requires g c =
    let inside = subst (λ (r : Running g.row.B.Denot). c.args.task < length r.frame.places) (sym c.self.view_is) c.requires.inside in
    omega (arith, inside, length_wake_all c.self.inside.woken.tasks c.self.inside.places.items, c.self.inside.places.ok.0)

pub returns : goal.returns
returns g c =
    let inside = subst (λ (r : Running g.row.B.Denot). c.args.task < length r.frame.places) (sym c.self.view_is) c.requires.inside in
    rw (← c.self.view_is) (c.owner_of.ensures ∙ kept_owner c.self.inside.woken.tasks c.self.inside.places.items c.args.task c.index.result.now c.self.invariant.owned (omega (arith, inside, length_wake_all c.self.inside.woken.tasks c.self.inside.places.items)) c.index.ensures)
