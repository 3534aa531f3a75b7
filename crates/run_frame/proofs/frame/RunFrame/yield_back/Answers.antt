use Rattle.std.proofs.Common.{◌≡◌, get_or, false, true, None, sym, subst}
use Rattle.core_frame.specs.Frame.{place_of}
use Rattle.core_frame.specs.declared.place.Place.TheVariants.{OwnedBy}
use Rattle.core_frame.specs.Step.{Scan}
use Rattle.run_frame.specs.Running.{Running}
use Rattle.run_frame.proofs.Owners.{owned_fresh, yields, yields_running}
use Rattle.run_frame.proofs.Served.{yielded_is}
use Rattle.run_frame.proofs.frame.RunFrame.yield_back.Goals as goal

pub push-requires-clause-fresh : goal.push-requires-clause-fresh
push-requires-clause-fresh g c =
    let ok = subst (λ (r : Running g.row.B.Denot). r.frame.failure ≡ None) (sym c.self.view_is) c.requires.alive in
    let at = subst (λ (r : Running g.row.B.Denot). place_of r.frame c.args.task ≡ OwnedBy c.args.worker) (sym c.self.view_is) c.requires.owned in
    owned_fresh _ _ _ _ _ _ _ _ _ c.args.worker c.args.task c.self.invariant ok at

pub invariant_of-self : goal.invariant_of-self
invariant_of-self g c =
    let ok = subst (λ (r : Running g.row.B.Denot). r.frame.failure ≡ None) (sym c.self.view_is) c.requires.alive in
    let at = subst (λ (r : Running g.row.B.Denot). place_of r.frame c.args.task ≡ OwnedBy c.args.worker) (sym c.self.view_is) c.requires.owned in
    let made = subst (λ (r : Running g.row.B.Denot). get_or r.frame.progress c.args.task false ≡ true) (sym c.self.view_is) c.requires.progress in
    yields_running _ _ _ _ _ _ _ _ _ c.args.worker c.args.task c.self.invariant ok at _ _ made c.push.ensures.tasks c.push.ensures.room

pub returns-clause-step : goal.returns-clause-step
returns-clause-step g c = λ n.
    let ok = subst (λ (r : Running g.row.B.Denot). r.frame.failure ≡ None) (sym c.self.view_is) c.requires.alive in
    let at = subst (λ (r : Running g.row.B.Denot). place_of r.frame c.args.task ≡ OwnedBy c.args.worker) (sym c.self.view_is) c.requires.owned in
    let made = subst (λ (r : Running g.row.B.Denot). get_or r.frame.progress c.args.task false ≡ true) (sym c.self.view_is) c.requires.progress in
    rw (← c.self.view_is) (yields _ _ _ _ _ _ _ _ _ c.args.worker c.args.task c.self.invariant ok at n _ made c.push.ensures.tasks)

pub returns-clause-frame : goal.returns-clause-frame
returns-clause-frame g c =
    let ok = subst (λ (r : Running g.row.B.Denot). r.frame.failure ≡ None) (sym c.self.view_is) c.requires.alive in
    let at = subst (λ (r : Running g.row.B.Denot). place_of r.frame c.args.task ≡ OwnedBy c.args.worker) (sym c.self.view_is) c.requires.owned in
    let made = subst (λ (r : Running g.row.B.Denot). get_or r.frame.progress c.args.task false ≡ true) (sym c.self.view_is) c.requires.progress in
    rw (← c.self.view_is) (yielded_is c.self.inside.shape _ _ c.args.task c.args.worker Scan at ok made (yields _ _ _ _ _ _ _ _ _ c.args.worker c.args.task c.self.invariant ok at Scan _ made c.push.ensures.tasks))
