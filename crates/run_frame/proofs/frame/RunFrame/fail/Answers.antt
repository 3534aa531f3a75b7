use Rattle.std.proofs.Common.{◌≡◌, None, Some, refl, sym, subst}
use Rattle.core_frame.specs.Frame.{place_of}
use Rattle.core_frame.specs.declared.place.Place.TheVariants.{OwnedBy}
use Rattle.run_journal.specs.declared.entry.EntryKind.TheVariants.{Failed}
use Rattle.core_frame.specs.Step.{frame_step}
use Rattle.run_frame.specs.Running.{Running, frame_of}
use Rattle.run_frame.proofs.Owners.{failed_is, fails, fails_device, fails_running}
use Rattle.run_frame.proofs.Served.{served_failure}
use Rattle.run_frame.proofs.frame.RunFrame.fail.Goals as goal

pub invariant_of-self : goal.invariant_of-self
invariant_of-self g c =
    let ok = subst (λ (r : Running g.row.B.Denot). r.frame.failure ≡ None) (sym c.self.view_is) c.requires.alive in
    let at = subst (λ (r : Running g.row.B.Denot). place_of r.frame c.args.task ≡ OwnedBy c.args.worker) (sym c.self.view_is) c.requires.owned in
    fails_running _ _ _ _ _ _ _ _ _ c.args.worker c.args.task c.self.invariant ok at c.args.cause

pub returns-clause-need : goal.returns-clause-need
returns-clause-need g c =
    let ok = subst (λ (r : Running g.row.B.Denot). r.frame.failure ≡ None) (sym c.self.view_is) c.requires.alive in
    let at = subst (λ (r : Running g.row.B.Denot). place_of r.frame c.args.task ≡ OwnedBy c.args.worker) (sym c.self.view_is) c.requires.owned in
    rw (← c.self.view_is) (served_failure _ _ c.args.worker c.args.task c.args.cause refl (failed_is _ _ _ _ _ _ c.args.cause) (fails _ _ _ _ _ _ _ _ _ c.args.worker c.args.task c.self.invariant ok at c.args.cause))

pub returns-clause-device : goal.returns-clause-device
returns-clause-device g c = λ m n.
    let ok = subst (λ (r : Running g.row.B.Denot). r.frame.failure ≡ None) (sym c.self.view_is) c.requires.alive in
    let at = subst (λ (r : Running g.row.B.Denot). place_of r.frame c.args.task ≡ OwnedBy c.args.worker) (sym c.self.view_is) c.requires.owned in
    subst (λ (r : Running g.row.B.Denot). frame_step r.shape r.frame (record { worker = c.args.worker; task = c.args.task; kind = Failed c.args.cause }) n
    ≡ Some (frame_of c.self.inside.groups.items c.self.inside.pool c.self.inside.woken.tasks c.self.inside.places.items c.self.inside.progress.items (Some c.args.cause)))
    c.self.view_is (fails_device _ _ _ _ _ _ _ _ _ c.args.worker c.args.task c.self.invariant ok at c.args.cause m n)
