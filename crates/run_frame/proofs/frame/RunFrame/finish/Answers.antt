use Rattle.std.proofs.Common.{◌≡◌, None, refl, arith, sym, subst}
use Rattle.core_frame.specs.Frame.{place_of}
use Rattle.core_frame.specs.declared.place.Place.TheVariants.{OwnedBy}
use Rattle.core_frame.specs.Step.{Finish}
use Rattle.run_journal.specs.declared.entry.EntryKind.TheVariants.{Finished}
use Rattle.run_frame.specs.Running.{Running}
use Rattle.run_frame.proofs.Owners.{owned_inside}
use Rattle.run_frame.proofs.Finishes.{finish_ending, finish_left, finish_frame, finish_running}
use Rattle.run_frame.proofs.Served.{served}
use Rattle.run_frame.proofs.frame.RunFrame.finish.Goals as goal

pub leave-requires : goal.leave-requires
leave-requires g c =
    let ok = subst (λ (r : Running g.row.B.Denot). r.frame.failure ≡ None) (sym c.self.view_is) c.requires.alive in
    let at = subst (λ (r : Running g.row.B.Denot). place_of r.frame c.args.task ≡ OwnedBy c.args.worker) (sym c.self.view_is) c.requires.owned in
    record { ending = finish_ending _ _ _ c.self.inside.woken _ _ _ _ c.args.worker c.args.task c.self.invariant ok at }

pub index_mut-requires : goal.index_mut-requires
index_mut-requires g c =
    let ok = subst (λ (r : Running g.row.B.Denot). r.frame.failure ≡ None) (sym c.self.view_is) c.requires.alive in
    let at = subst (λ (r : Running g.row.B.Denot). place_of r.frame c.args.task ≡ OwnedBy c.args.worker) (sym c.self.view_is) c.requires.owned in
    omega (arith, owned_inside _ _ _ _ _ _ _ _ _ c.args.worker c.args.task c.self.invariant ok at, c.self.inside.places.ok.0)

pub overflow_sub-self : goal.overflow_sub-self
overflow_sub-self g c =
    let ok = subst (λ (r : Running g.row.B.Denot). r.frame.failure ≡ None) (sym c.self.view_is) c.requires.alive in
    let at = subst (λ (r : Running g.row.B.Denot). place_of r.frame c.args.task ≡ OwnedBy c.args.worker) (sym c.self.view_is) c.requires.owned in
    (let l = finish_left _ _ _ c.self.inside.woken _ _ _ _ c.args.worker c.args.task c.self.invariant ok at in omega (arith, l))

pub invariant_of-self : goal.invariant_of-self
invariant_of-self g c =
    let ok = subst (λ (r : Running g.row.B.Denot). r.frame.failure ≡ None) (sym c.self.view_is) c.requires.alive in
    let at = subst (λ (r : Running g.row.B.Denot). place_of r.frame c.args.task ≡ OwnedBy c.args.worker) (sym c.self.view_is) c.requires.owned in
    finish_running _ _ _ _ c.leave.new.pool c.self.inside.woken c.leave.new.woken _ _ _ _ c.args.worker c.args.task c.self.invariant ok at c.leave.ensures.frame c.leave.ensures.rooms c.leave.ensures.queue c.leave.ensures.spillable

pub returns : goal.returns
returns g c =
    let ok = subst (λ (r : Running g.row.B.Denot). r.frame.failure ≡ None) (sym c.self.view_is) c.requires.alive in
    let at = subst (λ (r : Running g.row.B.Denot). place_of r.frame c.args.task ≡ OwnedBy c.args.worker) (sym c.self.view_is) c.requires.owned in
    rw (← c.self.view_is) (served _ _ c.args.worker c.args.task Finish Finished at ok refl refl refl (finish_frame _ _ _ _ c.leave.new.pool c.self.inside.woken c.leave.new.woken _ _ _ _ c.args.worker c.args.task c.self.invariant ok at c.leave.ensures.frame c.leave.ensures.rooms c.leave.ensures.queue c.leave.ensures.spillable))
