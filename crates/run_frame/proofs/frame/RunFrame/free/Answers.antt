use Rattle.std.proofs.Common.{◌≡◌, ◌-◌, true, None, refl, arith, sym, ap, ◌∙◌, subst}
use Rattle.fair_pool.specs.Share.{with_held, held_by}
use Rattle.task_shape.specs.Shape.{task_at, has}
use Rattle.core_frame.specs.Frame.{place_of}
use Rattle.core_frame.specs.declared.place.Place.TheVariants.{OwnedBy}
use Rattle.core_frame.specs.Step.{Free}
use Rattle.run_journal.specs.declared.entry.EntryKind.TheVariants.{Freed}
use Rattle.run_frame.specs.Running.{Running}
use Rattle.run_frame.proofs.Owners.{owned_inside, consumer_inside, frees, frees_running}
use Rattle.run_frame.proofs.Served.{served}
use Rattle.run_frame.proofs.frame.RunFrame.free.Goals as goal

pub held-held-requires : goal.held-held-requires
held-held-requires g c =
    let own = subst (λ (r : Running g.row.B.Denot). has (task_at r.shape c.args.task).consumers c.args.consumer ≡ true) (sym c.self.view_is) c.requires.own in
    record { inside = consumer_inside _ _ _ _ _ _ _ _ _ c.args.task c.args.consumer c.self.invariant own }

pub index_mut-requires : goal.index_mut-requires
index_mut-requires g c =
    let ok = subst (λ (r : Running g.row.B.Denot). r.frame.failure ≡ None) (sym c.self.view_is) c.requires.alive in
    let at = subst (λ (r : Running g.row.B.Denot). place_of r.frame c.args.task ≡ OwnedBy c.args.worker) (sym c.self.view_is) c.requires.owned in
    let own = subst (λ (r : Running g.row.B.Denot). has (task_at r.shape c.args.task).consumers c.args.consumer ≡ true) (sym c.self.view_is) c.requires.own in
    omega (arith, owned_inside _ _ _ _ _ _ _ _ _ c.args.worker c.args.task c.self.invariant ok at, c.self.invariant.long, c.self.inside.progress.ok.0)

pub invariant_of-self : goal.invariant_of-self
invariant_of-self g c =
    let ok = subst (λ (r : Running g.row.B.Denot). r.frame.failure ≡ None) (sym c.self.view_is) c.requires.alive in
    let at = subst (λ (r : Running g.row.B.Denot). place_of r.frame c.args.task ≡ OwnedBy c.args.worker) (sym c.self.view_is) c.requires.owned in
    let own = subst (λ (r : Running g.row.B.Denot). has (task_at r.shape c.args.task).consumers c.args.consumer ≡ true) (sym c.self.view_is) c.requires.own in
    frees_running _ _ _ _ _ _ _ _ _ c.args.worker c.args.task c.self.invariant ok at c.args.consumer _ own (c.shrink.ensures.held ∙ ap (λ n. with_held c.self.inside.pool c.args.consumer (held_by c.self.inside.pool c.args.consumer - n)) c.held-held.ensures.held)

pub returns : goal.returns
returns g c = λ bytes.
    let ok = subst (λ (r : Running g.row.B.Denot). r.frame.failure ≡ None) (sym c.self.view_is) c.requires.alive in
    let at = subst (λ (r : Running g.row.B.Denot). place_of r.frame c.args.task ≡ OwnedBy c.args.worker) (sym c.self.view_is) c.requires.owned in
    let own = subst (λ (r : Running g.row.B.Denot). has (task_at r.shape c.args.task).consumers c.args.consumer ≡ true) (sym c.self.view_is) c.requires.own in
    rw (← c.self.view_is) (served _ _ c.args.worker c.args.task (Free c.args.consumer bytes) Freed at ok refl refl refl (frees _ _ _ _ _ _ _ _ _ c.args.worker c.args.task c.self.invariant ok at c.args.consumer bytes _ (c.shrink.ensures.held ∙ ap (λ n. with_held c.self.inside.pool c.args.consumer (held_by c.self.inside.pool c.args.consumer - n)) c.held-held.ensures.held)))
