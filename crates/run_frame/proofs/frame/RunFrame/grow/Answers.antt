use Rattle.std.proofs.Common.{◌≡◌, true, false, None, refl, arith, sym, ap, ◌∙◌, subst}
use Rattle.run_journal.specs.declared.cause.Cause.TheVariants.{Exhausted}
use Rattle.run_journal.specs.declared.entry.EntryKind.TheVariants.{Granted, Refused, Failed}
use Rattle.fair_pool.specs.Share.{held_by, share_of}
use Rattle.task_shape.specs.Shape.{task_at, has}
use Rattle.core_frame.specs.Frame.{place_of}
use Rattle.core_frame.specs.declared.place.Place.TheVariants.{OwnedBy}
use Rattle.core_frame.specs.Step.{Grow}
use Rattle.run_frame.specs.Running.{Running}
use Rattle.run_frame.proofs.Owners.{owned_inside, consumer_inside}
use Rattle.run_frame.proofs.Tells.{gives_is}
use Rattle.run_frame.proofs.Grows.{granted_frame, granted_running, refused_frame, refused_running, exhausted_frame, exhausted_running}
use Rattle.run_frame.proofs.Served.{served}
use Rattle.run_frame.proofs.frame.RunFrame.grow.Goals as goal

pub can_spill-spills-requires : goal.can_spill-spills-requires
can_spill-spills-requires g c =
    let own = subst (λ (r : Running g.row.B.Denot). has (task_at r.shape c.args.task).consumers c.args.consumer ≡ true) (sym c.self.view_is) c.requires.own in
    record { inside = c.self.invariant.plan.owners.within c.args.task c.args.consumer own }

pub try_grow-requires : goal.try_grow-requires
try_grow-requires g c =
    let own = subst (λ (r : Running g.row.B.Denot). has (task_at r.shape c.args.task).consumers c.args.consumer ≡ true) (sym c.self.view_is) c.requires.own in
    record { inside = consumer_inside _ _ _ _ _ _ _ _ _ c.args.task c.args.consumer c.self.invariant own }

pub index_mut-requires : goal.index_mut-requires
index_mut-requires g c =
    let ok = subst (λ (r : Running g.row.B.Denot). r.frame.failure ≡ None) (sym c.self.view_is) c.requires.alive in
    let at = subst (λ (r : Running g.row.B.Denot). place_of r.frame c.args.task ≡ OwnedBy c.args.worker) (sym c.self.view_is) c.requires.owned in
    omega (arith, owned_inside _ _ _ _ _ _ _ _ _ c.args.worker c.args.task c.self.invariant ok at, c.self.invariant.long, c.self.inside.progress.ok.0)

pub invariant_of-self : goal.invariant_of-self
invariant_of-self g c =
    let ok = subst (λ (r : Running g.row.B.Denot). r.frame.failure ≡ None) (sym c.self.view_is) c.requires.alive in
    let at = subst (λ (r : Running g.row.B.Denot). place_of r.frame c.args.task ≡ OwnedBy c.args.worker) (sym c.self.view_is) c.requires.owned in
    let own = subst (λ (r : Running g.row.B.Denot). has (task_at r.shape c.args.task).consumers c.args.consumer ≡ true) (sym c.self.view_is) c.requires.own in
    granted_running _ _ _ c.try_grow.new.self _ _ _ _ _ _ c.args.worker c.args.task c.args.consumer c.args.bytes c.self.invariant ok at own (c.in-Ok.ensures.granted.0 refl) c.in-Ok.ensures.ok

pub returns-in-Ok : goal.returns-in-Ok
returns-in-Ok g c =
    let ok = subst (λ (r : Running g.row.B.Denot). r.frame.failure ≡ None) (sym c.self.view_is) c.requires.alive in
    let at = subst (λ (r : Running g.row.B.Denot). place_of r.frame c.args.task ≡ OwnedBy c.args.worker) (sym c.self.view_is) c.requires.owned in
    let own = subst (λ (r : Running g.row.B.Denot). has (task_at r.shape c.args.task).consumers c.args.consumer ≡ true) (sym c.self.view_is) c.requires.own in
    rw (← c.self.view_is) (served _ _ c.args.worker c.args.task (Grow c.args.consumer c.args.bytes) Granted at ok refl refl refl (granted_frame _ _ _ c.try_grow.new.self _ _ _ _ _ _ c.args.worker c.args.task c.args.consumer c.args.bytes c.self.invariant ok at own (c.in-Ok.ensures.granted.0 refl) c.in-Ok.ensures.ok))

pub index_mut-requires-then-gives : goal.index_mut-requires-then-gives
index_mut-requires-then-gives g c =
    let ok = subst (λ (r : Running g.row.B.Denot). r.frame.failure ≡ None) (sym c.self.view_is) c.requires.alive in
    let at = subst (λ (r : Running g.row.B.Denot). place_of r.frame c.args.task ≡ OwnedBy c.args.worker) (sym c.self.view_is) c.requires.owned in
    omega (arith, owned_inside _ _ _ _ _ _ _ _ _ c.args.worker c.args.task c.self.invariant ok at, c.self.invariant.long, c.self.inside.progress.ok.0)

pub invariant_of-self-then-gives : goal.invariant_of-self-then-gives
invariant_of-self-then-gives g c =
    let ok = subst (λ (r : Running g.row.B.Denot). r.frame.failure ≡ None) (sym c.self.view_is) c.requires.alive in
    let at = subst (λ (r : Running g.row.B.Denot). place_of r.frame c.args.task ≡ OwnedBy c.args.worker) (sym c.self.view_is) c.requires.owned in
    let own = subst (λ (r : Running g.row.B.Denot). has (task_at r.shape c.args.task).consumers c.args.consumer ≡ true) (sym c.self.view_is) c.requires.own in
    refused_running _ _ _ c.try_grow.new.self _ _ _ _ _ _ c.args.worker c.args.task c.args.consumer c.args.bytes c.self.invariant ok at own c.in-Err.ensures.above c.in-Err.ensures.err (gives_is c.self.inside.pool c.args.consumer c.self.inside.shape.spillable c.can_spill-spills.result c.gives_back-gives.result c.in-Err.refused.held true c.self.invariant.spillable c.can_spill-spills.ensures c.in-Err.ensures.tells.held c.gives_back-gives.ensures c.if-gives.true)

pub returns-then-gives : goal.returns-then-gives
returns-then-gives g c =
    let ok = subst (λ (r : Running g.row.B.Denot). r.frame.failure ≡ None) (sym c.self.view_is) c.requires.alive in
    let at = subst (λ (r : Running g.row.B.Denot). place_of r.frame c.args.task ≡ OwnedBy c.args.worker) (sym c.self.view_is) c.requires.owned in
    let own = subst (λ (r : Running g.row.B.Denot). has (task_at r.shape c.args.task).consumers c.args.consumer ≡ true) (sym c.self.view_is) c.requires.own in
    rw (← c.self.view_is) (served _ _ c.args.worker c.args.task (Grow c.args.consumer c.args.bytes) Refused at ok refl refl refl (refused_frame _ _ _ c.try_grow.new.self _ _ _ _ _ _ c.args.worker c.args.task c.args.consumer c.args.bytes c.self.invariant ok at own c.in-Err.ensures.above c.in-Err.ensures.err (gives_is c.self.inside.pool c.args.consumer c.self.inside.shape.spillable c.can_spill-spills.result c.gives_back-gives.result c.in-Err.refused.held true c.self.invariant.spillable c.can_spill-spills.ensures c.in-Err.ensures.tells.held c.gives_back-gives.ensures c.if-gives.true)))

pub invariant_of-self-else-gives : goal.invariant_of-self-else-gives
invariant_of-self-else-gives g c =
    let ok = subst (λ (r : Running g.row.B.Denot). r.frame.failure ≡ None) (sym c.self.view_is) c.requires.alive in
    let at = subst (λ (r : Running g.row.B.Denot). place_of r.frame c.args.task ≡ OwnedBy c.args.worker) (sym c.self.view_is) c.requires.owned in
    let own = subst (λ (r : Running g.row.B.Denot). has (task_at r.shape c.args.task).consumers c.args.consumer ≡ true) (sym c.self.view_is) c.requires.own in
    let told = c.in-Err.ensures.tells in
    let cause : c.past_share-cause.result ≡ Exhausted c.args.bytes (held_by c.self.inside.pool c.args.consumer) (share_of c.self.inside.pool c.args.consumer) =
    c.past_share-cause.ensures ∙ (ap (λ n. Exhausted n c.in-Err.refused.held c.in-Err.refused.share) told.requested ∙ (ap (λ n. Exhausted c.args.bytes n c.in-Err.refused.share) told.held ∙ ap (λ n. Exhausted c.args.bytes (held_by c.self.inside.pool c.args.consumer) n) told.share)) in
    rw cause (exhausted_running _ _ _ c.try_grow.new.self _ _ _ _ _ _ c.args.worker c.args.task c.args.consumer c.args.bytes c.self.invariant ok at own c.in-Err.ensures.above c.in-Err.ensures.err (gives_is c.self.inside.pool c.args.consumer c.self.inside.shape.spillable c.can_spill-spills.result c.gives_back-gives.result c.in-Err.refused.held false c.self.invariant.spillable c.can_spill-spills.ensures c.in-Err.ensures.tells.held c.gives_back-gives.ensures c.if-gives.false))

pub returns-else-gives : goal.returns-else-gives
returns-else-gives g c =
    let ok = subst (λ (r : Running g.row.B.Denot). r.frame.failure ≡ None) (sym c.self.view_is) c.requires.alive in
    let at = subst (λ (r : Running g.row.B.Denot). place_of r.frame c.args.task ≡ OwnedBy c.args.worker) (sym c.self.view_is) c.requires.owned in
    let own = subst (λ (r : Running g.row.B.Denot). has (task_at r.shape c.args.task).consumers c.args.consumer ≡ true) (sym c.self.view_is) c.requires.own in
    let told = c.in-Err.ensures.tells in
    let cause : c.past_share-cause.result ≡ Exhausted c.args.bytes (held_by c.self.inside.pool c.args.consumer) (share_of c.self.inside.pool c.args.consumer) =
    c.past_share-cause.ensures ∙ (ap (λ n. Exhausted n c.in-Err.refused.held c.in-Err.refused.share) told.requested ∙ (ap (λ n. Exhausted c.args.bytes n c.in-Err.refused.share) told.held ∙ ap (λ n. Exhausted c.args.bytes (held_by c.self.inside.pool c.args.consumer) n) told.share)) in
    rw (← c.self.view_is, cause) (served _ _ c.args.worker c.args.task (Grow c.args.consumer c.args.bytes) (Failed (Exhausted c.args.bytes (held_by c.self.inside.pool c.args.consumer) (share_of c.self.inside.pool c.args.consumer))) at ok refl refl refl (exhausted_frame _ _ _ c.try_grow.new.self _ _ _ _ _ _ c.args.worker c.args.task c.args.consumer c.args.bytes c.self.invariant ok at own c.in-Err.ensures.above c.in-Err.ensures.err (gives_is c.self.inside.pool c.args.consumer c.self.inside.shape.spillable c.can_spill-spills.result c.gives_back-gives.result c.in-Err.refused.held false c.self.invariant.spillable c.can_spill-spills.ensures c.in-Err.ensures.tells.held c.gives_back-gives.ensures c.if-gives.false)))
