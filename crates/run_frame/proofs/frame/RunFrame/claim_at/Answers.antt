use Rattle.std.proofs.Common.{◌<◌, ◌≡◌, length, false, None, arith, sym, subst}
use Rattle.core_frame.specs.Frame.{owns}
use Rattle.core_frame.specs.Step.{Scan}
use Rattle.run_frame.specs.Running.{Running}
use Rattle.run_frame.proofs.Claims.{claims_inside, claims_woken, claims_step, claims_running}
use Rattle.run_frame.proofs.Served.{claimed_is}
use Rattle.run_frame.proofs.frame.RunFrame.claim_at.Goals as goal

pub index_mut-requires : goal.index_mut-requires
index_mut-requires g c =
    let ok = subst (λ (r : Running g.row.B.Denot). r.frame.failure ≡ None) (sym c.self.view_is) c.requires.alive in
    let at = subst (λ (r : Running g.row.B.Denot). c.args.at < length r.frame.queue) (sym c.self.view_is) c.requires.inside in
    let free = subst (λ (r : Running g.row.B.Denot). owns c.args.worker r.frame.places ≡ false) (sym c.self.view_is) c.requires.free in
    omega (arith, claims_inside _ _ _ _ _ _ _ _ _ c.args.at c.args.worker c.take-task.result c.self.invariant ok at free c.take-task.ensures.task, c.self.inside.places.ok.0)

pub index_mut-requires-2 : goal.index_mut-requires-2
index_mut-requires-2 g c =
    let ok = subst (λ (r : Running g.row.B.Denot). r.frame.failure ≡ None) (sym c.self.view_is) c.requires.alive in
    let at = subst (λ (r : Running g.row.B.Denot). c.args.at < length r.frame.queue) (sym c.self.view_is) c.requires.inside in
    let free = subst (λ (r : Running g.row.B.Denot). owns c.args.worker r.frame.places ≡ false) (sym c.self.view_is) c.requires.free in
    omega (arith, claims_inside _ _ _ _ _ _ _ _ _ c.args.at c.args.worker c.take-task.result c.self.invariant ok at free c.take-task.ensures.task, c.self.inside.progress.ok.0, c.self.invariant.long)

pub invariant_of-self : goal.invariant_of-self
invariant_of-self g c =
    let ok = subst (λ (r : Running g.row.B.Denot). r.frame.failure ≡ None) (sym c.self.view_is) c.requires.alive in
    let at = subst (λ (r : Running g.row.B.Denot). c.args.at < length r.frame.queue) (sym c.self.view_is) c.requires.inside in
    let free = subst (λ (r : Running g.row.B.Denot). owns c.args.worker r.frame.places ≡ false) (sym c.self.view_is) c.requires.free in
    claims_running _ _ _ _ _ _ _ _ _ c.args.at c.args.worker c.take-task.result c.self.invariant ok at free c.take-task.ensures.task c.take-task.new.self.tasks c.take-task.ensures.tasks _ c.take-task.ensures.room

pub returns-clause-step : goal.returns-clause-step
returns-clause-step g c = λ n.
    let ok = subst (λ (r : Running g.row.B.Denot). r.frame.failure ≡ None) (sym c.self.view_is) c.requires.alive in
    let at = subst (λ (r : Running g.row.B.Denot). c.args.at < length r.frame.queue) (sym c.self.view_is) c.requires.inside in
    let free = subst (λ (r : Running g.row.B.Denot). owns c.args.worker r.frame.places ≡ false) (sym c.self.view_is) c.requires.free in
    rw (← c.self.view_is) (claims_step _ _ _ _ _ _ _ _ _ c.args.at c.args.worker c.take-task.result c.self.invariant ok at free c.take-task.ensures.task c.take-task.new.self.tasks c.take-task.ensures.tasks n)

pub returns-clause-frame : goal.returns-clause-frame
returns-clause-frame g c =
    let ok = subst (λ (r : Running g.row.B.Denot). r.frame.failure ≡ None) (sym c.self.view_is) c.requires.alive in
    let at = subst (λ (r : Running g.row.B.Denot). c.args.at < length r.frame.queue) (sym c.self.view_is) c.requires.inside in
    let free = subst (λ (r : Running g.row.B.Denot). owns c.args.worker r.frame.places ≡ false) (sym c.self.view_is) c.requires.free in
    rw (← c.self.view_is) (claimed_is c.self.inside.shape _ _ c.take-task.result c.args.worker Scan (claims_woken _ _ _ _ _ _ _ _ _ c.args.at c.args.worker c.take-task.result c.self.invariant ok at free c.take-task.ensures.task) free ok (claims_step _ _ _ _ _ _ _ _ _ c.args.at c.args.worker c.take-task.result c.self.invariant ok at free c.take-task.ensures.task c.take-task.new.self.tasks c.take-task.ensures.tasks Scan))
