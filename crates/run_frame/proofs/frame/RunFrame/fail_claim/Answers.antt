use Rattle.std.proofs.Common.{◌<◌, ◌≡◌, length, false, None, Some, refl, sym, subst}
use Rattle.run_journal.specs.declared.cause.Cause.TheVariants.{NoMemory}
use Rattle.core_frame.specs.Frame.{owns}
use Rattle.run_frame.specs.Running.{Running}
use Rattle.run_frame.proofs.Claims.{claim_fails, claim_fails_running}
use Rattle.run_frame.proofs.Owners.{failed_is}
use Rattle.run_frame.proofs.frame.RunFrame.fail_claim.Goals as goal

pub get-task-requires : goal.get-task-requires
get-task-requires g c = record { inside = subst (λ (r : Running g.row.B.Denot). c.args.at < length r.frame.queue) (sym c.self.view_is) c.requires.inside }

pub invariant_of-self : goal.invariant_of-self
invariant_of-self g c =
    let ok = subst (λ (r : Running g.row.B.Denot). r.frame.failure ≡ None) (sym c.self.view_is) c.requires.alive in
    let at = subst (λ (r : Running g.row.B.Denot). c.args.at < length r.frame.queue) (sym c.self.view_is) c.requires.inside in
    let free = subst (λ (r : Running g.row.B.Denot). owns c.args.worker r.frame.places ≡ false) (sym c.self.view_is) c.requires.free in
    claim_fails_running _ _ _ _ _ _ _ _ _ c.args.at c.args.worker c.get-task.result c.self.invariant ok at free c.get-task.ensures.task _ refl _ refl

pub returns-clause-frame : goal.returns-clause-frame
returns-clause-frame g c = rw (← c.self.view_is) (failed_is _ _ _ _ _ _ NoMemory)

pub returns-clause-step : goal.returns-clause-step
returns-clause-step g c = λ n.
    let ok = subst (λ (r : Running g.row.B.Denot). r.frame.failure ≡ None) (sym c.self.view_is) c.requires.alive in
    let at = subst (λ (r : Running g.row.B.Denot). c.args.at < length r.frame.queue) (sym c.self.view_is) c.requires.inside in
    let free = subst (λ (r : Running g.row.B.Denot). owns c.args.worker r.frame.places ≡ false) (sym c.self.view_is) c.requires.free in
    rw (← c.self.view_is) (claim_fails _ _ _ _ _ _ _ _ _ c.args.at c.args.worker c.get-task.result c.self.invariant ok at free c.get-task.ensures.task _ refl n)
