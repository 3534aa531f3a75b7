use Rattle.std.proofs.Common.{◌≡◌, ℕ, true, Some, sym, subst, arith}
use Rattle.task_shape.specs.Shape.{task_at}
use Rattle.core_frame.specs.Frame.{place_of, unfinished}
use Rattle.core_frame.specs.Step.{wake_all}
use Rattle.run_frame.specs.Running.{Running}
use Rattle.run_frame.proofs.Tells.{unfinished_inside}
use Rattle.run_frame.proofs.frame.RunFrame.group_of.Goals as goal

pub group_of-requires-clause-inside : goal.group_of-requires-clause-inside
group_of-requires-clause-inside g c =
    let u = subst (λ (r : Running g.row.B.Denot). unfinished (place_of r.frame c.args.task) ≡ true) (sym c.self.view_is) c.requires.unfinished in
    omega (arith, unfinished_inside (wake_all c.self.inside.woken.tasks c.self.inside.places.items) c.args.task u, c.self.invariant.lawful.frame.tasks)

pub group_of-requires-clause-sends : goal.group_of-requires-clause-sends
group_of-requires-clause-sends g c = subst (λ (r : Running g.row.B.Denot). (h : ℕ) × ((task_at r.shape c.args.task).sends ≡ Some h)) (sym c.self.view_is) c.requires.sends
