use Rattle.std.proofs.Common.{◌∙◌, refl, arith}
use Rattle.core_frame.specs.Frame.{opening}
use Rattle.run_core.proofs.Beginnings.{start_holds, start_room}
use Rattle.run_core.proofs.run.Run.start.Goals as goal

pub invariant_of-result : goal.invariant_of-result
invariant_of-result g c =
    let o = g.O.Opens.given c.args.parts.opening in (
      rw (c.in-Ok.ensures.items, c.requires.no_acts.0) (start_holds _ _ _ _ _ _ _ _ _ c.requires.starts),
      start_room c.args.parts.frame.frame (opening o.shape o.limit) c.args.parts.tasks.items _ _ c.requires.starts.frame refl c.requires.starts.all (c.in-Ok.ensures.len ∙ c.requires.no_acts.1)
          (omega (arith, c.in-Ok.ensures.ok)),
    )
