use Rattle.std.proofs.Common.{◌≡◌, List, Bool, Option, map, drop}
use Rattle.run_journal.specs.declared.cause.Cause.{Cause}
use Rattle.fair_pool.specs.Share.{Pool}
use Rattle.core_frame.specs.declared.place.Place.{Place}
use Rattle.core_frame.specs.Frame.{Frame}
use Rattle.core_frame.specs.Step.{drops}
use Rattle.run_frame.specs.Running.{frame_of}
use Rattle.run_frame.specs.Leaving.{Leaves}
use Rattle.run_frame.proofs.finish.drop_receivers.Given as goal

-- what is left to drop leads to the same frame
abbrev pub invariant-loop-pair : goal.invariant-loop-pair
invariant-loop-pair g l = record {
  leaves : Leaves l.groups.items l.woken l.receives;
  frame : (pool : Pool) (places : List Place) (progress : List Bool) (failure : Option Cause)
      → ◌≡◌ {A = Frame g.row.B.Denot} (drops (drop l.pair-index l.receives) (frame_of l.groups.items pool l.woken.tasks places progress failure))
      (drops l.receives (frame_of l.initial.groups.items pool l.initial.woken.tasks places progress failure));
  rooms : map (λ x. x.room) l.groups.items ≡ map (λ x. x.room) l.initial.groups.items;
  queue : l.woken.room ≡ l.initial.woken.room;
}
