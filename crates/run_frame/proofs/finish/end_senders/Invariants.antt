use Rattle.std.proofs.Common.{◌≡◌, List, Bool, Option, map, drop}
use Rattle.run_journal.specs.declared.cause.Cause.{Cause}
use Rattle.fair_pool.specs.Share.{Pool}
use Rattle.core_frame.specs.declared.place.Place.{Place}
use Rattle.core_frame.specs.Frame.{Frame}
use Rattle.core_frame.specs.Step.{ends_in}
use Rattle.run_frame.specs.Running.{frame_of}
use Rattle.run_frame.specs.Leaving.{EndsSenders}
use Rattle.run_frame.proofs.finish.end_senders.Given as goal

-- what is left to end leads to the same frame
abbrev pub invariant-loop-channel : goal.invariant-loop-channel
invariant-loop-channel g l = record {
  ends : EndsSenders l.groups.items l.woken l.group (drop l.channel-index l.targets);
  frame : (pool : Pool) (places : List Place) (progress : List Bool) (failure : Option Cause)
      → ◌≡◌ {A = Frame g.row.B.Denot} (ends_in l.group (drop l.channel-index l.targets) (frame_of l.groups.items pool l.woken.tasks places progress failure))
      (ends_in l.group l.targets (frame_of l.initial.groups.items pool l.initial.woken.tasks places progress failure));
  rooms : map (λ x. x.room) l.groups.items ≡ map (λ x. x.room) l.initial.groups.items;
  queue : l.woken.room ≡ l.initial.woken.room;
}
