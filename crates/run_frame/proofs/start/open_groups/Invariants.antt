use Rattle.std.proofs.Common.{◌≡◌, List, map, take}
use Rattle.gate_channels.specs.Gate.{Gate}
use Rattle.gate_channels.specs.Group.{opened_gate}
use Rattle.run_frame.specs.Running.{AllAre}
use Rattle.run_frame.proofs.start.open_groups.Given as goal

abbrev pub invariant-loop-counts : goal.invariant-loop-counts
invariant-loop-counts g l = record {
  gates : ◌≡◌ {A = List (Gate g.row.B.Denot)} (map (λ x. x.gate) l.groups.items) (map (λ s. opened_gate s.items) (take l.counts-index l.senders));
  rooms : AllAre l.tasks (map (λ x. x.room) l.groups.items);
}
