use Rattle.std.proofs.Common.{◌≡◌, map, take}
use Rattle.run_frame.specs.Counts.{zeros_for}
use Rattle.run_frame.proofs.start.no_senders.Given as goal

abbrev pub invariant-loop-width : goal.invariant-loop-width
invariant-loop-width l = record { rows : map (λ s. s.items) l.senders.items ≡ zeros_for (take l.width-index l.widths) }
