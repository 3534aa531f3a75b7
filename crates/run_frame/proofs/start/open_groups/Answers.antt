use Rattle.std.proofs.Common.{ap, ◌∙◌}
use Rattle.gate_channels.specs.Group.{opened_gate}
use Rattle.run_frame.proofs.Starts.{maps_more, rooms_more}
use Rattle.run_frame.proofs.start.open_groups.Goals as goal

pub loop-counts-preserved : goal.loop-counts-preserved
loop-counts-preserved g c = record {
  gates = maps_more c.loop-counts.groups.items c.push.new.self.items c.in_ok-new.field-0 c.args.senders.now c.loop-counts.counts-index c.counts-item.result (λ x. x.gate) (λ s. opened_gate {B = g.row.B.Denot} s.items) c.in_ok-push.ensures.items c.loop-counts-test.true c.counts-item.is c.loop-counts.invariant.gates
      (c.in_ok-new.ensures.gate ∙ ap (opened_gate {B = g.row.B.Denot}) c.deref.ensures.value);
  rooms = rooms_more c.args.tasks c.loop-counts.groups.items c.push.new.self.items c.in_ok-new.field-0 (λ x. x.room) c.in_ok-push.ensures.items c.loop-counts.invariant.rooms c.in_ok-new.ensures.room;
}
