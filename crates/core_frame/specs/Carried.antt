-- Meaning: frames over other batches: the same, with each batch changed by one map.
use Rattle.std.specs.Prelude.{map}
use Rattle.run_journal.specs.declared.entry.Entry.{Entry}
use Rattle.gate_channels.specs.Gate.{Channel, Gate}
use Rattle.core_frame.specs.Frame.{Frame}
use Rattle.core_frame.specs.Step.{Need, Scan, Recv, Send, Grow, Free, Writes, Finish, Fail}

abbrev pub map_channel : {A B : Type 0} → (A → B) → Channel A → Channel B
map_channel m ch = record { batches = map m ch.batches; live = ch.live; unended = ch.unended; waiting = ch.waiting }

abbrev pub map_gate : {A B : Type 0} → (A → B) → Gate A → Gate B
map_gate m g = record { channels = map (map_channel m) g.channels; queue = g.queue }

-- only what its channels hold changes
abbrev pub map_frame : {A B : Type 0} → (A → B) → Frame A → Frame B
map_frame m f = record {
  gates = map (map_gate m) f.gates;
  pool = f.pool;
  queue = f.queue;
  places = f.places;
  progress = f.progress;
  failure = f.failure;
}

abbrev pub map_need : {A B : Type 0} → (A → B) → Need A → Need B
map_need m Scan = Scan
map_need m (Recv g c) = Recv g c
map_need m (Send c b) = Send c (m b)
map_need m (Grow c bytes) = Grow c bytes
map_need m (Free c bytes) = Free c bytes
map_need m Writes = Writes
map_need m Finish = Finish
map_need m (Fail cause) = Fail cause

-- the same entry, its need with the batch changed
abbrev pub map_step : {A B : Type 0} → (A → B) → Entry × Need A → Entry × Need B
map_step m s = (s.0, map_need m s.1)
