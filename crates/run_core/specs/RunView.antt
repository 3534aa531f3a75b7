-- Words: a run, as its opening, its acts and its frame.
use Rattle.std.specs.Prelude.{ℕ, List, length, nat_lt, if◌then◌else◌}
use Rattle.turn_cell.specs.declared.act.Act.{Act}
use Rattle.core_frame.specs.Frame.{Frame}

pub record RunView (O B : Type 0) : Type 0 where
  pub opening : O
  pub acts : List Act
  pub frame : Frame B

-- this place of the queue, or its front where it isn't so long
abbrev pub place_in : {B : Type 0} → Frame B → ℕ → ℕ
place_in f at = if nat_lt at (length f.queue) then at else 0
