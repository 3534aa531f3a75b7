use Rattle.std.proofs.Common.{◌≡◌, ◌≤◌, ◌-◌, ℕ, List, length, take, Some}
use Rattle.csv_records.proofs.window.first_block.Given as goal

-- what was read so far
abbrev pub invariant-loop-at : goal.invariant-loop-at
invariant-loop-at g l = record {
  told : g.S.Source.told l.source ≡ g.S.Source.told l.fn.source;
  size : g.S.Source.size l.source ≡ g.S.Source.size l.fn.source;
  later : g.S.Source.faults l.fn.source ≤ g.S.Source.faults l.source;
  within : l.at ≤ l.room;
  length : length l.block ≡ length l.fn.block;
  front : (v : List ℕ) → g.S.Source.told l.fn.source ≡ Some v → take l.at l.block ≡ take l.at v;
}

abbrev pub decreases-loop-at : goal.decreases-loop-at
decreases-loop-at g l = l.room - l.at
