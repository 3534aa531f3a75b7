use Rattle.std.proofs.Common.{rules, arith, ◌≡◌, ◌∙◌, take}
use Rattle.csv_records.proofs.WindowSteps.{front_more}
use Rattle.csv_records.proofs.window.first_block.Goals as goal

pub loop-at-preserved : goal.loop-at-preserved
loop-at-preserved g c = record {
  told = search rules;
  size = search rules;
  later = search rules;
  within = omega (arith, c.in_ok-count.ensures.within);
  length = search rules;
  front = λ v told.
      let before : take c.loop-at.at c.read_behind.new.block ≡ take c.loop-at.at v = c.read_behind.ensures.kept ∙ c.loop-at.invariant.front v told in
      front_more v c.read_behind.new.block c.loop-at.at c.in_ok-count.count before (c.in_ok-count.ensures.front v (c.loop-at.invariant.told ∙ told));
}
