use Rattle.std.proofs.Common.{rules}
use Rattle.csv_records.proofs.WindowSteps.{skips}
use Rattle.csv_records.proofs.window.Window.skip.Goals as goal

pub returns : goal.returns
returns c =
    let w = c.self.inside in
    skips c.args.self.now w.block.items w.base w.write w.next w.to w.at (search rules) c.self.invariant.ahead c.self.invariant.within c.requires
