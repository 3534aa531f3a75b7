use Rattle.std.proofs.Common.{rules}
use Rattle.csv_records.proofs.WindowSteps.{keeps, goes_on}
use Rattle.csv_records.proofs.window.Window.keep.Goals as goal

pub returns-clause-kept : goal.returns-clause-kept
returns-clause-kept c =
    let w = c.self.inside in
    keeps c.args.self.now w.block.items c.move_down.new.block.items w.base w.write w.next w.to w.at c.args.count (search rules)
    c.self.invariant.kept c.self.invariant.gap c.self.invariant.ahead c.self.invariant.within c.requires c.move_down.ensures.front

pub returns-clause-ahead : goal.returns-clause-ahead
returns-clause-ahead c =
    let w = c.self.inside in
    goes_on c.args.self.now w.block.items c.move_down.new.block.items w.base w.write w.next w.to w.at c.args.count (search rules)
    c.self.invariant.gap c.self.invariant.ahead c.self.invariant.within c.requires c.move_down.ensures.rest
