use Rattle.std.proofs.Common.{rules}
use Rattle.csv_records.specs.Places.{state_of}
use Rattle.csv_records.proofs.CursorSteps.{takes_run}
use Rattle.csv_records.proofs.cursor.Cursor.take_run.Goals as goal

pub returns : goal.returns
returns c =
    let old = c.self.inside.window in
    let now = c.keep.new.self in
    takes_run (state_of c.args.place) (state_of c.run_of-count.result.place) c.args.self.now old.kept now.kept old.ahead now.ahead
    c.self.inside.spans.items c.self.inside.start old.at now.at c.run_of-count.result.count (search rules) c.self.invariant.0 c.self.invariant.1
    c.keep.ensures.kept c.keep.ensures.ahead c.keep.ensures.at (rw c.ahead.ensures at c.run_of-count.ensures.run)
