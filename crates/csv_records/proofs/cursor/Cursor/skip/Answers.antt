use Rattle.std.proofs.Common.{rules}
use Rattle.csv_records.proofs.CursorSteps.{passes}
use Rattle.csv_records.proofs.cursor.Cursor.skip.Goals as goal

pub returns-else-is_empty : goal.returns-else-is_empty
returns-else-is_empty c =
    let old = c.self.inside.window in
    let now = c.pass.new.self in
    passes c.args.self.now old.kept now.kept old.ahead now.ahead c.self.inside.spans.items c.self.inside.start c.kept_len-self-inside.result
    old.at now.at (search rules) c.self.invariant.0 c.self.invariant.1 (search rules) c.pass.ensures.kept c.kept_len-self-inside.ensures
    c.pass.ensures.ahead c.pass.ensures.at
