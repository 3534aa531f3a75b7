use Rattle.std.proofs.Common.{rules, ◌≡◌, take}
use Rattle.csv_records.specs.Cursors.{fields_in}
use Rattle.csv_records.proofs.CursorSteps.{fields_stay}
use Rattle.csv_records.proofs.cursor.Cursor.put.Goals as goal

pub returns-in-Copy-clause-fields : goal.returns-in-Copy-clause-fields
returns-in-Copy-clause-fields c =
    let old = c.self.inside.window in
    let spans = c.self.inside.spans.items in
    let stay : fields_in c.keep.new.self.kept spans ≡ c.args.self.now.fields =
    fields_stay c.args.self.now old.kept c.keep.new.self.kept (take 1 old.ahead) old.ahead spans c.self.inside.start old.at
    (search rules) c.self.invariant.0 c.self.invariant.1 c.keep.ensures.kept in
    rw c.in-Copy.is stay
