use Rattle.std.proofs.Common.{◌+◌, refl, rules}
use Rattle.csv_records.specs.Left.{records_left, Takes}
use Rattle.csv_columns.proofs.ItemSteps.{even_put, rows_put}
use Rattle.csv_columns.proofs.reading.push_next.Goals as goal

pub returns-in-Ok-clause-even : goal.returns-in-Ok-clause-even
returns-in-Ok-clause-even g c _ =
    even_put c.args.reading.now.number c.args.rows c.args.columns.now.items c.push_record.new.columns.items c.next_record.new.reader.fields c.in-Ok.ensures.ok c.requires.even

pub returns-in-Ok-clause-takes : goal.returns-in-Ok-clause-takes
returns-in-Ok-clause-takes g c _ =
    let taken : Takes (records_left (g.S.Source.told c.args.source.now) c.args.reading.now.reader) c.next_record.new.reader.fields (records_left (g.S.Source.told c.args.source.now) c.next_record.new.reader) =
    c.next_record.ensures.some (search rules) in
    rows_put (g.S.Source.told c.args.source.now) c.args.reading.now.reader c.next_record.new.reader c.args.reading.now.number (c.args.reading.now.number + 1) c.args.rows
    c.args.columns.now.items c.push_record.new.columns.items c.next_record.new.reader.fields taken c.in-Ok.ensures.ok c.requires.even refl
