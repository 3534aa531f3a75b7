use Rattle.csv_columns.proofs.FrontSteps.{next_gives, next_refused}
use Rattle.csv_columns.proofs.scan.CsvScan.next.Goals as goal

pub returns-in-Ok-clause-gives : goal.returns-in-Ok-clause-gives
returns-in-Ok-clause-gives g c items is =
    next_gives c.whole.result c.in-Ok.front.batch c.in-Ok.front.refused c.args.rows items c.next_front.new.self.left c.whole.ensures.ok (c.in-Ok.ensures.gives items is)

pub returns-in-Ok-clause-refused : goal.returns-in-Ok-clause-refused
returns-in-Ok-clause-refused g c items e is err bad =
    next_refused c.whole.result e c.in-Ok.front.refused c.args.rows items c.in-Ok.front.batch.rows c.next_front.new.self.left c.whole.ensures.err (c.in-Ok.ensures.gives items is) err
