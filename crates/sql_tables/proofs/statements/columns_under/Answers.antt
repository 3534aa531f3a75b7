use Rattle.sql_tables.proofs.Shorter.{all_named}
use Rattle.sql_tables.proofs.statements.columns_under.Goals as goal

pub returns-in-None : goal.returns-in-None
returns-in-None c = all_named c.args.alias.now c.loop-at.at c.args.names.now c.args.kinds.now c.loop-at.columns.items _ c.in-None.ensures.lookup.3 c.loop-at.invariant
