use Rattle.sql_binder.proofs.FirstKeys.{named_within}
use Rattle.sql_binder.proofs.scope.column_named.Goals as goal

pub returns-in-Ok-clause-within : goal.returns-in-Ok-clause-within
returns-in-Ok-clause-within c = named_within c.args.columns.now c.in-Name.alias c.in-Name.name c.in-Ok.number c.in-Ok.ensures
