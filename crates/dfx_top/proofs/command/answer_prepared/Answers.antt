use Rattle.dfx_top.proofs.CommandEnds.{told_query_at}
use Rattle.dfx_top.proofs.command.answer_prepared.Goals as goal

pub returns-in-Query-clause-told : goal.returns-in-Query-clause-told
returns-in-Query-clause-told g c all before ft kt = told_query_at all before _ _ c.args.request c.args.prepared.now _ c.in-Query.is (c.run_query.ensures.told all before ft kt)
