use Rattle.query_laws.proofs.Laws as laws
use Rattle.query_laws.proofs.law.query_runs_law.Goals as goal

pub returns : goal.returns
returns c = record {
  good = λ r is entries s l. laws.good r is entries s l;
  answer = λ r is entries s l done. laws.answer r is entries s l done;
  cause = λ r is entries e s l why k of. laws.cause r is entries e s l why k of;
}
