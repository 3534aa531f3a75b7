use Rattle.lexer_laws.proofs.Quoting as quoting
use Rattle.lexer_laws.proofs.law.quote_law.Goals as goal

pub returns : goal.returns
returns c = record {
  ends = λ q s back h. quoting.ends q s back h;
  only = λ q bs n some e. quoting.only q some bs n e;
  reads = λ q s. quoting.reads q s;
}
