use Rattle.lexer_laws.proofs.Covering as covering
use Rattle.lexer_laws.proofs.Sole.{sole}
use Rattle.lexer_laws.proofs.law.covers_law.Goals as goal

pub returns : goal.returns
returns c = record {
  whole = λ text ts is. covering.whole text ts is;
  sole = λ text ts h u c. sole text ts h u c;
  front = λ text e h u is. covering.front text e h u is;
}
