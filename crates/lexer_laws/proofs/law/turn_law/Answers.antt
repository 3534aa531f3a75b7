use Rattle.lexer_laws.proofs.Turning as turning
use Rattle.lexer_laws.proofs.law.turn_law.Goals as goal

pub returns : goal.returns
returns c = record {
  enough = λ n place bs h. turning.enough n place bs h;
  none = λ place. turning.none place;
  turn = λ place bs some. turning.turn place bs some;
}
