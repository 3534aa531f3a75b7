use Rattle.lexer_laws.proofs.Cutting.{good}
use Rattle.lexer_laws.proofs.law.cut_law.Goals as goal

pub returns : goal.returns
returns c = λ bs some. (good bs some).0
