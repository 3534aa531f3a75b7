use Rattle.planned_laws.proofs.Plains.{body_is_plain}
use Rattle.planned_laws.proofs.planned.plain_law.Goals as goal

pub returns : goal.returns
returns c = λ body files n. body_is_plain files n body
