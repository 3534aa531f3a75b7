use Rattle.finished_laws.proofs.Laws.{kept, delivered, told}
use Rattle.finished_laws.proofs.law.declared_law.Goals as goal

pub returns : goal.returns
returns c = record { kept = kept; delivers = delivered; told = told }
