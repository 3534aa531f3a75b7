use Rattle.kind_laws.proofs.Bodies.{giving, everywhere}
use Rattle.kind_laws.proofs.law.kinds_law.Goals as goal

pub returns : goal.returns
returns c = record {
  rows = λ kss tables q have e. giving kss tables have q e;
  nodes = λ kss tables q have e. everywhere kss tables have q e;
}
