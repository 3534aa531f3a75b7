use Rattle.kind_laws.proofs.Files.{tables_fit, tables_named, tables_counted}
use Rattle.kind_laws.proofs.law.tables_law.Goals as goal

pub returns : goal.returns
returns c = record {
  kinds = λ all ts. tables_fit all 0 ts;
  faults = λ all ts. tables_named all ts;
  files = λ all ts. tables_counted all 0 ts;
}
