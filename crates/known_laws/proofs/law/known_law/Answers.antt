use Rattle.std.proofs.Common.{refl, map, length}
use Rattle.known_laws.proofs.Known.{met, csv_met}
use Rattle.known_laws.proofs.law.known_law.Goals as goal

pub returns : goal.returns
returns c = record {
  distincts = λ kss tables q have e. (met kss tables have (map length tables) refl q e).0;
  known = λ kss tables files q have count e. (met kss tables have files count q e).1;
  csv_distincts = λ all ts q e. (csv_met all ts q e).0;
  csv_known = λ all ts q e. (csv_met all ts q e).1;
}
