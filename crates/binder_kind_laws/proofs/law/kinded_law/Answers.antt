use Rattle.binder_kind_laws.proofs.Meanings.{expression_kinded}
use Rattle.binder_kind_laws.proofs.Bounds.{bound_kinded, declared_kinded}
use Rattle.binder_kind_laws.proofs.Spelled.{spelled}
use Rattle.binder_kind_laws.proofs.Few.{scans_sound}
use Rattle.binder_kind_laws.proofs.law.kinded_law.Goals as goal

pub returns : goal.returns
returns c = record {
  expressions = λ columns e t h q. expression_kinded columns e t h q;
  queries = λ script schemas ts q t w h e. (bound_kinded script schemas ts q t w h e).body;
  names = λ script schemas ts q t w h e. (bound_kinded script schemas ts q t w h e).names;
  spelled = λ text tokens script q p e. (declared_kinded script q (spelled text tokens script p) e).body;
  scans = λ text tokens script q p e. scans_sound text tokens script q p e;
  named = λ text tokens script q p e. (declared_kinded script q (spelled text tokens script p) e).names;
}
