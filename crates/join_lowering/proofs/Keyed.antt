-- The join on keys, where there is one, and where there is none.
use Rattle.std.proofs.Common.{◌≡◌, ◌≢◌, refl, Option, Some, None, List, [], ◌∷◌}
use Rattle.dfx_value.specs.declared.op.JoinKind.{JoinKind}
use Rattle.scalar_exprs.specs.declared.expr.Expr.{Expr}
use Rattle.join_lowering.specs.declared.lower.Side.{Side}
use Rattle.join_lowering.specs.Lowering.{plain_keys, on_keys, where_keyed}

pub without_key : (kind : JoinKind) (l r : Side) (rest : Option Expr) → where_keyed kind l r [] rest ≡ None
unfolding where_keyed
without_key kind l r rest = refl

pub with_key : (kind : JoinKind) (l r : Side) (keys : List (Expr × Expr)) (rest : Option Expr) → keys ≢ [] → where_keyed kind l r keys rest ≡ Some (on_keys kind l r keys (plain_keys l.width keys) rest)
unfolding where_keyed
with_key kind l r [] rest h = absurd (h refl)
with_key kind l r (key ∷ more) rest h = refl

pub ruleset keyed = (without_key, with_key)
