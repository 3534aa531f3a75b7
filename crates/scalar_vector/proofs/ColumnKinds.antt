-- The values of an expression of a kind.
use Rattle.std.proofs.Common.{◌≡◌, refl, ℕ, suc, ◌≤◌, true, Some, List, [], ◌∷◌, Ok, Err, length, get_or, arith}
use Rattle.dfx_value.specs.Kinds.{is_of}
use Rattle.dfx_value.specs.declared.value.Value.TheVariants as value
use Rattle.value_columns.proofs.ColumnLemmas.{all_of-at}
use Rattle.dfx_value.specs.KindedRows.{all_are}
use Rattle.dfx_value.specs.declared.kind.Kind.{Kind}
use Rattle.dfx_value.specs.declared.value.Value.{Value}
use Rattle.dfx_value.proofs.BatchLemmas.{both, left_of, right_of}
use Rattle.scalar_exprs.specs.declared.expr.Expr.{Expr}
use Rattle.scalar_exprs.specs.Eval.{eval}
use Rattle.scalar_exprs.specs.Functions.{Outcome}
use Rattle.scalar_exprs.specs.Kinds.{constants_fit, kind_of}
use Rattle.scalar_exprs.proofs.KindLemmas.{kind_sound}
use Rattle.scalar_exprs.proofs.ValueKinds.{Fits}
use Rattle.value_columns.specs.Columns.{all_of}
use Rattle.scalar_vector.specs.Fronts.{Front, before, evaluated}

one-fits : (k : Kind) (o : Outcome) (f : Front) → Fits k o → all_of k f.values ≡ true → all_of k (before o f).values ≡ true
one-fits k (Ok v) f here rest = both _ _ here rest
one-fits k (Err e) f here rest = refl

pub values_fit : (ks : List Kind) (k : Kind) (rs : List (List Value)) (e : Expr) → all_are ks rs ≡ true → constants_fit e ≡ true → kind_of ks e ≡ Some k
    → all_of k (evaluated rs e).values ≡ true
values_fit ks k [] e h c has = refl
values_fit ks k (r ∷ rs) e h c has = one-fits k (eval r e) (evaluated rs e) (kind_sound ks r (left_of _ _ h) e c k has) (values_fit ks k rs e (right_of _ _ h) c has)

one-more : (o : Outcome) (f : Front) (n : ℕ) → length f.values ≤ n → length (before o f).values ≤ suc n
one-more (Ok v) f n h = omega arith
one-more (Err e) f n h = omega arith

pub front_short : (rs : List (List Value)) (e : Expr) → length (evaluated rs e).values ≤ length rs
front_short [] e = omega arith
front_short (r ∷ rs) e = one-more (eval r e) (evaluated rs e) (length rs) (front_short rs e)

pub fit_at : (k : Kind) (vs : List Value) (i : ℕ) → all_of k vs ≡ true → is_of k (get_or vs i value.Null) ≡ true
fit_at k vs i h = all_of-at k vs i h
