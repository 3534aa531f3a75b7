-- The sum of two columns of whole numbers.
use Rattle.std.proofs.Common.{◌≡◌, refl, ℕ, Bool, true, ◌&&◌, Some, [], ◌∷◌, ap, sym, ◌∙◌}
use Rattle.dfx_value.specs.declared.kind.Kind.TheVariants as kind
use Rattle.dfx_value.specs.declared.op.Op.TheVariants as op
use Rattle.scalar_exprs.specs.declared.expr.Expr.{Expr}
use Rattle.scalar_exprs.specs.declared.expr.Expr.TheOpen.{Expr-F}
use Rattle.scalar_exprs.specs.declared.expr.Expr.TheVariants.{Column, Binary, rolls-Column, rolls-Binary}
use Rattle.scalar_exprs.specs.declared.expr.Expr.TheFolds.{fold-roll-Expr, map-Expr}
use Rattle.scalar_exprs.specs.declared.expr.Expr.TheViews.{roll-Expr}
use Rattle.scalar_exprs.specs.Kinds.{kind_of, constants_fit, node_fits}
use Rattle.scalar_exprs.proofs.KindSteps.{kinds}

pub sum_kind : kind_of (kind.Int ∷ kind.Int ∷ []) (Binary op.Add (Column 0) (Column 1)) ≡ Some kind.Int
sum_kind = simp kinds

fits_level : (e : Expr) (z : Expr-F Expr) → roll-Expr z ≡ e → constants_fit e ≡ node_fits (map-Expr Expr Bool constants_fit z)
unfolding constants_fit
fits_level e z r = ap constants_fit (sym r) ∙ fold-roll-Expr Bool node_fits z

column-fits : (k : ℕ) → constants_fit (Column k) ≡ true
column-fits k = fits_level (Column k) (Expr-F.Column k) (rolls-Column k)

pub sum_fits : constants_fit (Binary op.Add (Column 0) (Column 1)) ≡ true
sum_fits = fits_level (Binary op.Add (Column 0) (Column 1)) (Expr-F.Binary op.Add (Column 0) (Column 1)) (rolls-Binary op.Add (Column 0) (Column 1))
    ∙ ap (λ (b : Bool). b && constants_fit (Column 1)) (column-fits 0) ∙ column-fits 1
