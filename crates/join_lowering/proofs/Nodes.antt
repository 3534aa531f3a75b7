-- Definitions over expressions, constructor by constructor.
use Rattle.std.proofs.Common.{◌≡◌, ℕ, List, [], ◌∷◌, ◌++◌, map, refl, ap, sym, ◌∙◌}
use Rattle.dfx_value.specs.declared.kind.Kind.{Kind}
use Rattle.dfx_value.specs.declared.op.Op.{Op}
use Rattle.dfx_value.specs.declared.value.Value.{Value}
use Rattle.scalar_exprs.specs.declared.expr.Expr.{Expr}
use Rattle.scalar_exprs.specs.declared.expr.Expr.TheOpen.{Expr-F}
use Rattle.scalar_exprs.specs.declared.expr.Expr.TheViews.{roll-Expr}
use Rattle.scalar_exprs.specs.declared.expr.Expr.TheFolds.{fold-roll-Expr, para-roll-Expr, map-Expr}
use Rattle.scalar_exprs.specs.declared.expr.Expr.TheVariants.{Column, Const, Not, Neg, IsNull, Binary, Case, Coalesce, Cast, Abs, Length, rolls-Column, rolls-Const, rolls-Not, rolls-Neg, rolls-IsNull, rolls-Binary, rolls-Case, rolls-Coalesce, rolls-Cast, rolls-Abs, rolls-Length}
use Rattle.join_lowering.specs.Keys.{split, split_at, conjuncts, node_columns, columns}
use Rattle.join_lowering.specs.Lowering.{renumber, renumbered}
use Rattle.join_lowering.specs.SidesUsed.{arm_columns, all_columns, renumbered_arms}

-- ---- columns

columns_at : (e : Expr) (z : Expr-F Expr) → roll-Expr z ≡ e → columns e ≡ node_columns (map-Expr Expr (List ℕ) columns z)
unfolding columns
columns_at e z r = ap columns (sym r) ∙ fold-roll-Expr (List ℕ) node_columns z

pub columns-Column : (k : ℕ) → columns (Column k) ≡ k ∷ []
columns-Column k = columns_at (Column k) (Expr-F.Column k) (rolls-Column k)

pub columns-Const : (v : Value) (k : Kind) → columns (Const v k) ≡ []
columns-Const v k = columns_at (Const v k) (Expr-F.Const v k) (rolls-Const v k)

pub columns-Not : (a : Expr) → columns (Not a) ≡ columns a
columns-Not a = columns_at (Not a) (Expr-F.Not a) (rolls-Not a)

pub columns-Neg : (a : Expr) → columns (Neg a) ≡ columns a
columns-Neg a = columns_at (Neg a) (Expr-F.Neg a) (rolls-Neg a)

pub columns-IsNull : (a : Expr) → columns (IsNull a) ≡ columns a
columns-IsNull a = columns_at (IsNull a) (Expr-F.IsNull a) (rolls-IsNull a)

pub columns-Binary : (o : Op) (a : Expr) (b : Expr) → columns (Binary o a b) ≡ columns a ++ columns b
columns-Binary o a b = columns_at (Binary o a b) (Expr-F.Binary o a b) (rolls-Binary o a b)

pub columns-Case : (arms : List (Expr × Expr)) (other : Expr) → columns (Case arms other) ≡ arm_columns arms ++ columns other
unfolding arm_columns
columns-Case arms other = columns_at (Case arms other) (Expr-F.Case arms other) (rolls-Case arms other)

pub columns-Coalesce : (parts : List Expr) → columns (Coalesce parts) ≡ all_columns parts
unfolding all_columns
columns-Coalesce parts = columns_at (Coalesce parts) (Expr-F.Coalesce parts) (rolls-Coalesce parts)

pub columns-Cast : (a : Expr) (k : Kind) → columns (Cast a k) ≡ columns a
columns-Cast a k = columns_at (Cast a k) (Expr-F.Cast a k) (rolls-Cast a k)

pub columns-Abs : (a : Expr) → columns (Abs a) ≡ columns a
columns-Abs a = columns_at (Abs a) (Expr-F.Abs a) (rolls-Abs a)

pub columns-Length : (a : Expr) → columns (Length a) ≡ columns a
columns-Length a = columns_at (Length a) (Expr-F.Length a) (rolls-Length a)

pub ruleset columns_by_node = (columns-Column, columns-Const, columns-Not, columns-Neg, columns-IsNull, columns-Binary, columns-Case, columns-Coalesce, columns-Cast, columns-Abs, columns-Length)

-- ---- new numbers

renumbered_at : (f : ℕ → ℕ) (e : Expr) (z : Expr-F Expr) → roll-Expr z ≡ e → renumbered f e ≡ renumber f (map-Expr Expr Expr (renumbered f) z)
unfolding renumbered
renumbered_at f e z r = ap (renumbered f) (sym r) ∙ fold-roll-Expr Expr (renumber f) z

pub renumbered-Column : (f : ℕ → ℕ) (k : ℕ) → renumbered f (Column k) ≡ Column (f k)
renumbered-Column f k = renumbered_at f (Column k) (Expr-F.Column k) (rolls-Column k)

pub renumbered-Const : (f : ℕ → ℕ) (v : Value) (k : Kind) → renumbered f (Const v k) ≡ Const v k
renumbered-Const f v k = renumbered_at f (Const v k) (Expr-F.Const v k) (rolls-Const v k) ∙ rolls-Const v k

pub renumbered-Not : (f : ℕ → ℕ) (a : Expr) → renumbered f (Not a) ≡ Not (renumbered f a)
renumbered-Not f a = renumbered_at f (Not a) (Expr-F.Not a) (rolls-Not a) ∙ rolls-Not (renumbered f a)

pub renumbered-Neg : (f : ℕ → ℕ) (a : Expr) → renumbered f (Neg a) ≡ Neg (renumbered f a)
renumbered-Neg f a = renumbered_at f (Neg a) (Expr-F.Neg a) (rolls-Neg a) ∙ rolls-Neg (renumbered f a)

pub renumbered-IsNull : (f : ℕ → ℕ) (a : Expr) → renumbered f (IsNull a) ≡ IsNull (renumbered f a)
renumbered-IsNull f a = renumbered_at f (IsNull a) (Expr-F.IsNull a) (rolls-IsNull a) ∙ rolls-IsNull (renumbered f a)

pub renumbered-Binary : (f : ℕ → ℕ) (o : Op) (a : Expr) (b : Expr) → renumbered f (Binary o a b) ≡ Binary o (renumbered f a) (renumbered f b)
renumbered-Binary f o a b = renumbered_at f (Binary o a b) (Expr-F.Binary o a b) (rolls-Binary o a b) ∙ rolls-Binary o (renumbered f a) (renumbered f b)

pub renumbered-Case : (f : ℕ → ℕ) (arms : List (Expr × Expr)) (other : Expr) → renumbered f (Case arms other) ≡ Case (renumbered_arms f arms) (renumbered f other)
renumbered-Case f arms other = renumbered_at f (Case arms other) (Expr-F.Case arms other) (rolls-Case arms other) ∙ rolls-Case (renumbered_arms f arms) (renumbered f other)

pub renumbered-Coalesce : (f : ℕ → ℕ) (parts : List Expr) → renumbered f (Coalesce parts) ≡ Coalesce (map (renumbered f) parts)
renumbered-Coalesce f parts = renumbered_at f (Coalesce parts) (Expr-F.Coalesce parts) (rolls-Coalesce parts) ∙ rolls-Coalesce (map (renumbered f) parts)

pub renumbered-Cast : (f : ℕ → ℕ) (a : Expr) (k : Kind) → renumbered f (Cast a k) ≡ Cast (renumbered f a) k
renumbered-Cast f a k = renumbered_at f (Cast a k) (Expr-F.Cast a k) (rolls-Cast a k) ∙ rolls-Cast (renumbered f a) k

pub renumbered-Abs : (f : ℕ → ℕ) (a : Expr) → renumbered f (Abs a) ≡ Abs (renumbered f a)
renumbered-Abs f a = renumbered_at f (Abs a) (Expr-F.Abs a) (rolls-Abs a) ∙ rolls-Abs (renumbered f a)

pub renumbered-Length : (f : ℕ → ℕ) (a : Expr) → renumbered f (Length a) ≡ Length (renumbered f a)
renumbered-Length f a = renumbered_at f (Length a) (Expr-F.Length a) (rolls-Length a) ∙ rolls-Length (renumbered f a)

pub ruleset renumbered_by_node = (renumbered-Column, renumbered-Const, renumbered-Not, renumbered-Neg, renumbered-IsNull, renumbered-Binary, renumbered-Case, renumbered-Coalesce, renumbered-Cast, renumbered-Abs, renumbered-Length)

-- ---- parts

conjuncts_at : (e : Expr) (z : Expr-F Expr) → roll-Expr z ≡ e → conjuncts e ≡ split (map-Expr Expr (Expr × List Expr) (λ x. (x, conjuncts x)) z)
unfolding conjuncts
conjuncts_at e z r = ap conjuncts (sym r) ∙ para-roll-Expr (List Expr) split z

firsts : (es : List Expr) → map (λ (p : Expr × List Expr). p.0) (map (λ (x : Expr). (x, conjuncts x)) es) ≡ es
firsts [] = refl
firsts (e ∷ es) = ap (λ (xs : List Expr). e ∷ xs) (firsts es)

first_arms : (arms : List (Expr × Expr)) → map (λ (p : (Expr × List Expr) × (Expr × List Expr)). (p.0.0, p.1.0)) (map (λ (arm : Expr × Expr). ((arm.0, conjuncts arm.0), (arm.1, conjuncts arm.1))) arms) ≡ arms
first_arms [] = refl
first_arms (arm ∷ arms) = ap (λ (xs : List (Expr × Expr)). arm ∷ xs) (first_arms arms)

pub conjuncts-Column : (k : ℕ) → conjuncts (Column k) ≡ Column k ∷ []
conjuncts-Column k = conjuncts_at (Column k) (Expr-F.Column k) (rolls-Column k) ∙ ap (λ (e : Expr). e ∷ []) (rolls-Column k)

pub conjuncts-Const : (v : Value) (k : Kind) → conjuncts (Const v k) ≡ Const v k ∷ []
conjuncts-Const v k = conjuncts_at (Const v k) (Expr-F.Const v k) (rolls-Const v k) ∙ ap (λ (e : Expr). e ∷ []) (rolls-Const v k)

pub conjuncts-Not : (a : Expr) → conjuncts (Not a) ≡ Not a ∷ []
conjuncts-Not a = conjuncts_at (Not a) (Expr-F.Not a) (rolls-Not a) ∙ ap (λ (e : Expr). e ∷ []) (rolls-Not a)

pub conjuncts-Neg : (a : Expr) → conjuncts (Neg a) ≡ Neg a ∷ []
conjuncts-Neg a = conjuncts_at (Neg a) (Expr-F.Neg a) (rolls-Neg a) ∙ ap (λ (e : Expr). e ∷ []) (rolls-Neg a)

pub conjuncts-IsNull : (a : Expr) → conjuncts (IsNull a) ≡ IsNull a ∷ []
conjuncts-IsNull a = conjuncts_at (IsNull a) (Expr-F.IsNull a) (rolls-IsNull a) ∙ ap (λ (e : Expr). e ∷ []) (rolls-IsNull a)

pub conjuncts-Binary : (o : Op) (a b : Expr) → conjuncts (Binary o a b) ≡ split_at o (a, conjuncts a) (b, conjuncts b)
conjuncts-Binary o a b = conjuncts_at (Binary o a b) (Expr-F.Binary o a b) (rolls-Binary o a b)

pub conjuncts-Case : (arms : List (Expr × Expr)) (other : Expr) → conjuncts (Case arms other) ≡ Case arms other ∷ []
conjuncts-Case arms other = conjuncts_at (Case arms other) (Expr-F.Case arms other) (rolls-Case arms other) ∙ ap (λ (e : Expr). e ∷ []) (ap (λ (xs : List (Expr × Expr)). roll-Expr (Expr-F.Case xs other)) (first_arms arms) ∙ rolls-Case arms other)

pub conjuncts-Coalesce : (parts : List Expr) → conjuncts (Coalesce parts) ≡ Coalesce parts ∷ []
conjuncts-Coalesce parts = conjuncts_at (Coalesce parts) (Expr-F.Coalesce parts) (rolls-Coalesce parts) ∙ ap (λ (e : Expr). e ∷ []) (ap (λ (xs : List Expr). roll-Expr (Expr-F.Coalesce xs)) (firsts parts) ∙ rolls-Coalesce parts)

pub conjuncts-Cast : (a : Expr) (k : Kind) → conjuncts (Cast a k) ≡ Cast a k ∷ []
conjuncts-Cast a k = conjuncts_at (Cast a k) (Expr-F.Cast a k) (rolls-Cast a k) ∙ ap (λ (e : Expr). e ∷ []) (rolls-Cast a k)

pub conjuncts-Abs : (a : Expr) → conjuncts (Abs a) ≡ Abs a ∷ []
conjuncts-Abs a = conjuncts_at (Abs a) (Expr-F.Abs a) (rolls-Abs a) ∙ ap (λ (e : Expr). e ∷ []) (rolls-Abs a)

pub conjuncts-Length : (a : Expr) → conjuncts (Length a) ≡ Length a ∷ []
conjuncts-Length a = conjuncts_at (Length a) (Expr-F.Length a) (rolls-Length a) ∙ ap (λ (e : Expr). e ∷ []) (rolls-Length a)

pub ruleset conjuncts_by_node = (conjuncts-Column, conjuncts-Const, conjuncts-Not, conjuncts-Neg, conjuncts-IsNull, conjuncts-Binary, conjuncts-Case, conjuncts-Coalesce, conjuncts-Cast, conjuncts-Abs, conjuncts-Length)
