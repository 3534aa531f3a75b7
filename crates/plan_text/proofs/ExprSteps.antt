-- The text of an expression, constructor by constructor.
use Rattle.std.proofs.Common.{◌≡◌, ℕ, List, [], ◌∷◌, ◌++◌, map, codes, ap, sym, ◌∙◌, append_assoc, append-nil}
use Rattle.dfx_value.specs.declared.kind.Kind.{Kind}
use Rattle.dfx_value.specs.declared.op.Op.{Op}
use Rattle.dfx_value.specs.declared.value.Value.{Value}
use Rattle.scalar_exprs.specs.declared.expr.Expr.{Expr}
use Rattle.scalar_exprs.specs.declared.expr.Expr.TheOpen.{Expr-F}
use Rattle.scalar_exprs.specs.declared.expr.Expr.TheVariants.{Column, Const, Not, Neg, IsNull, Binary, Case, Coalesce, Cast, Abs, Length, rolls-Column, rolls-Const, rolls-Not, rolls-Neg, rolls-IsNull, rolls-Binary, rolls-Case, rolls-Coalesce, rolls-Cast, rolls-Abs, rolls-Length}
use Rattle.scalar_exprs.specs.declared.expr.Expr.TheFolds.{fold-roll-Expr, map-Expr}
use Rattle.scalar_exprs.specs.declared.expr.Expr.TheViews.{roll-Expr}
use Rattle.plan_text.specs.ListText.{separated, separated_after}
use Rattle.plan_text.specs.ExprText.{expr_text, level_text, column_text, constant_text, call_of, op_text, kind_text, arm_text, arms_text}

at_level : (e : Expr) (z : Expr-F Expr) → roll-Expr z ≡ e → expr_text e ≡ level_text (map-Expr Expr (List ℕ) expr_text z)
unfolding expr_text
at_level e z r = ap expr_text (sym r) ∙ fold-roll-Expr (List ℕ) level_text z

pub text-Column : (k : ℕ) → expr_text (Column k) ≡ column_text k
text-Column k = at_level (Column k) (Expr-F.Column k) (rolls-Column k)

pub text-Const : (v : Value) (kind : Kind) → expr_text (Const v kind) ≡ constant_text v
text-Const v kind = at_level (Const v kind) (Expr-F.Const v kind) (rolls-Const v kind)

pub text-Not : (a : Expr) → expr_text (Not a) ≡ call_of (codes "NOT") (expr_text a)
text-Not a = at_level (Not a) (Expr-F.Not a) (rolls-Not a)

pub text-Neg : (a : Expr) → expr_text (Neg a) ≡ call_of (codes "NEG") (expr_text a)
text-Neg a = at_level (Neg a) (Expr-F.Neg a) (rolls-Neg a)

pub text-IsNull : (a : Expr) → expr_text (IsNull a) ≡ call_of (codes "ISNULL") (expr_text a)
text-IsNull a = at_level (IsNull a) (Expr-F.IsNull a) (rolls-IsNull a)

pub text-Binary : (op : Op) (a b : Expr) → expr_text (Binary op a b) ≡ codes "(" ++ (expr_text a ++ (codes " " ++ (op_text op ++ (codes " " ++ (expr_text b ++ codes ")")))))
text-Binary op a b = at_level (Binary op a b) (Expr-F.Binary op a b) (rolls-Binary op a b)

arms_joined : (arms : List (Expr × Expr)) (last before : List ℕ) → separated_after before (map arm_text (map (λ arm. (expr_text arm.0, expr_text arm.1)) arms) ++ last ∷ []) ≡ before ++ (arms_text arms ++ last)
arms_joined [] last before = ap (λ (s : List ℕ). before ++ s) (append-nil last)
arms_joined (arm ∷ arms) last before =
    ap (λ (s : List ℕ). before ++ (arm_text (expr_text arm.0, expr_text arm.1) ++ s)) (arms_joined arms last (codes ", "))
    ∙ ap (λ (s : List ℕ). before ++ s) (sym (append_assoc (arm_text (expr_text arm.0, expr_text arm.1)) (codes ", " ++ arms_text arms) last))

pub text-Case : (arms : List (Expr × Expr)) (other : Expr) → expr_text (Case arms other) ≡ codes "CASE(" ++ (arms_text arms ++ (codes "ELSE " ++ (expr_text other ++ codes ")")))
text-Case arms other =
    at_level (Case arms other) (Expr-F.Case arms other) (rolls-Case arms other)
    ∙ ap (λ (s : List ℕ). codes "CASE(" ++ (s ++ codes ")")) (arms_joined arms (codes "ELSE " ++ expr_text other) [])
    ∙ ap (λ (s : List ℕ). codes "CASE(" ++ s) (append_assoc (arms_text arms) (codes "ELSE " ++ expr_text other) (codes ")"))

pub text-Coalesce : (parts : List Expr) → expr_text (Coalesce parts) ≡ codes "COALESCE(" ++ (separated (map expr_text parts) ++ codes ")")
text-Coalesce parts = at_level (Coalesce parts) (Expr-F.Coalesce parts) (rolls-Coalesce parts)

pub text-Cast : (a : Expr) (kind : Kind) → expr_text (Cast a kind) ≡ codes "CAST(" ++ (expr_text a ++ (codes " AS " ++ (kind_text kind ++ codes ")")))
text-Cast a kind =
    at_level (Cast a kind) (Expr-F.Cast a kind) (rolls-Cast a kind)
    ∙ ap (λ (s : List ℕ). codes "CAST(" ++ s) (append_assoc (expr_text a) (codes " AS " ++ kind_text kind) (codes ")"))

pub text-Abs : (a : Expr) → expr_text (Abs a) ≡ call_of (codes "ABS") (expr_text a)
text-Abs a = at_level (Abs a) (Expr-F.Abs a) (rolls-Abs a)

pub text-Length : (a : Expr) → expr_text (Length a) ≡ call_of (codes "LENGTH") (expr_text a)
text-Length a = at_level (Length a) (Expr-F.Length a) (rolls-Length a)

pub ruleset expr_nodes = (text-Column, text-Const, text-Not, text-Neg, text-IsNull, text-Binary, text-Case, text-Coalesce, text-Cast, text-Abs, text-Length)

-- ---- pieces, one written after another: t, u, v and w are the text before the first and after each

pub binary_pieces : (t u v w : List ℕ) (e a b p q : Expr) (op : Op) → e ≡ Binary op a b → p ≡ a → q ≡ b → u ≡ t ++ (codes "(" ++ (expr_text p ++ codes " ")) → v ≡ u ++ op_text op → w ≡ v ++ (codes " " ++ (expr_text q ++ codes ")")) → w ≡ t ++ expr_text e
binary_pieces t u v w e a b p q op is left right one two three =
    three
    ∙ ap (λ (s : List ℕ). s ++ (codes " " ++ (expr_text q ++ codes ")"))) (two ∙ ap (λ (s : List ℕ). s ++ op_text op) one)
    ∙ (simp append_assoc)
    ∙ ap (λ (s : List ℕ). t ++ s) (sym (ap expr_text (is ∙ ap (λ (x : Expr). Binary op x b) (sym left) ∙ ap (λ (x : Expr). Binary op p x) (sym right)) ∙ text-Binary op p q))

pub case_pieces : (t u v w : List ℕ) (e other q : Expr) (arms ps : List (Expr × Expr)) → e ≡ Case arms other → ps ≡ arms → q ≡ other → u ≡ t ++ codes "CASE(" → v ≡ u ++ arms_text ps → w ≡ v ++ (codes "ELSE " ++ (expr_text q ++ codes ")")) → w ≡ t ++ expr_text e
case_pieces t u v w e other q arms ps is left right one two three =
    three
    ∙ ap (λ (s : List ℕ). s ++ (codes "ELSE " ++ (expr_text q ++ codes ")"))) (two ∙ ap (λ (s : List ℕ). s ++ arms_text ps) one)
    ∙ (simp append_assoc)
    ∙ ap (λ (s : List ℕ). t ++ s) (sym (ap expr_text (is ∙ ap (λ (x : List (Expr × Expr)). Case x other) (sym left) ∙ ap (λ (x : Expr). Case ps x) (sym right)) ∙ text-Case ps q))

pub coalesce_pieces : (t u v w : List ℕ) (e : Expr) (parts ps : List Expr) → e ≡ Coalesce parts → ps ≡ parts → u ≡ t ++ codes "COALESCE(" → v ≡ u ++ separated (map expr_text ps) → w ≡ v ++ codes ")" → w ≡ t ++ expr_text e
coalesce_pieces t u v w e parts ps is same one two three =
    three
    ∙ ap (λ (s : List ℕ). s ++ codes ")") (two ∙ ap (λ (s : List ℕ). s ++ separated (map expr_text ps)) one)
    ∙ (simp append_assoc)
    ∙ ap (λ (s : List ℕ). t ++ s) (sym (ap expr_text (is ∙ ap Coalesce (sym same)) ∙ text-Coalesce ps))

pub cast_pieces : (t u v w : List ℕ) (e a p : Expr) (kind : Kind) → e ≡ Cast a kind → p ≡ a → u ≡ t ++ (codes "CAST(" ++ (expr_text p ++ codes " AS ")) → v ≡ u ++ kind_text kind → w ≡ v ++ codes ")" → w ≡ t ++ expr_text e
cast_pieces t u v w e a p kind is same one two three =
    three
    ∙ ap (λ (s : List ℕ). s ++ codes ")") (two ∙ ap (λ (s : List ℕ). s ++ kind_text kind) one)
    ∙ (simp append_assoc)
    ∙ ap (λ (s : List ℕ). t ++ s) (sym (ap expr_text (is ∙ ap (λ (x : Expr). Cast x kind) (sym same)) ∙ text-Cast p kind))
