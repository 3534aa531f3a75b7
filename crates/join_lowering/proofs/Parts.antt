-- The parts of a test, and keys and residual of two lists of them, one after the other.
use Rattle.std.specs.Prelude.{is_none}
use Rattle.std.specs.List.{cons_option}
use Rattle.std.proofs.Common.{ℕ, ◌≡◌, ◌≢◌, refl, sym, ap, subst, ◌∙◌, Option, Some, None, Bool, true, false, cond, List, [], ◌∷◌, ◌++◌}
use Rattle.std.proofs.lemmas.List.{append-nil, append_assoc}
use Rattle.dfx_value.specs.declared.op.Op.{Op}
use Rattle.dfx_value.specs.declared.op.Op.TheVariants as op
use Rattle.scalar_exprs.specs.declared.expr.Expr.{Expr}
use Rattle.scalar_exprs.specs.declared.expr.Expr.TheOpen.{Expr-F}
use Rattle.scalar_exprs.specs.declared.expr.Expr.TheViews.{out-Expr, roll-Expr, roll-out-Expr}
use Rattle.scalar_exprs.specs.declared.expr.Expr.TheVariants.{Binary, rolls-Column, rolls-Const, rolls-Not, rolls-Neg, rolls-IsNull, rolls-Case, rolls-Coalesce, rolls-Cast, rolls-Abs, rolls-Length, rolls-Binary}
use Rattle.join_lowering.specs.Keys.{split_at, conjuncts, key_of, keys, others, conjoined, and_also}
use Rattle.join_lowering.proofs.Nodes.{conjuncts-Column, conjuncts-Const, conjuncts-Not, conjuncts-Neg, conjuncts-IsNull, conjuncts-Case, conjuncts-Coalesce, conjuncts-Cast, conjuncts-Abs, conjuncts-Length, conjuncts-Binary}

cons_more : (k : Option (Expr × Expr)) (xs ys : List (Expr × Expr)) → cons_option k (xs ++ ys) ≡ cons_option k xs ++ ys
cons_more None xs ys = refl
cons_more (Some k) xs ys = refl

pub keys_more : (w : ℕ) (xs ys : List Expr) → keys w (xs ++ ys) ≡ keys w xs ++ keys w ys
keys_more w [] ys = refl
keys_more w (x ∷ xs) ys = ap (cons_option (key_of w x)) (keys_more w xs ys) ∙ cons_more (key_of w x) (keys w xs) (keys w ys)

cond_more : (b : Bool) (x : Expr) (xs ys : List Expr) → cond b (x ∷ xs ++ ys) (xs ++ ys) ≡ cond b (x ∷ xs) xs ++ ys
cond_more true x xs ys = refl
cond_more false x xs ys = refl

pub others_more : (w : ℕ) (xs ys : List Expr) → others w (xs ++ ys) ≡ others w xs ++ others w ys
others_more w [] ys = refl
others_more w (x ∷ xs) ys = ap (λ (es : List Expr). cond (is_none (key_of w x)) (x ∷ es) es) (others_more w xs ys) ∙ cond_more (is_none (key_of w x)) x (others w xs) (others w ys)

pub conjoined_more : (test : Option Expr) (xs ys : List Expr) → conjoined test (xs ++ ys) ≡ conjoined (conjoined test xs) ys
conjoined_more test [] ys = refl
conjoined_more test (x ∷ xs) ys = conjoined_more (Some (and_also test x)) xs ys

-- ---- the parts of a test, by what stands at its top

abbrev pub by_top : Expr → Expr-F Expr → List Expr
by_top e (Expr-F.Binary op.And a b) = conjuncts a ++ conjuncts b
by_top e _ = e ∷ []

at_operator : (o : Op) (a b : Expr) → split_at o (a, conjuncts a) (b, conjuncts b) ≡ by_top (Binary o a b) (Expr-F.Binary o a b)
at_operator op.And a b = refl
at_operator _ a b = refl

at_top : (e : Expr) (z : Expr-F Expr) → roll-Expr z ≡ e → conjuncts e ≡ by_top e z
at_top e (Expr-F.Column k) r = subst (λ (x : Expr). conjuncts x ≡ x ∷ []) (sym (rolls-Column k) ∙ r) (conjuncts-Column k)
at_top e (Expr-F.Const v k) r = subst (λ (x : Expr). conjuncts x ≡ x ∷ []) (sym (rolls-Const v k) ∙ r) (conjuncts-Const v k)
at_top e (Expr-F.Not a) r = subst (λ (x : Expr). conjuncts x ≡ x ∷ []) (sym (rolls-Not a) ∙ r) (conjuncts-Not a)
at_top e (Expr-F.Neg a) r = subst (λ (x : Expr). conjuncts x ≡ x ∷ []) (sym (rolls-Neg a) ∙ r) (conjuncts-Neg a)
at_top e (Expr-F.IsNull a) r = subst (λ (x : Expr). conjuncts x ≡ x ∷ []) (sym (rolls-IsNull a) ∙ r) (conjuncts-IsNull a)
at_top e (Expr-F.Binary o a b) r = subst (λ (x : Expr). conjuncts x ≡ by_top x (Expr-F.Binary o a b)) (sym (rolls-Binary o a b) ∙ r) (conjuncts-Binary o a b ∙ at_operator o a b)
at_top e (Expr-F.Case arms other) r = subst (λ (x : Expr). conjuncts x ≡ x ∷ []) (sym (rolls-Case arms other) ∙ r) (conjuncts-Case arms other)
at_top e (Expr-F.Coalesce parts) r = subst (λ (x : Expr). conjuncts x ≡ x ∷ []) (sym (rolls-Coalesce parts) ∙ r) (conjuncts-Coalesce parts)
at_top e (Expr-F.Cast a k) r = subst (λ (x : Expr). conjuncts x ≡ x ∷ []) (sym (rolls-Cast a k) ∙ r) (conjuncts-Cast a k)
at_top e (Expr-F.Abs a) r = subst (λ (x : Expr). conjuncts x ≡ x ∷ []) (sym (rolls-Abs a) ∙ r) (conjuncts-Abs a)
at_top e (Expr-F.Length a) r = subst (λ (x : Expr). conjuncts x ≡ x ∷ []) (sym (rolls-Length a) ∙ r) (conjuncts-Length a)

pub conjuncts_by_top : (e : Expr) → conjuncts e ≡ by_top e (out-Expr e)
conjuncts_by_top e = at_top e (out-Expr e) (roll-out-Expr e)

pub both_parts : (before : List Expr) (a b : Expr) → before ++ conjuncts (Binary op.And a b) ≡ (before ++ conjuncts a) ++ conjuncts b
both_parts before a b = ap (λ (es : List Expr). before ++ es) (conjuncts-Binary op.And a b) ∙ sym (append_assoc before (conjuncts a) (conjuncts b))

one_part : (o : Op) (a b : Expr × List Expr) → o ≢ op.And → split_at o a b ≡ Binary o a.0 b.0 ∷ []
one_part op.And a b h = absurd (h refl)
one_part _ a b h = refl

pub alone : (o : Op) (a b : Expr) → o ≢ op.And → conjuncts (Binary o a b) ≡ Binary o a b ∷ []
alone o a b h = conjuncts-Binary o a b ∙ one_part o (a, conjuncts a) (b, conjuncts b) h

pub ruleset parts = (keys_more, others_more, conjoined_more, append_assoc, append-nil)
