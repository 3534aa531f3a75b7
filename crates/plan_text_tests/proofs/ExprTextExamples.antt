-- Worked examples of the texts of expressions, by computing.
use Rattle.std.specs.Prelude.{ℕ, ◌++◌, ℤ, pos, neg_ℤ, true, false, codes, List, [], ◌∷◌}
use Rattle.std.proofs.Common.{◌≡◌}
use Rattle.std.specs.Fmt.{digits}
use Rattle.dfx_value.specs.Decimal.{at_scale}
use Rattle.dfx_value.specs.Print.{decimal_text}
use Rattle.dfx_value.specs.declared.kind.Kind.TheVariants as kind
use Rattle.dfx_value.specs.declared.op.Op.TheVariants as op
use Rattle.dfx_value.specs.declared.value.Value.TheVariants as value
use Rattle.scalar_exprs.specs.declared.expr.Expr.{Expr}
use Rattle.scalar_exprs.specs.declared.expr.Expr.TheVariants.{Column, Const, Not, Neg, IsNull, Binary, Case, Coalesce, Cast, Abs, Length}
use Rattle.plan_text.specs.ExprText.{expr_text}
use Rattle.plan_text.proofs.ExprSteps.{expr_nodes}

abbrev pub int : ℤ → Expr
int n = Const (value.Int n) kind.Int

abbrev pub text : List ℕ → Expr
text t = Const (value.Text t) kind.Text

-- ---- columns and constants

column-1 : expr_text (Column 0) ≡ codes "#0"
unfolding decimal_text digits
column-1 = simp expr_nodes

column-2 : expr_text (Column 1) ≡ codes "#1"
unfolding decimal_text digits
column-2 = simp expr_nodes

column-3 : expr_text (Column 10) ≡ codes "#10"
unfolding decimal_text digits
column-3 = simp expr_nodes

column-4 : expr_text (Column 4294967295) ≡ codes "#4294967295"
unfolding decimal_text digits
column-4 = simp expr_nodes

whole-1 : expr_text (int (pos 0)) ≡ codes "0"
unfolding decimal_text digits
whole-1 = simp expr_nodes

whole-2 : expr_text (int (pos 7)) ≡ codes "7"
unfolding decimal_text digits
whole-2 = simp expr_nodes

whole-3 : expr_text (int (neg_ℤ (pos 1))) ≡ codes "-1"
unfolding decimal_text digits
whole-3 = simp expr_nodes

whole-4 : expr_text (int (pos 9223372036854775807)) ≡ codes "9223372036854775807"
unfolding decimal_text digits
whole-4 = simp expr_nodes

whole-5 : expr_text (int (neg_ℤ (pos 9223372036854775808))) ≡ codes "-9223372036854775808"
unfolding decimal_text digits
whole-5 = simp expr_nodes

decimal-1 : expr_text (Const (value.Dec (at_scale (pos 1250) 2)) (kind.Dec 38 2)) ≡ codes "12.50"
unfolding decimal_text digits
decimal-1 = simp expr_nodes

decimal-2 : expr_text (Const (value.Dec (at_scale (neg_ℤ (pos 50)) 2)) (kind.Dec 38 2)) ≡ codes "-0.50"
unfolding decimal_text digits
decimal-2 = simp expr_nodes

decimal-3 : expr_text (Const (value.Dec (at_scale (pos 0) 0)) (kind.Dec 38 0)) ≡ codes "0"
unfolding decimal_text digits
decimal-3 = simp expr_nodes

decimal-4 : expr_text (Const (value.Dec (at_scale (neg_ℤ (pos 5)) 3)) (kind.Dec 38 3)) ≡ codes "-0.005"
unfolding decimal_text digits
decimal-4 = simp expr_nodes

decimal-5 : expr_text (Const (value.Dec (at_scale (pos 99999999999999999999999999999999999999) 38)) (kind.Dec 38 38)) ≡ codes "0.99999999999999999999999999999999999999"
unfolding decimal_text digits
decimal-5 = simp expr_nodes

truth-1 : expr_text (Const (value.Bool true) kind.Bool) ≡ codes "true"
unfolding decimal_text digits
truth-1 = simp expr_nodes

truth-2 : expr_text (Const (value.Bool false) kind.Bool) ≡ codes "false"
unfolding decimal_text digits
truth-2 = simp expr_nodes

null-1 : expr_text (Const value.Null kind.Bool) ≡ codes "NULL"
unfolding decimal_text digits
null-1 = simp expr_nodes

null-2 : expr_text (Const value.Null kind.Int) ≡ codes "NULL"
unfolding decimal_text digits
null-2 = simp expr_nodes

null-3 : expr_text (Const value.Null kind.Text) ≡ codes "NULL"
unfolding decimal_text digits
null-3 = simp expr_nodes

text-1 : expr_text (text []) ≡ codes "''"
unfolding decimal_text digits
text-1 = simp expr_nodes

text-2 : expr_text (text (codes "abc")) ≡ codes "'abc'"
unfolding decimal_text digits
text-2 = simp expr_nodes

text-3 : expr_text (text (codes "it's")) ≡ codes "'it''s'"
unfolding decimal_text digits
text-3 = simp expr_nodes

text-4 : expr_text (text (codes "'")) ≡ codes "''''"
unfolding decimal_text digits
text-4 = simp expr_nodes

text-5 : expr_text (text (codes "''")) ≡ codes "''''''"
unfolding decimal_text digits
text-5 = simp expr_nodes

text-6 : expr_text (text (codes "'a'")) ≡ codes "'''a'''"
unfolding decimal_text digits
text-6 = simp expr_nodes

text-7 : expr_text (text (codes "NULL")) ≡ codes "'NULL'"
unfolding decimal_text digits
text-7 = simp expr_nodes

text-8 : expr_text (text (codes "\"quoted\"")) ≡ codes "'\"quoted\"'"
unfolding decimal_text digits
text-8 = simp expr_nodes

text-9 : expr_text (text (codes "two\nlines")) ≡ codes "'two\nlines'"
unfolding decimal_text digits
text-9 = simp expr_nodes

text-10 : expr_text (text (195 ∷ 169 ∷ codes "'" ++ 226 ∷ 130 ∷ 172 ∷ codes "'" ++ 240 ∷ 157 ∷ 132 ∷ 158 ∷ [])) ≡ codes "'" ++ 195 ∷ 169 ∷ codes "''" ++ 226 ∷ 130 ∷ 172 ∷ codes "''" ++ 240 ∷ 157 ∷ 132 ∷ 158 ∷ codes "'"
unfolding decimal_text digits
text-10 = simp expr_nodes

-- ---- operators and calls

op-add : expr_text (Binary op.Add (Column 0) (int (neg_ℤ (pos 3)))) ≡ codes "(#0 + -3)"
unfolding decimal_text digits
op-add = simp expr_nodes

op-sub : expr_text (Binary op.Sub (Column 0) (int (neg_ℤ (pos 3)))) ≡ codes "(#0 - -3)"
unfolding decimal_text digits
op-sub = simp expr_nodes

op-mul : expr_text (Binary op.Mul (Column 0) (int (neg_ℤ (pos 3)))) ≡ codes "(#0 * -3)"
unfolding decimal_text digits
op-mul = simp expr_nodes

op-div : expr_text (Binary op.Div (Column 0) (int (neg_ℤ (pos 3)))) ≡ codes "(#0 / -3)"
unfolding decimal_text digits
op-div = simp expr_nodes

op-rem : expr_text (Binary op.Rem (Column 0) (int (neg_ℤ (pos 3)))) ≡ codes "(#0 % -3)"
unfolding decimal_text digits
op-rem = simp expr_nodes

op-concat : expr_text (Binary op.Concat (Column 0) (int (neg_ℤ (pos 3)))) ≡ codes "(#0 || -3)"
unfolding decimal_text digits
op-concat = simp expr_nodes

op-eq : expr_text (Binary op.Eq (Column 0) (int (neg_ℤ (pos 3)))) ≡ codes "(#0 = -3)"
unfolding decimal_text digits
op-eq = simp expr_nodes

op-ne : expr_text (Binary op.Ne (Column 0) (int (neg_ℤ (pos 3)))) ≡ codes "(#0 <> -3)"
unfolding decimal_text digits
op-ne = simp expr_nodes

op-lt : expr_text (Binary op.Lt (Column 0) (int (neg_ℤ (pos 3)))) ≡ codes "(#0 < -3)"
unfolding decimal_text digits
op-lt = simp expr_nodes

op-le : expr_text (Binary op.Le (Column 0) (int (neg_ℤ (pos 3)))) ≡ codes "(#0 <= -3)"
unfolding decimal_text digits
op-le = simp expr_nodes

op-gt : expr_text (Binary op.Gt (Column 0) (int (neg_ℤ (pos 3)))) ≡ codes "(#0 > -3)"
unfolding decimal_text digits
op-gt = simp expr_nodes

op-ge : expr_text (Binary op.Ge (Column 0) (int (neg_ℤ (pos 3)))) ≡ codes "(#0 >= -3)"
unfolding decimal_text digits
op-ge = simp expr_nodes

op-and : expr_text (Binary op.And (Column 0) (int (neg_ℤ (pos 3)))) ≡ codes "(#0 AND -3)"
unfolding decimal_text digits
op-and = simp expr_nodes

op-or : expr_text (Binary op.Or (Column 0) (int (neg_ℤ (pos 3)))) ≡ codes "(#0 OR -3)"
unfolding decimal_text digits
op-or = simp expr_nodes

call-not : expr_text (Not (Column 0)) ≡ codes "NOT(#0)"
unfolding decimal_text digits
call-not = simp expr_nodes

call-neg : expr_text (Neg (Column 1)) ≡ codes "NEG(#1)"
unfolding decimal_text digits
call-neg = simp expr_nodes

call-is_null : expr_text (IsNull (Column 2)) ≡ codes "ISNULL(#2)"
unfolding decimal_text digits
call-is_null = simp expr_nodes

call-abs : expr_text (Abs (int (neg_ℤ (pos 4)))) ≡ codes "ABS(-4)"
unfolding decimal_text digits
call-abs = simp expr_nodes

call-length : expr_text (Length (text (195 ∷ 169 ∷ []))) ≡ codes "LENGTH('" ++ 195 ∷ 169 ∷ codes "')"
unfolding decimal_text digits
call-length = simp expr_nodes

cast-to_int : expr_text (Cast (Column 0) kind.Int) ≡ codes "CAST(#0 AS BIGINT)"
unfolding decimal_text digits
cast-to_int = simp expr_nodes

cast-to_text : expr_text (Cast (Column 0) kind.Text) ≡ codes "CAST(#0 AS VARCHAR)"
unfolding decimal_text digits
cast-to_text = simp expr_nodes

cast-to_truth : expr_text (Cast (Column 0) kind.Bool) ≡ codes "CAST(#0 AS BOOLEAN)"
unfolding decimal_text digits
cast-to_truth = simp expr_nodes

cast-to_decimal_1 : expr_text (Cast (Column 0) (kind.Dec 38 0)) ≡ codes "CAST(#0 AS DECIMAL(38,0))"
unfolding decimal_text digits
cast-to_decimal_1 = simp expr_nodes

cast-to_decimal_2 : expr_text (Cast (Column 0) (kind.Dec 9 2)) ≡ codes "CAST(#0 AS DECIMAL(9,2))"
unfolding decimal_text digits
cast-to_decimal_2 = simp expr_nodes

coalesce-0 : expr_text (Coalesce []) ≡ codes "COALESCE()"
unfolding decimal_text digits
coalesce-0 = simp expr_nodes

coalesce-1 : expr_text (Coalesce (Column 0 ∷ [])) ≡ codes "COALESCE(#0)"
unfolding decimal_text digits
coalesce-1 = simp expr_nodes

coalesce-2 : expr_text (Coalesce (Column 0 ∷ Column 1 ∷ [])) ≡ codes "COALESCE(#0, #1)"
unfolding decimal_text digits
coalesce-2 = simp expr_nodes

coalesce-4 : expr_text (Coalesce (Column 0 ∷ Column 1 ∷ Column 2 ∷ Column 3 ∷ [])) ≡ codes "COALESCE(#0, #1, #2, #3)"
unfolding decimal_text digits
coalesce-4 = simp expr_nodes

case-0 : expr_text (Case [] (Const value.Null kind.Int)) ≡ codes "CASE(ELSE NULL)"
unfolding decimal_text digits
case-0 = simp expr_nodes

case-1 : expr_text (Case ((Column 0, int (pos 0)) ∷ []) (Const value.Null kind.Int)) ≡ codes "CASE(#0: 0, ELSE NULL)"
unfolding decimal_text digits
case-1 = simp expr_nodes

case-3 : expr_text (Case ((Column 0, int (pos 0)) ∷ (Column 1, int (pos 10)) ∷ (Column 2, int (pos 20)) ∷ []) (Const value.Null kind.Int)) ≡ codes "CASE(#0: 0, #1: 10, #2: 20, ELSE NULL)"
unfolding decimal_text digits
case-3 = simp expr_nodes

-- ---- one in the other

conjunction : expr_text (Binary op.And (Binary op.Eq (Column 0) (int (pos 1))) (Not (IsNull (Column 1)))) ≡ codes "((#0 = 1) AND NOT(ISNULL(#1)))"
unfolding decimal_text digits
conjunction = simp expr_nodes

nested : expr_text (Cast (Neg (Binary op.Add (Case ((Column 0, int (pos 0)) ∷ []) (Const value.Null kind.Int)) (Coalesce (Column 0 ∷ Column 1 ∷ [])))) kind.Text) ≡ codes "CAST(NEG((CASE(#0: 0, ELSE NULL) + COALESCE(#0, #1))) AS VARCHAR)"
unfolding decimal_text digits
nested = simp expr_nodes
