-- Worked examples of the meaning, by computing.
use Rattle.std.proofs.Common.{◌≡◌, refl, ℕ, pos, [], ◌∷◌, None, Some, Ok}
use Rattle.std.specs.Prelude.{codes}
use Rattle.dfx_value.specs.Parse.{natural, int_of, units_at, dec_parts, dec_of}
use Rattle.dfx_value.specs.declared.kind.Kind.TheVariants as kind
use Rattle.dfx_value.specs.declared.value.Value.TheVariants as value
use Rattle.dfx_value.specs.declared.op.Op.TheVariants as op
use Rattle.scalar_exprs.specs.declared.expr.Expr.TheVariants as expr
use Rattle.typed_exprs.specs.Answer.{refuse}
use Rattle.typed_exprs.specs.Case.{chosen}
use Rattle.typed_exprs.specs.Literals.{literal, decimal_kind}
use Rattle.typed_exprs.specs.Scopes.{column_of}
use Rattle.typed_exprs.specs.Typed.{binary, common, coalesced, unified}
use Rattle.typed_exprs.specs.declared.refusal.Why.TheVariants as why
use Rattle.typed_exprs.specs.declared.scope.Column.{Column}
use Rattle.typed_exprs.specs.declared.typed.Typed.TheVariants as typed

-- ---- constants

-- 1.50 is DECIMAL(3,2), 0.05 is DECIMAL(2,2), .0 is DECIMAL(1,1)
pub two_places : decimal_kind (codes "1.50") ≡ kind.Dec 3 2
two_places = refl

pub no_whole : decimal_kind (codes "0.05") ≡ kind.Dec 2 2
no_whole = refl

pub zero_digits : decimal_kind (codes ".0") ≡ kind.Dec 1 1
zero_digits = refl

-- 2 ^ 63 - 1 is a whole number and 2 ^ 63 a decimal
pub greatest : literal (codes "9223372036854775807") ≡ Some (value.Int (pos 9223372036854775807), kind.Int)
unfolding natural int_of
greatest = refl

pub wider : literal (codes "9223372036854775808") ≡ Some (value.Dec (record { unscaled = pos 9223372036854775808; scale = 0 }), kind.Dec 19 0)
unfolding natural int_of units_at dec_parts dec_of
wider = refl

-- ---- names

abbrev pub here : ℕ → ℕ → Column
here alias name = record { alias = alias ∷ []; name = name ∷ []; kind = kind.Int }

-- over a.x and b.x the name x is ambiguous, b.x is the second, b.y isn't there and c.x has no table
pub twice : column_of (here 97 120 ∷ here 98 120 ∷ []) 7 None (120 ∷ []) ≡ refuse why.Ambiguous 7
twice = refl

pub second : column_of (here 97 120 ∷ here 98 120 ∷ []) 7 (Some (98 ∷ [])) (120 ∷ []) ≡ Ok 1
second = refl

pub no_column : column_of (here 97 120 ∷ here 98 120 ∷ []) 7 (Some (98 ∷ [])) (121 ∷ []) ≡ refuse why.UnknownColumn 7
no_column = refl

pub no_table : column_of (here 97 120 ∷ here 98 120 ∷ []) 7 (Some (99 ∷ [])) (120 ∷ []) ≡ refuse why.UnknownTable 7
no_table = refl

-- ---- kinds

-- NULL + NULL is a whole number, NULL AND NULL no truth; a column beside NULL gives it its kind
pub null_sum : binary 3 op.Add typed.Null typed.Null ≡ Ok (typed.Of (expr.Binary op.Add (expr.Const value.Null kind.Int) (expr.Const value.Null kind.Int)) kind.Int)
null_sum = refl

pub null_and : binary 3 op.And typed.Null typed.Null ≡ refuse why.KindMismatch 3
null_and = refl

pub null_beside : binary 3 op.Concat typed.Null (typed.Of (expr.Column 0) kind.Int) ≡ refuse why.KindMismatch 3
null_beside = refl

-- decimals have no %, and no decimal is a text
pub decimal_remainder : binary 3 op.Rem (typed.Of (expr.Column 0) (kind.Dec 9 2)) typed.Null ≡ refuse why.Unsupported 3
decimal_remainder = refl

pub text_remainder : binary 3 op.Rem (typed.Of (expr.Column 0) (kind.Dec 9 2)) (typed.Of (expr.Column 1) kind.Text) ≡ refuse why.KindMismatch 3
text_remainder = refl

pub greater_scale : unified (kind.Dec 9 2) (kind.Dec 5 4) ≡ Some (kind.Dec 38 4)
greater_scale = refl

pub no_common : common (typed.Null ∷ typed.Of (expr.Column 0) kind.Int ∷ typed.Of (expr.Column 1) kind.Text ∷ []) ≡ None
no_common = refl

-- COALESCE(NULL, NULL) is a text; a whole number beside a decimal gets a CAST, and NULL none
pub all_null : coalesced 3 (typed.Null ∷ typed.Null ∷ []) ≡ Ok (typed.Of (expr.Coalesce (expr.Const value.Null kind.Text ∷ expr.Const value.Null kind.Text ∷ [])) kind.Text)
all_null = refl

pub casts : coalesced 3 (typed.Null ∷ typed.Of (expr.Column 0) kind.Int ∷ typed.Of (expr.Column 1) (kind.Dec 38 2) ∷ [])
    ≡ Ok (typed.Of (expr.Coalesce (expr.Const value.Null (kind.Dec 38 2) ∷ expr.Cast (expr.Column 0) (kind.Dec 38 2) ∷ expr.Column 1 ∷ [])) (kind.Dec 38 2))
casts = refl

-- ---- CASE

-- a test that is no truth is refused at the test, before the results that have no kind in common
pub test_first : chosen 3 (record { place = 8; test = typed.Of (expr.Column 0) kind.Int; result = typed.Of (expr.Column 0) kind.Int } ∷ []) (typed.Of (expr.Column 1) kind.Text)
    ≡ refuse why.KindMismatch 8
test_first = refl

pub results_differ : chosen 3 (record { place = 8; test = typed.Of (expr.Column 2) kind.Bool; result = typed.Of (expr.Column 0) kind.Int } ∷ []) (typed.Of (expr.Column 1) kind.Text)
    ≡ refuse why.KindMismatch 3
results_differ = refl

-- without ELSE it is NULL of the results' kind
pub no_else : chosen 3 (record { place = 8; test = typed.Of (expr.Column 2) kind.Bool; result = typed.Of (expr.Column 0) kind.Int } ∷ []) typed.Null
    ≡ Ok (typed.Of (expr.Case ((expr.Column 2, expr.Column 0) ∷ []) (expr.Const value.Null kind.Int)) kind.Int)
no_else = refl
