-- Worked examples of the meaning, by computing.
use Rattle.std.proofs.Common.{◌≡◌, refl, ℕ, pos, List, [], ◌∷◌, None, Some, Ok, Err}
use Rattle.dfx_value.specs.Order.{value_cmp}
use Rattle.dfx_value.specs.Decimal.{units}
use Rattle.dfx_value.specs.declared.value.Value.{Value}
use Rattle.dfx_value.specs.declared.value.Value.TheVariants.{Null, Int, Dec}
use Rattle.dfx_value.specs.declared.kind.Kind.TheVariants as kind
use Rattle.dfx_value.specs.declared.fault.EvalFault.TheVariants.{Overflow, DivideByZero}
use Rattle.dfx_value.specs.declared.fault.ItemFault.TheVariants.{Evaluation}
use Rattle.dfx_value.specs.declared.op.AggCall.TheVariants as call
use Rattle.dfx_value.specs.declared.op.JoinKind.TheVariants.{Inner, Left, Right, Full}
use Rattle.dfx_value.specs.declared.op.Op.TheVariants as op
use Rattle.scalar_exprs.specs.declared.expr.Expr.{Expr}
use Rattle.scalar_exprs.specs.declared.expr.Expr.TheVariants.{Column, Const, Binary}
use Rattle.scalar_exprs.specs.Agg.{agg}
use Rattle.scalar_exprs.specs.Functions.{int_outcome as whole_number}
use Rattle.scalar_exprs.proofs.EvalLemmas.{evals}
use Rattle.logical_plan.specs.Items.{Item, filter_items, project_items}
use Rattle.logical_plan.specs.Joins.{joined}
use Rattle.logical_plan.specs.Groups.{aggregated, distinct}

abbrev pub int : ℕ → Value
int n = Int (pos n)

abbrev pub one : Value → Item
one v = Ok (v ∷ [])

abbrev pub two : Value → Value → Item
two v w = Ok (v ∷ w ∷ [])

abbrev pub zero_divided : Item
zero_divided = Err (Evaluation DivideByZero)

-- ---- joins: the left keys are 1 and NULL, the right ones 1, NULL and 2

abbrev pub lefts : List Item
lefts = one (int 1) ∷ one Null ∷ []

abbrev pub rights : List Item
rights = one (int 1) ∷ one Null ∷ one (int 2) ∷ []

pub inner_join : joined Inner 1 1 ((0, 0) ∷ []) None lefts rights ≡ two (int 1) (int 1) ∷ []
unfolding value_cmp
inner_join = refl

pub left_join : joined Left 1 1 ((0, 0) ∷ []) None lefts rights ≡ two (int 1) (int 1) ∷ two Null Null ∷ []
unfolding value_cmp
left_join = refl

pub right_join : joined Right 1 1 ((0, 0) ∷ []) None lefts rights ≡ two (int 1) (int 1) ∷ two Null Null ∷ two Null (int 2) ∷ []
unfolding value_cmp
right_join = refl

pub full_join : joined Full 1 1 ((0, 0) ∷ []) None lefts rights ≡ two (int 1) (int 1) ∷ two Null Null ∷ two Null Null ∷ two Null (int 2) ∷ []
unfolding value_cmp
full_join = refl

-- faults of both inputs stay
pub faults_stay : joined Left 1 1 ((0, 0) ∷ []) None (zero_divided ∷ one (int 1) ∷ []) (Err (Evaluation Overflow) ∷ []) ≡ zero_divided ∷ Err (Evaluation Overflow) ∷ two (int 1) Null ∷ []
faults_stay = refl

-- 1.50 and 1.500 are one key, and each side keeps its own
abbrev pub dec : ℕ → ℕ → Value
dec n s = Dec (record { unscaled = pos n; scale = s })

pub scales_join : joined Inner 1 1 ((0, 0) ∷ []) None (one (dec 150 2) ∷ []) (one (dec 1500 3) ∷ []) ≡ two (dec 150 2) (dec 1500 3) ∷ []
unfolding value_cmp units
scales_join = refl

-- a residual that faults: its fault, and no padded row; one that is false: a padded row; one on unequal keys isn't looked at
abbrev pub ratio_test : Expr
ratio_test = Binary op.Gt (Binary op.Div (Const (int 6) kind.Int) (Column 1)) (Const (int 2) kind.Int)

pub faulting_residual : joined Full 1 2 ((0, 0) ∷ []) (Some ratio_test) (one (int 0) ∷ []) (two (int 0) (int 9) ∷ [])
    ≡ zero_divided ∷ []
unfolding value_cmp
faulting_residual = simp evals

pub false_residual : joined Full 1 1 ((0, 0) ∷ []) (Some ratio_test) (one (int 3) ∷ []) (one (int 3) ∷ [])
    ≡ two (int 3) Null ∷ two Null (int 3) ∷ []
unfolding value_cmp whole_number
false_residual = simp evals

pub unequal_keys : joined Inner 1 1 ((0, 0) ∷ []) (Some ratio_test) (one (int 1) ∷ []) (one (int 0) ∷ []) ≡ []
unfolding value_cmp
unequal_keys = refl

-- ---- filters and projections

pub kept : filter_items (Binary op.Gt (Column 0) (Const (int 1) kind.Int)) (one (int 1) ∷ one Null ∷ zero_divided ∷ one (int 2) ∷ []) ≡ zero_divided ∷ one (int 2) ∷ []
unfolding value_cmp
kept = simp evals

pub ratios : project_items (Binary op.Div (Const (int 6) kind.Int) (Column 0) ∷ []) (one (int 1) ∷ one (int 0) ∷ []) ≡ one (int 6) ∷ zero_divided ∷ []
unfolding whole_number
ratios = simp evals

-- ---- groups

-- one row over no rows, also of COUNT and SUM; none with keys
pub over_no_rows : aggregated [] (call.CountAll ∷ call.Sum 0 ∷ []) (kind.Int ∷ []) [] ≡ two (int 0) Null ∷ []
unfolding agg
over_no_rows = refl

pub no_groups : aggregated (0 ∷ []) (call.CountAll ∷ []) (kind.Int ∷ []) [] ≡ []
no_groups = refl

-- the first fault alone without keys, every fault beside the groups with keys
pub one_fault : aggregated [] (call.CountAll ∷ []) (kind.Int ∷ []) (one (int 1) ∷ zero_divided ∷ Err (Evaluation Overflow) ∷ []) ≡ zero_divided ∷ []
one_fault = refl

pub faults_beside : aggregated (0 ∷ []) (call.CountAll ∷ []) (kind.Int ∷ []) (one (int 1) ∷ zero_divided ∷ one (int 1) ∷ Err (Evaluation Overflow) ∷ [])
    ≡ zero_divided ∷ Err (Evaluation Overflow) ∷ two (int 1) (int 2) ∷ []
unfolding agg value_cmp
faults_beside = refl

-- NULL keys are one group; COUNT skips NULL and COUNT(*) doesn't
pub null_group : aggregated (0 ∷ []) (call.CountAll ∷ call.Count 0 ∷ []) (kind.Int ∷ []) (one Null ∷ one (int 7) ∷ one Null ∷ [])
    ≡ Ok (Null ∷ int 2 ∷ int 0 ∷ []) ∷ Ok (int 7 ∷ int 1 ∷ int 1 ∷ []) ∷ []
unfolding agg value_cmp
null_group = refl

-- a group whose SUM overflows is one fault, and the others are rows
abbrev pub nines : Value
nines = dec 99999999999999999999999999999999999999 0

pub overflowing_group : aggregated (0 ∷ []) (call.Sum 1 ∷ []) (kind.Int ∷ kind.Dec 38 0 ∷ []) (two (int 1) nines ∷ two (int 2) (dec 5 0) ∷ two (int 1) (dec 1 0) ∷ [])
    ≡ Err (Evaluation Overflow) ∷ two (int 2) (dec 5 0) ∷ []
unfolding agg value_cmp
overflowing_group = refl

-- 1.50, 1.500, NULL, NULL are two rows
pub distinct_rows : distinct (one (dec 150 2) ∷ one Null ∷ one (dec 1500 3) ∷ zero_divided ∷ one Null ∷ []) ≡ zero_divided ∷ one (dec 150 2) ∷ one Null ∷ []
unfolding value_cmp units
distinct_rows = refl
