-- Whether a body is well-kinded, node by node; and whether an expression's constants are of their kinds.
use Rattle.std.specs.Prelude.{slice_get, nat_lt}
use Rattle.std.specs.List.{list_all}
use Rattle.std.proofs.Common.{◌≡◌, ℕ, Bool, true, ◌&&◌, Option, List, ◌++◌, map, length, ap, sym, ◌∙◌}
use Rattle.dfx_value.specs.Kinds.{is_kind, is_of}
use Rattle.dfx_value.specs.declared.kind.Kind.{Kind}
use Rattle.dfx_value.specs.declared.op.AggCall.{AggCall}
use Rattle.dfx_value.specs.declared.op.JoinKind.{JoinKind}
use Rattle.dfx_value.specs.declared.op.Op.{Op}
use Rattle.dfx_value.specs.declared.value.Value.{Value}
use Rattle.scalar_exprs.specs.declared.expr.Expr.{Expr}
use Rattle.scalar_exprs.specs.declared.expr.Expr.TheOpen.{Expr-F}
use Rattle.scalar_exprs.specs.declared.expr.Expr.TheVariants as expr
use Rattle.scalar_exprs.specs.declared.expr.Expr.TheVariants.{rolls-Column, rolls-Const, rolls-Not, rolls-Neg, rolls-IsNull, rolls-Binary, rolls-Case, rolls-Coalesce, rolls-Cast, rolls-Abs, rolls-Length}
use Rattle.scalar_exprs.specs.declared.expr.Expr.TheFolds.{fold-roll-Expr, map-Expr}
use Rattle.scalar_exprs.specs.declared.expr.Expr.TheViews.{roll-Expr}
use Rattle.scalar_exprs.specs.Kinds.{all_fit, arms_fit, node_fits, constants_fit}
use Rattle.logical_plan.specs.declared.plan.Logical.{Logical}
use Rattle.logical_plan.specs.declared.plan.Logical.TheOpen.{Logical-F}
use Rattle.logical_plan.specs.declared.plan.Logical.TheVariants.{Scan, Filter, Project, Join, Aggregate, Distinct, UnionAll, rolls-Scan, rolls-Filter, rolls-Project, rolls-Join, rolls-Aggregate, rolls-Distinct, rolls-UnionAll}
use Rattle.logical_plan.specs.declared.plan.Logical.TheFolds.{para-roll-Logical, map-Logical}
use Rattle.logical_plan.specs.declared.plan.Logical.TheViews.{roll-Logical}
use Rattle.logical_plan.specs.Body.{kinds}
use Rattle.kind_laws.specs.Kinded.{has_kind, is_test, is_rest, keys_compare, has_columns, calls_fit, is_table, are_united, kinded_node, is_well_kinded}

-- ---- bodies

abbrev pub marked : List (List Kind) → Logical → Logical × Bool
marked kss q = (q, is_well_kinded kss q)

at_level : (kss : List (List Kind)) (q : Logical) (z : Logical-F Logical) → roll-Logical z ≡ q → is_well_kinded kss q ≡ kinded_node kss (map-Logical Logical (Logical × Bool) (marked kss) z)
unfolding is_well_kinded
at_level kss q z r = ap (is_well_kinded kss) (sym r) ∙ para-roll-Logical Bool (kinded_node kss) z

pub kinded-Scan : (kss : List (List Kind)) (table : ℕ) (ks : List Kind) → is_well_kinded kss (Scan table ks) ≡ is_table (slice_get kss table) ks
kinded-Scan kss table ks = at_level kss (Scan table ks) (Logical-F.Scan table ks) (rolls-Scan table ks)

pub kinded-Filter : (kss : List (List Kind)) (input : Logical) (test : Expr) → is_well_kinded kss (Filter input test) ≡ (is_well_kinded kss input && is_test (kinds input) test)
kinded-Filter kss input test = at_level kss (Filter input test) (Logical-F.Filter input test) (rolls-Filter input test)

pub kinded-Project : (kss : List (List Kind)) (input : Logical) (items : List Expr) → is_well_kinded kss (Project input items) ≡ (is_well_kinded kss input && list_all (has_kind (kinds input)) items)
kinded-Project kss input items = at_level kss (Project input items) (Logical-F.Project input items) (rolls-Project input items)

pub kinded-Join : (kss : List (List Kind)) (kind : JoinKind) (left right : Logical) (keys : List (ℕ × ℕ)) (rest : Option Expr) → is_well_kinded kss (Join kind left right keys rest)
    ≡ (is_well_kinded kss left && (is_well_kinded kss right && (keys_compare (kinds left) (kinds right) keys && is_rest (kinds left ++ kinds right) rest)))
kinded-Join kss kind left right keys rest = at_level kss (Join kind left right keys rest) (Logical-F.Join kind left right keys rest) (rolls-Join kind left right keys rest)

pub kinded-Aggregate : (kss : List (List Kind)) (input : Logical) (keys : List ℕ) (calls : List AggCall) → is_well_kinded kss (Aggregate input keys calls)
    ≡ (is_well_kinded kss input && (has_columns (kinds input) keys && calls_fit (kinds input) calls))
kinded-Aggregate kss input keys calls = at_level kss (Aggregate input keys calls) (Logical-F.Aggregate input keys calls) (rolls-Aggregate input keys calls)

pub kinded-Distinct : (kss : List (List Kind)) (input : Logical) → is_well_kinded kss (Distinct input) ≡ (is_well_kinded kss input && nat_lt 0 (length (kinds input)))
kinded-Distinct kss input = at_level kss (Distinct input) (Logical-F.Distinct input) (rolls-Distinct input)

pub kinded-UnionAll : (kss : List (List Kind)) (inputs : List Logical) → is_well_kinded kss (UnionAll inputs) ≡ are_united (map (marked kss) inputs)
kinded-UnionAll kss inputs = at_level kss (UnionAll inputs) (Logical-F.UnionAll inputs) (rolls-UnionAll inputs)

pub ruleset kinded_by_node = (kinded-Scan, kinded-Filter, kinded-Project, kinded-Join, kinded-Aggregate, kinded-Distinct, kinded-UnionAll)

-- ---- constants

fits_level : (e : Expr) (z : Expr-F Expr) → roll-Expr z ≡ e → constants_fit e ≡ node_fits (map-Expr Expr Bool constants_fit z)
unfolding constants_fit
fits_level e z r = ap constants_fit (sym r) ∙ fold-roll-Expr Bool node_fits z

pub fit-Column : (k : ℕ) → constants_fit (expr.Column k) ≡ true
fit-Column k = fits_level (expr.Column k) (Expr-F.Column k) (rolls-Column k)

pub fit-Const : (v : Value) (k : Kind) → constants_fit (expr.Const v k) ≡ (is_kind k && is_of k v)
fit-Const v k = fits_level (expr.Const v k) (Expr-F.Const v k) (rolls-Const v k)

pub fit-Not : (a : Expr) → constants_fit (expr.Not a) ≡ constants_fit a
fit-Not a = fits_level (expr.Not a) (Expr-F.Not a) (rolls-Not a)

pub fit-Neg : (a : Expr) → constants_fit (expr.Neg a) ≡ constants_fit a
fit-Neg a = fits_level (expr.Neg a) (Expr-F.Neg a) (rolls-Neg a)

pub fit-IsNull : (a : Expr) → constants_fit (expr.IsNull a) ≡ constants_fit a
fit-IsNull a = fits_level (expr.IsNull a) (Expr-F.IsNull a) (rolls-IsNull a)

pub fit-Binary : (op : Op) (a b : Expr) → constants_fit (expr.Binary op a b) ≡ (constants_fit a && constants_fit b)
fit-Binary op a b = fits_level (expr.Binary op a b) (Expr-F.Binary op a b) (rolls-Binary op a b)

pub fit-Case : (arms : List (Expr × Expr)) (other : Expr) → constants_fit (expr.Case arms other) ≡ (arms_fit (map (λ (arm : Expr × Expr). (constants_fit arm.0, constants_fit arm.1)) arms) && constants_fit other)
fit-Case arms other = fits_level (expr.Case arms other) (Expr-F.Case arms other) (rolls-Case arms other)

pub fit-Coalesce : (parts : List Expr) → constants_fit (expr.Coalesce parts) ≡ all_fit (map constants_fit parts)
fit-Coalesce parts = fits_level (expr.Coalesce parts) (Expr-F.Coalesce parts) (rolls-Coalesce parts)

pub fit-Cast : (a : Expr) (k : Kind) → constants_fit (expr.Cast a k) ≡ constants_fit a
fit-Cast a k = fits_level (expr.Cast a k) (Expr-F.Cast a k) (rolls-Cast a k)

pub fit-Abs : (a : Expr) → constants_fit (expr.Abs a) ≡ constants_fit a
fit-Abs a = fits_level (expr.Abs a) (Expr-F.Abs a) (rolls-Abs a)

pub fit-Length : (a : Expr) → constants_fit (expr.Length a) ≡ constants_fit a
fit-Length a = fits_level (expr.Length a) (Expr-F.Length a) (rolls-Length a)

pub ruleset fits = (fit-Column, fit-Const, fit-Not, fit-Neg, fit-IsNull, fit-Binary, fit-Case, fit-Coalesce, fit-Cast, fit-Abs, fit-Length)
