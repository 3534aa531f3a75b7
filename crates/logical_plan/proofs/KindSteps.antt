-- The kinds of a body's columns, node by node.
use Rattle.std.proofs.Common.{◌≡◌, ℕ, List, [], ◌∷◌, ◌++◌, Option, ap, sym, ◌∙◌}
use Rattle.dfx_value.specs.declared.kind.Kind.{Kind}
use Rattle.dfx_value.specs.declared.op.AggCall.{AggCall}
use Rattle.dfx_value.specs.declared.op.JoinKind.{JoinKind}
use Rattle.scalar_exprs.specs.declared.expr.Expr.{Expr}
use Rattle.logical_plan.specs.declared.plan.Logical.{Logical}
use Rattle.logical_plan.specs.declared.plan.Logical.TheOpen.{Logical-F}
use Rattle.logical_plan.specs.declared.plan.Logical.TheVariants.{Scan, Filter, Project, Join, Aggregate, Distinct, UnionAll, rolls-Scan, rolls-Filter, rolls-Project, rolls-Join, rolls-Aggregate, rolls-Distinct, rolls-UnionAll}
use Rattle.logical_plan.specs.declared.plan.Logical.TheFolds.{fold-roll-Logical, map-Logical}
use Rattle.logical_plan.specs.declared.plan.Logical.TheViews.{roll-Logical}
use Rattle.logical_plan.specs.Body.{Part, meant_part, node, kinds, item_kinds, key_kinds, call_kinds, union_kinds}

at_level : (q : Logical) (z : Logical-F Logical) → roll-Logical z ≡ q → kinds q ≡ (node [] (map-Logical Logical Part (meant_part []) z)).kinds
unfolding kinds meant_part
at_level q z r = ap kinds (sym r) ∙ ap (λ (p : Part). p.kinds) (fold-roll-Logical Part (node []) z)

pub kinds-Scan : (table : ℕ) (ks : List Kind) → kinds (Scan table ks) ≡ ks
kinds-Scan table ks = at_level (Scan table ks) (Logical-F.Scan table ks) (rolls-Scan table ks)

pub kinds-Filter : (input : Logical) (test : Expr) → kinds (Filter input test) ≡ kinds input
unfolding kinds
kinds-Filter input test = at_level (Filter input test) (Logical-F.Filter input test) (rolls-Filter input test)

pub kinds-Project : (input : Logical) (items : List Expr) → kinds (Project input items) ≡ item_kinds (kinds input) items
unfolding kinds
kinds-Project input items = at_level (Project input items) (Logical-F.Project input items) (rolls-Project input items)

pub kinds-Join : (kind : JoinKind) (left right : Logical) (keys : List (ℕ × ℕ)) (rest : Option Expr) → kinds (Join kind left right keys rest) ≡ kinds left ++ kinds right
unfolding kinds
kinds-Join kind left right keys rest = at_level (Join kind left right keys rest) (Logical-F.Join kind left right keys rest) (rolls-Join kind left right keys rest)

pub kinds-Aggregate : (input : Logical) (keys : List ℕ) (calls : List AggCall) → kinds (Aggregate input keys calls) ≡ key_kinds (kinds input) keys ++ call_kinds (kinds input) calls
unfolding kinds
kinds-Aggregate input keys calls = at_level (Aggregate input keys calls) (Logical-F.Aggregate input keys calls) (rolls-Aggregate input keys calls)

pub kinds-Distinct : (input : Logical) → kinds (Distinct input) ≡ kinds input
unfolding kinds
kinds-Distinct input = at_level (Distinct input) (Logical-F.Distinct input) (rolls-Distinct input)

pub kinds-UnionAll : (inputs : List Logical) → kinds (UnionAll inputs) ≡ union_kinds inputs
unfolding kinds
kinds-UnionAll [] = at_level (UnionAll []) (Logical-F.UnionAll []) (rolls-UnionAll [])
kinds-UnionAll (q ∷ qs) = at_level (UnionAll (q ∷ qs)) (Logical-F.UnionAll (q ∷ qs)) (rolls-UnionAll (q ∷ qs))

pub ruleset kinds_by_node = (kinds-Scan, kinds-Filter, kinds-Project, kinds-Join, kinds-Aggregate, kinds-Distinct, kinds-UnionAll)
