-- Chains, node by node.
use Rattle.std.proofs.Common.{◌≡◌, ℕ, List, [], Option, Some, None, ap, sym, ◌∙◌, subst, map}
use Rattle.dfx_value.specs.declared.kind.Kind.{Kind}
use Rattle.dfx_value.specs.declared.op.AggCall.{AggCall}
use Rattle.dfx_value.specs.declared.op.JoinKind.{JoinKind}
use Rattle.scalar_exprs.specs.declared.expr.Expr.{Expr}
use Rattle.logical_plan.specs.declared.plan.Logical.{Logical}
use Rattle.logical_plan.specs.declared.plan.Logical.TheOpen.{Logical-F}
use Rattle.logical_plan.specs.declared.plan.Logical.TheVariants.{Scan, Filter, Project, Join, Aggregate, Distinct, UnionAll, rolls-Scan, rolls-Filter, rolls-Project, rolls-Join, rolls-Aggregate, rolls-Distinct, rolls-UnionAll}
use Rattle.logical_plan.specs.declared.plan.Logical.TheFolds.{fold-roll-Logical, map-Logical, ind-Logical}
use Rattle.logical_plan.specs.declared.plan.Logical.TheViews.{roll-Logical}
use Rattle.logical_plan.specs.Items.{Item, filter_items, project_items}
use Rattle.scan_run.specs.Chains.{Scanned, scanned, node_scanned, over, node_over}

scanned_at : (q : Logical) (z : Logical-F Logical) → roll-Logical z ≡ q → scanned q ≡ node_scanned (map-Logical Logical (Option Scanned) scanned z)
unfolding scanned
scanned_at q z r = ap scanned (sym r) ∙ fold-roll-Logical (Option Scanned) node_scanned z

over_at : (xs : List Item) (q : Logical) (z : Logical-F Logical) → roll-Logical z ≡ q → over q xs ≡ node_over xs (map-Logical Logical (List Item) (λ p. over p xs) z)
unfolding over
over_at xs q z r = ap (λ p. over p xs) (sym r) ∙ fold-roll-Logical (List Item) (node_over xs) z

-- ---- what is scanned

pub scanned-Scan : (table : ℕ) (ks : List Kind) → scanned (Scan table ks) ≡ Some (record { table = table; kinds = ks })
scanned-Scan table ks = scanned_at (Scan table ks) (Logical-F.Scan table ks) (rolls-Scan table ks)

pub scanned-Filter : (input : Logical) (test : Expr) → scanned (Filter input test) ≡ scanned input
scanned-Filter input test = scanned_at (Filter input test) (Logical-F.Filter input test) (rolls-Filter input test)

pub scanned-Project : (input : Logical) (items : List Expr) → scanned (Project input items) ≡ scanned input
scanned-Project input items = scanned_at (Project input items) (Logical-F.Project input items) (rolls-Project input items)

pub scanned-Join : (kind : JoinKind) (left right : Logical) (keys : List (ℕ × ℕ)) (rest : Option Expr) → scanned (Join kind left right keys rest) ≡ None
scanned-Join kind left right keys rest = scanned_at (Join kind left right keys rest) (Logical-F.Join kind left right keys rest) (rolls-Join kind left right keys rest)

pub scanned-Aggregate : (input : Logical) (keys : List ℕ) (calls : List AggCall) → scanned (Aggregate input keys calls) ≡ None
scanned-Aggregate input keys calls = scanned_at (Aggregate input keys calls) (Logical-F.Aggregate input keys calls) (rolls-Aggregate input keys calls)

pub scanned-Distinct : (input : Logical) → scanned (Distinct input) ≡ None
scanned-Distinct input = scanned_at (Distinct input) (Logical-F.Distinct input) (rolls-Distinct input)

pub scanned-UnionAll : (inputs : List Logical) → scanned (UnionAll inputs) ≡ None
scanned-UnionAll inputs = scanned_at (UnionAll inputs) (Logical-F.UnionAll inputs) (rolls-UnionAll inputs)

pub ruleset chains = (scanned-Scan, scanned-Filter, scanned-Project, scanned-Join, scanned-Aggregate, scanned-Distinct, scanned-UnionAll)

-- ---- what is given

pub over-Scan : (table : ℕ) (ks : List Kind) (xs : List Item) → over (Scan table ks) xs ≡ xs
over-Scan table ks xs = over_at xs (Scan table ks) (Logical-F.Scan table ks) (rolls-Scan table ks)

pub over-Filter : (input : Logical) (test : Expr) (xs : List Item) → over (Filter input test) xs ≡ filter_items test (over input xs)
over-Filter input test xs = over_at xs (Filter input test) (Logical-F.Filter input test) (rolls-Filter input test)

pub over-Project : (input : Logical) (items : List Expr) (xs : List Item) → over (Project input items) xs ≡ project_items items (over input xs)
over-Project input items xs = over_at xs (Project input items) (Logical-F.Project input items) (rolls-Project input items)

pub over-Join : (kind : JoinKind) (left right : Logical) (keys : List (ℕ × ℕ)) (rest : Option Expr) (xs : List Item) → over (Join kind left right keys rest) xs ≡ []
over-Join kind left right keys rest xs = over_at xs (Join kind left right keys rest) (Logical-F.Join kind left right keys rest) (rolls-Join kind left right keys rest)

pub over-Aggregate : (input : Logical) (keys : List ℕ) (calls : List AggCall) (xs : List Item) → over (Aggregate input keys calls) xs ≡ []
over-Aggregate input keys calls xs = over_at xs (Aggregate input keys calls) (Logical-F.Aggregate input keys calls) (rolls-Aggregate input keys calls)

pub over-Distinct : (input : Logical) (xs : List Item) → over (Distinct input) xs ≡ []
over-Distinct input xs = over_at xs (Distinct input) (Logical-F.Distinct input) (rolls-Distinct input)

pub over-UnionAll : (inputs : List Logical) (xs : List Item) → over (UnionAll inputs) xs ≡ []
over-UnionAll inputs xs = over_at xs (UnionAll inputs) (Logical-F.UnionAll inputs) (rolls-UnionAll inputs)

pub ruleset overs = (over-Scan, over-Filter, over-Project, over-Join, over-Aggregate, over-Distinct, over-UnionAll)

-- ---- what holds of a body, node by node; of nodes that are in no chain without their inputs

module _ (P : Logical → Type 0)
    (scan : (table : ℕ) (ks : List Kind) → P (Scan table ks))
    (filter : (input : Logical) (test : Expr) → P input → P (Filter input test))
    (project : (input : Logical) (items : List Expr) → P input → P (Project input items))
    (join : (kind : JoinKind) (left right : Logical) (keys : List (ℕ × ℕ)) (rest : Option Expr) → P (Join kind left right keys rest))
    (aggregate : (input : Logical) (keys : List ℕ) (calls : List AggCall) → P (Aggregate input keys calls))
    (dedup : (input : Logical) → P (Distinct input))
    (union : (inputs : List Logical) → P (UnionAll inputs)) where
  abbrev Known : Type 0
  Known = (q : Logical) × P q

  step : (y : Logical-F Known) → P (roll-Logical (map-Logical Known Logical (λ k. k.0) y))
  step (Logical-F.Scan table ks) = subst P (sym (rolls-Scan table ks)) (scan table ks)
  step (Logical-F.Filter input test) = subst P (sym (rolls-Filter input.0 test)) (filter input.0 test input.1)
  step (Logical-F.Project input items) = subst P (sym (rolls-Project input.0 items)) (project input.0 items input.1)
  step (Logical-F.Join kind left right keys rest) = subst P (sym (rolls-Join kind left.0 right.0 keys rest)) (join kind left.0 right.0 keys rest)
  step (Logical-F.Aggregate input keys calls) = subst P (sym (rolls-Aggregate input.0 keys calls)) (aggregate input.0 keys calls)
  step (Logical-F.Distinct input) = subst P (sym (rolls-Distinct input.0)) (dedup input.0)
  step (Logical-F.UnionAll inputs) = subst P (sym (rolls-UnionAll (map (λ (k : Known). k.0) inputs))) (union (map (λ (k : Known). k.0) inputs))

  pub by_node : (q : Logical) → P q
  by_node = ind-Logical P (λ x y is. subst (λ z. P (roll-Logical z)) is (step y))
