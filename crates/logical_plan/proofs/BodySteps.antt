-- The items of a body, and the faults that it meets, node by node.
use Rattle.std.proofs.Common.{◌≡◌, ℕ, List, [], ◌++◌, length, map, Option, ap, sym, ◌∙◌}
use Rattle.dfx_value.specs.declared.kind.Kind.{Kind}
use Rattle.dfx_value.specs.declared.op.AggCall.{AggCall}
use Rattle.dfx_value.specs.declared.op.JoinKind.{JoinKind}
use Rattle.scalar_exprs.specs.declared.expr.Expr.{Expr}
use Rattle.logical_plan.specs.declared.plan.Logical.{Logical}
use Rattle.logical_plan.specs.declared.plan.Logical.TheOpen.{Logical-F}
use Rattle.logical_plan.specs.declared.plan.Logical.TheVariants.{Scan, Filter, Project, Join, Aggregate, Distinct, UnionAll, rolls-Scan, rolls-Filter, rolls-Project, rolls-Join, rolls-Aggregate, rolls-Distinct, rolls-UnionAll}
use Rattle.logical_plan.specs.declared.plan.Logical.TheFolds.{fold-roll-Logical, map-Logical}
use Rattle.logical_plan.specs.declared.plan.Logical.TheViews.{roll-Logical}
use Rattle.logical_plan.specs.Items.{concat, faults, filter_items, project_items}
use Rattle.logical_plan.specs.Joins.{joined}
use Rattle.logical_plan.specs.Groups.{aggregated, distinct}
use Rattle.logical_plan.specs.Body.{Part, Tables, meant_part, body, all_faults, node, scan, kinds}
use Rattle.logical_plan.proofs.SameKinds.{same_kinds}

at_level : (tables : Tables) (q : Logical) (z : Logical-F Logical) → roll-Logical z ≡ q → meant_part tables q ≡ node tables (map-Logical Logical Part (meant_part tables) z)
unfolding meant_part
at_level tables q z r = ap (meant_part tables) (sym r) ∙ fold-roll-Logical Part (node tables) z

items_at : (tables : Tables) (q : Logical) (z : Logical-F Logical) → roll-Logical z ≡ q → body tables q ≡ (node tables (map-Logical Logical Part (meant_part tables) z)).items
items_at tables q z r = ap (λ (p : Part). p.items) (at_level tables q z r)

faults_at : (tables : Tables) (q : Logical) (z : Logical-F Logical) → roll-Logical z ≡ q → all_faults tables q ≡ (node tables (map-Logical Logical Part (meant_part tables) z)).met
faults_at tables q z r = ap (λ (p : Part). p.met) (at_level tables q z r)

pub kinds_at : (tables : Tables) (q : Logical) → (meant_part tables q).kinds ≡ kinds q
unfolding kinds
kinds_at tables q = same_kinds tables [] q

-- ---- items

pub body-Scan : (tables : Tables) (table : ℕ) (ks : List Kind) → body tables (Scan table ks) ≡ scan tables table
body-Scan tables table ks = items_at tables (Scan table ks) (Logical-F.Scan table ks) (rolls-Scan table ks)

pub body-Filter : (tables : Tables) (input : Logical) (test : Expr) → body tables (Filter input test) ≡ filter_items test (body tables input)
body-Filter tables input test = items_at tables (Filter input test) (Logical-F.Filter input test) (rolls-Filter input test)

pub body-Project : (tables : Tables) (input : Logical) (items : List Expr) → body tables (Project input items) ≡ project_items items (body tables input)
body-Project tables input items = items_at tables (Project input items) (Logical-F.Project input items) (rolls-Project input items)

pub body-Join : (tables : Tables) (kind : JoinKind) (left right : Logical) (keys : List (ℕ × ℕ)) (rest : Option Expr) →
    body tables (Join kind left right keys rest) ≡ joined kind (length (kinds left)) (length (kinds right)) keys rest (body tables left) (body tables right)
body-Join tables kind left right keys rest = items_at tables (Join kind left right keys rest) (Logical-F.Join kind left right keys rest) (rolls-Join kind left right keys rest)
    ∙ ap (λ ks. joined kind (length ks) (length (meant_part tables right).kinds) keys rest (body tables left) (body tables right)) (kinds_at tables left)
    ∙ ap (λ ks. joined kind (length (kinds left)) (length ks) keys rest (body tables left) (body tables right)) (kinds_at tables right)

pub body-Aggregate : (tables : Tables) (input : Logical) (keys : List ℕ) (calls : List AggCall) →
    body tables (Aggregate input keys calls) ≡ aggregated keys calls (kinds input) (body tables input)
body-Aggregate tables input keys calls = items_at tables (Aggregate input keys calls) (Logical-F.Aggregate input keys calls) (rolls-Aggregate input keys calls)
    ∙ ap (λ ks. aggregated keys calls ks (body tables input)) (kinds_at tables input)

pub body-Distinct : (tables : Tables) (input : Logical) → body tables (Distinct input) ≡ distinct (body tables input)
body-Distinct tables input = items_at tables (Distinct input) (Logical-F.Distinct input) (rolls-Distinct input)

pub body-UnionAll : (tables : Tables) (inputs : List Logical) → body tables (UnionAll inputs) ≡ concat (map (λ (p : Part). p.items) (map (meant_part tables) inputs))
body-UnionAll tables inputs = items_at tables (UnionAll inputs) (Logical-F.UnionAll inputs) (rolls-UnionAll inputs)

pub ruleset bodies = (body-Scan, body-Filter, body-Project, body-Join, body-Aggregate, body-Distinct, body-UnionAll)

-- ---- faults

pub all_faults-Scan : (tables : Tables) (table : ℕ) (ks : List Kind) → all_faults tables (Scan table ks) ≡ faults (scan tables table) ++ []
all_faults-Scan tables table ks = faults_at tables (Scan table ks) (Logical-F.Scan table ks) (rolls-Scan table ks)

pub all_faults-Filter : (tables : Tables) (input : Logical) (test : Expr) →
    all_faults tables (Filter input test) ≡ faults (filter_items test (body tables input)) ++ all_faults tables input
all_faults-Filter tables input test = faults_at tables (Filter input test) (Logical-F.Filter input test) (rolls-Filter input test)

pub all_faults-Project : (tables : Tables) (input : Logical) (items : List Expr) →
    all_faults tables (Project input items) ≡ faults (project_items items (body tables input)) ++ all_faults tables input
all_faults-Project tables input items = faults_at tables (Project input items) (Logical-F.Project input items) (rolls-Project input items)

pub all_faults-Join : (tables : Tables) (kind : JoinKind) (left right : Logical) (keys : List (ℕ × ℕ)) (rest : Option Expr) →
    all_faults tables (Join kind left right keys rest)
    ≡ faults (joined kind (length (kinds left)) (length (kinds right)) keys rest (body tables left) (body tables right)) ++ (all_faults tables left ++ all_faults tables right)
all_faults-Join tables kind left right keys rest = faults_at tables (Join kind left right keys rest) (Logical-F.Join kind left right keys rest) (rolls-Join kind left right keys rest)
    ∙ ap (λ ks. faults (joined kind (length ks) (length (meant_part tables right).kinds) keys rest (body tables left) (body tables right)) ++ (all_faults tables left ++ all_faults tables right)) (kinds_at tables left)
    ∙ ap (λ ks. faults (joined kind (length (kinds left)) (length ks) keys rest (body tables left) (body tables right)) ++ (all_faults tables left ++ all_faults tables right)) (kinds_at tables right)

pub all_faults-Aggregate : (tables : Tables) (input : Logical) (keys : List ℕ) (calls : List AggCall) →
    all_faults tables (Aggregate input keys calls) ≡ faults (aggregated keys calls (kinds input) (body tables input)) ++ all_faults tables input
all_faults-Aggregate tables input keys calls = faults_at tables (Aggregate input keys calls) (Logical-F.Aggregate input keys calls) (rolls-Aggregate input keys calls)
    ∙ ap (λ ks. faults (aggregated keys calls ks (body tables input)) ++ all_faults tables input) (kinds_at tables input)

pub all_faults-Distinct : (tables : Tables) (input : Logical) → all_faults tables (Distinct input) ≡ faults (distinct (body tables input)) ++ all_faults tables input
all_faults-Distinct tables input = faults_at tables (Distinct input) (Logical-F.Distinct input) (rolls-Distinct input)

pub all_faults-UnionAll : (tables : Tables) (inputs : List Logical) →
    all_faults tables (UnionAll inputs) ≡ faults (concat (map (λ (p : Part). p.items) (map (meant_part tables) inputs))) ++ concat (map (λ (p : Part). p.met) (map (meant_part tables) inputs))
all_faults-UnionAll tables inputs = faults_at tables (UnionAll inputs) (Logical-F.UnionAll inputs) (rolls-UnionAll inputs)

pub ruleset faults_met = (all_faults-Scan, all_faults-Filter, all_faults-Project, all_faults-Join, all_faults-Aggregate, all_faults-Distinct, all_faults-UnionAll)
