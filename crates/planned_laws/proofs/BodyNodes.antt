-- A body's test and its width, node by node.
use Rattle.std.proofs.Common.{ℕ, ◌≡◌, ◌+◌, refl, sym, ap, ◌∙◌, Option, Bool, true, ◌&&◌, List, [], ◌∷◌, map, length, length-append}
use Rattle.std.proofs.lemmas.List.{length-map}
use Rattle.dfx_value.specs.declared.kind.Kind.{Kind}
use Rattle.dfx_value.specs.declared.op.JoinKind.{JoinKind}
use Rattle.dfx_value.specs.declared.op.AggCall.{AggCall}
use Rattle.scalar_exprs.specs.declared.expr.Expr.{Expr}
use Rattle.logical_plan.specs.declared.plan.Logical.{Logical}
use Rattle.logical_plan.specs.declared.plan.Logical.TheOpen.{Logical-F}
use Rattle.logical_plan.specs.declared.plan.Logical.TheViews.{roll-Logical}
use Rattle.logical_plan.specs.declared.plan.Logical.TheFolds.{map-Logical, para-roll-Logical}
use Rattle.logical_plan.specs.declared.plan.Logical.TheVariants.{Scan, Filter, Project, Join, Aggregate, Distinct, UnionAll, rolls-Scan, rolls-Filter, rolls-Project, rolls-Join, rolls-Aggregate, rolls-Distinct, rolls-UnionAll}
use Rattle.logical_plan.specs.Body.{kinds, key_kinds, call_kinds, union_kinds}
use Rattle.logical_plan.proofs.KindSteps.{kinds-Scan, kinds-Filter, kinds-Project, kinds-Join, kinds-Aggregate, kinds-Distinct, kinds-UnionAll}
use Rattle.physical_plan.specs.Properties.{left_keys, right_keys}
use Rattle.physical_plan.specs.Everywhere.{all_true}
use Rattle.physical_plan.proofs.Everywhere.{both_true, and_parts}
use Rattle.join_lowering.specs.Keys.{columns}
use Rattle.planned_laws.specs.Ranges.{are_below, are_equal, call_columns, expr_columns, rest_columns}
use Rattle.planned_laws.specs.Queries.{body_width, here_and_below, body_in_range}
use Rattle.planned_laws.proofs.Nodes.{first_of}
use Rattle.planned_laws.proofs.Orders.{join_parts}

at_level : (q : Logical) (z : Logical-F Logical) → roll-Logical z ≡ q → body_in_range q ≡ here_and_below (map-Logical Logical (Logical × Bool) (λ x. (x, body_in_range x)) z)
unfolding body_in_range
at_level q z r = ap body_in_range (sym r) ∙ para-roll-Logical Bool here_and_below z

-- ---- nodes whose columns need nothing

one : (b : Bool) → b && true ≡ true → b ≡ true
one b h = (and_parts b true h).0

pub holds-Scan : (table : ℕ) (ks : List Kind) → body_in_range (Scan table ks) ≡ true
holds-Scan table ks = at_level (Scan table ks) (Logical-F.Scan table ks) (rolls-Scan table ks)

whole-Filter : (input : Logical) (test : Expr) → body_in_range (Filter input test) ≡ are_below (body_width input) (columns test) && (body_in_range input && true)
whole-Filter input test = at_level (Filter input test) (Logical-F.Filter input test) (rolls-Filter input test)

pub holds-Filter : (input : Logical) (test : Expr) → are_below (body_width input) (columns test) ≡ true → body_in_range input ≡ true → body_in_range (Filter input test) ≡ true
holds-Filter input test h i = whole-Filter input test ∙ both_true _ _ h (both_true _ _ i refl)

pub parts-Filter : (input : Logical) (test : Expr) → body_in_range (Filter input test) ≡ true → (are_below (body_width input) (columns test) ≡ true) × (body_in_range input ≡ true)
parts-Filter input test h = let a = and_parts (are_below (body_width input) (columns test)) (body_in_range input && true) (sym (whole-Filter input test) ∙ h) in (a.0, one (body_in_range input) a.1)

whole-Project : (input : Logical) (items : List Expr) → body_in_range (Project input items) ≡ are_below (body_width input) (expr_columns items) && (body_in_range input && true)
whole-Project input items = at_level (Project input items) (Logical-F.Project input items) (rolls-Project input items)

pub holds-Project : (input : Logical) (items : List Expr) → are_below (body_width input) (expr_columns items) ≡ true → body_in_range input ≡ true → body_in_range (Project input items) ≡ true
holds-Project input items h i = whole-Project input items ∙ both_true _ _ h (both_true _ _ i refl)

pub parts-Project : (input : Logical) (items : List Expr) → body_in_range (Project input items) ≡ true → (are_below (body_width input) (expr_columns items) ≡ true) × (body_in_range input ≡ true)
parts-Project input items h = let a = and_parts (are_below (body_width input) (expr_columns items)) (body_in_range input && true) (sym (whole-Project input items) ∙ h) in (a.0, one (body_in_range input) a.1)

whole-Distinct : (input : Logical) → body_in_range (Distinct input) ≡ body_in_range input && true
whole-Distinct input = at_level (Distinct input) (Logical-F.Distinct input) (rolls-Distinct input)

pub holds-Distinct : (input : Logical) → body_in_range input ≡ true → body_in_range (Distinct input) ≡ true
holds-Distinct input h = whole-Distinct input ∙ both_true _ _ h refl

pub parts-Distinct : (input : Logical) → body_in_range (Distinct input) ≡ true → body_in_range input ≡ true
parts-Distinct input h = one (body_in_range input) (sym (whole-Distinct input) ∙ h)

-- ---- groups and joins

abbrev grouping : Logical → List ℕ → List AggCall → Bool
grouping input keys calls = are_below (body_width input) keys && are_below (body_width input) (call_columns calls)

whole-Aggregate : (input : Logical) (keys : List ℕ) (calls : List AggCall) → body_in_range (Aggregate input keys calls) ≡ grouping input keys calls && (body_in_range input && true)
whole-Aggregate input keys calls = at_level (Aggregate input keys calls) (Logical-F.Aggregate input keys calls) (rolls-Aggregate input keys calls)

pub holds-Aggregate : (input : Logical) (keys : List ℕ) (calls : List AggCall) → are_below (body_width input) keys ≡ true → are_below (body_width input) (call_columns calls) ≡ true → body_in_range input ≡ true → body_in_range (Aggregate input keys calls) ≡ true
holds-Aggregate input keys calls h i j = whole-Aggregate input keys calls ∙ both_true _ _ (both_true _ _ h i) (both_true _ _ j refl)

pub parts-Aggregate : (input : Logical) (keys : List ℕ) (calls : List AggCall) → body_in_range (Aggregate input keys calls) ≡ true → (are_below (body_width input) keys ≡ true) × (are_below (body_width input) (call_columns calls) ≡ true) × (body_in_range input ≡ true)
parts-Aggregate input keys calls h =
    let a = and_parts (grouping input keys calls) (body_in_range input && true) (sym (whole-Aggregate input keys calls) ∙ h) in
    let b = and_parts (are_below (body_width input) keys) (are_below (body_width input) (call_columns calls)) a.0 in
    (b.0, b.1, one (body_in_range input) a.1)

abbrev keyed : Logical → Logical → List (ℕ × ℕ) → Option Expr → Bool
keyed left right keys rest =
    are_below (body_width left) (left_keys keys) && are_below (body_width right) (right_keys keys) && are_below (body_width left + body_width right) (rest_columns rest)

whole-Join : (kind : JoinKind) (left right : Logical) (keys : List (ℕ × ℕ)) (rest : Option Expr) → body_in_range (Join kind left right keys rest) ≡ keyed left right keys rest && (body_in_range left && (body_in_range right && true))
whole-Join kind left right keys rest = at_level (Join kind left right keys rest) (Logical-F.Join kind left right keys rest) (rolls-Join kind left right keys rest)

pub holds-Join : (kind : JoinKind) (left right : Logical) (keys : List (ℕ × ℕ)) (rest : Option Expr) → are_below (body_width left) (left_keys keys) ≡ true → are_below (body_width right) (right_keys keys) ≡ true → are_below (body_width left + body_width right) (rest_columns rest) ≡ true → body_in_range left ≡ true → body_in_range right ≡ true → body_in_range (Join kind left right keys rest) ≡ true
holds-Join kind left right keys rest h i r j k = whole-Join kind left right keys rest ∙ both_true _ _ (both_true _ _ (both_true _ _ h i) r) (both_true _ _ j (both_true _ _ k refl))

pub record JoinParts (left right : Logical) (keys : List (ℕ × ℕ)) (rest : Option Expr) : Type 0 where
  pub left_below : are_below (body_width left) (left_keys keys) ≡ true
  pub right_below : are_below (body_width right) (right_keys keys) ≡ true
  pub rest_below : are_below (body_width left + body_width right) (rest_columns rest) ≡ true
  pub left_range : body_in_range left ≡ true
  pub right_range : body_in_range right ≡ true

pub parts-Join : (kind : JoinKind) (left right : Logical) (keys : List (ℕ × ℕ)) (rest : Option Expr) → body_in_range (Join kind left right keys rest) ≡ true → JoinParts left right keys rest
parts-Join kind left right keys rest h =
    let a = and_parts (keyed left right keys rest) (body_in_range left && (body_in_range right && true)) (sym (whole-Join kind left right keys rest) ∙ h) in
    let b = join_parts (body_width left) (body_width right) (left_keys keys) (right_keys keys) (rest_columns rest) a.0 in
    let c = and_parts (body_in_range left) (body_in_range right && true) a.1 in
    record { left_below = b.0; right_below = b.1; rest_below = b.2; left_range = c.0; right_range = one (body_in_range right) c.1 }

-- ---- unions

pairs : (ls : List Logical) → all_true (map (λ (l : Logical × Bool). l.1) (map (λ (x : Logical). (x, body_in_range x)) ls)) ≡ all_true (map body_in_range ls)
pairs [] = refl
pairs (l ∷ ls) = ap (λ (b : Bool). body_in_range l && b) (pairs ls)

firsts : (ls : List Logical) → map (λ (l : Logical × Bool). l.0) (map (λ (x : Logical). (x, body_in_range x)) ls) ≡ ls
firsts [] = refl
firsts (l ∷ ls) = ap (λ (ms : List Logical). l ∷ ms) (firsts ls)

whole-UnionAll : (inputs : List Logical) → body_in_range (UnionAll inputs) ≡ are_equal (map body_width inputs) && all_true (map body_in_range inputs)
whole-UnionAll inputs =
    at_level (UnionAll inputs) (Logical-F.UnionAll inputs) (rolls-UnionAll inputs)
    ∙ ap (λ (b : Bool). are_equal (map body_width (map (λ (l : Logical × Bool). l.0) (map (λ (x : Logical). (x, body_in_range x)) inputs))) && b) (pairs inputs)
    ∙ ap (λ (ls : List Logical). are_equal (map body_width ls) && all_true (map body_in_range inputs)) (firsts inputs)

pub holds-UnionAll : (inputs : List Logical) → are_equal (map body_width inputs) ≡ true → all_true (map body_in_range inputs) ≡ true → body_in_range (UnionAll inputs) ≡ true
holds-UnionAll inputs h i = whole-UnionAll inputs ∙ both_true _ _ h i

pub parts-UnionAll : (inputs : List Logical) → body_in_range (UnionAll inputs) ≡ true → (are_equal (map body_width inputs) ≡ true) × (all_true (map body_in_range inputs) ≡ true)
parts-UnionAll inputs h = and_parts (are_equal (map body_width inputs)) (all_true (map body_in_range inputs)) (sym (whole-UnionAll inputs) ∙ h)

-- ---- widths

abbrev counted : List Kind → ℕ
counted ks = length ks

pub width-Scan : (table : ℕ) (ks : List Kind) → body_width (Scan table ks) ≡ length ks
width-Scan table ks = ap counted (kinds-Scan table ks)

pub width-Filter : (input : Logical) (test : Expr) → body_width (Filter input test) ≡ body_width input
width-Filter input test = ap counted (kinds-Filter input test)

pub width-Project : (input : Logical) (items : List Expr) → body_width (Project input items) ≡ length items
width-Project input items = ap counted (kinds-Project input items) ∙ length-map items _

pub width-Join : (kind : JoinKind) (left right : Logical) (keys : List (ℕ × ℕ)) (rest : Option Expr) → body_width (Join kind left right keys rest) ≡ body_width left + body_width right
width-Join kind left right keys rest = ap counted (kinds-Join kind left right keys rest) ∙ length-append (kinds left) (kinds right)

pub width-Aggregate : (input : Logical) (keys : List ℕ) (calls : List AggCall) → body_width (Aggregate input keys calls) ≡ length keys + length calls
width-Aggregate input keys calls =
    ap counted (kinds-Aggregate input keys calls) ∙ length-append (key_kinds (kinds input) keys) (call_kinds (kinds input) calls)
    ∙ ap (λ (v : ℕ). v + length (call_kinds (kinds input) calls)) (length-map keys _) ∙ ap (λ (v : ℕ). length keys + v) (length-map calls _)

pub width-Distinct : (input : Logical) → body_width (Distinct input) ≡ body_width input
width-Distinct input = ap counted (kinds-Distinct input)

union_length : (ls : List Logical) → length (union_kinds ls) ≡ first_of (map body_width ls)
union_length [] = refl
union_length (l ∷ ls) = refl

pub width-UnionAll : (inputs : List Logical) → body_width (UnionAll inputs) ≡ first_of (map body_width inputs)
width-UnionAll inputs = ap counted (kinds-UnionAll inputs) ∙ union_length inputs
