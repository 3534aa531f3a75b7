-- Plans of a width whose columns are in range, and that declare orders in range, node by node.
use Rattle.std.proofs.Common.{ℕ, ◌≡◌, ◌+◌, refl, ap, ◌∙◌, cond, eqb, Option, Bool, true, false, ◌&&◌, List, [], ◌∷◌, map, length, sum}
use Rattle.std.proofs.lemmas.Bool.{eq-eqb}
use Rattle.dfx_value.specs.declared.kind.Kind.{Kind}
use Rattle.dfx_value.specs.declared.rows.SortKey.{SortKey}
use Rattle.dfx_value.specs.declared.op.JoinKind.{JoinKind}
use Rattle.dfx_value.specs.declared.op.AggCall.{AggCall}
use Rattle.scalar_exprs.specs.declared.expr.Expr.{Expr}
use Rattle.plan_props.specs.Satisfies.{partition_count}
use Rattle.plan_props.specs.declared.properties.Partitioning.{Partitioning}
use Rattle.physical_plan.specs.declared.plan.Plan.{Plan}
use Rattle.physical_plan.specs.declared.plan.Plan.TheVariants.{Scan, Filter, Project, PartialGroup, FinalGroup, HashJoin, Sort, Merge, Coalesce, Repartition, UnionAll, Limit}
use Rattle.physical_plan.specs.declared.properties.Declared.{Declared}
use Rattle.physical_plan.specs.Properties.{declared_of, props, state_width, left_keys, right_keys, first_width}
use Rattle.physical_plan.specs.Everywhere.{everywhere, all_true}
use Rattle.physical_plan.proofs.Nodes.{declared-Scan, declared-Filter, declared-Project, declared-PartialGroup, declared-FinalGroup, declared-HashJoin, declared-Sort, declared-Merge, declared-Coalesce, declared-Repartition, declared-UnionAll, declared-Limit}
use Rattle.physical_plan.proofs.Everywhere.{both_true, holds-Scan, holds-Filter, holds-Project, holds-PartialGroup, holds-FinalGroup, holds-HashJoin, holds-Sort, holds-Merge, holds-Coalesce, holds-Repartition, holds-UnionAll, holds-Limit}
use Rattle.join_lowering.specs.Keys.{columns}
use Rattle.planned_laws.specs.Ranges.{are_below, expr_columns, rest_columns, key_columns, call_columns, hash_columns, are_equal, width, in_range}
use Rattle.planned_laws.proofs.Below.{projected_below}

pub record Ranged (w : ℕ) (p : Plan) : Type 0 where
  pub wide : width p ≡ w
  pub order : are_below w (key_columns (props p).ordering) ≡ true
  pub all : everywhere in_range p ≡ true

abbrev Orders : ℕ → Declared → Type 0
Orders w d = are_below w (key_columns d.props.ordering) ≡ true

-- from what a plan declares
from_declared : (w : ℕ) (p : Plan) (d : Declared) → declared_of p ≡ d → d.width ≡ w → Orders w d → everywhere in_range p ≡ true → Ranged w p
from_declared w p d e h o a = record {
  wide = ap (λ (x : Declared). x.width) e ∙ h;
  order = ap (λ (x : Declared). are_below w (key_columns x.props.ordering)) e ∙ o;
  all = a;
}

pub ranged-Scan : (table : ℕ) (kinds : List Kind) (files partitions : ℕ) → Ranged (length kinds) (Scan table kinds files partitions)
ranged-Scan table kinds files partitions = from_declared (length kinds) (Scan table kinds files partitions) _ (declared-Scan table kinds files partitions) refl refl (holds-Scan in_range table kinds files partitions refl)

pub ranged-Filter : (w : ℕ) (p : Plan) (test : Expr) → are_below w (columns test) ≡ true → Ranged w p → Ranged w (Filter p test)
ranged-Filter w p test h r = from_declared w (Filter p test) _ (declared-Filter p test) r.wide r.order (holds-Filter in_range p test (ap (λ (x : ℕ). are_below x (columns test)) r.wide ∙ h) r.all)

pub ranged-Project : (w : ℕ) (p : Plan) (items : List Expr) → are_below w (expr_columns items) ≡ true → Ranged w p → Ranged (length items) (Project p items)
ranged-Project w p items h r = from_declared (length items) (Project p items) _ (declared-Project p items) refl (projected_below items (props p).ordering) (holds-Project in_range p items (ap (λ (x : ℕ). are_below x (expr_columns items)) r.wide ∙ h) r.all)

pub ranged-PartialGroup : (w : ℕ) (p : Plan) (keys : List ℕ) (calls : List AggCall) → are_below w keys ≡ true → are_below w (call_columns calls) ≡ true → Ranged w p → Ranged (length keys + sum (map state_width calls)) (PartialGroup p keys calls)
ranged-PartialGroup w p keys calls h i r =
    from_declared (length keys + sum (map state_width calls)) (PartialGroup p keys calls) _ (declared-PartialGroup p keys calls) refl refl
    (holds-PartialGroup in_range p keys calls (ap (λ (v : ℕ). are_below v keys && are_below v (call_columns calls)) r.wide ∙ both_true _ _ h i) r.all)

pub ranged-FinalGroup : (w : ℕ) (p : Plan) (keys : List ℕ) (calls : List AggCall) → are_below w keys ≡ true → w ≡ length keys + sum (map state_width calls) → Ranged w p → Ranged (length keys + length calls) (FinalGroup p keys calls)
ranged-FinalGroup w p keys calls h i r =
    from_declared (length keys + length calls) (FinalGroup p keys calls) _ (declared-FinalGroup p keys calls) refl refl
    (holds-FinalGroup in_range p keys calls (ap (λ (v : ℕ). are_below v keys && eqb v (length keys + sum (map state_width calls))) r.wide ∙ both_true _ _ h (eq-eqb _ _ i)) r.all)

pub ranged-HashJoin : (w v : ℕ) (kind : JoinKind) (p q : Plan) (keys : List (ℕ × ℕ)) (rest : Option Expr) → are_below w (left_keys keys) ≡ true → are_below v (right_keys keys) ≡ true → are_below (w + v) (rest_columns rest) ≡ true → Ranged w p → Ranged v q → Ranged (w + v) (HashJoin kind p q keys rest)
ranged-HashJoin w v kind p q keys rest h i j r s =
    from_declared (w + v) (HashJoin kind p q keys rest) _ (declared-HashJoin kind p q keys rest) (ap (λ (x : ℕ). x + width q) r.wide ∙ ap (λ (x : ℕ). w + x) s.wide) refl
    (holds-HashJoin in_range kind p q keys rest
    (ap (λ (x : ℕ). are_below x (left_keys keys) && are_below (width q) (right_keys keys) && are_below (x + width q) (rest_columns rest)) r.wide
    ∙ ap (λ (x : ℕ). are_below w (left_keys keys) && are_below x (right_keys keys) && are_below (w + x) (rest_columns rest)) s.wide
    ∙ both_true _ _ (both_true _ _ h i) j) r.all s.all)

pub ranged-Sort : (w : ℕ) (p : Plan) (keys : List SortKey) → are_below w (key_columns keys) ≡ true → Ranged w p → Ranged w (Sort p keys)
ranged-Sort w p keys h r = from_declared w (Sort p keys) _ (declared-Sort p keys) r.wide h (holds-Sort in_range p keys (ap (λ (x : ℕ). are_below x (key_columns keys)) r.wide ∙ h) r.all)

pub ranged-Merge : (w : ℕ) (p : Plan) (keys : List SortKey) → are_below w (key_columns keys) ≡ true → Ranged w p → Ranged w (Merge p keys)
ranged-Merge w p keys h r = from_declared w (Merge p keys) _ (declared-Merge p keys) r.wide h (holds-Merge in_range p keys (ap (λ (x : ℕ). are_below x (key_columns keys)) r.wide ∙ h) r.all)

pub ranged-Coalesce : (w : ℕ) (p : Plan) → Ranged w p → Ranged w (Coalesce p)
ranged-Coalesce w p r = from_declared w (Coalesce p) _ (declared-Coalesce p) r.wide refl (holds-Coalesce in_range p refl r.all)

pub ranged-Repartition : (w : ℕ) (p : Plan) (to : Partitioning) → are_below w (hash_columns to) ≡ true → Ranged w p → Ranged w (Repartition p to)
ranged-Repartition w p to h r =
    from_declared w (Repartition p to) _ (declared-Repartition p to) r.wide (kept (eqb (partition_count (props p).partitioning) 1))
    (holds-Repartition in_range p to (ap (λ (x : ℕ). are_below x (hash_columns to)) r.wide ∙ h) r.all)
  where
    kept : (b : Bool) → are_below w (key_columns (cond {A = List SortKey} b (props p).ordering [])) ≡ true
    kept true = r.order
    kept false = refl

pub ranged-Limit : (w : ℕ) (p : Plan) (skip : ℕ) (fetch : Option ℕ) → Ranged w p → Ranged w (Limit p skip fetch)
ranged-Limit w p skip fetch r = from_declared w (Limit p skip fetch) _ (declared-Limit p skip fetch) r.wide r.order (holds-Limit in_range p skip fetch refl r.all)

-- ---- unions

abbrev pub AllRanged : List ℕ → List Plan → Type 0
AllRanged [] [] = Unit {0}
AllRanged (w ∷ ws) (p ∷ ps) = Ranged w p × AllRanged ws ps
AllRanged _ _ = ⊥

abbrev pub first_of : List ℕ → ℕ
first_of [] = 0
first_of (w ∷ ws) = w

widths_of : (ws : List ℕ) (ps : List Plan) → AllRanged ws ps → map width ps ≡ ws
widths_of [] [] r = refl
widths_of (w ∷ ws) (p ∷ ps) r = ap (λ (v : ℕ). v ∷ map width ps) r.0.wide ∙ ap (λ (vs : List ℕ). w ∷ vs) (widths_of ws ps r.1)
widths_of [] (p ∷ ps) r = absurd r
widths_of (w ∷ ws) [] r = absurd r

first_ranged : (ws : List ℕ) (ps : List Plan) → AllRanged ws ps → first_width (map declared_of ps) ≡ first_of ws
first_ranged [] [] r = refl
first_ranged (w ∷ ws) (p ∷ ps) r = r.0.wide
first_ranged [] (p ∷ ps) r = absurd r
first_ranged (w ∷ ws) [] r = absurd r

each_ranged : (ws : List ℕ) (ps : List Plan) → AllRanged ws ps → all_true (map (everywhere in_range) ps) ≡ true
each_ranged [] [] r = refl
each_ranged (w ∷ ws) (p ∷ ps) r = both_true _ _ r.0.all (each_ranged ws ps r.1)
each_ranged [] (p ∷ ps) r = absurd r
each_ranged (w ∷ ws) [] r = absurd r

pub ranged-UnionAll : (ws : List ℕ) (ps : List Plan) → are_equal ws ≡ true → AllRanged ws ps → Ranged (first_of ws) (UnionAll ps)
ranged-UnionAll ws ps h r =
    from_declared (first_of ws) (UnionAll ps) _ (declared-UnionAll ps) (first_ranged ws ps r) refl
    (holds-UnionAll in_range ps (ap are_equal (widths_of ws ps r) ∙ h) (each_ranged ws ps r))
