-- How many partitions each node has.
use Rattle.std.proofs.Common.{ℕ, ◌≡◌, ◌≢◌, ◌⊎◌, inl, inr, refl, sym, ap, ◌∙◌, eqb, cond, Option, Some, None, Bool, true, false, List, [], ◌∷◌, map, sum}
use Rattle.std.proofs.lemmas.Bool.Decides.{eqb_tells}
use Rattle.dfx_value.specs.declared.kind.Kind.{Kind}
use Rattle.dfx_value.specs.declared.rows.SortKey.{SortKey}
use Rattle.scalar_exprs.specs.declared.expr.Expr.{Expr}
use Rattle.dfx_value.specs.declared.op.JoinKind.{JoinKind}
use Rattle.dfx_value.specs.declared.op.JoinKind.TheVariants as joins
use Rattle.dfx_value.specs.declared.op.AggCall.{AggCall}
use Rattle.plan_props.specs.declared.properties.Partitioning.{Partitioning}
use Rattle.plan_props.specs.declared.properties.Partitioning.TheVariants as parting
use Rattle.plan_props.specs.Satisfies.{partition_count}
use Rattle.physical_plan.specs.declared.properties.Declared.{Declared}
use Rattle.physical_plan.specs.declared.plan.Plan.{Plan}
use Rattle.physical_plan.specs.declared.plan.Plan.TheVariants.{Scan, Filter, Project, PartialGroup, FinalGroup, HashJoin, Sort, Merge, Coalesce, Repartition, UnionAll, Limit}
use Rattle.physical_plan.specs.Properties.{Renaming, or_single, all_renamed, hashed_or_unknown, partitioning_renamed, join_partitioning, declared_partitions, counts, declared_of, partitions, place_in, item_columns, kept_columns}
use Rattle.physical_plan.proofs.Nodes.{declared-Scan, declared-Filter, declared-Project, declared-PartialGroup, declared-FinalGroup, declared-HashJoin, declared-Sort, declared-Merge, declared-Coalesce, declared-Repartition, declared-UnionAll, declared-Limit}

single_count : (p : Partitioning) → partition_count (or_single p) ≡ partition_count p
single_count p = go (eqb_tells (partition_count p) 1)
  where
    go : ((eqb (partition_count p) 1 ≡ true) × (partition_count p ≡ 1)) ⊎ ((eqb (partition_count p) 1 ≡ false) × (partition_count p ≢ 1)) → partition_count (cond (eqb (partition_count p) 1) parting.Single p) ≡ partition_count p
    go (inl w) = ap (λ (b : Bool). partition_count (cond b parting.Single p)) w.0 ∙ sym w.1
    go (inr w) = ap (λ (b : Bool). partition_count (cond b parting.Single p)) w.0

hashed_count : (o : Option (List ℕ)) (n : ℕ) → partition_count (hashed_or_unknown o n) ≡ n
hashed_count None n = refl
hashed_count (Some ds) n = refl

renamed_count : (f : Renaming) (p : Partitioning) → partition_count (partitioning_renamed f p) ≡ partition_count p
renamed_count f parting.Single = refl
renamed_count f (parting.RoundRobin n) = refl
renamed_count f (parting.Hash cs n) = hashed_count (all_renamed f cs) n
renamed_count f (parting.Unknown n) = refl

join_count : (kind : JoinKind) (w : ℕ) (keys : List (ℕ × ℕ)) (n : ℕ) → partition_count (join_partitioning kind w keys n) ≡ n
join_count joins.Inner w keys n = refl
join_count joins.Left w keys n = refl
join_count joins.Right w keys n = refl
join_count joins.Full w keys n = refl

in_all : (ps : List Plan) → counts (map declared_of ps) ≡ map partitions ps
in_all [] = refl
in_all (p ∷ ps) = ap (λ (ns : List ℕ). partitions p ∷ ns) (in_all ps)

abbrev of : Declared → ℕ
of d = declared_partitions d

pub partitions-Scan : (table : ℕ) (kinds : List Kind) (files : ℕ) (n : ℕ) → partitions (Scan table kinds files n) ≡ n
partitions-Scan table kinds files n = ap of (declared-Scan table kinds files n) ∙ single_count (parting.Unknown n)

pub partitions-Filter : (input : Plan) (test : Expr) → partitions (Filter input test) ≡ partitions input
partitions-Filter input test = ap of (declared-Filter input test)

pub partitions-Project : (input : Plan) (items : List Expr) → partitions (Project input items) ≡ partitions input
partitions-Project input items = ap of (declared-Project input items) ∙ renamed_count (place_in (item_columns items)) (declared_of input).props.partitioning

pub partitions-PartialGroup : (input : Plan) (keys : List ℕ) (calls : List AggCall) → partitions (PartialGroup input keys calls) ≡ partitions input
partitions-PartialGroup input keys calls = ap of (declared-PartialGroup input keys calls) ∙ renamed_count (place_in (kept_columns keys)) (declared_of input).props.partitioning

pub partitions-FinalGroup : (input : Plan) (keys : List ℕ) (calls : List AggCall) → partitions (FinalGroup input keys calls) ≡ partitions input
partitions-FinalGroup input keys calls = ap of (declared-FinalGroup input keys calls) ∙ renamed_count (place_in (kept_columns keys)) (declared_of input).props.partitioning

pub partitions-HashJoin : (kind : JoinKind) (left right : Plan) (keys : List (ℕ × ℕ)) (rest : Option Expr) → partitions (HashJoin kind left right keys rest) ≡ partitions left
partitions-HashJoin kind left right keys rest = ap of (declared-HashJoin kind left right keys rest) ∙ single_count (join_partitioning kind (declared_of left).width keys (partitions left)) ∙ join_count kind (declared_of left).width keys (partitions left)

pub partitions-Sort : (input : Plan) (keys : List SortKey) → partitions (Sort input keys) ≡ partitions input
partitions-Sort input keys = ap of (declared-Sort input keys)

pub partitions-Merge : (input : Plan) (keys : List SortKey) → partitions (Merge input keys) ≡ 1
partitions-Merge input keys = ap of (declared-Merge input keys)

pub partitions-Coalesce : (input : Plan) → partitions (Coalesce input) ≡ 1
partitions-Coalesce input = ap of (declared-Coalesce input)

pub partitions-Repartition : (input : Plan) (to : Partitioning) → partitions (Repartition input to) ≡ partition_count to
partitions-Repartition input to = ap of (declared-Repartition input to) ∙ single_count to

pub partitions-UnionAll : (inputs : List Plan) → partitions (UnionAll inputs) ≡ sum (map partitions inputs)
partitions-UnionAll inputs = ap of (declared-UnionAll inputs) ∙ single_count (parting.Unknown (sum (counts (map declared_of inputs)))) ∙ ap sum (in_all inputs)

pub partitions-Limit : (input : Plan) (skip : ℕ) (fetch : Option ℕ) → partitions (Limit input skip fetch) ≡ partitions input
partitions-Limit input skip fetch = ap of (declared-Limit input skip fetch)

pub ruleset partition_nodes = (partitions-Scan, partitions-Filter, partitions-Project, partitions-PartialGroup, partitions-FinalGroup, partitions-HashJoin, partitions-Sort, partitions-Merge, partitions-Coalesce, partitions-Repartition, partitions-UnionAll, partitions-Limit)
