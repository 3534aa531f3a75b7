-- What a plan declares, node by node.
use Rattle.std.proofs.Common.{◌≡◌, ℕ, List, Option, map}
use Rattle.dfx_value.specs.declared.kind.Kind.{Kind}
use Rattle.dfx_value.specs.declared.rows.SortKey.{SortKey}
use Rattle.scalar_exprs.specs.declared.expr.Expr.{Expr}
use Rattle.dfx_value.specs.declared.op.JoinKind.{JoinKind}
use Rattle.dfx_value.specs.declared.op.AggCall.{AggCall}
use Rattle.plan_props.specs.declared.properties.Partitioning.{Partitioning}
use Rattle.physical_plan.specs.declared.plan.Plan.{Plan}
use Rattle.physical_plan.specs.declared.plan.Plan.TheOpen.{Plan-F}
use Rattle.physical_plan.specs.declared.plan.Plan.TheVariants.{Scan, Filter, Project, PartialGroup, FinalGroup, HashJoin, Sort, Merge, Coalesce, Repartition, UnionAll, Limit}
use Rattle.physical_plan.specs.declared.properties.Declared.{Declared}
use Rattle.physical_plan.specs.Properties.{declared, declared_of}
use Rattle.physical_plan.proofs.Folds.{folded}

pub declared-Scan : (table : ℕ) (kinds : List Kind) (files : ℕ) (partitions : ℕ) → declared_of (Scan table kinds files partitions) ≡ declared (Plan-F.Scan table kinds files partitions)
unfolding declared_of
declared-Scan table kinds files partitions = folded Declared declared (Plan-F.Scan table kinds files partitions)

pub declared-Filter : (input : Plan) (test : Expr) → declared_of (Filter input test) ≡ declared (Plan-F.Filter (declared_of input) test)
unfolding declared_of
declared-Filter input test = folded Declared declared (Plan-F.Filter input test)

pub declared-Project : (input : Plan) (items : List Expr) → declared_of (Project input items) ≡ declared (Plan-F.Project (declared_of input) items)
unfolding declared_of
declared-Project input items = folded Declared declared (Plan-F.Project input items)

pub declared-PartialGroup : (input : Plan) (keys : List ℕ) (calls : List AggCall) → declared_of (PartialGroup input keys calls) ≡ declared (Plan-F.PartialGroup (declared_of input) keys calls)
unfolding declared_of
declared-PartialGroup input keys calls = folded Declared declared (Plan-F.PartialGroup input keys calls)

pub declared-FinalGroup : (input : Plan) (keys : List ℕ) (calls : List AggCall) → declared_of (FinalGroup input keys calls) ≡ declared (Plan-F.FinalGroup (declared_of input) keys calls)
unfolding declared_of
declared-FinalGroup input keys calls = folded Declared declared (Plan-F.FinalGroup input keys calls)

pub declared-HashJoin : (kind : JoinKind) (left : Plan) (right : Plan) (keys : List (ℕ × ℕ)) (rest : Option Expr) → declared_of (HashJoin kind left right keys rest) ≡ declared (Plan-F.HashJoin kind (declared_of left) (declared_of right) keys rest)
unfolding declared_of
declared-HashJoin kind left right keys rest = folded Declared declared (Plan-F.HashJoin kind left right keys rest)

pub declared-Sort : (input : Plan) (keys : List SortKey) → declared_of (Sort input keys) ≡ declared (Plan-F.Sort (declared_of input) keys)
unfolding declared_of
declared-Sort input keys = folded Declared declared (Plan-F.Sort input keys)

pub declared-Merge : (input : Plan) (keys : List SortKey) → declared_of (Merge input keys) ≡ declared (Plan-F.Merge (declared_of input) keys)
unfolding declared_of
declared-Merge input keys = folded Declared declared (Plan-F.Merge input keys)

pub declared-Coalesce : (input : Plan) → declared_of (Coalesce input) ≡ declared (Plan-F.Coalesce (declared_of input))
unfolding declared_of
declared-Coalesce input = folded Declared declared (Plan-F.Coalesce input)

pub declared-Repartition : (input : Plan) (to : Partitioning) → declared_of (Repartition input to) ≡ declared (Plan-F.Repartition (declared_of input) to)
unfolding declared_of
declared-Repartition input to = folded Declared declared (Plan-F.Repartition input to)

pub declared-UnionAll : (inputs : List Plan) → declared_of (UnionAll inputs) ≡ declared (Plan-F.UnionAll (map declared_of inputs))
unfolding declared_of
declared-UnionAll inputs = folded Declared declared (Plan-F.UnionAll inputs)

pub declared-Limit : (input : Plan) (skip : ℕ) (fetch : Option ℕ) → declared_of (Limit input skip fetch) ≡ declared (Plan-F.Limit (declared_of input) skip fetch)
unfolding declared_of
declared-Limit input skip fetch = folded Declared declared (Plan-F.Limit input skip fetch)

pub ruleset declared_nodes = (declared-Scan, declared-Filter, declared-Project, declared-PartialGroup, declared-FinalGroup, declared-HashJoin, declared-Sort, declared-Merge, declared-Coalesce, declared-Repartition, declared-UnionAll, declared-Limit)
