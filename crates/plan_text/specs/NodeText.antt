-- Meaning: the words of one node in the text of a plan.
use Rattle.std.specs.Prelude.{ℕ, Bool, true, false, Option, Some, None, List, [], ◌++◌, map, codes, slice_index_or}
use Rattle.std.specs.Fmt.{decimal}
use Rattle.dfx_value.specs.declared.op.AggCall.{AggCall}
use Rattle.dfx_value.specs.declared.op.AggCall.TheVariants as agg
use Rattle.dfx_value.specs.declared.op.JoinKind.{JoinKind}
use Rattle.dfx_value.specs.declared.op.JoinKind.TheVariants as join
use Rattle.dfx_value.specs.declared.rows.SortKey.{SortKey}
use Rattle.plan_props.specs.declared.properties.Partitioning.{Partitioning}
use Rattle.plan_props.specs.declared.properties.Partitioning.TheVariants as parting
use Rattle.scalar_exprs.specs.declared.expr.Expr.{Expr}
use Rattle.physical_plan.specs.declared.plan.Plan.{Plan, out-Plan}
use Rattle.physical_plan.specs.declared.plan.Plan.TheOpen.{Plan-F}
use Rattle.plan_text.specs.ListText.{bracketed}
use Rattle.plan_text.specs.ExprText.{column_text, call_of, expr_text}

-- ---- parts

-- columns between brackets
abbrev pub columns_text : List ℕ → List ℕ
columns_text ks = bracketed (map column_text ks)

abbrev pub call_text : AggCall → List ℕ
call_text agg.CountAll = codes "COUNT(*)"
call_text (agg.Count k) = call_of (codes "COUNT") (column_text k)
call_text (agg.Sum k) = call_of (codes "SUM") (column_text k)
call_text (agg.Min k) = call_of (codes "MIN") (column_text k)
call_text (agg.Max k) = call_of (codes "MAX") (column_text k)
call_text (agg.Avg k) = call_of (codes "AVG") (column_text k)

abbrev pub direction_text : Bool → List ℕ
direction_text true = codes " DESC"
direction_text false = codes " ASC"

abbrev pub nulls_text : Bool → List ℕ
nulls_text true = codes " NULLS FIRST"
nulls_text false = codes " NULLS LAST"

-- a column, its direction, and where NULL stands
abbrev pub key_text : SortKey → List ℕ
key_text k = column_text k.column ++ (direction_text k.descending ++ nulls_text k.nulls_first)

abbrev pub join_text : JoinKind → List ℕ
join_text join.Inner = codes "INNER"
join_text join.Left = codes "LEFT"
join_text join.Right = codes "RIGHT"
join_text join.Full = codes "FULL"

-- a column of the left input and one of the right that are equal
abbrev pub pair_text : ℕ × ℕ → List ℕ
pair_text pair = column_text pair.0 ++ (codes "=" ++ column_text pair.1)

abbrev pub rest_text : Option Expr → List ℕ
rest_text None = codes "NONE"
rest_text (Some e) = expr_text e

abbrev pub fetch_text : Option ℕ → List ℕ
fetch_text None = codes "ALL"
fetch_text (Some n) = decimal n

abbrev pub hash_text : List ℕ → ℕ → List ℕ
hash_text ks n = codes "Hash(" ++ (columns_text ks ++ (codes ", " ++ (decimal n ++ codes ")")))

abbrev pub partitioning_text : Partitioning → List ℕ
partitioning_text parting.Single = codes "Single"
partitioning_text (parting.RoundRobin n) = codes "RoundRobin(" ++ (decimal n ++ codes ")")
partitioning_text (parting.Hash ks n) = hash_text ks n
partitioning_text (parting.Unknown n) = codes "Unknown(" ++ (decimal n ++ codes ")")

-- the name of a table; a number past the names has the empty one
abbrev pub name_of : List (List ℕ) → ℕ → List ℕ
name_of names table = slice_index_or names table []

abbrev pub scan_text : List ℕ → ℕ → ℕ → List ℕ
scan_text name partitions files =
    codes "Scan " ++ (name ++ (codes " partitions=" ++ (decimal partitions ++ (codes " files="
    ++ decimal files))))

abbrev pub group_text : List ℕ → List AggCall → List ℕ
group_text keys calls =
    codes " keys=" ++ (columns_text keys ++ (codes " calls=" ++ bracketed (map call_text calls)))

abbrev pub hash_join_text : JoinKind → List (ℕ × ℕ) → Option Expr → List ℕ
hash_join_text kind keys rest =
    codes "HashJoin " ++ (join_text kind ++ (codes " keys=" ++ (bracketed (map pair_text keys)
    ++ (codes " rest=" ++ rest_text rest))))

abbrev pub limit_text : ℕ → Option ℕ → List ℕ
limit_text skip fetch =
    codes "Limit skip=" ++ (decimal skip ++ (codes " fetch=" ++ fetch_text fetch))

-- ---- nodes

-- what a node is, without its inputs, from the names of the tables
abbrev pub words_of : {A : Type 0} → List (List ℕ) → Plan-F A → List ℕ
words_of names (Plan-F.Scan table kinds files partitions) =
    scan_text (name_of names table) partitions files
words_of names (Plan-F.Filter input test) = codes "Filter " ++ expr_text test
words_of names (Plan-F.Project input items) = codes "Project " ++ bracketed (map expr_text items)
words_of names (Plan-F.PartialGroup input keys calls) =
    codes "PartialGroup" ++ group_text keys calls
words_of names (Plan-F.FinalGroup input keys calls) = codes "FinalGroup" ++ group_text keys calls
words_of names (Plan-F.HashJoin kind left right keys rest) = hash_join_text kind keys rest
words_of names (Plan-F.Sort input keys) = codes "Sort " ++ bracketed (map key_text keys)
words_of names (Plan-F.Merge input keys) = codes "Merge " ++ bracketed (map key_text keys)
words_of names (Plan-F.Coalesce input) = codes "Coalesce"
words_of names (Plan-F.Repartition input to) = codes "Repartition " ++ partitioning_text to
words_of names (Plan-F.UnionAll inputs) = codes "UnionAll"
words_of names (Plan-F.Limit input skip fetch) = limit_text skip fetch

-- ---- words

-- the words of a plan's top node
unfoldable pub top_words : List (List ℕ) → Plan → List ℕ
top_words names plan = words_of names (out-Plan plan)
