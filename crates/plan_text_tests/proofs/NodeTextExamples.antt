-- Worked examples of the texts of plans, by computing.
use Rattle.std.specs.Prelude.{ℕ, pos, Bool, true, false, codes, List, [], ◌∷◌, Some, None}
use Rattle.std.proofs.Common.{◌≡◌}
use Rattle.std.specs.Fmt.{digits}
use Rattle.dfx_value.specs.declared.op.AggCall.TheVariants as call
use Rattle.dfx_value.specs.declared.op.JoinKind.TheVariants as join
use Rattle.dfx_value.specs.declared.rows.SortKey.{SortKey}
use Rattle.plan_props.specs.declared.properties.Partitioning.TheVariants as to
use Rattle.scalar_exprs.specs.declared.expr.Expr.TheVariants.{Column}
use Rattle.physical_plan.specs.declared.plan.Plan.{Plan}
use Rattle.physical_plan.specs.declared.plan.Plan.TheVariants as plan
use Rattle.plan_text.specs.PlanText.{plan_text}
use Rattle.plan_text.proofs.ExprSteps.{expr_nodes}
use Rattle.plan_text_tests.proofs.ExprTextExamples.{int, text}
use Rattle.plan_text_tests.proofs.LineNodes.{line_nodes}

abbrev names : List (List ℕ)
names = codes "t" ∷ codes "Orders 2" ∷ []

-- the scan of a table's files, with as many partitions
abbrev scan_of : ℕ → ℕ → Plan
scan_of table files = plan.Scan table [] files files

abbrev scan : Plan
scan = scan_of 0 1

abbrev second : Plan
second = scan_of 1 4

abbrev key : ℕ → Bool → Bool → SortKey
key column descending nulls_first = record { column = column; descending = descending; nulls_first = nulls_first }

-- ---- tables and rows

scan-1 : plan_text names (plan.Scan 0 [] 1 1) ≡ codes "Scan t partitions=1 files=1\n"
unfolding digits
scan-1 = simp line_nodes

scan-2 : plan_text names (plan.Scan 1 [] 3 2) ≡ codes "Scan Orders 2 partitions=2 files=3\n"
unfolding digits
scan-2 = simp line_nodes

scan-3 : plan_text names (plan.Scan 0 [] 0 16) ≡ codes "Scan t partitions=16 files=0\n"
unfolding digits
scan-3 = simp line_nodes

scan-4 : plan_text names (plan.Scan 2 [] 1 1) ≡ codes "Scan  partitions=1 files=1\n"
unfolding digits
scan-4 = simp line_nodes

filter : plan_text names (plan.Filter scan (Column 0)) ≡ codes "Filter #0\n  Scan t partitions=1 files=1\n"
unfolding digits
filter = simp (line_nodes, expr_nodes)

project-0 : plan_text names (plan.Project scan (text (codes "a, b") ∷ [])) ≡ codes "Project ['a, b']\n  Scan t partitions=1 files=1\n"
unfolding digits
project-0 = simp (line_nodes, expr_nodes)

project-1 : plan_text names (plan.Project scan (Column 0 ∷ text (codes "a, b") ∷ [])) ≡ codes "Project [#0, 'a, b']\n  Scan t partitions=1 files=1\n"
unfolding digits
project-1 = simp (line_nodes, expr_nodes)

project-3 : plan_text names (plan.Project scan (Column 0 ∷ Column 1 ∷ Column 2 ∷ text (codes "a, b") ∷ [])) ≡ codes "Project [#0, #1, #2, 'a, b']\n  Scan t partitions=1 files=1\n"
unfolding digits
project-3 = simp (line_nodes, expr_nodes)

-- ---- groups

call-count_all : plan_text names (plan.PartialGroup scan [] (call.CountAll ∷ [])) ≡ codes "PartialGroup keys=[] calls=[COUNT(*)]\n  Scan t partitions=1 files=1\n"
unfolding digits
call-count_all = simp line_nodes

call-count : plan_text names (plan.PartialGroup scan [] (call.Count 1 ∷ [])) ≡ codes "PartialGroup keys=[] calls=[COUNT(#1)]\n  Scan t partitions=1 files=1\n"
unfolding digits
call-count = simp line_nodes

call-sum : plan_text names (plan.PartialGroup scan [] (call.Sum 2 ∷ [])) ≡ codes "PartialGroup keys=[] calls=[SUM(#2)]\n  Scan t partitions=1 files=1\n"
unfolding digits
call-sum = simp line_nodes

call-min : plan_text names (plan.PartialGroup scan [] (call.Min 3 ∷ [])) ≡ codes "PartialGroup keys=[] calls=[MIN(#3)]\n  Scan t partitions=1 files=1\n"
unfolding digits
call-min = simp line_nodes

call-max : plan_text names (plan.PartialGroup scan [] (call.Max 4 ∷ [])) ≡ codes "PartialGroup keys=[] calls=[MAX(#4)]\n  Scan t partitions=1 files=1\n"
unfolding digits
call-max = simp line_nodes

call-avg : plan_text names (plan.PartialGroup scan [] (call.Avg 5 ∷ [])) ≡ codes "PartialGroup keys=[] calls=[AVG(#5)]\n  Scan t partitions=1 files=1\n"
unfolding digits
call-avg = simp line_nodes

final_group : plan_text names (plan.FinalGroup scan (2 ∷ 0 ∷ []) (call.CountAll ∷ call.Sum 3 ∷ call.Avg 1 ∷ [])) ≡ codes "FinalGroup keys=[#2, #0] calls=[COUNT(*), SUM(#3), AVG(#1)]\n  Scan t partitions=1 files=1\n"
unfolding digits
final_group = simp line_nodes

no_calls : plan_text names (plan.PartialGroup scan (1 ∷ []) []) ≡ codes "PartialGroup keys=[#1] calls=[]\n  Scan t partitions=1 files=1\n"
unfolding digits
no_calls = simp line_nodes

-- ---- joins

join-inner : plan_text names (plan.HashJoin join.Inner scan second ((0, 1) ∷ []) None) ≡ codes "HashJoin INNER keys=[#0=#1] rest=NONE\n  Scan t partitions=1 files=1\n  Scan Orders 2 partitions=4 files=4\n"
unfolding digits
join-inner = simp line_nodes

join-left : plan_text names (plan.HashJoin join.Left scan second ((0, 1) ∷ (1, 11) ∷ []) None) ≡ codes "HashJoin LEFT keys=[#0=#1, #1=#11] rest=NONE\n  Scan t partitions=1 files=1\n  Scan Orders 2 partitions=4 files=4\n"
unfolding digits
join-left = simp line_nodes

join-right : plan_text names (plan.HashJoin join.Right scan second [] None) ≡ codes "HashJoin RIGHT keys=[] rest=NONE\n  Scan t partitions=1 files=1\n  Scan Orders 2 partitions=4 files=4\n"
unfolding digits
join-right = simp line_nodes

join-full : plan_text names (plan.HashJoin join.Full scan second ((0, 1) ∷ (1, 11) ∷ (2, 21) ∷ []) None) ≡ codes "HashJoin FULL keys=[#0=#1, #1=#11, #2=#21] rest=NONE\n  Scan t partitions=1 files=1\n  Scan Orders 2 partitions=4 files=4\n"
unfolding digits
join-full = simp line_nodes

rest-inner : plan_text names (plan.HashJoin join.Inner scan second ((0, 1) ∷ []) (Some (text (codes "x'y")))) ≡ codes "HashJoin INNER keys=[#0=#1] rest='x''y'\n  Scan t partitions=1 files=1\n  Scan Orders 2 partitions=4 files=4\n"
unfolding digits
rest-inner = simp (line_nodes, expr_nodes)

rest-left : plan_text names (plan.HashJoin join.Left scan second ((0, 1) ∷ []) (Some (text (codes "x'y")))) ≡ codes "HashJoin LEFT keys=[#0=#1] rest='x''y'\n  Scan t partitions=1 files=1\n  Scan Orders 2 partitions=4 files=4\n"
unfolding digits
rest-left = simp (line_nodes, expr_nodes)

rest-right : plan_text names (plan.HashJoin join.Right scan second ((0, 1) ∷ []) (Some (text (codes "x'y")))) ≡ codes "HashJoin RIGHT keys=[#0=#1] rest='x''y'\n  Scan t partitions=1 files=1\n  Scan Orders 2 partitions=4 files=4\n"
unfolding digits
rest-right = simp (line_nodes, expr_nodes)

rest-full : plan_text names (plan.HashJoin join.Full scan second ((0, 1) ∷ []) (Some (text (codes "x'y")))) ≡ codes "HashJoin FULL keys=[#0=#1] rest='x''y'\n  Scan t partitions=1 files=1\n  Scan Orders 2 partitions=4 files=4\n"
unfolding digits
rest-full = simp (line_nodes, expr_nodes)

-- ---- orders and exchanges

sort-up_nulls_last : plan_text names (plan.Sort scan (key 7 false false ∷ [])) ≡ codes "Sort [#7 ASC NULLS LAST]\n  Scan t partitions=1 files=1\n"
unfolding digits
sort-up_nulls_last = simp line_nodes

sort-up_nulls_first : plan_text names (plan.Sort scan (key 7 false true ∷ [])) ≡ codes "Sort [#7 ASC NULLS FIRST]\n  Scan t partitions=1 files=1\n"
unfolding digits
sort-up_nulls_first = simp line_nodes

sort-down_nulls_last : plan_text names (plan.Sort scan (key 7 true false ∷ [])) ≡ codes "Sort [#7 DESC NULLS LAST]\n  Scan t partitions=1 files=1\n"
unfolding digits
sort-down_nulls_last = simp line_nodes

sort-down_nulls_first : plan_text names (plan.Sort scan (key 7 true true ∷ [])) ≡ codes "Sort [#7 DESC NULLS FIRST]\n  Scan t partitions=1 files=1\n"
unfolding digits
sort-down_nulls_first = simp line_nodes

merge : plan_text names (plan.Merge scan (key 2 false false ∷ key 0 true true ∷ [])) ≡ codes "Merge [#2 ASC NULLS LAST, #0 DESC NULLS FIRST]\n  Scan t partitions=1 files=1\n"
unfolding digits
merge = simp line_nodes

in_turn-1 : plan_text names (plan.Repartition scan (to.RoundRobin 1)) ≡ codes "Repartition RoundRobin(1)\n  Scan t partitions=1 files=1\n"
unfolding digits
in_turn-1 = simp line_nodes

in_turn-64 : plan_text names (plan.Repartition scan (to.RoundRobin 64)) ≡ codes "Repartition RoundRobin(64)\n  Scan t partitions=1 files=1\n"
unfolding digits
in_turn-64 = simp line_nodes

to_single : plan_text names (plan.Repartition scan to.Single) ≡ codes "Repartition Single\n  Scan t partitions=1 files=1\n"
unfolding digits
to_single = simp line_nodes

to_unknown : plan_text names (plan.Repartition scan (to.Unknown 3)) ≡ codes "Repartition Unknown(3)\n  Scan t partitions=1 files=1\n"
unfolding digits
to_unknown = simp line_nodes

by_hash : plan_text names (plan.Repartition scan (to.Hash (3 ∷ 1 ∷ []) 64)) ≡ codes "Repartition Hash([#3, #1], 64)\n  Scan t partitions=1 files=1\n"
unfolding digits
by_hash = simp line_nodes

by_nothing : plan_text names (plan.Repartition scan (to.Hash [] 1)) ≡ codes "Repartition Hash([], 1)\n  Scan t partitions=1 files=1\n"
unfolding digits
by_nothing = simp line_nodes

coalesce : plan_text names (plan.Coalesce scan) ≡ codes "Coalesce\n  Scan t partitions=1 files=1\n"
unfolding digits
coalesce = simp line_nodes

limit-1 : plan_text names (plan.Limit scan 0 (Some 10)) ≡ codes "Limit skip=0 fetch=10\n  Scan t partitions=1 files=1\n"
unfolding digits
limit-1 = simp line_nodes

limit-2 : plan_text names (plan.Limit scan 5 None) ≡ codes "Limit skip=5 fetch=ALL\n  Scan t partitions=1 files=1\n"
unfolding digits
limit-2 = simp line_nodes

limit-3 : plan_text names (plan.Limit scan 3 (Some 0)) ≡ codes "Limit skip=3 fetch=0\n  Scan t partitions=1 files=1\n"
unfolding digits
limit-3 = simp line_nodes

limit-4 : plan_text names (plan.Limit scan 18446744073709551615 (Some 18446744073709551615)) ≡ codes "Limit skip=18446744073709551615 fetch=18446744073709551615\n  Scan t partitions=1 files=1\n"
unfolding digits
limit-4 = simp line_nodes

-- ---- several inputs

union_of_three : plan_text names (plan.UnionAll (scan ∷ plan.Coalesce second ∷ scan_of 0 3 ∷ [])) ≡ codes "UnionAll\n  Scan t partitions=1 files=1\n  Coalesce\n    Scan Orders 2 partitions=4 files=4\n  Scan t partitions=3 files=3\n"
unfolding digits
union_of_three = simp line_nodes

union_of_none : plan_text names (plan.UnionAll []) ≡ codes "UnionAll\n"
unfolding digits
union_of_none = simp line_nodes

join_of_joins : plan_text names (plan.HashJoin join.Full (plan.Filter (plan.HashJoin join.Inner scan second ((0, 1) ∷ []) None) (int (pos 1))) scan [] None) ≡ codes "HashJoin FULL keys=[] rest=NONE\n  Filter 1\n    HashJoin INNER keys=[#0=#1] rest=NONE\n      Scan t partitions=1 files=1\n      Scan Orders 2 partitions=4 files=4\n  Scan t partitions=1 files=1\n"
unfolding digits
join_of_joins = simp (line_nodes, expr_nodes)
