-- The words of a plan's top node, node by node.
use Rattle.std.proofs.Common.{◌≡◌, ℕ, List, ◌++◌, Option, map, codes, ap, sym, ◌∙◌}
use Rattle.dfx_value.specs.declared.kind.Kind.{Kind}
use Rattle.dfx_value.specs.declared.rows.SortKey.{SortKey}
use Rattle.dfx_value.specs.declared.op.JoinKind.{JoinKind}
use Rattle.dfx_value.specs.declared.op.AggCall.{AggCall}
use Rattle.plan_props.specs.declared.properties.Partitioning.{Partitioning}
use Rattle.scalar_exprs.specs.declared.expr.Expr.{Expr}
use Rattle.physical_plan.specs.declared.plan.Plan.{Plan}
use Rattle.physical_plan.specs.declared.plan.Plan.TheOpen.{Plan-F}
use Rattle.physical_plan.specs.declared.plan.Plan.TheVariants.{Scan, Filter, Project, PartialGroup, FinalGroup, HashJoin, Sort, Merge, Coalesce, Repartition, UnionAll, Limit, outs-Scan, outs-Filter, outs-Project, outs-PartialGroup, outs-FinalGroup, outs-HashJoin, outs-Sort, outs-Merge, outs-Coalesce, outs-Repartition, outs-UnionAll, outs-Limit}
use Rattle.plan_text.specs.ListText.{bracketed}
use Rattle.plan_text.specs.ExprText.{expr_text}
use Rattle.plan_text.specs.NodeText.{words_of, top_words, scan_text, name_of, group_text, hash_join_text, key_text, partitioning_text, limit_text}

pub words-Scan : (names : List (List ℕ)) (table : ℕ) (kinds : List Kind) (files partitions : ℕ) → top_words names (Scan table kinds files partitions) ≡ scan_text (name_of names table) partitions files
unfolding top_words
words-Scan names table kinds files partitions = ap (λ (z : Plan-F Plan). words_of names z) (outs-Scan table kinds files partitions)

pub words-Filter : (names : List (List ℕ)) (input : Plan) (test : Expr) → top_words names (Filter input test) ≡ codes "Filter " ++ expr_text test
unfolding top_words
words-Filter names input test = ap (λ (z : Plan-F Plan). words_of names z) (outs-Filter input test)

pub words-Project : (names : List (List ℕ)) (input : Plan) (items : List Expr) → top_words names (Project input items) ≡ codes "Project " ++ bracketed (map expr_text items)
unfolding top_words
words-Project names input items = ap (λ (z : Plan-F Plan). words_of names z) (outs-Project input items)

pub words-PartialGroup : (names : List (List ℕ)) (input : Plan) (keys : List ℕ) (calls : List AggCall) → top_words names (PartialGroup input keys calls) ≡ codes "PartialGroup" ++ group_text keys calls
unfolding top_words
words-PartialGroup names input keys calls = ap (λ (z : Plan-F Plan). words_of names z) (outs-PartialGroup input keys calls)

pub words-FinalGroup : (names : List (List ℕ)) (input : Plan) (keys : List ℕ) (calls : List AggCall) → top_words names (FinalGroup input keys calls) ≡ codes "FinalGroup" ++ group_text keys calls
unfolding top_words
words-FinalGroup names input keys calls = ap (λ (z : Plan-F Plan). words_of names z) (outs-FinalGroup input keys calls)

pub words-HashJoin : (names : List (List ℕ)) (kind : JoinKind) (left right : Plan) (keys : List (ℕ × ℕ)) (rest : Option Expr) → top_words names (HashJoin kind left right keys rest) ≡ hash_join_text kind keys rest
unfolding top_words
words-HashJoin names kind left right keys rest = ap (λ (z : Plan-F Plan). words_of names z) (outs-HashJoin kind left right keys rest)

pub words-Sort : (names : List (List ℕ)) (input : Plan) (keys : List SortKey) → top_words names (Sort input keys) ≡ codes "Sort " ++ bracketed (map key_text keys)
unfolding top_words
words-Sort names input keys = ap (λ (z : Plan-F Plan). words_of names z) (outs-Sort input keys)

pub words-Merge : (names : List (List ℕ)) (input : Plan) (keys : List SortKey) → top_words names (Merge input keys) ≡ codes "Merge " ++ bracketed (map key_text keys)
unfolding top_words
words-Merge names input keys = ap (λ (z : Plan-F Plan). words_of names z) (outs-Merge input keys)

pub words-Coalesce : (names : List (List ℕ)) (input : Plan) → top_words names (Coalesce input) ≡ codes "Coalesce"
unfolding top_words
words-Coalesce names input = ap (λ (z : Plan-F Plan). words_of names z) (outs-Coalesce input)

pub words-Repartition : (names : List (List ℕ)) (input : Plan) (to : Partitioning) → top_words names (Repartition input to) ≡ codes "Repartition " ++ partitioning_text to
unfolding top_words
words-Repartition names input to = ap (λ (z : Plan-F Plan). words_of names z) (outs-Repartition input to)

pub words-UnionAll : (names : List (List ℕ)) (inputs : List Plan) → top_words names (UnionAll inputs) ≡ codes "UnionAll"
unfolding top_words
words-UnionAll names inputs = ap (λ (z : Plan-F Plan). words_of names z) (outs-UnionAll inputs)

pub words-Limit : (names : List (List ℕ)) (input : Plan) (skip : ℕ) (fetch : Option ℕ) → top_words names (Limit input skip fetch) ≡ limit_text skip fetch
unfolding top_words
words-Limit names input skip fetch = ap (λ (z : Plan-F Plan). words_of names z) (outs-Limit input skip fetch)

pub ruleset top_nodes = (words-Scan, words-Filter, words-Project, words-PartialGroup, words-FinalGroup, words-HashJoin, words-Sort, words-Merge, words-Coalesce, words-Repartition, words-UnionAll, words-Limit)

-- ---- words, as they are written

pub partial_written : (names : List (List ℕ)) (t w : List ℕ) (p input : Plan) (keys ks : List ℕ) (calls cs : List AggCall) → p ≡ PartialGroup input keys calls → ks ≡ keys → cs ≡ calls → w ≡ t ++ (codes "PartialGroup" ++ group_text ks cs) → w ≡ t ++ top_words names p
partial_written names t w p input keys ks calls cs is same alike e =
    e ∙ ap (λ (s : List ℕ). t ++ s) (sym (
    ap (top_words names) (is ∙ ap (λ (x : List ℕ). PartialGroup input x calls) (sym same) ∙ ap (λ (x : List AggCall). PartialGroup input ks x) (sym alike))
    ∙ words-PartialGroup names input ks cs))

pub final_written : (names : List (List ℕ)) (t w : List ℕ) (p input : Plan) (keys ks : List ℕ) (calls cs : List AggCall) → p ≡ FinalGroup input keys calls → ks ≡ keys → cs ≡ calls → w ≡ t ++ (codes "FinalGroup" ++ group_text ks cs) → w ≡ t ++ top_words names p
final_written names t w p input keys ks calls cs is same alike e =
    e ∙ ap (λ (s : List ℕ). t ++ s) (sym (
    ap (top_words names) (is ∙ ap (λ (x : List ℕ). FinalGroup input x calls) (sym same) ∙ ap (λ (x : List AggCall). FinalGroup input ks x) (sym alike))
    ∙ words-FinalGroup names input ks cs))

pub coalesce_written : (names : List (List ℕ)) (t w : List ℕ) (p input : Plan) → p ≡ Coalesce input → w ≡ t ++ codes "Coalesce" → w ≡ t ++ top_words names p
coalesce_written names t w p input is e = e ∙ ap (λ (s : List ℕ). t ++ s) (sym (ap (top_words names) is ∙ words-Coalesce names input))
