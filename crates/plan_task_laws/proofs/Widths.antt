-- How many partitions a plan has, by its counts.
use Rattle.std.specs.Prelude.{max, true, false}
use Rattle.std.proofs.Common.{ℕ, ◌+◌, ◌<◌, ◌≡◌, refl, sym, ap, ◌∙◌, subst, List, [], ◌∷◌, length, map, arith}
use Rattle.std.proofs.lemmas.List.{length-append}
use Rattle.plan_props.specs.Satisfies.{partition_count}
use Rattle.physical_plan.specs.declared.plan.Plan.{Plan}
use Rattle.physical_plan.specs.declared.plan.Plan.TheOpen.{Plan-F}
use Rattle.physical_plan.specs.declared.plan.Plan.TheViews.{roll-Plan}
use Rattle.physical_plan.specs.declared.plan.Plan.TheFolds.{fold-roll-Plan, map-Plan, ind-Plan}
use Rattle.physical_plan.specs.Numbers.{numbers}
use Rattle.plan_shape.specs.Counts.{Counted, count_node, counts_of, in_all}
use Rattle.tree_laws.specs.Operators.{Op}
use Rattle.tree_laws.specs.Trees.{Nothing}
use Rattle.plan_task_laws.specs.Trees.{Doing, Seed, leaf, inlet, scanning, dealt_files, passing, holding, pairing, paired, stages_in, sources_in, partitions_of}
use Rattle.plan_task_laws.specs.Branches.{seed_at, width_at, branch, IsEven}
use Rattle.plan_task_laws.proofs.Branches.{map_length, numbers_length, rolled, width_rolled, ends, IsEvenAt, branches_at}

paired_max : (op : ℕ → Op) (ls rs : List Seed) → length (paired op ls rs) ≡ max (length ls) (length rs)
paired_max op [] rs = map_length (λ (r : Seed). pairing op (leaf Nothing) r) rs ∙ (let e : length rs ≡ max 0 (length rs) = omega arith in e)
paired_max op (l ∷ ls) [] = let e = paired_max op ls [] in omega arith
paired_max op (l ∷ ls) (r ∷ rs) = let e = paired_max op ls rs in omega arith

module _ (f : Doing) where
  abbrev CountOf : Plan → Type 0
  CountOf p = (k s : ℕ) → width_at f p k s ≡ (counts_of p).parts

  abbrev Known : Type 0
  Known = (p : Plan) × CountOf p

  abbrev plans : List Known → List Plan
  plans ps = map (λ (p : Known). p.0) ps

  level : (z : Plan-F Plan) → ((k s : ℕ) → length (rolled f z k s) ≡ (count_node (map-Plan Plan Counted counts_of z)).parts) → CountOf (roll-Plan z)
  unfolding counts_of
  level z h k s = width_rolled f z k s ∙ h k s ∙ ap (λ (c : Counted). c.parts) (sym (fold-roll-Plan Counted count_node z))

  united : (ps : List Known) (k s : ℕ) → length (ends f (plans ps) k s) ≡ (in_all (map counts_of (plans ps))).parts
  united [] k s = refl
  united (p ∷ ps) k s =
      length-append (partitions_of f p.0 k s) (ends f (plans ps) (k + stages_in p.0) (s + sources_in p.0))
      ∙ ap (λ (n : ℕ). n + length (ends f (plans ps) (k + stages_in p.0) (s + sources_in p.0))) (p.1 k s)
      ∙ ap (λ (n : ℕ). (counts_of p.0).parts + n) (united ps (k + stages_in p.0) (s + sources_in p.0))

  one : (h : Seed → Seed) (p : Known) (k s : ℕ) → length (map h (partitions_of f p.0 k s)) ≡ (counts_of p.0).parts
  one h p k s = map_length h (partitions_of f p.0 k s) ∙ p.1 k s

  two : (op : ℕ → Op) (p q : Known) (k s : ℕ) → length (paired op (partitions_of f p.0 k s) (partitions_of f q.0 (k + stages_in p.0) (s + sources_in p.0))) ≡ max (counts_of p.0).parts (counts_of q.0).parts
  two op p q k s = paired_max op (partitions_of f p.0 k s) (partitions_of f q.0 (k + stages_in p.0) (s + sources_in p.0))
      ∙ ap (λ (n : ℕ). max n (length (partitions_of f q.0 (k + stages_in p.0) (s + sources_in p.0)))) (p.1 k s)
      ∙ ap (λ (n : ℕ). max (counts_of p.0).parts n) (q.1 (k + stages_in p.0) (s + sources_in p.0))

  step : (y : Plan-F Known) → CountOf (roll-Plan (map-Plan Known Plan (λ k. k.0) y))
  step (Plan-F.Scan table kinds files partitions) = level (Plan-F.Scan table kinds files partitions) (λ k s. map_length (λ (i : ℕ). scanning (dealt_files (f.items table) s files partitions i)) (numbers partitions) ∙ numbers_length 0 partitions)
  step (Plan-F.Filter p test) = level (Plan-F.Filter p.0 test) (one (passing (f.operator (Plan-F.Filter p.0 test) 1)) p)
  step (Plan-F.Project p items) = level (Plan-F.Project p.0 items) (one (passing (f.operator (Plan-F.Project p.0 items) 1)) p)
  step (Plan-F.PartialGroup p keys calls) = level (Plan-F.PartialGroup p.0 keys calls) (one (holding true (f.operator (Plan-F.PartialGroup p.0 keys calls) 1)) p)
  step (Plan-F.FinalGroup p keys calls) = level (Plan-F.FinalGroup p.0 keys calls) (one (holding false (f.operator (Plan-F.FinalGroup p.0 keys calls) 1)) p)
  step (Plan-F.HashJoin kind p q keys rest) = level (Plan-F.HashJoin kind p.0 q.0 keys rest) (two (f.operator (Plan-F.HashJoin kind p.0 q.0 keys rest) 2) p q)
  step (Plan-F.Sort p keys) = level (Plan-F.Sort p.0 keys) (one (holding true (f.operator (Plan-F.Sort p.0 keys) 1)) p)
  step (Plan-F.Merge p keys) = level (Plan-F.Merge p.0 keys) (λ k s. refl)
  step (Plan-F.Coalesce p) = level (Plan-F.Coalesce p.0) (λ k s. refl)
  step (Plan-F.Repartition p to) = level (Plan-F.Repartition p.0 to) (λ k s. map_length (λ (c : ℕ). leaf (inlet k c)) (numbers (partition_count to)) ∙ numbers_length 0 (partition_count to))
  step (Plan-F.UnionAll ps) = level (Plan-F.UnionAll (plans ps)) (united ps)
  step (Plan-F.Limit p skip fetch) = level (Plan-F.Limit p.0 skip fetch) (one (passing (f.operator (Plan-F.Limit p.0 skip fetch) 1)) p)

  pub width_counts : (p : Plan) → CountOf p
  width_counts = ind-Plan CountOf (λ x y is. subst (λ z. CountOf (roll-Plan z)) is (step y))

even_at : (f : Doing) (z : Plan-F Plan) (k s : ℕ) → IsEven z → IsEvenAt f z k s
even_at f (Plan-F.Scan table kinds files partitions) k s e = tt
even_at f (Plan-F.Filter p test) k s e = tt
even_at f (Plan-F.Project p items) k s e = tt
even_at f (Plan-F.PartialGroup p keys calls) k s e = tt
even_at f (Plan-F.FinalGroup p keys calls) k s e = tt
even_at f (Plan-F.HashJoin kind p q keys rest) k s e = width_counts f p k s ∙ e ∙ sym (width_counts f q (k + stages_in p) (s + sources_in p))
even_at f (Plan-F.Sort p keys) k s e = tt
even_at f (Plan-F.Merge p keys) k s e = tt
even_at f (Plan-F.Coalesce p) k s e = tt
even_at f (Plan-F.Repartition p to) k s e = tt
even_at f (Plan-F.UnionAll ps) k s e = tt
even_at f (Plan-F.Limit p skip fetch) k s e = tt

pub branches : (f : Doing) (z : Plan-F Plan) (k s i : ℕ) → IsEven z → i < (counts_of (roll-Plan z)).parts → seed_at f (roll-Plan z) k s i ≡ branch f z k s i
branches f z k s i e l = branches_at f z k s i (even_at f z k s e) (let w : width_at f (roll-Plan z) k s ≡ (counts_of (roll-Plan z)).parts = width_counts f (roll-Plan z) k s in omega arith)
