-- The laws, from what grows together.
use Rattle.std.specs.Prelude.{slice_index_or}
use Rattle.std.proofs.Common.{ℕ, zero, suc, ◌+◌, ◌≡◌, refl, ap, ◌∙◌, List, [], ◌∷◌, length, get_or, true, is_some}
use Rattle.physical_plan.specs.declared.plan.Plan.{Plan}
use Rattle.physical_plan.specs.declared.plan.Plan.TheOpen.{Plan-F}
use Rattle.physical_plan.specs.declared.plan.Plan.TheViews.{roll-Plan}
use Rattle.physical_plan.specs.declared.plan.Plan.TheFolds.{fold-roll-Plan, para-roll-Plan, map-Plan}
use Rattle.plan_shape.specs.Layout.{Part, Stage, bare, layout, shape}
use Rattle.physical_plan.specs.Numbers.{numbers_from}
use Rattle.task_shape.specs.Shape.{task_at, names, has}
use Rattle.tree_laws.specs.Trees.{Tree, Nothing, HasInlet, HasConsumer}
use Rattle.tree_laws.specs.Runs.{the_task}
use Rattle.plan_task_laws.specs.Trees.{Doing, Seed, Growing, grow, leaf, count_stages, stages_in, count_sources, sources_in, partitions_of, At, tree_of}
use Rattle.plan_task_laws.specs.Tops.{Top, Topping, top_node, tops}
use Rattle.plan_task_laws.specs.Starts.{tasks_of}
use Rattle.plan_task_laws.specs.Reading.{Reads, Reserves, IsTreeOf, AreOperators}
use Rattle.plan_task_laws.proofs.Fresh.{fresh_linked}
use Rattle.plan_task_laws.proofs.Nodes.{IsPart, nothing_part}
use Rattle.plan_task_laws.proofs.Parts.{AreParts, same_length}
use Rattle.plan_task_laws.proofs.Grown.{AreTops, grows}
use Rattle.plan_task_laws.proofs.Read.{reads_has, has_reads, reserves_has, has_reserves, is_apart, count_names, names_count, count_has, has_count, numbers_once}
use Rattle.plan_task_laws.proofs.Begun.{all_fit, fit_at}

pub grown : (f : Doing) (z : Plan-F Plan) → partitions_of f (roll-Plan z) ≡ grow f (map-Plan Plan (Plan × Growing) (λ (p : Plan). (p, partitions_of f p)) z)
unfolding partitions_of
grown f z = para-roll-Plan Growing (grow f) z

pub topped : (z : Plan-F Plan) → tops (roll-Plan z) ≡ top_node (map-Plan Plan (Plan × Topping) (λ (p : Plan). (p, tops p)) z)
unfolding tops
topped z = para-roll-Plan Topping top_node z

pub stages_rolled : (z : Plan-F Plan) → stages_in (roll-Plan z) ≡ count_stages (map-Plan Plan ℕ stages_in z)
unfolding stages_in
stages_rolled z = fold-roll-Plan ℕ count_stages z

pub sources_rolled : (z : Plan-F Plan) → sources_in (roll-Plan z) ≡ count_sources (map-Plan Plan ℕ sources_in z)
unfolding sources_in
sources_rolled z = fold-roll-Plan ℕ count_sources z

pub counted : (f : Doing) → AreOperators f → (p : Plan) (k s : ℕ) → length (partitions_of f p k s) ≡ length (layout p k).parts
counted f are p k s = same_length k (k + stages_in p) (layout p k).parts (partitions_of f p k s) ((grows f are p).parts k s)

tops_length : (f : Doing) (k : ℕ) (xs : List Stage) (ts : List Top) → AreTops f k xs ts → length ts ≡ length xs
tops_length f k [] [] h = refl
tops_length f k [] (t ∷ ts) h = absurd h
tops_length f k (x ∷ xs) [] h = absurd h
tops_length f k (x ∷ xs) (t ∷ ts) h = ap suc (tops_length f (k + 1) xs ts h.1)

pub staged_by : (f : Doing) → AreOperators f → (p : Plan) (k s : ℕ) → (length (layout p k).stages ≡ stages_in p) × (length (tops p k s) ≡ stages_in p)
staged_by f are p k s = (let g = grows f are p in (g.count k, tops_length f k (layout p k).stages (tops p k s) (g.tops k s) ∙ g.count k))

part_at : (k m : ℕ) (ps : List Part) (ss : List Seed) (i : ℕ) → AreParts k m ps ss → IsPart k m (get_or ps i bare) (get_or ss i (leaf Nothing))
part_at k m [] [] i h = nothing_part k m
part_at k m [] (s ∷ ss) i h = absurd h
part_at k m (p ∷ ps) [] i h = absurd h
part_at k m (p ∷ ps) (s ∷ ss) zero h = h.0
part_at k m (p ∷ ps) (s ∷ ss) (suc i) h = part_at k m ps ss i h.1

pub part_of : (f : Doing) → AreOperators f → (p : Plan) (k s i : ℕ) → IsPart k (k + stages_in p) (get_or (layout p k).parts i bare) (get_or (partitions_of f p k s) i (leaf Nothing))
part_of f are p k s i = part_at k (k + stages_in p) (layout p k).parts (partitions_of f p k s) i ((grows f are p).parts k s)

is_tree : (k m c : ℕ) (p : Part) (s : Seed) → IsPart k m p s → IsTreeOf k m c p (s.tree c)
is_tree k m c p s h =
    let a = is_apart (s.tree c) p.receives (numbers_from c (length p.consumers)) (h.reads c) (h.reserves c) h.once (numbers_once c (length p.consumers)) in
    record {
      reads = h.reads c;
      reserves = h.reserves c;
      within = λ g d i. h.within g d (reads_has (s.tree c) p.receives g d (h.reads c) i);
      apart = a;
      linked = λ size. fresh_linked size (s.tree c) (h.fresh c) a;
    }

pub tree : (f : Doing) → AreOperators f → (p : Plan) (a : At) (i : ℕ)
    → IsTreeOf a.stage (a.stage + stages_in p) a.consumer (slice_index_or (layout p a.stage).parts i bare) (tree_of f p a i)
tree f are p a i = is_tree a.stage (a.stage + stages_in p) a.consumer (get_or (layout p a.stage).parts i bare) (get_or (partitions_of f p a.stage a.source) i (leaf Nothing)) (part_of f are p a.stage a.source i)

pub reads : (t : Tree) (xs : List (ℕ × ℕ)) → Reads t xs → (g c : ℕ) → (HasInlet g c t → names xs g c ≡ true) × (names xs g c ≡ true → HasInlet g c t)
reads t xs h g c = (λ i. count_names xs g c (reads_has t xs g c h i), λ i. has_reads t xs g c h (names_count xs g c i))

pub reserves : (t : Tree) (cs : List ℕ) → Reserves t cs → (c : ℕ) → (HasConsumer c t → has cs c ≡ true) × (has cs c ≡ true → HasConsumer c t)
reserves t cs h c = (λ i. count_has cs c (reserves_has t cs c h i), λ i. has_reserves t cs c h (has_count cs c i))

pub splits : (f : Doing) → AreOperators f → (p : Plan) (t : ℕ) → is_some (the_task (tasks_of f p) t).split ≡ is_some (task_at (shape p) t).sends
splits f are p t = (fit_at 0 (shape p).tasks (tasks_of f p) t (all_fit f are 0 p)).splits
