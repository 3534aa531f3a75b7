-- Each exchange of a lean plan has a channel.
use Rattle.std.proofs.Common.{ℕ, ◌+◌, ◌<◌, ◌≡◌, sym, ap, ◌∙◌, subst, List, [], ◌∷◌, ◌++◌, map, Bool, true, ◌&&◌}
use Rattle.std.proofs.lemmas.Bool.{false≢true}
use Rattle.dfx_value.specs.declared.rows.SortKey.{SortKey}
use Rattle.plan_props.specs.declared.properties.Partitioning.{Partitioning}
use Rattle.plan_props.specs.declared.properties.Partitioning.TheVariants as parting
use Rattle.physical_plan.specs.declared.plan.Plan.{Plan}
use Rattle.physical_plan.specs.declared.plan.Plan.TheOpen.{Plan-F}
use Rattle.physical_plan.specs.declared.plan.Plan.TheViews.{roll-Plan}
use Rattle.physical_plan.specs.declared.plan.Plan.TheFolds.{map-Plan, ind-Plan}
use Rattle.physical_plan.specs.Everywhere.{Test, node_holds, everywhere, all_true}
use Rattle.planned_laws.specs.Finished.{lean, goes_to, IsFinished}
use Rattle.plan_task_laws.specs.Trees.{stages_in, sources_in}
use Rattle.plan_task_laws.specs.Tops.{Top, Topping, top_node, tops, tops_after, way_to}
use Rattle.plan_task_laws.specs.Placed.{IsOpen, AllOpen, HasChannels}
use Rattle.plan_task_laws.proofs.Laws.{topped}
use Rattle.answer_laws.proofs.Meaning.{both_true, equal_is}
use Rattle.finished_laws.proofs.Everywhere.{rolled, seconds, one_below, two_below}

all_open : (ts us : List Top) → AllOpen ts → AllOpen us → AllOpen (ts ++ us)
all_open [] us h i = i
all_open (t ∷ ts) us h i = (h.0, all_open ts us h.1 i)

way_open : (n : ℕ) → 0 < n → (to : Partitioning) → goes_to n to ≡ true → IsOpen (way_to to)
way_open n l parting.Single e = absurd (false≢true e)
way_open n l (parting.RoundRobin m) e = subst (λ (k : ℕ). 0 < k) (sym (equal_is m n e)) l
way_open n l (parting.Hash cs m) e = subst (λ (k : ℕ). 0 < k) (sym (equal_is m n e)) l
way_open n l (parting.Unknown m) e = absurd (false≢true e)

module _ (n : ℕ) (more : 0 < n) where
  abbrev test : Test
  test = lean n

  abbrev Opens : Plan → Type 0
  Opens p = everywhere test p ≡ true → (k s : ℕ) → AllOpen (tops p k s)

  abbrev Known : Type 0
  Known = (p : Plan) × Opens p

  abbrev plans : List Known → List Plan
  plans ps = map (λ (p : Known). p.0) ps

  level : (z : Plan-F Plan) → (node_holds test (map-Plan Plan (Plan × Bool) (λ p. (p, everywhere test p)) z) ≡ true → (k s : ℕ) → AllOpen (top_node (map-Plan Plan (Plan × Topping) (λ p. (p, tops p)) z) k s)) → Opens (roll-Plan z)
  level z h = (let a = rolled test z in let b = topped z in rw (a, b) h)

  united : (ps : List Known) → all_true (map (everywhere test) (plans ps)) ≡ true → (k s : ℕ) → AllOpen (tops_after (map (λ (p : Plan). (p, tops p)) (plans ps)) k s)
  united [] h k s = tt
  united (p ∷ ps) h k s =
      let b = both_true (everywhere test p.0) (all_true (map (everywhere test) (plans ps))) h in
      all_open (tops p.0 k s) (tops_after (map (λ (p : Plan). (p, tops p)) (plans ps)) (k + stages_in p.0) (s + sources_in p.0)) (p.1 b.0 k s) (united ps b.1 (k + stages_in p.0) (s + sources_in p.0))

  below : (z : Bool) (p : Known) → z && (everywhere test p.0 && true) ≡ true → (k s : ℕ) → AllOpen (tops p.0 k s)
  below z p h k s = p.1 (one_below z (everywhere test p.0) h).1 k s

  step : (y : Plan-F Known) → Opens (roll-Plan (map-Plan Known Plan (λ k. k.0) y))
  step (Plan-F.Scan table kinds files partitions) = level (Plan-F.Scan table kinds files partitions) (λ h k s. tt)
  step (Plan-F.Filter p cond) = level (Plan-F.Filter p.0 cond) (λ h k s. below true p h k s)
  step (Plan-F.Project p items) = level (Plan-F.Project p.0 items) (λ h k s. below true p h k s)
  step (Plan-F.PartialGroup p keys calls) = level (Plan-F.PartialGroup p.0 keys calls) (λ h k s. below true p h k s)
  step (Plan-F.FinalGroup p keys calls) = level (Plan-F.FinalGroup p.0 keys calls) (λ h k s. below true p h k s)
  step (Plan-F.HashJoin kind p q keys rest) = level (Plan-F.HashJoin kind p.0 q.0 keys rest) (λ h k s. (
      let b = two_below true (everywhere test p.0) (everywhere test q.0) h in
      all_open (tops p.0 k s) (tops q.0 (k + stages_in p.0) (s + sources_in p.0)) (p.1 b.1 k s) (q.1 b.2 (k + stages_in p.0) (s + sources_in p.0))))
  step (Plan-F.Sort p keys) = level (Plan-F.Sort p.0 keys) (λ h k s. below (test (Plan-F.Sort p.0 keys)) p h k s)
  step (Plan-F.Merge p keys) = level (Plan-F.Merge p.0 keys) (λ h k s. (tt, below (test (Plan-F.Merge p.0 keys)) p h (k + 1) s))
  step (Plan-F.Coalesce p) = level (Plan-F.Coalesce p.0) (λ h k s. (tt, below (test (Plan-F.Coalesce p.0)) p h (k + 1) s))
  step (Plan-F.Repartition p to) = level (Plan-F.Repartition p.0 to) (λ h k s. (
      let b = one_below (goes_to n to) (everywhere test p.0) h in
      (way_open n more to b.0, p.1 b.1 (k + 1) s)))
  step (Plan-F.UnionAll ps) = level (Plan-F.UnionAll (plans ps)) (λ h k s. united ps (sym (ap all_true (seconds test (plans ps))) ∙ h) k s)
  step (Plan-F.Limit p skip fetch) = level (Plan-F.Limit p.0 skip fetch) (λ h k s. below true p h k s)

  pub opens : (p : Plan) → Opens p
  opens = ind-Plan Opens (λ x y is. subst (λ z. Opens (roll-Plan z)) is (step y))

pub channels : (plain p : Plan) (order : List SortKey) (n : ℕ) → 0 < n → IsFinished plain order n p → HasChannels p
channels plain p order n more h = (tt, opens n more p h.lean_nodes 1 0)
