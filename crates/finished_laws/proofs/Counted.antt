-- A plan whose needs are met has as many partitions as it declares.
use Rattle.std.specs.Prelude.{max, sum}
use Rattle.std.proofs.Common.{ℕ, ◌+◌, ◌≡◌, ◌≢◌, ◌⊎◌, inl, inr, eqb, cond, ◌==◌, refl, sym, ap, ◌∙◌, subst, List, [], ◌∷◌, map, Bool, true, false, ◌&&◌, Option, Some, None, arith}
use Rattle.std.specs.List.{sum_by}
use Rattle.std.proofs.lemmas.Bool.Decides.{eqb_tells}
use Rattle.std.proofs.lemmas.List.Sums.{sum_by_from}
use Rattle.dfx_value.specs.declared.rows.SortKey.{SortKey}
use Rattle.dfx_value.specs.declared.op.JoinKind.{JoinKind}
use Rattle.dfx_value.specs.declared.op.JoinKind.TheVariants as joins
use Rattle.plan_props.specs.declared.properties.Partitioning.{Partitioning}
use Rattle.plan_props.specs.declared.properties.Partitioning.TheVariants as parting
use Rattle.plan_props.specs.declared.properties.Props.{Props}
use Rattle.plan_props.specs.declared.properties.Distribution.TheVariants as need
use Rattle.plan_props.specs.Satisfies.{partition_count, satisfies_distribution, hashed_by_each}
use Rattle.physical_plan.specs.declared.properties.Declared.{Declared}
use Rattle.physical_plan.specs.declared.plan.Plan.{Plan}
use Rattle.physical_plan.specs.declared.plan.Plan.TheOpen.{Plan-F}
use Rattle.physical_plan.specs.declared.plan.Plan.TheViews.{roll-Plan}
use Rattle.physical_plan.specs.declared.plan.Plan.TheFolds.{fold-roll-Plan, map-Plan, ind-Plan}
use Rattle.plan_shape.specs.Counts.{Counted, count_node, counts_of, in_all}
use Rattle.physical_plan.specs.Properties.{Renaming, or_single, all_renamed, hashed_or_unknown, partitioning_renamed, join_partitioning, declared_partitions, counts, declared, declared_of, partitions, place_in, item_columns, kept_columns, props, left_keys, right_keys}
use Rattle.physical_plan.specs.Everywhere.{Test, node_holds, everywhere, all_true}
use Rattle.physical_plan.specs.Needs.{spread_needs}
use Rattle.planned_laws.specs.Finished.{IsFinished}
use Rattle.answer_laws.proofs.Meaning.{both_true, equal_is}
use Rattle.finished_laws.proofs.Everywhere.{rolled, seconds, one_below, two_below}

pub single_count : (p : Partitioning) → partition_count (or_single p) ≡ partition_count p
single_count p = by (eqb_tells (partition_count p) 1)
  where
    by : ((eqb (partition_count p) 1 ≡ true) × (partition_count p ≡ 1)) ⊎ ((eqb (partition_count p) 1 ≡ false) × (partition_count p ≢ 1)) → partition_count (cond (eqb (partition_count p) 1) parting.Single p) ≡ partition_count p
    by (inl w) = ap (λ (b : Bool). partition_count (cond b parting.Single p)) w.0 ∙ sym w.1
    by (inr w) = ap (λ (b : Bool). partition_count (cond b parting.Single p)) w.0

hashed_count : (o : Option (List ℕ)) (n : ℕ) → partition_count (hashed_or_unknown o n) ≡ n
hashed_count None n = refl
hashed_count (Some ds) n = refl

pub renamed_count : (f : Renaming) (p : Partitioning) → partition_count (partitioning_renamed f p) ≡ partition_count p
renamed_count f parting.Single = refl
renamed_count f (parting.RoundRobin n) = refl
renamed_count f (parting.Hash cs n) = hashed_count (all_renamed f cs) n
renamed_count f (parting.Unknown n) = refl

join_count : (kind : JoinKind) (w : ℕ) (keys : List (ℕ × ℕ)) (n : ℕ) → partition_count (join_partitioning kind w keys n) ≡ n
join_count joins.Inner w keys n = refl
join_count joins.Left w keys n = refl
join_count joins.Right w keys n = refl
join_count joins.Full w keys n = refl

-- a join's side has so many partitions
pub joins_to : (p : Props) (keys : List ℕ) (n : ℕ) → satisfies_distribution p (need.JoinHash keys n) ≡ true → partition_count p.partitioning ≡ n
unfolding satisfies_distribution
joins_to p keys n h = equal_is (partition_count p.partitioning) n (both_true (partition_count p.partitioning == n) (hashed_by_each p.same keys p.partitioning) h).0

sum_front : (x : ℕ) (xs : List ℕ) → sum (x ∷ xs) ≡ x + sum xs
sum_front x xs = sum_by_from (λ (y : ℕ). y) (0 + x) xs ∙ moved (sum_by (λ (y : ℕ). y) xs) ∙ ap (λ (n : ℕ). x + n) (sym (sum_by_from (λ (y : ℕ). y) 0 xs))
  where
    moved : (n : ℕ) → 0 + x + n ≡ x + (0 + n)
    moved n = omega arith

max_same : (n : ℕ) → max n n ≡ n
max_same n = omega arith

module _ (n : ℕ) where
  abbrev test : Test
  test = spread_needs n

  abbrev CountOf : Plan → Type 0
  CountOf p = everywhere test p ≡ true → (counts_of p).parts ≡ partitions p

  abbrev Known : Type 0
  Known = (p : Plan) × CountOf p

  abbrev plans : List Known → List Plan
  plans ps = map (λ (p : Known). p.0) ps

  level : (z : Plan-F Plan)
      → (node_holds test (map-Plan Plan (Plan × Bool) (λ p. (p, everywhere test p)) z) ≡ true → (count_node (map-Plan Plan Counted counts_of z)).parts ≡ declared_partitions (declared (map-Plan Plan Declared declared_of z)))
      → CountOf (roll-Plan z)
  unfolding counts_of declared_of
  level z h e =
      ap (λ (c : Counted). c.parts) (fold-roll-Plan Counted count_node z)
      ∙ h (sym (rolled test z) ∙ e)
      ∙ ap (λ (d : Declared). declared_partitions d) (sym (fold-roll-Plan Declared declared z))

  below : (z : Bool) (p : Known) → z && (everywhere test p.0 && true) ≡ true → (counts_of p.0).parts ≡ partitions p.0
  below z p h = p.1 (one_below z (everywhere test p.0) h).1

  united : (ps : List Known) → all_true (map (everywhere test) (plans ps)) ≡ true → (in_all (map counts_of (plans ps))).parts ≡ sum (counts (map declared_of (plans ps)))
  united [] h = refl
  united (p ∷ ps) h =
      let b = both_true (everywhere test p.0) (all_true (map (everywhere test) (plans ps))) h in
      ap (λ (m : ℕ). m + (in_all (map counts_of (plans ps))).parts) (p.1 b.0) ∙ ap (λ (m : ℕ). partitions p.0 + m) (united ps b.1)
      ∙ sym (sum_front (partitions p.0) (counts (map declared_of (plans ps))))

  step : (y : Plan-F Known) → CountOf (roll-Plan (map-Plan Known Plan (λ k. k.0) y))
  step (Plan-F.Scan table kinds files partitions) = level (Plan-F.Scan table kinds files partitions) (λ h. sym (single_count (parting.Unknown partitions)))
  step (Plan-F.Filter p cond) = level (Plan-F.Filter p.0 cond) (λ h. below true p h)
  step (Plan-F.Project p items) = level (Plan-F.Project p.0 items) (λ h. below true p h ∙ sym (renamed_count (place_in (item_columns items)) (props p.0).partitioning))
  step (Plan-F.PartialGroup p keys calls) = level (Plan-F.PartialGroup p.0 keys calls) (λ h. below true p h ∙ sym (renamed_count (place_in (kept_columns keys)) (props p.0).partitioning))
  step (Plan-F.FinalGroup p keys calls) = level (Plan-F.FinalGroup p.0 keys calls) (λ h. below (test (Plan-F.FinalGroup p.0 keys calls)) p h ∙ sym (renamed_count (place_in (kept_columns keys)) (props p.0).partitioning))
  step (Plan-F.HashJoin kind p q keys rest) = level (Plan-F.HashJoin kind p.0 q.0 keys rest) (λ h. (
      let l = satisfies_distribution (props p.0) (need.JoinHash (left_keys keys) n) in
      let r = satisfies_distribution (props q.0) (need.JoinHash (right_keys keys) n) in
      let b = two_below (l && r) (everywhere test p.0) (everywhere test q.0) h in
      let d = both_true l r b.0 in
      let x : partitions p.0 ≡ n = joins_to (props p.0) (left_keys keys) n d.0 in
      let y : partitions q.0 ≡ n = joins_to (props q.0) (right_keys keys) n d.1 in
      ap (λ (m : ℕ). max m (counts_of q.0).parts) (p.1 b.1 ∙ x) ∙ ap (λ (m : ℕ). max n m) (q.1 b.2 ∙ y) ∙ max_same n ∙ sym x
      ∙ sym (single_count (join_partitioning kind (declared_of p.0).width keys (partitions p.0)) ∙ join_count kind (declared_of p.0).width keys (partitions p.0))))
  step (Plan-F.Sort p keys) = level (Plan-F.Sort p.0 keys) (λ h. below true p h)
  step (Plan-F.Merge p keys) = level (Plan-F.Merge p.0 keys) (λ h. refl)
  step (Plan-F.Coalesce p) = level (Plan-F.Coalesce p.0) (λ h. refl)
  step (Plan-F.Repartition p to) = level (Plan-F.Repartition p.0 to) (λ h. sym (single_count to))
  step (Plan-F.UnionAll ps) = level (Plan-F.UnionAll (plans ps)) (λ h. united ps (sym (ap all_true (seconds test (plans ps))) ∙ h) ∙ sym (single_count (parting.Unknown (sum (counts (map declared_of (plans ps)))))))
  step (Plan-F.Limit p skip fetch) = level (Plan-F.Limit p.0 skip fetch) (λ h. below (test (Plan-F.Limit p.0 skip fetch)) p h)

  pub counted_at : (p : Plan) → CountOf p
  counted_at = ind-Plan CountOf (λ x y is. subst (λ z. CountOf (roll-Plan z)) is (step y))

pub counted : (n : ℕ) (p : Plan) → everywhere (spread_needs n) p ≡ true → (counts_of p).parts ≡ partitions p
counted n p = counted_at n p

pub single : (plain p : Plan) (order : List SortKey) (n : ℕ) → IsFinished plain order n p → (counts_of p).parts ≡ 1
single plain p order n h = counted n p h.spread_met ∙ h.root_single
