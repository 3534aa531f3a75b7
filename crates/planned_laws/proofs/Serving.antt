-- Which needs a plan serves, before and after exchanges and sorts are put in.
use Rattle.std.specs.Prelude.{nat_lt}
use Rattle.std.proofs.Common.{ℕ, ◌≡◌, refl, sym, ap, ◌∙◌, subst, cond, eqb, Bool, true, false, ◌&&◌, not, List, [], ◌∷◌, map}
use Rattle.std.proofs.lemmas.Bool.{false≢true}
use Rattle.dfx_value.specs.declared.rows.SortKey.{SortKey}
use Rattle.plan_props.specs.Satisfies.{satisfies_distribution, satisfies_order}
use Rattle.plan_props.specs.declared.properties.Partitioning.{Partitioning}
use Rattle.plan_props.specs.declared.properties.Partitioning.TheVariants as parting
use Rattle.plan_props.specs.declared.properties.Distribution.{Distribution}
use Rattle.plan_props.specs.declared.properties.Distribution.TheVariants as need
use Rattle.physical_plan.specs.declared.plan.Plan.{Plan}
use Rattle.physical_plan.specs.declared.plan.Plan.TheOpen.{Plan-F}
use Rattle.physical_plan.specs.declared.plan.Plan.TheViews.{roll-Plan}
use Rattle.physical_plan.specs.declared.plan.Plan.TheFolds.{map-Plan, ind-Plan, para-roll-Plan}
use Rattle.physical_plan.specs.declared.plan.Plan.TheVariants.{Scan, Filter, Project, PartialGroup, FinalGroup, HashJoin, Sort, Merge, Coalesce, Repartition, UnionAll, Limit, rolls-Scan, rolls-Filter, rolls-Project, rolls-PartialGroup, rolls-FinalGroup, rolls-HashJoin, rolls-Sort, rolls-Merge, rolls-Coalesce, rolls-Repartition, rolls-UnionAll, rolls-Limit, outs-Repartition}
use Rattle.physical_plan.specs.Properties.{props, partitions, left_keys, right_keys}
use Rattle.physical_plan.specs.Everywhere.{everywhere, all_true, kids}
use Rattle.physical_plan.specs.Needs.{group_need}
use Rattle.physical_plan.proofs.Everywhere.{both_true, and_parts, parts-Sort}
use Rattle.enforce_dist.specs.Distribute.{Below, gathered, gathered_by, hashed, grouped_input, join_input, distributed}
use Rattle.enforce_dist.proofs.Nodes.{distributed-Scan, distributed-Filter, distributed-Project, distributed-PartialGroup, distributed-FinalGroup, distributed-HashJoin, distributed-Sort, distributed-Merge, distributed-Coalesce, distributed-Repartition, distributed-UnionAll, distributed-Limit}
use Rattle.enforce_sort.specs.Arrange.{with_sort, enforce_sorting}
use Rattle.enforce_sort.proofs.Nodes.{arranged-Scan, arranged-Filter, arranged-Project, arranged-PartialGroup, arranged-FinalGroup, arranged-HashJoin, arranged-Sort, arranged-Merge, arranged-Coalesce, arranged-Repartition, arranged-UnionAll, arranged-Limit}
use Rattle.planned_laws.specs.Finished.{asks_hash, exchange_serves, serves_node, serves, all_serve, inputs_serve}
use Rattle.planned_laws.specs.Plain.{plain_node, plain_child, plain}
use Rattle.planned_laws.proofs.Likes.{like, sat_like}
use Rattle.planned_laws.proofs.Spreading.{passes, Spreads}
use Rattle.planned_laws.proofs.Sorting.{stays, Arranges}

-- ---- node by node

abbrev serves_at : Plan-F Plan → Distribution → Bool
serves_at (Plan-F.Sort x keys) d = serves x d
serves_at (Plan-F.Repartition x to) d = exchange_serves to x d
serves_at _ d = true

serves_roll : (z : Plan-F Plan) (d : Distribution) → serves (roll-Plan z) d ≡ serves_at z d
unfolding serves
serves_roll z d = ap (λ (f : Distribution → Bool). f d) (para-roll-Plan (Distribution → Bool) serves_node z) ∙ go z
  where
    go : (y : Plan-F Plan) → serves_node (map-Plan Plan (Plan × (Distribution → Bool)) (λ p. (p, serves p)) y) d ≡ serves_at y d
    go (Plan-F.Scan t k g c) = refl
    go (Plan-F.Filter x test) = refl
    go (Plan-F.Project x items) = refl
    go (Plan-F.PartialGroup x keys calls) = refl
    go (Plan-F.FinalGroup x keys calls) = refl
    go (Plan-F.HashJoin kind x y keys rest) = refl
    go (Plan-F.Sort x keys) = refl
    go (Plan-F.Merge x keys) = refl
    go (Plan-F.Coalesce x) = refl
    go (Plan-F.Repartition x to) = refl
    go (Plan-F.UnionAll xs) = refl
    go (Plan-F.Limit x skip fetch) = refl

serves_as : (q : Plan) (z : Plan-F Plan) (d : Distribution) → roll-Plan z ≡ q → serves q d ≡ serves_at z d
serves_as q z d e = ap (λ (p : Plan). serves p d) (sym e) ∙ serves_roll z d

serves_sort : (x : Plan) (keys : List SortKey) (d : Distribution) → serves (Sort x keys) d ≡ serves x d
serves_sort x keys d = serves_as (Sort x keys) (Plan-F.Sort x keys) d (rolls-Sort x keys)

-- ---- plans without exchanges serve every need

abbrev Plainly : Plan → Type 0
Plainly p = everywhere plain p ≡ true → plain_child p ≡ true → serves p need.Unspecified ≡ true

abbrev Plain_known : Type 0
Plain_known = (p : Plan) × Plainly p

plainly_step : (y : Plan-F Plain_known) → Plainly (roll-Plan (map-Plan Plain_known Plan (λ k. k.0) y))
plainly_step (Plan-F.Scan t k g c) = subst Plainly (sym (rolls-Scan t k g c)) (λ all top. serves_as _ _ need.Unspecified (rolls-Scan t k g c))
plainly_step (Plan-F.Filter x test) = subst Plainly (sym (rolls-Filter x.0 test)) (λ all top. serves_as _ _ need.Unspecified (rolls-Filter x.0 test))
plainly_step (Plan-F.Project x items) = subst Plainly (sym (rolls-Project x.0 items)) (λ all top. serves_as _ _ need.Unspecified (rolls-Project x.0 items))
plainly_step (Plan-F.PartialGroup x keys calls) = subst Plainly (sym (rolls-PartialGroup x.0 keys calls)) (λ all top. serves_as _ _ need.Unspecified (rolls-PartialGroup x.0 keys calls))
plainly_step (Plan-F.FinalGroup x keys calls) = subst Plainly (sym (rolls-FinalGroup x.0 keys calls)) (λ all top. serves_as _ _ need.Unspecified (rolls-FinalGroup x.0 keys calls))
plainly_step (Plan-F.HashJoin kind x y keys rest) = subst Plainly (sym (rolls-HashJoin kind x.0 y.0 keys rest)) (λ all top. serves_as _ _ need.Unspecified (rolls-HashJoin kind x.0 y.0 keys rest))
plainly_step (Plan-F.Sort x keys) = subst Plainly (sym (rolls-Sort x.0 keys)) (λ all top. let a = parts-Sort plain x.0 keys all in serves_sort x.0 keys need.Unspecified ∙ x.1 a.1 (and_parts (plain_child x.0) true (and_parts true (plain_child x.0 && true) a.0).1).0)
plainly_step (Plan-F.Merge x keys) = subst Plainly (sym (rolls-Merge x.0 keys)) (λ all top. serves_as _ _ need.Unspecified (rolls-Merge x.0 keys))
plainly_step (Plan-F.Coalesce x) = subst Plainly (sym (rolls-Coalesce x.0)) (λ all top. serves_as _ _ need.Unspecified (rolls-Coalesce x.0))
plainly_step (Plan-F.Repartition x to) = subst Plainly (sym (rolls-Repartition x.0 to)) (λ all top. absurd (false≢true (ap plain_node (sym (outs-Repartition x.0 to)) ∙ top)))
plainly_step (Plan-F.UnionAll xs) = subst Plainly (sym (rolls-UnionAll (map (λ (k : Plain_known). k.0) xs))) (λ all top. serves_as _ _ need.Unspecified (rolls-UnionAll (map (λ (k : Plain_known). k.0) xs)))
plainly_step (Plan-F.Limit x skip fetch) = subst Plainly (sym (rolls-Limit x.0 skip fetch)) (λ all top. serves_as _ _ need.Unspecified (rolls-Limit x.0 skip fetch))

plainly : (p : Plan) → everywhere plain p ≡ true → plain_child p ≡ true → serves p need.Unspecified ≡ true
plainly = ind-Plan Plainly (λ x y is. subst (λ z. Plainly (roll-Plan z)) is (plainly_step y))

-- the inputs of a node serve every need
abbrev pub no_exchange : Plan → Bool
no_exchange p = serves p need.Unspecified

abbrev pub no_exchanges : Plan-F Plan → Bool
no_exchanges z = all_true (map no_exchange (kids z))

all_plainly : (ps : List Plan) → all_true (map plain_child ps) ≡ true → all_true (map (everywhere plain) ps) ≡ true → all_true (map no_exchange ps) ≡ true
all_plainly [] h k = refl
all_plainly (p ∷ ps) h k =
    let a = and_parts (plain_child p) (all_true (map plain_child ps)) h in
    let b = and_parts (everywhere plain p) (all_true (map (everywhere plain) ps)) k in
    both_true _ _ (plainly p b.0 a.0) (all_plainly ps a.1 b.1)

pub plain_inputs : (z : Plan-F Plan) → plain z ≡ true → all_true (map (everywhere plain) (kids z)) ≡ true → no_exchanges z ≡ true
plain_inputs z e k = all_plainly (kids z) (and_parts (plain_node z) (all_true (map plain_child (kids z))) e).1 k

pub plain_root : (p : Plan) → everywhere plain p ≡ true → plain_child p ≡ true → no_exchange p ≡ true
plain_root = plainly

-- ---- once exchanges are put in

exchange_stays : (d : Distribution) (x y : Plan) (to : Partitioning) → exchange_serves to x need.Unspecified ≡ true → exchange_serves to y d ≡ true
exchange_stays d x y parting.Single h = refl
exchange_stays d x y (parting.RoundRobin m) h = refl
exchange_stays d x y (parting.Hash cs m) h = absurd (false≢true h)
exchange_stays d x y (parting.Unknown m) h = refl

module _ (n : ℕ) where
  abbrev Serving : Plan → Type 0
  Serving p = serves p need.Unspecified ≡ true → (b : Bool) (d : Distribution) → serves (distributed n p b) d ≡ true

  abbrev Known : Type 0
  Known = (p : Plan) × Serving p

  serving_step : (y : Plan-F Known) → Serving (roll-Plan (map-Plan Known Plan (λ k. k.0) y))
  serving_step (Plan-F.Scan t k g c) = subst Serving (sym (rolls-Scan t k g c)) (λ h b d. ap (λ (q : Plan). serves q d) (distributed-Scan n t k g c b) ∙ spread_scan d (b && nat_lt c n))
    where
      spread_scan : (d : Distribution) (w : Bool) → serves (cond w (Repartition (Scan t k g c) (parting.RoundRobin n)) (Scan t k g c)) d ≡ true
      spread_scan d true = serves_as _ _ d (rolls-Repartition (Scan t k g c) (parting.RoundRobin n))
      spread_scan d false = serves_as _ _ d (rolls-Scan t k g c)
  serving_step (Plan-F.Filter x test) = subst Serving (sym (rolls-Filter x.0 test)) (λ h b d. ap (λ (q : Plan). serves q d) (distributed-Filter n x.0 test b) ∙ serves_as _ _ d (rolls-Filter (distributed n x.0 b) test))
  serving_step (Plan-F.Project x items) = subst Serving (sym (rolls-Project x.0 items)) (λ h b d. ap (λ (q : Plan). serves q d) (distributed-Project n x.0 items b) ∙ serves_as _ _ d (rolls-Project (distributed n x.0 b) items))
  serving_step (Plan-F.PartialGroup x keys calls) = subst Serving (sym (rolls-PartialGroup x.0 keys calls)) (λ h b d. ap (λ (q : Plan). serves q d) (distributed-PartialGroup n x.0 keys calls b) ∙ serves_as _ _ d (rolls-PartialGroup (distributed n x.0 true) keys calls))
  serving_step (Plan-F.FinalGroup x keys calls) = subst Serving (sym (rolls-FinalGroup x.0 keys calls)) (λ h b d. ap (λ (q : Plan). serves q d) (distributed-FinalGroup n x.0 keys calls b) ∙ serves_as _ _ d (rolls-FinalGroup (grouped_input keys n (distributed n x.0 b)) keys calls))
  serving_step (Plan-F.HashJoin kind x y keys rest) = subst Serving (sym (rolls-HashJoin kind x.0 y.0 keys rest)) (λ h b d. ap (λ (q : Plan). serves q d) (distributed-HashJoin n kind x.0 y.0 keys rest b) ∙ serves_as _ _ d (rolls-HashJoin kind (join_input (left_keys keys) n (distributed n x.0 true)) (join_input (right_keys keys) n (distributed n y.0 true)) keys rest))
  serving_step (Plan-F.Sort x keys) = subst Serving (sym (rolls-Sort x.0 keys)) (λ h b d. ap (λ (q : Plan). serves q d) (distributed-Sort n x.0 keys b) ∙ serves_sort (distributed n x.0 true) keys d ∙ x.1 (sym (serves_sort x.0 keys need.Unspecified) ∙ h) true d)
  serving_step (Plan-F.Merge x keys) = subst Serving (sym (rolls-Merge x.0 keys)) (λ h b d. ap (λ (q : Plan). serves q d) (distributed-Merge n x.0 keys b) ∙ serves_as _ _ d (rolls-Merge (distributed n x.0 b) keys))
  serving_step (Plan-F.Coalesce x) = subst Serving (sym (rolls-Coalesce x.0)) (λ h b d. ap (λ (q : Plan). serves q d) (distributed-Coalesce n x.0 b) ∙ serves_as _ _ d (rolls-Coalesce (distributed n x.0 b)))
  serving_step (Plan-F.Repartition x to) = subst Serving (sym (rolls-Repartition x.0 to)) (λ h b d. ap (λ (q : Plan). serves q d) (distributed-Repartition n x.0 to b) ∙ serves_as _ _ d (rolls-Repartition (distributed n x.0 b) to) ∙ exchange_stays d x.0 (distributed n x.0 b) to (sym (serves_as _ _ need.Unspecified (rolls-Repartition x.0 to)) ∙ h))
  serving_step (Plan-F.UnionAll xs) = subst Serving (sym (rolls-UnionAll (map (λ (k : Known). k.0) xs))) (λ h b d. ap (λ (q : Plan). serves q d) (distributed-UnionAll n (map (λ (k : Known). k.0) xs) b) ∙ serves_as _ _ d (rolls-UnionAll (map (λ (f : Below). f b) (map (distributed n) (map (λ (k : Known). k.0) xs)))))
  serving_step (Plan-F.Limit x skip fetch) = subst Serving (sym (rolls-Limit x.0 skip fetch)) (λ h b d. ap (λ (q : Plan). serves q d) (distributed-Limit n x.0 skip fetch b) ∙ serves_as _ _ d (rolls-Limit (gathered (distributed n x.0 b)) skip fetch))

  pub serves_distributed : (p : Plan) → serves p need.Unspecified ≡ true → (b : Bool) (d : Distribution) → serves (distributed n p b) d ≡ true
  serves_distributed = ind-Plan Serving (λ x y is. subst (λ z. Serving (roll-Plan z)) is (serving_step y))

  pub gathered_serves : (d : Distribution) (p : Plan) → serves p d ≡ true → serves (gathered p) d ≡ true
  gathered_serves d p h = go (eqb (partitions p) 1)
    where
      by : (keys : List SortKey) → serves (gathered_by keys p) d ≡ true
      by [] = serves_as _ _ d (rolls-Coalesce p)
      by (k ∷ keys) = serves_as _ _ d (rolls-Merge p (k ∷ keys))

      go : (t : Bool) → serves (cond t p (gathered_by (props p).ordering p)) d ≡ true
      go true = h
      go false = by (props p).ordering

  hashed_serves : (d : Distribution) (keys : List ℕ) (p : Plan) → asks_hash d ≡ true → serves p d ≡ true → serves (hashed d keys n p) d ≡ true
  hashed_serves d keys p a h = go (satisfies_distribution (props p) d) refl
    where
      go : (t : Bool) → satisfies_distribution (props p) d ≡ t → serves (cond t p (Repartition p (parting.Hash keys n))) d ≡ true
      go true e = h
      go false e = serves_as _ _ d (rolls-Repartition p (parting.Hash keys n)) ∙ both_true _ _ a (ap not e)

  grouped_serves : (keys : List ℕ) (p : Plan) → ((d : Distribution) → serves p d ≡ true) → serves (grouped_input keys n p) (group_need keys n) ≡ true
  grouped_serves [] p h = gathered_serves need.Single p (h need.Single)
  grouped_serves (k ∷ keys) p h = hashed_serves (need.Hash (k ∷ keys) n) (k ∷ keys) p refl (h (need.Hash (k ∷ keys) n))

  joined_serves : (keys : List ℕ) (p : Plan) → ((d : Distribution) → serves p d ≡ true) → serves (join_input keys n p) (need.JoinHash keys n) ≡ true
  joined_serves keys p h = hashed_serves (need.JoinHash keys n) keys p refl (h (need.JoinHash keys n))

  all_distributed : (b : Bool) (ps : List Plan) → all_true (map no_exchange ps) ≡ true → all_serve (map (λ (p : Plan). distributed n p b) ps) ≡ true
  all_distributed b [] h = refl
  all_distributed b (p ∷ ps) h =
      let a = and_parts (no_exchange p) (all_true (map no_exchange ps)) h in
      both_true _ _ (serves_distributed p a.0 b need.Unspecified) (all_distributed b ps a.1)

  serve_same : (z : Plan-F Plan) (b : Bool) → passes z ≡ true → no_exchanges z ≡ true → inputs_serve n (map-Plan Plan Plan (λ p. distributed n p b) z) ≡ true
  serve_same (Plan-F.Scan t k g c) b e h = refl
  serve_same (Plan-F.FinalGroup x keys calls) b e h = absurd (false≢true e)
  serve_same (Plan-F.HashJoin kind x y keys rest) b e h = absurd (false≢true e)
  serve_same (Plan-F.Limit x skip fetch) b e h = absurd (false≢true e)
  serve_same (Plan-F.Sort x keys) b e h = refl
  serve_same (Plan-F.Merge x keys) b e h = all_distributed b (x ∷ []) h
  serve_same (Plan-F.Coalesce x) b e h = all_distributed b (x ∷ []) h
  serve_same (Plan-F.Repartition x to) b e h = all_distributed b (x ∷ []) h
  serve_same (Plan-F.Filter x test) b e h = all_distributed b (x ∷ []) h
  serve_same (Plan-F.Project x items) b e h = all_distributed b (x ∷ []) h
  serve_same (Plan-F.PartialGroup x keys calls) b e h = all_distributed b (x ∷ []) h
  serve_same (Plan-F.UnionAll xs) b e h = all_distributed b xs h

  one : (p : Plan) → no_exchange p && true ≡ true → no_exchange p ≡ true
  one p h = (and_parts (no_exchange p) true h).0

  pub serves_spread : Spreads n no_exchanges no_exchange (inputs_serve n)
  serves_spread = record {
    child = λ z e. e;
    scan = λ t k f p. refl;
    robin = λ t k f p. both_true _ _ (serves_as _ _ need.Unspecified (rolls-Scan t k f p)) refl;
    same = λ z b e t. serve_same z b e t;
    group = λ p keys calls b t. grouped_serves keys (distributed n p b) (serves_distributed p (one p t) b);
    join = λ kind p q keys rest t.
        let a = and_parts (no_exchange p) (no_exchange q && true) t in
        both_true _ _ (joined_serves (left_keys keys) (distributed n p true) (serves_distributed p a.0 true)) (joined_serves (right_keys keys) (distributed n q true) (serves_distributed q (one q a.1) true));
    limit = λ p skip fetch b t. both_true _ _ (gathered_serves need.Unspecified (distributed n p b) (serves_distributed p (one p t) b need.Unspecified)) refl;
    hash = λ p b d keys c e. both_true _ _ (serves_distributed p c b need.Unspecified) refl;
    coalesce = λ p b c e. both_true _ _ (serves_distributed p c b need.Unspecified) refl;
    merge = λ p b keys c e o. both_true _ _ (serves_distributed p c b need.Unspecified) refl;
  }

-- ---- once sorts are put in and dropped

serves_sorted : (keys : List SortKey) (p : Plan) (d : Distribution) → serves (with_sort keys p) d ≡ serves p d
serves_sorted keys p d = go (satisfies_order (props p) keys)
  where
    go : (t : Bool) → serves (cond t p (Sort p keys)) d ≡ serves p d
    go true = refl
    go false = serves_sort p keys d

exchange_like : (d : Distribution) (x : Plan) (to : Partitioning) → exchange_serves to (enforce_sorting x) d ≡ exchange_serves to x d
exchange_like d x parting.Single = refl
exchange_like d x (parting.RoundRobin m) = refl
exchange_like d x (parting.Hash cs m) = ap (λ (b : Bool). asks_hash d && not b) (sat_like d (enforce_sorting x) x (like x))
exchange_like d x (parting.Unknown m) = refl

abbrev Stays : Plan → Type 0
Stays p = (d : Distribution) → serves (enforce_sorting p) d ≡ serves p d

abbrev Stay_known : Type 0
Stay_known = (p : Plan) × Stays p

stays_step : (y : Plan-F Stay_known) → Stays (roll-Plan (map-Plan Stay_known Plan (λ k. k.0) y))
stays_step (Plan-F.Scan t k g c) = subst Stays (sym (rolls-Scan t k g c)) (λ d. ap (λ (q : Plan). serves q d) (arranged-Scan t k g c))
stays_step (Plan-F.Filter x test) = subst Stays (sym (rolls-Filter x.0 test)) (λ d. ap (λ (q : Plan). serves q d) (arranged-Filter x.0 test) ∙ serves_as _ _ d (rolls-Filter (enforce_sorting x.0) test) ∙ sym (serves_as _ _ d (rolls-Filter x.0 test)))
stays_step (Plan-F.Project x items) = subst Stays (sym (rolls-Project x.0 items)) (λ d. ap (λ (q : Plan). serves q d) (arranged-Project x.0 items) ∙ serves_as _ _ d (rolls-Project (enforce_sorting x.0) items) ∙ sym (serves_as _ _ d (rolls-Project x.0 items)))
stays_step (Plan-F.PartialGroup x keys calls) = subst Stays (sym (rolls-PartialGroup x.0 keys calls)) (λ d. ap (λ (q : Plan). serves q d) (arranged-PartialGroup x.0 keys calls) ∙ serves_as _ _ d (rolls-PartialGroup (enforce_sorting x.0) keys calls) ∙ sym (serves_as _ _ d (rolls-PartialGroup x.0 keys calls)))
stays_step (Plan-F.FinalGroup x keys calls) = subst Stays (sym (rolls-FinalGroup x.0 keys calls)) (λ d. ap (λ (q : Plan). serves q d) (arranged-FinalGroup x.0 keys calls) ∙ serves_as _ _ d (rolls-FinalGroup (enforce_sorting x.0) keys calls) ∙ sym (serves_as _ _ d (rolls-FinalGroup x.0 keys calls)))
stays_step (Plan-F.HashJoin kind x y keys rest) = subst Stays (sym (rolls-HashJoin kind x.0 y.0 keys rest)) (λ d. ap (λ (q : Plan). serves q d) (arranged-HashJoin kind x.0 y.0 keys rest) ∙ serves_as _ _ d (rolls-HashJoin kind (enforce_sorting x.0) (enforce_sorting y.0) keys rest) ∙ sym (serves_as _ _ d (rolls-HashJoin kind x.0 y.0 keys rest)))
stays_step (Plan-F.Sort x keys) = subst Stays (sym (rolls-Sort x.0 keys)) (λ d. ap (λ (q : Plan). serves q d) (arranged-Sort x.0 keys) ∙ serves_sorted keys (enforce_sorting x.0) d ∙ x.1 d ∙ sym (serves_sort x.0 keys d))
stays_step (Plan-F.Merge x keys) = subst Stays (sym (rolls-Merge x.0 keys)) (λ d. ap (λ (q : Plan). serves q d) (arranged-Merge x.0 keys) ∙ serves_as _ _ d (rolls-Merge (with_sort keys (enforce_sorting x.0)) keys) ∙ sym (serves_as _ _ d (rolls-Merge x.0 keys)))
stays_step (Plan-F.Coalesce x) = subst Stays (sym (rolls-Coalesce x.0)) (λ d. ap (λ (q : Plan). serves q d) (arranged-Coalesce x.0) ∙ serves_as _ _ d (rolls-Coalesce (enforce_sorting x.0)) ∙ sym (serves_as _ _ d (rolls-Coalesce x.0)))
stays_step (Plan-F.Repartition x to) = subst Stays (sym (rolls-Repartition x.0 to)) (λ d. ap (λ (q : Plan). serves q d) (arranged-Repartition x.0 to) ∙ serves_as _ _ d (rolls-Repartition (enforce_sorting x.0) to) ∙ exchange_like d x.0 to ∙ sym (serves_as _ _ d (rolls-Repartition x.0 to)))
stays_step (Plan-F.UnionAll xs) = subst Stays (sym (rolls-UnionAll (map (λ (k : Stay_known). k.0) xs))) (λ d. ap (λ (q : Plan). serves q d) (arranged-UnionAll (map (λ (k : Stay_known). k.0) xs)) ∙ serves_as _ _ d (rolls-UnionAll (map enforce_sorting (map (λ (k : Stay_known). k.0) xs))) ∙ sym (serves_as _ _ d (rolls-UnionAll (map (λ (k : Stay_known). k.0) xs))))
stays_step (Plan-F.Limit x skip fetch) = subst Stays (sym (rolls-Limit x.0 skip fetch)) (λ d. ap (λ (q : Plan). serves q d) (arranged-Limit x.0 skip fetch) ∙ serves_as _ _ d (rolls-Limit (enforce_sorting x.0) skip fetch) ∙ sym (serves_as _ _ d (rolls-Limit x.0 skip fetch)))

pub serves_arranged : (p : Plan) (d : Distribution) → serves (enforce_sorting p) d ≡ serves p d
serves_arranged = ind-Plan Stays (λ x y is. subst (λ z. Stays (roll-Plan z)) is (stays_step y))

all_stay : (ps : List Plan) → all_serve (map enforce_sorting ps) ≡ all_serve ps
all_stay [] = refl
all_stay (p ∷ ps) = ap (λ (b : Bool). b && all_serve (map enforce_sorting ps)) (serves_arranged p need.Unspecified) ∙ ap (λ (b : Bool). serves p need.Unspecified && b) (all_stay ps)

module _ (n : ℕ) where
  serve_stays : (z : Plan-F Plan) → stays z ≡ true → inputs_serve n z ≡ true → inputs_serve n (map-Plan Plan Plan enforce_sorting z) ≡ true
  serve_stays (Plan-F.Sort x keys) s h = absurd (false≢true s)
  serve_stays (Plan-F.Merge x keys) s h = absurd (false≢true s)
  serve_stays (Plan-F.Scan t k g c) s h = refl
  serve_stays (Plan-F.FinalGroup x keys calls) s h = serves_arranged x (group_need keys n) ∙ h
  serve_stays (Plan-F.HashJoin kind x y keys rest) s h =
      let a = and_parts (serves x (need.JoinHash (left_keys keys) n)) (serves y (need.JoinHash (right_keys keys) n)) h in
      both_true _ _ (serves_arranged x (need.JoinHash (left_keys keys) n) ∙ a.0) (serves_arranged y (need.JoinHash (right_keys keys) n) ∙ a.1)
  serve_stays (Plan-F.Filter x test) s h = all_stay (x ∷ []) ∙ h
  serve_stays (Plan-F.Project x items) s h = all_stay (x ∷ []) ∙ h
  serve_stays (Plan-F.PartialGroup x keys calls) s h = all_stay (x ∷ []) ∙ h
  serve_stays (Plan-F.Coalesce x) s h = all_stay (x ∷ []) ∙ h
  serve_stays (Plan-F.Repartition x to) s h = all_stay (x ∷ []) ∙ h
  serve_stays (Plan-F.Limit x skip fetch) s h = all_stay (x ∷ []) ∙ h
  serve_stays (Plan-F.UnionAll xs) s h = all_stay xs ∙ h

  pub serves_arrange : Arranges (inputs_serve n) (inputs_serve n)
  serves_arrange = record {
    same = λ z s t k. serve_stays z s t;
    sort = λ p keys t k e. refl;
    below = λ p keys t k e. refl;
    merge = λ p keys t k. both_true _ _ (serves_sorted keys (enforce_sorting p) need.Unspecified ∙ serves_arranged p need.Unspecified ∙ (and_parts (serves p need.Unspecified) true t).0) refl;
  }
