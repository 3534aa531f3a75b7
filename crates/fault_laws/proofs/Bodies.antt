-- A finished plan meets the faults that its query's body meets.
use Rattle.std.specs.Prelude.{nat_lt, min, max}
use Rattle.std.proofs.Common.{ℕ, ◌≡◌, refl, sym, ap, ◌∙◌, subst, List, [], ◌∷◌, ◌++◌, length, get_or, map, Bool, true, false, ◌&&◌, ◌||◌, Option, is_some, cond}
use Rattle.dfx_value.specs.KindedRows.{all_are}
use Rattle.dfx_value.specs.declared.fault.ItemFault.{ItemFault}
use Rattle.dfx_value.specs.declared.op.AggCall.{AggCall}
use Rattle.dfx_value.specs.declared.rows.SortKey.{SortKey}
use Rattle.logical_plan.specs.declared.plan.Logical.{Logical}
use Rattle.logical_plan.specs.declared.plan.Logical.TheOpen.{Logical-F}
use Rattle.logical_plan.specs.declared.plan.Logical.TheViews.{roll-Logical}
use Rattle.logical_plan.specs.declared.plan.Logical.TheFolds.{fold-roll-Logical, para-roll-Logical, map-Logical, ind-Logical}
use Rattle.logical_plan.specs.declared.query.Query.{Query}
use Rattle.logical_plan.specs.Items.{Item, rows, faults, concat, filter_items, project_items}
use Rattle.logical_plan.specs.Joins.{joined}
use Rattle.logical_plan.specs.Groups.{aggregated}
use Rattle.logical_plan.specs.Body as body
use Rattle.logical_plan.specs.Body.{Tables, Part, meant_part, scan, all_faults}
use Rattle.physical_plan.specs.declared.plan.Plan.{Plan}
use Rattle.physical_plan.specs.declared.plan.Plan.TheVariants as plan
use Rattle.physical_plan.specs.declared.plan.Plan.TheVariants.{rolls-Scan, rolls-Filter, rolls-Project, rolls-PartialGroup, rolls-FinalGroup, rolls-HashJoin, rolls-Sort, rolls-UnionAll, rolls-Limit}
use Rattle.physical_plan.specs.declared.plan.Plan.TheOpen.{Plan-F}
use Rattle.physical_plan.specs.declared.plan.Plan.TheViews.{roll-Plan}
use Rattle.physical_plan.specs.declared.plan.Plan.TheFolds.{fold-roll-Plan, para-roll-Plan, map-Plan, ind-Plan}
use Rattle.physical_plan.specs.Numbers.{numbers}
use Rattle.answer_laws.specs.Meant.{Meaning, meaning, answered, meaning_of, meant, Phases}
use Rattle.physical_plan.specs.Everywhere.{bare_node, erased, all_true}
use Rattle.physical_build.specs.Build.{sorted_by, limited, Built, node, built_of, body_plan, build, two_phases}
use Rattle.answer_laws.specs.Distincts.{distinct_node, has_distincts}
use Rattle.answer_laws.specs.Parted.{LawsOfParts}
use Rattle.answer_laws.proofs.Meaning.{both_true, above_zero, all_pass}
use Rattle.answer_laws.proofs.Built.{means, erased_means, body_parts}
use Rattle.fault_laws.specs.Met.{met_node, met_of}

module _ (tables : Tables) where
  pub mets : (z : Plan-F Plan) → met_of tables (roll-Plan z) ≡ met_node tables (map-Plan Plan (Plan × List ItemFault) (λ p. (p, met_of tables p)) z)
  unfolding met_of
  mets z = para-roll-Plan (List ItemFault) (met_node tables) z

  rolled : (p : Plan) (z : Plan-F Plan) → roll-Plan z ≡ p → met_of tables p ≡ met_node tables (map-Plan Plan (Plan × List ItemFault) (λ p. (p, met_of tables p)) z)
  rolled p z e = ap (met_of tables) (sym e) ∙ mets z

  erased_rolled : (z : Plan-F Plan) → erased (roll-Plan z) ≡ bare_node (map-Plan Plan Plan erased z)
  unfolding erased
  erased_rolled z = fold-roll-Plan Plan bare_node z

  -- ------------------------------------------------------------ exchanges and sorts

  abbrev Same : Plan → Type 0
  Same p = met_of tables (erased p) ≡ met_of tables p

  abbrev Known : Type 0
  Known = (p : Plan) × Same p

  level : (z y : Plan-F Plan) → bare_node (map-Plan Plan Plan erased z) ≡ roll-Plan y
      → met_node tables (map-Plan Plan (Plan × List ItemFault) (λ p. (p, met_of tables p)) y) ≡ met_node tables (map-Plan Plan (Plan × List ItemFault) (λ p. (p, met_of tables p)) z) → Same (roll-Plan z)
  level z y e m = ap (met_of tables) (erased_rolled z ∙ e) ∙ mets y ∙ m ∙ sym (mets z)

  -- a node that meets what its input does, left out
  leaves : (z : Plan-F Plan) (q : Plan) → bare_node (map-Plan Plan Plan erased z) ≡ erased q → met_node tables (map-Plan Plan (Plan × List ItemFault) (λ p. (p, met_of tables p)) z) ≡ met_of tables q → Same q → Same (roll-Plan z)
  leaves z q e m h = ap (met_of tables) (erased_rolled z ∙ e) ∙ h ∙ sym m ∙ sym (mets z)

  abbrev plans : List Known → List Plan
  plans ps = map (λ (p : Known). p.0) ps

  abbrev pairs : List Plan → List (Plan × List ItemFault)
  pairs ps = map (λ (p : Plan). (p, met_of tables p)) ps

  abbrev items_of : List Plan → List (List Item)
  items_of ps = map (λ (p : Plan × List ItemFault). meant tables p.0) (pairs ps)

  abbrev mets_of : List Plan → List (List ItemFault)
  mets_of ps = map (λ (p : Plan × List ItemFault). p.1) (pairs ps)

  same_items : (ps : List Known) → items_of (map erased (plans ps)) ≡ items_of (plans ps)
  same_items [] = refl
  same_items (p ∷ ps) = ap (λ (m : Meaning). m.items ∷ items_of (map erased (plans ps))) (erased_means tables p.0) ∙ ap (λ ms. meant tables p.0 ∷ ms) (same_items ps)

  same_mets : (ps : List Known) → mets_of (map erased (plans ps)) ≡ mets_of (plans ps)
  same_mets [] = refl
  same_mets (p ∷ ps) = ap (λ m. m ∷ mets_of (map erased (plans ps))) p.1 ∙ ap (λ ms. met_of tables p.0 ∷ ms) (same_mets ps)

  step : (y : Plan-F Known) → Same (roll-Plan (map-Plan Known Plan (λ k. k.0) y))
  step (Plan-F.Scan table kinds files partitions) = level (Plan-F.Scan table kinds files partitions) (Plan-F.Scan table kinds files partitions) (sym (rolls-Scan table kinds files partitions)) refl
  step (Plan-F.Filter x test) = level (Plan-F.Filter x.0 test) (Plan-F.Filter (erased x.0) test) (sym (rolls-Filter (erased x.0) test))
      (ap (λ (m : Meaning). faults (filter_items test m.items) ++ met_of tables (erased x.0)) (erased_means tables x.0) ∙ ap (λ ms. faults (filter_items test (meant tables x.0)) ++ ms) x.1)
  step (Plan-F.Project x items) = level (Plan-F.Project x.0 items) (Plan-F.Project (erased x.0) items) (sym (rolls-Project (erased x.0) items))
      (ap (λ (m : Meaning). faults (project_items items m.items) ++ met_of tables (erased x.0)) (erased_means tables x.0) ∙ ap (λ ms. faults (project_items items (meant tables x.0)) ++ ms) x.1)
  step (Plan-F.PartialGroup x keys calls) = level (Plan-F.PartialGroup x.0 keys calls) (Plan-F.PartialGroup (erased x.0) keys calls) (sym (rolls-PartialGroup (erased x.0) keys calls)) x.1
  step (Plan-F.FinalGroup x keys calls) = level (Plan-F.FinalGroup x.0 keys calls) (Plan-F.FinalGroup (erased x.0) keys calls) (sym (rolls-FinalGroup (erased x.0) keys calls))
      (ap (λ (m : Meaning). faults (answered m.groups m.items).items ++ met_of tables (erased x.0)) (erased_means tables x.0) ∙ ap (λ ms. faults (answered (meaning_of tables x.0).groups (meant tables x.0)).items ++ ms) x.1)
  step (Plan-F.HashJoin kind x y keys rest) = level (Plan-F.HashJoin kind x.0 y.0 keys rest) (Plan-F.HashJoin kind (erased x.0) (erased y.0) keys rest) (sym (rolls-HashJoin kind (erased x.0) (erased y.0) keys rest))
      (ap (λ (m : Meaning). faults (joined kind (length m.kinds) (length (meaning_of tables (erased y.0)).kinds) keys rest m.items (meant tables (erased y.0))) ++ (met_of tables (erased x.0) ++ met_of tables (erased y.0))) (erased_means tables x.0)
      ∙ ap (λ (m : Meaning). faults (joined kind (length (meaning_of tables x.0).kinds) (length m.kinds) keys rest (meant tables x.0) m.items) ++ (met_of tables (erased x.0) ++ met_of tables (erased y.0))) (erased_means tables y.0)
      ∙ ap (λ ms. faults (joined kind (length (meaning_of tables x.0).kinds) (length (meaning_of tables y.0).kinds) keys rest (meant tables x.0) (meant tables y.0)) ++ (ms ++ met_of tables (erased y.0))) x.1
      ∙ ap (λ ms. faults (joined kind (length (meaning_of tables x.0).kinds) (length (meaning_of tables y.0).kinds) keys rest (meant tables x.0) (meant tables y.0)) ++ (met_of tables x.0 ++ ms)) y.1)
  step (Plan-F.Sort x keys) = leaves (Plan-F.Sort x.0 keys) x.0 refl refl x.1
  step (Plan-F.Merge x keys) = leaves (Plan-F.Merge x.0 keys) x.0 refl refl x.1
  step (Plan-F.Coalesce x) = leaves (Plan-F.Coalesce x.0) x.0 refl refl x.1
  step (Plan-F.Repartition x to) = leaves (Plan-F.Repartition x.0 to) x.0 refl refl x.1
  step (Plan-F.UnionAll xs) = level (Plan-F.UnionAll (plans xs)) (Plan-F.UnionAll (map erased (plans xs))) (sym (rolls-UnionAll (map erased (plans xs))))
      (ap (λ is. faults (concat is) ++ concat (mets_of (map erased (plans xs)))) (same_items xs) ∙ ap (λ ms. faults (concat (items_of (plans xs))) ++ concat ms) (same_mets xs))
  step (Plan-F.Limit x skip fetch) = level (Plan-F.Limit x.0 skip fetch) (Plan-F.Limit (erased x.0) skip fetch) (sym (rolls-Limit (erased x.0) skip fetch)) x.1

  -- exchanges, merges and sorts keep what a plan meets
  pub erased_meets : (p : Plan) → met_of tables (erased p) ≡ met_of tables p
  erased_meets = ind-Plan Same (λ x y is. subst (λ z. Same (roll-Plan z)) is (step y))

-- ------------------------------------------------------------ bodies

module _ (phases : Phases) (laws : LawsOfParts phases) (tables : Tables) (files : List ℕ) (n : ℕ) where
  abbrev Body : Logical → Type 0
  Body q = has_distincts tables q ≡ true → met_of tables (built_of files n q).plan ≡ (meant_part tables q).met

  abbrev Bodied : Type 0
  Bodied = (q : Logical) × Body q

  part_level : (z : Logical-F Logical)
      → (distinct_node tables (map-Logical Logical (Logical × Bool) (λ q. (q, has_distincts tables q)) z) ≡ true
      → met_of tables (node files n (map-Logical Logical Built (built_of files n) z)).plan ≡ (body.node tables (map-Logical Logical Part (meant_part tables) z)).met)
      → Body (roll-Logical z)
  unfolding has_distincts built_of meant_part
  part_level z h =
      let a = para-roll-Logical Bool (distinct_node tables) z in
      let b = fold-roll-Logical Built (node files n) z in
      let c = fold-roll-Logical Part (body.node tables) z in
      rw (a, b, c) h

  means_part : (q : Logical) → has_distincts tables q ≡ true → meaning_of tables (built_of files n q).plan ≡ meaning (meant_part tables q).kinds (meant_part tables q).items
  means_part q e = (body_parts phases laws tables files n q e).meaning

  grouped : (p : Plan) (keys : List ℕ) (calls : List AggCall) (w : Part) → meaning_of tables p ≡ meaning w.kinds w.items → met_of tables p ≡ w.met
      → met_of tables (two_phases p keys calls) ≡ faults (aggregated keys calls w.kinds w.items) ++ w.met
  grouped p keys calls w h i =
      let q = plan.PartialGroup p keys calls in
      rolled tables (two_phases p keys calls) (Plan-F.FinalGroup q (numbers (length keys)) calls) (rolls-FinalGroup q (numbers (length keys)) calls)
      ∙ ap (λ (m : Meaning). faults (answered m.groups m.items).items ++ met_of tables q) (ap (meaning_of tables) (sym (rolls-PartialGroup p keys calls)) ∙ means tables (Plan-F.PartialGroup p keys calls))
      ∙ ap (λ (m : Meaning). faults (aggregated keys calls m.kinds m.items) ++ met_of tables q) h
      ∙ ap (λ ms. faults (aggregated keys calls w.kinds w.items) ++ ms) (rolled tables q (Plan-F.PartialGroup p keys calls) (rolls-PartialGroup p keys calls) ∙ i)

  abbrev bodies : List Bodied → List Logical
  bodies qs = map (λ (q : Bodied). q.0) qs

  abbrev tests : List Logical → List (Logical × Bool)
  tests qs = map (λ (q : Logical). (q, has_distincts tables q)) qs

  abbrev plans_of : List Bodied → List Plan
  plans_of qs = map (λ (b : Built). b.plan) (map (built_of files n) (bodies qs))

  all_items : (qs : List Bodied) → all_true (map (λ (q : Logical × Bool). q.1) (tests (bodies qs))) ≡ true → items_of tables (plans_of qs) ≡ map (λ (p : Part). p.items) (map (meant_part tables) (bodies qs))
  all_items [] e = refl
  all_items (q ∷ qs) e =
      let b = both_true (has_distincts tables q.0) (all_true (map (λ (q : Logical × Bool). q.1) (tests (bodies qs)))) e in
      ap (λ (m : Meaning). m.items ∷ items_of tables (plans_of qs)) (means_part q.0 b.0) ∙ ap (λ is. (meant_part tables q.0).items ∷ is) (all_items qs b.1)

  all_mets : (qs : List Bodied) → all_true (map (λ (q : Logical × Bool). q.1) (tests (bodies qs))) ≡ true → mets_of tables (plans_of qs) ≡ map (λ (p : Part). p.met) (map (meant_part tables) (bodies qs))
  all_mets [] e = refl
  all_mets (q ∷ qs) e =
      let b = both_true (has_distincts tables q.0) (all_true (map (λ (q : Logical × Bool). q.1) (tests (bodies qs)))) e in
      ap (λ m. m ∷ mets_of tables (plans_of qs)) (q.1 b.0) ∙ ap (λ ms. (meant_part tables q.0).met ∷ ms) (all_mets qs b.1)

  part_step : (y : Logical-F Bodied) → Body (roll-Logical (map-Logical Bodied Logical (λ k. k.0) y))
  part_step (Logical-F.Scan table kinds) = part_level (Logical-F.Scan table kinds) (λ e.
      (let k = get_or files table 0 in rolled tables (plan.Scan table kinds k (min (max k 1) n)) (Plan-F.Scan table kinds k (min (max k 1) n)) (rolls-Scan table kinds k (min (max k 1) n))))
  part_step (Logical-F.Filter x test) = part_level (Logical-F.Filter x.0 test) (λ e. (let b = (built_of files n x.0).plan in let w = meant_part tables x.0 in
      rolled tables (plan.Filter b test) (Plan-F.Filter b test) (rolls-Filter b test)
      ∙ ap (λ (m : Meaning). faults (filter_items test m.items) ++ met_of tables b) (means_part x.0 e) ∙ ap (λ ms. faults (filter_items test w.items) ++ ms) (x.1 e)))
  part_step (Logical-F.Project x items) = part_level (Logical-F.Project x.0 items) (λ e. (let b = (built_of files n x.0).plan in let w = meant_part tables x.0 in
      rolled tables (plan.Project b items) (Plan-F.Project b items) (rolls-Project b items)
      ∙ ap (λ (m : Meaning). faults (project_items items m.items) ++ met_of tables b) (means_part x.0 e) ∙ ap (λ ms. faults (project_items items w.items) ++ ms) (x.1 e)))
  part_step (Logical-F.Join kind x y keys rest) = part_level (Logical-F.Join kind x.0 y.0 keys rest) (λ e. (
      let t = both_true (has_distincts tables x.0) (has_distincts tables y.0) e in
      let b = (built_of files n x.0).plan in
      let c = (built_of files n y.0).plan in
      let v = meant_part tables x.0 in
      let w = meant_part tables y.0 in
      rolled tables (plan.HashJoin kind b c keys rest) (Plan-F.HashJoin kind b c keys rest) (rolls-HashJoin kind b c keys rest)
      ∙ ap (λ (m : Meaning). faults (joined kind (length m.kinds) (length (meaning_of tables c).kinds) keys rest m.items (meant tables c)) ++ (met_of tables b ++ met_of tables c)) (means_part x.0 t.0)
      ∙ ap (λ (m : Meaning). faults (joined kind (length v.kinds) (length m.kinds) keys rest v.items m.items) ++ (met_of tables b ++ met_of tables c)) (means_part y.0 t.1)
      ∙ ap (λ ms. faults (joined kind (length v.kinds) (length w.kinds) keys rest v.items w.items) ++ (ms ++ met_of tables c)) (x.1 t.0)
      ∙ ap (λ ms. faults (joined kind (length v.kinds) (length w.kinds) keys rest v.items w.items) ++ (v.met ++ ms)) (y.1 t.1)))
  part_step (Logical-F.Aggregate x keys calls) = part_level (Logical-F.Aggregate x.0 keys calls) (λ e. grouped (built_of files n x.0).plan keys calls (meant_part tables x.0) (means_part x.0 e) (x.1 e))
  part_step (Logical-F.Distinct x) = part_level (Logical-F.Distinct x.0) (λ e. (
      let w = meant_part tables x.0 in
      let t = both_true (has_distincts tables x.0) (nat_lt 0 (length w.kinds) && all_are w.kinds (rows w.items)) e in
      let u = both_true (nat_lt 0 (length w.kinds)) (all_are w.kinds (rows w.items)) t.1 in
      let b = built_of files n x.0 in
      ap (λ (k : ℕ). met_of tables (two_phases b.plan (numbers k) [])) (body_parts phases laws tables files n x.0 t.0).width
      ∙ grouped b.plan (numbers (length w.kinds)) [] w (means_part x.0 t.0) (x.1 t.0)
      ∙ ap (λ is. faults is ++ w.met) (sym (laws.distincts w.kinds w.items (all_pass w.kinds (rows w.items) u.1) (above_zero (length w.kinds) u.0)))))
  part_step (Logical-F.UnionAll xs) = part_level (Logical-F.UnionAll (bodies xs)) (λ e. (let bs = plans_of xs in
      rolled tables (plan.UnionAll bs) (Plan-F.UnionAll bs) (rolls-UnionAll bs)
      ∙ ap (λ is. faults (concat is) ++ concat (mets_of tables bs)) (all_items xs e) ∙ ap (λ ms. faults (concat (map (λ (p : Part). p.items) (map (meant_part tables) (bodies xs)))) ++ concat ms) (all_mets xs e)))

  body_meets : (q : Logical) → has_distincts tables q ≡ true → met_of tables (body_plan files n q) ≡ all_faults tables q
  body_meets = ind-Logical Body (λ x y is. subst (λ z. Body (roll-Logical z)) is (part_step y))

  sorted_meets : (keys : List SortKey) (p : Plan) → met_of tables (sorted_by keys p) ≡ met_of tables p
  sorted_meets [] p = refl
  sorted_meets (k ∷ ks) p = rolled tables (plan.Sort p (k ∷ ks)) (Plan-F.Sort p (k ∷ ks)) (rolls-Sort p (k ∷ ks))

  limited_meets : (skip : ℕ) (fetch : Option ℕ) (p : Plan) → met_of tables (limited skip fetch p) ≡ met_of tables p
  limited_meets skip fetch p = by (is_some fetch || nat_lt 0 skip)
    where
      by : (b : Bool) → met_of tables (cond b (plan.Limit p skip fetch) p) ≡ met_of tables p
      by true = rolled tables (plan.Limit p skip fetch) (Plan-F.Limit p skip fetch) (rolls-Limit p skip fetch)
      by false = refl

  -- a finished plan of a query meets all that its body does
  pub query_meets : (q : Query) (p : Plan) → has_distincts tables q.body ≡ true → erased p ≡ erased (build q files n) → met_of tables p ≡ all_faults tables q.body
  query_meets q p e t =
      sym (erased_meets tables p) ∙ ap (met_of tables) t ∙ erased_meets tables (build q files n)
      ∙ limited_meets q.offset q.limit (sorted_by q.order (body_plan files n q.body)) ∙ sorted_meets q.order (body_plan files n q.body) ∙ body_meets q.body e
