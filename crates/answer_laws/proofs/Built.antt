-- A finished plan means what its query's body means.
use Rattle.std.specs.Prelude.{nat_lt, min, max, slice_get}
use Rattle.std.proofs.Common.{ℕ, suc, ◌+◌, ◌<◌, ◌≡◌, refl, sym, ap, ◌∙◌, subst, List, [], ◌∷◌, ◌++◌, length, get_or, map, Bool, true, false, ◌&&◌, ◌||◌, Option, is_some, cond, arith}
use Rattle.std.proofs.lemmas.List.{length-append, append-nil}
use Rattle.dfx_value.specs.KindedRows.{all_are}
use Rattle.dfx_value.specs.declared.kind.Kind.{Kind}
use Rattle.dfx_value.specs.declared.op.AggCall.{AggCall}
use Rattle.scalar_exprs.specs.Kinds.{kind_of, call_kind}
use Rattle.dfx_value.specs.declared.rows.SortKey.{SortKey}
use Rattle.logical_plan.specs.declared.plan.Logical.{Logical}
use Rattle.logical_plan.specs.declared.plan.Logical.TheOpen.{Logical-F}
use Rattle.logical_plan.specs.declared.plan.Logical.TheViews.{roll-Logical}
use Rattle.logical_plan.specs.declared.plan.Logical.TheFolds.{fold-roll-Logical, para-roll-Logical, map-Logical, ind-Logical}
use Rattle.logical_plan.specs.declared.query.Query.{Query}
use Rattle.logical_plan.specs.Items.{rows, concat}
use Rattle.logical_plan.specs.Groups.{aggregated}
use Rattle.logical_plan.specs.Body as body
use Rattle.logical_plan.specs.Body.{Tables, Part, meant_part, key_kinds}
use Rattle.physical_plan.specs.declared.plan.Plan.{Plan}
use Rattle.physical_plan.specs.declared.plan.Plan.TheVariants as plan
use Rattle.physical_plan.specs.declared.plan.Plan.TheVariants.{rolls-Scan, rolls-Filter, rolls-Project, rolls-PartialGroup, rolls-FinalGroup, rolls-HashJoin, rolls-Sort, rolls-UnionAll, rolls-Limit}
use Rattle.physical_plan.specs.declared.plan.Plan.TheOpen.{Plan-F}
use Rattle.physical_plan.specs.declared.plan.Plan.TheViews.{roll-Plan}
use Rattle.physical_plan.specs.declared.plan.Plan.TheFolds.{fold-roll-Plan, map-Plan, ind-Plan}
use Rattle.physical_plan.specs.Numbers.{numbers, numbers_from}
use Rattle.answer_laws.specs.Meant.{Meaning, meaning, first_kinds, meant_node, meaning_of, answered, Phases}
use Rattle.physical_plan.specs.Everywhere.{bare_node, erased, all_true}
use Rattle.physical_build.specs.Build.{sorted_by, limited, Built, first_width, node, built_of, body_plan, build, two_phases}
use Rattle.answer_laws.specs.Distincts.{distinct_node, has_distincts}
use Rattle.answer_laws.specs.Parted.{LawsOfParts}
use Rattle.answer_laws.proofs.Meaning.{both_true, above_zero, all_pass}

module _ (tables : Tables) where
  pub means : (z : Plan-F Plan) → meaning_of tables (roll-Plan z) ≡ meant_node tables (map-Plan Plan Meaning (meaning_of tables) z)
  unfolding meaning_of
  means z = fold-roll-Plan Meaning (meant_node tables) z

  pub erased_rolled : (z : Plan-F Plan) → erased (roll-Plan z) ≡ bare_node (map-Plan Plan Plan erased z)
  unfolding erased
  erased_rolled z = fold-roll-Plan Plan bare_node z

  -- ------------------------------------------------------------ exchanges and sorts

  abbrev Same : Plan → Type 0
  Same p = meaning_of tables (erased p) ≡ meaning_of tables p

  abbrev Known : Type 0
  Known = (p : Plan) × Same p

  level : (z y : Plan-F Plan) → bare_node (map-Plan Plan Plan erased z) ≡ roll-Plan y
      → meant_node tables (map-Plan Plan Meaning (meaning_of tables) y) ≡ meant_node tables (map-Plan Plan Meaning (meaning_of tables) z) → Same (roll-Plan z)
  level z y e m = ap (meaning_of tables) (erased_rolled z ∙ e) ∙ means y ∙ m ∙ sym (means z)

  -- a node that is left out
  leaves : (z : Plan-F Plan) (q : Plan) → bare_node (map-Plan Plan Plan erased z) ≡ erased q → meant_node tables (map-Plan Plan Meaning (meaning_of tables) z) ≡ meaning_of tables q → Same q → Same (roll-Plan z)
  leaves z q e m h = ap (meaning_of tables) (erased_rolled z ∙ e) ∙ h ∙ sym m ∙ sym (means z)

  abbrev plans : List Known → List Plan
  plans ps = map (λ (p : Known). p.0) ps

  all_same : (ps : List Known) → map (meaning_of tables) (map erased (plans ps)) ≡ map (meaning_of tables) (plans ps)
  all_same [] = refl
  all_same (p ∷ ps) = ap (λ m. m ∷ map (meaning_of tables) (map erased (plans ps))) p.1 ∙ ap (λ ms. meaning_of tables p.0 ∷ ms) (all_same ps)

  step : (y : Plan-F Known) → Same (roll-Plan (map-Plan Known Plan (λ k. k.0) y))
  step (Plan-F.Scan table kinds files partitions) = level (Plan-F.Scan table kinds files partitions) (Plan-F.Scan table kinds files partitions) (sym (rolls-Scan table kinds files partitions)) refl
  step (Plan-F.Filter x test) = level (Plan-F.Filter x.0 test) (Plan-F.Filter (erased x.0) test) (sym (rolls-Filter (erased x.0) test)) (ap (λ m. meant_node tables (Plan-F.Filter m test)) x.1)
  step (Plan-F.Project x items) = level (Plan-F.Project x.0 items) (Plan-F.Project (erased x.0) items) (sym (rolls-Project (erased x.0) items)) (ap (λ m. meant_node tables (Plan-F.Project m items)) x.1)
  step (Plan-F.PartialGroup x keys calls) = level (Plan-F.PartialGroup x.0 keys calls) (Plan-F.PartialGroup (erased x.0) keys calls) (sym (rolls-PartialGroup (erased x.0) keys calls)) (ap (λ m. meant_node tables (Plan-F.PartialGroup m keys calls)) x.1)
  step (Plan-F.FinalGroup x keys calls) = level (Plan-F.FinalGroup x.0 keys calls) (Plan-F.FinalGroup (erased x.0) keys calls) (sym (rolls-FinalGroup (erased x.0) keys calls)) (ap (λ m. meant_node tables (Plan-F.FinalGroup m keys calls)) x.1)
  step (Plan-F.HashJoin kind x y keys rest) = level (Plan-F.HashJoin kind x.0 y.0 keys rest) (Plan-F.HashJoin kind (erased x.0) (erased y.0) keys rest) (sym (rolls-HashJoin kind (erased x.0) (erased y.0) keys rest))
      (ap (λ m. meant_node tables (Plan-F.HashJoin kind m (meaning_of tables (erased y.0)) keys rest)) x.1 ∙ ap (λ m. meant_node tables (Plan-F.HashJoin kind (meaning_of tables x.0) m keys rest)) y.1)
  step (Plan-F.Sort x keys) = leaves (Plan-F.Sort x.0 keys) x.0 refl refl x.1
  step (Plan-F.Merge x keys) = leaves (Plan-F.Merge x.0 keys) x.0 refl refl x.1
  step (Plan-F.Coalesce x) = leaves (Plan-F.Coalesce x.0) x.0 refl refl x.1
  step (Plan-F.Repartition x to) = leaves (Plan-F.Repartition x.0 to) x.0 refl refl x.1
  step (Plan-F.UnionAll xs) = level (Plan-F.UnionAll (plans xs)) (Plan-F.UnionAll (map erased (plans xs))) (sym (rolls-UnionAll (map erased (plans xs)))) (ap (λ ms. meant_node tables (Plan-F.UnionAll ms)) (all_same xs))
  step (Plan-F.Limit x skip fetch) = level (Plan-F.Limit x.0 skip fetch) (Plan-F.Limit (erased x.0) skip fetch) (sym (rolls-Limit (erased x.0) skip fetch)) (ap (λ m. meant_node tables (Plan-F.Limit m skip fetch)) x.1)

  -- exchanges, merges and sorts keep what a plan means
  pub erased_means : (p : Plan) → meaning_of tables (erased p) ≡ meaning_of tables p
  erased_means = ind-Plan Same (λ x y is. subst (λ z. Same (roll-Plan z)) is (step y))

-- ------------------------------------------------------------ bodies

kinds_from : (F : ℕ → Kind) (at : ℕ) (ks : List Kind) → ((i : ℕ) → i < length ks → F (at + i) ≡ body.kind_or_text (slice_get ks i)) → map F (numbers_from at (length ks)) ≡ ks
kinds_from F at [] h = refl
kinds_from F at (k ∷ ks) h =
    ap (λ x. x ∷ map F (numbers_from (at + 1) (length ks))) (ap F (let e : at ≡ at + 0 = omega arith in e) ∙ h 0 (omega arith))
    ∙ ap (λ xs. k ∷ xs) (kinds_from F (at + 1) ks (λ i l. ap F (let e : at + 1 + i ≡ at + suc i = omega arith in e) ∙ h (suc i) (omega arith)))

all_kinds : (ks : List Kind) → key_kinds ks (numbers (length ks)) ≡ ks
all_kinds ks = kinds_from (λ k. body.kind_or_text (slice_get ks k)) 0 ks (λ i l. ap (λ (j : ℕ). body.kind_or_text (slice_get ks j)) (let e : 0 + i ≡ i = omega arith in e))

map_long : {A B : Type 0} (h : A → B) (xs : List A) → length (map h xs) ≡ length xs
map_long h [] = refl
map_long h (x ∷ xs) = ap suc (map_long h xs)

module _ (phases : Phases) (laws : LawsOfParts phases) (tables : Tables) (files : List ℕ) (n : ℕ) where
  -- a built plan means the part
  pub record MeansPart (b : Built) (w : Part) : Type 0 where
    pub meaning : meaning_of tables b.plan ≡ meaning w.kinds w.items
    pub width : b.width ≡ length w.kinds

  abbrev Body : Logical → Type 0
  Body q = has_distincts tables q ≡ true → MeansPart (built_of files n q) (meant_part tables q)

  abbrev Bodied : Type 0
  Bodied = (q : Logical) × Body q

  part_level : (z : Logical-F Logical)
      → (distinct_node tables (map-Logical Logical (Logical × Bool) (λ q. (q, has_distincts tables q)) z) ≡ true
      → MeansPart (node files n (map-Logical Logical Built (built_of files n) z)) (body.node tables (map-Logical Logical Part (meant_part tables) z)))
      → Body (roll-Logical z)
  unfolding has_distincts built_of meant_part
  part_level z h =
      let a = para-roll-Logical Bool (distinct_node tables) z in
      let b = fold-roll-Logical Built (node files n) z in
      let c = fold-roll-Logical Part (body.node tables) z in
      rw (a, b, c) h

  rolled : (p : Plan) (z : Plan-F Plan) → roll-Plan z ≡ p → meaning_of tables p ≡ meant_node tables (map-Plan Plan Meaning (meaning_of tables) z)
  rolled p z e = ap (meaning_of tables) (sym e) ∙ means tables z

  grouped : (b : Built) (keys : List ℕ) (calls : List AggCall) (w : Part) → MeansPart b w → meaning_of tables (two_phases b.plan keys calls) ≡ meaning (key_kinds w.kinds keys ++ body.call_kinds w.kinds calls) (aggregated keys calls w.kinds w.items)
  grouped b keys calls w h =
      rolled (two_phases b.plan keys calls) (Plan-F.FinalGroup (plan.PartialGroup b.plan keys calls) (numbers (length keys)) calls) (rolls-FinalGroup (plan.PartialGroup b.plan keys calls) (numbers (length keys)) calls)
      ∙ ap (λ (m : Meaning). answered m.groups m.items) (rolled (plan.PartialGroup b.plan keys calls) (Plan-F.PartialGroup b.plan keys calls) (rolls-PartialGroup b.plan keys calls))
      ∙ ap (λ (m : Meaning). meaning (key_kinds m.kinds keys ++ body.call_kinds m.kinds calls) (aggregated keys calls m.kinds m.items)) h.meaning

  abbrev bodies : List Bodied → List Logical
  bodies qs = map (λ (q : Bodied). q.0) qs

  abbrev tests : List Logical → List (Logical × Bool)
  tests qs = map (λ (q : Logical). (q, has_distincts tables q)) qs

  kinds_of_first : (qs : List Bodied) → all_true (map (λ (q : Logical × Bool). q.1) (tests (bodies qs))) ≡ true
      → first_kinds (map (meaning_of tables) (map (λ (b : Built). b.plan) (map (built_of files n) (bodies qs)))) ≡ body.first_kinds (map (meant_part tables) (bodies qs))
  kinds_of_first [] e = refl
  kinds_of_first (q ∷ qs) e = (let b = both_true (has_distincts tables q.0) (all_true (map (λ (q : Logical × Bool). q.1) (tests (bodies qs)))) e in ap (λ (m : Meaning). m.kinds) (q.1 b.0).meaning)

  items_of_all : (qs : List Bodied) → all_true (map (λ (q : Logical × Bool). q.1) (tests (bodies qs))) ≡ true
      → concat (map (λ (m : Meaning). m.items) (map (meaning_of tables) (map (λ (b : Built). b.plan) (map (built_of files n) (bodies qs))))) ≡ concat (map (λ (p : Part). p.items) (map (meant_part tables) (bodies qs)))
  items_of_all [] e = refl
  items_of_all (q ∷ qs) e =
      let b = both_true (has_distincts tables q.0) (all_true (map (λ (q : Logical × Bool). q.1) (tests (bodies qs)))) e in
      ap (λ (m : Meaning). m.items ++ concat (map (λ (m : Meaning). m.items) (map (meaning_of tables) (map (λ (b : Built). b.plan) (map (built_of files n) (bodies qs)))))) (q.1 b.0).meaning
      ∙ ap (λ xs. (meant_part tables q.0).items ++ xs) (items_of_all qs b.1)

  first_wide : (qs : List Bodied) → all_true (map (λ (q : Logical × Bool). q.1) (tests (bodies qs))) ≡ true → first_width (map (built_of files n) (bodies qs)) ≡ length (body.first_kinds (map (meant_part tables) (bodies qs)))
  first_wide [] e = refl
  first_wide (q ∷ qs) e = (let b = both_true (has_distincts tables q.0) (all_true (map (λ (q : Logical × Bool). q.1) (tests (bodies qs)))) e in (q.1 b.0).width)

  part_step : (y : Logical-F Bodied) → Body (roll-Logical (map-Logical Bodied Logical (λ k. k.0) y))
  part_step (Logical-F.Scan table kinds) = part_level (Logical-F.Scan table kinds) (λ e. record {
    meaning = (let k = get_or files table 0 in rolled (plan.Scan table kinds k (min (max k 1) n)) (Plan-F.Scan table kinds k (min (max k 1) n)) (rolls-Scan table kinds k (min (max k 1) n)));
    width = refl;
  })
  part_step (Logical-F.Filter x test) = part_level (Logical-F.Filter x.0 test) (λ e. (let h = x.1 e in let b = built_of files n x.0 in record {
    meaning = rolled (plan.Filter b.plan test) (Plan-F.Filter b.plan test) (rolls-Filter b.plan test) ∙ ap (λ m. meant_node tables (Plan-F.Filter m test)) h.meaning;
    width = h.width;
  }))
  part_step (Logical-F.Project x items) = part_level (Logical-F.Project x.0 items) (λ e. (let h = x.1 e in let b = built_of files n x.0 in record {
    meaning = rolled (plan.Project b.plan items) (Plan-F.Project b.plan items) (rolls-Project b.plan items) ∙ ap (λ m. meant_node tables (Plan-F.Project m items)) h.meaning;
    width = sym (map_long (λ e. body.kind_or_text (kind_of (meant_part tables x.0).kinds e)) items);
  }))
  part_step (Logical-F.Join kind x y keys rest) = part_level (Logical-F.Join kind x.0 y.0 keys rest) (λ e. (
      let t = both_true (has_distincts tables x.0) (has_distincts tables y.0) e in
      let h = x.1 t.0 in
      let i = y.1 t.1 in
      let b = built_of files n x.0 in
      let c = built_of files n y.0 in
      record {
        meaning = rolled (plan.HashJoin kind b.plan c.plan keys rest) (Plan-F.HashJoin kind b.plan c.plan keys rest) (rolls-HashJoin kind b.plan c.plan keys rest)
            ∙ ap (λ m. meant_node tables (Plan-F.HashJoin kind m (meaning_of tables c.plan) keys rest)) h.meaning
            ∙ ap (λ m. meant_node tables (Plan-F.HashJoin kind (meaning (meant_part tables x.0).kinds (meant_part tables x.0).items) m keys rest)) i.meaning;
        width = (let a = length-append (meant_part tables x.0).kinds (meant_part tables y.0).kinds in let u = h.width in let v = i.width in omega arith);
      }))
  part_step (Logical-F.Aggregate x keys calls) = part_level (Logical-F.Aggregate x.0 keys calls) (λ e. (let h = x.1 e in let b = built_of files n x.0 in let w = meant_part tables x.0 in record {
    meaning = grouped b keys calls w h;
    width = (let a = length-append (key_kinds w.kinds keys) (body.call_kinds w.kinds calls) in
        let c = map_long (λ (k : ℕ). body.kind_or_text (slice_get w.kinds k)) keys in
        let d = map_long (λ c. body.kind_or_text (call_kind c w.kinds)) calls in omega arith);
  }))
  part_step (Logical-F.Distinct x) = part_level (Logical-F.Distinct x.0) (λ e. (
      let w = meant_part tables x.0 in
      let t = both_true (has_distincts tables x.0) (nat_lt 0 (length w.kinds) && all_are w.kinds (rows w.items)) e in
      let u = both_true (nat_lt 0 (length w.kinds)) (all_are w.kinds (rows w.items)) t.1 in
      let h = x.1 t.0 in
      let b = built_of files n x.0 in
      let k : numbers b.width ≡ numbers (length w.kinds) = ap numbers h.width in
      record {
        meaning = ap (λ ks. meaning_of tables (two_phases b.plan ks [])) k ∙ grouped b (numbers (length w.kinds)) [] w h
            ∙ ap (λ ks. meaning ks (aggregated (numbers (length w.kinds)) [] w.kinds w.items)) (append-nil (key_kinds w.kinds (numbers (length w.kinds))) ∙ all_kinds w.kinds)
            ∙ ap (λ is. meaning w.kinds is) (sym (laws.distincts w.kinds w.items (all_pass w.kinds (rows w.items) u.1) (above_zero (length w.kinds) u.0)));
        width = h.width;
      }))
  part_step (Logical-F.UnionAll xs) = part_level (Logical-F.UnionAll (bodies xs)) (λ e. (let bs = map (λ (b : Built). b.plan) (map (built_of files n) (bodies xs)) in record {
    meaning = rolled (plan.UnionAll bs) (Plan-F.UnionAll bs) (rolls-UnionAll bs)
        ∙ ap (λ ks. meaning ks (concat (map (λ (m : Meaning). m.items) (map (meaning_of tables) bs)))) (kinds_of_first xs e)
        ∙ ap (λ is. meaning (body.first_kinds (map (meant_part tables) (bodies xs))) is) (items_of_all xs e);
    width = first_wide xs e;
  }))

  pub body_parts : (q : Logical) → has_distincts tables q ≡ true → MeansPart (built_of files n q) (meant_part tables q)
  body_parts q e = ind-Logical Body (λ x y is. subst (λ z. Body (roll-Logical z)) is (part_step y)) q e

  pub body_means : (q : Logical) → has_distincts tables q ≡ true → meaning_of tables (body_plan files n q) ≡ meaning (meant_part tables q).kinds (meant_part tables q).items
  body_means q e = (body_parts q e).meaning

  sorted_means : (keys : List SortKey) (p : Plan) → meaning_of tables (sorted_by keys p) ≡ meaning_of tables p
  sorted_means [] p = refl
  sorted_means (k ∷ ks) p = rolled (plan.Sort p (k ∷ ks)) (Plan-F.Sort p (k ∷ ks)) (rolls-Sort p (k ∷ ks))

  limited_means : (skip : ℕ) (fetch : Option ℕ) (p : Plan) → meaning_of tables (limited skip fetch p) ≡ meaning_of tables p
  limited_means skip fetch p = by (is_some fetch || nat_lt 0 skip)
    where
      by : (b : Bool) → meaning_of tables (cond b (plan.Limit p skip fetch) p) ≡ meaning_of tables p
      by true = rolled (plan.Limit p skip fetch) (Plan-F.Limit p skip fetch) (rolls-Limit p skip fetch)
      by false = refl

  -- a finished plan of a query means its body
  pub query_means : (q : Query) (p : Plan) → has_distincts tables q.body ≡ true → erased p ≡ erased (build q files n) → meaning_of tables p ≡ meaning (meant_part tables q.body).kinds (meant_part tables q.body).items
  query_means q p e t =
      sym (erased_means tables p) ∙ ap (meaning_of tables) t ∙ erased_means tables (build q files n)
      ∙ limited_means q.offset q.limit (sorted_by q.order (body_plan files n q.body)) ∙ sorted_means q.order (body_plan files n q.body) ∙ body_means q.body e
