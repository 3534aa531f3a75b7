-- Every node of a well-kinded body gives rows of its kinds.
use Rattle.std.specs.Prelude.{slice_get, nat_lt}
use Rattle.std.specs.List.{list_all}
use Rattle.std.proofs.Common.{◌≡◌, refl, ℕ, zero, suc, Bool, true, ◌&&◌, eqb, eqb-true, Option, Some, None, List, [], ◌∷◌, ◌++◌, map, length, subst, ap, sym, ◌∙◌}
use Rattle.std.proofs.lemmas.Bool.{and_parts, and_from, false≢true}
use Rattle.dfx_value.specs.Kinds.{are_kinds}
use Rattle.dfx_value.specs.KindedRows.{all_are}
use Rattle.dfx_value.specs.declared.kind.Kind.{Kind}
use Rattle.dfx_value.specs.declared.kind.Kind.TheVariants as kind
use Rattle.dfx_value.specs.declared.op.AggCall.{AggCall}
use Rattle.dfx_value.specs.declared.op.JoinKind.{JoinKind}
use Rattle.scalar_exprs.specs.declared.expr.Expr.{Expr}
use Rattle.scalar_exprs.specs.Kinds.{same}
use Rattle.logical_plan.specs.declared.plan.Logical.{Logical}
use Rattle.logical_plan.specs.declared.plan.Logical.TheOpen.{Logical-F}
use Rattle.logical_plan.specs.declared.plan.Logical.TheViews.{roll-Logical}
use Rattle.logical_plan.specs.declared.plan.Logical.TheFolds.{fold-roll-Logical, para-roll-Logical, map-Logical, ind-Logical}
use Rattle.logical_plan.specs.Items.{Item, rows, concat}
use Rattle.logical_plan.specs.Joins.{joined}
use Rattle.logical_plan.specs.Groups.{aggregated}
use Rattle.logical_plan.specs.Body.{Tables, Part, meant_part, body, kinds, node, scan, first_kinds, key_kinds, call_kinds}
use Rattle.logical_plan.proofs.BodySteps.{kinds_at}
use Rattle.kind_laws.specs.Kinded.{same_kinds, has_kind, is_test, is_rest, keys_compare, has_columns, calls_fit, is_table, all_as, are_united, kinded_node, is_well_kinded}
use Rattle.kind_laws.specs.Giving.{gives_kinds, all_give, below_node, all_below_give, everywhere_kinded}
use Rattle.kind_laws.specs.Tables.{TablesHave}
use Rattle.kind_laws.proofs.Rows.{items_append}
use Rattle.kind_laws.proofs.Nodes.{filter_gives, project_gives, join_gives, aggregate_gives, distinct_gives}

-- ---- kinds that are the same

pub same_is : (j k : Kind) → same j k ≡ true → j ≡ k
same_is kind.Bool kind.Bool e = refl
same_is kind.Int kind.Int e = refl
same_is (kind.Dec p s) (kind.Dec q t) e = let both = and_parts (eqb p q) (eqb s t) e in ap (λ n. kind.Dec n s) (eqb-true p q both.0) ∙ ap (kind.Dec q) (eqb-true s t both.1)
same_is kind.Text kind.Text e = refl
same_is _ _ e = cc

pub same_kinds_are : (js ks : List Kind) → same_kinds js ks ≡ true → js ≡ ks
same_kinds_are [] [] e = refl
same_kinds_are (j ∷ js) (k ∷ ks) e =
    let b = and_parts (same j k) (same_kinds js ks) e in
    ap (λ x. x ∷ js) (same_is j k b.0) ∙ ap (λ xs. k ∷ xs) (same_kinds_are js ks b.1)
same_kinds_are [] (k ∷ ks) e = cc
same_kinds_are (j ∷ js) [] e = cc

-- ---- tables

-- the rows of a table of these kinds
pub table_has : (kss : List (List Kind)) (tables : Tables) → TablesHave kss tables → (table : ℕ) (ks : List Kind) → slice_get kss table ≡ Some ks → all_are ks (rows (scan tables table)) ≡ true
table_has [] [] h table ks e = cc
table_has (own ∷ kss) (files ∷ tables) h zero ks e = let same : own ≡ ks = (cc) in subst (λ js. all_are js (rows (concat files)) ≡ true) same h.0
table_has (own ∷ kss) (files ∷ tables) h (suc n) ks e = table_has kss tables h.1 n ks e
table_has [] (files ∷ tables) h table ks e = absurd h
table_has (own ∷ kss) [] h table ks e = absurd h

pub scan_gives : (kss : List (List Kind)) (tables : Tables) → TablesHave kss tables → (table : ℕ) (ks : List Kind) → is_table (slice_get kss table) ks ≡ true → all_are ks (rows (scan tables table)) ≡ true
scan_gives kss tables h table ks e = go (slice_get kss table) e (λ own s. table_has kss tables h table own s) where
  go : (o : Option (List Kind)) → is_table o ks ≡ true → ((own : List Kind) → o ≡ Some own → all_are own (rows (scan tables table)) ≡ true) → all_are ks (rows (scan tables table)) ≡ true
  go None e f = absurd (false≢true e)
  go (Some own) e f = subst (λ js. all_are js (rows (scan tables table)) ≡ true) (same_kinds_are own ks (and_parts (same_kinds own ks) (nat_lt 0 (length ks) && are_kinds ks) e).0) (f own refl)

-- ---- bodies

module _ (kss : List (List Kind)) (tables : Tables) (have : TablesHave kss tables) where
  abbrev marked : Logical → Logical × Bool
  marked q = (q, is_well_kinded kss q)

  pub kinded_rolled : (z : Logical-F Logical) → is_well_kinded kss (roll-Logical z) ≡ kinded_node kss (map-Logical Logical (Logical × Bool) marked z)
  unfolding is_well_kinded
  kinded_rolled z = para-roll-Logical Bool (kinded_node kss) z

  whole_rolled : (t : Tables) (z : Logical-F Logical) → meant_part t (roll-Logical z) ≡ node t (map-Logical Logical Part (meant_part t) z)
  unfolding meant_part
  whole_rolled t z = fold-roll-Logical Part (node t) z

  abbrev Gives : Logical → Type 0
  Gives q = is_well_kinded kss q ≡ true → gives_kinds tables q ≡ true

  abbrev Giver : Type 0
  Giver = (q : Logical) × Gives q

  level : (z : Logical-F Logical)
      → (kinded_node kss (map-Logical Logical (Logical × Bool) marked z) ≡ true → all_are (node [] (map-Logical Logical Part (meant_part []) z)).kinds (rows (node tables (map-Logical Logical Part (meant_part tables) z)).items) ≡ true)
      → Gives (roll-Logical z)
  unfolding kinds
  level z h e =
      ap (λ (p : Part). all_are p.kinds (rows (body tables (roll-Logical z)))) (whole_rolled [] z)
      ∙ ap (λ (p : Part). all_are (node [] (map-Logical Logical Part (meant_part []) z)).kinds (rows p.items)) (whole_rolled tables z)
      ∙ h (sym (kinded_rolled z) ∙ e)

  joins : (x y : Logical) (kind : JoinKind) (keys : List (ℕ × ℕ)) (rest : Option Expr) → gives_kinds tables x ≡ true → gives_kinds tables y ≡ true
      → all_are (kinds x ++ kinds y) (rows (joined kind (length (meant_part tables x).kinds) (length (meant_part tables y).kinds) keys rest (body tables x) (body tables y))) ≡ true
  joins x y kind keys rest p q =
      ap (λ (ks : List Kind). all_are (kinds x ++ kinds y) (rows (joined kind (length ks) (length (meant_part tables y).kinds) keys rest (body tables x) (body tables y)))) (kinds_at tables x)
      ∙ ap (λ (ks : List Kind). all_are (kinds x ++ kinds y) (rows (joined kind (length (kinds x)) (length ks) keys rest (body tables x) (body tables y)))) (kinds_at tables y)
      ∙ join_gives (kinds x) (kinds y) keys rest kind (body tables x) (body tables y) p q

  groups : (x : Logical) (keys : List ℕ) (calls : List AggCall)
      → all_are (key_kinds (kinds x) keys ++ call_kinds (kinds x) calls) (rows (aggregated keys calls (kinds x) (body tables x))) ≡ true
      → all_are (key_kinds (kinds x) keys ++ call_kinds (kinds x) calls) (rows (aggregated keys calls (meant_part tables x).kinds (body tables x))) ≡ true
  groups x keys calls p = ap (λ (ks : List Kind). all_are (key_kinds (kinds x) keys ++ call_kinds (kinds x) calls) (rows (aggregated keys calls ks (body tables x)))) (kinds_at tables x) ∙ p

  abbrev bodies : List Giver → List Logical
  bodies qs = map (λ (q : Giver). q.0) qs

  abbrev together : List Logical → List Item
  together qs = concat (map (λ (p : Part). p.items) (map (meant_part tables) qs))

  united : (ks : List Kind) (qs : List Giver) → all_as ks (map marked (bodies qs)) ≡ true → all_are ks (rows (together (bodies qs))) ≡ true
  united ks [] e = refl
  united ks (q ∷ qs) e =
      let a = and_parts (is_well_kinded kss q.0) (same_kinds ks (kinds q.0) && all_as ks (map marked (bodies qs))) e in
      let b = and_parts (same_kinds ks (kinds q.0)) (all_as ks (map marked (bodies qs))) a.1 in
      items_append ks (body tables q.0) (together (bodies qs))
      (subst (λ js. all_are js (rows (body tables q.0)) ≡ true) (sym (same_kinds_are ks (kinds q.0) b.0)) (q.1 a.0)) (united ks qs b.1)

  unions : (qs : List Giver) → are_united (map marked (bodies qs)) ≡ true → all_are (first_kinds (map (meant_part []) (bodies qs))) (rows (together (bodies qs))) ≡ true
  unfolding kinds
  unions [] e = refl
  unions (q ∷ qs) e =
      let a = and_parts (is_well_kinded kss q.0) (all_as (kinds q.0) (map marked (bodies qs))) e in
      items_append (kinds q.0) (body tables q.0) (together (bodies qs)) (q.1 a.0) (united (kinds q.0) qs a.1)

  step : (y : Logical-F Giver) → Gives (roll-Logical (map-Logical Giver Logical (λ k. k.0) y))
  unfolding kinds
  step (Logical-F.Scan table ks) = level (Logical-F.Scan table ks) (λ e. scan_gives kss tables have table ks e)
  step (Logical-F.Filter x test) = level (Logical-F.Filter x.0 test) (λ e. filter_gives (kinds x.0) test (body tables x.0) (x.1 (and_parts (is_well_kinded kss x.0) (is_test (kinds x.0) test) e).0))
  step (Logical-F.Project x items) = level (Logical-F.Project x.0 items) (λ e. (
      let a = and_parts (is_well_kinded kss x.0) (list_all (has_kind (kinds x.0)) items) e in
      project_gives (kinds x.0) items a.1 (body tables x.0) (x.1 a.0)))
  step (Logical-F.Join kind x y keys rest) = level (Logical-F.Join kind x.0 y.0 keys rest) (λ e. (
      let fits = keys_compare (kinds x.0) (kinds y.0) keys && is_rest (kinds x.0 ++ kinds y.0) rest in
      let a = and_parts (is_well_kinded kss x.0) (is_well_kinded kss y.0 && fits) e in
      let b = and_parts (is_well_kinded kss y.0) fits a.1 in
      joins x.0 y.0 kind keys rest (x.1 a.0) (y.1 b.0)))
  step (Logical-F.Aggregate x keys calls) = level (Logical-F.Aggregate x.0 keys calls) (λ e. (
      let a = and_parts (is_well_kinded kss x.0) (has_columns (kinds x.0) keys && calls_fit (kinds x.0) calls) e in
      let b = and_parts (has_columns (kinds x.0) keys) (calls_fit (kinds x.0) calls) a.1 in
      groups x.0 keys calls (aggregate_gives (kinds x.0) keys calls b.0 b.1 (body tables x.0) (x.1 a.0))))
  step (Logical-F.Distinct x) = level (Logical-F.Distinct x.0) (λ e. distinct_gives (kinds x.0) (body tables x.0) (x.1 (and_parts (is_well_kinded kss x.0) (nat_lt 0 (length (kinds x.0))) e).0))
  step (Logical-F.UnionAll xs) = level (Logical-F.UnionAll (bodies xs)) (λ e. unions xs e)

  pub giving : (q : Logical) → Gives q
  giving = ind-Logical Gives (λ x y is. subst (λ z. Gives (roll-Logical z)) is (step y))

  -- ---- every node below

  below_rolled : (z : Logical-F Logical) → all_below_give tables (roll-Logical z) ≡ below_node tables (map-Logical Logical (Logical × Bool) (λ q. (q, all_below_give tables q)) z)
  unfolding all_below_give
  below_rolled z = para-roll-Logical Bool (below_node tables) z

  abbrev Below : Logical → Type 0
  Below q = is_well_kinded kss q ≡ true → all_below_give tables q ≡ true

  abbrev Knower : Type 0
  Knower = (q : Logical) × Below q

  abbrev under : Logical → Logical × Bool
  under q = (q, all_below_give tables q)

  below_level : (z : Logical-F Logical)
      → (kinded_node kss (map-Logical Logical (Logical × Bool) marked z) ≡ true → below_node tables (map-Logical Logical (Logical × Bool) under z) ≡ true)
      → Below (roll-Logical z)
  below_level z h e = below_rolled z ∙ h (sym (kinded_rolled z) ∙ e)

  -- one more of these
  one_more : (q : Knower) (qs : List (Logical × Bool)) → is_well_kinded kss q.0 ≡ true → all_give tables qs ≡ true → all_give tables (under q.0 ∷ qs) ≡ true
  one_more q qs e more =
      and_from (gives_kinds tables q.0) (all_below_give tables q.0 && all_give tables qs) (giving q.0 e)
      (and_from (all_below_give tables q.0) (all_give tables qs) (q.1 e) more)

  one : (q : Knower) → is_well_kinded kss q.0 ≡ true → all_give tables (under q.0 ∷ []) ≡ true
  one q e = one_more q [] e refl

  abbrev bodies_of : List Knower → List Logical
  bodies_of qs = map (λ (q : Knower). q.0) qs

  all_united : (ks : List Kind) (qs : List Knower) → all_as ks (map marked (bodies_of qs)) ≡ true → all_give tables (map under (bodies_of qs)) ≡ true
  all_united ks [] e = refl
  all_united ks (q ∷ qs) e =
      let a = and_parts (is_well_kinded kss q.0) (same_kinds ks (kinds q.0) && all_as ks (map marked (bodies_of qs))) e in
      let b = and_parts (same_kinds ks (kinds q.0)) (all_as ks (map marked (bodies_of qs))) a.1 in
      one_more q (map under (bodies_of qs)) a.0 (all_united ks qs b.1)

  unions_below : (qs : List Knower) → are_united (map marked (bodies_of qs)) ≡ true → all_give tables (map under (bodies_of qs)) ≡ true
  unions_below [] e = refl
  unions_below (q ∷ qs) e =
      let a = and_parts (is_well_kinded kss q.0) (all_as (kinds q.0) (map marked (bodies_of qs))) e in
      one_more q (map under (bodies_of qs)) a.0 (all_united (kinds q.0) qs a.1)

  below_step : (y : Logical-F Knower) → Below (roll-Logical (map-Logical Knower Logical (λ k. k.0) y))
  below_step (Logical-F.Scan table ks) = below_level (Logical-F.Scan table ks) (λ e. refl)
  below_step (Logical-F.Filter x test) = below_level (Logical-F.Filter x.0 test) (λ e. one x (and_parts (is_well_kinded kss x.0) (is_test (kinds x.0) test) e).0)
  below_step (Logical-F.Project x items) = below_level (Logical-F.Project x.0 items) (λ e. one x (and_parts (is_well_kinded kss x.0) (list_all (has_kind (kinds x.0)) items) e).0)
  below_step (Logical-F.Join kind x y keys rest) = below_level (Logical-F.Join kind x.0 y.0 keys rest) (λ e. (
      let fits = keys_compare (kinds x.0) (kinds y.0) keys && is_rest (kinds x.0 ++ kinds y.0) rest in
      let a = and_parts (is_well_kinded kss x.0) (is_well_kinded kss y.0 && fits) e in
      let b = and_parts (is_well_kinded kss y.0) fits a.1 in
      one_more x (under y.0 ∷ []) a.0 (one y b.0)))
  below_step (Logical-F.Aggregate x keys calls) = below_level (Logical-F.Aggregate x.0 keys calls) (λ e. one x (and_parts (is_well_kinded kss x.0) (has_columns (kinds x.0) keys && calls_fit (kinds x.0) calls) e).0)
  below_step (Logical-F.Distinct x) = below_level (Logical-F.Distinct x.0) (λ e. one x (and_parts (is_well_kinded kss x.0) (nat_lt 0 (length (kinds x.0))) e).0)
  below_step (Logical-F.UnionAll xs) = below_level (Logical-F.UnionAll (bodies_of xs)) (λ e. unions_below xs e)

  pub below : (q : Logical) → Below q
  below = ind-Logical Below (λ x y is. subst (λ z. Below (roll-Logical z)) is (below_step y))

  pub everywhere : (q : Logical) → is_well_kinded kss q ≡ true → everywhere_kinded tables q ≡ true
  everywhere q e = and_from (gives_kinds tables q) (all_below_give tables q) (giving q e) (below q e)
