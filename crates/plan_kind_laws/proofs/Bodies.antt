-- The plan of a well-kinded query has the query's kinds.
use Rattle.std.specs.Prelude.{nat_lt, min, max, slice_get}
use Rattle.std.specs.List.{list_all}
use Rattle.std.proofs.Common.{ℕ, ◌≡◌, refl, sym, ap, ◌∙◌, subst, cond, Bool, true, false, ◌&&◌, ◌||◌, Some, is_some, List, [], ◌∷◌, ◌++◌, map, length, get_or, arith}
use Rattle.std.proofs.lemmas.List.{length-append, length-map, append-nil}
use Rattle.dfx_value.specs.declared.kind.Kind.{Kind}
use Rattle.dfx_value.specs.declared.rows.SortKey.{SortKey}
use Rattle.scalar_exprs.specs.declared.expr.Expr.{Expr}
use Rattle.scalar_exprs.specs.Kinds.{◌>>=◌, kind_of, call_kind, constants_fit}
use Rattle.logical_plan.specs.declared.plan.Logical.{Logical}
use Rattle.logical_plan.specs.declared.plan.Logical.TheOpen.{Logical-F}
use Rattle.logical_plan.specs.declared.plan.Logical.TheViews.{roll-Logical}
use Rattle.logical_plan.specs.declared.plan.Logical.TheFolds.{map-Logical, ind-Logical}
use Rattle.logical_plan.specs.declared.plan.Logical.TheVariants.{rolls-Scan, rolls-Filter, rolls-Project, rolls-Join, rolls-Aggregate, rolls-Distinct, rolls-UnionAll}
use Rattle.logical_plan.specs.declared.query.Query.{Query}
use Rattle.logical_plan.specs.Body as body
use Rattle.logical_plan.proofs.KindSteps as step_of
use Rattle.physical_plan.specs.declared.plan.Plan.{Plan}
use Rattle.physical_plan.specs.declared.plan.Plan.TheVariants as plan
use Rattle.physical_plan.specs.Numbers.{numbers}
use Rattle.physical_plan.proofs.Everywhere.{and_parts, both_true}
use Rattle.physical_build.specs.Build.{sorted_by, Built, built_of, body_plan, build, two_phases, first_width}
use Rattle.physical_build.proofs.Bodies.{built-Scan, built-Filter, built-Project, built-Join, built-Aggregate, built-Distinct, built-UnionAll}
use Rattle.planned_laws.specs.Planned.{IsPlanned}
use Rattle.kind_laws.specs.Kinded.{has_kind, is_test, is_rest, keys_compare, all_as, are_united, is_well_kinded}
use Rattle.kind_laws.proofs.KindedSteps.{marked, kinded-Filter, kinded-Project, kinded-Join, kinded-Aggregate, kinded-Distinct, kinded-UnionAll}
use Rattle.plan_kinds.specs.Phases.{has_columns, calls_fit}
use Rattle.plan_kinds.specs.Kinds.{kinds, provided, same_kinds, all_have_kinds, projected_kinds, side_by_side, agreed_kinds, union_kinds}
use Rattle.plan_kinds.proofs.Nodes.{kinds-Scan, kinds-Filter, kinds-Project, kinds-HashJoin, kinds-Sort, kinds-UnionAll, kinds-Limit}
use Rattle.plan_kind_laws.proofs.Erased.{erased_kinds}
use Rattle.plan_kind_laws.proofs.Phases.{phases, first_columns, first_kinds}

have_kinds : (columns : List Kind) (items : List Expr) → list_all (has_kind columns) items ≡ true → all_have_kinds columns items ≡ true
have_kinds columns [] e = refl
have_kinds columns (x ∷ xs) e =
    let a = and_parts (has_kind columns x) (list_all (has_kind columns) xs) e in
    both_true _ _ (and_parts (is_some (kind_of columns x)) (constants_fit x) a.0).0 (have_kinds columns xs a.1)

-- all columns, as DISTINCT groups by them
all_columns : (ks : List Kind) → has_columns ks (numbers (length ks)) ≡ true
all_columns ks = ap (λ js. has_columns js (numbers (length ks))) (sym (append-nil ks)) ∙ first_columns ks []

all_kinds : (ks : List Kind) → body.key_kinds ks (numbers (length ks)) ++ [] ≡ ks
all_kinds ks =
    append-nil (body.key_kinds ks (numbers (length ks)))
    ∙ ap (λ js. body.key_kinds js (numbers (length ks))) (sym (append-nil ks)) ∙ first_kinds ks []

record Has (ks : List Kind) (b : Built) : Type 0 where
  kinded : kinds b.plan ≡ Some ks
  width : b.width ≡ length ks

settle : (ks js : List Kind) (b c : Built) → ks ≡ js → b ≡ c → Has js c → Has ks b
settle ks js b c e f h = subst (λ xs. Has xs b) (sym e) (subst (Has js) (sym f) h)

module _ (kss : List (List Kind)) (files : List ℕ) (n : ℕ) where
  abbrev Body : Logical → Type 0
  Body q = is_well_kinded kss q ≡ true → Has (body.kinds q) (built_of files n q)

  abbrev Bodied : Type 0
  Bodied = (q : Logical) × Body q

  abbrev bodies : List Bodied → List Logical
  bodies qs = map (λ (q : Bodied). q.0) qs

  abbrev plans : List Bodied → List Plan
  plans qs = map (λ (b : Built). b.plan) (map (built_of files n) (bodies qs))

  agreed : (ks : List Kind) (qs : List Bodied) → all_as ks (map (marked kss) (bodies qs)) ≡ true → agreed_kinds ks (map kinds (plans qs)) ≡ Some ks
  agreed ks [] e = refl
  agreed ks (q ∷ qs) e =
      let a = and_parts (is_well_kinded kss q.0) (same_kinds ks (body.kinds q.0) && all_as ks (map (marked kss) (bodies qs))) e in
      let b = and_parts (same_kinds ks (body.kinds q.0)) (all_as ks (map (marked kss) (bodies qs))) a.1 in
      ap (λ o. o >>= λ js. provided (same_kinds ks js) ks >>= λ _. agreed_kinds ks (map kinds (plans qs))) (q.1 a.0).kinded
      ∙ ap (λ t. provided t ks >>= λ _. agreed_kinds ks (map kinds (plans qs))) b.0 ∙ agreed ks qs b.1

  united : (qs : List Bodied) → are_united (map (marked kss) (bodies qs)) ≡ true
      → (union_kinds (map kinds (plans qs)) ≡ Some (body.union_kinds (bodies qs))) × (first_width (map (built_of files n) (bodies qs)) ≡ length (body.union_kinds (bodies qs)))
  united [] e = (refl, refl)
  united (q ∷ qs) e =
      let a = and_parts (is_well_kinded kss q.0) (all_as (body.kinds q.0) (map (marked kss) (bodies qs))) e in
      (ap (λ o. o >>= λ ks. agreed_kinds ks (map kinds (plans qs))) (q.1 a.0).kinded ∙ agreed (body.kinds q.0) qs a.1, (q.1 a.0).width)

  step : (y : Logical-F Bodied) → Body (roll-Logical (map-Logical Bodied Logical (λ k. k.0) y))
  step (Logical-F.Scan t ks) = subst Body (sym (rolls-Scan t ks)) (λ e. settle _ ks _ _ (step_of.kinds-Scan t ks) (built-Scan files n t ks) (record {
    kinded = kinds-Scan t ks (get_or files t 0) (min (max (get_or files t 0) 1) n);
    width = refl;
  }))
  step (Logical-F.Filter x test) = subst Body (sym (rolls-Filter x.0 test)) (λ e. (
      let h = x.1 (and_parts (is_well_kinded kss x.0) (is_test (body.kinds x.0) test) (sym (kinded-Filter kss x.0 test) ∙ e)).0 in
      settle _ (body.kinds x.0) _ _ (step_of.kinds-Filter x.0 test) (built-Filter files n x.0 test) (record {
        kinded = kinds-Filter (body_plan files n x.0) test ∙ h.kinded;
        width = h.width;
      })))
  step (Logical-F.Project x items) = subst Body (sym (rolls-Project x.0 items)) (λ e. (
      let a = and_parts (is_well_kinded kss x.0) (list_all (has_kind (body.kinds x.0)) items) (sym (kinded-Project kss x.0 items) ∙ e) in
      let h = x.1 a.0 in
      settle _ (body.item_kinds (body.kinds x.0) items) _ _ (step_of.kinds-Project x.0 items) (built-Project files n x.0 items) (record {
        kinded = kinds-Project (body_plan files n x.0) items ∙ ap (λ o. o >>= λ columns. projected_kinds columns items) h.kinded
            ∙ ap (λ t. provided t (body.item_kinds (body.kinds x.0) items)) (have_kinds (body.kinds x.0) items a.1);
        width = sym (length-map items (λ i. body.kind_or_text (kind_of (body.kinds x.0) i)));
      })))
  step (Logical-F.Join kind x y keys rest) = subst Body (sym (rolls-Join kind x.0 y.0 keys rest)) (λ e. (
      let fits = keys_compare (body.kinds x.0) (body.kinds y.0) keys && is_rest (body.kinds x.0 ++ body.kinds y.0) rest in
      let a = and_parts (is_well_kinded kss x.0) (is_well_kinded kss y.0 && fits) (sym (kinded-Join kss kind x.0 y.0 keys rest) ∙ e) in
      let h = x.1 a.0 in
      let i = y.1 (and_parts (is_well_kinded kss y.0) fits a.1).0 in
      settle _ (body.kinds x.0 ++ body.kinds y.0) _ _ (step_of.kinds-Join kind x.0 y.0 keys rest) (built-Join files n kind x.0 y.0 keys rest) (record {
        kinded = kinds-HashJoin kind (body_plan files n x.0) (body_plan files n y.0) keys rest
            ∙ ap (λ o. side_by_side o (kinds (body_plan files n y.0))) h.kinded ∙ ap (λ o. side_by_side (Some (body.kinds x.0)) o) i.kinded;
        width = (let l = length-append (body.kinds x.0) (body.kinds y.0) in let u = h.width in let v = i.width in omega arith);
      })))
  step (Logical-F.Aggregate x keys calls) = subst Body (sym (rolls-Aggregate x.0 keys calls)) (λ e. (
      let ks = body.kinds x.0 in
      let a = and_parts (is_well_kinded kss x.0) (has_columns ks keys && calls_fit ks calls) (sym (kinded-Aggregate kss x.0 keys calls) ∙ e) in
      let b = and_parts (has_columns ks keys) (calls_fit ks calls) a.1 in
      settle _ (body.key_kinds ks keys ++ body.call_kinds ks calls) _ _ (step_of.kinds-Aggregate x.0 keys calls) (built-Aggregate files n x.0 keys calls) (record {
        kinded = phases (body_plan files n x.0) ks keys calls (x.1 a.0).kinded b.0 b.1;
        width = (let l = length-append (body.key_kinds ks keys) (body.call_kinds ks calls) in
            let u = length-map keys (λ (k : ℕ). body.kind_or_text (slice_get ks k)) in
            let v = length-map calls (λ c. body.kind_or_text (call_kind c ks)) in omega arith);
      })))
  step (Logical-F.Distinct x) = subst Body (sym (rolls-Distinct x.0)) (λ e. (
      let ks = body.kinds x.0 in
      let h = x.1 (and_parts (is_well_kinded kss x.0) (nat_lt 0 (length ks)) (sym (kinded-Distinct kss x.0) ∙ e)).0 in
      settle _ ks _ _ (step_of.kinds-Distinct x.0) (built-Distinct files n x.0) (record {
        kinded = ap (λ (w : ℕ). kinds (two_phases (body_plan files n x.0) (numbers w) [])) h.width
            ∙ phases (body_plan files n x.0) ks (numbers (length ks)) [] h.kinded (all_columns ks) refl
            ∙ ap (λ js. Some js) (all_kinds ks);
        width = h.width;
      })))
  step (Logical-F.UnionAll xs) = subst Body (sym (rolls-UnionAll (bodies xs))) (λ e. (
      let u = united xs (sym (kinded-UnionAll kss (bodies xs)) ∙ e) in
      settle _ (body.union_kinds (bodies xs)) _ _ (step_of.kinds-UnionAll (bodies xs)) (built-UnionAll files n (bodies xs)) (record {
        kinded = kinds-UnionAll (plans xs) ∙ u.0;
        width = u.1;
      })))

  pub body_kinds : (q : Logical) → is_well_kinded kss q ≡ true → kinds (body_plan files n q) ≡ Some (body.kinds q)
  body_kinds q e = (ind-Logical Body (λ x y is. subst (λ z. Body (roll-Logical z)) is (step y)) q e).kinded

  pub build_kinds : (q : Query) → is_well_kinded kss q.body ≡ true → kinds (build q files n) ≡ Some (body.kinds q.body)
  build_kinds q e = below_limit (is_some q.limit || nat_lt 0 q.offset) ∙ below_sort q.order ∙ body_kinds q.body e
    where
      below_sort : (order : List SortKey) → kinds (sorted_by order (body_plan files n q.body)) ≡ kinds (body_plan files n q.body)
      below_sort [] = refl
      below_sort (k ∷ ks) = kinds-Sort (body_plan files n q.body) (k ∷ ks)

      below_limit : (b : Bool) → kinds (cond b (plan.Limit (sorted_by q.order (body_plan files n q.body)) q.offset q.limit) (sorted_by q.order (body_plan files n q.body))) ≡ kinds (sorted_by q.order (body_plan files n q.body))
      below_limit true = kinds-Limit (sorted_by q.order (body_plan files n q.body)) q.offset q.limit
      below_limit false = refl

  pub planned_kinds : (q : Query) (p : Plan) → is_well_kinded kss q.body ≡ true → IsPlanned q files p n → kinds p ≡ Some (body.kinds q.body)
  planned_kinds q p e t = sym (erased_kinds p) ∙ ap kinds t.tree ∙ erased_kinds (build q files n) ∙ build_kinds q e
