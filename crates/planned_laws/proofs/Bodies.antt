-- The plan of a body whose columns are in range.
use Rattle.std.specs.Prelude.{nat_lt, is_some}
use Rattle.std.proofs.Common.{ℕ, ◌≡◌, ◌+◌, refl, sym, ap, ◌∙◌, subst, cond, Bool, true, false, ◌||◌, List, [], ◌∷◌, map, length, sum, arith}
use Rattle.dfx_value.specs.declared.rows.SortKey.{SortKey}
use Rattle.dfx_value.specs.declared.op.AggCall.{AggCall}
use Rattle.logical_plan.specs.declared.plan.Logical.{Logical}
use Rattle.logical_plan.specs.declared.plan.Logical.TheOpen.{Logical-F}
use Rattle.logical_plan.specs.declared.plan.Logical.TheViews.{roll-Logical}
use Rattle.logical_plan.specs.declared.plan.Logical.TheFolds.{map-Logical, ind-Logical}
use Rattle.logical_plan.specs.declared.plan.Logical.TheVariants.{rolls-Scan, rolls-Filter, rolls-Project, rolls-Join, rolls-Aggregate, rolls-Distinct, rolls-UnionAll}
use Rattle.logical_plan.specs.declared.query.Query.{Query}
use Rattle.physical_plan.specs.declared.plan.Plan.{Plan}
use Rattle.physical_plan.specs.declared.plan.Plan.TheVariants as plan
use Rattle.physical_plan.specs.Numbers.{numbers}
use Rattle.physical_plan.specs.Properties.{state_width}
use Rattle.physical_build.specs.Build.{sorted_by, Built, built, built_of, body_plan, build, two_phases, first_width}
use Rattle.physical_plan.specs.Everywhere.{all_true}
use Rattle.physical_plan.proofs.Everywhere.{and_parts}
use Rattle.physical_build.proofs.Bodies.{built-Scan, built-Filter, built-Project, built-Join, built-Aggregate, built-Distinct, built-UnionAll}
use Rattle.planned_laws.specs.Ranges.{are_below, key_columns, call_columns}
use Rattle.planned_laws.specs.Queries.{body_width, body_in_range, QueryInRange}
use Rattle.planned_laws.proofs.Below.{first_below, all_below, numbers_length}
use Rattle.planned_laws.proofs.Nodes.{Ranged, AllRanged, first_of, ranged-Scan, ranged-Filter, ranged-Project, ranged-PartialGroup, ranged-FinalGroup, ranged-HashJoin, ranged-Sort, ranged-UnionAll, ranged-Limit}
use Rattle.planned_laws.proofs.BodyNodes.{parts-Filter, parts-Project, parts-Join, parts-Aggregate, parts-Distinct, parts-UnionAll, width-Scan, width-Filter, width-Project, width-Join, width-Aggregate, width-Distinct, width-UnionAll}

-- ---- both phases of a grouping

two_ranged : (w : ℕ) (p : Plan) (keys : List ℕ) (calls : List AggCall) → are_below w keys ≡ true → are_below w (call_columns calls) ≡ true → Ranged w p → Ranged (length keys + length calls) (two_phases p keys calls)
two_ranged w p keys calls h i r =
    subst (λ (x : ℕ). Ranged (x + length calls) (two_phases p keys calls)) (numbers_length (length keys) 0)
    (ranged-FinalGroup (length keys + sum (map state_width calls)) (plan.PartialGroup p keys calls) (numbers (length keys)) calls
    (first_below (length keys) (sum (map state_width calls)))
    (ap (λ (x : ℕ). x + sum (map state_width calls)) (sym (numbers_length (length keys) 0)))
    (ranged-PartialGroup w p keys calls h i r))

-- ---- bodies

abbrev Good : ℕ → Built → Type 0
Good w b = Ranged w b.plan × (b.width ≡ w)

settle : (w v : ℕ) (b c : Built) → w ≡ v → b ≡ c → Good v c → Good w b
settle w v b c e f g = subst (λ (x : ℕ). Good x b) (sym e) (subst (Good v) (sym f) g)

distinct_good : (w : ℕ) (b : Built) → Good w b → Good w (built (two_phases b.plan (numbers b.width) []) b.width)
distinct_good w b g =
    (subst (λ (x : ℕ). Ranged x (two_phases b.plan (numbers b.width) [])) wide (two_ranged w b.plan (numbers b.width) [] below refl g.0), g.1)
  where
    below : are_below w (numbers b.width) ≡ true
    below = ap (λ (x : ℕ). are_below w (numbers x)) g.1 ∙ all_below w

    wide : length (numbers b.width) + 0 ≡ w
    wide = let a = numbers_length b.width 0 in let e = g.1 in omega arith

module _ (files : List ℕ) (n : ℕ) where
  abbrev Bodied : Logical → Type 0
  Bodied l = body_in_range l ≡ true → Good (body_width l) (built_of files n l)

  abbrev Known : Type 0
  Known = (l : Logical) × Bodied l

  abbrev known : List Known → List Logical
  known xs = map (λ (k : Known). k.0) xs

  all_good : (xs : List Known) → all_true (map body_in_range (known xs)) ≡ true → AllRanged (map body_width (known xs)) (map (λ (b : Built). b.plan) (map (built_of files n) (known xs)))
  all_good [] e = tt
  all_good (x ∷ xs) e = let a = and_parts (body_in_range x.0) (all_true (map body_in_range (known xs))) e in ((x.1 a.0).0, all_good xs a.1)

  first_good : (xs : List Known) → all_true (map body_in_range (known xs)) ≡ true → first_width (map (built_of files n) (known xs)) ≡ first_of (map body_width (known xs))
  first_good [] e = refl
  first_good (x ∷ xs) e = (x.1 (and_parts (body_in_range x.0) (all_true (map body_in_range (known xs))) e).0).1

  step : (y : Logical-F Known) → Bodied (roll-Logical (map-Logical Known Logical (λ k. k.0) y))
  step (Logical-F.Scan t ks) = subst Bodied (sym (rolls-Scan t ks)) (λ e. settle _ (length ks) _ _ (width-Scan t ks) (built-Scan files n t ks) (ranged-Scan _ ks _ _, refl))
  step (Logical-F.Filter x test) = subst Bodied (sym (rolls-Filter x.0 test)) (λ e. let a = parts-Filter x.0 test e in let g = x.1 a.1 in
      settle _ (body_width x.0) _ _ (width-Filter x.0 test) (built-Filter files n x.0 test) (ranged-Filter (body_width x.0) (body_plan files n x.0) test a.0 g.0, g.1))
  step (Logical-F.Project x items) = subst Bodied (sym (rolls-Project x.0 items)) (λ e. let a = parts-Project x.0 items e in let g = x.1 a.1 in
      settle _ (length items) _ _ (width-Project x.0 items) (built-Project files n x.0 items) (ranged-Project (body_width x.0) (body_plan files n x.0) items a.0 g.0, refl))
  step (Logical-F.Join kind x y keys rest) = subst Bodied (sym (rolls-Join kind x.0 y.0 keys rest)) (λ e. let a = parts-Join kind x.0 y.0 keys rest e in let g = x.1 a.left_range in let h = y.1 a.right_range in
      settle _ (body_width x.0 + body_width y.0) _ _ (width-Join kind x.0 y.0 keys rest) (built-Join files n kind x.0 y.0 keys rest)
      (ranged-HashJoin (body_width x.0) (body_width y.0) kind (body_plan files n x.0) (body_plan files n y.0) keys rest a.left_below a.right_below a.rest_below g.0 h.0, ap (λ (v : ℕ). v + (built_of files n y.0).width) g.1 ∙ ap (λ (v : ℕ). body_width x.0 + v) h.1))
  step (Logical-F.Aggregate x keys calls) = subst Bodied (sym (rolls-Aggregate x.0 keys calls)) (λ e. let a = parts-Aggregate x.0 keys calls e in let g = x.1 a.2 in
      settle _ (length keys + length calls) _ _ (width-Aggregate x.0 keys calls) (built-Aggregate files n x.0 keys calls)
      (two_ranged (body_width x.0) (body_plan files n x.0) keys calls a.0 a.1 g.0, refl))
  step (Logical-F.Distinct x) = subst Bodied (sym (rolls-Distinct x.0)) (λ e. let g = x.1 (parts-Distinct x.0 e) in
      settle _ (body_width x.0) _ _ (width-Distinct x.0) (built-Distinct files n x.0) (distinct_good (body_width x.0) (built_of files n x.0) g))
  step (Logical-F.UnionAll xs) = subst Bodied (sym (rolls-UnionAll (known xs))) (λ e. let a = parts-UnionAll (known xs) e in
      settle _ (first_of (map body_width (known xs))) _ _ (width-UnionAll (known xs)) (built-UnionAll files n (known xs))
      (ranged-UnionAll (map body_width (known xs)) (map (λ (b : Built). b.plan) (map (built_of files n) (known xs))) a.0 (all_good xs a.1), first_good xs a.1))

  pub ranged_body : (l : Logical) → body_in_range l ≡ true → Ranged (body_width l) (body_plan files n l)
  ranged_body l e = (ind-Logical Bodied (λ x y is. subst (λ z. Bodied (roll-Logical z)) is (step y)) l e).0

  pub ranged_build : (q : Query) → QueryInRange q → Ranged (body_width q.body) (build q files n)
  ranged_build q r = go (is_some q.limit || nat_lt 0 q.offset)
    where
      by : (order : List SortKey) → are_below (body_width q.body) (key_columns order) ≡ true → Ranged (body_width q.body) (sorted_by order (body_plan files n q.body))
      by [] h = ranged_body q.body r.body
      by (k ∷ ks) h = ranged-Sort (body_width q.body) (body_plan files n q.body) (k ∷ ks) h (ranged_body q.body r.body)

      go : (b : Bool) → Ranged (body_width q.body) (cond b (plan.Limit (sorted_by q.order (body_plan files n q.body)) q.offset q.limit) (sorted_by q.order (body_plan files n q.body)))
      go true = ranged-Limit (body_width q.body) (sorted_by q.order (body_plan files n q.body)) q.offset q.limit (by q.order r.order)
      go false = by q.order r.order
