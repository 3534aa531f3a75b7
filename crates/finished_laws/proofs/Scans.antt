-- The scans of a finished plan are those of its query's body, over tables that have their columns.
use Rattle.std.specs.Prelude.{min, max}
use Rattle.std.proofs.Common.{ℕ, ◌≡◌, ◌==◌, refl, sym, ap, ◌∙◌, subst, List, [], ◌∷◌, length, get_or, map, Bool, true, false, ◌&&◌}
use Rattle.dfx_value.specs.declared.op.AggCall.{AggCall}
use Rattle.dfx_value.specs.declared.rows.SortKey.{SortKey}
use Rattle.logical_plan.specs.declared.plan.Logical.{Logical}
use Rattle.logical_plan.specs.declared.plan.Logical.TheOpen.{Logical-F}
use Rattle.logical_plan.specs.declared.plan.Logical.TheViews.{roll-Logical}
use Rattle.logical_plan.specs.declared.plan.Logical.TheFolds.{fold-roll-Logical, para-roll-Logical, map-Logical, ind-Logical}
use Rattle.logical_plan.specs.Items.{rows, concat}
use Rattle.logical_plan.specs.Body.{Tables, meant_part}
use Rattle.physical_plan.specs.declared.plan.Plan.{Plan}
use Rattle.physical_plan.specs.declared.plan.Plan.TheVariants as plan
use Rattle.physical_plan.specs.declared.plan.Plan.TheVariants.{rolls-Scan, rolls-Filter, rolls-Project, rolls-PartialGroup, rolls-FinalGroup, rolls-HashJoin, rolls-Sort, rolls-UnionAll, rolls-Limit}
use Rattle.physical_plan.specs.declared.plan.Plan.TheOpen.{Plan-F}
use Rattle.physical_plan.specs.declared.plan.Plan.TheViews.{roll-Plan}
use Rattle.physical_plan.specs.declared.plan.Plan.TheFolds.{map-Plan, ind-Plan}
use Rattle.physical_plan.specs.Numbers.{numbers}
use Rattle.physical_build.specs.Build.{sorted_by, Built, node, built_of, body_plan, two_phases}
use Rattle.physical_plan.specs.Everywhere.{Test, node_holds, everywhere, all_true, bare_node, erased}
use Rattle.answer_laws.specs.Meant.{files_of}
use Rattle.answer_laws.proofs.Meaning.{both_true}
use Rattle.answer_laws.proofs.Built.{erased_rolled}
use Rattle.finished_laws.specs.Sound.{are_wide, scans_fit}
use Rattle.finished_laws.specs.Known.{is_kinded, known_node, is_known}
use Rattle.finished_laws.proofs.Everywhere.{both_are, rolled, seconds}

and_true : (b : Bool) → b && true ≡ b
and_true true = refl
and_true false = refl

module _ (tables : Tables) where
  abbrev test : Test
  test = scans_fit tables

  abbrev fits : Plan → Bool
  fits = everywhere test

  abbrev holds : Plan-F Plan → Bool
  holds z = node_holds test (map-Plan Plan (Plan × Bool) (λ p. (p, fits p)) z)

  abbrev Same : Plan → Type 0
  Same p = fits (erased p) ≡ fits p

  abbrev Known : Type 0
  Known = (p : Plan) × Same p

  abbrev plans : List Known → List Plan
  plans ps = map (λ (p : Known). p.0) ps

  level : (z y : Plan-F Plan) → bare_node (map-Plan Plan Plan erased z) ≡ roll-Plan y → holds y ≡ holds z → Same (roll-Plan z)
  level z y e m = ap fits (erased_rolled tables z ∙ e) ∙ rolled test y ∙ m ∙ sym (rolled test z)

  leaves : (z : Plan-F Plan) (x : Known) → bare_node (map-Plan Plan Plan erased z) ≡ erased x.0 → holds z ≡ fits x.0 && true → Same (roll-Plan z)
  leaves z x e m = ap fits (erased_rolled tables z ∙ e) ∙ x.1 ∙ sym (and_true (fits x.0)) ∙ sym m ∙ sym (rolled test z)

  one : (x : Known) → fits (erased x.0) && true ≡ fits x.0 && true
  one x = ap (λ (b : Bool). b && true) x.1

  all_same : (xs : List Known) → all_true (map fits (map erased (plans xs))) ≡ all_true (map fits (plans xs))
  all_same [] = refl
  all_same (x ∷ xs) = ap (λ (b : Bool). b && all_true (map fits (map erased (plans xs)))) x.1 ∙ ap (λ (b : Bool). fits x.0 && b) (all_same xs)

  step : (y : Plan-F Known) → Same (roll-Plan (map-Plan Known Plan (λ k. k.0) y))
  step (Plan-F.Scan table kinds files partitions) = level (Plan-F.Scan table kinds files partitions) (Plan-F.Scan table kinds files partitions) (sym (rolls-Scan table kinds files partitions)) refl
  step (Plan-F.Filter x cond) = level (Plan-F.Filter x.0 cond) (Plan-F.Filter (erased x.0) cond) (sym (rolls-Filter (erased x.0) cond)) (one x)
  step (Plan-F.Project x items) = level (Plan-F.Project x.0 items) (Plan-F.Project (erased x.0) items) (sym (rolls-Project (erased x.0) items)) (one x)
  step (Plan-F.PartialGroup x keys calls) = level (Plan-F.PartialGroup x.0 keys calls) (Plan-F.PartialGroup (erased x.0) keys calls) (sym (rolls-PartialGroup (erased x.0) keys calls)) (one x)
  step (Plan-F.FinalGroup x keys calls) = level (Plan-F.FinalGroup x.0 keys calls) (Plan-F.FinalGroup (erased x.0) keys calls) (sym (rolls-FinalGroup (erased x.0) keys calls)) (one x)
  step (Plan-F.HashJoin kind x y keys rest) = level (Plan-F.HashJoin kind x.0 y.0 keys rest) (Plan-F.HashJoin kind (erased x.0) (erased y.0) keys rest) (sym (rolls-HashJoin kind (erased x.0) (erased y.0) keys rest))
      (ap (λ (b : Bool). b && (fits (erased y.0) && true)) x.1 ∙ ap (λ (b : Bool). fits x.0 && (b && true)) y.1)
  step (Plan-F.Sort x keys) = leaves (Plan-F.Sort x.0 keys) x refl refl
  step (Plan-F.Merge x keys) = leaves (Plan-F.Merge x.0 keys) x refl refl
  step (Plan-F.Coalesce x) = leaves (Plan-F.Coalesce x.0) x refl refl
  step (Plan-F.Repartition x to) = leaves (Plan-F.Repartition x.0 to) x refl refl
  step (Plan-F.UnionAll xs) = level (Plan-F.UnionAll (plans xs)) (Plan-F.UnionAll (map erased (plans xs))) (sym (rolls-UnionAll (map erased (plans xs))))
      (ap all_true (seconds test (map erased (plans xs))) ∙ all_same xs ∙ sym (ap all_true (seconds test (plans xs))))
  step (Plan-F.Limit x skip fetch) = level (Plan-F.Limit x.0 skip fetch) (Plan-F.Limit (erased x.0) skip fetch) (sym (rolls-Limit (erased x.0) skip fetch)) (one x)

  pub erased_fits : (p : Plan) → everywhere (scans_fit tables) (erased p) ≡ everywhere (scans_fit tables) p
  erased_fits = ind-Plan Same (λ x y is. subst (λ z. Same (roll-Plan z)) is (step y))

  -- ------------------------------------------------------------ bodies

  rolled_to : (p : Plan) (z : Plan-F Plan) → roll-Plan z ≡ p → fits p ≡ holds z
  rolled_to p z e = ap fits (sym e) ∙ rolled test z

  module _ (files : List ℕ) (n : ℕ) where
    abbrev Body : Logical → Type 0
    Body q = is_known tables files q ≡ true → fits (body_plan files n q) ≡ true

    abbrev Bodied : Type 0
    Bodied = (q : Logical) × Body q

    abbrev bodies : List Bodied → List Logical
    bodies qs = map (λ (q : Bodied). q.0) qs

    known_rolled : (z : Logical-F Logical) → is_known tables files (roll-Logical z) ≡ known_node tables files (map-Logical Logical (Logical × Bool) (λ q. (q, is_known tables files q)) z)
    unfolding is_known
    known_rolled z = para-roll-Logical Bool (known_node tables files) z

    built_rolled : (z : Logical-F Logical) → built_of files n (roll-Logical z) ≡ node files n (map-Logical Logical Built (built_of files n) z)
    unfolding built_of
    built_rolled z = fold-roll-Logical Built (node files n) z

    body_level : (z : Logical-F Logical)
        → (known_node tables files (map-Logical Logical (Logical × Bool) (λ q. (q, is_known tables files q)) z) ≡ true → fits (node files n (map-Logical Logical Built (built_of files n) z)).plan ≡ true)
        → Body (roll-Logical z)
    body_level z h k = ap (λ (b : Built). fits b.plan) (built_rolled z) ∙ h (sym (known_rolled z) ∙ k)

    then_true : (b : Bool) → b ≡ true → b && true ≡ true
    then_true b e = and_true b ∙ e

    grouped : (b : Plan) (keys : List ℕ) (calls : List AggCall) → fits b ≡ true → fits (two_phases b keys calls) ≡ true
    grouped b keys calls e =
        let first = plan.PartialGroup b keys calls in
        rolled_to (two_phases b keys calls) (Plan-F.FinalGroup first (numbers (length keys)) calls) (rolls-FinalGroup first (numbers (length keys)) calls)
        ∙ then_true (fits first) (rolled_to first (Plan-F.PartialGroup b keys calls) (rolls-PartialGroup b keys calls) ∙ then_true (fits b) e)

    all_fit : (qs : List Bodied) → all_true (map (λ (q : Logical × Bool). q.1) (map (λ (q : Logical). (q, is_known tables files q)) (bodies qs))) ≡ true → all_true (map fits (map (λ (b : Built). b.plan) (map (built_of files n) (bodies qs)))) ≡ true
    all_fit [] k = refl
    all_fit (q ∷ qs) k =
        let b = both_true (is_known tables files q.0) (all_true (map (λ (q : Logical × Bool). q.1) (map (λ (q : Logical). (q, is_known tables files q)) (bodies qs)))) k in
        both_are (fits (body_plan files n q.0)) (all_true (map fits (map (λ (b : Built). b.plan) (map (built_of files n) (bodies qs))))) (q.1 b.0) (all_fit qs b.1)

    body_step : (y : Logical-F Bodied) → Body (roll-Logical (map-Logical Bodied Logical (λ k. k.0) y))
    body_step (Logical-F.Scan table kinds) = body_level (Logical-F.Scan table kinds) (λ k. (
        let c = get_or files table 0 in
        let m = min (max c 1) n in
        let w = are_wide (length kinds) (rows (concat (files_of tables table))) in
        rolled_to (plan.Scan table kinds c m) (Plan-F.Scan table kinds c m) (rolls-Scan table kinds c m) ∙ then_true w (both_true (c == length (files_of tables table)) w k).1))
    body_step (Logical-F.Filter x cond) = body_level (Logical-F.Filter x.0 cond) (λ k. (let b = body_plan files n x.0 in rolled_to (plan.Filter b cond) (Plan-F.Filter b cond) (rolls-Filter b cond) ∙ then_true (fits b) (x.1 k)))
    body_step (Logical-F.Project x items) = body_level (Logical-F.Project x.0 items) (λ k. (let b = body_plan files n x.0 in rolled_to (plan.Project b items) (Plan-F.Project b items) (rolls-Project b items) ∙ then_true (fits b) (x.1 k)))
    body_step (Logical-F.Join kind x y keys rest) = body_level (Logical-F.Join kind x.0 y.0 keys rest) (λ k. (
        let b = body_plan files n x.0 in
        let c = body_plan files n y.0 in
        let t = both_true (is_known tables files x.0) (is_known tables files y.0) k in
        rolled_to (plan.HashJoin kind b c keys rest) (Plan-F.HashJoin kind b c keys rest) (rolls-HashJoin kind b c keys rest) ∙ both_are (fits b) (fits c && true) (x.1 t.0) (then_true (fits c) (y.1 t.1))))
    body_step (Logical-F.Aggregate x keys calls) = body_level (Logical-F.Aggregate x.0 keys calls) (λ k. grouped (body_plan files n x.0) keys calls (x.1 (both_true (is_known tables files x.0) (is_kinded (meant_part tables x.0)) k).0))
    body_step (Logical-F.Distinct x) = body_level (Logical-F.Distinct x.0) (λ k. grouped (body_plan files n x.0) (numbers (built_of files n x.0).width) [] (x.1 k))
    body_step (Logical-F.UnionAll xs) = body_level (Logical-F.UnionAll (bodies xs)) (λ k. (
        let bs = map (λ (b : Built). b.plan) (map (built_of files n) (bodies xs)) in
        rolled_to (plan.UnionAll bs) (Plan-F.UnionAll bs) (rolls-UnionAll bs) ∙ ap all_true (seconds test bs) ∙ all_fit xs k))

    body_fits : (q : Logical) → is_known tables files q ≡ true → fits (body_plan files n q) ≡ true
    body_fits = ind-Logical Body (λ x y is. subst (λ z. Body (roll-Logical z)) is (body_step y))

    sorted_fits : (keys : List SortKey) (p : Plan) → fits p ≡ true → fits (sorted_by keys p) ≡ true
    sorted_fits [] p e = e
    sorted_fits (k ∷ ks) p e = rolled_to (plan.Sort p (k ∷ ks)) (Plan-F.Sort p (k ∷ ks)) (rolls-Sort p (k ∷ ks)) ∙ then_true (fits p) e

    -- of a plan that is the sorted body but for exchanges and sorts
    pub plan_fits : (order : List SortKey) (q : Logical) → is_known tables files q ≡ true → (p : Plan) → erased p ≡ erased (sorted_by order (body_plan files n q)) → everywhere (scans_fit tables) p ≡ true
    plan_fits order q k p e = sym (erased_fits p) ∙ ap fits e ∙ erased_fits (sorted_by order (body_plan files n q)) ∙ sorted_fits order (body_plan files n q) (body_fits q k)
