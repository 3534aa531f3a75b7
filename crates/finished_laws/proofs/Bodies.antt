-- The plain plan of a query's body can be told, but for how its rows are spread.
use Rattle.std.specs.Prelude.{nat_lt, min, max}
use Rattle.std.proofs.Common.{ℕ, ◌<◌, ◌≡◌, ◌==◌, refl, sym, ap, ◌∙◌, subst, List, [], ◌∷◌, length, get_or, map, Bool, true, ◌&&◌, Some, arith}
use Rattle.std.proofs.lemmas.Bool.{lt-ltb, eq-eqb}
use Rattle.dfx_value.specs.KindedRows.{all_are}
use Rattle.dfx_value.specs.declared.op.AggCall.{AggCall}
use Rattle.dfx_value.specs.declared.op.AggCall.TheVariants.{CountAll, Count, Sum, Min, Max, Avg}
use Rattle.dfx_value.specs.declared.rows.SortKey.{SortKey}
use Rattle.logical_plan.specs.declared.plan.Logical.{Logical}
use Rattle.logical_plan.specs.declared.plan.Logical.TheOpen.{Logical-F}
use Rattle.logical_plan.specs.declared.plan.Logical.TheViews.{roll-Logical}
use Rattle.logical_plan.specs.declared.plan.Logical.TheFolds.{fold-roll-Logical, para-roll-Logical, map-Logical, ind-Logical}
use Rattle.logical_plan.specs.Items.{rows, concat}
use Rattle.logical_plan.specs.Body.{Tables, meant_part}
use Rattle.physical_plan.specs.Everywhere.{all_true}
use Rattle.physical_plan.specs.declared.plan.Plan.{Plan}
use Rattle.physical_plan.specs.declared.plan.Plan.TheVariants as plan
use Rattle.physical_plan.specs.declared.plan.Plan.TheVariants.{rolls-Scan, rolls-Filter, rolls-Project, rolls-PartialGroup, rolls-FinalGroup, rolls-HashJoin, rolls-Sort, rolls-UnionAll}
use Rattle.physical_plan.specs.declared.plan.Plan.TheOpen.{Plan-F}
use Rattle.physical_plan.specs.declared.plan.Plan.TheViews.{roll-Plan}
use Rattle.physical_plan.specs.declared.plan.Plan.TheFolds.{map-Plan}
use Rattle.physical_plan.specs.Numbers.{numbers}
use Rattle.physical_build.specs.Build.{sorted_by, Built, node, built_of, body_plan, two_phases}
use Rattle.answer_laws.specs.Meant.{grouping, Meaning, meaning_of, files_of, is_whole, all_told, same_numbers, same_call, same_calls, finishes, told_node, is_told, Phases}
use Rattle.answer_laws.specs.Parted.{LawsOfParts}
use Rattle.answer_laws.specs.Distincts.{distinct_node, has_distincts}
use Rattle.answer_laws.proofs.Meaning.{both_true}
use Rattle.answer_laws.proofs.Built.{means, body_means}
use Rattle.finished_laws.specs.Sound.{anyhow, are_wide}
use Rattle.finished_laws.specs.Known.{is_kinded, known_node, is_known}
use Rattle.finished_laws.proofs.Everywhere.{both_are}
use Rattle.finished_laws.proofs.Told.{told_rolled}

same_all : (xs : List ℕ) → same_numbers xs xs ≡ true
same_all [] = refl
same_all (x ∷ xs) = both_are (x == x) (same_numbers xs xs) (eq-eqb x x refl) (same_all xs)

own_call : (c : AggCall) → same_call c c ≡ true
own_call CountAll = refl
own_call (Count a) = eq-eqb a a refl
own_call (Sum a) = eq-eqb a a refl
own_call (Min a) = eq-eqb a a refl
own_call (Max a) = eq-eqb a a refl
own_call (Avg a) = eq-eqb a a refl

own_calls : (cs : List AggCall) → same_calls cs cs ≡ true
own_calls [] = refl
own_calls (c ∷ cs) = both_are (same_call c c) (same_calls cs cs) (own_call c) (own_calls cs)

module _ (phases : Phases) (laws : LawsOfParts phases) (tables : Tables) (files : List ℕ) (n : ℕ) (more : 0 < n) where
  abbrev told : Plan → Bool
  told = is_told tables anyhow

  abbrev Body : Logical → Type 0
  Body q = has_distincts tables q ≡ true → is_known tables files q ≡ true → told (body_plan files n q) ≡ true

  abbrev Bodied : Type 0
  Bodied = (q : Logical) × Body q

  distincts_rolled : (z : Logical-F Logical) → has_distincts tables (roll-Logical z) ≡ distinct_node tables (map-Logical Logical (Logical × Bool) (λ q. (q, has_distincts tables q)) z)
  unfolding has_distincts
  distincts_rolled z = para-roll-Logical Bool (distinct_node tables) z

  known_rolled : (z : Logical-F Logical) → is_known tables files (roll-Logical z) ≡ known_node tables files (map-Logical Logical (Logical × Bool) (λ q. (q, is_known tables files q)) z)
  unfolding is_known
  known_rolled z = para-roll-Logical Bool (known_node tables files) z

  built_rolled : (z : Logical-F Logical) → built_of files n (roll-Logical z) ≡ node files n (map-Logical Logical Built (built_of files n) z)
  unfolding built_of
  built_rolled z = fold-roll-Logical Built (node files n) z

  level : (z : Logical-F Logical)
      → (distinct_node tables (map-Logical Logical (Logical × Bool) (λ q. (q, has_distincts tables q)) z) ≡ true → known_node tables files (map-Logical Logical (Logical × Bool) (λ q. (q, is_known tables files q)) z) ≡ true
      → told (node files n (map-Logical Logical Built (built_of files n) z)).plan ≡ true)
      → Body (roll-Logical z)
  level z h e k = ap (λ (b : Built). told b.plan) (built_rolled z) ∙ h (sym (distincts_rolled z) ∙ e) (sym (known_rolled z) ∙ k)

  rolled : (p : Plan) (z : Plan-F Plan) → roll-Plan z ≡ p → told p ≡ told_node tables anyhow (map-Plan Plan (Plan × Bool) (λ q. (q, told q)) z)
  rolled p z e = ap told (sym e) ∙ told_rolled tables 0 anyhow z

  -- a body is whole, and so is told as an input
  whole_body : (q : Logical) → has_distincts tables q ≡ true → is_whole (meaning_of tables (body_plan files n q)) ≡ true
  whole_body q e = ap is_whole (body_means phases laws tables files n q e)

  wholly : (q : Bodied) → has_distincts tables q.0 ≡ true → is_known tables files q.0 ≡ true → told (body_plan files n q.0) && is_whole (meaning_of tables (body_plan files n q.0)) ≡ true
  wholly q e k = both_are (told (body_plan files n q.0)) (is_whole (meaning_of tables (body_plan files n q.0))) (q.1 e k) (whole_body q.0 e)

  grouped : (q : Bodied) (keys : List ℕ) (calls : List AggCall) → has_distincts tables q.0 ≡ true → is_known tables files q.0 ≡ true → is_kinded (meant_part tables q.0) ≡ true → told (two_phases (body_plan files n q.0) keys calls) ≡ true
  grouped q keys calls e k kinded =
      let b = body_plan files n q.0 in
      let first = plan.PartialGroup b keys calls in
      let m = meaning_of tables b in
      let g = grouping keys calls m in
      let ks = numbers (length keys) in
      let f : meaning_of tables first ≡ record { kinds = m.kinds; groups = Some g; items = m.items } = ap (meaning_of tables) (sym (rolls-PartialGroup b keys calls)) ∙ means tables (Plan-F.PartialGroup b keys calls) in
      let a : all_are m.kinds (rows m.items) ≡ true = ap (λ (x : Meaning). all_are x.kinds (rows x.items)) (body_means phases laws tables files n q.0 e) ∙ kinded in
      let fin : finishes (Some g) ks calls (rows m.items) ≡ true = both_are (same_numbers ks ks) (same_calls calls calls && all_are m.kinds (rows m.items)) (same_all ks) (both_are (same_calls calls calls) (all_are m.kinds (rows m.items)) (own_calls calls) a) in
      let t : told first ≡ true = rolled first (Plan-F.PartialGroup b keys calls) (rolls-PartialGroup b keys calls) ∙ wholly q e k in
      rolled (two_phases b keys calls) (Plan-F.FinalGroup first ks calls) (rolls-FinalGroup first ks calls)
      ∙ both_are (told first) (finishes (meaning_of tables first).groups ks calls (rows (meaning_of tables first).items) && true) t
      (both_are (finishes (meaning_of tables first).groups ks calls (rows (meaning_of tables first).items)) true (ap (λ (x : Meaning). finishes x.groups ks calls (rows x.items)) f ∙ fin) refl)

  abbrev bodies : List Bodied → List Logical
  bodies qs = map (λ (q : Bodied). q.0) qs

  united : (qs : List Bodied) → all_true (map (λ (q : Logical × Bool). q.1) (map (λ (q : Logical). (q, has_distincts tables q)) (bodies qs))) ≡ true → all_true (map (λ (q : Logical × Bool). q.1) (map (λ (q : Logical). (q, is_known tables files q)) (bodies qs))) ≡ true
      → all_told (λ p. is_whole (meaning_of tables p)) (map (λ (p : Plan). (p, told p)) (map (λ (b : Built). b.plan) (map (built_of files n) (bodies qs)))) ≡ true
  united [] e k = refl
  united (q ∷ qs) e k =
      let w = is_whole (meaning_of tables (body_plan files n q.0)) in
      let then = all_told (λ p. is_whole (meaning_of tables p)) (map (λ (p : Plan). (p, told p)) (map (λ (b : Built). b.plan) (map (built_of files n) (bodies qs)))) in
      let a = both_true (has_distincts tables q.0) (all_true (map (λ (q : Logical × Bool). q.1) (map (λ (q : Logical). (q, has_distincts tables q)) (bodies qs)))) e in
      let b = both_true (is_known tables files q.0) (all_true (map (λ (q : Logical × Bool). q.1) (map (λ (q : Logical). (q, is_known tables files q)) (bodies qs)))) k in
      both_are (told (body_plan files n q.0)) (w && then) (q.1 a.0 b.0) (both_are w then (whole_body q.0 a.0) (united qs a.1 b.1))

  some_parts : (k : ℕ) → nat_lt 0 (min (max k 1) n) ≡ true
  some_parts k = lt-ltb 0 (min (max k 1) n) (omega arith)

  step : (y : Logical-F Bodied) → Body (roll-Logical (map-Logical Bodied Logical (λ k. k.0) y))
  step (Logical-F.Scan table kinds) = level (Logical-F.Scan table kinds) (λ e k. (
      let c = get_or files table 0 in
      let m = min (max c 1) n in
      rolled (plan.Scan table kinds c m) (Plan-F.Scan table kinds c m) (rolls-Scan table kinds c m) ∙ both_are (nat_lt 0 m) (c == length (files_of tables table)) (some_parts c) (both_true (c == length (files_of tables table)) (are_wide (length kinds) (rows (concat (files_of tables table)))) k).0))
  step (Logical-F.Filter x test) = level (Logical-F.Filter x.0 test) (λ e k. (let b = body_plan files n x.0 in rolled (plan.Filter b test) (Plan-F.Filter b test) (rolls-Filter b test) ∙ wholly x e k))
  step (Logical-F.Project x items) = level (Logical-F.Project x.0 items) (λ e k. (let b = body_plan files n x.0 in rolled (plan.Project b items) (Plan-F.Project b items) (rolls-Project b items) ∙ wholly x e k))
  step (Logical-F.Join kind x y keys rest) = level (Logical-F.Join kind x.0 y.0 keys rest) (λ e k. (
      let b = body_plan files n x.0 in
      let c = body_plan files n y.0 in
      let s = both_true (has_distincts tables x.0) (has_distincts tables y.0) e in
      let t = both_true (is_known tables files x.0) (is_known tables files y.0) k in
      rolled (plan.HashJoin kind b c keys rest) (Plan-F.HashJoin kind b c keys rest) (rolls-HashJoin kind b c keys rest)
      ∙ both_are (told b && is_whole (meaning_of tables b)) ((told c && is_whole (meaning_of tables c)) && true) (wholly x s.0 t.0) (both_are (told c && is_whole (meaning_of tables c)) true (wholly y s.1 t.1) refl)))
  step (Logical-F.Aggregate x keys calls) = level (Logical-F.Aggregate x.0 keys calls) (λ e k. (let b = both_true (is_known tables files x.0) (is_kinded (meant_part tables x.0)) k in grouped x keys calls e b.0 b.1))
  step (Logical-F.Distinct x) = level (Logical-F.Distinct x.0) (λ e k. (
      let w = meant_part tables x.0 in
      let t = both_true (has_distincts tables x.0) (nat_lt 0 (length w.kinds) && all_are w.kinds (rows w.items)) e in
      let u = both_true (nat_lt 0 (length w.kinds)) (all_are w.kinds (rows w.items)) t.1 in
      grouped x (numbers (built_of files n x.0).width) [] t.0 k u.1))
  step (Logical-F.UnionAll xs) = level (Logical-F.UnionAll (bodies xs)) (λ e k. (
      let bs = map (λ (b : Built). b.plan) (map (built_of files n) (bodies xs)) in
      rolled (plan.UnionAll bs) (Plan-F.UnionAll bs) (rolls-UnionAll bs) ∙ united xs e k))

  pub body_told : (q : Logical) → has_distincts tables q ≡ true → is_known tables files q ≡ true → is_told tables anyhow (body_plan files n q) ≡ true
  body_told = ind-Logical Body (λ x y is. subst (λ z. Body (roll-Logical z)) is (step y))

  pub sorted_told : (keys : List SortKey) (p : Plan) → is_told tables anyhow (sorted_by keys p) ≡ is_told tables anyhow p
  sorted_told [] p = refl
  sorted_told (k ∷ ks) p = rolled (plan.Sort p (k ∷ ks)) (Plan-F.Sort p (k ∷ ks)) (rolls-Sort p (k ∷ ks))
