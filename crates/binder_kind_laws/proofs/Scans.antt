-- Over tables of at most 256 columns each Scan of a well-kinded body has kinds that are kinds, and as few.
use Rattle.std.specs.Prelude.{slice_get, nat_le, nat_lt}
use Rattle.std.specs.List.{list_all}
use Rattle.std.proofs.Common.{ℕ, zero, suc, ◌≡◌, refl, ◌∙◌, sym, ap, subst, Bool, true, false, ◌&&◌, Option, Some, None, List, [], ◌∷◌, ◌++◌, map, length}
use Rattle.std.proofs.lemmas.Bool.{and_parts, and_from, false≢true}
use Rattle.dfx_value.specs.Kinds.{are_kinds}
use Rattle.dfx_value.specs.declared.kind.Kind.{Kind}
use Rattle.logical_plan.specs.Body.{kinds}
use Rattle.logical_plan.specs.declared.plan.Logical.{Logical}
use Rattle.logical_plan.specs.declared.plan.Logical.TheOpen.{Logical-F}
use Rattle.logical_plan.specs.declared.plan.Logical.TheViews.{roll-Logical}
use Rattle.logical_plan.specs.declared.plan.Logical.TheFolds.{fold-roll-Logical, para-roll-Logical, map-Logical, ind-Logical}
use Rattle.kind_laws.specs.Kinded.{same_kinds, has_kind, is_test, is_rest, keys_compare, has_columns, calls_fit, is_table, all_as, are_united, kinded_node, is_well_kinded}
use Rattle.kind_laws.proofs.Bodies.{same_kinds_are}
use Rattle.binder_kind_laws.specs.Scripts.{all_have}
use Rattle.binder_kind_laws.specs.Scans.{are_few, are_sound, node_sound, has_sound_scans}

-- where there is a table, it has few columns
abbrev IsFew : Option (List Kind) → Type 0
IsFew None = Unit {0}
IsFew (Some ks) = are_few ks ≡ true

few_at : (kss : List (List Kind)) (table : ℕ) → list_all are_few kss ≡ true → IsFew (slice_get kss table)
few_at [] table h = tt
few_at (ks ∷ kss) zero h = (and_parts (are_few ks) (list_all are_few kss) h).0
few_at (ks ∷ kss) (suc n) h = few_at kss n (and_parts (are_few ks) (list_all are_few kss) h).1

scan_sound : (o : Option (List Kind)) (ks : List Kind) → IsFew o → is_table o ks ≡ true → are_sound ks ≡ true
scan_sound None ks few e = absurd (false≢true e)
scan_sound (Some own) ks few e =
    let a = and_parts (same_kinds own ks) (nat_lt 0 (length ks) && are_kinds ks) e in
    let b = and_parts (nat_lt 0 (length ks)) (are_kinds ks) a.1 in
    and_from (are_kinds ks) (are_few ks) b.1 (subst (λ js. are_few js ≡ true) (same_kinds_are own ks a.0) few)

module _ (kss : List (List Kind)) (few : list_all are_few kss ≡ true) where
  abbrev marked : Logical → Logical × Bool
  marked q = (q, is_well_kinded kss q)

  kinded_rolled : (z : Logical-F Logical) → is_well_kinded kss (roll-Logical z) ≡ kinded_node kss (map-Logical Logical (Logical × Bool) marked z)
  unfolding is_well_kinded
  kinded_rolled z = para-roll-Logical Bool (kinded_node kss) z

  sound_rolled : (z : Logical-F Logical) → has_sound_scans (roll-Logical z) ≡ node_sound (map-Logical Logical Bool has_sound_scans z)
  unfolding has_sound_scans
  sound_rolled z = fold-roll-Logical Bool node_sound z

  abbrev IsSound : Logical → Type 0
  IsSound q = is_well_kinded kss q ≡ true → has_sound_scans q ≡ true

  abbrev Sound : Type 0
  Sound = (q : Logical) × IsSound q

  abbrev bodies : List Sound → List Logical
  bodies qs = map (λ (q : Sound). q.0) qs

  level : (z : Logical-F Logical)
      → (kinded_node kss (map-Logical Logical (Logical × Bool) marked z) ≡ true → node_sound (map-Logical Logical Bool has_sound_scans z) ≡ true)
      → IsSound (roll-Logical z)
  level z h e = sound_rolled z ∙ h (sym (kinded_rolled z) ∙ e)

  united : (ks : List Kind) (qs : List Sound) → all_as ks (map marked (bodies qs)) ≡ true → all_have (map has_sound_scans (bodies qs)) ≡ true
  united ks [] e = refl
  united ks (q ∷ qs) e =
      let a = and_parts (is_well_kinded kss q.0) (same_kinds ks (kinds q.0) && all_as ks (map marked (bodies qs))) e in
      let b = and_parts (same_kinds ks (kinds q.0)) (all_as ks (map marked (bodies qs))) a.1 in
      and_from (has_sound_scans q.0) (all_have (map has_sound_scans (bodies qs))) (q.1 a.0) (united ks qs b.1)

  unions : (qs : List Sound) → are_united (map marked (bodies qs)) ≡ true → all_have (map has_sound_scans (bodies qs)) ≡ true
  unions [] e = refl
  unions (q ∷ qs) e =
      let a = and_parts (is_well_kinded kss q.0) (all_as (kinds q.0) (map marked (bodies qs))) e in
      and_from (has_sound_scans q.0) (all_have (map has_sound_scans (bodies qs))) (q.1 a.0) (united (kinds q.0) qs a.1)

  step : (y : Logical-F Sound) → IsSound (roll-Logical (map-Logical Sound Logical (λ k. k.0) y))
  step (Logical-F.Scan table ks) = level (Logical-F.Scan table ks) (λ e. scan_sound (slice_get kss table) ks (few_at kss table few) e)
  step (Logical-F.Filter x test) = level (Logical-F.Filter x.0 test) (λ e. x.1 (and_parts (is_well_kinded kss x.0) (is_test (kinds x.0) test) e).0)
  step (Logical-F.Project x items) = level (Logical-F.Project x.0 items) (λ e. x.1 (and_parts (is_well_kinded kss x.0) (list_all (has_kind (kinds x.0)) items) e).0)
  step (Logical-F.Join kind x y keys rest) = level (Logical-F.Join kind x.0 y.0 keys rest) (λ e. (
      let fits = keys_compare (kinds x.0) (kinds y.0) keys && is_rest (kinds x.0 ++ kinds y.0) rest in
      let a = and_parts (is_well_kinded kss x.0) (is_well_kinded kss y.0 && fits) e in
      and_from (has_sound_scans x.0) (has_sound_scans y.0) (x.1 a.0) (y.1 (and_parts (is_well_kinded kss y.0) fits a.1).0)))
  step (Logical-F.Aggregate x keys calls) = level (Logical-F.Aggregate x.0 keys calls) (λ e. x.1 (and_parts (is_well_kinded kss x.0) (has_columns (kinds x.0) keys && calls_fit (kinds x.0) calls) e).0)
  step (Logical-F.Distinct x) = level (Logical-F.Distinct x.0) (λ e. x.1 (and_parts (is_well_kinded kss x.0) (nat_lt 0 (length (kinds x.0))) e).0)
  step (Logical-F.UnionAll xs) = level (Logical-F.UnionAll (bodies xs)) (λ e. unions xs e)

  pub sound : (q : Logical) → IsSound q
  sound = ind-Logical IsSound (λ x y is. subst (λ z. IsSound (roll-Logical z)) is (step y))
