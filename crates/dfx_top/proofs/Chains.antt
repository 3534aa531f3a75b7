-- A chain whose Scans have kinds that are kinds, at most 256 of them, has what a run over it asks.
use Rattle.std.specs.Prelude.{nat_le, ◌<◌, ◌≤◌, ◌^◌, ⊤}
use Rattle.std.proofs.Common.{ℕ, ◌≡◌, refl, ◌∙◌, sym, ap, subst, Bool, true, ◌&&◌, Option, Some, None, List, map, length, arith}
use Rattle.std.proofs.lemmas.Bool.{and_parts, leb-true}
use Rattle.dfx_value.specs.Kinds.{are_kinds}
use Rattle.logical_plan.specs.declared.plan.Logical.{Logical}
use Rattle.logical_plan.specs.declared.plan.Logical.TheOpen.{Logical-F}
use Rattle.logical_plan.specs.declared.plan.Logical.TheViews.{roll-Logical}
use Rattle.logical_plan.specs.declared.plan.Logical.TheFolds.{fold-roll-Logical, map-Logical, ind-Logical}
use Rattle.scan_run.specs.Chains.{Scanned, node_scanned, scanned, AreSound}
use Rattle.binder_kind_laws.specs.Scans.{are_few, node_sound, has_sound_scans}

abbrev IsSound : Logical → Type 0
IsSound q = has_sound_scans q ≡ true → AreSound (scanned q)

abbrev Sound : Type 0
Sound = (q : Logical) × IsSound q

sound_rolled : (z : Logical-F Logical) → has_sound_scans (roll-Logical z) ≡ node_sound (map-Logical Logical Bool has_sound_scans z)
unfolding has_sound_scans
sound_rolled z = fold-roll-Logical Bool node_sound z

scanned_rolled : (z : Logical-F Logical) → scanned (roll-Logical z) ≡ node_scanned (map-Logical Logical (Option Scanned) scanned z)
unfolding scanned
scanned_rolled z = fold-roll-Logical (Option Scanned) node_scanned z

level : (z : Logical-F Logical) → (node_sound (map-Logical Logical Bool has_sound_scans z) ≡ true → AreSound (node_scanned (map-Logical Logical (Option Scanned) scanned z)))
    → IsSound (roll-Logical z)
level z h e = subst AreSound (sym (scanned_rolled z)) (h (sym (sound_rolled z) ∙ e))

step : (y : Logical-F Sound) → IsSound (roll-Logical (map-Logical Sound Logical (λ k. k.0) y))
step (Logical-F.Scan table ks) = level (Logical-F.Scan table ks) (λ e. (
    let a = and_parts (are_kinds ks) (are_few ks) e in
    let b : length ks ≤ 256 = leb-true (length ks) 256 a.1 in
    (a.0, omega arith)))
step (Logical-F.Filter x test) = level (Logical-F.Filter x.0 test) (λ e. x.1 e)
step (Logical-F.Project x items) = level (Logical-F.Project x.0 items) (λ e. x.1 e)
step (Logical-F.Join kind x y keys rest) = level (Logical-F.Join kind x.0 y.0 keys rest) (λ e. tt)
step (Logical-F.Aggregate x keys calls) = level (Logical-F.Aggregate x.0 keys calls) (λ e. tt)
step (Logical-F.Distinct x) = level (Logical-F.Distinct x.0) (λ e. tt)
step (Logical-F.UnionAll xs) = level (Logical-F.UnionAll (map (λ (q : Sound). q.0) xs)) (λ e. tt)

pub sound_chain : (q : Logical) → has_sound_scans q ≡ true → AreSound (scanned q)
sound_chain = ind-Logical IsSound (λ x y is. subst (λ z. IsSound (roll-Logical z)) is (step y))
