-- Selects united.
use Rattle.std.specs.Prelude.{option_and_then}
use Rattle.std.proofs.Common.{ℕ, suc, ◌≡◌, ◌+◌, ◌≤◌, refl, sym, ap, ◌∙◌, subst, Bool, true, false, Option, Some, None, Ok, List, [], ◌∷◌, ◌++◌, map, length, length-append, arith}
use Rattle.std.proofs.lemmas.Bool.{eq-eqb, lt-ltb}
use Rattle.dfx_value.specs.declared.kind.Kind.{Kind}
use Rattle.logical_plan.specs.declared.plan.Logical.{Logical}
use Rattle.logical_plan.specs.declared.plan.Logical.TheVariants as plan
use Rattle.typed_exprs.specs.declared.refusal.Why.TheVariants as why
use Rattle.typed_exprs.specs.Typed.{unified}
use Rattle.sql_binder.specs.declared.selected.Selected.{Selected}
use Rattle.sql_binder.specs.Each.{each}
use Rattle.logical_build.specs.Unions.{unified_after, all_unified, are_same, cast, casts, cast_if, with_kinds}
use Rattle.sql_binder.specs.Unions.{Placed, unified_with, common_kinds, bodies, union_body, united_with, united}
use Rattle.sql_binder.specs.Selects.{Selecting, placed, union_of}
use Rattle.physical_plan.specs.Everywhere.{all_true}
use Rattle.physical_plan.proofs.Everywhere.{both_true}
use Rattle.planned_laws.specs.Ranges.{are_below, expr_columns, are_all}
use Rattle.planned_laws.specs.Queries.{body_width, body_in_range}
use Rattle.planned_laws.proofs.BodyNodes.{holds-Project, width-Project, holds-UnionAll, width-UnionAll}
use Rattle.planned_laws.proofs.Below.{below_append}
use Rattle.join_lowering.specs.Keys.{columns}
use Rattle.scalar_exprs.specs.declared.expr.Expr.TheVariants as expr
use Rattle.typed_exprs.specs.declared.typed.Typed.TheVariants as typed
use Rattle.binder_laws.proofs.Readings.{as_kind_reads, column_reads}
use Rattle.binder_laws.proofs.Holding.{Holds, after, where_some, weaker, Every, AreSo, each_holds}
use Rattle.binder_laws.proofs.Items.{Fits}

-- ---- kinds

-- as many as there were, of as many
record Unifies (done js ks us : List Kind) : Type 0 where
  result : length us ≡ length done + length js
  even : length js ≡ length ks

after_unifies : (js ks done us : List Kind) → unified_after done js ks ≡ Some us → Unifies done js ks us
after_unifies [] [] done us e = let q : done ≡ us = cc in subst (Unifies done [] []) q (record { result = omega arith; even = refl })
after_unifies (j ∷ js) (k ∷ ks) done us e = go (unified j k) (λ u p. after_unifies js ks (done ++ u ∷ []) us p) e
  where
    go : (o : Option Kind) → ((u : Kind) → unified_after (done ++ u ∷ []) js ks ≡ Some us → Unifies (done ++ u ∷ []) js ks us) → option_and_then (λ u. unified_after (done ++ u ∷ []) js ks) o ≡ Some us → Unifies done (j ∷ js) (k ∷ ks) us
    go None f p = cc
    go (Some u) f p =
        let r = f u p in
        let a = r.result in let b = r.even in let c = length-append done (u ∷ []) in
        record { result = omega arith; even = omega arith }
after_unifies [] (k ∷ ks) done us e = cc
after_unifies (j ∷ js) [] done us e = cc

-- the select's kinds are so many
abbrev HasKinds : ℕ → Placed → Type 0
HasKinds n p = length p.1.kinds ≡ n

abbrev Common : List Kind → List Placed → List Kind → Type 0
Common js ps us = (length us ≡ length js) × Every (HasKinds (length js)) ps

with_one : (js : List Kind) (p : Placed) → Holds (λ us. (length us ≡ length js) × HasKinds (length js) p) (unified_with js p)
with_one js p = where_some (λ us. (length us ≡ length js) × HasKinds (length js) p) why.KindMismatch p.0 (all_unified js p.1.kinds)
    (λ us e. let r = after_unifies js p.1.kinds [] us e in let a = r.result in let b = r.even in ((omega arith), (omega arith)))

all_common : (js : List Kind) (ps : List Placed) → Holds (Common js ps) (common_kinds js ps)
all_common js [] = (refl, tt)
all_common js (p ∷ ps) =
    after (λ us. (length us ≡ length js) × HasKinds (length js) p) (Common js (p ∷ ps)) (unified_with js p) (λ us. common_kinds us ps) (with_one js p)
    (λ us h. weaker (Common us ps) (Common js (p ∷ ps)) (common_kinds us ps) (λ vs i. (i.0 ∙ h.0, (h.1, subst (λ (n : ℕ). Every (HasKinds n) ps) h.0 i.1))) (all_common us ps))

-- ---- bodies

casts_length : (us js : List Kind) (k : ℕ) → length us ≡ length js → length (casts k us js) ≡ length us
casts_length [] js k e = refl
casts_length (u ∷ us) (j ∷ js) k e = ap suc (casts_length us js (suc k) (omega arith))
casts_length (u ∷ us) [] k e = absurd (omega arith)

casts_read : (us js : List Kind) (k w : ℕ) → k + length js ≤ w → are_below w (expr_columns (casts k us js)) ≡ true
casts_read (u ∷ us) (j ∷ js) k w h =
    below_append w (columns (cast k u j)) (expr_columns (casts (suc k) us js))
    (as_kind_reads w u (typed.Of (expr.Column k) j) (column_reads w k (both_true _ _ (lt-ltb k w (omega arith)) refl))) (casts_read us js (suc k) w (omega arith))
casts_read [] js k w h = refl
casts_read (u ∷ us) [] k w h = refl

abbrev Stands : ℕ → Logical → Type 0
Stands w body = (body_in_range body ≡ true) × (body_width body ≡ w)

cast_stands : (us js : List Kind) (body : Logical) → length us ≡ length js → Stands (length js) body → Stands (length us) (with_kinds us js body)
cast_stands us js body e h = go (are_same us js)
  where
    go : (b : Bool) → Stands (length us) (cast_if b us js body)
    go true = (h.0, h.1 ∙ sym e)
    go false = (holds-Project body (casts 0 us js) (ap (λ (x : ℕ). are_below x (expr_columns (casts 0 us js))) h.1 ∙ casts_read us js 0 (length js) (omega arith)) h.0, width-Project body (casts 0 us js) ∙ casts_length us js 0 e)

abbrev AllStand : ℕ → List Logical → Type 0
AllStand w ls = Every (Stands w) ls

bodies_stand : (us : List Kind) (ps : List Placed) → Every (λ p. Fits p.1) ps → Every (HasKinds (length us)) ps → AllStand (length us) (bodies us ps)
bodies_stand us [] f h = tt
bodies_stand us (p ∷ ps) f h = (cast_stands us p.1.kinds p.1.body (sym h.0) (f.0.body, f.0.kinds_of), bodies_stand us ps f.1 h.1)

widths_all : (w v : ℕ) (ls : List Logical) → v ≡ w → AllStand w ls → are_all v (map body_width ls) ≡ true
widths_all w v [] e h = refl
widths_all w v (l ∷ ls) e h = both_true _ _ (eq-eqb _ _ (h.0.1 ∙ sym e)) (widths_all w v ls e h.1)

ranges_all : (w : ℕ) (ls : List Logical) → AllStand w ls → all_true (map body_in_range ls) ≡ true
ranges_all w [] h = refl
ranges_all w (l ∷ ls) h = both_true _ _ h.0.0 (ranges_all w ls h.1)

union_stands : (w : ℕ) (l : Logical) (ls : List Logical) → Stands w l → AllStand w ls → Stands w (plan.UnionAll (l ∷ ls))
union_stands w l ls h i = (holds-UnionAll (l ∷ ls) (widths_all w (body_width l) ls h.1 i) (ranges_all w (l ∷ ls) (h, i)), width-UnionAll (l ∷ ls) ∙ h.1)

abbrev UnionFits : ℕ → List Kind × Logical → Type 0
UnionFits n u = (length u.0 ≡ n) × Stands (length u.0) u.1

body_fits : (js : List Kind) (body : Logical) (ps : List Placed) → Stands (length js) body → Every (λ p. Fits p.1) ps → Holds (UnionFits (length js)) (union_body js body ps)
body_fits js body ps h f =
    after (Common js ps) (UnionFits (length js)) (common_kinds js ps) (λ us. Ok (us, plan.UnionAll (with_kinds us js body ∷ bodies us ps))) (all_common js ps)
    (λ us c. (c.0, union_stands (length us) (with_kinds us js body) (bodies us ps) (cast_stands us js body c.0 h) (bodies_stand us ps f (subst (λ (n : ℕ). Every (HasKinds n) ps) (sym c.0) c.1))))

with_fits : (first : Selected) (ps : List Placed) → Fits first → Every (λ p. Fits p.1) ps → Holds Fits (united_with first ps)
with_fits first [] h f = h
with_fits first (p ∷ ps) h f =
    after (UnionFits (length first.kinds)) Fits (union_body first.kinds first.body (p ∷ ps)) (λ u. Ok (record { columns = []; names = first.names; kinds = u.0; body = u.1 })) (body_fits first.kinds first.body (p ∷ ps) (h.body, h.kinds_of) f)
    (λ u i. record { body = i.1.0; kinds_of = i.1.1; names_of = h.names_of ∙ sym i.0 })

united_fits : (ps : List Placed) → Every (λ p. Fits p.1) ps → Holds Fits (united ps)
united_fits [] f = tt
united_fits (p ∷ ps) f = with_fits p.1 ps f.0 f.1

abbrev pub Selects : Selecting → Type 0
Selects s = Holds Fits s.select

placed_fits : (s : Selecting) → Selects s → Holds (λ p. Fits p.1) (placed s)
placed_fits s h = after Fits (λ p. Fits p.1) s.select (λ x. Ok (s.place, x)) h (λ x f. f)

every_placed : (ss : List Selecting) → Every Selects ss → Every (λ s. Holds (λ p. Fits p.1) (placed s)) ss
every_placed [] h = tt
every_placed (s ∷ ss) h = (placed_fits s h.0, every_placed ss h.1)

pub union_fits : (ss : List Selecting) → Every Selects ss → Holds Fits (union_of ss)
union_fits ss h = after (AreSo (λ p. Fits p.1) (length ss)) Fits (each placed ss) united (each_holds (λ p. Fits p.1) placed ss (every_placed ss h)) (λ ps a. united_fits ps a.1)
