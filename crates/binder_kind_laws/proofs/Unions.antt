-- Selects united: each becomes one of the kinds that all of them have in common.
use Rattle.std.specs.Prelude.{option_and_then, slice_get}
use Rattle.std.proofs.Common.{ℕ, suc, ◌≡◌, refl, sym, ap, ◌∙◌, subst, Bool, true, false, inl, Option, Some, None, Ok, List, [], ◌∷◌, ◌++◌, map, length, length-append, arith}
use Rattle.std.proofs.lemmas.Bool.{and_parts, and_from}
use Rattle.std.proofs.lemmas.List.{append_assoc, append-nil}
use Rattle.dfx_value.specs.declared.kind.Kind.{Kind}
use Rattle.scalar_exprs.specs.declared.expr.Expr.TheVariants as expr
use Rattle.scalar_exprs.specs.Kinds.{same}
use Rattle.logical_plan.specs.declared.plan.Logical.{Logical}
use Rattle.logical_plan.specs.declared.plan.Logical.TheVariants as plan
use Rattle.logical_plan.specs.Body.{kinds, kind_or_text, item_kinds}
use Rattle.logical_plan.proofs.KindSteps.{kinds-UnionAll}
use Rattle.kind_laws.specs.Kinded.{same_kinds, has_kind, all_as, is_well_kinded}
use Rattle.kind_laws.proofs.KindedSteps.{marked, kinded-UnionAll}
use Rattle.kind_laws.proofs.Bodies.{same_is}
use Rattle.typed_exprs.specs.declared.refusal.Why.TheVariants as why
use Rattle.typed_exprs.specs.declared.typed.Typed.TheVariants as typed
use Rattle.typed_exprs.specs.Typed.{unified}
use Rattle.logical_build.specs.Unions.{unified_after, all_unified, are_same, cast, casts, cast_if, with_kinds}
use Rattle.sql_binder.specs.declared.selected.Selected.{Selected}
use Rattle.sql_binder.specs.Each.{each}
use Rattle.sql_binder.specs.Unions.{Placed, unified_with, common_kinds, bodies, union_body, united_with, united}
use Rattle.sql_binder.specs.Selects.{Selecting, placed, union_of}
use Rattle.binder_laws.proofs.Holding.{Holds, after, where_some, weaker, Every, AreSo, each_holds}
use Rattle.binder_laws.proofs.Selves.{kind_self}
use Rattle.binder_kind_laws.proofs.Settled.{Real, column_has}
use Rattle.binder_kind_laws.proofs.Unified.{Becomes, becomes_again, unified_are, as_kind_has}
use Rattle.binder_kind_laws.proofs.Joins.{Gives, is_kinded, Bodied, project_bodied, first_behind}
use Rattle.binder_kind_laws.proofs.Selects.{Selects}

-- ---- kinds that become others, one by one

abbrev AllBecome : List Kind → List Kind → Type 0
AllBecome [] [] = Unit {0}
AllBecome (j ∷ js) (u ∷ us) = Becomes j u × AllBecome js us
AllBecome _ _ = ⊥

all_again : (js us vs : List Kind) → AllBecome js us → AllBecome us vs → AllBecome js vs
all_again [] [] [] h i = tt
all_again (j ∷ js) (u ∷ us) (v ∷ vs) h i = (becomes_again j u v h.0 i.0, all_again js us vs h.1 i.1)
all_again [] [] (v ∷ vs) h i = absurd i
all_again (j ∷ js) (u ∷ us) [] h i = absurd i
all_again [] (u ∷ us) vs h i = absurd h
all_again (j ∷ js) [] vs h i = absurd h

all_itself : (js : List Kind) → AllBecome js js
all_itself [] = tt
all_itself (j ∷ js) = (inl refl, all_itself js)

become_length : (js us : List Kind) → AllBecome js us → length us ≡ length js
become_length [] [] h = refl
become_length (j ∷ js) (u ∷ us) h = let e = become_length js us h.1 in omega arith
become_length [] (u ∷ us) h = absurd h
become_length (j ∷ js) [] h = absurd h

-- the unified kinds of two lists
record Unify (js ks us : List Kind) : Type 0 where
  left : AllBecome js us
  right : AllBecome ks us
  real : Every Real us

-- behind those that are done
abbrev UnifyBehind : List Kind → List Kind → List Kind → List Kind → Type 0
UnifyBehind done js ks us = (vs : List Kind) × ((us ≡ done ++ vs) × Unify js ks vs)

after_unify : (js ks done us : List Kind) → Every Real js → Every Real ks → unified_after done js ks ≡ Some us → UnifyBehind done js ks us
after_unify [] [] done us h i e = let q : done ≡ us = cc in ([], (sym q ∙ sym (append-nil done), record { left = tt; right = tt; real = tt }))
after_unify (j ∷ js) (k ∷ ks) done us h i e = go (unified j k) refl e (λ u p. after_unify js ks (done ++ u ∷ []) us h.1 i.1 p)
  where
    go : (o : Option Kind) → unified j k ≡ o → option_and_then (λ u. unified_after (done ++ u ∷ []) js ks) o ≡ Some us
        → ((u : Kind) → unified_after (done ++ u ∷ []) js ks ≡ Some us → UnifyBehind (done ++ u ∷ []) js ks us) → UnifyBehind done (j ∷ js) (k ∷ ks) us
    go None q p f = cc
    go (Some u) q p f =
        let n = unified_are j k u h.0 i.0 q in
        let m = f u p in
        (u ∷ m.0, (m.1.0 ∙ append_assoc done (u ∷ []) m.0, record { left = (n.left, m.1.1.left); right = (n.right, m.1.1.right); real = (n.real, m.1.1.real) }))
after_unify [] (k ∷ ks) done us h i e = cc
after_unify (j ∷ js) [] done us h i e = cc

all_unify : (js ks us : List Kind) → Every Real js → Every Real ks → all_unified js ks ≡ Some us → Unify js ks us
all_unify js ks us h i e = let m = after_unify js ks [] us h i e in subst (Unify js ks) (sym m.1.0) m.1.1

-- ---- all selects

abbrev RealPlaced : Placed → Type 0
RealPlaced p = Every Real p.1.kinds

abbrev PlacedBecomes : List Kind → Placed → Type 0
PlacedBecomes us p = AllBecome p.1.kinds us

-- the kinds that all have in common
record Common (js : List Kind) (ps : List Placed) (us : List Kind) : Type 0 where
  first : AllBecome js us
  each : Every (PlacedBecomes us) ps
  real : Every Real us

all_common : (js : List Kind) (ps : List Placed) → Every Real js → Every RealPlaced ps → Holds (Common js ps) (common_kinds js ps)
all_common js [] h i = record { first = all_itself js; each = tt; real = h }
all_common js (p ∷ ps) h i =
    after (Unify js p.1.kinds) (Common js (p ∷ ps)) (unified_with js p) (λ us. common_kinds us ps)
    (where_some (Unify js p.1.kinds) why.KindMismatch p.0 (all_unified js p.1.kinds) (λ us e. all_unify js p.1.kinds us h i.0 e))
    (λ us n. weaker (Common us ps) (Common js (p ∷ ps)) (common_kinds us ps)
    (λ vs c. record { first = all_again js us vs n.left c.first; each = (all_again p.1.kinds us vs n.right c.first, c.each); real = c.real }) (all_common us ps n.real i.1))

-- ---- casts

same_list : (us js : List Kind) → are_same us js ≡ true → us ≡ js
same_list [] [] h = refl
same_list (u ∷ us) (j ∷ js) h = let b = and_parts (same u j) (are_same us js) h in ap (λ x. x ∷ us) (same_is u j b.0) ∙ ap (λ xs. j ∷ xs) (same_list us js b.1)
same_list [] (j ∷ js) h = cc
same_list (u ∷ us) [] h = cc

casts_give : (us js all front : List Kind) (c : ℕ) → all ≡ front ++ js → c ≡ length front → AllBecome js us → Every Real js → Every Real us → Gives all (casts c us js) us
casts_give [] [] all front c e l h r s = (refl, refl)
casts_give (u ∷ us) (j ∷ js) all front c e l h r s =
    let at : slice_get all c ≡ Some j = ap (λ x. slice_get x c) e ∙ first_behind front js j c l in
    let n = length-append front (j ∷ []) in
    let one = as_kind_has all u (typed.Of (expr.Column c) j) s.0 (column_has all c j at r.0) h.0 in
    let more = casts_give us js all (front ++ j ∷ []) (suc c) (e ∙ sym (append_assoc front (j ∷ []) js)) (omega arith) h.1 r.1 s.1 in
    (ap (λ o. kind_or_text o ∷ item_kinds all (casts (suc c) us js)) one.kind ∙ ap (λ x. u ∷ x) more.0, and_from (has_kind all (cast c u j)) _ (is_kinded all (cast c u j) u (one.kind, one.fits)) more.1)
casts_give [] (j ∷ js) all front c e l h r s = absurd h
casts_give (u ∷ us) [] all front c e l h r s = absurd h

cast_bodied : (kss : List (List Kind)) (us js : List Kind) (body : Logical) → Bodied kss body js → AllBecome js us → Every Real js → Every Real us → Bodied kss (with_kinds us js body) us
cast_bodied kss us js body h b r s = go (are_same us js) refl
  where
    go : (x : Bool) → are_same us js ≡ x → Bodied kss (cast_if x us js body) us
    go true e = (h.0, h.1 ∙ sym (same_list us js e))
    go false e = project_bodied kss body (casts 0 us js) js us h (casts_give us js js [] 0 refl refl b r s)

-- ---- the union

pub same_self : (us : List Kind) → same_kinds us us ≡ true
same_self [] = refl
same_self (u ∷ us) = and_from (same u u) (same_kinds us us) (kind_self u) (same_self us)

abbrev PlacedGood : List (List Kind) → Placed → Type 0
PlacedGood kss p = Selects kss p.1

bodies_as : (kss : List (List Kind)) (us : List Kind) (ps : List Placed) → Every (PlacedGood kss) ps → Every (PlacedBecomes us) ps → Every Real us → all_as us (map (marked kss) (bodies us ps)) ≡ true
bodies_as kss us [] h b r = refl
bodies_as kss us (p ∷ ps) h b r =
    let one = cast_bodied kss us p.1.kinds p.1.body h.0.body b.0 h.0.real r in
    and_from (is_well_kinded kss (with_kinds us p.1.kinds p.1.body)) _ one.0 (and_from (same_kinds us (kinds (with_kinds us p.1.kinds p.1.body))) _ (ap (same_kinds us) one.1 ∙ same_self us) (bodies_as kss us ps h.1 b.1 r))

union_bodied : (kss : List (List Kind)) (us : List Kind) (l : Logical) (ls : List Logical) → Bodied kss l us → all_as us (map (marked kss) ls) ≡ true → Bodied kss (plan.UnionAll (l ∷ ls)) us
union_bodied kss us l ls h a = (
  kinded-UnionAll kss (l ∷ ls) ∙ and_from (is_well_kinded kss l) _ h.0 (ap (λ (x : List Kind). all_as x (map (marked kss) ls)) h.1 ∙ a),
  kinds-UnionAll (l ∷ ls) ∙ h.1,
)

reals_of : (kss : List (List Kind)) (ps : List Placed) → Every (PlacedGood kss) ps → Every RealPlaced ps
reals_of kss [] h = tt
reals_of kss (p ∷ ps) h = (h.0.real, reals_of kss ps h.1)

-- the kinds and the body of a union, with as many kinds as the first has
abbrev United : List (List Kind) → ℕ → List Kind × Logical → Type 0
United kss n u = Bodied kss u.1 u.0 × (Every Real u.0 × (length u.0 ≡ n))

body_united : (kss : List (List Kind)) (first : Selected) (ps : List Placed) → Selects kss first → Every (PlacedGood kss) ps → Holds (United kss (length first.kinds)) (union_body first.kinds first.body ps)
body_united kss first ps h g =
    after (Common first.kinds ps) (United kss (length first.kinds)) (common_kinds first.kinds ps) (λ us. Ok (us, plan.UnionAll (with_kinds us first.kinds first.body ∷ bodies us ps))) (all_common first.kinds ps h.real (reals_of kss ps g))
    (λ us c. (
      union_bodied kss us (with_kinds us first.kinds first.body) (bodies us ps) (cast_bodied kss us first.kinds first.body h.body c.first h.real c.real) (bodies_as kss us ps g c.each c.real),
      (c.real, become_length first.kinds us c.first),
    ))

with_selects : (kss : List (List Kind)) (first : Selected) (ps : List Placed) → Selects kss first → Every (PlacedGood kss) ps → Holds (Selects kss) (united_with first ps)
with_selects kss first [] h g = h
with_selects kss first (p ∷ ps) h g =
    after (United kss (length first.kinds)) (Selects kss) (union_body first.kinds first.body (p ∷ ps)) (λ u. Ok (record { columns = []; names = first.names; kinds = u.0; body = u.1 })) (body_united kss first (p ∷ ps) h g)
    (λ u i. let l = i.1.1 in let m = h.some in record { body = i.0; names = h.names ∙ sym i.1.1; real = i.1.0; some = omega arith })

united_selects : (kss : List (List Kind)) (ps : List Placed) → Every (PlacedGood kss) ps → Holds (Selects kss) (united ps)
united_selects kss [] g = tt
united_selects kss (p ∷ ps) g = with_selects kss p.1 ps g.0 g.1

abbrev pub Selecting_ : List (List Kind) → Selecting → Type 0
Selecting_ kss s = Holds (Selects kss) s.select

placed_good : (kss : List (List Kind)) (s : Selecting) → Selecting_ kss s → Holds (PlacedGood kss) (placed s)
placed_good kss s h = after (Selects kss) (PlacedGood kss) s.select (λ x. Ok (s.place, x)) h (λ x f. f)

every_placed : (kss : List (List Kind)) (ss : List Selecting) → Every (Selecting_ kss) ss → Every (λ s. Holds (PlacedGood kss) (placed s)) ss
every_placed kss [] h = tt
every_placed kss (s ∷ ss) h = (placed_good kss s h.0, every_placed kss ss h.1)

pub union_selects : (kss : List (List Kind)) (ss : List Selecting) → Every (Selecting_ kss) ss → Holds (Selects kss) (union_of ss)
union_selects kss ss h = after (AreSo (PlacedGood kss) (length ss)) (Selects kss) (each placed ss) united (each_holds (PlacedGood kss) placed ss (every_placed kss ss h)) (λ ps a. united_selects kss ps a.1)
