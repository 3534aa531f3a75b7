-- What FROM and selects give is well-kinded, over tables whose columns have names and kinds.
use Rattle.std.specs.Prelude.{slice_get, nat_lt}
use Rattle.std.proofs.Common.{ℕ, zero, suc, ◌≡◌, ◌+◌, ◌<◌, refl, sym, ap, ◌∙◌, subst, cond, Bool, true, false, ◌&&◌, Option, Some, None, Ok, List, [], ◌∷◌, ◌++◌, map, length, length-append, arith}
use Rattle.std.proofs.lemmas.Bool.{and_parts, and_from, ltb-true, lt-ltb}
use Rattle.std.proofs.lemmas.List.{length-map, map-append}
use Rattle.dfx_value.specs.Kinds.{is_kind, are_kinds}
use Rattle.dfx_value.specs.declared.kind.Kind.{Kind}
use Rattle.dfx_value.specs.declared.kind.Kind.TheVariants as kind
use Rattle.dfx_value.specs.declared.op.JoinKind.{JoinKind}
use Rattle.scalar_exprs.specs.declared.expr.Expr.{Expr}
use Rattle.scalar_exprs.specs.Kinds.{kind_of}
use Rattle.logical_plan.specs.declared.plan.Logical.{Logical}
use Rattle.logical_plan.specs.declared.plan.Logical.TheVariants as plan
use Rattle.logical_plan.proofs.KindSteps.{kinds-Scan}
use Rattle.kind_laws.specs.Kinded.{same_kinds, is_table}
use Rattle.kind_laws.proofs.KindedSteps.{kinded-Scan}
use Rattle.sql_grammar.specs.declared.ast.ExprAst.{ExprAst}
use Rattle.sql_grammar.specs.declared.ast.FromAst.{FromAst}
use Rattle.sql_grammar.specs.declared.ast.JoinAst.{JoinAst}
use Rattle.sql_grammar.specs.declared.ast.SelectAst.{SelectAst}
use Rattle.sql_grammar.specs.declared.ast.FromAst.TheOpen.{FromAst-F, JoinAst-F, SelectAst-F}
use Rattle.sql_grammar.specs.declared.ast.FromAst.TheVariants.{rolls-Named, rolls-Derived}
use Rattle.sql_grammar.specs.declared.ast.FromAst.TheViews.{roll-FromAst, roll-JoinAst, roll-SelectAst, out-roll-JoinAst, out-roll-SelectAst}
use Rattle.sql_grammar.specs.declared.ast.FromAst.TheFolds.{map-FromAst, map-JoinAst, map-SelectAst, ind-SelectAst}
use Rattle.typed_exprs.specs.declared.scope.Column.{Column}
use Rattle.typed_exprs.specs.declared.refusal.Why.TheVariants as why
use Rattle.typed_exprs.specs.Answer.{◌>>=◌, or_refuse}
use Rattle.typed_exprs.specs.Scopes.{Columns, is_text, any_is, is_under}
use Rattle.typed_exprs.specs.Typed.{tested}
use Rattle.expr_binder.specs.Meaning.{meaning, place_of}
use Rattle.join_lowering.specs.Lowering.{lowered}
use Rattle.sql_tables.specs.declared.table.Table.{Table}
use Rattle.sql_tables.specs.Tables.{columns_under}
use Rattle.sql_binder.specs.declared.sources.Source.{Source}
use Rattle.sql_binder.specs.declared.selected.Selected.{Selected}
use Rattle.sql_binder.specs.Sources.{kinds, scanned, number_from, number_of_table, names_at, kinds_at, table, derived, Reading, Joining, if_new, under_new_alias, condition, side, joined_body, joined_on, joined_source, all_joined, from, filtered}
use Rattle.sql_binder.specs.Selects.{Parts, Selecting, union_of, selected, select, reading_of, joining_of}
use Rattle.binder_laws.proofs.Trees.{select_is, joining_is, named_is, derived_is}
use Rattle.binder_laws.proofs.Holding.{Holds, after, unless, where_some, Every, every_append}
use Rattle.binder_laws.proofs.Readings as reads
use Rattle.binder_laws.proofs.Meanings as meanings
use Rattle.binder_kind_laws.specs.Scripts.{all_have, select_has_items, from_has_items, join_has_items, kinds_of}
use Rattle.binder_kind_laws.proofs.Items.{derived_items, join_items, select_items}
use Rattle.binder_kind_laws.proofs.Settled.{Real, HasKind, Typing, tested_truth}
use Rattle.binder_kind_laws.proofs.Meanings.{RealColumns, means}
use Rattle.binder_kind_laws.proofs.CallKinds.{mapped}
use Rattle.binder_kind_laws.proofs.Joins.{Bodied, Sided, lowered_bodied}
use Rattle.binder_kind_laws.proofs.Each.{both_hold}
use Rattle.binder_kind_laws.proofs.Grouped.{filter_bodied}
use Rattle.binder_kind_laws.proofs.Selects.{Sourced, Selects, selected_selects}
use Rattle.binder_kind_laws.proofs.Unions.{Selecting_, union_selects, same_self}

-- ---- columns under an alias

under_kinds : (alias : List ℕ) (names : List (List ℕ)) (ks : List Kind) → length names ≡ length ks → kinds (columns_under alias names ks) ≡ ks
under_kinds alias [] [] e = refl
under_kinds alias (n ∷ ns) (k ∷ ks) e = ap (λ l. k ∷ l) (under_kinds alias ns ks (omega arith))
under_kinds alias [] (k ∷ ks) e = absurd (omega arith)
under_kinds alias (n ∷ ns) [] e = absurd (omega arith)

under_real : (alias : List ℕ) (names : List (List ℕ)) (ks : List Kind) → Every Real ks → RealColumns (columns_under alias names ks)
under_real alias [] ks h = tt
under_real alias (n ∷ ns) [] h = tt
under_real alias (n ∷ ns) (k ∷ ks) h = (h.0, under_real alias ns ks h.1)

-- columns of these names and kinds over a body of these kinds
under_sourced : (kss : List (List Kind)) (alias : List ℕ) (names : List (List ℕ)) (ks : List Kind) (body : Logical) → length names ≡ length ks → Every Real ks → 0 < length ks → Bodied kss body ks → Sourced kss (record { columns = columns_under alias names ks; body = body })
under_sourced kss alias names ks body e r l h =
    let q = under_kinds alias names ks e in
    let n : length (kinds (columns_under alias names ks)) ≡ length (columns_under alias names ks) = length-map (columns_under alias names ks) _ in
    let m = ap (λ (x : List Kind). length x) q in
    record { body = (h.0, h.1 ∙ sym q); real = under_real alias names ks r; some = omega arith }

-- ---- tables

-- a table with a column for each name, and a kind for each
pub record GoodTable (t : Table) : Type 0 where
  pub even : length t.names ≡ length t.kinds
  pub real : Every Real t.kinds
  pub some : 0 < length t.kinds

reals_are : (ks : List Kind) → Every Real ks → are_kinds ks ≡ true
reals_are [] h = refl
reals_are (k ∷ ks) h = and_from (is_kind k) (are_kinds ks) h.0 (reals_are ks h.1)

good_at : (tables : List Table) (k : ℕ) (t : Table) → Every GoodTable tables → slice_get tables k ≡ Some t → GoodTable t
good_at [] k t h e = cc
good_at (x ∷ xs) zero t h e = let q : x ≡ t = cc in subst GoodTable q h.0
good_at (x ∷ xs) (suc k) t h e = good_at xs k t h.1 e

found_from : (tables : List Table) (n k : ℕ) (name : List ℕ) → number_from n tables name ≡ Some k → (i : ℕ) × ((k ≡ n + i) × ((t : Table) × (slice_get tables i ≡ Some t)))
found_from [] n k name e = cc
found_from (t ∷ ts) n k name e = go (is_text t.name name) e (λ p. found_from ts (suc n) k name p)
  where
    go : (b : Bool) → cond {A = Option ℕ} b (Some n) (number_from (suc n) ts name) ≡ Some k → (number_from (suc n) ts name ≡ Some k → (i : ℕ) × ((k ≡ suc n + i) × ((u : Table) × (slice_get ts i ≡ Some u))))
        → (i : ℕ) × ((k ≡ n + i) × ((u : Table) × (slice_get (t ∷ ts) i ≡ Some u)))
    go true e f = let q : n ≡ k = cc in (0, ((omega arith), (t, refl)))
    go false e f = let m = f e in let q = m.1.0 in (suc m.0, ((omega arith), m.1.1))

found_table : (tables : List Table) (k : ℕ) (name : List ℕ) → number_of_table tables name ≡ Some k → (t : Table) × (slice_get tables k ≡ Some t)
found_table tables k name e = let m = found_from tables 0 k name e in let q = m.1.0 in let r : m.0 ≡ k = omega arith in subst (λ (i : ℕ). (t : Table) × (slice_get tables i ≡ Some t)) r m.1.1

names_are : (tables : List Table) (k : ℕ) (t : Table) → slice_get tables k ≡ Some t → names_at tables k ≡ t.names
names_are tables k t e = rw e refl

kinds_are : (tables : List Table) (k : ℕ) (t : Table) → slice_get tables k ≡ Some t → kinds_at tables k ≡ t.kinds
kinds_are tables k t e = rw e refl

scan_bodied : (tables : List Table) (k : ℕ) (t : Table) → slice_get tables k ≡ Some t → GoodTable t → Bodied (kinds_of tables) (plan.Scan k t.kinds) t.kinds
scan_bodied tables k t e g = (
  kinded-Scan (kinds_of tables) k t.kinds ∙ ap (λ o. is_table o t.kinds) (mapped (λ (x : Table). x.kinds) tables k t e)
      ∙ and_from (same_kinds t.kinds t.kinds) _ (same_self t.kinds) (and_from (nat_lt 0 (length t.kinds)) _ (lt-ltb 0 (length t.kinds) g.some) (reals_are t.kinds g.real)),
  kinds-Scan k t.kinds,
)

module _ (tables : List Table) (good : Every GoodTable tables) where
  abbrev kss : List (List Kind)
  kss = kinds_of tables

  abbrev Source_ : Source → Type 0
  Source_ = Sourced kss

  scanned_good : (alias name : List ℕ) (k : ℕ) → number_of_table tables name ≡ Some k → Source_ (scanned k (columns_under alias (names_at tables k) (kinds_at tables k)))
  scanned_good alias name k e =
      let f = found_table tables k name e in
      let t = f.0 in
      let g = good_at tables k t good f.1 in
      let q = under_kinds alias t.names t.kinds g.even in
      let s = under_sourced kss alias t.names t.kinds (plan.Scan k t.kinds) g.even g.real g.some (scan_bodied tables k t f.1 g) in
      let r = subst (λ (x : List Kind). Source_ (record { columns = columns_under alias t.names t.kinds; body = plan.Scan k x })) (sym q) s in
      subst (λ (ns : List (List ℕ)). Source_ (scanned k (columns_under alias ns (kinds_at tables k)))) (sym (names_are tables k t f.1))
      (subst (λ (x : List Kind). Source_ (scanned k (columns_under alias t.names x))) (sym (kinds_are tables k t f.1)) r)

  table_good : (place : ℕ) (name alias : List ℕ) → Holds Source_ (table tables place name alias)
  table_good place name alias =
      after (λ k. number_of_table tables name ≡ Some k) Source_ (or_refuse why.UnknownTable place (number_of_table tables name)) _
      (where_some (λ k. number_of_table tables name ≡ Some k) why.UnknownTable place (number_of_table tables name) (λ k e. e)) (λ k e. scanned_good alias name k e)

  derived_good : (alias : List ℕ) (s : Selected) → Selects kss s → Source_ (derived alias s)
  derived_good alias s h = under_sourced kss alias s.names s.kinds s.body h.names h.real h.some h.body

  -- ---- joins

  abbrev ReadsWell : Reading → Type 0
  ReadsWell r = Holds Source_ r.source

  abbrev JoinsWell : Joining → Type 0
  JoinsWell j = ReadsWell j.right

  under_good : (before : Columns) (r : Reading) → ReadsWell r → Holds Source_ (under_new_alias before r)
  under_good before r h = after Source_ Source_ r.source (if_new before r.alias r.place) h (λ s g. unless Source_ (any_is (is_under (Some r.alias)) before) why.Ambiguous r.place (Ok s) g)

  -- a condition is a truth, and reads the columns
  abbrev Condition : Columns → Expr → Type 0
  Condition columns e = HasKind (kinds columns) e kind.Bool × reads.Reads (length columns) e

  condition_good : (columns : Columns) (e : ExprAst) → RealColumns columns → Holds (Condition columns) (condition columns e)
  condition_good columns e real =
      both_hold (λ x. HasKind (kinds columns) x kind.Bool) (reads.Reads (length columns)) (condition columns e)
      (after (Typing (kinds columns)) (λ x. HasKind (kinds columns) x kind.Bool) (meaning columns e None) (tested (place_of e)) (means columns real e) (tested_truth (kinds columns) (place_of e)))
      (after (reads.Typing (length columns)) (reads.Reads (length columns)) (meaning columns e None) (tested (place_of e)) (meanings.means columns e) (reads.tested_reads (length columns) (place_of e)))

  sided : (s : Source) → Source_ s → Sided kss (side s) (kinds s.columns)
  sided s h = record { well = h.body.0; kinds_are = h.body.1; width = sym (length-map s.columns _) }

  on_good : (k : JoinKind) (left right : Source) (on : ExprAst) → Source_ left → Source_ right → Holds Source_ (joined_on k left right on)
  on_good k left right on hl hr =
      let all = left.columns ++ right.columns in
      let real = every_append (λ (c : Column). Real c.kind) left.columns right.columns hl.real hr.real in
      let q : kinds all ≡ kinds left.columns ++ kinds right.columns = map-append (λ (c : Column). c.kind) left.columns right.columns in
      let n = length-append left.columns right.columns in
      let l = hl.some in
      let Body = λ (body : Logical). Bodied kss body (kinds left.columns ++ kinds right.columns) in
      after Body Source_ (joined_body k (side left) (side right) all on) (λ body. Ok (record { columns = all; body = body }))
      (after (Condition all) Body (condition all on) (λ test. or_refuse why.NoEquiKey (place_of on) (lowered k (side left) (side right) test)) (condition_good all on real)
      (λ test t. where_some Body why.NoEquiKey (place_of on) (lowered k (side left) (side right) test)
      (λ body e. lowered_bodied kss k (side left) (side right) (kinds left.columns) (kinds right.columns) (sided left hl) (sided right hr) test
      (subst (λ (x : List Kind). kind_of x test ≡ Some kind.Bool) q t.0.kind, t.0.fits) (subst (λ (w : ℕ). reads.Reads w test) n t.1) body e)))
      (λ body b. record { body = (b.0, b.1 ∙ sym q); real = real; some = omega arith })

  joined_good : (left : Source) (j : Joining) → Source_ left → JoinsWell j → Holds Source_ (joined_source left j)
  joined_good left j h i = after Source_ Source_ (under_new_alias left.columns j.right) (λ right. joined_on j.kind left right j.on) (under_good left.columns j.right i) (λ right g. on_good j.kind left right j.on h g)

  all_good : (left : Source) (js : List Joining) → Source_ left → Every JoinsWell js → Holds Source_ (all_joined left js)
  all_good left [] h i = h
  all_good left (j ∷ js) h i = after Source_ Source_ (joined_source left j) (λ next. all_joined next js) (joined_good left j h i.0) (λ next g. all_good next js g i.1)

  from_good : (first : Reading) (js : List Joining) → ReadsWell first → Every JoinsWell js → Holds Source_ (from first js)
  from_good first js h i = after Source_ Source_ (under_new_alias [] first) (λ left. all_joined left js) (under_good [] first h) (λ left g. all_good left js g i)

  filtered_good : (test : Option ExprAst) (s : Source) → Source_ s → Holds Source_ (filtered test s)
  filtered_good None s h = h
  filtered_good (Some e) s h =
      after (Condition s.columns) Source_ (condition s.columns e) (λ t. Ok (record { columns = s.columns; body = plan.Filter s.body t })) (condition_good s.columns e h.real)
      (λ t c. record { body = filter_bodied kss s.body (kinds s.columns) t h.body c.0; real = h.real; some = h.some })

  -- ---- the tree

  abbrev FromWell : FromAst → Type 0
  FromWell f = from_has_items f ≡ true → ReadsWell (reading_of tables f)

  abbrev JoinWell : JoinAst → Type 0
  JoinWell j = join_has_items j ≡ true → JoinsWell (joining_of tables j)

  abbrev pub SelectWell : SelectAst → Type 0
  SelectWell s = select_has_items s ≡ true → Holds (Selects kss) (select tables s).select

  abbrev AFrom : Type 0
  AFrom = (f : FromAst) × FromWell f

  abbrev AJoin : Type 0
  AJoin = (j : JoinAst) × JoinWell j

  abbrev ASelect : Type 0
  ASelect = (s : SelectAst) × SelectWell s

  abbrev selects_of : List ASelect → List SelectAst
  selects_of ss = map (λ (s : ASelect). s.0) ss

  abbrev joins_of : List AJoin → List JoinAst
  joins_of js = map (λ (j : AJoin). j.0) js

  every_select : (ss : List ASelect) → all_have (map select_has_items (selects_of ss)) ≡ true → Every (Selecting_ kss) (map (select tables) (selects_of ss))
  every_select [] h = tt
  every_select (s ∷ ss) h = let b = and_parts (select_has_items s.0) (all_have (map select_has_items (selects_of ss))) h in (s.1 b.0, every_select ss b.1)

  every_join : (js : List AJoin) → all_have (map join_has_items (joins_of js)) ≡ true → Every JoinsWell (map (joining_of tables) (joins_of js))
  every_join [] h = tt
  every_join (j ∷ js) h = let b = and_parts (join_has_items j.0) (all_have (map join_has_items (joins_of js))) h in (j.1 b.0, every_join js b.1)

  from_step : (y : FromAst-F AFrom AJoin ASelect) → FromWell (roll-FromAst (map-FromAst AFrom AJoin ASelect FromAst JoinAst SelectAst (λ k. k.0) (λ k. k.0) (λ k. k.0) y))
  from_step (FromAst-F.Named name alias place) = subst FromWell (sym (rolls-Named name alias place)) (λ h. subst ReadsWell (sym (named_is tables name alias place)) (table_good place name alias))
  from_step (FromAst-F.Derived ss alias place) = subst FromWell (sym (rolls-Derived (selects_of ss) alias place)) (λ h. subst ReadsWell (sym (derived_is tables (selects_of ss) alias place))
      (after (Selects kss) Source_ (union_of (map (select tables) (selects_of ss))) (λ s. Ok (derived alias s))
      (union_selects kss (map (select tables) (selects_of ss)) (every_select ss (sym (derived_items (selects_of ss) alias place) ∙ h))) (derived_good alias)))

  abbrev bare_join : JoinAst-F AFrom AJoin ASelect → JoinAst-F FromAst JoinAst SelectAst
  bare_join y = map-JoinAst AFrom AJoin ASelect FromAst JoinAst SelectAst (λ k. k.0) (λ k. k.0) (λ k. k.0) y

  join_step : (y : JoinAst-F AFrom AJoin ASelect) → JoinWell (roll-JoinAst (bare_join y))
  join_step y h =
      subst JoinsWell (sym (joining_is tables (roll-JoinAst (bare_join y))))
      (subst (λ (x : JoinAst-F FromAst JoinAst SelectAst). ReadsWell (reading_of tables x.right)) (sym (out-roll-JoinAst (bare_join y))) (y.right.1 (sym (join_items (bare_join y)) ∙ h)))

  abbrev bare_select : SelectAst-F AFrom AJoin ASelect → SelectAst-F FromAst JoinAst SelectAst
  bare_select y = map-SelectAst AFrom AJoin ASelect FromAst JoinAst SelectAst (λ k. k.0) (λ k. k.0) (λ k. k.0) y

  abbrev parts_of_layer : SelectAst-F FromAst JoinAst SelectAst → Parts
  parts_of_layer s = record { distinct = s.distinct; items = s.items; groups = s.groups; having = s.having }

  abbrev SelectsWell : SelectAst-F FromAst JoinAst SelectAst → Type 0
  SelectsWell x = Holds (Selects kss) (from (reading_of tables x.first) (map (joining_of tables) x.joins) >>= filtered x.test >>= selected (parts_of_layer x))

  layer_step : (y : SelectAst-F AFrom AJoin ASelect) → select_has_items (roll-SelectAst (bare_select y)) ≡ true → SelectsWell (bare_select y)
  layer_step y h =
      let b = and_parts (nat_lt 0 (length y.items)) (from_has_items y.first.0 && all_have (map join_has_items (joins_of y.joins))) (sym (select_items (bare_select y)) ∙ h) in
      let c = and_parts (from_has_items y.first.0) (all_have (map join_has_items (joins_of y.joins))) b.1 in
      after Source_ (Selects kss) (from (reading_of tables y.first.0) (map (joining_of tables) (joins_of y.joins)) >>= filtered y.test) (selected (parts_of_layer (bare_select y)))
      (after Source_ Source_ (from (reading_of tables y.first.0) (map (joining_of tables) (joins_of y.joins))) (filtered y.test) (from_good (reading_of tables y.first.0) (map (joining_of tables) (joins_of y.joins)) (y.first.1 c.0) (every_join y.joins c.1)) (filtered_good y.test))
      (λ s g. selected_selects kss (parts_of_layer (bare_select y)) s g (ltb-true 0 (length y.items) b.0))

  select_step : (y : SelectAst-F AFrom AJoin ASelect) → SelectWell (roll-SelectAst (bare_select y))
  select_step y h =
      subst (λ (s : Selecting). Holds (Selects kss) s.select) (sym (select_is tables (roll-SelectAst (bare_select y))))
      (subst SelectsWell (sym (out-roll-SelectAst (bare_select y))) (layer_step y h))

  pub selects_well : (s : SelectAst) → SelectWell s
  selects_well = ind-SelectAst FromWell JoinWell SelectWell (λ x y is. subst (λ z. FromWell (roll-FromAst z)) is (from_step y)) (λ x y is. subst (λ z. JoinWell (roll-JoinAst z)) is (join_step y)) (λ x y is. subst (λ z. SelectWell (roll-SelectAst z)) is (select_step y))
