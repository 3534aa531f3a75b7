-- What FROM and selects give.
use Rattle.std.proofs.Common.{ℕ, suc, ◌≡◌, ◌+◌, refl, sym, ap, ◌∙◌, subst, true, Option, Some, None, Ok, List, [], ◌∷◌, ◌++◌, map, length, length-append, arith}
use Rattle.std.proofs.lemmas.List.{length-map}
use Rattle.dfx_value.specs.declared.kind.Kind.{Kind}
use Rattle.dfx_value.specs.declared.op.JoinKind.{JoinKind}
use Rattle.logical_plan.specs.declared.plan.Logical.{Logical}
use Rattle.logical_plan.specs.declared.plan.Logical.TheVariants as plan
use Rattle.sql_grammar.specs.declared.ast.ExprAst.{ExprAst}
use Rattle.sql_grammar.specs.declared.ast.FromAst.{FromAst}
use Rattle.sql_grammar.specs.declared.ast.JoinAst.{JoinAst}
use Rattle.sql_grammar.specs.declared.ast.SelectAst.{SelectAst}
use Rattle.sql_grammar.specs.declared.ast.FromAst.TheOpen.{FromAst-F, JoinAst-F, SelectAst-F}
use Rattle.sql_grammar.specs.declared.ast.FromAst.TheVariants.{rolls-Named, rolls-Derived}
use Rattle.sql_grammar.specs.declared.ast.FromAst.TheViews.{roll-FromAst, roll-JoinAst, roll-SelectAst, out-SelectAst, out-roll-JoinAst, out-roll-SelectAst}
use Rattle.sql_grammar.specs.declared.ast.FromAst.TheFolds.{map-FromAst, map-JoinAst, map-SelectAst, ind-SelectAst}
use Rattle.typed_exprs.specs.declared.refusal.Why.TheVariants as why
use Rattle.typed_exprs.specs.Answer.{◌>>=◌, or_refuse}
use Rattle.typed_exprs.specs.Scopes.{Columns, any_is, is_under}
use Rattle.typed_exprs.specs.Typed.{tested}
use Rattle.expr_binder.specs.Meaning.{meaning, place_of}
use Rattle.join_lowering.specs.Lowering.{lowered}
use Rattle.sql_tables.specs.declared.table.Table.{Table}
use Rattle.sql_binder.specs.declared.sources.Source.{Source}
use Rattle.sql_binder.specs.declared.selected.Selected.{Selected}
use Rattle.sql_tables.specs.Tables.{columns_under}
use Rattle.sql_binder.specs.Sources.{kinds, scanned, number_of_table, names_at, kinds_at, table, derived, Reading, Joining, if_new, under_new_alias, condition, side, joined_body, joined_on, joined_source, all_joined, from, filtered}
use Rattle.sql_binder.specs.Selects.{Parts, Selecting, union_of, selected, select, reading_of, joining_of}
use Rattle.binder_laws.proofs.Trees.{select_is, joining_is, named_is, derived_is}
use Rattle.join_lowering.specs.Keys.{columns}
use Rattle.planned_laws.specs.Ranges.{are_below}
use Rattle.planned_laws.specs.Queries.{body_width, body_in_range}
use Rattle.planned_laws.proofs.BodyNodes.{holds-Scan, holds-Filter, width-Scan, width-Filter}
use Rattle.binder_laws.proofs.Holding.{Holds, after, whatever, unless, where_some, weaker, Every}
use Rattle.binder_laws.proofs.Readings.{Reads, Typing, tested_reads}
use Rattle.binder_laws.proofs.Meanings.{means}
use Rattle.binder_laws.proofs.Lowered.{lowered_stands}
use Rattle.binder_laws.proofs.Items.{Fits, FitsItems, Sourced, selected_fits}
use Rattle.binder_laws.proofs.Unions.{Selects, union_fits}

-- ---- tables

scanned_good : (t : ℕ) (columns : Columns) → Sourced (scanned t columns)
scanned_good t columns = (holds-Scan t (kinds columns), width-Scan t (kinds columns) ∙ length-map columns _)

table_good : (tables : List Table) (place : ℕ) (name alias : List ℕ) → Holds Sourced (table tables place name alias)
table_good tables place name alias =
    whatever Sourced (or_refuse why.UnknownTable place (number_of_table tables name)) (λ k. Ok (scanned k (columns_under alias (names_at tables k) (kinds_at tables k))))
    (λ k. scanned_good k (columns_under alias (names_at tables k) (kinds_at tables k)))

under_length : (alias : List ℕ) (names : List (List ℕ)) (ks : List Kind) → length names ≡ length ks → length (columns_under alias names ks) ≡ length ks
under_length alias [] [] e = refl
under_length alias (n ∷ ns) (k ∷ ks) e = ap suc (under_length alias ns ks (omega arith))
under_length alias [] (k ∷ ks) e = absurd (omega arith)
under_length alias (n ∷ ns) [] e = absurd (omega arith)

derived_good : (alias : List ℕ) (s : Selected) → Fits s → Sourced (derived alias s)
derived_good alias s f = (f.body, f.kinds_of ∙ sym (under_length alias s.names s.kinds f.names_of))

-- ---- joins

abbrev pub ReadsWell : Reading → Type 0
ReadsWell r = Holds Sourced r.source

abbrev JoinsWell : Joining → Type 0
JoinsWell j = ReadsWell j.right

under_good : (before : Columns) (r : Reading) → ReadsWell r → Holds Sourced (under_new_alias before r)
under_good before r h = after Sourced Sourced r.source (if_new before r.alias r.place) h (λ s g. unless Sourced (any_is (is_under (Some r.alias)) before) why.Ambiguous r.place (Ok s) g)

condition_reads : (columns : Columns) (e : ExprAst) → Holds (Reads (length columns)) (condition columns e)
condition_reads columns e = after (Typing (length columns)) (Reads (length columns)) (meaning columns e None) (tested (place_of e)) (means columns e) (tested_reads (length columns) (place_of e))

abbrev Joined : Source → Source → Logical → Type 0
Joined left right body = (body_in_range body ≡ true) × (body_width body ≡ length left.columns + length right.columns)

on_good : (kind : JoinKind) (left right : Source) (on : ExprAst) → Sourced left → Sourced right → Holds Sourced (joined_on kind left right on)
on_good kind left right on hl hr =
    after (Joined left right) Sourced (joined_body kind (side left) (side right) (left.columns ++ right.columns) on) (λ body. Ok (record { columns = left.columns ++ right.columns; body = body }))
    (after (Reads (length (left.columns ++ right.columns))) (Joined left right) (condition (left.columns ++ right.columns) on) (λ test. or_refuse why.NoEquiKey (place_of on) (lowered kind (side left) (side right) test)) (condition_reads (left.columns ++ right.columns) on)
    (λ test h. where_some (Joined left right) why.NoEquiKey (place_of on) (lowered kind (side left) (side right) test)
    (λ body e. lowered_stands kind (side left) (side right) hl hr test (subst (λ (n : ℕ). Reads n test) (length-append left.columns right.columns) h) body e)))
    (λ body g. (g.0, g.1 ∙ sym (length-append left.columns right.columns)))

joined_good : (left : Source) (j : Joining) → Sourced left → JoinsWell j → Holds Sourced (joined_source left j)
joined_good left j h i = after Sourced Sourced (under_new_alias left.columns j.right) (λ right. joined_on j.kind left right j.on) (under_good left.columns j.right i) (λ right g. on_good j.kind left right j.on h g)

all_good : (left : Source) (js : List Joining) → Sourced left → Every JoinsWell js → Holds Sourced (all_joined left js)
all_good left [] h i = h
all_good left (j ∷ js) h i = after Sourced Sourced (joined_source left j) (λ next. all_joined next js) (joined_good left j h i.0) (λ next g. all_good next js g i.1)

from_good : (first : Reading) (js : List Joining) → ReadsWell first → Every JoinsWell js → Holds Sourced (from first js)
from_good first js h i = after Sourced Sourced (under_new_alias [] first) (λ left. all_joined left js) (under_good [] first h) (λ left g. all_good left js g i)

filtered_good : (test : Option ExprAst) (s : Source) → Sourced s → Holds Sourced (filtered test s)
filtered_good None s h = h
filtered_good (Some e) s h = after (Reads (length s.columns)) Sourced (condition s.columns e) (λ t. Ok (record { columns = s.columns; body = plan.Filter s.body t })) (condition_reads s.columns e) (λ t r. (holds-Filter s.body t (ap (λ (x : ℕ). are_below x (columns t)) h.1 ∙ r) h.0, width-Filter s.body t ∙ h.1))

-- ---- the tree

module _ (tables : List Table) where
  abbrev FromWell : FromAst → Type 0
  FromWell f = ReadsWell (reading_of tables f)

  abbrev JoinWell : JoinAst → Type 0
  JoinWell j = JoinsWell (joining_of tables j)

  abbrev pub SelectWell : SelectAst → Type 0
  SelectWell s = Holds (FitsItems (out-SelectAst s).items) (select tables s).select

  abbrev AFrom : Type 0
  AFrom = (f : FromAst) × FromWell f

  abbrev AJoin : Type 0
  AJoin = (j : JoinAst) × JoinWell j

  abbrev ASelect : Type 0
  ASelect = (s : SelectAst) × SelectWell s

  abbrev selects_of : List ASelect → List SelectAst
  selects_of ss = map (λ (s : ASelect). s.0) ss

  every_select : (ss : List ASelect) → Every Selects (map (select tables) (selects_of ss))
  every_select [] = tt
  every_select (s ∷ ss) = (weaker (FitsItems (out-SelectAst s.0).items) Fits (select tables s.0).select (λ x f. f.0) s.1, every_select ss)

  from_step : (y : FromAst-F AFrom AJoin ASelect) → FromWell (roll-FromAst (map-FromAst AFrom AJoin ASelect FromAst JoinAst SelectAst (λ k. k.0) (λ k. k.0) (λ k. k.0) y))
  from_step (FromAst-F.Named name alias place) = subst FromWell (sym (rolls-Named name alias place)) (subst ReadsWell (sym (named_is tables name alias place)) (table_good tables place name alias))
  from_step (FromAst-F.Derived ss alias place) = subst FromWell (sym (rolls-Derived (selects_of ss) alias place)) (subst ReadsWell (sym (derived_is tables (selects_of ss) alias place))
      (after Fits Sourced (union_of (map (select tables) (selects_of ss))) (λ s. Ok (derived alias s)) (union_fits (map (select tables) (selects_of ss)) (every_select ss)) (derived_good alias)))

  abbrev bare_join : JoinAst-F AFrom AJoin ASelect → JoinAst-F FromAst JoinAst SelectAst
  bare_join y = map-JoinAst AFrom AJoin ASelect FromAst JoinAst SelectAst (λ k. k.0) (λ k. k.0) (λ k. k.0) y

  join_step : (y : JoinAst-F AFrom AJoin ASelect) → JoinWell (roll-JoinAst (bare_join y))
  join_step y = subst JoinsWell (sym (joining_is tables (roll-JoinAst (bare_join y)))) (subst (λ (x : JoinAst-F FromAst JoinAst SelectAst). FromWell x.right) (sym (out-roll-JoinAst (bare_join y))) y.right.1)

  abbrev joins_of : List AJoin → List JoinAst
  joins_of js = map (λ (j : AJoin). j.0) js

  every_join : (js : List AJoin) → Every JoinsWell (map (joining_of tables) (joins_of js))
  every_join [] = tt
  every_join (j ∷ js) = (j.1, every_join js)

  abbrev bare_select : SelectAst-F AFrom AJoin ASelect → SelectAst-F FromAst JoinAst SelectAst
  bare_select y = map-SelectAst AFrom AJoin ASelect FromAst JoinAst SelectAst (λ k. k.0) (λ k. k.0) (λ k. k.0) y

  abbrev parts_of_layer : SelectAst-F FromAst JoinAst SelectAst → Parts
  parts_of_layer s = record { distinct = s.distinct; items = s.items; groups = s.groups; having = s.having }

  abbrev SelectsWell : SelectAst-F FromAst JoinAst SelectAst → Type 0
  SelectsWell x = Holds (FitsItems x.items) (from (reading_of tables x.first) (map (joining_of tables) x.joins) >>= filtered x.test >>= selected (parts_of_layer x))

  layer_step : (y : SelectAst-F AFrom AJoin ASelect) → SelectsWell (bare_select y)
  layer_step y =
      after Sourced (FitsItems y.items) (from (reading_of tables y.first.0) (map (joining_of tables) (joins_of y.joins)) >>= filtered y.test) (selected (parts_of_layer (bare_select y)))
      (after Sourced Sourced (from (reading_of tables y.first.0) (map (joining_of tables) (joins_of y.joins))) (filtered y.test) (from_good (reading_of tables y.first.0) (map (joining_of tables) (joins_of y.joins)) y.first.1 (every_join y.joins)) (filtered_good y.test))
      (λ s g. selected_fits (parts_of_layer (bare_select y)) s g)

  select_step : (y : SelectAst-F AFrom AJoin ASelect) → SelectWell (roll-SelectAst (bare_select y))
  select_step y =
      subst (λ (s : Selecting). Holds (FitsItems (out-SelectAst (roll-SelectAst (bare_select y))).items) s.select) (sym (select_is tables (roll-SelectAst (bare_select y))))
      (subst SelectsWell (sym (out-roll-SelectAst (bare_select y))) (layer_step y))

  pub selects_well : (s : SelectAst) → SelectWell s
  selects_well = ind-SelectAst FromWell JoinWell SelectWell (λ x y is. subst (λ z. FromWell (roll-FromAst z)) is (from_step y)) (λ x y is. subst (λ z. JoinWell (roll-JoinAst z)) is (join_step y)) (λ x y is. subst (λ z. SelectWell (roll-SelectAst z)) is (select_step y))
