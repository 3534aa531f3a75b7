-- What stands in a select, constructor by constructor.
use Rattle.std.proofs.Common.{◌≡◌, ap, sym, ◌∙◌, ℕ, ◌+◌, ◌<◌, List, [], ◌∷◌, ◌++◌, length, drop, get_or, Ok}
use Rattle.std.proofs.lemmas.List.{drop_more}
use Rattle.std.specs.Prelude.{map}
use Rattle.sql_grammar.specs.declared.ast.SelectAst.{SelectAst}
use Rattle.sql_grammar.specs.declared.ast.FromAst.{FromAst}
use Rattle.sql_grammar.specs.declared.ast.JoinAst.{JoinAst}
use Rattle.sql_grammar.specs.declared.ast.FromAst.TheOpen.{FromAst-F}
use Rattle.sql_grammar.specs.declared.ast.FromAst.TheVariants.{Named, Derived, rolls-Named, rolls-Derived}
use Rattle.sql_grammar.specs.declared.ast.FromAst.TheFolds.{fold-roll-FromAst, fold_out-SelectAst, fold_out-JoinAst}
use Rattle.sql_grammar.specs.declared.ast.FromAst.TheViews.{out-SelectAst, out-JoinAst}
use Rattle.typed_exprs.specs.Answer.{Answer, ◌>>=◌}
use Rattle.sql_binder.specs.declared.selected.Selected.{Selected}
use Rattle.sql_binder.specs.Each.{each_after}
use Rattle.sql_binder.specs.Unions.{Placed}
use Rattle.sql_tables.specs.declared.table.Table.{Table}
use Rattle.sql_binder.specs.Sources.{Reading, Joining, table, derived, from, filtered}
use Rattle.sql_binder.specs.Selects.{Selecting, placed, reading, joining, selecting, select, reading_of, joining_of, union_of, selected, select_parts}

select-out : (tables : List Table) (s : SelectAst) → select tables s ≡ record { place = (out-SelectAst s).place; select = from (reading_of tables (out-SelectAst s).first) (map (joining_of tables) (out-SelectAst s).joins) >>= filtered (out-SelectAst s).test >>= selected (select_parts s) }
unfolding select reading_of joining_of
select-out tables s = fold_out-SelectAst Reading Joining Selecting (reading tables) joining selecting s

pub select-place : (tables : List Table) (s : SelectAst) → (select tables s).place ≡ (out-SelectAst s).place
select-place tables s = ap (λ (x : Selecting). x.place) (select-out tables s)

pub select-select : (tables : List Table) (s : SelectAst) → (select tables s).select ≡ from (reading_of tables (out-SelectAst s).first) (map (joining_of tables) (out-SelectAst s).joins) >>= filtered (out-SelectAst s).test >>= selected (select_parts s)
select-select tables s = ap (λ (x : Selecting). x.select) (select-out tables s)

joining-out : (tables : List Table) (j : JoinAst) → joining_of tables j ≡ record { kind = (out-JoinAst j).kind; right = reading_of tables (out-JoinAst j).right; on = (out-JoinAst j).on }
unfolding reading_of joining_of
joining-out tables j = fold_out-JoinAst Reading Joining Selecting (reading tables) joining selecting j

pub joining-kind : (tables : List Table) (j : JoinAst) → (joining_of tables j).kind ≡ (out-JoinAst j).kind
joining-kind tables j = ap (λ (x : Joining). x.kind) (joining-out tables j)

pub joining-right : (tables : List Table) (j : JoinAst) → (joining_of tables j).right ≡ reading_of tables (out-JoinAst j).right
joining-right tables j = ap (λ (x : Joining). x.right) (joining-out tables j)

pub joining-on : (tables : List Table) (j : JoinAst) → (joining_of tables j).on ≡ (out-JoinAst j).on
joining-on tables j = ap (λ (x : Joining). x.on) (joining-out tables j)

pub reading-Named : (tables : List Table) (name alias : List ℕ) (place : ℕ) → reading_of tables (Named name alias place) ≡ record { alias = alias; place = place; source = table tables place name alias }
unfolding reading_of
reading-Named tables name alias place = ap (reading_of tables) (sym (rolls-Named name alias place)) ∙ fold-roll-FromAst Reading Joining Selecting (reading tables) joining selecting (FromAst-F.Named name alias place)

pub reading-Derived : (tables : List Table) (ss : List SelectAst) (alias : List ℕ) (place : ℕ) → reading_of tables (Derived ss alias place) ≡ record { alias = alias; place = place; source = union_of (map (select tables) ss) >>= λ s. Ok (derived alias s) }
unfolding reading_of select
reading-Derived tables ss alias place = ap (reading_of tables) (sym (rolls-Derived ss alias place)) ∙ fold-roll-FromAst Reading Joining Selecting (reading tables) joining selecting (FromAst-F.Derived ss alias place)

with_select : (tables : List Table) (p : SelectAst) (s : Selected) (done : List Placed) (more : List Selecting) (x : Answer Selected) → x ≡ Ok s → each_after placed done (record { place = (out-SelectAst p).place; select = x } ∷ more) ≡ each_after placed (done ++ ((out-SelectAst p).place, s) ∷ []) more
with_select tables p s done more x h = ap (λ (y : Answer Selected). each_after placed done (record { place = (out-SelectAst p).place; select = y } ∷ more)) h

-- one select more is bound
pub bound_next : (tables : List Table) (n : ℕ) (p : SelectAst) (ps : List SelectAst) (done : List Placed) (s : Selected) → n < length ps → p ≡ get_or ps n p → (select tables p).select ≡ Ok s
    → each_after placed done (map (select tables) (drop n ps)) ≡ each_after placed (done ++ ((out-SelectAst p).place, s) ∷ []) (map (select tables) (drop (n + 1) ps))
bound_next tables n p ps done s within at h =
    ap (λ (xs : List SelectAst). each_after placed done (map (select tables) xs)) (drop_more ps n p within ∙ ap (λ (x : SelectAst). x ∷ drop (n + 1) ps) (sym at))
    ∙ ap (λ (x : Selecting). each_after placed done (x ∷ map (select tables) (drop (n + 1) ps))) at_place
    ∙ with_select tables p s done (map (select tables) (drop (n + 1) ps)) ((select tables p).select) h where
      at_place : select tables p ≡ record { place = (out-SelectAst p).place; select = (select tables p).select }
      at_place = ap (λ (k : ℕ). record { place = k; select = (select tables p).select }) (select-place tables p)

pub ruleset selects = (select-place, select-select, joining-kind, joining-right, joining-on, reading-Named, reading-Derived)
