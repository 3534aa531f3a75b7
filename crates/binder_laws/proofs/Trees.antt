-- What stands in a select, one level at a time.
use Rattle.std.proofs.Common.{◌≡◌, ap, sym, ◌∙◌, ℕ, List, Ok}
use Rattle.std.specs.Prelude.{map}
use Rattle.sql_grammar.specs.declared.ast.SelectAst.{SelectAst}
use Rattle.sql_grammar.specs.declared.ast.JoinAst.{JoinAst}
use Rattle.sql_grammar.specs.declared.ast.FromAst.TheOpen.{FromAst-F}
use Rattle.sql_grammar.specs.declared.ast.FromAst.TheVariants.{Named, Derived, rolls-Named, rolls-Derived}
use Rattle.sql_grammar.specs.declared.ast.FromAst.TheFolds.{fold-roll-FromAst, fold_out-SelectAst, fold_out-JoinAst}
use Rattle.sql_grammar.specs.declared.ast.FromAst.TheViews.{out-SelectAst, out-JoinAst}
use Rattle.typed_exprs.specs.Answer.{◌>>=◌}
use Rattle.sql_tables.specs.declared.table.Table.{Table}
use Rattle.sql_binder.specs.Sources.{Reading, Joining, table, derived, from, filtered}
use Rattle.sql_binder.specs.Selects.{Selecting, reading, joining, selecting, select, reading_of, joining_of, union_of, selected, select_parts}

pub select_is : (tables : List Table) (s : SelectAst) → select tables s ≡ record { place = (out-SelectAst s).place; select = from (reading_of tables (out-SelectAst s).first) (map (joining_of tables) (out-SelectAst s).joins) >>= filtered (out-SelectAst s).test >>= selected (select_parts s) }
unfolding select reading_of joining_of
select_is tables s = fold_out-SelectAst Reading Joining Selecting (reading tables) joining selecting s

pub joining_is : (tables : List Table) (j : JoinAst) → joining_of tables j ≡ record { kind = (out-JoinAst j).kind; right = reading_of tables (out-JoinAst j).right; on = (out-JoinAst j).on }
unfolding reading_of joining_of
joining_is tables j = fold_out-JoinAst Reading Joining Selecting (reading tables) joining selecting j

pub named_is : (tables : List Table) (name alias : List ℕ) (place : ℕ) → reading_of tables (Named name alias place) ≡ record { alias = alias; place = place; source = table tables place name alias }
unfolding reading_of
named_is tables name alias place = ap (reading_of tables) (sym (rolls-Named name alias place)) ∙ fold-roll-FromAst Reading Joining Selecting (reading tables) joining selecting (FromAst-F.Named name alias place)

pub derived_is : (tables : List Table) (ss : List SelectAst) (alias : List ℕ) (place : ℕ) → reading_of tables (Derived ss alias place) ≡ record { alias = alias; place = place; source = union_of (map (select tables) ss) >>= λ s. Ok (derived alias s) }
unfolding reading_of select
derived_is tables ss alias place = ap (reading_of tables) (sym (rolls-Derived ss alias place)) ∙ fold-roll-FromAst Reading Joining Selecting (reading tables) joining selecting (FromAst-F.Derived ss alias place)
