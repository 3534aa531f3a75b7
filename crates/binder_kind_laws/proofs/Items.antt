-- Whether each select of a tree has an item, node by node.
use Rattle.std.specs.Prelude.{nat_lt}
use Rattle.std.proofs.Common.{ℕ, ◌≡◌, refl, sym, ap, ◌∙◌, Bool, true, ◌&&◌, List, [], ◌∷◌, ◌++◌, map, length}
use Rattle.std.proofs.lemmas.Bool.{and_parts, and_from}
use Rattle.sql_grammar.specs.declared.ast.FromAst.{FromAst}
use Rattle.sql_grammar.specs.declared.ast.JoinAst.{JoinAst}
use Rattle.sql_grammar.specs.declared.ast.SelectAst.{SelectAst}
use Rattle.sql_grammar.specs.declared.ast.FromAst.TheOpen.{FromAst-F, JoinAst-F, SelectAst-F}
use Rattle.sql_grammar.specs.declared.ast.FromAst.TheVariants.{Named, Derived, rolls-Named, rolls-Derived}
use Rattle.sql_grammar.specs.declared.ast.FromAst.TheViews.{roll-JoinAst, roll-SelectAst}
use Rattle.sql_grammar.specs.declared.ast.FromAst.TheFolds.{fold-roll-FromAst, fold-roll-JoinAst, fold-roll-SelectAst}
use Rattle.binder_kind_laws.specs.Scripts.{all_have, from_layer, join_layer, select_layer, select_has_items, from_has_items, join_has_items}

pub named_items : (name alias : List ℕ) (place : ℕ) → from_has_items (Named name alias place) ≡ true
unfolding from_has_items
named_items name alias place = ap from_has_items (sym (rolls-Named name alias place)) ∙ fold-roll-FromAst Bool Bool Bool from_layer join_layer select_layer (FromAst-F.Named name alias place)

pub derived_items : (ss : List SelectAst) (alias : List ℕ) (place : ℕ) → from_has_items (Derived ss alias place) ≡ all_have (map select_has_items ss)
unfolding from_has_items select_has_items
derived_items ss alias place = ap from_has_items (sym (rolls-Derived ss alias place)) ∙ fold-roll-FromAst Bool Bool Bool from_layer join_layer select_layer (FromAst-F.Derived ss alias place)

pub join_items : (y : JoinAst-F FromAst JoinAst SelectAst) → join_has_items (roll-JoinAst y) ≡ from_has_items y.right
unfolding join_has_items from_has_items
join_items y = fold-roll-JoinAst Bool Bool Bool from_layer join_layer select_layer y

pub select_items : (y : SelectAst-F FromAst JoinAst SelectAst) → select_has_items (roll-SelectAst y) ≡ (nat_lt 0 (length y.items) && (from_has_items y.first && all_have (map join_has_items y.joins)))
unfolding select_has_items join_has_items from_has_items
select_items y = fold-roll-SelectAst Bool Bool Bool from_layer join_layer select_layer y

pub one_more : {A : Type 0} (has : A → Bool) (xs : List A) (x : A) → all_have (map has xs) ≡ true → has x ≡ true → all_have (map has (xs ++ x ∷ [])) ≡ true
one_more has [] x h i = and_from (has x) true i refl
one_more has (y ∷ ys) x h i = let b = and_parts (has y) (all_have (map has ys)) h in and_from (has y) _ b.0 (one_more has ys x b.1 i)
