-- The keys of ORDER BY are columns of the answer.
use Rattle.std.specs.Prelude.{nat_le, nat_lt}
use Rattle.std.proofs.Common.{ℕ, zero, suc, ◌≡◌, ◌+◌, ◌≤◌, ◌<◌, refl, cond, Bool, true, false, Option, Some, None, Ok, List, [], ◌∷◌, length, arith}
use Rattle.std.proofs.lemmas.Bool.{lt-ltb, ltb-true, leb-true}
use Rattle.dfx_value.specs.declared.rows.SortKey.{SortKey}
use Rattle.sql_grammar.specs.declared.ast.ExprAst.{ExprAst}
use Rattle.sql_grammar.specs.declared.ast.NodeAst.{NodeAst}
use Rattle.sql_grammar.specs.declared.ast.NodeAst.TheOpen.{NodeAst-F}
use Rattle.sql_grammar.specs.declared.ast.NodeAst.TheViews.{out-ExprAst, out-NodeAst}
use Rattle.sql_grammar.specs.declared.ast.KeyAst.{KeyAst}
use Rattle.typed_exprs.specs.declared.refusal.Why.TheVariants as why
use Rattle.typed_exprs.specs.Answer.{Answer, refuse}
use Rattle.typed_exprs.specs.Literals.{has_point}
use Rattle.typed_exprs.specs.Scopes.{is_text}
use Rattle.expr_binder.specs.Meaning.{place_of}
use Rattle.sql_binder.specs.Orders.{Single, item_tests, first_from, number_from, item_of, named_from, named_or, whole_number, position, column_of_key, sort_key, key_of, order}
use Rattle.physical_plan.proofs.Everywhere.{both_true, and_parts}
use Rattle.planned_laws.specs.Ranges.{are_below, key_columns}
use Rattle.binder_laws.proofs.Holding.{Holds, after, where_some, weaker, Every, AreSo, each_holds, every_of}

first_below : (tests : List (ExprAst → Bool)) (k c : ℕ) (e : ExprAst) → first_from k tests e ≡ Some c → c < k + length tests
first_below [] k c e q = cc
first_below (is ∷ more) k c e q = go (is e) (λ p. first_below more (suc k) c e p) q
  where
    go : (b : Bool) → (first_from (suc k) more e ≡ Some c → c < suc k + length more) → cond {A = Option ℕ} b (Some k) (first_from (suc k) more e) ≡ Some c → c < k + length (is ∷ more)
    go true f p = let q : k ≡ c = cc in omega arith
    go false f p = let r = f p in omega arith

named_below : (name : List ℕ) (ns : List (List ℕ)) (k w : ℕ) → k + length ns ≤ w → are_below w (named_from k name ns) ≡ true
named_below name [] k w h = refl
named_below name (n ∷ ns) k w h = go (is_text n name) (named_below name ns (suc k) w (omega arith))
  where
    go : (b : Bool) → are_below w (named_from (suc k) name ns) ≡ true → are_below w (cond {A = List ℕ} b (k ∷ named_from (suc k) name ns) (named_from (suc k) name ns)) ≡ true
    go true more = both_true _ _ (lt-ltb k w (omega arith)) more
    go false more = more

below_one : (k w : ℕ) → are_below w (k ∷ []) ≡ true → k < w
below_one k w h = ltb-true k w ((and_parts (nat_lt k w) true h).0)

module _ (names : List (List ℕ)) (single : Option Single) (many : (s : Single) → single ≡ Some s → length (item_tests s.0 s.1) ≡ length names) where
  abbrev IsColumn : ℕ → Type 0
  IsColumn c = c < length names

  item_column : (e : ExprAst) → (o : Option Single) → single ≡ o → Holds IsColumn (item_of o e)
  unfolding number_from
  item_column e None q = tt
  item_column e (Some s) q =
      where_some IsColumn why.Unsupported (place_of e) (first_from 0 (item_tests s.0 s.1) e)
      (λ c p. let a = first_below (item_tests s.0 s.1) 0 c e p in let b = many s q in omega arith)

  position_column : (place : ℕ) (o : Option ℕ) → Holds IsColumn (position (length names) place o)
  position_column place None = tt
  position_column place (Some zero) = tt
  position_column place (Some (suc k)) = go (nat_le (suc k) (length names)) refl
    where
      go : (b : Bool) → nat_le (suc k) (length names) ≡ b → Holds IsColumn (cond {A = Answer ℕ} b (Ok k) (refuse why.UnknownColumn place))
      go true e = leb-true (suc k) (length names) e
      go false e = tt

  only_column : (ks : List ℕ) (place : ℕ) (other : Answer ℕ) → are_below (length names) ks ≡ true → Holds IsColumn other → Holds IsColumn (named_or ks place other)
  only_column [] place other h i = i
  only_column (k ∷ []) place other h i = below_one k (length names) h
  only_column (k ∷ l ∷ more) place other h i = tt

  key_column : (e : ExprAst) → Holds IsColumn (column_of_key names single e)
  key_column e = go (out-NodeAst (out-ExprAst e).node) refl
    where
      item : Holds IsColumn (item_of single e)
      item = item_column e single refl

      go : (z : NodeAst-F NodeAst ExprAst) → out-NodeAst (out-ExprAst e).node ≡ z → Holds IsColumn (column_of_key names single e)
      go (NodeAst-F.Number text) p = rw p (number (has_point text))
        where
          number : (b : Bool) → Holds IsColumn (cond {A = Answer ℕ} b (item_of single e) (position (length names) (place_of e) (whole_number text)))
          number true = item
          number false = position_column (place_of e) (whole_number text)
      go (NodeAst-F.Name None name) p = rw p (only_column (named_from 0 name names) (place_of e) (item_of single e) (named_below name names 0 (length names) (omega arith)) item)
      go (NodeAst-F.Name (Some alias) name) p = rw p item
      go (NodeAst-F.Str t) p = rw p item
      go NodeAst-F.Null p = rw p item
      go (NodeAst-F.Truth b) p = rw p item
      go (NodeAst-F.Call f es) p = rw p item
      go NodeAst-F.CountAll p = rw p item
      go (NodeAst-F.Not a) p = rw p item
      go (NodeAst-F.Neg a) p = rw p item
      go (NodeAst-F.IsNull a) p = rw p item
      go (NodeAst-F.Binary o a b) p = rw p item
      go (NodeAst-F.Case arms o) p = rw p item
      go (NodeAst-F.Cast a to) p = rw p item

  abbrev HasColumn : SortKey → Type 0
  HasColumn k = k.column < length names

  key_below : (k : KeyAst) → Holds HasColumn (key_of names single k)
  key_below k = after IsColumn HasColumn (column_of_key names single k.expr) (λ c. Ok (sort_key k c)) (key_column k.expr) (λ c h. h)

  keys_below : (ks : List SortKey) → Every HasColumn ks → are_below (length names) (key_columns ks) ≡ true
  keys_below [] h = refl
  keys_below (k ∷ ks) h = both_true _ _ (lt-ltb k.column (length names) h.0) (keys_below ks h.1)

  pub order_below : (keys : List KeyAst) → Holds (λ ks. are_below (length names) (key_columns ks) ≡ true) (order names single keys)
  order_below keys = weaker (AreSo HasColumn (length keys)) (λ ks. are_below (length names) (key_columns ks) ≡ true) (order names single keys) (λ ks a. keys_below ks a.1)
      (each_holds HasColumn (key_of names single) keys (every_of (λ k. Holds HasColumn (key_of names single k)) key_below keys))
