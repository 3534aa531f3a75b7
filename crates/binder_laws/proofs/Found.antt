-- The calls of a select are found among those that are listed.
use Rattle.std.proofs.Common.{ℕ, suc, ◌≡◌, ◌+◌, ◌<◌, refl, ap, cond, Bool, true, false, Option, Some, None, List, [], ◌∷◌, ◌++◌, length, arith}
use Rattle.sql_grammar.specs.declared.ast.ExprAst.{ExprAst}
use Rattle.sql_grammar.specs.declared.ast.ItemAst.{ItemAst}
use Rattle.sql_grammar.specs.declared.ast.ItemAst.TheVariants as item
use Rattle.expr_binder.specs.Calls.{Calls, calls_of, unless_found, with_call, with_calls}
use Rattle.expr_binder.specs.Same.{same, place_from, place_among}
use Rattle.typed_exprs.specs.Scopes.{Columns}
use Rattle.sql_binder.specs.Grouped.{with_item, with_items, with_having, calls}
use Rattle.binder_laws.proofs.Holding.{Every}

module _ (columns : Columns) where
  pub place_bound : (e : ExprAst) (xs : List ExprAst) (k j : ℕ) → place_from columns e k xs ≡ Some j → j < k + length xs
  place_bound e [] k j q = cc
  place_bound e (x ∷ xs) k j q = go (same columns e x) (λ p. place_bound e xs (suc k) j p) q
    where
      go : (b : Bool) → (place_from columns e (suc k) xs ≡ Some j → j < suc k + length xs) → cond {A = Option ℕ} b (Some k) (place_from columns e (suc k) xs) ≡ Some j → j < k + length (x ∷ xs)
      go true f p = let r : k ≡ j = cc in omega arith
      go false f p = let r = f p in omega arith

  -- somewhere in the list
  abbrev IsAmong : ExprAst → ℕ → List ExprAst → Type 0
  IsAmong e k xs = (j : ℕ) × (place_from columns e k xs ≡ Some j)

  still_among : (e : ExprAst) (xs ys : List ExprAst) (k : ℕ) → IsAmong e k xs → IsAmong e k (xs ++ ys)
  still_among e [] ys k (j, q) = cc
  still_among e (x ∷ xs) ys k h = go (same columns e x) (λ p. still_among e xs ys (suc k) p) h
    where
      go : (b : Bool) → (IsAmong e (suc k) xs → IsAmong e (suc k) (xs ++ ys)) → (j : ℕ) × (cond {A = Option ℕ} b (Some k) (place_from columns e (suc k) xs) ≡ Some j) → (j : ℕ) × (cond {A = Option ℕ} b (Some k) (place_from columns e (suc k) (xs ++ ys)) ≡ Some j)
      go true f p = (k, refl)
      go false f p = f p

  last_among : (e : ExprAst) (xs : List ExprAst) (k : ℕ) → same columns e e ≡ true → IsAmong e k (xs ++ e ∷ [])
  last_among e [] k h = (k, ap (λ (b : Bool). cond {A = Option ℕ} b (Some k) None) h)
  last_among e (x ∷ xs) k h = go (same columns e x) (last_among e xs (suc k) h)
    where
      go : (b : Bool) → IsAmong e (suc k) (xs ++ e ∷ []) → (j : ℕ) × (cond {A = Option ℕ} b (Some k) (place_from columns e (suc k) (xs ++ e ∷ [])) ≡ Some j)
      go true p = (k, refl)
      go false p = p

  -- a call that is equal to itself is among these
  abbrev pub IsFound : Calls → ExprAst → Type 0
  IsFound cs e = same columns e e ≡ true → IsAmong e 0 cs

  call_keeps : (cs : Calls) (e d : ExprAst) → IsFound cs d → IsFound (with_call columns cs e) d
  call_keeps cs e d f h = go (place_among columns e cs)
    where
      go : (o : Option ℕ) → IsAmong d 0 (unless_found o e cs)
      go None = still_among d cs (e ∷ []) 0 (f h)
      go (Some k) = f h

  call_finds : (cs : Calls) (e : ExprAst) → IsFound (with_call columns cs e) e
  call_finds cs e h = go (place_among columns e cs) refl
    where
      go : (o : Option ℕ) → place_among columns e cs ≡ o → IsAmong e 0 (unless_found o e cs)
      go None q = last_among e cs 0 h
      go (Some k) q = (k, q)

  calls_keep : (es : Calls) (cs : Calls) (d : ExprAst) → IsFound cs d → IsFound (with_calls columns cs es) d
  calls_keep [] cs d f = f
  calls_keep (e ∷ es) cs d f = calls_keep es (with_call columns cs e) d (call_keeps cs e d f)

  calls_find : (es : Calls) (cs : Calls) → Every (IsFound (with_calls columns cs es)) es
  calls_find [] cs = tt
  calls_find (e ∷ es) cs = (calls_keep es (with_call columns cs e) e (call_finds cs e), calls_find es (with_call columns cs e))

  -- ---- items and HAVING

  abbrev pub HasCalls : Calls → ExprAst → Type 0
  HasCalls cs e = Every (IsFound cs) (calls_of e)

  all_keep : (more : Calls) (cs ds : Calls) → ((d : ExprAst) → IsFound cs d → IsFound ds d) → Every (IsFound cs) more → Every (IsFound ds) more
  all_keep [] cs ds f h = tt
  all_keep (d ∷ more) cs ds f h = (f d h.0, all_keep more cs ds f h.1)

  abbrev pub ItemFound : Calls → ItemAst → Type 0
  ItemFound cs (item.One e name) = HasCalls cs e
  ItemFound cs _ = Unit {0}

  item_keeps : (cs : Calls) (i : ItemAst) (d : ExprAst) → IsFound cs d → IsFound (with_item columns cs i) d
  item_keeps cs (item.One e name) d f = calls_keep (calls_of e) cs d f
  item_keeps cs (item.All place) d f = f
  item_keeps cs (item.AllOf alias place) d f = f

  items_keep : (is : List ItemAst) (cs : Calls) (d : ExprAst) → IsFound cs d → IsFound (with_items columns cs is) d
  items_keep [] cs d f = f
  items_keep (i ∷ is) cs d f = items_keep is (with_item columns cs i) d (item_keeps cs i d f)

  item_found : (cs : Calls) (i : ItemAst) (ds : Calls) → ((d : ExprAst) → IsFound (with_item columns cs i) d → IsFound ds d) → ItemFound ds i
  item_found cs (item.One e name) ds f = all_keep (calls_of e) (with_item columns cs (item.One e name)) ds f (calls_find (calls_of e) cs)
  item_found cs (item.All place) ds f = tt
  item_found cs (item.AllOf alias place) ds f = tt

  items_found : (is : List ItemAst) (cs ds : Calls) → ((d : ExprAst) → IsFound (with_items columns cs is) d → IsFound ds d) → Every (ItemFound ds) is
  items_found [] cs ds f = tt
  items_found (i ∷ is) cs ds f = (item_found cs i ds (λ d h. f d (items_keep is (with_item columns cs i) d h)), items_found is (with_item columns cs i) ds f)

  having_keeps : (cs : Calls) (having : Option ExprAst) (d : ExprAst) → IsFound cs d → IsFound (with_having columns cs having) d
  having_keeps cs None d f = f
  having_keeps cs (Some e) d f = calls_keep (calls_of e) cs d f

  abbrev pub HavingFound : Calls → Option ExprAst → Type 0
  HavingFound cs None = Unit {0}
  HavingFound cs (Some e) = HasCalls cs e

  having_found : (cs : Calls) (having : Option ExprAst) → HavingFound (with_having columns cs having) having
  having_found cs None = tt
  having_found cs (Some e) = calls_find (calls_of e) cs

  -- all calls of the items and of HAVING are among the calls of the select
  pub all_items_found : (is : List ItemAst) (having : Option ExprAst) → Every (ItemFound (calls columns is having)) is
  all_items_found is having = items_found is [] (calls columns is having) (having_keeps (with_items columns [] is) having)

  pub all_having_found : (is : List ItemAst) (having : Option ExprAst) → HavingFound (calls columns is having) having
  all_having_found is having = having_found (with_items columns [] is) having
