-- The query of a script is well-kinded over its tables.
use Rattle.std.specs.List.{list_all}
use Rattle.std.proofs.Common.{ℕ, ◌≡◌, ◌<◌, refl, sym, ap, ◌∙◌, subst, cond, Bool, true, false, ◌||◌, ◌==◌, Ok, Err, List, [], ◌∷◌, ◌++◌, map, length, arith}
use Rattle.std.proofs.lemmas.Bool.{and_parts, and_from, eqb-true, eq-eqb, false≢true}
use Rattle.std.proofs.lemmas.List.{append_assoc, append-nil, length-map}
use Rattle.dfx_value.specs.Kinds.{is_kind, are_kinds}
use Rattle.dfx_value.specs.declared.kind.Kind.{Kind}
use Rattle.logical_plan.specs.declared.query.Query.{Query}
use Rattle.logical_plan.specs.Body.{kinds}
use Rattle.kind_laws.specs.Kinded.{is_well_kinded}
use Rattle.sql_grammar.specs.declared.ast.Script.{Script}
use Rattle.sql_grammar.specs.declared.ast.TableAst.{TableAst}
use Rattle.sql_grammar.specs.declared.ast.SelectAst.{SelectAst}
use Rattle.typed_exprs.specs.declared.refusal.Why.TheVariants as why
use Rattle.typed_exprs.specs.Answer.{Answer, ◌>>=◌}
use Rattle.sql_tables.specs.declared.schema.Schema.{Schema}
use Rattle.sql_tables.specs.declared.table.Table.{Table}
use Rattle.sql_tables.specs.Tables.{is_empty, schema_of, has_wrong_columns, has_other_option, declares, has_twice, table, tables_after, tables}
use Rattle.sql_binder.specs.declared.selected.Selected.{Selected}
use Rattle.sql_binder.specs.Bound.{single, query_of, bound}
use Rattle.sql_binder.specs.Orders.{order, limit, offset}
use Rattle.sql_binder.specs.Selects.{select, union_of}
use Rattle.binder_laws.proofs.Holding.{Holds, after, unless, whatever, answered, weaker, Every, every_append}
use Rattle.binder_kind_laws.specs.Scripts.{all_have, select_has_items, has_items, is_whole, are_whole, kinds_of, declared_schema, declared_kinds, declares_kinds}
use Rattle.binder_kind_laws.proofs.Settled.{Real}
use Rattle.binder_kind_laws.proofs.Each.{unless_so, Pairs}
use Rattle.binder_kind_laws.proofs.Selects.{Selects}
use Rattle.binder_kind_laws.proofs.Unions.{Selecting_, union_selects}
use Rattle.binder_kind_laws.proofs.Spelled.{IsSpelled}
use Rattle.binder_kind_laws.proofs.Froms.{GoodTable, selects_well}

-- ---- tables

-- a table has a column
abbrev HasColumn : Table → Type 0
HasColumn t = 0 < length t.names

or_false : (a b : Bool) → a || b ≡ false → a ≡ false
or_false false b h = refl
or_false true b h = absurd (false≢true (sym h))

names_some : (names : List (List ℕ)) → is_empty names ≡ false → 0 < length names
names_some [] h = absurd (false≢true (sym h))
names_some (n ∷ ns) h = omega arith

one_table : (before : List Table) (t : TableAst) (s : Schema) → Holds HasColumn (table before t s)
one_table before t s =
    unless_so HasColumn (has_wrong_columns t s || has_other_option t.options) why.Unsupported t.place _
    (λ h. unless_so HasColumn (declares t.name before || has_twice s.names) why.Ambiguous t.place _
    (λ i. names_some s.names (or_false (is_empty s.names) _ (or_false (has_wrong_columns t s) (has_other_option t.options) h))))

after_columns : (ts : List TableAst) (ss : List Schema) (done : List Table) → Every HasColumn done → Holds (Every HasColumn) (tables_after done ts ss)
after_columns [] ss done h = h
after_columns (t ∷ ts) [] done h = tt
after_columns (t ∷ ts) (s ∷ ss) done h =
    after HasColumn (Every HasColumn) (table done t (schema_of t s)) (λ x. tables_after (done ++ x ∷ []) ts ss) (one_table done t (schema_of t s))
    (λ x i. after_columns ts ss (done ++ x ∷ []) (every_append HasColumn done (x ∷ []) h (i, tt)))

pub tables_have : (statements : List TableAst) (schemas : List Schema) (ts : List Table) → tables statements schemas ≡ Ok ts → Every HasColumn ts
tables_have statements schemas ts e = answered (Every HasColumn) (tables statements schemas) ts (after_columns statements schemas [] tt) e

reals : (ks : List Kind) → are_kinds ks ≡ true → Every Real ks
reals [] h = tt
reals (k ∷ ks) h = let b = and_parts (is_kind k) (are_kinds ks) h in (b.0, reals ks b.1)

good_tables : (ts : List Table) → are_whole ts ≡ true → Every HasColumn ts → Every GoodTable ts
good_tables [] w h = tt
good_tables (t ∷ ts) w h =
    let b = and_parts (is_whole t) (are_whole ts) w in
    let c = and_parts (length t.names == length t.kinds) (are_kinds t.kinds) b.0 in
    let e : length t.names ≡ length t.kinds = eqb-true (length t.names) (length t.kinds) c.0 in
    let l = h.0 in
    (record { even = e; real = reals t.kinds c.1; some = omega arith }, good_tables ts b.1 h.1)

-- ---- queries

-- a well-kinded body, with a name for each of its columns
pub record KindedQuery (kss : List (List Kind)) (q : Query) : Type 0 where
  pub body : is_well_kinded kss q.body ≡ true
  pub names : length q.names ≡ length (kinds q.body)

query_kinded : (kss : List (List Kind)) (script : Script) (s : Selected) → Selects kss s → Holds (KindedQuery kss) (query_of script s)
query_kinded kss script s h =
    whatever (KindedQuery kss) (order s.names (single s.columns script.parts) script.order) _
    (λ keys. whatever (KindedQuery kss) (limit script.limit) _ (λ l. whatever (KindedQuery kss) (offset script.offset) _
    (λ o. record { body = h.body.0; names = h.names ∙ sym (ap (λ (x : List Kind). length x) h.body.1) })))

module _ (ts : List Table) (good : Every GoodTable ts) where
  every_well : (parts : List SelectAst) → all_have (map select_has_items parts) ≡ true → Every (Selecting_ (kinds_of ts)) (map (select ts) parts)
  every_well [] h = tt
  every_well (p ∷ ps) h = let b = and_parts (select_has_items p) (all_have (map select_has_items ps)) h in (selects_well ts good p b.0, every_well ps b.1)

  over_tables : (script : Script) → has_items script ≡ true → Holds (KindedQuery (kinds_of ts)) (union_of (map (select ts) script.parts) >>= query_of script)
  over_tables script h =
      after (Selects (kinds_of ts)) (KindedQuery (kinds_of ts)) (union_of (map (select ts) script.parts)) (query_of script)
      (union_selects (kinds_of ts) (map (select ts) script.parts) (every_well script.parts h)) (query_kinded (kinds_of ts) script)

pub bound_kinded : (script : Script) (schemas : List Schema) (ts : List Table) (q : Query) → tables script.tables schemas ≡ Ok ts → are_whole ts ≡ true → has_items script ≡ true → bound script schemas ≡ Ok q → KindedQuery (kinds_of ts) q
bound_kinded script schemas ts q t w h e =
    let good = good_tables ts w (tables_have script.tables schemas ts t) in
    answered (KindedQuery (kinds_of ts)) (union_of (map (select ts) script.parts) >>= query_of script) q (over_tables ts good script h)
    (sym (ap (λ (a : Answer (List Table)). a >>= λ xs. union_of (map (select xs) script.parts) >>= query_of script) t) ∙ e)

-- ---- tables whose columns their statements declare

abbrev Declares : TableAst → Table → Type 0
Declares t x = (x.names ≡ map (λ (y : List ℕ × Kind). y.0) t.columns) × (x.kinds ≡ declared_kinds t)

abbrev Behind : List TableAst → List Table → List Table → Type 0
Behind ts done xs = (zs : List Table) × ((xs ≡ done ++ zs) × Pairs Declares ts zs)

one_declared : (before : List Table) (t : TableAst) → Holds (Declares t) (table before t (schema_of t (declared_schema t)))
one_declared before t = go t.arrow
  where
    whole : Holds (Declares t) (table before t (declared_schema t))
    whole =
        unless (Declares t) (has_wrong_columns t (declared_schema t) || has_other_option t.options) why.Unsupported t.place _
        (unless (Declares t) (declares t.name before || has_twice (declared_schema t).names) why.Ambiguous t.place _ (refl, refl))

    go : (b : Bool) → Holds (Declares t) (table before t (cond {A = Schema} b (declared_schema t) (declared_schema t)))
    go true = whole
    go false = whole

declared_after : (ts : List TableAst) (done : List Table) → Holds (Behind ts done) (tables_after done ts (map declared_schema ts))
declared_after [] done = ([], (sym (append-nil done), tt))
declared_after (t ∷ ts) done =
    after (Declares t) (Behind (t ∷ ts) done) (table done t (schema_of t (declared_schema t))) (λ x. tables_after (done ++ x ∷ []) ts (map declared_schema ts)) (one_declared done t)
    (λ x d. weaker (Behind ts (done ++ x ∷ [])) (Behind (t ∷ ts) done) (tables_after (done ++ x ∷ []) ts (map declared_schema ts))
    (λ xs b. (x ∷ b.0, (b.1.0 ∙ append_assoc done (x ∷ []) b.0, (d, b.1.1)))) (declared_after ts (done ++ x ∷ [])))

whole_tables : (ts : List TableAst) (xs : List Table) → Pairs Declares ts xs → list_all declares_kinds ts ≡ true → (are_whole xs ≡ true) × (kinds_of xs ≡ map declared_kinds ts)
whole_tables [] [] h k = (refl, refl)
whole_tables (t ∷ ts) (x ∷ xs) h k =
    let b = and_parts (declares_kinds t) (list_all declares_kinds ts) k in
    let more = whole_tables ts xs h.1 b.1 in
    let n : length x.names ≡ length x.kinds = ap (λ (l : List (List ℕ)). length l) h.0.0 ∙ length-map t.columns _ ∙ sym (ap (λ (l : List Kind). length l) h.0.1 ∙ length-map t.columns _) in (
      and_from (is_whole x) _ (and_from (length x.names == length x.kinds) (are_kinds x.kinds) (eq-eqb (length x.names) (length x.kinds) n) (ap are_kinds h.0.1 ∙ b.0)) more.0,
      ap (λ l. l ∷ kinds_of xs) h.0.1 ∙ ap (λ ls. declared_kinds t ∷ ls) more.1,
    )
whole_tables [] (x ∷ xs) h k = absurd h
whole_tables (t ∷ ts) [] h k = absurd h

-- so the query of a script that a text spells is well-kinded over the tables that it declares
pub declared_kinded : (script : Script) (q : Query) → IsSpelled script → bound script (map declared_schema script.tables) ≡ Ok q → KindedQuery (map declared_kinds script.tables) q
declared_kinded script q s e = go (tables script.tables (map declared_schema script.tables)) refl
  where
    go : (a : Answer (List Table)) → tables script.tables (map declared_schema script.tables) ≡ a → KindedQuery (map declared_kinds script.tables) q
    go (Ok ts) t =
        let b = answered (Behind script.tables []) (tables script.tables (map declared_schema script.tables)) ts (declared_after script.tables []) t in
        let w = whole_tables script.tables ts (subst (Pairs Declares script.tables) (sym b.1.0) b.1.1) s.kinds in
        subst (λ (kss : List (List Kind)). KindedQuery kss q) w.1 (bound_kinded script (map declared_schema script.tables) ts q t w.0 s.items e)
    go (Err r) t = let r = sym (ap (λ (a : Answer (List Table)). a >>= λ xs. union_of (map (select xs) script.parts) >>= query_of script) t) ∙ e in cc
