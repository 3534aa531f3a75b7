-- The query of a script has its columns in range.
use Rattle.std.proofs.Common.{ℕ, ◌≡◌, sym, ◌∙◌, subst, true, Some, Ok, Err, List, [], ◌∷◌, map, length}
use Rattle.logical_plan.specs.declared.query.Query.{Query}
use Rattle.sql_grammar.specs.declared.ast.Script.{Script}
use Rattle.sql_grammar.specs.declared.ast.SelectAst.{SelectAst}
use Rattle.sql_grammar.specs.declared.ast.FromAst.TheViews.{out-SelectAst}
use Rattle.typed_exprs.specs.Answer.{Answer, ◌>>=◌}
use Rattle.sql_tables.specs.declared.schema.Schema.{Schema}
use Rattle.sql_tables.specs.declared.table.Table.{Table}
use Rattle.sql_binder.specs.declared.selected.Selected.{Selected}
use Rattle.sql_binder.specs.Orders.{Single, item_tests, order, limit, offset}
use Rattle.sql_binder.specs.Selects.{Selecting, select, union_of}
use Rattle.sql_tables.specs.Tables.{tables}
use Rattle.sql_binder.specs.Bound.{single, query_of, bound}
use Rattle.planned_laws.specs.Ranges.{are_below, key_columns}
use Rattle.planned_laws.specs.Queries.{body_width, QueryInRange}
use Rattle.binder_laws.proofs.Holding.{Holds, after, whatever, answered, weaker, Every}
use Rattle.binder_laws.proofs.Items.{Fits, FitsItems}
use Rattle.binder_laws.proofs.Unions.{Selects, union_fits}
use Rattle.binder_laws.proofs.Froms.{selects_well}
use Rattle.binder_laws.proofs.Ordering.{order_below}

pub record Bounds (q : Query) : Type 0 where
  pub ranges : QueryInRange q
  pub names : length q.names ≡ body_width q.body

-- where a key may equal an item, there is a test for each column
abbrev Many : List SelectAst → Selected → Type 0
Many parts s = (x : Single) → single s.columns parts ≡ Some x → length (item_tests x.0 x.1) ≡ length s.names

abbrev FitsParts : List SelectAst → Selected → Type 0
FitsParts parts s = Fits s × Many parts s

query_bounds : (script : Script) (s : Selected) → FitsParts script.parts s → Holds Bounds (query_of script s)
query_bounds script s f =
    after (λ ks. are_below (length s.names) (key_columns ks) ≡ true) Bounds (order s.names (single s.columns script.parts) script.order) _ (order_below s.names (single s.columns script.parts) f.1 script.order)
    (λ keys h. whatever Bounds (limit script.limit) _ (λ l. whatever Bounds (offset script.offset) _ (λ o. record {
      ranges = record { body = f.0.body; order = subst (λ (w : ℕ). are_below w (key_columns keys) ≡ true) (f.0.names_of ∙ sym f.0.kinds_of) h };
      names = f.0.names_of ∙ sym f.0.kinds_of;
    })))

module _ (ts : List Table) where
  every_well : (parts : List SelectAst) → Every Selects (map (select ts) parts)
  every_well [] = tt
  every_well (p ∷ ps) = (weaker (FitsItems (out-SelectAst p).items) Fits (select ts p).select (λ x f. f.0) (selects_well ts p), every_well ps)

  parts_fit : (parts : List SelectAst) → Holds (FitsParts parts) (union_of (map (select ts) parts))
  parts_fit [] = tt
  parts_fit (p ∷ []) = one (select ts p) (selects_well ts p)
    where
      one : (s : Selecting) → Holds (FitsItems (out-SelectAst p).items) s.select → Holds (FitsParts (p ∷ [])) (union_of (s ∷ []))
      one s h = go s.select h
        where
          go : (a : Answer Selected) → Holds (FitsItems (out-SelectAst p).items) a → Holds (FitsParts (p ∷ [])) (union_of (record { place = s.place; select = a } ∷ []))
          go (Ok x) f = (f.0, λ y e. let q : (x.columns, (out-SelectAst p).items) ≡ y = cc in subst (λ (z : Single). length (item_tests z.0 z.1) ≡ length x.names) q (f.1 ∙ sym f.0.names_of))
          go (Err r) f = tt
  parts_fit (p ∷ q ∷ ps) = weaker Fits (FitsParts (p ∷ q ∷ ps)) (union_of (map (select ts) (p ∷ q ∷ ps))) (λ s f. (f, λ y e. cc)) (union_fits (map (select ts) (p ∷ q ∷ ps)) (every_well (p ∷ q ∷ ps)))

pub bound_in_range : (script : Script) (schemas : List Schema) (q : Query) → bound script schemas ≡ Ok q → Bounds q
bound_in_range script schemas q e = answered Bounds (bound script schemas) q all_bounds e
  where
    all_bounds : Holds Bounds (bound script schemas)
    all_bounds = whatever Bounds (tables script.tables schemas) (λ ts. union_of (map (select ts) script.parts) >>= query_of script)
        (λ ts. after (FitsParts script.parts) Bounds (union_of (map (select ts) script.parts)) (query_of script) (parts_fit ts script.parts) (query_bounds script))
