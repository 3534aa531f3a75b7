-- The columns that the items of a select give: as many as there are, each over columns below a number.
use Rattle.std.specs.Prelude.{nat_lt}
use Rattle.std.proofs.Common.{ℕ, suc, ◌≡◌, ◌+◌, ◌<◌, refl, sym, ◌∙◌, subst, cond, Bool, true, false, Option, Some, None, Ok, List, [], ◌∷◌, ◌++◌, length, length-append, arith}
use Rattle.std.proofs.lemmas.List.{length-map}
use Rattle.std.proofs.lemmas.Bool.{lt-ltb}
use Rattle.dfx_value.specs.declared.kind.Kind.TheVariants as kind
use Rattle.sql_grammar.specs.declared.ast.ExprAst.{ExprAst}
use Rattle.sql_grammar.specs.declared.ast.ItemAst.{ItemAst}
use Rattle.sql_grammar.specs.declared.ast.ItemAst.TheVariants as item
use Rattle.typed_exprs.specs.declared.refusal.Why.TheVariants as why
use Rattle.typed_exprs.specs.Scopes.{Columns, is_unknown}
use Rattle.typed_exprs.specs.Typed.{settled}
use Rattle.expr_binder.specs.Groups.{Groups, Over}
use Rattle.expr_binder.specs.Meaning.{meaning}
use Rattle.join_lowering.specs.Keys.{columns as columns_of}
use Rattle.logical_build.specs.declared.outputs.Output.{Output}
use Rattle.logical_build.specs.Outputs.{exprs}
use Rattle.sql_binder.specs.Each.{each}
use Rattle.sql_binder.specs.Items.{star, of_key, key_from, name_at, stars, given, is_given, is_column, expr_output, item_name, output, outputs_of, are_too_many, width_of, place_of_item, outputs_behind, outputs_after, outputs}
use Rattle.sql_binder.specs.Orders.{tests_of, column_tests, item_tests}
use Rattle.physical_plan.proofs.Everywhere.{both_true, and_parts}
use Rattle.planned_laws.specs.Ranges.{are_below, expr_columns}
use Rattle.planned_laws.proofs.Below.{below_append}
use Rattle.binder_laws.proofs.Holding.{Holds, after, unless, weaker, Every, every_append, every_of, AreSo, each_holds}
use Rattle.binder_laws.proofs.Readings.{Reads, Typing, given_reads, column_reads}
use Rattle.binder_laws.proofs.Meanings.{numbers_below, means}
use Rattle.binder_laws.proofs.Found.{ItemFound}
use Rattle.binder_laws.proofs.Groupings.{means_over}

abbrev pub OutputReads : ℕ → Output → Type 0
OutputReads w o = Reads w o.expr

abbrev pub Outputs : ℕ → ℕ → List Output → Type 0
Outputs w n os = AreSo (OutputReads w) n os

key_place : (columns : Columns) (k at c : ℕ) (es : List ExprAst) → key_from columns k at es ≡ Some c → c < at + length es
key_place columns k at c [] q = cc
key_place columns k at c (e ∷ es) q = go (is_column columns k e) (λ p. key_place columns k (suc at) c es p) q
  where
    go : (b : Bool) → (key_from columns k (suc at) es ≡ Some c → c < suc at + length es) → cond {A = Option ℕ} b (Some at) (key_from columns k (suc at) es) ≡ Some c → c < at + length (e ∷ es)
    go true f p = let r : at ≡ c = cc in omega arith
    go false f p = let r = f p in omega arith

-- `*` over the columns or the groups gives columns below a number
pub record Wide (columns : Columns) (over : Over) (w : ℕ) : Type 0 where
  pub star_reads : (place k : ℕ) → are_below (length columns) (k ∷ []) ≡ true → Holds (OutputReads w) (star columns over place k)

pub plain_wide : (columns : Columns) → Wide columns None (length columns)
plain_wide columns = record { star_reads = λ place k h. column_reads (length columns) k h }

pub group_wide : (columns : Columns) (g : Groups) → Wide columns (Some g) (length g.keys + length g.calls)
group_wide columns g = record { star_reads = λ place k h. go place k (key_from columns k 0 g.keys) refl }
  where
    go : (place k : ℕ) (o : Option ℕ) → key_from columns k 0 g.keys ≡ o → Holds (OutputReads (length g.keys + length g.calls)) (of_key g place (name_at columns k) o)
    go place k None q = tt
    go place k (Some c) q = let b = key_place columns k 0 c g.keys q in column_reads (length g.keys + length g.calls) c (both_true _ _ (lt-ltb c (length g.keys + length g.calls) (omega arith)) refl)

module _ (columns : Columns) (over : Over) (w : ℕ) where
  -- an item's expression reads columns below the number
  abbrev pub ItemReads : ItemAst → Type 0
  ItemReads (item.One e name) = Holds (Typing w) (meaning columns e over)
  ItemReads _ = Unit {0}

  module _ (wide : Wide columns over w) where
    each_star : (place : ℕ) (ks : List ℕ) → are_below (length columns) ks ≡ true → Every (λ k. Holds (OutputReads w) (star columns over place k)) ks
    each_star place [] h = tt
    each_star place (k ∷ ks) h = let a = and_parts (nat_lt k (length columns)) (are_below (length columns) ks) h in (wide.star_reads place k (both_true _ _ a.0 refl), each_star place ks a.1)

    stars_read : (place : ℕ) (alias : Option (List ℕ)) → Holds (Outputs w (length (column_tests columns alias))) (stars columns over place alias)
    stars_read place alias =
        unless (Outputs w (length (column_tests columns alias))) (is_unknown alias columns) why.UnknownTable place (each (star columns over place) (given alias columns))
        (weaker (Outputs w (length (given alias columns))) (Outputs w (length (column_tests columns alias))) (each (star columns over place) (given alias columns))
        (λ os h. (h.0 ∙ sym (length-map (given alias columns) (is_column columns)), h.1))
        (each_holds (OutputReads w) (star columns over place) (given alias columns) (each_star place (given alias columns) (numbers_below (is_given alias) columns 0 (length columns) (omega arith)))))

    outputs_of_read : (at : ℕ) (i : ItemAst) → ItemReads i → Holds (Outputs w (length (tests_of columns i))) (outputs_of columns over at i)
    outputs_of_read at (item.All place) h = stars_read place None
    outputs_of_read at (item.AllOf alias place) h = stars_read place (Some alias)
    outputs_of_read at (item.One e name) h =
        after (OutputReads w) (Outputs w 1) (expr_output columns over at e name) (λ o. Ok (o ∷ []))
        (after (Typing w) (OutputReads w) (meaning columns e over) (λ t. Ok (output (item_name at e name) (settled t))) h (λ t i. given_reads w kind.Text t i))
        (λ o r. (refl, (r, tt)))

    after_read : (items : List ItemAst) → Every ItemReads items → (done : List Output) → Every (OutputReads w) done → Holds (Outputs w (length done + length (item_tests columns items))) (outputs_after columns over done items)
    after_read [] h done d = ((omega arith), d)
    after_read (i ∷ is) h done d =
        after (Outputs w (length (tests_of columns i))) (Outputs w (length done + length (item_tests columns (i ∷ is)))) (outputs_behind columns over (length done) i) (λ os. outputs_after columns over (done ++ os) is)
        (unless (Outputs w (length (tests_of columns i))) (are_too_many (length done + width_of columns i)) why.Unsupported (place_of_item i) (outputs_of columns over (suc (length done)) i) (outputs_of_read (suc (length done)) i h.0))
        (λ os r.
        let a = length-append done os in
        let b = length-append (tests_of columns i) (item_tests columns is) in
        let c = r.0 in
        let n : length (done ++ os) + length (item_tests columns is) ≡ length done + length (item_tests columns (i ∷ is)) = omega arith in
        subst (λ (n : ℕ). Holds (Outputs w n) (outputs_after columns over (done ++ os) is)) n (after_read is h.1 (done ++ os) (every_append (OutputReads w) done os d r.1)))

    pub outputs_read : (items : List ItemAst) → Every ItemReads items → Holds (Outputs w (length (item_tests columns items))) (outputs columns over items)
    outputs_read items h = subst (λ (n : ℕ). Holds (Outputs w n) (outputs columns over items)) (omega arith) (after_read items h [] tt)

pub outputs_below : (w : ℕ) (os : List Output) → Every (OutputReads w) os → are_below w (expr_columns (exprs os)) ≡ true
outputs_below w [] h = refl
outputs_below w (o ∷ os) h = below_append w (columns_of o.expr) (expr_columns (exprs os)) h.0 (outputs_below w os h.1)

-- ---- the items of a select without groups, and with them

plain_item : (columns : Columns) (i : ItemAst) → ItemReads columns None (length columns) i
plain_item columns (item.One e name) = means columns e
plain_item columns (item.All place) = tt
plain_item columns (item.AllOf alias place) = tt

pub plain_items : (columns : Columns) (items : List ItemAst) → Every (ItemReads columns None (length columns)) items
plain_items columns items = every_of (ItemReads columns None (length columns)) (plain_item columns) items

group_item : (columns : Columns) (g : Groups) (i : ItemAst) → ItemFound columns g.calls i → ItemReads columns (Some g) (length g.keys + length g.calls) i
group_item columns g (item.One e name) h = means_over columns g e h
group_item columns g (item.All place) h = tt
group_item columns g (item.AllOf alias place) h = tt

pub group_items : (columns : Columns) (g : Groups) (items : List ItemAst) → Every (ItemFound columns g.calls) items → Every (ItemReads columns (Some g) (length g.keys + length g.calls)) items
group_items columns g [] f = tt
group_items columns g (i ∷ is) f = (group_item columns g i f.0, group_items columns g is f.1)
