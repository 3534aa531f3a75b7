-- The columns that the items of a select give: each has its kind, and there is one for each item at least.
use Rattle.std.specs.Prelude.{nat_lt, not, slice_get}
use Rattle.std.proofs.Common.{ℕ, suc, ◌≡◌, ◌+◌, ◌<◌, ◌≤◌, refl, sym, ap, ◌∙◌, subst, cond, Bool, true, false, ◌||◌, Option, Some, None, Ok, List, [], ◌∷◌, ◌++◌, length, length-append, arith}
use Rattle.std.proofs.lemmas.Bool.{ltb-true, and_parts, and_from, false≢true}
use Rattle.dfx_value.specs.declared.kind.Kind.{Kind}
use Rattle.scalar_exprs.specs.declared.expr.Expr.TheVariants as expr
use Rattle.logical_plan.specs.Body.{kind_or_text, item_kinds}
use Rattle.kind_laws.specs.Kinded.{has_kind}
use Rattle.sql_grammar.specs.declared.ast.ExprAst.{ExprAst}
use Rattle.sql_grammar.specs.declared.ast.ItemAst.{ItemAst}
use Rattle.sql_grammar.specs.declared.ast.ItemAst.TheVariants as item
use Rattle.typed_exprs.specs.declared.refusal.Why.TheVariants as why
use Rattle.typed_exprs.specs.declared.scope.Column.{Column}
use Rattle.expr_binder.specs.Groups.{Groups, Over}
use Rattle.expr_binder.specs.Meaning.{meaning}
use Rattle.typed_exprs.specs.Scopes.{Columns, is_unknown, is_under, any_is, numbers_from, with_if}
use Rattle.typed_exprs.specs.Typed.{settled}
use Rattle.logical_build.specs.declared.outputs.Output.{Output}
use Rattle.logical_build.specs.Outputs as outs
use Rattle.sql_binder.specs.Each.{each}
use Rattle.sql_binder.specs.Items.{kind_at, name_at, key_from, of_key, star, given, is_given, stars, item_name, output, expr_output, outputs_of, are_too_many, width_of, place_of_item, outputs_behind, outputs_after, outputs, is_column}
use Rattle.sql_binder.specs.Sources.{kinds}
use Rattle.planned_laws.specs.Ranges.{are_below}
use Rattle.binder_laws.proofs.Holding.{Holds, after, unless, weaker, Every, every_append, AreSo, each_holds}
use Rattle.binder_laws.proofs.Meanings.{numbers_below}
use Rattle.binder_kind_laws.proofs.Settled.{Real, HasKind, Typing, settled_kind, column_has}
use Rattle.binder_kind_laws.proofs.Meanings.{RealColumns, column_there}
use Rattle.binder_kind_laws.proofs.Groupings.{Keyed, group_kinds, key_column}
use Rattle.binder_kind_laws.proofs.Joins.{Gives, is_kinded}
use Rattle.binder_kind_laws.proofs.Each.{unless_so}

-- over columns of these kinds the expression is of the kind that is told
abbrev pub HasOutput : List Kind → Output → Type 0
HasOutput ks o = HasKind ks o.expr o.kind

pub outputs_give : (ks : List Kind) (os : List Output) → Every (HasOutput ks) os → Gives ks (outs.exprs os) (outs.kinds os)
outputs_give ks [] h = (refl, refl)
outputs_give ks (o ∷ os) h =
    let more = outputs_give ks os h.1 in
    (ap (λ x. kind_or_text x ∷ item_kinds ks (outs.exprs os)) h.0.kind ∙ ap (λ l. o.kind ∷ l) more.0, and_from (has_kind ks o.expr) _ (is_kinded ks o.expr o.kind (h.0.kind, h.0.fits)) more.1)

pub outputs_real : (ks : List Kind) (os : List Output) → Every (HasOutput ks) os → Every Real (outs.kinds os)
outputs_real ks [] h = tt
outputs_real ks (o ∷ os) h = (h.0.real, outputs_real ks os h.1)

-- ---- `*`

kind_at_is : (columns : Columns) (k : ℕ) (c : Column) → slice_get columns k ≡ Some c → kind_at columns k ≡ c.kind
kind_at_is columns k c e = rw e refl

-- `*` over the columns or the groups gives columns of these kinds
pub record Wide (columns : Columns) (over : Over) (ks : List Kind) : Type 0 where
  pub star_has : (place k : ℕ) → k < length columns → Holds (HasOutput ks) (star columns over place k)

pub plain_wide : (columns : Columns) → RealColumns columns → Wide columns None (kinds columns)
plain_wide columns real = record { star_has = λ place k h. star_of k h }
  where
    star_of : (k : ℕ) → k < length columns → HasKind (kinds columns) (expr.Column k) (kind_at columns k)
    star_of k h =
        let m = column_there columns k real h in
        let q = kind_at_is columns k m.at m.is in
        column_has (kinds columns) k (kind_at columns k) (m.kind ∙ ap (λ x. Some x) (sym q)) (subst Real (sym q) m.real)

key_place : (columns : Columns) (k at c : ℕ) (es : List ExprAst) → key_from columns k at es ≡ Some c → c < at + length es
key_place columns k at c [] q = cc
key_place columns k at c (e ∷ es) q = go (is_column columns k e) (λ p. key_place columns k (suc at) c es p) q
  where
    go : (b : Bool) → (key_from columns k (suc at) es ≡ Some c → c < suc at + length es) → cond {A = Option ℕ} b (Some at) (key_from columns k (suc at) es) ≡ Some c → c < at + length (e ∷ es)
    go true f p = let r : at ≡ c = cc in omega arith
    go false f p = let r = f p in omega arith

pub group_wide : (columns : Columns) (real : RealColumns columns) (g : Groups) → Keyed columns g → Wide columns (Some g) (group_kinds columns g)
group_wide columns real g keyed = record { star_has = λ place k h. go place k (key_from columns k 0 g.keys) refl }
  where
    go : (place k : ℕ) (o : Option ℕ) → key_from columns k 0 g.keys ≡ o → Holds (HasOutput (group_kinds columns g)) (of_key g place (name_at columns k) o)
    go place k None q = tt
    go place k (Some c) q = let b = key_place columns k 0 c g.keys q in key_column columns real g keyed c (omega arith)

-- ---- how many columns `*` gives

numbers_some : (is : Column → Bool) (cs : Columns) (k : ℕ) → any_is is cs ≡ true → 0 < length (numbers_from is k cs)
numbers_some is [] k h = absurd (false≢true h)
numbers_some is (c ∷ cs) k h = go (is c) h (numbers_some is cs (suc k))
  where
    go : (b : Bool) → b || any_is is cs ≡ true → (any_is is cs ≡ true → 0 < length (numbers_from is (suc k) cs)) → 0 < length (with_if b k (numbers_from is (suc k) cs))
    go true h f = omega arith
    go false h f = f h

negated : (b : Bool) → not b ≡ false → b ≡ true
negated true h = refl
negated false h = absurd (false≢true (sym h))

given_some : (alias : Option (List ℕ)) (columns : Columns) → 0 < length columns → is_unknown alias columns ≡ false → 0 < length (given alias columns)
given_some None [] l h = absurd (omega arith)
given_some None (c ∷ cs) l h = omega arith
given_some (Some alias) columns l h = numbers_some (is_under (Some alias)) columns 0 (negated (any_is (is_under (Some alias)) columns) h)

-- ---- items

module _ (columns : Columns) (over : Over) (ks : List Kind) (Calls : ExprAst → Type 0) where
  -- an item's expression is of its kind, and something holds of its calls
  abbrev pub ItemHas : ItemAst → Type 0
  ItemHas (item.One e name) = Holds (λ t. Typing ks t × Calls e) (meaning columns e over)
  ItemHas _ = Unit {0}

  abbrev pub ItemCalls : ItemAst → Type 0
  ItemCalls (item.One e name) = Calls e
  ItemCalls _ = Unit {0}

  -- these are the columns of an item
  abbrev Given : ItemAst → List Output → Type 0
  Given i os = Every (HasOutput ks) os × (ItemCalls i × (0 < length os))

  -- these, behind those that are done, are the columns of some items
  pub record Outputs (n : ℕ) (items : List ItemAst) (os : List Output) : Type 0 where
    pub each : Every (HasOutput ks) os
    pub calls : Every ItemCalls items
    pub many : n + length items ≤ length os

  module _ (wide : Wide columns over ks) (some : 0 < length columns) where
    each_star : (place : ℕ) (cs : List ℕ) → are_below (length columns) cs ≡ true → Every (λ k. Holds (HasOutput ks) (star columns over place k)) cs
    each_star place [] h = tt
    each_star place (k ∷ cs) h = let a = and_parts (nat_lt k (length columns)) (are_below (length columns) cs) h in (wide.star_has place k (ltb-true k (length columns) a.0), each_star place cs a.1)

    abbrev Some_ : List Output → Type 0
    Some_ os = Every (HasOutput ks) os × (0 < length os)

    stars_have : (place : ℕ) (alias : Option (List ℕ)) → Holds Some_ (stars columns over place alias)
    stars_have place alias =
        unless_so Some_ (is_unknown alias columns) why.UnknownTable place (each (star columns over place) (given alias columns))
        (λ known. weaker (AreSo (HasOutput ks) (length (given alias columns))) Some_ (each (star columns over place) (given alias columns))
        (λ os a. let l = given_some alias columns some known in let e = a.0 in (a.1, omega arith))
        (each_holds (HasOutput ks) (star columns over place) (given alias columns) (each_star place (given alias columns) (numbers_below (is_given alias) columns 0 (length columns) (omega arith)))))

    outputs_of_have : (at : ℕ) (i : ItemAst) → ItemHas i → Holds (Given i) (outputs_of columns over at i)
    outputs_of_have at (item.All place) h = weaker Some_ (Given (item.All place)) (stars columns over place None) (λ os a. (a.0, (tt, a.1))) (stars_have place None)
    outputs_of_have at (item.AllOf alias place) h = weaker Some_ (Given (item.AllOf alias place)) (stars columns over place (Some alias)) (λ os a. (a.0, (tt, a.1))) (stars_have place (Some alias))
    outputs_of_have at (item.One e name) h =
        after (λ o. HasOutput ks o × Calls e) (Given (item.One e name)) (expr_output columns over at e name) (λ o. Ok (o ∷ []))
        (after (λ t. Typing ks t × Calls e) (λ o. HasOutput ks o × Calls e) (meaning columns e over) (λ t. Ok (output (item_name at e name) (settled t))) h (λ t i. (settled_kind ks t i.0, i.1)))
        (λ o r. ((r.0, tt), (r.1, omega arith)))

    behind_have : (n : ℕ) (i : ItemAst) → ItemHas i → Holds (Given i) (outputs_behind columns over n i)
    behind_have n i h = unless (Given i) (are_too_many (n + width_of columns i)) why.Unsupported (place_of_item i) (outputs_of columns over (suc n) i) (outputs_of_have (suc n) i h)

    after_have : (items : List ItemAst) → Every ItemHas items → (done : List Output) → Every (HasOutput ks) done → Holds (Outputs (length done) items) (outputs_after columns over done items)
    after_have [] h done d = record { each = d; calls = tt; many = omega arith }
    after_have (i ∷ is) h done d =
        after (Given i) (Outputs (length done) (i ∷ is)) (outputs_behind columns over (length done) i) (λ os. outputs_after columns over (done ++ os) is) (behind_have (length done) i h.0)
        (λ os g. weaker (Outputs (length (done ++ os)) is) (Outputs (length done) (i ∷ is)) (outputs_after columns over (done ++ os) is)
        (λ all o. let l = length-append done os in let m = o.many in let s = g.1.1 in record { each = o.each; calls = (g.1.0, o.calls); many = omega arith })
        (after_have is h.1 (done ++ os) (every_append (HasOutput ks) done os d g.0)))

    pub outputs_have : (items : List ItemAst) → Every ItemHas items → Holds (Outputs 0 items) (outputs columns over items)
    outputs_have items h = after_have items h [] tt
