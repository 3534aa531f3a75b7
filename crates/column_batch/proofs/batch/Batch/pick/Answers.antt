use Rattle.std.proofs.Common.{rules, ◌≡◌, ◌+◌, ◌-◌, ◌<◌, ◌≤◌, ℕ, List, All, length, get_or, ap, sym, ◌∙◌, subst, arith}
use Rattle.dfx_value.specs.KindedRows.{KindedRows}
use Rattle.dfx_value.specs.declared.value.Value.{Value}
use Rattle.value_columns.specs.Columns.{KindedValues}
use Rattle.column_batch.specs.Parts.{Whole, all_chosen}
use Rattle.column_batch.specs.Batches.{rows_from, kinds_of, rows_at}
use Rattle.column_batch.proofs.BatchLemmas.{length-rows_from, whole-chosen, rows-chosen, kinds-chosen, reaches-below}
use Rattle.column_batch.proofs.batch.Batch.pick.Goals as goal

pub pick_all-requires-clause-places : goal.pick_all-requires-clause-places
pick_all-requires-clause-places c =
    let rows : length c.args.self.now.rows ≡ c.self.inside.rows = ap (λ (x : KindedRows). length x.rows) (sym c.self.view_is) ∙ length-rows_from c.self.inside.columns.items c.self.inside.from c.self.inside.rows in
    let P : List KindedValues → Type 0 = λ x. (k : ℕ) → (d : KindedValues) → k < length x → (k' : ℕ) → (d' : ℕ) → k' < length c.args.places.now → c.self.inside.from + get_or c.args.places.now k' d' < length (get_or x k d).values in
    subst P (sym c.deref.ensures.value) (λ k d l k' d' l'. reaches-below c.self.inside.columns.items c.self.inside.from c.self.inside.rows (get_or c.args.places.now k' d') k d c.self.invariant (omega (arith, c.requires.places k' d' l')) l)

pub invariant_of-result : goal.invariant_of-result
invariant_of-result c =
    let all : c.in_ok-pick_all.field-0.items ≡ all_chosen c.self.inside.columns.items c.self.inside.from c.args.places.now = c.in_ok-pick_all.ensures ∙ ap (λ (x : List KindedValues). all_chosen x c.self.inside.from c.args.places.now) c.deref.ensures.value in
    let P : List KindedValues → Type 0 = λ x. Whole x 0 (length c.args.places.now) in
    subst P (sym all) (whole-chosen c.self.inside.columns.items c.self.inside.from c.self.inside.rows c.args.places.now c.self.invariant c.requires.few)

pub returns-clause-kinds : goal.returns-clause-kinds
returns-clause-kinds c =
    let all : c.in_ok-pick_all.field-0.items ≡ all_chosen c.self.inside.columns.items c.self.inside.from c.args.places.now = c.in_ok-pick_all.ensures ∙ ap (λ (x : List KindedValues). all_chosen x c.self.inside.from c.args.places.now) c.deref.ensures.value in
    ap kinds_of all ∙ kinds-chosen c.self.inside.columns.items c.self.inside.from c.args.places.now ∙ ap (λ (x : KindedRows). x.kinds) c.self.view_is

pub returns-clause-rows : goal.returns-clause-rows
returns-clause-rows c =
    let rows : length c.args.self.now.rows ≡ c.self.inside.rows = ap (λ (x : KindedRows). length x.rows) (sym c.self.view_is) ∙ length-rows_from c.self.inside.columns.items c.self.inside.from c.self.inside.rows in
    let all : c.in_ok-pick_all.field-0.items ≡ all_chosen c.self.inside.columns.items c.self.inside.from c.args.places.now = c.in_ok-pick_all.ensures ∙ ap (λ (x : List KindedValues). all_chosen x c.self.inside.from c.args.places.now) c.deref.ensures.value in
    let within : All (λ p. p < c.self.inside.rows) c.args.places.now = λ k d l. omega (arith, c.requires.places k d l) in
    ap (λ (x : List KindedValues). rows_from x 0 (length c.args.places.now)) all
    ∙ rows-chosen c.self.inside.columns.items c.self.inside.from c.self.inside.rows c.args.places.now within
    ∙ ap (λ (x : KindedRows). rows_at x.rows c.args.places.now) c.self.view_is
