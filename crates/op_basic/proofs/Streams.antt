-- Operators that make something of each item by itself.
use Rattle.std.proofs.Common.{◌≡◌, refl, ℕ, ◌+◌, Bool, true, false, List, [], ◌∷◌, ◌++◌, take, drop, min, ap, sym, ◌∙◌, subst, arith, Ok, Err, Result, Option, Some, None, IfOk}
use Rattle.std.specs.Prelude.{if◌then◌else◌}
use Rattle.std.specs.List.{flat_map}
use Rattle.std.proofs.lemmas.Grind.{flat_map-append}
use Rattle.dfx_value.specs.Items.{Item, Cells, of_rows}
use Rattle.dfx_value.specs.KindedRows.{KindedRows}
use Rattle.tree_laws.specs.Operators.{Op, Told, with_rows, with_end, with_flush}
use Rattle.tree_laws.specs.OperatorKinds.{each_op, is_empty}
use Rattle.tree_laws.proofs.Fronts.{of_rows-append}
use Rattle.operator_poll.specs.declared.refused.OpRefused.{OpRefused}
use Rattle.operator_poll.specs.Polls.{IsCut, count, left, wants, untold}
use Rattle.operator_poll.specs.Waiting.{as_far}
use Rattle.operator_poll.proofs.Keeping.{keeps_empty, keeps_cut, keeps_gave, keeps_more, keeps_same, wants_is}
use Rattle.op_basic.specs.Streams.{IsEach}

pub each_began : (f : Item → List Item) → IsEach f [] false (each_op f) untold 0
each_began f = record { is = refl; keeps = record { within = omega arith; rest = refl }; end = refl }

module _ (f : Item → List Item) where
  wanted-0 : (op : Op) (t : Told) → op ≡ each_op f → op.wanted t ≡ 0
  wanted-0 op t e = ap (λ (o : Op). o.wanted t) e

  over-is : (op : Op) (t : Told) → op ≡ each_op f → op.is_complete t ≡ t.ended 0
  over-is op t e = ap (λ (o : Op). o.is_complete t) e

  pub each_wants : (queue : List Item) (over : Bool) (op : Op) (t : Told) (n : ℕ) → IsEach f queue over op t n
      → (if is_empty queue then (if over then None else Some 0) else None) ≡ wants op t n
  each_wants queue over op t n h =
      ap (λ (b : Bool). if b then (if over then None else Some 0) else None) (keeps_empty queue op t n h.keeps)
      ∙ ap (λ (b : Bool). if is_empty (left op t n) then (if b then None else Some 0) else None) (h.end ∙ sym (over-is op t h.is))
      ∙ ap (λ (i : ℕ). if is_empty (left op t n) then (if op.is_complete t then None else Some i) else None) (sym (wanted-0 op t h.is))

  pub each_complete : (queue : List Item) (over : Bool) (op : Op) (t : Told) (n : ℕ) → IsEach f queue over op t n → over ≡ op.is_complete t
  each_complete queue over op t n h = h.end ∙ sym (over-is op t h.is)

  pub each_amount : (queue : List Item) (over : Bool) (op : Op) (t : Told) (n : ℕ) (rows : List Cells) (most : ℕ) → IsEach f queue over op t n → 0 ≡ min (op.amount t rows) most
  each_amount queue over op t n rows most h = let e : op.amount t rows ≡ 0 = ap (λ (o : Op). o.amount t rows) h.is in omega arith

  pub each_took : (queue now : List Item) (over : Bool) (op : Op) (t : Told) (n input : ℕ) (rows : List Cells) → IsEach f queue over op t n → wants op t n ≡ Some input
      → now ≡ as_far (queue ++ flat_map f (of_rows rows)) → IsEach f now over op (with_rows t input rows) n
  each_took queue now over op t n input rows h w e =
      let i : 0 ≡ input = sym (wanted-0 op t h.is) ∙ (wants_is op t n input w).1 in
      let P : ℕ → Type 0 = λ k. IsEach f now over op (with_rows t k rows) n in
      subst P i (record {
        is = h.is;
        keeps = keeps_more queue now (flat_map f (of_rows rows)) op t (with_rows t 0 rows) n h.keeps
            (ap (λ (o : Op). o.items (with_rows t 0 rows)) h.is ∙ ap (flat_map f) (of_rows-append (t.taken 0) rows) ∙ flat_map-append f (of_rows (t.taken 0)) (of_rows rows)
            ∙ ap (λ (x : List Item). x ++ flat_map f (of_rows rows)) (sym (ap (λ (o : Op). o.items t) h.is))) e;
        end = h.end;
      })

  pub each_ended : (queue : List Item) (over : Bool) (op : Op) (t : Told) (n input : ℕ) → IsEach f queue over op t n → wants op t n ≡ Some input
      → IsEach f queue true op (with_end t input) n
  each_ended queue over op t n input h w =
      let i : 0 ≡ input = sym (wanted-0 op t h.is) ∙ (wants_is op t n input w).1 in
      let P : ℕ → Type 0 = λ k. IsEach f queue true op (with_end t k) n in
      subst P i (record {
        is = h.is;
        keeps = keeps_same queue op t (with_end t 0) n h.keeps (ap (λ (o : Op). o.items (with_end t 0)) h.is ∙ sym (ap (λ (o : Op). o.items t) h.is));
        end = refl;
      })

  pub each_flushed : (queue : List Item) (over : Bool) (op : Op) (t : Told) (n : ℕ) → IsEach f queue over op t n → IsEach f queue over op (with_flush t) n
  each_flushed queue over op t n h = record {
    is = h.is;
    keeps = keeps_same queue op t (with_flush t) n h.keeps (ap (λ (o : Op). o.items (with_flush t)) h.is ∙ sym (ap (λ (o : Op). o.items t) h.is));
    end = h.end;
  }

  pub each_cut : (queue : List Item) (over : Bool) (op : Op) (t : Told) (n most : ℕ) (result : Result (Option KindedRows) OpRefused) → IsEach f queue over op t n
      → IsCut (take most queue) result → IsCut (take most (left op t n)) result
  each_cut queue over op t n most result h c = keeps_cut queue op t n most result h.keeps c

  pub each_gave : (queue now : List Item) (over : Bool) (op : Op) (t : Told) (n most : ℕ) (result : Result (Option KindedRows) OpRefused) → IsEach f queue over op t n
      → IsCut (take most queue) result → IfOk result (λ given. now ≡ drop (count given) queue) → IfOk result (λ given. IsEach f now over op t (n + count given))
  each_gave queue now over op t n most (Err e) h c r = tt
  each_gave queue now over op t n most (Ok given) h c r = record { is = h.is; keeps = keeps_gave queue now op t n most given h.keeps c r; end = h.end }

singles : (items : List Item) → flat_map (λ (item : Item). item ∷ []) items ≡ items
singles [] = refl
singles (item ∷ items) = ap (λ (l : List Item). item ∷ l) (singles items)

-- the rows are put as they are
pub pass_took : (queue now : List Item) (over : Bool) (op : Op) (t : Told) (n input : ℕ) (rows : List Cells) → IsEach (λ item. item ∷ []) queue over op t n → wants op t n ≡ Some input
    → now ≡ as_far (queue ++ of_rows rows) → IsEach (λ item. item ∷ []) now over op (with_rows t input rows) n
pass_took queue now over op t n input rows h w e =
    each_took (λ item. item ∷ []) queue now over op t n input rows h w (e ∙ ap (λ (x : List Item). as_far (queue ++ x)) (sym (singles (of_rows rows))))

pub ruleset each_steps = (each_wants, each_complete, each_amount, each_took, each_ended, each_flushed, each_cut, each_gave)
