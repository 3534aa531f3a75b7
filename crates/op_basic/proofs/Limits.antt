-- Limits: what is still left out and given, once more rows were taken.
use Rattle.std.proofs.Common.{◌≡◌, refl, ℕ, zero, suc, ◌+◌, ◌-◌, ◌==◌, ◌||◌, nat_le, Bool, true, false, List, [], ◌∷◌, ◌++◌, length, take, drop, min, ap, sym, ◌∙◌, subst, arith, Ok, Err, Result, Option, Some, None, IfOk}
use Rattle.std.specs.Prelude.{if◌then◌else◌, slice_range}
use Rattle.std.proofs.lemmas.Bool.Decides.{nat_tests}
use Rattle.std.proofs.Math.Nat.{sub-zero, zero-sub}
use Rattle.std.proofs.Math.ListN.{length-map}
use Rattle.std.proofs.lemmas.List.{length-drop, length-append, take_all, take_min, take-map, drop-map}
use Rattle.dfx_value.specs.Items.{Item, Cells, of_rows}
use Rattle.dfx_value.specs.KindedRows.{KindedRows}
use Rattle.tree_laws.specs.Operators.{Op, Told, with_rows, with_end, with_flush}
use Rattle.tree_laws.specs.OperatorKinds.{cut, has_cut, limit_op, is_empty}
use Rattle.tree_laws.proofs.Fronts.{of_rows-append}
use Rattle.operator_poll.specs.declared.refused.OpRefused.{OpRefused}
use Rattle.operator_poll.specs.Polls.{IsCut, count, left, wants, untold}
use Rattle.operator_poll.specs.Waiting.{as_far}
use Rattle.operator_poll.proofs.Keeping.{keeps_empty, keeps_cut, keeps_gave, keeps_more, keeps_same, wants_is}
use Rattle.op_basic.specs.Limits.{IsLimit, fewer, is_full}

-- ---- lists

drop-nil : {A : Type 0} (n : ℕ) → drop {A = A} n [] ≡ []
drop-nil zero = refl
drop-nil (suc n) = refl

take-nil : {A : Type 0} (n : ℕ) → take {A = A} n [] ≡ []
take-nil zero = refl
take-nil (suc n) = refl

drop-any : (n : ℕ) (xs ys : List Item) → drop n (xs ++ ys) ≡ drop n xs ++ drop (n - length xs) ys
drop-any zero xs ys = ap (λ (k : ℕ). xs ++ drop k ys) (sym (zero-sub (length xs)))
drop-any (suc n) [] ys = ap (λ (k : ℕ). drop k ys) (sym (sub-zero (suc n)))
drop-any (suc n) (x ∷ xs) ys = let k : n - length xs ≡ suc n - suc (length xs) = omega arith in drop-any n xs ys ∙ ap (λ (i : ℕ). drop n xs ++ drop i ys) k

take-any : (n : ℕ) (xs ys : List Item) → take n (xs ++ ys) ≡ take n xs ++ take (n - length xs) ys
take-any zero xs ys = ap (λ (k : ℕ). take k ys) (sym (zero-sub (length xs)))
take-any (suc n) [] ys = ap (λ (k : ℕ). take k ys) (sym (sub-zero (suc n)))
take-any (suc n) (x ∷ xs) ys =
    let k : n - length xs ≡ suc n - suc (length xs) = omega arith in
    ap (λ (l : List Item). x ∷ l) (take-any n xs ys ∙ ap (λ (i : ℕ). take n xs ++ take i ys) k)

cut-nil : (skip : ℕ) (fetch : Option ℕ) → cut skip fetch [] ≡ []
cut-nil skip None = drop-nil skip
cut-nil skip (Some most) = ap (take most) (drop-nil skip) ∙ take-nil most

cut-append : (skip : ℕ) (fetch : Option ℕ) (xs ys : List Item) → cut skip fetch (xs ++ ys) ≡ cut skip fetch xs ++ cut (skip - length xs) (fewer fetch (length xs - skip)) ys
cut-append skip None xs ys = drop-any skip xs ys
cut-append skip (Some most) xs ys =
    ap (take most) (drop-any skip xs ys) ∙ take-any most (drop skip xs) (drop (skip - length xs) ys)
    ∙ ap (λ (k : ℕ). take most (drop skip xs) ++ take (most - k) (drop (skip - length xs) ys)) (length-drop skip xs)

-- ---- counts

fewer-twice : (fetch : Option ℕ) (s t r : ℕ) → fewer (fewer fetch (t - s)) (r - (s - t)) ≡ fewer fetch ((t + r) - s)
fewer-twice None s t r = refl
fewer-twice (Some most) s t r = ap (λ (k : ℕ). Some k) (omega arith)

full-test : (most n skip : ℕ) → ((most - (n - skip)) == 0) ≡ ((most == 0) || nat_le (skip + most) n)
full-test most n skip = grind (arith, nat_tests)

full-is : (skip : ℕ) (fetch : Option ℕ) (rows : List Cells) → is_full (fewer fetch (length rows - skip)) ≡ has_cut skip fetch rows
full-is skip None rows = refl
full-is skip (Some most) rows = full-test most (length rows) skip

none-fewer : (fetch : Option ℕ) (skip : ℕ) → fetch ≡ fewer fetch (0 - skip)
none-fewer None skip = refl
none-fewer (Some most) skip = ap (λ (k : ℕ). Some k) (omega arith)

-- ---- a part of a batch

drop-min : (skip : ℕ) (rows : List Cells) → drop (min skip (length rows)) rows ≡ drop skip rows
drop-min zero rows = let z : min 0 (length rows) ≡ 0 = omega arith in ap (λ (k : ℕ). drop k rows) z
drop-min (suc s) [] = let z : min (suc s) 0 ≡ 0 = omega arith in ap (λ (k : ℕ). drop {A = Cells} k []) z
drop-min (suc s) (r ∷ rs) = let z : min (suc s) (suc (length rs)) ≡ suc (min s (length rs)) = omega arith in ap (λ (k : ℕ). drop k (r ∷ rs)) z ∙ drop-min s rs

behind : (rows : List Cells) (from n skip : ℕ) → n ≡ length rows → from ≡ min skip n → drop from rows ≡ drop skip rows
behind rows from n skip all f = ap (λ (k : ℕ). drop k rows) (f ∙ ap (min skip) all) ∙ drop-min skip rows

-- all rows behind those that are left out
pub part_open : (rows : List Cells) (from n skip : ℕ) (fetch : Option ℕ) → fetch ≡ None → n ≡ length rows → from ≡ min skip n → of_rows (slice_range rows from n) ≡ cut skip fetch (of_rows rows)
part_open rows from n skip fetch none all f =
    let P : Option ℕ → Type 0 = λ o. of_rows (slice_range rows from n) ≡ cut skip o (of_rows rows) in
    let whole : slice_range rows from n ≡ drop from rows = take_all (n - from) (drop from rows) (omega (arith, length-drop from rows)) in
    subst P (sym none) (ap of_rows (whole ∙ behind rows from n skip all f) ∙ sym (drop-map (λ (row : Cells). Ok row) skip rows))

-- at most so many of them
pub part_some : (rows : List Cells) (from to n skip most : ℕ) (fetch : Option ℕ) → fetch ≡ Some most → n ≡ length rows → from ≡ min skip n → to ≡ from + min most (n - from)
    → of_rows (slice_range rows from to) ≡ cut skip fetch (of_rows rows)
part_some rows from to n skip most fetch some all f e =
    let P : Option ℕ → Type 0 = λ o. of_rows (slice_range rows from to) ≡ cut skip o (of_rows rows) in
    let size : to - from ≡ min most (length (drop from rows)) = omega (arith, length-drop from rows) in
    subst P (sym some) (ap of_rows (ap (λ (k : ℕ). take k (drop from rows)) size ∙ take_min most (drop from rows) ∙ ap (take most) (behind rows from n skip all f))
    ∙ sym (ap (take most) (drop-map (λ (row : Cells). Ok row) skip rows) ∙ take-map (λ (row : Cells). Ok row) most (drop skip rows)))

-- ---- the operator

pub limit_began : (skip : ℕ) (fetch : Option ℕ) → IsLimit [] skip fetch false (limit_op skip fetch) untold 0
limit_began skip fetch = record {
  skip = skip;
  fetch = fetch;
  is = refl;
  keeps = record { within = omega arith; rest = ap as_far (sym (cut-nil skip fetch)) };
  out = sym (sub-zero skip);
  rest = none-fewer fetch skip;
  end = refl;
}

over-is : (queue : List Item) (skipped : ℕ) (more : Option ℕ) (over : Bool) (op : Op) (t : Told) (n : ℕ) → IsLimit queue skipped more over op t n → (over || is_full more) ≡ op.is_complete t
over-is queue skipped more over op t n h =
    ap (λ (b : Bool). b || is_full more) h.end
    ∙ ap (λ (o : Option ℕ). t.ended 0 || is_full o) h.rest
    ∙ ap (λ (b : Bool). t.ended 0 || b) (full-is h.skip h.fetch (t.taken 0))
    ∙ sym (ap (λ (o : Op). o.is_complete t) h.is)

pub limit_complete : (queue : List Item) (skipped : ℕ) (more : Option ℕ) (over result : Bool) (op : Op) (t : Told) (n : ℕ) → IsLimit queue skipped more over op t n
    → result ≡ (over || is_full more) → result ≡ op.is_complete t
limit_complete queue skipped more over result op t n h e = e ∙ over-is queue skipped more over op t n h

pub limit_wants : (queue : List Item) (skipped : ℕ) (more : Option ℕ) (over complete : Bool) (op : Op) (t : Told) (n : ℕ) → IsLimit queue skipped more over op t n
    → complete ≡ op.is_complete t → (if is_empty queue then (if complete then None else Some 0) else None) ≡ wants op t n
limit_wants queue skipped more over complete op t n h e =
    let w : op.wanted t ≡ 0 = ap (λ (o : Op). o.wanted t) h.is in
    ap (λ (b : Bool). if b then (if complete then None else Some 0) else None) (keeps_empty queue op t n h.keeps)
    ∙ ap (λ (b : Bool). if is_empty (left op t n) then (if b then None else Some 0) else None) e
    ∙ ap (λ (i : ℕ). if is_empty (left op t n) then (if op.is_complete t then None else Some i) else None) (sym w)

pub limit_amount : (queue : List Item) (skipped : ℕ) (more : Option ℕ) (over : Bool) (op : Op) (t : Told) (n : ℕ) (rows : List Cells) (most : ℕ) → IsLimit queue skipped more over op t n
    → 0 ≡ min (op.amount t rows) most
limit_amount queue skipped more over op t n rows most h = let e : op.amount t rows ≡ 0 = ap (λ (o : Op). o.amount t rows) h.is in omega arith

pub limit_took : (queue now : List Item) (skipped : ℕ) (more : Option ℕ) (over : Bool) (op : Op) (t : Told) (n input : ℕ) (rows part : List Cells) → IsLimit queue skipped more over op t n
    → wants op t n ≡ Some input → of_rows part ≡ cut skipped more (of_rows rows) → now ≡ as_far (queue ++ of_rows part)
    → IsLimit now (skipped - length rows) (fewer more (length rows - skipped)) over op (with_rows t input rows) n
limit_took queue now skipped more over op t n input rows part h w p e =
    let i : 0 ≡ input = sym (ap (λ (o : Op). o.wanted t) h.is) ∙ (wants_is op t n input w).1 in
    let P : ℕ → Type 0 = λ k. IsLimit now (skipped - length rows) (fewer more (length rows - skipped)) over op (with_rows t k rows) n in
    let len : length (of_rows (t.taken 0)) ≡ length (t.taken 0) = length-map (t.taken 0) (λ (row : Cells). Ok row) in
    let all : length (t.taken 0 ++ rows) ≡ length (t.taken 0) + length rows = length-append (t.taken 0) rows in
    let new : cut h.skip h.fetch (of_rows (t.taken 0 ++ rows)) ≡ cut h.skip h.fetch (of_rows (t.taken 0)) ++ of_rows part =
    ap (cut h.skip h.fetch) (of_rows-append (t.taken 0) rows) ∙ cut-append h.skip h.fetch (of_rows (t.taken 0)) (of_rows rows)
    ∙ ap (λ (k : ℕ). cut h.skip h.fetch (of_rows (t.taken 0)) ++ cut (h.skip - k) (fewer h.fetch (k - h.skip)) (of_rows rows)) len
    ∙ ap (λ (k : ℕ). cut h.skip h.fetch (of_rows (t.taken 0)) ++ cut k (fewer h.fetch (length (t.taken 0) - h.skip)) (of_rows rows)) (sym h.out)
    ∙ ap (λ (o : Option ℕ). cut h.skip h.fetch (of_rows (t.taken 0)) ++ cut skipped o (of_rows rows)) (sym h.rest)
    ∙ ap (λ (x : List Item). cut h.skip h.fetch (of_rows (t.taken 0)) ++ x) (sym p) in
    subst P i (record {
      skip = h.skip;
      fetch = h.fetch;
      is = h.is;
      keeps = keeps_more queue now (of_rows part) op t (with_rows t 0 rows) n h.keeps
          (ap (λ (o : Op). o.items (with_rows t 0 rows)) h.is ∙ new ∙ ap (λ (x : List Item). x ++ of_rows part) (sym (ap (λ (o : Op). o.items t) h.is))) e;
      out = (let s : skipped ≡ h.skip - length (t.taken 0) = h.out in omega arith);
      rest = ap (λ (o : Option ℕ). fewer o (length rows - skipped)) h.rest
          ∙ ap (λ (k : ℕ). fewer (fewer h.fetch (length (t.taken 0) - h.skip)) (length rows - k)) h.out
          ∙ fewer-twice h.fetch h.skip (length (t.taken 0)) (length rows) ∙ ap (λ (k : ℕ). fewer h.fetch (k - h.skip)) (sym all);
      end = h.end;
    })

pub limit_ended : (queue : List Item) (skipped : ℕ) (more : Option ℕ) (over : Bool) (op : Op) (t : Told) (n input : ℕ) → IsLimit queue skipped more over op t n → wants op t n ≡ Some input
    → IsLimit queue skipped more true op (with_end t input) n
limit_ended queue skipped more over op t n input h w =
    let i : 0 ≡ input = sym (ap (λ (o : Op). o.wanted t) h.is) ∙ (wants_is op t n input w).1 in
    let P : ℕ → Type 0 = λ k. IsLimit queue skipped more true op (with_end t k) n in
    subst P i (record {
      skip = h.skip;
      fetch = h.fetch;
      is = h.is;
      out = h.out;
      rest = h.rest;
      end = refl;
      keeps = keeps_same queue op t (with_end t 0) n h.keeps (ap (λ (o : Op). o.items (with_end t 0)) h.is ∙ sym (ap (λ (o : Op). o.items t) h.is));
    })

pub limit_flushed : (queue : List Item) (skipped : ℕ) (more : Option ℕ) (over : Bool) (op : Op) (t : Told) (n : ℕ) → IsLimit queue skipped more over op t n
    → IsLimit queue skipped more over op (with_flush t) n
limit_flushed queue skipped more over op t n h = record {
  skip = h.skip;
  fetch = h.fetch;
  is = h.is;
  out = h.out;
  rest = h.rest;
  end = h.end;
  keeps = keeps_same queue op t (with_flush t) n h.keeps (ap (λ (o : Op). o.items (with_flush t)) h.is ∙ sym (ap (λ (o : Op). o.items t) h.is));
}

pub limit_cut : (queue : List Item) (skipped : ℕ) (more : Option ℕ) (over : Bool) (op : Op) (t : Told) (n most : ℕ) (result : Result (Option KindedRows) OpRefused)
    → IsLimit queue skipped more over op t n → IsCut (take most queue) result → IsCut (take most (left op t n)) result
limit_cut queue skipped more over op t n most result h c = keeps_cut queue op t n most result h.keeps c

pub limit_gave : (queue now : List Item) (skipped : ℕ) (more : Option ℕ) (over : Bool) (op : Op) (t : Told) (n most : ℕ) (result : Result (Option KindedRows) OpRefused)
    → IsLimit queue skipped more over op t n → IsCut (take most queue) result → IfOk result (λ given. now ≡ drop (count given) queue)
    → IfOk result (λ given. IsLimit now skipped more over op t (n + count given))
limit_gave queue now skipped more over op t n most (Err e) h c r = tt
limit_gave queue now skipped more over op t n most (Ok given) h c r = record {
  skip = h.skip;
  fetch = h.fetch;
  is = h.is;
  out = h.out;
  rest = h.rest;
  end = h.end;
  keeps = keeps_gave queue now op t n most given h.keeps c r;
}

pub ruleset limit_steps = (limit_wants, limit_complete, limit_amount, limit_took, limit_ended, limit_flushed, limit_cut, limit_gave)

pub ruleset part_steps = (part_open, part_some)
