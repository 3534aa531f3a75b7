-- A queue that stands for what is left: what is put to it and given of it.
use Rattle.std.proofs.Common.{◌≡◌, refl, ℕ, zero, suc, ◌+◌, ◌-◌, ◌<◌, ◌≤◌, Bool, true, false, List, [], ◌∷◌, ◌++◌, length, take, drop, ap, sym, ◌∙◌, subst, arith, Ok, Err, Result, Option, Some, None, IfOk}
use Rattle.std.specs.Prelude.{if◌then◌else◌}
use Rattle.std.proofs.Math.ListN.{length-map}
use Rattle.std.proofs.lemmas.List.{drop-drop, length-drop, length-take, length-append, append_assoc, drop-append-le}
use Rattle.dfx_value.specs.Items.{Item, Cells, of_rows}
use Rattle.dfx_value.specs.KindedRows.{KindedRows}
use Rattle.dfx_value.specs.declared.fault.EvalFault.{EvalFault}
use Rattle.tree_laws.specs.Operators.{Op, Told, first_fault}
use Rattle.tree_laws.specs.OperatorKinds.{is_empty}
use Rattle.operator_poll.specs.declared.refused.OpRefused.{OpRefused}
use Rattle.operator_poll.specs.declared.refused.OpRefused.TheVariants as refused
use Rattle.operator_poll.specs.Polls.{IsCut, count, left, wants}
use Rattle.operator_poll.specs.Waiting.{as_far, faulted}
use Rattle.operator_poll.specs.Keeping.{Keeps}

-- ---- items up to the first fault

pub empty-as_far : (items : List Item) → is_empty (as_far items) ≡ is_empty items
empty-as_far [] = refl
empty-as_far (Ok row ∷ items) = refl
empty-as_far (Err f ∷ items) = refl

pub as_far-append : (items more : List Item) → as_far (as_far items ++ more) ≡ as_far (items ++ more)
as_far-append [] more = refl
as_far-append (Ok row ∷ items) more = ap (λ (l : List Item). Ok row ∷ l) (as_far-append items more)
as_far-append (Err f ∷ items) more = refl

far-far : (items : List Item) → as_far (as_far items) ≡ as_far items
far-far [] = refl
far-far (Ok row ∷ items) = ap (λ (l : List Item). Ok row ∷ l) (far-far items)
far-far (Err f ∷ items) = refl

as-far-behind : (items more : List Item) → as_far (items ++ as_far more) ≡ as_far (items ++ more)
as-far-behind [] more = far-far more
as-far-behind (Ok row ∷ items) more = ap (λ (l : List Item). Ok row ∷ l) (as-far-behind items more)
as-far-behind (Err f ∷ items) more = refl

-- rows are put, and then a fault, where there is one
pub put_far : (old mid new items : List Item) (rows : List Cells) (fault : Option EvalFault) → mid ≡ as_far (old ++ of_rows rows) → new ≡ as_far (mid ++ faulted fault)
    → of_rows rows ++ faulted fault ≡ as_far items → new ≡ as_far (old ++ items)
put_far old mid new items rows fault first second is =
    second ∙ ap (λ (x : List Item). as_far (x ++ faulted fault)) first ∙ as_far-append (old ++ of_rows rows) (faulted fault)
    ∙ ap as_far (append_assoc old (of_rows rows) (faulted fault)) ∙ ap (λ (x : List Item). as_far (old ++ x)) is ∙ as-far-behind old items

fault-far : (m : ℕ) (items : List Item) → first_fault (take m (as_far items)) ≡ first_fault (take m items)
fault-far zero items = refl
fault-far (suc m) [] = refl
fault-far (suc m) (Ok row ∷ items) = fault-far m items
fault-far (suc m) (Err f ∷ items) = refl

nothing-far : (m : ℕ) (items : List Item) → take m (as_far items) ≡ [] → take m items ≡ []
nothing-far zero items e = refl
nothing-far (suc m) [] e = refl
nothing-far (suc m) (Ok row ∷ items) e = cc
nothing-far (suc m) (Err f ∷ items) e = cc

rows-far : (m : ℕ) (items : List Item) (rows : List Cells) → take m (as_far items) ≡ of_rows rows → take m items ≡ of_rows rows
rows-far zero items rows e = e
rows-far (suc m) [] rows e = e
rows-far (suc m) (Err f ∷ items) [] e = cc
rows-far (suc m) (Err f ∷ items) (r ∷ rows) e = cc
rows-far (suc m) (Ok row ∷ items) [] e = cc
rows-far (suc m) (Ok row ∷ items) (r ∷ rows) e =
    let tail : take m (as_far items) ≡ of_rows rows = cc in
    let head : row ≡ r = cc in
    let rest : take m items ≡ of_rows rows = rows-far m items rows tail in cc

pub cut-far : (m : ℕ) (items : List Item) (result : Result (Option KindedRows) OpRefused) → IsCut (take m (as_far items)) result → IsCut (take m items) result
cut-far m items (Ok None) h = nothing-far m items h
cut-far m items (Ok (Some b)) h = (rows-far m items b.rows h.0, h.1)
cut-far m items (Err (refused.Fault f)) h = sym (fault-far m items) ∙ h
cut-far m items (Err refused.Spill) h = tt
cut-far m items (Err refused.NoMemory) h = tt

drop-far : (m : ℕ) (items : List Item) (rows : List Cells) → take m (as_far items) ≡ of_rows rows → drop (length rows) (as_far items) ≡ as_far (drop (length rows) items)
drop-far m items [] e = refl
drop-far zero items (r ∷ rows) e = cc
drop-far (suc m) [] (r ∷ rows) e = cc
drop-far (suc m) (Err f ∷ items) (r ∷ rows) e = cc
drop-far (suc m) (Ok row ∷ items) (r ∷ rows) e = drop-far m items rows cc

-- ---- what is left

pub keeps_empty : (queue : List Item) (op : Op) (t : Told) (n : ℕ) → Keeps queue op t n → is_empty queue ≡ is_empty (left op t n)
keeps_empty queue op t n k = ap is_empty k.rest ∙ empty-as_far (left op t n)

pub keeps_cut : (queue : List Item) (op : Op) (t : Told) (n most : ℕ) (result : Result (Option KindedRows) OpRefused) → Keeps queue op t n
    → IsCut (take most queue) result → IsCut (take most (left op t n)) result
keeps_cut queue op t n most result k h = cut-far most (left op t n) result (let P : List Item → Type 0 = λ x. IsCut (take most x) result in subst P k.rest h)

few : (m : ℕ) (items : List Item) (rows : List Cells) → take m items ≡ of_rows rows → length rows ≤ length items
few m items rows e =
    let all : length (take m items) ≡ length (of_rows rows) = ap length e in
    let len : length (of_rows rows) ≡ length rows = length-map rows (λ (row : Cells). Ok row) in
    omega (arith, length-take m items)

gave-rows : (queue now : List Item) (op : Op) (t : Told) (n most : ℕ) (rows : List Cells) → Keeps queue op t n → take most queue ≡ of_rows rows → now ≡ drop (length rows) queue
    → Keeps now op t (n + length rows)
gave-rows queue now op t n most rows k h e =
    let cut : take most (as_far (left op t n)) ≡ of_rows rows = ap (take most) (sym k.rest) ∙ h in
    let some : length rows ≤ length (left op t n) = few most (left op t n) rows (rows-far most (left op t n) rows cut) in
    let w : n ≤ length (op.items t) = k.within in
    record {
      within = omega (arith, length-drop n (op.items t));
      rest = e ∙ ap (drop (length rows)) k.rest ∙ drop-far most (left op t n) rows cut ∙ ap as_far (drop-drop (length rows) n (op.items t));
    }

same-count : (queue now : List Item) (op : Op) (t : Told) (n : ℕ) → Keeps queue op t n → now ≡ drop 0 queue → Keeps now op t (n + 0)
same-count queue now op t n k e =
    let z : n + 0 ≡ n = omega arith in
    let w : n ≤ length (op.items t) = k.within in
    record { within = omega arith; rest = e ∙ k.rest ∙ ap (λ (i : ℕ). as_far (drop i (op.items t))) (sym z) }

pub keeps_gave : (queue now : List Item) (op : Op) (t : Told) (n most : ℕ) (given : Option KindedRows) → Keeps queue op t n → IsCut (take most queue) (Ok given)
    → now ≡ drop (count given) queue → Keeps now op t (n + count given)
keeps_gave queue now op t n most None k h e = same-count queue now op t n k e
keeps_gave queue now op t n most (Some b) k h e = gave-rows queue now op t n most b.rows k h.0 e

-- more items, at the end
pub keeps_more : (queue now more : List Item) (op : Op) (t u : Told) (n : ℕ) → Keeps queue op t n → op.items u ≡ op.items t ++ more → now ≡ as_far (queue ++ more) → Keeps now op u n
keeps_more queue now more op t u n k grown e =
    let w : n ≤ length (op.items t) = k.within in
    let len : length (op.items u) ≡ length (op.items t ++ more) = ap length grown in
    record {
      within = omega (arith, length-append (op.items t) more);
      rest = e ∙ ap (λ (x : List Item). as_far (x ++ more)) k.rest ∙ as_far-append (left op t n) more
          ∙ ap as_far (sym (drop-append-le n (op.items t) more w)) ∙ ap (λ (x : List Item). as_far (drop n x)) (sym grown);
    }

-- the same items
pub keeps_same : (queue : List Item) (op : Op) (t u : Told) (n : ℕ) → Keeps queue op t n → op.items u ≡ op.items t → Keeps queue op u n
keeps_same queue op t u n k same = record {
  within = let w : n ≤ length (op.items t) = k.within in let len : length (op.items u) ≡ length (op.items t) = ap length same in omega arith;
  rest = k.rest ∙ ap (λ (x : List Item). as_far (drop n x)) (sym same);
}

-- ---- what is wanted

wanted-by : (here complete : Bool) (wanted input : ℕ) → (if here then (if complete then None else Some wanted) else None) ≡ Some input → (complete ≡ false) × (wanted ≡ input)
wanted-by true true w i e = absurd cc
wanted-by true false w i e = (refl, cc)
wanted-by false c w i e = absurd cc

-- the wanted input is the one that the operator asks, and it isn't complete
pub wants_is : (op : Op) (t : Told) (n input : ℕ) → wants op t n ≡ Some input → (op.is_complete t ≡ false) × (op.wanted t ≡ input)
wants_is op t n input e = wanted-by (is_empty (left op t n)) (op.is_complete t) (op.wanted t) input e
