-- Steps of a queue: its first batch, more rows behind it, and what it gives.
use Rattle.std.proofs.Common.{◌≡◌, refl, ℕ, zero, suc, ◌+◌, ◌-◌, ◌<◌, ◌≤◌, Bool, true, false, List, [], ◌∷◌, ◌++◌, length, take, drop, min, ap, sym, ◌∙◌, subst, arith, All, Ok, Err, Result, Option, Some, None, IfSome, IfOk}
use Rattle.std.specs.Prelude.{slice_range}
use Rattle.std.proofs.Math.Nat.{sub-zero}
use Rattle.std.proofs.Math.ListN.{length-map}
use Rattle.std.proofs.lemmas.List.{take-append-drop, length-drop, length-take, append_assoc, append-nil, take_all, take-append-le, take-map}
use Rattle.std.proofs.lemmas.List.Elements.{All-cons, All-head, All-tail}
use Rattle.dfx_value.specs.Items.{Item, Cells, of_rows}
use Rattle.dfx_value.specs.KindedRows.{KindedRows}
use Rattle.dfx_value.specs.declared.kind.Kind.{Kind}
use Rattle.dfx_value.specs.declared.fault.EvalFault.{EvalFault}
use Rattle.dfx_value.specs.declared.fault.ItemFault.TheVariants.{Evaluation}
use Rattle.tree_laws.specs.Operators.{first_fault}
use Rattle.tree_laws.specs.OperatorKinds.{is_empty}
use Rattle.operator_poll.specs.declared.refused.OpRefused.{OpRefused}
use Rattle.operator_poll.specs.Polls.{IsCut, count}
use Rattle.operator_poll.specs.Waiting.{as_far, faulted, all_rows, given_rows}
use Rattle.operator_poll.specs.Batched.{IsPart}

-- ---- batches one behind the other

pub all_rows-append : (bs : List KindedRows) (b : KindedRows) → all_rows (bs ++ b ∷ []) ≡ all_rows bs ++ b.rows
all_rows-append [] b = append-nil b.rows
all_rows-append (c ∷ bs) b = ap (λ (x : List Cells). c.rows ++ x) (all_rows-append bs b) ∙ sym (append_assoc c.rows (all_rows bs) b.rows)

-- rows cut in two
pub halves : (rows : List Cells) (m n : ℕ) → n ≡ length rows → slice_range rows 0 m ++ slice_range rows m n ≡ rows
halves rows m n e =
    let first : take (m - 0) rows ≡ take m rows = ap (λ (k : ℕ). take k rows) (sub-zero m) in
    let rest : take (n - m) (drop m rows) ≡ drop m rows = take_all (n - m) (drop m rows) (omega (arith, length-drop m rows)) in
    ap (λ (x : List Cells). x ++ take (n - m) (drop m rows)) first ∙ ap (λ (x : List Cells). take m rows ++ x) rest ∙ take-append-drop m rows

pub rest_filled : (rows : List Cells) (m n : ℕ) → n ≡ length rows → m < n → 0 < length (slice_range rows m n)
rest_filled rows m n e h =
    let rest : take (n - m) (drop m rows) ≡ drop m rows = take_all (n - m) (drop m rows) (omega (arith, length-drop m rows)) in
    let same : length (take (n - m) (drop m rows)) ≡ length (drop m rows) = ap length rest in
    omega (arith, length-drop m rows)

pub first_filled : (rows : List Cells) (m : ℕ) → 0 < m → m < length rows → (0 < length (slice_range rows 0 m)) × (length (slice_range rows 0 m) ≤ m)
first_filled rows m h l =
    let first : length (take (m - 0) rows) ≡ length (take m rows) = ap (λ (k : ℕ). length (take k rows)) (sub-zero m) in
    let all : length (take m rows) ≡ min m (length rows) = length-take m rows in
    (omega arith, omega arith)

pub with_front : (kinds : List Kind) (front rest : KindedRows) (bs old : List KindedRows) → old ≡ front ∷ bs → rest.kinds ≡ front.kinds → 0 < length rest.rows
    → All (IsPart kinds) old → All (IsPart kinds) (rest ∷ bs)
with_front kinds front rest bs old e k f h =
    let here : All (IsPart kinds) (front ∷ bs) = subst (λ (x : List KindedRows). All (IsPart kinds) x) e h in
    All-cons (IsPart kinds) rest bs (record { alike = k ∙ (All-head (IsPart kinds) front bs here).alike; filled = f }) (All-tail (IsPart kinds) front bs here)

pub front_is : (kinds : List Kind) (front part : KindedRows) (bs old : List KindedRows) → old ≡ front ∷ bs → part.kinds ≡ front.kinds → 0 < length part.rows
    → All (IsPart kinds) old → IsPart kinds part
front_is kinds front part bs old e k f h =
    let here : All (IsPart kinds) (front ∷ bs) = subst (λ (x : List KindedRows). All (IsPart kinds) x) e h in
    record { alike = k ∙ (All-head (IsPart kinds) front bs here).alike; filled = f }

-- the first m rows are the first few and, of those behind them, as many as are missing
pub taken_on : (part rest : List Cells) (m : ℕ) → length part ≤ m → take m (part ++ rest) ≡ part ++ take (m - length part) rest
taken_on [] rest m h = ap (λ (k : ℕ). take k rest) (sym (sub-zero m))
taken_on (p ∷ ps) rest zero h = absurd (omega arith)
taken_on (p ∷ ps) rest (suc m) h =
    let k : suc m - suc (length ps) ≡ m - length ps = omega arith in
    ap (λ (x : List Cells). p ∷ x) (taken_on ps rest m (omega arith) ∙ ap (λ (i : ℕ). ps ++ take i rest) (sym k))

pub dropped_on : (part rest : List Cells) (m : ℕ) → length part ≤ m → drop m (part ++ rest) ≡ drop (m - length part) rest
dropped_on [] rest m h = ap (λ (k : ℕ). drop k rest) (sym (sub-zero m))
dropped_on (p ∷ ps) rest zero h = absurd (omega arith)
dropped_on (p ∷ ps) rest (suc m) h =
    let k : suc m - suc (length ps) ≡ m - length ps = omega arith in
    dropped_on ps rest m (omega arith) ∙ ap (λ (i : ℕ). drop i rest) (sym k)

-- ---- what is given

whole-is : (given : Option KindedRows) (rows : List Cells) (cut : List Item) → given_rows given ≡ rows → IfSome given (λ b. 0 < length b.rows) → cut ≡ of_rows rows → IsCut cut (Ok given)
whole-is None rows cut e h c = c ∙ ap of_rows (sym e)
whole-is (Some b) rows cut e h c = (c ∙ ap of_rows (sym e), h)

count-length : (given : Option KindedRows) → count given ≡ length (given_rows given)
count-length None = refl
count-length (Some b) = refl

pub cut_whole : (given : Option KindedRows) (rows : List Cells) (most : ℕ) → given_rows given ≡ take most rows → IfSome given (λ b. 0 < length b.rows)
    → IsCut (take most (of_rows rows ++ [])) (Ok given)
cut_whole given rows most e h = whole-is given (take most rows) (take most (of_rows rows ++ [])) e h
    (ap (take most) (append-nil (of_rows rows)) ∙ take-map (λ (row : Cells). Ok row) most rows)

pub cut_before : (given : Option KindedRows) (rows : List Cells) (more : List Item) (most : ℕ) → most ≤ count given → given_rows given ≡ take most rows
    → IfSome given (λ b. 0 < length b.rows) → IsCut (take most (of_rows rows ++ more)) (Ok given)
cut_before given rows more most many e h =
    let n : length (given_rows given) ≡ length (take most rows) = ap length e in
    let all : length (take most rows) ≡ min most (length rows) = length-take most rows in
    let len : length (of_rows rows) ≡ length rows = length-map rows (λ (row : Cells). Ok row) in
    let c : count given ≡ length (given_rows given) = count-length given in
    whole-is given (take most rows) (take most (of_rows rows ++ more)) e h
    (take-append-le most (of_rows rows) more (omega arith) ∙ take-map (λ (row : Cells). Ok row) most rows)

fault-at : (most : ℕ) (rows : List Cells) (f : EvalFault) → length rows < most → first_fault (take most (of_rows rows ++ Err (Evaluation f) ∷ [])) ≡ Some (Evaluation f)
fault-at zero rows f h = absurd (omega arith)
fault-at (suc m) [] f h = refl
fault-at (suc m) (r ∷ rs) f h = fault-at m rs f (omega arith)

pub cut_fault : (given : Option KindedRows) (rows : List Cells) (f : EvalFault) (most : ℕ) → count given < most → given_rows given ≡ take most rows
    → first_fault (take most (of_rows rows ++ Err (Evaluation f) ∷ [])) ≡ Some (Evaluation f)
cut_fault given rows f most few e =
    let n : length (given_rows given) ≡ length (take most rows) = ap length e in
    let all : length (take most rows) ≡ min most (length rows) = length-take most rows in
    let c : count given ≡ length (given_rows given) = count-length given in
    fault-at most rows f (omega arith)

left-behind : (most : ℕ) (rows : List Cells) (more : List Item) → of_rows (drop most rows) ++ more ≡ drop (length (take most rows)) (of_rows rows ++ more)
left-behind zero rows more = refl
left-behind (suc m) [] more = refl
left-behind (suc m) (r ∷ rs) more = left-behind m rs more

pub given_off : (given : Option KindedRows) (rows : List Cells) (more : List Item) (most : ℕ) → given_rows given ≡ take most rows
    → of_rows (drop most rows) ++ more ≡ drop (count given) (of_rows rows ++ more)
given_off given rows more most e =
    left-behind most rows more ∙ ap (λ (k : ℕ). drop k (of_rows rows ++ more)) (sym (count-length given ∙ ap length e))

pub give_rest : (result : Result (Option KindedRows) OpRefused) (given : Option KindedRows) (rows now : List Cells) (more items : List Item) (most : ℕ)
    → IfOk result (λ b. b ≡ given) → given_rows given ≡ take most rows → now ≡ drop most rows → of_rows rows ++ more ≡ items
    → IfOk result (λ b. of_rows now ++ more ≡ drop (count b) items)
give_rest (Err e) given rows now more items most is taken rest view = tt
give_rest (Ok b) given rows now more items most is taken rest view =
    ap (λ (x : List Cells). of_rows x ++ more) rest ∙ given_off given rows more most taken ∙ ap (λ (x : Option KindedRows). drop (count x) (of_rows rows ++ more)) (sym is) ∙ ap (drop (count b)) view

-- ---- what is put

pub as_far-rows : (rows : List Cells) (items : List Item) → as_far (of_rows rows ++ items) ≡ of_rows rows ++ as_far items
as_far-rows [] items = refl
as_far-rows (r ∷ rs) items = ap (λ (x : List Item). Ok r ∷ x) (as_far-rows rs items)

of-append : (xs ys : List Cells) → of_rows (xs ++ ys) ≡ of_rows xs ++ of_rows ys
of-append [] ys = refl
of-append (x ∷ xs) ys = ap (λ (l : List Item). Ok x ∷ l) (of-append xs ys)

as-far-fault : (fault : Option EvalFault) → as_far (faulted fault) ≡ faulted fault
as-far-fault None = refl
as-far-fault (Some f) = refl

-- behind a fault nothing is put
pub put_behind : (rows : List Cells) (f : EvalFault) (items more : List Item) → of_rows rows ++ faulted (Some f) ≡ items → items ≡ as_far (items ++ more)
put_behind rows f items more e =
    sym (ap (λ (x : List Item). as_far (x ++ more)) (sym e) ∙ ap as_far (append_assoc (of_rows rows) (faulted (Some f)) more) ∙ as_far-rows rows (faulted (Some f) ++ more) ∙ e)

-- nothing is put
pub put_nothing : (rows : List Cells) (fault : Option EvalFault) (items : List Item) (more : List Cells) → of_rows rows ++ faulted fault ≡ items → 0 ≡ length more
    → items ≡ as_far (items ++ of_rows more)
put_nothing rows fault items [] e z =
    sym (ap as_far (append-nil items ∙ sym e) ∙ as_far-rows rows (faulted fault) ∙ ap (λ (x : List Item). of_rows rows ++ x) (as-far-fault fault) ∙ e)
put_nothing rows fault items (m ∷ ms) e z = absurd (omega arith)

pub put_rows-are : (bs now : List KindedRows) (b : KindedRows) (items : List Item) → of_rows (all_rows bs) ++ [] ≡ items → now ≡ bs ++ b ∷ []
    → of_rows (all_rows now) ++ [] ≡ as_far (items ++ of_rows b.rows)
put_rows-are bs now b items e n =
    let rows : List Cells = all_rows bs in
    let new : of_rows (all_rows now) ≡ of_rows rows ++ of_rows b.rows = ap (λ (x : List KindedRows). of_rows (all_rows x)) n ∙ ap of_rows (all_rows-append bs b) ∙ of-append rows b.rows in
    append-nil (of_rows (all_rows now)) ∙ new
    ∙ sym (ap (λ (x : List Item). as_far (x ++ of_rows b.rows)) (sym e ∙ append-nil (of_rows rows))
    ∙ as_far-rows rows (of_rows b.rows) ∙ ap (λ (x : List Item). of_rows rows ++ x) (ap as_far (sym (append-nil (of_rows b.rows))) ∙ as_far-rows b.rows [] ∙ append-nil (of_rows b.rows)))

pub put_fault : (rows : List Cells) (fault : Option EvalFault) (items : List Item) → of_rows rows ++ [] ≡ items → of_rows rows ++ faulted fault ≡ as_far (items ++ faulted fault)
put_fault rows fault items e =
    sym (ap (λ (x : List Item). as_far (x ++ faulted fault)) (sym e ∙ append-nil (of_rows rows)) ∙ as_far-rows rows (faulted fault) ∙ ap (λ (x : List Item). of_rows rows ++ x) (as-far-fault fault))

pub some_item : (kinds : List Kind) (bs : List KindedRows) (more : List Item) → All (IsPart kinds) bs → ¬ (length bs ≡ 0) → is_empty (of_rows (all_rows bs) ++ more) ≡ false
some_item kinds [] more h n = absurd (n refl)
some_item kinds (b ∷ bs) more h n = here b.rows (All-head (IsPart kinds) b bs h).filled where
  here : (rows : List Cells) → 0 < length rows → is_empty (of_rows (rows ++ all_rows bs) ++ more) ≡ false
  here [] f = absurd (omega arith)
  here (r ∷ rs) f = refl

-- ---- steps of the loops

pub some_is : {X : Type 0} (P : X → Type 0) (o : Option X) (x : X) → o ≡ Some x → IfSome o P → P x
some_is {X = X} P o x e h = let Q : Option X → Type 0 = λ y. IfSome y P in subst Q e h

-- one batch more: its rows are the next ones, and so many fewer are missing
pub rows_step : (built more start : List Cells) (part now old goal : List Cells) (m : ℕ) → length part ≤ m → old ≡ part ++ now → more ≡ built ++ part → built ++ take m old ≡ goal
    → more ++ take (m - length part) now ≡ goal
rows_step built more start part now old goal m few cut grown is =
    ap (λ (x : List Cells). x ++ take (m - length part) now) grown ∙ append_assoc built part (take (m - length part) now)
    ∙ ap (λ (x : List Cells). built ++ x) (sym (taken_on part now m few)) ∙ ap (λ (x : List Cells). built ++ take m x) (sym cut) ∙ is

pub rest_step : (part now old goal : List Cells) (m : ℕ) → length part ≤ m → old ≡ part ++ now → drop m old ≡ goal → drop (m - length part) now ≡ goal
rest_step part now old goal m few cut is = sym (dropped_on part now m few) ∙ ap (drop m) (sym cut) ∙ is

pub none_wanted : (k : ℕ) (rows : List Cells) → k ≡ 0 → (take k rows ≡ []) × (drop k rows ≡ rows)
none_wanted k rows e = (ap (λ (i : ℕ). take i rows) e, ap (λ (i : ℕ). drop i rows) e)

pub none_there : (k : ℕ) (bs : List KindedRows) → length bs ≡ 0 → (take k (all_rows bs) ≡ []) × (drop k (all_rows bs) ≡ all_rows bs)
none_there zero [] e = (refl, refl)
none_there (suc k) [] e = (refl, refl)
none_there k (b ∷ bs) e = absurd (omega arith)
