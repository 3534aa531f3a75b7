-- Projections of rows, an expression at a time.
use Rattle.std.proofs.Common.{◌≡◌, refl, ℕ, zero, suc, ◌+◌, ◌<◌, ◌≤◌, Bool, List, [], ◌∷◌, ◌++◌, length, take, map, get_or, ap, sym, ◌∙◌, subst, arith, All, Ok, Err, Result, Option, Some, None}
use Rattle.std.specs.Prelude.{slice_range}
use Rattle.std.specs.List.{flat_map}
use Rattle.std.proofs.Math.Nat.{sub-zero}
use Rattle.std.proofs.Math.Seq.{take-length}
use Rattle.std.proofs.lemmas.List.{length-take-le}
use Rattle.std.proofs.lemmas.List.Elements.{All-append, All-cons, All-nil, All-weaker}
use Rattle.dfx_value.specs.declared.fault.EvalFault.{EvalFault}
use Rattle.dfx_value.specs.declared.kind.Kind.{Kind}
use Rattle.dfx_value.specs.declared.fault.ItemFault.TheVariants.{Evaluation}
use Rattle.dfx_value.specs.declared.value.Value.{Value}
use Rattle.dfx_value.specs.declared.value.Value.TheVariants as value
use Rattle.dfx_value.specs.Checked.{◌>>=◌}
use Rattle.value_columns.specs.Columns.{KindedValues}
use Rattle.column_batch.specs.Batches.{row_at, rows_from, kinds_of}
use Rattle.column_batch.proofs.BatchLemmas.{rows_from-is, rows_from-at, length-rows_from}
use Rattle.logical_plan.specs.Items.{Item, Cells, of_rows, as_item, all_values, projected_row, projected, project_items}
use Rattle.scalar_exprs.specs.declared.expr.Expr.{Expr}
use Rattle.scalar_exprs.specs.Eval.{Outcome, eval}
use Rattle.scalar_vector.specs.Fronts.{before, evaluated}
use Rattle.scalar_vector.specs.Woven.{earlier}
use Rattle.scalar_vector.proofs.ColumnKinds.{front_short}
use Rattle.scalar_vector.proofs.Batches.{whole_length}
use Rattle.tree_laws.specs.Operators.{Op, Told, with_rows}
use Rattle.operator_poll.specs.Polls.{wants}
use Rattle.operator_poll.specs.Waiting.{as_far, faulted}
use Rattle.op_basic.specs.Streams.{IsEach}
use Rattle.op_basic.specs.Projects.{HasKind, HaveKinds, IsMade}
use Rattle.op_basic.proofs.Streams.{each_took}

-- a row with a value more
abbrev pub pushed : Result Cells EvalFault → Outcome → Result Cells EvalFault
pushed (Ok row) (Ok v) = Ok (row ++ v ∷ [])
pushed (Ok row) (Err g) = Err g
pushed (Err g) o = Err g

values-first : (o : Outcome) (rest : Result Cells EvalFault) (x : Outcome) → (o >>= λ v. pushed rest x >>= λ vs. Ok (v ∷ vs)) ≡ pushed (o >>= λ v. rest >>= λ vs. Ok (v ∷ vs)) x
values-first (Err g) rest x = refl
values-first (Ok v) (Err g) x = refl
values-first (Ok v) (Ok vs) (Ok w) = refl
values-first (Ok v) (Ok vs) (Err g) = refl

one-value : (x : Outcome) → (x >>= λ v. all_values [] >>= λ vs. Ok (v ∷ vs)) ≡ pushed (Ok []) x
one-value (Ok v) = refl
one-value (Err g) = refl

values-push : (os : List Outcome) (x : Outcome) → all_values (os ++ x ∷ []) ≡ pushed (all_values os) x
values-push [] x = one-value x
values-push (o ∷ os) x = ap (λ (r : Result Cells EvalFault). o >>= λ v. r >>= λ vs. Ok (v ∷ vs)) (values-push os x) ∙ values-first o (all_values os) x

map-push : (row : Cells) (es : List Expr) (e : Expr) → map (eval row) (es ++ e ∷ []) ≡ map (eval row) es ++ eval row e ∷ []
map-push row [] e = refl
map-push row (x ∷ es) e = ap (λ (l : List Outcome). eval row x ∷ l) (map-push row es e)

row-push : (es : List Expr) (e : Expr) (row : Cells) → projected_row (es ++ e ∷ []) row ≡ pushed (projected_row es row) (eval row e)
row-push es e row = ap all_values (map-push row es e) ∙ values-push (map (eval row) es) (eval row e)

-- each row with a value more, as far as both go
abbrev pub add_cells : List Cells → List Value → List Cells
add_cells [] vs = []
add_cells (p ∷ ps) [] = []
add_cells (p ∷ ps) (v ∷ vs) = (p ++ v ∷ []) ∷ add_cells ps vs

-- what projections of rows come to: these rows, and this fault behind them
abbrev pub Comes : List Expr → List Cells → List Cells → Option EvalFault → Type 0
Comes es rows ps fault = as_far (project_items es (of_rows rows)) ≡ of_rows ps ++ faulted fault

-- the same, of the first row's projection and those of the rows behind it
abbrev pub first_far : Result Cells EvalFault → List Item → List Item
first_far (Ok row) rest = Ok row ∷ rest
first_far (Err g) rest = Err (Evaluation g) ∷ []

far-first : (o : Result Cells EvalFault) (items : List Item) → as_far (as_item o ∷ items) ≡ first_far o (as_far items)
far-first (Ok row) items = refl
far-first (Err g) items = refl

-- one row: o is its projection so far and x its new value; rest and new are what the rows behind it come to, before and now
one-row : (o : Result Cells EvalFault) (x : Outcome) (row : Cells) (rows : List Cells) (e : Expr) (rest new : List Item) (ps : List Cells) (fault : Option EvalFault)
    → x ≡ eval row e
    → ((qs : List Cells) → rest ≡ of_rows qs ++ faulted fault
    → new ≡ of_rows (add_cells qs (evaluated (take (length qs) rows) e).values) ++ faulted (earlier (evaluated (take (length qs) rows) e).fault fault))
    → first_far o rest ≡ of_rows ps ++ faulted fault
    → first_far (pushed o x) new ≡ of_rows (add_cells ps (evaluated (take (length ps) (row ∷ rows)) e).values) ++ faulted (earlier (evaluated (take (length ps) (row ∷ rows)) e).fault fault)
one-row (Err g) x row rows e rest new [] None is step h = cc
one-row (Err g) x row rows e rest new [] (Some f) is step h = h
one-row (Err g) x row rows e rest new (p ∷ ps) fault is step h = cc
one-row (Ok r) x row rows e rest new [] None is step h = cc
one-row (Ok r) x row rows e rest new [] (Some f) is step h = cc
one-row (Ok r) x row rows e rest new (p ∷ ps) fault is step h =
    let head : r ≡ p = cc in
    let tail : rest ≡ of_rows ps ++ faulted fault = cc in
    let n : new ≡ of_rows (add_cells ps (evaluated (take (length ps) rows) e).values) ++ faulted (earlier (evaluated (take (length ps) rows) e).fault fault) = step ps tail in
    let P : Outcome → Type 0 = λ y. first_far (pushed (Ok r) x) new ≡ of_rows (add_cells (p ∷ ps) (before y (evaluated (take (length ps) rows) e)).values) ++ faulted (earlier (before y (evaluated (take (length ps) rows) e)).fault fault) in
    subst P is (by x head n) where
      by : (x : Outcome) → r ≡ p → new ≡ of_rows (add_cells ps (evaluated (take (length ps) rows) e).values) ++ faulted (earlier (evaluated (take (length ps) rows) e).fault fault)
          → first_far (pushed (Ok r) x) new ≡ of_rows (add_cells (p ∷ ps) (before x (evaluated (take (length ps) rows) e)).values) ++ faulted (earlier (before x (evaluated (take (length ps) rows) e)).fault fault)
      by (Ok v) head n = ap (λ (q : Cells). Ok (q ++ v ∷ []) ∷ new) head ∙ ap (λ (l : List Item). Ok (p ++ v ∷ []) ∷ l) n
      by (Err g) head n = refl

-- an expression more
pub comes_more : (es : List Expr) (e : Expr) (rows ps : List Cells) (fault : Option EvalFault) → Comes es rows ps fault
    → Comes (es ++ e ∷ []) rows (add_cells ps (evaluated (take (length ps) rows) e).values) (earlier (evaluated (take (length ps) rows) e).fault fault)
comes_more es e [] [] None h = refl
comes_more es e [] [] (Some f) h = cc
comes_more es e [] (p ∷ ps) fault h = cc
comes_more es e (r ∷ rs) ps fault h =
    far-first (projected_row (es ++ e ∷ []) r) (project_items (es ++ e ∷ []) (of_rows rs))
    ∙ ap (λ (o : Result Cells EvalFault). first_far o (as_far (project_items (es ++ e ∷ []) (of_rows rs)))) (row-push es e r)
    ∙ one-row (projected_row es r) (eval r e) r rs e (as_far (project_items es (of_rows rs))) (as_far (project_items (es ++ e ∷ []) (of_rows rs))) ps fault refl
    (λ qs q. comes_more es e rs qs fault q) (sym (far-first (projected_row es r) (project_items es (of_rows rs))) ∙ h)

-- no expression yet: each row has no cell
comes-none : (cs : List KindedValues) (rows : List Cells) (from : ℕ) → cs ≡ [] → Comes [] rows (rows_from cs from (length rows)) None
comes-none cs [] from z = refl
comes-none cs (r ∷ rs) from z =
    let first : row_at cs from ≡ [] = ap (λ (x : List KindedValues). row_at x from) z in
    ap (λ (l : List Item). Ok [] ∷ l) (comes-none cs rs (suc from) z)
    ∙ ap (λ (q : Cells). Ok q ∷ of_rows (rows_from cs (suc from) (length rs)) ++ []) (sym first)

pub comes_none : (rows : List Cells) → Comes [] rows (rows_from [] 0 (length rows)) None
comes_none rows = comes-none [] rows 0 refl

-- ---- rows that stand in columns

add-length : (ps : List Cells) (vs : List Value) → length vs ≤ length ps → length (add_cells ps vs) ≡ length vs
add-length [] [] h = refl
add-length [] (v ∷ vs) h = absurd (omega arith)
add-length (p ∷ ps) [] h = refl
add-length (p ∷ ps) (v ∷ vs) h = ap suc (add-length ps vs (omega arith))

add-at : (ps : List Cells) (vs : List Value) (i : ℕ) → i < length (add_cells ps vs) → get_or (add_cells ps vs) i [] ≡ get_or ps i [] ++ get_or vs i value.Null ∷ []
add-at [] vs i h = absurd (omega arith)
add-at (p ∷ ps) [] i h = absurd (omega arith)
add-at (p ∷ ps) (v ∷ vs) zero h = refl
add-at (p ∷ ps) (v ∷ vs) (suc i) h = add-at ps vs i (omega arith)

row-more : (cs : List KindedValues) (c : KindedValues) (i : ℕ) → row_at (cs ++ c ∷ []) i ≡ row_at cs i ++ get_or c.values i value.Null ∷ []
row-more [] c i = refl
row-more (d ∷ cs) c i = ap (λ (l : Cells). get_or d.values i value.Null ∷ l) (row-more cs c i)

-- the rows with one column more
pub rows_more : (cs : List KindedValues) (c : KindedValues) (n : ℕ) → length c.values ≤ n → rows_from (cs ++ c ∷ []) 0 (length c.values) ≡ add_cells (rows_from cs 0 n) c.values
rows_more cs c n h =
    let ps : List Cells = rows_from cs 0 n in
    let all : length ps ≡ n = length-rows_from cs 0 n in
    let len : length (add_cells ps c.values) ≡ length c.values = add-length ps c.values (omega arith) in
    ap (rows_from (cs ++ c ∷ []) 0) (sym len)
    ∙ rows_from-is (cs ++ c ∷ []) 0 (add_cells ps c.values) (λ i l.
    let low : i < n = omega arith in
    let z : 0 + i ≡ i = omega arith in
    ap (row_at (cs ++ c ∷ [])) z ∙ row-more cs c i
    ∙ ap (λ (r : Cells). r ++ get_or c.values i value.Null ∷ []) (ap (row_at cs) (sym z) ∙ sym (rows_from-at cs 0 n i [] low))
    ∙ sym (add-at ps c.values i l))

-- ---- columns, one by one

take-take : {A : Type 0} (n m : ℕ) (xs : List A) → n ≤ m → take n (take m xs) ≡ take n xs
take-take zero m xs h = refl
take-take (suc n) zero xs h = absurd (omega arith)
take-take (suc n) (suc m) [] h = refl
take-take {A = A} (suc n) (suc m) (x ∷ xs) h = ap (λ (l : List A). x ∷ l) (take-take n m xs (omega arith))

pub made_more : (es : List Expr) (e : Expr) (rows front : List Cells) (cs : List KindedValues) (c : KindedValues) (fault : Option EvalFault) → IsMade es rows cs front fault
    → c.values ≡ (evaluated front e).values
    → IsMade (es ++ e ∷ []) rows (cs ++ c ∷ []) (take (length c.values) front) (earlier (evaluated front e).fault fault)
made_more es e rows front cs c fault h v =
    let n : ℕ = length c.values in
    let few : length c.values ≤ length front = (let s : length c.values ≡ length (evaluated front e).values = ap length v in omega (arith, front_short front e)) in
    let len : length (take (length c.values) front) ≡ length c.values = length-take-le (length c.values) front few in
    let ps : List Cells = rows_from cs 0 (length front) in
    let all : length (rows_from cs 0 (length front)) ≡ length front = length-rows_from cs 0 (length front) in
    let there : take (length (rows_from cs 0 (length front))) rows ≡ front = ap (λ (k : ℕ). take k rows) all ∙ sym h.first in
    let P : List Cells → Type 0 = λ b. as_far (project_items (es ++ e ∷ []) (of_rows rows)) ≡ of_rows (add_cells (rows_from cs 0 (length front)) (evaluated b e).values) ++ faulted (earlier (evaluated b e).fault fault) in
    let more : P front = subst P there (comes_more es e rows (rows_from cs 0 (length front)) fault h.comes) in
    let new : add_cells (rows_from cs 0 (length front)) (evaluated front e).values ≡ rows_from (cs ++ c ∷ []) 0 (length (take (length c.values) front)) =
    ap (add_cells (rows_from cs 0 (length front))) (sym v) ∙ sym (rows_more cs c (length front) few) ∙ ap (rows_from (cs ++ c ∷ []) 0) (sym len) in
    let Q : KindedValues → Type 0 = λ d. length (take (length c.values) front) ≤ length d.values in
    record {
      first = ap (take (length c.values)) h.first ∙ take-take (length c.values) (length front) rows few ∙ ap (λ (k : ℕ). take k rows) (sym len);
      comes = more ∙ ap (λ (x : List Cells). of_rows x ++ faulted (earlier (evaluated front e).fault fault)) new;
      long = All-append Q cs (c ∷ [])
          (All-weaker (λ d. length front ≤ length d.values) Q (λ d l. omega arith) cs h.long)
          (All-cons Q c [] (omega arith) (All-nil Q));
    }

-- where the expression has no fault, all rows are left
pub made_whole : (es : List Expr) (e : Expr) (rows front : List Cells) (cs now : List KindedValues) (c : KindedValues) (fault : Option EvalFault) → IsMade es rows cs front fault
    → c.values ≡ (evaluated front e).values → None ≡ (evaluated front e).fault → now ≡ cs ++ c ∷ [] → IsMade (es ++ e ∷ []) rows now front fault
made_whole es e rows front cs now c fault h v none n =
    let all : length c.values ≡ length front = ap length v ∙ whole_length front e (sym none) in
    let same : take (length c.values) front ≡ front = ap (λ (k : ℕ). take k front) all ∙ take-length front in
    let P : List Cells → Type 0 = λ b. IsMade (es ++ e ∷ []) rows (cs ++ c ∷ []) b fault in
    let Q : Option EvalFault → Type 0 = λ o. IsMade (es ++ e ∷ []) rows (cs ++ c ∷ []) (take (length c.values) front) (earlier o fault) in
    let R : List KindedValues → Type 0 = λ x. IsMade (es ++ e ∷ []) rows x front fault in
    subst R (sym n) (subst P same (subst Q (sym none) (made_more es e rows front cs c fault h v)))

-- where it has one, those before it are
pub made_front : (es : List Expr) (e : Expr) (rows front left : List Cells) (cs now : List KindedValues) (c : KindedValues) (fault met : Option EvalFault) (g : EvalFault) (count : ℕ)
    → IsMade es rows cs front fault → c.values ≡ (evaluated front e).values → met ≡ (evaluated front e).fault → met ≡ Some g → now ≡ cs ++ c ∷ []
    → count ≡ length c.values → left ≡ slice_range front 0 count → IsMade (es ++ e ∷ []) rows now left met
made_front es e rows front left cs now c fault met g count h v f s n k l =
    let cut : left ≡ take (length c.values) front = l ∙ ap (λ (i : ℕ). take i front) (sub-zero count ∙ k) in
    let P : List Cells → Type 0 = λ b. IsMade (es ++ e ∷ []) rows (cs ++ c ∷ []) b met in
    let Q : Option EvalFault → Type 0 = λ o. IsMade (es ++ e ∷ []) rows (cs ++ c ∷ []) (take (length c.values) front) o in
    let R : List KindedValues → Type 0 = λ x. IsMade (es ++ e ∷ []) rows x left met in
    let first : earlier (evaluated front e).fault fault ≡ met = ap (λ (o : Option EvalFault). earlier o fault) (sym f ∙ s) ∙ sym s in
    subst R (sym n) (subst P (sym cut) (subst Q first (made_more es e rows front cs c fault h v)))

pub made_none : (rows : List Cells) (cs : List KindedValues) → cs ≡ [] → IsMade [] rows cs rows None
made_none rows cs z = record {
  first = sym (take-length rows);
  comes = comes-none cs rows 0 z;
  long = (let P : List KindedValues → Type 0 = λ x. All (λ c. length rows ≤ length c.values) x in subst P (sym z) (All-nil (λ (c : KindedValues). length rows ≤ length c.values)));
}

-- ---- kinds

pub kinds_length : (kinds : List Kind) (es : List Expr) (ks : List Kind) → HaveKinds kinds es ks → length ks ≡ length es
kinds_length kinds [] [] h = refl
kinds_length kinds (e ∷ es) (k ∷ ks) h = ap suc (kinds_length kinds es ks h.1)
kinds_length kinds [] (k ∷ ks) h = absurd h
kinds_length kinds (e ∷ es) [] h = absurd h

pub kind_at : (kinds : List Kind) (es : List Expr) (ks : List Kind) (i : ℕ) (d : Expr) (k : Kind) → HaveKinds kinds es ks → i < length es → HasKind kinds (get_or es i d) (get_or ks i k)
kind_at kinds [] ks i d k h l = absurd (omega arith)
kind_at kinds (e ∷ es) (x ∷ ks) zero d k h l = h.0
kind_at kinds (e ∷ es) (x ∷ ks) (suc i) d k h l = kind_at kinds es ks i d k h.1 (omega arith)
kind_at kinds (e ∷ es) [] i d k h l = absurd h

kinds-push : (cs : List KindedValues) (c : KindedValues) → kinds_of (cs ++ c ∷ []) ≡ kinds_of cs ++ c.kind ∷ []
kinds-push [] c = refl
kinds-push (d ∷ cs) c = ap (λ (l : List Kind). d.kind ∷ l) (kinds-push cs c)

pub kinds_push : (cs now : List KindedValues) (c : KindedValues) (k : Kind) → now ≡ cs ++ c ∷ [] → c.kind ≡ k → kinds_of now ≡ kinds_of cs ++ k ∷ []
kinds_push cs now c k n e = ap kinds_of n ∙ kinds-push cs c ∙ ap (λ (x : Kind). kinds_of cs ++ x ∷ []) e

singly : (es : List Expr) (items : List Item) → flat_map (λ (item : Item). projected es item ∷ []) items ≡ project_items es items
singly es [] = refl
singly es (item ∷ items) = ap (λ (l : List Item). projected es item ∷ l) (singly es items)

pub project_took : (es : List Expr) (queue now : List Item) (over : Bool) (op : Op) (t : Told) (n input : ℕ) (rows : List Cells) → IsEach (λ item. projected es item ∷ []) queue over op t n
    → wants op t n ≡ Some input → now ≡ as_far (queue ++ project_items es (of_rows rows)) → IsEach (λ item. projected es item ∷ []) now over op (with_rows t input rows) n
project_took es queue now over op t n input rows h w e =
    each_took (λ item. projected es item ∷ []) queue now over op t n input rows h w (e ∙ ap (λ (x : List Item). as_far (queue ++ x)) (sym (singly es (of_rows rows))))

pub ruleset made_steps = (kinds_push)

pub ruleset all_steps = (kinds_length)
