-- Rows in front of the first fault, and what filters and projections make of them.
use Rattle.std.proofs.Common.{◌≡◌, refl, ℕ, zero, suc, ◌+◌, ◌-◌, ◌<◌, ◌≤◌, Bool, true, false, List, [], ◌∷◌, ◌++◌, length, map, take, drop, get_or, Option, Some, None, Result, Ok, Err, IfOk, All, ap, sym, ◌∙◌, subst, arith, append_assoc, length-append}
use Rattle.std.specs.Prelude.{slice_range, nat_lt, if◌then◌else◌}
use Rattle.std.proofs.lemmas.List.{append-nil, map-append, take_all, get_or-take, length-take, length-map, take-take, take-append-le}
use Rattle.std.proofs.lemmas.Bool.{ltb-true, ltb-false, lt-ltb, le-ltb}
use Rattle.std.proofs.lemmas.Grind.{flat_map-append}
use Rattle.dfx_value.specs.Checked.{◌>>=◌}
use Rattle.dfx_value.specs.declared.fault.EvalFault.{EvalFault}
use Rattle.dfx_value.specs.declared.fault.ItemFault.{ItemFault}
use Rattle.dfx_value.specs.declared.fault.ItemFault.TheVariants.{Evaluation}
use Rattle.dfx_value.specs.declared.value.Value.{Value}
use Rattle.dfx_value.specs.declared.value.Value.TheVariants as value
use Rattle.column_batch.specs.Batches.{kept, rows_from, row_at}
use Rattle.logical_plan.specs.Items.{Cells, Item, of_rows, rows, faults, as_item, all_values, tested, filtered, filter_items, projected, projected_row, project_items}
use Rattle.result_text.specs.AnswerText.{row_lines}
use Rattle.scalar_exprs.specs.declared.expr.Expr.{Expr}
use Rattle.scalar_exprs.specs.Eval.{Outcome, eval}
use Rattle.scalar_exprs.specs.Truth.{is_true}
use Rattle.scalar_vector.specs.Fronts.{Front, before, front, evaluated}
use Rattle.scalar_vector.specs.Woven.{earlier}
use Rattle.value_columns.specs.Columns.{KindedValues, or_null}
use Rattle.value_columns.specs.Masked.{masked}
use Rattle.scan_run.specs.Words.{IsFrontOf, IsProjection, BeginsWith, fault_then}
use Rattle.scan_run.specs.declared.front.Front.{Front as Held}
use Rattle.scan_run.specs.declared.front.Projected.{Projected as Made}

-- ---- all rows, and parts of them

pub slice_all : (xs : List Cells) (n : ℕ) → n ≡ length xs → slice_range xs 0 n ≡ xs
slice_all xs n h = take_all (n - 0) xs (omega arith)

pub front_all : (items : List Item) (batch now : List Cells) → items ≡ of_rows batch → now ≡ batch → IsFrontOf items now None
front_all items batch now is same = record { rest = []; is = is ∙ ap of_rows (sym same) ∙ sym (append-nil (of_rows now)) }

-- rows that a part of the tests keeps
pub kept_part : (bits : List Bool) (xs : List Cells) → kept bits (take (length bits) xs) ≡ kept bits xs
kept_part [] [] = refl
kept_part [] (x ∷ xs) = refl
kept_part (b ∷ bits) [] = refl
kept_part (true ∷ bits) (x ∷ xs) = ap (λ (t : List Cells). x ∷ t) (kept_part bits xs)
kept_part (false ∷ bits) (x ∷ xs) = kept_part bits xs

pub length_evaluated : (batch : List Cells) (e : Expr) → length (evaluated batch e).values ≤ length batch
length_evaluated [] e = omega arith
length_evaluated (r ∷ rs) e = go (eval r e) (length_evaluated rs e) where
  go : (o : Outcome) → length (evaluated rs e).values ≤ length rs → length (before o (evaluated rs e)).values ≤ suc (length rs)
  go (Ok v) h = omega arith
  go (Err f) h = omega arith

-- ---- two lists of items

pub join_fronts : (xs ys : List Item) (now : List Cells) (p q : Option EvalFault) (rest : List Item) → IsFrontOf xs now p → ys ≡ fault_then q rest → IsFrontOf (xs ++ ys) now (earlier p q)
join_fronts xs ys now None q rest h is = record { rest = rest; is = ap (λ (t : List Item). t ++ ys) (h.is ∙ append-nil (of_rows now)) ∙ ap (λ (t : List Item). of_rows now ++ t) is }
join_fronts xs ys now (Some f) q rest h is = record { rest = h.rest ++ ys; is = ap (λ (t : List Item). t ++ ys) h.is ∙ append_assoc (of_rows now) (Err (Evaluation f) ∷ h.rest) ys }

-- ---- filters

kept_more : (r : Cells) (b : Bool) (items : List Item) (now : List Cells) (f : Option EvalFault) → IsFrontOf items now f
    → IsFrontOf ((if b then Ok r ∷ [] else []) ++ items) (if b then r ∷ now else now) f
kept_more r true items now f h = record { rest = h.rest; is = ap (λ (t : List Item). Ok r ∷ t) h.is }
kept_more r false items now f h = h

filtered_rows : (test : Expr) (batch : List Cells) → IsFrontOf (filter_items test (of_rows batch)) (kept (map is_true (evaluated batch test).values) batch) (evaluated batch test).fault
filtered_rows test [] = record { rest = []; is = refl }
filtered_rows test (r ∷ rs) = go (eval r test) (filtered_rows test rs) where
  go : (o : Outcome) → IsFrontOf (filter_items test (of_rows rs)) (kept (map is_true (evaluated rs test).values) rs) (evaluated rs test).fault
      → IsFrontOf (tested r o ++ filter_items test (of_rows rs)) (kept (map is_true (before o (evaluated rs test)).values) (r ∷ rs)) (before o (evaluated rs test)).fault
  go (Ok v) h = kept_more r (is_true v) (filter_items test (of_rows rs)) (kept (map is_true (evaluated rs test).values) rs) (evaluated rs test).fault h
  go (Err f) h = record { rest = filter_items test (of_rows rs); is = refl }

filter_then : (test : Expr) (f : Option EvalFault) (rest : List Item) → filter_items test (fault_then f rest) ≡ fault_then f (filter_items test rest)
filter_then test None rest = refl
filter_then test (Some f) rest = refl

pub front_filter : (test : Expr) (items : List Item) (batch : List Cells) (f : Option EvalFault) → IsFrontOf items batch f
    → IsFrontOf (filter_items test items) (kept (map is_true (evaluated batch test).values) batch) (earlier (evaluated batch test).fault f)
front_filter test items batch f h =
    let split : filter_items test items ≡ filter_items test (of_rows batch) ++ filter_items test (fault_then f h.rest) =
    ap (filter_items test) h.is ∙ flat_map-append (filtered test) (of_rows batch) (fault_then f h.rest) in
    rw split (join_fronts (filter_items test (of_rows batch)) (filter_items test (fault_then f h.rest)) _ (evaluated batch test).fault f (filter_items test h.rest) (filtered_rows test batch) (filter_then test f h.rest))

-- ---- projections

pub project_rows : (exprs : List Expr) (batch : List Cells) → project_items exprs (of_rows batch) ≡ map (λ row. as_item (projected_row exprs row)) batch
project_rows exprs [] = refl
project_rows exprs (r ∷ rs) = ap (λ (t : List Item). as_item (projected_row exprs r) ∷ t) (project_rows exprs rs)

project_then : (exprs : List Expr) (f : Option EvalFault) (rest : List Item) → project_items exprs (fault_then f rest) ≡ fault_then f (project_items exprs rest)
project_then exprs None rest = refl
project_then exprs (Some f) rest = refl

pub front_project : (exprs : List Expr) (items : List Item) (batch now : List Cells) (f p : Option EvalFault) → IsFrontOf items batch f
    → IsFrontOf (project_items exprs (of_rows batch)) now p → IsFrontOf (project_items exprs items) now (earlier p f)
front_project exprs items batch now f p h made =
    let split : project_items exprs items ≡ project_items exprs (of_rows batch) ++ project_items exprs (fault_then f h.rest) =
    ap (project_items exprs) h.is ∙ map-append (projected exprs) (of_rows batch) (fault_then f h.rest) in
    rw split (join_fronts (project_items exprs (of_rows batch)) (project_items exprs (fault_then f h.rest)) now p f (project_items exprs h.rest) made (project_then exprs f h.rest))

-- one more expression of a row
abbrev and_value : Result Cells EvalFault → Outcome → Result Cells EvalFault
and_value row o = row >>= λ vs. o >>= λ v. Ok (vs ++ v ∷ [])

moved : (o : Outcome) (row : Result Cells EvalFault) (last : Outcome) → (o >>= λ v. and_value row last >>= λ vs. Ok (v ∷ vs)) ≡ and_value (o >>= λ v. row >>= λ vs. Ok (v ∷ vs)) last
moved (Err f) row last = refl
moved (Ok v) (Err f) last = refl
moved (Ok v) (Ok vs) (Ok w) = refl
moved (Ok v) (Ok vs) (Err f) = refl

lone : (o : Outcome) → (o >>= λ v. Ok (v ∷ [])) ≡ and_value (Ok []) o
lone (Ok v) = refl
lone (Err f) = refl

projected-more : (exprs : List Expr) (e : Expr) (row : Cells) → projected_row (exprs ++ e ∷ []) row ≡ and_value (projected_row exprs row) (eval row e)
projected-more [] e row = lone (eval row e)
projected-more (x ∷ exprs) e row =
    ap (λ (r : Result Cells EvalFault). eval row x >>= λ v. r >>= λ vs. Ok (v ∷ vs)) (projected-more exprs e row) ∙ moved (eval row x) (projected_row exprs row) (eval row e)

item_ok : (r : Result Cells EvalFault) (row : Cells) → as_item r ≡ Ok row → r ≡ Ok row
item_ok (Ok x) row h = let same : x ≡ row = (cc) in ap Ok same
item_ok (Err f) row h = cc

item_err : (r : Result Cells EvalFault) (f : EvalFault) → as_item r ≡ Err (Evaluation f) → r ≡ Err f
item_err (Ok x) f h = cc
item_err (Err g) f h = (let same : g ≡ f = (cc) in ap Err same)

cons_head : (x y : Item) (xs ys : List Item) → x ∷ xs ≡ y ∷ ys → x ≡ y
cons_head x y xs ys h = (cc)

cons_tail : (x y : Item) (xs ys : List Item) → x ∷ xs ≡ y ∷ ys → xs ≡ ys
cons_tail x y xs ys h = (cc)

lt-both : (m n : ℕ) → nat_lt (suc m) (suc n) ≡ nat_lt m n
lt-both m n = go (nat_lt m n) refl where
  go : (b : Bool) → nat_lt m n ≡ b → nat_lt (suc m) (suc n) ≡ nat_lt m n
  go true e = let low : m < n = ltb-true m n e in lt-ltb (suc m) (suc n) (omega arith) ∙ sym e
  go false e = let low : n ≤ m = ltb-false m n e in le-ltb (suc m) (suc n) (omega arith) ∙ sym e

row_at-more : (cs : List KindedValues) (c : KindedValues) (i : ℕ) → row_at (cs ++ c ∷ []) i ≡ row_at cs i ++ get_or c.values i value.Null ∷ []
row_at-more cs c i = map-append (λ (d : KindedValues). get_or d.values i value.Null) cs (c ∷ [])

module _ (exprs : List Expr) (e : Expr) (cs : List KindedValues) (c : KindedValues) where
  abbrev old_items : List Cells → List Item
  old_items batch = map (λ row. as_item (projected_row exprs row)) batch

  abbrev new_items : List Cells → List Item
  new_items batch = map (λ row. as_item (and_value (projected_row exprs row) (eval row e))) batch

  -- the rows of the columns from a place on, as far as both reach
  abbrev Widened : List Cells → ℕ → ℕ → Option EvalFault → Front → Type 0
  Widened batch from n p f = IsFrontOf (new_items batch) (rows_from (cs ++ c ∷ []) from (if nat_lt (length f.values) n then length f.values else n)) (if nat_lt (length f.values) n then f.fault else p)

  -- no row is left in front of an earlier fault
  stopped : (batch : List Cells) (from : ℕ) (p : Option EvalFault) → IsFrontOf (old_items batch) [] p → IsFrontOf (new_items batch) [] p
  stopped [] from None h = record { rest = []; is = refl }
  stopped [] from (Some f) h = cc (h.is)
  stopped (r ∷ rs) from None h = cc (h.is)
  stopped (r ∷ rs) from (Some f) h =
      let hit : projected_row exprs r ≡ Err f = item_err (projected_row exprs r) f (cons_head _ _ _ _ h.is) in
      record { rest = new_items rs; is = rw hit refl }

  abbrev Follows : ℕ → List Value → Type 0
  Follows from vs = (i : ℕ) → i < length vs → get_or c.values (from + i) value.Null ≡ get_or vs i value.Null

  widen : (r : Cells) (rs : List Cells) (from k m : ℕ) (p g : Option EvalFault) (b : Bool) (v : Value) → projected_row exprs r ≡ Ok (row_at cs from) → eval r e ≡ Ok v → v ≡ get_or c.values from value.Null
      → IsFrontOf (new_items rs) (rows_from (cs ++ c ∷ []) (suc from) (if b then m else k)) (if b then g else p)
      → IsFrontOf (new_items (r ∷ rs)) (rows_from (cs ++ c ∷ []) from (if b then suc m else suc k)) (if b then g else p)
  widen r rs from k m p g true v row is cell h =
      let more : row_at cs from ++ v ∷ [] ≡ row_at (cs ++ c ∷ []) from = ap (λ (x : Value). row_at cs from ++ x ∷ []) cell ∙ sym (row_at-more cs c from) in
      record { rest = h.rest; is = rw (row, is, more) (ap (λ (t : List Item). Ok (row_at (cs ++ c ∷ []) from) ∷ t) h.is) }
  widen r rs from k m p g false v row is cell h =
      let more : row_at cs from ++ v ∷ [] ≡ row_at (cs ++ c ∷ []) from = ap (λ (x : Value). row_at cs from ++ x ∷ []) cell ∙ sym (row_at-more cs c from) in
      record { rest = h.rest; is = rw (row, is, more) (ap (λ (t : List Item). Ok (row_at (cs ++ c ∷ []) from) ∷ t) h.is) }

  pub widened : (batch : List Cells) (from n : ℕ) (p : Option EvalFault) → IsFrontOf (old_items batch) (rows_from cs from n) p
      → Follows from (evaluated batch e).values → Widened batch from n p (evaluated batch e)
  widened [] from zero p h same = stopped [] from p h
  widened [] from (suc n) p h same = cc (h.is)
  widened (r ∷ rs) from n p h same = go (λ k below found. widened rs (suc from) k p below found) (eval r e) refl n h same where
    go : ((k : ℕ) → IsFrontOf (old_items rs) (rows_from cs (suc from) k) p → Follows (suc from) (evaluated rs e).values → Widened rs (suc from) k p (evaluated rs e))
        → (o : Outcome) → eval r e ≡ o → (k : ℕ) → IsFrontOf (old_items (r ∷ rs)) (rows_from cs from k) p → Follows from (before o (evaluated rs e)).values → Widened (r ∷ rs) from k p (before o (evaluated rs e))
    go rest_of (Ok v) is zero h same =
        let below : nat_lt (suc (length (evaluated rs e).values)) 0 ≡ false = le-ltb (suc (length (evaluated rs e).values)) 0 (omega arith) in
        subst (λ (b : Bool). IsFrontOf (new_items (r ∷ rs)) (rows_from (cs ++ c ∷ []) from (if b then suc (length (evaluated rs e).values) else 0)) (if b then (evaluated rs e).fault else p)) (sym below) (stopped (r ∷ rs) from p h)
    go rest_of (Err f) is zero h same = stopped (r ∷ rs) from p h
    go rest_of (Ok v) is (suc k) h same =
        let row : projected_row exprs r ≡ Ok (row_at cs from) = item_ok (projected_row exprs r) (row_at cs from) (cons_head _ _ _ _ h.is) in
        let rest = rest_of k (record { rest = h.rest; is = cons_tail _ _ _ _ h.is })
        (λ i l. ap (λ (j : ℕ). get_or c.values j value.Null) (omega arith) ∙ same (suc i) (omega arith)) in
        let cell : v ≡ get_or c.values from value.Null = sym (ap (λ (j : ℕ). get_or c.values j value.Null) (omega arith) ∙ same 0 (omega arith)) in
        subst (λ (b : Bool). IsFrontOf (new_items (r ∷ rs)) (rows_from (cs ++ c ∷ []) from (if b then suc (length (evaluated rs e).values) else suc k)) (if b then (evaluated rs e).fault else p)) (sym (lt-both (length (evaluated rs e).values) k))
        (widen r rs from k (length (evaluated rs e).values) p (evaluated rs e).fault (nat_lt (length (evaluated rs e).values) k) v row is cell rest)
    go rest_of (Err f) is (suc k) h same =
        let row : projected_row exprs r ≡ Ok (row_at cs from) = item_ok (projected_row exprs r) (row_at cs from) (cons_head _ _ _ _ h.is) in
        let hit : and_value (projected_row exprs r) (eval r e) ≡ Err f = ap (λ (x : Result Cells EvalFault). and_value x (eval r e)) row ∙ ap (λ (o : Outcome). and_value (Ok (row_at cs from)) o) is in
        let low : nat_lt 0 (suc k) ≡ true = lt-ltb 0 (suc k) (omega arith) in
        subst (λ (b : Bool). IsFrontOf (new_items (r ∷ rs)) (rows_from (cs ++ c ∷ []) from (if b then 0 else suc k)) (if b then Some f else p)) (sym low)
        (record { rest = new_items rs; is = ap (λ (x : Result Cells EvalFault). as_item x ∷ new_items rs) hit })

-- ---- lines

faults-rows : (now : List Cells) (more : List Item) → faults (of_rows now ++ more) ≡ faults more
faults-rows [] more = refl
faults-rows (r ∷ rs) more = faults-rows rs more

rows-rows : (now : List Cells) → rows (of_rows now ++ []) ≡ now
rows-rows [] = refl
rows-rows (r ∷ rs) = ap (λ (t : List Cells). r ∷ t) (rows-rows rs)

pub front_clean : (items : List Item) (now : List Cells) (fault : Option EvalFault) → IsFrontOf items now fault → fault ≡ None → (faults items ≡ []) × (rows items ≡ now)
front_clean items now None h e = (ap faults h.is ∙ faults-rows now [], ap rows h.is ∙ rows-rows now)
front_clean items now (Some f) h e = cc

pub front_fault : (items : List Item) (now : List Cells) (fault : Option EvalFault) (f : EvalFault) → IsFrontOf items now fault → fault ≡ Some f → (more : List ItemFault) × (faults items ≡ Evaluation f ∷ more)
front_fault items now None f h e = cc
front_fault items now (Some g) f h e =
    let same : g ≡ f = (cc) in
    (faults h.rest, ap faults h.is ∙ faults-rows now (Err (Evaluation g) ∷ h.rest) ∙ ap (λ (x : EvalFault). Evaluation x ∷ faults h.rest) same)

-- ---- what the calls give

items-more : (exprs : List Expr) (e : Expr) (batch : List Cells) → map (λ (row : Cells). as_item (projected_row (exprs ++ e ∷ []) row)) batch ≡ map (λ (row : Cells). as_item (and_value (projected_row exprs row) (eval row e))) batch
items-more exprs e [] = refl
items-more exprs e (r ∷ rs) =
    let here : as_item (projected_row (exprs ++ e ∷ []) r) ≡ as_item (and_value (projected_row exprs r) (eval r e)) = ap as_item (projected-more exprs e r) in
    let rest : map (λ (row : Cells). as_item (projected_row (exprs ++ e ∷ []) row)) rs ≡ map (λ (row : Cells). as_item (and_value (projected_row exprs row) (eval row e))) rs = items-more exprs e rs in
    cc

pub kept_slice : (bits : List Bool) (xs : List Cells) (n : ℕ) → n ≡ length bits → kept bits (slice_range xs 0 n) ≡ kept bits xs
kept_slice bits xs n h = ap (λ (k : ℕ). kept bits (take k xs)) (omega arith) ∙ kept_part bits xs

pub filter_gives : {E : Type 0} (r : Result Held E) (test : Expr) (items : List Item) (batch : List Cells) (f met : Option EvalFault) (bits : List Bool)
    → IfOk r (λ x. x.batch.rows ≡ kept bits batch) → IfOk r (λ x. x.fault ≡ earlier met f) → bits ≡ map is_true (evaluated batch test).values → met ≡ (evaluated batch test).fault
    → IsFrontOf items batch f → IfOk r (λ x. IsFrontOf (filter_items test items) x.batch.rows x.fault)
filter_gives (Ok x) test items batch f met bits a b c d h = rw (a, b, c, d) (front_filter test items batch f h)
filter_gives (Err e) test items batch f met bits a b c d h = tt

unmasked : {A : Type 0} (f : A → Value) (xs : List A) → map (or_null f) (masked xs []) ≡ map f xs
unmasked f [] = refl
unmasked f (x ∷ xs) = ap (λ (t : List Value). f x ∷ t) (unmasked f xs)

begins-long : (values front : List Value) → BeginsWith values front → length front ≤ length values
begins-long values front h = omega (arith, length-take (length front) values, ap length h)

begins-at : (values front : List Value) (i : ℕ) → BeginsWith values front → i < length front → get_or values i value.Null ≡ get_or front i value.Null
begins-at values front i h l = sym (get_or-take (length front) values i value.Null l) ∙ ap (λ (vs : List Value). get_or vs i value.Null) h

all-snoc : {X : Type 0} (P : X → Type 0) (xs : List X) (x : X) → All P xs → P x → All P (xs ++ x ∷ [])
all-snoc P [] x h p zero d l = p
all-snoc P [] x h p (suc k) d l = absurd (omega arith)
all-snoc P (y ∷ xs) x h p zero d l = h 0 d (omega arith)
all-snoc P (y ∷ xs) x h p (suc k) d l = all-snoc P xs x (λ j e m. h (suc j) e (omega arith)) p k d (omega arith)

least : (m n : ℕ) → ((if nat_lt m n then m else n) ≤ m) × ((if nat_lt m n then m else n) ≤ n)
least m n = go (nat_lt m n) refl where
  go : (b : Bool) → nat_lt m n ≡ b → ((if b then m else n) ≤ m) × ((if b then m else n) ≤ n)
  go true e = let low : m < n = ltb-true m n e in (omega arith, omega arith)
  go false e = let low : n ≤ m = ltb-false m n e in (omega arith, omega arith)

pub projection_none : (batch : List Cells) (made : Made) → made.columns.items ≡ [] → made.rows ≡ length batch → made.fault ≡ None → IsProjection [] batch made
projection_none batch made none many calm = record {
  few = omega arith;
  long = rw none (λ k d l. absurd (omega arith));
  front = rw (none, many, calm) (record { rest = []; is = blank batch 0 });
} where
  blank : (xs : List Cells) (from : ℕ) → map (λ (row : Cells). as_item (projected_row [] row)) xs ≡ of_rows (rows_from [] from (length xs)) ++ []
  blank [] from = refl
  blank (x ∷ xs) from = ap (λ (t : List Item). Ok [] ∷ t) (blank xs (suc from))

pub projection_more : (exprs : List Expr) (e : Expr) (batch : List Cells) (old now : Made) (c : KindedValues) (vs : List Value) (g : Option EvalFault) (m : ℕ)
    → IsProjection exprs batch old → vs ≡ (evaluated batch e).values → g ≡ (evaluated batch e).fault → BeginsWith c.values vs → m ≡ length vs
    → now.columns.items ≡ old.columns.items ++ c ∷ [] → now.rows ≡ (if nat_lt m old.rows then m else old.rows) → now.fault ≡ (if nat_lt m old.rows then g else old.fault)
    → IsProjection (exprs ++ e ∷ []) batch now
projection_more exprs e batch old now c vs g m p values met begins size cols many fault =
    let low = least m old.rows in
    let here : m ≤ length c.values = omega (arith, begins-long c.values vs begins) in
    let old_few : old.rows ≤ length batch = p.few in
    let long : All (λ (d : KindedValues). now.rows ≤ length d.values) (old.columns.items ++ c ∷ []) =
    all-snoc (λ (d : KindedValues). now.rows ≤ length d.values) old.columns.items c (λ k d l. omega (arith, p.long k d l, low.1)) (omega (arith, low.0)) in
    let count : m ≡ length (evaluated batch e).values = size ∙ ap length values in
    let wide = widened exprs e old.columns.items c batch 0 old.rows old.fault p.front (λ i l. ap (λ (j : ℕ). get_or c.values j value.Null) (omega arith) ∙ begins-at c.values vs i begins (omega (arith, ap length values)) ∙ ap (λ (t : List Value). get_or t i value.Null) values) in
    record {
      few = omega (arith, low.1);
      long = rw cols long;
      front = rw (cols, many, fault, count, met) (rw (items-more exprs e batch) wide);
    }
