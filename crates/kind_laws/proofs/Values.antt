-- Expressions, keys and aggregates over rows of some kinds give values of theirs.
use Rattle.std.specs.Prelude.{slice_get, is_some, unsigned_abs, ⊤}
use Rattle.std.specs.List.{list_all}
use Rattle.std.specs.Ordering.{is_lt, is_gt}
use Rattle.std.proofs.Common.{◌≡◌, refl, ℕ, zero, suc, ◌-◌, ◌^◌, ◌<◌, ℤ, pos, negsuc, ◌-ℤ◌, ◌*ℤ◌, Bool, true, false, not, ◌||◌, cond, ltb, eqb, eq-eqb, Option, Some, None, List, [], ◌∷◌, map, length, Result, Ok, Err, subst, sym, inl, inr, arith}
use Rattle.std.proofs.lemmas.Bool.{and_parts, and_from, cases_Bool, lt-ltb, ltb-true, false≢true}
use Rattle.dfx_value.specs.Checked.{◌>>=◌}
use Rattle.dfx_value.specs.Decimal.{fit, mean, half_away, at_scale}
use Rattle.dfx_value.specs.Number.{Number}
use Rattle.dfx_value.specs.Kinds.{is_of, are_of}
use Rattle.dfx_value.specs.KindedRows.{all_are}
use Rattle.dfx_value.specs.Order.{value_cmp}
use Rattle.dfx_value.specs.Rows.{cell, cells_at}
use Rattle.dfx_value.specs.declared.fault.EvalFault.{EvalFault}
use Rattle.dfx_value.specs.declared.fault.EvalFault.TheVariants.{Overflow}
use Rattle.dfx_value.specs.declared.kind.Kind.{Kind}
use Rattle.dfx_value.specs.declared.kind.Kind.TheVariants as kind
use Rattle.dfx_value.specs.declared.op.AggCall.{AggCall}
use Rattle.dfx_value.specs.declared.op.AggCall.TheVariants as call
use Rattle.dfx_value.specs.declared.value.Value.{Value}
use Rattle.dfx_value.specs.declared.value.Value.TheVariants as value
use Rattle.scalar_exprs.specs.declared.expr.Expr.{Expr}
use Rattle.scalar_exprs.specs.Eval.{Outcome, eval}
use Rattle.scalar_exprs.specs.Functions.{decimal}
use Rattle.scalar_exprs.specs.Truth.{is_null}
use Rattle.scalar_exprs.specs.Kinds as opt
use Rattle.scalar_exprs.specs.Kinds.{kind_of, constants_fit, call_kind, argument_kind, scale_of, total_kind, mean_kind, mean_scale, widest}
use Rattle.scalar_exprs.specs.Agg.{agg, agg_rows, argument, present, counted, gains, losses, is_over, total, or_null, summed, averaged, lesser, greater, least, greatest, from_first}
use Rattle.scalar_exprs.proofs.ValueKinds.{Fits, null_is_of}
use Rattle.scalar_exprs.proofs.KindLemmas.{kind_sound}
use Rattle.logical_plan.specs.Items.{Cells, all_values}
use Rattle.logical_plan.specs.Body.{kind_or_text, item_kinds, key_kinds, call_kinds}
use Rattle.kind_laws.specs.Kinded.{has_kind, has_columns, calls_fit}

-- ---- expressions

-- the values of a row, or a fault
abbrev pub RowFits : List Kind → Result Cells EvalFault → Type 0
RowFits ks (Ok vs) = are_of ks vs ≡ true
RowFits ks (Err f) = ⊤

some_fits : (o : Option Kind) (r : Outcome) → is_some o ≡ true → ((k : Kind) → o ≡ Some k → Fits k r) → Fits (kind_or_text o) r
some_fits (Some k) r p h = h k refl
some_fits None r p h = absurd (false≢true p)

pub value_fits : (columns : List Kind) (row : Cells) → are_of columns row ≡ true → (e : Expr) → has_kind columns e ≡ true → Fits (kind_or_text (kind_of columns e)) (eval row e)
value_fits columns row cells e p =
    let b = and_parts (is_some (kind_of columns e)) (constants_fit e) p in
    some_fits (kind_of columns e) (eval row e) b.0 (λ k s. kind_sound columns row cells e b.1 k s)

more_fits : (k : Kind) (ks : List Kind) (o : Outcome) (rest : Result Cells EvalFault) → Fits k o → RowFits ks rest → RowFits (k ∷ ks) (o >>= λ v. rest >>= λ vs. Ok (v ∷ vs))
more_fits k ks (Err f) rest p q = tt
more_fits k ks (Ok v) (Err f) p q = tt
more_fits k ks (Ok v) (Ok vs) p q = and_from (is_of k v) (are_of ks vs) p q

pub items_fit : (columns : List Kind) (row : Cells) → are_of columns row ≡ true → (es : List Expr) → list_all (has_kind columns) es ≡ true → RowFits (item_kinds columns es) (all_values (map (eval row) es))
items_fit columns row cells [] p = refl
items_fit columns row cells (e ∷ es) p =
    let b = and_parts (has_kind columns e) (list_all (has_kind columns) es) p in
    more_fits (kind_or_text (kind_of columns e)) (item_kinds columns es) (eval row e) (all_values (map (eval row) es))
    (value_fits columns row cells e b.0) (items_fit columns row cells es b.1)

-- ---- columns

pub cell_fits : (ks : List Kind) (row : Cells) (c : ℕ) (k : Kind) → are_of ks row ≡ true → slice_get ks c ≡ Some k → is_of k (cell row c) ≡ true
cell_fits [] row c k h e = cc
cell_fits (j ∷ ks) [] c k h e = cc
cell_fits (j ∷ ks) (v ∷ vs) zero k h e = let same : j ≡ k = (cc) in subst (λ k. is_of k v ≡ true) same (and_parts (is_of j v) (are_of ks vs) h).0
cell_fits (j ∷ ks) (v ∷ vs) (suc c) k h e = cell_fits ks vs c k (and_parts (is_of j v) (are_of ks vs) h).1 e

key_fits : (columns : List Kind) (row : Cells) → are_of columns row ≡ true → (c : ℕ) → is_some (slice_get columns c) ≡ true → is_of (kind_or_text (slice_get columns c)) (cell row c) ≡ true
key_fits columns row cells c p = go (slice_get columns c) p (λ k s. cell_fits columns row c k cells s) where
  go : (o : Option Kind) → is_some o ≡ true → ((k : Kind) → o ≡ Some k → is_of k (cell row c) ≡ true) → is_of (kind_or_text o) (cell row c) ≡ true
  go (Some k) p h = h k refl
  go None p h = absurd (false≢true p)

pub keys_fit : (columns : List Kind) (row : Cells) → are_of columns row ≡ true → (keys : List ℕ) → has_columns columns keys ≡ true → are_of (key_kinds columns keys) (cells_at keys row) ≡ true
keys_fit columns row cells [] p = refl
keys_fit columns row cells (c ∷ cs) p =
    let b = and_parts (is_some (slice_get columns c)) (has_columns columns cs) p in
    and_from _ _ (key_fits columns row cells c b.0) (keys_fit columns row cells cs b.1)

-- ---- aggregates

counted_fits : (n : ℕ) → Fits kind.Int (counted n)
counted_fits n = go (ltb n (2 ^ 63)) refl where
  go : (b : Bool) → ltb n (2 ^ 63) ≡ b → Fits kind.Int (cond b (Ok (value.Int (pos n))) (Err Overflow))
  go true e = e
  go false e = tt

-- the difference of two magnitudes is no greater than the greater
difference_below : (a b n : ℕ) → a < n → b < n → unsigned_abs (pos a -ℤ pos b) < n
difference_below a zero n p q = omega arith
difference_below a (suc b) n p q = go (ltb a (suc b)) where
  go : (t : Bool) → unsigned_abs (cond t (negsuc (suc b - suc a)) (pos (a - suc b))) < n
  go true = omega arith
  go false = omega arith

number_fits : (s : ℕ) (n : ℤ) → unsigned_abs n < 10 ^ 38 → Fits (widest s) (Ok (value.Dec (at_scale n s)))
number_fits s n h = and_from (eqb s s) (ltb (unsigned_abs n) (10 ^ 38)) (eq-eqb s s refl) (lt-ltb (unsigned_abs n) (10 ^ 38) h)

fit_fits : (n : ℤ) (s : ℕ) → Fits (widest s) (decimal (fit n s))
unfolding fit
fit_fits n s = elim (cases_Bool (ltb (unsigned_abs n) (10 ^ 38))) [
  | inl fits ↦ subst (λ b. Fits (widest s) (decimal (cond b (Ok (at_scale n s)) (Err Overflow)))) (sym fits) (and_from (eqb s s) (ltb (unsigned_abs n) (10 ^ 38)) (eq-eqb s s refl) fits)
  | inr other ↦ subst (λ b. Fits (widest s) (decimal (cond b (Ok (at_scale n s)) (Err Overflow)))) (sym other) tt
]

-- the sum of values of scale s, and their mean
total_fits : (s : ℕ) (vs : List Value) → Fits (widest s) (cond (is_over vs) (Err Overflow) (Ok (value.Dec (at_scale (total vs) s))))
total_fits s vs = go (ltb (length vs) (2 ^ 63)) (ltb (gains vs) (10 ^ 38)) (ltb (losses vs) (10 ^ 38)) refl refl where
  go : (a b c : Bool) → ltb (gains vs) (10 ^ 38) ≡ b → ltb (losses vs) (10 ^ 38) ≡ c → Fits (widest s) (cond (not a || not b || not c) (Err Overflow) (Ok (value.Dec (at_scale (total vs) s))))
  go true true true p q = number_fits s (total vs) (difference_below (gains vs) (losses vs) (10 ^ 38) (ltb-true (gains vs) (10 ^ 38) p) (ltb-true (losses vs) (10 ^ 38) q))
  go false b c p q = tt
  go true false c p q = tt
  go true true false p q = tt

mean_fits : (s n : ℕ) (d : Number) (vs : List Value) → Fits (widest s) (cond (is_over vs) (Err Overflow) (decimal (mean d n s)))
unfolding mean
mean_fits s n d vs = go (is_over vs) where
  go : (b : Bool) → Fits (widest s) (cond b (Err Overflow) (decimal (fit (half_away (d.unscaled *ℤ pos (10 ^ (s - d.scale))) n) s)))
  go true = tt
  go false = fit_fits (half_away (d.unscaled *ℤ pos (10 ^ (s - d.scale))) n) s

or_null_fits : (k : Kind) (vs : List Value) (o : Outcome) → Fits k o → Fits k (or_null vs o)
or_null_fits k [] o p = null_is_of k
or_null_fits k (v ∷ vs) o p = p

summed_fits : (o : Option Kind) (k : Kind) (vs : List Value) → total_kind o ≡ Some k → Fits k (summed (scale_of o) vs)
summed_fits (Some kind.Int) k vs e = let same : widest 0 ≡ k = (cc) in subst (λ j. Fits j (summed 0 vs)) same (or_null_fits (widest 0) vs _ (total_fits 0 vs))
summed_fits (Some (kind.Dec p s)) k vs e = let same : widest s ≡ k = (cc) in subst (λ j. Fits j (summed s vs)) same (or_null_fits (widest s) vs _ (total_fits s vs))
summed_fits _ k vs e = cc

averaged_fits : (o : Option Kind) (k : Kind) (vs : List Value) → mean_kind o ≡ Some k → Fits k (averaged (scale_of o) vs)
averaged_fits (Some kind.Int) k vs e = let same : widest 4 ≡ k = (cc) in subst (λ j. Fits j (averaged 0 vs)) same (or_null_fits (widest 4) vs _ (mean_fits 4 (length vs) (at_scale (total vs) 0) vs))
averaged_fits (Some (kind.Dec p s)) k vs e = let same : widest (mean_scale s) ≡ k = (cc) in subst (λ j. Fits j (averaged s vs)) same (or_null_fits (widest (mean_scale s)) vs _ (mean_fits (mean_scale s) (length vs) (at_scale (total vs) s) vs))
averaged_fits _ k vs e = cc

-- one of two values
one_of : (k : Kind) (b : Bool) (v w : Value) → is_of k v ≡ true → is_of k w ≡ true → is_of k (cond b w v) ≡ true
one_of k true v w p q = q
one_of k false v w p q = p

least_fits : (k : Kind) (v : Value) (vs : List Value) → is_of k v ≡ true → list_all (is_of k) vs ≡ true → is_of k (least v vs) ≡ true
least_fits k v [] p q = p
least_fits k v (w ∷ ws) p q =
    let b = and_parts (is_of k w) (list_all (is_of k) ws) q in
    least_fits k (lesser v w) ws (one_of k (is_gt (value_cmp v w)) v w p b.0) b.1

greatest_fits : (k : Kind) (v : Value) (vs : List Value) → is_of k v ≡ true → list_all (is_of k) vs ≡ true → is_of k (greatest v vs) ≡ true
greatest_fits k v [] p q = p
greatest_fits k v (w ∷ ws) p q =
    let b = and_parts (is_of k w) (list_all (is_of k) ws) q in
    greatest_fits k (greater v w) ws (one_of k (is_lt (value_cmp v w)) v w p b.0) b.1

best_fits : (k : Kind) (pick : Value → List Value → Value) → ((v : Value) (vs : List Value) → is_of k v ≡ true → list_all (is_of k) vs ≡ true → is_of k (pick v vs) ≡ true)
    → (vs : List Value) → list_all (is_of k) vs ≡ true → Fits k (from_first pick vs)
best_fits k pick h [] q = null_is_of k
best_fits k pick h (v ∷ vs) q = let b = and_parts (is_of k v) (list_all (is_of k) vs) q in h v vs b.0 b.1

present_fit : (k : Kind) (vs : List Value) → list_all (is_of k) vs ≡ true → list_all (is_of k) (present vs) ≡ true
present_fit k [] q = refl
present_fit k (v ∷ vs) q =
    let b = and_parts (is_of k v) (list_all (is_of k) vs) q in
    go (not (is_null v)) b.0 (present_fit k vs b.1) where
      go : (t : Bool) → is_of k v ≡ true → list_all (is_of k) (present vs) ≡ true → list_all (is_of k) (cond t (v ∷ present vs) (present vs)) ≡ true
      go true p more = and_from _ _ p more
      go false p more = more

column_fits : (columns : List Kind) (group : List Cells) (c : ℕ) (k : Kind) → all_are columns group ≡ true → slice_get columns c ≡ Some k → list_all (is_of k) (map (λ row. cell row c) group) ≡ true
column_fits columns [] c k p e = refl
column_fits columns (r ∷ rs) c k p e =
    let b = and_parts (are_of columns r) (all_are columns rs) p in
    and_from _ _ (cell_fits columns r c k b.0 e) (column_fits columns rs c k b.1 e)

call_fits : (columns : List Kind) (group : List Cells) → all_are columns group ≡ true → (c : AggCall) (k : Kind) → call_kind c columns ≡ Some k → Fits k (agg_rows columns group c)
unfolding agg
call_fits columns group p call.CountAll k e = let same : kind.Int ≡ k = (cc) in subst (λ j. Fits j (counted (length (map (argument call.CountAll) group)))) same (counted_fits (length (map (argument call.CountAll) group)))
call_fits columns group p (call.Count c) k e = go (slice_get columns c) e where
  n : ℕ
  n = length (present (map (argument (call.Count c)) group))

  go : (o : Option Kind) → opt.◌>>=◌ o (λ _. Some kind.Int) ≡ Some k → Fits k (counted n)
  go (Some j) e = let same : kind.Int ≡ k = (cc) in subst (λ j. Fits j (counted n)) same (counted_fits n)
  go None e = cc
call_fits columns group p (call.Sum c) k e = summed_fits (slice_get columns c) k (present (map (argument (call.Sum c)) group)) e
call_fits columns group p (call.Min c) k e =
    best_fits k least (least_fits k) (present (map (argument (call.Min c)) group)) (present_fit k (map (argument (call.Min c)) group) (column_fits columns group c k p e))
call_fits columns group p (call.Max c) k e =
    best_fits k greatest (greatest_fits k) (present (map (argument (call.Max c)) group)) (present_fit k (map (argument (call.Max c)) group) (column_fits columns group c k p e))
call_fits columns group p (call.Avg c) k e = averaged_fits (slice_get columns c) k (present (map (argument (call.Avg c)) group)) e

pub answers_fit : (columns : List Kind) (group : List Cells) → all_are columns group ≡ true → (calls : List AggCall) → calls_fit columns calls ≡ true → RowFits (call_kinds columns calls) (all_values (map (agg_rows columns group) calls))
answers_fit columns group p [] q = refl
answers_fit columns group p (c ∷ cs) q =
    let b = and_parts (is_some (call_kind c columns)) (calls_fit columns cs) q in
    more_fits (kind_or_text (call_kind c columns)) (call_kinds columns cs) (agg_rows columns group c) (all_values (map (agg_rows columns group) cs))
    (some_fits (call_kind c columns) (agg_rows columns group c) b.0 (λ k s. call_fits columns group p c k s)) (answers_fit columns group p cs b.1)
