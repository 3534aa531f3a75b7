-- All rows of a batch.
use Rattle.std.proofs.Common.{◌≡◌, refl, ℕ, true, zero, suc, ◌≤◌, take, get_or, arith, Option, Some, None, List, [], ◌∷◌, Ok, Err, map, length, ap, sym, ◌∙◌}
use Rattle.std.specs.List.{range_with_len}
use Rattle.std.proofs.lemmas.Simd.{map-map}
use Rattle.std.proofs.Math.ListN.{length-map}
use Rattle.dfx_value.specs.declared.value.Value.{Value}
use Rattle.dfx_value.specs.declared.fault.EvalFault.{EvalFault}
use Rattle.scalar_exprs.specs.declared.expr.Expr.{Expr}
use Rattle.scalar_exprs.specs.Functions.{Outcome}
use Rattle.scalar_exprs.specs.Eval.{eval}
use Rattle.column_batch.specs.Batches.{column_of}
use Rattle.dfx_value.specs.Rows.{cell}
use Rattle.dfx_value.specs.Kinds.{are_of}
use Rattle.dfx_value.specs.KindedRows.{all_are}
use Rattle.dfx_value.specs.declared.kind.Kind.{Kind}
use Rattle.dfx_value.proofs.BatchLemmas.{length-are_of, left_of, right_of}
use Rattle.std.proofs.lemmas.Option.{unwrap_or-slice_get}
use Rattle.std.specs.Prelude.{replicate}
use Rattle.dfx_value.specs.declared.value.Value.TheVariants as value
use Rattle.std.proofs.Math.Seq.{take-length}
use Rattle.scalar_vector.proofs.Loops.{first_places, beyond}
use Rattle.scalar_vector.proofs.ItemSteps.{value-beyond}
use Rattle.value_columns.specs.Columns.{or_null}
use Rattle.scalar_vector.proofs.Evals.{map_agree, map_constant}
use Rattle.scalar_vector.specs.Fronts.{Front, before, front, row_at, evals, evaluated, Ends, IsFront}

all-places : (rs : List (List Value)) → map (row_at rs) (range_with_len 0 (length rs)) ≡ rs
all-places rs = sym (first_places rs [] (length rs) (omega arith)) ∙ take-length rs

pub evaluated_is : (rs : List (List Value)) (n : ℕ) (e : Expr) → n ≡ length rs → evals rs (range_with_len 0 n) e ≡ evaluated rs e
unfolding evals
evaluated_is rs n e all = ap front (sym (map-map (λ row. eval row e) (row_at rs) (range_with_len 0 n))
    ∙ ap (λ (k : ℕ). map (λ row. eval row e) (map (row_at rs) (range_with_len 0 k))) all ∙ ap (map (λ row. eval row e)) (all-places rs))

first-is : (o : Outcome) (os : List Outcome) (f : Front) → IsFront os f → IsFront (o ∷ os) (before o f)
first-is (Err e) os f is = record { values = refl; ended = refl }
first-is (Ok v) os f is = record { values = ap (λ (l : List Outcome). Ok v ∷ l) is.values; ended = more f.fault is.ended } where
  more : (fault : Option EvalFault) → Ends fault (length f.values) os → Ends fault (suc (length f.values)) (Ok v ∷ os)
  more None h = ap suc h
  more (Some e) h = h

pub front_is : (os : List Outcome) → IsFront os (front os)
front_is [] = record { values = refl; ended = refl }
front_is (o ∷ os) = first-is o os (front os) (front_is os)

unended : (fault : Option EvalFault) (n : ℕ) (os : List Outcome) → fault ≡ None → Ends fault n os → n ≡ length os
unended None n os none h = h
unended (Some e) n os none h = cc

pub whole_length : (rs : List (List Value)) (e : Expr) → (evaluated rs e).fault ≡ None → length (evaluated rs e).values ≡ length rs
whole_length rs e none =
    unended (evaluated rs e).fault (length (evaluated rs e).values) (map (λ row. eval row e) rs) none (front_is (map (λ row. eval row e) rs)).ended
    ∙ length-map rs (λ row. eval row e)

-- the cells of a column

no-cell : (k : ℕ) → cell [] k ≡ value.Null
no-cell zero = refl
no-cell (suc k) = refl

column-at : (rs : List (List Value)) (k p : ℕ) → get_or (column_of rs k) p value.Null ≡ cell (row_at rs p) k
column-at [] k zero = sym (no-cell k)
column-at [] k (suc p) = sym (no-cell k)
column-at (r ∷ rs) k zero = refl
column-at (r ∷ rs) k (suc p) = column-at rs k p

pub shown_cells : (rs : List (List Value)) (k n : ℕ) → n ≤ length rs → take n (column_of rs k) ≡ map (λ p. cell (row_at rs p) k) (range_with_len 0 n)
shown_cells rs k n h = let m : length (column_of rs k) ≡ length rs = length-map rs (λ r. cell r k) in
    first_places (column_of rs k) value.Null n (omega arith)
    ∙ map_agree (λ p. get_or (column_of rs k) p value.Null) (λ p. cell (row_at rs p) k) (column-at rs k) (range_with_len 0 n)

short-cell : (ks : List Kind) (row : List Value) (k : ℕ) → are_of ks row ≡ true → length ks ≤ k → cell row k ≡ value.Null
short-cell ks row k h short = let n : length row ≡ length ks = length-are_of ks row h in
    unwrap_or-slice_get row k value.Null ∙ beyond row k (omega arith)

short-at : (ks : List Kind) (rs : List (List Value)) (k p : ℕ) → all_are ks rs ≡ true → length ks ≤ k → cell (row_at rs p) k ≡ value.Null
short-at ks [] k zero h short = no-cell k
short-at ks [] k (suc p) h short = no-cell k
short-at ks (r ∷ rs) k zero h short = short-cell ks r k (left_of _ _ h) short
short-at ks (r ∷ rs) k (suc p) h short = short-at ks rs k p (right_of _ _ h) short

pub no_column : (ks : List Kind) (rs : List (List Value)) (k : ℕ) (ps : List ℕ) → all_are ks rs ≡ true → length ks ≤ k
    → replicate (length ps) value.Null ≡ map (λ p. cell (row_at rs p) k) ps
no_column ks rs k ps h short = sym (map_agree (λ p. cell (row_at rs p) k) (λ p. value.Null) (λ p. short-at ks rs k p h short) ps ∙ map_constant value.Null ps)

-- items of a column at places
pub gathered : {A : Type 0} (f : A → Value) (xs new : List (Option A)) (rs : List (List Value)) (k : ℕ) (ps : List ℕ) → map (or_null f) xs ≡ column_of rs k
    → new ≡ map (λ p. get_or xs p None) ps → map (or_null f) new ≡ map (λ p. cell (row_at rs p) k) ps
gathered f xs new rs k ps all is = ap (map (or_null f)) is ∙ map-map (or_null f) (λ p. get_or xs p None) ps
    ∙ map_agree (λ p. or_null f (get_or xs p None)) (λ p. cell (row_at rs p) k) (λ p. sym (value-beyond f xs p) ∙ ap (λ (vs : List Value). get_or vs p value.Null) all ∙ column-at rs k p) ps
