-- The kinds of the rows of a join, and that they are those of its node.
use Rattle.std.proofs.Common.{ℕ, ◌<◌, ◌≤◌, ◌≡◌, ◌⊎◌, inl, inr, refl, sym, ◌∙◌, subst, List, [], ◌∷◌, ◌++◌, length, Option, Bool, true, false, not, ◌&&◌, arith}
use Rattle.std.specs.List.{list_all, AllPass}
use Rattle.std.specs.Cmp.{Equal-is}
use Rattle.std.proofs.lemmas.Bool.{true≢false, and_parts, and_from, not-true, cases_lt}
use Rattle.std.proofs.lemmas.List.{get_or_past}
use Rattle.std.proofs.lemmas.List.Sums.{list_all-from_AllPass, AllPass-from_list_all}
use Rattle.dfx_value.specs.Kinds.{is_of, are_of}
use Rattle.dfx_value.specs.Rows.{cell}
use Rattle.dfx_value.specs.declared.kind.Kind.{Kind}
use Rattle.dfx_value.specs.declared.op.JoinKind.{JoinKind}
use Rattle.dfx_value.specs.declared.op.JoinKind.TheVariants.{Inner, Left, Right, Full}
use Rattle.dfx_value.specs.declared.value.Value.{Value}
use Rattle.dfx_value.specs.declared.value.Value.TheVariants as value
use Rattle.scalar_exprs.specs.declared.expr.Expr.{Expr}
use Rattle.scalar_exprs.specs.Groups.{same_value}
use Rattle.scalar_exprs.specs.Truth.{is_null}
use Rattle.logical_plan.specs.Items.{Cells, Item, rows}
use Rattle.logical_plan.specs.Joins.{cells_match, keys_match, nulls}
use Rattle.plan_props.specs.Meets.{Row, Each, part}
use Rattle.node_laws.specs.NodeRows.{Holds, Matches, InnerRow, Joined}
use Rattle.node_laws.specs.Nodes.{JoinRow}
use Rattle.content_laws.specs.Bags.{row_parts}
use Rattle.content_laws.proofs.Items.{length-row_parts, row_parts_at}
use Rattle.node_laws.proofs.Weavings.{own_rows}
use Rattle.join_laws.specs.Joining.{join_items}
use Rattle.join_laws.proofs.Given.{given}

-- ---- kinds

are_of-append : (ks js : List Kind) (l r : Cells) → are_of ks l ≡ true → are_of js r ≡ true → are_of (ks ++ js) (l ++ r) ≡ true
are_of-append [] js [] r h k = k
are_of-append [] js (v ∷ l) r h k = absurd (true≢false (sym h))
are_of-append (j ∷ ks) js [] r h k = absurd (true≢false (sym h))
are_of-append (j ∷ ks) js (v ∷ l) r h k = let p = and_parts (is_of j v) (are_of ks l) h in and_from _ _ p.0 (are_of-append ks js l r p.1 k)

-- NULL is of every kind
nulls_fit : (ks : List Kind) → are_of ks (nulls (length ks)) ≡ true
nulls_fit [] = refl
nulls_fit (k ∷ ks) = nulls_fit ks

each_pass : (test : Cells → Bool) (xs : List Cells) → AllPass test xs → Each (λ r. test r ≡ true) xs
each_pass test xs h = by xs (list_all-from_AllPass test xs h)
  where
    by : (ys : List Cells) → list_all test ys ≡ true → Each (λ r. test r ≡ true) ys
    by [] e = tt
    by (y ∷ ys) e = let p = and_parts (test y) (list_all test ys) e in (p.0, by ys p.1)

all_pass : (test : Cells → Bool) (xs : List Cells) → Each (λ r. test r ≡ true) xs → AllPass test xs
all_pass test xs h = AllPass-from_list_all test xs (by xs h)
  where
    by : (ys : List Cells) → Each (λ r. test r ≡ true) ys → list_all test ys ≡ true
    by [] e = refl
    by (y ∷ ys) e = and_from _ _ e.0 (by ys e.1)

pub rows_fit : (kind : JoinKind) (left right : List Kind) (keys : List (ℕ × ℕ)) (rest : Option Expr) (ls rs : List Item) → AllPass (are_of left) (rows ls) → AllPass (are_of right) (rows rs)
    → AllPass (are_of (left ++ right)) (rows (join_items kind (length left) (length right) keys rest ls rs))
rows_fit kind left right keys rest ls rs h k =
    all_pass (are_of (left ++ right)) (rows (join_items kind (length left) (length right) keys rest ls rs))
    (given (λ r. are_of (left ++ right) r ≡ true) (λ r. are_of left r ≡ true) (λ r. are_of right r ≡ true) kind (length left) (length right) keys rest
    (λ l r a b m. are_of-append left right l r a b) (λ e l a. are_of-append left right l (nulls (length right)) a (nulls_fit right)) (λ e r b. are_of-append left right (nulls (length left)) r (nulls_fit left) b)
    ls rs (each_pass (are_of left) (rows ls) h) (each_pass (are_of right) (rows rs) k))

-- ---- rows of the node

pub match_holds : (keys : List (ℕ × ℕ)) (l r : Cells) → keys_match keys l r ≡ true → Matches keys l r
match_holds [] l r e = tt
match_holds (key ∷ keys) l r e =
    let p = and_parts (cells_match (cell l key.0) (cell r key.1)) (keys_match keys l r) e in
    let q = and_parts (not (is_null (cell l key.0)) && not (is_null (cell r key.1))) (same_value (cell l key.0) (cell r key.1)) p.0 in
    let n = and_parts (not (is_null (cell l key.0))) (not (is_null (cell r key.1))) q.0 in
    ((Equal-is _).0 q.1, not-true (is_null (cell l key.0)) n.0, match_holds keys l r p.1)

module _ (keys : List (ℕ × ℕ)) (left_width right_width : ℕ) (rest : Option Expr) (ls rs : List Item) where
  inner : (l r : Cells) → Holds (rows ls) l → Holds (rows rs) r → keys_match keys l r ≡ true → InnerRow keys (rows ls) (rows rs) (l ++ r)
  inner l r h k m = (l, r, h, k, match_holds keys l r m, refl)

  pub rows_are : (kind : JoinKind) → Each (JoinRow kind keys left_width right_width (rows ls) (rows rs)) (rows (join_items kind left_width right_width keys rest ls rs))
  rows_are Inner = given (JoinRow Inner keys left_width right_width (rows ls) (rows rs)) (Holds (rows ls)) (Holds (rows rs)) Inner left_width right_width keys rest
      inner (λ e l h. absurd (true≢false (sym e))) (λ e r h. absurd (true≢false (sym e))) ls rs (own_rows (rows ls)) (own_rows (rows rs))
  rows_are Left = given (JoinRow Left keys left_width right_width (rows ls) (rows rs)) (Holds (rows ls)) (Holds (rows rs)) Left left_width right_width keys rest
      (λ l r h k m. inl (inner l r h k m)) (λ e l h. inr (l, h, refl)) (λ e r h. absurd (true≢false (sym e))) ls rs (own_rows (rows ls)) (own_rows (rows rs))
  rows_are Right = given (JoinRow Right keys left_width right_width (rows ls) (rows rs)) (Holds (rows ls)) (Holds (rows rs)) Right left_width right_width keys rest
      (λ l r h k m. inl (inner l r h k m)) (λ e l h. absurd (true≢false (sym e))) (λ e r h. inr (r, h, refl)) ls rs (own_rows (rows ls)) (own_rows (rows rs))
  rows_are Full = given (JoinRow Full keys left_width right_width (rows ls) (rows rs)) (Holds (rows ls)) (Holds (rows rs)) Full left_width right_width keys rest
      (λ l r h k m. inl (inl (inner l r h k m))) (λ e l h. inr (l, h, refl)) (λ e r h. inl (inr (r, h, refl))) ls rs (own_rows (rows ls)) (own_rows (rows rs))

pub parts_are : (kind : JoinKind) (left_width right_width : ℕ) (keys : List (ℕ × ℕ)) (rest : Option Expr) (n : ℕ) (lefts rights : ℕ → List Item)
    → Joined (JoinRow kind keys left_width right_width) (row_parts n lefts) (row_parts n rights) (row_parts n (λ i. join_items kind left_width right_width keys rest (lefts i) (rights i)))
parts_are kind left_width right_width keys rest n lefts rights = record {
  count = length-row_parts n (λ i. join_items kind left_width right_width keys rest (lefts i) (rights i)) ∙ sym (length-row_parts n lefts);
  rows = λ j. by j (cases_lt j n);
}
  where
    out : ℕ → List Item
    out i = join_items kind left_width right_width keys rest (lefts i) (rights i)

    by : (j : ℕ) → (j < n) ⊎ (n ≤ j) → Each (JoinRow kind keys left_width right_width (part (row_parts n lefts) j) (part (row_parts n rights) j)) (part (row_parts n out) j)
    by j (inl l) =
        subst (Each (JoinRow kind keys left_width right_width (part (row_parts n lefts) j) (part (row_parts n rights) j))) (sym (row_parts_at n j out l))
        (subst (λ (zs : List Row). Each (JoinRow kind keys left_width right_width zs (part (row_parts n rights) j)) (rows (out j))) (sym (row_parts_at n j lefts l))
        (subst (λ (zs : List Row). Each (JoinRow kind keys left_width right_width (rows (lefts j)) zs) (rows (out j))) (sym (row_parts_at n j rights l))
        (rows_are keys left_width right_width rest (lefts j) (rights j) kind)))
    by j (inr l) =
        let e : length (row_parts n out) ≡ n = length-row_parts n out in
        subst (Each (JoinRow kind keys left_width right_width (part (row_parts n lefts) j) (part (row_parts n rights) j))) (sym (get_or_past (row_parts n out) j [] (omega arith))) tt
