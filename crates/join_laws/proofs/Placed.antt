-- Rows in the partition of the hash of their keys.
use Rattle.std.proofs.Common.{ℕ, ◌%◌, ◌<◌, ◌≡◌, sym, ap, ◌∙◌, subst, List, [], ◌∷◌, true, not, ◌&&◌, arith}
use Rattle.std.specs.Cmp.{Equal-is}
use Rattle.std.proofs.lemmas.Bool.{and_parts}
use Rattle.dfx_value.specs.Order.{value_cmp}
use Rattle.dfx_value.specs.Rows.{cell, cells_at}
use Rattle.scalar_exprs.specs.Groups.{same_value}
use Rattle.scalar_exprs.specs.Truth.{is_null}
use Rattle.logical_plan.specs.Items.{Cells, Item, rows}
use Rattle.logical_plan.specs.Joins.{cells_match, keys_match}
use Rattle.plan_props.specs.Meets.{Each, AllEqual, IsHash, Hashing, Places}
use Rattle.physical_plan.specs.Properties.{left_keys, right_keys}
use Rattle.content_laws.specs.Bags.{row_parts}
use Rattle.content_laws.proofs.Items.{row_parts_at}
use Rattle.join_laws.specs.Joining.{AreMatched}
use Rattle.join_laws.proofs.Items.{each_more, each_all}

pub match_equal : (keys : List (ℕ × ℕ)) (l r : Cells) → keys_match keys l r ≡ true → AllEqual (cells_at (left_keys keys) l) (cells_at (right_keys keys) r)
match_equal [] l r e = tt
match_equal (key ∷ keys) l r e =
    let p = and_parts (cells_match (cell l key.0) (cell r key.1)) (keys_match keys l r) e in
    let q = and_parts (not (is_null (cell l key.0)) && not (is_null (cell r key.1))) (same_value (cell l key.0) (cell r key.1)) p.0 in
    ((Equal-is (value_cmp (cell l key.0) (cell r key.1))).0 q.1, match_equal keys l r p.1)

placed_rows : (h : Hashing) (columns : List ℕ) (n i : ℕ) (parts : ℕ → List Item) → i < n → Places h columns n (row_parts n parts) → Each (λ r. h (cells_at columns r) % n ≡ i) (rows (parts i))
placed_rows h columns n i parts l p = subst (Each (λ r. h (cells_at columns r) % n ≡ i)) (row_parts_at n i parts l) (p.place i)

pub placed : (h : Hashing) (keys : List (ℕ × ℕ)) (n : ℕ) (lefts rights : ℕ → List Item) → IsHash h
    → Places h (left_keys keys) n (row_parts n lefts) → Places h (right_keys keys) n (row_parts n rights) → AreMatched keys n lefts rights
placed h keys n lefts rights hash left right = λ i j l m.
    each_more (λ l. h (cells_at (left_keys keys) l) % n ≡ i) (λ l. Each (λ r. keys_match keys l r ≡ true → i ≡ j) (rows (rights j)))
    (λ l e. each_more (λ r. h (cells_at (right_keys keys) r) % n ≡ j) (λ r. keys_match keys l r ≡ true → i ≡ j)
    (λ r f k. sym e ∙ (ap (λ m. m % n) (hash.agrees (cells_at (left_keys keys) l) (cells_at (right_keys keys) r) (match_equal keys l r k)) ∙ f)) (rows (rights j)) (placed_rows h (right_keys keys) n j rights m right))
    (rows (lefts i)) (placed_rows h (left_keys keys) n i lefts l left)

pub single : (keys : List (ℕ × ℕ)) (lefts rights : ℕ → List Item) → AreMatched keys 1 lefts rights
single keys lefts rights = λ i j a b.
    each_all (λ l. Each (λ r. keys_match keys l r ≡ true → i ≡ j) (rows (rights j)))
    (λ l. each_all (λ r. keys_match keys l r ≡ true → i ≡ j) (λ r e. omega arith) (rows (rights j))) (rows (lefts i))
