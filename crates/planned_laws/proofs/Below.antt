-- Lists of columns below a number.
use Rattle.std.specs.Prelude.{nat_lt}
use Rattle.std.proofs.Common.{ℕ, zero, suc, ◌≡◌, ◌+◌, ◌<◌, ◌≤◌, refl, ap, cond, Bool, true, false, Option, Some, None, List, [], ◌∷◌, ◌++◌, length, arith}
use Rattle.std.proofs.lemmas.List.{length-map}
use Rattle.std.proofs.lemmas.Bool.{lt-ltb}
use Rattle.dfx_value.specs.declared.rows.SortKey.{SortKey}
use Rattle.scalar_exprs.specs.declared.expr.Expr.{Expr}
use Rattle.physical_plan.specs.Facts.{fact_of}
use Rattle.physical_plan.specs.Properties.{Renaming, key_before, keys_renamed, place_from, place_in, is_column, item_columns}
use Rattle.physical_plan.specs.Numbers.{numbers_from, numbers}
use Rattle.physical_plan.proofs.Everywhere.{both_true, and_parts}
use Rattle.planned_laws.specs.Ranges.{are_below, key_columns}

pub below_append : (w : ℕ) (cs ds : List ℕ) → are_below w cs ≡ true → are_below w ds ≡ true → are_below w (cs ++ ds) ≡ true
below_append w [] ds h i = i
below_append w (c ∷ cs) ds h i = let a = and_parts (nat_lt c w) (are_below w cs) h in both_true _ _ a.0 (below_append w cs ds a.1 i)

pub below_split : (w : ℕ) (cs ds : List ℕ) → are_below w (cs ++ ds) ≡ true → (are_below w cs ≡ true) × (are_below w ds ≡ true)
below_split w [] ds h = (refl, h)
below_split w (c ∷ cs) ds h = let a = and_parts (nat_lt c w) (are_below w (cs ++ ds)) h in let b = below_split w cs ds a.1 in (both_true _ _ a.0 b.0, b.1)

-- ---- new places

place_below : (os : List (Option ℕ)) (at c d : ℕ) → place_from at os c ≡ Some d → d < at + length os
place_below [] at c d e = cc
place_below (o ∷ os) at c d e = go (λ q. place_below os (at + 1) c d q) (is_column o c) e
  where
    go : (place_from (at + 1) os c ≡ Some d → d < at + 1 + length os) → (b : Bool) → cond {A = Option ℕ} b (Some at) (place_from (at + 1) os c) ≡ Some d → d < at + suc (length os)
    go f true p = let q : at ≡ d = cc in omega arith
    go f false p = let q = f p in omega arith

renamed_below : (w : ℕ) (f : Renaming) → ((c d : ℕ) → f c ≡ Some d → d < w) → (keys : List SortKey) → are_below w (key_columns (keys_renamed f keys)) ≡ true
renamed_below w f below [] = refl
renamed_below w f below (k ∷ ks) = go (renamed_below w f below ks) (f k.column) refl
  where
    go : are_below w (key_columns (keys_renamed f ks)) ≡ true → (o : Option ℕ) → f k.column ≡ o → are_below w (key_columns (key_before k o (keys_renamed f ks))) ≡ true
    go more None e = refl
    go more (Some d) e = both_true _ _ (lt-ltb d w (below k.column d e)) more

-- the keys of an order that are items stand below their number
pub projected_below : (es : List Expr) (keys : List SortKey) → are_below (length es) (key_columns (keys_renamed (place_in (item_columns es)) keys)) ≡ true
projected_below es keys = renamed_below (length es) (place_in (item_columns es)) below keys
  where
    below : (c d : ℕ) → place_in (item_columns es) c ≡ Some d → d < length es
    below c d e = let a = place_below (item_columns es) 0 c d e in let b = length-map es (λ (x : Expr). (fact_of x).column) in omega arith

-- ---- the first numbers

numbers_below : (n at w : ℕ) → at + n ≤ w → are_below w (numbers_from at n) ≡ true
numbers_below zero at w h = refl
numbers_below (suc n) at w h = both_true _ _ (lt-ltb at w (omega arith)) (numbers_below n (at + 1) w (omega arith))

-- so many columns and more
pub first_below : (n m : ℕ) → are_below (n + m) (numbers n) ≡ true
first_below n m = numbers_below n 0 (n + m) (omega arith)

-- all of them
pub all_below : (n : ℕ) → are_below n (numbers n) ≡ true
all_below n = numbers_below n 0 n (omega arith)

pub numbers_length : (n at : ℕ) → length (numbers_from at n) ≡ n
numbers_length zero at = refl
numbers_length (suc n) at = ap suc (numbers_length n (at + 1))
