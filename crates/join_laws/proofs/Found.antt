-- Looking keys up in a table of places.
use Rattle.std.proofs.Common.{ℕ, suc, ◌+◌, ◌<◌, ◌≤◌, ◌≡◌, refl, sym, ap, ◌∙◌, subst, cond, List, [], ◌∷◌, ◌++◌, length, Option, Some, unwrap_or, Bool, true, false, not, ◌&&◌, ◌||◌, arith}
use Rattle.std.specs.List.{flat_map, list_any, All}
use Rattle.std.proofs.lemmas.List.Elements.{All-nil, All-cons}
use Rattle.std.proofs.lemmas.List.{append-nil, append_assoc, get_or_at, length_push}
use Rattle.dfx_value.specs.Order.{value_cmp}
use Rattle.dfx_value.specs.Rows.{cell, cells_at}
use Rattle.dfx_value.specs.declared.value.Value.{Value}
use Rattle.dfx_value.specs.declared.value.Value.TheVariants as value
use Rattle.scalar_exprs.specs.declared.expr.Expr.{Expr}
use Rattle.scalar_exprs.specs.Groups.{same_keys, same_value}
use Rattle.scalar_exprs.specs.Truth.{is_null}
use Rattle.logical_plan.specs.Items.{Cells}
use Rattle.logical_plan.specs.Joins.{cells_match, keys_match, residual, right_pairs}
use Rattle.physical_plan.specs.Properties.{left_keys, right_keys}
use Rattle.key_laws.specs.Entries.{upsert, find}
use Rattle.key_laws.proofs.Found.{find-upsert}
use Rattle.join_laws.specs.Tables.{KeyPlaces, enter, entered, matches, places_of, row_at}

-- ---- all places of a key

abbrev pub goes_in : List ℕ → Cells → Cells → Bool
goes_in columns k l = not (list_any is_null (cells_at columns l)) && same_keys (cells_at columns l) k

found_from : (columns : List ℕ) (k : Cells) (t : KeyPlaces) (at : ℕ) (ls : List Cells) → unwrap_or (find (entered columns t at ls) k) [] ≡ unwrap_or (find t k) [] ++ places_of (goes_in columns k) at ls
found_from columns k t at [] = sym (append-nil (unwrap_or (find t k) []))
found_from columns k t at (l ∷ ls) =
    found_from columns k (enter columns t at l) (suc at) ls
    ∙ by (list_any is_null (cells_at columns l)) (same_keys (cells_at columns l) k) refl
  where
    opened : (c : Bool) → unwrap_or (cond c (Some (unwrap_or (find t k) [] ++ at ∷ [])) (find t k)) [] ++ places_of (goes_in columns k) (suc at) ls
        ≡ unwrap_or (find t k) [] ++ cond c (at ∷ places_of (goes_in columns k) (suc at) ls) (places_of (goes_in columns k) (suc at) ls)
    opened true = append_assoc (unwrap_or (find t k) []) (at ∷ []) (places_of (goes_in columns k) (suc at) ls)
    opened false = refl

    by : (b c : Bool) → same_keys (cells_at columns l) k ≡ c
        → unwrap_or (find (cond b t (upsert t (cells_at columns l) [] (λ places. places ++ at ∷ []))) k) [] ++ places_of (goes_in columns k) (suc at) ls
        ≡ unwrap_or (find t k) [] ++ cond (not b && c) (at ∷ places_of (goes_in columns k) (suc at) ls) (places_of (goes_in columns k) (suc at) ls)
    by true c e = refl
    by false c e =
        ap (λ o. unwrap_or o [] ++ places_of (goes_in columns k) (suc at) ls) (find-upsert t (cells_at columns l) k [] (λ places. places ++ at ∷ []) ∙ ap (λ b. cond b (Some (unwrap_or (find t k) [] ++ at ∷ [])) (find t k)) e)
        ∙ opened c

places_same : (p q : Cells → Bool) → ((l : Cells) → p l ≡ q l) → (at : ℕ) (ls : List Cells) → places_of p at ls ≡ places_of q at ls
places_same p q h at [] = refl
places_same p q h at (l ∷ ls) =
    ap (λ zs. cond (p l) (at ∷ zs) zs) (places_same p q h (suc at) ls) ∙ ap (λ b. cond b (at ∷ places_of q (suc at) ls) (places_of q (suc at) ls)) (h l)

-- ---- a match is a left key without NULL that is the same

one_match : (v x : Value) → cells_match v x ≡ not (is_null v) && same_value v x
unfolding value_cmp
one_match value.Null x = refl
one_match (value.Bool b) value.Null = by b
  where
    by : (b : Bool) → false ≡ same_value (value.Bool b) value.Null
    by true = refl
    by false = refl
one_match (value.Bool b) (value.Bool c) = refl
one_match (value.Bool b) (value.Int c) = refl
one_match (value.Bool b) (value.Dec c) = refl
one_match (value.Bool b) (value.Text c) = refl
one_match (value.Int b) value.Null = refl
one_match (value.Int b) (value.Bool c) = refl
one_match (value.Int b) (value.Int c) = refl
one_match (value.Int b) (value.Dec c) = refl
one_match (value.Int b) (value.Text c) = refl
one_match (value.Dec b) value.Null = refl
one_match (value.Dec b) (value.Bool c) = refl
one_match (value.Dec b) (value.Int c) = refl
one_match (value.Dec b) (value.Dec c) = refl
one_match (value.Dec b) (value.Text c) = refl
one_match (value.Text b) value.Null = refl
one_match (value.Text b) (value.Bool c) = refl
one_match (value.Text b) (value.Int c) = refl
one_match (value.Text b) (value.Dec c) = refl
one_match (value.Text b) (value.Text c) = refl

both_ands : (a s b t : Bool) → ((not a && s) && (not b && t)) ≡ (not (a || b) && (s && t))
both_ands true s b t = refl
both_ands false false true t = refl
both_ands false false false t = refl
both_ands false true b t = refl

pub match_is : (keys : List (ℕ × ℕ)) (l r : Cells) → goes_in (left_keys keys) (cells_at (right_keys keys) r) l ≡ keys_match keys l r
match_is [] l r = refl
match_is (key ∷ keys) l r =
    sym (both_ands (is_null (cell l key.0)) (same_value (cell l key.0) (cell r key.1)) (list_any is_null (cells_at (left_keys keys) l)) (same_keys (cells_at (left_keys keys) l) (cells_at (right_keys keys) r)))
    ∙ (ap (λ b. (not (is_null (cell l key.0)) && same_value (cell l key.0) (cell r key.1)) && b) (match_is keys l r)
    ∙ ap (λ b. b && keys_match keys l r) (sym (one_match (cell l key.0) (cell r key.1))))

-- the table tells the places of the left rows that match, in their order
pub matches_are : (keys : List (ℕ × ℕ)) (ls : List Cells) (r : Cells) → matches keys ls r ≡ places_of (λ l. keys_match keys l r) 0 ls
matches_are keys ls r = found_from (left_keys keys) (cells_at (right_keys keys) r) [] 0 ls ∙ places_same (goes_in (left_keys keys) (cells_at (right_keys keys) r)) (λ l. keys_match keys l r) (λ l. match_is keys l r) 0 ls

-- a table grows by rows
pub entered-append : (columns : List ℕ) (t : KeyPlaces) (at : ℕ) (ls more : List Cells) → entered columns t at (ls ++ more) ≡ entered columns (entered columns t at ls) (at + length ls) more
entered-append columns t at [] more = let e : at ≡ at + 0 = omega arith in ap (λ n. entered columns t n more) e
entered-append columns t at (l ∷ ls) more = let e : suc at + length ls ≡ at + suc (length ls) = omega arith in entered-append columns (enter columns t at l) (suc at) ls more ∙ ap (λ n. entered columns (entered columns (enter columns t at l) (suc at) ls) n more) e

-- ---- what a right row gives

pub longer : {A : Type 0} (xs : List A) (n : ℕ) (x : A) → length xs ≡ n → length (xs ++ x ∷ []) ≡ suc n
longer xs n x e = let a : length (xs ++ x ∷ []) ≡ length xs + 1 = length_push xs x in omega arith

-- rows at the places of those that pass
at_places : {X : Type 0} (give : Cells → List X) (test : Cells → Bool) (before ls : List Cells) (n : ℕ) → length before ≡ n
    → flat_map (λ at. give (row_at (before ++ ls) at)) (places_of test n ls) ≡ flat_map (λ l. cond (test l) (give l) []) ls
at_places give test before [] n e = refl
at_places {X} give test before (l ∷ ls) n e =
    by (test l) (subst (λ zs. flat_map (λ at. give (row_at zs at)) (places_of test (suc n) ls) ≡ flat_map (λ l. cond (test l) (give l) []) ls) (append_assoc before (l ∷ []) ls)
    (at_places give test (before ++ l ∷ []) ls (suc n) (longer before n l e)))
  where
    by : (b : Bool) → flat_map (λ at. give (row_at (before ++ l ∷ ls) at)) (places_of test (suc n) ls) ≡ flat_map (λ l. cond (test l) (give l) []) ls
        → flat_map (λ at. give (row_at (before ++ l ∷ ls) at)) (cond b (n ∷ places_of test (suc n) ls) (places_of test (suc n) ls)) ≡ cond b (give l) [] ++ flat_map (λ l. cond (test l) (give l) []) ls
    by true ih = ap (λ z. give z ++ flat_map (λ at. give (row_at (before ++ l ∷ ls) at)) (places_of test (suc n) ls)) (get_or_at before l ls [] n e) ∙ ap (λ zs. give l ++ zs) ih
    by false ih = ih

pub pairs_are : (keys : List (ℕ × ℕ)) (rest : Option Expr) (ls : List Cells) (r : Cells) → flat_map (λ at. residual rest (row_at ls at ++ r)) (matches keys ls r) ≡ right_pairs keys rest ls r
pairs_are keys rest ls r =
    ap (flat_map (λ at. residual rest (row_at ls at ++ r))) (matches_are keys ls r)
    ∙ at_places (λ l. residual rest (l ++ r)) (λ l. keys_match keys l r) [] ls 0 refl

-- they are places of left rows
places_within : (test : Cells → Bool) (at end : ℕ) (ls : List Cells) → at + length ls ≤ end → All (λ i. i < end) (places_of test at ls)
places_within test at end [] h = All-nil (λ i. i < end)
places_within test at end (l ∷ ls) h = by (test l) (places_within test (suc at) end ls (omega arith))
  where
    by : (b : Bool) → All (λ i. i < end) (places_of test (suc at) ls) → All (λ i. i < end) (cond b (at ∷ places_of test (suc at) ls) (places_of test (suc at) ls))
    by true ih = All-cons (λ i. i < end) at (places_of test (suc at) ls) (omega arith) ih
    by false ih = ih

pub matches_within : (keys : List (ℕ × ℕ)) (ls : List Cells) (r : Cells) → All (λ at. at < length ls) (matches keys ls r)
matches_within keys ls r = subst (All (λ at. at < length ls)) (sym (matches_are keys ls r)) (places_within (λ l. keys_match keys l r) 0 (length ls) ls (omega arith))
