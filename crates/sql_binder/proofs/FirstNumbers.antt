-- The first of tests that others stand before or behind.
use Rattle.std.proofs.Common.{◌≡◌, refl, ap, sym, ◌∙◌, ℕ, suc, ◌+◌, Bool, true, false, cond, Option, Some, None, List, [], ◌∷◌, ◌++◌, length, arith, drop, get_or, ◌<◌, ◌≤◌}
use Rattle.std.specs.Prelude.{option_map}
use Rattle.std.proofs.lemmas.List.{drop_all, drop_more, length-map}
use Rattle.sql_grammar.specs.declared.ast.ExprAst.{ExprAst}
use Rattle.sql_grammar.specs.declared.ast.ItemAst.{ItemAst}
use Rattle.sql_grammar.specs.declared.ast.ItemAst.TheVariants as item
use Rattle.typed_exprs.specs.Scopes.{Columns}
use Rattle.sql_binder.specs.Orders.{first_from, tests_of, item_tests, number_in, number_from}
use Rattle.sql_binder.specs.Items.{given, is_column, width_of}

abbrev Tests : Type 0
Tests = List (ExprAst → Bool)

skip : (e : ExprAst) (j k : ℕ) (xs ys : Tests) → first_from j xs e ≡ None → first_from k (xs ++ ys) e ≡ first_from (k + length xs) ys e
skip e j k [] ys h = let z : k ≡ k + 0 = omega arith in ap (λ (n : ℕ). first_from n ys e) z
skip e j k (x ∷ xs) ys h = go (x e) h (λ g. skip e (suc j) (suc k) xs ys g) where
  go : (b : Bool) → cond b (Some j) (first_from (suc j) xs e) ≡ None → (first_from (suc j) xs e ≡ None → first_from (suc k) (xs ++ ys) e ≡ first_from (suc k + length xs) ys e) → cond b (Some k) (first_from (suc k) (xs ++ ys) e) ≡ first_from (k + suc (length xs)) ys e
  go true g more = (let z : Some j ≡ None = g in cc)
  go false g more = let z : suc k + length xs ≡ k + suc (length xs) = omega arith in more g ∙ ap (λ (n : ℕ). first_from n ys e) z

shift : (e : ExprAst) (k j : ℕ) (xs : Tests) → first_from (k + j) xs e ≡ option_map (λ (p : ℕ). k + p) (first_from j xs e)
shift e k j [] = refl
shift e k j (x ∷ xs) = go (x e) (shift e k (suc j) xs) where
  go : (b : Bool) → first_from (k + suc j) xs e ≡ option_map (λ (p : ℕ). k + p) (first_from (suc j) xs e) → cond b (Some (k + j)) (first_from (suc (k + j)) xs e) ≡ option_map (λ (p : ℕ). k + p) (cond b (Some j) (first_from (suc j) xs e))
  go true more = refl
  go false more = let z : suc (k + j) ≡ k + suc j = omega arith in ap (λ (n : ℕ). first_from n xs e) z ∙ more

ahead : (e : ExprAst) (k q : ℕ) (xs ys : Tests) → first_from k xs e ≡ Some q → first_from k (xs ++ ys) e ≡ Some q
ahead e k q [] ys h = (let z : None ≡ Some q = h in cc)
ahead e k q (x ∷ xs) ys h = go (x e) h (λ g. ahead e (suc k) q xs ys g) where
  go : (b : Bool) → cond b (Some k) (first_from (suc k) xs e) ≡ Some q → (first_from (suc k) xs e ≡ Some q → first_from (suc k) (xs ++ ys) e ≡ Some q) → cond b (Some k) (first_from (suc k) (xs ++ ys) e) ≡ Some q
  go true g more = g
  go false g more = more g

-- none of the front
behind_front : (e : ExprAst) (k : ℕ) (xs ys : Tests) → first_from 0 xs e ≡ None → first_from k (xs ++ ys) e ≡ first_from (k + length xs) ys e
behind_front e k xs ys h = skip e 0 k xs ys h

-- one of the front
in_front : (e : ExprAst) (k p : ℕ) (xs ys : Tests) → first_from 0 xs e ≡ Some p → first_from k (xs ++ ys) e ≡ Some (k + p)
in_front e k p xs ys h = let z : k ≡ k + 0 = omega arith in ahead e k (k + p) xs ys (ap (λ (n : ℕ). first_from n xs e) z ∙ shift e k 0 xs ∙ ap (option_map (λ (q : ℕ). k + q)) h)

number-end : (cs : Columns) (k : ℕ) (e : ExprAst) → number_from cs k [] e ≡ None
unfolding number_from
number-end cs k e = refl

-- an item has a test for each column that it gives
pub tests_length : (cs : Columns) (i : ItemAst) → length (tests_of cs i) ≡ width_of cs i
unfolding width_of
tests_length cs (item.All place) = length-map (given None cs) (is_column cs)
tests_length cs (item.AllOf alias place) = length-map (given (Some alias) cs) (is_column cs)
tests_length cs (item.One e name) = refl

number-passed : (cs : Columns) (k : ℕ) (i : ItemAst) (is : List ItemAst) (e : ExprAst) → number_in cs i e ≡ None → number_from cs k (i ∷ is) e ≡ number_from cs (k + width_of cs i) is e
unfolding number_from number_in
number-passed cs k i is e h = behind_front e k (tests_of cs i) (item_tests cs is) h
    ∙ ap (λ (n : ℕ). first_from (k + n) (item_tests cs is) e) (tests_length cs i)

number-found : (cs : Columns) (k p : ℕ) (i : ItemAst) (is : List ItemAst) (e : ExprAst) → number_in cs i e ≡ Some p → number_from cs k (i ∷ is) e ≡ Some (k + p)
unfolding number_from number_in
number-found cs k p i is e h = in_front e k p (tests_of cs i) (item_tests cs is) h

-- what is left from item n on
pub all_passed : (cs : Columns) (k n : ℕ) (is : List ItemAst) (e : ExprAst) → length is ≤ n → number_from cs k (drop n is) e ≡ None
all_passed cs k n is e h = ap (λ (xs : List ItemAst). number_from cs k xs e) (drop_all n is h) ∙ number-end cs k e

next : (is : List ItemAst) (n : ℕ) (i : ItemAst) → n < length is → i ≡ get_or is n i → drop n is ≡ i ∷ drop (n + 1) is
next is n i within at = drop_more is n i within ∙ ap (λ (x : ItemAst). x ∷ drop (n + 1) is) (sym at)

pub next_passed : (cs : Columns) (k n : ℕ) (i : ItemAst) (is : List ItemAst) (e : ExprAst) → n < length is → i ≡ get_or is n i → number_in cs i e ≡ None → number_from cs k (drop n is) e ≡ number_from cs (k + width_of cs i) (drop (n + 1) is) e
next_passed cs k n i is e within at h = ap (λ (xs : List ItemAst). number_from cs k xs e) (next is n i within at) ∙ number-passed cs k i (drop (n + 1) is) e h

pub next_found : (cs : Columns) (k n p : ℕ) (i : ItemAst) (is : List ItemAst) (e : ExprAst) → n < length is → i ≡ get_or is n i → number_in cs i e ≡ Some p → number_from cs k (drop n is) e ≡ Some (k + p)
next_found cs k n p i is e within at h = ap (λ (xs : List ItemAst). number_from cs k xs e) (next is n i within at) ∙ number-found cs k p i (drop (n + 1) is) e h

pub ruleset numbers = (all_passed, next_passed, next_found)
