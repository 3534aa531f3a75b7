-- For each column the first key that is its name.
use Rattle.std.proofs.Common.{◌≡◌, refl, sym, ap, subst, ◌∙◌, ℕ, zero, suc, ◌+◌, ◌<◌, cond, Bool, true, false, Option, Some, None, IfSome, List, [], ◌∷◌, length, replicate, set, get_or, nat_eq, Ok, arith}
use Rattle.std.proofs.lemmas.Bool.{eqb-true, eqb-false}
use Rattle.std.proofs.lemmas.List.{get_or-set_other, length-set, length-replicate}
use Rattle.std.proofs.lemmas.Grind.{get_or-set_at}
use Rattle.sql_grammar.specs.declared.ast.ExprAst.{ExprAst}
use Rattle.typed_exprs.specs.declared.refusal.Why.TheVariants as why
use Rattle.typed_exprs.specs.declared.scope.Column.{Column}
use Rattle.typed_exprs.specs.Answer.{Answer, refuse_if}
use Rattle.typed_exprs.specs.Scopes.{Columns, is_named, is_unknown, with_if, numbers_from, numbers, the_one, column_of}
use Rattle.expr_binder.specs.Groups.{Groups}
use Rattle.sql_binder.specs.Firsts.{number_of, column_named, with_first, firsts_from}
use Rattle.sql_binder.specs.Items.{is_column, key_from}

-- ---- a name names one of the columns

numbers_within : (is : Column → Bool) (cs : Columns) (m j : ℕ) (ks : List ℕ) → numbers_from is m cs ≡ j ∷ ks → j < m + length cs
numbers_within is [] m j ks h = cc
numbers_within is (c ∷ cs) m j ks h = go (is c) h (numbers_within is cs (suc m) j ks)
  where
    go : (b : Bool) → with_if b m (numbers_from is (suc m) cs) ≡ j ∷ ks → (numbers_from is (suc m) cs ≡ j ∷ ks → j < suc m + length cs) → j < m + length (c ∷ cs)
    go true e f = let s : m ≡ j = cc in omega arith
    go false e f = let s = f e in omega arith

one_within : (b : Bool) (ks : List ℕ) (n : ℕ) → ((j : ℕ) (js : List ℕ) → ks ≡ j ∷ js → j < n) → IfSome (number_of (refuse_if b why.UnknownTable 0 (the_one 0 ks))) (λ j. j < n)
one_within true ks n f = tt
one_within false [] n f = tt
one_within false (k ∷ []) n f = f k [] refl
one_within false (k ∷ l ∷ ks) n f = tt

some_within : (cs : Columns) (p : Option (List ℕ)) (a : List ℕ) → IfSome (number_of (column_of cs 0 p a)) (λ j. j < length cs)
some_within cs p a = one_within (is_unknown p cs) (numbers (is_named p a) cs) (length cs) (λ j js h. let s = numbers_within (is_named p a) cs 0 j js h in omega arith)

pub named_within : (cs : Columns) (p : Option (List ℕ)) (a : List ℕ) (k : ℕ) → Ok k ≡ column_of cs 0 p a → k < length cs
named_within cs p a k h = subst (λ (found : Answer ℕ). IfSome (number_of found) (λ j. j < length cs)) (sym h) (some_within cs p a)

-- ---- which column an expression is

abbrev is_number : ℕ → Option ℕ → Bool
is_number k None = false
is_number k (Some j) = nat_eq k j

is_named_column : (cs : Columns) (k : ℕ) (e : ExprAst) → is_column cs k e ≡ is_number k (column_named cs e)
unfolding is_column
is_named_column cs k e = grind arith

-- ---- the first keys

firsts_long : (cs : Columns) (at : ℕ) (es : List ExprAst) → length (firsts_from cs at es) ≡ length cs
firsts_long cs at [] = length-replicate (length cs) None
firsts_long cs at (e ∷ es) = go (column_named cs e) ∙ firsts_long cs (suc at) es
  where
    go : (o : Option ℕ) → length (with_first o at (firsts_from cs (suc at) es)) ≡ length (firsts_from cs (suc at) es)
    go None = refl
    go (Some j) = length-set (firsts_from cs (suc at) es) j (Some at)

blank : (n k : ℕ) → get_or {A = Option ℕ} (replicate n None) k None ≡ None
blank zero k = refl
blank (suc n) zero = refl
blank (suc n) (suc k) = blank n k

-- the first key that is column k
pub first_is : (cs : Columns) (k at : ℕ) (es : List ExprAst) → k < length cs → get_or (firsts_from cs at es) k None ≡ key_from cs k at es
first_is cs k at [] h = blank (length cs) k
first_is cs k at (e ∷ es) h =
    go (column_named cs e) (first_is cs k (suc at) es h)
    ∙ ap (λ (b : Bool). cond b (Some at) (key_from cs k (suc at) es)) (sym (is_named_column cs k e))
  where
    go : (o : Option ℕ) → get_or (firsts_from cs (suc at) es) k None ≡ key_from cs k (suc at) es
        → get_or (with_first o at (firsts_from cs (suc at) es)) k None ≡ cond (is_number k o) (Some at) (key_from cs k (suc at) es)
    go None i = i
    go (Some j) i = here (nat_eq k j) refl
      where
        here : (b : Bool) → nat_eq k j ≡ b → get_or (set (firsts_from cs (suc at) es) j (Some at)) k None ≡ cond b (Some at) (key_from cs k (suc at) es)
        here true e = let s = eqb-true k j e in let l = firsts_long cs (suc at) es in get_or-set_at (firsts_from cs (suc at) es) j k (Some at) None s (omega arith)
        here false e = get_or-set_other (firsts_from cs (suc at) es) j k (Some at) None (eqb-false k j e) ∙ i

pub first_of : (cs : Columns) (groups : Option Groups) (firsts : List (Option ℕ)) (k : ℕ) → IfSome groups (λ g. firsts ≡ firsts_from cs 0 g.keys) → k < length cs
    → IfSome groups (λ g. get_or firsts k None ≡ key_from cs k 0 g.keys)
first_of cs None firsts k h w = tt
first_of cs (Some g) firsts k h w = ap (λ (fs : List (Option ℕ)). get_or fs k None) h ∙ first_is cs k 0 g.keys w
