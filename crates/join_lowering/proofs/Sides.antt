-- Which sides were used, column by column.
use Rattle.std.specs.Prelude.{nat_lt, nat_le}
use Rattle.std.specs.List.{list_any}
use Rattle.std.proofs.Common.{ℕ, ◌≡◌, ◌+◌, ◌<◌, ◌≤◌, refl, sym, ap, ◌∙◌, Bool, true, false, ◌||◌, List, [], ◌∷◌, ◌++◌, length, get_or, drop}
use Rattle.std.proofs.lemmas.List.{at_drop_all, at_drop_more}
use Rattle.scalar_exprs.specs.declared.expr.Expr.{Expr}
use Rattle.join_lowering.specs.declared.uses.Uses.{Uses}
use Rattle.join_lowering.specs.Keys.{columns}
use Rattle.join_lowering.specs.SidesUsed.{with_columns, arm_columns, all_columns}

or_none : (a : Bool) → (a || false) ≡ a
or_none true = refl
or_none false = refl

or_more : (a b c : Bool) → (a || (b || c)) ≡ ((a || b) || c)
or_more true b c = refl
or_more false b c = refl

any_more : (f : ℕ → Bool) (a : Bool) (xs ys : List ℕ) → (a || list_any f (xs ++ ys)) ≡ ((a || list_any f xs) || list_any f ys)
any_more f a [] ys = ap (λ (b : Bool). b || list_any f ys) (sym (or_none a))
any_more f true (x ∷ xs) ys = refl
any_more f false (x ∷ xs) ys = any_more f (f x) xs ys

pub sides_none : (w : ℕ) (u : Uses) → with_columns w u [] ≡ u
unfolding with_columns
sides_none w u = ap (λ (b : Bool). record { left = b; right = u.right || false }) (or_none u.left) ∙ ap (λ (b : Bool). record { left = u.left; right = b }) (or_none u.right)

pub sides_more : (w : ℕ) (u : Uses) (xs ys : List ℕ) → with_columns w u (xs ++ ys) ≡ with_columns w (with_columns w u xs) ys
unfolding with_columns
sides_more w u xs ys = ap (λ (b : Bool). record { left = b; right = u.right || list_any (λ c. nat_le w c) (xs ++ ys) }) (any_more (λ c. nat_lt c w) u.left xs ys) ∙ ap (λ (b : Bool). record { left = (u.left || list_any (λ c. nat_lt c w) xs) || list_any (λ c. nat_lt c w) ys; right = b }) (any_more (λ c. nat_le w c) u.right xs ys)

pub sides_no_arm : (w : ℕ) (u : Uses) → with_columns w u (arm_columns []) ≡ u
unfolding arm_columns
sides_no_arm w u = sides_none w u

pub sides_arm : (w : ℕ) (u : Uses) (arm : Expr × Expr) (arms : List (Expr × Expr)) → with_columns w u (arm_columns (arm ∷ arms)) ≡ with_columns w (with_columns w (with_columns w u (columns arm.0)) (columns arm.1)) (arm_columns arms)
unfolding arm_columns
sides_arm w u arm arms = sides_more w u (columns arm.0 ++ columns arm.1) (arm_columns arms) ∙ ap (λ (v : Uses). with_columns w v (arm_columns arms)) (sides_more w u (columns arm.0) (columns arm.1))

pub sides_no_expr : (w : ℕ) (u : Uses) → with_columns w u (all_columns []) ≡ u
unfolding all_columns
sides_no_expr w u = sides_none w u

pub sides_one : (w : ℕ) (u : Uses) (e : Expr) (es : List Expr) → with_columns w u (all_columns (e ∷ es)) ≡ with_columns w (with_columns w u (columns e)) (all_columns es)
unfolding all_columns
sides_one w u e es = sides_more w u (columns e) (all_columns es)

pub ruleset sides = (sides_none, sides_more)

-- ---- one turn of a loop, and its end

pub next_arm : (w : ℕ) (u : Uses) (arms : List (Expr × Expr)) (i : ℕ) (arm : Expr × Expr) → i < length arms → arm ≡ get_or arms i arm → with_columns w (with_columns w (with_columns w u (columns arm.0)) (columns arm.1)) (arm_columns (drop (i + 1) arms)) ≡ with_columns w u (arm_columns (drop i arms))
next_arm w u arms i arm within is =
    sym (sides_arm w u arm (drop (i + 1) arms))
    ∙ ap (λ (x : Expr × Expr). with_columns w u (arm_columns (x ∷ drop (i + 1) arms))) is
    ∙ sym (at_drop_more (λ (xs : List (Expr × Expr)). with_columns w u (arm_columns xs)) arms i arm within)

pub no_arm : (w : ℕ) (u : Uses) (arms : List (Expr × Expr)) (i : ℕ) → length arms ≤ i → u ≡ with_columns w u (arm_columns (drop i arms))
no_arm w u arms i past = sym (at_drop_all (λ (xs : List (Expr × Expr)). with_columns w u (arm_columns xs)) arms i past ∙ sides_no_arm w u)

pub next_expr : (w : ℕ) (u : Uses) (es : List Expr) (i : ℕ) (e : Expr) → i < length es → e ≡ get_or es i e → with_columns w (with_columns w u (columns e)) (all_columns (drop (i + 1) es)) ≡ with_columns w u (all_columns (drop i es))
next_expr w u es i e within is =
    sym (sides_one w u e (drop (i + 1) es))
    ∙ ap (λ (x : Expr). with_columns w u (all_columns (x ∷ drop (i + 1) es))) is
    ∙ sym (at_drop_more (λ (xs : List Expr). with_columns w u (all_columns xs)) es i e within)

pub no_expr : (w : ℕ) (u : Uses) (es : List Expr) (i : ℕ) → length es ≤ i → u ≡ with_columns w u (all_columns (drop i es))
no_expr w u es i past = sym (at_drop_all (λ (xs : List Expr). with_columns w u (all_columns xs)) es i past ∙ sides_no_expr w u)
