-- One column more, and one key more.
use Rattle.std.proofs.Common.{ℕ, zero, suc, ◌≡◌, ◌+◌, sym, ap, ◌∙◌, List, [], ◌∷◌, ◌++◌, arith}
use Rattle.std.proofs.lemmas.List.{append-nil, append_assoc}
use Rattle.scalar_exprs.specs.declared.expr.Expr.{Expr}
use Rattle.scalar_exprs.specs.declared.expr.Expr.TheVariants.{Column}
use Rattle.join_lowering.specs.Lowering.{columns_from, keys_from}

columns_suc : (n c : ℕ) → columns_from c (suc n) ≡ columns_from c n ++ Column (c + n) ∷ []
unfolding columns_from
columns_suc zero c = let e : c + 0 ≡ c = omega arith in ap (λ (x : ℕ). Column x ∷ []) (sym e)
columns_suc (suc n) c = let e : c + suc n ≡ c + 1 + n = omega arith in ap (λ (es : List Expr). Column c ∷ es) (columns_suc n (c + 1)) ∙ ap (λ (x : ℕ). Column c ∷ columns_from (c + 1) n ++ Column x ∷ []) (sym e)

columns_next : (c n : ℕ) → columns_from c (n + 1) ≡ columns_from c n ++ Column (c + n) ∷ []
columns_next c n = let e : n + 1 ≡ suc n = omega arith in ap (columns_from c) e ∙ columns_suc n c

pub columns_none : (es : List Expr) (c : ℕ) → es ++ columns_from c 0 ≡ es
unfolding columns_from
columns_none es c = append-nil es

pub columns_push : (es : List Expr) (c n : ℕ) → es ++ columns_from c (n + 1) ≡ (es ++ columns_from c n) ++ Column (c + n) ∷ []
columns_push es c n = ap (λ (more : List Expr). es ++ more) (columns_next c n) ∙ sym (append_assoc es (columns_from c n) (Column (c + n) ∷ []))

pub ruleset counted = (columns_none, columns_push)

keys_suc : (n a b : ℕ) → keys_from a b (suc n) ≡ keys_from a b n ++ (a + n, b + n) ∷ []
keys_suc zero a b = let e : a + 0 ≡ a = omega arith in let f : b + 0 ≡ b = omega arith in ap (λ (x : ℕ). (x, b) ∷ []) (sym e) ∙ ap (λ (y : ℕ). (a + 0, y) ∷ []) (sym f)
keys_suc (suc n) a b =
    let e : a + suc n ≡ a + 1 + n = omega arith in
    let f : b + suc n ≡ b + 1 + n = omega arith in
    ap (λ (ks : List (ℕ × ℕ)). (a, b) ∷ ks) (keys_suc n (a + 1) (b + 1))
    ∙ ap (λ (x : ℕ). (a, b) ∷ keys_from (a + 1) (b + 1) n ++ (x, b + 1 + n) ∷ []) (sym e)
    ∙ ap (λ (y : ℕ). (a, b) ∷ keys_from (a + 1) (b + 1) n ++ (a + suc n, y) ∷ []) (sym f)

pub keys_push : (a b n : ℕ) → keys_from a b (n + 1) ≡ keys_from a b n ++ (a + n, b + n) ∷ []
keys_push a b n = let e : n + 1 ≡ suc n = omega arith in ap (keys_from a b) e ∙ keys_suc n a b
