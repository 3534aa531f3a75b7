-- Quotes in the text of a constant.
use Rattle.std.proofs.Common.{◌≡◌, ℕ, ◌≤◌, ◌==◌, refl, ap, ◌∙◌, Bool, true, false, List, [], ◌∷◌, ◌++◌, cond, arith}
use Rattle.std.specs.Char.{encode_utf8}
use Rattle.plan_text.specs.ExprText.{doubled}

at_quote : (bs : List ℕ) → doubled (39 ∷ bs) ≡ 39 ∷ 39 ∷ doubled bs
at_quote bs = refl

no_quote : (b : ℕ) → (b ≡ 39 → ⊥) → (b == 39) ≡ false
no_quote b n = grind arith

at_other : (b : ℕ) (bs : List ℕ) → (b ≡ 39 → ⊥) → doubled (b ∷ bs) ≡ b ∷ doubled bs
at_other b bs n = rw (no_quote b n) refl

after_byte : (x : ℕ) (t : Bool) (a b s : List ℕ) → s ≡ doubled a ++ doubled b → cond t (39 ∷ 39 ∷ s) (x ∷ s) ≡ cond t (39 ∷ 39 ∷ doubled a) (x ∷ doubled a) ++ doubled b
after_byte x true a b s e = ap (λ (s : List ℕ). 39 ∷ 39 ∷ s) e
after_byte x false a b s e = ap (λ (s : List ℕ). x ∷ s) e

pub doubled-append : (a b : List ℕ) → doubled (a ++ b) ≡ doubled a ++ doubled b
doubled-append [] b = refl
doubled-append (x ∷ a) b = after_byte x (x == 39) a b (doubled (a ++ b)) (doubled-append a b)

-- a quote, doubled
pub quote_twice : (c : ℕ) → c ≡ 39 → doubled (encode_utf8 c) ≡ 39 ∷ 39 ∷ []
unfolding encode_utf8
quote_twice c e = rw e refl

two : (a b : ℕ) → 128 ≤ a → 128 ≤ b → doubled (a ∷ b ∷ []) ≡ a ∷ b ∷ []
two a b h k = at_other a (b ∷ []) (λ e. omega arith) ∙ ap (λ (s : List ℕ). a ∷ s) (at_other b [] (λ e. omega arith))

three : (a b c : ℕ) → 128 ≤ a → 128 ≤ b → 128 ≤ c → doubled (a ∷ b ∷ c ∷ []) ≡ a ∷ b ∷ c ∷ []
three a b c h k l = at_other a (b ∷ c ∷ []) (λ e. omega arith) ∙ ap (λ (s : List ℕ). a ∷ s) (two b c k l)

four : (a b c d : ℕ) → 128 ≤ a → 128 ≤ b → 128 ≤ c → 128 ≤ d → doubled (a ∷ b ∷ c ∷ d ∷ []) ≡ a ∷ b ∷ c ∷ d ∷ []
four a b c d h k l m = at_other a (b ∷ c ∷ d ∷ []) (λ e. omega arith) ∙ ap (λ (s : List ℕ). a ∷ s) (three b c d k l m)

-- no other character has the byte of a quote
pub other_once : (c : ℕ) → (c ≡ 39 → ⊥) → doubled (encode_utf8 c) ≡ encode_utf8 c
unfolding encode_utf8
other_once c n = grind (arith, two, three, four, at_other)
