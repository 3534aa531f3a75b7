-- Meaning: phrases, which are relations between a value and the tokens that spell it.
--
-- `P n a m ts`: where n operators (or table references) were counted before, the tokens ts spell a, and m are counted then.
use Rattle.std.specs.Prelude.{◌≡◌, ℕ, zero, suc, ◌+◌, nat_le, List, [], ◌∷◌, ◌++◌, Bool, true, Option, Some, None, ◌⊎◌}
use Rattle.sql_grammar.specs.declared.class.Class.{Class}
use Rattle.sql_grammar.specs.Class.{Token, Tokens, among}

abbrev pub Phrase : Type 0 → Type 1
Phrase A = ℕ → A → ℕ → Tokens → Type 0

-- a token that passes the test
abbrev pub Matching : (Token → Bool) → Phrase Token
Matching passes n t m ts = (ts ≡ t ∷ []) × (passes t ≡ true) × (m ≡ n)

-- a token of one of these classes
abbrev pub Terminal : List Class → Phrase Token
Terminal cs = Matching (λ t. among t.class cs)

-- one phrase, and then one that may hang on the first's value
pub record Then {A B : Type 0} (P : Phrase A) (Q : A → Phrase B) (n : ℕ) (b : B) (m : ℕ) (ts : Tokens) : Type 0 where
  pub first : A
  pub middle : ℕ
  pub front : Tokens
  pub back : Tokens
  pub is : ts ≡ front ++ back
  pub left : P n first middle front
  pub right : Q first middle b m back

-- no token; the value is this one
abbrev pub Empty : {A : Type 0} → A → Phrase A
Empty a n b m ts = (ts ≡ []) × (b ≡ a) × (m ≡ n)

-- no token; the value is how many were counted so far
abbrev pub Count : Phrase ℕ
Count n k m ts = (ts ≡ []) × (k ≡ n) × (m ≡ n)

abbrev pub Never : {A : Type 0} → Phrase A
Never n a m ts = ⊥

abbrev pub Either : {A : Type 0} → Phrase A → Phrase A → Phrase A
Either P Q n a m ts = P n a m ts ⊎ Q n a m ts

-- so many turns, each from what the one before left
abbrev pub Times : {S : Type 0} → ℕ → (S → Phrase S) → S → Phrase S
Times zero P s = Empty s
Times (suc k) P s = Then (P s) (λ next. Times k P next)

-- none or more
abbrev pub Turns : {S : Type 0} → (S → Phrase S) → S → Phrase S
Turns P s n end m ts = (k : ℕ) × Times k P s n end m ts

-- so many at most
abbrev pub UpTo : {S : Type 0} → ℕ → (S → Phrase S) → S → Phrase S
UpTo zero P s = Empty s
UpTo (suc k) P s = Either (Then (P s) (λ next. UpTo k P next)) (Empty s)

-- ---- limits

-- a limit, or none
abbrev pub Limit : Type 0
Limit = Option ℕ

abbrev pub fits : Limit → ℕ → Bool
fits None n = true
fits (Some most) n = nat_le n most

-- a phrase that counts k more, for which there is room
abbrev pub Charge : {A : Type 0} → Limit → ℕ → Phrase A → Phrase A
Charge limit k P n a m ts = (fits limit (n + k) ≡ true) × P (n + k) a m ts

-- a phrase of its own, in which the count begins anew
abbrev pub Apart : {A : Type 0} → Phrase A → Phrase A
Apart P n a m ts = (m ≡ n) × ((own : ℕ) × P 0 a own ts)

-- what is nested, where there is room for a level
abbrev pub Inside : {A : Type 0} → ℕ → Phrase A → Phrase A
Inside zero P = Never
Inside (suc d) P = P
