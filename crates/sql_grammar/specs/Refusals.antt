-- Meaning: the first token with which tokens begin no phrase, and a token with which a limit is passed (any such one).
use Rattle.std.specs.Prelude.{◌≡◌, ℕ, List, [], ◌∷◌, ◌++◌, length, Result, Ok, Err}
use Rattle.sql_grammar.specs.declared.refused.SyntaxRefused.{SyntaxRefused}
use Rattle.sql_grammar.specs.declared.refused.SyntaxRefused.TheVariants as refused
use Rattle.sql_grammar.specs.Class.{Token, Tokens}
use Rattle.sql_grammar.specs.Phrase.{Phrase}

-- A family of phrases, each with wider limits than the one before: spelled within some limits.
abbrev pub Somewhere : {A : Type 0} → (ℕ → Phrase A) → A → Tokens → Type 0
Somewhere P a ts = (k : ℕ) × (m : ℕ) × P k 0 a m ts

-- The tokens from rest on are refused: those before them begin the phrase, and those with the first of them begin it no more, or the
-- tokens end too early. Limits are left aside.
pub record Refuses {A : Type 0} (P : ℕ → Phrase A) (ts rest : Tokens) : Type 0 where
  pub used : Tokens
  pub is : ts ≡ used ++ rest
  pub value : A
  pub more : Tokens
  pub begins : Somewhere P value (used ++ more)
  pub no_more : (t : Token) (behind others : Tokens) (a : A) → rest ≡ t ∷ behind → Somewhere P a (used ++ t ∷ others) → ⊥
  pub not_whole : (a : A) → rest ≡ [] → Somewhere P a ts → ⊥

-- With the first token of rest a limit is passed: the tokens with it begin the phrase, but within these limits they don't.
pub record Passes {A : Type 0} (P : ℕ → Phrase A) (k : ℕ) (ts rest : Tokens) : Type 0 where
  pub used : Tokens
  pub token : Token
  pub behind : Tokens
  pub at : rest ≡ token ∷ behind
  pub is : ts ≡ used ++ token ∷ behind
  pub value : A
  pub more : Tokens
  pub begins : Somewhere P value (used ++ token ∷ more)
  pub no_more : (others : Tokens) (a : A) (m : ℕ) → P k 0 a m (used ++ token ∷ others) → ⊥

-- ---- what a call answers

-- this is answered, or want of memory
abbrev pub Gives : {A : Type 0} → A → Result A SyntaxRefused → Type 0
Gives a (Ok x) = x ≡ a
Gives a (Err refused.NoMemory) = Unit {0}
Gives a (Err _) = ⊥

-- the place of the first token, or the text's length where there is none
abbrev pub place_of : List ℕ → Tokens → ℕ
place_of text [] = length text
place_of text (t ∷ ts) = t.place

pub record IsRefused {A : Type 0} (P : ℕ → Phrase A) (text : List ℕ) (ts : Tokens) (place : ℕ) : Type 0 where
  pub rest : Tokens
  pub at : place ≡ place_of text rest
  pub refuses : Refuses P ts rest

pub record IsPassed {A : Type 0} (P : ℕ → Phrase A) (text : List ℕ) (ts : Tokens) (place : ℕ) : Type 0 where
  pub rest : Tokens
  pub at : place ≡ place_of text rest
  pub passes : Passes P 0 ts rest
