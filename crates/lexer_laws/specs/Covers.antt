-- Meaning: a text as its tokens, with white space and comments between them.
use Rattle.std.specs.Prelude.{◌≡◌, ◌<◌, ◌≤◌, ◌⊎◌, ℕ, ◌+◌, ◌-◌, nat_eq, not, List, [], ◌∷◌, length, take, drop, codes, Result}
use Rattle.std.specs.List.{AllPass}
use Rattle.sql_lexer.specs.declared.token.Token.{Token}
use Rattle.sql_lexer.specs.declared.refused.LexRefused.{LexRefused}
use Rattle.sql_lexer.specs.declared.refused.LexRefused.TheVariants as refused
use Rattle.sql_lexer.specs.declared.cut.Cut.{Cut}
use Rattle.sql_lexer.specs.declared.cut.Cut.TheVariants as cut_is
use Rattle.sql_lexer.specs.Bytes.{is_space}
use Rattle.sql_lexer.specs.Cuts.{first_of, cut}
use Rattle.sql_lexer.specs.Parts.{IsToken}
use Rattle.sql_lexer.specs.Tokens.{tokens_from}

-- ---- what a text begins with

-- how many of the text's bytes it takes: at least one; a character that can't stand there is one of them
abbrev pub Takes : ℕ → Cut → Type 0
Takes len (cut_is.Blank n) = (0 < n) × (n ≤ len)
Takes len (cut_is.Found k n) = (0 < n) × (n ≤ len)
Takes len (cut_is.Bad n) = n < len
Takes len cut_is.Wide = Unit {0}
Takes len cut_is.Open = Unit {0}

-- the tokens of a text that stands at a place, with as many turns as it has bytes
abbrev pub tokens_at : ℕ → List ℕ → Result (List Token) LexRefused
tokens_at place bs = tokens_from (length bs) place bs

-- ---- what stands between tokens

-- the bytes of a text from one place up to another
abbrev pub part : List ℕ → ℕ → ℕ → List ℕ
part text from to = take (to - from) (drop from text)

-- `--` and what follows it on its line: up to a line feed, or to the text's end
pub record IsComment (text : List ℕ) (from to : ℕ) : Type 0 where
  pub begins : take 2 (part text from to) ≡ codes "--"
  pub line : AllPass (λ b. not (nat_eq b 10)) (part text from to)
  pub ends : (to ≡ length text) ⊎ (first_of (drop to text) ≡ 10)

-- white space, or a comment
abbrev pub IsBlank : List ℕ → ℕ → ℕ → Type 0
IsBlank text from to = AllPass is_space (part text from to) ⊎ IsComment text from to

-- white space and comments one after another, which end at these places: none, or more of them
abbrev pub AreBlank : List ℕ → ℕ → List ℕ → ℕ → Type 0
AreBlank text from [] to = from ≡ to
AreBlank text from (at ∷ ends) to = (from < at) × IsBlank text from at × AreBlank text at ends to

abbrev pub IsGap : List ℕ → ℕ → ℕ → Type 0
IsGap text from to = (ends : List ℕ) × AreBlank text from ends to

-- ---- the whole text

-- From one place up to another the text is these tokens, in order, with gaps before, between and behind them. Each begins where the gap
-- before it ends, and the next gap begins where it ends.
abbrev pub Covers : List ℕ → ℕ → List Token → ℕ → Type 0
Covers text from [] to = IsGap text from to
Covers text from (t ∷ ts) to = IsGap text from t.from × IsToken text t × (t.from < t.to) × Covers text t.to ts to

-- what stands at this place of the text begins no token, and this refusal says why and where
abbrev pub BeginsNoToken : List ℕ → ℕ → LexRefused → Type 0
BeginsNoToken text at (refused.BadCharacter place) = (n : ℕ) × (cut (drop at text) ≡ cut_is.Bad n) × (place ≡ at + n)
BeginsNoToken text at (refused.OpenQuote place) = (cut (drop at text) ≡ cut_is.Open) × (place ≡ at)
BeginsNoToken text at (refused.WideNumber place) = (cut (drop at text) ≡ cut_is.Wide) × (place ≡ at)
BeginsNoToken text at _ = ⊥

abbrev pub IsRefusedAt : List ℕ → ℕ → LexRefused → Type 0
IsRefusedAt text at e = (at < length text) × BeginsNoToken text at e
