-- Meaning: the tokens of a script, or the first refusal.
use Rattle.std.specs.Prelude.{ℕ, zero, suc, ◌+◌, nat_lt, List, [], ◌∷◌, length, drop, not, if◌then◌else◌, Result, Ok, Err}
use Rattle.std.specs.Str.{is_utf8}
use Rattle.std.specs.Str.Lossy.{utf8_valid_len}
use Rattle.sql_lexer.specs.declared.token.Token.{Token}
use Rattle.sql_lexer.specs.declared.refused.LexRefused.{LexRefused}
use Rattle.sql_lexer.specs.declared.refused.LexRefused.TheVariants.{TooLong, NotUtf8, BadCharacter, OpenQuote, WideNumber}
use Rattle.sql_lexer.specs.declared.cut.Cut.{Cut}
use Rattle.sql_lexer.specs.declared.cut.Cut.TheVariants.{Blank, Found, Bad, Wide, Open}
use Rattle.sql_lexer.specs.Cuts.{cut}

-- a token before those of the rest
abbrev pub before : Token → Result (List Token) LexRefused → Result (List Token) LexRefused
before t (Ok ts) = Ok (t ∷ ts)
before t (Err e) = Err e

-- the tokens of a text at a place, by what it begins with, and those behind the first n bytes of it
abbrev pub by_cut : (ℕ → Result (List Token) LexRefused) → ℕ → Cut → Result (List Token) LexRefused
by_cut behind place (Blank n) = behind n
by_cut behind place (Found k n) = before (record { kind = k; from = place; to = place + n }) (behind n)
by_cut behind place (Bad n) = Err (BadCharacter (place + n))
by_cut behind place Wide = Err (WideNumber place)
by_cut behind place Open = Err (OpenQuote place)

-- The first number bounds the turns: each takes a byte, so the count of bytes is enough.
unfoldable pub tokens_from : ℕ → ℕ → List ℕ → Result (List Token) LexRefused
tokens_from zero place bs = Ok []
tokens_from (suc n) place [] = Ok []
tokens_from (suc n) place (b ∷ bs) = by_cut (λ k. tokens_from n (place + k) (drop k (b ∷ bs))) place (cut (b ∷ bs))

-- the most bytes of a script
abbrev pub most : ℕ
most = 1048576

-- the length is tested first, then the whole text as UTF-8, then the tokens from the left
unfoldable pub Tokens : List ℕ → Result (List Token) LexRefused
Tokens text =
    if nat_lt most (length text) then Err (TooLong (length text))
    else (if not (is_utf8 text) then Err (NotUtf8 (utf8_valid_len text))
    else tokens_from (length text) 0 text)
