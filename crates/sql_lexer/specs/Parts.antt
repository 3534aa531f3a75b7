-- Meaning: a token as a part of its script.
use Rattle.std.specs.Prelude.{◌≡◌, ℕ, ◌-◌, ◌<◌, ◌≤◌, List, take, drop, length, IsUtf8}
use Rattle.sql_lexer.specs.declared.token.Token.{Token}
use Rattle.sql_lexer.specs.declared.cut.Cut.TheVariants.{Found}
use Rattle.sql_lexer.specs.Cuts.{cut}

-- the bytes that the token is
abbrev pub bytes_of : List ℕ → Token → List ℕ
bytes_of text t = take (t.to - t.from) (drop t.from text)

-- the text goes on so from its place, where a character begins
pub record IsToken (text : List ℕ) (t : Token) : Type 0 where
  pub begins : t.from < length text
  pub order : t.from ≤ t.to
  pub inside : t.to ≤ length text
  pub utf8 : IsUtf8 (drop t.from text)
  pub found : cut (drop t.from text) ≡ Found t.kind (t.to - t.from)
