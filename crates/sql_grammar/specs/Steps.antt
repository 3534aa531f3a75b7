-- Meaning: phrases one after another, to be written as steps, and what is built of them.
use Rattle.std.specs.Prelude.{Option, Some, None}
use Rattle.sql_grammar.specs.Phrase.{Phrase, Then, Empty, Either}

infixl 10 ◌>>=◌
abbrev pub ◌>>=◌ : {A B : Type 0} → Phrase A → (A → Phrase B) → Phrase B
P >>= Q = Then P Q

-- the phrase or nothing
abbrev pub Maybe : {A : Type 0} → Phrase A → Phrase (Option A)
Maybe P = Either (P >>= (λ a. Empty (Some a))) (Empty None)
