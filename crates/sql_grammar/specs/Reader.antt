-- Meaning: readers, which read a phrase from the left by the next token, and where a limit stops them.
use Rattle.std.specs.Prelude.{ℕ, zero, suc, ◌+◌, List, [], ◌∷◌, length, Bool, Option, Some, None, if◌then◌else◌}
use Rattle.sql_grammar.specs.declared.class.Class.{Class}
use Rattle.sql_grammar.specs.Class.{Token, Tokens, among, starts}
use Rattle.sql_grammar.specs.Phrase.{Limit, fits}

-- why a token is refused
pub data Stop : Type 0 where
  unexpected : Stop
  too_deep : Stop
  too_many : Stop

-- what was read, how many are counted then, and the rest; or why it stops, and the tokens from the refused one on
pub data Read (A : Type 0) : Type 0 where
  done : A → ℕ → Tokens → Read A
  stop : Stop → Tokens → Read A

-- from how many were counted before
abbrev pub Reader : Type 0 → Type 0
Reader A = ℕ → Tokens → Read A

abbrev pub and_then : {A B : Type 0} → Read A → (A → Reader B) → Read B
and_then (done a n ts) f = f a n ts
and_then (stop k ts) f = stop k ts

infixl 10 ◌>>=◌
abbrev pub ◌>>=◌ : {A B : Type 0} → Reader A → (A → Reader B) → Reader B
p >>= f = λ n ts. and_then (p n ts) f

abbrev pub pure : {A : Type 0} → A → Reader A
pure a = λ n ts. done a n ts

abbrev pub count : Reader ℕ
count = λ n ts. done n n ts

unfoldable pub matching : (Token → Bool) → Reader Token
matching passes n [] = stop unexpected []
matching passes n (t ∷ ts) = if passes t then done t n ts else stop unexpected (t ∷ ts)

abbrev pub terminal : List Class → Reader Token
terminal cs = matching (λ t. among t.class cs)

abbrev pub either : {A : Type 0} → List Class → Reader A → Reader A → Reader A
either cs p q = λ n ts. if starts cs ts then p n ts else q n ts

abbrev pub maybe : {A : Type 0} → List Class → Reader A → Reader (Option A)
maybe cs p = either cs (p >>= (λ a. pure (Some a))) (pure None)

-- The number bounds the turns: each takes a token, so the count of tokens is enough.
unfoldable pub turns_within : {S : Type 0} → List Class → (S → Reader S) → ℕ → S → Reader S
turns_within cs p zero s n ts = done s n ts
turns_within cs p (suc k) s n ts = if starts cs ts then and_then (p s n ts) (λ next. turns_within cs p k next) else done s n ts

abbrev pub turns : {S : Type 0} → List Class → (S → Reader S) → S → Reader S
turns cs p s = λ n ts. turns_within cs p (length ts) s n ts

-- past a limit: what would begin the phrase is refused for it
abbrev pub over : {A : Type 0} → Stop → List Class → Reader A
over k cs = λ n ts. if starts cs ts then stop k ts else stop unexpected ts

-- so many turns at most, and past them `full` is read where one would begin
unfoldable pub up_to : {S : Type 0} → List Class → (S → Reader S) → Reader S → ℕ → S → Reader S
up_to cs p full zero s = either cs full (pure s)
up_to cs p full (suc k) s = either cs (p s >>= (λ next. up_to cs p full k next)) (pure s)

-- k more are counted, before a token of these classes
abbrev pub pay : Limit → ℕ → List Class → Reader (Unit {0})
pay limit k cs = λ n ts. if starts cs ts then (if fits limit (n + k) then done tt (n + k) ts else stop too_many ts) else stop unexpected ts

abbrev pub charge : {A : Type 0} → Limit → ℕ → List Class → Reader A → Reader A
charge limit k cs f = pay limit k cs >>= (λ paid. f)

abbrev pub restore : {A : Type 0} → ℕ → Read A → Read A
restore n (done a m ts) = done a n ts
restore n (stop k ts) = stop k ts

abbrev pub apart_from : {A : Type 0} → Reader A → Reader A
apart_from f = λ n ts. restore n (f 0 ts)

abbrev pub inside : {A : Type 0} → List Class → ℕ → Reader A → Reader A
inside cs zero f = over too_deep cs
inside cs (suc d) f = f

-- a choice by a test of the tokens ahead
abbrev pub ahead : {A : Type 0} → (Tokens → Bool) → Reader A → Reader A → Reader A
ahead test p q = λ n ts. if test ts then p n ts else q n ts

-- the phrase and no token after it
abbrev pub at_end : {A : Type 0} → A → Reader A
at_end a n [] = done a n []
at_end a n (t ∷ ts) = stop unexpected (t ∷ ts)

abbrev pub only : {A : Type 0} → Reader A → Reader A
only f = f >>= at_end
