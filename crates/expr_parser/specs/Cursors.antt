-- Words: where the parser stands, and what a call of it says by the readers of sql_grammar.
-- Reader.antt and Reading.antt there are meaning: they say at which token reading stops, and why.
use Rattle.std.specs.Prelude.{◌≡◌, ℕ, zero, List, [], ◌∷◌, Result, Ok, Err}
use Rattle.expr_parser.specs.declared.halt.Halt.{Halt}
use Rattle.expr_parser.specs.declared.halt.Halt.TheVariants as halt
use Rattle.expr_parser.specs.declared.halt.Refusal.{Refusal}
use Rattle.expr_parser.specs.declared.halt.Refusal.TheVariants as refusal
use Rattle.sql_grammar.specs.Class.{Tokens}
use Rattle.expr_parser.specs.declared.level.Level.{Level}
use Rattle.expr_parser.specs.declared.level.Level.TheVariants as level
use Rattle.sql_grammar.specs.declared.class.Class.{Class}
use Rattle.sql_grammar.specs.declared.class.Class.TheVariants as class
use Rattle.sql_grammar.specs.declared.ast.ExprAst.{ExprAst}
use Rattle.sql_grammar.specs.Grammar.{Limits, limits, one, multiplicative, additive}
use Rattle.sql_grammar.specs.Reading as reading
use Rattle.sql_grammar.specs.Reading.{Readers, under}
use Rattle.sql_grammar.specs.Reader.{Stop, unexpected, too_deep, too_many, Read, done, stop, Reader}

-- how many were counted so far, and the tokens that are left
pub record Stand : Type 0 where
  pub counted : ℕ
  pub tokens : Tokens

abbrev pub first_text : Tokens → List ℕ
first_text [] = []
first_text (t ∷ ts) = t.text

-- the reader's word for why a token is refused
abbrev pub stop_for : Refusal → Stop
stop_for refusal.Unexpected = unexpected
stop_for refusal.TooDeep = too_deep
stop_for refusal.TooMany = too_many

-- What reading gave is answered by a call that takes no memory. The cursor is left behind what was
-- read, or at the refused token.
abbrev pub IsExactly : {A X : Type 0} → (X → A) → Read A → Result X Refusal → Stand → Type 0
IsExactly view read (Ok x) new = read ≡ done (view x) new.counted new.tokens
IsExactly view read (Err why) new = read ≡ stop (stop_for why) new.tokens

-- what a call answers that reads from where the cursor stood, and takes no memory
abbrev pub Reads : {A X : Type 0} → (X → A) → Reader A → Stand → Result X Refusal → Stand → Type 0
Reads view reader old result new = IsExactly view (reader old.counted old.tokens) result new

-- where reading stops so, or memory is wanting
abbrev pub Halts : {A : Type 0} → Read A → Halt → Stand → Type 0
Halts read (halt.Refused why) new = read ≡ stop (stop_for why) new.tokens
Halts read halt.NoMemory new = Unit {0}

-- what reading gave is answered by a call that takes memory, or want of memory is
abbrev pub IsRead : {A X : Type 0} → (X → A) → Read A → Result X Halt → Stand → Type 0
IsRead view read (Ok x) new = read ≡ done (view x) new.counted new.tokens
IsRead view read (Err why) new = Halts read why new

-- what a call answers that reads from where the cursor stood, and takes memory
abbrev pub ParsesAs : {A X : Type 0} → (X → A) → Reader A → Stand → Result X Halt → Stand → Type 0
ParsesAs view reader old result new = IsRead view (reader old.counted old.tokens) result new

abbrev pub Parses : {A : Type 0} → Reader A → Stand → Result A Halt → Stand → Type 0
Parses reader old result new = ParsesAs (λ a. a) reader old result new

-- where a reader of any value stops so
abbrev pub Stops : Reader (Unit {0}) → Stand → Refusal → Stand → Type 0
Stops reader old why new = Reads (λ (u : Unit {0}). u) reader old (Err why) new

-- ---- what is read

-- the limits that are kept, and what nested phrases are read by
abbrev pub lim : Limits
lim = limits zero

abbrev pub below : ℕ → Readers
below d = under lim d

-- a reader within the limits, with room for so many levels
abbrev pub at_depth : {R : Type 0} → (Limits → ℕ → Readers → R) → ℕ → R
at_depth reader d = reader lim d (below d)

-- the levels of binary operators that group to the left
abbrev pub operators : Level → List Class
operators level.Product = multiplicative
operators level.Sum = additive
operators level.And = one class.And
operators level.Or = one class.Or

abbrev pub operand : Level → ℕ → Reader ExprAst
operand level.Product d = at_depth reading.unary_of d
operand level.Sum d = at_depth reading.product_of d
operand level.And d = at_depth reading.negation_of d
operand level.Or d = at_depth reading.conjunction d

abbrev pub chain : Level → ℕ → Reader ExprAst
chain k d = at_depth reading.chain d (operators k) (operand k d)

-- how high a level stands above what is nested
abbrev pub height : Level → ℕ
height level.Product = 8
height level.Sum = 11
height level.And = 20
height level.Or = 23
