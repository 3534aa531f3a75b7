-- Meaning: the trees that phrases make.
use Rattle.std.specs.Prelude.{ℕ, ◌+◌, ◌-◌, ◌*◌, nat_eq, nat_le, ◌&&◌, Bool, true, false, List, [], ◌∷◌, Option, Some, None, if◌then◌else◌}
use Rattle.dfx_value.specs.declared.op.Op.{Op}
use Rattle.dfx_value.specs.declared.op.Op.TheVariants as op
use Rattle.dfx_value.specs.declared.op.JoinKind.{JoinKind}
use Rattle.dfx_value.specs.declared.op.JoinKind.TheVariants as join
use Rattle.dfx_value.specs.declared.kind.Kind.{Kind}
use Rattle.dfx_value.specs.declared.kind.Kind.TheVariants as kind
use Rattle.sql_grammar.specs.declared.class.Class.{Class}
use Rattle.sql_grammar.specs.declared.class.Class.TheVariants as class
use Rattle.sql_grammar.specs.declared.ast.ExprAst.{ExprAst, roll-ExprAst}
use Rattle.sql_grammar.specs.declared.ast.NodeAst.{NodeAst}
use Rattle.sql_grammar.specs.declared.ast.NodeAst.TheVariants as node
use Rattle.sql_grammar.specs.declared.ast.FnAst.{FnAst}
use Rattle.sql_grammar.specs.declared.ast.FnAst.TheVariants as fn
use Rattle.sql_grammar.specs.declared.ast.ItemAst.{ItemAst}
use Rattle.sql_grammar.specs.declared.ast.FromAst.{FromAst}
use Rattle.sql_grammar.specs.declared.ast.JoinAst.{JoinAst, roll-JoinAst}
use Rattle.sql_grammar.specs.declared.ast.SelectAst.{SelectAst, roll-SelectAst}
use Rattle.sql_grammar.specs.declared.ast.KeyAst.{KeyAst}
use Rattle.sql_grammar.specs.declared.ast.NumberAst.{NumberAst}
use Rattle.sql_grammar.specs.Class.{Token, rank}

-- ---- expressions

unfoldable pub at : ℕ → NodeAst → ExprAst
at place n = roll-ExprAst (record { place = place; node = n })

abbrev pub constant_of : Class → List ℕ → NodeAst
constant_of class.Number text = node.Number text
constant_of class.Str text = node.Str text
constant_of class.True text = node.Truth true
constant_of class.False text = node.Truth false
constant_of _ text = node.Null

abbrev pub function_of : Class → FnAst
function_of class.Abs = fn.Abs
function_of class.Length = fn.Length
function_of class.Count = fn.Count
function_of class.Sum = fn.Sum
function_of class.Min = fn.Min
function_of class.Max = fn.Max
function_of _ = fn.Avg

abbrev pub operator : Class → Op
operator class.Plus = op.Add
operator class.Minus = op.Sub
operator class.Bars = op.Concat
operator class.Star = op.Mul
operator class.Slash = op.Div
operator class.Percent = op.Rem
operator class.Equal = op.Eq
operator class.Unequal = op.Ne
operator class.Less = op.Lt
operator class.AtMost = op.Le
operator class.Greater = op.Gt
operator class.AtLeast = op.Ge
operator class.And = op.And
operator _ = op.Or

abbrev pub binary : ℕ → Op → ExprAst → ExprAst → ExprAst
binary place o a b = at place (node.Binary o a b)

-- an operator between its operands
abbrev pub operated : Token → ExprAst → ExprAst → ExprAst
operated t a b = binary t.place (operator t.class) a b

-- the NOT forms are NOT of the others
abbrev pub unless_not : Option Token → ℕ → ExprAst → ExprAst
unless_not None place e = e
unless_not (Some t) place e = at place (node.Not e)

-- a member of IN is compared with a copy of the left side
abbrev pub equals : ℕ → ExprAst → ExprAst → ExprAst
equals place left member = binary place op.Eq left member

abbrev pub or_equals : ℕ → ExprAst → ExprAst → ExprAst → ExprAst
or_equals place left found member = binary place op.Or found (equals place left member)

abbrev pub between : ℕ → ExprAst → ExprAst → ExprAst → ExprAst
between place left low high = binary place op.And (binary place op.Ge left low) (binary place op.Le left high)

-- ---- kinds

-- the number that digits write behind those of n, where it is at most 38
abbrev pub small : ℕ → List ℕ → Option ℕ
small n [] = Some n
small n (b ∷ bs) = if nat_le 48 b && nat_le b 57 && nat_le (n * 10 + (b - 48)) 38 then small (n * 10 + (b - 48)) bs else None

abbrev pub is_within : ℕ → ℕ → Option ℕ → Bool
is_within least most None = false
is_within least most (Some n) = nat_le least n && nat_le n most

abbrev pub or_zero : Option ℕ → ℕ
or_zero None = 0
or_zero (Some n) = n

abbrev pub kind_of : Class → Kind
kind_of class.IntType = kind.Int
kind_of class.TextType = kind.Text
kind_of _ = kind.Bool

-- ---- tables

abbrev pub or_empty : {A : Type 0} → Option (List A) → List A
or_empty None = []
or_empty (Some xs) = xs

abbrev pub is_arrow : Class → Bool
is_arrow class.Arrow = true
is_arrow _ = false

-- ---- selects

abbrev pub is_given : Option Token → Bool
is_given None = false
is_given (Some t) = true

abbrev pub text_of : Option Token → Option (List ℕ)
text_of None = None
text_of (Some t) = Some t.text

-- a missing alias is the table's name
abbrev pub alias_or : Option Token → List ℕ → List ℕ
alias_or None name = name
alias_or (Some t) name = t.text

abbrev pub side_of : Class → JoinKind
side_of class.Left = join.Left
side_of class.Right = join.Right
side_of _ = join.Full

unfoldable pub join_ast : JoinKind → FromAst → ExprAst → JoinAst
join_ast k right on = roll-JoinAst (record { kind = k; right = right; on = on })

unfoldable pub select_of : Token → Option Token → List ItemAst → FromAst → List JoinAst → Option ExprAst → Option (List ExprAst) → Option ExprAst → SelectAst
select_of t distinct items first joins test groups having =
    roll-SelectAst (record { distinct = is_given distinct; items = items; first = first; joins = joins; test = test; groups = or_empty groups; having = having; place = t.place })

-- ---- keys and limits

abbrev pub is_class : Class → Class → Bool
is_class k d = nat_eq (rank k) (rank d)

abbrev pub is_descending : Option Token → Bool
is_descending None = false
is_descending (Some t) = is_class t.class class.Desc

-- NULLs come last where a key ascends and first where it descends, unless written
abbrev pub nulls_first : Option Token → Option Token → Bool
nulls_first direction None = is_descending direction
nulls_first direction (Some t) = is_class t.class class.First

abbrev pub key_of : ExprAst → Option Token → Option Token → KeyAst
key_of e direction nulls = record { expr = e; descending = is_descending direction; nulls_first = nulls_first direction nulls }

abbrev pub number_of : Token → NumberAst
number_of t = record { text = t.text; place = t.place }
