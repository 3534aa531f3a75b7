-- Meaning: the grammar of scripts, as a relation between a tree and the tokens that spell it.
use Rattle.std.specs.Prelude.{ℕ, zero, suc, ◌+◌, ◌-◌, List, [], ◌∷◌, ◌++◌, Option, Some, None, ◌&&◌}
use Rattle.dfx_value.specs.declared.kind.Kind.{Kind}
use Rattle.dfx_value.specs.declared.kind.Kind.TheVariants as kind
use Rattle.dfx_value.specs.declared.op.JoinKind.{JoinKind}
use Rattle.dfx_value.specs.declared.op.JoinKind.TheVariants as join
use Rattle.sql_grammar.specs.declared.class.Class.{Class}
use Rattle.sql_grammar.specs.declared.class.Class.TheVariants as c
use Rattle.sql_grammar.specs.declared.ast.ExprAst.{ExprAst}
use Rattle.sql_grammar.specs.declared.ast.NodeAst.TheVariants as node
use Rattle.sql_grammar.specs.declared.ast.FnAst.TheVariants as fn
use Rattle.sql_grammar.specs.declared.ast.ItemAst.{ItemAst}
use Rattle.sql_grammar.specs.declared.ast.ItemAst.TheVariants as item
use Rattle.sql_grammar.specs.declared.ast.FromAst.{FromAst}
use Rattle.sql_grammar.specs.declared.ast.FromAst.TheVariants as from
use Rattle.sql_grammar.specs.declared.ast.JoinAst.{JoinAst}
use Rattle.sql_grammar.specs.declared.ast.SelectAst.{SelectAst}
use Rattle.sql_grammar.specs.declared.ast.KeyAst.{KeyAst}
use Rattle.sql_grammar.specs.declared.ast.NumberAst.{NumberAst}
use Rattle.sql_grammar.specs.declared.ast.TableAst.{TableAst}
use Rattle.sql_grammar.specs.declared.ast.Script.{Script}
use Rattle.sql_grammar.specs.Class.{Token, Tokens, among}
use Rattle.sql_grammar.specs.Phrase.{Phrase, Terminal, Matching, Empty, Count, Either, Turns, UpTo, Never, Inside, Charge, Apart, Limit}
use Rattle.sql_grammar.specs.Steps.{◌>>=◌, Maybe}
use Rattle.sql_grammar.specs.Trees.{at, constant_of, function_of, operated, unless_not, equals, or_equals, between, is_within, small, or_zero, kind_of, or_empty, is_arrow, text_of, alias_or, side_of, join_ast, select_of, key_of, number_of}

-- ---- classes of tokens

abbrev pub one : Class → List Class
one k = k ∷ []

abbrev pub constants : List Class
constants = c.Number ∷ c.Str ∷ c.Null ∷ c.True ∷ c.False ∷ []

-- words that the grammar knows and that are names too
abbrev pub free_words : List Class
free_words =
    c.External ∷ c.Stored ∷ c.Csv ∷ c.Arrow ∷ c.Header ∷ c.Row ∷ c.Location ∷ c.Options ∷ c.IntType ∷ c.TextType ∷ c.BoolType ∷ c.DecimalType
    ∷ c.Abs ∷ c.Length ∷ c.Count ∷ c.Sum ∷ c.Min ∷ c.Max ∷ c.Avg ∷ []

abbrev pub names : List Class
names = c.Name ∷ c.Quoted ∷ free_words

abbrev pub additive : List Class
additive = c.Plus ∷ c.Minus ∷ c.Bars ∷ []

abbrev pub multiplicative : List Class
multiplicative = c.Star ∷ c.Slash ∷ c.Percent ∷ []

abbrev pub comparing : List Class
comparing = c.Equal ∷ c.Unequal ∷ c.Less ∷ c.AtMost ∷ c.Greater ∷ c.AtLeast ∷ []

abbrev pub tests : List Class
tests = c.Not ∷ c.In ∷ c.Between ∷ []

abbrev pub simple_types : List Class
simple_types = c.IntType ∷ c.TextType ∷ c.BoolType ∷ []

abbrev pub sides : List Class
sides = c.Left ∷ c.Right ∷ c.Full ∷ []

abbrev pub forms : List Class
forms = c.Csv ∷ c.Arrow ∷ []

-- what a name is before `(`
pub data Calls : Type 0 where
  no_call : Calls
  one_argument : Calls
  counts : Calls

abbrev pub calls : Class → Calls
calls c.Abs = one_argument
calls c.Length = one_argument
calls c.Sum = one_argument
calls c.Min = one_argument
calls c.Max = one_argument
calls c.Avg = one_argument
calls c.Count = counts
calls _ = no_call

-- ---- limits

-- how many binary operators an expression may have that is no part of another, how many tables a query may name, and how many items
-- may follow the first of a list
pub record Limits : Type 0 where
  pub operators : Limit
  pub tables : Limit
  pub more : ℕ

-- ---- types

-- a whole number from the least to the most, which is at most 38
abbrev pub NumberFrom : ℕ → ℕ → Phrase ℕ
NumberFrom least most = do
  t ← Matching (λ t. among t.class (one c.Number) && is_within least most (small 0 t.text))
  Empty (or_zero (small 0 t.text))

-- a precision from 1 to 38, and a scale up to it
abbrev pub Decimal : Phrase Kind
Decimal = do
  word ← Terminal (one c.DecimalType)
  open_ ← Terminal (one c.Open)
  precision ← NumberFrom 1 38
  comma ← Terminal (one c.Comma)
  scale ← NumberFrom 0 precision
  close ← Terminal (one c.Close)
  Empty (kind.Dec precision scale)

abbrev pub SimpleType : Phrase Kind
SimpleType = do
  t ← Terminal simple_types
  Empty (kind_of t.class)

abbrev pub TypeName : Phrase Kind
TypeName = Either SimpleType Decimal

-- ---- lists

-- a comma and what stands behind it
abbrev pub Behind : {S : Type 0} → (S → Phrase S) → S → Phrase S
Behind Q x = do
  comma ← Terminal (one c.Comma)
  Q x

-- an item, put behind those before it
abbrev pub Item : {A : Type 0} → Phrase A → List A → Phrase (List A)
Item P found = do
  next ← P
  Empty (found ++ next ∷ [])

-- an item and what follows commas, so many more at most
abbrev pub Listed : {A : Type 0} → ℕ → Phrase A → Phrase (List A)
Listed more P = do
  first ← Item P []
  UpTo more (Behind (Item P)) first

-- a list in parentheses that aren't counted as a level
abbrev pub Enclosed : {A : Type 0} → ℕ → Phrase A → Phrase (List A)
Enclosed more P = do
  open_ ← Terminal (one c.Open)
  listed ← Listed more P
  close ← Terminal (one c.Close)
  Empty listed

-- ---- names

-- `[AS] name`
abbrev pub Called : Phrase Token
Called = Either (do
  as_ ← Terminal (one c.As)
  Terminal names) (Terminal names)

-- ---- tables

abbrev pub Column : Phrase (List ℕ × Kind)
Column = do
  name ← Terminal names
  k ← TypeName
  Empty (name.text, k)

abbrev pub Setting : Phrase (List ℕ × List ℕ)
Setting = do
  key ← Terminal (one c.Str)
  value ← Terminal (one c.Str)
  Empty (key.text, value.text)

abbrev pub HeaderRow : Phrase Token
HeaderRow = do
  with ← Terminal (one c.With)
  header ← Terminal (one c.Header)
  Terminal (one c.Row)

abbrev pub Settings : ℕ → Phrase (List (List ℕ × List ℕ))
Settings more = do
  options ← Terminal (one c.Options)
  Enclosed more Setting

abbrev pub Create : ℕ → Phrase TableAst
Create more = do
  create ← Terminal (one c.Create)
  external ← Terminal (one c.External)
  table ← Terminal (one c.Table)
  name ← Terminal names
  columns ← Maybe (Enclosed more Column)
  stored ← Terminal (one c.Stored)
  as_ ← Terminal (one c.As)
  form ← Terminal forms
  header ← Maybe HeaderRow
  location ← Terminal (one c.Location)
  path ← Terminal (one c.Str)
  options ← Maybe (Settings more)
  Empty (record { name = name.text; columns = or_empty columns; arrow = is_arrow form.class; location = path.text; options = or_empty options; place = create.place })

abbrev pub Declared : ℕ → List TableAst → Phrase (List TableAst)
Declared more tables = do
  table ← Create more
  semicolon ← Terminal (one c.Semicolon)
  Empty (tables ++ table ∷ [])

-- ---- expressions and selects

-- what nested phrases are made of: the same, with room for a level less
pub record Levels : Type 1 where
  pub expr : Phrase ExprAst
  pub negation : Phrase ExprAst
  pub unary : Phrase ExprAst
  pub union : Phrase (List SelectAst)

module _ (l : Limits) (d : ℕ) (below : Levels) where
  abbrev pub Parenthesized : Phrase ExprAst
  Parenthesized = do
    open_ ← Terminal (one c.Open)
    e ← below.expr
    close ← Terminal (one c.Close)
    Empty e

  abbrev pub Arm : List (ExprAst × ExprAst) → Phrase (List (ExprAst × ExprAst))
  Arm arms = do
    when ← Terminal (one c.When)
    test ← below.expr
    then_ ← Terminal (one c.Then)
    value ← below.expr
    Empty (arms ++ (test, value) ∷ [])

  abbrev pub Other : Phrase ExprAst
  Other = do
    else_ ← Terminal (one c.Else)
    below.expr

  abbrev pub Case : Phrase ExprAst
  Case = do
    case ← Terminal (one c.Case)
    first ← Arm []
    arms ← Turns Arm first
    other ← Maybe Other
    end ← Terminal (one c.End)
    Empty (at case.place (node.Case arms other))

  abbrev pub Converted : Token → Phrase ExprAst
  Converted word = do
    open_ ← Terminal (one c.Open)
    e ← below.expr
    as_ ← Terminal (one c.As)
    k ← TypeName
    close ← Terminal (one c.Close)
    Empty (at word.place (node.Cast e k))

  abbrev pub Cast : Phrase ExprAst
  Cast = do
    word ← Terminal (one c.Cast)
    Inside d (Converted word)

  abbrev pub Coalesce : Phrase ExprAst
  Coalesce = do
    word ← Terminal (one c.Coalesce)
    listed ← Inside d (Enclosed l.more below.expr)
    Empty (at word.place (node.Call fn.Coalesce listed))

  -- after a name: nothing, `.` and a name, or the argument of a call
  abbrev pub Qualified : Token → Phrase ExprAst
  Qualified t = do
    dot ← Terminal (one c.Dot)
    name ← Terminal names
    Empty (at t.place (node.Name (Some t.text) name.text))

  abbrev pub Bare : Token → Phrase ExprAst
  Bare t = Empty (at t.place (node.Name None t.text))

  abbrev pub Call : Token → Phrase ExprAst
  Call t = do
    e ← below.expr
    Empty (at t.place (node.Call (function_of t.class) (e ∷ [])))

  abbrev pub Argument : Token → Phrase ExprAst
  Argument t = do
    open_ ← Terminal (one c.Open)
    e ← Call t
    close ← Terminal (one c.Close)
    Empty e

  abbrev pub CountAll : Token → Phrase ExprAst
  CountAll t = do
    star ← Terminal (one c.Star)
    Empty (at t.place node.CountAll)

  abbrev pub Counted : Token → Phrase ExprAst
  Counted t = do
    open_ ← Terminal (one c.Open)
    e ← Either (CountAll t) (Call t)
    close ← Terminal (one c.Close)
    Empty e

  abbrev pub After : Calls → Token → Phrase ExprAst
  After no_call t = Either (Qualified t) (Bare t)
  After one_argument t = Either (Inside d (Argument t)) (Either (Qualified t) (Bare t))
  After counts t = Either (Inside d (Counted t)) (Either (Qualified t) (Bare t))

  abbrev pub Named : Phrase ExprAst
  Named = do
    t ← Terminal names
    After (calls t.class) t

  abbrev pub Constant : Phrase ExprAst
  Constant = do
    t ← Terminal constants
    Empty (at t.place (constant_of t.class t.text))

  abbrev pub Prim : Phrase ExprAst
  Prim = Either (Inside d Parenthesized) (Either (Inside d Case) (Either Cast (Either Coalesce (Either Constant Named))))

  abbrev pub Negative : Phrase ExprAst
  Negative = do
    minus ← Terminal (one c.Minus)
    e ← below.unary
    Empty (at minus.place (node.Neg e))

  abbrev pub Unary : Phrase ExprAst
  Unary = Either (Inside d Negative) Prim

  -- an operator and its right operand, behind a left one
  abbrev pub Operation : List Class → Phrase ExprAst → ExprAst → Phrase ExprAst
  Operation ops P left = do
    t ← Charge l.operators 1 (Terminal ops)
    right ← P
    Empty (operated t left right)

  -- operators of one level between operands of the next, grouped to the left
  abbrev pub Chain : List Class → Phrase ExprAst → Phrase ExprAst
  Chain ops P = do
    left ← P
    Turns (Operation ops P) left

  abbrev pub Product : Phrase ExprAst
  Product = Chain multiplicative Unary

  abbrev pub Sum : Phrase ExprAst
  Sum = Chain additive Product

  abbrev pub IsNull : ExprAst → Phrase ExprAst
  IsNull left = do
    t ← Terminal (one c.Is)
    negated ← Maybe (Terminal (one c.Not))
    null ← Terminal (one c.Null)
    Empty (unless_not negated t.place (at t.place (node.IsNull left)))

  -- a further member of IN counts two operators and those of a copy of the left side
  abbrev pub Member : ℕ → ExprAst → ℕ → ExprAst → Phrase ExprAst
  Member place left copied found = do
    e ← Charge l.operators (2 + copied) below.expr
    Empty (or_equals place left found e)

  abbrev pub Members : ℕ → ExprAst → ℕ → Phrase ExprAst
  Members place left copied = do
    open_ ← Terminal (one c.Open)
    first ← Charge l.operators 1 below.expr
    found ← UpTo l.more (Behind (Member place left copied)) (equals place left first)
    close ← Terminal (one c.Close)
    Empty found

  abbrev pub Among : ExprAst → ℕ → Option Token → Phrase ExprAst
  Among left copied negated = do
    t ← Terminal (one c.In)
    found ← Inside d (Members t.place left copied)
    Empty (unless_not negated t.place found)

  -- BETWEEN counts three operators and those of a copy of the left side
  abbrev pub Between : ExprAst → ℕ → Option Token → Phrase ExprAst
  Between left copied negated = do
    t ← Charge l.operators (3 + copied) (Terminal (one c.Between))
    low ← Sum
    and ← Terminal (one c.And)
    high ← Sum
    Empty (unless_not negated t.place (between t.place left low high))

  abbrev pub Within : ExprAst → ℕ → Phrase ExprAst
  Within left copied = do
    negated ← Maybe (Terminal (one c.Not))
    Either (Among left copied negated) (Between left copied negated)

  abbrev pub Test : Phrase ExprAst
  Test = do
    before ← Count
    left ← Sum
    after ← Count
    Either (Operation comparing Sum left) (Either (IsNull left) (Either (Within left (after - before)) (Empty left)))

  abbrev pub Negated : Phrase ExprAst
  Negated = do
    t ← Terminal (one c.Not)
    e ← below.negation
    Empty (at t.place (node.Not e))

  abbrev pub Negation : Phrase ExprAst
  Negation = Either (Inside d Negated) Test

  abbrev pub Conjunction : Phrase ExprAst
  Conjunction = Chain (one c.And) Negation

  abbrev pub Disjunction : Phrase ExprAst
  Disjunction = Chain (one c.Or) Conjunction

  -- an expression that is no part of another
  abbrev pub Expr : Phrase ExprAst
  Expr = Apart Disjunction

  -- ---- selects

  abbrev pub AllItem : Phrase ItemAst
  AllItem = do
    star ← Terminal (one c.Star)
    Empty (item.All star.place)

  abbrev pub AllOfItem : Phrase ItemAst
  AllOfItem = do
    t ← Terminal names
    dot ← Terminal (one c.Dot)
    star ← Terminal (one c.Star)
    Empty (item.AllOf t.text t.place)

  abbrev pub OneItem : Phrase ItemAst
  OneItem = do
    e ← Expr
    name ← Maybe Called
    Empty (item.One e (text_of name))

  abbrev pub SelectItem : Phrase ItemAst
  SelectItem = Either AllItem (Either AllOfItem OneItem)

  abbrev pub TableName : Phrase FromAst
  TableName = do
    t ← Charge l.tables 1 (Terminal names)
    alias ← Maybe Called
    Empty (from.Named t.text (alias_or alias t.text) t.place)

  abbrev pub Nested : Phrase (ℕ × List SelectAst)
  Nested = do
    open_ ← Terminal (one c.Open)
    parts ← below.union
    close ← Terminal (one c.Close)
    Empty (open_.place, parts)

  abbrev pub DerivedTable : Phrase FromAst
  DerivedTable = do
    nested ← Inside d Nested
    alias ← Called
    Empty (from.Derived nested.1 alias.text nested.0)

  abbrev pub From : Phrase FromAst
  From = Either DerivedTable TableName

  abbrev pub InnerJoin : Phrase JoinKind
  InnerJoin = do
    inner ← Terminal (one c.Inner)
    join_ ← Terminal (one c.Join)
    Empty join.Inner

  abbrev pub OuterJoin : Phrase JoinKind
  OuterJoin = do
    side ← Terminal sides
    outer ← Maybe (Terminal (one c.Outer))
    join_ ← Terminal (one c.Join)
    Empty (side_of side.class)

  abbrev pub PlainJoin : Phrase JoinKind
  PlainJoin = do
    join_ ← Terminal (one c.Join)
    Empty join.Inner

  abbrev pub JoinWords : Phrase JoinKind
  JoinWords = Either InnerJoin (Either OuterJoin PlainJoin)

  abbrev pub Join : List JoinAst → Phrase (List JoinAst)
  Join joins = do
    k ← JoinWords
    right ← From
    on ← Terminal (one c.On)
    e ← Expr
    Empty (joins ++ join_ast k right e ∷ [])

  abbrev pub Where : Phrase ExprAst
  Where = do
    where_ ← Terminal (one c.Where)
    Expr

  abbrev pub GroupBy : Phrase (List ExprAst)
  GroupBy = do
    group ← Terminal (one c.Group)
    by ← Terminal (one c.By)
    Listed l.more Expr

  abbrev pub Having : Phrase ExprAst
  Having = do
    having ← Terminal (one c.Having)
    Expr

  abbrev pub Select : Phrase SelectAst
  Select = do
    select ← Terminal (one c.Select)
    distinct ← Maybe (Terminal (one c.Distinct))
    items ← Listed l.more SelectItem
    from_ ← Terminal (one c.From)
    first ← From
    joins ← Turns Join []
    test ← Maybe Where
    groups ← Maybe GroupBy
    having ← Maybe Having
    Empty (select_of select distinct items first joins test groups having)

  abbrev pub United : List SelectAst → Phrase (List SelectAst)
  United parts = do
    union ← Terminal (one c.Union)
    all ← Terminal (one c.All)
    next ← Select
    Empty (parts ++ next ∷ [])

  abbrev pub Union : Phrase (List SelectAst)
  Union = do
    first ← Select
    Turns United (first ∷ [])

  -- ---- the query

  abbrev pub NullsOrder : Phrase Token
  NullsOrder = do
    nulls ← Terminal (one c.Nulls)
    Terminal (c.First ∷ c.Last ∷ [])

  abbrev pub Key : Phrase KeyAst
  Key = do
    e ← Expr
    direction ← Maybe (Terminal (c.Asc ∷ c.Desc ∷ []))
    nulls ← Maybe NullsOrder
    Empty (key_of e direction nulls)

  abbrev pub OrderBy : Phrase (List KeyAst)
  OrderBy = do
    order ← Terminal (one c.Order)
    by ← Terminal (one c.By)
    Listed l.more Key

  abbrev pub Number : Class → Phrase NumberAst
  Number k = do
    word ← Terminal (one k)
    t ← Terminal (one c.Number)
    Empty (number_of t)

-- what nested phrases are, where there is room for so many levels
abbrev pub nowhere : Levels
nowhere = record { expr = Never; negation = Never; unary = Never; union = Never }

abbrev pub level : Limits → ℕ → Levels → Levels
level l d below = record { expr = Disjunction l d below; negation = Negation l d below; unary = Unary l d below; union = Union l d below }

unfoldable pub under : Limits → ℕ → Levels
under l zero = nowhere
under l (suc d) = level l d (under l d)

-- a script of at most so many tables, with so many levels of nesting at most
abbrev pub ScriptWithin : Limits → ℕ → ℕ → Phrase Script
ScriptWithin l tables d = do
  declared ← UpTo tables (Declared l.more) []
  parts ← Union l d (under l d)
  order ← Maybe (OrderBy l d (under l d))
  limit ← Maybe (Number l d (under l d) c.Limit)
  offset ← Maybe (Number l d (under l d) c.Offset)
  end ← Maybe (Terminal (one c.Semicolon))
  Empty (record { tables = declared; parts = parts; order = or_empty order; limit = limit; offset = offset })

-- k more than a number
abbrev pub beyond : ℕ → ℕ → ℕ
beyond zero n = n
beyond (suc k) n = suc (beyond k n)

-- The limits: 1,024 operators, 64 table references, lists of 256, 64 tables, 64 levels. Beyond them, for k above 0, operators and
-- references aren't limited, and there is room for k more of the others.
abbrev pub limits : ℕ → Limits
limits zero = record { operators = Some 1024; tables = Some 64; more = 255 }
limits (suc k) = record { operators = None; tables = None; more = suc (beyond k 255) }

abbrev pub ScriptAt : ℕ → Phrase Script
ScriptAt k = ScriptWithin (limits k) (beyond k 64) (beyond k 64)

-- limits left aside
abbrev pub Spells : Script → Tokens → Type 0
Spells s ts = (k : ℕ) × (m : ℕ) × ScriptAt k 0 s m ts

-- within the limits
abbrev pub SpellsWithin : Script → Tokens → Type 0
SpellsWithin s ts = (m : ℕ) × ScriptAt 0 0 s m ts
