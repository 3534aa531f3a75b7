-- Meaning: the same grammar, read from the left by the next token. It says at which token a limit is passed, and which limit.
use Rattle.std.specs.Prelude.{ℕ, zero, suc, ◌+◌, ◌-◌, Bool, List, [], ◌∷◌, ◌++◌, drop, Option, Some, None, ◌&&◌}
use Rattle.dfx_value.specs.declared.kind.Kind.{Kind}
use Rattle.dfx_value.specs.declared.kind.Kind.TheVariants as kind
use Rattle.dfx_value.specs.declared.op.JoinKind.{JoinKind}
use Rattle.dfx_value.specs.declared.op.JoinKind.TheVariants as join
use Rattle.sql_grammar.specs.declared.class.Class.{Class}
use Rattle.sql_grammar.specs.declared.class.Class.TheVariants as c
use Rattle.sql_grammar.specs.declared.ast.ExprAst.{ExprAst}
use Rattle.sql_grammar.specs.declared.ast.NodeAst.TheVariants as node
use Rattle.sql_grammar.specs.declared.ast.FnAst.TheVariants as fn
use Rattle.sql_grammar.specs.declared.ast.ItemAst.{ItemAst}
use Rattle.sql_grammar.specs.declared.ast.ItemAst.TheVariants as item
use Rattle.sql_grammar.specs.declared.ast.FromAst.{FromAst}
use Rattle.sql_grammar.specs.declared.ast.FromAst.TheVariants as from
use Rattle.sql_grammar.specs.declared.ast.JoinAst.{JoinAst}
use Rattle.sql_grammar.specs.declared.ast.SelectAst.{SelectAst}
use Rattle.sql_grammar.specs.declared.ast.KeyAst.{KeyAst}
use Rattle.sql_grammar.specs.declared.ast.NumberAst.{NumberAst}
use Rattle.sql_grammar.specs.declared.ast.TableAst.{TableAst}
use Rattle.sql_grammar.specs.declared.ast.Script.{Script}
use Rattle.sql_grammar.specs.Class.{Token, Tokens, among, starts}
use Rattle.sql_grammar.specs.Reader.{Reader, ◌>>=◌, pure, count, matching, terminal, either, maybe, turns, over, up_to, charge, apart_from, inside, ahead, too_deep, too_many}
use Rattle.sql_grammar.specs.Trees.{at, constant_of, function_of, operated, unless_not, equals, or_equals, between, is_within, small, or_zero, kind_of, or_empty, is_arrow, text_of, alias_or, side_of, join_ast, select_of, key_of, number_of}
use Rattle.sql_grammar.specs.Grammar.{one, constants, names, additive, multiplicative, comparing, tests, simple_types, sides, forms, Calls, no_call, one_argument, counts, calls, Limits, limits, beyond}

-- ---- what each begins with

abbrev pub prim_first : List Class
prim_first = c.Open ∷ c.Case ∷ c.Cast ∷ c.Coalesce ∷ constants ++ names

abbrev pub unary_first : List Class
unary_first = c.Minus ∷ prim_first

abbrev pub expr_first : List Class
expr_first = c.Not ∷ unary_first

abbrev pub item_first : List Class
item_first = c.Star ∷ expr_first

abbrev pub called_first : List Class
called_first = c.As ∷ names

abbrev pub join_first : List Class
join_first = c.Inner ∷ sides ++ c.Join ∷ []

-- ---- types

unfoldable pub number_from : ℕ → ℕ → Reader ℕ
number_from least most = do
  t ← matching (λ t. among t.class (one c.Number) && is_within least most (small 0 t.text))
  pure (or_zero (small 0 t.text))

unfoldable pub decimal : Reader Kind
decimal = do
  word ← terminal (one c.DecimalType)
  open_ ← terminal (one c.Open)
  precision ← number_from 1 38
  comma ← terminal (one c.Comma)
  scale ← number_from 0 precision
  close ← terminal (one c.Close)
  pure (kind.Dec precision scale)

unfoldable pub simple_type : Reader Kind
simple_type = do
  t ← terminal simple_types
  pure (kind_of t.class)

unfoldable pub type_name : Reader Kind
type_name = either simple_types simple_type decimal

-- ---- lists

abbrev pub behind : {S : Type 0} → (S → Reader S) → S → Reader S
behind q x = do
  comma ← terminal (one c.Comma)
  q x

-- a comma, and what would begin another item is one too many
abbrev pub full : {S : Type 0} → List Class → Reader S
full cs = do
  comma ← terminal (one c.Comma)
  over too_many cs

abbrev pub listing : {S : Type 0} → List Class → (S → Reader S) → ℕ → S → Reader S
listing cs q more = up_to (one c.Comma) (behind q) (full cs) more

abbrev pub item_of : {A : Type 0} → Reader A → List A → Reader (List A)
item_of p found = do
  next ← p
  pure (found ++ next ∷ [])

abbrev pub listed : {A : Type 0} → List Class → ℕ → Reader A → Reader (List A)
listed cs more p = do
  first ← item_of p []
  listing cs (item_of p) more first

abbrev pub enclosed : {A : Type 0} → List Class → ℕ → Reader A → Reader (List A)
enclosed cs more p = do
  open_ ← terminal (one c.Open)
  found ← listed cs more p
  close ← terminal (one c.Close)
  pure found

-- ---- names

abbrev pub as_name : Reader Token
as_name = do
  as_ ← terminal (one c.As)
  terminal names

unfoldable pub called : Reader Token
called = either (one c.As) as_name (terminal names)

-- ---- tables

unfoldable pub column : Reader (List ℕ × Kind)
column = do
  name ← terminal names
  k ← type_name
  pure (name.text, k)

unfoldable pub setting : Reader (List ℕ × List ℕ)
setting = do
  key ← terminal (one c.Str)
  value ← terminal (one c.Str)
  pure (key.text, value.text)

unfoldable pub header_row : Reader Token
header_row = do
  with ← terminal (one c.With)
  header ← terminal (one c.Header)
  terminal (one c.Row)

unfoldable pub columns_of : ℕ → Reader (List (List ℕ × Kind))
columns_of more = enclosed names more column

unfoldable pub settings : ℕ → Reader (List (List ℕ × List ℕ))
settings more = do
  options ← terminal (one c.Options)
  enclosed (one c.Str) more setting

unfoldable pub create : ℕ → Reader TableAst
create more = do
  create_ ← terminal (one c.Create)
  external ← terminal (one c.External)
  table ← terminal (one c.Table)
  name ← terminal names
  columns ← maybe (one c.Open) (columns_of more)
  stored ← terminal (one c.Stored)
  as_ ← terminal (one c.As)
  form ← terminal forms
  header ← maybe (one c.With) header_row
  location ← terminal (one c.Location)
  path ← terminal (one c.Str)
  options ← maybe (one c.Options) (settings more)
  pure (record { name = name.text; columns = or_empty columns; arrow = is_arrow form.class; location = path.text; options = or_empty options; place = create_.place })

unfoldable pub declared : ℕ → List TableAst → Reader (List TableAst)
declared more tables = do
  table ← create more
  semicolon ← terminal (one c.Semicolon)
  pure (tables ++ table ∷ [])

-- ---- expressions and selects

pub record Readers : Type 1 where
  pub expr : Reader ExprAst
  pub negation : Reader ExprAst
  pub unary : Reader ExprAst
  pub union : Reader (List SelectAst)

-- whether `name . *` comes next
abbrev pub all_of_ahead : Tokens → Bool
all_of_ahead ts = starts names ts && (starts (one c.Dot) (drop 1 ts) && starts (one c.Star) (drop 2 ts))

module _ (l : Limits) (d : ℕ) (below : Readers) where
  unfoldable pub parenthesized : Reader ExprAst
  parenthesized = do
    open_ ← terminal (one c.Open)
    e ← below.expr
    close ← terminal (one c.Close)
    pure e

  unfoldable pub arm : List (ExprAst × ExprAst) → Reader (List (ExprAst × ExprAst))
  arm arms = do
    when ← terminal (one c.When)
    test ← below.expr
    then_ ← terminal (one c.Then)
    value ← below.expr
    pure (arms ++ (test, value) ∷ [])

  unfoldable pub other : Reader ExprAst
  other = do
    else_ ← terminal (one c.Else)
    below.expr

  abbrev pub arms : List (ExprAst × ExprAst) → Reader (List (ExprAst × ExprAst))
  arms first = turns (one c.When) arm first

  abbrev pub otherwise : Reader (Option ExprAst)
  otherwise = maybe (one c.Else) other

  unfoldable pub case_of : Reader ExprAst
  case_of = do
    case ← terminal (one c.Case)
    first ← arm []
    all ← arms first
    value ← otherwise
    end ← terminal (one c.End)
    pure (at case.place (node.Case all value))

  unfoldable pub converted : Token → Reader ExprAst
  converted word = do
    open_ ← terminal (one c.Open)
    e ← below.expr
    as_ ← terminal (one c.As)
    k ← type_name
    close ← terminal (one c.Close)
    pure (at word.place (node.Cast e k))

  unfoldable pub cast : Reader ExprAst
  cast = do
    word ← terminal (one c.Cast)
    inside (one c.Open) d (converted word)

  unfoldable pub arguments : Reader (List ExprAst)
  arguments = enclosed expr_first l.more below.expr

  unfoldable pub coalesce : Reader ExprAst
  coalesce = do
    word ← terminal (one c.Coalesce)
    found ← inside (one c.Open) d arguments
    pure (at word.place (node.Call fn.Coalesce found))

  unfoldable pub qualified : Token → Reader ExprAst
  qualified t = do
    dot ← terminal (one c.Dot)
    name ← terminal names
    pure (at t.place (node.Name (Some t.text) name.text))

  unfoldable pub bare : Token → Reader ExprAst
  bare t = pure (at t.place (node.Name None t.text))

  unfoldable pub call : Token → Reader ExprAst
  call t = do
    e ← below.expr
    pure (at t.place (node.Call (function_of t.class) (e ∷ [])))

  unfoldable pub argument : Token → Reader ExprAst
  argument t = do
    open_ ← terminal (one c.Open)
    e ← call t
    close ← terminal (one c.Close)
    pure e

  unfoldable pub count_all : Token → Reader ExprAst
  count_all t = do
    star ← terminal (one c.Star)
    pure (at t.place node.CountAll)

  unfoldable pub star_or : Token → Reader ExprAst
  star_or t = either (one c.Star) (count_all t) (call t)

  unfoldable pub counted : Token → Reader ExprAst
  counted t = do
    open_ ← terminal (one c.Open)
    e ← star_or t
    close ← terminal (one c.Close)
    pure e

  unfoldable pub plain : Token → Reader ExprAst
  plain t = either (one c.Dot) (qualified t) (bare t)

  unfoldable pub after : Calls → Token → Reader ExprAst
  after no_call t = plain t
  after one_argument t = either (one c.Open) (inside (one c.Open) d (argument t)) (plain t)
  after counts t = either (one c.Open) (inside (one c.Open) d (counted t)) (plain t)

  unfoldable pub named : Reader ExprAst
  named = do
    t ← terminal names
    after (calls t.class) t

  unfoldable pub constant : Reader ExprAst
  constant = do
    t ← terminal constants
    pure (at t.place (constant_of t.class t.text))

  unfoldable pub prim : Reader ExprAst
  prim = either (one c.Open) (inside (one c.Open) d parenthesized) (either (one c.Case) (inside (one c.Case) d case_of) (either (one c.Cast) cast (either (one c.Coalesce) coalesce (either constants constant named))))

  unfoldable pub negative : Reader ExprAst
  negative = do
    minus ← terminal (one c.Minus)
    e ← below.unary
    pure (at minus.place (node.Neg e))

  unfoldable pub unary_of : Reader ExprAst
  unary_of = either (one c.Minus) (inside (one c.Minus) d negative) prim

  -- an operator and its right operand, behind a left one
  unfoldable pub operation : List Class → Reader ExprAst → ExprAst → Reader ExprAst
  operation ops p left = do
    t ← charge l.operators 1 ops (terminal ops)
    right ← p
    pure (operated t left right)

  abbrev pub chain : List Class → Reader ExprAst → Reader ExprAst
  chain ops p = do
    left ← p
    turns ops (operation ops p) left

  unfoldable pub product_of : Reader ExprAst
  product_of = chain multiplicative unary_of

  unfoldable pub sum_of : Reader ExprAst
  sum_of = chain additive product_of

  unfoldable pub is_null : ExprAst → Reader ExprAst
  is_null left = do
    t ← terminal (one c.Is)
    negated ← maybe (one c.Not) (terminal (one c.Not))
    null ← terminal (one c.Null)
    pure (unless_not negated t.place (at t.place (node.IsNull left)))

  unfoldable pub member : ℕ → ExprAst → ℕ → ExprAst → Reader ExprAst
  member place left copied found = do
    e ← charge l.operators (2 + copied) expr_first below.expr
    pure (or_equals place left found e)

  unfoldable pub members : ℕ → ExprAst → ℕ → Reader ExprAst
  members place left copied = do
    open_ ← terminal (one c.Open)
    first ← charge l.operators 1 expr_first below.expr
    found ← listing expr_first (member place left copied) l.more (equals place left first)
    close ← terminal (one c.Close)
    pure found

  unfoldable pub among_of : ExprAst → ℕ → Option Token → Reader ExprAst
  among_of left copied negated = do
    t ← terminal (one c.In)
    found ← inside (one c.Open) d (members t.place left copied)
    pure (unless_not negated t.place found)

  unfoldable pub between_of : ExprAst → ℕ → Option Token → Reader ExprAst
  between_of left copied negated = do
    t ← charge l.operators (3 + copied) (one c.Between) (terminal (one c.Between))
    low ← sum_of
    and ← terminal (one c.And)
    high ← sum_of
    pure (unless_not negated t.place (between t.place left low high))

  unfoldable pub within : ExprAst → ℕ → Reader ExprAst
  within left copied = do
    negated ← maybe (one c.Not) (terminal (one c.Not))
    either (one c.In) (among_of left copied negated) (between_of left copied negated)

  unfoldable pub suffix : ExprAst → ℕ → Reader ExprAst
  suffix left copied = either comparing (operation comparing sum_of left) (either (one c.Is) (is_null left) (either tests (within left copied) (pure left)))

  unfoldable pub test_of : Reader ExprAst
  test_of = do
    before ← count
    left ← sum_of
    after_ ← count
    suffix left (after_ - before)

  unfoldable pub negated : Reader ExprAst
  negated = do
    t ← terminal (one c.Not)
    e ← below.negation
    pure (at t.place (node.Not e))

  unfoldable pub negation_of : Reader ExprAst
  negation_of = either (one c.Not) (inside (one c.Not) d negated) test_of

  unfoldable pub conjunction : Reader ExprAst
  conjunction = chain (one c.And) negation_of

  unfoldable pub disjunction : Reader ExprAst
  disjunction = chain (one c.Or) conjunction

  unfoldable pub whole_expr : Reader ExprAst
  whole_expr = apart_from disjunction

  -- ---- selects

  unfoldable pub all_item : Reader ItemAst
  all_item = do
    star ← terminal (one c.Star)
    pure (item.All star.place)

  unfoldable pub all_of_item : Reader ItemAst
  all_of_item = do
    t ← terminal names
    dot ← terminal (one c.Dot)
    star ← terminal (one c.Star)
    pure (item.AllOf t.text t.place)

  unfoldable pub one_item : Reader ItemAst
  one_item = do
    e ← whole_expr
    name ← maybe called_first called
    pure (item.One e (text_of name))

  unfoldable pub named_item : Reader ItemAst
  named_item = ahead all_of_ahead all_of_item one_item

  unfoldable pub select_item : Reader ItemAst
  select_item = either (one c.Star) all_item named_item

  unfoldable pub table_name : Reader FromAst
  table_name = do
    t ← charge l.tables 1 names (terminal names)
    alias ← maybe called_first called
    pure (from.Named t.text (alias_or alias t.text) t.place)

  unfoldable pub nested : Reader (ℕ × List SelectAst)
  nested = do
    open_ ← terminal (one c.Open)
    parts ← below.union
    close ← terminal (one c.Close)
    pure (open_.place, parts)

  unfoldable pub derived_table : Reader FromAst
  derived_table = do
    found ← inside (one c.Open) d nested
    alias ← called
    pure (from.Derived found.1 alias.text found.0)

  unfoldable pub from_of : Reader FromAst
  from_of = either (one c.Open) derived_table table_name

  unfoldable pub inner_join : Reader JoinKind
  inner_join = do
    inner ← terminal (one c.Inner)
    join_ ← terminal (one c.Join)
    pure join.Inner

  unfoldable pub outer_join : Reader JoinKind
  outer_join = do
    side ← terminal sides
    outer ← maybe (one c.Outer) (terminal (one c.Outer))
    join_ ← terminal (one c.Join)
    pure (side_of side.class)

  unfoldable pub plain_join : Reader JoinKind
  plain_join = do
    join_ ← terminal (one c.Join)
    pure join.Inner

  unfoldable pub join_words : Reader JoinKind
  join_words = either (one c.Inner) inner_join (either sides outer_join plain_join)

  unfoldable pub join_of : List JoinAst → Reader (List JoinAst)
  join_of joins = do
    k ← join_words
    right ← from_of
    on ← terminal (one c.On)
    e ← whole_expr
    pure (joins ++ join_ast k right e ∷ [])

  unfoldable pub where_of : Reader ExprAst
  where_of = do
    where_ ← terminal (one c.Where)
    whole_expr

  unfoldable pub group_by : Reader (List ExprAst)
  group_by = do
    group ← terminal (one c.Group)
    by ← terminal (one c.By)
    listed expr_first l.more whole_expr

  unfoldable pub having_of : Reader ExprAst
  having_of = do
    having ← terminal (one c.Having)
    whole_expr

  unfoldable pub select : Reader SelectAst
  select = do
    select_ ← terminal (one c.Select)
    distinct ← maybe (one c.Distinct) (terminal (one c.Distinct))
    items ← listed item_first l.more select_item
    from_ ← terminal (one c.From)
    first ← from_of
    joins ← turns join_first join_of []
    test_ ← maybe (one c.Where) where_of
    groups ← maybe (one c.Group) group_by
    having ← maybe (one c.Having) having_of
    pure (select_of select_ distinct items first joins test_ groups having)

  unfoldable pub united : List SelectAst → Reader (List SelectAst)
  united parts = do
    union ← terminal (one c.Union)
    all ← terminal (one c.All)
    next ← select
    pure (parts ++ next ∷ [])

  unfoldable pub union_of : Reader (List SelectAst)
  union_of = do
    first ← select
    turns (one c.Union) united (first ∷ [])

  -- ---- the query

  unfoldable pub nulls_order : Reader Token
  nulls_order = do
    nulls ← terminal (one c.Nulls)
    terminal (c.First ∷ c.Last ∷ [])

  unfoldable pub key : Reader KeyAst
  key = do
    e ← whole_expr
    direction ← maybe (c.Asc ∷ c.Desc ∷ []) (terminal (c.Asc ∷ c.Desc ∷ []))
    nulls ← maybe (one c.Nulls) nulls_order
    pure (key_of e direction nulls)

  unfoldable pub order_by : Reader (List KeyAst)
  order_by = do
    order ← terminal (one c.Order)
    by ← terminal (one c.By)
    listed expr_first l.more key

  unfoldable pub number : Class → Reader NumberAst
  number k = do
    word ← terminal (one k)
    t ← terminal (one c.Number)
    pure (number_of t)

abbrev pub none_below : Readers
none_below = record { expr = over too_deep []; negation = over too_deep []; unary = over too_deep []; union = over too_deep [] }

abbrev pub reading : Limits → ℕ → Readers → Readers
reading l d below = record { expr = disjunction l d below; negation = negation_of l d below; unary = unary_of l d below; union = union_of l d below }

-- what nested phrases are read by, where there is room for so many levels
unfoldable pub under : Limits → ℕ → Readers
under l zero = none_below
under l (suc d) = reading l d (under l d)

unfoldable pub script_within : Limits → ℕ → ℕ → Reader Script
script_within l tables d = do
  declared_ ← up_to (one c.Create) (declared l.more) (over too_many (one c.Create)) tables []
  parts ← union_of l d (under l d)
  order ← maybe (one c.Order) (order_by l d (under l d))
  limit ← maybe (one c.Limit) (number l d (under l d) c.Limit)
  offset ← maybe (one c.Offset) (number l d (under l d) c.Offset)
  end ← maybe (one c.Semicolon) (terminal (one c.Semicolon))
  pure (record { tables = declared_; parts = parts; order = or_empty order; limit = limit; offset = offset })

abbrev pub script_at : ℕ → Reader Script
script_at k = script_within (limits k) (beyond k 64) (beyond k 64)
