-- Meaning: the tokens that the grammar speaks of.
use Rattle.std.specs.Prelude.{ℕ, nat_eq, List, [], ◌∷◌, Bool, false, ◌||◌}
use Rattle.sql_grammar.specs.declared.class.Class.{Class}
use Rattle.sql_grammar.specs.declared.class.Class.TheVariants as class

-- a number for each class, by which two are compared
abbrev pub rank : Class → ℕ
rank class.Name = 0
rank class.Quoted = 1
rank class.Number = 2
rank class.Str = 3
rank class.External = 4
rank class.Stored = 5
rank class.Csv = 6
rank class.Arrow = 7
rank class.Header = 8
rank class.Row = 9
rank class.Location = 10
rank class.Options = 11
rank class.IntType = 12
rank class.TextType = 13
rank class.BoolType = 14
rank class.DecimalType = 15
rank class.Abs = 16
rank class.Length = 17
rank class.Count = 18
rank class.Sum = 19
rank class.Min = 20
rank class.Max = 21
rank class.Avg = 22
rank class.Create = 23
rank class.Table = 24
rank class.As = 25
rank class.With = 26
rank class.Union = 27
rank class.All = 28
rank class.Order = 29
rank class.By = 30
rank class.Limit = 31
rank class.Offset = 32
rank class.Asc = 33
rank class.Desc = 34
rank class.Nulls = 35
rank class.First = 36
rank class.Last = 37
rank class.Select = 38
rank class.Distinct = 39
rank class.From = 40
rank class.Where = 41
rank class.Group = 42
rank class.Having = 43
rank class.Inner = 44
rank class.Left = 45
rank class.Right = 46
rank class.Full = 47
rank class.Outer = 48
rank class.Join = 49
rank class.On = 50
rank class.Or = 51
rank class.And = 52
rank class.Not = 53
rank class.Is = 54
rank class.Null = 55
rank class.In = 56
rank class.Between = 57
rank class.True = 58
rank class.False = 59
rank class.Case = 60
rank class.When = 61
rank class.Then = 62
rank class.Else = 63
rank class.End = 64
rank class.Cast = 65
rank class.Coalesce = 66
rank class.Open = 67
rank class.Close = 68
rank class.Comma = 69
rank class.Semicolon = 70
rank class.Dot = 71
rank class.Star = 72
rank class.Plus = 73
rank class.Minus = 74
rank class.Slash = 75
rank class.Percent = 76
rank class.Equal = 77
rank class.Unequal = 78
rank class.Less = 79
rank class.AtMost = 80
rank class.Greater = 81
rank class.AtLeast = 82
rank class.Bars = 83

-- a token: its class; its text, a word in lower case and a quoted name or text without its quotes; and the place of its first byte
pub record Token : Type 0 where
  pub class : Class
  pub text : List ℕ
  pub place : ℕ

abbrev pub Tokens : Type 0
Tokens = List Token

-- whether a class is one of these
abbrev pub among : Class → List Class → Bool
among c [] = false
among c (d ∷ ds) = nat_eq (rank c) (rank d) || among c ds

-- whether the next token is of one of these classes
abbrev pub starts : List Class → Tokens → Bool
starts cs [] = false
starts cs (t ∷ ts) = among t.class cs
