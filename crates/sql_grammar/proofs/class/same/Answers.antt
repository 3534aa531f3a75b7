use Rattle.std.proofs.Common.{◌≡◌, refl, ap, ◌∙◌}
use Rattle.std.specs.Prelude.{nat_eq}
use denote.Enum.Declared.{tag_of}
use Rattle.sql_grammar.specs.contracts.class.Class.{the_type}
use Rattle.sql_grammar.specs.declared.class.Class.{Class}
use Rattle.sql_grammar.specs.declared.class.Class.TheVariants as class
use Rattle.sql_grammar.specs.Class.{rank}
use Rattle.sql_grammar.proofs.class.same.Goals as goal

tag_rank : (c : Class) → tag_of the_type c ≡ rank c
tag_rank class.Name = refl
tag_rank class.Quoted = refl
tag_rank class.Number = refl
tag_rank class.Str = refl
tag_rank class.External = refl
tag_rank class.Stored = refl
tag_rank class.Csv = refl
tag_rank class.Arrow = refl
tag_rank class.Header = refl
tag_rank class.Row = refl
tag_rank class.Location = refl
tag_rank class.Options = refl
tag_rank class.IntType = refl
tag_rank class.TextType = refl
tag_rank class.BoolType = refl
tag_rank class.DecimalType = refl
tag_rank class.Abs = refl
tag_rank class.Length = refl
tag_rank class.Count = refl
tag_rank class.Sum = refl
tag_rank class.Min = refl
tag_rank class.Max = refl
tag_rank class.Avg = refl
tag_rank class.Create = refl
tag_rank class.Table = refl
tag_rank class.As = refl
tag_rank class.With = refl
tag_rank class.Union = refl
tag_rank class.All = refl
tag_rank class.Order = refl
tag_rank class.By = refl
tag_rank class.Limit = refl
tag_rank class.Offset = refl
tag_rank class.Asc = refl
tag_rank class.Desc = refl
tag_rank class.Nulls = refl
tag_rank class.First = refl
tag_rank class.Last = refl
tag_rank class.Select = refl
tag_rank class.Distinct = refl
tag_rank class.From = refl
tag_rank class.Where = refl
tag_rank class.Group = refl
tag_rank class.Having = refl
tag_rank class.Inner = refl
tag_rank class.Left = refl
tag_rank class.Right = refl
tag_rank class.Full = refl
tag_rank class.Outer = refl
tag_rank class.Join = refl
tag_rank class.On = refl
tag_rank class.Or = refl
tag_rank class.And = refl
tag_rank class.Not = refl
tag_rank class.Is = refl
tag_rank class.Null = refl
tag_rank class.In = refl
tag_rank class.Between = refl
tag_rank class.True = refl
tag_rank class.False = refl
tag_rank class.Case = refl
tag_rank class.When = refl
tag_rank class.Then = refl
tag_rank class.Else = refl
tag_rank class.End = refl
tag_rank class.Cast = refl
tag_rank class.Coalesce = refl
tag_rank class.Open = refl
tag_rank class.Close = refl
tag_rank class.Comma = refl
tag_rank class.Semicolon = refl
tag_rank class.Dot = refl
tag_rank class.Star = refl
tag_rank class.Plus = refl
tag_rank class.Minus = refl
tag_rank class.Slash = refl
tag_rank class.Percent = refl
tag_rank class.Equal = refl
tag_rank class.Unequal = refl
tag_rank class.Less = refl
tag_rank class.AtMost = refl
tag_rank class.Greater = refl
tag_rank class.AtLeast = refl
tag_rank class.Bars = refl

pub returns : goal.returns
returns c = ap (λ n. nat_eq n (tag_of the_type c.args.b)) (tag_rank c.args.a) ∙ ap (λ n. nat_eq (rank c.args.a) n) (tag_rank c.args.b)
