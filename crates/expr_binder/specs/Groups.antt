-- Meaning: where an expression stands.
use Rattle.std.specs.Prelude.{Option, List}
use Rattle.dfx_value.specs.declared.kind.Kind.{Kind}
use Rattle.sql_grammar.specs.declared.ast.ExprAst.{ExprAst}

-- the keys with their kinds, and the aggregate calls, each once
pub record Groups : Type 0 where
  pub keys : List ExprAst
  pub kinds : List Kind
  pub calls : List ExprAst

-- over the columns themselves, or over groups of rows
abbrev pub Over : Type 0
Over = Option Groups
