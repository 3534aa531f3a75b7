-- Meaning: what a projection requires, and what it has made of a batch.
use Rattle.std.specs.Prelude.{◌≤◌, ◌≡◌, true, Option, Some, List, [], ◌∷◌, ◌++◌, length, take, All}
use Rattle.dfx_value.specs.Kinds.{is_kind}
use Rattle.dfx_value.specs.declared.fault.EvalFault.{EvalFault}
use Rattle.dfx_value.specs.declared.kind.Kind.{Kind}
use Rattle.value_columns.specs.Columns.{KindedValues}
use Rattle.column_batch.specs.Batches.{rows_from}
use Rattle.logical_plan.specs.Items.{Cells, of_rows, project_items}
use Rattle.scalar_exprs.specs.declared.expr.Expr.{Expr}
use Rattle.scalar_exprs.specs.Kinds.{constants_fit, kind_of}
use Rattle.operator_poll.specs.Waiting.{as_far, faulted}

-- an expression of a kind over columns of these kinds
pub record HasKind (kinds : List Kind) (e : Expr) (kind : Kind) : Type 0 where
  pub constants : constants_fit e ≡ true
  pub has : kind_of kinds e ≡ Some kind
  pub is : is_kind kind ≡ true

-- each expression has its kind
abbrev pub HaveKinds : List Kind → List Expr → List Kind → Type 0
HaveKinds kinds [] [] = Unit {0}
HaveKinds kinds (e ∷ es) (k ∷ ks) = HasKind kinds e k × HaveKinds kinds es ks
HaveKinds kinds _ _ = ⊥

-- the values of expressions on the first of these rows, as columns, up to the first row on which one of them has a fault
pub record IsMade (es : List Expr) (rows : List Cells) (columns : List KindedValues) (front : List Cells) (fault : Option EvalFault) : Type 0 where
  pub first : front ≡ take (length front) rows
  pub comes : as_far (project_items es (of_rows rows)) ≡ of_rows (rows_from columns 0 (length front)) ++ faulted fault
  pub long : All (λ c. length front ≤ length c.values) columns
