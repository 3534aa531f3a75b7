-- Meaning: the expression over columns that a tree is, or the first refusal, operands before their operator and from the left.
use Rattle.std.specs.Prelude.{ℕ, ◌+◌, Bool, not, Option, Some, None, List, [], ◌∷◌, length, slice_get, Ok, map}
use Rattle.std.specs.Str.{is_utf8}
use Rattle.dfx_value.specs.declared.kind.Kind.{Kind}
use Rattle.dfx_value.specs.declared.kind.Kind.TheVariants as kind
use Rattle.dfx_value.specs.declared.op.AggCall.{AggCall}
use Rattle.dfx_value.specs.declared.op.AggCall.TheVariants as agg_call
use Rattle.dfx_value.specs.declared.op.Op.{Op}
use Rattle.dfx_value.specs.declared.value.Value.{Value}
use Rattle.dfx_value.specs.declared.value.Value.TheVariants as value
use Rattle.scalar_exprs.specs.declared.expr.Expr.TheVariants as expr
use Rattle.scalar_exprs.specs.Kinds.{when_number, length_kind, agg_kind}
use Rattle.sql_grammar.specs.declared.ast.FnAst.{FnAst}
use Rattle.sql_grammar.specs.declared.ast.FnAst.TheVariants as fn
use Rattle.sql_grammar.specs.declared.ast.ExprAst.{ExprAst, roll-ExprAst}
use Rattle.sql_grammar.specs.declared.ast.NodeAst.{NodeAst}
use Rattle.sql_grammar.specs.declared.ast.NodeAst.TheOpen.{NodeAst-F, ExprAst-F}
use Rattle.sql_grammar.specs.declared.ast.NodeAst.TheViews.{out-ExprAst}
use Rattle.sql_grammar.specs.declared.ast.NodeAst.TheFolds.{para-ExprAst, para-NodeAst}
use Rattle.typed_exprs.specs.declared.case.Arm.{Arm}
use Rattle.typed_exprs.specs.declared.refusal.Why.TheVariants as why
use Rattle.typed_exprs.specs.declared.scope.Column.{Column}
use Rattle.typed_exprs.specs.declared.typed.Typed.{Typed}
use Rattle.typed_exprs.specs.declared.typed.Typed.TheVariants as typed
use Rattle.typed_exprs.specs.declared.typed.Unary.{Unary}
use Rattle.typed_exprs.specs.declared.typed.Unary.TheVariants as operator
use Rattle.typed_exprs.specs.Answer.{Answer, ◌>>=◌, refuse, or_refuse, refuse_if}
use Rattle.typed_exprs.specs.Case.{chosen}
use Rattle.expr_binder.specs.Groups.{Groups, Over}
use Rattle.typed_exprs.specs.Literals.{literal}
use Rattle.expr_binder.specs.Same.{place_among}
use Rattle.typed_exprs.specs.Scopes.{Columns, column_of}
use Rattle.typed_exprs.specs.Typed.{settled, or_mismatch, of_kind, unary, binary, coalesced}

-- ---- where an expression stands

abbrev pub column : ℕ → Kind → Typed
column k kind = typed.Of (expr.Column k) kind

abbrev pub column_kind : List Kind → ℕ → Kind
column_kind kinds k = or_text (slice_get kinds k) where
  or_text : Option Kind → Kind
  or_text None = kind.Text
  or_text (Some j) = j

-- over groups, an expression that is a key is that key's column
abbrev pub key_of : Columns → Over → ExprAst → Option Typed
key_of columns None e = None
key_of columns (Some g) e = key_at g (place_among columns e g.keys) where
  key_at : Groups → Option ℕ → Option Typed
  key_at g None = None
  key_at g (Some k) = Some (column k (column_kind g.kinds k))

-- ---- names

abbrev pub kind_of_column : Columns → ℕ → Kind
kind_of_column columns k = or_text (slice_get columns k) where
  or_text : Option Column → Kind
  or_text None = kind.Text
  or_text (Some c) = c.kind

-- over groups, only keys have columns
abbrev pub named : Columns → Over → ℕ → Answer ℕ → Answer Typed
named columns None place found = found >>= λ k. Ok (column k (kind_of_column columns k))
named columns (Some g) place found = found >>= λ k. refuse why.NotGrouped place

-- ---- aggregates

abbrev pub call_of : FnAst → AggCall
call_of fn.Sum = agg_call.Sum 0
call_of fn.Min = agg_call.Min 0
call_of fn.Max = agg_call.Max 0
call_of fn.Avg = agg_call.Avg 0
call_of _ = agg_call.Count 0

-- the column of a call stands behind those of the keys
abbrev pub call_column : Columns → Groups → ExprAst → ℕ
call_column columns g e = length g.keys + or_end (place_among columns e g.calls) where
  or_end : Option ℕ → ℕ
  or_end None = length g.calls
  or_end (Some k) = k

-- of a bound argument
abbrev pub aggregate : Columns → Over → ExprAst → ℕ → FnAst → Typed → Answer Typed
aggregate columns None e place f argument = refuse why.NotGrouped place
aggregate columns (Some g) e place f argument =
    or_mismatch place (agg_kind (call_of f) (Some (settled argument).1)) >>= λ k. Ok (column (call_column columns g e) k)

abbrev pub counted : Columns → Over → ExprAst → ℕ → Answer Typed
counted columns None e place = refuse why.NotGrouped place
counted columns (Some g) e place = Ok (column (call_column columns g e) kind.Int)

-- ---- lists

abbrev pub all : {A : Type 0} → List (Answer A) → Answer (List A)
all [] = Ok []
all (a ∷ more) = a >>= λ x. all more >>= λ xs. Ok (x ∷ xs)

-- ---- one level of a tree, from the meanings of its parts

abbrev pub Sense : Type 0
Sense = Over → Answer Typed

-- a part with its tree
abbrev pub Part : Type 0
Part = ExprAst × Sense

abbrev pub place_of : ExprAst → ℕ
place_of e = (out-ExprAst e).place

abbrev pub node_of : ExprAst → NodeAst
node_of e = (out-ExprAst e).node

abbrev pub senses : Over → List Part → Answer (List Typed)
senses over parts = all (map (λ (p : Part). p.1 over) parts)

abbrev pub arm_of : Over → Part × Part → Answer Arm
arm_of over arm = arm.0.1 over >>= λ c. arm.1.1 over >>= λ r. Ok (record { place = place_of arm.0.0; test = c; result = r })

abbrev pub other_of : Over → Option Part → Answer Typed
other_of over None = Ok typed.Null
other_of over (Some p) = p.1 over

-- where the operands of a function stand: that of an aggregate over the columns
abbrev pub operands_over : FnAst → Over → Over
operands_over fn.Coalesce over = over
operands_over fn.Abs over = over
operands_over fn.Length over = over
operands_over _ over = None

abbrev pub single : List Typed → Option Typed
single (t ∷ []) = Some t
single _ = None

-- a function of one bound operand, or an aggregate
abbrev pub applied_to_one : Columns → Over → ExprAst → ℕ → FnAst → Typed → Answer Typed
applied_to_one columns over e place fn.Abs t = of_kind place expr.Abs when_number (settled t)
applied_to_one columns over e place fn.Length t = of_kind place expr.Length length_kind (settled t)
applied_to_one columns over e place f t = aggregate columns over e place f t

-- a function of its bound operands
abbrev pub applied : Columns → Over → ExprAst → ℕ → FnAst → List Typed → Answer Typed
applied columns over e place fn.Coalesce ts = coalesced place ts
applied columns over e place f ts = or_refuse why.KindMismatch place (single ts) >>= applied_to_one columns over e place f

abbrev pub called : Columns → Over → ExprAst → ℕ → FnAst → List Part → Answer Typed
called columns over e place f parts = senses (operands_over f over) parts >>= applied columns over e place f

-- a number of more digits than a decimal has isn't supported
abbrev pub number : ℕ → Option (Value × Kind) → Answer Typed
number place constant = or_refuse why.Unsupported place constant >>= λ c. Ok (typed.Of (expr.Const c.0 c.1) c.1)

-- a text is UTF-8, as that of each script is; other bytes are none
abbrev pub text : ℕ → List ℕ → Answer Typed
text place t = refuse_if (not (is_utf8 t)) why.Unsupported place (Ok (typed.Of (expr.Const (value.Text t) kind.Text) kind.Text))

abbrev pub truth : Bool → Typed
truth b = typed.Of (expr.Const (value.Bool b) kind.Bool) kind.Bool

abbrev pub of_layer : Columns → Over → ExprAst → ℕ → NodeAst-F (NodeAst × (ExprAst → ℕ → Sense)) Part → Answer Typed
of_layer columns over e place (NodeAst-F.Number digits) = number place (literal digits)
of_layer columns over e place (NodeAst-F.Str string) = text place string
of_layer columns over e place NodeAst-F.Null = Ok typed.Null
of_layer columns over e place (NodeAst-F.Truth b) = Ok (truth b)
of_layer columns over e place (NodeAst-F.Name alias name) = named columns over place (column_of columns place alias name)
of_layer columns over e place (NodeAst-F.Call f parts) = called columns over e place f parts
of_layer columns over e place NodeAst-F.CountAll = counted columns over e place
of_layer columns over e place (NodeAst-F.Not p) = p.1 over >>= unary place operator.Not
of_layer columns over e place (NodeAst-F.Neg p) = p.1 over >>= unary place operator.Neg
of_layer columns over e place (NodeAst-F.IsNull p) = p.1 over >>= unary place operator.IsNull
of_layer columns over e place (NodeAst-F.Binary o p q) = p.1 over >>= λ a. q.1 over >>= λ b. binary place o a b
of_layer columns over e place (NodeAst-F.Case arms other) = all (map (arm_of over) arms) >>= λ bound. other_of over other >>= λ d. chosen place bound d
of_layer columns over e place (NodeAst-F.Cast p to) = p.1 over >>= unary place (operator.Cast to)

abbrev pub node_sense : Columns → NodeAst-F (NodeAst × (ExprAst → ℕ → Sense)) Part → ExprAst → ℕ → Sense
node_sense columns layer e place over = of_layer columns over e place layer

abbrev pub or_sense : Option Typed → Answer Typed → Answer Typed
or_sense (Some key) other = Ok key
or_sense None other = other

abbrev pub expr_sense : Columns → ExprAst-F (NodeAst × (ExprAst → ℕ → Sense)) Part → Sense
expr_sense columns layer over = or_sense (key_of columns over tree) (layer.node.1 tree layer.place over) where
  tree : ExprAst
  tree = roll-ExprAst (record { place = layer.place; node = layer.node.0 })

-- what a node is, that of this expression, at its place
unfoldable pub of_node : Columns → NodeAst → ExprAst → ℕ → Sense
of_node columns = para-NodeAst (ExprAst → ℕ → Sense) Sense (node_sense columns) (expr_sense columns)

-- what an expression is over columns or groups
unfoldable pub meaning : Columns → ExprAst → Sense
meaning columns = para-ExprAst (ExprAst → ℕ → Sense) Sense (node_sense columns) (expr_sense columns)

-- ---- the parts of a tree

abbrev pub meanings : Columns → Over → List ExprAst → Answer (List Typed)
meanings columns over es = all (map (λ (e : ExprAst). meaning columns e over) es)

abbrev pub arm_meaning : Columns → Over → ExprAst × ExprAst → Answer Arm
arm_meaning columns over arm = meaning columns arm.0 over >>= λ c. meaning columns arm.1 over >>= λ r.
    Ok (record { place = place_of arm.0; test = c; result = r })

abbrev pub arms_meaning : Columns → Over → List (ExprAst × ExprAst) → Answer (List Arm)
arms_meaning columns over arms = all (map (arm_meaning columns over) arms)

abbrev pub other_meaning : Columns → Over → Option ExprAst → Answer Typed
other_meaning columns over None = Ok typed.Null
other_meaning columns over (Some e) = meaning columns e over

abbrev pub unary_meaning : Columns → Over → ℕ → Unary → ExprAst → Answer Typed
unary_meaning columns over place o a = meaning columns a over >>= unary place o

abbrev pub case_meaning : Columns → Over → ℕ → List (ExprAst × ExprAst) → Option ExprAst → Answer Typed
case_meaning columns over place arms other = arms_meaning columns over arms >>= λ bound. other_meaning columns over other >>= λ d. chosen place bound d

abbrev pub binary_meaning : Columns → Over → ℕ → Op → ExprAst → ExprAst → Answer Typed
binary_meaning columns over place o a b = meaning columns a over >>= λ x. meaning columns b over >>= λ y. binary place o x y

abbrev pub call_meaning : Columns → Over → ExprAst → ℕ → FnAst → List ExprAst → Answer Typed
call_meaning columns over e place f es = meanings columns (operands_over f over) es >>= applied columns over e place f
