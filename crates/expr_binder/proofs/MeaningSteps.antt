-- The meaning of an expression, node by node.
use Rattle.std.proofs.Common.{◌≡◌, refl, ap, sym, ◌∙◌, ℕ, Bool, Option, Some, None, List, [], ◌∷◌, Ok, map}
use Rattle.dfx_value.specs.declared.kind.Kind.{Kind}
use Rattle.dfx_value.specs.declared.op.Op.{Op}
use Rattle.sql_grammar.specs.declared.ast.FnAst.{FnAst}
use Rattle.sql_grammar.specs.declared.ast.ExprAst.{ExprAst, roll-ExprAst, out-ExprAst}
use Rattle.sql_grammar.specs.declared.ast.NodeAst.{NodeAst, roll-NodeAst}
use Rattle.sql_grammar.specs.declared.ast.NodeAst.TheOpen.{NodeAst-F, ExprAst-F}
use Rattle.sql_grammar.specs.declared.ast.NodeAst.TheFolds.{para-roll-ExprAst, para-roll-NodeAst, map-NodeAst}
use Rattle.sql_grammar.specs.declared.ast.NodeAst.TheVariants as node
use Rattle.typed_exprs.specs.declared.case.Arm.{Arm}
use Rattle.typed_exprs.specs.declared.typed.Typed.{Typed}
use Rattle.typed_exprs.specs.declared.typed.Typed.TheVariants as typed
use Rattle.typed_exprs.specs.declared.typed.Unary.TheVariants as operator
use Rattle.typed_exprs.specs.Answer.{Answer, ◌>>=◌}
use Rattle.typed_exprs.specs.Case.{chosen}
use Rattle.expr_binder.specs.Groups.{Over}
use Rattle.typed_exprs.specs.Literals.{literal}
use Rattle.expr_binder.specs.Meaning.{Sense, Part, meaning, of_node, of_layer, node_sense, expr_sense, or_sense, key_of, node_of, place_of, number, text, named, counted, call_meaning, case_meaning, binary_meaning, unary_meaning, truth, senses, meanings, all, arm_of, arm_meaning, arms_meaning, other_meaning, operands_over, applied}
use Rattle.typed_exprs.specs.Scopes.{Columns, column_of}

-- ---- an expression

rolled : (columns : Columns) (x : ExprAst-F NodeAst ExprAst) (over : Over)
    → meaning columns (roll-ExprAst x) over ≡ or_sense (key_of columns over (roll-ExprAst x)) (of_node columns x.node (roll-ExprAst x) x.place over)
unfolding meaning of_node
rolled columns x over = ap (λ (s : Sense). s over) (para-roll-ExprAst (ExprAst → ℕ → Sense) Sense (node_sense columns) (expr_sense columns) x)

pub meaning_is : (columns : Columns) (e : ExprAst) (over : Over) → meaning columns e over ≡ or_sense (key_of columns over e) (of_node columns (node_of e) e (place_of e) over)
meaning_is columns e over = rolled columns (out-ExprAst e) over

-- ---- a node

abbrev Below : Columns → NodeAst-F NodeAst ExprAst → NodeAst-F (NodeAst × (ExprAst → ℕ → Sense)) Part
Below columns z = map-NodeAst NodeAst ExprAst (NodeAst × (ExprAst → ℕ → Sense)) Part (λ n. (n, of_node columns n)) (λ e. (e, meaning columns e)) z

at_level : (columns : Columns) (n : NodeAst) (z : NodeAst-F NodeAst ExprAst) → roll-NodeAst z ≡ n → (e : ExprAst) (place : ℕ) (over : Over)
    → of_node columns n e place over ≡ of_layer columns over e place (Below columns z)
unfolding of_node meaning
at_level columns n z r e place over =
    ap (λ (m : NodeAst). of_node columns m e place over) (sym r)
    ∙ ap (λ (s : ExprAst → ℕ → Sense). s e place over) (para-roll-NodeAst (ExprAst → ℕ → Sense) Sense (node_sense columns) (expr_sense columns) z)

senses_of : (columns : Columns) (over : Over) (es : List ExprAst)
    → senses over (map (λ (x : ExprAst). (x, meaning columns x)) es) ≡ meanings columns over es
senses_of columns over [] = refl
senses_of columns over (x ∷ xs) = ap (λ (rest : Answer (List Typed)). meaning columns x over >>= λ t. rest >>= λ ts. Ok (t ∷ ts)) (senses_of columns over xs)

arms_of : (columns : Columns) (over : Over) (arms : List (ExprAst × ExprAst))
    → all (map (arm_of over) (map (λ (arm : ExprAst × ExprAst). ((arm.0, meaning columns arm.0), (arm.1, meaning columns arm.1))) arms)) ≡ arms_meaning columns over arms
arms_of columns over [] = refl
arms_of columns over (arm ∷ arms) = ap (λ (rest : Answer (List Arm)). arm_meaning columns over arm >>= λ t. rest >>= λ ts. Ok (t ∷ ts)) (arms_of columns over arms)

module _ (columns : Columns) (e : ExprAst) (place : ℕ) (over : Over) where
  pub node-Number : (t : List ℕ) → of_node columns (node.Number t) e place over ≡ number place (literal t)
  node-Number t = at_level columns (node.Number t) (NodeAst-F.Number t) (node.rolls-Number t) e place over

  pub node-Str : (t : List ℕ) → of_node columns (node.Str t) e place over ≡ text place t
  node-Str t = at_level columns (node.Str t) (NodeAst-F.Str t) (node.rolls-Str t) e place over

  pub node-Null : of_node columns node.Null e place over ≡ Ok typed.Null
  node-Null = at_level columns node.Null NodeAst-F.Null node.rolls-Null e place over

  pub node-Truth : (b : Bool) → of_node columns (node.Truth b) e place over ≡ Ok (truth b)
  node-Truth b = at_level columns (node.Truth b) (NodeAst-F.Truth b) (node.rolls-Truth b) e place over

  pub node-Name : (alias : Option (List ℕ)) (name : List ℕ) → of_node columns (node.Name alias name) e place over ≡ named columns over place (column_of columns place alias name)
  node-Name alias name = at_level columns (node.Name alias name) (NodeAst-F.Name alias name) (node.rolls-Name alias name) e place over

  pub node-Call : (f : FnAst) (es : List ExprAst) → of_node columns (node.Call f es) e place over ≡ call_meaning columns over e place f es
  node-Call f es =
      at_level columns (node.Call f es) (NodeAst-F.Call f es) (node.rolls-Call f es) e place over
      ∙ ap (λ (ts : Answer (List Typed)). ts >>= applied columns over e place f) (senses_of columns (operands_over f over) es)

  pub node-CountAll : of_node columns node.CountAll e place over ≡ counted columns over e place
  node-CountAll = at_level columns node.CountAll NodeAst-F.CountAll node.rolls-CountAll e place over

  pub node-Not : (a : ExprAst) → of_node columns (node.Not a) e place over ≡ unary_meaning columns over place operator.Not a
  node-Not a = at_level columns (node.Not a) (NodeAst-F.Not a) (node.rolls-Not a) e place over

  pub node-Neg : (a : ExprAst) → of_node columns (node.Neg a) e place over ≡ unary_meaning columns over place operator.Neg a
  node-Neg a = at_level columns (node.Neg a) (NodeAst-F.Neg a) (node.rolls-Neg a) e place over

  pub node-IsNull : (a : ExprAst) → of_node columns (node.IsNull a) e place over ≡ unary_meaning columns over place operator.IsNull a
  node-IsNull a = at_level columns (node.IsNull a) (NodeAst-F.IsNull a) (node.rolls-IsNull a) e place over

  pub node-Binary : (o : Op) (a b : ExprAst) → of_node columns (node.Binary o a b) e place over ≡ binary_meaning columns over place o a b
  node-Binary o a b = at_level columns (node.Binary o a b) (NodeAst-F.Binary o a b) (node.rolls-Binary o a b) e place over

  pub node-Case : (arms : List (ExprAst × ExprAst)) (o : Option ExprAst) → of_node columns (node.Case arms o) e place over ≡ case_meaning columns over place arms o
  node-Case arms None =
      at_level columns (node.Case arms None) (NodeAst-F.Case arms None) (node.rolls-Case arms None) e place over
      ∙ ap (λ (bound : Answer (List Arm)). bound >>= λ b. other_meaning columns over None >>= λ d. chosen place b d) (arms_of columns over arms)
  node-Case arms (Some x) =
      at_level columns (node.Case arms (Some x)) (NodeAst-F.Case arms (Some x)) (node.rolls-Case arms (Some x)) e place over
      ∙ ap (λ (bound : Answer (List Arm)). bound >>= λ b. other_meaning columns over (Some x) >>= λ d. chosen place b d) (arms_of columns over arms)

  pub node-Cast : (a : ExprAst) (to : Kind) → of_node columns (node.Cast a to) e place over ≡ unary_meaning columns over place (operator.Cast to) a
  node-Cast a to = at_level columns (node.Cast a to) (NodeAst-F.Cast a to) (node.rolls-Cast a to) e place over

pub ruleset nodes = (node-Number, node-Str, node-Null, node-Truth, node-Name, node-Call, node-CountAll, node-Not, node-Neg, node-IsNull, node-Binary, node-Case, node-Cast)
