-- Meaning: queries whose columns are in range.
use Rattle.std.specs.Prelude.{ℕ, ◌+◌, ◌≡◌, Bool, true, ◌&&◌, List, [], ◌∷◌, length, map}
use Rattle.logical_plan.specs.declared.plan.Logical.{Logical}
use Rattle.logical_plan.specs.declared.plan.Logical.TheOpen.{Logical-F}
use Rattle.logical_plan.specs.declared.plan.Logical.TheFolds.{para-Logical, map-Logical}
use Rattle.logical_plan.specs.declared.query.Query.{Query}
use Rattle.logical_plan.specs.Body.{kinds}
use Rattle.physical_plan.specs.Properties.{left_keys, right_keys}
use Rattle.physical_plan.specs.Everywhere.{all_true}
use Rattle.join_lowering.specs.Keys.{columns}
use Rattle.planned_laws.specs.Ranges.{are_below, are_equal, key_columns, call_columns, expr_columns, rest_columns}

-- how many columns a body has
abbrev pub body_width : Logical → ℕ
body_width body = length (kinds body)

abbrev pub body_inputs : {A : Type 0} → Logical-F A → List A
body_inputs (Logical-F.Scan table kinds) = []
body_inputs (Logical-F.Filter input test) = input ∷ []
body_inputs (Logical-F.Project input items) = input ∷ []
body_inputs (Logical-F.Join kind left right keys rest) = left ∷ right ∷ []
body_inputs (Logical-F.Aggregate input keys calls) = input ∷ []
body_inputs (Logical-F.Distinct input) = input ∷ []
body_inputs (Logical-F.UnionAll inputs) = inputs

-- the columns of a node are in range, and the inputs of a union have one width
abbrev pub node_in_range : Logical-F Logical → Bool
node_in_range (Logical-F.Filter input test) = are_below (body_width input) (columns test)
node_in_range (Logical-F.Project input items) = are_below (body_width input) (expr_columns items)
node_in_range (Logical-F.Join kind left right keys rest) =
    are_below (body_width left) (left_keys keys) && are_below (body_width right) (right_keys keys) && are_below (body_width left + body_width right) (rest_columns rest)
node_in_range (Logical-F.Aggregate input keys calls) = are_below (body_width input) keys && are_below (body_width input) (call_columns calls)
node_in_range (Logical-F.UnionAll inputs) = are_equal (map body_width inputs)
node_in_range _ = true

-- here and in the inputs
abbrev pub here_and_below : Logical-F (Logical × Bool) → Bool
here_and_below z = node_in_range (map-Logical (Logical × Bool) Logical (λ b. b.0) z) && all_true (body_inputs (map-Logical (Logical × Bool) Bool (λ b. b.1) z))

-- those of every node of a body
unfoldable pub body_in_range : Logical → Bool
body_in_range = para-Logical Bool here_and_below

pub record QueryInRange (q : Query) : Type 0 where
  pub body : body_in_range q.body ≡ true
  pub order : are_below (body_width q.body) (key_columns q.order) ≡ true
