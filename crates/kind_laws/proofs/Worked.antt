-- The worked query of the README, computed from the definitions.
use Rattle.std.proofs.Common.{◌≡◌, refl, ℕ, pos, true, false, List, [], ◌∷◌, Some, Ok}
use Rattle.std.specs.Str.{is_utf8, chars}
use lib.Utf8.{encode}
use Rattle.dfx_value.specs.Order.{value_cmp}
use Rattle.dfx_value.specs.Decimal.{units}
use Rattle.dfx_value.specs.declared.kind.Kind.{Kind}
use Rattle.dfx_value.specs.declared.kind.Kind.TheVariants as kind
use Rattle.dfx_value.specs.declared.op.AggCall.TheVariants as call
use Rattle.dfx_value.specs.declared.op.JoinKind.TheVariants as join
use Rattle.dfx_value.specs.declared.op.Op.TheVariants as op
use Rattle.dfx_value.specs.declared.value.Value.{Value}
use Rattle.dfx_value.specs.declared.value.Value.TheVariants as value
use Rattle.scalar_exprs.specs.declared.expr.Expr.TheVariants.{Column, Const, Binary}
use Rattle.scalar_exprs.specs.Agg.{agg}
use Rattle.scalar_exprs.proofs.EvalLemmas.{evals}
use Rattle.scalar_exprs.proofs.KindSteps.{kinds}
use Rattle.logical_plan.specs.declared.plan.Logical.{Logical}
use Rattle.logical_plan.specs.declared.plan.Logical.TheVariants.{Scan, Filter, Project, Join, Aggregate, Distinct, UnionAll}
use Rattle.logical_plan.specs.Items.{Item}
use Rattle.logical_plan.specs.Body.{Tables, body}
use Rattle.logical_plan.specs.Body as bodies_of
use Rattle.logical_plan.proofs.KindSteps.{kinds_by_node}
use Rattle.logical_plan.proofs.BodySteps.{bodies}
use Rattle.kind_laws.specs.Kinded.{is_well_kinded}
use Rattle.kind_laws.specs.Giving.{everywhere_kinded}
use Rattle.kind_laws.proofs.KindedSteps.{kinded_by_node, fits}
use Rattle.kind_laws.proofs.Bodies.{everywhere}

abbrev int : ℕ → Value
int n = value.Int (pos n)

abbrev cents : ℕ → Value
cents n = value.Dec (record { unscaled = pos n; scale = 2 })

abbrev text : ℕ → Value
text b = value.Text (b ∷ [])

-- towns and their people: (BIGINT, VARCHAR); sums that they paid: (BIGINT, DECIMAL(5, 2))
abbrev people_kinds : List Kind
people_kinds = kind.Int ∷ kind.Text ∷ []

abbrev paid_kinds : List Kind
paid_kinds = kind.Int ∷ kind.Dec 5 2 ∷ []

abbrev kinds_given : List (List Kind)
kinds_given = people_kinds ∷ paid_kinds ∷ []

abbrev people : List Item
people = Ok (int 1 ∷ text 97 ∷ []) ∷ Ok (int 2 ∷ text 98 ∷ []) ∷ []

-- the second table in two files
abbrev tables : Tables
tables = (people ∷ []) ∷ ((Ok (int 1 ∷ cents 150 ∷ []) ∷ []) ∷ (Ok (int 1 ∷ cents 25 ∷ []) ∷ []) ∷ []) ∷ []

abbrev of_people : Logical
of_people = Scan 0 people_kinds

-- SELECT DISTINCT town, COUNT(*), SUM(cents) FROM people LEFT JOIN paid ON people.id = paid.id AND cents > 1.00 GROUP BY town
abbrev groups : Logical
groups = Distinct (Aggregate
    (Join join.Left of_people (Scan 1 paid_kinds) ((0, 0) ∷ []) (Some (Binary op.Gt (Column 3) (Const (cents 100) (kind.Dec 3 2)))))
    (1 ∷ []) (call.CountAll ∷ call.Sum 3 ∷ []))

-- SELECT town, id, NULL FROM people
abbrev others : Logical
others = Project of_people (Column 1 ∷ Column 0 ∷ Const value.Null (kind.Dec 38 2) ∷ [])

-- the one UNION ALL the other
abbrev query : Logical
query = UnionAll (groups ∷ others ∷ [])

pub well : is_well_kinded kinds_given query ≡ true
well = simp (kinded_by_node, kinds_by_node, kinds, fits)

pub kinds_are : bodies_of.kinds query ≡ kind.Text ∷ kind.Int ∷ kind.Dec 38 2 ∷ []
kinds_are = simp (kinds_by_node)

-- so every node gives rows of its kinds, and there are rows
pub gives : everywhere_kinded tables query ≡ true
unfolding is_utf8 chars encode
gives = everywhere kinds_given tables (refl, (refl, tt)) query well

pub items_are : body tables query
    ≡ Ok (text 97 ∷ int 1 ∷ cents 150 ∷ []) ∷ Ok (text 98 ∷ int 1 ∷ value.Null ∷ []) ∷ Ok (text 97 ∷ int 1 ∷ value.Null ∷ []) ∷ Ok (text 98 ∷ int 2 ∷ value.Null ∷ []) ∷ []
unfolding agg value_cmp units
items_are = simp (bodies, kinds_by_node, evals)

-- a union of other kinds, a test that is a number, and a DISTINCT over no columns
pub mixed : is_well_kinded kinds_given (UnionAll (of_people ∷ groups ∷ [])) ≡ false
mixed = simp (kinded_by_node, kinds_by_node, kinds, fits)

pub no_test : is_well_kinded kinds_given (Filter of_people (Column 0)) ≡ false
no_test = simp (kinded_by_node, kinds_by_node, kinds, fits)

pub no_columns : is_well_kinded kinds_given (Distinct (Project of_people [])) ≡ false
no_columns = simp (kinded_by_node, kinds_by_node)
