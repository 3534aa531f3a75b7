-- Meaning: what lists of partitions owe to groups and joins.
use Rattle.std.specs.Prelude.{ℕ, ◌<◌, ◌≡◌, Bool, true, Option, List, [], length, slice_index_or}
use Rattle.std.specs.List.{flat_map, AllPass}
use Rattle.dfx_value.specs.Kinds.{are_of}
use Rattle.dfx_value.specs.declared.kind.Kind.{Kind}
use Rattle.dfx_value.specs.declared.op.AggCall.{AggCall}
use Rattle.dfx_value.specs.declared.op.JoinKind.{JoinKind}
use Rattle.scalar_exprs.specs.declared.expr.Expr.{Expr}
use Rattle.physical_plan.specs.declared.plan.Plan.{Plan}
use Rattle.physical_plan.specs.declared.plan.Plan.TheOpen.{Plan-F}
use Rattle.physical_plan.specs.Numbers.{numbers}
use Rattle.logical_plan.specs.Items.{Item, rows, concat}
use Rattle.logical_plan.specs.Joins.{joined}
use Rattle.logical_plan.specs.Groups.{aggregated, distinct}
use Rattle.content_laws.specs.Bags.{SameBag, together, Alike}
use Rattle.phase_laws.specs.Phases.{AreApart}
use Rattle.join_laws.specs.Joining.{AreMatched}
use Rattle.answer_laws.specs.Meant.{Grouping, Phases}

abbrev pub part : List (List Item) → ℕ → List Item
part parts i = slice_index_or parts i []

-- the laws on lists of items that groups and joins stand on
pub record LawsOfParts (phases : Phases) : Type 0 where
  -- two_phases_law.grouped, with `Alike` for the segments
  pub grouped : (g : Grouping) (segments : List (List Item)) (input : List Item) (n : ℕ) (parts : ℕ → List Item)
      → AllPass (are_of g.kinds) (rows input) → Alike (concat segments) input
      → SameBag (together n parts) (flat_map (phases.first g) segments)
      → AreApart (numbers (length g.columns)) n parts
      → Alike (together n (λ i. phases.second g (parts i))) (aggregated g.columns g.calls g.kinds input)
  -- join_law.parts, by join_law.one
  pub of_joins : (kind : JoinKind) (lw rw : ℕ) (keys : List (ℕ × ℕ)) (rest : Option Expr) (n : ℕ)
      (lefts rights : ℕ → List Item) (ls rs : List Item)
      → Alike (together n lefts) ls → Alike (together n rights) rs → AreMatched keys n lefts rights
      → Alike (together n (λ i. joined kind lw rw keys rest (lefts i) (rights i))) (joined kind lw rw keys rest ls rs)
  -- two_phases_law.no_calls
  pub distincts : (kinds : List Kind) (input : List Item) → AllPass (are_of kinds) (rows input) → 0 < length kinds
      → distinct input ≡ aggregated (numbers (length kinds)) [] kinds input

-- what stands of the inputs of groups and joins gathers and matches them, where a test of nodes passes
pub record Delivers (spread : Plan-F Plan → Bool) (stands : Plan → List (List Item) → Type 0) : Type 0 where
  pub gathered : (q : Plan) (keys : List ℕ) (calls : List AggCall) (xs : List (List Item))
      → spread (Plan-F.FinalGroup q keys calls) ≡ true → stands q xs
      → AreApart keys (length xs) (part xs)
  pub matched : (kind : JoinKind) (p q : Plan) (keys : List (ℕ × ℕ)) (rest : Option Expr) (xs ys : List (List Item))
      → spread (Plan-F.HashJoin kind p q keys rest) ≡ true
      → stands p xs → stands q ys → (length xs ≡ length ys) × AreMatched keys (length xs) (part xs) (part ys)
