-- The plan of a body, node by node.
use Rattle.std.proofs.Common.{ℕ, zero, suc, ◌≡◌, ◌+◌, ◌-◌, refl, sym, ap, ◌∙◌, Option, Some, None, List, [], ◌∷◌, ◌++◌, map, arith}
use Rattle.dfx_value.specs.declared.kind.Kind.{Kind}
use Rattle.scalar_exprs.specs.declared.expr.Expr.{Expr}
use Rattle.dfx_value.specs.declared.op.JoinKind.{JoinKind}
use Rattle.dfx_value.specs.declared.op.AggCall.{AggCall}
use Rattle.logical_plan.specs.declared.plan.Logical.{Logical}
use Rattle.logical_plan.specs.declared.plan.Logical.TheOpen.{Logical-F}
use Rattle.logical_plan.specs.declared.plan.Logical.TheFolds.{fold-roll-Logical}
use Rattle.logical_plan.specs.declared.plan.Logical.TheVariants.{Scan, Filter, Project, Join, Aggregate, Distinct, UnionAll, rolls-Scan, rolls-Filter, rolls-Project, rolls-Join, rolls-Aggregate, rolls-Distinct, rolls-UnionAll}
use Rattle.physical_plan.specs.Numbers.{numbers_from, numbers}
use Rattle.physical_build.specs.Build.{Built, node, built_of, first_or, first_of}

pub built-Scan : (files : List ℕ) (n : ℕ) (table : ℕ) (kinds : List Kind) → built_of files n (Scan table kinds) ≡ node files n (Logical-F.Scan table kinds)
unfolding built_of
built-Scan files n table kinds = ap (built_of files n) (sym (rolls-Scan table kinds)) ∙ fold-roll-Logical Built (node files n) (Logical-F.Scan table kinds)

pub built-Filter : (files : List ℕ) (n : ℕ) (input : Logical) (test : Expr) → built_of files n (Filter input test) ≡ node files n (Logical-F.Filter (built_of files n input) test)
unfolding built_of
built-Filter files n input test = ap (built_of files n) (sym (rolls-Filter input test)) ∙ fold-roll-Logical Built (node files n) (Logical-F.Filter input test)

pub built-Project : (files : List ℕ) (n : ℕ) (input : Logical) (items : List Expr) → built_of files n (Project input items) ≡ node files n (Logical-F.Project (built_of files n input) items)
unfolding built_of
built-Project files n input items = ap (built_of files n) (sym (rolls-Project input items)) ∙ fold-roll-Logical Built (node files n) (Logical-F.Project input items)

pub built-Join : (files : List ℕ) (n : ℕ) (kind : JoinKind) (left : Logical) (right : Logical) (keys : List (ℕ × ℕ)) (rest : Option Expr) → built_of files n (Join kind left right keys rest) ≡ node files n (Logical-F.Join kind (built_of files n left) (built_of files n right) keys rest)
unfolding built_of
built-Join files n kind left right keys rest = ap (built_of files n) (sym (rolls-Join kind left right keys rest)) ∙ fold-roll-Logical Built (node files n) (Logical-F.Join kind left right keys rest)

pub built-Aggregate : (files : List ℕ) (n : ℕ) (input : Logical) (keys : List ℕ) (calls : List AggCall) → built_of files n (Aggregate input keys calls) ≡ node files n (Logical-F.Aggregate (built_of files n input) keys calls)
unfolding built_of
built-Aggregate files n input keys calls = ap (built_of files n) (sym (rolls-Aggregate input keys calls)) ∙ fold-roll-Logical Built (node files n) (Logical-F.Aggregate input keys calls)

pub built-Distinct : (files : List ℕ) (n : ℕ) (input : Logical) → built_of files n (Distinct input) ≡ node files n (Logical-F.Distinct (built_of files n input))
unfolding built_of
built-Distinct files n input = ap (built_of files n) (sym (rolls-Distinct input)) ∙ fold-roll-Logical Built (node files n) (Logical-F.Distinct input)

pub built-UnionAll : (files : List ℕ) (n : ℕ) (inputs : List Logical) → built_of files n (UnionAll inputs) ≡ node files n (Logical-F.UnionAll (map (built_of files n) inputs))
unfolding built_of
built-UnionAll files n inputs = ap (built_of files n) (sym (rolls-UnionAll inputs)) ∙ fold-roll-Logical Built (node files n) (Logical-F.UnionAll inputs)

pub ruleset builds = (built-Scan, built-Filter, built-Project, built-Join, built-Aggregate, built-Distinct, built-UnionAll)

pub first_step : (o : Option ℕ) (b : Built) (bs : List Built) → first_of (first_or o b.width) bs ≡ first_of o (b ∷ bs)
first_step None b bs = refl
first_step (Some k) b bs = refl

pub ruleset steps = (first_step)

from_push : (n at : ℕ) → numbers_from at (suc n) ≡ numbers_from at n ++ (at + n) ∷ []
from_push zero at = let e : at + 0 ≡ at = omega arith in ap (λ (x : ℕ). x ∷ []) (sym e)
from_push (suc n) at = let e : at + suc n ≡ at + 1 + n = omega arith in ap (λ (xs : List ℕ). at ∷ xs) (from_push n (at + 1)) ∙ ap (λ (x : ℕ). at ∷ numbers_from (at + 1) n ++ x ∷ []) (sym e)

pub numbers_push : (n : ℕ) → numbers (n + 1) ≡ numbers n ++ n ∷ []
numbers_push n = let e : n + 1 ≡ suc n = omega arith in let z : 0 + n ≡ n = omega arith in ap numbers e ∙ from_push n 0 ∙ ap (λ (x : ℕ). numbers n ++ x ∷ []) z

pub ruleset numbered = (numbers_push)
