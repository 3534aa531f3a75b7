-- Meaning: CASE, from its bound arms.
use Rattle.std.specs.Prelude.{ℕ, List, [], ◌∷◌, ◌++◌, Ok, map}
use Rattle.dfx_value.specs.declared.kind.Kind.{Kind}
use Rattle.scalar_exprs.specs.declared.expr.Expr.{Expr}
use Rattle.scalar_exprs.specs.declared.expr.Expr.TheVariants as expr
use Rattle.scalar_exprs.specs.Kinds.{when_bool}
use Rattle.typed_exprs.specs.declared.case.Arm.{Arm}
use Rattle.typed_exprs.specs.declared.typed.Typed.{Typed}
use Rattle.typed_exprs.specs.declared.typed.Typed.TheVariants as typed
use Rattle.typed_exprs.specs.Answer.{Answer, ◌>>=◌}
use Rattle.typed_exprs.specs.Typed.{settled, or_mismatch, common, as_kind}

-- refused at the first test that is no truth
abbrev pub tests : List Arm → Answer (Unit {0})
tests [] = Ok tt
tests (arm ∷ arms) = or_mismatch arm.place (when_bool (settled arm.test).1) >>= λ _. tests arms

-- the results, that of ELSE last
abbrev pub results : List Arm → Typed → List Typed
results arms other = map (λ (arm : Arm). arm.result) arms ++ other ∷ []

abbrev pub arm_as : Kind → Arm → Expr × Expr
arm_as k arm = ((settled arm.test).0, as_kind k arm.result)

-- all tests are truths, and then all results have one kind
abbrev pub chosen : ℕ → List Arm → Typed → Answer Typed
chosen place arms other = tests arms >>= λ _. or_mismatch place (common (results arms other)) >>= λ k.
    Ok (typed.Of (expr.Case (map (arm_as k) arms) (as_kind k other)) k)
