-- Meaning: a refusal under its name.
use Rattle.std.specs.Prelude.{ℕ, Result, Ok, Err}
use Rattle.typed_exprs.specs.declared.refusal.Refusal.{Refusal}
use Rattle.typed_exprs.specs.declared.refusal.Why.{Why}
use Rattle.typed_exprs.specs.declared.refusal.Why.TheVariants as why
use Rattle.typed_exprs.specs.declared.refused.BindRefused.{BindRefused}
use Rattle.typed_exprs.specs.declared.refused.BindRefused.TheVariants as refused
use Rattle.typed_exprs.specs.Answer.{Answer}

abbrev pub at : ℕ → Why → BindRefused
at place why.UnknownTable = refused.UnknownTable place
at place why.UnknownColumn = refused.UnknownColumn place
at place why.Ambiguous = refused.Ambiguous place
at place why.KindMismatch = refused.KindMismatch place
at place why.NotGrouped = refused.NotGrouped place
at place why.NoEquiKey = refused.NoEquiKey place
at place why.Unsupported = refused.Unsupported place
at place why.LimitRange = refused.LimitRange place

abbrev pub named : Refusal → BindRefused
named r = at r.place r.why

-- the answer, with its refusal under its name
abbrev pub answer : {A : Type 0} → Answer A → Result A BindRefused
answer (Ok x) = Ok x
answer (Err r) = Err (named r)
