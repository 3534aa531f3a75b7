-- Meaning: what `bind` answers.
use Rattle.std.specs.Prelude.{Result, Ok, Err, ◌≡◌, ⊤}
use Rattle.logical_plan.specs.declared.query.Query.{Query}
use Rattle.typed_exprs.specs.declared.refused.BindRefused.{BindRefused}
use Rattle.typed_exprs.specs.declared.refused.BindRefused.TheVariants as refused
use Rattle.typed_exprs.specs.Answer.{Answer}
use Rattle.typed_exprs.specs.Refusals.{answer}

-- What is answered is the query, or the first refusal, or there was no memory; and there is no folder without files.
abbrev pub IsBound : Result Query BindRefused → Answer Query → Type 0
IsBound (Ok q) bound = bound ≡ Ok q
IsBound (Err refused.NoMemory) bound = ⊤
IsBound (Err refusal) bound = answer bound ≡ Err refusal
