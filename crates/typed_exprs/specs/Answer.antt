-- Meaning: an answer, or the first refusal.
use Rattle.std.specs.Prelude.{ℕ, Bool, true, false, Result, Ok, Err, Option, Some, None, ◌≡◌, ⊤}
use Rattle.typed_exprs.specs.declared.refusal.Refusal.{Refusal}
use Rattle.typed_exprs.specs.declared.refusal.Unbound.{Unbound}
use Rattle.typed_exprs.specs.declared.refusal.Unbound.TheVariants as unbound
use Rattle.typed_exprs.specs.declared.refusal.Why.{Why}

abbrev pub Answer : Type 0 → Type 0
Answer A = Result A Refusal

infixl 10 ◌>>=◌
abbrev pub ◌>>=◌ : {A B : Type 0} → Answer A → (A → Answer B) → Answer B
(Ok x) >>= f = f x
(Err r) >>= f = Err r

abbrev pub refuse : {A : Type 0} → Why → ℕ → Answer A
refuse why place = Err (record { why = why; place = place })

-- refused where there is none
abbrev pub or_refuse : {A : Type 0} → Why → ℕ → Option A → Answer A
or_refuse why place None = refuse why place
or_refuse why place (Some x) = Ok x

-- refused where it is so, and the rest where it isn't
abbrev pub refuse_if : {A : Type 0} → Bool → Why → ℕ → Answer A → Answer A
refuse_if true why place rest = refuse why place
refuse_if false why place rest = rest

-- what a call answered is this answer, unless memory ran out
abbrev pub Gives : {A : Type 0} → Result A Unbound → Answer A → Type 0
Gives (Ok x) answer = answer ≡ Ok x
Gives (Err (unbound.Refused r)) answer = answer ≡ Err r
Gives (Err unbound.NoMemory) answer = ⊤
