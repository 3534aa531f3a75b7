-- What is prepared over the files of the tables.
use Rattle.std.proofs.Common.{◌≡◌, sym, ap, ◌∙◌, ℕ, List, length, Result, Ok, Err, IfOk, IfErr, subst}
use Rattle.sql_grammar.specs.declared.ast.Script.{Script}
use Rattle.typed_exprs.specs.Answer.{Answer}
use Rattle.typed_exprs.specs.declared.refused.BindRefused.{BindRefused}
use Rattle.logical_plan.specs.declared.query.Query.{Query}
use Rattle.sql_binder.specs.Refusals.{IsBound}
use Rattle.planned_laws.specs.Queries.{QueryInRange}
use Rattle.dfx_prepare.specs.Outcomes.{OrMemory, Answers, IsReading, IsListing, IsQuerying, IsPreparing}
use Rattle.dfx_prepare.specs.Preparing.{Path, followed, prepared_over, IsOf, IsOfScript}
use Rattle.failure_text.specs.declared.failure.Failure.{Failure}
use Rattle.failure_text.specs.declared.failure.Failure.TheVariants as failure
use Rattle.dfx_prepare.specs.declared.prepared.Prepared.{Prepared}
use Rattle.dfx_prepare.proofs.TableSteps.{rose_since, refusal_ends}

-- what is answered but for want of memory is answered
pub memory_answers : {A : Type 0} (r e : Result A Failure) → OrMemory r e → Answers r e
memory_answers (Ok v) e h = h
memory_answers (Err failure.Read) e h = tt
memory_answers (Err f) e h = h

-- nothing follows a refusal or want of memory
pub memory_ends : {A B : Type 0} (f : Failure) (e : Result A Failure) (next : A → Result B Failure) → OrMemory {A = A} (Err f) e → Answers {A = B} (Err f) (followed e next)
memory_ends {A = A} f e next h = refusal_ends f e next (memory_answers {A = A} (Err f) e h)

-- after an answer the next is answered
pub answer_goes_on : {A B : Type 0} (e : Result A Failure) (x : A) (next : A → Result B Failure) (r : Result B Failure) → e ≡ Ok x → Answers r (next x) → Answers r (followed e next)
answer_goes_on e x next r is h = rw (is) h

-- what holds of the value that a result has holds of the result
pub if_ok_as : {A E : Type 0} (P : A → Type 0) (x : A) (r : Result A E) → P x → IfOk r (λ y. y ≡ x) → IfOk r P
if_ok_as P x (Ok y) h is = subst P (sym is) h
if_ok_as P x (Err e) h is = tt

-- what a script means is in range, so what is bound is
pub in_range : (r : Result Query BindRefused) (b : Answer Query) → IsBound r b → ((q : Query) → b ≡ Ok q → QueryInRange q)
    → IfOk r QueryInRange
in_range (Ok q) b h law = law q h
in_range (Err e) b h law = tt

-- ---- failures of the parts

pub of_reading : (f : Failure) → IsReading f → IsPreparing f
of_reading (failure.Lexer r) h = h
of_reading (failure.Syntax r) h = h
of_reading failure.NoMemory h = h
of_reading f h = absurd h

pub of_listing : (f : Failure) → IsListing f → IsPreparing f
of_listing (failure.Lexer r) h = absurd h
of_listing (failure.Syntax r) h = absurd h
of_listing (failure.Binder r) h = absurd h
of_listing f h = h

pub of_querying : (f : Failure) → IsQuerying f → IsPreparing f
of_querying (failure.Binder r) h = h
of_querying failure.NoMemory h = h
of_querying f h = absurd h

pub queried : {A : Type 0} (r : Result A Failure) → IfErr r IsQuerying → IfErr r IsPreparing
queried (Ok x) h = tt
queried (Err f) h = of_querying f h

-- what is prepared over as many lists of files as there are tables is the script's
pub whole_over : (script : Script) (n : ℕ) (paths : List (List Path)) (r : Result Prepared Failure) → length paths ≡ length script.tables → OrMemory r (prepared_over script n paths) → IfOk r (λ p. p.paths ≡ paths) → IfOk r (λ p. IsOf script n p)
whole_over script n paths (Ok p) each h same = record { each = ap length same ∙ each; is = ap (prepared_over script n) same ∙ h }
whole_over script n paths (Err f) each h same = tt

-- so for the text that spells the script
pub whole_text : (e : Result Script Failure) (script : Script) (n : ℕ) (r : Result Prepared Failure) → e ≡ Ok script → IfOk r (λ p. IsOf script n p) → IfOk r (λ p. IsOfScript e n p)
whole_text e script n (Ok p) is h = rw (is) h
whole_text e script n (Err f) is h = tt

-- a refusal stays, whatever else would have been answered
abbrev refusal : (B : Type 0) → Failure → Result B Failure
refusal B f = Err f

abbrev carried : {A : Type 0} (B : Type 0) → Result A Failure → Result B Failure
carried B (Ok x) = Err failure.NoMemory
carried B (Err f) = Err f

carries : {A : Type 0} (B : Type 0) (f g : Failure) (e : Result A Failure) → e ≡ Err f → e ≡ Err g → refusal B g ≡ refusal B f
carries B f g e is other = ap (carried B) (sym other ∙ is)

pub same_refusal : {A : Type 0} (B : Type 0) (f g : Failure) (e : Result A Failure) → OrMemory {A = A} (Err f) e → e ≡ Err g → OrMemory {A = B} (Err f) (Err g)
same_refusal B failure.NoMemory g e h is = tt
same_refusal B f g e h is = carries B f g e h is

-- a script isn't refused
pub no_refusal : {A B : Type 0} (x : A) (g : Failure) (e : Result A Failure) (r : Result B Failure) → e ≡ Ok x → e ≡ Err g → OrMemory r (Err g)
no_refusal x g e r is other = let both : Ok x ≡ Err g = sym is ∙ other in cc

pub ruleset whole_steps = (rose_since, refusal_ends, memory_ends, same_refusal, of_reading, of_listing, queried)
