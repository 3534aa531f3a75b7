-- Counts of faults and absences over several calls, what follows a refusal, and the files of tables one by one.
use Rattle.std.proofs.Common.{◌≡◌, refl, ap, sym, ◌∙◌, ℕ, ◌≤◌, List, [], ◌∷◌, ◌++◌, append_assoc, append-nil, arith, Result, Ok, Err}
use Rattle.dfx_outside.specs.Causes.{Rose}
use Rattle.dfx_outside.specs.Contents.{Contents}
use Rattle.sql_grammar.specs.declared.ast.TableAst.{TableAst}
use Rattle.dfx_prepare.specs.Outcomes.{Answers}
use Rattle.dfx_prepare.specs.Preparing.{Path, followed, table_files, files_of}
use Rattle.failure_text.specs.declared.failure.Failure.{Failure}
use Rattle.failure_text.specs.declared.failure.Failure.TheVariants as failure

-- a count that rose later than another moment rose since then
pub rose_since : (first before now : ℕ) → first ≤ before → Rose before now → Rose first now
rose_since first before now h r = omega arith

refused_too : {A B : Type 0} (f : Failure) (e : Result A Failure) (next : A → Result B Failure) → e ≡ Err f → followed e next ≡ Err f
refused_too f e next is = rw (is) refl

-- nothing follows a refusal
pub refusal_ends : {A B : Type 0} (f : Failure) (e : Result A Failure) (next : A → Result B Failure) → Answers {A = A} (Err f) e → Answers {A = B} (Err f) (followed e next)
refusal_ends failure.Read e next h = h
refusal_ends failure.NoMemory e next h = h
refusal_ends f e next h = refused_too f e next h

-- ---- the files of tables

-- what is answered, with the files of the tables before it
abbrev with_found : List (List Path) → Result (List (List Path)) Failure → Result (List (List Path)) Failure
with_found found r = followed r (λ more. Ok (found ++ more))

-- the files that are found, and then those of each further table
abbrev pub files_after : Contents → List (List Path) → List TableAst → Result (List (List Path)) Failure
files_after all found [] = Ok found
files_after all found (t ∷ ts) = followed (table_files all t) (λ paths. files_after all (found ++ paths ∷ []) ts)

one_more : (found : List (List Path)) (paths : List Path) (r : Result (List (List Path)) Failure)
    → with_found (found ++ paths ∷ []) r ≡ with_found found (followed r (λ more. Ok (paths ∷ more)))
one_more found paths (Ok more) = ap Ok (append_assoc found (paths ∷ []) more)
one_more found paths (Err f) = refl

after_is : (all : Contents) (found : List (List Path)) (ts : List TableAst)
    → files_after all found ts ≡ with_found found (files_of all ts)
after_is all found [] = ap Ok (sym (append-nil found))
after_is all found (t ∷ ts) = by_table (table_files all t) (λ paths. after_is all (found ++ paths ∷ []) ts) where
  by_table : (r : Result (List Path) Failure)
      → ((paths : List Path) → files_after all (found ++ paths ∷ []) ts ≡ with_found (found ++ paths ∷ []) (files_of all ts))
      → followed r (λ paths. files_after all (found ++ paths ∷ []) ts)
      ≡ with_found found (followed r (λ paths. followed (files_of all ts) (λ more. Ok (paths ∷ more))))
  by_table (Ok paths) rest = rest paths ∙ one_more found paths (files_of all ts)
  by_table (Err f) rest = refl

none_found : (r : Result (List (List Path)) Failure) → with_found [] r ≡ r
none_found (Ok more) = refl
none_found (Err f) = refl

-- those of all tables
pub files_after-none : (all : Contents) (ts : List TableAst) → files_after all [] ts ≡ files_of all ts
files_after-none all ts = after_is all [] ts ∙ none_found (files_of all ts)

pub ruleset table_steps = (rose_since, refusal_ends, files_after-none)
