-- How the run of a query ends.
use Rattle.std.proofs.Common.{◌≡◌, ◌⊎◌, refl, ap, sym, ◌∙◌, subst, ℕ, ◌≤◌, ◌<◌, Bool, true, false, cond, List, [], length, Option, Some, None, Result, Ok, Err, inl, inr, arith}
use Rattle.std.specs.Prelude.{nat_lt}
use Rattle.std.specs.Result.{OnErr}
use Rattle.std.proofs.lemmas.Bool.{lt-leb, lt-ltb}
use Rattle.dfx_outside.specs.Contents.{Contents}
use Rattle.dfx_value.specs.declared.fault.ItemFault.{ItemFault}
use Rattle.logical_plan.specs.Body.{Tables, all_faults}
use Rattle.dfx_prepare.specs.Preparing.{Path}
use Rattle.failure_text.specs.declared.failure.Failure.{Failure}
use Rattle.failure_text.specs.declared.failure.Failure.TheVariants as failure
use Rattle.dfx_prepare.specs.declared.prepared.Prepared.{Prepared}
use Rattle.scan_run.specs.Chains.{Scanned, scanned, is_chain, is_there}
use Rattle.csv_source.specs.TableItems.{missing}
use Rattle.scan_run.specs.Outcomes.{Asked as Run, Ran, Began, HasFiles, IsMet as IsMetBy, IsOkOrMemory}
use Rattle.scan_run.specs.declared.refused.RunRefused.{RunRefused}
use Rattle.scan_run.specs.declared.refused.RunRefused.TheVariants as refused
use Rattle.dfx_top.specs.Answers.{EndedQuery, run_of, Partly}
use Rattle.dfx_top.specs.Requests.{is_built, scan_paths, not_run, by_count, by_missing, path_at}
use Rattle.dfx_top.specs.Outcomes.{FailureOf, IsCalledFor, IsMet, IsDone}
use Rattle.dfx_top.specs.Endings.{QueryEndsRight}

-- a query that is built, over few files, is refused only where one of them isn't there
pub not_run-built : (all : Contents) (p : Prepared) (m : Option ℕ) → is_built p.query ≡ true → length (scan_paths p) ≤ 512 → missing all (scan_paths p) ≡ m → not_run all p ≡ by_missing (scan_paths p) m
unfolding not_run
not_run-built all p m built few at =
    ap (λ (b : Bool). cond b (by_count all (scan_paths p)) (Some failure.NotBuilt)) built
    ∙ ap (λ (b : Bool). cond b (Some (failure.TooManySources (length (scan_paths p)))) (by_missing (scan_paths p) (missing all (scan_paths p)))) small
    ∙ ap (by_missing (scan_paths p)) at where
      small : nat_lt 512 (length (scan_paths p)) ≡ false
      small = lt-leb 513 (length (scan_paths p)) (omega arith)

pub not_run-unbuilt : (all : Contents) (p : Prepared) → is_built p.query ≡ false → not_run all p ≡ Some failure.NotBuilt
unfolding not_run
not_run-unbuilt all p h = ap (λ (b : Bool). cond b (by_count all (scan_paths p)) (Some failure.NotBuilt)) h

pub not_run-many : (all : Contents) (p : Prepared) → is_built p.query ≡ true → 512 < length (scan_paths p) → not_run all p ≡ Some (failure.TooManySources (length (scan_paths p)))
unfolding not_run
not_run-many all p built many =
    ap (λ (b : Bool). cond b (by_count all (scan_paths p)) (Some failure.NotBuilt)) built
    ∙ ap (λ (b : Bool). cond b (Some (failure.TooManySources (length (scan_paths p)))) (by_missing (scan_paths p) (missing all (scan_paths p)))) great where
      great : nat_lt 512 (length (scan_paths p)) ≡ true
      great = lt-ltb 512 (length (scan_paths p)) many

module _ (all : Contents) (before : List ℕ) (p : Prepared) (s : Scanned) (now : Option (List ℕ))
    (is : scanned p.query.body ≡ Some s) (built : is_built p.query ≡ true) (few : length (scan_paths p) ≤ 512) where
  abbrev run : Run
  run = run_of all before p s

  partly : Began run now → Partly all before p now
  partly b = by_opening b.opened where
    by_opening : (now ≡ Some before) ⊎ (missing all (scan_paths p) ≡ None) → Partly all before p now
    by_opening (inl same) = inl same
    by_opening (inr there) = inr (not_run-built all p None built few there, (s, (is, b)))

  -- a refused run, by its refusal
  pub ended_err : (A : Type 0) (e : RunRefused) (f : Failure) → Ran {A = A} run now (Err e) → Began run now → FailureOf (scan_paths p) e f → EndedQuery all before p now (Some f)
  ended_err A (refused.Missing file) f ran began (inl h) = subst (λ (x : Failure). EndedQuery all before p now (Some x)) (sym h) ran.1
  ended_err A (refused.Missing file) f ran began (inr h) = subst (λ (x : Failure). EndedQuery all before p now (Some x)) (sym h) (partly began)
  ended_err A (refused.Bad file e) f ran began (inl h) = subst (λ (x : Failure). EndedQuery all before p now (Some x)) (sym h) (s, (is, (file, (e, (refl, (refl, ran))))))
  ended_err A (refused.Bad file e) f ran began (inr h) = subst (λ (x : Failure). EndedQuery all before p now (Some x)) (sym h) (partly began)
  ended_err A (refused.Evaluation g) f ran began h = subst (λ (x : Failure). EndedQuery all before p now (Some x)) (sym h) (s, (is, ran))
  ended_err A refused.Read f ran began h = subst (λ (x : Failure). EndedQuery all before p now (Some x)) (sym h) (partly began)
  ended_err A refused.Write f ran began h = subst (λ (x : Failure). EndedQuery all before p now (Some x)) (sym h) (partly began)
  ended_err A refused.NoMemory f ran began h = subst (λ (x : Failure). EndedQuery all before p now (Some x)) (sym h) (partly began)

  pub called_err : (A : Type 0) (e : RunRefused) (f : Failure) → Ran {A = A} run now (Err e) → FailureOf (scan_paths p) e f → IsCalledFor (not_run all p) (Some f)
  called_err A (refused.Missing file) f ran (inl h) = subst (λ (x : Failure). IsCalledFor (not_run all p) (Some x)) (sym h) (sym (not_run-built all p (Some file) built few ran.0))
  called_err A (refused.Missing file) f ran (inr h) = subst (λ (x : Failure). IsCalledFor (not_run all p) (Some x)) (sym h) tt
  called_err A (refused.Bad file e) f ran (inl h) = subst (λ (x : Failure). IsCalledFor (not_run all p) (Some x)) (sym h) (not_run-built all p None built few ran.there)
  called_err A (refused.Bad file e) f ran (inr h) = subst (λ (x : Failure). IsCalledFor (not_run all p) (Some x)) (sym h) tt
  called_err A (refused.Evaluation g) f ran h = subst (λ (x : Failure). IsCalledFor (not_run all p) (Some x)) (sym h) (not_run-built all p None built few ran.1.there)
  called_err A refused.Read f ran h = subst (λ (x : Failure). IsCalledFor (not_run all p) (Some x)) (sym h) tt
  called_err A refused.Write f ran h = subst (λ (x : Failure). IsCalledFor (not_run all p) (Some x)) (sym h) tt
  called_err A refused.NoMemory f ran h = subst (λ (x : Failure). IsCalledFor (not_run all p) (Some x)) (sym h) tt

-- what a refused run names is met
pub met_err : (A : Type 0) (paths : List Path) (table : ℕ) (met : List ItemFault) (e : RunRefused) (f : Failure) → IsMetBy {A = A} table met (Err e) → FailureOf paths e f → IsMet paths table met (Some f)
met_err A paths table met (refused.Missing file) f m (inl h) = subst (λ (x : Failure). IsMet paths table met (Some x)) (sym h) tt
met_err A paths table met (refused.Missing file) f m (inr h) = subst (λ (x : Failure). IsMet paths table met (Some x)) (sym h) tt
met_err A paths table met (refused.Bad file e) f m (inl h) = subst (λ (x : Failure). IsMet paths table met (Some x)) (sym h) (file, (e, (refl, (refl, m))))
met_err A paths table met (refused.Bad file e) f m (inr h) = subst (λ (x : Failure). IsMet paths table met (Some x)) (sym h) tt
met_err A paths table met (refused.Evaluation g) f m h = subst (λ (x : Failure). IsMet paths table met (Some x)) (sym h) m
met_err A paths table met refused.Read f m h = subst (λ (x : Failure). IsMet paths table met (Some x)) (sym h) tt
met_err A paths table met refused.Write f m h = subst (λ (x : Failure). IsMet paths table met (Some x)) (sym h) tt
met_err A paths table met refused.NoMemory f m h = subst (λ (x : Failure). IsMet paths table met (Some x)) (sym h) tt

-- a run that is refused for want of memory alone is done
pub done_err : (A : Type 0) (paths : List Path) (e : RunRefused) (f : Failure) → IsOkOrMemory {A = A} (Err e) → FailureOf paths e f → IsDone (Some f)
done_err A paths refused.NoMemory f d h = subst (λ (x : Failure). IsDone (Some x)) (sym h) tt
done_err A paths e f d h = absurd d

-- where nothing is missing, a built query is asked to run
by_missing_none : (paths : List Path) (m : Option ℕ) → by_missing paths m ≡ None → m ≡ None
by_missing_none paths None h = refl
by_missing_none paths (Some file) h = (let z : Some (failure.Missing (path_at paths file)) ≡ None = h in cc)

pub none_missing : (all : Contents) (p : Prepared) → is_built p.query ≡ true → length (scan_paths p) ≤ 512 → not_run all p ≡ None → missing all (scan_paths p) ≡ None
none_missing all p built few none = by_missing_none (scan_paths p) (missing all (scan_paths p)) (sym (not_run-built all p (missing all (scan_paths p)) built few refl) ∙ none)

-- a built query scans a table
some_of : (o : Option Scanned) → is_there o ≡ true → (s : Scanned) × (o ≡ Some s)
some_of None h = (let z : false ≡ true = h in cc)
some_of (Some s) h = (s, refl)

pub scans : (p : Prepared) → is_chain p.query.body ≡ true → (s : Scanned) × (scanned p.query.body ≡ Some s)
scans p h = some_of (scanned p.query.body) h

-- ---- all that is told of a run over files at these paths

abbrev over_paths : Contents → List ℕ → Prepared → List Path → Scanned → Run
over_paths all before p paths s = record { query = p.query; scan = s; paths = paths; all = all; before = before }

pub record Facts {A : Type 0} (all : Contents) (before : List ℕ) (p : Prepared) (now : Option (List ℕ)) (quiet : Type 0) (paths : List Path) (r : Result A RunRefused) : Type 0 where
  pub ran : (s : Scanned) → scanned p.query.body ≡ Some s → Ran {A = A} (over_paths all before p paths s) now r
  pub part : (s : Scanned) → scanned p.query.body ≡ Some s → OnErr r (Began (over_paths all before p paths s) now)
  pub met : (s : Scanned) (tables : Tables) → scanned p.query.body ≡ Some s → HasFiles (over_paths all before p paths s) tables → IsMetBy {A = A} s.table (all_faults tables p.query.body) r
  pub complete : (s : Scanned) (tables : Tables) → scanned p.query.body ≡ Some s → HasFiles (over_paths all before p paths s) tables
      → missing all paths ≡ None → all_faults tables p.query.body ≡ [] → quiet → IsOkOrMemory {A = A} r

-- the query's own paths
own : {A : Type 0} (all : Contents) (before : List ℕ) (p : Prepared) (now : Option (List ℕ)) (quiet : Type 0) (paths : List Path) (r : Result A RunRefused) → paths ≡ scan_paths p
    → Facts {A = A} all before p now quiet paths r → Facts {A = A} all before p now quiet (scan_paths p) r
own {A} all before p now quiet paths r e h = subst (λ (ps : List Path). Facts {A = A} all before p now quiet ps r) e h

pub own_few : (p : Prepared) (paths : List Path) → paths ≡ scan_paths p → length paths ≤ 512 → length (scan_paths p) ≤ 512
own_few p paths same few = subst (λ (ps : List Path). length ps ≤ 512) same few

module _ {A : Type 0} (all : Contents) (before : List ℕ) (p : Prepared) (now : Option (List ℕ)) (quiet : Type 0) (paths : List Path)
    (same : paths ≡ scan_paths p) (built : is_built p.query ≡ true) (s : Scanned) (is : scanned p.query.body ≡ Some s) (few : length (scan_paths p) ≤ 512) where
  pub told_err : (e : RunRefused) (f : Failure) → Facts {A = A} all before p now quiet paths (Err e) → FailureOf paths e f → QueryEndsRight all before p now quiet (Some f)
  told_err e f h of = told (own all before p now quiet paths (Err e) same h) (subst (λ (ps : List Path). FailureOf ps e f) same of) where
    told : Facts {A = A} all before p now quiet (scan_paths p) (Err e) → FailureOf (scan_paths p) e f → QueryEndsRight all before p now quiet (Some f)
    told k o = record {
      ended = ended_err all before p s now is built few A e f (k.ran s is) (k.part s is) o;
      called = called_err all before p s now is built few A e f (k.ran s is) o;
      met = λ t tables at has. met_err A (scan_paths p) t.table (all_faults tables p.query.body) e f (k.met t tables at has) o;
      complete = λ t tables at has none clean q. done_err A (scan_paths p) e f (k.complete t tables at has (none_missing all p built few none) clean q) o;
    }

  pub told_ok : (a : A) → Facts {A = A} all before p now quiet paths (Ok a) → QueryEndsRight all before p now quiet None
  told_ok a h = told (own all before p now quiet paths (Ok a) same h) where
    told : Facts {A = A} all before p now quiet (scan_paths p) (Ok a) → QueryEndsRight all before p now quiet None
    told k = record {
      ended = (s, (is, k.ran s is));
      called = sym (not_run-built all p None built few (k.ran s is).there);
      met = λ t tables at has. tt;
      complete = λ t tables at has none clean q. tt;
    }

-- ---- queries that aren't run

-- a query that is refused before it is run
pub told_refused : (all : Contents) (before : List ℕ) (p : Prepared) (now : Option (List ℕ)) (quiet : Type 0) → now ≡ Some before → not_run all p ≡ Some failure.NotBuilt → QueryEndsRight all before p now quiet (Some failure.NotBuilt)
told_refused all before p now quiet e h = record {
  ended = e;
  called = sym h;
  met = λ t tables at has. tt;
  complete = λ t tables at has none clean q. (let z : Some failure.NotBuilt ≡ None = sym h ∙ none in cc);
}

pub told_many : (all : Contents) (before : List ℕ) (p : Prepared) (now : Option (List ℕ)) (quiet : Type 0) (n : ℕ) → now ≡ Some before → not_run all p ≡ Some (failure.TooManySources n) → QueryEndsRight all before p now quiet (Some (failure.TooManySources n))
told_many all before p now quiet n e h = record {
  ended = e;
  called = sym h;
  met = λ t tables at has. tt;
  complete = λ t tables at has none clean q. (let z : Some (failure.TooManySources n) ≡ None = sym h ∙ none in cc);
}
