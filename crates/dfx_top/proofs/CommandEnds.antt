-- How a command ends.
use Rattle.std.proofs.Common.{◌≡◌, refl, ap, sym, ◌∙◌, subst, ℕ, ◌≤◌, List, [], ◌++◌, length, Option, Some, None, Result, Ok, Err, ◌⊎◌, inl, inr, append-nil}
use Rattle.std.proofs.Math.Seq.{take-length}
use Rattle.std.specs.Prelude.{⊤}
use Rattle.std.specs.Result.{OnOk, OnErr, IfErr}
use Rattle.dfx_outside.specs.Bytes.{EndsInFront}
use Rattle.dfx_outside.specs.Contents.{Contents, content}
use Rattle.dfx_value.specs.declared.fault.ItemFault.{ItemFault}
use Rattle.dfx_prepare.specs.Preparing.{Path, followed, script_of}
use Rattle.dfx_prepare.specs.Outcomes.{Answers, OrMemory, IsPreparing}
use Rattle.failure_text.specs.declared.failure.Failure.{Failure}
use Rattle.failure_text.specs.declared.failure.Failure.TheVariants as failure
use Rattle.dfx_prepare.specs.declared.prepared.Prepared.{Prepared}
use Rattle.dfx_top.specs.Answers.{EndedQuery, EndedExplain, EndedOf, Partly, text_of}
use Rattle.dfx_top.specs.Requests.{Ready, ready, by_script, by_text, by_words, by_asked, asked, not_run, text_at, script_text}
use Rattle.dfx_top.specs.CommandWords.{request_of, Command}
use Rattle.dfx_top.specs.Outcomes.{IsCalledFor, IsMet, IsDone, IsWriting, IsOpening, IsTextRefused, of_result}
use Rattle.dfx_outside.specs.Causes.{Rose}
use Rattle.dfx_top.specs.Endings.{EndsRight, QueryEndsRight, Quiet}
use Rattle.dfx_top.proofs.FaultSteps.{rose_since}
use Rattle.dfx_top.specs.declared.words.Request.{Request}
use Rattle.dfx_top.specs.declared.words.Request.TheVariants as request

-- all of the line was taken, or a beginning
pub line_taken : {T E : Type 0} (r : Result T E) (before line : List ℕ) (now : Option (List ℕ)) → OnOk r (now ≡ Some (before ++ line)) → OnErr r (EndsInFront before line now) → EndsInFront before line now
line_taken (Ok x) before line now all front = record { count = length line; is = all ∙ ap (λ (t : List ℕ). Some (before ++ t)) (sym (take-length line)) }
line_taken (Err e) before line now all front = front

-- nothing was written
none_written : (before text : List ℕ) (now : Option (List ℕ)) → now ≡ Some before → EndsInFront before text now
none_written before text now h = record { count = 0; is = h ∙ ap (λ (t : List ℕ). Some t) (sym (append-nil before)) }

abbrev prepared_of : Prepared → Result Ready Failure → Prepared
prepared_of other (Ok (r, p)) = p
prepared_of other (Err f) = other

-- whether a query is asked
abbrev IsQuery : Result Ready Failure → Type 0
IsQuery (Ok (request.Query, p)) = ⊤
IsQuery (Ok (request.Explain n, p)) = ⊥
IsQuery (Err f) = ⊥

-- whether anything is asked
abbrev IsAnswer : Result Ready Failure → Type 0
IsAnswer (Ok r) = ⊤
IsAnswer (Err f) = ⊥

module _ (all : Contents) (before : List ℕ) (now : Option (List ℕ)) (quiet : Type 0) where
  -- ---- a request that was carried out

  pub told_query : (p : Prepared) (f : Option Failure) → QueryEndsRight all before p now quiet f → EndsRight all before (Ok (request.Query, p)) now quiet f
  told_query p f h = record {
    ended = h.ended;
    called = h.called;
    query = λ q e. subst (λ (x : Prepared). QueryEndsRight all before x now quiet f) (ap (prepared_of p) e) h;
    explained = λ n q e. absurd (subst IsQuery e tt);
  }

  called_writing : (f : Failure) → IsWriting f → IsCalledFor None (Some f)
  called_writing failure.Write w = tt
  called_writing failure.NoMemory w = tt
  called_writing f w = absurd w

  done_writing : (f : Failure) → IsWriting f → (f ≡ failure.Write → ¬ quiet) → quiet → IsDone (Some f)
  done_writing failure.Write w loud q = absurd (loud refl q)
  done_writing failure.NoMemory w loud q = tt
  done_writing f w loud q = absurd w

  told_of_explain : (n : ℕ) (p : Prepared) (f : Option Failure) → EndedExplain before p now f → IsCalledFor None f → (quiet → IsDone f) → EndsRight all before (Ok (request.Explain n, p)) now quiet f
  told_of_explain n p f h called done = record {
    ended = h;
    called = called;
    query = λ q e. absurd (subst IsQuery (sym e) tt);
    explained = λ m q e. done;
  }

  pub told_explain : {A : Type 0} (r : Result A Failure) (n : ℕ) (p : Prepared) → EndedExplain before p now (of_result r) → IfErr r IsWriting → (r ≡ Err failure.Write → ¬ quiet) → EndsRight all before (Ok (request.Explain n, p)) now quiet (of_result r)
  told_explain (Ok done) n p h w loud = told_of_explain n p None h refl (λ q. tt)
  told_explain (Err f) n p h w loud = told_of_explain n p (Some f) h (called_writing f w) (done_writing f w (λ e. loud (ap Err e)))

  -- ---- nothing was written

  early_query : (p : Prepared) (f : Failure) → EndedQuery all before p now (Some f) → ((x : Option Failure) → IsCalledFor x (Some f)) → ((ps : List Path) (t : ℕ) (m : List ItemFault) → IsMet ps t m (Some f)) → (quiet → IsDone (Some f)) → QueryEndsRight all before p now quiet (Some f)
  early_query p f h called met done = record {
    ended = h;
    called = called _;
    met = λ t tables at has. met _ _ _;
    complete = λ t tables at has none clean q. done q;
  }

  early : (o : Result Ready Failure) (f : Failure) → now ≡ Some before → ((p : Prepared) → EndedQuery all before p now (Some f)) → ((p : Prepared) → EndedExplain before p now (Some f)) → ((x : Option Failure) → IsCalledFor x (Some f)) → ((ps : List Path) (t : ℕ) (m : List ItemFault) → IsMet ps t m (Some f)) → (quiet → IsDone (Some f)) → EndsRight all before o now quiet (Some f)
  early (Ok (request.Query, p)) f h ended plan called met done = told_query p (Some f) (early_query p f (ended p) called met done)
  early (Ok (request.Explain n, p)) f h ended plan called met done = told_of_explain n p (Some f) (plan p) (called None) done
  early (Err refusal) f h ended plan called met done = record {
    ended = h;
    called = called (Some refusal);
    query = λ q e. absurd (subst IsQuery (sym e) tt);
    explained = λ n q e. absurd (subst IsAnswer (sym e) tt);
  }

  -- a file failed, or there was no memory
  told_read : (o : Result Ready Failure) → now ≡ Some before → ¬ quiet → EndsRight all before o now quiet (Some failure.Read)
  told_read o h loud = early o failure.Read h (λ p. inl h) (λ p. h) (λ x. tt) (λ ps t m. tt) (λ q. absurd (loud q))

  told_memory : (o : Result Ready Failure) → now ≡ Some before → EndsRight all before o now quiet (Some failure.NoMemory)
  told_memory o h = early o failure.NoMemory h (λ p. inl h) (λ p. none_written before (text_of p) now h) (λ x. tt) (λ ps t m. tt) (λ q. tt)

  -- what is asked is refused
  told_refusal : (f : Failure) → now ≡ Some before → IsCalledFor (Some f) (Some f) → EndsRight all before (Err f) now quiet (Some f)
  told_refusal f h called = record {
    ended = h;
    called = called;
    query = λ q e. absurd (subst IsQuery (sym e) tt);
    explained = λ n q e. absurd (subst IsAnswer (sym e) tt);
  }

  pub told_words : (o : Result Ready Failure) → now ≡ Some before → o ≡ Err failure.Words → EndsRight all before o now quiet (Some failure.Words)
  told_words o h e = subst (λ (x : Result Ready Failure). EndsRight all before x now quiet (Some failure.Words)) (sym e) (told_refusal failure.Words h refl)

  -- a script that isn't prepared
  refused_by : (r : Request) (o : Result Prepared Failure) (f : Failure) → now ≡ Some before → IsCalledFor (Some f) (Some f) → o ≡ Err f → EndsRight all before (followed o (ready r)) now quiet (Some f)
  refused_by r o f h called e = subst (λ (x : Result Prepared Failure). EndsRight all before (followed x (ready r)) now quiet (Some f)) (sym e) (told_refusal f h called)

  pub told_unprepared : (r : Request) (o : Result Prepared Failure) (f : Failure) → now ≡ Some before → Answers {A = Prepared} (Err f) o → IsPreparing f → (f ≡ failure.Read → ¬ quiet) → EndsRight all before (followed o (ready r)) now quiet (Some f)
  told_unprepared r o failure.Read h a is loud = told_read (followed o (ready r)) h (loud refl)
  told_unprepared r o failure.NoMemory h a is loud = told_memory (followed o (ready r)) h
  told_unprepared r o (failure.Lexer e) h a is loud = refused_by r o (failure.Lexer e) h refl a
  told_unprepared r o (failure.Syntax e) h a is loud = refused_by r o (failure.Syntax e) h refl a
  told_unprepared r o (failure.Binder e) h a is loud = refused_by r o (failure.Binder e) h refl a
  told_unprepared r o failure.NotBuilt h a is loud = refused_by r o failure.NotBuilt h refl a
  told_unprepared r o (failure.Missing q) h a is loud = refused_by r o (failure.Missing q) h refl a
  told_unprepared r o f h a is loud = absurd is

  -- a script that isn't read
  unread : (r : Request) (path : Path) (q : Path) → now ≡ Some before → q ≡ path → content all path ≡ None → EndsRight all before (by_text all r path (content all path)) now quiet (Some (failure.Missing q))
  unread r path q h e none =
      subst (λ (o : Option (List ℕ)). EndsRight all before (by_text all r path o) now quiet (Some (failure.Missing q))) (sym none)
      (subst (λ (x : Path). EndsRight all before (by_text all r path None) now quiet (Some (failure.Missing x))) (sym e) (told_refusal (failure.Missing path) h refl))

  pub told_unread : (r : Request) (path : Path) (f : Failure) → now ≡ Some before → IsOpening f → ((q : Path) → f ≡ failure.Missing q → q ≡ path) → ((q : Path) → f ≡ failure.Missing q → content all path ≡ None) → (f ≡ failure.Read → ¬ quiet)
      → EndsRight all before (by_text all r path (content all path)) now quiet (Some f)
  told_unread r path (failure.Missing q) h is same absent loud = unread r path q h (same q refl) (absent q refl)
  told_unread r path failure.Read h is same absent loud = told_read (by_text all r path (content all path)) h (loud refl)
  told_unread r path failure.NoMemory h is same absent loud = told_memory (by_text all r path (content all path)) h
  told_unread r path f h is same absent loud = absurd is

-- what is told holds of a longer time too
pub told_longer : (all : Contents) (before : List ℕ) (o : Result Ready Failure) (now : Option (List ℕ)) (quiet long : Type 0) (f : Option Failure) → (long → quiet) → EndsRight all before o now quiet f → EndsRight all before o now long f
told_longer all before o now quiet long f shorter h = record {
  ended = h.ended;
  called = h.called;
  query = λ p e. record {
    ended = (h.query p e).ended;
    called = (h.query p e).called;
    met = (h.query p e).met;
    complete = λ t tables at has none clean q. (h.query p e).complete t tables at has none clean (shorter q);
  };
  explained = λ n p e q. h.explained n p e (shorter q);
}

pub told_query_at : (all : Contents) (before : List ℕ) (now : Option (List ℕ)) (quiet : Type 0) (r : Request) (p : Prepared) (f : Option Failure) → r ≡ request.Query → QueryEndsRight all before p now quiet f → EndsRight all before (Ok (r, p)) now quiet f
told_query_at all before now quiet r p f e h = subst (λ (x : Request). EndsRight all before (Ok (x, p)) now quiet f) (sym e) (told_query all before now quiet p f h)

-- what is told over a prepared script
pub told_prepared : (all : Contents) (before : List ℕ) (now : Option (List ℕ)) (quiet long : Type 0) (r : Request) (o : Result Prepared Failure) (p : Prepared) (f : Option Failure) → o ≡ Ok p → (long → quiet)
    → EndsRight all before (Ok (r, p)) now quiet f → EndsRight all before (followed o (ready r)) now long f
told_prepared all before now quiet long r o p f e shorter h =
    subst (λ (x : Result Prepared Failure). EndsRight all before (followed x (ready r)) now long f) (sym e) (told_longer all before (Ok (r, p)) now quiet long f shorter h)

-- what is told over the text of a script that was read
pub told_of_text : (all : Contents) (before : List ℕ) (now : Option (List ℕ)) (quiet long : Type 0) (r : Request) (path text : List ℕ) (f : Option Failure) → content all path ≡ Some text → (long → quiet)
    → EndsRight all before (by_script all r text) now quiet f → EndsRight all before (by_text all r path (content all path)) now long f
told_of_text all before now quiet long r path text f e shorter h =
    subst (λ (x : Option (List ℕ)). EndsRight all before (by_text all r path x) now long f) (sym e) (told_longer all before (by_script all r text) now quiet long f shorter h)

-- what is told of the request that the words make
pub told_at : (all : Contents) (before : List ℕ) (now : Option (List ℕ)) (quiet : Type 0) (words : List (List ℕ)) (wanted : Command) (f : Option Failure) → request_of words ≡ Some wanted
    → EndsRight all before (by_words all (Some wanted)) now quiet f → EndsRight all before (asked words all) now quiet f
told_at all before now quiet words wanted f e h = subst (λ (x : Option Command). EndsRight all before (by_words all x) now quiet f) (sym e) h

-- a shorter time is as quiet
pub quieter : (first files files_now sink sink_now : ℕ) → first ≤ files → Quiet first files_now sink sink_now → Quiet files files_now sink sink_now
quieter first files files_now sink sink_now h q = ((λ (r : Rose files files_now). q.0 (rose_since first files files_now h r)), q.1)

-- where no count rose, the refusal that is called for comes, or want of memory
pub exact_of : (called : Option Failure) (f refusal : Failure) (quiet : Type 0) → IsCalledFor called (Some f) → called ≡ Some refusal → (f ≡ failure.Read → ¬ quiet) → (f ≡ failure.Write → ¬ quiet) → quiet
    → (Some f ≡ Some refusal) ⊎ (Some f ≡ Some failure.NoMemory)
exact_of called failure.Read refusal quiet c e read write q = absurd (read refl q)
exact_of called failure.Write refusal quiet c e read write q = absurd (write refl q)
exact_of called failure.NoMemory refusal quiet c e read write q = inr refl
exact_of called (failure.BadFile p cause) refusal quiet c e read write q = (let z : None ≡ Some refusal = sym c ∙ e in cc)
exact_of called (failure.Evaluation fault) refusal quiet c e read write q = (let z : None ≡ Some refusal = sym c ∙ e in cc)
exact_of called f refusal quiet c e read write q = inl (c ∙ e)

-- ---- what is written where a refusal is called for

unwritten_part : (all : Contents) (before : List ℕ) (p : Prepared) (now : Option (List ℕ)) (refusal : Failure)
    → Partly all before p now → not_run all p ≡ Some refusal → now ≡ Some before
unwritten_part all before p now refusal (inl same) e = same
unwritten_part all before p now refusal (inr begun) e = (let z : Some refusal ≡ None = sym e ∙ begun.0 in cc)

unwritten_query : (all : Contents) (before : List ℕ) (p : Prepared) (now : Option (List ℕ)) (f : Option Failure) (refusal : Failure)
    → EndedQuery all before p now f → IsCalledFor (not_run all p) f → not_run all p ≡ Some refusal → now ≡ Some before
unwritten_query all before p now None refusal h called e = (let z : None ≡ Some refusal = called ∙ e in cc)
unwritten_query all before p now (Some (failure.BadFile path cause)) refusal h called e = (let z : Some refusal ≡ None = sym e ∙ called in cc)
unwritten_query all before p now (Some (failure.Evaluation fault)) refusal h called e = (let z : Some refusal ≡ None = sym e ∙ called in cc)
unwritten_query all before p now (Some failure.Read) refusal h called e = unwritten_part all before p now refusal h e
unwritten_query all before p now (Some failure.Write) refusal h called e = unwritten_part all before p now refusal h e
unwritten_query all before p now (Some failure.NoMemory) refusal h called e = unwritten_part all before p now refusal h e
unwritten_query all before p now (Some f) refusal h called e = h

pub unwritten : (all : Contents) (before : List ℕ) (o : Result Ready Failure) (now : Option (List ℕ)) (f : Option Failure) (refusal : Failure)
    → EndedOf all before o now f → IsCalledFor (by_asked all o) f → by_asked all o ≡ Some refusal → now ≡ Some before
unwritten all before (Err g) now f refusal h called e = h
unwritten all before (Ok (request.Query, p)) now f refusal h called e = unwritten_query all before p now f refusal h called e
unwritten all before (Ok (request.Explain n, p)) now f refusal h called e = (let z : Some refusal ≡ None = sym e in cc)

-- ---- a text that is refused

-- what preparing answers of it
pub text_unprepared : (f refusal : Failure) → OrMemory {A = Prepared} (Err f) (Err refusal) → IsTextRefused refusal (Some f)
text_unprepared failure.Read refusal h = tt
text_unprepared failure.NoMemory refusal h = tt
text_unprepared f refusal h = sym (ap of_result h)

-- its script's file failed, or there was no memory
pub text_unread : (all : Contents) (path text : List ℕ) (f refusal : Failure) → IsOpening f
    → ((q : Path) → f ≡ failure.Missing q → content all path ≡ None) → content all path ≡ Some text → IsTextRefused refusal (Some f)
text_unread all path text failure.Read refusal is absent there = tt
text_unread all path text failure.NoMemory refusal is absent there = tt
text_unread all path text (failure.Missing q) refusal is absent there = (let z : None ≡ Some text = sym (absent q refl) ∙ there in cc)
text_unread all path text f refusal is absent there = absurd is

-- the words name its script
pub named_text : (all : Contents) (words : List (List ℕ)) (r : Request) (path text : List ℕ) → request_of words ≡ Some (r, path)
    → script_text words all ≡ Some text → content all path ≡ Some text
named_text all words r path text e h = sym (ap (text_at all) e) ∙ h

-- what was read is the text
pub same_text : (all : Contents) (path text bytes : List ℕ) (refusal : Failure) → content all path ≡ Some bytes → content all path ≡ Some text
    → script_of text ≡ Err refusal → script_of bytes ≡ Err refusal
same_text all path text bytes refusal r t is = (let z : Some bytes ≡ Some text = sym r ∙ t in let y : bytes ≡ text = cc in ap script_of y ∙ is)

-- refused words name none
pub unnamed_text : (all : Contents) (words : List (List ℕ)) (text : List ℕ) → request_of words ≡ None → script_text words all ≡ Some text → ⊥
unnamed_text all words text e h = (let z : None ≡ Some text = sym (ap (text_at all) e) ∙ h in cc)
