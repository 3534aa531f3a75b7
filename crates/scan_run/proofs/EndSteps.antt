-- How a run ends.
use Rattle.std.proofs.Common.{◌≡◌, refl, ℕ, ◌+◌, ◌≤◌, List, [], ◌∷◌, ◌++◌, length, map, take, Option, Some, None, Result, Ok, Err, inl, inr, ap, sym, ◌∙◌, subst, arith, append_assoc, unwrap_or}
use Rattle.std.specs.Prelude.{IsSorted, Contains, OnOk, OnErr, IfErr}
use Rattle.std.proofs.Math.Seq.{take-append-add}
use Rattle.std.proofs.lemmas.List.{append-nil}
use Rattle.std.proofs.lemmas.List.Sorted.{IsPermutation-refl}
use Rattle.dfx_outside.specs.Bytes.{EndsInFront}
use Rattle.dfx_outside.specs.Causes.{Rose}
use Rattle.dfx_outside.specs.Contents.{content}
use Rattle.dfx_value.specs.Rows.{row_cmp}
use Rattle.dfx_value.specs.declared.fault.ItemFault.{ItemFault}
use Rattle.dfx_value.specs.declared.fault.ItemFault.TheVariants.{Evaluation}
use Rattle.dfx_value.specs.declared.rows.SortKey.{SortKey}
use Rattle.logical_plan.specs.Items.{Cells, Item, concat, rows, faults}
use Rattle.logical_plan.specs.Body.{Tables, scan, body, all_faults}
use Rattle.logical_plan.specs.Allowed.{Allows}
use Rattle.logical_plan.specs.declared.plan.Logical.{Logical}
use Rattle.logical_plan.specs.declared.query.Query.{Query}
use Rattle.result_text.specs.AnswerText.{header_line}
use Rattle.scan_run.specs.Chains.{scanned, over}
use Rattle.csv_source.specs.TableItems.{files_from, missing, fault_of}
use Rattle.scan_run.specs.Written.{lines, WroteAll, WrotePart, BeganOver}
use Rattle.scan_run.specs.Outcomes.{Asked, files_of, with_header, HasFiles, Answered, Stopped, Began, Ran, IsMet, IsOkOrMemory}
use Rattle.scan_run.specs.Words.{AreOpened, StopsIn, IsOfRun, IsOfOpening, fault_named, items_of_all}
use Rattle.scan_run.specs.declared.refused.RunRefused.{RunRefused}
use Rattle.scan_run.specs.declared.refused.RunRefused.TheVariants as refused
use Rattle.scan_run.proofs.OverLaws.{clean-append, clean-nil, lines-nil, over-append, faults-append, body_given, met_among}
use Rattle.scan_run.proofs.FileSteps.{concat-append}

-- ---- the header

pub began_none : (q : Query) (items : List Item) (before : List ℕ) (now : Option (List ℕ)) → now ≡ Some before → BeganOver q items before now
began_none q items before now e = record { first = []; rest = items; is = refl; clean = clean-nil q.body; written = record { count = 0; is = e ∙ ap Some (sym (append-nil before)) } }

pub began_header : (q : Query) (items : List Item) (before : List ℕ) (now : Option (List ℕ)) → EndsInFront before (header_line q.names) now → BeganOver q items before now
began_header q items before now e = record {
  first = [];
  rest = items;
  is = refl;
  clean = clean-nil q.body;
  written = record { count = e.count; is = e.is ∙ ap (λ (t : List ℕ). Some (before ++ take e.count t)) (sym (append-nil (header_line q.names)) ∙ ap (λ (t : List ℕ). header_line q.names ++ t) (sym (lines-nil q.body))) };
}

pub began_rows : (q : Query) (items : List Item) (before : List ℕ) (now : Option (List ℕ)) → WrotePart q.body items (before ++ header_line q.names) now → BeganOver q items before now
began_rows q items before now w = record {
  first = w.first;
  rest = w.rest;
  is = w.is;
  clean = w.clean;
  written = record {
    count = length (header_line q.names) + w.written.count;
    is = w.written.is ∙ ap Some (append_assoc before _ _ ∙ ap (λ (t : List ℕ). before ++ t) (sym (take-append-add (header_line q.names) (lines q.body w.first) w.written.count)));
  };
}

-- ---- the files that were opened are those that were asked

same_files : (a : Asked) (contents : List (List ℕ)) → map (content a.all) a.paths ≡ map Some contents → files_of a ≡ items_of_all a.scan contents
same_files a contents e = ap (files_from a.scan.table a.scan.kinds 0) e

-- the items of the scan, over tables that have these files
scan_is : (a : Asked) (tables : Tables) → HasFiles a tables → scan tables a.scan.table ≡ concat (files_of a)
scan_is a tables h = ap (λ (o : Option (List (List Item))). concat (unwrap_or o [])) h

unordered : (rs : List Cells) → IsSorted (row_cmp []) rs
unordered rs = λ k d low high. refl

allows : (items : List Item) → faults items ≡ [] → Allows [] 0 None items (rows items)
allows items clean = inr (record {
  arranged = items;
  same = IsPermutation-refl items;
  answers = record { sorted = unordered (rows items); clean = clean; cut = refl };
})

as_asked : (order : List SortKey) (offset : ℕ) (limit : Option ℕ) (items : List Item) (answer : List Cells) → order ≡ [] → offset ≡ 0 → limit ≡ None → Allows [] 0 None items answer → Allows order offset limit items answer
as_asked order offset limit items answer o f l h =
    subst (λ ks. Allows ks offset limit items answer) (sym o) (subst (λ n. Allows [] n limit items answer) (sym f) (subst (λ m. Allows [] 0 m items answer) (sym l) h))

-- an answer that was written whole is allowed
pub answered : (a : Asked) (told : List (Option (List ℕ))) (now : Option (List ℕ)) (o : AreOpened a.all a.paths told) → scanned a.query.body ≡ Some a.scan → a.query.order ≡ [] → (a.query.offset ≡ 0) × (a.query.limit ≡ None)
    → WroteAll a.query.body (concat (items_of_all a.scan o.contents)) (with_header a) now → Answered a now
answered a told now o chain order uncut w =
    let are : items_of_all a.scan o.contents ≡ files_of a = sym (same_files a o.contents o.found) in
    let whole : WroteAll a.query.body (concat (files_of a)) (with_header a) now = subst (λ fs. WroteAll a.query.body (concat fs) (with_header a) now) are w in
    record {
      there = o.there;
      answer = rows (over a.query.body (concat (files_of a)));
      allowed = λ tables h.
          let items : over a.query.body (concat (files_of a)) ≡ body tables a.query.body = ap (over a.query.body) (sym (scan_is a tables h)) ∙ sym (body_given tables a.query.body a.scan chain) in
          as_asked a.query.order a.query.offset a.query.limit (body tables a.query.body) _ order uncut.0 uncut.1
          (subst (λ is. Allows [] 0 None is (rows (over a.query.body (concat (files_of a))))) items (allows (over a.query.body (concat (files_of a))) whole.clean));
      written = whole.written ∙ ap Some (append_assoc a.before (header_line a.query.names) (lines a.query.body (concat (files_of a))));
    }

stopped : (a : Asked) (told : List (Option (List ℕ))) (now : Option (List ℕ)) (o : AreOpened a.all a.paths told) (e : RunRefused) (fault : ItemFault)
    (s : StopsIn a.query.body (items_of_all a.scan o.contents) (with_header a) e fault now) → Stopped a (length s.earlier) fault now
stopped a told now o e fault s = record {
  there = o.there;
  earlier = s.earlier;
  later = s.later;
  items = s.items;
  are = same_files a o.contents o.found ∙ s.are;
  number = refl;
  wrote = s.wrote;
}

pub began : (a : Asked) (told : List (Option (List ℕ))) (now : Option (List ℕ)) (o : AreOpened a.all a.paths told) → BeganOver a.query (concat (items_of_all a.scan o.contents)) a.before now → Began a now
began a told now o b = record {
  opened = inr o.there;
  wrote = subst (λ fs. BeganOver a.query (concat fs) a.before now) (sym (same_files a o.contents o.found)) b;
}

pub began_unopened : (a : Asked) (now : Option (List ℕ)) → now ≡ Some a.before → Began a now
began_unopened a now e = record { opened = inl e; wrote = began_none a.query (concat (files_of a)) a.before now e }

-- how a refused run ends
pub ran_refused : (A : Type 0) (a : Asked) (told : List (Option (List ℕ))) (now : Option (List ℕ)) (o : AreOpened a.all a.paths told) (e : RunRefused) → IsOfRun e
    → ((fault : ItemFault) → fault_named a.scan.table e ≡ Some fault → StopsIn a.query.body (items_of_all a.scan o.contents) (with_header a) e fault now)
    → BeganOver a.query (concat (items_of_all a.scan o.contents)) a.before now → Ran {A = A} a now (Err e)
ran_refused A a told now o (refused.Missing file) of stops b = absurd of
ran_refused A a told now o (refused.Bad file e) of stops b =
    let s = stops (fault_of a.scan.table file e) refl in
    subst (λ n. Stopped a n (fault_of a.scan.table file e) now) (sym s.number) (stopped a told now o (refused.Bad file e) (fault_of a.scan.table file e) s)
ran_refused A a told now o (refused.Evaluation f) of stops b =
    let s = stops (Evaluation f) refl in (length s.earlier, stopped a told now o (refused.Evaluation f) (Evaluation f) s)
ran_refused A a told now o refused.Read of stops b = began a told now o b
ran_refused A a told now o refused.Write of stops b = began a told now o b
ran_refused A a told now o refused.NoMemory of stops b = began a told now o b

pub ran_by : (A : Type 0) (a : Asked) (told : List (Option (List ℕ))) (now : Option (List ℕ)) (o : AreOpened a.all a.paths told) (result : Result A RunRefused) → scanned a.query.body ≡ Some a.scan → a.query.order ≡ [] → (a.query.offset ≡ 0) × (a.query.limit ≡ None)
    → OnOk result (WroteAll a.query.body (concat (items_of_all a.scan o.contents)) (with_header a) now)
    → ((e : RunRefused) (fault : ItemFault) → result ≡ Err e → fault_named a.scan.table e ≡ Some fault → StopsIn a.query.body (items_of_all a.scan o.contents) (with_header a) e fault now)
    → OnErr result (BeganOver a.query (concat (items_of_all a.scan o.contents)) a.before now) → IfErr result IsOfRun → Ran a now result
ran_by A a told now o (Ok done) chain order uncut w stops b of = answered a told now o chain order uncut w
ran_by A a told now o (Err e) chain order uncut w stops b of = ran_refused A a told now o e of (λ fault named. stops e fault refl named) b

-- how a refused opening ends
pub ran_opening : (A : Type 0) (a : Asked) (now : Option (List ℕ)) (e : RunRefused) → IsOfOpening e → ((file : ℕ) → e ≡ refused.Missing file → missing a.all a.paths ≡ Some file) → now ≡ Some a.before
    → Ran {A = A} a now (Err e)
ran_opening A a now (refused.Missing file) of absent same = (absent file refl, same)
ran_opening A a now refused.Read of absent same = began_unopened a now same
ran_opening A a now refused.NoMemory of absent same = began_unopened a now same
ran_opening A a now (refused.Bad file e) of absent same = absurd of
ran_opening A a now (refused.Evaluation f) of absent same = absurd of
ran_opening A a now refused.Write of absent same = absurd of

-- ---- the faults that refusals name

-- the first of the faults
first_met : (q : Logical) (front last rest : List Item) (fault : ItemFault) → faults (over q front) ≡ [] → faults (over q last) ≡ fault ∷ [] → Contains (faults (over q (front ++ (last ++ rest)))) fault
first_met q front last rest fault clean met =
    let is : faults (over q (front ++ (last ++ rest))) ≡ fault ∷ faults (over q rest) =
    clean-append q front (last ++ rest) clean ∙ ap faults (over-append last rest q) ∙ faults-append (over q last) (over q rest) ∙ ap (λ (t : List ItemFault). t ++ faults (over q rest)) met in
    subst (λ fs. Contains fs fault) (sym is) (0, omega arith, refl)

stopped_met : (a : Asked) (file : ℕ) (fault : ItemFault) (now : Option (List ℕ)) (tables : Tables) → scanned a.query.body ≡ Some a.scan → HasFiles a tables → Stopped a file fault now
    → Contains (all_faults tables a.query.body) fault
stopped_met a file fault now tables chain h s =
    let w = s.wrote in
    let all : scan tables a.scan.table ≡ (concat s.earlier ++ w.whole) ++ (w.last ++ (w.left ++ concat s.later)) =
    scan_is a tables h ∙ ap concat s.are ∙ concat-append s.earlier (s.items ∷ s.later) ∙ ap (λ (t : List Item). concat s.earlier ++ (t ++ concat s.later)) w.is
    ∙ ap (λ (t : List Item). concat s.earlier ++ t) (append_assoc (w.whole ++ w.last) w.left (concat s.later) ∙ append_assoc w.whole w.last (w.left ++ concat s.later))
    ∙ sym (append_assoc (concat s.earlier) w.whole (w.last ++ (w.left ++ concat s.later))) in
    met_among tables a.query.body a.scan fault chain
    (subst (λ is. Contains (faults (over a.query.body is)) fault) (sym all) (first_met a.query.body (concat s.earlier ++ w.whole) w.last (w.left ++ concat s.later) fault w.clean w.met))

pub ran_met : (A : Type 0) (a : Asked) (now : Option (List ℕ)) (tables : Tables) (result : Result A RunRefused) → scanned a.query.body ≡ Some a.scan → HasFiles a tables → Ran a now result
    → IsMet a.scan.table (all_faults tables a.query.body) result
ran_met A a now tables (Ok done) chain h ran = tt
ran_met A a now tables (Err (refused.Missing file)) chain h ran = tt
ran_met A a now tables (Err (refused.Bad file e)) chain h ran = stopped_met a file (fault_of a.scan.table file e) now tables chain h ran
ran_met A a now tables (Err (refused.Evaluation f)) chain h ran = stopped_met a ran.0 (Evaluation f) now tables chain h ran.1
ran_met A a now tables (Err refused.Read) chain h ran = tt
ran_met A a now tables (Err refused.Write) chain h ran = tt
ran_met A a now tables (Err refused.NoMemory) chain h ran = tt

none_in : (fs : List ItemFault) (f : ItemFault) → fs ≡ [] → Contains fs f → ⊥
none_in [] f e h = omega (arith, h.1)
none_in (g ∷ gs) f e h = cc

pub rose_later : (first before now : ℕ) → Rose first before → before ≤ now → Rose first now
rose_later first before now r h = omega arith

pub complete_by : (A : Type 0) (a : Asked) (now : Option (List ℕ)) (fs : List ItemFault) (Faults Writes : Type 0) (result : Result A RunRefused) → Ran a now result → IsMet a.scan.table fs result
    → missing a.all a.paths ≡ None → fs ≡ [] → (result ≡ Err refused.Read → Faults) → (result ≡ Err refused.Write → Writes) → ¬ Faults → ¬ Writes → IsOkOrMemory result
complete_by A a now fs F W (Ok done) ran met there none read write f w = tt
complete_by A a now fs F W (Err (refused.Missing file)) ran met there none read write f w = let gone = ran.0 in cc
complete_by A a now fs F W (Err (refused.Bad file e)) ran met there none read write f w = none_in fs _ none met
complete_by A a now fs F W (Err (refused.Evaluation g)) ran met there none read write f w = none_in fs _ none met
complete_by A a now fs F W (Err refused.Read) ran met there none read write f w = f (read refl)
complete_by A a now fs F W (Err refused.Write) ran met there none read write f w = w (write refl)
complete_by A a now fs F W (Err refused.NoMemory) ran met there none read write f w = tt

pub ruleset header_steps = (began_none, began_header)
