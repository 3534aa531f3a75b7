-- Rows and batches of one file, one more.
use Rattle.std.proofs.Common.{◌≡◌, ◌≢◌, refl, ℕ, suc, ◌+◌, ◌<◌, ◌≤◌, List, [], ◌∷◌, ◌++◌, length, map, take, drop, Option, Some, None, Bool, true, false, Result, Ok, Err, ap, sym, ◌∙◌, subst, arith, append_assoc, length-append}
use Rattle.std.proofs.Math.Seq.{take-append-add, take-length}
use Rattle.std.proofs.lemmas.List.{append-nil, map-append, take_all, take-append-drop, length-take}
use Rattle.dfx_outside.specs.Bytes.{EndsInFront}
use Rattle.dfx_value.specs.declared.fault.ItemFault.{ItemFault}
use Rattle.dfx_value.specs.declared.fault.ItemFault.TheVariants.{Evaluation}
use Rattle.csv_source.specs.CsvItems as csv
use Rattle.csv_source.specs.CsvItems.{is_bad}
use Rattle.csv_source.specs.ScanView.{GivesRows}
use Rattle.csv_columns.specs.ScanView.{GivesFront}
use Rattle.csv_source.specs.declared.refused.CsvRefused.{CsvRefused}
use Rattle.csv_source.specs.declared.refused.CsvRefused.TheVariants as scan
use Rattle.logical_plan.specs.Items.{Cells, Item, faults, of_rows}
use Rattle.logical_plan.specs.declared.plan.Logical.{Logical}
use Rattle.scalar_exprs.specs.declared.refused.EvalRefused.{EvalRefused}
use Rattle.scalar_exprs.specs.declared.refused.EvalRefused.TheVariants as eval
use Rattle.scan_run.specs.Chains.{Scanned, scanned, is_chain, is_there, over}
use Rattle.csv_source.specs.TableItems.{item_of, fault_of}
use Rattle.scan_run.specs.Written.{batch_rows, lines, WroteAll, WroteBefore, WrotePart}
use Rattle.scan_run.specs.Words.{Adds, Taken, TakenAll, Meets, Writing, of_scan, of_eval, fault_named, items_of_file}
use Rattle.scan_run.specs.declared.refused.RunRefused.{RunRefused}
use Rattle.scan_run.proofs.OverLaws.{clean-append, lines-append, clean-nil, lines-nil, over-fault, first_hit}

-- ---- rows as items

oks-append : (xs ys : List Cells) (rest : List csv.Item) → map Ok xs ++ (map Ok ys ++ rest) ≡ map Ok (xs ++ ys) ++ rest
oks-append [] ys rest = refl
oks-append (x ∷ xs) ys rest = ap (λ (t : List csv.Item). Ok x ∷ t) (oks-append xs ys rest)

items-rows : (table file : ℕ) (rs : List Cells) (rest : List csv.Item) → items_of_file table file (map Ok rs ++ rest) ≡ of_rows rs ++ items_of_file table file rest
items-rows table file [] rest = refl
items-rows table file (r ∷ rs) rest = ap (λ (t : List Item). Ok r ∷ t) (items-rows table file rs rest)

length-oks : (rs : List Cells) → length (map {B = csv.Item} Ok rs) ≡ length rs
length-oks [] = refl
length-oks (r ∷ rs) = ap suc (length-oks rs)

length-rows : (rs : List Cells) → length (of_rows rs) ≡ length rs
length-rows [] = refl
length-rows (r ∷ rs) = ap suc (length-rows rs)

rows-more : (xs ys : List Cells) → of_rows (xs ++ ys) ≡ of_rows xs ++ of_rows ys
rows-more xs ys = map-append Ok xs ys

clean-more : (body : Logical) (xs ys : List Cells) → faults (over body (of_rows xs)) ≡ [] → faults (over body (of_rows ys)) ≡ [] → faults (over body (of_rows (xs ++ ys))) ≡ []
clean-more body xs ys a b = ap (λ (t : List Item). faults (over body t)) (rows-more xs ys) ∙ clean-append body (of_rows xs) (of_rows ys) a ∙ b

lines-more : (body : Logical) (xs ys : List Cells) → lines body (of_rows (xs ++ ys)) ≡ lines body (of_rows xs) ++ lines body (of_rows ys)
lines-more body xs ys = ap (lines body) (rows-more xs ys) ∙ lines-append body (of_rows xs) (of_rows ys)

-- ---- rows of a batch

-- the rows that a scan gives stand in front of the items
pub record Behind (items : List csv.Item) (batch : List Cells) : Type 0 where
  pub rest : List csv.Item
  pub is : items ≡ map Ok batch ++ rest
  pub few : length batch ≤ batch_rows

pub behind_front : (items : List csv.Item) (batch : List Cells) (refusal : Option CsvRefused) (left : Option (List csv.Item)) → GivesFront batch_rows items batch refusal left → Behind items batch
behind_front items batch None left g =
    record { rest = drop batch_rows items; is = sym (take-append-drop batch_rows items) ∙ ap (λ (t : List csv.Item). t ++ drop batch_rows items) (sym g.next); few = omega (arith, length-oks batch, ap length g.next, length-take batch_rows items) }
behind_front items batch (Some e) left g = record { rest = Err e ∷ []; is = g.is; few = (let few : length batch < batch_rows = g.few in omega arith) }

pub taken_batch : {A : Type 0} (done : A) (body : Logical) (items : List csv.Item) (text made : List ℕ) (batch : List Cells) (left : Option (List csv.Item))
    → GivesRows batch_rows items batch left → length batch ≡ batch_rows → Adds {A = A} (Ok done) (over body (of_rows batch)) text made → Taken body items text batch_rows left made
taken_batch done body items text made batch left g many a = record {
  rows = batch;
  rest = drop batch_rows items;
  is = sym (take-append-drop batch_rows items) ∙ ap (λ (t : List csv.Item). t ++ drop batch_rows items) (sym g.next);
  many = many;
  left_is = g.rest;
  clean = a.0;
  made_is = a.1;
}

pub taken_last : {A : Type 0} (done : A) (body : Logical) (items : List csv.Item) (text made : List ℕ) (batch : List Cells) (left : Option (List csv.Item))
    → GivesRows batch_rows items batch left → length batch ≢ batch_rows → Adds {A = A} (Ok done) (over body (of_rows batch)) text made → TakenAll body items text made
taken_last done body items text made batch left g few a =
    let short : length items ≤ batch_rows = omega (arith, few, length-oks batch, ap length g.next, length-take batch_rows items) in
    record { rows = batch; is = sym (take_all batch_rows items short) ∙ sym g.next; clean = a.0; made_is = a.1 }

-- a refusal of the scan that names a fault is of its file
named_scan : (table file : ℕ) (r : CsvRefused) (fault : ItemFault) → fault_named table (of_scan file r) ≡ Some fault → (is_bad r ≡ true) × (fault_of table file r ≡ fault)
named_scan table file (scan.Header n) fault e = (refl, cc)
named_scan table file (scan.Fields n) fault e = (refl, cc)
named_scan table file (scan.NotUtf8 n) fault e = (refl, cc)
named_scan table file (scan.Value n c) fault e = (refl, cc)
named_scan table file scan.Read fault e = cc
named_scan table file scan.NoMemory fault e = cc

some_scanned : (q : Logical) → is_chain q ≡ true → (s : Scanned) × (scanned q ≡ Some s)
some_scanned q e = by (scanned q) refl e where
  by : (o : Option Scanned) → scanned q ≡ o → is_there o ≡ true → (s : Scanned) × (scanned q ≡ Some s)
  by None is h = cc
  by (Some s) is h = (s, is)

meets_last : (body : Logical) (items : List csv.Item) (batch : List Cells) (table file : ℕ) (x : csv.Item) (fault : ItemFault) → items ≡ map Ok batch ++ x ∷ [] → length batch < batch_rows
    → faults (over body (of_rows batch)) ≡ [] → faults (over body (item_of table file x ∷ [])) ≡ fault ∷ [] → Meets body (items_of_file table file items) fault
meets_last body items batch table file x fault is few clean hit = record {
  last = of_rows batch ++ item_of table file x ∷ [];
  left = [];
  is = ap (items_of_file table file) is ∙ items-rows table file batch (x ∷ []) ∙ sym (append-nil (of_rows batch ++ item_of table file x ∷ []));
  few = (let a : length (of_rows batch ++ item_of table file x ∷ []) ≡ length (of_rows batch) + 1 = length-append (of_rows batch) (item_of table file x ∷ []) in let b = length-rows batch in omega arith);
  met = clean-append body (of_rows batch) (item_of table file x ∷ []) clean ∙ hit;
}

-- the record behind the rows is refused
pub meets_bad : (body : Logical) (items : List csv.Item) (batch : List Cells) (table file : ℕ) (fault : ItemFault) (r : CsvRefused)
    → is_chain body ≡ true → faults (over body (of_rows batch)) ≡ [] → fault_named table (of_scan file r) ≡ Some fault
    → (is_bad r ≡ true → (items ≡ map Ok batch ++ Err r ∷ []) × (length batch < batch_rows)) → Meets body (items_of_file table file items) fault
meets_bad body items batch table file fault r chain clean named behind =
    let n = named_scan table file r fault named in
    let s = some_scanned body chain in
    let b = behind n.0 in
    meets_last body items batch table file (Err r) fault b.0 b.1 clean
    (ap faults (over-fault (fault_of table file r) body s.0 s.1) ∙ ap (λ (f : ItemFault). f ∷ []) n.1)

-- a row meets a fault
pub meets_evaluation : (A : Type 0) (body : Logical) (items : List csv.Item) (batch : List Cells) (table file : ℕ) (text made : List ℕ) (fault : ItemFault) (r : EvalRefused)
    → Behind items batch → fault_named table (of_eval r) ≡ Some fault → Adds {A = A} (Err r) (over body (of_rows batch)) text made → Meets body (items_of_file table file items) fault
meets_evaluation A body items batch table file text made fault (eval.Fault f) b named a =
    let same : Evaluation f ≡ fault = (cc) in
    let hit = first_hit body batch (Evaluation f) a.0 a.1 in
    record {
      last = of_rows hit.last;
      left = of_rows hit.left ++ items_of_file table file b.rest;
      is = ap (items_of_file table file) b.is ∙ items-rows table file batch b.rest ∙ ap (λ (t : List Item). t ++ items_of_file table file b.rest) (ap of_rows hit.is ∙ rows-more hit.last hit.left)
          ∙ append_assoc (of_rows hit.last) (of_rows hit.left) (items_of_file table file b.rest);
      few = omega (arith, length-rows hit.last, ap length hit.is, length-append hit.last hit.left, b.few);
      met = hit.met ∙ ap (λ (g : ItemFault). g ∷ []) same;
    }
meets_evaluation A body items batch table file text made fault eval.NoMemory b named a = cc

-- ---- batches of a file

pub writing_none : (body : Logical) (items : List csv.Item) (before : List ℕ) (left : Option (List csv.Item)) (told : Option (List ℕ)) → left ≡ Some items → told ≡ Some before → Writing body items before left told
writing_none body items before left told is e = record {
  rows = [];
  rest = items;
  is = refl;
  left_is = is;
  batches = refl;
  clean = clean-nil body;
  written = e ∙ ap Some (sym (append-nil before) ∙ ap (λ (x : List ℕ). before ++ x) (sym (lines-nil body)));
}

written-more : (body : Logical) (before : List ℕ) (xs ys : List Cells) → (before ++ lines body (of_rows xs)) ++ lines body (of_rows ys) ≡ before ++ lines body (of_rows (xs ++ ys))
written-more body before xs ys = append_assoc before (lines body (of_rows xs)) (lines body (of_rows ys)) ∙ ap (λ (t : List ℕ). before ++ t) (sym (lines-more body xs ys))

pub writing_more : (body : Logical) (items : List csv.Item) (before : List ℕ) (left more : Option (List csv.Item)) (told now : Option (List ℕ)) (made : List ℕ)
    (w : Writing body items before left told) (t : Taken body w.rest [] batch_rows more made) → now ≡ Some ((before ++ lines body (of_rows w.rows)) ++ lines body (of_rows t.rows))
    → Writing body items before more now
writing_more body items before left more told now made w t e = record {
  rows = w.rows ++ t.rows;
  rest = t.rest;
  is = w.is ∙ ap (λ (x : List csv.Item). map Ok w.rows ++ x) t.is ∙ oks-append w.rows t.rows t.rest;
  left_is = t.left_is;
  batches = rw (length-append w.rows t.rows, t.many) (omega (arith, w.batches));
  clean = clean-more body w.rows t.rows w.clean t.clean;
  written = e ∙ ap Some (written-more body before w.rows t.rows);
}

pub writing_last : (body : Logical) (items : List csv.Item) (before : List ℕ) (table file : ℕ) (left : Option (List csv.Item)) (told now : Option (List ℕ)) (made : List ℕ)
    (w : Writing body items before left told) (t : TakenAll body w.rest [] made) → now ≡ Some ((before ++ lines body (of_rows w.rows)) ++ lines body (of_rows t.rows))
    → WroteAll body (items_of_file table file items) before now
writing_last body items before table file left told now made w t e =
    let all : items_of_file table file items ≡ of_rows (w.rows ++ t.rows) =
    ap (items_of_file table file) (w.is ∙ ap (λ (x : List csv.Item). map Ok w.rows ++ x) (t.is ∙ sym (append-nil (map Ok t.rows))) ∙ oks-append w.rows t.rows [])
    ∙ items-rows table file (w.rows ++ t.rows) [] ∙ append-nil (of_rows (w.rows ++ t.rows)) in
    record {
      clean = ap (λ (x : List Item). faults (over body x)) all ∙ clean-more body w.rows t.rows w.clean t.clean;
      written = e ∙ ap Some (written-more body before w.rows t.rows ∙ ap (λ (x : List Item). before ++ lines body x) (sym all));
    }

writing-items : (body : Logical) (items : List csv.Item) (before : List ℕ) (table file : ℕ) (left : Option (List csv.Item)) (told : Option (List ℕ)) (w : Writing body items before left told)
    → items_of_file table file items ≡ of_rows w.rows ++ items_of_file table file w.rest
writing-items body items before table file left told w = ap (items_of_file table file) w.is ∙ items-rows table file w.rows w.rest

pub wrote_before : (body : Logical) (items : List csv.Item) (before : List ℕ) (table file : ℕ) (left : Option (List csv.Item)) (told : Option (List ℕ)) (fault : ItemFault)
    (w : Writing body items before left told) → Meets body (items_of_file table file w.rest) fault → WroteBefore body [] (items_of_file table file items) before fault told
wrote_before body items before table file left told fault w m = record {
  whole = of_rows w.rows;
  last = m.last;
  left = m.left;
  is = writing-items body items before table file left told w ∙ ap (λ (x : List Item). of_rows w.rows ++ x) m.is ∙ sym (append_assoc (of_rows w.rows) m.last m.left);
  batches = rw (length-rows w.rows) w.batches;
  few = m.few;
  clean = w.clean;
  met = m.met;
  written = w.written;
}

pub wrote_part : (body : Logical) (items : List csv.Item) (before : List ℕ) (table file : ℕ) (left : Option (List csv.Item)) (told : Option (List ℕ))
    (w : Writing body items before left told) → WrotePart body (items_of_file table file items) before told
wrote_part body items before table file left told w = record {
  first = of_rows w.rows;
  rest = items_of_file table file w.rest;
  is = writing-items body items before table file left told w;
  clean = w.clean;
  written = record { count = length (lines body (of_rows w.rows)); is = w.written ∙ ap (λ (t : List ℕ). Some (before ++ t)) (sym (take-length (lines body (of_rows w.rows)))) };
}

-- a batch of which a beginning was written
some_written : (body : Logical) (items : List csv.Item) (before : List ℕ) (table file : ℕ) (now : Option (List ℕ)) (xs ys : List Cells) (rest : List csv.Item)
    → items ≡ map Ok xs ++ (map Ok ys ++ rest) → faults (over body (of_rows xs)) ≡ [] → faults (over body (of_rows ys)) ≡ []
    → EndsInFront (before ++ lines body (of_rows xs)) (lines body (of_rows ys)) now → WrotePart body (items_of_file table file items) before now
some_written body items before table file now xs ys rest is a b e = record {
  first = of_rows (xs ++ ys);
  rest = items_of_file table file rest;
  is = ap (items_of_file table file) (is ∙ oks-append xs ys rest) ∙ items-rows table file (xs ++ ys) rest;
  clean = clean-more body xs ys a b;
  written = record {
    count = length (lines body (of_rows xs)) + e.count;
    is = e.is ∙ ap Some (append_assoc before _ _ ∙ ap (λ (t : List ℕ). before ++ t)
        (sym (ap (take (length (lines body (of_rows xs)) + e.count)) (lines-more body xs ys) ∙ take-append-add (lines body (of_rows xs)) (lines body (of_rows ys)) e.count)));
  };
}

-- the lines that a batch was to be given, whether rows may be left or not
pub record Made (body : Logical) (rest : List csv.Item) (made : List ℕ) : Type 0 where
  pub rows : List Cells
  pub more : List csv.Item
  pub is : rest ≡ map Ok rows ++ more
  pub clean : faults (over body (of_rows rows)) ≡ []
  pub made_is : made ≡ lines body (of_rows rows)

made_more : (body : Logical) (rest : List csv.Item) (count : ℕ) (left : Option (List csv.Item)) (made : List ℕ) → Taken body rest [] count left made → Made body rest made
made_more body rest count left made t = record { rows = t.rows; more = t.rest; is = t.is; clean = t.clean; made_is = t.made_is }

made_all : (body : Logical) (rest : List csv.Item) (made : List ℕ) → TakenAll body rest [] made → Made body rest made
made_all body rest made t = record { rows = t.rows; more = []; is = t.is ∙ sym (append-nil (map Ok t.rows)); clean = t.clean; made_is = t.made_is }

pub made_by : (more : Bool) (body : Logical) (rest : List csv.Item) (count : ℕ) (left : Option (List csv.Item)) (made : List ℕ)
    → (more ≡ true → Taken body rest [] count left made) → (more ≡ false → TakenAll body rest [] made) → Made body rest made
made_by true body rest count left made a b = made_more body rest count left made (a refl)
made_by false body rest count left made a b = made_all body rest made (b refl)

pub wrote_some : (body : Logical) (items : List csv.Item) (before : List ℕ) (table file : ℕ) (left : Option (List csv.Item)) (told now : Option (List ℕ)) (made : List ℕ)
    (w : Writing body items before left told) (m : Made body w.rest made) → EndsInFront (before ++ lines body (of_rows w.rows)) (lines body (of_rows m.rows)) now → WrotePart body (items_of_file table file items) before now
wrote_some body items before table file left told now made w m e =
    some_written body items before table file now w.rows m.rows m.more (w.is ∙ ap (λ (x : List csv.Item). map Ok w.rows ++ x) m.is) w.clean m.clean e

-- ---- refusals

pub ok_same : (A : Type 0) (b d : A) → ◌≡◌ {A = Result A RunRefused} (Ok b) (Ok d) → b ≡ d
ok_same A b d e = (cc)

pub err_same : (A : Type 0) (e f : RunRefused) → ◌≡◌ {A = Result A RunRefused} (Err e) (Err f) → e ≡ f
err_same A e f h = (cc)
