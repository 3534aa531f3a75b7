-- Files written one after the other.
use Rattle.std.proofs.Common.{◌≡◌, refl, ℕ, zero, suc, ◌+◌, List, [], ◌∷◌, ◌++◌, length, map, take, Option, Some, ap, sym, ◌∙◌, subst, arith, append_assoc, length-append}
use Rattle.std.proofs.Math.Seq.{take-append-add}
use Rattle.std.proofs.lemmas.List.{append-nil}
use Rattle.dfx_outside.specs.Causes.{Rose, HandsOn}
use Rattle.dfx_value.specs.declared.fault.ItemFault.{ItemFault}
use Rattle.logical_plan.specs.Items.{Item, concat, faults}
use Rattle.logical_plan.specs.declared.plan.Logical.{Logical}
use Rattle.scan_run.specs.Chains.{Scanned, over}
use Rattle.csv_source.specs.TableItems.{file_items, files_from}
use Rattle.scan_run.specs.Written.{lines, WroteAll, WroteBefore, WrotePart}
use Rattle.scan_run.specs.Words.{Tell, WritingFiles, StopsIn, IsOfRows, items_of_all}
use Rattle.scan_run.specs.declared.refused.RunRefused.{RunRefused}
use Rattle.scan_run.proofs.OverLaws.{clean-append, lines-append, clean-nil, lines-nil}

-- what was closed had failed, so the owner's count rose
pub handed_on : (before now start count : ℕ) → HandsOn before now count → Rose start count → Rose before now
handed_on before now start zero h r = absurd (omega arith)
handed_on before now start (suc n) h r = h

-- ---- items of several files

pub concat-append : (xs ys : List (List Item)) → concat (xs ++ ys) ≡ concat xs ++ concat ys
concat-append [] ys = refl
concat-append (x ∷ xs) ys = ap (λ (t : List Item). x ++ t) (concat-append xs ys) ∙ sym (append_assoc x (concat xs) (concat ys))

concat-more : (xs : List (List Item)) (x : List Item) → concat (xs ++ x ∷ []) ≡ concat xs ++ x
concat-more xs x = concat-append xs (x ∷ []) ∙ ap (λ (t : List Item). concat xs ++ t) (append-nil x)

-- ---- the next file

pub files_none : (body : Logical) (s : Scanned) (contents : List (List ℕ)) (before : List ℕ) (told : List (Option (List ℕ))) (now : Option (List ℕ)) → Tell told contents → now ≡ Some before
    → WritingFiles body s contents before 0 told now
files_none body s contents before told now t e = record {
  earlier = [];
  rest = contents;
  tell = t;
  are = refl;
  number = refl;
  wrote = record { clean = clean-nil body; written = e ∙ ap Some (sym (append-nil before) ∙ ap (λ (x : List ℕ). before ++ x) (sym (lines-nil body))) };
}

-- the next file, its content, and those after it
pub record NextFile (body : Logical) (s : Scanned) (contents : List (List ℕ)) (before : List ℕ) (count : ℕ) (source : Option (List ℕ)) (told : List (Option (List ℕ))) (now : Option (List ℕ)) : Type 0 where
  pub earlier : List (List Item)
  pub number : length earlier ≡ count
  pub wrote : WroteAll body (concat earlier) before now
  pub bytes : List ℕ
  pub rest : List (List ℕ)
  pub tells : source ≡ Some bytes
  pub tell : Tell told rest
  pub are : items_of_all s contents ≡ earlier ++ file_items s.table s.kinds count (Some bytes) ∷ files_from s.table s.kinds (count + 1) (map Some rest)

pub next_file : (body : Logical) (s : Scanned) (contents : List (List ℕ)) (before : List ℕ) (count : ℕ) (source : Option (List ℕ)) (told : List (Option (List ℕ))) (now : Option (List ℕ))
    → WritingFiles body s contents before count (source ∷ told) now → NextFile body s contents before count source told now
next_file body s contents before count source told now w = by w.rest w.tell w.are where
  by : (rest : List (List ℕ)) → Tell (source ∷ told) rest → items_of_all s contents ≡ w.earlier ++ files_from s.table s.kinds count (map Some rest) → NextFile body s contents before count source told now
  by [] t are = cc
  by (b ∷ bs) t are = record {
    earlier = w.earlier;
    number = w.number;
    wrote = w.wrote;
    bytes = b;
    rest = bs;
    tells = (cc);
    tell = (cc);
    are = are;
  }

written-more : (body : Logical) (before : List ℕ) (xs ys : List Item) → (before ++ lines body xs) ++ lines body ys ≡ before ++ lines body (xs ++ ys)
written-more body before xs ys = append_assoc before (lines body xs) (lines body ys) ∙ ap (λ (t : List ℕ). before ++ t) (sym (lines-append body xs ys))

-- it was written whole
pub files_more : (body : Logical) (s : Scanned) (contents : List (List ℕ)) (before : List ℕ) (count : ℕ) (source : Option (List ℕ)) (told : List (Option (List ℕ))) (was now : Option (List ℕ))
    (n : NextFile body s contents before count source told was) → WroteAll body (file_items s.table s.kinds count (Some n.bytes)) (before ++ lines body (concat n.earlier)) now
    → WritingFiles body s contents before (count + 1) told now
files_more body s contents before count source told was now n w =
    let items = file_items s.table s.kinds count (Some n.bytes) in
    let all : concat (n.earlier ++ items ∷ []) ≡ concat n.earlier ++ items = concat-more n.earlier items in
    record {
      earlier = n.earlier ++ items ∷ [];
      rest = n.rest;
      tell = n.tell;
      are = n.are ∙ sym (append_assoc n.earlier (items ∷ []) (files_from s.table s.kinds (count + 1) (map Some n.rest)));
      number = length-append n.earlier (items ∷ []) ∙ ap (λ k. k + 1) n.number;
      wrote = record {
        clean = ap (λ (t : List Item). faults (over body t)) all ∙ clean-append body (concat n.earlier) items n.wrote.clean ∙ w.clean;
        written = w.written ∙ ap Some (written-more body before (concat n.earlier) items ∙ ap (λ (t : List Item). before ++ lines body t) (sym all));
      };
    }

-- a fault was met in it
pub files_stop : (body : Logical) (s : Scanned) (contents : List (List ℕ)) (before : List ℕ) (count : ℕ) (source : Option (List ℕ)) (told : List (Option (List ℕ))) (was now : Option (List ℕ)) (e : RunRefused) (fault : ItemFault)
    (n : NextFile body s contents before count source told was) → IsOfRows count e → WroteBefore body [] (file_items s.table s.kinds count (Some n.bytes)) (before ++ lines body (concat n.earlier)) fault now
    → StopsIn body (items_of_all s contents) before e fault now
files_stop body s contents before count source told was now e fault n of w = record {
  earlier = n.earlier;
  later = files_from s.table s.kinds (count + 1) (map Some n.rest);
  items = file_items s.table s.kinds count (Some n.bytes);
  are = n.are;
  number = subst (λ k. IsOfRows k e) (sym n.number) of;
  wrote = record {
    whole = w.whole;
    last = w.last;
    left = w.left;
    is = w.is;
    batches = w.batches;
    few = w.few;
    clean = clean-append body (concat n.earlier) w.whole n.wrote.clean ∙ w.clean;
    met = w.met;
    written = w.written ∙ ap Some (written-more body before (concat n.earlier) w.whole);
  };
}

-- a part of it was written
pub files_part : (body : Logical) (s : Scanned) (contents : List (List ℕ)) (before : List ℕ) (count : ℕ) (source : Option (List ℕ)) (told : List (Option (List ℕ))) (was now : Option (List ℕ))
    (n : NextFile body s contents before count source told was) → WrotePart body (file_items s.table s.kinds count (Some n.bytes)) (before ++ lines body (concat n.earlier)) now
    → WrotePart body (concat (items_of_all s contents)) before now
files_part body s contents before count source told was now n w =
    let items = file_items s.table s.kinds count (Some n.bytes) in
    let later = files_from s.table s.kinds (count + 1) (map Some n.rest) in
    record {
      first = concat n.earlier ++ w.first;
      rest = w.rest ++ concat later;
      is = ap concat n.are ∙ concat-append n.earlier (items ∷ later) ∙ ap (λ (t : List Item). concat n.earlier ++ (t ++ concat later)) w.is
          ∙ ap (λ (t : List Item). concat n.earlier ++ t) (append_assoc w.first w.rest (concat later)) ∙ sym (append_assoc (concat n.earlier) w.first (w.rest ++ concat later));
      clean = clean-append body (concat n.earlier) w.first n.wrote.clean ∙ w.clean;
      written = record {
        count = length (lines body (concat n.earlier)) + w.written.count;
        is = w.written.is ∙ ap Some (append_assoc before _ _ ∙ ap (λ (t : List ℕ). before ++ t)
            (sym (ap (take (length (lines body (concat n.earlier)) + w.written.count)) (lines-append body (concat n.earlier) w.first)
            ∙ take-append-add (lines body (concat n.earlier)) (lines body w.first) w.written.count)));
      };
    }

pub files_all : (body : Logical) (s : Scanned) (contents : List (List ℕ)) (before : List ℕ) (count : ℕ) (now : Option (List ℕ)) → WritingFiles body s contents before count [] now
    → WroteAll body (concat (items_of_all s contents)) before now
files_all body s contents before count now w = by w.rest w.tell w.are where
  by : (rest : List (List ℕ)) → Tell [] rest → items_of_all s contents ≡ w.earlier ++ files_from s.table s.kinds count (map Some rest) → WroteAll body (concat (items_of_all s contents)) before now
  by [] t are = let all : w.earlier ≡ items_of_all s contents = sym (append-nil w.earlier) ∙ sym are in subst (λ fs. WroteAll body (concat fs) before now) all w.wrote
  by (b ∷ bs) t are = cc

-- nothing was written
pub part_none : (body : Logical) (items : List Item) (before : List ℕ) (now : Option (List ℕ)) → now ≡ Some before → WrotePart body items before now
part_none body items before now e = record { first = []; rest = items; is = refl; clean = clean-nil body; written = record { count = 0; is = e ∙ ap Some (sym (append-nil before)) } }

pub none_left : {A : Type 0} (xs : List A) → length xs ≡ 0 → xs ≡ []
none_left [] e = refl
none_left (x ∷ xs) e = absurd (omega arith)
