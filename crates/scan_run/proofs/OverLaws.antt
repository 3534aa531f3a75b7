-- What a chain gives over several items, and its faults.
use Rattle.std.specs.Prelude.{if◌then◌else◌}
use Rattle.scalar_exprs.specs.declared.expr.Expr.{Expr}
use Rattle.scalar_exprs.specs.Eval.{Outcome, eval}
use Rattle.scalar_exprs.specs.Truth.{is_true}
use Rattle.std.proofs.Common.{◌≡◌, refl, ℕ, Bool, true, false, List, [], ◌∷◌, ◌++◌, Some, None, Ok, Err, ap, sym, ◌∙◌, append_assoc, subst}
use Rattle.std.proofs.lemmas.Grind.{flat_map-append}
use Rattle.std.proofs.lemmas.List.{map-append}
use Rattle.std.proofs.lemmas.List.Elements.{Contains-append_left}
use Rattle.std.specs.List.{Contains}
use Rattle.dfx_value.specs.declared.fault.ItemFault.{ItemFault}
use Rattle.dfx_value.specs.declared.kind.Kind.{Kind}
use Rattle.logical_plan.specs.Items.{Cells, Item, rows, faults, of_rows, tested, filtered, filter_items, projected, project_items}
use Rattle.logical_plan.specs.Body.{Tables, scan, body, all_faults}
use Rattle.logical_plan.specs.declared.plan.Logical.{Logical}
use Rattle.logical_plan.specs.declared.plan.Logical.TheVariants.{Scan, Filter, Project}
use Rattle.logical_plan.proofs.BodySteps.{body-Scan, body-Filter, body-Project, all_faults-Scan, all_faults-Filter, all_faults-Project}
use Rattle.result_text.specs.AnswerText.{row_line, row_lines}
use Rattle.scan_run.specs.Chains.{Scanned, scanned, over}
use Rattle.scan_run.specs.Written.{lines}
use Rattle.scan_run.proofs.ChainSteps.{by_node, scanned-Scan, scanned-Filter, scanned-Project, scanned-Join, scanned-Aggregate, scanned-Distinct, scanned-UnionAll, over-Scan, over-Filter, over-Project, over-Join, over-Aggregate, over-Distinct, over-UnionAll}

-- ---- rows, faults and lines of two lists

pub faults-append : (xs ys : List Item) → faults (xs ++ ys) ≡ faults xs ++ faults ys
faults-append [] ys = refl
faults-append (Ok row ∷ xs) ys = faults-append xs ys
faults-append (Err f ∷ xs) ys = ap (λ (t : List ItemFault). f ∷ t) (faults-append xs ys)

pub rows-append : (xs ys : List Item) → rows (xs ++ ys) ≡ rows xs ++ rows ys
rows-append [] ys = refl
rows-append (Ok row ∷ xs) ys = ap (λ (t : List Cells). row ∷ t) (rows-append xs ys)
rows-append (Err f ∷ xs) ys = rows-append xs ys

pub row_lines-append : (xs ys : List Cells) → row_lines (xs ++ ys) ≡ row_lines xs ++ row_lines ys
row_lines-append [] ys = refl
row_lines-append (x ∷ xs) ys = ap (λ (t : List ℕ). row_line x ++ t) (row_lines-append xs ys) ∙ sym (append_assoc (row_line x) (row_lines xs) (row_lines ys))

-- ---- what a chain gives over two lists

module _ (xs ys : List Item) where
  abbrev Splits : Logical → Type 0
  Splits q = over q (xs ++ ys) ≡ over q xs ++ over q ys

  pub over-append : (q : Logical) → Splits q
  over-append = by_node Splits
      (λ table ks. over-Scan table ks (xs ++ ys) ∙ sym (ap (λ (t : List Item). t ++ over (Scan table ks) ys) (over-Scan table ks xs) ∙ ap (λ (t : List Item). xs ++ t) (over-Scan table ks ys)))
      (λ input test h. over-Filter input test (xs ++ ys) ∙ ap (filter_items test) h ∙ flat_map-append (filtered test) (over input xs) (over input ys)
      ∙ sym (ap (λ (t : List Item). t ++ over (Filter input test) ys) (over-Filter input test xs) ∙ ap (λ (t : List Item). filter_items test (over input xs) ++ t) (over-Filter input test ys)))
      (λ input items h. over-Project input items (xs ++ ys) ∙ ap (project_items items) h ∙ map-append (projected items) (over input xs) (over input ys)
      ∙ sym (ap (λ (t : List Item). t ++ over (Project input items) ys) (over-Project input items xs) ∙ ap (λ (t : List Item). project_items items (over input xs) ++ t) (over-Project input items ys)))
      (λ kind left right keys rest. none _ _ _ (over-Join kind left right keys rest (xs ++ ys)) (over-Join kind left right keys rest xs) (over-Join kind left right keys rest ys))
      (λ input keys calls. none _ _ _ (over-Aggregate input keys calls (xs ++ ys)) (over-Aggregate input keys calls xs) (over-Aggregate input keys calls ys))
      (λ input. none _ _ _ (over-Distinct input (xs ++ ys)) (over-Distinct input xs) (over-Distinct input ys))
      (λ inputs. none _ _ _ (over-UnionAll inputs (xs ++ ys)) (over-UnionAll inputs xs) (over-UnionAll inputs ys))
    where
      none : (a b c : List Item) → a ≡ [] → b ≡ [] → c ≡ [] → a ≡ b ++ c
      none a b c p q r = (cc)

abbrev Nothing : Logical → Type 0
Nothing q = over q [] ≡ []

pub over-nil : (q : Logical) → over q [] ≡ []
over-nil = by_node Nothing
    (λ table ks. over-Scan table ks [])
    (λ input test h. over-Filter input test [] ∙ ap (filter_items test) h)
    (λ input items h. over-Project input items [] ∙ ap (project_items items) h)
    (λ kind left right keys rest. over-Join kind left right keys rest [])
    (λ input keys calls. over-Aggregate input keys calls [])
    (λ input. over-Distinct input [])
    (λ inputs. over-UnionAll inputs [])

-- ---- chains

-- a fault stays itself
module _ (f : ItemFault) where
  abbrev Keeps : Logical → Type 0
  Keeps q = (s : Scanned) → scanned q ≡ Some s → over q (Err f ∷ []) ≡ Err f ∷ []

  no_chain : (q : Logical) → scanned q ≡ None → Keeps q
  no_chain q n s e = cc

  pub over-fault : (q : Logical) → Keeps q
  over-fault = by_node Keeps
      (λ table ks s e. over-Scan table ks (Err f ∷ []))
      (λ input test h s e. over-Filter input test (Err f ∷ []) ∙ ap (filter_items test) (h s (sym (scanned-Filter input test) ∙ e)))
      (λ input items h s e. over-Project input items (Err f ∷ []) ∙ ap (project_items items) (h s (sym (scanned-Project input items) ∙ e)))
      (λ kind left right keys rest. no_chain _ (scanned-Join kind left right keys rest))
      (λ input keys calls. no_chain _ (scanned-Aggregate input keys calls))
      (λ input. no_chain _ (scanned-Distinct input))
      (λ inputs. no_chain _ (scanned-UnionAll inputs))

-- the items of a body, and the faults among them, which it meets
module _ (tables : Tables) where
  record Gives (q : Logical) (s : Scanned) : Type 0 where
    items : body tables q ≡ over q (scan tables s.table)
    below : List ItemFault
    met : all_faults tables q ≡ faults (body tables q) ++ below

  abbrev IsGiven : Logical → Type 0
  IsGiven q = (s : Scanned) → scanned q ≡ Some s → Gives q s

  not_chain : (q : Logical) → scanned q ≡ None → IsGiven q
  not_chain q n s e = cc

  by_scan : (table : ℕ) (ks : List Kind) (s : Scanned) → scanned (Scan table ks) ≡ Some s → table ≡ s.table
  by_scan table ks s e = let same : Some (record { table = table; kinds = ks }) ≡ Some s = sym (scanned-Scan table ks) ∙ e in let t : record { table = table; kinds = ks } ≡ s = (cc) in ap (λ (x : Scanned). x.table) t

  given : (q : Logical) → IsGiven q
  given = by_node IsGiven
      (λ table ks s e. record {
        items = body-Scan tables table ks ∙ ap (scan tables) (by_scan table ks s e) ∙ sym (over-Scan table ks (scan tables s.table));
        below = [];
        met = all_faults-Scan tables table ks ∙ ap (λ (t : List Item). faults t ++ []) (sym (body-Scan tables table ks));
      })
      (λ input test h s e. record {
        items = body-Filter tables input test ∙ ap (filter_items test) (h s (sym (scanned-Filter input test) ∙ e)).items ∙ sym (over-Filter input test (scan tables s.table));
        below = all_faults tables input;
        met = all_faults-Filter tables input test ∙ ap (λ (t : List Item). faults t ++ all_faults tables input) (sym (body-Filter tables input test));
      })
      (λ input items h s e. record {
        items = body-Project tables input items ∙ ap (project_items items) (h s (sym (scanned-Project input items) ∙ e)).items ∙ sym (over-Project input items (scan tables s.table));
        below = all_faults tables input;
        met = all_faults-Project tables input items ∙ ap (λ (t : List Item). faults t ++ all_faults tables input) (sym (body-Project tables input items));
      })
      (λ kind left right keys rest. not_chain _ (scanned-Join kind left right keys rest))
      (λ input keys calls. not_chain _ (scanned-Aggregate input keys calls))
      (λ input. not_chain _ (scanned-Distinct input))
      (λ inputs. not_chain _ (scanned-UnionAll inputs))

  pub body_given : (q : Logical) (s : Scanned) → scanned q ≡ Some s → body tables q ≡ over q (scan tables s.table)
  body_given q s e = (given q s e).items

  pub met_among : (q : Logical) (s : Scanned) (f : ItemFault) → scanned q ≡ Some s → Contains (faults (over q (scan tables s.table))) f → Contains (all_faults tables q) f
  met_among q s f e h =
      let g = given q s e in
      subst (λ fs. Contains fs f) (sym g.met) (Contains-append_left (faults (body tables q)) g.below f (subst (λ is. Contains (faults is) f) (sym g.items) h))

-- ---- the lines and faults of what a chain gives

pub clean-append : (q : Logical) (xs ys : List Item) → faults (over q xs) ≡ [] → faults (over q (xs ++ ys)) ≡ faults (over q ys)
clean-append q xs ys none = ap faults (over-append xs ys q) ∙ faults-append (over q xs) (over q ys) ∙ ap (λ (t : List ItemFault). t ++ faults (over q ys)) none

pub lines-append : (q : Logical) (xs ys : List Item) → lines q (xs ++ ys) ≡ lines q xs ++ lines q ys
lines-append q xs ys =
    ap (λ (t : List Item). row_lines (rows t)) (over-append xs ys q) ∙ ap row_lines (rows-append (over q xs) (over q ys)) ∙ row_lines-append (rows (over q xs)) (rows (over q ys))

pub clean-nil : (q : Logical) → faults (over q []) ≡ []
clean-nil q = ap faults (over-nil q)

pub lines-nil : (q : Logical) → lines q [] ≡ []
lines-nil q = ap (λ (t : List Item). row_lines (rows t)) (over-nil q)

-- ---- faults one by one

pub faults-two : (q : Logical) (xs ys : List Item) → faults (over q (xs ++ ys)) ≡ faults (over q xs) ++ faults (over q ys)
faults-two q xs ys = ap faults (over-append xs ys q) ∙ faults-append (over q xs) (over q ys)

-- a chain gives at most one item for one
abbrev IsFew : List Item → Type 0
IsFew [] = Rattle.std.specs.Prelude.⊤
IsFew (x ∷ []) = Rattle.std.specs.Prelude.⊤
IsFew (x ∷ y ∷ more) = ⊥

module _ (x : Item) where
  abbrev GivesFew : Logical → Type 0
  GivesFew q = IsFew (over q (x ∷ []))

  none_few : (xs : List Item) → xs ≡ [] → IsFew xs
  none_few xs e = rw e tt

  tested_few : (row : Cells) (o : Outcome) → IsFew (tested row o ++ [])
  tested_few row (Ok v) = elim (is_true v) as (λ (b : Bool). IsFew ((if b then Ok row ∷ [] else []) ++ [])) [ true ↦ tt | false ↦ tt ]
  tested_few row (Err f) = tt

  filter_few : (test : Expr) (xs : List Item) → IsFew xs → IsFew (filter_items test xs)
  filter_few test [] h = tt
  filter_few test (Ok row ∷ []) h = tested_few row (eval row test)
  filter_few test (Err f ∷ []) h = tt
  filter_few test (y ∷ z ∷ more) h = absurd h

  project_few : (exprs : List Expr) (xs : List Item) → IsFew xs → IsFew (project_items exprs xs)
  project_few exprs [] h = tt
  project_few exprs (y ∷ []) h = tt
  project_few exprs (y ∷ z ∷ more) h = absurd h

  pub over-few : (q : Logical) → GivesFew q
  over-few = by_node GivesFew
      (λ table ks. rw (over-Scan table ks (x ∷ [])) tt)
      (λ input test h. rw (over-Filter input test (x ∷ [])) (filter_few test (over input (x ∷ [])) h))
      (λ input items h. rw (over-Project input items (x ∷ [])) (project_few items (over input (x ∷ [])) h))
      (λ kind left right keys rest. none_few _ (over-Join kind left right keys rest (x ∷ [])))
      (λ input keys calls. none_few _ (over-Aggregate input keys calls (x ∷ [])))
      (λ input. none_few _ (over-Distinct input (x ∷ [])))
      (λ inputs. none_few _ (over-UnionAll inputs (x ∷ [])))

-- the rows up to the one that meets the first fault
pub record Hit (q : Logical) (batch : List Cells) (f : ItemFault) : Type 0 where
  pub last : List Cells
  pub left : List Cells
  pub is : batch ≡ last ++ left
  pub met : faults (over q (of_rows last)) ≡ f ∷ []

one_fault : (xs : List Item) (f : ItemFault) (more : List ItemFault) → IsFew xs → faults xs ≡ f ∷ more → faults xs ≡ f ∷ []
one_fault [] f more h e = cc
one_fault (Ok row ∷ []) f more h e = cc
one_fault (Err g ∷ []) f more h e = (let same : g ≡ f = (cc) in ap (λ (x : ItemFault). x ∷ []) same)
one_fault (x ∷ y ∷ zs) f more h e = absurd h

pub first_hit : (q : Logical) (batch : List Cells) (f : ItemFault) (more : List ItemFault) → faults (over q (of_rows batch)) ≡ f ∷ more → Hit q batch f
first_hit q [] f more e = (let none : [] ≡ f ∷ more = sym (clean-nil q) ∙ e in cc)
first_hit q (r ∷ rs) f more e = go (faults (over q (Ok r ∷ []))) refl (λ ms h. first_hit q rs f ms h) (sym (faults-two q (Ok r ∷ []) (of_rows rs)) ∙ e) where
  go : (fs : List ItemFault) → faults (over q (Ok r ∷ [])) ≡ fs → ((ms : List ItemFault) → faults (over q (of_rows rs)) ≡ f ∷ ms → Hit q rs f)
      → faults (over q (Ok r ∷ [])) ++ faults (over q (of_rows rs)) ≡ f ∷ more → Hit q (r ∷ rs) f
  go [] here rest whole =
      let found = rest more (ap (λ (t : List ItemFault). t ++ faults (over q (of_rows rs))) (sym here) ∙ whole) in
      record { last = r ∷ found.last; left = found.left; is = ap (λ (t : List Cells). r ∷ t) found.is; met = clean-append q (Ok r ∷ []) (of_rows found.last) here ∙ found.met }
  go (g ∷ gs) here rest whole =
      let first : g ∷ (gs ++ faults (over q (of_rows rs))) ≡ f ∷ more = ap (λ (t : List ItemFault). t ++ faults (over q (of_rows rs))) (sym here) ∙ whole in
      let same : g ≡ f = (cc) in
      record { last = r ∷ []; left = rs; is = refl; met = one_fault (over q (Ok r ∷ [])) f gs (over-few (Ok r) q) (here ∙ ap (λ (x : ItemFault). x ∷ gs) same) }
