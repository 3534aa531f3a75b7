-- The items of a select, and its groups.
use Rattle.std.proofs.Common.{ℕ, zero, suc, ◌≡◌, ◌+◌, ◌≤◌, refl, sym, ap, ◌∙◌, subst, cond, Bool, true, false, Option, Some, None, Ok, List, [], ◌∷◌, ◌++◌, map, length, length-append, arith}
use Rattle.std.proofs.lemmas.List.{length-map}
use Rattle.std.proofs.lemmas.Bool.{lt-ltb}
use Rattle.dfx_value.specs.declared.kind.Kind.TheVariants as kind
use Rattle.scalar_exprs.specs.declared.expr.Expr.{Expr}
use Rattle.logical_plan.specs.declared.plan.Logical.{Logical}
use Rattle.logical_plan.specs.declared.plan.Logical.TheVariants as plan
use Rattle.sql_grammar.specs.declared.ast.FnAst.{FnAst}
use Rattle.sql_grammar.specs.declared.ast.FnAst.TheVariants as fn
use Rattle.sql_grammar.specs.declared.ast.ExprAst.{ExprAst}
use Rattle.sql_grammar.specs.declared.ast.ItemAst.{ItemAst}
use Rattle.typed_exprs.specs.declared.typed.Typed.{Typed}
use Rattle.typed_exprs.specs.declared.refusal.Why.TheVariants as why
use Rattle.typed_exprs.specs.Answer.{Answer, ◌>>=◌}
use Rattle.typed_exprs.specs.Scopes.{Columns}
use Rattle.typed_exprs.specs.Typed.{Kinded, settled, tested}
use Rattle.expr_binder.specs.Groups.{Groups}
use Rattle.expr_binder.specs.Meaning.{meaning, place_of}
use Rattle.join_lowering.specs.Keys.{columns as columns_of}
use Rattle.logical_build.specs.declared.outputs.Output.{Output}
use Rattle.logical_build.specs.Calls.{argument, of_column, numbered, arguments_of}
use Rattle.logical_build.specs.Groups.{columns_from, first_columns, key_kinds, aggregated, kept, exprs as key_exprs}
use Rattle.logical_build.specs.Outputs.{exprs, distinct_if}
use Rattle.sql_binder.specs.declared.selected.Selected.{Selected}
use Rattle.sql_binder.specs.declared.clauses.Clauses.{Clauses}
use Rattle.sql_binder.specs.declared.sources.Source.{Source}
use Rattle.sql_binder.specs.Items.{outputs}
use Rattle.sql_binder.specs.Grouped.{is_number, key, keys, calls, is_grouped, settled_expr, arguments, having}
use Rattle.sql_binder.specs.Orders.{item_tests}
use Rattle.sql_binder.specs.Selects.{Parts, projected, plain, over_keys, clauses, groups_body, grouped, selected}
use Rattle.physical_plan.proofs.Everywhere.{both_true}
use Rattle.planned_laws.specs.Ranges.{are_below, call_column, call_columns, expr_columns}
use Rattle.planned_laws.specs.Queries.{body_width, body_in_range}
use Rattle.planned_laws.proofs.Below.{below_append}
use Rattle.planned_laws.proofs.BodyNodes.{holds-Filter, holds-Project, holds-Aggregate, holds-Distinct, width-Filter, width-Project, width-Aggregate, width-Distinct}
use Rattle.binder_laws.proofs.Holding.{Holds, after, unless, Every, every_of, AreSo, each_holds}
use Rattle.binder_laws.proofs.Readings.{Reads, Typing, given_reads, tested_reads}
use Rattle.binder_laws.proofs.Meanings.{means}
use Rattle.binder_laws.proofs.Lowered.{exprs_append}
use Rattle.binder_laws.proofs.Found.{ItemFound, HavingFound, all_items_found, all_having_found}
use Rattle.binder_laws.proofs.Groupings.{means_over}
use Rattle.binder_laws.proofs.Outputs.{Outputs, plain_wide, group_wide, outputs_read, outputs_below, plain_items, group_items}

-- ---- selects

-- as many names and kinds as columns, all of which are in range
pub record Fits (s : Selected) : Type 0 where
  pub body : body_in_range s.body ≡ true
  pub kinds_of : body_width s.body ≡ length s.kinds
  pub names_of : length s.names ≡ length s.kinds

-- and a test for each column of the items of a select
abbrev pub FitsItems : List ItemAst → Selected → Type 0
FitsItems items s = Fits s × (length (item_tests s.columns items) ≡ length s.kinds)

abbrev pub Sourced : Source → Type 0
Sourced s = (body_in_range s.body ≡ true) × (body_width s.body ≡ length s.columns)

distinct_holds : (b : Bool) (body : Logical) → body_in_range body ≡ true → body_in_range (distinct_if b body) ≡ true
distinct_holds true body h = holds-Distinct body h
distinct_holds false body h = h

distinct_width : (b : Bool) (body : Logical) → body_width (distinct_if b body) ≡ body_width body
distinct_width true body = width-Distinct body
distinct_width false body = refl

projected_fits : (distinct : Bool) (columns : Columns) (items : List ItemAst) (os : List Output) (body : Logical) (w : ℕ) → Outputs w (length (item_tests columns items)) os → body_in_range body ≡ true → body_width body ≡ w → FitsItems items (projected distinct columns os body)
projected_fits distinct columns items os body w n h e = (
  record {
    body = distinct_holds distinct (plan.Project body (exprs os)) (holds-Project body (exprs os) (ap (λ (x : ℕ). are_below x (expr_columns (exprs os))) e ∙ outputs_below w os n.1) h);
    kinds_of = distinct_width distinct (plan.Project body (exprs os)) ∙ width-Project body (exprs os) ∙ length-map os _ ∙ sym (length-map os _);
    names_of = length-map os _ ∙ sym (length-map os _);
  },
  sym n.0 ∙ sym (length-map os _),
)

plain_fits : (distinct : Bool) (items : List ItemAst) (s : Source) → Sourced s → Holds (FitsItems items) (plain distinct items s)
plain_fits distinct items s h =
    after (Outputs (length s.columns) (length (item_tests s.columns items))) (FitsItems items) (outputs s.columns None items) (λ os. Ok (projected distinct s.columns os s.body))
    (outputs_read s.columns None (length s.columns) (plain_wide s.columns) items (plain_items s.columns items))
    (λ os n. projected_fits distinct s.columns items os s.body (length s.columns) n h.0 h.1)

-- ---- keys, arguments and calls

from_below : (k n w : ℕ) → k + n ≤ w → are_below w (columns_from k n) ≡ true
from_below k zero w h = refl
from_below k (suc n) w h = both_true _ _ (lt-ltb k w (omega arith)) (from_below (k + 1) n w (omega arith))

call_below : (f : FnAst) (k w : ℕ) → suc k ≤ w → are_below w (call_column (of_column f k)) ≡ true
call_below fn.Sum k w h = both_true _ _ (lt-ltb k w h) refl
call_below fn.Min k w h = both_true _ _ (lt-ltb k w h) refl
call_below fn.Max k w h = both_true _ _ (lt-ltb k w h) refl
call_below fn.Avg k w h = both_true _ _ (lt-ltb k w h) refl
call_below fn.Count k w h = both_true _ _ (lt-ltb k w h) refl
call_below fn.Coalesce k w h = both_true _ _ (lt-ltb k w h) refl
call_below fn.Abs k w h = both_true _ _ (lt-ltb k w h) refl
call_below fn.Length k w h = both_true _ _ (lt-ltb k w h) refl

calls_below : (found : List (Option (FnAst × ExprAst))) (k w : ℕ) → k + length (arguments_of found) ≤ w → are_below w (call_columns (numbered k found)) ≡ true
calls_below [] k w h = refl
calls_below (None ∷ more) k w h = calls_below more k w h
calls_below (Some (f, a) ∷ more) k w h = below_append w (call_column (of_column f k)) (call_columns (numbered (suc k) more)) (call_below f k w (omega arith)) (calls_below more (suc k) w (omega arith))

numbered_length : (k : ℕ) (found : List (Option (FnAst × ExprAst))) → length (numbered k found) ≡ length found
numbered_length k [] = refl
numbered_length k (None ∷ more) = ap suc (numbered_length k more)
numbered_length k (Some (f, a) ∷ more) = ap suc (numbered_length (suc k) more)

columns_length : (k n : ℕ) → length (columns_from k n) ≡ n
columns_length k zero = refl
columns_length k (suc n) = ap suc (columns_length (k + 1) n)

abbrev KeyReads : ℕ → Kinded → Type 0
KeyReads w k = Reads w k.0

keys_below : (w : ℕ) (ks : List Kinded) → Every (KeyReads w) ks → are_below w (expr_columns (key_exprs ks)) ≡ true
keys_below w [] h = refl
keys_below w (k ∷ ks) h = below_append w (columns_of k.0) (expr_columns (key_exprs ks)) h.0 (keys_below w ks h.1)

args_below : (w : ℕ) (es : List Expr) → Every (Reads w) es → are_below w (expr_columns es) ≡ true
args_below w [] h = refl
args_below w (e ∷ es) h = below_append w (columns_of e) (expr_columns es) h.0 (args_below w es h.1)

module _ (columns : Columns) where
  abbrev KeyHere : Kinded → Type 0
  KeyHere = KeyReads (length columns)

  abbrev ReadsHere : Expr → Type 0
  ReadsHere = Reads (length columns)

  abbrev TypingHere : Typed → Type 0
  TypingHere = Typing (length columns)

  key_reads : (e : ExprAst) → Holds KeyHere (key columns e)
  key_reads e =
      unless KeyHere (is_number e) why.Unsupported (place_of e) (meaning columns e None >>= λ t. Ok (settled t))
      (after TypingHere KeyHere (meaning columns e None) (λ t. Ok (settled t)) (means columns e) (λ t h. given_reads (length columns) kind.Text t h))

  keys_read : (es : List ExprAst) → Holds (AreSo KeyHere (length es)) (keys columns es)
  keys_read es = each_holds KeyHere (key columns) es (every_of (λ e. Holds KeyHere (key columns e)) key_reads es)

  argument_reads : (e : ExprAst) → Holds ReadsHere (settled_expr columns e)
  argument_reads e = after TypingHere ReadsHere (meaning columns e None) (λ t. Ok (settled t).0) (means columns e) (λ t h. given_reads (length columns) kind.Text t h)

  arguments_read : (found : List (Option (FnAst × ExprAst))) → Holds (AreSo ReadsHere (length (arguments_of found))) (arguments columns found)
  arguments_read found = each_holds ReadsHere (settled_expr columns) (arguments_of found) (every_of (λ e. Holds ReadsHere (settled_expr columns e)) argument_reads (arguments_of found))

-- ---- groups

abbrev Stands : ℕ → Logical → Type 0
Stands w body = (body_in_range body ≡ true) × (body_width body ≡ w)

aggregated_stands : (columns : Columns) (body : Logical) (ks : List Kinded) (args : List Expr) (found : List (Option (FnAst × ExprAst))) → Every (KeyReads (length columns)) ks → AreSo (Reads (length columns)) (length (arguments_of found)) args → Stands (length columns) body
    → Stands (length ks + length found) (aggregated body ks args (numbered (length ks) found))
aggregated_stands columns body ks args found k r h = (
  holds-Aggregate (plan.Project body (key_exprs ks ++ args)) (first_columns (length ks)) (numbered (length ks) found)
      (ap (λ (w : ℕ). are_below w (first_columns (length ks))) wide ∙ from_below 0 (length ks) (length ks + length args) (omega arith))
      (ap (λ (w : ℕ). are_below w (call_columns (numbered (length ks) found))) wide ∙ calls_below found (length ks) (length ks + length args) (let e = r.0 in omega arith))
      (holds-Project body (key_exprs ks ++ args)
      (ap (λ (w : ℕ). are_below w (expr_columns (key_exprs ks ++ args))) h.1 ∙ exprs_append (length columns) (key_exprs ks) args (keys_below (length columns) ks k) (args_below (length columns) args r.1)) h.0),
  width-Aggregate (plan.Project body (key_exprs ks ++ args)) (first_columns (length ks)) (numbered (length ks) found)
      ∙ ap (λ (x : ℕ). x + length (numbered (length ks) found)) (columns_length 0 (length ks)) ∙ ap (λ (x : ℕ). length ks + x) (numbered_length (length ks) found),
)
  where
    wide : body_width (plan.Project body (key_exprs ks ++ args)) ≡ length ks + length args
    wide = width-Project body (key_exprs ks ++ args) ∙ length-append (key_exprs ks) args ∙ ap (λ (x : ℕ). x + length args) (length-map ks _)

abbrev TestReads : ℕ → Option Expr → Type 0
TestReads w None = Unit {0}
TestReads w (Some e) = Reads w e

test_reads : (columns : Columns) (g : Groups) (w : ℕ) → w ≡ length g.keys + length g.calls → (test : Option ExprAst)
    → HavingFound columns g.calls test → Holds (TestReads w) (having columns (Some g) test)
test_reads columns g w q None f = tt
test_reads columns g w q (Some e) f =
    after (Reads w) (TestReads w) (meaning columns e (Some g) >>= tested (place_of e)) (λ test. Ok (Some test))
    (after (Typing w) (Reads w) (meaning columns e (Some g)) (tested (place_of e)) (subst (λ (x : ℕ). Holds (Typing x) (meaning columns e (Some g))) (sym q) (means_over columns g e f)) (tested_reads w (place_of e)))
    (λ test r. r)

kept_stands : (w : ℕ) (test : Option Expr) (body : Logical) → TestReads w test → Stands w body → Stands w (kept test body)
kept_stands w None body r h = h
kept_stands w (Some test) body r h =
    (holds-Filter body test (ap (λ (x : ℕ). are_below x (columns_of test)) h.1 ∙ r) h.0, width-Filter body test ∙ h.1)

-- the calls of the items and of HAVING are among those that were found
abbrev AllFound : Columns → Parts → List ExprAst → Type 0
AllFound columns p found = Every (ItemFound columns found) p.items × HavingFound columns found p.having

abbrev groups_of : Parts → List ExprAst → List Kinded → Groups
groups_of p found ks = record { keys = p.groups; kinds = key_kinds ks; calls = found }

module _ (p : Parts) (found : List ExprAst) (columns : Columns) (f : AllFound columns p found) where
  abbrev w : ℕ
  w = length p.groups + length found

  -- keys that read the columns, and items and a test that read the groups
  abbrev ClausesRead : Clauses → Type 0
  ClausesRead c = AreSo (KeyReads (length columns)) (length p.groups) c.keys
      × (Outputs w (length (item_tests columns p.items)) c.outputs × TestReads w c.test)

  abbrev rows : Logical → List Kinded → List Expr → Logical
  rows body ks args = aggregated body ks args (numbered (length ks) (map argument found))

  rows_stand : (body : Logical) (ks : List Kinded) (args : List Expr) → AreSo (KeyReads (length columns)) (length p.groups) ks → AreSo (Reads (length columns)) (length (arguments_of (map argument found))) args → Stands (length columns) body → Stands w (rows body ks args)
  rows_stand body ks args k m h =
      let e = k.0 in
      let l = length-map found argument in
      let n : length ks + length (map argument found) ≡ length p.groups + length found = omega arith in
      subst (λ (x : ℕ). Stands x (rows body ks args)) n (aggregated_stands columns body ks args (map argument found) k.1 m h)

  clauses_read : Holds ClausesRead (clauses p found columns)
  clauses_read =
      after (AreSo (KeyReads (length columns)) (length p.groups)) ClausesRead (keys columns p.groups) _ (keys_read columns p.groups) (λ ks k.
      after (Outputs w (length (item_tests columns p.items))) ClausesRead (outputs columns (over_keys p columns found ks) p.items) _
      (outputs_read columns (Some (groups_of p found ks)) w (group_wide columns (groups_of p found ks)) p.items (group_items columns (groups_of p found ks) p.items f.0)) (λ os n.
      after (TestReads w) ClausesRead (having columns (over_keys p columns found ks) p.having) _
      (test_reads columns (groups_of p found ks) w refl p.having f.1) (λ test t. (k, (n, t)))))

  grouped_fits : (s : Source) → s.columns ≡ columns → Sourced s
      → Holds (FitsItems p.items) (clauses p found columns >>= λ c. arguments columns (map argument found) >>= λ args.
      Ok (projected p.distinct columns c.outputs (groups_body found c.keys c.test args s.body)))
  grouped_fits s q h =
      after ClausesRead (FitsItems p.items) (clauses p found columns) _ clauses_read (λ c i.
      after (AreSo (Reads (length columns)) (length (arguments_of (map argument found)))) (FitsItems p.items) (arguments columns (map argument found)) _ (arguments_read columns (map argument found)) (λ args m.
      let stands = kept_stands w c.test (rows s.body c.keys args) i.1.1 (rows_stand s.body c.keys args i.0 m (h.0, h.1 ∙ ap (λ (cs : Columns). length cs) q)) in
      projected_fits p.distinct columns p.items c.outputs (groups_body found c.keys c.test args s.body) w i.1.0 stands.0 stands.1))

pub selected_fits : (p : Parts) (s : Source) → Sourced s → Holds (FitsItems p.items) (selected p s)
selected_fits p s h = go (is_grouped p.groups p.having (calls s.columns p.items p.having))
  where
    go : (b : Bool) → Holds (FitsItems p.items) (cond {A = Answer Selected} b (grouped p (calls s.columns p.items p.having) s) (plain p.distinct p.items s))
    go true = grouped_fits p (calls s.columns p.items p.having) s.columns (all_items_found s.columns p.items p.having, all_having_found s.columns p.items p.having) s refl h
    go false = plain_fits p.distinct p.items s h
