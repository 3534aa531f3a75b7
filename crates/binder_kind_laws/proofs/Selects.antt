-- A select over a well-kinded body gives a well-kinded one, of the kinds that are told with it.
use Rattle.std.specs.Prelude.{nat_lt}
use Rattle.std.proofs.Common.{ℕ, ◌≡◌, ◌<◌, sym, ap, ◌∙◌, cond, Bool, true, false, Option, Some, None, Ok, List, [], ◌∷◌, ◌++◌, map, length, arith}
use Rattle.std.proofs.lemmas.Bool.{and_from, lt-ltb}
use Rattle.std.proofs.lemmas.List.{length-map}
use Rattle.dfx_value.specs.declared.kind.Kind.{Kind}
use Rattle.dfx_value.specs.declared.kind.Kind.TheVariants as kind
use Rattle.scalar_exprs.specs.declared.expr.Expr.{Expr}
use Rattle.logical_plan.specs.declared.plan.Logical.{Logical}
use Rattle.logical_plan.specs.declared.plan.Logical.TheVariants as plan
use Rattle.logical_plan.proofs.KindSteps.{kinds-Distinct}
use Rattle.kind_laws.specs.Kinded.{is_well_kinded}
use Rattle.kind_laws.proofs.KindedSteps.{kinded-Distinct}
use Rattle.sql_grammar.specs.declared.ast.ExprAst.{ExprAst}
use Rattle.sql_grammar.specs.declared.ast.ItemAst.{ItemAst}
use Rattle.sql_grammar.specs.declared.ast.ItemAst.TheVariants as item
use Rattle.typed_exprs.specs.Answer.{Answer, ◌>>=◌}
use Rattle.expr_binder.specs.Calls.{Calls, calls_of, unless_found, with_call, with_calls}
use Rattle.expr_binder.specs.Groups.{Groups, Over}
use Rattle.expr_binder.specs.Meaning.{meaning, place_of}
use Rattle.expr_binder.specs.Same.{place_among}
use Rattle.typed_exprs.specs.Scopes.{Columns}
use Rattle.typed_exprs.specs.Typed.{Kinded, tested}
use Rattle.logical_build.specs.declared.outputs.Output.{Output}
use Rattle.logical_build.specs.Calls.{argument, arguments_of, numbered}
use Rattle.logical_build.specs.Groups as rows
use Rattle.logical_build.specs.Outputs as outs
use Rattle.sql_binder.specs.declared.clauses.Clauses.{Clauses}
use Rattle.sql_binder.specs.declared.selected.Selected.{Selected}
use Rattle.sql_binder.specs.declared.sources.Source.{Source}
use Rattle.sql_binder.specs.Grouped.{keys, with_item, with_items, calls, is_grouped, arguments, having}
use Rattle.sql_binder.specs.Items.{outputs}
use Rattle.sql_binder.specs.Selects.{Parts, projected, plain, clauses, groups_body, grouped, selected}
use Rattle.sql_binder.specs.Sources.{kinds as column_kinds}
use Rattle.binder_laws.proofs.Holding.{Holds, after, weaker, Every, every_append}
use Rattle.binder_laws.proofs.Found.{ItemFound, HavingFound, all_items_found, all_having_found}
use Rattle.binder_kind_laws.proofs.Settled.{Real, HasKind, Typing, tested_truth}
use Rattle.binder_kind_laws.proofs.Meanings.{RealColumns, means}
use Rattle.binder_kind_laws.proofs.Groupings.{Keyed, group_kinds, means_over}
use Rattle.binder_kind_laws.proofs.CallKinds.{call_kind_of, FitsCall}
use Rattle.binder_kind_laws.proofs.Joins.{Bodied, project_bodied}
use Rattle.binder_kind_laws.proofs.Outputs.{HasOutput, outputs_give, outputs_real, plain_wide, group_wide, ItemHas, ItemCalls, Outputs, outputs_have}
use Rattle.binder_kind_laws.proofs.Each.{Pairs, pairs_length}
use Rattle.binder_kind_laws.proofs.Grouped.{IsKeyOf, IsArgument, keys_are, arguments_are, keys_bound, keys_real, groups_bodied, KeptTruth, kept_bodied}

-- ---- what is good

-- what FROM gives: well-kinded, of its columns' kinds, of which there is one
pub record Sourced (kss : List (List Kind)) (s : Source) : Type 0 where
  pub body : Bodied kss s.body (column_kinds s.columns)
  pub real : RealColumns s.columns
  pub some : 0 < length s.columns

-- what a select gives: well-kinded, of the kinds that are told, of which there is one, with as many names
pub record Selects (kss : List (List Kind)) (s : Selected) : Type 0 where
  pub body : Bodied kss s.body s.kinds
  pub names : length s.names ≡ length s.kinds
  pub real : Every Real s.kinds
  pub some : 0 < length s.kinds

-- ---- DISTINCT

distinct_bodied : (kss : List (List Kind)) (distinct : Bool) (body : Logical) (ks : List Kind) → 0 < length ks → Bodied kss body ks → Bodied kss (outs.distinct_if distinct body) ks
distinct_bodied kss false body ks l h = h
distinct_bodied kss true body ks l h = (
  kinded-Distinct kss body ∙ and_from (is_well_kinded kss body) _ h.0 (ap (λ (x : List Kind). nat_lt 0 (length x)) h.1 ∙ lt-ltb 0 (length ks) l),
  kinds-Distinct body ∙ h.1,
)

projected_selects : (kss : List (List Kind)) (distinct : Bool) (columns : Columns) (os : List Output) (body : Logical) (ks : List Kind) → Bodied kss body ks → Every (HasOutput ks) os → 0 < length os → Selects kss (projected distinct columns os body)
projected_selects kss distinct columns os body ks h o l =
    let n : length (outs.kinds os) ≡ length os = length-map os _ in
    record {
      body = distinct_bodied kss distinct (plan.Project body (outs.exprs os)) (outs.kinds os) (omega arith) (project_bodied kss body (outs.exprs os) ks (outs.kinds os) h (outputs_give ks os o));
      names = length-map os _ ∙ sym n;
      real = outputs_real ks os o;
      some = omega arith;
    }

-- ---- without groups

abbrev Anything : ExprAst → Type 0
Anything e = Unit {0}

plain_items : (columns : Columns) (real : RealColumns columns) (items : List ItemAst) → Every (ItemHas columns None (column_kinds columns) Anything) items
plain_items columns real [] = tt
plain_items columns real (i ∷ is) = (go i, plain_items columns real is)
  where
    go : (i : ItemAst) → ItemHas columns None (column_kinds columns) Anything i
    go (item.One e name) = weaker (Typing (column_kinds columns)) (λ t. Typing (column_kinds columns) t × Anything e) (meaning columns e None) (λ t h. (h, tt)) (means columns real e)
    go (item.All place) = tt
    go (item.AllOf alias place) = tt

plain_selects : (kss : List (List Kind)) (distinct : Bool) (items : List ItemAst) (s : Source) → Sourced kss s → 0 < length items → Holds (Selects kss) (plain distinct items s)
plain_selects kss distinct items s h l =
    let ks = column_kinds s.columns in
    after (Outputs s.columns None ks Anything 0 items) (Selects kss) (outputs s.columns None items) (λ os. Ok (projected distinct s.columns os s.body))
    (outputs_have s.columns None ks Anything (plain_wide s.columns h.real) h.some items (plain_items s.columns h.real items))
    (λ os o. projected_selects kss distinct s.columns os s.body ks h.body o.each (let m = o.many in omega arith))

-- ---- all calls of a select fit

module _ (columns : Columns) where
  abbrev AllFit : Calls → Type 0
  AllFit cs = Every (FitsCall columns) cs

  abbrev CallsFit : ExprAst → Type 0
  CallsFit e = AllFit (calls_of e)

  one_more : (cs : Calls) (e : ExprAst) → AllFit cs → FitsCall columns e → AllFit (with_call columns cs e)
  one_more cs e h f = go (place_among columns e cs)
    where
      go : (o : Option ℕ) → AllFit (unless_found o e cs)
      go None = every_append (FitsCall columns) cs (e ∷ []) h (f, tt)
      go (Some k) = h

  more_fit : (es cs : Calls) → AllFit cs → AllFit es → AllFit (with_calls columns cs es)
  more_fit [] cs h f = h
  more_fit (e ∷ es) cs h f = more_fit es (with_call columns cs e) (one_more cs e h f.0) f.1

  item_fits : (cs : Calls) (i : ItemAst) → AllFit cs → ItemCalls columns None [] CallsFit i → AllFit (with_item columns cs i)
  item_fits cs (item.One e name) h f = more_fit (calls_of e) cs h f
  item_fits cs (item.All place) h f = h
  item_fits cs (item.AllOf alias place) h f = h

  items_fit : (is : List ItemAst) (cs : Calls) → AllFit cs → Every (ItemCalls columns None [] CallsFit) is → AllFit (with_items columns cs is)
  items_fit [] cs h f = h
  items_fit (i ∷ is) cs h f = items_fit is (with_item columns cs i) (item_fits cs i h f.0) f.1

  abbrev HavingFits : Option ExprAst → Type 0
  HavingFits None = Unit {0}
  HavingFits (Some e) = CallsFit e

  all_fit : (is : List ItemAst) (test : Option ExprAst) → Every (ItemCalls columns None [] CallsFit) is → HavingFits test → AllFit (calls columns is test)
  all_fit is None f h = items_fit is [] tt f
  all_fit is (Some e) f h = more_fit (calls_of e) (with_items columns [] is) (items_fit is [] tt f) h

-- ---- with groups

module _ (columns : Columns) (real : RealColumns columns) (some : 0 < length columns) (p : Parts) (found : List ExprAst) where
  abbrev groups_of : List Kinded → Groups
  groups_of ks = record { keys = p.groups; kinds = rows.key_kinds ks; calls = found }

  keyed_by : (ks : List Kinded) → Pairs (IsKeyOf columns) p.groups ks → Keyed columns (groups_of ks)
  keyed_by ks h = record { bound = keys_bound columns real p.groups ks h; even = length-map ks _ ∙ pairs_length (IsKeyOf columns) p.groups ks h; real = keys_real columns real p.groups ks h }

  abbrev kinds_by : List Kinded → List Kind
  kinds_by ks = group_kinds columns (groups_of ks)

  group_items : (g : Groups) → Keyed columns g → (items : List ItemAst) → Every (ItemFound columns g.calls) items → Every (ItemHas columns (Some g) (group_kinds columns g) (CallsFit columns)) items
  group_items g k [] f = tt
  group_items g k (i ∷ is) f = (go i f.0, group_items g k is f.1)
    where
      go : (i : ItemAst) → ItemFound columns g.calls i → ItemHas columns (Some g) (group_kinds columns g) (CallsFit columns) i
      go (item.One e name) f = means_over columns real g k e f
      go (item.All place) f = tt
      go (item.AllOf alias place) f = tt

  abbrev Kept : List Kind → Option Expr → Type 0
  Kept ks test = KeptTruth ks test × HavingFits columns p.having

  having_has : (g : Groups) → Keyed columns g → (test : Option ExprAst) → HavingFound columns g.calls test → Holds (λ t. KeptTruth (group_kinds columns g) t × HavingFits columns test) (having columns (Some g) test)
  having_has g k None f = (tt, tt)
  having_has g k (Some e) f =
      let ks = group_kinds columns g in
      after (λ x. HasKind ks x kind.Bool × CallsFit columns e) (λ t. KeptTruth ks t × CallsFit columns e) (meaning columns e (Some g) >>= tested (place_of e)) (λ test. Ok (Some test))
      (after (λ t. Typing ks t × CallsFit columns e) (λ x. HasKind ks x kind.Bool × CallsFit columns e) (meaning columns e (Some g)) (tested (place_of e)) (means_over columns real g k e f)
      (λ t h. weaker (λ x. HasKind ks x kind.Bool) (λ x. HasKind ks x kind.Bool × CallsFit columns e) (tested (place_of e) t) (λ x i. (i, h.1)) (tested_truth ks (place_of e) t h.0)))
      (λ x h. h)

  -- what the clauses of a select over groups are
  pub record IsClauses (c : Clauses) : Type 0 where
    pub keys : Pairs (IsKeyOf columns) p.groups c.keys
    pub outputs : Outputs columns (Some (groups_of c.keys)) (kinds_by c.keys) (CallsFit columns) 0 p.items c.outputs
    pub test : KeptTruth (kinds_by c.keys) c.test
    pub fits : HavingFits columns p.having

  clauses_are : Every (ItemFound columns found) p.items → HavingFound columns found p.having → Holds IsClauses (clauses p found columns)
  clauses_are f g =
      after (Pairs (IsKeyOf columns) p.groups) IsClauses (keys columns p.groups) _ (keys_are columns p.groups) (λ ks k.
      let over = Some (groups_of ks) in
      let all = kinds_by ks in
      after (Outputs columns over all (CallsFit columns) 0 p.items) IsClauses (outputs columns over p.items) _
      (outputs_have columns over all (CallsFit columns) (group_wide columns real (groups_of ks) (keyed_by ks k)) some p.items (group_items (groups_of ks) (keyed_by ks k) p.items f)) (λ os o.
      after (Kept all) IsClauses (having columns over p.having) (λ test. Ok (record { keys = ks; outputs = os; test = test })) (having_has (groups_of ks) (keyed_by ks k) p.having g)
      (λ test h. record { keys = k; outputs = o; test = h.0; fits = h.1 })))

fits_again : (columns : Columns) (over : Over) (ks : List Kind) (items : List ItemAst) → Every (ItemCalls columns over ks (CallsFit columns)) items → Every (ItemCalls columns None [] (CallsFit columns)) items
fits_again columns over ks [] h = tt
fits_again columns over ks (i ∷ is) h = (go i h.0, fits_again columns over ks is h.1)
  where
    go : (i : ItemAst) → ItemCalls columns over ks (CallsFit columns) i → ItemCalls columns None [] (CallsFit columns) i
    go (item.One e name) h = h
    go (item.All place) h = h
    go (item.AllOf alias place) h = h

grouped_selects : (kss : List (List Kind)) (p : Parts) (s : Source) → Sourced kss s → 0 < length p.items → Holds (Selects kss) (grouped p (calls s.columns p.items p.having) s)
grouped_selects kss p s h l =
    let columns = s.columns in
    let found = calls columns p.items p.having in
    after (IsClauses columns h.real h.some p found) (Selects kss) (clauses p found columns) _ (clauses_are columns h.real h.some p found (all_items_found columns p.items p.having) (all_having_found columns p.items p.having))
    (λ c i. after (Pairs (IsArgument columns) (arguments_of (map argument found))) (Selects kss) (arguments columns (map argument found)) (λ args. Ok (projected p.distinct columns c.outputs (groups_body found c.keys c.test args s.body))) (arguments_are columns (map argument found))
    (λ args a.
    let all = rows.key_kinds c.keys ++ map (call_kind_of columns) found in
    let fit = all_fit columns p.items p.having (fits_again columns (Some (groups_of columns h.real h.some p found c.keys)) all p.items i.outputs.calls) i.fits in
    let body = groups_bodied columns h.real kss s.body p.groups found c.keys args h.body i.keys a fit in
    projected_selects kss p.distinct columns c.outputs (groups_body found c.keys c.test args s.body) all
    (kept_bodied kss (rows.aggregated s.body c.keys args (numbered (length c.keys) (map argument found))) all c.test body i.test) i.outputs.each (let m = i.outputs.many in omega arith)))

pub selected_selects : (kss : List (List Kind)) (p : Parts) (s : Source) → Sourced kss s → 0 < length p.items → Holds (Selects kss) (selected p s)
selected_selects kss p s h l = go (is_grouped p.groups p.having (calls s.columns p.items p.having))
  where
    go : (b : Bool) → Holds (Selects kss) (cond {A = Answer Selected} b (grouped p (calls s.columns p.items p.having) s) (plain p.distinct p.items s))
    go true = grouped_selects kss p s h l
    go false = plain_selects kss p.distinct p.items s h l
