-- The rows of groups: keys, arguments and calls of a select are well-kinded, and give the kinds over which its items are bound.
use Rattle.std.specs.Prelude.{slice_get, is_some}
use Rattle.std.proofs.Common.{ℕ, zero, suc, ◌≡◌, ◌+◌, refl, sym, ap, ◌∙◌, subst, true, Option, Some, None, Ok, Err, List, [], ◌∷◌, ◌++◌, map, length, length-append, arith}
use Rattle.std.proofs.lemmas.Bool.{and_from}
use Rattle.std.proofs.lemmas.List.{append_assoc, length-map}
use Rattle.dfx_value.specs.declared.kind.Kind.{Kind}
use Rattle.dfx_value.specs.declared.kind.Kind.TheVariants as kind
use Rattle.dfx_value.specs.declared.op.AggCall.{AggCall}
use Rattle.dfx_value.specs.declared.op.AggCall.TheVariants as agg_call
use Rattle.scalar_exprs.specs.declared.expr.Expr.{Expr}
use Rattle.scalar_exprs.specs.Kinds.{agg_kind, call_kind}
use Rattle.logical_plan.specs.declared.plan.Logical.{Logical}
use Rattle.logical_plan.specs.declared.plan.Logical.TheVariants as plan
use Rattle.logical_plan.specs.Body.{kinds, kind_or_text, item_kinds, key_kinds, call_kinds}
use Rattle.logical_plan.proofs.KindSteps.{kinds-Filter, kinds-Aggregate}
use Rattle.kind_laws.specs.Kinded.{has_kind, is_truth, is_test, has_columns, calls_fit, is_well_kinded}
use Rattle.kind_laws.proofs.KindedSteps.{kinded-Filter, kinded-Aggregate}
use Rattle.sql_grammar.specs.declared.ast.FnAst.{FnAst}
use Rattle.sql_grammar.specs.declared.ast.FnAst.TheVariants as fn
use Rattle.sql_grammar.specs.declared.ast.ExprAst.{ExprAst}
use Rattle.typed_exprs.specs.declared.refusal.Why.TheVariants as why
use Rattle.typed_exprs.specs.declared.typed.Typed.{Typed}
use Rattle.typed_exprs.specs.Answer.{Answer, ◌>>=◌}
use Rattle.expr_binder.specs.Meaning.{meaning, place_of, call_of}
use Rattle.typed_exprs.specs.Scopes.{Columns}
use Rattle.typed_exprs.specs.Typed.{Kinded, settled}
use Rattle.logical_build.specs.Calls.{argument, of_column, numbered, arguments_of}
use Rattle.logical_build.specs.Groups as rows
use Rattle.sql_binder.specs.Grouped.{is_number, key, keys, settled_expr, arguments}
use Rattle.sql_binder.specs.Sources.{kinds as column_kinds}
use Rattle.binder_laws.proofs.Holding.{Holds, unless, answered, Every}
use Rattle.binder_kind_laws.proofs.Settled.{Real, HasKind, Typing, settled_kind}
use Rattle.binder_kind_laws.proofs.Meanings.{RealColumns, means}
use Rattle.binder_kind_laws.proofs.Groupings.{IsBound}
use Rattle.binder_kind_laws.proofs.CallKinds.{of_argument, call_kind_of, FitsArgument, FitsCall, fitting_kind}
use Rattle.binder_kind_laws.proofs.Joins.{Is, is_kinded, Gives, gives_both, Bodied, project_bodied, first_behind}
use Rattle.binder_kind_laws.proofs.Each.{Pairs, pairs_first, pairs_second, each_pairs}

-- ---- keys and arguments

module _ (columns : Columns) where
  -- what a key is
  abbrev pub IsKeyOf : ExprAst → Kinded → Type 0
  IsKeyOf e k = (t : Typed) × ((meaning columns e None ≡ Ok t) × (settled t ≡ k))

  -- what an argument is
  abbrev pub IsArgument : ExprAst → Expr → Type 0
  IsArgument e x = (t : Typed) × ((meaning columns e None ≡ Ok t) × ((settled t).0 ≡ x))

  key_is : (e : ExprAst) → Holds (IsKeyOf e) (key columns e)
  key_is e = unless (IsKeyOf e) (is_number e) why.Unsupported (place_of e) (meaning columns e None >>= λ t. Ok (settled t)) (go (meaning columns e None) refl)
    where
      go : (m : Answer Typed) → meaning columns e None ≡ m → Holds (IsKeyOf e) (m >>= λ t. Ok (settled t))
      go (Ok t) q = (t, (q, refl))
      go (Err r) q = tt

  pub keys_are : (es : List ExprAst) → Holds (Pairs IsKeyOf es) (keys columns es)
  keys_are es = each_pairs IsKeyOf (key columns) key_is es

  argument_is : (e : ExprAst) → Holds (IsArgument e) (settled_expr columns e)
  argument_is e = go (meaning columns e None) refl
    where
      go : (m : Answer Typed) → meaning columns e None ≡ m → Holds (IsArgument e) (m >>= λ t. Ok (settled t).0)
      go (Ok t) q = (t, (q, refl))
      go (Err r) q = tt

  pub arguments_are : (found : List (Option (FnAst × ExprAst))) → Holds (Pairs IsArgument (arguments_of found)) (arguments columns found)
  arguments_are found = each_pairs IsArgument (settled_expr columns) argument_is (arguments_of found)

  module _ (real : RealColumns columns) where
    abbrev ks : List Kind
    ks = column_kinds columns

    bound_kind : (e : ExprAst) (t : Typed) → meaning columns e None ≡ Ok t → HasKind ks (settled t).0 (settled t).1
    bound_kind e t q = settled_kind ks t (answered (Typing ks) (meaning columns e None) t (means columns real e) q)

    key_kind : (e : ExprAst) (k : Kinded) → IsKeyOf e k → HasKind ks k.0 k.1
    key_kind e k h = subst (λ (x : Kinded). HasKind ks x.0 x.1) h.1.1 (bound_kind e h.0 h.1.0)

    pub keys_bound : (es : List ExprAst) (found : List Kinded) → Pairs IsKeyOf es found → Every (IsBound columns) es
    keys_bound = pairs_first IsKeyOf (IsBound columns) (λ e k h. (h.0, h.1.0))

    reals : (found : List Kinded) → Every (λ (k : Kinded). HasKind ks k.0 k.1) found → Every Real (rows.key_kinds found)
    reals [] h = tt
    reals (k ∷ found) h = (h.0.real, reals found h.1)

    gives : (found : List Kinded) → Every (λ (k : Kinded). HasKind ks k.0 k.1) found → Gives ks (rows.exprs found) (rows.key_kinds found)
    gives [] h = (refl, refl)
    gives (k ∷ found) h =
        let more = gives found h.1 in
        (ap (λ x. kind_or_text x ∷ item_kinds ks (rows.exprs found)) h.0.kind ∙ ap (λ l. k.1 ∷ l) more.0, and_from (has_kind ks k.0) _ (is_kinded ks k.0 k.1 (h.0.kind, h.0.fits)) more.1)

    all_keys : (es : List ExprAst) (found : List Kinded) → Pairs IsKeyOf es found → Every (λ (k : Kinded). HasKind ks k.0 k.1) found
    all_keys = pairs_second IsKeyOf (λ (k : Kinded). HasKind ks k.0 k.1) key_kind

    pub keys_real : (es : List ExprAst) (found : List Kinded) → Pairs IsKeyOf es found → Every Real (rows.key_kinds found)
    keys_real es found h = reals found (all_keys es found h)

    keys_give : (es : List ExprAst) (found : List Kinded) → Pairs IsKeyOf es found → Gives ks (rows.exprs found) (rows.key_kinds found)
    keys_give es found h = gives found (all_keys es found h)

    -- the kind of an argument
    abbrev ArgumentKind : ExprAst → Kind → Type 0
    ArgumentKind e k = (t : Typed) × ((meaning columns e None ≡ Ok t) × ((settled t).1 ≡ k))

    -- the kinds of arguments
    record AreOf (es : List ExprAst) (args : List Expr) : Type 0 where
      all : List Kind
      are : Pairs ArgumentKind es all
      given : Gives ks args all

    arguments_give : (es : List ExprAst) (args : List Expr) → Pairs IsArgument es args → AreOf es args
    arguments_give [] [] h = record { all = []; are = tt; given = (refl, refl) }
    arguments_give (e ∷ es) (x ∷ args) h =
        let more = arguments_give es args h.1 in
        let t = h.0.0 in
        let k = bound_kind e t h.0.1.0 in
        let at : Is ks x (settled t).1 = subst (λ y. Is ks y (settled t).1) h.0.1.1 (k.kind, k.fits) in
        record {
          all = (settled t).1 ∷ more.all;
          are = ((t, (h.0.1.0, refl)), more.are);
          given = (ap (λ y. kind_or_text y ∷ item_kinds ks args) at.0 ∙ ap (λ l. (settled t).1 ∷ l) more.given.0, and_from (has_kind ks x) _ (is_kinded ks x (settled t).1 at) more.given.1);
        }
    arguments_give [] (x ∷ args) h = absurd h
    arguments_give (e ∷ es) [] h = absurd h

    -- ---- calls over the keys and the arguments

    abbrev Calls : List Kind → List AggCall → List Kind → Type 0
    Calls all cs js = (calls_fit all cs ≡ true) × (call_kinds all cs ≡ js)

    one_call : (all : List Kind) (c : AggCall) (k : Kind) (cs : List AggCall) (js : List Kind) → call_kind c all ≡ Some k → Calls all cs js → Calls all (c ∷ cs) (k ∷ js)
    one_call all c k cs js e h = (and_from (is_some (call_kind c all)) _ (ap is_some e) h.0, ap (λ x. kind_or_text x ∷ call_kinds all cs) e ∙ ap (λ l. k ∷ l) h.1)

    column_call : (f : FnAst) (all : List Kind) (c : ℕ) (j k : Kind) → slice_get all c ≡ Some j → agg_kind (call_of f) (Some j) ≡ Some k → call_kind (of_column f c) all ≡ Some k
    column_call fn.Sum all c j k e h = ap (agg_kind (of_column fn.Sum c)) e ∙ h
    column_call fn.Min all c j k e h = ap (agg_kind (of_column fn.Min c)) e ∙ h
    column_call fn.Max all c j k e h = ap (agg_kind (of_column fn.Max c)) e ∙ h
    column_call fn.Avg all c j k e h = ap (agg_kind (of_column fn.Avg c)) e ∙ h
    column_call fn.Count all c j k e h = ap (agg_kind (of_column fn.Count c)) e ∙ h
    column_call fn.Coalesce all c j k e h = ap (agg_kind (of_column fn.Coalesce c)) e ∙ h
    column_call fn.Abs all c j k e h = ap (agg_kind (of_column fn.Abs c)) e ∙ h
    column_call fn.Length all c j k e h = ap (agg_kind (of_column fn.Length c)) e ∙ h

    one_typed : (a : ExprAst) (t u : Typed) → meaning columns a None ≡ Ok t → meaning columns a None ≡ Ok u → t ≡ u
    one_typed a t u p q = let r : Ok t ≡ Ok u = sym p ∙ q in cc

    numbered_calls : (found : List (Option (FnAst × ExprAst))) (all front args : List Kind) (c : ℕ) → all ≡ front ++ args → c ≡ length front → Pairs ArgumentKind (arguments_of found) args → Every (FitsArgument columns) found
        → Calls all (numbered c found) (map (of_argument columns) found)
    numbered_calls [] all front args c e l p h = (refl, refl)
    numbered_calls (None ∷ more) all front args c e l p h = one_call all agg_call.CountAll kind.Int (numbered c more) (map (of_argument columns) more) refl (numbered_calls more all front args c e l p h.1)
    numbered_calls (Some (f, a) ∷ more) all front [] c e l p h = absurd p
    numbered_calls (Some (f, a) ∷ more) all front (j ∷ args) c e l p h =
        let fit = h.0 in
        let k = fit.kind in
        let same : (settled fit.typed).1 ≡ j = ap (λ (t : Typed). (settled t).1) (one_typed a fit.typed p.0.0 fit.is p.0.1.0) ∙ p.0.1.1 in
        let gives : agg_kind (call_of f) (Some j) ≡ Some k = ap (λ x. agg_kind (call_of f) (Some x)) (sym same) ∙ fit.gives in
        let at : slice_get all c ≡ Some j = ap (λ x. slice_get x c) e ∙ first_behind front args j c l in
        let n = length-append front (j ∷ []) in
        subst (λ x. Calls all (of_column f c ∷ numbered (suc c) more) (x ∷ map (of_argument columns) more)) (sym (fitting_kind columns f a fit))
        (one_call all (of_column f c) k (numbered (suc c) more) (map (of_argument columns) more) (column_call f all c j k at gives)
        (numbered_calls more all (front ++ j ∷ []) args (suc c) (e ∙ sym (append_assoc front (j ∷ []) args)) (omega arith) p.1 h.1))

    -- ---- the keys' columns

    first_give : (all front mid back : List Kind) (c n : ℕ) → all ≡ front ++ (mid ++ back) → c ≡ length front → n ≡ length mid
        → (has_columns all (rows.columns_from c n) ≡ true) × (key_kinds all (rows.columns_from c n) ≡ mid)
    first_give all front [] back c zero e l m = (refl, refl)
    first_give all front [] back c (suc n) e l m = cc
    first_give all front (k ∷ mid) back c zero e l m = cc
    first_give all front (k ∷ mid) back c (suc n) e l m =
        let at : slice_get all c ≡ Some k = ap (λ x. slice_get x c) e ∙ first_behind front (mid ++ back) k c l in
        let h = length-append front (k ∷ []) in
        let more = first_give all (front ++ k ∷ []) mid back (c + 1) n (e ∙ sym (append_assoc front (k ∷ []) (mid ++ back))) (omega arith) (omega arith) in
        (and_from (is_some (slice_get all c)) _ (ap is_some at) more.0, ap (λ x. kind_or_text x ∷ key_kinds all (rows.columns_from (c + 1) n)) at ∙ ap (λ l. k ∷ l) more.1)

    calls_of_found : (found : List ExprAst) → map (of_argument columns) (map argument found) ≡ map (call_kind_of columns) found
    calls_of_found [] = refl
    calls_of_found (e ∷ found) = ap (λ l. call_kind_of columns e ∷ l) (calls_of_found found)

    all_fit : (found : List ExprAst) → Every (FitsCall columns) found → Every (FitsArgument columns) (map argument found)
    all_fit [] h = tt
    all_fit (e ∷ found) h = (h.0, all_fit found h.1)

    -- the groups of a body of these columns, by bound keys, with calls that fit
    pub groups_bodied : (kss : List (List Kind)) (body : Logical) (es found : List ExprAst) (keys : List Kinded) (args : List Expr) → Bodied kss body ks → Pairs IsKeyOf es keys → Pairs IsArgument (arguments_of (map argument found)) args → Every (FitsCall columns) found
        → Bodied kss (rows.aggregated body keys args (numbered (length keys) (map argument found))) (rows.key_kinds keys ++ map (call_kind_of columns) found)
    groups_bodied kss body es found keys args h k a f =
        let arg = arguments_give (arguments_of (map argument found)) args a in
        let all = rows.key_kinds keys ++ arg.all in
        let inner = project_bodied kss body (rows.exprs keys ++ args) ks all h (gives_both ks (rows.exprs keys) args (rows.key_kinds keys) arg.all (keys_give es keys k) arg.given) in
        let n : length keys ≡ length (rows.key_kinds keys) = sym (length-map keys _) in
        let first = first_give all [] (rows.key_kinds keys) arg.all 0 (length keys) refl refl n in
        let calls = numbered_calls (map argument found) all (rows.key_kinds keys) arg.all (length keys) refl n arg.are (all_fit found f) in
        let input = plan.Project body (rows.exprs keys ++ args) in
        let found_calls = numbered (length keys) (map argument found) in (
          kinded-Aggregate kss input (rows.first_columns (length keys)) found_calls
              ∙ and_from (is_well_kinded kss input) _ inner.0 (and_from (has_columns (kinds input) (rows.first_columns (length keys))) _
              (ap (λ (l : List Kind). has_columns l (rows.first_columns (length keys))) inner.1 ∙ first.0) (ap (λ (l : List Kind). calls_fit l found_calls) inner.1 ∙ calls.0)),
          kinds-Aggregate input (rows.first_columns (length keys)) found_calls
              ∙ ap (λ (l : List Kind). key_kinds l (rows.first_columns (length keys)) ++ call_kinds l found_calls) inner.1
              ∙ ap (λ (l : List Kind). l ++ call_kinds all found_calls) first.1 ∙ ap (λ (l : List Kind). rows.key_kinds keys ++ l) (calls.1 ∙ calls_of_found found),
        )

-- ---- filters

pub filter_bodied : (kss : List (List Kind)) (body : Logical) (js : List Kind) (test : Expr) → Bodied kss body js → HasKind js test kind.Bool → Bodied kss (plan.Filter body test) js
filter_bodied kss body js test h t = (
  kinded-Filter kss body test ∙ and_from (is_well_kinded kss body) _ h.0 (ap (λ (l : List Kind). is_test l test) h.1 ∙ and_from (is_truth _) _ (ap is_truth t.kind) t.fits),
  kinds-Filter body test ∙ h.1,
)

-- HAVING's test is a truth, where there is one
abbrev pub KeptTruth : List Kind → Option Expr → Type 0
KeptTruth js None = Unit {0}
KeptTruth js (Some test) = HasKind js test kind.Bool

pub kept_bodied : (kss : List (List Kind)) (body : Logical) (js : List Kind) (test : Option Expr) → Bodied kss body js → KeptTruth js test → Bodied kss (rows.kept test body) js
kept_bodied kss body js None h t = h
kept_bodied kss body js (Some test) h t = filter_bodied kss body js test h t
