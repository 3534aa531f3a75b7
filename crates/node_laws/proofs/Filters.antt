-- Filter and Project.
use Rattle.std.proofs.Common.{ℕ, suc, ◌≡◌, ◌≢◌, ◌+◌, ◌⊎◌, inl, inr, refl, sym, ap, ◌∙◌, subst, cond, eqb, Option, Some, None, Ok, Err, Bool, true, false, ◌||◌, List, [], ◌∷◌, ◌++◌, map, length, arith, zero-add, append_assoc, length-append}
use Rattle.std.proofs.lemmas.Bool.{false≢true}
use Rattle.std.proofs.lemmas.Bool.Decides.{eqb_tells}
use Rattle.std.specs.declared.cmp.Ordering.{Ordering}
use Rattle.std.specs.declared.cmp.Ordering.TheVariants.{Less, Equal, Greater}
use Rattle.std.specs.Prelude.{option_map}
use Rattle.std.specs.Ordering.{is_eq}
use Rattle.dfx_value.specs.Checked.{◌>>=◌}
use Rattle.dfx_value.specs.Order.{value_cmp}
use Rattle.dfx_value.specs.declared.value.Value.{Value}
use Rattle.dfx_value.specs.declared.value.Value.TheVariants as value
use Rattle.dfx_value.specs.Rows.{cell}
use Rattle.scalar_exprs.specs.declared.expr.Expr.{Expr}
use Rattle.scalar_exprs.specs.declared.expr.Expr.TheOpen.{Expr-F}
use Rattle.scalar_exprs.specs.declared.expr.Expr.TheViews.{roll-Expr}
use Rattle.scalar_exprs.specs.declared.expr.Expr.TheFolds.{map-Expr, ind-Expr, fold-roll-Expr}
use Rattle.dfx_value.specs.declared.op.Op.{Op}
use Rattle.dfx_value.specs.declared.op.Op.TheVariants as op
use Rattle.scalar_exprs.specs.Eval.{Outcome, eval, outcome}
use Rattle.scalar_exprs.specs.Functions.{operated, order_of}
use Rattle.scalar_exprs.specs.Truth.{is_null, truth, is_true, from_truth, and_3}
use Rattle.plan_props.specs.Meets.{Row, Hashing, Equals, PairsHold, Agree, Meets, NotBefore}
use Rattle.plan_props.proofs.Cells.{same_itself, same_back, same_on}
use Rattle.physical_plan.specs.declared.facts.Fact.{Fact}
use Rattle.physical_plan.specs.Facts.{fact, fact_of, equals_at, is_null_at}
use Rattle.physical_plan.specs.declared.properties.Declared.{Declared}
use Rattle.physical_plan.specs.Properties.{place_from, place_in, is_column, item_columns, literals_from, filtered, projected}
use Rattle.node_laws.specs.NodeRows.{is_yes, kept, values, value_before, by_row}
use Rattle.node_laws.proofs.Meetings.{Carries, meets_by_row, agree-append, pairs-append, renamed_carries}

-- ---- what a true test says

eq_is : (o : Ordering) → is_eq o ≡ true → o ≡ Equal
eq_is Less h = absurd (false≢true h)
eq_is Equal h = refl
eq_is Greater h = absurd (false≢true h)

abbrev equal : Value → Value → Value
equal a b = from_truth (option_map is_eq (order_of a b))

-- two values that are equal in truth
yes_equal : (a b : Value) → is_true (equal a b) ≡ true → Equals a b × (is_null a ≡ false)
yes_equal a b h = go (is_null a) refl (is_null b) h
  where
    go : (x : Bool) → is_null a ≡ x → (y : Bool) → is_true (from_truth (option_map is_eq (cond {A = Option Ordering} (x || y) None (Some (value_cmp a b))))) ≡ true → Equals a b × (is_null a ≡ false)
    go true e y h = cc
    go false e true h = cc
    go false e false h = (eq_is (value_cmp a b) (true_is (is_eq (value_cmp a b)) h), e)
      where
        true_is : (t : Bool) → is_true (value.Bool t) ≡ true → t ≡ true
        true_is true h = refl
        true_is false h = cc

yes_null : (v : Value) → is_true (value.Bool (is_null v)) ≡ true → v ≡ value.Null
yes_null value.Null h = refl
yes_null (value.Bool b) h = cc
yes_null (value.Int b) h = cc
yes_null (value.Dec b) h = cc
yes_null (value.Text b) h = cc

-- what a fact promises of two rows, with an expression's outcomes for them
pub record Promises (r s : Row) (f : Fact) (o q : Outcome) : Type 0 where
  pub at_column : (k : ℕ) → f.column ≡ Some k → o ≡ Ok (cell r k)
  pub at_other : (k : ℕ) → f.column ≡ Some k → q ≡ Ok (cell s k)
  pub at_literal : f.literal ≡ true → o ≡ q
  pub pairs : is_yes o ≡ true → PairsHold f.same r
  pub agrees : is_yes o ≡ true → is_yes q ≡ true → Agree f.constants r s

promises_nothing : (r s : Row) (o q : Outcome) → Promises r s Rattle.physical_plan.specs.Facts.nothing o q
promises_nothing r s o q = record { at_column = λ k e. cc; at_other = λ k e. cc; at_literal = λ e. absurd (false≢true e); pairs = λ e. tt; agrees = λ e h. tt }

-- both operands' values
both_values : (a b : Outcome) (f : Value → Value → Outcome) → is_yes (a >>= λ v. b >>= λ w. f v w) ≡ true → (v : Value) × (w : Value) × (a ≡ Ok v) × (b ≡ Ok w) × (is_yes (f v w) ≡ true)
both_values (Ok v) (Ok w) f h = (v, w, refl, refl, h)
both_values (Ok v) (Err e) f h = absurd (false≢true h)
both_values (Err e) b f h = absurd (false≢true h)

module _ (r s : Row) where
  pair_one : (k m : ℕ) (a b : Outcome) → a ≡ Ok (cell r k) → b ≡ Ok (cell r m) → is_yes (a >>= λ v. b >>= λ w. operated op.Eq v w) ≡ true → PairsHold ((k, m) ∷ []) r
  pair_one k m a b x y h =
      let e = yes_equal (cell r k) (cell r m) (ap (λ (o : Outcome). is_yes (o >>= λ v. Ok (cell r m) >>= λ w. operated op.Eq v w)) (sym x) ∙ ap (λ (o : Outcome). is_yes (a >>= λ v. o >>= λ w. operated op.Eq v w)) (sym y) ∙ h) in
      (e, tt)

  -- a column beside one value in both rows
  one_left : (k : ℕ) (a b a2 b2 : Outcome) → a ≡ Ok (cell r k) → a2 ≡ Ok (cell s k) → b ≡ b2 → is_yes (a >>= λ v. b >>= λ w. operated op.Eq v w) ≡ true → is_yes (a2 >>= λ v. b2 >>= λ w. operated op.Eq v w) ≡ true → Equals (cell r k) (cell s k)
  one_left k a b a2 b2 x x2 l h i =
      let p = both_values a b (operated op.Eq) h in
      let q = both_values a2 b2 (operated op.Eq) i in
      let u = yes_equal p.0 p.1 p.4 in
      let t = yes_equal q.0 q.1 q.4 in
      let same : p.1 ≡ q.1 = cc in
      let first : p.0 ≡ cell r k = cc in
      let second : q.0 ≡ cell s k = cc in
      same_on (cell r k) q.1 (cell s k) (subst (λ (z : Value). Equals z q.1) first (subst (λ (z : Value). Equals p.0 z) same u.0)) (same_back (cell s k) q.1 (subst (λ (z : Value). Equals z q.1) second t.0))

  one_right : (k : ℕ) (a b a2 b2 : Outcome) → b ≡ Ok (cell r k) → b2 ≡ Ok (cell s k) → a ≡ a2 → is_yes (a >>= λ v. b >>= λ w. operated op.Eq v w) ≡ true → is_yes (a2 >>= λ v. b2 >>= λ w. operated op.Eq v w) ≡ true → Equals (cell r k) (cell s k)
  one_right k a b a2 b2 x x2 l h i =
      let p = both_values a b (operated op.Eq) h in
      let q = both_values a2 b2 (operated op.Eq) i in
      let u = yes_equal p.0 p.1 p.4 in
      let t = yes_equal q.0 q.1 q.4 in
      let same : p.0 ≡ q.0 = cc in
      let first : p.1 ≡ cell r k = cc in
      let second : q.1 ≡ cell s k = cc in
      same_on (cell r k) q.0 (cell s k) (same_back q.0 (cell r k) (subst (λ (z : Value). Equals q.0 z) first (subst (λ (z : Value). Equals z p.1) same u.0))) (subst (λ (z : Value). Equals q.0 z) second t.0)

  equals_promise : (fa fb : Fact) (a b a2 b2 : Outcome) → Promises r s fa a a2 → Promises r s fb b b2 → Promises r s (equals_at fa.column fa.literal fb.column fb.literal) (a >>= λ v. b >>= λ w. operated op.Eq v w) (a2 >>= λ v. b2 >>= λ w. operated op.Eq v w)
  equals_promise fa fb a b a2 b2 x y = go fa.column refl fa.literal refl fb.column refl fb.literal refl
    where
      go : (c : Option ℕ) → fa.column ≡ c → (l : Bool) → fa.literal ≡ l → (d : Option ℕ) → fb.column ≡ d → (m : Bool) → fb.literal ≡ m → Promises r s (equals_at c l d m) (a >>= λ v. b >>= λ w. operated op.Eq v w) (a2 >>= λ v. b2 >>= λ w. operated op.Eq v w)
      go (Some k) e l f (Some m) g n i = record { at_column = λ k e. cc; at_other = λ k e. cc; at_literal = λ e. absurd (false≢true e); pairs = λ h. pair_one k m a b (x.at_column k e) (y.at_column m g) h; agrees = λ h i. tt }
      go (Some k) e l f None g true i = record { at_column = λ k e. cc; at_other = λ k e. cc; at_literal = λ e. absurd (false≢true e); pairs = λ h. tt; agrees = λ h j. (one_left k a b a2 b2 (x.at_column k e) (x.at_other k e) (y.at_literal i) h j, tt) }
      go None e true f (Some m) g n i = record { at_column = λ k e. cc; at_other = λ k e. cc; at_literal = λ e. absurd (false≢true e); pairs = λ h. tt; agrees = λ h j. (one_right m a b a2 b2 (y.at_column m g) (y.at_other m g) (x.at_literal f) h j, tt) }
      go (Some k) e l f None g false i = promises_nothing r s _ _
      go None e true f None g n i = promises_nothing r s _ _
      go None e false f d g n i = promises_nothing r s _ _

  and_truth : (p q : Option Bool) → is_true (from_truth (and_3 p q)) ≡ true → (p ≡ Some true) × (q ≡ Some true)
  and_truth (Some true) (Some true) h = (refl, refl)
  and_truth (Some true) (Some false) h = cc
  and_truth (Some true) None h = cc
  and_truth (Some false) q h = cc
  and_truth None (Some false) h = cc
  and_truth None (Some true) h = cc
  and_truth None None h = cc

  truth_yes : (v : Value) → truth v ≡ Some true → is_true v ≡ true
  truth_yes (value.Bool true) h = refl
  truth_yes (value.Bool false) h = cc
  truth_yes value.Null h = cc
  truth_yes (value.Int n) h = cc
  truth_yes (value.Dec n) h = cc
  truth_yes (value.Text n) h = cc

  and_yes : (a b : Outcome) → is_yes (a >>= λ v. b >>= λ w. operated op.And v w) ≡ true → (is_yes a ≡ true) × (is_yes b ≡ true)
  and_yes a b h = let p = both_values a b (operated op.And) h in let t = and_truth (truth p.0) (truth p.1) p.4 in (ap is_yes p.2 ∙ truth_yes p.0 t.0, ap is_yes p.3 ∙ truth_yes p.1 t.1)

  and_promise : (fa fb : Fact) (a b a2 b2 : Outcome) → Promises r s fa a a2 → Promises r s fb b b2 → Promises r s (Rattle.physical_plan.specs.Facts.says (fa.same ++ fb.same) (fa.constants ++ fb.constants)) (a >>= λ v. b >>= λ w. operated op.And v w) (a2 >>= λ v. b2 >>= λ w. operated op.And v w)
  and_promise fa fb a b a2 b2 x y = record {
    at_column = λ k e. cc;
    at_other = λ k e. cc;
    at_literal = λ e. absurd (false≢true e);
    pairs = λ h. (let p = and_yes a b h in pairs-append fa.same fb.same r (x.pairs p.0) (y.pairs p.1));
    agrees = λ h i. (let p = and_yes a b h in let q = and_yes a2 b2 i in agree-append fa.constants fb.constants r s (x.agrees p.0 q.0) (y.agrees p.1 q.1));
  }

  null_promise : (fa : Fact) (a a2 : Outcome) → Promises r s fa a a2 → Promises r s (is_null_at fa.column) (a >>= λ v. Ok (value.Bool (is_null v))) (a2 >>= λ v. Ok (value.Bool (is_null v)))
  null_promise fa a a2 x = go fa.column refl
    where
      null_of : (k : ℕ) (t : Row) (o : Outcome) → o ≡ Ok (cell t k) → is_yes (o >>= λ v. Ok (value.Bool (is_null v))) ≡ true → cell t k ≡ value.Null
      null_of k t o e h = yes_null (cell t k) (ap (λ (z : Outcome). is_yes (z >>= λ v. Ok (value.Bool (is_null v)))) (sym e) ∙ h)

      go : (c : Option ℕ) → fa.column ≡ c → Promises r s (is_null_at c) (a >>= λ v. Ok (value.Bool (is_null v))) (a2 >>= λ v. Ok (value.Bool (is_null v)))
      go None e = promises_nothing r s _ _
      go (Some k) e = record { at_column = λ k e. cc; at_other = λ k e. cc; at_literal = λ e. absurd (false≢true e); pairs = λ h. tt; agrees = λ h i. (subst (λ (z : Value). Equals z (cell s k)) (sym (null_of k r a (x.at_column k e) h)) (subst (λ (z : Value). Equals value.Null z) (sym (null_of k s a2 (x.at_other k e) i)) (same_itself value.Null)), tt) }

  abbrev Meant : Expr → Type 0
  Meant e = Promises r s (fact_of e) (eval r e) (eval s e)

  abbrev Part : Type 0
  Part = (e : Expr) × Meant e

  level : (z : Expr-F Expr) → Promises r s (fact (map-Expr Expr Fact fact_of z)) (outcome r (map-Expr Expr Outcome (eval r) z)) (outcome s (map-Expr Expr Outcome (eval s) z)) → Meant (roll-Expr z)
  unfolding fact_of eval
  level z h =
      subst (λ (o : Outcome). Promises r s (fact_of (roll-Expr z)) (eval r (roll-Expr z)) o) (sym (fold-roll-Expr Outcome (outcome s) z))
      (subst (λ (o : Outcome). Promises r s (fact_of (roll-Expr z)) o (outcome s (map-Expr Expr Outcome (eval s) z))) (sym (fold-roll-Expr Outcome (outcome r) z))
      (subst (λ (f : Fact). Promises r s f (outcome r (map-Expr Expr Outcome (eval r) z)) (outcome s (map-Expr Expr Outcome (eval s) z))) (sym (fold-roll-Expr Fact fact z)) h))

  binary : (o : Op) (p q : Part) → Meant (roll-Expr (Expr-F.Binary o p.0 q.0))
  binary op.Eq p q = level (Expr-F.Binary op.Eq p.0 q.0) (equals_promise (fact_of p.0) (fact_of q.0) (eval r p.0) (eval r q.0) (eval s p.0) (eval s q.0) p.1 q.1)
  binary op.And p q = level (Expr-F.Binary op.And p.0 q.0) (and_promise (fact_of p.0) (fact_of q.0) (eval r p.0) (eval r q.0) (eval s p.0) (eval s q.0) p.1 q.1)
  binary o p q = level (Expr-F.Binary o p.0 q.0) (promises_nothing r s _ _)

  step : (y : Expr-F Part) → Meant (roll-Expr (map-Expr Part Expr (λ p. p.0) y))
  step (Expr-F.Column k) = level (Expr-F.Column k) (record { at_column = λ m e. (let q : k ≡ m = cc in ap (λ (z : ℕ). Ok (cell r z)) q); at_other = λ m e. (let q : k ≡ m = cc in ap (λ (z : ℕ). Ok (cell s z)) q); at_literal = λ e. absurd (false≢true e); pairs = λ e. tt; agrees = λ e h. tt })
  step (Expr-F.Const v k) = level (Expr-F.Const v k) (record { at_column = λ m e. cc; at_other = λ m e. cc; at_literal = λ e. refl; pairs = λ e. tt; agrees = λ e h. tt })
  step (Expr-F.IsNull p) = level (Expr-F.IsNull p.0) (null_promise (fact_of p.0) (eval r p.0) (eval s p.0) p.1)
  step (Expr-F.Binary o p q) = binary o p q
  step (Expr-F.Not p) = level (Expr-F.Not p.0) (promises_nothing r s _ _)
  step (Expr-F.Neg p) = level (Expr-F.Neg p.0) (promises_nothing r s _ _)
  step (Expr-F.Case arms p) = level (Expr-F.Case (map (λ (arm : Part × Part). (arm.0.0, arm.1.0)) arms) p.0) (promises_nothing r s _ _)
  step (Expr-F.Coalesce parts) = level (Expr-F.Coalesce (map (λ (p : Part). p.0) parts)) (promises_nothing r s _ _)
  step (Expr-F.Cast p to) = level (Expr-F.Cast p.0 to) (promises_nothing r s _ _)
  step (Expr-F.Abs p) = level (Expr-F.Abs p.0) (promises_nothing r s _ _)
  step (Expr-F.Length p) = level (Expr-F.Length p.0) (promises_nothing r s _ _)

  pub means : (e : Expr) → Meant e
  means = ind-Expr Meant (λ x y is. subst (λ z. Meant (roll-Expr z)) is (step y))

pub filter_carries : (h : Hashing) (test : Expr) (d : Declared) → Carries h (kept test) d.props (filtered test d).props
filter_carries h test d = record {
  count = refl;
  hashed = λ r s j e x. subst (λ (t : Row). Rattle.plan_props.specs.Meets.Hashed h d.props.partitioning j t) (is r s e) x;
  ordered = λ r s r2 s2 e e2 n. subst (λ (t : Row). NotBefore d.props.ordering t s2) (is r s e) (subst (λ (t : Row). NotBefore d.props.ordering r t) (is r2 s2 e2) n);
  same = λ r s e x. subst (PairsHold (d.props.same ++ (fact_of test).same)) (is r s e) (pairs-append d.props.same (fact_of test).same r x ((means r r test).pairs (passed r s e)));
  constant = λ r s r2 s2 e e2 x. subst (λ (t : Row). Agree (d.props.constants ++ (fact_of test).constants) t s2) (is r s e) (subst (λ (t : Row). Agree (d.props.constants ++ (fact_of test).constants) r t) (is r2 s2 e2) (agree-append d.props.constants (fact_of test).constants r r2 x ((means r r2 test).agrees (passed r s e) (passed r2 s2 e2))));
}
  where
    is : (r s : Row) → kept test r ≡ Some s → r ≡ s
    is r s e = go (is_yes (eval r test)) e
      where
        go : (b : Bool) → cond {A = Option Row} b (Some r) None ≡ Some s → r ≡ s
        go true e = cc
        go false e = cc

    passed : (r s : Row) → kept test r ≡ Some s → is_yes (eval r test) ≡ true
    passed r s e = go (is_yes (eval r test)) e
      where
        go : (b : Bool) → cond {A = Option Row} b (Some r) None ≡ Some s → b ≡ true
        go true e = refl
        go false e = cc

pub filter_meets : (h : Hashing) (test : Expr) (d : Declared) (parts : List (List Row)) → Meets h d.props parts → Meets h (filtered test d).props (by_row (kept test) parts)
filter_meets h test d parts m = meets_by_row h (kept test) d.props (filtered test d).props parts (filter_carries h test d) m

-- ---- projections

value_at : (o : Outcome) (q : Option Row) (s : Row) → value_before o q ≡ Some s → (v : Value) × (vs : Row) × (o ≡ Ok v) × (q ≡ Some vs) × (s ≡ v ∷ vs)
value_at (Ok v) (Some vs) s e = (v, vs, refl, refl, cc)
value_at (Ok v) None s e = cc
value_at (Err f) q s e = cc

-- the value at the place of a column is the column's
placed : (es : List Expr) (r s : Row) (at c d : ℕ) → values es r ≡ Some s → place_from at (item_columns es) c ≡ Some d → (k : ℕ) × (d ≡ at + k) × (cell s k ≡ cell r c)
placed [] r s at c d e p = cc
placed (x ∷ es) r s at c d e p = go (λ vs q m. placed es r vs (at + 1) c d q m) (value_at (eval r x) (values es r) s e) (fact_of x).column refl p
  where
    later : (v : Value) (vs : Row) → s ≡ v ∷ vs → (k : ℕ) × (d ≡ at + 1 + k) × (cell vs k ≡ cell r c) → (k : ℕ) × (d ≡ at + k) × (cell s k ≡ cell r c)
    later v vs e w = (suc w.0, (let q = w.1 in omega arith), ap (λ (t : Row). cell t (suc w.0)) e ∙ w.2)

    here : (k : ℕ) (v : Value) (vs : Row) → (fact_of x).column ≡ Some k → eval r x ≡ Ok v → s ≡ v ∷ vs → k ≡ c → at ≡ d → (m : ℕ) × (d ≡ at + m) × (cell s m ≡ cell r c)
    here k v vs q o e same i = (0, omega arith, ap (λ (t : Row). cell t 0) e ∙ (let a = (means r r x).at_column k q in let b : v ≡ cell r k = cc in b) ∙ ap (λ (m : ℕ). cell r m) same)

    go : ((vs : Row) → values es r ≡ Some vs → place_from (at + 1) (item_columns es) c ≡ Some d → (k : ℕ) × (d ≡ at + 1 + k) × (cell vs k ≡ cell r c)) → (v : Value) × (vs : Row) × (eval r x ≡ Ok v) × (values es r ≡ Some vs) × (s ≡ v ∷ vs) → (o : Option ℕ) → (fact_of x).column ≡ o → cond {A = Option ℕ} (is_column o c) (Some at) (place_from (at + 1) (item_columns es) c) ≡ Some d → (k : ℕ) × (d ≡ at + k) × (cell s k ≡ cell r c)
    go more w None q p = later w.0 w.1 w.4 (more w.1 w.3 p)
    go more w (Some k) q p = split (eqb_tells k c) p
      where
        split : ((eqb k c ≡ true) × (k ≡ c)) ⊎ ((eqb k c ≡ false) × (k ≢ c)) → cond {A = Option ℕ} (eqb k c) (Some at) (place_from (at + 1) (item_columns es) c) ≡ Some d → (m : ℕ) × (d ≡ at + m) × (cell s m ≡ cell r c)
        split (inl y) p = let i : Some at ≡ Some d = ap (λ (b : Bool). cond {A = Option ℕ} b (Some at) (place_from (at + 1) (item_columns es) c)) (sym y.0) ∙ p in here k w.0 w.1 q w.2 w.4 y.1 cc
        split (inr y) p = later w.0 w.1 w.4 (more w.1 w.3 (ap (λ (b : Bool). cond {A = Option ℕ} b (Some at) (place_from (at + 1) (item_columns es) c)) (sym y.0) ∙ p))

cell_at : (front : Row) (v : Value) (vs : Row) → cell (front ++ v ∷ vs) (length front) ≡ v
cell_at [] v vs = refl
cell_at (x ∷ front) v vs = cell_at front v vs

literal_agree : (es : List Expr) (r s r2 s2 front front2 : Row) (at : ℕ) → length front ≡ at → length front2 ≡ at → values es r ≡ Some s → values es r2 ≡ Some s2 → Agree (literals_from at es) (front ++ s) (front2 ++ s2)
literal_agree [] r s r2 s2 front front2 at l m e f = tt
literal_agree (x ∷ es) r s r2 s2 front front2 at l m e f = go (λ vs ws v w q i. literal_agree es r vs r2 ws (front ++ v ∷ []) (front2 ++ w ∷ []) (at + 1) (pushed front v l) (pushed front2 w m) q i) (value_at (eval r x) (values es r) s e) (value_at (eval r2 x) (values es r2) s2 f) (fact_of x).literal refl
  where
    pushed : (xs : Row) (v : Value) → length xs ≡ at → length (xs ++ v ∷ []) ≡ at + 1
    pushed xs v l = simp length-append (omega arith)

    Both : Row → Row → Type 0
    Both a b = Agree (literals_from (at + 1) es) a b

    go : ((vs ws : Row) (v w : Value) → values es r ≡ Some vs → values es r2 ≡ Some ws → Agree (literals_from (at + 1) es) ((front ++ v ∷ []) ++ vs) ((front2 ++ w ∷ []) ++ ws)) → (v : Value) × (vs : Row) × (eval r x ≡ Ok v) × (values es r ≡ Some vs) × (s ≡ v ∷ vs) → (w : Value) × (ws : Row) × (eval r2 x ≡ Ok w) × (values es r2 ≡ Some ws) × (s2 ≡ w ∷ ws) → (b : Bool) → (fact_of x).literal ≡ b → Agree (cond {A = List ℕ} b (at ∷ literals_from (at + 1) es) (literals_from (at + 1) es)) (front ++ s) (front2 ++ s2)
    go more p q b lit = pick b lit
      where
        rest : Agree (literals_from (at + 1) es) (front ++ s) (front2 ++ s2)
        rest =
            let a = more p.1 q.1 p.0 q.0 p.3 q.3 in
            subst (λ (t : Row). Agree (literals_from (at + 1) es) t (front2 ++ s2)) (append_assoc front (p.0 ∷ []) p.1 ∙ ap (λ (t : Row). front ++ t) (sym p.4))
            (subst (λ (t : Row). Agree (literals_from (at + 1) es) ((front ++ p.0 ∷ []) ++ p.1) t) (append_assoc front2 (q.0 ∷ []) q.1 ∙ ap (λ (t : Row). front2 ++ t) (sym q.4)) a)

        pick : (b : Bool) → (fact_of x).literal ≡ b → Agree (cond {A = List ℕ} b (at ∷ literals_from (at + 1) es) (literals_from (at + 1) es)) (front ++ s) (front2 ++ s2)
        pick false lit = rest
        pick true lit = (
          (let o = (means r r2 x).at_literal lit in
              let same : p.0 ≡ q.0 = cc in
              subst (λ (v : Value). Equals v (cell (front2 ++ s2) at)) (sym (ap (λ (t : Row). cell (front ++ t) at) p.4 ∙ ap (λ (k : ℕ). cell (front ++ p.0 ∷ p.1) k) (sym l) ∙ cell_at front p.0 p.1))
              (subst (λ (v : Value). Equals p.0 v) (sym (ap (λ (t : Row). cell (front2 ++ t) at) q.4 ∙ ap (λ (k : ℕ). cell (front2 ++ q.0 ∷ q.1) k) (sym m) ∙ cell_at front2 q.0 q.1)) (subst (λ (v : Value). Equals p.0 v) same (same_itself p.0)))),
          rest,
        )

pub project_meets : (h : Hashing) (es : List Expr) (d : Declared) (parts : List (List Row)) → Meets h d.props parts → Meets h (projected es d).props (by_row (values es) parts)
project_meets h es d parts m =
    meets_by_row h (values es) d.props (projected es d).props parts
    (renamed_carries h (values es) (place_in (item_columns es)) d.props (literals_from 0 es)
    (λ r s e c k q. (let w = placed es r s 0 c k e q in ap (λ (m : ℕ). cell s m) (w.1 ∙ zero-add w.0) ∙ w.2))
    (λ r s r2 s2 e e2. literal_agree es r s r2 s2 [] [] 0 refl refl e e2))
    m
