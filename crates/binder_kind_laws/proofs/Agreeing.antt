-- Equal expressions mean the same over columns, but for the places of refusals.
use Rattle.std.specs.Prelude.{nat_eq, not}
use Rattle.std.specs.Str.{is_utf8}
use Rattle.std.proofs.Common.{ℕ, ◌≡◌, refl, sym, ap, ◌∙◌, subst, Bool, true, false, ◌&&◌, Option, Some, None, Ok, Err, List, [], ◌∷◌, map}
use Rattle.std.proofs.lemmas.Bool.{eqb-true, and_parts, false≢true}
use Rattle.dfx_value.specs.declared.kind.Kind.{Kind}
use Rattle.dfx_value.specs.declared.kind.Kind.TheVariants as kind
use Rattle.dfx_value.specs.declared.value.Value.TheVariants as value
use Rattle.dfx_value.specs.declared.op.Op.{Op}
use Rattle.dfx_value.specs.declared.op.Op.TheVariants as op
use Rattle.scalar_exprs.specs.declared.expr.Expr.{Expr}
use Rattle.scalar_exprs.specs.declared.expr.Expr.TheVariants as expr
use Rattle.scalar_exprs.specs.Kinds.{same as same_kind, when_bool, when_number, length_kind, cast_kind}
use Rattle.kind_laws.proofs.Bodies.{same_is}
use Rattle.sql_grammar.specs.declared.ast.FnAst.{FnAst}
use Rattle.sql_grammar.specs.declared.ast.FnAst.TheVariants as fn
use Rattle.sql_grammar.specs.declared.ast.ExprAst.{ExprAst, roll-ExprAst, out-ExprAst}
use Rattle.sql_grammar.specs.declared.ast.NodeAst.{NodeAst, roll-NodeAst}
use Rattle.sql_grammar.specs.declared.ast.NodeAst.TheOpen.{NodeAst-F, ExprAst-F}
use Rattle.sql_grammar.specs.declared.ast.NodeAst.TheViews.{out-NodeAst, out-roll-ExprAst, roll-out-ExprAst, roll-out-NodeAst}
use Rattle.sql_grammar.specs.declared.ast.NodeAst.TheFolds.{map-ExprAst, map-NodeAst, ind-ExprAst, fold-roll-ExprAst, fold-roll-NodeAst, para-roll-NodeAst}
use Rattle.typed_exprs.specs.declared.case.Arm.{Arm}
use Rattle.typed_exprs.specs.declared.refusal.Why.{Why}
use Rattle.typed_exprs.specs.declared.refusal.Why.TheVariants as why
use Rattle.typed_exprs.specs.declared.typed.Typed.{Typed}
use Rattle.typed_exprs.specs.declared.typed.Typed.TheVariants as typed
use Rattle.typed_exprs.specs.declared.typed.Unary.{Unary}
use Rattle.typed_exprs.specs.declared.typed.Unary.TheVariants as operator
use Rattle.typed_exprs.specs.Answer.{Answer, ◌>>=◌, or_refuse, refuse_if}
use Rattle.typed_exprs.specs.Case.{tests, results, arm_as, chosen}
use Rattle.expr_binder.specs.Groups.{Over}
use Rattle.typed_exprs.specs.Literals.{literal}
use Rattle.expr_binder.specs.Same.{same_column, same_truth, function_rank, op_rank, Is, all_same, arms_same, same_layer, same_node, same_expr, same, same_nodes}
use Rattle.typed_exprs.specs.Scopes.{Columns, is_text, is_named, is_unknown, numbers, the_one, column_of}
use Rattle.typed_exprs.specs.Typed.{Kinded, settled, or_mismatch, of_kind, unary, given, kind_or, alone, mismatch, operator_kind, operated, binary, common, as_kind, coalesced}
use Rattle.expr_binder.specs.Meaning.{Sense, Part, meaning, of_node, of_layer, node_sense, expr_sense, node_of, place_of, number, text, senses, arm_of, all, single, applied, applied_to_one, called}
use Rattle.expr_binder.proofs.MeaningSteps.{meaning_is}
use Rattle.binder_laws.proofs.Meanings.{over_none}

-- ---- answers that agree

-- both are there and are so, or both are refused
abbrev pub AgreeBy : {A : Type 0} → (A → A → Type 0) → Answer A → Answer A → Type 0
AgreeBy R (Ok x) (Ok y) = R x y
AgreeBy R (Err r) (Err s) = Unit {0}
AgreeBy R _ _ = ⊥

abbrev pub Agree : {A : Type 0} → Answer A → Answer A → Type 0
Agree {A} a b = AgreeBy (λ (x y : A). x ≡ y) a b

by_after : {A B : Type 0} (R : A → A → Type 0) (S : B → B → Type 0) (a b : Answer A) (f g : A → Answer B) → AgreeBy R a b → ((x y : A) → R x y → AgreeBy S (f x) (g y)) → AgreeBy S (a >>= f) (b >>= g)
by_after R S (Ok x) (Ok y) f g h k = k x y h
by_after R S (Err r) (Err s) f g h k = tt
by_after R S (Ok x) (Err s) f g h k = absurd h
by_after R S (Err r) (Ok y) f g h k = absurd h

same_after : {A B : Type 0} (a b : Answer A) (f g : A → Answer B) → Agree a b → ((x : A) → Agree (f x) (g x)) → Agree (a >>= f) (b >>= g)
same_after {A} {B} a b f g h k = by_after (λ (x y : A). x ≡ y) (λ (x y : B). x ≡ y) a b f g h (λ x y q. subst (λ (z : A). Agree (f x) (g z)) q (k x))

refused_same : {A : Type 0} (why : Why) (p q : ℕ) (o : Option A) → Agree (or_refuse why p o) (or_refuse why q o)
refused_same why p q None = tt
refused_same why p q (Some x) = refl

pub agree_sym : {A : Type 0} (a b : Answer A) → Agree a b → Agree b a
agree_sym (Ok x) (Ok y) h = sym h
agree_sym (Err r) (Err s) h = tt
agree_sym (Ok x) (Err s) h = absurd h
agree_sym (Err r) (Ok y) h = absurd h

agree_trans : {A : Type 0} (a b c : Answer A) → Agree a b → Agree b c → Agree a c
agree_trans (Ok x) (Ok y) (Ok z) h i = h ∙ i
agree_trans (Err r) (Err s) (Err t) h i = tt
agree_trans (Ok x) (Err s) c h i = absurd h
agree_trans (Err r) (Ok y) c h i = absurd h
agree_trans (Ok x) (Ok y) (Err t) h i = absurd i
agree_trans (Err r) (Err s) (Ok z) h i = absurd i

pub agreed : {A : Type 0} (a b : Answer A) (x : A) → Agree a b → a ≡ Ok x → b ≡ Ok x
agreed (Ok y) (Ok z) x h e = ap (λ w. Ok w) (sym h) ∙ e
agreed (Err r) b x h e = cc
agreed (Ok y) (Err s) x h e = absurd h

agree_at : {A : Type 0} (a b c d : Answer A) → a ≡ c → b ≡ d → Agree c d → Agree a b
agree_at a b c d p q h = subst (λ x. Agree x b) (sym p) (subst (λ y. Agree c y) (sym q) h)

-- ---- operators at two places

mismatch_same : (p q : ℕ) (o : Option Kind) → Agree (or_mismatch p o) (or_mismatch q o)
mismatch_same p q o = refused_same why.KindMismatch p q o

of_kind_same : (p q : ℕ) (make : Expr → Expr) (to : Kind → Option Kind) (t : Kinded) → Agree (of_kind p make to t) (of_kind q make to t)
of_kind_same p q make to t = same_after (or_mismatch p (to t.1)) (or_mismatch q (to t.1)) (λ k. Ok (typed.Of (make t.0) k)) (λ k. Ok (typed.Of (make t.0) k)) (mismatch_same p q (to t.1)) (λ k. refl)

unary_same : (p q : ℕ) (o : Unary) (t : Typed) → Agree (unary p o t) (unary q o t)
unary_same p q operator.Not t = of_kind_same p q expr.Not when_bool (settled t)
unary_same p q operator.Neg t = of_kind_same p q expr.Neg when_number (settled t)
unary_same p q operator.IsNull t = refl
unary_same p q (operator.Cast to) t =
    same_after (or_mismatch p (cast_kind to (settled t).1)) (or_mismatch q (cast_kind to (settled t).1)) (λ k. Ok (typed.Of (expr.Cast (settled t).0 to) k)) (λ k. Ok (typed.Of (expr.Cast (settled t).0 to) k))
    (mismatch_same p q (cast_kind to (settled t).1)) (λ k. refl)

operated_same : (p q : ℕ) (o : Op) (a b : Kinded) → Agree (operated p o a b) (operated q o a b)
operated_same p q o a b =
    same_after (operator_kind p o a.1 b.1) (operator_kind q o a.1 b.1) (λ k. Ok (typed.Of (expr.Binary o a.0 b.0) k)) (λ k. Ok (typed.Of (expr.Binary o a.0 b.0) k))
    (refused_same (mismatch o a.1 b.1) p q _) (λ k. refl)

binary_same : (p q : ℕ) (o : Op) (a b : Typed) → Agree (binary p o a b) (binary q o a b)
binary_same p q o a b = operated_same p q o (given (kind_or (alone o) b) a) (given (kind_or (alone o) a) b)

coalesced_same : (p q : ℕ) (ts : List Typed) → Agree (coalesced p ts) (coalesced q ts)
coalesced_same p q [] = tt
coalesced_same p q (t ∷ ts) =
    same_after (or_mismatch p (common (t ∷ ts))) (or_mismatch q (common (t ∷ ts))) (λ k. Ok (typed.Of (expr.Coalesce (map (as_kind k) (t ∷ ts))) k)) (λ k. Ok (typed.Of (expr.Coalesce (map (as_kind k) (t ∷ ts))) k))
    (mismatch_same p q (common (t ∷ ts))) (λ k. refl)

number_same : (p q : ℕ) (t : List ℕ) → Agree (number p (literal t)) (number q (literal t))
number_same p q t = same_after (or_refuse why.Unsupported p (literal t)) (or_refuse why.Unsupported q (literal t)) (λ c. Ok (typed.Of (expr.Const c.0 c.1) c.1)) (λ c. Ok (typed.Of (expr.Const c.0 c.1) c.1)) (refused_same why.Unsupported p q (literal t)) (λ c. refl)

text_same : (p q : ℕ) (t : List ℕ) → Agree (text p t) (text q t)
text_same p q t = go (is_utf8 t) where
  of : ℕ → Bool → Answer Typed
  of place b = refuse_if (not b) why.Unsupported place (Ok (typed.Of (expr.Const (value.Text t) kind.Text) kind.Text))

  go : (b : Bool) → Agree (of p b) (of q b)
  go true = refl
  go false = tt

-- ---- CASE

-- arms that differ in their places alone
abbrev SameArms : List Arm → List Arm → Type 0
SameArms [] [] = Unit {0}
SameArms (a ∷ cs) (b ∷ bs) = ((a.test ≡ b.test) × (a.result ≡ b.result)) × SameArms cs bs
SameArms _ _ = ⊥

tests_same : (cs bs : List Arm) → SameArms cs bs → AgreeBy (λ (u v : Unit {0}). Unit {0}) (tests cs) (tests bs)
tests_same [] [] h = tt
tests_same (a ∷ cs) (b ∷ bs) h =
    by_after (λ (j k : Kind). j ≡ k) (λ (u v : Unit {0}). Unit {0}) (or_mismatch a.place (when_bool (settled a.test).1)) (or_mismatch b.place (when_bool (settled b.test).1)) (λ k. tests cs) (λ k. tests bs)
    (subst (λ (t : Typed). Agree (or_mismatch a.place (when_bool (settled a.test).1)) (or_mismatch b.place (when_bool (settled t).1))) h.0.0 (mismatch_same a.place b.place (when_bool (settled a.test).1)))
    (λ j k q. tests_same cs bs h.1)
tests_same [] (b ∷ bs) h = absurd h
tests_same (a ∷ cs) [] h = absurd h

results_same : (cs bs : List Arm) (d : Typed) → SameArms cs bs → results cs d ≡ results bs d
results_same [] [] d h = refl
results_same (a ∷ cs) (b ∷ bs) d h = ap (λ t. t ∷ results cs d) h.0.1 ∙ ap (λ ts. b.result ∷ ts) (results_same cs bs d h.1)
results_same [] (b ∷ bs) d h = absurd h
results_same (a ∷ cs) [] d h = absurd h

arms_as_same : (k : Kind) (cs bs : List Arm) → SameArms cs bs → map (arm_as k) cs ≡ map (arm_as k) bs
arms_as_same k [] [] h = refl
arms_as_same k (a ∷ cs) (b ∷ bs) h =
    ap (λ (t : Typed). ((settled t).0, as_kind k a.result) ∷ map (arm_as k) cs) h.0.0 ∙ ap (λ (t : Typed). ((settled b.test).0, as_kind k t) ∷ map (arm_as k) cs) h.0.1 ∙ ap (λ xs. arm_as k b ∷ xs) (arms_as_same k cs bs h.1)
arms_as_same k [] (b ∷ bs) h = absurd h
arms_as_same k (a ∷ cs) [] h = absurd h

chosen_same : (p q : ℕ) (cs bs : List Arm) (d : Typed) → SameArms cs bs → Agree (chosen p cs d) (chosen q bs d)
chosen_same p q cs bs d h =
    by_after (λ (u v : Unit {0}). Unit {0}) (λ (x y : Typed). x ≡ y) (tests cs) (tests bs) _ _ (tests_same cs bs h)
    (λ u v w. same_after (or_mismatch p (common (results cs d))) (or_mismatch q (common (results bs d))) (λ k. Ok (typed.Of (expr.Case (map (arm_as k) cs) (as_kind k d)) k)) (λ k. Ok (typed.Of (expr.Case (map (arm_as k) bs) (as_kind k d)) k))
    (subst (λ (ts : List Typed). Agree (or_mismatch p (common (results cs d))) (or_mismatch q (common ts))) (results_same cs bs d h) (mismatch_same p q (common (results cs d))))
    (λ k. ap (λ xs. typed.Of (expr.Case xs (as_kind k d)) k) (arms_as_same k cs bs h)))

-- ---- words and names

and_false : (b : Bool) → b && false ≡ false
and_false true = refl
and_false false = refl

pub text_is : (s t : List ℕ) → is_text s t ≡ true → s ≡ t
text_is [] [] h = refl
text_is (a ∷ s) (b ∷ t) h = let p = and_parts (nat_eq a b) (is_text s t) h in ap (λ x. x ∷ s) (eqb-true a b p.0) ∙ ap (λ xs. b ∷ xs) (text_is s t p.1)
text_is [] (b ∷ t) h = cc
text_is (a ∷ s) [] h = cc

truth_is : (a b : Bool) → same_truth a b ≡ true → a ≡ b
truth_is true true h = refl
truth_is false false h = refl
truth_is true false h = cc
truth_is false true h = cc

pub function_is : (f g : FnAst) → nat_eq (function_rank f) (function_rank g) ≡ true → f ≡ g
function_is fn.Coalesce fn.Coalesce h = refl
function_is fn.Abs fn.Abs h = refl
function_is fn.Length fn.Length h = refl
function_is fn.Count fn.Count h = refl
function_is fn.Sum fn.Sum h = refl
function_is fn.Min fn.Min h = refl
function_is fn.Max fn.Max h = refl
function_is fn.Avg fn.Avg h = refl
function_is _ _ h = cc

op_is : (o p : Op) → nat_eq (op_rank o) (op_rank p) ≡ true → o ≡ p
op_is op.Add op.Add h = refl
op_is op.Sub op.Sub h = refl
op_is op.Mul op.Mul h = refl
op_is op.Div op.Div h = refl
op_is op.Rem op.Rem h = refl
op_is op.Concat op.Concat h = refl
op_is op.Eq op.Eq h = refl
op_is op.Ne op.Ne h = refl
op_is op.Lt op.Lt h = refl
op_is op.Le op.Le h = refl
op_is op.Gt op.Gt h = refl
op_is op.Ge op.Ge h = refl
op_is op.And op.And h = refl
op_is op.Or op.Or h = refl
op_is _ _ h = cc

-- the column that a name names, wherever it stands
placed : (b : Bool) (why : Why) (p q : ℕ) (ks : List ℕ) → Agree (refuse_if b why p (the_one p ks)) (refuse_if b why q (the_one q ks))
placed true why p q ks = tt
placed false why p q [] = tt
placed false why p q (k ∷ []) = refl
placed false why p q (k ∷ l ∷ more) = tt

one_column : (a b : Answer ℕ) → same_column a b ≡ true → Agree a b
one_column (Ok j) (Ok k) h = eqb-true j k h
one_column (Ok j) (Err s) h = cc
one_column (Err r) b h = cc

module _ (columns : Columns) where
  name_agrees : (p q : ℕ) (s t : Option (List ℕ)) (a b : List ℕ) → same_column (column_of columns 0 s a) (column_of columns 0 t b) ≡ true → Agree (column_of columns p s a) (column_of columns q t b)
  name_agrees p q s t a b h =
      agree_trans (column_of columns p s a) (column_of columns 0 s a) (column_of columns q t b) (placed (is_unknown s columns) why.UnknownTable p 0 (numbers (is_named s a) columns))
      (agree_trans (column_of columns 0 s a) (column_of columns 0 t b) (column_of columns q t b) (one_column (column_of columns 0 s a) (column_of columns 0 t b) h) (placed (is_unknown t columns) why.UnknownTable 0 q (numbers (is_named t b) columns)))

  -- ---- functions

  one_same : (e x : ExprAst) (p q : ℕ) (f : FnAst) (t : Typed) → Agree (applied_to_one columns None e p f t) (applied_to_one columns None x q f t)
  one_same e x p q fn.Abs t = of_kind_same p q expr.Abs when_number (settled t)
  one_same e x p q fn.Length t = of_kind_same p q expr.Length length_kind (settled t)
  one_same e x p q fn.Coalesce t = tt
  one_same e x p q fn.Count t = tt
  one_same e x p q fn.Sum t = tt
  one_same e x p q fn.Min t = tt
  one_same e x p q fn.Max t = tt
  one_same e x p q fn.Avg t = tt

  single_same : (e x : ExprAst) (p q : ℕ) (f : FnAst) (ts : List Typed) → Agree (or_refuse why.KindMismatch p (single ts) >>= applied_to_one columns None e p f) (or_refuse why.KindMismatch q (single ts) >>= applied_to_one columns None x q f)
  single_same e x p q f ts = same_after (or_refuse why.KindMismatch p (single ts)) (or_refuse why.KindMismatch q (single ts)) (applied_to_one columns None e p f) (applied_to_one columns None x q f) (refused_same why.KindMismatch p q (single ts)) (one_same e x p q f)

  applied_same : (e x : ExprAst) (p q : ℕ) (f : FnAst) (ts : List Typed) → Agree (applied columns None e p f ts) (applied columns None x q f ts)
  applied_same e x p q fn.Coalesce ts = coalesced_same p q ts
  applied_same e x p q fn.Abs ts = single_same e x p q fn.Abs ts
  applied_same e x p q fn.Length ts = single_same e x p q fn.Length ts
  applied_same e x p q fn.Count ts = single_same e x p q fn.Count ts
  applied_same e x p q fn.Sum ts = single_same e x p q fn.Sum ts
  applied_same e x p q fn.Min ts = single_same e x p q fn.Min ts
  applied_same e x p q fn.Max ts = single_same e x p q fn.Max ts
  applied_same e x p q fn.Avg ts = single_same e x p q fn.Avg ts

  -- ---- the induction

  -- what is equal to an expression agrees with it
  abbrev pub Agrees : ExprAst → Type 0
  Agrees e = (x : ExprAst) → same columns e x ≡ true → Agree (meaning columns e None) (meaning columns x None)

  abbrev NodeAgrees : NodeAst → Type 0
  NodeAgrees n = (m : NodeAst) → same_nodes columns n m ≡ true → (e x : ExprAst) (p q : ℕ) → Agree (of_node columns n e p None) (of_node columns m x q None)

  abbrev Known : Type 0
  Known = (e : ExprAst) × Agrees e

  abbrev KnownNode : Type 0
  KnownNode = (n : NodeAst) × NodeAgrees n

  abbrev known : List Known → List ExprAst
  known xs = map (λ (k : Known). k.0) xs

  abbrev known_arms : List (Known × Known) → List (ExprAst × ExprAst)
  known_arms arms = map (λ (arm : Known × Known). (arm.0.0, arm.1.0)) arms

  abbrev parts : List ExprAst → List Part
  parts es = map (λ (e : ExprAst). (e, meaning columns e)) es

  abbrev arm_parts : List (ExprAst × ExprAst) → List (Part × Part)
  arm_parts arms = map (λ (arm : ExprAst × ExprAst). ((arm.0, meaning columns arm.0), (arm.1, meaning columns arm.1))) arms

  senses_agree : (xs : List Known) (es : List ExprAst) → all_same (map (same columns) (known xs)) es ≡ true → Agree (senses None (parts (known xs))) (senses None (parts es))
  senses_agree [] [] h = refl
  senses_agree (x ∷ xs) (e ∷ es) h =
      let b = and_parts (same columns x.0 e) (all_same (map (same columns) (known xs)) es) h in
      same_after (meaning columns x.0 None) (meaning columns e None) (λ t. senses None (parts (known xs)) >>= λ ts. Ok (t ∷ ts)) (λ t. senses None (parts es) >>= λ ts. Ok (t ∷ ts)) (x.1 e b.0)
      (λ t. same_after (senses None (parts (known xs))) (senses None (parts es)) (λ ts. Ok (t ∷ ts)) (λ ts. Ok (t ∷ ts)) (senses_agree xs es b.1) (λ ts. refl))
  senses_agree [] (e ∷ es) h = cc
  senses_agree (x ∷ xs) [] h = cc

  abbrev SameArm : Arm → Arm → Type 0
  SameArm a b = (a.test ≡ b.test) × (a.result ≡ b.result)

  arm_agrees : (x y : Known) (arm : ExprAst × ExprAst) → same columns x.0 arm.0 ≡ true → same columns y.0 arm.1 ≡ true
      → AgreeBy SameArm (arm_of None ((x.0, meaning columns x.0), (y.0, meaning columns y.0))) (arm_of None ((arm.0, meaning columns arm.0), (arm.1, meaning columns arm.1)))
  arm_agrees x y arm h i =
      by_after (λ (s t : Typed). s ≡ t) SameArm (meaning columns x.0 None) (meaning columns arm.0 None) _ _ (x.1 arm.0 h)
      (λ c d q. by_after (λ (s t : Typed). s ≡ t) SameArm (meaning columns y.0 None) (meaning columns arm.1 None) _ _ (y.1 arm.1 i) (λ r s u. (q, u)))

  arms_agree : (xs : List (Known × Known)) (arms : List (ExprAst × ExprAst)) → arms_same (map (λ (arm : ExprAst × ExprAst). (same columns arm.0, same columns arm.1)) (known_arms xs)) arms ≡ true
      → AgreeBy SameArms (all (map (arm_of None) (arm_parts (known_arms xs)))) (all (map (arm_of None) (arm_parts arms)))
  arms_agree [] [] h = tt
  arms_agree (x ∷ xs) (arm ∷ arms) h =
      let rest = arms_same (map (λ (arm : ExprAst × ExprAst). (same columns arm.0, same columns arm.1)) (known_arms xs)) arms in
      let b = and_parts (same columns x.0.0 arm.0 && same columns x.1.0 arm.1) rest h in
      let c = and_parts (same columns x.0.0 arm.0) (same columns x.1.0 arm.1) b.0 in
      by_after SameArm SameArms (arm_of None ((x.0.0, meaning columns x.0.0), (x.1.0, meaning columns x.1.0))) (arm_of None ((arm.0, meaning columns arm.0), (arm.1, meaning columns arm.1))) _ _ (arm_agrees x.0 x.1 arm c.0 c.1)
      (λ s t q. by_after SameArms SameArms (all (map (arm_of None) (arm_parts (known_arms xs)))) (all (map (arm_of None) (arm_parts arms))) _ _ (arms_agree xs arms b.1) (λ ss ts r. (q, r)))
  arms_agree [] (arm ∷ arms) h = cc
  arms_agree (x ∷ xs) [] h = cc

  abbrev Below : NodeAst-F NodeAst ExprAst → NodeAst-F (NodeAst × (ExprAst → ℕ → Sense)) Part
  Below z = map-NodeAst NodeAst ExprAst (NodeAst × (ExprAst → ℕ → Sense)) Part (λ n. (n, of_node columns n)) (λ e. (e, meaning columns e)) z

  level : (z : NodeAst-F NodeAst ExprAst) (e : ExprAst) (place : ℕ) → of_node columns (roll-NodeAst z) e place None ≡ of_layer columns None e place (Below z)
  unfolding of_node meaning
  level z e place = ap (λ (s : ExprAst → ℕ → Sense). s e place None) (para-roll-NodeAst (ExprAst → ℕ → Sense) Sense (node_sense columns) (expr_sense columns) z)

  abbrev Mapped : NodeAst-F NodeAst ExprAst → NodeAst-F (NodeAst → Bool) Is
  Mapped z = map-NodeAst NodeAst ExprAst (NodeAst → Bool) Is (same_nodes columns) (same columns) z

  pub same_at : (z : NodeAst-F NodeAst ExprAst) (m : NodeAst) → same_nodes columns (roll-NodeAst z) m ≡ same_layer columns (Mapped z) (out-NodeAst m)
  same_at z m = ap (λ (f : NodeAst → Bool). f m) (fold-roll-NodeAst (NodeAst → Bool) Is (same_node columns) same_expr z)

  pub same_node_of : (e x : ExprAst) → same columns e x ≡ same_nodes columns (node_of e) (node_of x)
  same_node_of e x = ap (λ (y : ExprAst). same columns y x) (sym (roll-out-ExprAst e)) ∙ ap (λ (f : Is). f x) (fold-roll-ExprAst (NodeAst → Bool) Is (same_node columns) same_expr (out-ExprAst e))

  abbrev bare_node : NodeAst-F KnownNode Known → NodeAst-F NodeAst ExprAst
  bare_node y = map-NodeAst KnownNode Known NodeAst ExprAst (λ k. k.0) (λ k. k.0) y

  call_agrees : (e x : ExprAst) (p q : ℕ) (f : FnAst) (ks : List Known) (es : List ExprAst) → all_same (map (same columns) (known ks)) es ≡ true → Agree (called columns None e p f (parts (known ks))) (called columns None x q f (parts es))
  call_agrees e x p q f ks es h =
      subst (λ (over : Over). Agree (senses over (parts (known ks)) >>= applied columns None e p f) (senses over (parts es) >>= applied columns None x q f)) (sym (over_none columns f))
      (same_after (senses None (parts (known ks))) (senses None (parts es)) (applied columns None e p f) (applied columns None x q f) (senses_agree ks es h) (applied_same e x p q f))

  layer_agrees : (y : NodeAst-F KnownNode Known) (v : NodeAst-F NodeAst ExprAst) → same_layer columns (Mapped (bare_node y)) v ≡ true → (e x : ExprAst) (p q : ℕ) → Agree (of_layer columns None e p (Below (bare_node y))) (of_layer columns None x q (Below v))
  layer_agrees (NodeAst-F.Number s) (NodeAst-F.Number t) h e x p q = subst (λ (t : List ℕ). Agree (number p (literal s)) (number q (literal t))) (text_is s t h) (number_same p q s)
  layer_agrees (NodeAst-F.Str s) (NodeAst-F.Str t) h e x p q = subst (λ (t : List ℕ). Agree (text p s) (text q t)) (text_is s t h) (text_same p q s)
  layer_agrees NodeAst-F.Null NodeAst-F.Null h e x p q = refl
  layer_agrees (NodeAst-F.Truth a) (NodeAst-F.Truth b) h e x p q = ap (λ (t : Bool). typed.Of (expr.Const (value.Bool t) kind.Bool) kind.Bool) (truth_is a b h)
  layer_agrees (NodeAst-F.Name s a) (NodeAst-F.Name t b) h e x p q = same_after (column_of columns p s a) (column_of columns q t b) _ _ (name_agrees p q s t a b h) (λ k. refl)
  layer_agrees (NodeAst-F.Call f ks) (NodeAst-F.Call g es) h e x p q =
      let b = and_parts (nat_eq (function_rank f) (function_rank g)) (all_same (map (same columns) (known ks)) es) h in
      subst (λ (g : FnAst). Agree (called columns None e p f (parts (known ks))) (called columns None x q g (parts es))) (function_is f g b.0) (call_agrees e x p q f ks es b.1)
  layer_agrees NodeAst-F.CountAll NodeAst-F.CountAll h e x p q = tt
  layer_agrees (NodeAst-F.Not k) (NodeAst-F.Not a) h e x p q = same_after (meaning columns k.0 None) (meaning columns a None) (unary p operator.Not) (unary q operator.Not) (k.1 a h) (unary_same p q operator.Not)
  layer_agrees (NodeAst-F.Neg k) (NodeAst-F.Neg a) h e x p q = same_after (meaning columns k.0 None) (meaning columns a None) (unary p operator.Neg) (unary q operator.Neg) (k.1 a h) (unary_same p q operator.Neg)
  layer_agrees (NodeAst-F.IsNull k) (NodeAst-F.IsNull a) h e x p q = same_after (meaning columns k.0 None) (meaning columns a None) (unary p operator.IsNull) (unary q operator.IsNull) (k.1 a h) (unary_same p q operator.IsNull)
  layer_agrees (NodeAst-F.Binary o j k) (NodeAst-F.Binary r a b) h e x p q =
      let u = and_parts (nat_eq (op_rank o) (op_rank r) && same columns j.0 a) (same columns k.0 b) h in
      let v = and_parts (nat_eq (op_rank o) (op_rank r)) (same columns j.0 a) u.0 in
      subst (λ (r : Op). Agree (meaning columns j.0 None >>= λ s. meaning columns k.0 None >>= λ t. binary p o s t) (meaning columns a None >>= λ s. meaning columns b None >>= λ t. binary q r s t)) (op_is o r v.0)
      (same_after (meaning columns j.0 None) (meaning columns a None) (λ s. meaning columns k.0 None >>= λ t. binary p o s t) (λ s. meaning columns b None >>= λ t. binary q o s t) (j.1 a v.1)
      (λ s. same_after (meaning columns k.0 None) (meaning columns b None) (λ t. binary p o s t) (λ t. binary q o s t) (k.1 b u.1) (λ t. binary_same p q o s t)))
  layer_agrees (NodeAst-F.Case ks None) (NodeAst-F.Case arms None) h e x p q =
      let b = and_parts (arms_same (map (λ (arm : ExprAst × ExprAst). (same columns arm.0, same columns arm.1)) (known_arms ks)) arms) true h in
      by_after SameArms (λ (s t : Typed). s ≡ t) (all (map (arm_of None) (arm_parts (known_arms ks)))) (all (map (arm_of None) (arm_parts arms))) _ _ (arms_agree ks arms b.0) (λ ss ts r. chosen_same p q ss ts typed.Null r)
  layer_agrees (NodeAst-F.Case ks (Some k)) (NodeAst-F.Case arms (Some a)) h e x p q =
      let b = and_parts (arms_same (map (λ (arm : ExprAst × ExprAst). (same columns arm.0, same columns arm.1)) (known_arms ks)) arms) (same columns k.0 a) h in
      by_after SameArms (λ (s t : Typed). s ≡ t) (all (map (arm_of None) (arm_parts (known_arms ks)))) (all (map (arm_of None) (arm_parts arms))) _ _ (arms_agree ks arms b.0)
      (λ ss ts r. same_after (meaning columns k.0 None) (meaning columns a None) (λ d. chosen p ss d) (λ d. chosen q ts d) (k.1 a b.1) (λ d. chosen_same p q ss ts d r))
  layer_agrees (NodeAst-F.Case ks None) (NodeAst-F.Case arms (Some a)) h e x p q = absurd (false≢true (sym (and_false _) ∙ h))
  layer_agrees (NodeAst-F.Case ks (Some k)) (NodeAst-F.Case arms None) h e x p q = absurd (false≢true (sym (and_false _) ∙ h))
  layer_agrees (NodeAst-F.Cast k to) (NodeAst-F.Cast a of_) h e x p q =
      let b = and_parts (same_kind to of_) (same columns k.0 a) h in
      subst (λ (j : Kind). Agree (meaning columns k.0 None >>= unary p (operator.Cast to)) (meaning columns a None >>= unary q (operator.Cast j))) (same_is to of_ b.0)
      (same_after (meaning columns k.0 None) (meaning columns a None) (unary p (operator.Cast to)) (unary q (operator.Cast to)) (k.1 a b.1) (unary_same p q (operator.Cast to)))
  layer_agrees _ _ h e x p q = cc

  node_step : (y : NodeAst-F KnownNode Known) → NodeAgrees (roll-NodeAst (bare_node y))
  node_step y m h e x p q =
      agree_at (of_node columns (roll-NodeAst (bare_node y)) e p None) (of_node columns m x q None) (of_layer columns None e p (Below (bare_node y))) (of_layer columns None x q (Below (out-NodeAst m)))
      (level (bare_node y) e p) (ap (λ (n : NodeAst). of_node columns n x q None) (sym (roll-out-NodeAst m)) ∙ level (out-NodeAst m) x q)
      (layer_agrees y (out-NodeAst m) (sym (same_at (bare_node y) m) ∙ h) e x p q)

  abbrev bare : ExprAst-F KnownNode Known → ExprAst-F NodeAst ExprAst
  bare y = map-ExprAst KnownNode Known NodeAst ExprAst (λ k. k.0) (λ k. k.0) y

  from_node : (e : ExprAst) → NodeAgrees (node_of e) → Agrees e
  from_node e f x h =
      agree_at (meaning columns e None) (meaning columns x None) (of_node columns (node_of e) e (place_of e) None) (of_node columns (node_of x) x (place_of x) None)
      (meaning_is columns e None) (meaning_is columns x None) (f (node_of x) (sym (same_node_of e x) ∙ h) e x (place_of e) (place_of x))

  expr_step : (y : ExprAst-F KnownNode Known) → Agrees (roll-ExprAst (bare y))
  expr_step y = from_node (roll-ExprAst (bare y)) (subst (λ (x : ExprAst-F NodeAst ExprAst). NodeAgrees x.node) (sym (out-roll-ExprAst (bare y))) y.node.1)

  pub agrees : (e : ExprAst) → Agrees e
  agrees = ind-ExprAst NodeAgrees Agrees (λ x y is. subst (λ z. NodeAgrees (roll-NodeAst z)) is (node_step y)) (λ x y is. subst (λ z. Agrees (roll-ExprAst z)) is (expr_step y))
