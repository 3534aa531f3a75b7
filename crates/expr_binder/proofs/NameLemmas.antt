-- Names that name one column are written alike.
use Rattle.std.proofs.Common.{◌≡◌, refl, sym, ◌∙◌, ap, ℕ, suc, ◌≤◌, Bool, true, false, ◌&&◌, Option, Some, None, List, [], ◌∷◌, map, nat_eq, arith}
use Rattle.std.proofs.lemmas.Bool.{eqb-true}
use Rattle.std.proofs.lemmas.Cmp.{nat_list_eq_equiv}
use Rattle.typed_exprs.specs.declared.refusal.Why.TheVariants as why
use Rattle.typed_exprs.specs.declared.scope.Column.{Column}
use Rattle.typed_exprs.specs.Answer.{refuse_if}
use Rattle.typed_exprs.specs.Scopes.{Columns, is_text, is_under, is_named, is_unknown, with_if, numbers_from, numbers, the_one}
use Rattle.sql_grammar.specs.declared.ast.FnAst.{FnAst}
use Rattle.sql_grammar.specs.declared.ast.ExprAst.{ExprAst}
use Rattle.sql_grammar.specs.declared.ast.NodeAst.{NodeAst, out-NodeAst}
use Rattle.sql_grammar.specs.declared.ast.NodeAst.TheVariants as node
use Rattle.sql_grammar.specs.declared.ast.NodeAst.TheFolds.{fold_out-NodeAst, map-NodeAst}
use Rattle.expr_binder.specs.Same.{Is, same_column, same_name, function_rank, all_same, same, same_nodes, same_node, same_expr, same_layer}
use Rattle.expr_binder.specs.Alike.{may_be_under, may_be_one}

-- ---- two texts that are a third

texts_one : (a b c : List ℕ) → is_text a c ≡ true → is_text b c ≡ true → is_text a b ≡ true
texts_one a b c h i = nat_list_eq_equiv.congr a c b h ∙ nat_list_eq_equiv.symm c b ∙ i

both_yes : (a b : Bool) → a && b ≡ true → (a ≡ true) × (b ≡ true)
both_yes true b h = (refl, h)
both_yes false b h = cc

under_one : (p q : Option (List ℕ)) (c : Column) → is_under p c ≡ true → is_under q c ≡ true → may_be_under p q ≡ true
under_one None q c h i = refl
under_one (Some p) None c h i = refl
under_one (Some p) (Some q) c h i = texts_one p q c.alias h i

-- two names of one column are written alike
one_column : (p : Option (List ℕ)) (a : List ℕ) (q : Option (List ℕ)) (b : List ℕ) (c : Column) → is_named p a c ≡ true → is_named q b c ≡ true → may_be_one p a q b ≡ true
one_column p a q b c h i =
    let (hp, ha) = both_yes (is_under p c) (is_text a c.name) h in
    let (iq, ib) = both_yes (is_under q c) (is_text b c.name) i in
    grind (arith, texts_one a b c.name ha ib, under_one p q c hp iq)

-- ---- the one column that is so

low : (is : Column → Bool) (cs : Columns) (m k : ℕ) (ks : List ℕ) → numbers_from is m cs ≡ k ∷ ks → m ≤ k
low is [] m k ks h = cc
low is (c ∷ cs) m k ks h = go (is c) h (low is cs (suc m) k ks)
  where
    go : (b : Bool) → with_if b m (numbers_from is (suc m) cs) ≡ k ∷ ks → (numbers_from is (suc m) cs ≡ k ∷ ks → suc m ≤ k) → m ≤ k
    go true e f = let s : m ≡ k = cc in omega arith
    go false e f = let s = f e in omega arith

-- what is so of each column for which both are, is so where both find one column
module _ (is js : Column → Bool) (P : Type 0) (so : (c : Column) → is c ≡ true → js c ≡ true → P) (k : ℕ) where
  found : (cs : Columns) (m : ℕ) (ks ls : List ℕ) → numbers_from is m cs ≡ k ∷ ks → numbers_from js m cs ≡ k ∷ ls → P
  found [] m ks ls h i = cc
  found (c ∷ cs) m ks ls h i = go (is c) (js c) (so c) h i (found cs (suc m) ks ls) (low is cs (suc m) k ks) (low js cs (suc m) k ls)
    where
      go : (a b : Bool) → (a ≡ true → b ≡ true → P) → with_if a m (numbers_from is (suc m) cs) ≡ k ∷ ks → with_if b m (numbers_from js (suc m) cs) ≡ k ∷ ls
          → (numbers_from is (suc m) cs ≡ k ∷ ks → numbers_from js (suc m) cs ≡ k ∷ ls → P)
          → (numbers_from is (suc m) cs ≡ k ∷ ks → suc m ≤ k) → (numbers_from js (suc m) cs ≡ k ∷ ls → suc m ≤ k) → P
      go true true p e d f l r = p refl refl
      go true false p e d f l r = let s : m ≡ k = cc in let t = r d in absurd (omega arith)
      go false true p e d f l r = let s : m ≡ k = cc in let t = l e in absurd (omega arith)
      go false false p e d f l r = f e d

-- ---- names

the_same : (b d : Bool) (ks ls : List ℕ) → same_column (refuse_if b why.UnknownTable 0 (the_one 0 ks)) (refuse_if d why.UnknownTable 0 (the_one 0 ls)) ≡ true
    → (k : ℕ) × (ks ≡ k ∷ []) × (ls ≡ k ∷ [])
the_same false false (j ∷ []) (k ∷ []) h = let e = eqb-true j k h in (j, refl, ap (λ (n : ℕ). n ∷ []) (sym e))
the_same false false (j ∷ []) [] h = cc
the_same false false (j ∷ []) (k ∷ l ∷ ls) h = cc
the_same false false [] ls h = cc
the_same false false (i ∷ j ∷ ks) ls h = cc
the_same true d ks ls h = cc
the_same false true [] ls h = cc
the_same false true (j ∷ []) ls h = cc
the_same false true (i ∷ j ∷ ks) ls h = cc

names_one : (cs : Columns) (p : Option (List ℕ)) (a : List ℕ) (q : Option (List ℕ)) (b : List ℕ) → same_name cs p a q b ≡ true → may_be_one p a q b ≡ true
names_one cs p a q b h =
    let (k, e, d) = the_same (is_unknown p cs) (is_unknown q cs) (numbers (is_named p a) cs) (numbers (is_named q b) cs) h in
    found (is_named p a) (is_named q b) (may_be_one p a q b ≡ true) (one_column p a q b) k cs 0 [] [] e d

-- names that aren't written alike name no one column
pub unlike : (cs : Columns) (p : Option (List ℕ)) (a : List ℕ) (q : Option (List ℕ)) (b : List ℕ) → may_be_one p a q b ≡ false → false ≡ same_name cs p a q b
unlike cs p a q b h = go (same_name cs p a q b) (names_one cs p a q b)
  where
    go : (s : Bool) → (s ≡ true → may_be_one p a q b ≡ true) → false ≡ s
    go true f = let e = f refl in cc
    go false f = refl

-- ---- nodes

same_nodes-is : (cs : Columns) (n m : NodeAst) → same_nodes cs n m ≡ same_layer cs (map-NodeAst NodeAst ExprAst (NodeAst → Bool) Is (same_nodes cs) (same cs) (out-NodeAst n)) (out-NodeAst m)
same_nodes-is cs n m = ap (λ (s : NodeAst → Bool). s m) (fold_out-NodeAst (NodeAst → Bool) Is (same_node cs) same_expr n)

names_are : (cs : Columns) (p : Option (List ℕ)) (a : List ℕ) (q : Option (List ℕ)) (b : List ℕ) → same_nodes cs (node.Name p a) (node.Name q b) ≡ same_name cs p a q b
names_are cs p a q b = simp (same_nodes-is, node.outs-Name)

calls_are : (cs : Columns) (f : FnAst) (xs : List ExprAst) (g : FnAst) (ys : List ExprAst)
    → same_nodes cs (node.Call f xs) (node.Call g ys) ≡ (nat_eq (function_rank f) (function_rank g) && all_same (map (same cs) xs) ys)
calls_are cs f xs g ys = simp (same_nodes-is, node.outs-Call)

pub unlike_names : (cs : Columns) (p : Option (List ℕ)) (a : List ℕ) (q : Option (List ℕ)) (b : List ℕ) → may_be_one p a q b ≡ false
    → false ≡ same_nodes cs (node.Name p a) (node.Name q b)
unlike_names cs p a q b h = unlike cs p a q b h ∙ sym (names_are cs p a q b)

pub unlike_calls : (cs : Columns) (f : FnAst) (xs : List ExprAst) (g : FnAst) (ys : List ExprAst) → false ≡ all_same (map (same cs) xs) ys
    → false ≡ same_nodes cs (node.Call f xs) (node.Call g ys)
unlike_calls cs f xs g ys h = go (nat_eq (function_rank f) (function_rank g)) ∙ sym (calls_are cs f xs g ys)
  where
    go : (b : Bool) → false ≡ (b && all_same (map (same cs) xs) ys)
    go true = h
    go false = refl
