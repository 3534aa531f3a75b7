-- Before `name . *` no expression can be read: it stops at the star.
use Rattle.std.proofs.Common.{◌≡◌, ℕ, ◌-◌, List, [], ◌∷◌, ◌++◌, length, drop, Bool, true, false, ◌&&◌, Some, refl, sym, ap, ◌∙◌, arith, length-drop, ◌<◌}
use Rattle.sql_grammar.specs.declared.class.Class.{Class}
use Rattle.sql_grammar.specs.declared.class.Class.TheVariants as c
use Rattle.sql_grammar.specs.declared.ast.ItemAst.{ItemAst}
use Rattle.sql_grammar.specs.Trees.{text_of, at}
use Rattle.sql_grammar.specs.declared.ast.NodeAst.TheVariants as node
use Rattle.sql_grammar.specs.declared.ast.ItemAst.TheVariants as item
use Rattle.sql_grammar.specs.Class.{Token, Tokens, among, starts}
use Rattle.sql_grammar.specs.Reader.{Read, terminal, matching, maybe, stop, done, unexpected, and_then, restore, turns, pure}
use Rattle.sql_grammar.specs.Grammar.{Limits, Calls, no_call, one_argument, counts, calls, one, constants, names, additive, multiplicative}
use Rattle.sql_grammar.specs.Reading.{Readers, expr_first, called_first, called, qualified, plain, after, named, prim, unary_of, operation, product_of, sum_of, suffix, test_of, negation_of, conjunction, disjunction, whole_expr, all_of_item, one_item, all_of_ahead}
use Rattle.sql_grammar.proofs.Classes.{apart_at, Alike, starts-alike, and_left, and_right, no-covers}

module _ (l : Limits) (d : ℕ) (f : Readers) (t dd ss : Token) (rest : Tokens) (is_name : among t.class names ≡ true) (is_dot : among dd.class (one c.Dot) ≡ true) (is_star : among ss.class (one c.Star) ≡ true) where
  abbrev ts : Tokens
  ts = t ∷ dd ∷ ss ∷ rest

  abbrev refused : {A : Type 0} → Read A
  refused = stop unexpected (ss ∷ rest)

  -- the name begins nothing else
  no_other : (cs : List Class) → among t.class cs ≡ false → starts cs ts ≡ false
  no_other cs e = e

  at_dot : (n : ℕ) → terminal (one c.Dot) n (dd ∷ ss ∷ rest) ≡ done dd n (ss ∷ rest)
  unfolding matching
  at_dot n = rw is_dot refl

  at_star : (n : ℕ) → terminal names n (ss ∷ rest) ≡ refused
  unfolding matching
  at_star n = let e : among ss.class names ≡ false = apart_at (one c.Star) names ss.class refl is_star in rw e refl

  qualified_stops : (n : ℕ) → qualified l d f t n (dd ∷ ss ∷ rest) ≡ refused
  unfolding qualified
  qualified_stops n =
      ap (λ r. and_then r (λ dot. λ i us. and_then (terminal names i us) (λ name. pure (at t.place (node.Name (Some t.text) name.text))))) (at_dot n)
      ∙ ap (λ r. and_then r (λ (name : Token). pure (at t.place (node.Name (Some t.text) name.text)))) (at_star n)

  plain_stops : (n : ℕ) → plain l d f t n (dd ∷ ss ∷ rest) ≡ refused
  unfolding plain
  plain_stops n = rw is_dot (qualified_stops n)

  no_open : among dd.class (one c.Open) ≡ false
  no_open = apart_at (one c.Dot) (one c.Open) dd.class refl is_dot

  after_stops : (k : Calls) (n : ℕ) → after l d f k t n (dd ∷ ss ∷ rest) ≡ refused
  unfolding after
  after_stops no_call n = plain_stops n
  after_stops one_argument n = rw no_open (plain_stops n)
  after_stops counts n = rw no_open (plain_stops n)

  at_name : (n : ℕ) → terminal names n ts ≡ done t n (dd ∷ ss ∷ rest)
  unfolding matching
  at_name n = rw is_name refl

  named_stops : (n : ℕ) → named l d f n ts ≡ refused
  unfolding named
  named_stops n = ap (λ r. and_then r (λ x. after l d f (calls x.class) x)) (at_name n) ∙ after_stops (calls t.class) n

  prim_stops : (n : ℕ) → prim l d f n ts ≡ refused
  unfolding prim
  prim_stops n =
      let a : among t.class (one c.Open) ≡ false = apart_at names (one c.Open) t.class refl is_name in
      let b : among t.class (one c.Case) ≡ false = apart_at names (one c.Case) t.class refl is_name in
      let e : among t.class (one c.Cast) ≡ false = apart_at names (one c.Cast) t.class refl is_name in
      let g : among t.class (one c.Coalesce) ≡ false = apart_at names (one c.Coalesce) t.class refl is_name in
      let h : among t.class constants ≡ false = apart_at names constants t.class refl is_name in
      rw (a, b, e, g, h) (named_stops n)

  unary_stops : (n : ℕ) → unary_of l d f n ts ≡ refused
  unfolding unary_of
  unary_stops n = let a : among t.class (one c.Minus) ≡ false = apart_at names (one c.Minus) t.class refl is_name in rw a (prim_stops n)

  product_stops : (n : ℕ) → product_of l d f n ts ≡ refused
  unfolding product_of
  product_stops n = ap (λ r. and_then r (λ x. turns multiplicative (operation l d f multiplicative (unary_of l d f)) x)) (unary_stops n)

  sum_stops : (n : ℕ) → sum_of l d f n ts ≡ refused
  unfolding sum_of
  sum_stops n = ap (λ r. and_then r (λ x. turns additive (operation l d f additive (product_of l d f)) x)) (product_stops n)

  test_stops : (n : ℕ) → test_of l d f n ts ≡ refused
  unfolding test_of
  test_stops n = ap (λ r. and_then r (λ x. λ i us. suffix l d f x (i - n) i us)) (sum_stops n)

  negation_stops : (n : ℕ) → negation_of l d f n ts ≡ refused
  unfolding negation_of
  negation_stops n = let a : among t.class (one c.Not) ≡ false = apart_at names (one c.Not) t.class refl is_name in rw a (test_stops n)

  and_stops : (n : ℕ) → conjunction l d f n ts ≡ refused
  unfolding conjunction
  and_stops n = ap (λ r. and_then r (λ x. turns (one c.And) (operation l d f (one c.And) (negation_of l d f)) x)) (negation_stops n)

  expr_stops : (n : ℕ) → disjunction l d f n ts ≡ refused
  unfolding disjunction
  expr_stops n = ap (λ r. and_then r (λ x. turns (one c.Or) (operation l d f (one c.Or) (conjunction l d f)) x)) (and_stops n)

  whole_stops : (n : ℕ) → whole_expr l d f n ts ≡ refused
  unfolding whole_expr
  whole_stops n = ap (restore n) (expr_stops 0)

  item_stops : (n : ℕ) → one_item l d f n ts ≡ refused
  unfolding one_item
  item_stops n = ap (λ r. and_then r (λ x. λ i us. and_then (maybe called_first called i us) (λ name. pure (item.One x (text_of name))))) (whole_stops n)

  reads_it : (n : ℕ) → all_of_item l d f n ts ≡ done (item.AllOf t.text t.place) n rest
  unfolding all_of_item matching
  reads_it n = rw (is_name, is_dot, is_star) refl

-- ---- the test

second_there : (a b : Bool) (ts : Tokens) → (a && (starts (one c.Dot) ts && b)) ≡ true → 0 < length ts
second_there true b [] h = absurd (cc)
second_there false b [] h = absurd (cc)
second_there a b (t ∷ ts) h = omega arith

two : (t : Token) (y : Tokens) → all_of_ahead (t ∷ y) ≡ true → 0 < length y
two t y h = second_there (among t.class names) (starts (one c.Star) (drop 1 y)) y h

three : (y : Tokens) → all_of_ahead y ≡ true → 0 < length y
three [] h = absurd (cc)
three (t ∷ y) h = omega arith

tested : {A : Type 0} (ts : Tokens) → all_of_ahead ts ≡ true → ((t dd ss : Token) (rest : Tokens) → ts ≡ t ∷ dd ∷ ss ∷ rest → among t.class names ≡ true → among dd.class (one c.Dot) ≡ true → among ss.class (one c.Star) ≡ true → A) → A
tested [] h k = absurd (cc)
tested (t ∷ []) h k = absurd (no_second (among t.class names) h)
  where
    no_second : (b : Bool) → (b && false) ≡ true → ⊥
    no_second true h = cc
    no_second false h = cc
tested (t ∷ dd ∷ []) h k = absurd (no_third (among t.class names) (among dd.class (one c.Dot)) h)
  where
    no_third : (a b : Bool) → (a && (b && false)) ≡ true → ⊥
    no_third true true h = cc
    no_third true false h = cc
    no_third false b h = cc
tested (t ∷ dd ∷ ss ∷ rest) h k = k t dd ss rest refl (and_left _ _ h) (and_left _ _ (and_right _ _ h)) (and_right _ _ (and_right _ _ h))

module _ (l : Limits) (d : ℕ) (f : Readers) where
  pub clash : (n : ℕ) (ts : Tokens) → all_of_ahead ts ≡ true → one_item l d f n ts ≡ stop unexpected (drop 2 ts)
  clash n ts h = tested ts h (λ t dd ss rest is a b e. rw is (item_stops l d f t dd ss rest a b e n))

  pub reads_all_of : (n : ℕ) (ts : Tokens) → all_of_ahead ts ≡ true → (a : ItemAst) × (m : ℕ) × (rest : Tokens) × (all_of_item l d f n ts ≡ done a m rest)
  reads_all_of n ts h = tested ts h (λ t dd ss rest is a b e. (item.AllOf t.text t.place, n, rest, ap (all_of_item l d f n) is ∙ reads_it l d f t dd ss rest a b e n))

both_false : (a b : Bool) → a ≡ false → (a && b) ≡ false
both_false true b e = absurd (cc)
both_false false b e = refl

pub no_name : (ts : Tokens) → starts expr_first ts ≡ false → all_of_ahead ts ≡ false
no_name ts e = both_false (starts names ts) (starts (one c.Dot) (drop 1 ts) && starts (one c.Star) (drop 2 ts)) (no-covers names expr_first ts refl e)

pub yes_name : (t dd ss : Token) (rest : Tokens) → among t.class names ≡ true → among dd.class (one c.Dot) ≡ true → among ss.class (one c.Star) ≡ true → all_of_ahead (t ∷ dd ∷ ss ∷ rest) ≡ true
yes_name t dd ss rest a b e = rw (a, b, e) refl

-- the test is the same before what begins alike, where it stops there
pub same_name : (ts x y : Tokens) → Alike x y → all_of_ahead (ts ++ y) ≡ true → drop 2 (ts ++ y) ≡ y → all_of_ahead (ts ++ x) ≡ true
same_name [] x y same h e = let n : length y ≡ length (drop 2 y) = sym (ap length e) in absurd (omega (arith, length-drop 2 y, n, three y h))
same_name (t ∷ []) x y same h e = let n : length y ≡ length (drop 1 y) = sym (ap length e) in absurd (omega (arith, length-drop 1 y, n, two t y h))
same_name (t ∷ dd ∷ []) x y same h e = rw (starts-alike (one c.Star) x y same) h
same_name (t ∷ dd ∷ ss ∷ more) x y same h e = h
