-- Reading, a turn or a level at a time.
use Rattle.std.proofs.Common.{◌≡◌, ℕ, zero, suc, ◌+◌, ◌-◌, ◌<◌, List, [], ◌∷◌, length, Bool, true, false, if◌then◌else◌, refl, sym, ap, ◌∙◌, arith, add-one}
use Rattle.sql_grammar.specs.declared.class.Class.{Class}
use Rattle.sql_grammar.specs.declared.class.Class.TheVariants as class
use Rattle.expr_parser.specs.declared.halt.Halt.{Halt}
use Rattle.expr_parser.specs.declared.halt.Halt.TheVariants as halt
use Rattle.sql_grammar.specs.Class.{Token, Tokens, starts}
use Rattle.sql_grammar.specs.Reader.{Stop, unexpected, too_many, over, Read, done, stop, Reader, and_then, terminal, turns_within, turns, up_to}
use Rattle.sql_grammar.specs.Reading.{under, disjunction, negation_of, unary_of, union_of, full}
use Rattle.expr_parser.specs.Cursors.{Halts, Stand, lim, below}

pub under_expr : (d : ℕ) → 0 < d → (below d).expr ≡ disjunction lim (d - 1) (below (d - 1))
unfolding under
under_expr zero h = absurd (omega arith)
under_expr (suc d) h = let e : suc d - 1 ≡ d = omega arith in rw e refl

pub under_negation : (d : ℕ) → 0 < d → (below d).negation ≡ negation_of lim (d - 1) (below (d - 1))
unfolding under
under_negation zero h = absurd (omega arith)
under_negation (suc d) h = let e : suc d - 1 ≡ d = omega arith in rw e refl

pub under_unary : (d : ℕ) → 0 < d → (below d).unary ≡ unary_of lim (d - 1) (below (d - 1))
unfolding under
under_unary zero h = absurd (omega arith)
under_unary (suc d) h = let e : suc d - 1 ≡ d = omega arith in rw e refl

pub under_union : (d : ℕ) → 0 < d → (below d).union ≡ union_of lim (d - 1) (below (d - 1))
unfolding under
under_union zero h = absurd (omega arith)
under_union (suc d) h = let e : suc d - 1 ≡ d = omega arith in rw e refl

-- a call that stops, where the reading around it stops too
pub halts_also : {A B : Type 0} (read : Read A) (read2 : Read B) (h : Halt) (new : Stand)
    → ((k : Stop) → read ≡ stop k new.tokens → read2 ≡ stop k new.tokens) → Halts read h new → Halts read2 h new
halts_also read read2 (halt.Refused why) new f e = f _ e
halts_also read read2 halt.NoMemory new f e = tt

-- ---- turns

module _ {S : Type 0} (cs : List Class) (p : S → Reader S) where
  -- what follows a first part that was read
  pub turns_start : (first : Reader S) (x : S) (n m : ℕ) (ts mid : Tokens) → first n ts ≡ done x m mid → and_then (first n ts) (turns cs p) ≡ turns_within cs p (length mid) x m mid
  turns_start first x n m ts mid e = ap (λ r. and_then r (turns cs p)) e

  pub turns_end : (k : ℕ) (x : S) (n : ℕ) (ts : Tokens) → starts cs ts ≡ false → turns_within cs p k x n ts ≡ done x n ts
  unfolding turns_within
  turns_end zero x n ts e = refl
  turns_end (suc k) x n ts e = rw e refl

  pub turns_none : (x : S) (n : ℕ) (ts : Tokens) → turns_within cs p 0 x n ts ≡ done x n ts
  unfolding turns_within
  turns_none x n ts = refl

  one_turn : (k : ℕ) (x : S) (n : ℕ) (ts : Tokens) → starts cs ts ≡ true → turns_within cs p (suc k) x n ts ≡ and_then (p x n ts) (turns_within cs p k)
  unfolding turns_within
  one_turn k x n ts e = rw e refl

  pub turns_turn : (k j : ℕ) (x y : S) (n m : ℕ) (ts rest : Tokens) → k ≡ j + 1 → starts cs ts ≡ true → p x n ts ≡ done y m rest → turns_within cs p k x n ts ≡ turns_within cs p j y m rest
  turns_turn k j x y n m ts rest e b r = ap (λ (i : ℕ). turns_within cs p i x n ts) (e ∙ add-one j) ∙ one_turn j x n ts b ∙ ap (λ z. and_then z (turns_within cs p j)) r

  pub turns_stop : (k j : ℕ) (x : S) (n : ℕ) (s : Stop) (ts rest : Tokens) → k ≡ j + 1 → starts cs ts ≡ true → p x n ts ≡ stop s rest → turns_within cs p k x n ts ≡ stop s rest
  turns_stop k j x n s ts rest e b r = ap (λ (i : ℕ). turns_within cs p i x n ts) (e ∙ add-one j) ∙ one_turn j x n ts b ∙ ap (λ z. and_then z (turns_within cs p j)) r

-- ---- so many at most

module _ {S : Type 0} (cs : List Class) (p : S → Reader S) (full_ : Reader S) where
  pub up_end : (k : ℕ) (x : S) (n : ℕ) (ts : Tokens) → starts cs ts ≡ false → up_to cs p full_ k x n ts ≡ done x n ts
  unfolding up_to
  up_end zero x n ts e = rw e refl
  up_end (suc k) x n ts e = rw e refl

  next_turn : (k : ℕ) (x : S) (n : ℕ) (ts : Tokens) → starts cs ts ≡ true → up_to cs p full_ (suc k) x n ts ≡ and_then (p x n ts) (up_to cs p full_ k)
  unfolding up_to
  next_turn k x n ts e = rw e refl

  pub up_turn : (k j : ℕ) (x y : S) (n m : ℕ) (ts rest : Tokens) → k ≡ j + 1 → starts cs ts ≡ true → p x n ts ≡ done y m rest → up_to cs p full_ k x n ts ≡ up_to cs p full_ j y m rest
  up_turn k j x y n m ts rest e b r = ap (λ (i : ℕ). up_to cs p full_ i x n ts) (e ∙ add-one j) ∙ next_turn j x n ts b ∙ ap (λ z. and_then z (up_to cs p full_ j)) r

  pub up_stop : (k j : ℕ) (x : S) (n : ℕ) (s : Stop) (ts rest : Tokens) → k ≡ j + 1 → starts cs ts ≡ true → p x n ts ≡ stop s rest → up_to cs p full_ k x n ts ≡ stop s rest
  up_stop k j x n s ts rest e b r = ap (λ (i : ℕ). up_to cs p full_ i x n ts) (e ∙ add-one j) ∙ next_turn j x n ts b ∙ ap (λ z. and_then z (up_to cs p full_ j)) r

  pub up_full : (k : ℕ) (x : S) (n : ℕ) (s : Stop) (ts rest : Tokens) → k ≡ 0 → starts cs ts ≡ true → full_ n ts ≡ stop s rest → up_to cs p full_ k x n ts ≡ stop s rest
  unfolding up_to
  up_full k x n s ts rest z b r = ap (λ (i : ℕ). up_to cs p full_ i x n ts) z ∙ rw b r

-- ---- loops, which keep that what is left to read gives what was to be read

module _ {S : Type 0} (cs : List Class) (p : S → Reader S) (target : Read S) where
  pub loop_end : (k : ℕ) (x : S) (n : ℕ) (ts : Tokens) → turns_within cs p k x n ts ≡ target → starts cs ts ≡ false → target ≡ done x n ts
  loop_end k x n ts kept b = sym kept ∙ turns_end cs p k x n ts b

  pub loop_none : (k : ℕ) (x : S) (n : ℕ) (ts : Tokens) → turns_within cs p k x n ts ≡ target → k ≡ 0 → target ≡ done x n ts
  loop_none k x n ts kept z = sym kept ∙ ap (λ (i : ℕ). turns_within cs p i x n ts) z ∙ turns_none cs p x n ts

  pub loop_next : (k j : ℕ) (x y : S) (n m : ℕ) (ts rest : Tokens) → turns_within cs p k x n ts ≡ target → k ≡ j + 1 → starts cs ts ≡ true → p x n ts ≡ done y m rest → turns_within cs p j y m rest ≡ target
  loop_next k j x y n m ts rest kept e b r = sym (turns_turn cs p k j x y n m ts rest e b r) ∙ kept

  pub loop_stop : (k j : ℕ) (x : S) (n : ℕ) (ts : Tokens) (h : Halt) (new : Stand) → turns_within cs p k x n ts ≡ target → k ≡ j + 1
      → starts cs ts ≡ true → Halts (p x n ts) h new → Halts target h new
  loop_stop k j x n ts h new kept e b r = halts_also (p x n ts) target h new (λ s q. sym kept ∙ turns_stop cs p k j x n s ts new.tokens e b q) r

module _ {S : Type 0} (cs : List Class) (p : S → Reader S) (full_ : Reader S) (target : Read S) where
  pub list_end : (k : ℕ) (x : S) (n : ℕ) (ts : Tokens) → up_to cs p full_ k x n ts ≡ target → starts cs ts ≡ false → target ≡ done x n ts
  list_end k x n ts kept b = sym kept ∙ up_end cs p full_ k x n ts b

  pub list_next : (k j : ℕ) (x y : S) (n m : ℕ) (ts rest : Tokens) → up_to cs p full_ k x n ts ≡ target → k ≡ j + 1 → starts cs ts ≡ true → p x n ts ≡ done y m rest → up_to cs p full_ j y m rest ≡ target
  list_next k j x y n m ts rest kept e b r = sym (up_turn cs p full_ k j x y n m ts rest e b r) ∙ kept

  pub list_stop : (k j : ℕ) (x : S) (n : ℕ) (ts : Tokens) (h : Halt) (new : Stand) → up_to cs p full_ k x n ts ≡ target → k ≡ j + 1
      → starts cs ts ≡ true → Halts (p x n ts) h new → Halts target h new
  list_stop k j x n ts h new kept e b r = halts_also (p x n ts) target h new (λ s q. sym kept ∙ up_stop cs p full_ k j x n s ts new.tokens e b q) r

-- ---- past the end of a list

same_stop : {A B : Type 0} (i j : Stop) (u v : Tokens) → ◌≡◌ {A = Read A} (stop i u) (stop j v) → ◌≡◌ {A = Read B} (stop i u) (stop j v)
same_stop i j u v e = let p : i ≡ j = cc in let q : u ≡ v = cc in ap (λ (a : Stop). stop a u) p ∙ ap (stop j) q

over_any : {A B : Type 0} (k s : Stop) (b : Bool) (ts rest : Tokens) → ◌≡◌ {A = Read A} (if b then stop k ts else stop unexpected ts) (stop s rest) → ◌≡◌ {A = Read B} (if b then stop k ts else stop unexpected ts) (stop s rest)
over_any k s true ts rest e = same_stop k s ts rest e
over_any k s false ts rest e = same_stop unexpected s ts rest e

full_any : {A B : Type 0} (cs : List Class) (n : ℕ) (ts : Tokens) (s : Stop) (rest : Tokens) → full {S = A} cs n ts ≡ stop s rest → full {S = B} cs n ts ≡ stop s rest
full_any {A} {B} cs n ts s rest e = by (terminal (class.Comma ∷ []) n ts) e
  where
    by : (r : Read Token) → ◌≡◌ {A = Read A} (and_then r (λ c. over too_many cs)) (stop s rest) → ◌≡◌ {A = Read B} (and_then r (λ c. over too_many cs)) (stop s rest)
    by (done c m us) h = over_any too_many s (starts cs us) us rest h
    by (stop j us) h = same_stop j s us rest h

module _ {S : Type 0} (cs : List Class) (p : S → Reader S) (first : List Class) (target : Read S) where
  pub list_past : (k : ℕ) (x : S) (n : ℕ) (s : Stop) (ts rest : Tokens) → up_to cs p (full first) k x n ts ≡ target → k ≡ 0
      → starts cs ts ≡ true → full {S = Unit {0}} first n ts ≡ stop s rest → target ≡ stop s rest
  list_past k x n s ts rest kept z b r = sym kept ∙ up_full cs p (full first) k x n s ts rest z b (full_any first n ts s rest r)
