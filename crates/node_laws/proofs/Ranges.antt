-- Declared columns lie below the width.
use Rattle.std.specs.List.{filter_map, cons_option}
use Rattle.std.proofs.Common.{ℕ, suc, ◌≡◌, ◌<◌, ◌≤◌, ◌+◌, refl, cond, Option, Some, None, Bool, true, false, List, [], ◌∷◌, ◌++◌, length, arith}
use Rattle.scalar_exprs.specs.declared.expr.Expr.{Expr}
use Rattle.physical_plan.specs.Facts.{fact_of}
use Rattle.physical_plan.specs.Properties.{Renaming, is_column, place_from, literals_from, pair_before, pairs_renamed, shifted, shifted_columns, joined_pairs, left_keys, right_keys}
use Rattle.node_laws.specs.Joins.{Within, PairsWithin}

pub within_append : (w : ℕ) (cs ds : List ℕ) → Within w cs → Within w ds → Within w (cs ++ ds)
within_append w [] ds h i = i
within_append w (c ∷ cs) ds h i = (h.0, within_append w cs ds h.1 i)

pub pairs_within_append : (w : ℕ) (ps qs : List (ℕ × ℕ)) → PairsWithin w ps → PairsWithin w qs → PairsWithin w (ps ++ qs)
pairs_within_append w [] qs h i = i
pairs_within_append w (p ∷ ps) qs h i = (h.0, h.1, pairs_within_append w ps qs h.2 i)

pub within_more : (w v : ℕ) (cs : List ℕ) → Within w cs → Within (w + v) cs
within_more w v [] h = tt
within_more w v (c ∷ cs) h = ((let a = h.0 in omega arith), within_more w v cs h.1)

pub pairs_within_more : (w v : ℕ) (ps : List (ℕ × ℕ)) → PairsWithin w ps → PairsWithin (w + v) ps
pairs_within_more w v [] h = tt
pairs_within_more w v (p ∷ ps) h = ((let a = h.0 in omega arith), (let a = h.1 in omega arith), pairs_within_more w v ps h.2)

pub within_shifted : (w v : ℕ) (cs : List ℕ) → Within v cs → Within (w + v) (shifted_columns w cs)
within_shifted w v [] h = tt
within_shifted w v (c ∷ cs) h = ((let a = h.0 in omega arith), within_shifted w v cs h.1)

pub pairs_within_shifted : (w v : ℕ) (ps : List (ℕ × ℕ)) → PairsWithin v ps → PairsWithin (w + v) (shifted w ps)
pairs_within_shifted w v [] h = tt
pairs_within_shifted w v (p ∷ ps) h = ((let a = h.0 in omega arith), (let a = h.1 in omega arith), pairs_within_shifted w v ps h.2)

pub pairs_within_joined : (w v : ℕ) (keys : List (ℕ × ℕ)) → Within w (left_keys keys) → Within v (right_keys keys) → PairsWithin (w + v) (joined_pairs w keys)
pairs_within_joined w v [] h i = tt
pairs_within_joined w v (k ∷ ks) h i = ((let a = h.0 in omega arith), (let a = i.0 in omega arith), pairs_within_joined w v ks h.1 i.1)

-- ---- new places

pub place_below : (os : List (Option ℕ)) (at c d : ℕ) → place_from at os c ≡ Some d → d < at + length os
place_below [] at c d e = cc
place_below (o ∷ os) at c d e = go (λ q. place_below os (at + 1) c d q) (is_column o c) e
  where
    go : (place_from (at + 1) os c ≡ Some d → d < at + 1 + length os) → (b : Bool) → cond {A = Option ℕ} b (Some at) (place_from (at + 1) os c) ≡ Some d → d < at + suc (length os)
    go f true p = let q : at ≡ d = cc in omega arith
    go f false p = let q = f p in omega arith

module _ (w : ℕ) (f : Renaming) (below : (c d : ℕ) → f c ≡ Some d → d < w) where
  pub within_renamed : (cs : List ℕ) → Within w (filter_map f cs)
  within_renamed [] = tt
  within_renamed (c ∷ cs) = go (within_renamed cs) (f c) refl
    where
      go : Within w (filter_map f cs) → (o : Option ℕ) → f c ≡ o → Within w (cons_option o (filter_map f cs))
      go more None e = more
      go more (Some d) e = (below c d e, more)

  pub pairs_within_renamed : (ps : List (ℕ × ℕ)) → PairsWithin w (pairs_renamed f ps)
  pairs_within_renamed [] = tt
  pairs_within_renamed (p ∷ ps) = go (pairs_within_renamed ps) (f p.0) refl (f p.1) refl
    where
      go : PairsWithin w (pairs_renamed f ps) → (a : Option ℕ) → f p.0 ≡ a → (b : Option ℕ) → f p.1 ≡ b → PairsWithin w (pair_before a b (pairs_renamed f ps))
      go more None e b i = more
      go more (Some a) e None i = more
      go more (Some a) e (Some b) i = (below p.0 a e, below p.1 b i, more)

pub literals_below : (es : List Expr) (at w : ℕ) → at + length es ≤ w → Within w (literals_from at es)
literals_below [] at w h = tt
literals_below (e ∷ es) at w h = go (literals_below es (at + 1) w (omega arith)) (fact_of e).literal
  where
    go : Within w (literals_from (at + 1) es) → (b : Bool) → Within w (cond {A = List ℕ} b (at ∷ literals_from (at + 1) es) (literals_from (at + 1) es))
    go more true = ((omega arith), more)
    go more false = more
