-- Sets of classes, and rests that begin alike.
use Rattle.std.proofs.Common.{◌≡◌, ◌<◌, List, [], ◌∷◌, ◌++◌, length, Bool, true, false, ◌||◌, ◌&&◌, not, ◌⊎◌, inl, inr, refl, ap, ◌∙◌, arith}
use Rattle.std.specs.Prelude.{nat_eq}
use Rattle.std.proofs.lemmas.Bool.{eqb-true, eq-eqb}
use Rattle.sql_grammar.specs.declared.class.Class.{Class}
use Rattle.sql_grammar.specs.Class.{rank, Token, Tokens, among, starts}

-- ---- sets of classes

-- no class is of both
abbrev pub apart : List Class → List Class → Bool
apart [] ds = true
apart (c ∷ cs) ds = not (among c ds) && apart cs ds

pub and_left : (a b : Bool) → (a && b) ≡ true → a ≡ true
and_left true b e = refl
and_left false b e = absurd (cc)

pub and_right : (a b : Bool) → (a && b) ≡ true → b ≡ true
and_right true b e = e
and_right false b e = absurd (cc)

pub not_true : (a : Bool) → not a ≡ true → a ≡ false
not_true true e = absurd (cc)
not_true false e = refl

pub or_true : (a b : Bool) → (a || b) ≡ true → (a ≡ true) ⊎ (b ≡ true)
or_true true b e = inl refl
or_true false b e = inr e

pub or_left : (a b : Bool) → (a || b) ≡ false → a ≡ false
or_left true b e = absurd (cc)
or_left false b e = refl

pub or_right : (a b : Bool) → (a || b) ≡ false → b ≡ false
or_right true b e = absurd (cc)
or_right false b e = e

pub or_false : (a b : Bool) → a ≡ false → b ≡ false → (a || b) ≡ false
or_false a b p q = rw (p, q) refl

pub or_true_right : (a b : Bool) → b ≡ true → (a || b) ≡ true
or_true_right true b e = refl
or_true_right false b e = e

pub both : (a : Bool) → a ≡ true → a ≡ false → ⊥
both true p q = cc
both false p q = cc

pub same_set : (c d : Class) (ds : List Class) → rank c ≡ rank d → among c ds ≡ among d ds
same_set c d [] e = refl
same_set c d (x ∷ xs) e = rw (same_set c d xs e, e) refl

pub apart_here : (c d : Class) (ds : List Class) → not (among d ds) ≡ true → nat_eq (rank c) (rank d) ≡ true → among c ds ≡ false
apart_here c d ds h e = same_set c d ds (eqb-true (rank c) (rank d) e) ∙ not_true _ h

pub apart_at : (cs ds : List Class) (c : Class) → apart cs ds ≡ true → among c cs ≡ true → among c ds ≡ false
apart_at [] ds c h e = absurd (cc)
apart_at (x ∷ xs) ds c h e =
    elim (or_true (nat_eq (rank c) (rank x)) (among c xs) e)
    [ inl p ↦ apart_here c x ds (and_left _ _ h) p | inr p ↦ apart_at xs ds c (and_right _ _ h) p ]

pub among-append : (c : Class) (cs ds : List Class) → among c (cs ++ ds) ≡ (among c cs || among c ds)
among-append c [] ds = refl
among-append c (x ∷ xs) ds = rw (among-append c xs ds) (or_assoc (nat_eq (rank c) (rank x)) (among c xs) (among c ds))
  where
    or_assoc : (a b d : Bool) → (a || (b || d)) ≡ ((a || b) || d)
    or_assoc true b d = refl
    or_assoc false b d = refl

pub starts-append : (cs ds : List Class) (ts : Tokens) → starts (cs ++ ds) ts ≡ (starts cs ts || starts ds ts)
starts-append cs ds [] = refl
starts-append cs ds (t ∷ ts) = among-append t.class cs ds

pub starts_apart : (cs ds : List Class) (ts : Tokens) → apart cs ds ≡ true → starts cs ts ≡ true → starts ds ts ≡ false
starts_apart cs ds [] h e = refl
starts_apart cs ds (t ∷ ts) h e = apart_at cs ds t.class h e

pub starts-more : (cs : List Class) (ts us : Tokens) → starts cs ts ≡ true → starts cs (ts ++ us) ≡ true
starts-more cs [] us e = absurd (cc)
starts-more cs (t ∷ ts) us e = e

-- ---- rests with the same next token

abbrev pub Alike : Tokens → Tokens → Type 0
Alike [] [] = Unit {0}
Alike [] (u ∷ us) = ⊥
Alike (t ∷ ts) [] = ⊥
Alike (t ∷ ts) (u ∷ us) = t ≡ u

pub alike-append : (ts x y : Tokens) → Alike x y → Alike (ts ++ x) (ts ++ y)
alike-append [] x y h = h
alike-append (t ∷ ts) x y h = refl

pub starts-alike : (cs : List Class) (x y : Tokens) → Alike x y → starts cs x ≡ starts cs y
starts-alike cs [] [] h = refl
starts-alike cs [] (u ∷ us) h = elim h [ ]
starts-alike cs (t ∷ ts) [] h = elim h [ ]
starts-alike cs (t ∷ ts) (u ∷ us) h = ap (λ (v : Token). among v.class cs) h

abbrev pub covers : List Class → List Class → Bool
covers [] ds = true
covers (c ∷ cs) ds = among c ds && covers cs ds

pub covers_here : (c d : Class) (ds : List Class) → among d ds ≡ true → nat_eq (rank c) (rank d) ≡ true → among c ds ≡ true
covers_here c d ds h e = same_set c d ds (eqb-true (rank c) (rank d) e) ∙ h

pub covers_at : (cs ds : List Class) (c : Class) → covers cs ds ≡ true → among c cs ≡ true → among c ds ≡ true
covers_at [] ds c h e = absurd (cc)
covers_at (x ∷ xs) ds c h e =
    elim (or_true (nat_eq (rank c) (rank x)) (among c xs) e)
    [ inl p ↦ covers_here c x ds (and_left _ _ h) p | inr p ↦ covers_at xs ds c (and_right _ _ h) p ]

pub starts-covers : (cs ds : List Class) (ts : Tokens) → covers cs ds ≡ true → starts cs ts ≡ true → starts ds ts ≡ true
starts-covers cs ds [] h e = absurd (cc)
starts-covers cs ds (t ∷ ts) h e = covers_at cs ds t.class h e

pub tells : (b : Bool) → (b ≡ true) ⊎ (b ≡ false)
tells true = inl refl
tells false = inr refl

pub no-covers : (cs ds : List Class) (ts : Tokens) → covers cs ds ≡ true → starts ds ts ≡ false → starts cs ts ≡ false
no-covers cs ds ts h e = elim (tells (starts cs ts)) [ inl k ↦ absurd (both _ (starts-covers cs ds ts h k) e) | inr k ↦ k ]

pub covers_more : (cs xs ds : List Class) (c : Class) → covers cs ds ≡ true → covers cs (c ∷ ds) ≡ true
covers_more [] xs ds c h = refl
covers_more (x ∷ cs) xs ds c h = rw (or_true_right (nat_eq (rank x) (rank c)) (among x ds) (and_left _ _ h)) (covers_more cs xs ds c (and_right _ _ h))

pub covers_self : (cs : List Class) → covers cs cs ≡ true
covers_self [] = refl
covers_self (c ∷ cs) = let here : among c (c ∷ cs) ≡ true = rw (eq-eqb (rank c) (rank c) refl) refl in rw here (covers_more cs [] cs c (covers_self cs))

pub begins_with : (cs : List Class) (ts x : Tokens) → starts cs ts ≡ true → starts cs (ts ++ x) ≡ true
begins_with cs [] x e = absurd (cc)
begins_with cs (t ∷ ts) x e = e

-- the same choice, before rests that are alike
pub choice_alike : (cs : List Class) (ts x y : Tokens) → Alike x y → starts cs (ts ++ x) ≡ starts cs (ts ++ y)
choice_alike cs ts x y same = starts-alike cs (ts ++ x) (ts ++ y) (alike-append ts x y same)

pub some_length : (cs : List Class) (ts : Tokens) → starts cs ts ≡ true → 0 < length ts
some_length cs [] e = absurd (cc)
some_length cs (t ∷ ts) e = omega arith
