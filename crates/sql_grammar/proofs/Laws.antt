-- What a reader owes to a phrase, and that each way to build phrases keeps it.
use Rattle.std.proofs.Common.{◌≡◌, ◌≢◌, ℕ, List, [], ◌∷◌, ◌++◌, Bool, true, false, ◌||◌, ◌&&◌, ◌⊎◌, inl, inr, if◌then◌else◌, refl, sym, ap, ◌∙◌, subst, append_assoc}
use Rattle.std.proofs.lemmas.List.{append_cancel_right}
use Rattle.sql_grammar.specs.declared.class.Class.{Class}
use Rattle.sql_grammar.specs.Class.{Token, Tokens, among, starts}
use Rattle.sql_grammar.specs.Phrase.{Phrase, Matching, Terminal, Then, Empty, Count, Either, Never}
use Rattle.sql_grammar.specs.Reader.{Stop, unexpected, too_deep, too_many, Read, done, stop, Reader, and_then, ◌>>=◌, pure, count, matching, terminal, either, over}
use Rattle.sql_grammar.proofs.Classes.{apart, or_left, or_right, or_true, or_true_right, and_left, and_right, both, starts-append, starts_apart, starts-more, among-append, Alike, alike-append, covers, covers_at, starts-covers, no-covers, begins_with, choice_alike}

-- ---- what readers owe to phrases

pub record Shape : Type 0 where
  -- the classes that a token list of the phrase may begin with
  pub first : List Class
  -- the classes with which one might go on
  pub goes_on : List Class
  pub empty : Bool
  -- whether the phrase goes on with each token of those classes
  pub exact : Bool

pub record Splits {A : Type 0} (P : Phrase A) (n : ℕ) (a : A) (m : ℕ) (ts rest : Tokens) : Type 0 where
  pub used : Tokens
  pub is : ts ≡ used ++ rest
  pub spelled : P n a m used

-- A limit is passed by a token with which the phrase might go on.
abbrev pub Meets : Stop → Tokens → Tokens → Type 0
Meets unexpected rest more = Unit {0}
Meets too_deep [] more = ⊥
Meets too_deep (t ∷ rest) [] = ⊥
Meets too_deep (t ∷ rest) (u ∷ more) = t ≡ u
Meets too_many [] more = ⊥
Meets too_many (t ∷ rest) [] = ⊥
Meets too_many (t ∷ rest) (u ∷ more) = t ≡ u

pub meets-append : (k : Stop) (rest more x : Tokens) → Meets k rest more → Meets k rest (more ++ x)
meets-append unexpected rest more x h = h
meets-append too_deep [] more x h = h
meets-append too_deep (t ∷ rest) [] x h = elim h [ ]
meets-append too_deep (t ∷ rest) (u ∷ more) x h = h
meets-append too_many [] more x h = h
meets-append too_many (t ∷ rest) [] x h = elim h [ ]
meets-append too_many (t ∷ rest) (u ∷ more) x h = h

pub meets_head : (k : Stop) (t : Token) (ts more : Tokens) → Meets k (t ∷ ts) (t ∷ more)
meets_head unexpected t ts more = tt
meets_head too_deep t ts more = refl
meets_head too_many t ts more = refl

pub record Begins {A : Type 0} (W : Phrase A) (n : ℕ) (k : Stop) (ts rest : Tokens) : Type 0 where
  pub used : Tokens
  pub is : ts ≡ used ++ rest
  pub value : A
  pub counted : ℕ
  pub more : Tokens
  pub meets : Meets k rest more
  pub spelled : W n value counted (used ++ more)

pub record Sample {A : Type 0} (P : Phrase A) (n : ℕ) : Type 0 where
  pub value : A
  pub counted : ℕ
  pub tokens : Tokens
  pub spelled : P n value counted tokens

abbrev pub Opens : Shape → Tokens → Type 0
Opens s ts = (starts s.first ts ≡ true) ⊎ ((ts ≡ []) × (s.empty ≡ true))

-- before a token with which it can't begin
abbrev pub Rests : {A : Type 0} → Bool → Reader A → ℕ → Tokens → Type 0
Rests {A} true f n ts = (a : A) × (m : ℕ) × (f n ts ≡ done a m ts)
Rests false f n ts = f n ts ≡ stop unexpected ts

-- a phrase goes on with each token of these classes
abbrev pub Takes : {A : Type 0} → List Class → Phrase A → Type 0
Takes {A} cs W = (n : ℕ) (t : Token) → among t.class cs ≡ true → (a : A) × (m : ℕ) × (more : Tokens) × W n a m (t ∷ more)

-- P is what f may read, within its limits; W and F are the same with wider limits.
pub record Laws {A : Type 0} (P W : Phrase A) (f F : Reader A) (s : Shape) : Type 0 where
  -- what is read is spelled so
  pub found : (n m : ℕ) (ts rest : Tokens) (a : A) → f n ts ≡ done a m rest → Splits P n a m ts rest
  -- the tokens before a refused one begin the phrase
  pub begun : (n : ℕ) (k : Stop) (ts rest : Tokens) → f n ts ≡ stop k rest → Begins W n k ts rest
  -- what is spelled is read, before what doesn't go on with it
  pub whole : (n m : ℕ) (a : A) (ts rest : Tokens) → P n a m ts → starts s.goes_on rest ≡ false → f n (ts ++ rest) ≡ done a m rest
  -- the outcome hangs on what was read and on the next token
  pub done_alike : (n m : ℕ) (ts x y : Tokens) (a : A) → Alike x y → f n (ts ++ x) ≡ done a m x → f n (ts ++ y) ≡ done a m y
  pub stop_alike : (n : ℕ) (k : Stop) (ts x y : Tokens) → Alike x y → f n (ts ++ x) ≡ stop k x → f n (ts ++ y) ≡ stop k y
  pub opens : (n m : ℕ) (a : A) (ts : Tokens) → P n a m ts → Opens s ts
  -- wider limits
  pub wide : (n m : ℕ) (a : A) (ts : Tokens) → P n a m ts → W n a m ts
  pub raise : (n m : ℕ) (ts rest : Tokens) (a : A) → f n ts ≡ done a m rest → F n ts ≡ done a m rest
  pub raise_stop : (n : ℕ) (ts rest : Tokens) → f n ts ≡ stop unexpected rest → F n ts ≡ stop unexpected rest
  pub sample : (n : ℕ) → Sample W n
  pub rests : (n : ℕ) (ts : Tokens) → starts s.first ts ≡ false → Rests s.empty F n ts
  pub takes : s.exact ≡ true → Takes s.first W
  pub none : s.empty ≡ true → (n : ℕ) → (a : A) × (m : ℕ) × W n a m []

-- ---- a reader after another

pub bind_done : {A B : Type 0} (r : Read A) (g : A → Reader B) (b : B) (m : ℕ) (rest : Tokens) → and_then r g ≡ done b m rest
    → (a : A) × (n : ℕ) × (mid : Tokens) × (r ≡ done a n mid) × (g a n mid ≡ done b m rest)
bind_done (done a n mid) g b m rest e = (a, n, mid, refl, e)
bind_done (stop k ts) g b m rest e = absurd (cc)

pub bind_stop : {A B : Type 0} (r : Read A) (g : A → Reader B) (k : Stop) (rest : Tokens) → and_then r g ≡ stop k rest
    → (r ≡ stop k rest) ⊎ ((a : A) × (n : ℕ) × (mid : Tokens) × (r ≡ done a n mid) × (g a n mid ≡ stop k rest))
bind_stop (done a n mid) g k rest e = inr (a, n, mid, refl, e)
bind_stop (stop j ts) g k rest e = inl (ap (λ i. stop i ts) (cc) ∙ ap (stop k) (cc))

abbrev pub after : Shape → Shape → Shape
after s t = record { first = s.first ++ (if s.empty then t.first else []); goes_on = t.goes_on ++ (if t.empty then s.goes_on else []); empty = s.empty && t.empty; exact = s.exact && (if s.empty then t.exact else true) }

module _ {A B : Type 0} (P W : Phrase A) (Q V : A → Phrase B) (f F : Reader A) (g G : A → Reader B) (s t : Shape)
    (p : Laws P W f F s) (q : (a : A) → Laws (Q a) (V a) (g a) (G a) t) where
  then_found : (n m : ℕ) (ts rest : Tokens) (b : B) → and_then (f n ts) g ≡ done b m rest → Splits (Then P Q) n b m ts rest
  then_found n m ts rest b e =
      let k = bind_done (f n ts) g b m rest e in
      let l = p.found n k.1 ts k.2 k.0 k.3 in
      let r = (q k.0).found k.1 m k.2 rest b k.4 in
      record {
        used = l.used ++ r.used;
        is = l.is ∙ ap (λ x. l.used ++ x) r.is ∙ sym (append_assoc l.used r.used rest);
        spelled = record { first = k.0; middle = k.1; front = l.used; back = r.used; is = refl; left = l.spelled; right = r.spelled };
      }

  then_begun : (n : ℕ) (k : Stop) (ts rest : Tokens) → and_then (f n ts) g ≡ stop k rest → Begins (Then W V) n k ts rest
  then_begun n k ts rest e =
      elim (bind_stop (f n ts) g k rest e) [
        | inl h ↦
            let l = p.begun n k ts rest h in
            let x = (q l.value).sample l.counted in
            record {
              used = l.used;
              is = l.is;
              value = x.value;
              counted = x.counted;
              more = l.more ++ x.tokens;
              meets = meets-append k rest l.more x.tokens l.meets;
              spelled = record { first = l.value; middle = l.counted; front = l.used ++ l.more; back = x.tokens; is = sym (append_assoc l.used l.more x.tokens); left = l.spelled; right = x.spelled };
            }
        | inr j ↦
            let l = p.found n j.1 ts j.2 j.0 j.3 in
            let r = (q j.0).begun j.1 k j.2 rest j.4 in
            record {
              used = l.used ++ r.used;
              is = l.is ∙ ap (λ x. l.used ++ x) r.is ∙ sym (append_assoc l.used r.used rest);
              value = r.value;
              counted = r.counted;
              more = r.more;
              meets = r.meets;
              spelled = record { first = j.0; middle = j.1; front = l.used; back = r.used ++ r.more; is = append_assoc l.used r.used r.more; left = p.wide n j.1 j.0 l.used l.spelled; right = r.spelled };
            }
      ]

  goes_on_split : (rest : Tokens) → starts (after s t).goes_on rest ≡ false → (starts t.goes_on rest ≡ false) × (starts (if t.empty then s.goes_on else []) rest ≡ false)
  goes_on_split rest e = let k = sym (starts-append t.goes_on (if t.empty then s.goes_on else []) rest) ∙ e in (or_left _ _ k, or_right _ _ k)

  middle_ends : (b : Bool) (rest : Tokens) → b ≡ true → starts (if b then s.goes_on else []) rest ≡ false → starts s.goes_on rest ≡ false
  middle_ends true rest e h = h
  middle_ends false rest e h = absurd (cc)

  ends_before : apart t.first s.goes_on ≡ true → (back rest : Tokens) → Opens t back → starts (if t.empty then s.goes_on else []) rest ≡ false → starts s.goes_on (back ++ rest) ≡ false
  ends_before clear back rest (inl h) e = starts_apart t.first s.goes_on (back ++ rest) clear (starts-more t.first back rest h)
  ends_before clear back rest (inr h) e = rw h.0 (middle_ends t.empty rest h.1 e)

  then_whole : apart t.first s.goes_on ≡ true → (n m : ℕ) (b : B) (ts rest : Tokens) → Then P Q n b m ts → starts (after s t).goes_on rest ≡ false → and_then (f n (ts ++ rest)) g ≡ done b m rest
  then_whole clear n m b ts rest h e =
      let k = goes_on_split rest e in
      let l = p.whole n h.middle h.first h.front (h.back ++ rest) h.left (ends_before clear h.back rest ((q h.first).opens h.middle m b h.back h.right) k.1) in
      let r = (q h.first).whole h.middle m b h.back rest h.right k.0 in
      ap (λ x. and_then (f n x) g) (ap (λ x. x ++ rest) h.is ∙ append_assoc h.front h.back rest) ∙ ap (λ x. and_then x g) l ∙ r

  split_same : (ts x mid : Tokens) (l r : Tokens) → ts ++ x ≡ l ++ mid → mid ≡ r ++ x → ts ≡ l ++ r
  split_same ts x mid l r u v = append_cancel_right ts (l ++ r) x (u ∙ ap (λ z. l ++ z) v ∙ sym (append_assoc l r x))

  then_done_alike : (n m : ℕ) (ts x y : Tokens) (b : B) → Alike x y → and_then (f n (ts ++ x)) g ≡ done b m x → and_then (f n (ts ++ y)) g ≡ done b m y
  then_done_alike n m ts x y b same e =
      let k = bind_done (f n (ts ++ x)) g b m x e in
      let l = p.found n k.1 (ts ++ x) k.2 k.0 k.3 in
      let r = (q k.0).found k.1 m k.2 x b k.4 in
      let w : f n (l.used ++ (r.used ++ x)) ≡ done k.0 k.1 (r.used ++ x) = ap (f n) (sym (l.is ∙ ap (λ z. l.used ++ z) r.is)) ∙ k.3 ∙ ap (done k.0 k.1) r.is in
      let v = p.done_alike n k.1 l.used (r.used ++ x) (r.used ++ y) k.0 (alike-append r.used x y same) w in
      let z = (q k.0).done_alike k.1 m r.used x y b same (ap (g k.0 k.1) (sym r.is) ∙ k.4) in
      let at : ts ++ y ≡ l.used ++ (r.used ++ y) = ap (λ u. u ++ y) (split_same ts x k.2 l.used r.used l.is r.is) ∙ append_assoc l.used r.used y in
      ap (λ u. and_then (f n u) g) at ∙ ap (λ u. and_then u g) v ∙ z

  then_stop_alike : (n : ℕ) (k : Stop) (ts x y : Tokens) → Alike x y → and_then (f n (ts ++ x)) g ≡ stop k x → and_then (f n (ts ++ y)) g ≡ stop k y
  then_stop_alike n k ts x y same e =
      elim (bind_stop (f n (ts ++ x)) g k x e) [
        | inl h ↦ ap (λ u. and_then u g) (p.stop_alike n k ts x y same h)
        | inr j ↦
            let l = p.found n j.1 (ts ++ x) j.2 j.0 j.3 in
            let r = (q j.0).begun j.1 k j.2 x j.4 in
            let w : f n (l.used ++ (r.used ++ x)) ≡ done j.0 j.1 (r.used ++ x) = ap (f n) (sym (l.is ∙ ap (λ z. l.used ++ z) r.is)) ∙ j.3 ∙ ap (done j.0 j.1) r.is in
            let v = p.done_alike n j.1 l.used (r.used ++ x) (r.used ++ y) j.0 (alike-append r.used x y same) w in
            let z = (q j.0).stop_alike j.1 k r.used x y same (ap (g j.0 j.1) (sym r.is) ∙ j.4) in
            let at : ts ++ y ≡ l.used ++ (r.used ++ y) = ap (λ u. u ++ y) (split_same ts x j.2 l.used r.used l.is r.is) ∙ append_assoc l.used r.used y in
            ap (λ u. and_then (f n u) g) at ∙ ap (λ u. and_then u g) v ∙ z
      ]

  first_left : (front back : Tokens) → starts s.first front ≡ true → starts (after s t).first (front ++ back) ≡ true
  first_left front back e = starts-append s.first (if s.empty then t.first else []) (front ++ back) ∙ ap (λ x. x || starts (if s.empty then t.first else []) (front ++ back)) (starts-more s.first front back e)

  first_right : (b : Bool) (back : Tokens) → b ≡ true → starts t.first back ≡ true → starts (s.first ++ (if b then t.first else [])) back ≡ true
  first_right true back e h = starts-append s.first t.first back ∙ or_true_right _ _ h
  first_right false back e h = absurd (cc)

  then_opens_at : (front back : Tokens) → Opens s front → Opens t back → Opens (after s t) (front ++ back)
  then_opens_at front back (inl h) r = inl (first_left front back h)
  then_opens_at front back (inr h) (inl r) = inl (ap (λ x. starts (after s t).first (x ++ back)) h.0 ∙ first_right s.empty back h.1 r)
  then_opens_at front back (inr h) (inr r) = inr (ap (λ x. x ++ back) h.0 ∙ r.0, rw (h.1, r.1) refl)

  then_opens : (n m : ℕ) (b : B) (ts : Tokens) → Then P Q n b m ts → Opens (after s t) ts
  then_opens n m b ts h = subst (Opens (after s t)) (sym h.is) (then_opens_at h.front h.back (p.opens n h.middle h.first h.front h.left) ((q h.first).opens h.middle m b h.back h.right))

  then_wide : (n m : ℕ) (b : B) (ts : Tokens) → Then P Q n b m ts → Then W V n b m ts
  then_wide n m b ts h = record { first = h.first; middle = h.middle; front = h.front; back = h.back; is = h.is; left = p.wide n h.middle h.first h.front h.left; right = (q h.first).wide h.middle m b h.back h.right }

  then_raise : (n m : ℕ) (ts rest : Tokens) (b : B) → and_then (f n ts) g ≡ done b m rest → and_then (F n ts) G ≡ done b m rest
  then_raise n m ts rest b e = let k = bind_done (f n ts) g b m rest e in ap (λ u. and_then u G) (p.raise n k.1 ts k.2 k.0 k.3) ∙ (q k.0).raise k.1 m k.2 rest b k.4

  then_raise_stop : (n : ℕ) (ts rest : Tokens) → and_then (f n ts) g ≡ stop unexpected rest → and_then (F n ts) G ≡ stop unexpected rest
  then_raise_stop n ts rest e =
      elim (bind_stop (f n ts) g unexpected rest e) [
        | inl h ↦ ap (λ u. and_then u G) (p.raise_stop n ts rest h)
        | inr k ↦ ap (λ u. and_then u G) (p.raise n k.1 ts k.2 k.0 k.3) ∙ (q k.0).raise_stop k.1 k.2 rest k.4
      ]

  then_sample : (n : ℕ) → Sample (Then W V) n
  then_sample n =
      let x = p.sample n in
      let y = (q x.value).sample x.counted in
      record { value = y.value; counted = y.counted; tokens = x.tokens ++ y.tokens; spelled = record { first = x.value; middle = x.counted; front = x.tokens; back = y.tokens; is = refl; left = x.spelled; right = y.spelled } }

  rests_at : (b c : Bool) (n : ℕ) (ts : Tokens) → Rests b F n ts → ((a : A) (k : ℕ) → starts t.first ts ≡ false → Rests c (G a) k ts) → starts (s.first ++ (if b then t.first else [])) ts ≡ false → Rests (b && c) (F >>= G) n ts
  rests_at true true n ts r h e = let x = h r.0 r.1 (or_right _ _ (sym (starts-append s.first t.first ts) ∙ e)) in (x.0, x.1, ap (λ u. and_then u G) r.2 ∙ x.2)
  rests_at true false n ts r h e = ap (λ u. and_then u G) r.2 ∙ h r.0 r.1 (or_right _ _ (sym (starts-append s.first t.first ts) ∙ e))
  rests_at false c n ts r h e = ap (λ u. and_then u G) r

  then_rests : (n : ℕ) (ts : Tokens) → starts (after s t).first ts ≡ false → Rests (after s t).empty (F >>= G) n ts
  then_rests n ts e = rests_at s.empty t.empty n ts (p.rests n ts (or_left _ _ (sym (starts-append s.first (if s.empty then t.first else []) ts) ∙ e))) (λ a i k. (q a).rests i ts k) e

  takes_right : (b c : Bool) (n : ℕ) (x : Token) → b ≡ s.empty → (s.empty ≡ true → (i : ℕ) → (a : A) × (m : ℕ) × W i a m []) → ((a : A) → c ≡ true → Takes t.first (V a)) → among x.class (if b then t.first else []) ≡ true → (if b then c else true) ≡ true
      → (v : B) × (m : ℕ) × (more : Tokens) × Then W V n v m (x ∷ more)
  takes_right true c n x be none q e k = let o = none (sym be) n in let y = q o.0 k o.1 x e in (y.0, y.1, y.2, record { first = o.0; middle = o.1; front = []; back = x ∷ y.2; is = refl; left = o.2; right = y.3 })
  takes_right false c n x be none q e k = absurd (cc)

  then_takes : (s.exact && (if s.empty then t.exact else true)) ≡ true → Takes (s.first ++ (if s.empty then t.first else [])) (Then W V)
  then_takes ex n x e =
      elim (or_true (among x.class s.first) (among x.class (if s.empty then t.first else [])) (sym (among-append x.class s.first (if s.empty then t.first else [])) ∙ e)) [
        | inl h ↦
            let l = p.takes (and_left _ _ ex) n x h in
            let r = (q l.0).sample l.1 in
            (r.value, r.counted, l.2 ++ r.tokens, record { first = l.0; middle = l.1; front = x ∷ l.2; back = r.tokens; is = refl; left = l.3; right = r.spelled })
        | inr h ↦ takes_right s.empty t.exact n x refl p.none (λ a. (q a).takes) h (and_right _ _ ex)
      ]

  then_none : (s.empty && t.empty) ≡ true → (n : ℕ) → (b : B) × (m : ℕ) × Then W V n b m []
  then_none e n = let l = p.none (and_left _ _ e) n in let r = (q l.0).none (and_right _ _ e) l.1 in (r.0, r.1, record { first = l.0; middle = l.1; front = []; back = []; is = refl; left = l.2; right = r.2 })

  pub then_laws : apart t.first s.goes_on ≡ true → Laws (Then P Q) (Then W V) (f >>= g) (F >>= G) (after s t)
  then_laws clear = record {
    found = then_found;
    begun = then_begun;
    whole = then_whole clear;
    done_alike = then_done_alike;
    stop_alike = then_stop_alike;
    opens = then_opens;
    wide = then_wide;
    raise = then_raise;
    raise_stop = then_raise_stop;
    sample = then_sample;
    rests = then_rests;
    takes = then_takes;
    none = then_none;
  }

-- ---- one token

abbrev pub one_of : List Class → Shape
one_of cs = record { first = cs; goes_on = []; empty = false; exact = true }

not_so : (b : Bool) → (b ≡ true → ⊥) → b ≡ false
not_so true h = absurd (h refl)
not_so false h = refl

module _ (passes : Token → Bool) (cs : List Class) (only : (t : Token) → passes t ≡ true → among t.class cs ≡ true) where
  terminal_done_is : (n m : ℕ) (t u : Token) (ts rest : Tokens) (b : Bool) → passes t ≡ b → (if b then done t n ts else stop unexpected (t ∷ ts)) ≡ done u m rest → (passes t ≡ true) × (t ≡ u) × (ts ≡ rest) × (m ≡ n)
  terminal_done_is n m t u ts rest true h e = (h, cc, cc, cc)
  terminal_done_is n m t u ts rest false h e = absurd (cc)

  terminal_found : (n m : ℕ) (ts rest : Tokens) (u : Token) → matching passes n ts ≡ done u m rest → Splits (Matching passes) n u m ts rest
  unfolding matching
  terminal_found n m [] rest u e = absurd (cc)
  terminal_found n m (t ∷ ts) rest u e =
      let k = terminal_done_is n m t u ts rest (passes t) refl e in
      record { used = t ∷ []; is = ap (λ x. t ∷ x) k.2; spelled = (ap (λ (x : Token). x ∷ []) k.1, subst (λ (v : Token). passes v ≡ true) k.1 k.0, k.3) }

  terminal_stop_is : (n : ℕ) (k : Stop) (t : Token) (ts rest : Tokens) (b : Bool) → (if b then done t n ts else stop unexpected (t ∷ ts)) ≡ stop k rest → (unexpected ≡ k) × (t ∷ ts ≡ rest)
  terminal_stop_is n k t ts rest true e = absurd (cc)
  terminal_stop_is n k t ts rest false e = (cc, cc)

  meets_unexpected : (k : Stop) (rest more : Tokens) → unexpected ≡ k → Meets k rest more
  meets_unexpected k rest more e = subst (λ (z : Stop). Meets z rest more) e tt

  terminal_begun : ((n : ℕ) → Sample (Matching passes) n) → (n : ℕ) (k : Stop) (ts rest : Tokens) → matching passes n ts ≡ stop k rest → Begins (Matching passes) n k ts rest
  unfolding matching
  terminal_begun z n k [] rest e = let x = z n in record { used = []; is = cc; value = x.value; counted = x.counted; more = x.tokens; meets = meets_unexpected k rest x.tokens (cc); spelled = x.spelled }
  terminal_begun z n k (t ∷ ts) rest e = let x = z n in let h = terminal_stop_is n k t ts rest (passes t) e in record { used = []; is = h.1; value = x.value; counted = x.counted; more = x.tokens; meets = meets_unexpected k rest x.tokens h.0; spelled = x.spelled }

  terminal_whole : (n m : ℕ) (u : Token) (ts rest : Tokens) → Matching passes n u m ts → matching passes n (ts ++ rest) ≡ done u m rest
  unfolding matching
  terminal_whole n m u ts rest h = rw h.0 (rw (h.1, h.2) refl)

  done_same : (n m : ℕ) (t u : Token) (ts x : Tokens) (b : Bool) → (if b then done t n (ts ++ x) else stop unexpected (t ∷ (ts ++ x))) ≡ done u m x → (b ≡ true) × (t ≡ u) × (ts ≡ []) × (n ≡ m)
  done_same n m t u ts x true e = (refl, cc, append_cancel_right ts [] x (cc), cc)
  done_same n m t u ts x false e = absurd (cc)

  no_longer : (t : Token) (x : Tokens) → x ≡ t ∷ x → ⊥
  no_longer t x e = cons_not_nil (append_cancel_right [] (t ∷ []) x e)
    where
      cons_not_nil : [] ≡ t ∷ [] → ⊥
      cons_not_nil h = cc

  terminal_done_alike : (n m : ℕ) (ts x y : Tokens) (u : Token) → Alike x y → matching passes n (ts ++ x) ≡ done u m x → matching passes n (ts ++ y) ≡ done u m y
  unfolding matching
  terminal_done_alike n m [] [] y u same e = absurd (cc)
  terminal_done_alike n m [] (t ∷ x) y u same e = absurd (no_longer t x (terminal_done_is n m t u x (t ∷ x) (passes t) refl e).2)
  terminal_done_alike n m (t ∷ ts) x y u same e = let k = done_same n m t u ts x (passes t) e in rw (k.0, k.2, k.3) (ap (λ v. done v m y) k.1)

  stop_same : (n : ℕ) (k : Stop) (t : Token) (ts x : Tokens) (b : Bool) → (if b then done t n (ts ++ x) else stop unexpected (t ∷ (ts ++ x))) ≡ stop k x → ⊥
  stop_same n k t ts x true e = cc
  stop_same n k t ts x false e = cons_not_nil (append_cancel_right (t ∷ ts) [] x (cc))
    where
      cons_not_nil : t ∷ ts ≡ [] → ⊥
      cons_not_nil h = cc

  refused : (n : ℕ) (k : Stop) (t : Token) (x : Tokens) (b : Bool) → (if b then done t n x else stop unexpected (t ∷ x)) ≡ stop k (t ∷ x) → (b ≡ false) × (unexpected ≡ k)
  refused n k t x true e = absurd (cc)
  refused n k t x false e = (refl, cc)

  terminal_stop_alike : (n : ℕ) (k : Stop) (ts x y : Tokens) → Alike x y → matching passes n (ts ++ x) ≡ stop k x → matching passes n (ts ++ y) ≡ stop k y
  unfolding matching
  terminal_stop_alike n k [] [] [] same e = e
  terminal_stop_alike n k [] [] (u ∷ y) same e = elim same [ ]
  terminal_stop_alike n k [] (t ∷ x) [] same e = elim same [ ]
  terminal_stop_alike n k [] (t ∷ x) (u ∷ y) same e =
      let h = refused n k t x (passes t) e in
      let b : passes u ≡ false = subst (λ (v : Token). passes v ≡ false) same h.0 in rw b (ap (λ i. stop i (u ∷ y)) h.1)
  terminal_stop_alike n k (t ∷ ts) x y same e = absurd (stop_same n k t ts x (passes t) e)

  pub terminal_rests : (n : ℕ) (ts : Tokens) → starts cs ts ≡ false → matching passes n ts ≡ stop unexpected ts
  unfolding matching
  terminal_rests n [] e = refl
  terminal_rests n (t ∷ ts) e = let k : passes t ≡ false = not_so (passes t) (λ h. both (among t.class cs) (only t h) e) in rw k refl

  pub matching_laws : (u : Token) → passes u ≡ true → (ex : Bool) → (ex ≡ true → (t : Token) → among t.class cs ≡ true → passes t ≡ true) → Laws (Matching passes) (Matching passes) (matching passes) (matching passes) (record { first = cs; goes_on = []; empty = false; exact = ex })
  matching_laws u e ex all =
      let x : (n : ℕ) → Sample (Matching passes) n = λ n. record { value = u; counted = n; tokens = u ∷ []; spelled = (refl, e, refl) } in
      record {
        found = terminal_found;
        begun = terminal_begun x;
        whole = λ n m u ts rest h _. terminal_whole n m u ts rest h;
        done_alike = terminal_done_alike;
        stop_alike = terminal_stop_alike;
        opens = λ n m u ts h. inl (rw h.0 (only u h.1));
        wide = λ n m u ts h. h;
        raise = λ n m ts rest u e. e;
        raise_stop = λ n ts rest e. e;
        sample = x;
        rests = terminal_rests;
        takes = λ y n t h. (t, n, [], (refl, all y t h, refl));
        none = λ h. absurd (cc);
      }

pub terminal_laws : (cs : List Class) (c : Class) → among c cs ≡ true → Laws (Terminal cs) (Terminal cs) (terminal cs) (terminal cs) (one_of cs)
terminal_laws cs c e = matching_laws (λ t. among t.class cs) cs (λ t h. h) (record { class = c; text = []; place = 0 }) e true (λ _ t h. h)

-- ---- no token

abbrev pub nothing : Shape
nothing = record { first = []; goes_on = []; empty = true; exact = true }

module _ {A : Type 0} (a : A) where
  pub empty_laws : Laws (Empty a) (Empty a) (pure a) (pure a) nothing
  empty_laws = record {
    found = λ n m ts rest b e. record { used = []; is = cc; spelled = (refl, cc, cc) };
    begun = λ n k ts rest e. absurd (cc);
    whole = λ n m b ts rest h e. rw (h.0, h.1, h.2) refl;
    done_alike = λ n m ts x y b same e. let k : ts ++ x ≡ x = cc in let z : ts ≡ [] = append_cancel_right ts [] x k in let v : a ≡ b = cc in let w : n ≡ m = cc in rw (z, v, w) refl;
    stop_alike = λ n k ts x y same e. absurd (cc);
    opens = λ n m b ts h. inr (h.0, refl);
    wide = λ n m b ts h. h;
    raise = λ n m ts rest b e. e;
    raise_stop = λ n ts rest e. e;
    sample = λ n. record { value = a; counted = n; tokens = []; spelled = (refl, refl, refl) };
    rests = λ n ts e. (a, n, refl);
    takes = λ _ n t h. absurd (cc);
    none = λ _ n. (a, n, (refl, refl, refl));
  }

pub count_laws : Laws Count Count count count nothing
count_laws = record {
  found = λ n m ts rest b e. record { used = []; is = cc; spelled = (refl, cc, cc) };
  begun = λ n k ts rest e. absurd (cc);
  whole = λ n m b ts rest h e. rw (h.0, h.1, h.2) refl;
  done_alike = λ n m ts x y b same e. let k : ts ++ x ≡ x = cc in let z : ts ≡ [] = append_cancel_right ts [] x k in let v : n ≡ b = cc in let w : n ≡ m = cc in ap (λ (u : Tokens). done n n (u ++ y)) z ∙ ap (λ i. done i n y) v ∙ ap (λ i. done b i y) w;
  stop_alike = λ n k ts x y same e. absurd (cc);
  opens = λ n m b ts h. inr (h.0, refl);
  wide = λ n m b ts h. h;
  raise = λ n m ts rest b e. e;
  raise_stop = λ n ts rest e. e;
  sample = λ n. record { value = n; counted = n; tokens = []; spelled = (refl, refl, refl) };
  rests = λ n ts e. (n, n, refl);
  takes = λ _ n t h. absurd (cc);
  none = λ _ n. (n, n, (refl, refl, refl));
}

-- ---- past a limit

module _ {A : Type 0} (W : Phrase A) (F : Reader A) (cs ds : List Class) (takes : Takes cs W) (x : (n : ℕ) → Sample W n) (keeps : (n : ℕ) (ts : Tokens) → starts cs ts ≡ false → F n ts ≡ stop unexpected ts) where
  over_is : (k j : Stop) (b : Bool) (ts rest : Tokens) → (if◌then◌else◌ {A = Read A} b (stop k ts) (stop unexpected ts)) ≡ stop j rest → ((b ≡ true) × (k ≡ j) × (ts ≡ rest)) ⊎ ((b ≡ false) × (unexpected ≡ j) × (ts ≡ rest))
  over_is k j true ts rest e = inl (refl, cc, cc)
  over_is k j false ts rest e = inr (refl, cc, cc)

  over_never : {B : Type 0} (k : Stop) (b : Bool) (m : ℕ) (ts rest : Tokens) (a : A) → (if b then stop k ts else stop unexpected ts) ≡ done a m rest → B
  over_never k true m ts rest a e = absurd (cc)
  over_never k false m ts rest a e = absurd (cc)

  over_begun_at : (n : ℕ) (k : Stop) (ts : Tokens) → starts cs ts ≡ true → Begins W n k ts ts
  over_begun_at n k [] e = absurd (cc)
  over_begun_at n k (t ∷ ts) e = let h = takes n t e in record { used = []; is = refl; value = h.0; counted = h.1; more = t ∷ h.2; meets = meets_head k t ts h.2; spelled = h.3 }

  over_begun : (k : Stop) (n : ℕ) (j : Stop) (ts rest : Tokens) → over {A = A} k cs n ts ≡ stop j rest → Begins W n j ts rest
  over_begun k n j ts rest e =
      elim (over_is k j (starts cs ts) ts rest e) [
        | inl h ↦ subst (Begins W n j ts) h.2 (over_begun_at n j ts h.0)
        | inr h ↦ let y = x n in record { used = []; is = h.2; value = y.value; counted = y.counted; more = y.tokens; meets = subst (λ (z : Stop). Meets z rest y.tokens) h.1 tt; spelled = y.spelled }
      ]

  over_stop_alike : (k : Stop) (n : ℕ) (j : Stop) (ts x y : Tokens) → Alike x y → over {A = A} k cs n (ts ++ x) ≡ stop j x → over {A = A} k cs n (ts ++ y) ≡ stop j y
  over_stop_alike k n j ts x y same e =
      rw (← choice_alike cs ts x y same) (elim (over_is k j (starts cs (ts ++ x)) (ts ++ x) x e) [
        | inl h ↦ let z : ts ≡ [] = append_cancel_right ts [] x h.2 in rw (h.0, z) (ap (λ i. stop i y) h.1)
        | inr h ↦ let z : ts ≡ [] = append_cancel_right ts [] x h.2 in rw (h.0, z) (ap (λ i. stop i y) h.1)
      ])

  over_raise_stop : (k : Stop) → k ≢ unexpected → (n : ℕ) (ts rest : Tokens) → over {A = A} k cs n ts ≡ stop unexpected rest → F n ts ≡ stop unexpected rest
  over_raise_stop k ne n ts rest e =
      elim (over_is k unexpected (starts cs ts) ts rest e) [
        | inl h ↦ absurd (ne h.1)
        | inr h ↦ keeps n ts h.0 ∙ ap (stop unexpected) h.2
      ]

  pub over_laws : (k : Stop) → k ≢ unexpected → Laws Never W (over k cs) F (record { first = cs; goes_on = ds; empty = false; exact = true })
  over_laws k ne = record {
    found = λ n m ts rest a e. over_never k (starts cs ts) m ts rest a e;
    begun = over_begun k;
    whole = λ n m a ts rest h e. absurd h;
    done_alike = λ n m ts x y a same e. over_never k (starts cs (ts ++ x)) m (ts ++ x) x a e;
    stop_alike = over_stop_alike k;
    opens = λ n m a ts h. absurd h;
    wide = λ n m a ts h. absurd h;
    raise = λ n m ts rest a e. over_never k (starts cs ts) m ts rest a e;
    raise_stop = over_raise_stop k ne;
    sample = x;
    rests = keeps;
    takes = λ _. takes;
    none = λ h. absurd (cc);
  }

pub deep_differs : too_deep ≢ unexpected
deep_differs e = cc

pub many_differs : too_many ≢ unexpected
many_differs e = cc

-- ---- one phrase or another, by the next token

abbrev pub one_or : Shape → Shape → Shape
one_or s t = record { first = s.first ++ t.first; goes_on = (s.goes_on ++ t.goes_on) ++ (if t.empty then s.first else []); empty = t.empty; exact = s.exact && t.exact }

pub opens_first : (s : Shape) (ts : Tokens) → s.empty ≡ false → Opens s ts → starts s.first ts ≡ true
opens_first s ts e (inl h) = h
opens_first s ts e (inr h) = absurd (both s.empty h.1 e)

module _ {A : Type 0} (P Q W V : Phrase A) (f g F G : Reader A) (s t : Shape) (p : Laws P W f F s) (q : Laws Q V g G t) where
  choose_is : (b : Bool) (n : ℕ) (ts : Tokens) (r : Read A) → (if b then f n ts else g n ts) ≡ r → ((b ≡ true) × (f n ts ≡ r)) ⊎ ((b ≡ false) × (g n ts ≡ r))
  choose_is true n ts r e = inl (refl, e)
  choose_is false n ts r e = inr (refl, e)

  either_found : (n m : ℕ) (ts rest : Tokens) (a : A) → either s.first f g n ts ≡ done a m rest → Splits (Either P Q) n a m ts rest
  either_found n m ts rest a e =
      elim (choose_is (starts s.first ts) n ts (done a m rest) e) [
        | inl h ↦ let l = p.found n m ts rest a h.1 in record { used = l.used; is = l.is; spelled = inl l.spelled }
        | inr h ↦ let l = q.found n m ts rest a h.1 in record { used = l.used; is = l.is; spelled = inr l.spelled }
      ]

  either_begun : (n : ℕ) (k : Stop) (ts rest : Tokens) → either s.first f g n ts ≡ stop k rest → Begins (Either W V) n k ts rest
  either_begun n k ts rest e =
      elim (choose_is (starts s.first ts) n ts (stop k rest) e) [
        | inl h ↦ let l = p.begun n k ts rest h.1 in record { used = l.used; is = l.is; value = l.value; counted = l.counted; more = l.more; meets = l.meets; spelled = inl l.spelled }
        | inr h ↦ let l = q.begun n k ts rest h.1 in record { used = l.used; is = l.is; value = l.value; counted = l.counted; more = l.more; meets = l.meets; spelled = inr l.spelled }
      ]

  apart_choice : (b : Bool) (rest : Tokens) → b ≡ true → starts (if b then s.first else []) rest ≡ false → starts s.first rest ≡ false
  apart_choice true rest e h = h
  apart_choice false rest e h = absurd (cc)

  not_first : apart t.first s.first ≡ true → (ts rest : Tokens) → Opens t ts → starts (if t.empty then s.first else []) rest ≡ false → starts s.first (ts ++ rest) ≡ false
  not_first clear ts rest (inl h) e = starts_apart t.first s.first (ts ++ rest) clear (begins_with t.first ts rest h)
  not_first clear ts rest (inr h) e = rw h.0 (apart_choice t.empty rest h.1 e)

  either_whole : apart t.first s.first ≡ true → s.empty ≡ false → (n m : ℕ) (a : A) (ts rest : Tokens) → Either P Q n a m ts → starts (one_or s t).goes_on rest ≡ false → either s.first f g n (ts ++ rest) ≡ done a m rest
  either_whole clear se n m a ts rest (inl h) e =
      let k = sym (starts-append (s.goes_on ++ t.goes_on) (if t.empty then s.first else []) rest) ∙ e in
      let j = sym (starts-append s.goes_on t.goes_on rest) ∙ or_left _ _ k in
      rw (begins_with s.first ts rest (opens_first s ts se (p.opens n m a ts h))) (p.whole n m a ts rest h (or_left _ _ j))
  either_whole clear se n m a ts rest (inr h) e =
      let k = sym (starts-append (s.goes_on ++ t.goes_on) (if t.empty then s.first else []) rest) ∙ e in
      let j = sym (starts-append s.goes_on t.goes_on rest) ∙ or_left _ _ k in
      let i : starts s.first (ts ++ rest) ≡ false = not_first clear ts rest (q.opens n m a ts h) (or_right _ _ k) in
      rw i (q.whole n m a ts rest h (or_right _ _ j))

  either_done_alike : (n m : ℕ) (ts x y : Tokens) (a : A) → Alike x y → either s.first f g n (ts ++ x) ≡ done a m x → either s.first f g n (ts ++ y) ≡ done a m y
  either_done_alike n m ts x y a same e =
      rw (← choice_alike s.first ts x y same) (elim (choose_is (starts s.first (ts ++ x)) n (ts ++ x) (done a m x) e) [
        | inl h ↦ rw h.0 (p.done_alike n m ts x y a same h.1)
        | inr h ↦ rw h.0 (q.done_alike n m ts x y a same h.1)
      ])

  either_stop_alike : (n : ℕ) (k : Stop) (ts x y : Tokens) → Alike x y → either s.first f g n (ts ++ x) ≡ stop k x → either s.first f g n (ts ++ y) ≡ stop k y
  either_stop_alike n k ts x y same e =
      rw (← choice_alike s.first ts x y same) (elim (choose_is (starts s.first (ts ++ x)) n (ts ++ x) (stop k x) e) [
        | inl h ↦ rw h.0 (p.stop_alike n k ts x y same h.1)
        | inr h ↦ rw h.0 (q.stop_alike n k ts x y same h.1)
      ])

  either_opens_right : (ts : Tokens) → Opens t ts → Opens (one_or s t) ts
  either_opens_right ts (inl h) = inl (starts-append s.first t.first ts ∙ or_true_right _ _ h)
  either_opens_right ts (inr h) = inr h

  either_opens : s.empty ≡ false → (n m : ℕ) (a : A) (ts : Tokens) → Either P Q n a m ts → Opens (one_or s t) ts
  either_opens se n m a ts (inl h) = inl (starts-append s.first t.first ts ∙ rw (opens_first s ts se (p.opens n m a ts h)) refl)
  either_opens se n m a ts (inr h) = either_opens_right ts (q.opens n m a ts h)

  either_wide : (n m : ℕ) (a : A) (ts : Tokens) → Either P Q n a m ts → Either W V n a m ts
  either_wide n m a ts (inl h) = inl (p.wide n m a ts h)
  either_wide n m a ts (inr h) = inr (q.wide n m a ts h)

  either_raise : (n m : ℕ) (ts rest : Tokens) (a : A) → either s.first f g n ts ≡ done a m rest → either s.first F G n ts ≡ done a m rest
  either_raise n m ts rest a e =
      elim (choose_is (starts s.first ts) n ts (done a m rest) e) [
        | inl h ↦ rw h.0 (p.raise n m ts rest a h.1)
        | inr h ↦ rw h.0 (q.raise n m ts rest a h.1)
      ]

  either_raise_stop : (n : ℕ) (ts rest : Tokens) → either s.first f g n ts ≡ stop unexpected rest → either s.first F G n ts ≡ stop unexpected rest
  either_raise_stop n ts rest e =
      elim (choose_is (starts s.first ts) n ts (stop unexpected rest) e) [
        | inl h ↦ rw h.0 (p.raise_stop n ts rest h.1)
        | inr h ↦ rw h.0 (q.raise_stop n ts rest h.1)
      ]

  either_rests_at : (b : Bool) (n : ℕ) (ts : Tokens) → starts s.first ts ≡ false → Rests b G n ts → Rests b (either s.first F G) n ts
  either_rests_at true n ts e h = (h.0, h.1, rw e h.2)
  either_rests_at false n ts e h = rw e h

  either_rests : (n : ℕ) (ts : Tokens) → starts (s.first ++ t.first) ts ≡ false → Rests t.empty (either s.first F G) n ts
  either_rests n ts e = let k = sym (starts-append s.first t.first ts) ∙ e in either_rests_at t.empty n ts (or_left _ _ k) (q.rests n ts (or_right _ _ k))

  either_takes : (s.exact && t.exact) ≡ true → Takes (s.first ++ t.first) (Either W V)
  either_takes ex n x e =
      elim (or_true (among x.class s.first) (among x.class t.first) (sym (among-append x.class s.first t.first) ∙ e)) [
        | inl h ↦ let l = p.takes (and_left _ _ ex) n x h in (l.0, l.1, l.2, inl l.3)
        | inr h ↦ let l = q.takes (and_right _ _ ex) n x h in (l.0, l.1, l.2, inr l.3)
      ]

  pub either_laws : apart t.first s.first ≡ true → s.empty ≡ false → Laws (Either P Q) (Either W V) (either s.first f g) (either s.first F G) (one_or s t)
  either_laws clear se = record {
    found = either_found;
    begun = either_begun;
    whole = either_whole clear se;
    done_alike = either_done_alike;
    stop_alike = either_stop_alike;
    opens = either_opens se;
    wide = either_wide;
    raise = either_raise;
    raise_stop = either_raise_stop;
    sample = λ n. let x = q.sample n in record { value = x.value; counted = x.counted; tokens = x.tokens; spelled = inr x.spelled };
    rests = either_rests;
    takes = either_takes;
    none = λ h n. let l = q.none h n in (l.0, l.1, inr l.2);
  }

-- ---- wider sets

abbrev pub shaped : List Class → List Class → Bool → Shape
shaped first goes_on empty = record { first = first; goes_on = goes_on; empty = empty; exact = true }

abbrev pub loosely : List Class → List Class → Bool → Shape
loosely first goes_on empty = record { first = first; goes_on = goes_on; empty = empty; exact = false }

module _ {A : Type 0} (P W : Phrase A) (f F : Reader A) (s : Shape) (p : Laws P W f F s) where
  pub wider_laws : (cs ds : List Class) → covers s.first cs ≡ true → covers s.goes_on ds ≡ true → Laws P W f F (loosely cs ds s.empty)
  wider_laws cs ds u v = record {
    found = p.found;
    begun = p.begun;
    whole = λ n m a ts rest h e. p.whole n m a ts rest h (no-covers s.goes_on ds rest v e);
    done_alike = p.done_alike;
    stop_alike = p.stop_alike;
    opens = λ n m a ts h. elim (p.opens n m a ts h) [ inl k ↦ inl (starts-covers s.first cs ts u k) | inr k ↦ inr k ];
    wide = p.wide;
    raise = p.raise;
    raise_stop = p.raise_stop;
    sample = p.sample;
    rests = λ n ts e. p.rests n ts (no-covers s.first cs ts u e);
    takes = λ h. absurd (cc);
    none = p.none;
  }

  pub exact_laws : (cs ds : List Class) → covers s.first cs ≡ true → covers s.goes_on ds ≡ true → covers cs s.first ≡ true → s.exact ≡ true → Laws P W f F (shaped cs ds s.empty)
  exact_laws cs ds u v w ex = let l = wider_laws cs ds u v in record {
    found = l.found;
    begun = l.begun;
    whole = l.whole;
    done_alike = l.done_alike;
    stop_alike = l.stop_alike;
    opens = l.opens;
    wide = l.wide;
    raise = l.raise;
    raise_stop = l.raise_stop;
    sample = l.sample;
    rests = l.rests;
    none = l.none;
    takes = λ _ n t h. p.takes ex n t (covers_at cs s.first t.class w h);
  }

  -- the same narrow phrase, said otherwise
  pub renamed_laws : (Q : Phrase A) → ((n m : ℕ) (a : A) (ts : Tokens) → P n a m ts → Q n a m ts) → ((n m : ℕ) (a : A) (ts : Tokens) → Q n a m ts → P n a m ts) → Laws Q W f F s
  renamed_laws Q to from = record {
    found = λ n m ts rest a e. let l = p.found n m ts rest a e in record { used = l.used; is = l.is; spelled = to n m a l.used l.spelled };
    begun = p.begun;
    whole = λ n m a ts rest h e. p.whole n m a ts rest (from n m a ts h) e;
    done_alike = p.done_alike;
    stop_alike = p.stop_alike;
    opens = λ n m a ts h. p.opens n m a ts (from n m a ts h);
    wide = λ n m a ts h. p.wide n m a ts (from n m a ts h);
    raise = p.raise;
    raise_stop = p.raise_stop;
    sample = p.sample;
    rests = p.rests;
    takes = p.takes;
    none = p.none;
  }

-- ---- the same, with what can be found left out

pub seq : {A B : Type 0} {P W : Phrase A} {Q V : A → Phrase B} {f F : Reader A} {g G : A → Reader B} {s t : Shape} → Laws P W f F s → ((a : A) → Laws (Q a) (V a) (g a) (G a) t) → apart t.first s.goes_on ≡ true
    → Laws (Then P Q) (Then W V) (f >>= g) (F >>= G) (after s t)
seq p q clear = then_laws _ _ _ _ _ _ _ _ _ _ p q clear

pub alt : {A : Type 0} {P Q W V : Phrase A} {f g F G : Reader A} {s t : Shape} → Laws P W f F s → Laws Q V g G t → apart t.first s.first ≡ true → s.empty ≡ false → Laws (Either P Q) (Either W V) (either s.first f g) (either s.first F G) (one_or s t)
alt p q clear se = either_laws _ _ _ _ _ _ _ _ _ _ p q clear se

pub widen : {A : Type 0} {P W : Phrase A} {f F : Reader A} {s : Shape} → Laws P W f F s → (cs ds : List Class) → covers s.first cs ≡ true → covers s.goes_on ds ≡ true → covers cs s.first ≡ true → s.exact ≡ true → Laws P W f F (shaped cs ds s.empty)
widen p cs ds u v w ex = exact_laws _ _ _ _ _ p cs ds u v w ex

pub loosen : {A : Type 0} {P W : Phrase A} {f F : Reader A} {s : Shape} → Laws P W f F s → (cs ds : List Class) → covers s.first cs ≡ true → covers s.goes_on ds ≡ true → Laws P W f F (loosely cs ds s.empty)
loosen p cs ds u v = wider_laws _ _ _ _ _ p cs ds u v

pub word : (c : Class) → among c (c ∷ []) ≡ true → Laws (Terminal (c ∷ [])) (Terminal (c ∷ [])) (terminal (c ∷ [])) (terminal (c ∷ [])) (one_of (c ∷ []))
word c e = terminal_laws (c ∷ []) c e
