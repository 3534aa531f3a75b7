-- Counts, levels, lists and tests ahead keep what readers owe.
use Rattle.std.proofs.Common.{◌≡◌, ℕ, zero, suc, ◌+◌, List, [], ◌∷◌, ◌++◌, drop, Bool, true, false, Some, None, ◌⊎◌, inl, inr, if◌then◌else◌, refl, sym, ap, ◌∙◌, subst, append-nil}
use Rattle.std.proofs.lemmas.List.{append_cancel_right}
use Rattle.sql_grammar.specs.declared.class.Class.{Class}
use Rattle.sql_grammar.specs.declared.class.Class.TheVariants as class
use Rattle.sql_grammar.specs.Class.{Token, Tokens, among, starts}
use Rattle.sql_grammar.specs.Phrase.{Phrase, Terminal, Then, Empty, Either, Never, Turns, Count, UpTo, Limit, fits, Charge, Apart, Inside}
use Rattle.sql_grammar.specs.Steps.{Maybe}
use Rattle.sql_grammar.specs.Grammar.{Behind, Item, Listed}
use Rattle.sql_grammar.specs.Reader.{Stop, unexpected, too_deep, too_many, Read, done, stop, Reader, and_then, ◌>>=◌, pure, terminal, maybe, up_to, charge, restore, apart_from, inside, ahead}
use Rattle.sql_grammar.specs.Reading.{behind, full, listing, item_of, listed}
use Rattle.sql_grammar.proofs.Classes.{apart, and_left, and_right, both, Alike, begins_with, choice_alike, covers, covers_more, covers_self}
use Rattle.sql_grammar.proofs.Laws.{Laws, Shape, Splits, Begins, Sample, Rests, Takes, Meets, opens_first, seq, alt, word, widen, empty_laws, over_laws, renamed_laws, terminal_rests, one_or, nothing, shaped, many_differs, deep_differs}

-- ---- what counts

module _ {A : Type 0} (P W : Phrase A) (f F : Reader A) (s : Shape) (limit : Limit) (k : ℕ) (p : Laws P W f F s) (ex : s.exact ≡ true) (se : s.empty ≡ false) where
  abbrev Charged : Read A → Bool → Bool → Read A → Tokens → Type 0
  Charged r b c inner ts = ((b ≡ true) × (c ≡ true) × (inner ≡ r)) ⊎ (((b ≡ true) × (stop too_many ts ≡ r)) ⊎ ((b ≡ false) × (stop unexpected ts ≡ r)))

  abbrev pays : Bool → Bool → ℕ → Tokens → Read A
  pays b c n ts = and_then (if b then (if c then done tt (n + k) ts else stop too_many ts) else stop unexpected ts) (λ (paid : Unit {0}). f)

  charge_is : (r : Read A) (b c : Bool) (n : ℕ) (ts : Tokens) → pays b c n ts ≡ r → Charged r b c (f (n + k) ts) ts
  charge_is r true true n ts e = inl (refl, refl, e)
  charge_is r true false n ts e = inr (inl (refl, e))
  charge_is r false c n ts e = inr (inr (refl, e))

  abbrev charged : (n : ℕ) (ts : Tokens) (r : Read A) → charge limit k s.first f n ts ≡ r → Charged r (starts s.first ts) (fits limit (n + k)) (f (n + k) ts) ts
  charged n ts r e = charge_is r (starts s.first ts) (fits limit (n + k)) n ts e

  never_done : {B : Type 0} (j : Stop) (ts rest : Tokens) (a : A) (m : ℕ) → stop j ts ≡ done a m rest → B
  never_done j ts rest a m e = absurd (cc)

  charge_found : (n m : ℕ) (ts rest : Tokens) (a : A) → charge limit k s.first f n ts ≡ done a m rest → Splits (Charge limit k P) n a m ts rest
  charge_found n m ts rest a e =
      elim (charged n ts (done a m rest) e) [
        | inl h ↦ let l = p.found (n + k) m ts rest a h.2 in record { used = l.used; is = l.is; spelled = (h.1, l.spelled) }
        | inr h ↦ elim h [
          | inl g ↦ never_done too_many ts rest a m g.1
          | inr g ↦ never_done unexpected ts rest a m g.1
        ]
      ]

  full_at : (n : ℕ) (ts : Tokens) → starts s.first ts ≡ true → Begins (Charge None k W) n too_many ts ts
  full_at n [] e = absurd (cc)
  full_at n (t ∷ ts) e = let l = p.takes ex (n + k) t e in record { used = []; is = refl; value = l.0; counted = l.1; more = t ∷ l.2; meets = refl; spelled = (refl, l.3) }

  charge_begun : (n : ℕ) (j : Stop) (ts rest : Tokens) → charge limit k s.first f n ts ≡ stop j rest → Begins (Charge None k W) n j ts rest
  charge_begun n j ts rest e =
      elim (charged n ts (stop j rest) e) [
        | inl h ↦ let l = p.begun (n + k) j ts rest h.2 in record { used = l.used; is = l.is; value = l.value; counted = l.counted; more = l.more; meets = l.meets; spelled = (refl, l.spelled) }
        | inr h ↦ elim h [
          | inl g ↦ let i : too_many ≡ j = cc in let r : ts ≡ rest = cc in subst (λ (z : Stop). Begins (Charge None k W) n z ts rest) i (subst (Begins (Charge None k W) n too_many ts) r (full_at n ts g.0))
          | inr g ↦
              let i : unexpected ≡ j = cc in
              let x = p.sample (n + k) in
              record { used = []; is = cc; value = x.value; counted = x.counted; more = x.tokens; meets = subst (λ (z : Stop). Meets z rest x.tokens) i tt; spelled = (refl, x.spelled) }
        ]
      ]

  charge_whole : (n m : ℕ) (a : A) (ts rest : Tokens) → Charge limit k P n a m ts → starts s.goes_on rest ≡ false → charge limit k s.first f n (ts ++ rest) ≡ done a m rest
  charge_whole n m a ts rest h e =
      let b = begins_with s.first ts rest (opens_first s ts se (p.opens (n + k) m a ts h.1)) in
      rw (b, h.0) (p.whole (n + k) m a ts rest h.1 e)

  charge_done_alike : (n m : ℕ) (ts x y : Tokens) (a : A) → Alike x y → charge limit k s.first f n (ts ++ x) ≡ done a m x → charge limit k s.first f n (ts ++ y) ≡ done a m y
  charge_done_alike n m ts x y a same e =
      elim (charged n (ts ++ x) (done a m x) e) [
        | inl h ↦ rw (← choice_alike s.first ts x y same, h.0, h.1) (p.done_alike (n + k) m ts x y a same h.2)
        | inr h ↦ elim h [
          | inl g ↦ never_done too_many (ts ++ x) x a m g.1
          | inr g ↦ never_done unexpected (ts ++ x) x a m g.1
        ]
      ]

  stops_here : (i j : Stop) (ts x y : Tokens) → ◌≡◌ {A = Read A} (stop i (ts ++ x)) (stop j x) → ◌≡◌ {A = Read A} (stop i (ts ++ y)) (stop j y)
  stops_here i j ts x y e = let z : ts ≡ [] = append_cancel_right ts [] x (cc) in let w : i ≡ j = cc in rw z (ap (λ (a : Stop). stop a y) w)

  charge_stop_alike : (n : ℕ) (j : Stop) (ts x y : Tokens) → Alike x y → charge limit k s.first f n (ts ++ x) ≡ stop j x → charge limit k s.first f n (ts ++ y) ≡ stop j y
  charge_stop_alike n j ts x y same e = by (starts s.first (ts ++ x)) (fits limit (n + k)) refl refl e
    where
      by : (b c : Bool) → starts s.first (ts ++ x) ≡ b → fits limit (n + k) ≡ c → pays b c n (ts ++ x) ≡ stop j x → charge limit k s.first f n (ts ++ y) ≡ stop j y
      by true true b c e = rw (← choice_alike s.first ts x y same, b, c) (p.stop_alike (n + k) j ts x y same e)
      by true false b c e = rw (← choice_alike s.first ts x y same, b, c) (stops_here too_many j ts x y e)
      by false c b d e = rw (← choice_alike s.first ts x y same, b) (stops_here unexpected j ts x y e)

  charge_raise : (n m : ℕ) (ts rest : Tokens) (a : A) → charge limit k s.first f n ts ≡ done a m rest → charge None k s.first F n ts ≡ done a m rest
  charge_raise n m ts rest a e =
      elim (charged n ts (done a m rest) e) [
        | inl h ↦ rw h.0 (p.raise (n + k) m ts rest a h.2)
        | inr h ↦ elim h [
          | inl g ↦ never_done too_many ts rest a m g.1
          | inr g ↦ never_done unexpected ts rest a m g.1
        ]
      ]

  charge_raise_stop : (n : ℕ) (ts rest : Tokens) → charge limit k s.first f n ts ≡ stop unexpected rest → charge None k s.first F n ts ≡ stop unexpected rest
  charge_raise_stop n ts rest e =
      elim (charged n ts (stop unexpected rest) e) [
        | inl h ↦ rw h.0 (p.raise_stop (n + k) ts rest h.2)
        | inr h ↦ elim h [
          | inl g ↦ absurd (cc)
          | inr g ↦ rw g.0 g.1
        ]
      ]

  rests_false : (b : Bool) (G : Reader A) (n : ℕ) (ts : Tokens) → b ≡ false → G n ts ≡ stop unexpected ts → Rests b G n ts
  rests_false true G n ts e h = absurd (cc)
  rests_false false G n ts e h = h

  pub charge_laws : Laws (Charge limit k P) (Charge None k W) (charge limit k s.first f) (charge None k s.first F) s
  charge_laws = record {
    found = charge_found;
    begun = charge_begun;
    whole = charge_whole;
    done_alike = charge_done_alike;
    stop_alike = charge_stop_alike;
    opens = λ n m a ts h. p.opens (n + k) m a ts h.1;
    wide = λ n m a ts h. (refl, p.wide (n + k) m a ts h.1);
    raise = charge_raise;
    raise_stop = charge_raise_stop;
    sample = λ n. let x = p.sample (n + k) in record { value = x.value; counted = x.counted; tokens = x.tokens; spelled = (refl, x.spelled) };
    rests = λ n ts e. rests_false s.empty (charge None k s.first F) n ts se (rw e refl);
    takes = λ y n t h. let l = p.takes y (n + k) t h in (l.0, l.1, l.2, (refl, l.3));
    none = λ h. absurd (both s.empty h se);
  }

-- ---- a phrase of its own

module _ {A : Type 0} (P W : Phrase A) (f F : Reader A) (s : Shape) (p : Laws P W f F s) where
  restored : (n m : ℕ) (r : Read A) (rest : Tokens) (a : A) → restore n r ≡ done a m rest → (own : ℕ) × (r ≡ done a own rest) × (n ≡ m)
  restored n m (done x own ts) rest a e = (own, ap (λ z. done z own ts) (cc) ∙ ap (done a own) (cc), cc)
  restored n m (stop k ts) rest a e = absurd (cc)

  restored_stop : (n : ℕ) (k : Stop) (r : Read A) (rest : Tokens) → restore n r ≡ stop k rest → r ≡ stop k rest
  restored_stop n k (done x own ts) rest e = absurd (cc)
  restored_stop n k (stop j ts) rest e = e

  put_back : (n m own : ℕ) (r : Read A) (rest : Tokens) (a : A) → n ≡ m → r ≡ done a own rest → restore n r ≡ done a m rest
  put_back n m own r rest a e h = ap (restore n) h ∙ ap (λ i. done a i rest) e

  apart_rests : (b : Bool) (n : ℕ) (ts : Tokens) → Rests b F 0 ts → Rests b (apart_from F) n ts
  apart_rests true n ts h = (h.0, n, ap (restore n) h.2)
  apart_rests false n ts h = ap (restore n) h

  pub apart_laws : Laws (Apart P) (Apart W) (apart_from f) (apart_from F) s
  apart_laws = record {
    found = λ n m ts rest a e. let k = restored n m (f 0 ts) rest a e in let l = p.found 0 k.0 ts rest a k.1 in record { used = l.used; is = l.is; spelled = (sym k.2, (k.0, l.spelled)) };
    begun = λ n k ts rest e. let l = p.begun 0 k ts rest (restored_stop n k (f 0 ts) rest e) in record { used = l.used; is = l.is; value = l.value; counted = n; more = l.more; meets = l.meets; spelled = (refl, (l.counted, l.spelled)) };
    whole = λ n m a ts rest h e. put_back n m h.1.0 (f 0 (ts ++ rest)) rest a (sym h.0) (p.whole 0 h.1.0 a ts rest h.1.1 e);
    done_alike = λ n m ts x y a same e. let k = restored n m (f 0 (ts ++ x)) x a e in put_back n m k.0 (f 0 (ts ++ y)) y a k.2 (p.done_alike 0 k.0 ts x y a same k.1);
    stop_alike = λ n k ts x y same e. ap (restore n) (p.stop_alike 0 k ts x y same (restored_stop n k (f 0 (ts ++ x)) x e));
    opens = λ n m a ts h. p.opens 0 h.1.0 a ts h.1.1;
    wide = λ n m a ts h. (h.0, (h.1.0, p.wide 0 h.1.0 a ts h.1.1));
    raise = λ n m ts rest a e. let k = restored n m (f 0 ts) rest a e in put_back n m k.0 (F 0 ts) rest a k.2 (p.raise 0 k.0 ts rest a k.1);
    raise_stop = λ n ts rest e. ap (restore n) (p.raise_stop 0 ts rest (restored_stop n unexpected (f 0 ts) rest e));
    sample = λ n. let x = p.sample 0 in record { value = x.value; counted = n; tokens = x.tokens; spelled = (refl, (x.counted, x.spelled)) };
    rests = λ n ts e. apart_rests s.empty n ts (p.rests 0 ts e);
    takes = λ y n t h. let l = p.takes y 0 t h in (l.0, n, l.2, (refl, (l.1, l.3)));
    none = λ h n. let l = p.none h 0 in (l.0, n, (refl, (l.1, l.2)));
  }

-- ---- a level of nesting

pub inside_laws : {A : Type 0} (P W : Phrase A) (f F : Reader A) (cs ds : List Class) (d : ℕ) → Takes cs W → ((n : ℕ) → Sample W n) → ((n : ℕ) (ts : Tokens) → starts cs ts ≡ false → F n ts ≡ stop unexpected ts)
    → ((k : ℕ) → d ≡ suc k → Laws P W f F (shaped cs ds false)) → Laws (Inside d P) W (inside cs d f) F (shaped cs ds false)
inside_laws P W f F cs ds zero takes x keeps p = over_laws W F cs ds takes x keeps too_deep deep_differs
inside_laws P W f F cs ds (suc d) takes x keeps p = p d refl

-- a phrase that begins with one token
module _ {B : Type 0} (V : Token → Phrase B) (G : Token → Reader B) (c : Class) (x : (t : Token) (n : ℕ) → Sample (V t) n) where
  opened_takes : Takes (c ∷ []) (Then (Terminal (c ∷ [])) V)
  opened_takes n t e = let y = x t n in (y.value, y.counted, y.tokens, record { first = t; middle = n; front = t ∷ []; back = y.tokens; is = refl; left = (refl, e, refl); right = y.spelled })

  opened_sample : among c (c ∷ []) ≡ true → (n : ℕ) → Sample (Then (Terminal (c ∷ [])) V) n
  opened_sample here n = let t : Token = record { class = c; text = []; place = 0 } in let y = opened_takes n t here in record { value = y.0; counted = y.1; tokens = t ∷ y.2; spelled = y.3 }

  opened_keeps : (n : ℕ) (ts : Tokens) → starts (c ∷ []) ts ≡ false → and_then (terminal (c ∷ []) n ts) G ≡ stop unexpected ts
  opened_keeps n ts e = ap (λ r. and_then r G) (terminal_rests (λ t. among t.class (c ∷ [])) (c ∷ []) (λ t h. h) n ts e)

-- the same, where there may be no room for it
pub nest : {B : Type 0} (Q V : Token → Phrase B) (g G : Token → Reader B) (c : Class) (ds : List Class) (d : ℕ) → among c (c ∷ []) ≡ true → ((t : Token) (n : ℕ) → Sample (V t) n)
    → ((k : ℕ) → d ≡ suc k → Laws (Then (Terminal (c ∷ [])) Q) (Then (Terminal (c ∷ [])) V) (terminal (c ∷ []) >>= g) (terminal (c ∷ []) >>= G) (shaped (c ∷ []) ds false))
    → Laws (Inside d (Then (Terminal (c ∷ [])) Q)) (Then (Terminal (c ∷ [])) V) (inside (c ∷ []) d (terminal (c ∷ []) >>= g)) (terminal (c ∷ []) >>= G) (shaped (c ∷ []) ds false)
nest Q V g G c ds d here x p = inside_laws _ _ _ _ (c ∷ []) ds d (opened_takes V G c x) (opened_sample V G c x here) (opened_keeps V G c x) p

-- ---- so many turns at most

apart_none : (cs : List Class) → apart cs [] ≡ true
apart_none [] = refl
apart_none (c ∷ cs) = apart_none cs

covers_app : (cs ds es : List Class) → covers cs es ≡ true → covers ds es ≡ true → covers (cs ++ ds) es ≡ true
covers_app [] ds es h k = k
covers_app (c ∷ cs) ds es h k = let e : among c es ≡ true = and_left _ _ h in rw e (covers_app cs ds es (and_right _ _ h) k)

covers_nil : (cs : List Class) → covers [] cs ≡ true
covers_nil cs = refl

-- where nothing may be read and what follows may be empty, it may as well be left out
module _ {S : Type 0} (W : Phrase S) (full_ F : Reader S) (V : S → Phrase S) (G : S → Reader S) (s : Shape) (w : Laws Never W full_ F s) (none : (x : S) (n : ℕ) → (y : S) × (m : ℕ) × V x n y m []) (se : s.empty ≡ false) where
  never_read : {B : Type 0} (n m : ℕ) (ts rest : Tokens) (x : S) → full_ n ts ≡ done x m rest → B
  never_read n m ts rest x e = let l = w.found n m ts rest x e in absurd l.spelled

  longer : (n m : ℕ) (a : S) (ts : Tokens) → W n a m ts → (y : S) × (i : ℕ) × Then W V n y i ts
  longer n m a ts h = let o = none a m in (o.0, o.1, record { first = a; middle = m; front = ts; back = []; is = sym (append-nil ts); left = h; right = o.2 })

  rests_then : (b : Bool) (n : ℕ) (ts : Tokens) → b ≡ false → Rests b F n ts → Rests b (F >>= G) n ts
  rests_then true n ts e h = absurd (cc)
  rests_then false n ts e h = ap (λ r. and_then r G) h

  pub extend_laws : Laws Never (Then W V) full_ (F >>= G) s
  extend_laws = record {
    found = λ n m ts rest a e. never_read n m ts rest a e;
    begun = λ n k ts rest e. let l = w.begun n k ts rest e in let x = longer n l.counted l.value (l.used ++ l.more) l.spelled in record { used = l.used; is = l.is; value = x.0; counted = x.1; more = l.more; meets = l.meets; spelled = x.2 };
    whole = λ n m a ts rest h e. absurd h;
    done_alike = λ n m ts x y a same e. never_read n m (ts ++ x) x a e;
    stop_alike = w.stop_alike;
    opens = λ n m a ts h. absurd h;
    wide = λ n m a ts h. absurd h;
    raise = λ n m ts rest a e. never_read n m ts rest a e;
    raise_stop = λ n ts rest e. ap (λ r. and_then r G) (w.raise_stop n ts rest e);
    sample = λ n. let l = w.sample n in let x = longer n l.counted l.value l.tokens l.spelled in record { value = x.0; counted = x.1; tokens = l.tokens; spelled = x.2 };
    rests = λ n ts e. rests_then s.empty n ts se (w.rests n ts e);
    takes = λ ex n t h. let l = w.takes ex n t h in let x = longer n l.1 l.0 (t ∷ l.2) l.3 in (x.0, x.1, l.2, x.2);
    none = λ h. absurd (both s.empty h se);
  }

module _ {S : Type 0} (P W : S → Phrase S) (f F : S → Reader S) (full_ : Reader S) (c : Class) (ds : List Class) (p : (x : S) → Laws (P x) (W x) (f x) (F x) (shaped (c ∷ []) ds false))
    (w : (x : S) → Laws Never (W x) full_ (F x) (shaped (c ∷ []) ds false)) (clear : apart (c ∷ []) ds ≡ true) where
  covers_behind : covers ds (c ∷ ds) ≡ true
  covers_behind = covers_more ds [] ds c (covers_self ds)

  one_covers : covers (c ∷ []) (c ∷ ds) ≡ true
  one_covers = let h : among c (c ∷ ds) ≡ true = and_left _ _ (covers_self (c ∷ ds)) in rw h refl

  on_covers : (es : List Class) → covers es (c ∷ ds) ≡ true → covers ((es ++ []) ++ (c ∷ [])) (c ∷ ds) ≡ true
  on_covers es h = covers_app (es ++ []) (c ∷ []) (c ∷ ds) (covers_app es [] (c ∷ ds) h refl) one_covers

  pub up_to_laws : (k : ℕ) (x : S) → Laws (UpTo k P x) (UpTo (suc k) W x) (up_to (c ∷ []) f full_ k x) (up_to (c ∷ []) F full_ (suc k) x) (shaped (c ∷ []) (c ∷ ds) true)
  unfolding up_to
  up_to_laws zero x =
      renamed_laws _ _ _ _ _ (widen (alt (extend_laws (W x) full_ (F x) (λ y. UpTo 0 W y) (λ y. up_to (c ∷ []) F full_ 0 y) (shaped (c ∷ []) ds false) (w x) (λ y n. (y, n, (refl, refl, refl))) refl) (empty_laws x) refl refl) (c ∷ []) (c ∷ ds)
      (covers_self (c ∷ [])) (on_covers ds covers_behind) (covers_self (c ∷ [])) refl) (Empty x)
      (λ n m a ts h. elim h [ inl g ↦ absurd g | inr g ↦ g ]) (λ n m a ts h. inr h)
  up_to_laws (suc k) x =
      widen (alt (seq (p x) (λ y. up_to_laws k y) clear) (empty_laws x) refl refl) (c ∷ []) (c ∷ ds) (covers_self (c ∷ [])) (on_covers ((c ∷ ds) ++ ds) (covers_app (c ∷ ds) ds (c ∷ ds) (covers_self (c ∷ ds)) covers_behind)) (covers_self (c ∷ [])) refl

-- ---- what stands behind a comma

abbrev pub comma : List Class
comma = class.Comma ∷ []

module _ {S : Type 0} (Q V : S → Phrase S) (g G : S → Reader S) (cs ds : List Class) (q : (x : S) → Laws (Q x) (V x) (g x) (G x) (shaped cs ds false)) (clear : apart comma ds ≡ true) where
  off_nil : (xs : List Class) → covers (xs ++ []) xs ≡ true
  off_nil xs = covers_app xs [] xs (covers_self xs) refl

  behind_laws : (x : S) → Laws (Behind Q x) (Behind V x) (behind g x) (behind G x) (shaped comma ds false)
  behind_laws x = widen (seq (word class.Comma refl) (λ t. q x) (apart_none cs)) comma ds refl (off_nil ds) refl refl

  full_laws : (x : S) → Laws Never (Behind V x) (full cs) (behind G x) (shaped comma ds false)
  full_laws x =
      renamed_laws _ _ _ _ _ (widen (seq (word class.Comma refl) (λ t. over_laws (V x) (G x) cs ds ((q x).takes refl) (q x).sample (q x).rests too_many many_differs) (apart_none cs)) comma ds refl (off_nil ds) refl refl) Never
      (λ n m a ts h. absurd h.right) (λ n m a ts h. absurd h)

  pub listing_laws : (k : ℕ) (x : S) → Laws (UpTo k (Behind Q) x) (UpTo (suc k) (Behind V) x) (listing cs g k x) (listing cs G (suc k) x) (shaped comma (class.Comma ∷ ds) true)
  listing_laws k x = up_to_laws (Behind Q) (Behind V) (behind g) (behind G) (full cs) class.Comma ds behind_laws full_laws clear k x

module _ {A : Type 0} (P W : Phrase A) (f F : Reader A) (cs ds : List Class) (p : Laws P W f F (shaped cs ds false)) (clear : apart comma ds ≡ true) where
  both_nil : (xs ys : List Class) → covers xs ys ≡ true → covers (xs ++ []) ys ≡ true
  both_nil xs ys h = covers_app xs [] ys h refl

  nil_both : (xs : List Class) → covers xs (xs ++ []) ≡ true
  nil_both xs = subst (λ (z : List Class). covers xs z ≡ true) (sym (append-nil xs)) (covers_self xs)

  item_laws : (x : List A) → Laws (Item P x) (Item W x) (item_of f x) (item_of F x) (shaped cs ds false)
  item_laws x = widen (seq p (λ a. empty_laws (x ++ a ∷ [])) refl) cs ds (both_nil cs cs (covers_self cs)) (covers_self ds) (nil_both cs) refl

  pub listed_laws : (k : ℕ) → Laws (Listed k P) (Listed (suc k) W) (listed cs k f) (listed cs (suc k) F) (shaped cs (class.Comma ∷ ds) false)
  listed_laws k =
      widen (seq (item_laws []) (λ x. listing_laws (Item P) (Item W) (item_of f) (item_of F) cs ds item_laws clear k x) clear) cs (class.Comma ∷ ds) (both_nil cs cs (covers_self cs))
      (covers_app (class.Comma ∷ ds) ds (class.Comma ∷ ds) (covers_self (class.Comma ∷ ds)) (covers_more ds [] ds class.Comma (covers_self ds))) (nil_both cs) refl

-- ---- none or one

module _ {A : Type 0} (P W : Phrase A) (f F : Reader A) (cs ds : List Class) (p : Laws P W f F (shaped cs ds false)) where
  some_laws : Laws (Then P (λ a. Empty (Some a))) (Then W (λ a. Empty (Some a))) (f >>= (λ a. pure (Some a))) (F >>= (λ a. pure (Some a))) (shaped cs ds false)
  some_laws = widen (seq p (λ a. empty_laws (Some a)) refl) cs ds (covers_app cs [] cs (covers_self cs) refl) (covers_self ds) (subst (λ (z : List Class). covers cs z ≡ true) (sym (append-nil cs)) (covers_self cs)) refl

  pub maybe_laws : Laws (Maybe P) (Maybe W) (maybe cs f) (maybe cs F) (one_or (shaped cs ds false) nothing)
  maybe_laws = alt some_laws (empty_laws None) refl refl

-- ---- the same, with what can be found left out

pub opt : {A : Type 0} {P W : Phrase A} {f F : Reader A} {cs ds : List Class} → Laws P W f F (shaped cs ds false) → Laws (Maybe P) (Maybe W) (maybe cs f) (maybe cs F) (one_or (shaped cs ds false) nothing)
opt p = maybe_laws _ _ _ _ _ _ p

pub list : {A : Type 0} {P W : Phrase A} {f F : Reader A} {cs ds : List Class} → Laws P W f F (shaped cs ds false) → apart comma ds ≡ true → (k : ℕ) → Laws (Listed k P) (Listed (suc k) W) (listed cs k f) (listed cs (suc k) F) (shaped cs (class.Comma ∷ ds) false)
list p clear k = listed_laws _ _ _ _ _ _ p clear k

pub paid : {A : Type 0} {P W : Phrase A} {f F : Reader A} {s : Shape} (limit : Limit) (k : ℕ) → Laws P W f F s → s.exact ≡ true → s.empty ≡ false → Laws (Charge limit k P) (Charge None k W) (charge limit k s.first f) (charge None k s.first F) s
paid limit k p ex se = charge_laws _ _ _ _ _ limit k p ex se

pub own : {A : Type 0} {P W : Phrase A} {f F : Reader A} {s : Shape} → Laws P W f F s → Laws (Apart P) (Apart W) (apart_from f) (apart_from F) s
own p = apart_laws _ _ _ _ _ p

-- ---- samples

pub sample_seq : {A B : Type 0} {P : Phrase A} {Q : A → Phrase B} → ((n : ℕ) → Sample P n) → ((a : A) (n : ℕ) → Sample (Q a) n) → (n : ℕ) → Sample (Then P Q) n
sample_seq p q n = let x = p n in let y = q x.value x.counted in record { value = y.value; counted = y.counted; tokens = x.tokens ++ y.tokens; spelled = record { first = x.value; middle = x.counted; front = x.tokens; back = y.tokens; is = refl; left = x.spelled; right = y.spelled } }

pub sample_empty : {A : Type 0} (a : A) (n : ℕ) → Sample (Empty a) n
sample_empty a n = record { value = a; counted = n; tokens = []; spelled = (refl, refl, refl) }

pub sample_word : (cs : List Class) (c : Class) → among c cs ≡ true → (n : ℕ) → Sample (Terminal cs) n
sample_word cs c e n = record { value = record { class = c; text = []; place = 0 }; counted = n; tokens = record { class = c; text = []; place = 0 } ∷ []; spelled = (refl, e, refl) }

pub sample_turns : {S : Type 0} (P : S → Phrase S) (x : S) (n : ℕ) → Sample (Turns P x) n
sample_turns P x n = record { value = x; counted = n; tokens = []; spelled = (zero, (refl, refl, refl)) }

pub sample_left : {A : Type 0} {P : Phrase A} (Q : Phrase A) → ((n : ℕ) → Sample P n) → (n : ℕ) → Sample (Either P Q) n
sample_left Q p n = let x = p n in record { value = x.value; counted = x.counted; tokens = x.tokens; spelled = inl x.spelled }

pub sample_right : {A : Type 0} {Q : Phrase A} (P : Phrase A) → ((n : ℕ) → Sample Q n) → (n : ℕ) → Sample (Either P Q) n
sample_right P q n = let x = q n in record { value = x.value; counted = x.counted; tokens = x.tokens; spelled = inr x.spelled }

pub sample_count : (n : ℕ) → Sample Count n
sample_count n = record { value = n; counted = n; tokens = []; spelled = (refl, refl, refl) }

pub sample_paid : {A : Type 0} (k : ℕ) {P : Phrase A} → ((n : ℕ) → Sample P n) → (n : ℕ) → Sample (Charge None k P) n
sample_paid k p n = let x = p (n + k) in record { value = x.value; counted = x.counted; tokens = x.tokens; spelled = (refl, x.spelled) }

pub sample_own : {A : Type 0} {P : Phrase A} → ((n : ℕ) → Sample P n) → (n : ℕ) → Sample (Apart P) n
sample_own p n = let x = p 0 in record { value = x.value; counted = n; tokens = x.tokens; spelled = (refl, (x.counted, x.spelled)) }

-- no more of a list
pub sample_no_more : {S : Type 0} (k : ℕ) (P : S → Phrase S) (x : S) (n : ℕ) → Sample (UpTo (suc k) P x) n
sample_no_more k P x n = record { value = x; counted = n; tokens = []; spelled = inr (refl, refl, refl) }

pub sample_list : {A : Type 0} (k : ℕ) {P : Phrase A} → ((n : ℕ) → Sample P n) → (n : ℕ) → Sample (Listed (suc k) P) n
sample_list k p n = sample_seq (sample_seq p (λ a. sample_empty (a ∷ []))) (λ x. sample_no_more k (Behind (Item _)) x) n

-- ---- a choice by a test of the tokens ahead

module _ {A : Type 0} (P Q W V : Phrase A) (f g F G : Reader A) (s t : Shape) (p : Laws P W f F s) (q : Laws Q V g G t) (test : Tokens → Bool)
    -- what the one phrase spells passes the test, whatever follows; and where the test holds it is read
    (yes : (n m : ℕ) (a : A) (ts rest : Tokens) → P n a m ts → test (ts ++ rest) ≡ true)
    (reads : (n : ℕ) (ts : Tokens) → test ts ≡ true → (a : A) × (m : ℕ) × (rest : Tokens) × (f n ts ≡ done a m rest))
    -- where the test holds, the other stops at the third token
    (clash : (n : ℕ) (ts : Tokens) → test ts ≡ true → g n ts ≡ stop unexpected (drop 2 ts))
    (same_test : (ts x y : Tokens) → Alike x y → test (ts ++ y) ≡ true → drop 2 (ts ++ y) ≡ y → test (ts ++ x) ≡ true)
    (first : (ts : Tokens) → starts t.first ts ≡ false → test ts ≡ false)
    (opens_so : (n m : ℕ) (a : A) (ts : Tokens) → P n a m ts → starts t.first ts ≡ true)
    (ends : (rest : Tokens) → starts s.goes_on rest ≡ false) where
  differ : {B : Type 0} (k : Stop) (r : Read A) (a : A) (m : ℕ) (rest u : Tokens) → r ≡ done a m rest → r ≡ stop k u → B
  differ k r a m rest u h e = let z : done a m rest ≡ stop k u = sym h ∙ e in absurd (cc)

  no_test : (b : Bool) → (b ≡ true → ⊥) → b ≡ false
  no_test true h = absurd (h refl)
  no_test false h = refl

  choose : (b : Bool) (n : ℕ) (ts : Tokens) (r : Read A) → (if b then f n ts else g n ts) ≡ r → ((b ≡ true) × (f n ts ≡ r)) ⊎ ((b ≡ false) × (g n ts ≡ r))
  choose true n ts r e = inl (refl, e)
  choose false n ts r e = inr (refl, e)

  never_stops : {B : Type 0} (n : ℕ) (k : Stop) (ts rest : Tokens) → test ts ≡ true → f n ts ≡ stop k rest → B
  never_stops n k ts rest h e = let r = reads n ts h in differ k (f n ts) r.0 r.1 r.2 rest r.3 e

  no_clash : (n m : ℕ) (a : A) (ts rest : Tokens) → g n ts ≡ done a m rest → test ts ≡ false
  no_clash n m a ts rest e = no_test (test ts) (λ h. differ unexpected (g n ts) a m rest (drop 2 ts) e (clash n ts h))

  ahead_whole : (n m : ℕ) (a : A) (ts rest : Tokens) → Either P Q n a m ts → starts t.goes_on rest ≡ false → ahead test f g n (ts ++ rest) ≡ done a m rest
  ahead_whole n m a ts rest (inl h) e = rw (yes n m a ts rest h) (p.whole n m a ts rest h (ends rest))
  ahead_whole n m a ts rest (inr h) e = let w = q.whole n m a ts rest h e in rw (no_clash n m a (ts ++ rest) rest w) w

  ahead_done_alike : (n m : ℕ) (ts x y : Tokens) (a : A) → Alike x y → ahead test f g n (ts ++ x) ≡ done a m x → ahead test f g n (ts ++ y) ≡ done a m y
  ahead_done_alike n m ts x y a same e =
      elim (choose (test (ts ++ x)) n (ts ++ x) (done a m x) e) [
        | inl h ↦
            let l = p.found n m (ts ++ x) x a h.1 in
            let z : ts ≡ l.used = append_cancel_right ts l.used x l.is in
            let k : test (ts ++ y) ≡ true = yes n m a ts y (subst (λ (u : Tokens). P n a m u) (sym z) l.spelled) in rw k (p.done_alike n m ts x y a same h.1)
        | inr h ↦ let w = q.done_alike n m ts x y a same h.1 in rw (no_clash n m a (ts ++ y) y w) w
      ]

  stop_rest : (i j : Stop) (u v : Tokens) → ◌≡◌ {A = Read A} (stop i u) (stop j v) → u ≡ v
  stop_rest i j u v e = cc

  ahead_stop_alike : (n : ℕ) (k : Stop) (ts x y : Tokens) → Alike x y → ahead test f g n (ts ++ x) ≡ stop k x → ahead test f g n (ts ++ y) ≡ stop k y
  ahead_stop_alike n k ts x y same e =
      elim (choose (test (ts ++ x)) n (ts ++ x) (stop k x) e) [
        | inl h ↦ never_stops n k (ts ++ x) x h.0 h.1
        | inr h ↦
            let w = q.stop_alike n k ts x y same h.1 in
            let no_ : test (ts ++ y) ≡ false = no_test (test (ts ++ y)) (λ z. both (test (ts ++ x)) (same_test ts x y same z (stop_rest unexpected k (drop 2 (ts ++ y)) y (sym (clash n (ts ++ y) z) ∙ w))) h.0) in
            rw no_ w
      ]

  pub ahead_laws : t.empty ≡ false → t.exact ≡ true → Laws (Either P Q) (Either W V) (ahead test f g) (ahead test F G) t
  ahead_laws te ex = record {
    found = λ n m ts rest a e. elim (choose (test ts) n ts (done a m rest) e) [
      | inl h ↦ let l = p.found n m ts rest a h.1 in record { used = l.used; is = l.is; spelled = inl l.spelled }
      | inr h ↦ let l = q.found n m ts rest a h.1 in record { used = l.used; is = l.is; spelled = inr l.spelled }
    ];
    begun = λ n k ts rest e. elim (choose (test ts) n ts (stop k rest) e) [
      | inl h ↦ never_stops n k ts rest h.0 h.1
      | inr h ↦ let l = q.begun n k ts rest h.1 in record { used = l.used; is = l.is; value = l.value; counted = l.counted; more = l.more; meets = l.meets; spelled = inr l.spelled }
    ];
    whole = ahead_whole;
    done_alike = ahead_done_alike;
    stop_alike = ahead_stop_alike;
    opens = λ n m a ts h. elim h [ inl g ↦ inl (opens_so n m a ts g) | inr g ↦ q.opens n m a ts g ];
    wide = λ n m a ts h. elim h [ inl g ↦ inl (p.wide n m a ts g) | inr g ↦ inr (q.wide n m a ts g) ];
    raise = λ n m ts rest a e. elim (choose (test ts) n ts (done a m rest) e) [ inl h ↦ rw h.0 (p.raise n m ts rest a h.1) | inr h ↦ rw h.0 (q.raise n m ts rest a h.1) ];
    raise_stop = λ n ts rest e. elim (choose (test ts) n ts (stop unexpected rest) e) [ inl h ↦ never_stops n unexpected ts rest h.0 h.1 | inr h ↦ rw h.0 (q.raise_stop n ts rest h.1) ];
    sample = λ n. let x = q.sample n in record { value = x.value; counted = x.counted; tokens = x.tokens; spelled = inr x.spelled };
    rests = λ n ts e. rests_so t.empty n ts te (first ts e) (q.rests n ts e);
    takes = λ y n u h. let l = q.takes y n u h in (l.0, l.1, l.2, inr l.3);
    none = λ h. absurd (both t.empty h te);
  }
    where
      rests_so : (b : Bool) (n : ℕ) (ts : Tokens) → b ≡ false → test ts ≡ false → Rests b G n ts → Rests b (ahead test F G) n ts
      rests_so true n ts e h r = absurd (cc)
      rests_so false n ts e h r = rw h r
