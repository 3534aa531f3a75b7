-- What a whole reading says.
use Rattle.std.proofs.Common.{◌≡◌, ◌≢◌, ℕ, zero, suc, [], ◌∷◌, ◌++◌, false, inl, inr, refl, sym, ap, ◌∙◌, subst, append-nil}
use Rattle.sql_grammar.specs.Class.{Token, Tokens, starts}
use Rattle.sql_grammar.specs.Phrase.{Phrase}
use Rattle.sql_grammar.specs.Refusals.{Somewhere, Refuses, Passes}
use Rattle.sql_grammar.specs.Reader.{Stop, unexpected, too_deep, too_many, done, stop, Reader, and_then, at_end, only}
use Rattle.sql_grammar.proofs.Laws.{Laws, Shape, Meets, bind_done, bind_stop}

up : ℕ → ℕ → ℕ
up zero d = d
up (suc k) d = suc (up k d)

up_suc : (k d : ℕ) → up k (suc d) ≡ suc (up k d)
unfolding up
up_suc zero d = refl
up_suc (suc k) d = ap (λ (z : ℕ). suc z) (up_suc k d)

up_zero : (k : ℕ) → up k zero ≡ k
unfolding up
up_zero zero = refl
up_zero (suc k) = ap (λ (z : ℕ). suc z) (up_zero k)

up_swap : (k d : ℕ) → up k d ≡ up d k
unfolding up
up_swap k zero = up_zero k
up_swap k (suc d) = up_suc k d ∙ ap (λ (z : ℕ). suc z) (up_swap k d)

module _ {A : Type 0} (P : ℕ → Phrase A) (f : ℕ → Reader A) (s : Shape) (p : (d : ℕ) → Laws (P d) (P (suc d)) (f d) (f (suc d)) s) (ends : starts s.goes_on [] ≡ false) where
  raised : (k d n m : ℕ) (ts rest : Tokens) (a : A) → f d n ts ≡ done a m rest → f (up k d) n ts ≡ done a m rest
  unfolding up
  raised zero d n m ts rest a e = e
  raised (suc k) d n m ts rest a e = (p (up k d)).raise n m ts rest a (raised k d n m ts rest a e)

  raised_stop : (k d n : ℕ) (ts rest : Tokens) → f d n ts ≡ stop unexpected rest → f (up k d) n ts ≡ stop unexpected rest
  unfolding up
  raised_stop zero d n ts rest e = e
  raised_stop (suc k) d n ts rest e = (p (up k d)).raise_stop n ts rest (raised_stop k d n ts rest e)

  -- read with the limits of another
  elsewhere : (d k m : ℕ) (a : A) (ts : Tokens) → P k 0 a m ts → f (up k d) 0 ts ≡ done a m []
  elsewhere d k m a ts h =
      let x : f k 0 ts ≡ done a m [] = ap (f k 0) (sym (append-nil ts)) ∙ (p k).whole 0 m a ts [] h ends in
      ap (λ (z : ℕ). f z 0 ts) (up_swap k d) ∙ raised d k 0 m ts [] a x

  end_done : (a b : A) (n m : ℕ) (ts rest : Tokens) → at_end a n ts ≡ done b m rest → (ts ≡ []) × (a ≡ b) × (n ≡ m)
  end_done a b n m [] rest e = (refl, cc, cc)
  end_done a b n m (t ∷ ts) rest e = absurd (cc)

  end_stop : (k : Stop) (a : A) (n : ℕ) (ts rest : Tokens) → at_end a n ts ≡ stop k rest → (unexpected ≡ k) × (ts ≡ rest) × (rest ≢ [])
  end_stop k a n [] rest e = absurd (cc)
  end_stop k a n (t ∷ ts) rest e = (cc, cc, λ h. absurd (cc))

  pub read_spelled : (d m : ℕ) (ts : Tokens) (a : A) (rest : Tokens) → only (f d) 0 ts ≡ done a m rest → P d 0 a m ts
  read_spelled d m ts a rest e =
      let k = bind_done (f d 0 ts) at_end a m rest e in
      let z = end_done k.0 a k.1 m k.2 rest k.4 in
      let l = (p d).found 0 k.1 ts k.2 k.0 k.3 in
      let is : ts ≡ l.used = l.is ∙ ap (λ (x : Tokens). l.used ++ x) z.0 ∙ append-nil l.used in
      subst (λ (i : ℕ). P d 0 a i ts) z.2 (subst (λ (x : A). P d 0 x k.1 ts) z.1 (subst (λ (x : Tokens). P d 0 k.0 k.1 x) (sym is) l.spelled))

  pub spelled_read : (d m : ℕ) (ts : Tokens) (a : A) → P d 0 a m ts → only (f d) 0 ts ≡ done a m []
  spelled_read d m ts a h = ap (λ r. and_then r at_end) (ap (f d 0) (sym (append-nil ts)) ∙ (p d).whole 0 m a ts [] h ends)

  pub at_most_one : (ts : Tokens) (a b : A) → Somewhere P a ts → Somewhere P b ts → a ≡ b
  at_most_one ts a b h k =
      let x = elsewhere h.0 k.0 k.1 b ts k.2 in
      let y : f (up k.0 h.0) 0 ts ≡ done a h.1 [] = raised k.0 h.0 0 h.1 ts [] a (ap (f h.0 0) (sym (append-nil ts)) ∙ (p h.0).whole 0 h.1 a ts [] h.2 ends) in
      let z : done a h.1 [] ≡ done b k.1 [] = sym y ∙ x in cc

  stopped : (d : ℕ) (ts rest : Tokens) → f d 0 ts ≡ stop unexpected rest → Refuses P ts rest
  stopped d ts rest e =
      let l = (p d).begun 0 unexpected ts rest e in
      record {
        used = l.used;
        is = l.is;
        value = l.value;
        more = l.more;
        begins = (suc d, l.counted, l.spelled);
        no_more = λ t behind others a at h.
            let x : f (up h.0 d) 0 (l.used ++ t ∷ behind) ≡ stop unexpected (t ∷ behind) = ap (f (up h.0 d) 0) (sym (l.is ∙ ap (λ (z : Tokens). l.used ++ z) at)) ∙ raised_stop h.0 d 0 ts rest e ∙ ap (stop unexpected) at in
            let y : f (up h.0 d) 0 (l.used ++ t ∷ others) ≡ stop unexpected (t ∷ others) = (p (up h.0 d)).stop_alike 0 unexpected l.used (t ∷ behind) (t ∷ others) refl x in
            let z : done a h.1 [] ≡ stop unexpected (t ∷ others) = sym (elsewhere d h.0 h.1 a (l.used ++ t ∷ others) h.2) ∙ y in cc;
        not_whole = λ a none h. let z : done a h.1 [] ≡ stop unexpected rest = sym (elsewhere d h.0 h.1 a ts h.2) ∙ raised_stop h.0 d 0 ts rest e in cc;
      }

  more_follows : (d m : ℕ) (ts rest : Tokens) (a : A) → f d 0 ts ≡ done a m rest → rest ≢ [] → Refuses P ts rest
  more_follows d m ts rest a e some =
      let l = (p d).found 0 m ts rest a e in
      record {
        used = l.used;
        is = l.is;
        value = a;
        more = [];
        begins = (d, m, subst (P d 0 a m) (sym (append-nil l.used)) l.spelled);
        no_more = λ t behind others b at h.
            let x : f (up h.0 d) 0 (l.used ++ t ∷ behind) ≡ done a m (t ∷ behind) = ap (f (up h.0 d) 0) (sym (l.is ∙ ap (λ (z : Tokens). l.used ++ z) at)) ∙ raised h.0 d 0 m ts rest a e ∙ ap (done a m) at in
            let y : f (up h.0 d) 0 (l.used ++ t ∷ others) ≡ done a m (t ∷ others) = (p (up h.0 d)).done_alike 0 m l.used (t ∷ behind) (t ∷ others) a refl x in
            let z : done b h.1 [] ≡ done a m (t ∷ others) = sym (elsewhere d h.0 h.1 b (l.used ++ t ∷ others) h.2) ∙ y in cc;
        not_whole = λ b none h. absurd (some none);
      }

  pub read_refused : (d : ℕ) (ts rest : Tokens) → only (f d) 0 ts ≡ stop unexpected rest → Refuses P ts rest
  read_refused d ts rest e =
      elim (bind_stop (f d 0 ts) at_end unexpected rest e) [
        | inl h ↦ stopped d ts rest h
        | inr h ↦ let z = end_stop unexpected h.0 h.1 h.2 rest h.4 in more_follows d h.1 ts rest h.0 (h.3 ∙ ap (done h.0 h.1) z.1) z.2
      ]

  heads : (k : Stop) → k ≢ unexpected → (rest more : Tokens) → Meets k rest more → (t : Token) × (behind : Tokens) × (others : Tokens) × (rest ≡ t ∷ behind) × (more ≡ t ∷ others)
  heads unexpected ne rest more h = absurd (ne refl)
  heads too_deep ne [] more h = elim h [ ]
  heads too_deep ne (t ∷ rest) [] h = elim h [ ]
  heads too_deep ne (t ∷ rest) (u ∷ more) h = (t, rest, more, refl, ap (λ (v : Token). v ∷ more) (sym h))
  heads too_many ne [] more h = elim h [ ]
  heads too_many ne (t ∷ rest) [] h = elim h [ ]
  heads too_many ne (t ∷ rest) (u ∷ more) h = (t, rest, more, refl, ap (λ (v : Token). v ∷ more) (sym h))

  limit_at : (k : Stop) → k ≢ unexpected → (d : ℕ) (ts rest : Tokens) → f d 0 ts ≡ stop k rest → Passes P d ts rest
  limit_at k ne d ts rest e =
      let l = (p d).begun 0 k ts rest e in
      let h = heads k ne rest l.more l.meets in
      record {
        used = l.used;
        token = h.0;
        behind = h.1;
        at = h.3;
        is = l.is ∙ ap (λ (z : Tokens). l.used ++ z) h.3;
        value = l.value;
        more = h.2;
        begins = (suc d, l.counted, subst (λ (z : Tokens). P (suc d) 0 l.value l.counted (l.used ++ z)) h.4 l.spelled);
        no_more = λ others a m g.
            let x : f d 0 (l.used ++ h.0 ∷ h.1) ≡ stop k (h.0 ∷ h.1) = ap (f d 0) (sym (l.is ∙ ap (λ (z : Tokens). l.used ++ z) h.3)) ∙ e ∙ ap (stop k) h.3 in
            let y : f d 0 (l.used ++ h.0 ∷ others) ≡ stop k (h.0 ∷ others) = (p d).stop_alike 0 k l.used (h.0 ∷ h.1) (h.0 ∷ others) refl x in
            let z : done a m [] ≡ stop k (h.0 ∷ others) = sym (ap (f d 0) (sym (append-nil (l.used ++ h.0 ∷ others))) ∙ (p d).whole 0 m a (l.used ++ h.0 ∷ others) [] g ends) ∙ y in cc;
      }

  pub read_passes : (k : Stop) → k ≢ unexpected → (d : ℕ) (ts rest : Tokens) → only (f d) 0 ts ≡ stop k rest → Passes P d ts rest
  read_passes k ne d ts rest e =
      elim (bind_stop (f d 0 ts) at_end k rest e) [
        | inl h ↦ limit_at k ne d ts rest h
        | inr h ↦ absurd (ne (sym (end_stop k h.0 h.1 h.2 rest h.4).0))
      ]
