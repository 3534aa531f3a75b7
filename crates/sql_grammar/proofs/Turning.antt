-- Turns, one after another, keep what readers owe.
use Rattle.std.proofs.Common.{◌≡◌, ℕ, zero, suc, ◌≤◌, List, [], ◌∷◌, ◌++◌, length, true, false, ◌⊎◌, inl, inr, refl, sym, ap, ◌∙◌, subst, append_assoc, arith, length-append, append-nil}
use Rattle.std.proofs.lemmas.List.{append_cancel_right}
use Rattle.sql_grammar.specs.declared.class.Class.{Class}
use Rattle.sql_grammar.specs.Class.{Tokens, starts}
use Rattle.sql_grammar.specs.Phrase.{Phrase, Times, Turns}
use Rattle.sql_grammar.specs.Reader.{Stop, unexpected, done, stop, Reader, and_then, turns_within, turns}
use Rattle.sql_grammar.proofs.Classes.{apart, or_left, or_right, tells, starts-append, starts_apart, Alike, alike-append, begins_with, choice_alike, some_length}
use Rattle.sql_grammar.proofs.Laws.{Laws, Shape, Splits, Begins, Opens, opens_first, bind_done, bind_stop}

-- ---- none or more

abbrev pub several : Shape → Shape
several s = record { first = s.first; goes_on = s.goes_on ++ s.first; empty = true; exact = s.exact }

module _ {S : Type 0} (P W : S → Phrase S) (f F : S → Reader S) (s : Shape) (p : (x : S) → Laws (P x) (W x) (f x) (F x) s) (se : s.empty ≡ false) where
  abbrev run : ℕ → S → Reader S
  run = turns_within s.first f

  run_end : (k : ℕ) (x : S) (n : ℕ) (ts : Tokens) → starts s.first ts ≡ false → run k x n ts ≡ done x n ts
  unfolding turns_within
  run_end zero x n ts e = refl
  run_end (suc k) x n ts e = rw e refl

  run_turn : (k : ℕ) (x : S) (n : ℕ) (ts : Tokens) → starts s.first ts ≡ true → run (suc k) x n ts ≡ and_then (f x n ts) (run k)
  unfolding turns_within
  run_turn k x n ts e = rw e refl

  run_zero : (x z : S) (n m : ℕ) (ts rest : Tokens) → run zero x n ts ≡ done z m rest → (ts ≡ rest) × (x ≡ z) × (n ≡ m)
  unfolding turns_within
  run_zero x z n m ts rest e = (cc, cc, cc)

  run_zero_stop : (x : S) (n : ℕ) (k : Stop) (ts rest : Tokens) → run zero x n ts ≡ stop k rest → ⊥
  unfolding turns_within
  run_zero_stop x n k ts rest e = cc

  abbrev Turn : ℕ → S → ℕ → Tokens → S → ℕ → Tokens → Type 0
  Turn k x n ts z m rest = (y : S) × (i : ℕ) × (mid : Tokens) × (f x n ts ≡ done y i mid) × (run k y i mid ≡ done z m rest)

  run_done : (k : ℕ) (x z : S) (n m : ℕ) (ts rest : Tokens) → run (suc k) x n ts ≡ done z m rest
      → ((starts s.first ts ≡ true) × Turn k x n ts z m rest) ⊎ ((starts s.first ts ≡ false) × (ts ≡ rest) × (x ≡ z) × (n ≡ m))
  run_done k x z n m ts rest e =
      elim (tells (starts s.first ts)) [
        | inl b ↦ inl (b, bind_done (f x n ts) (run k) z m rest (sym (run_turn k x n ts b) ∙ e))
        | inr b ↦ let j : done x n ts ≡ done z m rest = sym (run_end (suc k) x n ts b) ∙ e in inr (b, cc, cc, cc)
      ]

  run_stop : (k : ℕ) (x : S) (n : ℕ) (j : Stop) (ts rest : Tokens) → run (suc k) x n ts ≡ stop j rest
      → (starts s.first ts ≡ true) × ((f x n ts ≡ stop j rest) ⊎ ((y : S) × (i : ℕ) × (mid : Tokens) × (f x n ts ≡ done y i mid) × (run k y i mid ≡ stop j rest)))
  run_stop k x n j ts rest e =
      elim (tells (starts s.first ts)) [
        | inl b ↦ (b, bind_stop (f x n ts) (run k) j rest (sym (run_turn k x n ts b) ∙ e))
        | inr b ↦ let i : done x n ts ≡ stop j rest = sym (run_end (suc k) x n ts b) ∙ e in absurd (cc)
      ]

  none_found : (x z : S) (n m : ℕ) (ts rest : Tokens) → ts ≡ rest → x ≡ z → n ≡ m → Splits (Turns P x) n z m ts rest
  none_found x z n m ts rest e h i = record { used = []; is = e; spelled = (zero, (refl, sym h, sym i)) }

  run_found : (k : ℕ) (x z : S) (n m : ℕ) (ts rest : Tokens) → run k x n ts ≡ done z m rest → Splits (Turns P x) n z m ts rest
  run_found zero x z n m ts rest e = let h = run_zero x z n m ts rest e in none_found x z n m ts rest h.0 h.1 h.2
  run_found (suc k) x z n m ts rest e =
      elim (run_done k x z n m ts rest e) [
        | inl h ↦
            let t = h.1 in
            let l = (p x).found n t.1 ts t.2 t.0 t.3 in
            let r = run_found k t.0 z t.1 m t.2 rest t.4 in
            record {
              used = l.used ++ r.used;
              is = l.is ∙ ap (λ u. l.used ++ u) r.is ∙ sym (append_assoc l.used r.used rest);
              spelled = (suc r.spelled.0, record { first = t.0; middle = t.1; front = l.used; back = r.used; is = refl; left = l.spelled; right = r.spelled.1 });
            }
        | inr h ↦ none_found x z n m ts rest h.1 h.2 h.3
      ]

  run_begun : (k : ℕ) (x : S) (n : ℕ) (j : Stop) (ts rest : Tokens) → run k x n ts ≡ stop j rest → Begins (Turns W x) n j ts rest
  run_begun zero x n j ts rest e = absurd (run_zero_stop x n j ts rest e)
  run_begun (suc k) x n j ts rest e =
      elim (run_stop k x n j ts rest e).1 [
        | inl h ↦
            let l = (p x).begun n j ts rest h in
            record {
              used = l.used;
              is = l.is;
              value = l.value;
              counted = l.counted;
              more = l.more;
              meets = l.meets;
              spelled = (1, record { first = l.value; middle = l.counted; front = l.used ++ l.more; back = []; is = sym (append-nil _); left = l.spelled; right = (refl, refl, refl) });
            }
        | inr t ↦
            let l = (p x).found n t.1 ts t.2 t.0 t.3 in
            let r = run_begun k t.0 t.1 j t.2 rest t.4 in
            record {
              used = l.used ++ r.used;
              is = l.is ∙ ap (λ u. l.used ++ u) r.is ∙ sym (append_assoc l.used r.used rest);
              value = r.value;
              counted = r.counted;
              more = r.more;
              meets = r.meets;
              spelled = (suc r.spelled.0, record { first = t.0; middle = t.1; front = l.used; back = r.used ++ r.more; is = append_assoc l.used r.used r.more; left = (p x).wide n t.1 t.0 l.used l.spelled; right = r.spelled.1 });
            }
      ]

  shorter : (front : Tokens) (k : ℕ) (back : Tokens) → starts s.first front ≡ true → length (front ++ back) ≤ suc k → length back ≤ k
  shorter front k back e h = let i = some_length s.first front e in omega (arith, length-append front back)

  not_none : (front back : Tokens) → starts s.first front ≡ true → length (front ++ back) ≤ 0 → ⊥
  not_none front back e h = let k = some_length s.first front e in omega (arith, length-append front back)

  fits_in : (ts us : Tokens) (k : ℕ) → ts ≡ us → length ts ≤ k → length us ≤ k
  fits_in ts us k e h = subst (λ (z : Tokens). length z ≤ k) e h

  opens_turn : (x y : S) (n m : ℕ) (front : Tokens) → P x n y m front → starts s.first front ≡ true
  opens_turn x y n m front h = opens_first s front se ((p x).opens n m y front h)

  ends_item : apart s.first s.goes_on ≡ true → (c : ℕ) (x z : S) (n m : ℕ) (back rest : Tokens) → Times c P x n z m back → starts s.goes_on rest ≡ false → starts s.goes_on (back ++ rest) ≡ false
  ends_item clear zero x z n m back rest h k = ap (λ (u : Tokens). starts s.goes_on (u ++ rest)) h.0 ∙ k
  ends_item clear (suc c) x z n m back rest h k =
      starts_apart s.first s.goes_on (back ++ rest) clear (begins_with s.first back rest (subst (λ (u : Tokens). starts s.first u ≡ true) (sym h.is) (begins_with s.first h.front h.back (opens_turn x h.first n h.middle h.front h.left))))

  run_whole : apart s.first s.goes_on ≡ true → (k c : ℕ) (x z : S) (n m : ℕ) (ts rest : Tokens) → length (ts ++ rest) ≤ k → Times c P x n z m ts → starts (s.goes_on ++ s.first) rest ≡ false → run k x n (ts ++ rest) ≡ done z m rest
  run_whole clear k zero x z n m ts rest le h e =
      let i : starts s.first rest ≡ false = or_right _ _ (sym (starts-append s.goes_on s.first rest) ∙ e) in
      ap (λ (u : Tokens). run k x n (u ++ rest)) h.0 ∙ run_end k x n rest i ∙ ap (λ u. done u n rest) (sym h.1) ∙ ap (λ u. done z u rest) (sym h.2)
  run_whole clear zero (suc c) x z n m ts rest le h e =
      let b = opens_turn x h.first n h.middle h.front h.left in
      absurd (not_none h.front (h.back ++ rest) b (fits_in (ts ++ rest) (h.front ++ (h.back ++ rest)) 0 (ap (λ (u : Tokens). u ++ rest) h.is ∙ append_assoc h.front h.back rest) le))
  run_whole clear (suc k) (suc c) x z n m ts rest le h e =
      let b = opens_turn x h.first n h.middle h.front h.left in
      let at = ap (λ (u : Tokens). u ++ rest) h.is ∙ append_assoc h.front h.back rest in
      let i : starts s.goes_on rest ≡ false = or_left _ _ (sym (starts-append s.goes_on s.first rest) ∙ e) in
      let l = (p x).whole n h.middle h.first h.front (h.back ++ rest) h.left (ends_item clear c h.first z h.middle m h.back rest h.right i) in
      let r = run_whole clear k c h.first z h.middle m h.back rest (shorter h.front k (h.back ++ rest) b (fits_in (ts ++ rest) (h.front ++ (h.back ++ rest)) (suc k) at le)) h.right e in
      ap (run (suc k) x n) at ∙ run_turn k x n (h.front ++ (h.back ++ rest)) (begins_with s.first h.front (h.back ++ rest) b) ∙ ap (λ u. and_then u (run k)) l ∙ r

  empty_alike : (x y : Tokens) → Alike x y → length x ≤ 0 → y ≡ []
  empty_alike [] [] same h = refl
  empty_alike [] (u ∷ y) same h = elim same [ ]
  empty_alike (t ∷ x) y same h = absurd (omega arith)

  has_turn : (cs : List Class) (n : ℕ) (ts : Tokens) → starts cs ts ≡ true → length ts ≤ n → (k : ℕ) × (n ≡ suc k)
  has_turn cs zero ts e h = let k = some_length cs ts e in absurd (omega arith)
  has_turn cs (suc n) ts e h = (n, refl)

  cut_at : (ts x front mid back : Tokens) → ts ++ x ≡ front ++ mid → mid ≡ back ++ x → ts ≡ front ++ back
  cut_at ts x front mid back u v = append_cancel_right ts (front ++ back) x (u ∙ ap (λ z. front ++ z) v ∙ sym (append_assoc front back x))

  run_done_alike : (k j : ℕ) (v z : S) (n m : ℕ) (ts x y : Tokens) → length (ts ++ x) ≤ k → length (ts ++ y) ≤ j → Alike x y → run k v n (ts ++ x) ≡ done z m x → run j v n (ts ++ y) ≡ done z m y
  run_done_alike zero j v z n m ts x y le lf same e =
      let h = run_zero v z n m (ts ++ x) x e in
      let u : ts ≡ [] = append_cancel_right ts [] x h.0 in
      let w : y ≡ [] = empty_alike x y same (fits_in (ts ++ x) x 0 h.0 le) in
      rw (u, w) (run_end j v n [] refl ∙ ap (λ a. done a n []) h.1 ∙ ap (λ a. done z a []) h.2)
  run_done_alike (suc k) j v z n m ts x y le lf same e =
      elim (run_done k v z n m (ts ++ x) x e) [
        | inl h ↦
            let t = h.1 in
            let l = (p v).found n t.1 (ts ++ x) t.2 t.0 t.3 in
            let r = run_found k t.0 z t.1 m t.2 x t.4 in
            let c = cut_at ts x l.used t.2 r.used l.is r.is in
            let w : f v n (l.used ++ (r.used ++ x)) ≡ done t.0 t.1 (r.used ++ x) = ap (f v n) (sym (l.is ∙ ap (λ u. l.used ++ u) r.is)) ∙ t.3 ∙ ap (done t.0 t.1) r.is in
            let q = (p v).done_alike n t.1 l.used (r.used ++ x) (r.used ++ y) t.0 (alike-append r.used x y same) w in
            let b = opens_turn v t.0 n t.1 l.used l.spelled in
            let at : ts ++ y ≡ l.used ++ (r.used ++ y) = ap (λ u. u ++ y) c ∙ append_assoc l.used r.used y in
            let by : ts ++ x ≡ l.used ++ (r.used ++ x) = ap (λ u. u ++ x) c ∙ append_assoc l.used r.used x in
            let b2 = begins_with s.first l.used (r.used ++ y) b in
            let lg = fits_in (ts ++ y) (l.used ++ (r.used ++ y)) j at lf in
            let i = has_turn s.first j (l.used ++ (r.used ++ y)) b2 lg in
            let o = run_done_alike k i.0 t.0 z t.1 m r.used x y (shorter l.used k (r.used ++ x) b (fits_in (ts ++ x) (l.used ++ (r.used ++ x)) (suc k) by le))
            (shorter l.used i.0 (r.used ++ y) b (subst (λ (a : ℕ). length (l.used ++ (r.used ++ y)) ≤ a) i.1 lg)) same (ap (run k t.0 t.1) (sym r.is) ∙ t.4) in
            ap (λ (a : ℕ). run a v n (ts ++ y)) i.1 ∙ ap (run (suc i.0) v n) at ∙ run_turn i.0 v n (l.used ++ (r.used ++ y)) b2 ∙ ap (λ u. and_then u (run i.0)) q ∙ o
        | inr h ↦
            let u : ts ≡ [] = append_cancel_right ts [] x h.1 in
            let b : starts s.first (ts ++ y) ≡ false = sym (choice_alike s.first ts x y same) ∙ h.0 in
            run_end j v n (ts ++ y) b ∙ ap (λ (a : Tokens). done v n (a ++ y)) u ∙ ap (λ a. done a n y) h.2 ∙ ap (λ a. done z a y) h.3
      ]

  run_stop_alike : (k i : ℕ) (v : S) (n : ℕ) (j : Stop) (ts x y : Tokens) → length (ts ++ x) ≤ k → length (ts ++ y) ≤ i → Alike x y → run k v n (ts ++ x) ≡ stop j x → run i v n (ts ++ y) ≡ stop j y
  run_stop_alike zero i v n j ts x y le lf same e = absurd (run_zero_stop v n j (ts ++ x) x e)
  run_stop_alike (suc k) i v n j ts x y le lf same e =
      let h = run_stop k v n j (ts ++ x) x e in
      let b3 : starts s.first (ts ++ y) ≡ true = sym (choice_alike s.first ts x y same) ∙ h.0 in
      let o = has_turn s.first i (ts ++ y) b3 lf in
      ap (λ (a : ℕ). run a v n (ts ++ y)) o.1 ∙ run_turn o.0 v n (ts ++ y) b3 ∙ elim h.1 [
        | inl g ↦ ap (λ u. and_then u (run o.0)) ((p v).stop_alike n j ts x y same g)
        | inr t ↦
            let l = (p v).found n t.1 (ts ++ x) t.2 t.0 t.3 in
            let r = run_begun k t.0 t.1 j t.2 x t.4 in
            let c = cut_at ts x l.used t.2 r.used l.is r.is in
            let w : f v n (l.used ++ (r.used ++ x)) ≡ done t.0 t.1 (r.used ++ x) = ap (f v n) (sym (l.is ∙ ap (λ u. l.used ++ u) r.is)) ∙ t.3 ∙ ap (done t.0 t.1) r.is in
            let q = (p v).done_alike n t.1 l.used (r.used ++ x) (r.used ++ y) t.0 (alike-append r.used x y same) w in
            let b = opens_turn v t.0 n t.1 l.used l.spelled in
            let at : ts ++ y ≡ l.used ++ (r.used ++ y) = ap (λ u. u ++ y) c ∙ append_assoc l.used r.used y in
            let by : ts ++ x ≡ l.used ++ (r.used ++ x) = ap (λ u. u ++ x) c ∙ append_assoc l.used r.used x in
            let lg = fits_in (ts ++ y) (l.used ++ (r.used ++ y)) i at lf in
            let z = run_stop_alike k o.0 t.0 t.1 j r.used x y (shorter l.used k (r.used ++ x) b (fits_in (ts ++ x) (l.used ++ (r.used ++ x)) (suc k) by le))
            (shorter l.used o.0 (r.used ++ y) b (subst (λ (a : ℕ). length (l.used ++ (r.used ++ y)) ≤ a) o.1 lg)) same (ap (run k t.0 t.1) (sym r.is) ∙ t.4) in
            ap (λ u. and_then (f v n u) (run o.0)) at ∙ ap (λ u. and_then u (run o.0)) q ∙ z
      ]

  turns_opens : (x z : S) (n m : ℕ) (ts : Tokens) (c : ℕ) → Times c P x n z m ts → Opens (several s) ts
  turns_opens x z n m ts zero h = inr (h.0, refl)
  turns_opens x z n m ts (suc c) h = inl (subst (λ (u : Tokens). starts s.first u ≡ true) (sym h.is) (begins_with s.first h.front h.back (opens_turn x h.first n h.middle h.front h.left)))

  times_wide : (c : ℕ) (x z : S) (n m : ℕ) (ts : Tokens) → Times c P x n z m ts → Times c W x n z m ts
  times_wide zero x z n m ts h = h
  times_wide (suc c) x z n m ts h = record { first = h.first; middle = h.middle; front = h.front; back = h.back; is = h.is; left = (p x).wide n h.middle h.first h.front h.left; right = times_wide c h.first z h.middle m h.back h.right }

  wide_turn : (k : ℕ) (x : S) (n : ℕ) (ts : Tokens) → starts s.first ts ≡ true → turns_within s.first F (suc k) x n ts ≡ and_then (F x n ts) (turns_within s.first F k)
  unfolding turns_within
  wide_turn k x n ts e = rw e refl

  wide_end : (k : ℕ) (x : S) (n : ℕ) (ts : Tokens) → starts s.first ts ≡ false → turns_within s.first F k x n ts ≡ done x n ts
  unfolding turns_within
  wide_end zero x n ts e = refl
  wide_end (suc k) x n ts e = rw e refl

  wide_zero : (x : S) (n : ℕ) (ts : Tokens) → turns_within s.first F zero x n ts ≡ done x n ts
  unfolding turns_within
  wide_zero x n ts = refl

  none_raise : (x z : S) (n m : ℕ) (ts rest : Tokens) → ts ≡ rest → x ≡ z → n ≡ m → done x n ts ≡ done z m rest
  none_raise x z n m ts rest e h i = ap (done x n) e ∙ ap (λ u. done u n rest) h ∙ ap (λ u. done z u rest) i

  run_raise : (k : ℕ) (x z : S) (n m : ℕ) (ts rest : Tokens) → run k x n ts ≡ done z m rest → turns_within s.first F k x n ts ≡ done z m rest
  run_raise zero x z n m ts rest e = let h = run_zero x z n m ts rest e in wide_zero x n ts ∙ none_raise x z n m ts rest h.0 h.1 h.2
  run_raise (suc k) x z n m ts rest e =
      elim (run_done k x z n m ts rest e) [
        | inl h ↦ let t = h.1 in wide_turn k x n ts h.0 ∙ ap (λ u. and_then u (turns_within s.first F k)) ((p x).raise n t.1 ts t.2 t.0 t.3) ∙ run_raise k t.0 z t.1 m t.2 rest t.4
        | inr h ↦ wide_end (suc k) x n ts h.0 ∙ none_raise x z n m ts rest h.1 h.2 h.3
      ]

  run_raise_stop : (k : ℕ) (x : S) (n : ℕ) (ts rest : Tokens) → run k x n ts ≡ stop unexpected rest → turns_within s.first F k x n ts ≡ stop unexpected rest
  run_raise_stop zero x n ts rest e = absurd (run_zero_stop x n unexpected ts rest e)
  run_raise_stop (suc k) x n ts rest e =
      let h = run_stop k x n unexpected ts rest e in
      wide_turn k x n ts h.0 ∙ elim h.1 [
        | inl g ↦ ap (λ u. and_then u (turns_within s.first F k)) ((p x).raise_stop n ts rest g)
        | inr t ↦ ap (λ u. and_then u (turns_within s.first F k)) ((p x).raise n t.1 ts t.2 t.0 t.3) ∙ run_raise_stop k t.0 t.1 t.2 rest t.4
      ]

  at_most_itself : (n : ℕ) → n ≤ n
  at_most_itself n = omega arith

  pub turns_laws : apart s.first s.goes_on ≡ true → (x : S) → Laws (Turns P x) (Turns W x) (turns s.first f x) (turns s.first F x) (several s)
  turns_laws clear v = record {
    found = λ n m ts rest z e. run_found (length ts) v z n m ts rest e;
    begun = λ n k ts rest e. run_begun (length ts) v n k ts rest e;
    whole = λ n m z ts rest h e. run_whole clear (length (ts ++ rest)) h.0 v z n m ts rest (at_most_itself (length (ts ++ rest))) h.1 e;
    done_alike = λ n m ts x y z same e. run_done_alike (length (ts ++ x)) (length (ts ++ y)) v z n m ts x y (at_most_itself (length (ts ++ x))) (at_most_itself (length (ts ++ y))) same e;
    stop_alike = λ n k ts x y same e. run_stop_alike (length (ts ++ x)) (length (ts ++ y)) v n k ts x y (at_most_itself (length (ts ++ x))) (at_most_itself (length (ts ++ y))) same e;
    opens = λ n m z ts h. turns_opens v z n m ts h.0 h.1;
    wide = λ n m z ts h. (h.0, times_wide h.0 v z n m ts h.1);
    raise = λ n m ts rest z e. run_raise (length ts) v z n m ts rest e;
    raise_stop = λ n ts rest e. run_raise_stop (length ts) v n ts rest e;
    sample = λ n. record { value = v; counted = n; tokens = []; spelled = (zero, (refl, refl, refl)) };
    rests = λ n ts e. (v, n, wide_end (length ts) v n ts e);
    takes = λ ex n t h. let l = (p v).takes ex n t h in (l.0, l.1, l.2, (1, record { first = l.0; middle = l.1; front = t ∷ l.2; back = []; is = ap (λ (z : Tokens). t ∷ z) (sym (append-nil l.2)); left = l.3; right = (refl, refl, refl) }));
    none = λ _ n. (v, n, (zero, (refl, refl, refl)));
  }

pub repeated : {S : Type 0} {P W : S → Phrase S} {f F : S → Reader S} {s : Shape} → ((x : S) → Laws (P x) (W x) (f x) (F x) s) → s.empty ≡ false → apart s.first s.goes_on ≡ true → (x : S)
    → Laws (Turns P x) (Turns W x) (turns s.first f x) (turns s.first F x) (several s)
repeated p se clear x = turns_laws _ _ _ _ _ p se clear x
