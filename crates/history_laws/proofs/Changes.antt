-- What one reply changes of a channel, and that contents stay an interleaving.
use Rattle.std.proofs.Common.{ℕ, ◌≡◌, ◌≢◌, ◌⊎◌, inl, inr, refl, sym, ap, ◌∙◌, subst, eqb, cond, List, [], ◌∷◌, ◌++◌, Bool, true, false, ◌||◌, append_assoc}
use Rattle.std.proofs.lemmas.Bool.Decides.{eqb_tells}
use Rattle.std.proofs.lemmas.List.{append-nil}
use Rattle.gate_channels.specs.Gate.{Channel}
use Rattle.task_shape.proofs.Numbers.{same_or_not}
use Rattle.task_shape.specs.Shape.{Shape, IsShape, task_at, is_group, receives_at}
use Rattle.core_frame.specs.Frame.{Frame, channel_of}
use Rattle.core_frame.specs.Step.{Need}
use Rattle.history_laws.specs.Histories.{Reply, Past, past_of}
use Rattle.history_laws.specs.Contents.{took_one, took, end_one, has_end, part_one, parts_sent, sent_to, by_sender, IsContents}
use Rattle.history_laws.proofs.Lists.{took_more, sent_more, end_more, by_sender_more, parts_more, IsLonger}
use Rattle.history_laws.proofs.Channels.{IsStill}

-- what the answer x to task t's need n changes of channel c of group g, from a to b
pub data Change {B : Type 0} (p : Shape) (t g c : ℕ) (n : Need B) (x : Reply B) (a b : Channel B) : Type 0 where
  quiet : IsStill a b → took_one g c n x ≡ [] → (is_group (task_at p t).sends g ≡ true → part_one c n x ≡ [])
      → (end_one g c n x ≡ true → (a.live ≡ true) × (a.batches ≡ []) × (a.unended ≡ 0)) → Change p t g c n x a b
  got : (v : B) → took_one g c n x ≡ v ∷ [] → part_one c n x ≡ [] → end_one g c n x ≡ false → receives_at p t g c ≡ true
      → a.live ≡ true → a.batches ≡ v ∷ b.batches → b.unended ≡ a.unended → Change p t g c n x a b
  came : (v : B) → part_one c n x ≡ v ∷ [] → took_one g c n x ≡ [] → end_one g c n x ≡ false → is_group (task_at p t).sends g ≡ true
      → a.live ≡ true → b.batches ≡ a.batches ++ v ∷ [] → a.unended ≢ 0 → Change p t g c n x a b

module _ {B : Type 0} (p : Shape) (sh : IsShape p) (f f2 : Frame B) (pasts pasts2 : List (Past B)) (t : ℕ) (n : Need B) (x : Reply B) (more : IsLonger pasts pasts2 t n x) where
  -- what a history of another task, or one with nothing added, tells
  took_after : (u g c : ℕ) → (t ≡ u → took_one g c n x ≡ []) → took g c (past_of pasts2 u) ≡ took g c (past_of pasts u)
  took_after u g c e = elim (same_or_not t u) [
    | inl s ↦ subst (λ j. took g c (past_of pasts2 j) ≡ took g c (past_of pasts j)) s (ap (took g c) more.here ∙ (took_more g c (past_of pasts t) n x ∙ (ap (λ l. took g c (past_of pasts t) ++ l) (e s) ∙ append-nil (took g c (past_of pasts t)))))
    | inr m ↦ ap (took g c) (more.other u m)
  ]

  end_after : (u g c : ℕ) → (t ≡ u → end_one g c n x ≡ false) → has_end g c (past_of pasts2 u) ≡ has_end g c (past_of pasts u)
  end_after u g c e = elim (same_or_not t u) [
    | inl s ↦ subst (λ j. has_end g c (past_of pasts2 j) ≡ has_end g c (past_of pasts j)) s (ap (has_end g c) more.here ∙ (end_more g c (past_of pasts t) n x ∙ (ap (λ l. has_end g c (past_of pasts t) || l) (e s) ∙ or_no (has_end g c (past_of pasts t)))))
    | inr m ↦ ap (has_end g c) (more.other u m)
  ]
    where
      or_no : (b : Bool) → b || false ≡ b
      or_no true = refl
      or_no false = refl

  -- an end that is told is told before, or now
  end_or : (u g c : ℕ) → has_end g c (past_of pasts2 u) ≡ true → (has_end g c (past_of pasts u) ≡ true) ⊎ (end_one g c n x ≡ true)
  end_or u g c e = elim (same_or_not t u) [
    | inl s ↦ either (has_end g c (past_of pasts u)) (end_one g c n x) (sym (subst (λ j. has_end g c (past_of pasts2 j) ≡ has_end g c (past_of pasts j) || end_one g c n x) s (ap (has_end g c) more.here ∙ end_more g c (past_of pasts t) n x)) ∙ e)
    | inr m ↦ inl (sym (ap (has_end g c) (more.other u m)) ∙ e)
  ]
    where
      either : (a b : Bool) → a || b ≡ true → (a ≡ true) ⊎ (b ≡ true)
      either true b h = inl refl
      either false b h = inr h

  sent_same : (g c : ℕ) → (is_group (task_at p t).sends g ≡ true → part_one c n x ≡ []) → (u : ℕ) → sent_to p u g c (past_of pasts2 u) ≡ sent_to p u g c (past_of pasts u)
  sent_same g c e u = elim (same_or_not t u) [
    | inl s ↦ subst (λ j. sent_to p j g c (past_of pasts2 j) ≡ sent_to p j g c (past_of pasts j)) s (own (is_group (task_at p t).sends g) e)
    | inr m ↦ ap (λ h. sent_to p u g c h) (more.other u m)
  ]
    where
      own : (b : Bool) → (b ≡ true → part_one c n x ≡ []) → cond b (parts_sent c (past_of pasts2 t)) [] ≡ cond b (parts_sent c (past_of pasts t)) []
      own true k = ap (parts_sent c) more.here ∙ (sent_more c (past_of pasts t) n x ∙ (ap (λ l. parts_sent c (past_of pasts t) ++ l) (k refl) ∙ append-nil (parts_sent c (past_of pasts t))))
      own false k = refl

  pub contents_after : (u g c : ℕ) → receives_at p u g c ≡ true → Change p t g c n x (channel_of f g c) (channel_of f2 g c) → IsContents p f pasts u g c → IsContents p f2 pasts2 u g c
  contents_after u g c r (quiet st tk sn en) k = record {
    log = k.log;
    each = λ v. k.each v ∙ sym (sent_same g c sn v);
    rest = k.rest;
    all = ap (λ l. l ++ k.rest) (took_after u g c (λ _. tk)) ∙ k.all;
    live = λ l. st.batches l ∙ k.live (st.live l);
    over = λ h. elim (end_or u g c h) [
      | inl b ↦ (let o = k.over b in (o.0, st.ended o.1))
      | inr b ↦ (let o = en b in (sym (k.live o.0) ∙ o.1, st.ended o.2))
    ];
  }
  contents_after u g c r (got v tk sn en own l bs un) k = record {
    log = k.log;
    each = λ w. k.each w ∙ sym (sent_same g c (λ _. sn) w);
    rest = (channel_of f2 g c).batches;
    all = ap (λ z. z ++ (channel_of f2 g c).batches) now ∙ (append_assoc (took g c (past_of pasts u)) (v ∷ []) (channel_of f2 g c).batches ∙ (ap (λ z. took g c (past_of pasts u) ++ z) (sym bs ∙ k.live l) ∙ k.all));
    live = λ _. refl;
    over = λ h. (let o = k.over (sym (end_after u g c (λ _. en)) ∙ h) in let z : v ∷ (channel_of f2 g c).batches ≡ [] = sym bs ∙ (k.live l ∙ o.0) in cc);
  }
    where
      same : t ≡ u
      same = sh.one_receiver t u g c own r

      now : took g c (past_of pasts2 u) ≡ took g c (past_of pasts u) ++ v ∷ []
      now = subst (λ j. took g c (past_of pasts2 j) ≡ took g c (past_of pasts j) ++ v ∷ []) same (ap (took g c) more.here ∙ (took_more g c (past_of pasts t) n x ∙ ap (λ z. took g c (past_of pasts t) ++ z) tk))
  contents_after u g c r (came v sn tk en own l bs un) k = record {
    log = k.log ++ (t, v) ∷ [];
    each = λ w. by_sender_more w t v k.log ∙ each w;
    rest = k.rest ++ v ∷ [];
    all = ap (λ z. z ++ (k.rest ++ v ∷ [])) (took_after u g c (λ _. tk)) ∙ (sym (append_assoc (took g c (past_of pasts u)) k.rest (v ∷ [])) ∙ (ap (λ z. z ++ v ∷ []) k.all ∙ sym (parts_more t v k.log)));
    live = λ _. bs ∙ ap (λ z. z ++ v ∷ []) (k.live l);
    over = λ h. absurd (un (k.over (sym (end_after u g c (λ _. en)) ∙ h)).1);
  }
    where
      each : (w : ℕ) → by_sender w k.log ++ cond (eqb t w) (v ∷ []) [] ≡ sent_to p w g c (past_of pasts2 w)
      each w = elim (eqb_tells t w) [
        | inl s ↦ rw s.0 (subst (λ j. by_sender j k.log ++ v ∷ [] ≡ sent_to p j g c (past_of pasts2 j)) s.1 (ap (λ z. z ++ v ∷ []) (k.each t) ∙ there (is_group (task_at p t).sends g) own))
        | inr s ↦ rw s.0 (append-nil (by_sender w k.log) ∙ (k.each w ∙ sym (ap (λ h. sent_to p w g c h) (more.other w s.1))))
      ]
        where
          there : (b : Bool) → b ≡ true → cond b (parts_sent c (past_of pasts t)) [] ++ v ∷ [] ≡ cond b (parts_sent c (past_of pasts2 t)) []
          there true _ = sym (ap (parts_sent c) more.here ∙ (sent_more c (past_of pasts t) n x ∙ ap (λ z. parts_sent c (past_of pasts t) ++ z) sn))
          there false e = cc
