-- Every step keeps contents: what was taken and what is left is an interleaving of what was sent.
use Rattle.std.proofs.Common.{ℕ, ◌<◌, ◌≡◌, ◌≢◌, ◌⊎◌, inl, inr, refl, sym, ap, ◌∙◌, subst, List, length, Bool, true, false, ◌||◌, Option, Some, None}
use Rattle.gate_channels.specs.Gate.{Channel}
use Rattle.task_shape.proofs.Numbers.{same_or_not}
use Rattle.task_shape.specs.Shape.{Shape, IsShape, task_at, is_group}
use Rattle.core_frame.specs.Frame.{Frame, channel_of}
use Rattle.core_frame.specs.Step.{Need}
use Rattle.core_frame.specs.Good.{IsOwn}
use Rattle.core_frame.specs.Lawful.{IsLawful}
use Rattle.history_laws.specs.Histories.{Reply, Past, past_of, pasts_after}
use Rattle.history_laws.specs.Contents.{gone_one, gone, IsTold}
use Rattle.history_laws.proofs.Lists.{gone_more, IsLonger, longer}
use Rattle.history_laws.proofs.Channels.{AreStill}
use Rattle.history_laws.proofs.Changes.{Change, quiet, got, came, contents_after}
use Rattle.history_laws.proofs.Ways.{Way, fails, yields, claims, makes}
use Rattle.history_laws.proofs.Made.{Changes, Outcome, silent, told, made_outcome, still_failed, still_claimed, still_yielded}

-- the channel was live before, wherever it is live after an answer
live_before : {B : Type 0} (p : Shape) (t g c : ℕ) (n : Need B) (x : Reply B) (a b : Channel B) → Change p t g c n x a b → b.live ≡ true → a.live ≡ true
live_before p t g c n x a b (quiet st _ _ _) e = st.live e
live_before p t g c n x a b (got v _ _ _ _ l _ _) e = l
live_before p t g c n x a b (came v _ _ _ _ l _ _) e = l

stays_dead : (a b : Bool) → (b ≡ true → a ≡ true) → a ≡ false → b ≡ false
stays_dead a true k e = (let y : true ≡ false = sym (k refl) ∙ e in cc)
stays_dead a false k e = refl

module _ {B : Type 0} (p : Shape) (sh : IsShape p) (f f2 : Frame B) (pasts : List (Past B)) where
  told_still : AreStill f f2 → IsTold p f pasts → IsTold p f2 pasts
  told_still s k = record {
    contents = λ t g c r. (let o = k.contents t g c r in record {
      log = o.log;
      each = o.each;
      rest = o.rest;
      all = o.all;
      live = λ e. (s g c).batches e ∙ o.live ((s g c).live e);
      over = λ e. (let y = o.over e in (y.0, (s g c).ended y.1));
    });
    gone = λ u g c q z. stays_dead (channel_of f g c).live (channel_of f2 g c).live (s g c).live (k.gone u g c q z);
  }

  told_more : (t : ℕ) (n : Need B) (x : Reply B) → t < length pasts → Changes p t n x f f2 → IsTold p f pasts → IsTold p f2 (pasts_after pasts t n (Some x))
  told_more t n x h s k = record {
    contents = λ u g c r. contents_after p sh f f2 pasts (pasts_after pasts t n (Some x)) t n x more u g c r (s.each g c) (k.contents u g c r);
    gone = λ u g c q z. gone_now u g c q z (same_or_not t u);
  }
    where
      more : IsLonger pasts (pasts_after pasts t n (Some x)) t n x
      more = longer pasts t n x h

      dead : (u g c : ℕ) → is_group (task_at p u).sends g ≡ true → gone c (past_of pasts u) ≡ true → (channel_of f2 g c).live ≡ false
      dead u g c q z = stays_dead (channel_of f g c).live (channel_of f2 g c).live (live_before p t g c n x _ _ (s.each g c)) (k.gone u g c q z)

      either : (a b : Bool) → a || b ≡ true → (a ≡ true) ⊎ (b ≡ true)
      either true b e = inl refl
      either false b e = inr e

      gone_now : (u g c : ℕ) → is_group (task_at p u).sends g ≡ true → gone c (past_of (pasts_after pasts t n (Some x)) u) ≡ true → (t ≡ u) ⊎ (t ≢ u) → (channel_of f2 g c).live ≡ false
      gone_now u g c q z (inr m) = dead u g c q (sym (ap (gone c) (more.other u m)) ∙ z)
      gone_now u g c q z (inl e) = elim (either (gone c (past_of pasts t)) (gone_one c n x) (sym (gone_more c (past_of pasts t) n x) ∙ (sym (ap (gone c) more.here) ∙ subst (λ j. gone c (past_of (pasts_after pasts t n (Some x)) j) ≡ true) (sym e) z))) [
        | inl y ↦ dead t g c (subst (λ j. is_group (task_at p j).sends g ≡ true) (sym e) q) y
        | inr y ↦ s.gone g c (subst (λ j. is_group (task_at p j).sends g ≡ true) (sym e) q) y
      ]

  pub told_outcome : (t : ℕ) (n : Need B) (o : Option (Reply B)) → t < length pasts → Outcome p t n f f2 o → IsTold p f pasts → IsTold p f2 (pasts_after pasts t n o)
  told_outcome t n None h (silent s) k = told_still s k
  told_outcome t n (Some x) h (told s) k = told_more t n x h s k

-- what each way of a step changes
pub way_outcome : {B : Type 0} (p : Shape) (sh : IsShape p) (f : Frame B) (t w : ℕ) (n : Need B) (f2 : Frame B) (o : Option (Reply B)) → IsLawful p f → IsOwn p t n → t < length p.tasks → Way p f t w n f2 o → Outcome p t n f f2 o
way_outcome p sh f t w n f2 o k own lt (fails cause u) = silent (still_failed f cause)
way_outcome p sh f t w n f2 o k own lt (yields at) = silent (still_yielded f t)
way_outcome p sh f t w n f2 o k own lt (claims at) = silent (still_claimed f t w)
way_outcome p sh f t w n f2 o k own lt (makes at) = made_outcome p sh f t w k at n own lt
