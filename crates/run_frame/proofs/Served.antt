-- What serves a need, by the step that it makes.
use Rattle.std.proofs.Common.{ℕ, ◌≡◌, inl, inr, refl, sym, ◌∙◌, cond, get_or, true, false, ◌⊎◌, Some, None}
use Rattle.std.proofs.lemmas.Bool.{eq-eqb}
use Rattle.run_journal.specs.declared.cause.Cause.{Cause}
use Rattle.run_journal.specs.declared.entry.EntryKind.{EntryKind}
use Rattle.run_journal.specs.declared.entry.EntryKind.TheVariants.{Claimed, Yielded, Failed}
use Rattle.run_journal.specs.SameKind.{same_kind}
use Rattle.run_journal.proofs.SameKind.{kind_is}
use Rattle.task_shape.specs.Shape.{Shape}
use Rattle.core_frame.specs.Frame.{Frame, place_of, owns}
use Rattle.core_frame.specs.declared.place.Place.TheVariants.{Woken, OwnedBy}
use Rattle.core_frame.specs.Step.{Need, Fail, frame_step, made, may_fail, is_yielded, claimed, yielded, failed}
use Rattle.run_frame.specs.Running.{Running}
use Rattle.run_frame.specs.Answers.{entry, IsServed}
use Rattle.run_frame.proofs.Stepped.{chosen}
use Rattle.run_frame.proofs.Claims.{claimed_step}
use Rattle.run_frame.proofs.Owners.{some_owned, yielded_step}

-- an entry that is neither a device's failure nor a yield is the one that the need makes
by_made : {B : Type 0} (p : Shape) (f : Frame B) (w t : ℕ) (need : Need B) (k : EntryKind) → place_of f t ≡ OwnedBy w → f.failure ≡ None → may_fail k ≡ false → is_yielded k ≡ false
    → frame_step p f (entry w t k) need ≡ cond (same_kind (made p f t need).kind k) (Some (made p f t need).frame) None
by_made p f w t need k at ok m y = rw (some_owned f.places t w at, ok, at, eq-eqb w w refl, m, y) refl

pub served : {B : Type 0} (r new : Running B) (w t : ℕ) (need : Need B) (k : EntryKind) → place_of r.frame t ≡ OwnedBy w → r.frame.failure ≡ None → may_fail k ≡ false → is_yielded k ≡ false
    → new.shape ≡ r.shape → frame_step r.shape r.frame (entry w t k) need ≡ Some new.frame → IsServed r new w t need k
served {B} r new w t need k at ok m y same step =
    go (chosen (same_kind (made r.shape r.frame t need).kind k) (Some (made r.shape r.frame t need).frame) None (Some new.frame) (sym (by_made r.shape r.frame w t need k at ok m y) ∙ step))
  where
    go : ((same_kind (made r.shape r.frame t need).kind k ≡ true) × (Some (made r.shape r.frame t need).frame ≡ Some new.frame))
        ⊎ ((same_kind (made r.shape r.frame t need).kind k ≡ false) × (None ≡ Some new.frame)) → IsServed r new w t need k
    go (inl x) = record {
      kind = sym (kind_is (made r.shape r.frame t need).kind k x.0);
      frame = (let e : Some (made r.shape r.frame t need).frame ≡ Some new.frame = x.1 in cc);
      step = step;
      shape = same;
    }
    go (inr x) = (let z : None ≡ Some new.frame = x.1 in cc)

-- a failure for the cause that the need names
pub served_failure : {B : Type 0} (r new : Running B) (w t : ℕ) (cause : Cause) → new.shape ≡ r.shape → new.frame ≡ failed r.frame cause
    → frame_step r.shape r.frame (entry w t (Failed cause)) (Fail cause) ≡ Some new.frame → IsServed r new w t (Fail cause) (Failed cause)
served_failure r new w t cause same frame step = record { kind = refl; frame = frame; step = step; shape = same }

-- one step leads to one frame
pub claimed_is : {B : Type 0} (p : Shape) (f new : Frame B) (t w : ℕ) (need : Need B) → place_of f t ≡ Woken → owns w f.places ≡ false → f.failure ≡ None
    → frame_step p f (entry w t Claimed) need ≡ Some new → new ≡ claimed f t w
claimed_is p f new t w need at free ok step = (let e : Some new ≡ Some (claimed f t w) = sym step ∙ claimed_step p f t w need at free ok in cc)

pub yielded_is : {B : Type 0} (p : Shape) (f new : Frame B) (t w : ℕ) (need : Need B) → place_of f t ≡ OwnedBy w → f.failure ≡ None → get_or f.progress t false ≡ true
    → frame_step p f (entry w t Yielded) need ≡ Some new → new ≡ yielded f t
yielded_is p f new t w need at ok made step = (let e : Some new ≡ Some (yielded f t) = sym step ∙ yielded_step p f w t need at ok made in cc)
