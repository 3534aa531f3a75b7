-- Each entry keeps what is said of ends, and of the parts that were sent.
use Rattle.std.proofs.Common.{ℕ, ◌<◌, ◌≡◌, ◌≢◌, ◌⊎◌, inl, inr, refl, sym, ap, ◌∙◌, subst, eqb, cond, List, [], ◌∷◌, ◌++◌, length, set, Bool, true, false, ◌&&◌, ◌||◌, Option, Some, None, append_assoc, get_or-set_same}
use Rattle.std.proofs.lemmas.List.{append-nil}
use Rattle.gate_channels.specs.Gate.{Channel}
use Rattle.task_shape.proofs.Numbers.{same_or_not}
use Rattle.task_shape.specs.Shape.{Shape, IsShape, task_at, has, is_group, sends_at, receives_at}
use Rattle.core_frame.specs.declared.place.Place.TheVariants.{Done}
use Rattle.core_frame.specs.Frame.{Frame, place_of, channel_of, unfinished}
use Rattle.core_frame.specs.Step.{Need, Scan, Recv, Send, Grow, Free, Writes, Finish, Fail}
use Rattle.core_frame.specs.Lawful.{IsLawful}
use Rattle.core_frame.proofs.Lists.{read_other}
use Rattle.history_laws.specs.Histories.{Reply, Go, Batch, Ended, Refused, Gone, Past, past_of, pasts_after}
use Rattle.history_laws.specs.Contents.{end_one, has_end, part_one, parts_sent, gone_one, gone, IsTold}
use Rattle.history_laws.proofs.Lists.{sent_more, end_more, IsLonger, longer}
use Rattle.history_laws.proofs.Changes.{Change, quiet, got, came}
use Rattle.history_laws.proofs.Made.{Changes, Outcome, silent, told}
use Rattle.history_laws.proofs.Told.{told_outcome}
use Rattle.logical_plan.specs.Items.{Cells}
use Rattle.tree_laws.specs.Operators.{IsFront}
use Rattle.tree_laws.specs.Tasks.{Parts, Task, Wait, handled_one, handled, IsTask, IsEnded, IsLast, Tells, IsWait}
use Rattle.tree_laws.specs.Runs.{no_task, the_task, tasks_after, for_channel, Delivered}
use Rattle.tree_laws.proofs.Fronts.{front_refl, front_both, front_append}
use Rattle.tree_laws.proofs.Turns.{handled_more}
use Rattle.tree_laws.proofs.Endings.{sends_inside, all_finished}

-- ------------------------------------------------------------ parts

pub for-append : (c : ℕ) (xs ys : Parts) → for_channel c (xs ++ ys) ≡ for_channel c xs ++ for_channel c ys
for-append c [] ys = refl
for-append c (x ∷ xs) ys = ap (λ l. cond (eqb x.0 c) (x.1 ∷ []) [] ++ l) (for-append c xs ys) ∙ sym (append_assoc (cond {A = List (List Cells)} (eqb x.0 c) (x.1 ∷ []) []) (for_channel c xs) (for_channel c ys))

-- an answer sends nothing, or the part that it handles
sent_or : (c : ℕ) (n : Need (List Cells)) (x : Reply (List Cells)) → (part_one c n x ≡ []) ⊎ ((part_one c n x ≡ for_channel c (handled_one n x)) × (part_one c n x ≢ []))
sent_or c (Send d b) Go = go (eqb d c)
  where
    go : (e : Bool) → (cond e (b ∷ []) [] ≡ []) ⊎ ((cond e (b ∷ []) [] ≡ cond e (b ∷ []) [] ++ []) × (cond e (b ∷ []) [] ≢ []))
    go true = inr (refl, λ z. cc)
    go false = inl refl
sent_or c (Send d b) (Gone l) = inl refl
sent_or c (Send d b) Ended = inl refl
sent_or c (Send d b) (Batch r) = inl refl
sent_or c (Send d b) Refused = inl refl
sent_or c Scan x = inl refl
sent_or c (Recv g d) x = inl refl
sent_or c (Grow d b) x = inl refl
sent_or c (Free d b) x = inl refl
sent_or c Writes x = inl refl
sent_or c Finish x = inl refl
sent_or c (Fail y) x = inl refl

same_one : (c : ℕ) (n : Need (List Cells)) (x : Reply (List Cells)) → gone_one c n x ≡ false → part_one c n x ≡ for_channel c (handled_one n x)
same_one c (Send d b) Go e = sym (append-nil (cond {A = List (List Cells)} (eqb d c) (b ∷ []) []))
same_one c (Send d b) (Gone l) e = go (eqb d c) e
  where
    go : (a : Bool) → a || l ≡ false → [] ≡ cond a (b ∷ []) [] ++ []
    go true z = cc
    go false z = refl
same_one c (Send d b) Ended e = refl
same_one c (Send d b) (Batch r) e = refl
same_one c (Send d b) Refused e = refl
same_one c Scan x e = refl
same_one c (Recv g d) x e = refl
same_one c (Grow d b) x e = refl
same_one c (Free d b) x e = refl
same_one c Writes x e = refl
same_one c Finish x e = refl
same_one c (Fail y) x e = refl

or_false : (a b : Bool) → a || b ≡ false → (a ≡ false) × (b ≡ false)
or_false true b e = cc
or_false false b e = (refl, e)

-- where no send told that the channel is gone, all its parts were sent
pub not_gone : (c : ℕ) (past : Past (List Cells)) → gone c past ≡ false → parts_sent c past ≡ for_channel c (handled past)
not_gone c [] e = refl
not_gone c (s ∷ h) e = let z = or_false (gone_one c s.0 s.1) (gone c h) e in
    ap (λ l. l ++ parts_sent c h) (same_one c s.0 s.1 z.0) ∙ (ap (λ l. for_channel c (handled_one s.0 s.1) ++ l) (not_gone c h z.1) ∙ sym (for-append c (handled_one s.0 s.1) (handled h)))

front_more : (c : ℕ) (past : Past (List Cells)) (n : Need (List Cells)) (x : Reply (List Cells)) → (part_one c n x ≢ [] → gone c past ≡ false) → IsFront (parts_sent c past) (for_channel c (handled past)) → IsFront (parts_sent c (past ++ (n, x) ∷ [])) (for_channel c (handled (past ++ (n, x) ∷ [])))
front_more c past n x g k = subst (λ l. IsFront l (for_channel c (handled (past ++ (n, x) ∷ [])))) (sym (sent_more c past n x)) (subst (λ l. IsFront (parts_sent c past ++ part_one c n x) l) (sym (ap (for_channel c) (handled_more past n x) ∙ for-append c (handled past) (handled_one n x)))
    (elim (sent_or c n x) [
      | inl e ↦ subst (λ l. IsFront l (for_channel c (handled past) ++ for_channel c (handled_one n x))) (sym (ap (λ l. parts_sent c past ++ l) e ∙ append-nil (parts_sent c past))) (front_both (parts_sent c past) (for_channel c (handled past)) (for_channel c (handled past) ++ for_channel c (handled_one n x)) k (front_append (for_channel c (handled past)) (for_channel c (handled_one n x))))
      | inr e ↦ subst (λ l. IsFront (parts_sent c past ++ part_one c n x) (l ++ for_channel c (handled_one n x))) (not_gone c past (g e.1)) (subst (λ l. IsFront (parts_sent c past ++ part_one c n x) (parts_sent c past ++ l)) e.0 (front_refl (parts_sent c past ++ part_one c n x)))
    ]))

-- ------------------------------------------------------------ what a change tells

live_at_end : {B : Type 0} (p : Shape) (t g c : ℕ) (n : Need B) (x : Reply B) (a b : Channel B) → Change p t g c n x a b → end_one g c n x ≡ true → a.live ≡ true
live_at_end p t g c n x a b (quiet _ _ _ en) e = (en e).0
live_at_end p t g c n x a b (got v _ _ en _ _ _ _) e = (let z : true ≡ false = sym e ∙ en in cc)
live_at_end p t g c n x a b (came v _ _ en _ _ _ _) e = (let z : true ≡ false = sym e ∙ en in cc)

live_at_send : {B : Type 0} (p : Shape) (t g c : ℕ) (n : Need B) (x : Reply B) (a b : Channel B) → Change p t g c n x a b → is_group (task_at p t).sends g ≡ true → part_one c n x ≢ [] → a.live ≡ true
live_at_send p t g c n x a b (quiet _ _ sn _) o e = absurd (e (sn o))
live_at_send p t g c n x a b (got v _ sn _ _ _ _ _) o e = absurd (e sn)
live_at_send p t g c n x a b (came v _ _ _ _ l _ _) o e = l

is_false : (b : Bool) → (b ≡ true → ⊥) → b ≡ false
is_false true h = absurd (h refl)
is_false false h = refl

first_true : (a b : Bool) → a && b ≡ true → a ≡ true
first_true true b e = refl
first_true false b e = cc

either : (a b : Bool) → a || b ≡ true → (a ≡ true) ⊎ (b ≡ true)
either true b e = inl refl
either false b e = inr e

-- who was finished before is another than the task of the entry
abbrev pub WasFinished : Frame (List Cells) → Frame (List Cells) → ℕ → Need (List Cells) → Option (Reply (List Cells)) → Type 0
WasFinished f f2 t n o = (u : ℕ) → place_of f2 u ≡ Done → (place_of f u ≡ Done) ⊎ ((t ≡ u) × (n ≡ Finish) × (o ≡ None))

module _ (p : Shape) (sh : IsShape p) (size : ℕ) (f f2 : Frame (List Cells)) (pasts : List (Past (List Cells))) (tasks : List Task) (told0 : IsTold p f pasts) (k : Delivered p size f pasts tasks)
    (lawful : IsLawful p f) (lawful2 : IsLawful p f2) (each : (u : ℕ) → IsTask size (past_of pasts u) (the_task tasks u)) (t : ℕ) (w : Wait) (ok : IsWait size (past_of pasts t) (the_task tasks t) w)
    (in_pasts : t < length pasts) (in_tasks : t < length tasks) (here : unfinished (place_of f t) ≡ true) where
  not_live : (u g c : ℕ) → sends_at p u g c ≡ true → (channel_of f g c).live ≡ true → gone c (past_of pasts u) ≡ false
  not_live u g c e l = is_false (gone c (past_of pasts u)) (λ z. (let y : (channel_of f g c).live ≡ false = told0.gone u g c (first_true (is_group (task_at p u).sends g) (has (task_at p u).targets c) e) z in let v : true ≡ false = sym l ∙ y in cc))

  other : (u : ℕ) → place_of f u ≡ Done → t ≢ u
  other u e s = (let z : true ≡ false = sym here ∙ (ap (λ j. unfinished (place_of f j)) s ∙ ap unfinished e) in cc)

  over_other : (a g c : ℕ) → receives_at p a g c ≡ true → has_end g c (past_of pasts a) ≡ true → (u : ℕ) → sends_at p u g c ≡ true → t ≢ u
  over_other a g c r e u d = other u (all_finished p f g c lawful ((told0.contents a g c r).over e).1 u d)

  -- an entry without a reply
  none_delivered : WasFinished f f2 t w.need None → Delivered p size f2 pasts (set tasks t w.now)
  none_delivered was = record {
    done = λ u h e. done u h (was u e);
    over = λ a g c r e u d. (let q = k.over a g c r e u d in (subst (IsEnded size) (sym (else u (over_other a g c r e u d))) q.0, q.1));
    front = k.front;
  }
    where
      at : the_task (set tasks t w.now) t ≡ w.now
      at = get_or-set_same tasks t w.now no_task in_tasks

      else : (u : ℕ) → t ≢ u → the_task (set tasks t w.now) u ≡ the_task tasks u
      else u n = read_other tasks t u w.now no_task n

      finishes : w.need ≡ Finish → IsLast size w.now
      finishes e = subst (λ (n : Need (List Cells)). Tells size w.now n) e ok.tells

      done : (u : ℕ) → u < length p.tasks → (place_of f u ≡ Done) ⊎ ((t ≡ u) × (w.need ≡ Finish) × (◌≡◌ {A = Option (Reply (List Cells))} None None)) → IsLast size (the_task (set tasks t w.now) u)
      done u h (inl e) = subst (IsLast size) (sym (else u (other u e))) (k.done u h e)
      done u h (inr e) = subst (λ j. IsLast size (the_task (set tasks t w.now) j)) e.0 (subst (IsLast size) (sym at) (finishes e.1))

  -- an entry with a reply
  some_delivered : (x : Reply (List Cells)) → WasFinished f f2 t w.need (Some x) → Changes p t w.need x f f2 → Delivered p size f2 (pasts_after pasts t w.need (Some x)) (set tasks t (w.after x))
  some_delivered x was0 ch = record {
    done = λ u h e. (let v = was u e in subst (IsLast size) (sym (else u (other u v))) (k.done u h v));
    over = λ a g c r e u d. over a g c r e u d;
    front = λ u g c e. front u g c e (same_or_not t u);
  }
    where
      told2 : IsTold p f2 (pasts_after pasts t w.need (Some x))
      told2 = told_outcome p sh f f2 pasts t w.need (Some x) in_pasts (told ch) told0

      more : IsLonger pasts (pasts_after pasts t w.need (Some x)) t w.need x
      more = longer pasts t w.need x in_pasts

      else : (u : ℕ) → t ≢ u → the_task (set tasks t (w.after x)) u ≡ the_task tasks u
      else u n = read_other tasks t u (w.after x) no_task n

      -- this reply finishes nobody
      was : (u : ℕ) → place_of f2 u ≡ Done → place_of f u ≡ Done
      was u e = elim (was0 u e) [ inl z ↦ z | inr z ↦ (let y : Some x ≡ None = z.2 in cc) ]

      now_or_before : (a g c : ℕ) → has_end g c (past_of (pasts_after pasts t w.need (Some x)) a) ≡ true → (has_end g c (past_of pasts a) ≡ true) ⊎ (end_one g c w.need x ≡ true)
      now_or_before a g c e = elim (same_or_not t a) [
        | inl q ↦ either (has_end g c (past_of pasts a)) (end_one g c w.need x) (sym (subst (λ j. has_end g c (past_of (pasts_after pasts t w.need (Some x)) j) ≡ has_end g c (past_of pasts j) || end_one g c w.need x) q (ap (has_end g c) more.here ∙ end_more g c (past_of pasts t) w.need x)) ∙ e)
        | inr q ↦ inl (sym (ap (has_end g c) (more.other a q)) ∙ e)
      ]

      kept : (u g c : ℕ) → t ≢ u → IsEnded size (the_task tasks u) × (gone c (past_of pasts u) ≡ false) → IsEnded size (the_task (set tasks t (w.after x)) u) × (gone c (past_of (pasts_after pasts t w.need (Some x)) u) ≡ false)
      kept u g c n q = (subst (IsEnded size) (sym (else u n)) q.0, ap (gone c) (more.other u n) ∙ q.1)

      last : (u g c : ℕ) → sends_at p u g c ≡ true → (channel_of f g c).live ≡ true → IsLast size (the_task tasks u) → IsEnded size (the_task tasks u)
      last u g c d l (inl z) = (let y : true ≡ false = sym ((each u).left z c) ∙ not_live u g c d l in cc)
      last u g c d l (inr z) = z

      over : (a g c : ℕ) → receives_at p a g c ≡ true → has_end g c (past_of (pasts_after pasts t w.need (Some x)) a) ≡ true → (u : ℕ) → sends_at p u g c ≡ true → IsEnded size (the_task (set tasks t (w.after x)) u) × (gone c (past_of (pasts_after pasts t w.need (Some x)) u) ≡ false)
      over a g c r e u d = elim (now_or_before a g c e) [
        | inl b ↦ kept u g c (over_other a g c r b u d) (k.over a g c r b u d)
        | inr b ↦ (let v : place_of f u ≡ Done = was u (all_finished p f2 g c lawful2 ((told2.contents a g c r).over e).1 u d) in
            kept u g c (other u v) (last u g c d (live_at_end p t g c w.need x _ _ (ch.each g c) b) (k.done u (sends_inside p u g c d) v), not_live u g c d (live_at_end p t g c w.need x _ _ (ch.each g c) b)))
      ]

      front : (u g c : ℕ) → is_group (task_at p u).sends g ≡ true → (t ≡ u) ⊎ (t ≢ u) → IsFront (parts_sent c (past_of (pasts_after pasts t w.need (Some x)) u)) (for_channel c (handled (past_of (pasts_after pasts t w.need (Some x)) u)))
      front u g c e (inr n) = subst (λ h. IsFront (parts_sent c h) (for_channel c (handled h))) (sym (more.other u n)) (k.front u g c e)
      front u g c e (inl q) = subst (λ j. IsFront (parts_sent c (past_of (pasts_after pasts t w.need (Some x)) j)) (for_channel c (handled (past_of (pasts_after pasts t w.need (Some x)) j)))) q
          (subst (λ h. IsFront (parts_sent c h) (for_channel c (handled h))) (sym more.here) (front_more c (past_of pasts t) w.need x lives (k.front t g c mine)))
        where
          mine : is_group (task_at p t).sends g ≡ true
          mine = subst (λ j. is_group (task_at p j).sends g ≡ true) (sym q) e

          lives : part_one c w.need x ≢ [] → gone c (past_of pasts t) ≡ false
          lives h = is_false (gone c (past_of pasts t)) (λ z. (let y : true ≡ false = sym (live_at_send p t g c w.need x _ _ (ch.each g c) mine h) ∙ told0.gone t g c mine z in cc))

  pub delivered : (o : Option (Reply (List Cells))) → WasFinished f f2 t w.need o → Outcome p t w.need f f2 o → Delivered p size f2 (pasts_after pasts t w.need o) (tasks_after tasks t w o)
  delivered None was (silent s) = none_delivered was
  delivered (Some x) was (told ch) = some_delivered x was ch
