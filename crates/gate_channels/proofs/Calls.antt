-- What the calls of a group rest on, over plain lists.
use Rattle.std.proofs.Common.{ℕ, zero, suc, ◌<◌, ◌≡◌, refl, sym, ap, ◌∙◌, subst, List, [], ◌∷◌, ◌++◌, length, get_or, set, Bool, true, false, Option, Some, None, cond, map, arith}
use Rattle.std.proofs.lemmas.List.{set-get_or}
use Rattle.gate_channels.specs.Gate.{Channel, Gate, no_channel, channel_at, one_of, is_empty, holding, after_send, after_taking, after_drop, after_end, woken_by_end, ends_last, sent, received, ended, dropped, held, awaited}
use Rattle.gate_channels.specs.declared.group.Receiving.{Receiving}
use Rattle.gate_channels.specs.declared.group.Receiving.TheVariants.{Batch, Empty, Ended}
use Rattle.gate_channels.specs.Answers.{Moves, Stays, Receives, Takes}
use Rattle.gate_channels.specs.Group.{AreBelow, opened_for}

pub read_any : {A : Type 0} (xs : List A) (i : ℕ) (d e : A) → i < length xs → get_or xs i d ≡ get_or xs i e
read_any [] i d e h = absurd (omega arith)
read_any (x ∷ xs) zero d e h = refl
read_any (x ∷ xs) (suc i) d e h = read_any xs i d e (omega arith)

-- the channel that an index reads
pub channel_is : {B : Type 0} (xs : List (Channel B)) (i : ℕ) (x : Channel B) → i < length xs → x ≡ get_or xs i x → x ≡ get_or xs i no_channel
channel_is xs i x h e = e ∙ read_any xs i x no_channel h

pub gate_is : {B : Type 0} (xs ys : List (Channel B)) (q r : List ℕ) → xs ≡ ys → q ≡ r → ◌≡◌ {A = Gate B} (record { channels = xs; queue = q }) (record { channels = ys; queue = r })
gate_is xs ys q r e k = ap (λ z. record { channels = z; queue = q }) e ∙ ap (λ z. record { channels = ys; queue = z }) k

-- an unchanged channel is put back
pub put_back : {B : Type 0} (g : Gate B) (c : ℕ) (x : Channel B) → x ≡ channel_at g c → ◌≡◌ {A = Gate B} (record { channels = set g.channels c x; queue = g.queue }) g
put_back {B} g c x e = gate_is (set g.channels c x) g.channels g.queue g.queue (ap (set g.channels c) e ∙ set-get_or g.channels c no_channel) refl

pub empty_is : {B : Type 0} (bs : List B) → is_empty bs ≡ true → bs ≡ []
empty_is [] e = refl
empty_is (b ∷ bs) e = cc

-- ------------------------------------------------------------ whom a channel keeps waiting

-- a write of a channel whose receiver has room, or that waits as before
pub below_set : {B : Type 0} (xs : List (Channel B)) (i room : ℕ) (x : Channel B) → AreBelow xs room → ((t : ℕ) → x.waiting ≡ Some t → t < room) → AreBelow (set xs i x) room
below_set {B} xs i room x a n = λ c t. at xs i c t (λ d u. a d u)
  where
    at : (xs : List (Channel B)) (i c t : ℕ) → AreBelow xs room → (get_or (set xs i x) c no_channel).waiting ≡ Some t → t < room
    at [] i c t b e = b c t e
    at (y ∷ xs) zero zero t b e = n t e
    at (y ∷ xs) zero (suc c) t b e = b (suc c) t e
    at (y ∷ xs) (suc i) zero t b e = b zero t e
    at (y ∷ xs) (suc i) (suc c) t b e = at xs i c t (λ d. b (suc d)) e

-- ------------------------------------------------------------ sends

pub sent_moves : {B : Type 0} (g : Gate B) (c : ℕ) (b : B) (x : Channel B) (waiting : Option ℕ) (ws ws2 : List ℕ) → x ≡ after_send (channel_at g c) b → waiting ≡ (channel_at g c).waiting → ws2 ≡ ws ++ one_of waiting
    → Moves (sent g c b) (record { channels = set g.channels c x; queue = g.queue }) ws ws2
unfolding sent
sent_moves {B} g c b x waiting ws ws2 e w k = record {
  gate = gate_is (set g.channels c x) _ g.queue g.queue (ap (set g.channels c) e) refl;
  woken = k ∙ ap (λ o. ws ++ one_of o) w;
}

pub held_stays : {B : Type 0} (g : Gate B) (t : ℕ) (q ws : List ℕ) → q ≡ g.queue ++ t ∷ [] → Stays (held g t) (record { channels = g.channels; queue = q }) ws ws
unfolding held
held_stays g t q ws e = record { gate = ap (λ z. record { channels = g.channels; queue = z }) e; woken = refl }

-- ------------------------------------------------------------ drops and ends

pub dropped_moves : {B : Type 0} (g : Gate B) (c : ℕ) (x : Channel B) (q ws ws2 : List ℕ) → x ≡ after_drop (channel_at g c) → q ≡ [] → ws2 ≡ ws ++ g.queue
    → Moves (dropped g c) (record { channels = set g.channels c x; queue = q }) ws ws2
unfolding dropped
dropped_moves g c x q ws ws2 e k w = record { gate = gate_is (set g.channels c x) _ q [] (ap (set g.channels c) e) k; woken = w }

pub ended_moves : {B : Type 0} (g : Gate B) (c : ℕ) (x : Channel B) (waiting : Option ℕ) (ws ws2 : List ℕ) → x ≡ after_end (channel_at g c) → waiting ≡ woken_by_end (channel_at g c) → ws2 ≡ ws ++ one_of waiting
    → Moves (ended g c) (record { channels = set g.channels c x; queue = g.queue }) ws ws2
unfolding ended
ended_moves {B} g c x waiting ws ws2 e w k = record {
  gate = gate_is (set g.channels c x) _ g.queue g.queue (ap (set g.channels c) e) refl;
  woken = k ∙ ap (λ o. ws ++ one_of o) w;
}

pub woken_waits : {B : Type 0} (ch : Channel B) (t : ℕ) → woken_by_end ch ≡ Some t → ch.waiting ≡ Some t
woken_waits {B} ch t e = go (ends_last ch) e
  where
    go : (b : Bool) → cond b ch.waiting None ≡ Some t → ch.waiting ≡ Some t
    go true e = e
    go false e = cc

pub kept_waits : {B : Type 0} (ch : Channel B) (t : ℕ) → (after_end ch).waiting ≡ Some t → ch.waiting ≡ Some t
kept_waits {B} ch t e = go (ends_last ch) e
  where
    go : (b : Bool) → cond b None ch.waiting ≡ Some t → ch.waiting ≡ Some t
    go true e = cc
    go false e = e

-- ------------------------------------------------------------ receives

parts : {B : Type 0} (x : Channel B) (ch : Channel B) (bs : List B) → x.batches ≡ bs → x.live ≡ ch.live → x.unended ≡ ch.unended → x.waiting ≡ ch.waiting → x ≡ holding ch bs
parts x ch bs n l u w = ap (λ z. record { batches = z; live = x.live; unended = x.unended; waiting = x.waiting }) n
    ∙ ap (λ z. record { batches = bs; live = z; unended = x.unended; waiting = x.waiting }) l
    ∙ ap (λ z. record { batches = bs; live = ch.live; unended = z; waiting = x.waiting }) u
    ∙ ap (λ z. record { batches = bs; live = ch.live; unended = ch.unended; waiting = z }) w

-- the last batch comes out
received_last : {B : Type 0} (g : Gate B) (c : ℕ) (b : B) (x : Channel B) (q ws ws2 : List ℕ) → (channel_at g c).batches ≡ b ∷ x.batches → x.batches ≡ []
    → x.live ≡ (channel_at g c).live → x.unended ≡ (channel_at g c).unended → x.waiting ≡ (channel_at g c).waiting → q ≡ [] → ws2 ≡ ws ++ g.queue
    → Moves (received g c) (record { channels = set g.channels c x; queue = q }) ws ws2
unfolding received
received_last {B} g c b x q ws ws2 e n l u w k j = rw (e ∙ ap (λ z. b ∷ z) n) (record {
  gate = gate_is (set g.channels c x) _ q [] (ap (set g.channels c) (parts x (channel_at g c) [] n l u w)) k;
  woken = j;
})

-- a batch comes out, and more are left
received_more : {B : Type 0} (g : Gate B) (c : ℕ) (b : B) (x : Channel B) (ws : List ℕ) → (channel_at g c).batches ≡ b ∷ x.batches → is_empty x.batches ≡ false
    → x.live ≡ (channel_at g c).live → x.unended ≡ (channel_at g c).unended → x.waiting ≡ (channel_at g c).waiting
    → Moves (received g c) (record { channels = set g.channels c x; queue = g.queue }) ws ws
unfolding received
received_more {B} g c b x ws e n l u w = go x.batches refl
  where
    go : (bs : List B) → x.batches ≡ bs → Moves (after_taking g c (channel_at g c).batches) (record { channels = set g.channels c x; queue = g.queue }) ws ws
    go [] k = (let z : true ≡ false = sym (ap is_empty k) ∙ n in cc)
    go (b2 ∷ bs) k = rw (e ∙ ap (λ z. b ∷ z) k) (record {
      gate = gate_is (set g.channels c x) _ g.queue g.queue (ap (set g.channels c) (parts x (channel_at g c) (b2 ∷ bs) k l u w)) refl;
      woken = nil ws;
    })
      where
        nil : (xs : List ℕ) → xs ≡ xs ++ []
        nil [] = refl
        nil (x ∷ xs) = ap (λ z. x ∷ z) (nil xs)

-- what a receive answers, from what the channel answers
pub receives_last : {B : Type 0} (g : Gate B) (c t : ℕ) (answer : Receiving B) (x : Channel B) (q ws ws2 : List ℕ) → Takes (channel_at g c) t answer true x → q ≡ [] → ws2 ≡ ws ++ g.queue
    → Receives g t c answer (record { channels = set g.channels c x; queue = q }) ws ws2
receives_last g c t (Batch b) x q ws ws2 k eq ew = (x.batches, k.0, received_last g c b x q ws ws2 k.0 (empty_is x.batches (sym k.1)) k.2 k.3 k.4 eq ew)
receives_last g c t Empty x q ws ws2 k eq ew = (let z : true ≡ false = k.2 in cc)
receives_last g c t Ended x q ws ws2 k eq ew = (let z : true ≡ false = k.2 in cc)

pub receives_else : {B : Type 0} (g : Gate B) (c t : ℕ) (answer : Receiving B) (x : Channel B) (ws : List ℕ) → Takes (channel_at g c) t answer false x
    → Receives g t c answer (record { channels = set g.channels c x; queue = g.queue }) ws ws
unfolding awaited
receives_else g c t (Batch b) x ws k = (x.batches, k.0, received_more g c b x ws k.0 (sym k.1) k.2 k.3 k.4)
receives_else {B} g c t Empty x ws k = (k.0, k.1, record { gate = gate_is (set g.channels c x) _ g.queue g.queue (ap (set g.channels c) k.3) refl; woken = refl })
receives_else {B} g c t Ended x ws k = (k.0, k.1, record { gate = put_back g c x k.3; woken = refl })

-- who waits after a receive: the task, or who waited before
pub takes_waiting : {B : Type 0} (ch x : Channel B) (t room : ℕ) (answer : Receiving B) (last : Bool) → Takes ch t answer last x → t < room → ((u : ℕ) → ch.waiting ≡ Some u → u < room)
    → (u : ℕ) → x.waiting ≡ Some u → u < room
takes_waiting ch x t room (Batch b) last k h old u e = old u (sym k.4 ∙ e)
takes_waiting {B} ch x t room Empty last k h old u e =
    let s : Some t ≡ Some u = ap (λ (y : Channel B). y.waiting) (sym k.3) ∙ e in
    let d : t ≡ u = cc in
    subst (λ j. j < room) d h
takes_waiting {B} ch x t room Ended last k h old u e = old u (ap (λ (y : Channel B). y.waiting) (sym k.3) ∙ e)

-- nobody waits at the start
pub none_waits : {B : Type 0} (ns : List ℕ) (room : ℕ) (xs : List (Channel B)) → xs ≡ map opened_for ns → AreBelow xs room
none_waits {B} ns room xs e = λ c t w. at ns c t (subst (λ (l : List (Channel B)). (get_or l c no_channel).waiting ≡ Some t) e w)
  where
    at : (ns : List ℕ) (c t : ℕ) → (get_or (map (opened_for {B = B}) ns) c no_channel).waiting ≡ Some t → t < room
    at [] c t w = cc
    at (n ∷ ns) zero t w = cc
    at (n ∷ ns) (suc c) t w = at ns c t w
