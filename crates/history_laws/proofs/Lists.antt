-- Histories and logs, one step longer.
use Rattle.std.proofs.Common.{ℕ, zero, suc, ◌<◌, ◌≡◌, ◌≢◌, refl, sym, ap, ◌∙◌, eqb, cond, List, [], ◌∷◌, ◌++◌, length, get_or, set, Bool, true, false, ◌||◌, Some, append_assoc, get_or-set_same}
use Rattle.std.proofs.lemmas.List.{append-nil}
use Rattle.core_frame.proofs.Lists.{read_other}
use Rattle.core_frame.specs.Step.{Need}
use Rattle.history_laws.specs.Histories.{Reply, Past, past_of, pasts_after}
use Rattle.history_laws.specs.Contents.{took_one, took, end_one, has_end, part_one, parts_sent, gone_one, gone, by_sender, parts_in}

pub took_more : {B : Type 0} (g c : ℕ) (h : Past B) (n : Need B) (x : Reply B) → took g c (h ++ (n, x) ∷ []) ≡ took g c h ++ took_one g c n x
took_more g c [] n x = append-nil (took_one g c n x)
took_more g c (s ∷ h) n x = ap (λ l. took_one g c s.0 s.1 ++ l) (took_more g c h n x) ∙ sym (append_assoc (took_one g c s.0 s.1) (took g c h) (took_one g c n x))

pub sent_more : {B : Type 0} (c : ℕ) (h : Past B) (n : Need B) (x : Reply B) → parts_sent c (h ++ (n, x) ∷ []) ≡ parts_sent c h ++ part_one c n x
sent_more c [] n x = append-nil (part_one c n x)
sent_more c (s ∷ h) n x = ap (λ l. part_one c s.0 s.1 ++ l) (sent_more c h n x) ∙ sym (append_assoc (part_one c s.0 s.1) (parts_sent c h) (part_one c n x))

or_false : (b : Bool) → b || false ≡ b
or_false true = refl
or_false false = refl

or_more : (a b c : Bool) → a || (b || c) ≡ (a || b) || c
or_more true b c = refl
or_more false b c = refl

pub end_more : {B : Type 0} (g c : ℕ) (h : Past B) (n : Need B) (x : Reply B) → has_end g c (h ++ (n, x) ∷ []) ≡ has_end g c h || end_one g c n x
end_more g c [] n x = or_false (end_one g c n x)
end_more g c (s ∷ h) n x = ap (λ l. end_one g c s.0 s.1 || l) (end_more g c h n x) ∙ or_more (end_one g c s.0 s.1) (has_end g c h) (end_one g c n x)

pub gone_more : {B : Type 0} (c : ℕ) (h : Past B) (n : Need B) (x : Reply B) → gone c (h ++ (n, x) ∷ []) ≡ gone c h || gone_one c n x
gone_more c [] n x = or_false (gone_one c n x)
gone_more c (s ∷ h) n x = ap (λ l. gone_one c s.0 s.1 || l) (gone_more c h n x) ∙ or_more (gone_one c s.0 s.1) (gone c h) (gone_one c n x)

pub by_sender_more : {B : Type 0} (u t : ℕ) (b : B) (log : List (ℕ × B)) → by_sender u (log ++ (t, b) ∷ []) ≡ by_sender u log ++ cond (eqb t u) (b ∷ []) []
by_sender_more {B} u t b [] = append-nil (cond {A = List B} (eqb t u) (b ∷ []) [])
by_sender_more {B} u t b (x ∷ log) = ap (λ l. cond (eqb x.0 u) (x.1 ∷ []) [] ++ l) (by_sender_more u t b log) ∙ sym (append_assoc (cond {A = List B} (eqb x.0 u) (x.1 ∷ []) []) (by_sender u log) (cond {A = List B} (eqb t u) (b ∷ []) []))

pub parts_more : {B : Type 0} (t : ℕ) (b : B) (log : List (ℕ × B)) → parts_in (log ++ (t, b) ∷ []) ≡ parts_in log ++ b ∷ []
parts_more t b [] = refl
parts_more t b (x ∷ log) = ap (λ l. x.1 ∷ l) (parts_more t b log)

-- one history is longer by one answer
pub record IsLonger {B : Type 0} (pasts pasts2 : List (Past B)) (t : ℕ) (n : Need B) (x : Reply B) : Type 0 where
  pub here : past_of pasts2 t ≡ past_of pasts t ++ (n, x) ∷ []
  pub other : (u : ℕ) → t ≢ u → past_of pasts2 u ≡ past_of pasts u

pub longer : {B : Type 0} (pasts : List (Past B)) (t : ℕ) (n : Need B) (x : Reply B) → t < length pasts → IsLonger pasts (pasts_after pasts t n (Some x)) t n x
longer pasts t n x h = record {
  here = get_or-set_same pasts t (past_of pasts t ++ (n, x) ∷ []) [] h;
  other = λ u m. read_other pasts t u (past_of pasts t ++ (n, x) ∷ []) [] m;
}

-- a write keeps a relation between old and new elements
pub rel_set : {X : Type 0} (R : X → X → Type 0) → ((x : X) → R x x) → (xs : List X) (i : ℕ) (x d : X) (j : ℕ) → R (get_or xs i d) x → R (get_or xs j d) (get_or (set xs i x) j d)
rel_set R k [] i x d j r = k d
rel_set R k (y ∷ xs) zero x d zero r = r
rel_set R k (y ∷ xs) zero x d (suc j) r = k (get_or xs j d)
rel_set R k (y ∷ xs) (suc i) x d zero r = k y
rel_set R k (y ∷ xs) (suc i) x d (suc j) r = rel_set R k xs i x d j r
