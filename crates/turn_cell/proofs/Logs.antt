-- Lists of acts that grow.
use Rattle.std.proofs.Common.{◌≡◌, ℕ, suc, ◌+◌, ◌≢◌, List, [], ◌∷◌, ◌++◌, Bool, cond, sym, refl, ap, ◌∙◌, arith, eqb, eq-eqb, ne_eqb, append-nil, false}
use mathlib.Core.Logic.{dite}
use native.Mathlib.Decide.{ℕ_discrete}
use Rattle.std.proofs.lemmas.List.Elements.{filter-append}
use Rattle.std.specs.List.{All}
use base.Growing.{prefix_refl, prefix_trans}
use Rattle.turn_cell.specs.declared.act.Act.{Act}
use Rattle.turn_cell.specs.declared.view.Hand.{Hand}
use Rattle.turn_cell.specs.Acts.{IsPrefix, worker_of, acts_by, Adds, Follows}
use Rattle.turn_cell.specs.Turns.{AllFollow}
use Rattle.turn_cell.specs.Views.{times}

pub others_none : (n m : ℕ) (more : List Act) → n ≢ m → All (λ (a : Act). worker_of a ≡ m) more → acts_by n more ≡ []
others_none n m [] ne all = refl
others_none n m (a ∷ more) ne all =
    let e : worker_of a ≡ m = all 0 a (omega arith) in
    let other : eqb (worker_of a) n ≡ false = ne_eqb (worker_of a) n (λ h. ne (sym h ∙ e)) in
    ap (λ b. cond b (a ∷ acts_by n more) (acts_by n more)) other ∙ others_none n m more ne (λ k d l. all (suc k) d (omega arith))

pub others_same : (n m : ℕ) (before after : List Act) → n ≢ m → Adds m before after → acts_by n after ≡ acts_by n before
others_same n m before after ne t =
    ap (acts_by n) t.1 ∙ (filter-append (λ (a : Act). eqb (worker_of a) n) before t.0 ∙ (ap (λ l. acts_by n before ++ l) (others_none n m t.0 ne t.2) ∙ append-nil (acts_by n before)))

pub adds_prefix : (m : ℕ) (before after : List Act) → Adds m before after → IsPrefix before after
adds_prefix m before after t = (t.0, sym t.1)

pub follows_self : (n : ℕ) (log : List Act) → Follows n log log
follows_self n log = (prefix_refl log, refl)

pub follows_on : (n m : ℕ) (seen before after : List Act) → n ≢ m → Adds m before after → Follows n seen before → Follows n seen after
follows_on n m seen before after ne adds f = (prefix_trans seen before after f.0 (adds_prefix m before after adds), others_same n m before after ne adds ∙ f.1)

pub times_same : (n : ℕ) (h : Hand) (hs : List Hand) → h.number ≡ n → times n (h ∷ hs) ≡ 1 + times n hs
times_same n h hs e = ap (λ (b : Bool). cond b 1 0 + times n hs) (eq-eqb h.number n e)

-- hands of which none has the number m
pub all_follow_on : (m : ℕ) (before after : List Act) (hands : List Hand) → times m hands ≡ 0 → Adds m before after → AllFollow before hands → AllFollow after hands
all_follow_on m before after [] none adds f = tt
all_follow_on m before after (h ∷ hs) none adds f = dite (ℕ_discrete h.number m)
    (λ e. absurd (omega (arith, times_same m h hs e)))
    (λ ne. (follows_on h.number m h.seen before after ne adds f.0, all_follow_on m before after hs (omega (arith, none)) adds f.1))

pub all_follow-append : (log : List Act) (xs ys : List Hand) → AllFollow log xs → AllFollow log ys → AllFollow log (xs ++ ys)
all_follow-append log [] ys f g = g
all_follow-append log (h ∷ hs) ys f g = (f.0, all_follow-append log hs ys f.1 g)
