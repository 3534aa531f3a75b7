-- More steps give the same.
use Rattle.std.proofs.Common.{ℕ, zero, suc, ◌+◌, ◌≤◌, ◌≡◌, refl, sym, ap, ◌∙◌, subst, List, [], ◌∷◌, ◌++◌, Bool, true, false, Option, Some, None, arith}
use Rattle.run_journal.specs.declared.entry.Entry.{Entry}
use Rattle.task_shape.specs.Shape.{Shape}
use Rattle.tree_laws.specs.Tasks.{Task, Turn, Goes, Waits, Wait, turn, settled, settle}
use Rattle.tree_laws.specs.Runs.{State, the_task, asks_nothing, wait_by, step_by, state_step, next_state, state_replay}
use Rattle.tree_laws.specs.Settles.{Settles, Leads}

-- ------------------------------------------------------------ tasks
settled_more : (k : Task) (w : Wait) (t : Turn) (go more : Task → Option Wait) → ((rest : Task) → go rest ≡ Some w → more rest ≡ Some w) → settled k t go ≡ Some w → settled k t more ≡ Some w
settled_more k w (Goes rest) go more h e = h rest e
settled_more k w (Waits need after) go more h e = e

pub settle_more : (size n l : ℕ) (k : Task) (w : Wait) → n ≤ l → settle size n k ≡ Some w → settle size l k ≡ Some w
settle_more size zero l k w h e = cc
settle_more size (suc n) zero k w h e = absurd (omega arith)
settle_more size (suc n) (suc l) k w h e = settled_more k w (turn size k) (settle size n) (settle size l) (λ rest. settle_more size n l rest w (omega arith)) e

pub settle_one : (size : ℕ) (k : Task) (w v : Wait) → Settles size k w → Settles size k v → w ≡ v
settle_one size k w v a b =
    let e : settle size (a.0 + b.0) k ≡ Some w = settle_more size a.0 (a.0 + b.0) k w (omega arith) a.1 in
    let d : settle size (a.0 + b.0) k ≡ Some v = settle_more size b.0 (a.0 + b.0) k v (omega arith) b.1 in
    let z : Some w ≡ Some v = sym e ∙ d in cc

-- the task that waits has come to its need
pub settled_turn : (size n : ℕ) (k : Task) (w : Wait) → settle size n k ≡ Some w → turn size w.now ≡ Waits w.need w.after
settled_turn size zero k w e = cc
settled_turn size (suc n) k w e = at (turn size k) refl e (λ rest. settled_turn size n rest w)
  where
    at : (t : Turn) → turn size k ≡ t → settled k t (settle size n) ≡ Some w → ((rest : Task) → settle size n rest ≡ Some w → turn size w.now ≡ Waits w.need w.after) → turn size w.now ≡ Waits w.need w.after
    at (Goes rest) i d h = h rest d
    at (Waits need after) i d h = let same : record { now = k; need = need; after = after } ≡ w = cc in subst (λ (v : Wait). turn size v.now ≡ Waits v.need v.after) same i

pub settle_waits : (size : ℕ) (w : Wait) → turn size w.now ≡ Waits w.need w.after → settle size 1 w.now ≡ Some w
settle_waits size w e = ap (λ t. settled w.now t (settle size zero)) e

pub settle_goes : (size n : ℕ) (k rest : Task) (w : Wait) → turn size k ≡ Goes rest → settle size n rest ≡ Some w → settle size (suc n) k ≡ Some w
settle_goes size n k rest w e i = ap (λ t. settled k t (settle size n)) e ∙ i

pub settle_again : (size n : ℕ) (k : Task) (w : Wait) → settle size n k ≡ Some w → settle size 1 w.now ≡ Some w
settle_again size n k w e = settle_waits size w (settled_turn size n k w e)

-- ------------------------------------------------------------ states
wait_more : (size n l : ℕ) (k : Task) (b : Bool) (w : Wait) → n ≤ l → wait_by size n k b ≡ Some w → wait_by size l k b ≡ Some w
wait_more size n l k true w h e = e
wait_more size n l k false w h e = settle_more size n l k w h e

step_more : (p : Shape) (s new : State) (e : Entry) (o more : Option Wait) → ((w : Wait) → o ≡ Some w → more ≡ Some w) → step_by p s e o ≡ Some new → step_by p s e more ≡ Some new
step_more p s new e None more h i = cc
step_more p s new e (Some w) more h i = subst (λ z. step_by p s e z ≡ Some new) (sym (h w refl)) i

pub state_more : (p : Shape) (size n l : ℕ) (s new : State) (e : Entry) → n ≤ l → state_step p size n s e ≡ Some new → state_step p size l s e ≡ Some new
state_more p size n l s new e h i = step_more p s new e _ _ (λ w. wait_more size n l (the_task s.tasks e.task) (asks_nothing e.kind) w h) i

next_more : (p : Shape) (size n l : ℕ) (o : Option State) (new : State) (e : Entry) → n ≤ l → next_state p size n o e ≡ Some new → next_state p size l o e ≡ Some new
next_more p size n l None new e h i = i
next_more p size n l (Some s) new e h i = state_more p size n l s new e h i

replay_none : (p : Shape) (size n : ℕ) (es : List Entry) → state_replay p size n None es ≡ None
replay_none p size n [] = refl
replay_none p size n (e ∷ es) = replay_none p size n es

pub replay_more : (p : Shape) (size n l : ℕ) (o : Option State) (es : List Entry) (s : State) → n ≤ l → state_replay p size n o es ≡ Some s → state_replay p size l o es ≡ Some s
replay_more p size n l o [] s h i = i
replay_more p size n l o (e ∷ es) s h i = at (next_state p size n o e) refl i (λ z. replay_more p size n l z es s h)
  where
    at : (z : Option State) → next_state p size n o e ≡ z → state_replay p size n z es ≡ Some s → ((z : Option State) → state_replay p size n z es ≡ Some s → state_replay p size l z es ≡ Some s)
        → state_replay p size l (next_state p size l o e) es ≡ Some s
    at None j d f = let x : None ≡ Some s = sym (replay_none p size n es) ∙ d in cc
    at (Some new) j d f = subst (λ z. state_replay p size l z es ≡ Some s) (sym (next_more p size n l o new e h j)) (f (Some new) d)

replay_append : (p : Shape) (size n : ℕ) (o : Option State) (es more : List Entry) → state_replay p size n o (es ++ more) ≡ state_replay p size n (state_replay p size n o es) more
replay_append p size n o [] more = refl
replay_append p size n o (e ∷ es) more = replay_append p size n (next_state p size n o e) es more

-- ------------------------------------------------------------ without a number
module _ (p : Shape) (size : ℕ) where
  pub leads_one : (start s new : State) (es : List Entry) → Leads p size start es s → Leads p size start es new → s ≡ new
  leads_one start s new es a b =
      let e : state_replay p size (a.0 + b.0) (Some start) es ≡ Some s = replay_more p size a.0 (a.0 + b.0) (Some start) es s (omega arith) a.1 in
      let d : state_replay p size (a.0 + b.0) (Some start) es ≡ Some new = replay_more p size b.0 (a.0 + b.0) (Some start) es new (omega arith) b.1 in
      let z : Some s ≡ Some new = sym e ∙ d in cc

  pub leads_on : (start s new : State) (es more : List Entry) → Leads p size start es s → Leads p size s more new → Leads p size start (es ++ more) new
  leads_on start s new es more a b =
      let n : ℕ = a.0 + b.0 in
      let e : state_replay p size n (Some start) es ≡ Some s = replay_more p size a.0 n (Some start) es s (omega arith) a.1 in
      let d : state_replay p size n (Some s) more ≡ Some new = replay_more p size b.0 n (Some s) more new (omega arith) b.1 in
      (n, replay_append p size n (Some start) es more ∙ (ap (λ z. state_replay p size n z more) e ∙ d))

  pub leads_front : (start new : State) (es more : List Entry) → Leads p size start (es ++ more) new → (s : State) × Leads p size start es s × Leads p size s more new
  leads_front start new es more a = at (state_replay p size a.0 (Some start) es) refl (sym (replay_append p size a.0 (Some start) es more) ∙ a.1)
    where
      at : (z : Option State) → state_replay p size a.0 (Some start) es ≡ z → state_replay p size a.0 z more ≡ Some new → (s : State) × Leads p size start es s × Leads p size s more new
      at None i d = let x : None ≡ Some new = sym (replay_none p size a.0 more) ∙ d in cc
      at (Some s) i d = (s, (a.0, i), (a.0, d))
