-- A turn of a task is a turn of the task that it stands for.
use Rattle.std.proofs.Common.{ℕ, ◌+◌, ◌≡◌, ◌<◌, ◌^◌, refl, sym, ap, ◌∙◌, subst, List, ◌++◌, map, Bool, false, Option, Some, None, arith, suc, Result, Ok, Err, OnOk}
use Rattle.std.proofs.lemmas.List.{append_assoc, map-append}
use Rattle.dfx_value.specs.Items.{Cells}
use Rattle.dfx_value.specs.KindedRows.{KindedRows}
use Rattle.tree_laws.specs.Operators.{Told, Op}
use Rattle.tree_laws.specs.Trees.{Tree, Poll, Gives, Ends, Moves, Asks}
use Rattle.tree_laws.specs.Tasks.{Task as Task_, Parts, Split, Turn, Goes, Waits, turn, top_turn, settle, settled}
use Rattle.task_stations.specs.declared.scan.Scan.{Scan as Scan_}
use Rattle.task_stations.specs.declared.needs.Step.TheVariants as step
use Rattle.task_stations.specs.declared.task.Part.{Part}
use Rattle.task_stations.specs.declared.task.Exit.TheVariants as exit
use Rattle.task_stations.specs.declared.task.Put.{Put}
use Rattle.task_stations.specs.declared.task.Put.TheVariants as put
use Rattle.task_stations.specs.declared.task.Ask.{Ask}
use Rattle.task_stations.specs.declared.task.Ask.TheVariants as ask
use Rattle.task_stations.specs.declared.task.Task.{Task}
use Rattle.task_stations.specs.Lines.{Line, Row}
use Rattle.task_stations.specs.Stands.{Stands, Asked, StepIs}
use Rattle.task_stations.specs.Turns.{parts_of, parts_left, IsExit, Took, IsTask, IsAsked, TurnIs, Settles}

module _ {C S : Type 0} (cuts : C → Split → ℕ → Type 0) (lines : S → Option (List Line)) (first : List Line) where
  pub wrote : {E : Type 0} (s s2 : S) (rows slice : List Cells) (r : Result (Unit {0}) E) (u : Unit {0}) → r ≡ Ok u → slice ≡ rows → ((ls : List Line) → lines s ≡ Some ls → OnOk r (lines s2 ≡ Some (ls ++ map Row slice)))
      → (o : Option Split) (n : ℕ) (output : List Cells) → IsExit cuts lines first (exit.Writes s) o false n output → Took cuts lines first (exit.Writes s2) o n output rows put.Written
  wrote s s2 rows slice (Ok v) u e q f None n output k = f (first ++ map Row output) k ∙ ap Some (append_assoc first (map Row output) (map Row slice) ∙ ap (λ z. first ++ z) (sym (map-append Row output slice) ∙ ap (λ z. map Row (output ++ z)) q))
  wrote s s2 rows slice (Err x) u e q f None n output k = cc
  wrote s s2 rows slice r u e q f (Some g) n output k = absurd k

-- ------------------------------------------------------------ turns until something is needed

module _ (most : ℕ) where
  -- after so many turns by itself, it is this task
  abbrev pub Turned : ℕ → Task_ → Task_ → Type 0
  Turned n k now = (m : ℕ) → settle most (m + n) k ≡ settle most m now

  goes_by : (S A : Task_ → Type 0) (t : Turn) (k : Task_) → TurnIs S A k t None → (rest : Task_) × (t ≡ Goes rest) × S rest
  goes_by S A (Goes rest) k s = (rest, refl, s)
  goes_by S A (Waits need after) k s = absurd s

  pub one_more : (S A : Task_ → Type 0) (n : ℕ) (k now : Task_) → Turned n k now → TurnIs S A now (turn most now) None → (rest : Task_) × Turned (n + 1) k rest × S rest
  one_more S A n k now f s = let g = goes_by S A (turn most now) now s in (g.0, more g.0 g.1, g.2)
    where
      more : (rest : Task_) → turn most now ≡ Goes rest → Turned (n + 1) k rest
      more rest e m = ap (λ z. settle most z k) moved ∙ (f (suc m) ∙ ap (λ z. settled now z (settle most m)) e)
        where
          moved : m + (n + 1) ≡ suc m + n
          moved = omega arith

  settles_by : (S A : Task_ → Type 0) (n : ℕ) (k now : Task_) (a : Ask) (t : Turn) → turn most now ≡ t → n + 1 < 2 ^ 64 → Turned n k now → TurnIs S A now t (Some a) → Settles S A most k a
  settles_by S A n k now a (Goes rest) e w f s = absurd s
  settles_by S A n k now a (Waits need after) e w f s = record {
    count = 1 + n;
    few = omega (arith, w);
    wait = record { now = now; need = need; after = after };
    settles = f 1 ∙ ap (λ z. settled now z (settle most 0)) e;
    waits = e;
    need = s.0;
    asked = (let P : Turn → Type 0 = λ z. TurnIs S A now z (Some a) in subst P (sym e) s);
  }

  pub it_settles : (S A : Task_ → Type 0) (n : ℕ) (k now : Task_) (a : Ask) → n < 18446744073709551615 → Turned n k now → TurnIs S A now (turn most now) (Some a) → Settles S A most k a
  it_settles S A n k now a w f s = settles_by S A n k now a (turn most now) refl (omega (arith, w)) f s

  -- as the loop's invariant has it
  module _ (S0 S1 : List Line → Task_ → Type 0) (A : List Line → Task_ → Type 0) (Start : List Line → Task_ → Type 0) (n : ℕ) (so_far : (first : List Line) (k : Task_) → Start first k → (now : Task_) × Turned n k now × S0 first now) where
    pub preserved : (r : Option Ask) → r ≡ None → ((first : List Line) (k : Task_) → S0 first k → TurnIs (S1 first) (A first) k (turn most k) r)
        → (first : List Line) (k : Task_) → Start first k → (now : Task_) × Turned (n + 1) k now × S1 first now
    preserved None e f first k s = let o = so_far first k s in one_more (S1 first) (A first) n k o.0 o.1 (f first o.0 o.2)
    preserved (Some a) e f first k s = cc

    pub settled_at : (r : Option Ask) (a : Ask) → r ≡ Some a → n < 18446744073709551615 → ((first : List Line) (k : Task_) → S0 first k → TurnIs (S1 first) (A first) k (turn most k) r)
        → (first : List Line) (k : Task_) → Start first k → Settles (S1 first) (A first) most k a
    settled_at r a e w f first k s =
        let o = so_far first k s in
        let P : Option Ask → Type 0 = λ z. TurnIs (S1 first) (A first) o.0 (turn most o.0) z in
        it_settles (S1 first) (A first) n k o.0 a w o.1 (subst P e (f first o.0 o.2))

-- ------------------------------------------------------------ a batch is cut into parts, or written

-- what the turn is then
abbrev pub turn_of : Put → Option Ask
turn_of (put.Cut parts) = None
turn_of put.Written = Some ask.Writes

-- the parts that are left then
abbrev pub PartsAre : Put → List Part → Parts → Type 0
PartsAre (put.Cut parts) ps old = parts_left ps ≡ parts_of parts.items
PartsAre put.Written ps old = parts_left ps ≡ old

module _ {C S : Type 0} (cuts : C → Split → ℕ → Type 0) (lines : S → Option (List Line)) (first : List Line)
    {T F : Type 0} (K : T → Op → Told → ℕ → Type 0) (L : Scan_ F → Tree → Type 0) (old new : Task T F C S) (k : Task_) (batch : KindedRows)
    (is : IsTask cuts lines first K L old k) (no_header : k.header ≡ false) (header : new.header ≡ old.header) (leaving : new.leaving ≡ old.leaving) where
  exit_is : (o : Option Split) (n : ℕ) (output rows : List Cells) → o ≡ k.split → output ≡ rows → IsExit cuts lines first new.exit o false n output → IsExit cuts lines first new.exit k.split k.header n rows
  exit_is o n output rows e r x =
      let P : Option Split → Type 0 = λ z. IsExit cuts lines first new.exit z false n output in
      let Q : Bool → Type 0 = λ z. IsExit cuts lines first new.exit k.split z n output in
      let R : List Cells → Type 0 = λ z. IsExit cuts lines first new.exit k.split k.header n z in
      subst R r (subst Q (sym no_header) (subst P e x))

  pub put_by : (o : Option Split) (p : Poll) (q : Put) → o ≡ k.split → StepIs (Stands K L new.stations.items) (Asked K L new.stations.items) k.tree p (step.Gives batch)
      → Took cuts lines first new.exit o k.batches k.output batch.rows q → PartsAre q new.parts.items k.parts
      → TurnIs (IsTask cuts lines first K L new) (IsAsked cuts lines first K L new) k (top_turn k o p) (turn_of q)
  put_by (Some f) (Gives rows rest) (put.Cut parts) e s t p = record {
    tree = s.1;
    header = header ∙ is.header;
    leaving = leaving ∙ is.leaving;
    parts = p ∙ (t.0 ∙ ap (f k.batches) s.0);
    exit = exit_is (Some f) (k.batches + 1) k.output k.output e refl t.1;
  }
  put_by None (Gives rows rest) put.Written e s t p = (
    refl,
    λ x. record {
      tree = s.1;
      header = header ∙ is.header;
      leaving = leaving ∙ is.leaving;
      parts = p;
      exit = exit_is None k.batches (k.output ++ batch.rows) (k.output ++ rows) e (ap (λ z. k.output ++ z) s.0) t;
    },
  )
  put_by (Some f) (Gives rows rest) put.Written e s t p = absurd t
  put_by None (Gives rows rest) (put.Cut parts) e s t p = absurd t
  put_by o Ends q e s t p = absurd s
  put_by o (Moves rest) q e s t p = absurd s
  put_by o (Asks n after) q e s t p = absurd s
