-- A run at its start, and at its end.
use Rattle.std.proofs.Common.{ℕ, suc, ◌≤◌, ◌≡◌, refl, sym, ap, ◌∙◌, subst, List, [], ◌∷◌, Option, Some, None, arith}
use Rattle.turn_cell.specs.declared.act.Act.{Act}
use Rattle.turn_cell.specs.Loans.{loan_of}
use Rattle.task_shape.specs.Shape.{Shape}
use Rattle.core_frame.specs.Frame.{Frame}
use Rattle.core_frame.specs.Step.{Need}
use Rattle.logical_plan.specs.Items.{Cells}
use Rattle.tree_laws.specs.Tasks.{Task}
use Rattle.tree_laws.specs.Runs.{the_task}
use Rattle.run_laws.specs.Kept.{IsRun, IsToldRun}
use Rattle.run_laws.proofs.Kept.{run_begun, told_begun}
use Rattle.run_tasks.specs.Stands.{fresh}
use Rattle.run_core.specs.Given.{Given}
use Rattle.run_core.specs.Holds.{slot, Holds}
use Rattle.run_core.specs.Room.{outs, HasRoom}
use Rattle.run_core.specs.Starts.{Starts, AllHere}
use Rattle.run_core.proofs.Stored.{not_some}

pub start_holds : {B T : Type 0} (rows : B → List Cells) (number : T → ℕ) (suits : T → Shape → Type 0) (need : T → Option (Need (List Cells))) (stands : T → ℕ → Task → Type 0) (o : Given) (p : Shape) (f : Frame B) (slots : List (Option T))
    → Starts number suits need stands o p f slots → Holds rows number suits need stands o p f slots []
start_holds rows number suits need stands o p f slots k = record {
  given = k.given;
  shape = k.shape;
  run = subst (λ g. IsRun o.shape o.limit [] g) (sym k.frame) (run_begun o.shape o.limit k.given.shape);
  stored = record {
    long = k.long;
    numbered = k.numbered;
    suited = k.suited;
    lent = λ t h e. (let x = k.all t h in absurd (not_some (slot slots t) x.0 e x.1));
    out = λ w t e. absurd (not_some None t refl e);
  };
  told = λ start es. record {
    run = subst (λ g. IsToldRun rows o.shape o.size start [] g) (sym k.frame) (told_begun rows o.shape o.size o.limit start (k.given.start start es));
    here = λ g t x e. record { task = the_task start.tasks t; is = record { state = start; leads = (0, refl); same = refl }; is_for = fresh (k.free t x e) (k.stand start es t x e) };
  };
}

none_out : {T : Type 0} (slots : List (Option T)) → AllHere slots → outs slots ≡ 0
none_out [] a = refl
none_out (None ∷ xs) a = let x = a 0 (omega arith) in absurd (not_some None x.0 refl x.1)
none_out (Some y ∷ xs) a = none_out xs (λ t h. a (suc t) (omega (arith, h)))

pub start_room : {B T : Type 0} (f g : Frame B) (slots : List (Option T)) (long room : ℕ) → f ≡ g → g.failure ≡ None → AllHere slots → long ≡ 0 → 1 ≤ room → HasRoom f.failure slots long room
start_room {B} f g slots long room e eg a el er =
    subst (λ o. HasRoom o slots long room) (sym (ap (λ (h : Frame B). h.failure) e ∙ eg)) (let n : outs slots ≡ 0 = none_out slots a in omega (arith, n, el, er))

-- where nobody has a task, all are here
pub all_here : {B T : Type 0} (rows : B → List Cells) (number : T → ℕ) (suits : T → Shape → Type 0) (need : T → Option (Need (List Cells))) (stands : T → ℕ → Task → Type 0) (o : Given) (p : Shape) (f : Frame B) (slots : List (Option T)) (acts : List Act)
    → Holds rows number suits need stands o p f slots acts → ((w : ℕ) → loan_of w acts ≡ None) → AllHere slots
all_here {B} {T} rows number suits need stands o p f slots acts k free t h = go (slot slots t) refl
  where
    go : (q : Option T) → slot slots t ≡ q → (x : T) × (slot slots t ≡ Some x)
    go None e = let l = k.stored.lent t h e in absurd (not_some (loan_of l.0 acts) t (free l.0) l.1)
    go (Some x) e = (x, e)
