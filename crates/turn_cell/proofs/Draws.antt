-- A ticket is drawn.
use Rattle.std.proofs.Common.{◌≡◌, ℕ, ◌+◌, ◌%◌, ◌^◌, ◌<◌, ◌≤◌, true, false, List, [], ◌∷◌, ◌++◌, length, get_or, set, sym, refl, ap, ◌∙◌, subst, inl, inr, ⊎_elim, arith, Option, Some, None, length-set, length-append, get_or-set_other, get_or-set_same}
use Rattle.std.proofs.Math.Nat.{mod-add-mod}
use mathlib.Core.Option.{some, none}
use lib.ListN.{get_elem?}
use Rattle.atomic_table.specs.Table.{State, Me, step, keeps, Allows}
use Rattle.atomic_table.proofs.Lists.{set_here, set_else, at_longer, at_last}
use Rattle.turn_cell.specs.declared.act.Act.{Act}
use Rattle.turn_cell.specs.declared.view.Hand.{Hand}
use Rattle.turn_cell.specs.declared.view.View.{View}
use Rattle.turn_cell.specs.Views.{hand, is_busy, times, total, resting, waiting}
use Rattle.turn_cell.specs.Turns.{AllFollow, IsHome, IsOut, Orderly}
use Rattle.turn_cell.specs.Seats.{Idles, named_in, seen_at}
use Rattle.turn_cell.specs.Plays.{drawn}
use Rattle.turn_cell.proofs.Sums.{total-set, found_below}
use Rattle.turn_cell.proofs.Places.{each_set, snoc_index, differ}

module _ {T O : Type 0} (opened : T → O) (acts : T → List Act) (origin : O) (seats : ℕ) where
  abbrev St : Type 0
  St = State (Option T) (View O)

  abbrev V : Type 0
  V = View O

  abbrev Rule : St → Type 0
  Rule s = Orderly opened acts origin seats s

  pub draws : (slots id : ℕ) (o : Option O) (h : Hand) (hs : List Hand)
      → Allows Rule slots id (resting o (h ∷ hs), []) 0 (λ n. (n + 1) % 2 ^ 64) (drawn (step slots 0 1 0 none) (resting o (h ∷ hs), []))
  draws slots id o h hs s r _ at wide =
      let v : V = resting o (h ∷ hs) in
      let x : ℕ = get_or s.words 0 0 in
      let w : V = waiting o x (h ∷ hs) in
      let y : ℕ = (x + 1) % 2 ^ 64 in
      let inside : id < length s.views = found_below s.views id v at in
      let longer : length (r.line ++ id ∷ []) ≡ length r.line + 1 = length-append r.line (id ∷ []) in (
        w,
        keeps,
        tt,
        record {
          log = r.log;
          line = r.line ++ id ∷ [];
          served = r.served;
          few = r.few;
          words = length-set s.words 0 y ∙ r.words;
          drawn_word = get_or-set_same s.words 0 y 0 (omega (arith, r.words)) ∙ (ap (λ (k : ℕ). (k + 1) % 2 ^ 64) r.drawn_word ∙ (mod-add-mod (r.served + length r.line) (2 ^ 64) 1 ∙ ap (λ (k : ℕ). k % 2 ^ 64) (omega arith)));
          served_word = get_or-set_other s.words 0 1 y 0 (λ e. omega arith) ∙ r.served_word;
          has_place = λ i u t e is. each_set (λ i (u : V). (t : ℕ) → u.ticket ≡ Some t → (k : ℕ) × (get_elem? (r.line ++ id ∷ []) k ≡ some i) × (t ≡ (r.served + k) % 2 ^ 64)) s.views id w
              (λ t is. (length r.line, at_last r.line id (length r.line) refl, (let e : t ≡ x = cc in e ∙ r.drawn_word)))
              (λ i u _ e t is. let p = r.has_place i u t e is in (p.0, at_longer r.line (id ∷ []) p.0 i p.1, p.2))
              i u e t is;
          has_ticket = λ k i e. ⊎_elim
              (λ (before : get_elem? r.line k ≡ some i). let p = r.has_ticket k i before in
              (p.0, set_else s.views id i w (differ s.views i id p.0 v p.1 at (λ same. let no : None ≡ Some ((r.served + k) % 2 ^ 64) = ap (λ (u : V). u.ticket) (sym same) ∙ p.2 in cc)) ∙ p.1, p.2))
              (λ (last : (id ≡ i) × (k ≡ length r.line)). (w, subst (λ (j : ℕ). get_elem? (set s.views id w) j ≡ some w) last.0 (set_here s.views id w inside), ap Some (r.drawn_word ∙ ap (λ (j : ℕ). (r.served + j) % 2 ^ 64) (sym last.1))))
              (snoc_index r.line id i k e);
          busy = omega (arith, total-set (λ (u : V). is_busy u.ticket) s.views id v w at, r.busy, longer);
          counted = omega (arith, total-set (λ (u : V). length u.hands) s.views id v w at, r.counted);
          numbered = λ n. let t = total-set (λ (u : V). times n u.hands) s.views id v w at in let e : total (λ (u : V). times n u.hands) (set s.views id w) ≡ total (λ (u : V). times n u.hands) s.views = omega arith in e ∙ r.numbered n;
          handed = each_set (λ i (u : V). is_busy u.ticket ≤ length u.hands) s.views id w (omega arith) (λ i u _. r.handed i u);
          named = each_set (λ i (u : V). 0 < length u.hands → u.opening ≡ Some origin) s.views id w (r.named id v at) (λ i u _. r.named i u);
          follow = each_set (λ i (u : V). AllFollow r.log u.hands) s.views id w (r.follow id v at) (λ i u _. r.follow i u);
          unmade = r.unmade;
          place = ⊎_elim
              (λ (at_home : IsHome opened acts s origin r.log). inl record {
                value = at_home.value;
                home = at_home.home;
                opening_is = at_home.opening_is;
                log_is = at_home.log_is;
                no_turn = each_set (λ i (u : V). u.turn ≡ false) s.views id w refl (λ i u _. at_home.no_turn i u);
              })
              (λ (out : IsOut opened acts s r.line r.log). inr record {
                seat = out.seat;
                view = out.view;
                home = out.home;
                first = at_longer r.line (id ∷ []) 0 out.seat out.first;
                view_is = set_else s.views id out.seat w (differ s.views out.seat id out.view v out.view_is at (λ same. let no : false ≡ true = ap (λ (u : V). u.turn) (sym same) ∙ out.has_turn in cc)) ∙ out.view_is;
                has_turn = out.has_turn;
                log_is = out.log_is;
                one_turn = each_set (λ i (u : V). u.turn ≡ true → i ≡ out.seat) s.views id w (λ no. cc) (λ i u _. out.one_turn i u);
              })
              r.place;
        },
        refl,
      )

  pub draws_idle : (slots id n : ℕ) (me : Me (Option T) V) → Idles n me → Allows Rule slots id me 0 (λ n. (n + 1) % 2 ^ 64) (drawn (step slots 0 1 0 none) me)
  draws_idle slots id n me idle = subst (λ m. Allows Rule slots id m 0 (λ n. (n + 1) % 2 ^ 64) (drawn (step slots 0 1 0 none) m)) (sym idle) (draws slots id (named_in me) (hand n (seen_at me)) [])
