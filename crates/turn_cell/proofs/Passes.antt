-- A turn ends.
use Rattle.std.proofs.Common.{◌≡◌, ℕ, suc, ◌+◌, ◌%◌, ◌^◌, ◌<◌, ◌≤◌, true, false, List, [], ◌∷◌, length, get_or, set, sym, refl, ap, ◌∙◌, subst, inl, ⊎_elim, arith, Option, Some, None, length-set, get_or-set_other, get_or-set_same}
use Rattle.std.proofs.Math.Nat.{mod-add-mod}
use mathlib.Core.Option.{some, none, some-injective, some-ne-none}
use lib.ListN.{get_elem?}
use Rattle.atomic_table.specs.Table.{State, Me, step, gives, stepped, Allows}
use Rattle.atomic_table.proofs.Lists.{set_else}
use Rattle.turn_cell.specs.declared.act.Act.{Act}
use Rattle.turn_cell.specs.declared.view.Hand.{Hand}
use Rattle.turn_cell.specs.declared.view.View.{View}
use Rattle.turn_cell.specs.Acts.{Adds}
use Rattle.turn_cell.specs.Views.{hand, seen_in, is_busy, times, total, resting, at_turn}
use Rattle.turn_cell.specs.Turns.{AllFollow, IsHome, IsOut, Orderly}
use Rattle.turn_cell.specs.Seats.{Serves, named_in, seen_at}
use Rattle.turn_cell.specs.Plays.{passed}
use Rattle.turn_cell.proofs.Sums.{total-set, term_le, terms_le, found_below}
use Rattle.turn_cell.proofs.Logs.{follows_self, times_same, all_follow_on, others_same}
use Rattle.turn_cell.proofs.Places.{each_set, tail, tail_at, tail_length, not_true, moved_up}
use Rattle.turn_cell.proofs.Line.{number_below, at_most_one, twice}
use Rattle.turn_cell.proofs.Slots.{held_value}

module _ {T O : Type 0} (opened : T → O) (acts : T → List Act) (origin : O) (seats : ℕ) where
  abbrev St : Type 0
  St = State (Option T) (View O)

  abbrev V : Type 0
  V = View O

  abbrev Rule : St → Type 0
  Rule s = Orderly opened acts origin seats s

  passes_on : (s : St) (r : Rule s) (id x : ℕ) (o : Option O) (h : Hand) (hs : List Hand) (value : T) → o ≡ Some (opened value) → Adds h.number h.seen (acts value)
      → get_elem? s.views id ≡ some (at_turn o x (h ∷ hs)) → IsOut opened acts s r.line r.log
      → Rule (stepped s 1 ((get_or s.words 1 0 + 1) % 2 ^ 64) id ((0, Some value) ∷ []) (resting o (hand h.number (acts value) ∷ hs)) gives)
  passes_on s r id x o h hs value same_opening adds at out =
      let v : V = at_turn o x (h ∷ hs) in
      let w : V = resting o (hand h.number (acts value) ∷ hs) in
      let y : ℕ = (get_or s.words 1 0 + 1) % 2 ^ 64 in
      let inside : id < length s.views = found_below s.views id v at in
      let here : id ≡ out.seat = out.one_turn id v at refl in
      let first : get_elem? r.line 0 ≡ some id = out.first ∙ ap some (sym here) in
      let same : out.view ≡ v = some-injective out.view v (sym out.view_is ∙ (ap (λ (j : ℕ). get_elem? s.views j) (sym here) ∙ at)) in
      let log_is : h.seen ≡ r.log = ap (λ (u : V). seen_in u.hands) (sym same) ∙ out.log_is in
      let adds : Adds h.number r.log (acts value) = subst (λ (l : List Act). Adds h.number l (acts value)) log_is adds in
      let count : length r.line ≡ 1 + length (tail r.line) = tail_length r.line id first in
      let here_once : times h.number (h ∷ hs) ≡ 1 + times h.number hs = times_same h.number h hs refl in
      let once = at_most_one opened acts origin seats s r h.number in
      let named : (Some origin) ≡ Some (opened value) = sym (r.named id v at (omega arith)) ∙ same_opening in
      record {
        log = acts value;
        line = tail r.line;
        served = r.served + 1;
        few = r.few;
        words = length-set s.words 1 y ∙ r.words;
        drawn_word = get_or-set_other s.words 1 0 y 0 (λ e. omega arith) ∙ (r.drawn_word ∙ ap (λ (k : ℕ). k % 2 ^ 64) (omega arith));
        served_word = get_or-set_same s.words 1 y 0 (omega (arith, r.words)) ∙ (ap (λ (k : ℕ). (k + 1) % 2 ^ 64) r.served_word ∙ mod-add-mod r.served (2 ^ 64) 1);
        has_place = λ i u t e is. each_set (λ i (u : V). (t : ℕ) → u.ticket ≡ Some t → (k : ℕ) × (get_elem? (tail r.line) k ≡ some i) × (t ≡ (r.served + 1 + k) % 2 ^ 64)) s.views id w
            (λ t is. let no : None ≡ Some t = is in cc)
            (λ i u other e t is. let p = r.has_place i u t e is in let m = moved_up r.line id i p.0 first other p.1 in (m.0, m.2, p.2 ∙ ap (λ (j : ℕ). j % 2 ^ 64) (let k_is = m.1 in omega arith)))
            i u e t is;
        has_ticket = λ k i e. let e' : get_elem? r.line (suc k) ≡ some i = sym (tail_at r.line k) ∙ e in let p = r.has_ticket (suc k) i e' in (p.0, set_else s.views id i w (λ at_first. twice opened acts origin seats s r id i k first e' at_first) ∙ p.1, p.2 ∙ ap (λ (j : ℕ). Some (j % 2 ^ 64)) (omega arith));
        busy = omega (arith, total-set (λ (u : V). is_busy u.ticket) s.views id v w at, r.busy);
        counted = omega (arith, total-set (λ (u : V). length u.hands) s.views id v w at, r.counted);
        numbered = λ n. let t = total-set (λ (u : V). times n u.hands) s.views id v w at in let e : total (λ (u : V). times n u.hands) (set s.views id w) ≡ total (λ (u : V). times n u.hands) s.views = omega arith in e ∙ r.numbered n;
        handed = each_set (λ i (u : V). is_busy u.ticket ≤ length u.hands) s.views id w (omega arith) (λ i u _. r.handed i u);
        named = each_set (λ i (u : V). 0 < length u.hands → u.opening ≡ Some origin) s.views id w (λ _. r.named id v at (omega arith)) (λ i u _. r.named i u);
        follow = each_set (λ i (u : V). AllFollow (acts value) u.hands) s.views id w
            (follows_self h.number (acts value), all_follow_on h.number r.log (acts value) hs (omega (arith, term_le (λ (u : V). times h.number u.hands) s.views id v at)) adds (r.follow id v at).1)
            (λ i u other e. all_follow_on h.number r.log (acts value) u.hands (omega (arith, terms_le (λ (u : V). times h.number u.hands) s.views id i v u other at e)) adds (r.follow i u e));
        unmade = λ n above. others_same n h.number r.log (acts value) (λ e. let b = number_below opened acts origin seats s r id v h hs at refl in omega arith) adds ∙ r.unmade n above;
        place = inl record {
          value = value;
          home = ap (λ (l : List (mathlib.Core.Option.Option (Option T))). set l 0 (some (Some value))) out.home;
          opening_is = (let e : opened value ≡ origin = cc in e);
          log_is = refl;
          no_turn = each_set (λ i (u : V). u.turn ≡ false) s.views id w refl (λ i u other e. not_true u.turn (λ yes. other (out.one_turn i u e yes ∙ sym here)));
        };
      }

  pub passes : (slots id x : ℕ) (o : Option O) (h : Hand) (hs : List Hand) (value : T) → o ≡ Some (opened value) → Adds h.number h.seen (acts value)
      → Allows Rule slots id (at_turn o x (h ∷ hs), (0, Some value) ∷ []) 1 (λ n. (n + 1) % 2 ^ 64) (passed opened acts (step slots 1 1 0 none) (at_turn o x (h ∷ hs), (0, Some value) ∷ []))
  passes slots id x o h hs value same_opening adds s r _ at wide = ⊎_elim
      (λ (home : IsHome opened acts s origin r.log). let no : false ≡ true = sym (home.no_turn id (at_turn o x (h ∷ hs)) at) in absurd (cc))
      (λ (out : IsOut opened acts s r.line r.log). (
        resting o (hand h.number (acts value) ∷ hs),
        gives,
        tt,
        passes_on s r id x o h hs value same_opening adds at out,
        λ other same. ap (λ (z : T). (resting o (hand h.number (acts z) ∷ hs), [])) (held_value value other [] [] same),
      ))
      r.place

  pub passes_turn : (slots id n : ℕ) (me put : Me (Option T) V) (value : T) → Serves n me → put ≡ (me.0, (0, Some value) ∷ []) → named_in me ≡ Some (opened value) → Adds n (seen_at me) (acts value)
      → Allows Rule slots id put 1 (λ n. (n + 1) % 2 ^ 64) (passed opened acts (step slots 1 1 0 none) put)
  passes_turn slots id n me put value turn is same_opening adds =
      let e : put ≡ (at_turn (named_in me) turn.0 (hand n (seen_at me) ∷ []), (0, Some value) ∷ []) = is ∙ ap (λ (m : Me (Option T) V). (m.0, (0, Some value) ∷ [])) turn.1 in
      subst (λ m. Allows Rule slots id m 1 (λ n. (n + 1) % 2 ^ 64) (passed opened acts (step slots 1 1 0 none) m)) (sym e) (passes slots id turn.0 (named_in me) (hand n (seen_at me)) [] value same_opening adds)
