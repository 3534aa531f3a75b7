-- The served ticket is looked at.
use Rattle.std.proofs.Common.{◌≡◌, ℕ, ◌+◌, ◌%◌, ◌^◌, ◌<◌, ◌≤◌, true, false, List, [], ◌∷◌, length, get_or, set, sym, refl, ap, ◌∙◌, subst, inr, ⊎_elim, arith, Option, Some}
use mathlib.Core.Option.{some, none, some-injective, some-ne-none}
use mathlib.Core.Logic.{dite}
use native.Mathlib.Decide.{ℕ_discrete}
use lib.ListN.{get_elem?}
use lib.Seq.{set-get_or}
use Rattle.atomic_table.specs.Table.{State, Me, step, keeps, takes, stepped, Allows}
use Rattle.atomic_table.proofs.Lists.{set_here, set_else, set_again}
use Rattle.turn_cell.specs.declared.act.Act.{Act}
use Rattle.turn_cell.specs.declared.view.Hand.{Hand}
use Rattle.turn_cell.specs.declared.view.View.{View}
use Rattle.turn_cell.specs.Acts.{Follows}
use Rattle.turn_cell.specs.Views.{hand, is_busy, times, total, waiting, at_turn}
use Rattle.turn_cell.specs.Turns.{AllFollow, IsHome, IsOut, Orderly}
use Rattle.turn_cell.specs.Seats.{Waits, named_in, seen_at}
use Rattle.turn_cell.specs.Plays.{looked}
use Rattle.turn_cell.proofs.Sums.{total-set, found_below}
use Rattle.turn_cell.proofs.Logs.{follows_self}
use Rattle.turn_cell.proofs.Places.{each_set}
use Rattle.turn_cell.proofs.Line.{first_in_line}

module _ {T O : Type 0} (opened : T → O) (acts : T → List Act) (origin : O) (seats : ℕ) where
  abbrev St : Type 0
  St = State (Option T) (View O)

  abbrev V : Type 0
  V = View O

  abbrev Rule : St → Type 0
  Rule s = Orderly opened acts origin seats s

  -- a step that only reads
  unmoved : (s : St) (i id : ℕ) (c : List (ℕ × Option T)) (v : V) → get_elem? s.views id ≡ some v → stepped s i (get_or s.words i 0) id c v keeps ≡ s
  unmoved s i id c v at = λ k. record { words = set-get_or s.words i 0 k; homes = s.homes; views = set_again s.views id v at k }

  takes_it : (s : St) (r : Rule s) (id x : ℕ) (o : Option O) (h : Hand) (hs : List Hand) (home : IsHome opened acts s origin r.log) → get_elem? s.views id ≡ some (waiting o x (h ∷ hs)) → x ≡ get_or s.words 1 0
      → Rule (stepped s 1 (get_or s.words 1 0) id [] (at_turn o x (hand h.number (acts home.value) ∷ hs)) (takes 0 (Some home.value)))
  takes_it s r id x o h hs home at now =
      let v : V = waiting o x (h ∷ hs) in
      let w : V = at_turn o x (hand h.number (acts home.value) ∷ hs) in
      let inside : id < length s.views = found_below s.views id v at in
      let words_same : set s.words 1 (get_or s.words 1 0) ≡ s.words = set-get_or s.words 1 0 in
      record {
        log = r.log;
        line = r.line;
        served = r.served;
        few = r.few;
        words = ap length words_same ∙ r.words;
        drawn_word = ap (λ (l : List ℕ). get_or l 0 0) words_same ∙ r.drawn_word;
        served_word = ap (λ (l : List ℕ). get_or l 1 0) words_same ∙ r.served_word;
        has_place = λ i u t e is. each_set (λ i (u : V). (t : ℕ) → u.ticket ≡ Some t → (k : ℕ) × (get_elem? r.line k ≡ some i) × (t ≡ (r.served + k) % 2 ^ 64)) s.views id w
            (λ t is. r.has_place id v t at is) (λ i u _ e t is. r.has_place i u t e is) i u e t is;
        has_ticket = λ k i e. let p = r.has_ticket k i e in dite (ℕ_discrete i id)
            (λ same. (w, subst (λ (j : ℕ). get_elem? (set s.views id w) j ≡ some w) (sym same) (set_here s.views id w inside), (let m : p.0 ≡ v = some-injective p.0 v (sym p.1 ∙ (ap (λ (j : ℕ). get_elem? s.views j) same ∙ at)) in ap (λ (u : V). u.ticket) (sym m) ∙ p.2)))
            (λ other. (p.0, set_else s.views id i w other ∙ p.1, p.2));
        busy = omega (arith, total-set (λ (u : V). is_busy u.ticket) s.views id v w at, r.busy);
        counted = omega (arith, total-set (λ (u : V). length u.hands) s.views id v w at, r.counted);
        numbered = λ n. let t = total-set (λ (u : V). times n u.hands) s.views id v w at in let e : total (λ (u : V). times n u.hands) (set s.views id w) ≡ total (λ (u : V). times n u.hands) s.views = omega arith in e ∙ r.numbered n;
        handed = each_set (λ i (u : V). is_busy u.ticket ≤ length u.hands) s.views id w (omega arith) (λ i u _. r.handed i u);
        named = each_set (λ i (u : V). 0 < length u.hands → u.opening ≡ Some origin) s.views id w (λ _. r.named id v at (omega arith)) (λ i u _. r.named i u);
        follow = each_set (λ i (u : V). AllFollow r.log u.hands) s.views id w
            (subst (λ (l : List Act). Follows h.number l r.log) (sym home.log_is) (follows_self h.number r.log), (r.follow id v at).1)
            (λ i u _. r.follow i u);
        unmade = r.unmade;
        place = inr record {
          seat = id;
          view = w;
          home = ap (λ (l : List (mathlib.Core.Option.Option (Option T))). set l 0 none) home.home;
          first = first_in_line opened acts origin seats s r id x v at refl now;
          view_is = set_here s.views id w inside;
          has_turn = refl;
          log_is = home.log_is;
          one_turn = each_set (λ i (u : V). u.turn ≡ true → i ≡ id) s.views id w (λ _. refl) (λ i u _ e yes. let no : false ≡ true = sym (home.no_turn i u e) ∙ yes in cc);
        };
      }

  pub looks : (slots id x : ℕ) (o : Option O) (h : Hand) (hs : List Hand)
      → Allows Rule slots id (waiting o x (h ∷ hs), []) 1 (λ n. n) (looked opened acts (step slots 1 0 0 none) (waiting o x (h ∷ hs), []))
  looks slots id x o h hs s r _ at wide =
      let v : V = waiting o x (h ∷ hs) in
      dite (ℕ_discrete x (get_or s.words 1 0))
      (λ now. ⊎_elim
      (λ (home : IsHome opened acts s origin r.log). (
        at_turn o x (hand h.number (acts home.value) ∷ hs),
        takes 0 (Some home.value),
        ap (λ (l : List (mathlib.Core.Option.Option (Option T))). get_elem? l 0) home.home,
        takes_it s r id x o h hs home at now,
        (
          λ _. record {
            value = home.value;
            after_is = ap (λ (j : ℕ). (at_turn o j (hand h.number (acts home.value) ∷ hs), (0, Some home.value) ∷ [])) now;
            opening_is = r.named id v at (omega arith) ∙ ap Some (sym home.opening_is);
            follows = subst (λ (l : List Act). Follows h.number h.seen l) (sym home.log_is) (r.follow id v at).0;
          },
          λ not. absurd (not (ap Some now)),
        ),
      ))
      (λ (out : IsOut opened acts s r.line r.log).
      let here : id ≡ out.seat = some-injective id out.seat (sym (first_in_line opened acts origin seats s r id x v at refl now) ∙ out.first) in
      let same : v ≡ out.view = some-injective v out.view (sym at ∙ (ap (λ (j : ℕ). get_elem? s.views j) here ∙ out.view_is)) in
      let no : false ≡ true = ap (λ (u : V). u.turn) same ∙ out.has_turn in absurd (cc))
      r.place)
      (λ other. (v, keeps, tt, subst Rule (sym (unmoved s 1 id [] v at)) r, ((λ is. absurd (other (let j : Some x ≡ Some (get_or s.words 1 0) = is in cc))), λ _. refl)))

  pub looks_waiting : (slots id x n : ℕ) (me : Me (Option T) V) → Waits x n me → Allows Rule slots id me 1 (λ n. n) (looked opened acts (step slots 1 0 0 none) me)
  looks_waiting slots id x n me has = subst (λ m. Allows Rule slots id m 1 (λ n. n) (looked opened acts (step slots 1 0 0 none) m)) (sym has) (looks slots id x (named_in me) (hand n (seen_at me)) [])
