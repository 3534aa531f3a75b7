-- A seat is split, and two are joined.
use Rattle.std.proofs.Common.{◌≡◌, ℕ, ◌+◌, ◌%◌, ◌^◌, ◌<◌, ◌≤◌, true, false, cond, eqb, List, [], ◌∷◌, ◌++◌, length, set, sym, refl, ap, ◌∙◌, inl, inr, ⊎_elim, arith, Option, Some, None, length-append}
use mathlib.Core.Option.{some}
use lib.ListN.{get_elem?}
use Rattle.atomic_table.specs.Table.{State, Splits, Joins}
use Rattle.atomic_table.proofs.Lists.{set_else, at_longer}
use Rattle.turn_cell.specs.declared.act.Act.{Act}
use Rattle.turn_cell.specs.declared.view.Hand.{Hand}
use Rattle.turn_cell.specs.declared.view.View.{View}
use Rattle.turn_cell.specs.Views.{is_busy, times, total, resting, spent}
use Rattle.turn_cell.specs.Turns.{AllFollow, IsHome, IsOut, Orderly}
use Rattle.turn_cell.proofs.Sums.{total-append, total-set}
use Rattle.turn_cell.proofs.Logs.{all_follow-append}
use Rattle.turn_cell.proofs.Places.{each_snoc, each_set, differ}

module _ {T O : Type 0} (opened : T → O) (acts : T → List Act) (origin : O) (seats : ℕ) where
  abbrev St : Type 0
  St = State (Option T) (View O)

  abbrev V : Type 0
  V = View O

  abbrev Rule : St → Type 0
  Rule s = Orderly opened acts origin seats s

  -- the fields of the rule after a step on the views alone in which no seat begins or ends a turn
  pub splits : (id : ℕ) (o : Option O) (h : Hand) (hs : List Hand) → Splits Rule id (resting o (h ∷ hs)) (resting o hs) (resting o (h ∷ []))
  splits id o h hs s r at =
      let v : V = resting o (h ∷ hs) in
      let w : V = resting o hs in
      let u : V = resting o (h ∷ []) in
      let new : List V = set s.views id w in
      record {
        log = r.log;
        line = r.line;
        served = r.served;
        few = r.few;
        words = r.words;
        drawn_word = r.drawn_word;
        served_word = r.served_word;
        has_place = λ i z t e is. each_snoc (λ i (z : V). (t : ℕ) → z.ticket ≡ Some t → (k : ℕ) × (get_elem? r.line k ≡ some i) × (t ≡ (r.served + k) % 2 ^ 64)) new u
            (λ i t is. let n : None ≡ Some t = is in cc)
            (each_set (λ i (z : V). (t : ℕ) → z.ticket ≡ Some t → (k : ℕ) × (get_elem? r.line k ≡ some i) × (t ≡ (r.served + k) % 2 ^ 64)) s.views id w (λ t is. let n : None ≡ Some t = is in cc) (λ i z _ e t is. r.has_place i z t e is))
            i z e t is;
        has_ticket = λ k i e. let p = r.has_ticket k i e in
            (p.0, at_longer new (u ∷ []) i p.0 (set_else s.views id i w (differ s.views i id p.0 v p.1 at (λ same. let n : None ≡ Some ((r.served + k) % 2 ^ 64) = ap (λ (z : V). z.ticket) (sym same) ∙ p.2 in cc)) ∙ p.1), p.2);
        busy = omega (arith, total-append (λ (z : V). is_busy z.ticket) new (u ∷ []), total-set (λ (z : V). is_busy z.ticket) s.views id v w at, r.busy);
        counted = omega (arith, total-append (λ (z : V). length z.hands) new (u ∷ []), total-set (λ (z : V). length z.hands) s.views id v w at, r.counted);
        numbered = λ n. let a = total-append (λ (z : V). times n z.hands) new (u ∷ []) in let t = total-set (λ (z : V). times n z.hands) s.views id v w at in let e : total (λ (z : V). times n z.hands) (new ++ u ∷ []) ≡ total (λ (z : V). times n z.hands) s.views = omega arith in e ∙ r.numbered n;
        handed = each_snoc (λ i (z : V). is_busy z.ticket ≤ length z.hands) new u (λ i. omega arith) (each_set (λ i (z : V). is_busy z.ticket ≤ length z.hands) s.views id w (omega arith) (λ i z _. r.handed i z));
        named = each_snoc (λ i (z : V). 0 < length z.hands → z.opening ≡ Some origin) new u (λ i _. r.named id v at (omega arith)) (each_set (λ i (z : V). 0 < length z.hands → z.opening ≡ Some origin) s.views id w (λ _. r.named id v at (omega arith)) (λ i z _. r.named i z));
        follow = each_snoc (λ i (z : V). AllFollow r.log z.hands) new u (λ i. ((r.follow id v at).0, tt)) (each_set (λ i (z : V). AllFollow r.log z.hands) s.views id w (r.follow id v at).1 (λ i z _. r.follow i z));
        unmade = r.unmade;
        place = ⊎_elim
            (λ (home : IsHome opened acts s origin r.log). inl record {
              value = home.value;
              home = home.home;
              opening_is = home.opening_is;
              log_is = home.log_is;
              no_turn = each_snoc (λ i (z : V). z.turn ≡ false) new u (λ i. refl) (each_set (λ i (z : V). z.turn ≡ false) s.views id w refl (λ i z _. home.no_turn i z));
            })
            (λ (out : IsOut opened acts s r.line r.log). inr record {
              seat = out.seat;
              view = out.view;
              home = out.home;
              first = out.first;
              view_is = at_longer new (u ∷ []) out.seat out.view (set_else s.views id out.seat w (differ s.views out.seat id out.view v out.view_is at (λ same. let n : false ≡ true = ap (λ (z : V). z.turn) (sym same) ∙ out.has_turn in cc)) ∙ out.view_is);
              has_turn = out.has_turn;
              log_is = out.log_is;
              one_turn = each_snoc (λ i (z : V). z.turn ≡ true → i ≡ out.seat) new u (λ i n. cc) (each_set (λ i (z : V). z.turn ≡ true → i ≡ out.seat) s.views id w (λ n. cc) (λ i z _. out.one_turn i z));
            })
            r.place;
      }

  pub joins : (id : ℕ) (o : Option O) (h : Hand) (hs : List Hand) (other : ℕ) (p : Option O) (ks : List Hand)
      → Joins Rule id (resting o (h ∷ hs)) other (resting p ks) (resting o ((h ∷ hs) ++ ks)) spent
  joins id o h hs other p ks s r at apart there' =
      let v : V = resting o (h ∷ hs) in
      let w : V = resting o ((h ∷ hs) ++ ks) in
      let x : V = resting p ks in
      let mid : List V = set s.views id w in
      let there : get_elem? s.views other ≡ some x = sym (set_else s.views id other w apart) ∙ there' in
      let Place : ℕ → V → Type 0 = λ i (z : V). (t : ℕ) → z.ticket ≡ Some t → (k : ℕ) × (get_elem? r.line k ≡ some i) × (t ≡ (r.served + k) % 2 ^ 64) in
      record {
        log = r.log;
        line = r.line;
        served = r.served;
        few = r.few;
        words = r.words;
        drawn_word = r.drawn_word;
        served_word = r.served_word;
        has_place = λ i z t e is. each_set Place mid other spent (λ t is. let n : None ≡ Some t = is in cc)
            (λ i z _ e. each_set Place s.views id w (λ t is. let n : None ≡ Some t = is in cc) (λ i z _ e t is. r.has_place i z t e is) i z e)
            i z e t is;
        has_ticket = λ k i e. let q = r.has_ticket k i e in (
          q.0,
          set_else mid other i spent (differ s.views i other q.0 x q.1 there (λ same. let n : None ≡ Some ((r.served + k) % 2 ^ 64) = ap (λ (z : V). z.ticket) (sym same) ∙ q.2 in cc))
              ∙ (set_else s.views id i w (differ s.views i id q.0 v q.1 at (λ same. let n : None ≡ Some ((r.served + k) % 2 ^ 64) = ap (λ (z : V). z.ticket) (sym same) ∙ q.2 in cc)) ∙ q.1),
          q.2,
        );
        busy = omega (arith, total-set (λ (z : V). is_busy z.ticket) mid other x spent there', total-set (λ (z : V). is_busy z.ticket) s.views id v w at, r.busy);
        counted = omega (arith, total-set (λ (z : V). length z.hands) mid other x spent there', total-set (λ (z : V). length z.hands) s.views id v w at, length-append (h ∷ hs) ks, r.counted);
        numbered = λ n. let a = total-set (λ (z : V). times n z.hands) mid other x spent there' in let t = total-set (λ (z : V). times n z.hands) s.views id v w at in let b = total-append (λ (g : Hand). cond (eqb g.number n) 1 0) (h ∷ hs) ks in
            let e : total (λ (z : V). times n z.hands) (set mid other spent) ≡ total (λ (z : V). times n z.hands) s.views = omega arith in e ∙ r.numbered n;
        handed = each_set (λ i (z : V). is_busy z.ticket ≤ length z.hands) mid other spent (omega arith) (λ i z _. each_set (λ i (z : V). is_busy z.ticket ≤ length z.hands) s.views id w (omega arith) (λ i z _. r.handed i z) i z);
        named = each_set (λ i (z : V). 0 < length z.hands → z.opening ≡ Some origin) mid other spent (λ none. absurd (omega (arith, none)))
            (λ i z _. each_set (λ i (z : V). 0 < length z.hands → z.opening ≡ Some origin) s.views id w (λ _. r.named id v at (omega arith)) (λ i z _. r.named i z) i z);
        follow = each_set (λ i (z : V). AllFollow r.log z.hands) mid other spent tt
            (λ i z _. each_set (λ i (z : V). AllFollow r.log z.hands) s.views id w (all_follow-append r.log (h ∷ hs) ks (r.follow id v at) (r.follow other x there)) (λ i z _. r.follow i z) i z);
        unmade = r.unmade;
        place = ⊎_elim
            (λ (home : IsHome opened acts s origin r.log). inl record {
              value = home.value;
              home = home.home;
              opening_is = home.opening_is;
              log_is = home.log_is;
              no_turn = each_set (λ i (z : V). z.turn ≡ false) mid other spent refl (λ i z _. each_set (λ i (z : V). z.turn ≡ false) s.views id w refl (λ i z _. home.no_turn i z) i z);
            })
            (λ (out : IsOut opened acts s r.line r.log). inr record {
              seat = out.seat;
              view = out.view;
              home = out.home;
              first = out.first;
              view_is = set_else mid other out.seat spent (differ s.views out.seat other out.view x out.view_is there (λ same. let n : false ≡ true = ap (λ (z : V). z.turn) (sym same) ∙ out.has_turn in cc))
                  ∙ (set_else s.views id out.seat w (differ s.views out.seat id out.view v out.view_is at (λ same. let n : false ≡ true = ap (λ (z : V). z.turn) (sym same) ∙ out.has_turn in cc)) ∙ out.view_is);
              has_turn = out.has_turn;
              log_is = out.log_is;
              one_turn = each_set (λ i (z : V). z.turn ≡ true → i ≡ out.seat) mid other spent (λ n. cc) (λ i z _. each_set (λ i (z : V). z.turn ≡ true → i ≡ out.seat) s.views id w (λ n. cc) (λ i z _. out.one_turn i z) i z);
            })
            r.place;
      }
