-- The records of a text, one by one.
use Rattle.std.proofs.Common.{◌≡◌, refl, ℕ, zero, suc, ◌+◌, ◌≤◌, ◌<◌, ◌⊎◌, inl, inr, Bool, true, false, cond, List, [], ◌∷◌, ◌++◌, length, Option, Some, None, option_map, ap, sym, ◌∙◌, arith, add-one, drop, append_assoc, append-nil, length-append}
use Rattle.csv.proofs.ReadFacts.{run-copies}
use Rattle.csv.specs.Machine.{Read, next_record, ends_at_end, is_end, step, fields_after, field_after}
use Rattle.csv.specs.Reading.{default_config, records_from, records_next}
use Rattle.csv.specs.declared.parser.State.{State}
use Rattle.csv.specs.declared.parser.State.TheVariants as st
use Rattle.csv.specs.declared.parser.Action.{Action}
use Rattle.csv_records.specs.Cursors.{AtHand, Joins, TakesRun}
use Rattle.csv_records.specs.Left.{Ahead, Fields, between, bytes_left, count_left, records_at, records_left, Takes, HasNone}

-- a record takes at least a byte, but for one at the very end, after which there is none
abbrev Shorter : Read → List ℕ → Type 0
Shorter q xs = (length q.2 < length xs) ⊎ ((q.1 ≡ st.StartRecord) × (q.2 ≡ []))

chosen : (b : Bool) (x : Read) (o : Option Read) (q : Read) → cond b (Some x) o ≡ Some q → (x ≡ q) ⊎ (o ≡ Some q)
chosen true x o q e = inl (cc)
chosen false x o q e = inr e

at_end : (x q : Read) → x ≡ q → x.1 ≡ st.StartRecord → x.2 ≡ [] → (q.1 ≡ st.StartRecord) × (q.2 ≡ [])
at_end x q e s r = (sym (ap (λ (p : Read). p.1) e) ∙ s, sym (ap (λ (p : Read). p.2) e) ∙ r)

never : (q : Read) → ◌≡◌ {A = Option Read} None (Some q) → ⊥
never q e = cc

shorter : (s : State) (fields : List (List ℕ)) (field xs : List ℕ) (q : Read)
    → next_record default_config s fields field xs ≡ Some q → Shorter q xs
unfolding next_record
shorter s fields field [] q e =
    elim (chosen (ends_at_end s) (fields ++ (field ∷ []), st.StartRecord, []) None q e) [
      | inl same ↦ inr (at_end _ q same refl refl)
      | inr none ↦ absurd (never q none)
    ]
shorter s fields field (c ∷ rest) q e =
    elim (chosen (is_end (step default_config s c).1) (fields_after (step default_config s c).1 fields field, (step default_config s c).0, rest) _ q e) [
      | inl same ↦ inl (let r : rest ≡ q.2 = ap (λ (p : Read). p.2) same in omega (arith, ap length r))
      | inr more ↦ elim (shorter (step default_config s c).0 (fields_after (step default_config s c).1 fields field) (field_after (step default_config s c).1 c field) rest q more) [
        | inl less ↦ inl (omega arith)
        | inr end ↦ inr end
      ]
    ]

none_at_end : (n : ℕ) → records_from default_config n st.StartRecord [] ≡ []
unfolding records_from next_record
none_at_end zero = refl
none_at_end (suc n) = refl

same_next : (o : Option Read) (f g : State → List ℕ → List Fields) → ((p : Read) → o ≡ Some p → f p.1 p.2 ≡ g p.1 p.2) → records_next f o ≡ records_next g o
same_next None f g h = refl
same_next (Some p) f g h = ap (λ (rs : List Fields). p.0 ∷ rs) (h p refl)

-- more turns than bytes give the same records
enough : (n m : ℕ) (s : State) (xs : List ℕ) → length xs < n → length xs < m
    → records_from default_config n s xs ≡ records_from default_config m s xs
unfolding records_from
enough zero m s xs h k = absurd (omega arith)
enough (suc n) zero s xs h k = absurd (omega arith)
enough (suc n) (suc m) s xs h k =
    same_next (next_record default_config s [] [] xs) (records_from default_config n) (records_from default_config m)
    (λ (p : Read) (e : next_record default_config s [] [] xs ≡ Some p).
    elim (shorter s [] [] xs p e) [
      | inl less ↦ enough n m p.1 p.2 (omega arith) (omega arith)
      | inr end ↦ rw (end.0, end.1) (none_at_end n ∙ sym (none_at_end m))
    ])

-- the last record that is read
records_none : (s : State) (xs : List ℕ) → next_record default_config s [] [] xs ≡ None → records_at s xs ≡ []
unfolding records_from
records_none s xs e = rw (add-one, e) refl

-- the first record, and those after it
records_some : (s : State) (xs : List ℕ) (p : Read) → next_record default_config s [] [] xs ≡ Some p → records_at s xs ≡ p.0 ∷ records_at p.1 p.2
unfolding records_from
records_some s xs p e =
    rw (add-one (length xs), e) (ap (λ (rs : List Fields). p.0 ∷ rs) (elim (shorter s [] [] xs p e) [
      | inl less ↦ enough (length xs) (length p.2 + 1) p.1 p.2 less (omega arith)
      | inr end ↦ rw (end.0, end.1) (none_at_end (length xs) ∙ sym (none_at_end 1))
    ]))

-- a record that was read is the first of those that were left
takes_record : (s t : State) (o now : Option (List ℕ)) (fields : Fields)
    → option_map (next_record default_config s [] []) o ≡ option_map (λ (r : List ℕ). Some (fields, t, r)) now
    → Takes (option_map (records_at s) o) fields (option_map (records_at t) now)
takes_record s t None now fields e = tt
takes_record s t (Some xs) None fields e = cc
takes_record s t (Some xs) (Some ys) fields e =
    let p : next_record default_config s [] [] xs ≡ Some (fields, t, ys) = (cc) in
    rw (records_some s xs (fields, t, ys) p) (refl, refl)

-- where there was none, none is left
has_no_record : (s : State) (o : Option (List ℕ)) (told : Option (List ℕ))
    → option_map (next_record default_config s [] []) o ≡ option_map (λ (v : List ℕ). None) told
    → HasNone (option_map (records_at s) o)
has_no_record s None told e = tt
has_no_record s (Some xs) None e = cc
has_no_record s (Some xs) (Some v) e = let p : next_record default_config s [] [] xs ≡ None = (cc) in records_none s xs p

-- the same, for a reader that notes whether a CR ended the record before
pub takes_between : (old : Ahead) (b after : Bool) (s t : State) (bytes : List ℕ) (at : ℕ) (was fields : Fields) (told now : Option (List ℕ))
    → old ≡ record { bytes = bytes; at = at; after_cr = b; fields = was } → s ≡ between b → between after ≡ t
    → option_map (next_record default_config s [] []) (bytes_left told bytes at) ≡ option_map (λ (r : List ℕ). Some (fields, t, r)) now
    → Takes (records_left told old) fields (option_map (records_at (between after)) now)
takes_between old b after s t bytes at was fields told now is start stop e =
    rw (is, ← start, stop) (takes_record s t (bytes_left told bytes at) now fields e)

pub has_none_between : (b : Bool) (s : State) (o : Option (List ℕ)) (told : Option (List ℕ)) → s ≡ between b
    → option_map (next_record default_config s [] []) o ≡ option_map (λ (v : List ℕ). None) told
    → HasNone (option_map (records_at (between b)) o)
has_none_between b s o told start e = rw (← start) (has_no_record s o told e)

-- a byte that doesn't end the record
pub byte_goes : (s t : State) (a : Action) (b : ℕ) (fs gs : Fields) (f g : List ℕ) (o now : Option (List ℕ)) (first : Option (Option Read))
    → first ≡ option_map (next_record default_config s fs f) o → o ≡ option_map (λ (ys : List ℕ). b ∷ ys) now
    → (t, a) ≡ step default_config s b → gs ≡ fields_after a fs f → g ≡ field_after a b f → is_end a ≡ false
    → first ≡ option_map (next_record default_config t gs g) now
unfolding next_record
byte_goes s t a b fs gs f g o None first e is st h k goes = rw (e, is) refl
byte_goes s t a b fs gs f g o (Some ys) first e is st h k goes =
    let action : (step default_config s b).1 ≡ a = ap (λ (p : State × Action). p.1) (sym st) in
    let state : (step default_config s b).0 ≡ t = ap (λ (p : State × Action). p.0) (sym st) in
    rw (e, is, h, k, action, state, goes) refl

-- a byte that ends it
pub byte_ends : (s t : State) (a : Action) (b : ℕ) (fs gs : Fields) (f : List ℕ) (o now : Option (List ℕ)) (first : Option (Option Read))
    → first ≡ option_map (next_record default_config s fs f) o → o ≡ option_map (λ (ys : List ℕ). b ∷ ys) now
    → (t, a) ≡ step default_config s b → gs ≡ fields_after a fs f → is_end a ≡ true
    → first ≡ option_map (λ (r : List ℕ). Some (gs, t, r)) now
unfolding next_record
byte_ends s t a b fs gs f o None first e is st h ends = rw (e, is) refl
byte_ends s t a b fs gs f o (Some ys) first e is st h ends =
    let action : (step default_config s b).1 ≡ a = ap (λ (p : State × Action). p.1) (sym st) in
    let state : (step default_config s b).0 ≡ t = ap (λ (p : State × Action). p.0) (sym st) in
    rw (e, is, h, action, state, ends) refl

-- the end of the text
pub text_ends : (s : State) (fs gs : Fields) (f : List ℕ) (o now told : Option (List ℕ)) (first : Option (Option Read))
    → first ≡ option_map (next_record default_config s fs f) o → o ≡ option_map (λ (v : List ℕ). []) told → now ≡ option_map (λ (v : List ℕ). []) told
    → gs ≡ fs ++ (f ∷ []) → ends_at_end s ≡ true
    → first ≡ option_map (λ (r : List ℕ). Some (gs, st.StartRecord, r)) now
unfolding next_record
text_ends s fs gs f o now None first e is left h ends = rw (e, is, left) refl
text_ends s fs gs f o now (Some v) first e is left h ends = rw (e, is, left, h, ends) refl

pub text_is_over : (s : State) (fs : Fields) (f : List ℕ) (o told : Option (List ℕ)) (first : Option (Option Read))
    → first ≡ option_map (next_record default_config s fs f) o → o ≡ option_map (λ (v : List ℕ). []) told → ends_at_end s ≡ false
    → first ≡ option_map (λ (v : List ℕ). None) told
unfolding next_record
text_is_over s fs f o None first e is goes = rw (e, is) refl
text_is_over s fs f o (Some v) first e is goes = rw (e, is, goes) refl

-- the next byte is the first of those that are left
pub byte_ahead : (told : Option (List ℕ)) (b at : ℕ) (bytes : List ℕ) → bytes ≡ b ∷ drop 1 bytes
    → bytes_left told bytes at ≡ option_map (λ (ys : List ℕ). b ∷ ys) (bytes_left told (drop 1 bytes) at)
byte_ahead None b at bytes e = refl
byte_ahead (Some v) b at bytes e = ap (λ (xs : List ℕ). Some (xs ++ drop at v)) e

pub byte_fewer : (size b at : ℕ) (bytes : List ℕ) → bytes ≡ b ∷ drop 1 bytes → count_left size (drop 1 bytes) at < count_left size bytes at
byte_fewer size b at bytes e = omega (arith, ap length e)

-- bytes that only join the field
joined : (s t : State) (fs : Fields) (f run rest : List ℕ) → Joins s run t
    → next_record default_config s fs f (run ++ rest) ≡ next_record default_config t fs (f ++ run) rest
unfolding next_record
joined s t fs f [] rest j = rw (j, append-nil f) refl
joined s t fs f (b ∷ bs) rest j =
    let copied : next_record default_config t fs (f ++ (b ∷ [])) (bs ++ rest) ≡ next_record default_config t fs ((f ++ (b ∷ [])) ++ bs) rest =
    run-copies default_config t fs (f ++ (b ∷ [])) bs rest j.1 in
    rw j.0 (copied ∙ ap (λ (g : List ℕ). next_record default_config t fs g rest) (append_assoc f (b ∷ []) bs))

pub run_goes : (s t : State) (old new : AtHand) (told : Option (List ℕ)) (first : Option (Option Read))
    → TakesRun s t old new → first ≡ option_map (next_record default_config s old.fields old.field) (bytes_left told old.bytes old.at)
    → first ≡ option_map (next_record default_config t new.fields new.field) (bytes_left told new.bytes new.at)
run_goes s t old new None first r e = rw e refl
run_goes s t old new (Some v) first r e =
    let whole : old.bytes ++ drop old.at v ≡ r.run ++ (new.bytes ++ drop new.at v) = rw (r.bytes, r.at) (append_assoc r.run new.bytes (drop old.at v)) in
    rw (e, r.field, r.fields, whole) (ap Some (joined s t old.fields old.field r.run (new.bytes ++ drop new.at v) r.joins))

pub run_fewer : (s t : State) (old new : AtHand) (size : ℕ) → TakesRun s t old new → count_left size new.bytes new.at ≤ count_left size old.bytes old.at
run_fewer s t old new size r = rw r.at (omega (arith, ap length r.bytes, length-append r.run new.bytes))

-- a run that isn't empty takes a byte
run_less : (s t : State) (run : List ℕ) (n m most : ℕ) → Joins s run t → m ≡ length run + n → m ≤ most
    → (ends_at_end s ≡ true → m < most) → ends_at_end t ≡ true → n < most
run_less s t [] n m most j e h taken ends = let less : m < most = taken (rw j ends) in omega arith
run_less s t (b ∷ bs) n m most j e h taken ends = omega arith

pub run_taken : (s t : State) (old new : AtHand) (size most : ℕ) → TakesRun s t old new → count_left size old.bytes old.at ≤ most
    → (ends_at_end s ≡ true → count_left size old.bytes old.at < most) → ends_at_end t ≡ true → count_left size new.bytes new.at < most
run_taken s t old new size most r h taken ends =
    run_less s t r.run (count_left size new.bytes new.at) (count_left size old.bytes old.at) most r.joins
    (rw r.at (omega (arith, ap length r.bytes, length-append r.run new.bytes))) h taken ends

-- between two records the end of the text ends none
pub between_ends : (b : Bool) → ends_at_end (between b) ≡ false
between_ends true = refl
between_ends false = refl

pub ruleset left_steps = (has_none_between)

pub ruleset reader_steps = (byte_goes, byte_ends, text_ends, text_is_over, between_ends, run_goes, run_fewer)
