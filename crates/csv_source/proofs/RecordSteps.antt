-- The records of a text, one by one.
use Rattle.std.proofs.Common.{◌≡◌, refl, ℕ, zero, suc, ◌+◌, ◌≤◌, ◌<◌, ◌⊎◌, inl, inr, Bool, true, false, cond, List, [], ◌∷◌, ◌++◌, length, Option, Some, None, option_map, ap, sym, ◌∙◌, arith, add-one}
use Rattle.csv.specs.Machine.{Read, next_record, ends_at_end, is_end, step, fields_after, field_after}
use Rattle.csv.specs.Reading.{default_config, records_from, records_next, Reached, ReadRecord, source_of, reader_config, reader_state}
use Rattle.csv.specs.declared.parser.State.{State}
use Rattle.csv.specs.declared.parser.State.TheVariants as st
use Rattle.csv.specs.declared.reader.Reader.{Reader}
use Rattle.csv.proofs.ReadFacts.{rows-more, rows-end}
use Rattle.csv_source.specs.Records.{Fields, records_at, records_left, Takes, HasNone}

-- a record takes at least a byte, but for one at the very end, after which there is none
abbrev Shorter : Read → List ℕ → Type 0
Shorter q xs = (length q.2 < length xs) ⊎ ((q.1 ≡ st.StartRecord) × (q.2 ≡ []))

chosen : (b : Bool) (x : Read) (o : Option Read) (q : Read) → cond b (Some x) o ≡ Some q → (x ≡ q) ⊎ (o ≡ Some q)
chosen true x o q e = inl (cc)
chosen false x o q e = inr e

at_end : (x q : Read) → x ≡ q → x.1 ≡ st.StartRecord → x.2 ≡ [] → (q.1 ≡ st.StartRecord) × (q.2 ≡ [])
at_end x q e s r = (sym (ap (λ (p : Read). p.1) e) ∙ s, sym (ap (λ (p : Read). p.2) e) ∙ r)

never : (q : Read) → ◌≡◌ {A = Option Read} None (Some q) → ⊥
never q e = cc

shorter : (s : State) (fields : List (List ℕ)) (field xs : List ℕ) (q : Read) → next_record default_config s fields field xs ≡ Some q → Shorter q xs
unfolding next_record
shorter s fields field [] q e =
    elim (chosen (ends_at_end s) (fields ++ (field ∷ []), st.StartRecord, []) None q e) [
      | inl same ↦ inr (at_end _ q same refl refl)
      | inr none ↦ absurd (never q none)
    ]
shorter s fields field (c ∷ rest) q e =
    elim (chosen (is_end (step default_config s c).1) (fields_after (step default_config s c).1 fields field, (step default_config s c).0, rest) _ q e) [
      | inl same ↦ inl (let r : rest ≡ q.2 = ap (λ (p : Read). p.2) same in omega (arith, ap length r))
      | inr more ↦ elim (shorter (step default_config s c).0 (fields_after (step default_config s c).1 fields field) (field_after (step default_config s c).1 c field) rest q more) [
        | inl less ↦ inl (omega arith)
        | inr end ↦ inr end
      ]
    ]

none_at_end : (n : ℕ) → records_from default_config n st.StartRecord [] ≡ []
unfolding records_from next_record
none_at_end zero = refl
none_at_end (suc n) = refl

same_next : (o : Option Read) (f g : State → List ℕ → List Fields) → ((p : Read) → o ≡ Some p → f p.1 p.2 ≡ g p.1 p.2) → records_next f o ≡ records_next g o
same_next None f g h = refl
same_next (Some p) f g h = ap (λ (rs : List Fields). p.0 ∷ rs) (h p refl)

-- more turns than bytes give the same records
enough : (n m : ℕ) (s : State) (xs : List ℕ) → length xs < n → length xs < m → records_from default_config n s xs ≡ records_from default_config m s xs
unfolding records_from
enough zero m s xs h k = absurd (omega arith)
enough (suc n) zero s xs h k = absurd (omega arith)
enough (suc n) (suc m) s xs h k =
    same_next (next_record default_config s [] [] xs) (records_from default_config n) (records_from default_config m)
    (λ (p : Read) (e : next_record default_config s [] [] xs ≡ Some p).
    elim (shorter s [] [] xs p e) [
      | inl less ↦ enough n m p.1 p.2 (omega arith) (omega arith)
      | inr end ↦ rw (end.0, end.1) (none_at_end n ∙ sym (none_at_end m))
    ])

-- the last record that is read
records_none : (s : State) (xs : List ℕ) → next_record default_config s [] [] xs ≡ None → records_at s xs ≡ []
unfolding records_from
records_none s xs e = rw (add-one, e) refl

-- the first record, and those after it
records_some : (s : State) (xs : List ℕ) (p : Read) → next_record default_config s [] [] xs ≡ Some p → records_at s xs ≡ p.0 ∷ records_at p.1 p.2
unfolding records_from
records_some s xs p e =
    rw (add-one, e) (ap (λ (rs : List Fields). p.0 ∷ rs) (elim (shorter s [] [] xs p e) [
      | inl less ↦ enough (length xs) (length p.2 + 1) p.1 p.2 less (omega arith)
      | inr end ↦ rw (end.0, end.1) (none_at_end (length xs) ∙ sym (none_at_end 1))
    ]))

length-records_next : (n : ℕ) (f : State → List ℕ → List Fields) (o : Option Read) → ((t : State) (ys : List ℕ) → length (f t ys) ≤ n) → length (records_next f o) ≤ suc n
length-records_next n f None h = omega arith
length-records_next n f (Some p) h = omega (arith, h p.1 p.2)

-- there are at most so many records as turns
length-records_from : (n : ℕ) (s : State) (xs : List ℕ) → length (records_from default_config n s xs) ≤ n
unfolding records_from
length-records_from zero s xs = omega arith
length-records_from (suc n) s xs = length-records_next n (records_from default_config n) (next_record default_config s [] [] xs) (λ t ys. length-records_from n t ys)

pub length-records_at : (s : State) (xs : List ℕ) → length (records_at s xs) ≤ length xs + 1
length-records_at s xs = length-records_from (length xs + 1) s xs

reached_one : (s t : State) (xs ys : List ℕ) (fields : Fields) → Reached default_config s xs (fields ∷ []) t ys → records_at s xs ≡ fields ∷ records_at t ys
unfolding Reached
reached_one s t xs ys fields r =
    records_some s xs r.0 r.1 ∙ rw (← r.2, r.3.0, r.3.1) refl

reached_here : (s : State) (xs : List ℕ) → Reached default_config s xs [] s xs
unfolding Reached
reached_here s xs = (refl, refl)

-- what a read that found a record took
pub takes_record : {R : Type 0} (rem : R → Option (List ℕ)) (a b : Reader R) (fields : Fields)
    → reader_config a ≡ default_config → ReadRecord rem a b true fields → Takes (records_left rem a) fields (records_left rem b)
takes_record {R} rem a b fields config read = by_source (source_of rem a) refl where
  by_source : (o : Option (List ℕ)) → source_of rem a ≡ o → Takes (option_map (records_at (reader_state a)) o) fields (records_left rem b)
  by_source None e = tt
  by_source (Some xs) e =
      let m = rows-more rem a b fields default_config (reader_state a) xs xs [] config e (reached_here (reader_state a) xs) read in
      rw (reached_one (reader_state a) (reader_state b) xs m.0 fields m.2) (refl, ap (option_map (records_at (reader_state b))) m.1)

-- a read that found none was at the end
pub has_no_record : {R : Type 0} (rem : R → Option (List ℕ)) (a b : Reader R) (fields : Fields)
    → reader_config a ≡ default_config → ReadRecord rem a b false fields → HasNone (records_left rem a)
has_no_record rem a b fields config read = by_source (source_of rem a) refl where
  by_source : (o : Option (List ℕ)) → source_of rem a ≡ o → HasNone (option_map (records_at (reader_state a)) o)
  by_source None e = tt
  by_source (Some xs) e = records_none (reader_state a) xs (rows-end rem a b fields default_config xs config e read)
