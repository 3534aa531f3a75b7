-- What a key finds after an upsert.
use Rattle.std.proofs.Common.{◌≡◌, refl, sym, ◌∙◌, cond, List, [], ◌∷◌, Some, unwrap_or, Bool, true, false}
use Rattle.std.specs.Cmp.{IsEquivalence}
use Rattle.std.proofs.lemmas.Bool.{true≢false}
use Rattle.std.proofs.lemmas.Cmp.{eq_by_cmp_equiv, lists_equiv}
use Rattle.dfx_value.specs.declared.value.Value.{Value}
use Rattle.dfx_value.proofs.OrderLemmas.{value_cmp_total}
use Rattle.scalar_exprs.specs.Groups.{same_keys}
use Rattle.key_laws.specs.Entries.{upsert, find}

pub same_keys_laws : IsEquivalence same_keys
same_keys_laws = lists_equiv (eq_by_cmp_equiv value_cmp_total)

-- a key finds what an upsert made of it, and else what it found
pub find-upsert : {S : Type 0} (es : List (List Value × S)) (key k : List Value) (start : S) (f : S → S) → find (upsert es key start f) k ≡ cond (same_keys key k) (Some (f (unwrap_or (find es k) start))) (find es k)
find-upsert [] key k start f = refl
find-upsert (e ∷ es) key k start f = by (same_keys e.0 key) refl (find-upsert es key k start f)
  where
    here : (b c : Bool) → b ≡ c → cond b (Some (f e.1)) (find es k) ≡ cond c (Some (f (unwrap_or (cond b (Some e.1) (find es k)) start))) (cond b (Some e.1) (find es k))
    here true true h = refl
    here false false h = refl
    here true false h = absurd (true≢false h)
    here false true h = absurd (true≢false (sym h))

    there : (b c : Bool) → (b ≡ true → c ≡ true → ⊥) → find (upsert es key start f) k ≡ cond c (Some (f (unwrap_or (find es k) start))) (find es k)
        → cond b (Some e.1) (find (upsert es key start f) k) ≡ cond c (Some (f (unwrap_or (cond b (Some e.1) (find es k)) start))) (cond b (Some e.1) (find es k))
    there true true h ih = absurd (h refl refl)
    there true false h ih = refl
    there false c h ih = ih

    by : (b : Bool) → same_keys e.0 key ≡ b → find (upsert es key start f) k ≡ cond (same_keys key k) (Some (f (unwrap_or (find es k) start))) (find es k)
        → find (cond b ((e.0, f e.1) ∷ es) (e ∷ upsert es key start f)) k
        ≡ cond (same_keys key k) (Some (f (unwrap_or (cond (same_keys e.0 k) (Some e.1) (find es k)) start))) (cond (same_keys e.0 k) (Some e.1) (find es k))
    by true h ih = here (same_keys e.0 k) (same_keys key k) (same_keys_laws.congr e.0 key k h)
    by false h ih = there (same_keys e.0 k) (same_keys key k) (λ a b. true≢false (sym b ∙ (same_keys_laws.symm key k ∙ (sym (same_keys_laws.congr e.0 k key a) ∙ h)))) ih
