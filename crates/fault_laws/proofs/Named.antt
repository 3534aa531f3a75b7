-- The file of a source is the one that the source's faults name.
use Rattle.std.specs.Prelude.{slice_get}
use Rattle.std.specs.List.{list_all}
use Rattle.std.proofs.Common.{ℕ, zero, suc, ◌+◌, ◌≡◌, inl, inr, refl, sym, ap, ◌∙◌, subst, List, [], ◌∷◌, get_or, map, Bool, true, Some, arith, add-zero, zero-add}
use Rattle.std.proofs.lemmas.List.Sums.{list_all-from_AllPass}
use Rattle.dfx_value.specs.declared.fault.ItemFault.{ItemFault}
use Rattle.run_journal.specs.declared.cause.Cause.{Cause}
use Rattle.physical_plan.specs.declared.plan.Plan.{Plan}
use Rattle.physical_plan.specs.Numbers.{numbers_from}
use Rattle.logical_plan.specs.Items.{Item, faults}
use Rattle.logical_plan.specs.Body.{Tables}
use Rattle.tree_laws.specs.Trees.{File}
use Rattle.plan_task_laws.specs.Trees.{Doing, sources_in}
use Rattle.plan_task_laws.specs.Sources.{files_of as plan_files, places_of, items_at}
use Rattle.plan_task_laws.proofs.Sources.{by_number, by_place}
use Rattle.answer_laws.specs.Meant.{files_of}
use Rattle.answer_laws.proofs.Meaning.{both_true}
use Rattle.fault_laws.specs.Found.{IsIn, Ends}
use Rattle.kind_laws.specs.Tables.{names_file, FaultsAreNamed}
use Rattle.fault_laws.specs.Named.{EndsAt}

same_head : {A : Type 0} (x y : A) (xs ys : List A) → x ∷ xs ≡ y ∷ ys → x ≡ y
same_head x y xs ys e = cc

same_tail : {A : Type 0} (x y : A) (xs ys : List A) → x ∷ xs ≡ y ∷ ys → xs ≡ ys
same_tail x y xs ys e = cc

-- the place of a file: its source, and the items that stand there
pub record IsAt (f : Doing) (at : ℕ) (places : List (ℕ × ℕ)) (x : File) : Type 0 where
  pub number : ℕ
  pub place : ℕ × ℕ
  pub here : slice_get places number ≡ Some place
  pub source : x.source ≡ at + number
  pub items : x.items ≡ items_at f place

found_at : (f : Doing) (at m : ℕ) (xs : List File) (places : List (ℕ × ℕ)) → map (λ (x : File). x.source) xs ≡ numbers_from at m → map (λ (x : File). x.items) xs ≡ map (items_at f) places
    → (x : File) → IsIn x xs → IsAt f at places x
found_at f at m [] places a b x h = absurd h
found_at f at zero (y ∷ ys) places a b x h = cc
found_at f at (suc m) (y ∷ ys) [] a b x h = cc
found_at f at (suc m) (y ∷ ys) (p ∷ ps) a b x h = elim h [
  | inl e ↦ record {
    number = 0;
    place = p;
    here = refl;
    source = ap (λ (z : File). z.source) e ∙ same_head y.source at (map (λ (x : File). x.source) ys) (numbers_from (at + 1) m) a ∙ sym (add-zero at);
    items = ap (λ (z : File). z.items) e ∙ same_head y.items (items_at f p) (map (λ (x : File). x.items) ys) (map (items_at f) ps) b;
  }
  | inr i ↦ (
      let r = found_at f (at + 1) m ys ps (same_tail y.source at (map (λ (x : File). x.source) ys) (numbers_from (at + 1) m) a)
      (same_tail y.items (items_at f p) (map (λ (x : File). x.items) ys) (map (items_at f) ps) b) x i in
      record {
        number = suc r.number;
        place = r.place;
        here = r.here;
        source = r.source ∙ (let z : at + 1 + r.number ≡ at + suc r.number = omega arith in z);
        items = r.items;
      })
]

passes_in : (test : ItemFault → Bool) (fs : List ItemFault) (x : ItemFault) → list_all test fs ≡ true → IsIn x fs → test x ≡ true
passes_in test [] x e h = absurd h
passes_in test (y ∷ ys) x e h =
    let b = both_true (test y) (list_all test ys) e in
    elim h [
      | inl i ↦ ap test i ∙ b.0
      | inr i ↦ passes_in test ys x b.1 i
    ]

pub named : (f : Doing) (tables : Tables) → ((table file : ℕ) → f.items table file ≡ get_or (files_of tables table) file []) → FaultsAreNamed tables → (p : Plan) (met : List ItemFault) (cause : Cause)
    → Ends met (plan_files f p 0) cause → EndsAt met (places_of p) cause
named f tables items are p met cause h = (
  h.0,
  h.1,
  elim h.2 [
    | inl e ↦ inl e
    | inr r ↦ (
        let at = found_at f 0 (sources_in p) (plan_files f p 0) (places_of p) (by_number f p 0) (by_place f p 0) r.0 r.1 in
        let table = at.place.0 in
        let file = at.place.1 in
        let same : r.0.items ≡ get_or (files_of tables table) file [] = at.items ∙ items table file in
        let fs = faults (get_or (files_of tables table) file []) in
        let n = passes_in (names_file table file) fs h.0 (list_all-from_AllPass (names_file table file) fs (are table file)) (subst (λ (is : List Item). IsIn h.0 (faults is)) same r.2) in
        inr (r.0.source, table, file, ap (λ (k : ℕ). slice_get (places_of p) k) (at.source ∙ zero-add at.number) ∙ at.here, n, r.3))
  ],
)
