-- Files opened one after the other.
use Rattle.std.proofs.Common.{◌≡◌, refl, ℕ, ◌+◌, ◌<◌, ◌≤◌, List, [], ◌∷◌, ◌++◌, length, map, take, drop, get_or, Option, Some, None, ap, sym, ◌∙◌}
use Rattle.std.proofs.lemmas.List.{map-append, take_more, take_all, drop_all, at_drop_more}
use Rattle.dfx_outside.specs.Contents.{Contents, content}
use Rattle.csv_source.specs.TableItems.{missing, missing_from, missing_by}
use Rattle.scan_run.specs.Words.{Opens, Opening, AreOpened}

pub opening_none : (all : Contents) (paths : List (List ℕ)) → Opening all paths 0 []
opening_none all paths = record { contents = []; tell = refl; found = refl; next = refl }

-- the first that is missing, from this path on
missing-at : (all : Contents) (paths : List (List ℕ)) (i : ℕ) (path : List ℕ) → i < length paths → path ≡ get_or paths i path
    → missing_from all i (drop i paths) ≡ missing_by i (content all path) (missing_from all (i + 1) (drop (i + 1) paths))
missing-at all paths i path low is =
    at_drop_more (missing_from all i) paths i path low ∙ ap (λ (p : List ℕ). missing_by i (content all p) (missing_from all (i + 1) (drop (i + 1) paths))) (sym is)

opening_by : {S : Type 0} (told : S → Option (List ℕ)) (all : Contents) (paths : List (List ℕ)) (i : ℕ) (path : List ℕ) (before now : List S) (o : Option (List ℕ)) → content all path ≡ o
    → Opening all paths i (map told before) → i < length paths → path ≡ get_or paths i path → Opens told before now o → Opening all paths (i + 1) (map told now)
opening_by told all paths i path before now None e h low is opened = absurd opened
opening_by told all paths i path before now (Some bytes) e h low is opened =
    let more : take (i + 1) paths ≡ take i paths ++ path ∷ [] = take_more paths i path low ∙ ap (λ (p : List ℕ). take i paths ++ p ∷ []) (sym is) in
    let both : map {B = Option (List ℕ)} Some h.contents ++ Some bytes ∷ [] ≡ map Some (h.contents ++ bytes ∷ []) = sym (map-append Some h.contents (bytes ∷ [])) in
    record {
      contents = h.contents ++ bytes ∷ [];
      tell = opened ∙ ap (λ (t : List (Option (List ℕ))). t ++ Some bytes ∷ []) h.tell ∙ both;
      found = ap (map (content all)) more ∙ map-append (content all) (take i paths) (path ∷ [])
          ∙ ap (λ (o : Option (List ℕ)). map (content all) (take i paths) ++ o ∷ []) e ∙ ap (λ (t : List (Option (List ℕ))). t ++ Some bytes ∷ []) h.found ∙ both;
      next = sym (missing-at all paths i path low is ∙ ap (λ (o : Option (List ℕ)). missing_by i o (missing_from all (i + 1) (drop (i + 1) paths))) e) ∙ h.next;
    }

pub opening_more : {S : Type 0} (told : S → Option (List ℕ)) (all : Contents) (paths : List (List ℕ)) (i : ℕ) (path : List ℕ) (before now : List S)
    → Opening all paths i (map told before) → i < length paths → path ≡ get_or paths i path → Opens told before now (content all path) → Opening all paths (i + 1) (map told now)
opening_more told all paths i path before now h low is opened = opening_by told all paths i path before now (content all path) refl h low is opened

pub opening_absent : (all : Contents) (paths : List (List ℕ)) (i : ℕ) (path : List ℕ) (told : List (Option (List ℕ))) → Opening all paths i told → i < length paths → path ≡ get_or paths i path → content all path ≡ None
    → missing all paths ≡ Some i
opening_absent all paths i path told h low is none =
    sym h.next ∙ missing-at all paths i path low is ∙ ap (λ (o : Option (List ℕ)). missing_by i o (missing_from all (i + 1) (drop (i + 1) paths))) none

pub opening_all : (all : Contents) (paths : List (List ℕ)) (i : ℕ) (told : List (Option (List ℕ))) → Opening all paths i told → length paths ≤ i → AreOpened all paths told
opening_all all paths i told h low = record {
  contents = h.contents;
  tell = h.tell;
  found = ap (map (content all)) (sym (take_all i paths low)) ∙ h.found;
  there = sym h.next ∙ ap (missing_from all i) (drop_all i paths low);
}
