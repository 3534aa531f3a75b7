-- A well-kinded body over tables of the scans' kinds is known, and its DISTINCTs are over rows of their kinds.
use Rattle.std.specs.Prelude.{slice_get, slice_index_or, nat_lt}
use Rattle.std.specs.List.{list_all}
use Rattle.std.proofs.Common.{◌≡◌, refl, ℕ, zero, suc, ◌==◌, Bool, true, ◌&&◌, eq-eqb, List, [], ◌∷◌, ◌++◌, map, length, subst, ap, sym, ◌∙◌}
use Rattle.std.proofs.lemmas.Bool.{and_parts, and_from}
use Rattle.dfx_outside.specs.Contents.{Contents}
use Rattle.dfx_value.specs.Kinds.{are_of}
use Rattle.dfx_value.specs.KindedRows.{all_are}
use Rattle.dfx_value.specs.declared.kind.Kind.{Kind}
use Rattle.dfx_value.proofs.BatchLemmas.{length-are_of}
use Rattle.physical_plan.specs.Everywhere.{all_true}
use Rattle.logical_plan.specs.declared.plan.Logical.{Logical}
use Rattle.logical_plan.specs.declared.plan.Logical.TheOpen.{Logical-F}
use Rattle.logical_plan.specs.declared.plan.Logical.TheViews.{roll-Logical}
use Rattle.logical_plan.specs.declared.plan.Logical.TheFolds.{para-roll-Logical, map-Logical, ind-Logical}
use Rattle.logical_plan.specs.Items.{Cells, rows, concat}
use Rattle.logical_plan.specs.Body.{Tables, meant_part, body, kinds}
use Rattle.logical_plan.proofs.BodySteps.{kinds_at}
use Rattle.csv_source.specs.TableItems.{CsvTable, tables_from}
use Rattle.kind_laws.specs.Kinded.{same_kinds, has_kind, is_test, is_rest, keys_compare, has_columns, calls_fit, is_table, all_as, are_united, kinded_node, is_well_kinded}
use Rattle.kind_laws.specs.Tables.{TablesHave, table_kinds, file_counts}
use Rattle.kind_laws.proofs.Bodies.{scan_gives, kinded_rolled, giving}
use Rattle.kind_laws.proofs.Files.{tables_fit, tables_counted}
use Rattle.answer_laws.specs.Meant.{files_of}
use Rattle.answer_laws.specs.Distincts.{distinct_node, has_distincts}
use Rattle.finished_laws.specs.Sound.{are_wide}
use Rattle.finished_laws.specs.Known.{is_kinded, known_node, is_known}

-- ---- scans

wide : (ks : List Kind) (rs : List Cells) → all_are ks rs ≡ true → are_wide (length ks) rs ≡ true
wide ks [] p = refl
wide ks (r ∷ rs) p =
    let b = and_parts (are_of ks r) (all_are ks rs) p in
    and_from (length r == length ks) (are_wide (length ks) rs) (eq-eqb (length r) (length ks) (length-are_of ks r b.0)) (wide ks rs b.1)

counted : (tables : Tables) (table : ℕ) → slice_index_or (map length tables) table 0 ≡ length (files_of tables table)
counted [] table = refl
counted (files ∷ tables) zero = refl
counted (files ∷ tables) (suc n) = counted tables n

module _ (kss : List (List Kind)) (tables : Tables) (have : TablesHave kss tables) (files : List ℕ) (count : files ≡ map length tables) where
  abbrev marked : Logical → Logical × Bool
  marked q = (q, is_well_kinded kss q)

  abbrev distinct : Logical → Logical × Bool
  distinct q = (q, has_distincts tables q)

  abbrev knows : Logical → Logical × Bool
  knows q = (q, is_known tables files q)

  distincts_rolled : (z : Logical-F Logical) → has_distincts tables (roll-Logical z) ≡ distinct_node tables (map-Logical Logical (Logical × Bool) distinct z)
  unfolding has_distincts
  distincts_rolled z = para-roll-Logical Bool (distinct_node tables) z

  known_rolled : (z : Logical-F Logical) → is_known tables files (roll-Logical z) ≡ known_node tables files (map-Logical Logical (Logical × Bool) knows z)
  unfolding is_known
  known_rolled z = para-roll-Logical Bool (known_node tables files) z

  abbrev IsMet : Logical → Type 0
  IsMet q = is_well_kinded kss q ≡ true → (has_distincts tables q ≡ true) × (is_known tables files q ≡ true)

  abbrev Met : Type 0
  Met = (q : Logical) × IsMet q

  level : (z : Logical-F Logical)
      → (kinded_node kss (map-Logical Logical (Logical × Bool) marked z) ≡ true
      → (distinct_node tables (map-Logical Logical (Logical × Bool) distinct z) ≡ true) × (known_node tables files (map-Logical Logical (Logical × Bool) knows z) ≡ true))
      → IsMet (roll-Logical z)
  level z h e = let b = h (sym (kinded_rolled kss tables have z) ∙ e) in (distincts_rolled z ∙ b.0, known_rolled z ∙ b.1)

  kinded : (q : Logical) → is_well_kinded kss q ≡ true → is_kinded (meant_part tables q) ≡ true
  kinded q e = ap (λ (ks : List Kind). all_are ks (rows (body tables q))) (kinds_at tables q) ∙ giving kss tables have q e

  many : (q : Logical) → nat_lt 0 (length (kinds q)) ≡ true → nat_lt 0 (length (meant_part tables q).kinds) ≡ true
  many q e = ap (λ (ks : List Kind). nat_lt 0 (length ks)) (kinds_at tables q) ∙ e

  scans : (table : ℕ) (ks : List Kind) → is_table (slice_get kss table) ks ≡ true → known_node tables files (Logical-F.Scan table ks) ≡ true
  scans table ks e =
      and_from (slice_index_or files table 0 == length (files_of tables table)) (are_wide (length ks) (rows (concat (files_of tables table))))
      (eq-eqb (slice_index_or files table 0) (length (files_of tables table)) (ap (λ ns. slice_index_or ns table 0) count ∙ counted tables table))
      (wide ks (rows (concat (files_of tables table))) (scan_gives kss tables have table ks e))

  abbrev bodies : List Met → List Logical
  bodies qs = map (λ (q : Met). q.0) qs

  abbrev second : List (Logical × Bool) → List Bool
  second = map (λ (q : Logical × Bool). q.1)

  abbrev AllMet : List Met → Type 0
  AllMet qs = (all_true (second (map distinct (bodies qs))) ≡ true) × (all_true (second (map knows (bodies qs))) ≡ true)

  one_more : (q : Met) (qs : List Met) → is_well_kinded kss q.0 ≡ true → AllMet qs → AllMet (q ∷ qs)
  one_more q qs e h =
      let b = q.1 e in
      (and_from (has_distincts tables q.0) (all_true (second (map distinct (bodies qs)))) b.0 h.0, and_from (is_known tables files q.0) (all_true (second (map knows (bodies qs)))) b.1 h.1)

  united : (ks : List Kind) (qs : List Met) → all_as ks (map marked (bodies qs)) ≡ true → AllMet qs
  united ks [] e = (refl, refl)
  united ks (q ∷ qs) e =
      let a = and_parts (is_well_kinded kss q.0) (same_kinds ks (kinds q.0) && all_as ks (map marked (bodies qs))) e in
      let b = and_parts (same_kinds ks (kinds q.0)) (all_as ks (map marked (bodies qs))) a.1 in
      one_more q qs a.0 (united ks qs b.1)

  unions : (qs : List Met) → are_united (map marked (bodies qs)) ≡ true → AllMet qs
  unions [] e = (refl, refl)
  unions (q ∷ qs) e =
      let a = and_parts (is_well_kinded kss q.0) (all_as (kinds q.0) (map marked (bodies qs))) e in
      one_more q qs a.0 (united (kinds q.0) qs a.1)

  step : (y : Logical-F Met) → IsMet (roll-Logical (map-Logical Met Logical (λ k. k.0) y))
  step (Logical-F.Scan table ks) = level (Logical-F.Scan table ks) (λ e. (refl, scans table ks e))
  step (Logical-F.Filter x test) = level (Logical-F.Filter x.0 test) (λ e. x.1 (and_parts (is_well_kinded kss x.0) (is_test (kinds x.0) test) e).0)
  step (Logical-F.Project x items) = level (Logical-F.Project x.0 items) (λ e. x.1 (and_parts (is_well_kinded kss x.0) (list_all (has_kind (kinds x.0)) items) e).0)
  step (Logical-F.Join kind x y keys rest) = level (Logical-F.Join kind x.0 y.0 keys rest) (λ e. (
      let fits = keys_compare (kinds x.0) (kinds y.0) keys && is_rest (kinds x.0 ++ kinds y.0) rest in
      let a = and_parts (is_well_kinded kss x.0) (is_well_kinded kss y.0 && fits) e in
      let l = x.1 a.0 in
      let r = y.1 (and_parts (is_well_kinded kss y.0) fits a.1).0 in
      (and_from (has_distincts tables x.0) (has_distincts tables y.0) l.0 r.0, and_from (is_known tables files x.0) (is_known tables files y.0) l.1 r.1)))
  step (Logical-F.Aggregate x keys calls) = level (Logical-F.Aggregate x.0 keys calls) (λ e. (
      let a = and_parts (is_well_kinded kss x.0) (has_columns (kinds x.0) keys && calls_fit (kinds x.0) calls) e in
      let b = x.1 a.0 in
      (b.0, and_from (is_known tables files x.0) (is_kinded (meant_part tables x.0)) b.1 (kinded x.0 a.0))))
  step (Logical-F.Distinct x) = level (Logical-F.Distinct x.0) (λ e. (
      let a = and_parts (is_well_kinded kss x.0) (nat_lt 0 (length (kinds x.0))) e in
      let b = x.1 a.0 in (
        and_from (has_distincts tables x.0) (nat_lt 0 (length (meant_part tables x.0).kinds) && is_kinded (meant_part tables x.0)) b.0
            (and_from (nat_lt 0 (length (meant_part tables x.0).kinds)) (is_kinded (meant_part tables x.0)) (many x.0 a.1) (kinded x.0 a.0)),
        b.1,
      )))
  step (Logical-F.UnionAll xs) = level (Logical-F.UnionAll (bodies xs)) (λ e. unions xs e)

  pub met : (q : Logical) → IsMet q
  met = ind-Logical IsMet (λ x y is. subst (λ z. IsMet (roll-Logical z)) is (step y))

-- over the tables that CSV files mean
pub csv_met : (all : Contents) (ts : List CsvTable) (q : Logical) → is_well_kinded (table_kinds ts) q ≡ true
    → (has_distincts (tables_from all 0 ts) q ≡ true) × (is_known (tables_from all 0 ts) (file_counts ts) q ≡ true)
csv_met all ts q e = met (table_kinds ts) (tables_from all 0 ts) (tables_fit all 0 ts) (file_counts ts) (sym (tables_counted all 0 ts)) q e
