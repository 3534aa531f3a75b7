-- The levels of nesting, one after another, and whole scripts.
use Rattle.std.proofs.Common.{◌≡◌, ℕ, zero, suc, List, [], ◌∷◌, ◌++◌, false, None, refl}
use Rattle.sql_grammar.specs.declared.class.Class.TheVariants as c
use Rattle.sql_grammar.specs.declared.ast.TableAst.{TableAst}
use Rattle.sql_grammar.specs.Phrase.{Never}
use Rattle.sql_grammar.specs.Reader.{over, too_many}
use Rattle.sql_grammar.specs.Grammar as p
use Rattle.sql_grammar.specs.Grammar.{Levels, Limits, under, level, nowhere, constants, names, one, limits, beyond, ScriptWithin, ScriptAt}
use Rattle.sql_grammar.specs.Reading.{under as under_read, reading, none_below, disjunction, negation_of, unary_of, union_of, order_by, number, declared, script_within, script_at}
use Rattle.sql_grammar.proofs.Laws.{Laws, Sample, Shape, shaped, seq, widen, word, empty_laws, over_laws, many_differs}
use Rattle.sql_grammar.proofs.Limiting.{opt, up_to_laws, sample_seq, sample_empty, sample_word, sample_turns, sample_left, sample_right, sample_paid, sample_list, sample_count}
use Rattle.sql_grammar.proofs.Rules.{expr_laws, negation_laws, unary_laws, declared_laws, expr_s, negation_s, unary_s, union_s, key_on, union_on, wider}
use Rattle.sql_grammar.proofs.Selects.{union_laws, order_laws, limit_laws, offset_laws}

module _ (l : Limits) (d : ℕ) (L : Levels) where
  prim_sample : (i : ℕ) → Sample (p.Prim l d L) i
  prim_sample = sample_right _ (sample_right _ (sample_right _ (sample_right _ (sample_left _ (sample_seq (sample_word constants c.Null refl) (λ t. sample_empty _))))))

  unary_sample : (i : ℕ) → Sample (p.Unary l d L) i
  unary_sample = sample_right _ prim_sample

  sum_sample : (i : ℕ) → Sample (p.Sum l d L) i
  sum_sample = sample_seq (sample_seq unary_sample (λ x. sample_turns _ x)) (λ x. sample_turns _ x)

  test_sample : (i : ℕ) → Sample (p.Test l d L) i
  test_sample = sample_seq sample_count (λ b. sample_seq sum_sample (λ x. sample_seq sample_count (λ a. sample_right _ (sample_right _ (sample_right _ (sample_empty x))))))

  negation_sample : (i : ℕ) → Sample (p.Negation l d L) i
  negation_sample = sample_right _ test_sample

  expr_sample : (i : ℕ) → Sample (p.Disjunction l d L) i
  expr_sample = sample_seq (sample_seq negation_sample (λ x. sample_turns _ x)) (λ x. sample_turns _ x)

module _ (l : Limits) (d : ℕ) (L : Levels) where
  item_sample : (i : ℕ) → Sample (p.SelectItem (wider l) d L) i
  item_sample = sample_left _ (sample_seq (sample_word (one c.Star) c.Star refl) (λ t. sample_empty _))

  from_sample : (i : ℕ) → Sample (p.From (wider l) d L) i
  from_sample = sample_right _ (sample_seq (sample_paid 1 (sample_word names c.Name refl)) (λ t. sample_seq (sample_right _ (sample_empty None)) (λ a. sample_empty _)))

  select_sample : (i : ℕ) → Sample (p.Select (wider l) d L) i
  select_sample =
      sample_seq (sample_word (one c.Select) c.Select refl) (λ x1. sample_seq (sample_right _ (sample_empty None)) (λ x2. sample_seq (sample_list l.more item_sample) (λ x3. sample_seq (sample_word (one c.From) c.From refl) (λ x4. sample_seq from_sample (λ x5.
      sample_seq (sample_turns _ []) (λ x6. sample_seq (sample_right _ (sample_empty None)) (λ x7. sample_seq (sample_right _ (sample_empty None)) (λ x8. sample_seq (sample_right _ (sample_empty None)) (λ x9. sample_empty _)))))))))

  union_sample : (i : ℕ) → Sample (p.Union (wider l) d L) i
  union_sample = sample_seq select_sample (λ x. sample_turns _ (x ∷ []))

pub record LevelLaws (l : Limits) (d : ℕ) : Type 0 where
  pub expr : Laws (p.Disjunction l d (under l d)) (p.Disjunction (wider l) (suc d) (under (wider l) (suc d))) (disjunction l d (under_read l d)) (disjunction (wider l) (suc d) (under_read (wider l) (suc d))) expr_s
  pub negation : Laws (p.Negation l d (under l d)) (p.Negation (wider l) (suc d) (under (wider l) (suc d))) (negation_of l d (under_read l d)) (negation_of (wider l) (suc d) (under_read (wider l) (suc d))) negation_s
  pub unary : Laws (p.Unary l d (under l d)) (p.Unary (wider l) (suc d) (under (wider l) (suc d))) (unary_of l d (under_read l d)) (unary_of (wider l) (suc d) (under_read (wider l) (suc d))) unary_s
  pub union : Laws (p.Union l d (under l d)) (p.Union (wider l) (suc d) (under (wider l) (suc d))) (union_of l d (under_read l d)) (union_of (wider l) (suc d) (under_read (wider l) (suc d))) union_s
  pub order : Laws (p.OrderBy l d (under l d)) (p.OrderBy (wider l) (suc d) (under (wider l) (suc d))) (order_by l d (under_read l d)) (order_by (wider l) (suc d) (under_read (wider l) (suc d))) (shaped (one c.Order) (c.Comma ∷ key_on) false)
  pub limit : Laws (p.Number l d (under l d) c.Limit) (p.Number (wider l) (suc d) (under (wider l) (suc d)) c.Limit) (number l d (under_read l d) c.Limit) (number (wider l) (suc d) (under_read (wider l) (suc d)) c.Limit) (shaped (one c.Limit) [] false)
  pub offset : Laws (p.Number l d (under l d) c.Offset) (p.Number (wider l) (suc d) (under (wider l) (suc d)) c.Offset) (number l d (under_read l d) c.Offset) (number (wider l) (suc d) (under_read (wider l) (suc d)) c.Offset) (shaped (one c.Offset) [] false)

absent : {B : Type 0} (k : ℕ) → zero ≡ suc k → B
absent k e = absurd (cc)

module _ (l : Limits) where
  abbrev w : Limits
  w = wider l

  pub level_laws : (d : ℕ) → LevelLaws l d
  unfolding under under_read
  level_laws zero =
      let M = level w zero nowhere in
      let F = reading w zero none_below in
      record {
        expr = expr_laws l zero nowhere M none_below F (λ k e. absent k e) (λ k e. absent k e) (λ k e. absent k e) (λ k e. absent k e) (expr_sample w zero nowhere) (negation_sample w zero nowhere) (unary_sample w zero nowhere) (union_sample l zero nowhere);
        negation = negation_laws l zero nowhere M none_below F (λ k e. absent k e) (λ k e. absent k e) (λ k e. absent k e) (λ k e. absent k e) (expr_sample w zero nowhere) (negation_sample w zero nowhere) (unary_sample w zero nowhere) (union_sample l zero nowhere);
        unary = unary_laws l zero nowhere M none_below F (λ k e. absent k e) (λ k e. absent k e) (λ k e. absent k e) (λ k e. absent k e) (expr_sample w zero nowhere) (negation_sample w zero nowhere) (unary_sample w zero nowhere) (union_sample l zero nowhere);
        union = union_laws l zero nowhere M none_below F (λ k e. absent k e) (λ k e. absent k e) (λ k e. absent k e) (λ k e. absent k e) (expr_sample w zero nowhere) (negation_sample w zero nowhere) (unary_sample w zero nowhere) (union_sample l zero nowhere);
        order = order_laws l zero nowhere M none_below F (λ k e. absent k e) (λ k e. absent k e) (λ k e. absent k e) (λ k e. absent k e) (expr_sample w zero nowhere) (negation_sample w zero nowhere) (unary_sample w zero nowhere) (union_sample l zero nowhere);
        limit = limit_laws l zero nowhere M none_below F (λ k e. absent k e) (λ k e. absent k e) (λ k e. absent k e) (λ k e. absent k e) (expr_sample w zero nowhere) (negation_sample w zero nowhere) (unary_sample w zero nowhere) (union_sample l zero nowhere);
        offset = offset_laws l zero nowhere M none_below F (λ k e. absent k e) (λ k e. absent k e) (λ k e. absent k e) (λ k e. absent k e) (expr_sample w zero nowhere) (negation_sample w zero nowhere) (unary_sample w zero nowhere) (union_sample l zero nowhere);
      }
  level_laws (suc d) =
      let b = level_laws d in
      let L = under l (suc d) in
      let N = under w (suc d) in
      let M = under w (suc (suc d)) in
      let f = under_read l (suc d) in
      let F = under_read w (suc (suc d)) in
      record {
        expr = expr_laws l (suc d) L M f F (λ k e. b.expr) (λ k e. b.negation) (λ k e. b.unary) (λ k e. b.union) (expr_sample w (suc d) N) (negation_sample w (suc d) N) (unary_sample w (suc d) N) (union_sample l (suc d) N);
        negation = negation_laws l (suc d) L M f F (λ k e. b.expr) (λ k e. b.negation) (λ k e. b.unary) (λ k e. b.union) (expr_sample w (suc d) N) (negation_sample w (suc d) N) (unary_sample w (suc d) N) (union_sample l (suc d) N);
        unary = unary_laws l (suc d) L M f F (λ k e. b.expr) (λ k e. b.negation) (λ k e. b.unary) (λ k e. b.union) (expr_sample w (suc d) N) (negation_sample w (suc d) N) (unary_sample w (suc d) N) (union_sample l (suc d) N);
        union = union_laws l (suc d) L M f F (λ k e. b.expr) (λ k e. b.negation) (λ k e. b.unary) (λ k e. b.union) (expr_sample w (suc d) N) (negation_sample w (suc d) N) (unary_sample w (suc d) N) (union_sample l (suc d) N);
        order = order_laws l (suc d) L M f F (λ k e. b.expr) (λ k e. b.negation) (λ k e. b.unary) (λ k e. b.union) (expr_sample w (suc d) N) (negation_sample w (suc d) N) (unary_sample w (suc d) N) (union_sample l (suc d) N);
        limit = limit_laws l (suc d) L M f F (λ k e. b.expr) (λ k e. b.negation) (λ k e. b.unary) (λ k e. b.union) (expr_sample w (suc d) N) (negation_sample w (suc d) N) (unary_sample w (suc d) N) (union_sample l (suc d) N);
        offset = offset_laws l (suc d) L M f F (λ k e. b.expr) (λ k e. b.negation) (λ k e. b.unary) (λ k e. b.union) (expr_sample w (suc d) N) (negation_sample w (suc d) N) (unary_sample w (suc d) N) (union_sample l (suc d) N);
      }

-- ---- scripts

abbrev pub script_s : Shape
script_s = shaped (c.Create ∷ c.Select ∷ []) (c.Semicolon ∷ c.Limit ∷ c.Offset ∷ c.Order ∷ c.Comma ∷ key_on ++ union_on) false

module _ (l : Limits) (tables d : ℕ) where
  create_over : (x : List TableAst) → Laws Never (p.Declared (suc l.more) x) (over too_many (one c.Create)) (declared (suc l.more) x) (shaped (one c.Create) [] false)
  create_over x = let q = declared_laws l.more x in over_laws (p.Declared (suc l.more) x) (declared (suc l.more) x) (one c.Create) [] (q.takes refl) q.sample q.rests too_many many_differs

  pub within_laws : Laws (ScriptWithin l tables d) (ScriptWithin (wider l) (suc tables) (suc d)) (script_within l tables d) (script_within (wider l) (suc tables) (suc d)) script_s
  unfolding script_within
  within_laws =
      let b = level_laws l d in
      widen (seq (up_to_laws (p.Declared l.more) (p.Declared (suc l.more)) (declared l.more) (declared (suc l.more)) (over too_many (one c.Create)) c.Create [] (declared_laws l.more) create_over refl tables []) (λ x1. seq b.union (λ x2. seq (opt b.order) (λ x3.
      seq (opt b.limit) (λ x4. seq (opt b.offset) (λ x5. seq (opt (word c.Semicolon refl)) (λ x6. empty_laws _) refl) refl) refl) refl) refl) refl) (c.Create ∷ c.Select ∷ []) (c.Semicolon ∷ c.Limit ∷ c.Offset ∷ c.Order ∷ c.Comma ∷ key_on ++ union_on) refl refl refl refl

pub script_laws : (k : ℕ) → Laws (ScriptAt k) (ScriptAt (suc k)) (script_at k) (script_at (suc k)) script_s
script_laws zero = within_laws (limits zero) 64 64
script_laws (suc k) = within_laws (limits (suc k)) (beyond (suc k) 64) (beyond (suc k) 64)
