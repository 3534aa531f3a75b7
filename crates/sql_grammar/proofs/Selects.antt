-- The rules of selects and of the query, by the laws of what they are built of.
use Rattle.std.proofs.Common.{◌≡◌, ℕ, suc, List, [], ◌∷◌, ◌++◌, true, false, inl, inr, refl, ap, ◌∙◌}
use Rattle.sql_grammar.specs.declared.class.Class.TheVariants as c
use Rattle.sql_grammar.specs.declared.ast.SelectAst.{SelectAst}
use Rattle.sql_grammar.specs.declared.ast.ItemAst.{ItemAst}
use Rattle.sql_grammar.specs.declared.ast.JoinAst.{JoinAst}
use Rattle.sql_grammar.specs.Class.{Tokens, starts}
use Rattle.sql_grammar.specs.Phrase.{Either, Inside}
use Rattle.sql_grammar.specs.Reader.{inside}
use Rattle.sql_grammar.specs.Grammar as p
use Rattle.sql_grammar.specs.Grammar.{Levels, Limits, one, names, sides}
use Rattle.sql_grammar.specs.Reading as r
use Rattle.sql_grammar.specs.Reading.{Readers, expr_first, item_first, called_first, join_first, called, whole_expr, all_item, all_of_item, one_item, named_item, all_of_ahead, select_item, table_name, nested, derived_table, from_of, inner_join, outer_join, plain_join, join_words, join_of, where_of, group_by, having_of, select, united, union_of, nulls_order, key, order_by, number}
use Rattle.sql_grammar.proofs.Classes.{starts-covers}
use Rattle.sql_grammar.proofs.Laws.{Laws, Sample, shaped, seq, alt, widen, word, terminal_laws, empty_laws}
use Rattle.sql_grammar.proofs.Turning.{repeated}
use Rattle.sql_grammar.proofs.Limiting.{nest, opt, list, paid, ahead_laws, sample_seq, sample_empty, sample_word}
use Rattle.sql_grammar.proofs.Clash.{clash, reads_all_of, no_name, yes_name, same_name}
use Rattle.sql_grammar.proofs.Rules.{whole_laws, called_laws, name_laws, expr_s, negation_s, unary_s, union_s, expr_on, item_on, from_first, select_on, union_on, key_on, wider}

no_start : (rest : Tokens) → starts [] rest ≡ false
no_start [] = refl
no_start (t ∷ rest) = refl

module _ (l : Limits) (d : ℕ) (L M : Levels) (f F : Readers)
    (e : (k : ℕ) → d ≡ suc k → Laws L.expr M.expr f.expr F.expr expr_s)
    (n : (k : ℕ) → d ≡ suc k → Laws L.negation M.negation f.negation F.negation negation_s)
    (u : (k : ℕ) → d ≡ suc k → Laws L.unary M.unary f.unary F.unary unary_s)
    (v : (k : ℕ) → d ≡ suc k → Laws L.union M.union f.union F.union union_s)
    (ex : (i : ℕ) → Sample M.expr i) (nx : (i : ℕ) → Sample M.negation i) (ux : (i : ℕ) → Sample M.unary i) (vx : (i : ℕ) → Sample M.union i) where
  abbrev w : Limits
  w = wider l

  expr_laws : Laws (p.Expr l d L) (p.Expr w (suc d) M) (r.whole_expr l d f) (r.whole_expr w (suc d) F) expr_s
  expr_laws = whole_laws l d L M f F e n u v ex nx ux vx

  all_laws : Laws (p.AllItem l d L) (p.AllItem w (suc d) M) (r.all_item l d f) (r.all_item w (suc d) F) (shaped (one c.Star) [] false)
  unfolding all_item
  all_laws = widen (seq (word c.Star refl) (λ t. empty_laws _) refl) (one c.Star) [] refl refl refl refl

  all_of_laws : Laws (p.AllOfItem l d L) (p.AllOfItem w (suc d) M) (r.all_of_item l d f) (r.all_of_item w (suc d) F) (shaped names [] false)
  unfolding all_of_item
  all_of_laws = widen (seq name_laws (λ t. seq (word c.Dot refl) (λ x. seq (word c.Star refl) (λ y. empty_laws _) refl) refl) refl) names [] refl refl refl refl

  one_laws : Laws (p.OneItem l d L) (p.OneItem w (suc d) M) (r.one_item l d f) (r.one_item w (suc d) F) (shaped expr_first item_on false)
  unfolding one_item
  one_laws = widen (seq expr_laws (λ x. seq (opt called_laws) (λ y. empty_laws _) refl) refl) expr_first item_on refl refl refl refl

  yes : (i m : ℕ) (a : ItemAst) (ts rest : Tokens) → p.AllOfItem l d L i a m ts → all_of_ahead (ts ++ rest) ≡ true
  yes i m a ts rest h =
      let x = h.right in
      let y = x.right in
      let is : ts ≡ h.first ∷ x.first ∷ y.first ∷ [] = h.is ∙ ap (λ z. z ++ h.back) h.left.0 ∙ ap (λ z. h.first ∷ z) (x.is ∙ ap (λ z. z ++ x.back) x.left.0 ∙ ap (λ z. x.first ∷ z) (y.is ∙ ap (λ z. z ++ y.back) y.left.0 ∙ ap (λ z. y.first ∷ z) y.right.0)) in
      rw is (yes_name h.first x.first y.first rest h.left.1 x.left.1 y.left.1)

  opens_so : (i m : ℕ) (a : ItemAst) (ts : Tokens) → p.AllOfItem l d L i a m ts → starts expr_first ts ≡ true
  opens_so i m a ts h = elim (all_of_laws.opens i m a ts h) [ inl k ↦ starts-covers names expr_first ts refl k | inr k ↦ absurd (cc) ]

  named_item_laws : Laws (Either (p.AllOfItem l d L) (p.OneItem l d L)) (Either (p.AllOfItem w (suc d) M) (p.OneItem w (suc d) M)) (r.named_item l d f) (r.named_item w (suc d) F) (shaped expr_first item_on false)
  unfolding named_item
  named_item_laws = ahead_laws _ _ _ _ _ _ _ _ (shaped names [] false) (shaped expr_first item_on false) all_of_laws one_laws all_of_ahead yes (reads_all_of l d f) (clash l d f) same_name no_name opens_so no_start refl refl

  item_laws : Laws (p.SelectItem l d L) (p.SelectItem w (suc d) M) (r.select_item l d f) (r.select_item w (suc d) F) (shaped item_first item_on false)
  unfolding select_item
  item_laws = widen (alt all_laws named_item_laws refl refl) item_first item_on refl refl refl refl

  table_laws : Laws (p.TableName l d L) (p.TableName w (suc d) M) (r.table_name l d f) (r.table_name w (suc d) F) (shaped names called_first false)
  unfolding table_name
  table_laws = widen (seq (paid l.tables 1 name_laws refl refl) (λ t. seq (opt called_laws) (λ y. empty_laws _) refl) refl) names called_first refl refl refl refl

  nested_laws : Laws (Inside d (p.Nested l d L)) (p.Nested w (suc d) M) (inside (one c.Open) d (r.nested l d f)) (r.nested w (suc d) F) (shaped (one c.Open) [] false)
  unfolding nested
  nested_laws = nest _ _ _ _ c.Open [] d refl (λ t. sample_seq vx (λ x. sample_seq (sample_word (one c.Close) c.Close refl) (λ z. sample_empty _)))
      (λ k is. widen (seq (word c.Open refl) (λ t. seq (v k is) (λ x. seq (word c.Close refl) (λ z. empty_laws _) refl) refl) refl) (one c.Open) [] refl refl refl refl)

  derived_laws : Laws (p.DerivedTable l d L) (p.DerivedTable w (suc d) M) (r.derived_table l d f) (r.derived_table w (suc d) F) (shaped (one c.Open) [] false)
  unfolding derived_table
  derived_laws = widen (seq nested_laws (λ x. seq called_laws (λ y. empty_laws _) refl) refl) (one c.Open) [] refl refl refl refl

  from_laws : Laws (p.From l d L) (p.From w (suc d) M) (r.from_of l d f) (r.from_of w (suc d) F) (shaped from_first called_first false)
  unfolding from_of
  from_laws = widen (alt derived_laws table_laws refl refl) from_first called_first refl refl refl refl

  inner_laws : Laws (p.InnerJoin l d L) (p.InnerJoin w (suc d) M) (r.inner_join l d f) (r.inner_join w (suc d) F) (shaped (one c.Inner) [] false)
  unfolding inner_join
  inner_laws = widen (seq (word c.Inner refl) (λ t. seq (word c.Join refl) (λ y. empty_laws _) refl) refl) (one c.Inner) [] refl refl refl refl

  outer_laws : Laws (p.OuterJoin l d L) (p.OuterJoin w (suc d) M) (r.outer_join l d f) (r.outer_join w (suc d) F) (shaped sides [] false)
  unfolding outer_join
  outer_laws = widen (seq (terminal_laws sides c.Left refl) (λ t. seq (opt (word c.Outer refl)) (λ o. seq (word c.Join refl) (λ y. empty_laws _) refl) refl) refl) sides [] refl refl refl refl

  plain_laws : Laws (p.PlainJoin l d L) (p.PlainJoin w (suc d) M) (r.plain_join l d f) (r.plain_join w (suc d) F) (shaped (one c.Join) [] false)
  unfolding plain_join
  plain_laws = widen (seq (word c.Join refl) (λ y. empty_laws _) refl) (one c.Join) [] refl refl refl refl

  words_laws : Laws (p.JoinWords l d L) (p.JoinWords w (suc d) M) (r.join_words l d f) (r.join_words w (suc d) F) (shaped join_first [] false)
  unfolding join_words
  words_laws = widen (alt inner_laws (alt outer_laws plain_laws refl refl) refl refl) join_first [] refl refl refl refl

  join_laws : (x : List JoinAst) → Laws (p.Join l d L x) (p.Join w (suc d) M x) (r.join_of l d f x) (r.join_of w (suc d) F x) (shaped join_first expr_on false)
  unfolding join_of
  join_laws x = widen (seq words_laws (λ k. seq from_laws (λ y. seq (word c.On refl) (λ o. seq expr_laws (λ z. empty_laws _) refl) refl) refl) refl) join_first expr_on refl refl refl refl

  where_laws : Laws (p.Where l d L) (p.Where w (suc d) M) (r.where_of l d f) (r.where_of w (suc d) F) (shaped (one c.Where) expr_on false)
  unfolding where_of
  where_laws = widen (seq (word c.Where refl) (λ t. expr_laws) refl) (one c.Where) expr_on refl refl refl refl

  group_laws : Laws (p.GroupBy l d L) (p.GroupBy w (suc d) M) (r.group_by l d f) (r.group_by w (suc d) F) (shaped (one c.Group) (c.Comma ∷ expr_on) false)
  unfolding group_by
  group_laws = widen (seq (word c.Group refl) (λ t. seq (word c.By refl) (λ y. list expr_laws refl l.more) refl) refl) (one c.Group) (c.Comma ∷ expr_on) refl refl refl refl

  having_laws : Laws (p.Having l d L) (p.Having w (suc d) M) (r.having_of l d f) (r.having_of w (suc d) F) (shaped (one c.Having) expr_on false)
  unfolding having_of
  having_laws = widen (seq (word c.Having refl) (λ t. expr_laws) refl) (one c.Having) expr_on refl refl refl refl

  select_laws : Laws (p.Select l d L) (p.Select w (suc d) M) (r.select l d f) (r.select w (suc d) F) (shaped (one c.Select) select_on false)
  unfolding select
  select_laws =
      widen (seq (word c.Select refl) (λ x1. seq (opt (word c.Distinct refl)) (λ x2. seq (list item_laws refl l.more) (λ x3. seq (word c.From refl) (λ x4. seq from_laws (λ x5. seq (repeated join_laws refl refl []) (λ x6.
      seq (opt where_laws) (λ x7. seq (opt group_laws) (λ x8. seq (opt having_laws) (λ x9. empty_laws _) refl) refl) refl) refl) refl) refl) refl) refl) refl) (one c.Select) select_on refl refl refl refl

  united_laws : (x : List SelectAst) → Laws (p.United l d L x) (p.United w (suc d) M x) (r.united l d f x) (r.united w (suc d) F x) (shaped (one c.Union) select_on false)
  unfolding united
  united_laws x = widen (seq (word c.Union refl) (λ t. seq (word c.All refl) (λ y. seq select_laws (λ z. empty_laws _) refl) refl) refl) (one c.Union) select_on refl refl refl refl

  pub union_laws : Laws (p.Union l d L) (p.Union w (suc d) M) (r.union_of l d f) (r.union_of w (suc d) F) union_s
  unfolding union_of
  union_laws = widen (seq select_laws (λ x. repeated united_laws refl refl (x ∷ [])) refl) (one c.Select) union_on refl refl refl refl

  nulls_laws : Laws (p.NullsOrder l d L) (p.NullsOrder w (suc d) M) (r.nulls_order l d f) (r.nulls_order w (suc d) F) (shaped (one c.Nulls) [] false)
  unfolding nulls_order
  nulls_laws = widen (seq (word c.Nulls refl) (λ t. terminal_laws (c.First ∷ c.Last ∷ []) c.First refl) refl) (one c.Nulls) [] refl refl refl refl

  key_laws : Laws (p.Key l d L) (p.Key w (suc d) M) (r.key l d f) (r.key w (suc d) F) (shaped expr_first key_on false)
  unfolding key
  key_laws = widen (seq expr_laws (λ x. seq (opt (terminal_laws (c.Asc ∷ c.Desc ∷ []) c.Asc refl)) (λ y. seq (opt nulls_laws) (λ z. empty_laws _) refl) refl) refl) expr_first key_on refl refl refl refl

  pub order_laws : Laws (p.OrderBy l d L) (p.OrderBy w (suc d) M) (r.order_by l d f) (r.order_by w (suc d) F) (shaped (one c.Order) (c.Comma ∷ key_on) false)
  unfolding order_by
  order_laws = widen (seq (word c.Order refl) (λ t. seq (word c.By refl) (λ y. list key_laws refl l.more) refl) refl) (one c.Order) (c.Comma ∷ key_on) refl refl refl refl

  pub limit_laws : Laws (p.Number l d L c.Limit) (p.Number w (suc d) M c.Limit) (r.number l d f c.Limit) (r.number w (suc d) F c.Limit) (shaped (one c.Limit) [] false)
  unfolding number
  limit_laws = widen (seq (word c.Limit refl) (λ t. seq (word c.Number refl) (λ y. empty_laws _) refl) refl) (one c.Limit) [] refl refl refl refl

  pub offset_laws : Laws (p.Number l d L c.Offset) (p.Number w (suc d) M c.Offset) (r.number l d f c.Offset) (r.number w (suc d) F c.Offset) (shaped (one c.Offset) [] false)
  unfolding number
  offset_laws = widen (seq (word c.Offset refl) (λ t. seq (word c.Number refl) (λ y. empty_laws _) refl) refl) (one c.Offset) [] refl refl refl refl
