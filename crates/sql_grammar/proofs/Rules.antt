-- Each rule of the grammar, by the laws of what it is built of.
use Rattle.std.proofs.Common.{◌≡◌, ℕ, suc, ◌+◌, ◌-◌, List, [], ◌∷◌, ◌++◌, Bool, true, false, ◌&&◌, Option, None, refl, arith}
use Rattle.std.specs.Prelude.{nat_le}
use Rattle.sql_grammar.specs.declared.class.Class.{Class}
use Rattle.sql_grammar.specs.declared.class.Class.TheVariants as c
use Rattle.sql_grammar.specs.declared.ast.ExprAst.{ExprAst}
use Rattle.sql_grammar.specs.declared.ast.TableAst.{TableAst}
use Rattle.sql_grammar.specs.Class.{Token, among}
use Rattle.sql_grammar.specs.Phrase.{Terminal, Empty, Either, Inside}
use Rattle.sql_grammar.specs.Reader.{terminal, inside}
use Rattle.sql_grammar.specs.Trees.{is_within, small}
use Rattle.sql_grammar.specs.Grammar as p
use Rattle.sql_grammar.specs.Grammar.{Levels, Limits, Calls, no_call, one_argument, counts, calls, one, constants, names, additive, multiplicative, comparing, tests, simple_types, sides, forms}
use Rattle.sql_grammar.specs.Reading as r
use Rattle.sql_grammar.specs.Reading.{Readers, prim_first, unary_first, expr_first, item_first, called_first, join_first, number_from, decimal, simple_type, type_name, called, column, setting, header_row, columns_of, settings, create, declared, parenthesized, arm, other, case_of, converted, cast, arguments, coalesce, qualified, bare, call, argument, count_all, star_or, counted, plain, after, named, constant, prim, negative, unary_of, operation, product_of, sum_of, is_null, member, members, among_of, between_of, within, suffix, test_of, negated, negation_of, conjunction, disjunction, whole_expr, all_item, all_of_item, one_item, named_item, select_item, table_name, nested, derived_table, from_of, inner_join, outer_join, plain_join, join_words, join_of, where_of, group_by, having_of, select, united, union_of, nulls_order, key, order_by, number}
use Rattle.sql_grammar.proofs.Laws.{Laws, Shape, Sample, shaped, loosely, seq, alt, widen, loosen, word, terminal_laws, matching_laws, empty_laws, count_laws}
use Rattle.sql_grammar.proofs.Turning.{repeated}
use Rattle.sql_grammar.proofs.Limiting.{nest, opt, list, paid, own, listing_laws, sample_seq, sample_empty, sample_word, sample_turns, sample_right, sample_paid, sample_no_more, sample_list}

-- ---- types

number_token : ℕ → Token
number_token b = record { class = c.Number; text = b ∷ []; place = 0 }

both_left : (a b : Bool) → (a && b) ≡ true → a ≡ true
both_left true b e = refl
both_left false b e = absurd (cc)

abbrev number_s : Shape
number_s = record { first = one c.Number; goes_on = []; empty = false; exact = false }

number_laws : (least most : ℕ) (b : ℕ) → is_within least most (small 0 (b ∷ [])) ≡ true → Laws (p.NumberFrom least most) (p.NumberFrom least most) (r.number_from least most) (r.number_from least most) number_s
unfolding number_from
number_laws least most b h =
    loosen (seq (matching_laws (λ t. among t.class (one c.Number) && is_within least most (small 0 t.text)) (one c.Number) (λ t h. both_left _ _ h) (record { class = c.Number; text = b ∷ []; place = 0 }) h false (λ h. absurd (cc))) (λ t. empty_laws _) refl) (one c.Number) [] refl refl

scale_laws : (n : ℕ) → Laws (p.NumberFrom 0 n) (p.NumberFrom 0 n) (r.number_from 0 n) (r.number_from 0 n) number_s
scale_laws n = let h : nat_le 0 n ≡ true = grind arith in number_laws 0 n 48 (rw h refl)

decimal_laws : Laws p.Decimal p.Decimal decimal decimal (shaped (one c.DecimalType) [] false)
unfolding decimal
decimal_laws = widen (seq (word c.DecimalType refl) (λ w. seq (word c.Open refl) (λ o. seq (number_laws 1 38 49 refl) (λ x. seq (word c.Comma refl) (λ k. seq (scale_laws _) (λ y. seq (word c.Close refl) (λ z. empty_laws _) refl) refl) refl) refl) refl) refl) (one c.DecimalType) [] refl refl refl refl

simple_laws : Laws p.SimpleType p.SimpleType simple_type simple_type (shaped simple_types [] false)
unfolding simple_type
simple_laws = widen (seq (terminal_laws simple_types c.IntType refl) (λ t. empty_laws _) refl) simple_types [] refl refl refl refl

pub type_laws : Laws p.TypeName p.TypeName type_name type_name (shaped (simple_types ++ c.DecimalType ∷ []) [] false)
unfolding type_name
type_laws = widen (alt simple_laws decimal_laws refl refl) (simple_types ++ c.DecimalType ∷ []) [] refl refl refl refl

-- ---- names

pub name_laws : Laws (Terminal names) (Terminal names) (terminal names) (terminal names) (shaped names [] false)
name_laws = terminal_laws names c.Name refl

pub called_laws : Laws p.Called p.Called called called (shaped called_first [] false)
unfolding called
called_laws = widen (alt (seq (word c.As refl) (λ t. name_laws) refl) name_laws refl refl) called_first [] refl refl refl refl

-- ---- tables

column_laws : Laws p.Column p.Column column column (shaped names [] false)
unfolding column
column_laws = widen (seq name_laws (λ t. seq type_laws (λ k. empty_laws _) refl) refl) names [] refl refl refl refl

setting_laws : Laws p.Setting p.Setting setting setting (shaped (one c.Str) [] false)
unfolding setting
setting_laws = widen (seq (word c.Str refl) (λ t. seq (word c.Str refl) (λ k. empty_laws _) refl) refl) (one c.Str) [] refl refl refl refl

header_laws : Laws p.HeaderRow p.HeaderRow header_row header_row (shaped (one c.With) [] false)
unfolding header_row
header_laws = widen (seq (word c.With refl) (λ t. seq (word c.Header refl) (λ k. word c.Row refl) refl) refl) (one c.With) [] refl refl refl refl

columns_laws : (k : ℕ) → Laws (p.Enclosed k p.Column) (p.Enclosed (suc k) p.Column) (columns_of k) (columns_of (suc k)) (shaped (one c.Open) [] false)
unfolding columns_of
columns_laws k = widen (seq (word c.Open refl) (λ o. seq (list column_laws refl k) (λ x. seq (word c.Close refl) (λ z. empty_laws _) refl) refl) refl) (one c.Open) [] refl refl refl refl

settings_laws : (k : ℕ) → Laws (p.Settings k) (p.Settings (suc k)) (settings k) (settings (suc k)) (shaped (one c.Options) [] false)
unfolding settings
settings_laws k = widen (seq (word c.Options refl) (λ t. seq (word c.Open refl) (λ o. seq (list setting_laws refl k) (λ x. seq (word c.Close refl) (λ z. empty_laws _) refl) refl) refl) refl) (one c.Options) [] refl refl refl refl

create_laws : (k : ℕ) → Laws (p.Create k) (p.Create (suc k)) (create k) (create (suc k)) (shaped (one c.Create) (one c.Options) false)
unfolding create
create_laws k =
    widen (seq (word c.Create refl) (λ x1. seq (word c.External refl) (λ x2. seq (word c.Table refl) (λ x3. seq name_laws (λ x4. seq (opt (columns_laws k)) (λ x5. seq (word c.Stored refl) (λ x6. seq (word c.As refl) (λ x7.
    seq (terminal_laws forms c.Csv refl) (λ x8. seq (opt header_laws) (λ x9. seq (word c.Location refl) (λ x10. seq (word c.Str refl) (λ x11. seq (opt (settings_laws k)) (λ x12. empty_laws _)
    refl) refl) refl) refl) refl) refl) refl) refl) refl) refl) refl) refl) (one c.Create) (one c.Options) refl refl refl refl

pub declared_laws : (k : ℕ) (x : List TableAst) → Laws (p.Declared k x) (p.Declared (suc k) x) (declared k x) (declared (suc k) x) (shaped (one c.Create) [] false)
unfolding declared
declared_laws k x = widen (seq (create_laws k) (λ t. seq (word c.Semicolon refl) (λ z. empty_laws _) refl) refl) (one c.Create) [] refl refl refl refl

-- ---- what each may go on with

abbrev pub prim_on : List Class
prim_on = c.Open ∷ c.Dot ∷ []

abbrev pub product_on : List Class
product_on = multiplicative ++ prim_on

abbrev pub sum_on : List Class
sum_on = additive ++ product_on

abbrev pub test_on : List Class
test_on = c.Is ∷ comparing ++ tests ++ sum_on

abbrev pub and_on : List Class
and_on = c.And ∷ test_on

abbrev pub expr_on : List Class
expr_on = c.Or ∷ and_on

abbrev pub item_on : List Class
item_on = called_first ++ expr_on

abbrev pub from_first : List Class
from_first = c.Open ∷ names

abbrev pub select_on : List Class
select_on = called_first ++ join_first ++ c.Where ∷ c.Group ∷ c.Comma ∷ c.Having ∷ expr_on

abbrev pub union_on : List Class
union_on = c.Union ∷ select_on

abbrev pub key_on : List Class
key_on = c.Asc ∷ c.Desc ∷ c.Nulls ∷ expr_on

abbrev pub expr_s : Shape
expr_s = shaped expr_first expr_on false

abbrev pub negation_s : Shape
negation_s = shaped expr_first test_on false

abbrev pub unary_s : Shape
unary_s = shaped unary_first prim_on false

abbrev pub union_s : Shape
union_s = shaped (one c.Select) union_on false

-- wider limits
abbrev pub wider : Limits → Limits
wider l = record { operators = None; tables = None; more = suc l.more }

-- ---- rules

module _ (l : Limits) (d : ℕ) (L M : Levels) (f F : Readers)
    (e : (k : ℕ) → d ≡ suc k → Laws L.expr M.expr f.expr F.expr expr_s)
    (n : (k : ℕ) → d ≡ suc k → Laws L.negation M.negation f.negation F.negation negation_s)
    (u : (k : ℕ) → d ≡ suc k → Laws L.unary M.unary f.unary F.unary unary_s)
    (v : (k : ℕ) → d ≡ suc k → Laws L.union M.union f.union F.union union_s)
    (ex : (i : ℕ) → Sample M.expr i) (nx : (i : ℕ) → Sample M.negation i) (ux : (i : ℕ) → Sample M.unary i) (vx : (i : ℕ) → Sample M.union i) where
  abbrev w : Limits
  w = wider l

  paren_laws : Laws (Inside d (p.Parenthesized l d L)) (p.Parenthesized w (suc d) M) (inside (one c.Open) d (r.parenthesized l d f)) (r.parenthesized w (suc d) F) (shaped (one c.Open) [] false)
  unfolding parenthesized
  paren_laws = nest _ _ _ _ c.Open [] d refl (λ t. sample_seq ex (λ x. sample_seq (sample_word (one c.Close) c.Close refl) (λ z. sample_empty x)))
      (λ k is. widen (seq (word c.Open refl) (λ o. seq (e k is) (λ x. seq (word c.Close refl) (λ z. empty_laws x) refl) refl) refl) (one c.Open) [] refl refl refl refl)

  arm_laws : (k : ℕ) → d ≡ suc k → (x : List (ExprAst × ExprAst)) → Laws (p.Arm l d L x) (p.Arm w (suc d) M x) (r.arm l d f x) (r.arm w (suc d) F x) (shaped (one c.When) expr_on false)
  unfolding arm
  arm_laws k is x = widen (seq (word c.When refl) (λ w. seq (e k is) (λ x. seq (word c.Then refl) (λ t. seq (e k is) (λ y. empty_laws _) refl) refl) refl) refl) (one c.When) expr_on refl refl refl refl

  other_laws : (k : ℕ) → d ≡ suc k → Laws (p.Other l d L) (p.Other w (suc d) M) (r.other l d f) (r.other w (suc d) F) (shaped (one c.Else) expr_on false)
  unfolding other
  other_laws k is = widen (seq (word c.Else refl) (λ w. e k is) refl) (one c.Else) expr_on refl refl refl refl

  arm_sample : (x : List (ExprAst × ExprAst)) (i : ℕ) → Sample (p.Arm w (suc d) M x) i
  arm_sample x = sample_seq (sample_word (one c.When) c.When refl) (λ w. sample_seq ex (λ x. sample_seq (sample_word (one c.Then) c.Then refl) (λ t. sample_seq ex (λ y. sample_empty _))))

  case_laws : Laws (Inside d (p.Case l d L)) (p.Case w (suc d) M) (inside (one c.Case) d (r.case_of l d f)) (r.case_of w (suc d) F) (shaped (one c.Case) [] false)
  unfolding case_of
  case_laws = nest _ _ _ _ c.Case [] d refl (λ t. sample_seq (arm_sample []) (λ a. sample_seq (sample_turns _ a) (λ m. sample_seq (sample_right _ (sample_empty _)) (λ o. sample_seq (sample_word (one c.End) c.End refl) (λ z. sample_empty _)))))
      (λ k is. widen (seq (word c.Case refl) (λ w. seq (arm_laws k is []) (λ a. seq (repeated (arm_laws k is) refl refl a) (λ m. seq (opt (other_laws k is)) (λ o. seq (word c.End refl) (λ z. empty_laws _) refl) refl) refl) refl) refl) (one c.Case) [] refl refl refl refl)

  converted_laws : (t : Token) → Laws (Inside d (p.Converted l d L t)) (p.Converted w (suc d) M t) (inside (one c.Open) d (r.converted l d f t)) (r.converted w (suc d) F t) (shaped (one c.Open) [] false)
  unfolding converted
  converted_laws t = nest _ _ _ _ c.Open [] d refl (λ o. sample_seq ex (λ x. sample_seq (sample_word (one c.As) c.As refl) (λ z. sample_seq type_laws.sample (λ k. sample_seq (sample_word (one c.Close) c.Close refl) (λ y. sample_empty _)))))
      (λ k is. widen (seq (word c.Open refl) (λ o. seq (e k is) (λ x. seq (word c.As refl) (λ z. seq type_laws (λ k. seq (word c.Close refl) (λ y. empty_laws _) refl) refl) refl) refl) refl) (one c.Open) [] refl refl refl refl)

  cast_laws : Laws (p.Cast l d L) (p.Cast w (suc d) M) (r.cast l d f) (r.cast w (suc d) F) (shaped (one c.Cast) [] false)
  unfolding cast
  cast_laws = widen (seq (word c.Cast refl) (λ t. converted_laws t) refl) (one c.Cast) [] refl refl refl refl

  arguments_laws : Laws (Inside d (p.Enclosed l.more L.expr)) (p.Enclosed (suc l.more) M.expr) (inside (one c.Open) d (r.arguments l d f)) (r.arguments w (suc d) F) (shaped (one c.Open) [] false)
  unfolding arguments
  arguments_laws = nest _ _ _ _ c.Open [] d refl (λ o. sample_seq (sample_list l.more ex) (λ x. sample_seq (sample_word (one c.Close) c.Close refl) (λ y. sample_empty _)))
      (λ k is. widen (seq (word c.Open refl) (λ o. seq (list (e k is) refl l.more) (λ x. seq (word c.Close refl) (λ z. empty_laws _) refl) refl) refl) (one c.Open) [] refl refl refl refl)

  coalesce_laws : Laws (p.Coalesce l d L) (p.Coalesce w (suc d) M) (r.coalesce l d f) (r.coalesce w (suc d) F) (shaped (one c.Coalesce) [] false)
  unfolding coalesce
  coalesce_laws = widen (seq (word c.Coalesce refl) (λ t. seq arguments_laws (λ x. empty_laws _) refl) refl) (one c.Coalesce) [] refl refl refl refl

  qualified_laws : (t : Token) → Laws (p.Qualified l d L t) (p.Qualified w (suc d) M t) (r.qualified l d f t) (r.qualified w (suc d) F t) (shaped (one c.Dot) [] false)
  unfolding qualified
  qualified_laws t = widen (seq (word c.Dot refl) (λ o. seq name_laws (λ n. empty_laws _) refl) refl) (one c.Dot) [] refl refl refl refl

  plain_laws : (t : Token) → Laws (Either (p.Qualified l d L t) (p.Bare l d L t)) (Either (p.Qualified w (suc d) M t) (p.Bare w (suc d) M t)) (r.plain l d f t) (r.plain w (suc d) F t) (shaped (one c.Dot) (one c.Dot) true)
  unfolding plain bare
  plain_laws t = widen (alt (qualified_laws t) (empty_laws _) refl refl) (one c.Dot) (one c.Dot) refl refl refl refl

  call_laws : (k : ℕ) → d ≡ suc k → (t : Token) → Laws (p.Call l d L t) (p.Call w (suc d) M t) (r.call l d f t) (r.call w (suc d) F t) (shaped expr_first expr_on false)
  unfolding call
  call_laws k is t = widen (seq (e k is) (λ x. empty_laws _) refl) expr_first expr_on refl refl refl refl

  call_sample : (t : Token) (i : ℕ) → Sample (p.Call w (suc d) M t) i
  call_sample t = sample_seq ex (λ x. sample_empty _)

  argument_laws : (t : Token) → Laws (Inside d (p.Argument l d L t)) (p.Argument w (suc d) M t) (inside (one c.Open) d (r.argument l d f t)) (r.argument w (suc d) F t) (shaped (one c.Open) [] false)
  unfolding argument
  argument_laws t = nest _ _ _ _ c.Open [] d refl (λ o. sample_seq (call_sample t) (λ x. sample_seq (sample_word (one c.Close) c.Close refl) (λ z. sample_empty _)))
      (λ k is. widen (seq (word c.Open refl) (λ o. seq (call_laws k is t) (λ x. seq (word c.Close refl) (λ z. empty_laws _) refl) refl) refl) (one c.Open) [] refl refl refl refl)

  all_laws : (t : Token) → Laws (p.CountAll l d L t) (p.CountAll w (suc d) M t) (r.count_all l d f t) (r.count_all w (suc d) F t) (shaped (one c.Star) [] false)
  unfolding count_all
  all_laws t = widen (seq (word c.Star refl) (λ o. empty_laws _) refl) (one c.Star) [] refl refl refl refl

  star_laws : (k : ℕ) → d ≡ suc k → (t : Token) → Laws (Either (p.CountAll l d L t) (p.Call l d L t)) (Either (p.CountAll w (suc d) M t) (p.Call w (suc d) M t)) (r.star_or l d f t) (r.star_or w (suc d) F t) (shaped (c.Star ∷ expr_first) expr_on false)
  unfolding star_or
  star_laws k is t = widen (alt (all_laws t) (call_laws k is t) refl refl) (c.Star ∷ expr_first) expr_on refl refl refl refl

  counted_laws : (t : Token) → Laws (Inside d (p.Counted l d L t)) (p.Counted w (suc d) M t) (inside (one c.Open) d (r.counted l d f t)) (r.counted w (suc d) F t) (shaped (one c.Open) [] false)
  unfolding counted
  counted_laws t = nest _ _ _ _ c.Open [] d refl (λ o. sample_seq (sample_right _ (call_sample t)) (λ x. sample_seq (sample_word (one c.Close) c.Close refl) (λ z. sample_empty _)))
      (λ k is. widen (seq (word c.Open refl) (λ o. seq (star_laws k is t) (λ x. seq (word c.Close refl) (λ z. empty_laws _) refl) refl) refl) (one c.Open) [] refl refl refl refl)

  after_laws : (k : Calls) (t : Token) → Laws (p.After l d L k t) (p.After w (suc d) M k t) (r.after l d f k t) (r.after w (suc d) F k t) (loosely prim_on prim_on true)
  unfolding after
  after_laws no_call t = loosen (plain_laws t) prim_on prim_on refl refl
  after_laws one_argument t = loosen (alt (argument_laws t) (plain_laws t) refl refl) prim_on prim_on refl refl
  after_laws counts t = loosen (alt (counted_laws t) (plain_laws t) refl refl) prim_on prim_on refl refl

  named_laws : Laws (p.Named l d L) (p.Named w (suc d) M) (r.named l d f) (r.named w (suc d) F) (shaped names prim_on false)
  unfolding named
  named_laws = widen (seq name_laws (λ t. after_laws (calls t.class) t) refl) names prim_on refl refl refl refl

  constant_laws : Laws (p.Constant l d L) (p.Constant w (suc d) M) (r.constant l d f) (r.constant w (suc d) F) (shaped constants [] false)
  unfolding constant
  constant_laws = widen (seq (terminal_laws constants c.Number refl) (λ t. empty_laws _) refl) constants [] refl refl refl refl

  pub prim_laws : Laws (p.Prim l d L) (p.Prim w (suc d) M) (r.prim l d f) (r.prim w (suc d) F) (shaped prim_first prim_on false)
  unfolding prim
  prim_laws = widen (alt paren_laws (alt case_laws (alt cast_laws (alt coalesce_laws (alt constant_laws named_laws refl refl) refl refl) refl refl) refl refl) refl refl) prim_first prim_on refl refl refl refl

  negative_laws : Laws (Inside d (p.Negative l d L)) (p.Negative w (suc d) M) (inside (one c.Minus) d (r.negative l d f)) (r.negative w (suc d) F) (shaped (one c.Minus) prim_on false)
  unfolding negative
  negative_laws = nest _ _ _ _ c.Minus prim_on d refl (λ t. sample_seq ux (λ x. sample_empty _)) (λ k is. widen (seq (word c.Minus refl) (λ t. seq (u k is) (λ x. empty_laws _) refl) refl) (one c.Minus) prim_on refl refl refl refl)

  pub unary_laws : Laws (p.Unary l d L) (p.Unary w (suc d) M) (r.unary_of l d f) (r.unary_of w (suc d) F) unary_s
  unfolding unary_of
  unary_laws = widen (alt negative_laws prim_laws refl refl) unary_first prim_on refl refl refl refl

  multiplied_laws : (x : ExprAst) → Laws (p.Operation l d L multiplicative (p.Unary l d L) x) (p.Operation w (suc d) M multiplicative (p.Unary w (suc d) M) x) (r.operation l d f multiplicative (r.unary_of l d f) x) (r.operation w (suc d) F multiplicative (r.unary_of w (suc d) F) x) (shaped multiplicative prim_on false)
  unfolding operation
  multiplied_laws x = widen (seq (paid l.operators 1 (terminal_laws multiplicative c.Star refl) refl refl) (λ t. seq unary_laws (λ y. empty_laws _) refl) refl) multiplicative prim_on refl refl refl refl

  pub product_laws : Laws (p.Product l d L) (p.Product w (suc d) M) (r.product_of l d f) (r.product_of w (suc d) F) (shaped unary_first product_on false)
  unfolding product_of
  product_laws = widen (seq unary_laws (λ x. repeated multiplied_laws refl refl x) refl) unary_first product_on refl refl refl refl

  added_laws : (x : ExprAst) → Laws (p.Operation l d L additive (p.Product l d L) x) (p.Operation w (suc d) M additive (p.Product w (suc d) M) x) (r.operation l d f additive (r.product_of l d f) x) (r.operation w (suc d) F additive (r.product_of w (suc d) F) x) (shaped additive product_on false)
  unfolding operation
  added_laws x = widen (seq (paid l.operators 1 (terminal_laws additive c.Plus refl) refl refl) (λ t. seq product_laws (λ y. empty_laws _) refl) refl) additive product_on refl refl refl refl

  pub sum_laws : Laws (p.Sum l d L) (p.Sum w (suc d) M) (r.sum_of l d f) (r.sum_of w (suc d) F) (shaped unary_first sum_on false)
  unfolding sum_of
  sum_laws = widen (seq product_laws (λ x. repeated added_laws refl refl x) refl) unary_first sum_on refl refl refl refl

  compared_laws : (x : ExprAst) → Laws (p.Operation l d L comparing (p.Sum l d L) x) (p.Operation w (suc d) M comparing (p.Sum w (suc d) M) x) (r.operation l d f comparing (r.sum_of l d f) x) (r.operation w (suc d) F comparing (r.sum_of w (suc d) F) x) (shaped comparing sum_on false)
  unfolding operation
  compared_laws x = widen (seq (paid l.operators 1 (terminal_laws comparing c.Equal refl) refl refl) (λ t. seq sum_laws (λ y. empty_laws _) refl) refl) comparing sum_on refl refl refl refl

  null_laws : (x : ExprAst) → Laws (p.IsNull l d L x) (p.IsNull w (suc d) M x) (r.is_null l d f x) (r.is_null w (suc d) F x) (shaped (one c.Is) [] false)
  unfolding is_null
  null_laws x = widen (seq (word c.Is refl) (λ t. seq (opt (word c.Not refl)) (λ o. seq (word c.Null refl) (λ z. empty_laws _) refl) refl) refl) (one c.Is) [] refl refl refl refl

  member_laws : (k : ℕ) → d ≡ suc k → (place : ℕ) (left : ExprAst) (copied : ℕ) (x : ExprAst) → Laws (p.Member l d L place left copied x) (p.Member w (suc d) M place left copied x) (r.member l d f place left copied x) (r.member w (suc d) F place left copied x) (shaped expr_first expr_on false)
  unfolding member
  member_laws k is place left copied x = widen (seq (paid l.operators (2 + copied) (e k is) refl refl) (λ y. empty_laws _) refl) expr_first expr_on refl refl refl refl

  members_laws : (place : ℕ) (left : ExprAst) (copied : ℕ) → Laws (Inside d (p.Members l d L place left copied)) (p.Members w (suc d) M place left copied) (inside (one c.Open) d (r.members l d f place left copied)) (r.members w (suc d) F place left copied) (shaped (one c.Open) [] false)
  unfolding members
  members_laws place left copied =
      nest _ _ _ _ c.Open [] d refl (λ o. sample_seq (sample_paid 1 ex) (λ x. sample_seq (sample_no_more l.more _ _) (λ y. sample_seq (sample_word (one c.Close) c.Close refl) (λ z. sample_empty _))))
      (λ k is. widen (seq (word c.Open refl) (λ o. seq (paid l.operators 1 (e k is) refl refl) (λ x. seq (listing_laws _ _ _ _ expr_first expr_on (member_laws k is place left copied) refl l.more _) (λ y. seq (word c.Close refl) (λ z. empty_laws _) refl) refl) refl) refl) (one c.Open) [] refl refl refl refl)

  among_laws : (left : ExprAst) (copied : ℕ) (o : Option Token) → Laws (p.Among l d L left copied o) (p.Among w (suc d) M left copied o) (r.among_of l d f left copied o) (r.among_of w (suc d) F left copied o) (shaped (one c.In) [] false)
  unfolding among_of
  among_laws left copied o = widen (seq (word c.In refl) (λ t. seq (members_laws t.place left copied) (λ x. empty_laws _) refl) refl) (one c.In) [] refl refl refl refl

  between_laws : (left : ExprAst) (copied : ℕ) (o : Option Token) → Laws (p.Between l d L left copied o) (p.Between w (suc d) M left copied o) (r.between_of l d f left copied o) (r.between_of w (suc d) F left copied o) (shaped (one c.Between) sum_on false)
  unfolding between_of
  between_laws left copied o = widen (seq (paid l.operators (3 + copied) (word c.Between refl) refl refl) (λ t. seq sum_laws (λ x. seq (word c.And refl) (λ z. seq sum_laws (λ y. empty_laws _) refl) refl) refl) refl) (one c.Between) sum_on refl refl refl refl

  within_laws : (left : ExprAst) (copied : ℕ) → Laws (p.Within l d L left copied) (p.Within w (suc d) M left copied) (r.within l d f left copied) (r.within w (suc d) F left copied) (shaped tests sum_on false)
  unfolding within
  within_laws left copied = widen (seq (opt (word c.Not refl)) (λ o. alt (among_laws left copied o) (between_laws left copied o) refl refl) refl) tests sum_on refl refl refl refl

  suffix_laws : (left : ExprAst) (copied : ℕ) → Laws (Either (p.Operation l d L comparing (p.Sum l d L) left) (Either (p.IsNull l d L left) (Either (p.Within l d L left copied) (Empty left))))
      (Either (p.Operation w (suc d) M comparing (p.Sum w (suc d) M) left) (Either (p.IsNull w (suc d) M left) (Either (p.Within w (suc d) M left copied) (Empty left)))) (r.suffix l d f left copied) (r.suffix w (suc d) F left copied) (shaped (comparing ++ c.Is ∷ tests) test_on true)
  unfolding suffix
  suffix_laws left copied = widen (alt (compared_laws left) (alt (null_laws left) (alt (within_laws left copied) (empty_laws left) refl refl) refl refl) refl refl) (comparing ++ c.Is ∷ tests) test_on refl refl refl refl

  pub test_laws : Laws (p.Test l d L) (p.Test w (suc d) M) (r.test_of l d f) (r.test_of w (suc d) F) (shaped unary_first test_on false)
  unfolding test_of
  test_laws = widen (seq count_laws (λ b. seq sum_laws (λ x. seq count_laws (λ a. suffix_laws x (a - b)) refl) refl) refl) unary_first test_on refl refl refl refl

  negated_laws : Laws (Inside d (p.Negated l d L)) (p.Negated w (suc d) M) (inside (one c.Not) d (r.negated l d f)) (r.negated w (suc d) F) (shaped (one c.Not) test_on false)
  unfolding negated
  negated_laws = nest _ _ _ _ c.Not test_on d refl (λ t. sample_seq nx (λ x. sample_empty _)) (λ k is. widen (seq (word c.Not refl) (λ t. seq (n k is) (λ x. empty_laws _) refl) refl) (one c.Not) test_on refl refl refl refl)

  pub negation_laws : Laws (p.Negation l d L) (p.Negation w (suc d) M) (r.negation_of l d f) (r.negation_of w (suc d) F) negation_s
  unfolding negation_of
  negation_laws = widen (alt negated_laws test_laws refl refl) expr_first test_on refl refl refl refl

  both_laws : (x : ExprAst) → Laws (p.Operation l d L (one c.And) (p.Negation l d L) x) (p.Operation w (suc d) M (one c.And) (p.Negation w (suc d) M) x) (r.operation l d f (one c.And) (r.negation_of l d f) x) (r.operation w (suc d) F (one c.And) (r.negation_of w (suc d) F) x) (shaped (one c.And) test_on false)
  unfolding operation
  both_laws x = widen (seq (paid l.operators 1 (word c.And refl) refl refl) (λ t. seq negation_laws (λ y. empty_laws _) refl) refl) (one c.And) test_on refl refl refl refl

  pub and_laws : Laws (p.Conjunction l d L) (p.Conjunction w (suc d) M) (r.conjunction l d f) (r.conjunction w (suc d) F) (shaped expr_first and_on false)
  unfolding conjunction
  and_laws = widen (seq negation_laws (λ x. repeated both_laws refl refl x) refl) expr_first and_on refl refl refl refl

  either_laws : (x : ExprAst) → Laws (p.Operation l d L (one c.Or) (p.Conjunction l d L) x) (p.Operation w (suc d) M (one c.Or) (p.Conjunction w (suc d) M) x) (r.operation l d f (one c.Or) (r.conjunction l d f) x) (r.operation w (suc d) F (one c.Or) (r.conjunction w (suc d) F) x) (shaped (one c.Or) and_on false)
  unfolding operation
  either_laws x = widen (seq (paid l.operators 1 (word c.Or refl) refl refl) (λ t. seq and_laws (λ y. empty_laws _) refl) refl) (one c.Or) and_on refl refl refl refl

  pub expr_laws : Laws (p.Disjunction l d L) (p.Disjunction w (suc d) M) (r.disjunction l d f) (r.disjunction w (suc d) F) expr_s
  unfolding disjunction
  expr_laws = widen (seq and_laws (λ x. repeated either_laws refl refl x) refl) expr_first expr_on refl refl refl refl

  pub whole_laws : Laws (p.Expr l d L) (p.Expr w (suc d) M) (r.whole_expr l d f) (r.whole_expr w (suc d) F) expr_s
  unfolding whole_expr
  whole_laws = own expr_laws
