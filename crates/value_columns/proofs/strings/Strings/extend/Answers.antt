use Rattle.std.proofs.Common.{rules, ◌≡◌, ℕ, ◌+◌, ◌-◌, ◌<◌, ◌≤◌, ◌^◌, List, ◌++◌, All, length, get_or, drop, take, sym, ap, ◌∙◌, subst, arith, length-append}
use Rattle.std.specs.Prelude.{slice_range}
use Rattle.std.proofs.lemmas.List.{length-take-le, length-drop}
use Rattle.value_columns.specs.Pieces.{pieces, start, moved, Chained, Holds}
use Rattle.value_columns.proofs.PieceLemmas.{length-pieces, start_order, start_total, chained-part, chained-above, chained-below, holds-extend, pieces-extend}
use Rattle.value_columns.proofs.strings.Strings.extend.Goals as goal

pub push_moved-requires-clause-above : goal.push_moved-requires-clause-above
push_moved-requires-clause-above c =
    let len : length c.args.others.now ≡ length c.others.inside.ends.items = ap length (sym c.others.view_is) ∙ length-pieces c.others.inside.bytes.items 0 c.others.inside.ends.items in
    let chain : Chained (start 0 c.others.inside.ends.items c.args.from) (slice_range c.others.inside.ends.items c.args.from c.args.to) (start 0 c.others.inside.ends.items c.args.to) =
    chained-part c.others.inside.ends.items (length c.others.inside.bytes.items) c.args.from c.args.to c.others.invariant.chained c.requires.order (omega (arith, c.requires.within)) in
    let begin : c.start_of-start.result ≡ start 0 c.others.inside.ends.items c.args.from = c.start_of-start.ensures ∙ ap (λ (l : List ℕ). start 0 l c.args.from) c.deref.ensures.value in
    let P : ℕ → Type 0 = λ n. All (λ e. n ≤ e) (slice_range c.others.inside.ends.items c.args.from c.args.to) in
    let Q : List ℕ → Type 0 = λ l. All (λ e. c.start_of-start.result ≤ e) (slice_range l c.args.from c.args.to) in
    subst Q (sym c.deref-4.ensures.value) (subst P (sym begin) (chained-above (start 0 c.others.inside.ends.items c.args.from) (slice_range c.others.inside.ends.items c.args.from c.args.to) (start 0 c.others.inside.ends.items c.args.to) chain))

pub push_moved-requires-clause-within : goal.push_moved-requires-clause-within
push_moved-requires-clause-within c =
    let len : length c.args.others.now ≡ length c.others.inside.ends.items = ap length (sym c.others.view_is) ∙ length-pieces c.others.inside.bytes.items 0 c.others.inside.ends.items in
    let within : c.args.to ≤ length c.others.inside.ends.items = omega (arith, c.requires.within) in
    let order : start 0 c.others.inside.ends.items c.args.from ≤ start 0 c.others.inside.ends.items c.args.to =
    start_order c.others.inside.ends.items (length c.others.inside.bytes.items) c.args.from c.args.to c.others.invariant.chained c.requires.order within in
    let total : start 0 c.others.inside.ends.items c.args.to ≤ length c.others.inside.bytes.items =
    start_total c.others.inside.ends.items (length c.others.inside.bytes.items) c.args.to c.others.invariant.chained within in
    let chain : Chained (start 0 c.others.inside.ends.items c.args.from) (slice_range c.others.inside.ends.items c.args.from c.args.to) (start 0 c.others.inside.ends.items c.args.to) =
    chained-part c.others.inside.ends.items (length c.others.inside.bytes.items) c.args.from c.args.to c.others.invariant.chained c.requires.order within in
    let begin : c.start_of-start.result ≡ start 0 c.others.inside.ends.items c.args.from = c.start_of-start.ensures ∙ ap (λ (l : List ℕ). start 0 l c.args.from) c.deref.ensures.value in
    let bytes : c.bytes_of-part.result.now ≡ slice_range c.others.inside.bytes.items (start 0 c.others.inside.ends.items c.args.from) (start 0 c.others.inside.ends.items c.args.to) =
    c.bytes_of-part.ensures
    ∙ ap (λ (l : List ℕ). slice_range l (start 0 c.deref-3.result.now c.args.from) (start 0 c.deref-3.result.now c.args.to)) c.deref-2.ensures.value
    ∙ ap (λ (l : List ℕ). slice_range c.others.inside.bytes.items (start 0 l c.args.from) (start 0 l c.args.to)) c.deref-3.ensures.value in
    let size : length c.bytes_of-part.result.now ≡ start 0 c.others.inside.ends.items c.args.to - start 0 c.others.inside.ends.items c.args.from =
    ap length bytes ∙ length-take-le (start 0 c.others.inside.ends.items c.args.to - start 0 c.others.inside.ends.items c.args.from) (drop (start 0 c.others.inside.ends.items c.args.from) c.others.inside.bytes.items)
    (omega (arith, length-drop (start 0 c.others.inside.ends.items c.args.from) c.others.inside.bytes.items)) in
    let Q : List ℕ → Type 0 = λ l. All (λ e. c.len.result - length c.bytes_of-part.result.now + (e - c.start_of-start.result) < 2 ^ 64) (slice_range l c.args.from c.args.to) in
    subst Q (sym c.deref-4.ensures.value)
    (λ k d l. omega (
      arith,
      chained-below (start 0 c.others.inside.ends.items c.args.from) (slice_range c.others.inside.ends.items c.args.from c.args.to) (start 0 c.others.inside.ends.items c.args.to) chain k d l,
      begin,
      size,
      order,
      c.len.ensures,
    ))

pub invariant_of-self-2 : goal.invariant_of-self-2
invariant_of-self-2 c =
    let len : length c.args.others.now ≡ length c.others.inside.ends.items = ap length (sym c.others.view_is) ∙ length-pieces c.others.inside.bytes.items 0 c.others.inside.ends.items in
    let within : c.args.to ≤ length c.others.inside.ends.items = omega (arith, c.requires.within) in
    let begin : c.start_of-start.result ≡ start 0 c.others.inside.ends.items c.args.from = c.start_of-start.ensures ∙ ap (λ (l : List ℕ). start 0 l c.args.from) c.deref.ensures.value in
    let part : c.bytes_of-part.result.now ≡ slice_range c.others.inside.bytes.items (start 0 c.others.inside.ends.items c.args.from) (start 0 c.others.inside.ends.items c.args.to) =
    c.bytes_of-part.ensures
    ∙ ap (λ (l : List ℕ). slice_range l (start 0 c.deref-3.result.now c.args.from) (start 0 c.deref-3.result.now c.args.to)) c.deref-2.ensures.value
    ∙ ap (λ (l : List ℕ). slice_range c.others.inside.bytes.items (start 0 l c.args.from) (start 0 l c.args.to)) c.deref-3.ensures.value in
    let bytes : c.extend_from_slice.new.self.items ≡ c.self.inside.bytes.items ++ slice_range c.others.inside.bytes.items (start 0 c.others.inside.ends.items c.args.from) (start 0 c.others.inside.ends.items c.args.to) =
    c.in_ok-extend_from_slice.ensures.items ∙ ap (λ (l : List ℕ). c.self.inside.bytes.items ++ l) part in
    let base : c.len.result - length c.bytes_of-part.result.now ≡ length c.self.inside.bytes.items =
    omega (arith, c.len.ensures, ap length c.in_ok-extend_from_slice.ensures.items, length-append c.self.inside.bytes.items c.bytes_of-part.result.now) in
    let ends : c.push_moved.new.ends.items ≡ c.self.inside.ends.items ++ moved (start 0 c.others.inside.ends.items c.args.from) (length c.self.inside.bytes.items) (slice_range c.others.inside.ends.items c.args.from c.args.to) =
    c.push_moved.ensures
    ∙ ap (λ (l : List ℕ). l ++ moved c.start_of-start.result (c.len.result - length c.bytes_of-part.result.now) (slice_range c.deref-4.result.now c.args.from c.args.to)) c.in_ok-reserve.ensures.items
    ∙ ap (λ (n : ℕ). c.self.inside.ends.items ++ moved n (c.len.result - length c.bytes_of-part.result.now) (slice_range c.deref-4.result.now c.args.from c.args.to)) begin
    ∙ ap (λ (n : ℕ). c.self.inside.ends.items ++ moved (start 0 c.others.inside.ends.items c.args.from) n (slice_range c.deref-4.result.now c.args.from c.args.to)) base
    ∙ ap (λ (l : List ℕ). c.self.inside.ends.items ++ moved (start 0 c.others.inside.ends.items c.args.from) (length c.self.inside.bytes.items) (slice_range l c.args.from c.args.to)) c.deref-4.ensures.value in
    let P : List ℕ → Type 0 = λ x. Holds x c.push_moved.new.ends.items in
    let Q : List ℕ → Type 0 = λ x. Holds (c.self.inside.bytes.items ++ slice_range c.others.inside.bytes.items (start 0 c.others.inside.ends.items c.args.from) (start 0 c.others.inside.ends.items c.args.to)) x in
    subst P (sym bytes) (subst Q (sym ends) (holds-extend c.self.inside.bytes.items c.self.inside.ends.items c.others.inside.bytes.items c.others.inside.ends.items c.args.from c.args.to c.self.invariant c.others.invariant c.requires.order within))

pub returns-clause-ok : goal.returns-clause-ok
returns-clause-ok c =
    let len : length c.args.others.now ≡ length c.others.inside.ends.items = ap length (sym c.others.view_is) ∙ length-pieces c.others.inside.bytes.items 0 c.others.inside.ends.items in
    let within : c.args.to ≤ length c.others.inside.ends.items = omega (arith, c.requires.within) in
    let begin : c.start_of-start.result ≡ start 0 c.others.inside.ends.items c.args.from = c.start_of-start.ensures ∙ ap (λ (l : List ℕ). start 0 l c.args.from) c.deref.ensures.value in
    let part : c.bytes_of-part.result.now ≡ slice_range c.others.inside.bytes.items (start 0 c.others.inside.ends.items c.args.from) (start 0 c.others.inside.ends.items c.args.to) =
    c.bytes_of-part.ensures
    ∙ ap (λ (l : List ℕ). slice_range l (start 0 c.deref-3.result.now c.args.from) (start 0 c.deref-3.result.now c.args.to)) c.deref-2.ensures.value
    ∙ ap (λ (l : List ℕ). slice_range c.others.inside.bytes.items (start 0 l c.args.from) (start 0 l c.args.to)) c.deref-3.ensures.value in
    let bytes : c.extend_from_slice.new.self.items ≡ c.self.inside.bytes.items ++ slice_range c.others.inside.bytes.items (start 0 c.others.inside.ends.items c.args.from) (start 0 c.others.inside.ends.items c.args.to) =
    c.in_ok-extend_from_slice.ensures.items ∙ ap (λ (l : List ℕ). c.self.inside.bytes.items ++ l) part in
    let base : c.len.result - length c.bytes_of-part.result.now ≡ length c.self.inside.bytes.items =
    omega (arith, c.len.ensures, ap length c.in_ok-extend_from_slice.ensures.items, length-append c.self.inside.bytes.items c.bytes_of-part.result.now) in
    let ends : c.push_moved.new.ends.items ≡ c.self.inside.ends.items ++ moved (start 0 c.others.inside.ends.items c.args.from) (length c.self.inside.bytes.items) (slice_range c.others.inside.ends.items c.args.from c.args.to) =
    c.push_moved.ensures
    ∙ ap (λ (l : List ℕ). l ++ moved c.start_of-start.result (c.len.result - length c.bytes_of-part.result.now) (slice_range c.deref-4.result.now c.args.from c.args.to)) c.in_ok-reserve.ensures.items
    ∙ ap (λ (n : ℕ). c.self.inside.ends.items ++ moved n (c.len.result - length c.bytes_of-part.result.now) (slice_range c.deref-4.result.now c.args.from c.args.to)) begin
    ∙ ap (λ (n : ℕ). c.self.inside.ends.items ++ moved (start 0 c.others.inside.ends.items c.args.from) n (slice_range c.deref-4.result.now c.args.from c.args.to)) base
    ∙ ap (λ (l : List ℕ). c.self.inside.ends.items ++ moved (start 0 c.others.inside.ends.items c.args.from) (length c.self.inside.bytes.items) (slice_range l c.args.from c.args.to)) c.deref-4.ensures.value in
    ap (λ (l : List ℕ). pieces l 0 c.push_moved.new.ends.items) bytes
    ∙ ap (pieces (c.self.inside.bytes.items ++ slice_range c.others.inside.bytes.items (start 0 c.others.inside.ends.items c.args.from) (start 0 c.others.inside.ends.items c.args.to)) 0) ends
    ∙ pieces-extend c.self.inside.bytes.items c.self.inside.ends.items c.others.inside.bytes.items c.others.inside.ends.items c.args.from c.args.to c.self.invariant c.others.invariant c.requires.order within
    ∙ ap (λ (l : List (List ℕ)). l ++ slice_range (pieces c.others.inside.bytes.items 0 c.others.inside.ends.items) c.args.from c.args.to) c.self.view_is
    ∙ ap (λ (l : List (List ℕ)). c.args.self.now ++ slice_range l c.args.from c.args.to) c.others.view_is
