use Rattle.std.proofs.Common.{rules, ◌≡◌, ℕ, ◌+◌, List, [], ◌∷◌, ◌++◌, length, sym, ap, ◌∙◌, subst, arith}
use Rattle.value_columns.specs.Pieces.{Holds}
use Rattle.value_columns.proofs.PieceLemmas.{holds-push}
use Rattle.std.proofs.lemmas.List.{length-append}
use Rattle.value_columns.proofs.strings.Strings.push.Goals as goal

pub invariant_of-self-2 : goal.invariant_of-self-2
invariant_of-self-2 c =
    let b : List ℕ = c.self.inside.bytes.items in
    let es : List ℕ = c.self.inside.ends.items in
    let bytes : c.extend_from_slice.new.self.items ≡ c.self.inside.bytes.items ++ c.args.text.now = c.in_ok-extend_from_slice.ensures.items in
    let end : c.len-end.result ≡ length c.self.inside.bytes.items + length c.args.text.now = omega (arith, ap length bytes, length-append c.self.inside.bytes.items c.args.text.now) in
    let ends : c.push_reserved.new.self.items ≡ c.self.inside.ends.items ++ (length c.self.inside.bytes.items + length c.args.text.now) ∷ [] = c.push_reserved.ensures.items ∙ ap (λ (n : ℕ). c.reserve.new.self.items ++ n ∷ []) end ∙ ap (λ (l : List ℕ). l ++ (length c.self.inside.bytes.items + length c.args.text.now) ∷ []) c.in_ok-reserve.ensures.items in
    let P : List ℕ → Type 0 = λ x. Holds x c.push_reserved.new.self.items in
    let Q : List ℕ → Type 0 = λ x. Holds (c.self.inside.bytes.items ++ c.args.text.now) x in
    subst P (sym bytes) (subst Q (sym ends) (holds-push c.self.inside.bytes.items c.self.inside.ends.items c.args.text.now c.self.invariant c.requires))
