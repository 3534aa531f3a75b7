-- In a group by a hash each channel carries rows of its number alone.
use Rattle.std.specs.List.{AllPass}
use Rattle.std.proofs.Common.{ℕ, suc, ◌<◌, ◌≡◌, sym, ap, ◌∙◌, subst, List, [], ◌∷◌, ◌++◌, length, Bool, arith}
use Rattle.std.proofs.lemmas.List.Sums.{sum_by-append}
use Rattle.run_journal.specs.declared.entry.Entry.{Entry}
use Rattle.history_laws.specs.Contents.{took}
use Rattle.physical_plan.specs.declared.plan.Plan.{Plan}
use Rattle.plan_shape.specs.Layout.{shape}
use Rattle.logical_plan.specs.Items.{Item, of_rows, concat}
use Rattle.tree_laws.specs.Runs.{State, IsReached}
use Rattle.content_laws.specs.SenderKinds.{is_at}
use Rattle.content_laws.specs.Whole.{past_in, AreFull, IsFull}
use Rattle.content_laws.proofs.Bags.{none_fails, all_pass, fails}
use Rattle.plan_task_laws.specs.Trees.{Doing}
use Rattle.plan_task_laws.specs.Tops.{Written, ByHash, Top, all_tops}
use Rattle.plan_task_laws.specs.Starts.{start_of}
use Rattle.plan_task_laws.specs.Reading.{AreOperators}
use Rattle.plan_task_laws.specs.Placed.{deal_of, IsHashing, HasChannels}
use Rattle.plan_task_laws.proofs.Placed.{stage_is}
use Rattle.answer_laws.proofs.Feeds.{fed_at}
use Rattle.state_laws.specs.Good.{CarriesOwn}

-- what passes all of a list passes each side of it
sides : {A : Type 0} (test : A → Bool) (xs ys : List A) → AllPass test (xs ++ ys) → AllPass test xs × AllPass test ys
sides test xs ys h =
    let a = none_fails test (xs ++ ys) h in
    let b = sum_by-append (fails test) xs ys in
    (all_pass test xs (omega arith), all_pass test ys (omega arith))

abbrev top_or : Top → List Top → Top
top_or d [] = d
top_or d (t ∷ ts) = t

-- a stage whose rows go by a hash isn't the root
behind : (p : Plan) (before after : List Top) (t : Top) → all_tops p ≡ before ++ t ∷ after → (columns : List ℕ) (n : ℕ) → t.way ≡ ByHash columns n → 0 < length before
behind p [] after t e columns n w = (let a : Written ≡ t.way = ap (λ ts. (top_or t ts).way) e in let b : Written ≡ ByHash columns n = a ∙ w in cc)
behind p (b ∷ before) after t e columns n w = (let l : 0 < suc (length before) = omega arith in l)

module _ (f : Doing) (are : AreOperators f) (hashing : IsHashing f) (p : Plan) (wide : HasChannels p)
    (size limit : ℕ) (entries : List Entry) (s : State) (full : ℕ → ℕ → List Item)
    (reached : IsReached (shape p) size limit (start_of f p limit) entries s) (wholes : AreFull (shape p) s (deal_of f p) full) where
  pub carries_own : CarriesOwn f p s
  carries_own before after t e columns n w c u l r =
      let k = behind p before after t e columns n w in
      let st : t.stage ≡ length before = (stage_is f are p before after t e).0 in
      let fed = fed_at f are hashing p wide size limit entries s full reached wholes before after t e (omega arith) in
      let full_is : IsFull (shape p) s (deal_of f p) full u t.stage c = wholes u t.stage c r in
      let test = is_at (f.channel columns n) c in
      let all = subst (AllPass test) full_is.all (fed.hashed columns n w c l) in
      let a = sides test (of_rows (concat (took t.stage c (past_in s u)))) _ all in
      let b = sides test (of_rows (concat full_is.contents.rest)) _ a.1 in
      (a.0, λ live. subst (λ bs. AllPass test (of_rows (concat bs))) (sym (full_is.contents.live live)) b.0)
