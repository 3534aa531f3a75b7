-- No batch is empty that was taken from a channel, or that is left in it.
use Rattle.std.proofs.Common.{ℕ, zero, suc, ◌≡◌, refl, sym, subst, eqb, cond, List, [], ◌∷◌, ◌++◌, Bool, true, false}
use Rattle.std.proofs.lemmas.Bool.{eq-eqb}
use Rattle.run_journal.specs.declared.entry.Entry.{Entry}
use Rattle.task_shape.specs.Shape.{Shape, IsShape, task_at, is_group, receives_at}
use Rattle.core_frame.specs.Frame.{channel_of}
use Rattle.history_laws.specs.Contents.{took, parts_sent, sent_to, by_sender, parts_in, IsContents}
use Rattle.history_laws.proofs.Laws.{recorded}
use Rattle.logical_plan.specs.Items.{Cells}
use Rattle.tree_laws.specs.Operators.{IsFront}
use Rattle.tree_laws.specs.Tasks.{Parts, handled}
use Rattle.tree_laws.specs.Runs.{State, for_channel, IsReached}
use Rattle.tree_laws.specs.Batches.{HasRows, EachHasRows, AllHaveRows, SendsRows}
use Rattle.tree_laws.proofs.Batches.{have_append}
use Rattle.content_laws.specs.SenderKinds.{whole_split, part_of, parts_from, hash_split}
use Rattle.content_laws.specs.Whole.{past_in}
use Rattle.content_laws.proofs.SenderKinds.{picked}

each_left : (xs ys : List (List Cells)) → EachHasRows (xs ++ ys) → EachHasRows xs
each_left [] ys a = tt
each_left (x ∷ xs) ys a = (a.0, each_left xs ys a.1)

each_right : (xs ys : List (List Cells)) → EachHasRows (xs ++ ys) → EachHasRows ys
each_right [] ys a = a
each_right (x ∷ xs) ys a = each_right xs ys a.1

each_both : (xs ys : List (List Cells)) → EachHasRows xs → EachHasRows ys → EachHasRows (xs ++ ys)
each_both [] ys a b = b
each_both (x ∷ xs) ys a b = (a.0, each_both xs ys a.1 b)

for_one : (x : List Cells) (b : Bool) → HasRows x → EachHasRows (cond b (x ∷ []) [])
for_one x true h = (h, tt)
for_one x false h = tt

for_rows : (c : ℕ) (ps : Parts) → AllHaveRows ps → EachHasRows (for_channel c ps)
for_rows c [] a = tt
for_rows c (x ∷ xs) a = each_both (cond (eqb x.0 c) (x.1 ∷ []) []) (for_channel c xs) (for_one x.1 (eqb x.0 c) a.0) (for_rows c xs a.1)

-- where each sender's batches have rows, all do
log_rows : (log : List (ℕ × List Cells)) → ((u : ℕ) → EachHasRows (by_sender u log)) → EachHasRows (parts_in log)
log_rows [] h = tt
log_rows (x ∷ xs) h = (first (eqb x.0 x.0) (eq-eqb x.0 x.0 refl) (h x.0), log_rows xs (λ u. each_right (cond (eqb x.0 u) (x.1 ∷ []) []) (by_sender u xs) (h u)))
  where
    first : (b : Bool) → b ≡ true → EachHasRows (cond b (x.1 ∷ []) [] ++ by_sender x.0 xs) → HasRows x.1
    first true e a = a.0
    first false e a = cc

module _ (p : Shape) (sh : IsShape p) (size limit : ℕ) (start s : State) (entries : List Entry) (k : IsReached p size limit start entries s) (rows : (u : ℕ) → AllHaveRows (handled (past_in s u))) where
  sent_rows : (u g c : ℕ) → EachHasRows (sent_to p u g c (past_in s u))
  sent_rows u g c = go (is_group (task_at p u).sends g) refl
    where
      go : (b : Bool) → is_group (task_at p u).sends g ≡ b → EachHasRows (cond b (parts_sent c (past_in s u)) [])
      go false e = tt
      go true e = (let f : IsFront (parts_sent c (past_in s u)) (for_channel c (handled (past_in s u))) = k.delivered.front u g c e in
          each_left (parts_sent c (past_in s u)) f.0 (subst EachHasRows (sym f.1) (for_rows c (handled (past_in s u)) (rows u))))

  contents : (t g c : ℕ) → receives_at p t g c ≡ true → IsContents p s.run.frame s.run.pasts t g c
  contents t g c r = (recorded p limit k.steps s.run sh k.own k.run).told.contents t g c r

  all : (t g c : ℕ) (r : receives_at p t g c ≡ true) → EachHasRows (took g c (past_in s t) ++ (contents t g c r).rest)
  all t g c r = subst EachHasRows (sym (contents t g c r).all) (log_rows (contents t g c r).log (λ u. subst EachHasRows (sym ((contents t g c r).each u)) (sent_rows u g c)))

  pub took_rows : (t g c : ℕ) → receives_at p t g c ≡ true → EachHasRows (took g c (past_in s t))
  took_rows t g c r = each_left (took g c (past_in s t)) (contents t g c r).rest (all t g c r)

  pub left_rows : (t g c : ℕ) → receives_at p t g c ≡ true → (channel_of s.run.frame g c).live ≡ true → EachHasRows (channel_of s.run.frame g c).batches
  left_rows t g c r l = subst EachHasRows (sym ((contents t g c r).live l)) (each_right (took g c (past_in s t)) (contents t g c r).rest (all t g c r))

-- ------------------------------------------------------------ two ways of sending

pub whole_rows : (to : ℕ → ℕ) → SendsRows (whole_split to)
whole_rows to j b h = (h, tt)

module _ (number : Cells → ℕ) where
  part_rows : (c : ℕ) (rows : List Cells) → AllHaveRows (part_of c rows)
  part_rows c [] = tt
  part_rows c (r ∷ rows) = (tt, tt)

  parts_rows : (c m : ℕ) (b : List Cells) → AllHaveRows (parts_from number c m b)
  parts_rows c zero b = tt
  parts_rows c (suc m) b = have_append (part_of c (picked number c b)) (parts_from number (suc c) m b) (part_rows c (picked number c b)) (parts_rows (suc c) m b)

  pub hash_rows : (n : ℕ) → SendsRows (hash_split number n)
  hash_rows n j b h = parts_rows 0 n b
