-- Each node has its trees in the tasks of a state.
use Rattle.std.specs.List.{AllByRecursion}
use Rattle.std.proofs.Common.{ℕ, ◌+◌, ◌≡◌, inl, inr, refl, ap, ◌∙◌, subst, List, [], ◌∷◌, ◌++◌, length, get_or, map, Bool, true, false}
use Rattle.physical_plan.specs.declared.plan.Plan.{Plan}
use Rattle.physical_plan.specs.declared.plan.Plan.TheOpen.{Plan-F}
use Rattle.physical_plan.specs.declared.plan.Plan.TheViews.{roll-Plan}
use Rattle.physical_plan.specs.declared.plan.Plan.TheFolds.{map-Plan}
use Rattle.tree_laws.specs.Operators.{Told, Op}
use Rattle.tree_laws.specs.Trees.{Desk, Tree, Nothing, Files, Inlet, Node, IsSubtree, Form, NoForm, NodeForm, form}
use Rattle.tree_laws.specs.Runs.{State}
use Rattle.content_laws.specs.Whole.{tree_in}
use Rattle.plan_task_laws.specs.Trees.{Doing, Seed, Growing, node, grow, grown_after, partitions_of, leaf, passing, holding, pairing, paired, stages_in, sources_in}
use Rattle.plan_task_laws.specs.Tops.{Top, Topping, top_node, tops, tops_after}
use Rattle.plan_task_laws.specs.Starts.{seeds_of}
use Rattle.plan_task_laws.proofs.Laws.{grown, topped}
use Rattle.state_laws.specs.Good.{IsTreeOf, AreTreesOf}
use Rattle.state_laws.proofs.Inherited.{AllFrom, Below}

-- ------------------------------------------------------------ inputs of trees

-- input i of a form
abbrev input_form : ℕ → Form → Form
input_form i (NodeForm op inputs) = inputs i
input_form i _ = NoForm

abbrev input_tree : ℕ → Tree → Tree
input_tree i (Node op told desk inputs) = inputs i
input_tree i _ = Nothing

-- a tree of an operator's form has its inputs
form_input : (i : ℕ) (t : Tree) → form (input_tree i t) ≡ input_form i (form t)
form_input i Nothing = refl
form_input i (Files all files gave unread) = refl
form_input i (Inlet g c gave unread over) = refl
form_input i (Node op told desk inputs) = refl

pub stands_own : (t : Tree) → IsSubtree t t
stands_own Nothing = refl
stands_own (Files all files gave unread) = refl
stands_own (Inlet g c gave unread over) = refl
stands_own (Node op told desk inputs) = inl refl

-- an input of a tree of a tree stands in it
pub stands_below : (op : Op) (told : Told) (desk : Desk) (inputs : ℕ → Tree) (i : ℕ) (u : Tree) → IsSubtree (Node op told desk inputs) u → IsSubtree (inputs i) u
stands_below op told desk inputs i Nothing h = cc
stands_below op told desk inputs i (Files all files gave unread) h = cc
stands_below op told desk inputs i (Inlet g c gave unread over) h = cc
stands_below op told desk inputs i (Node op2 told2 desk2 inputs2) h = elim h [
  | inl e ↦ subst (λ t. IsSubtree (inputs i) t) e (inr (i, stands_own (inputs i)))
  | inr b ↦ inr (b.0, stands_below op told desk inputs i (inputs2 b.0) b.1)
]

stands_input : (i : ℕ) (t u : Tree) (op : Op) (fs : ℕ → Form) → form t ≡ NodeForm op fs → IsSubtree t u → IsSubtree (input_tree i t) u
stands_input i Nothing u op fs e h = cc
stands_input i (Files all files gave unread) u op fs e h = cc
stands_input i (Inlet g c gave unread over) u op fs e h = cc
stands_input i (Node o told desk inputs) u op fs e h = stands_below o told desk inputs i u h

module _ (s : State) where
  -- there are trees of these partitions
  abbrev pub AllThere : List Seed → Type 0
  AllThere ss = (ts : List Tree) × AreTreesOf s ss ts

  -- the input of a partition's tree
  input_of : (i : ℕ) (op : Op) (inputs : List Tree) (x : Seed) (c d : ℕ) (t : Tree) → form (get_or inputs i Nothing) ≡ form (x.tree d) → ((u : ℕ) × IsSubtree t (tree_in s u)) → form t ≡ form (node op inputs)
      → IsTreeOf s x (input_tree i t)
  input_of i op inputs x c d t w u e = (
    (u.0, stands_input i t (tree_in s u.0) op (λ j. form (get_or inputs j Nothing)) e u.1),
    (d, form_input i t ∙ ap (input_form i) e ∙ w),
  )

  passed : (op : ℕ → Op) (ss : List Seed) (ts : List Tree) → AreTreesOf s (map (passing op) ss) ts → AllThere ss
  passed op [] [] h = ([], tt)
  passed op [] (t ∷ ts) h = absurd h
  passed op (x ∷ ss) [] h = absurd h
  passed op (x ∷ ss) (t ∷ ts) h =
      let c = h.0.1.0 in
      let r = passed op ss ts h.1 in
      (input_tree 0 t ∷ r.0, (input_of 0 (op c) (x.tree c ∷ []) x c c t refl h.0.0 h.0.1.1, r.1))

  held : (b : Bool) (op : ℕ → Op) (ss : List Seed) (ts : List Tree) → AreTreesOf s (map (holding b op) ss) ts → AllThere ss
  held b op [] [] h = ([], tt)
  held b op [] (t ∷ ts) h = absurd h
  held b op (x ∷ ss) [] h = absurd h
  held b op (x ∷ ss) (t ∷ ts) h =
      let c = h.0.1.0 in
      let r = held b op ss ts h.1 in
      (input_tree 0 t ∷ r.0, (input_of 0 (op c) (x.tree (c + 1) ∷ []) x c (c + 1) t refl h.0.0 h.0.1.1, r.1))

  alone_right : (op : ℕ → Op) (rs : List Seed) (ts : List Tree) → AreTreesOf s (map (λ (r : Seed). pairing op (leaf Nothing) r) rs) ts → AllThere rs
  alone_right op [] [] h = ([], tt)
  alone_right op [] (t ∷ ts) h = absurd h
  alone_right op (x ∷ ss) [] h = absurd h
  alone_right op (x ∷ ss) (t ∷ ts) h =
      let c = h.0.1.0 in
      let r = alone_right op ss ts h.1 in
      (input_tree 1 t ∷ r.0, (input_of 1 (op c) (Nothing ∷ x.tree (c + 1 + 0) ∷ []) x c (c + 1 + 0) t refl h.0.0 h.0.1.1, r.1))

  alone_left : (op : ℕ → Op) (ls : List Seed) (ts : List Tree) → AreTreesOf s (paired op ls []) ts → AllThere ls
  alone_left op [] [] h = ([], tt)
  alone_left op [] (t ∷ ts) h = absurd h
  alone_left op (x ∷ ss) [] h = absurd h
  alone_left op (x ∷ ss) (t ∷ ts) h =
      let c = h.0.1.0 in
      let r = alone_left op ss ts h.1 in
      (input_tree 0 t ∷ r.0, (input_of 0 (op c) (x.tree (c + 1) ∷ Nothing ∷ []) x c (c + 1) t refl h.0.0 h.0.1.1, r.1))

  joined : (op : ℕ → Op) (ls rs : List Seed) (ts : List Tree) → AreTreesOf s (paired op ls rs) ts → AllThere ls × AllThere rs
  joined op [] rs ts h = (([], tt), alone_right op rs ts h)
  joined op (l ∷ ls) [] ts h = (alone_left op (l ∷ ls) ts h, ([], tt))
  joined op (l ∷ ls) (r ∷ rs) [] h = absurd h
  joined op (l ∷ ls) (r ∷ rs) (t ∷ ts) h =
      let c = h.0.1.0 in
      let k = joined op ls rs ts h.1 in
      let inputs = l.tree (c + 1) ∷ r.tree (c + 1 + length l.consumers) ∷ [] in (
        (input_tree 0 t ∷ k.0.0, (input_of 0 (op c) inputs l c (c + 1) t refl h.0.0 h.0.1.1, k.0.1)),
        (input_tree 1 t ∷ k.1.0, (input_of 1 (op c) inputs r c (c + 1 + length l.consumers) t refl h.0.0 h.0.1.1, k.1.1)),
      )

  apart : (xs ys : List Seed) (ts : List Tree) → AreTreesOf s (xs ++ ys) ts → AllThere xs × AllThere ys
  apart [] ys ts h = (([], tt), (ts, h))
  apart (a ∷ xs) ys [] h = absurd h
  apart (a ∷ xs) ys (t ∷ ts) h = (let r = apart xs ys ts h.1 in ((t ∷ r.0.0, (h.0, r.0.1)), r.1))

  tops_apart : (P : Top → Type 0) (ts us : List Top) → AllByRecursion P (ts ++ us) → AllByRecursion P ts × AllByRecursion P us
  tops_apart P [] us h = (tt, h)
  tops_apart P (t ∷ ts) us h = (let r = tops_apart P ts us h.1 in ((h.0, r.0), r.1))

  module _ (f : Doing) where
    abbrev pub TopsThere : List Top → Type 0
    TopsThere ts = AllByRecursion (λ t. AllThere (seeds_of f t)) ts

    abbrev FoundBy : Growing → Topping → ℕ → ℕ → Type 0
    FoundBy g t k i = AllThere (g k i) × TopsThere (t k i)

    -- the partitions of a plan have their trees, and so have those of its exchanges' inputs
    abbrev pub Found : Plan → ℕ → ℕ → Type 0
    Found p k i = FoundBy (partitions_of f p) (tops p) k i

    united : (ps : List Plan) (k i : ℕ) → AllThere (grown_after (map (λ (p : Plan). (p, partitions_of f p)) ps) k i) → TopsThere (tops_after (map (λ (p : Plan). (p, tops p)) ps) k i) → AllFrom Found ps k i
    united [] k i h t = tt
    united (p ∷ ps) k i h t =
        let k2 = k + stages_in p in
        let i2 = i + sources_in p in
        let a = apart (partitions_of f p k i) (grown_after (map (λ (p : Plan). (p, partitions_of f p)) ps) k2 i2) h.0 h.1 in
        let b = tops_apart (λ t. AllThere (seeds_of f t)) (tops p k i) (tops_after (map (λ (p : Plan). (p, tops p)) ps) k2 i2) t in
        ((a.0, b.0), united ps k2 i2 a.1 b.1)

    level : (z : Plan-F Plan) (k i : ℕ) → (FoundBy (grow f (map-Plan Plan (Plan × Growing) (λ p. (p, partitions_of f p)) z)) (top_node (map-Plan Plan (Plan × Topping) (λ p. (p, tops p)) z)) k i → Below Found z k i)
        → Found (roll-Plan z) k i → Below Found z k i
    level z k i h = (let a = grown f z in let b = topped z in rw (a, b) h)

    pub down : (z : Plan-F Plan) (k i : ℕ) → Found (roll-Plan z) k i → Below Found z k i
    down (Plan-F.Scan table kinds files partitions) k i h = tt
    down (Plan-F.Filter p test) k i h = level (Plan-F.Filter p test) k i (λ x. (passed (f.operator (Plan-F.Filter p test) 1) (partitions_of f p k i) x.0.0 x.0.1, x.1)) h
    down (Plan-F.Project p items) k i h = level (Plan-F.Project p items) k i (λ x. (passed (f.operator (Plan-F.Project p items) 1) (partitions_of f p k i) x.0.0 x.0.1, x.1)) h
    down (Plan-F.PartialGroup p keys calls) k i h = level (Plan-F.PartialGroup p keys calls) k i (λ x. (held true (f.operator (Plan-F.PartialGroup p keys calls) 1) (partitions_of f p k i) x.0.0 x.0.1, x.1)) h
    down (Plan-F.FinalGroup p keys calls) k i h = level (Plan-F.FinalGroup p keys calls) k i (λ x. (held false (f.operator (Plan-F.FinalGroup p keys calls) 1) (partitions_of f p k i) x.0.0 x.0.1, x.1)) h
    down (Plan-F.HashJoin kind p q keys rest) k i h = level (Plan-F.HashJoin kind p q keys rest) k i (λ x. (
        let k2 = k + stages_in p in
        let i2 = i + sources_in p in
        let a = joined (f.operator (Plan-F.HashJoin kind p q keys rest) 2) (partitions_of f p k i) (partitions_of f q k2 i2) x.0.0 x.0.1 in
        let b = tops_apart (λ t. AllThere (seeds_of f t)) (tops p k i) (tops q k2 i2) x.1 in
        ((a.0, b.0), (a.1, b.1)))) h
    down (Plan-F.Sort p keys) k i h = level (Plan-F.Sort p keys) k i (λ x. (held true (f.operator (Plan-F.Sort p keys) 1) (partitions_of f p k i) x.0.0 x.0.1, x.1)) h
    down (Plan-F.Merge p keys) k i h = level (Plan-F.Merge p keys) k i (λ x. x.1) h
    down (Plan-F.Coalesce p) k i h = level (Plan-F.Coalesce p) k i (λ x. x.1) h
    down (Plan-F.Repartition p to) k i h = level (Plan-F.Repartition p to) k i (λ x. x.1) h
    down (Plan-F.UnionAll ps) k i h = level (Plan-F.UnionAll ps) k i (λ x. united ps k i x.0 x.1) h
    down (Plan-F.Limit p skip fetch) k i h = level (Plan-F.Limit p skip fetch) k i (λ x. (passed (f.operator (Plan-F.Limit p skip fetch) 1) (partitions_of f p k i) x.0.0 x.0.1, x.1)) h
