-- The trees of every plan are those of its layout.
use Rattle.std.proofs.Common.{ℕ, ◌+◌, ◌<◌, ◌≡◌, refl, sym, ap, ◌∙◌, subst, List, [], ◌∷◌, ◌++◌, length, map, Bool, true, false, Some, None, arith, add-zero}
use Rattle.std.proofs.lemmas.List.{length-append}
use Rattle.plan_props.specs.Satisfies.{partition_count}
use Rattle.physical_plan.specs.declared.plan.Plan.{Plan}
use Rattle.physical_plan.specs.declared.plan.Plan.TheOpen.{Plan-F}
use Rattle.physical_plan.specs.declared.plan.Plan.TheViews.{roll-Plan}
use Rattle.physical_plan.specs.declared.plan.Plan.TheFolds.{fold-roll-Plan, para-roll-Plan, map-Plan, ind-Plan}
use Rattle.plan_shape.specs.Layout.{Part, Stage, Laying, lay, layout, end_to_end, with_consumer, opened, lay_both, consuming, beside, readers, merger}
use Rattle.physical_plan.specs.Numbers.{numbers}
use Rattle.plan_task_laws.specs.Trees.{Doing, reserving, passing, holding, paired, inlets, merged, Growing, grow, grown_after, partitions_of, count_stages, stages_in, sources_in, sum_all}
use Rattle.plan_task_laws.specs.Tops.{Way, Top, Topping, opening, top_node, tops, tops_after, way_to, width_by, ToOne, ToOwn}
use Rattle.plan_task_laws.specs.Starts.{seeds_of}
use Rattle.plan_task_laws.specs.Reading.{AreOperators, consumer_by}
use Rattle.plan_task_laws.proofs.Nodes.{merged_part}
use Rattle.plan_task_laws.proofs.Parts.{AreParts, all_wider, all_after, all_passing, all_holding, all_paired, all_scans, all_readers, same_length}
use Rattle.plan_task_laws.proofs.Aims.{AllAim, Sends, exchanged_aims, exchanged_width, coalesced_aims, merging_aims, way_sends}

-- a stage of the layout and a top: the same number, the same partitions, and each one's batches go to its targets
pub record IsTop (f : Doing) (k : ℕ) (x : Stage) (t : Top) : Type 0 where
  pub stage : t.stage ≡ k
  pub parts : AreParts (t.stage + 1) (t.stage + 1 + stages_in t.plan) x.parts (seeds_of f t)
  pub aims : AllAim t.way 0 x.parts x.targets
  pub width : x.width ≡ width_by t.way (length x.parts)

abbrev pub AreTops : Doing → ℕ → List Stage → List Top → Type 0
AreTops f k [] [] = Unit {0}
AreTops f k [] (t ∷ ts) = ⊥
AreTops f k (x ∷ xs) [] = ⊥
AreTops f k (x ∷ xs) (t ∷ ts) = IsTop f k x t × AreTops f (k + 1) xs ts

abbrev pub AllSend : List Top → Type 0
AllSend [] = Unit {0}
AllSend (t ∷ ts) = Sends t.way × AllSend ts

sends_both : (ts us : List Top) → AllSend ts → AllSend us → AllSend (ts ++ us)
sends_both [] us h i = i
sends_both (t ∷ ts) us h i = (h.0, sends_both ts us h.1 i)

tops_both : (f : Doing) (k n : ℕ) (xs ys : List Stage) (ts us : List Top) → n ≡ k + length xs → AreTops f k xs ts → AreTops f n ys us → AreTops f k (xs ++ ys) (ts ++ us)
tops_both f k n [] ys [] us e h i = subst (λ (m : ℕ). AreTops f m ys us) (e ∙ add-zero k) i
tops_both f k n [] ys (t ∷ ts) us e h i = absurd h
tops_both f k n (x ∷ xs) ys [] us e h i = absurd h
tops_both f k n (x ∷ xs) ys (t ∷ ts) us e h i = (h.0, tops_both f (k + 1) n xs ys ts us (omega arith) h.1 i)

-- a layout, a number of stages, trees and tops that belong together
pub record Grows (f : Doing) (l : Laying) (n : ℕ) (g : Growing) (t : Topping) : Type 0 where
  pub parts : (k s : ℕ) → AreParts k (k + n) (l k).parts (g k s)
  pub count : (k : ℕ) → length (l k).stages ≡ n
  pub tops : (k s : ℕ) → AreTops f k (l k).stages (t k s)
  pub sends : (k s : ℕ) → AllSend (t k s)

abbrev pub GrowsOf : Doing → Plan → Type 0
GrowsOf f p = Grows f (layout p) (stages_in p) (partitions_of f p) (tops p)

module _ (f : Doing) (are : AreOperators f) where
  abbrev Known : Type 0
  Known = (p : Plan) × GrowsOf f p

  grown_of : Plan → Plan × Growing
  grown_of p = (p, partitions_of f p)

  topped_of : Plan → Plan × Topping
  topped_of p = (p, tops p)

  abbrev Level : Plan-F Plan → Type 0
  Level z = Grows f (lay (map-Plan Plan Laying layout z)) (count_stages (map-Plan Plan ℕ stages_in z))
      (grow f (map-Plan Plan (Plan × Growing) (λ p. (p, partitions_of f p)) z)) (top_node (map-Plan Plan (Plan × Topping) (λ p. (p, tops p)) z))

  level : (z : Plan-F Plan) → Level z → GrowsOf f (roll-Plan z)
  unfolding layout stages_in partitions_of tops
  level z h =
      let a = fold-roll-Plan Laying lay z in
      let b = fold-roll-Plan ℕ count_stages z in
      let c = para-roll-Plan Growing (grow f) z in
      let d = para-roll-Plan Topping top_node z in
      rw (a, b, c, d) h

  -- ---- one input

  passed : (z : Plan-F Plan) (l : Laying) (n : ℕ) (g : Growing) (t : Topping) → reserving z ≡ None → Grows f l n g t → Grows f l n (λ k s. map (passing (f.operator z 1)) (g k s)) t
  passed z l n g t e h = record {
    parts = λ k s. all_passing (f.operator z 1) k (k + n) (l k).parts (g k s) (are.owes z 1) (λ c. are.consumer z 1 c ∙ ap (λ o. consumer_by o c) e) (h.parts k s);
    count = h.count;
    tops = h.tops;
    sends = h.sends;
  }

  held : (b : Bool) (z : Plan-F Plan) (l : Laying) (n : ℕ) (g : Growing) (t : Topping) → reserving z ≡ Some b → Grows f l n g t → Grows f (λ k. with_consumer b (l k)) n (λ k s. map (holding b (f.operator z 1)) (g k s)) t
  held b z l n g t e h = record {
    parts = λ k s. all_holding b (f.operator z 1) k (k + n) (l k).parts (g k s) (are.owes z 1) (λ c. are.consumer z 1 c ∙ ap (λ o. consumer_by o c) e) (h.parts k s);
    count = h.count;
    tops = h.tops;
    sends = h.sends;
  }

  -- ---- exchanges

  opens : (l : Laying) (p : Plan) (w : Way) (above : ℕ → List Part) (targets : ℕ → List (List ℕ)) (width : ℕ → ℕ) (g : Growing) → Grows f l (stages_in p) (partitions_of f p) (tops p)
      → ((k s : ℕ) → AreParts k (k + (stages_in p + 1)) (above k) (g k s)) → ((k : ℕ) → AllAim w 0 (l (k + 1)).parts (targets k)) → ((k : ℕ) → width k ≡ width_by w (length (l (k + 1)).parts)) → Sends w
      → Grows f (λ k. opened (above k) (targets k) (width k) (l (k + 1))) (stages_in p + 1) g (opening w (p, tops p))
  opens l p w above targets width g h a b d o = record {
    parts = a;
    count = λ k. (let e = h.count (k + 1) in omega arith);
    tops = λ k s. (record { stage = refl; parts = h.parts (k + 1) s; aims = b k; width = d k }, h.tops (k + 1) s);
    sends = λ k s. (o, h.sends (k + 1) s);
  }

  room : (k n : ℕ) → k < k + (n + 1)
  room k n = omega arith

  -- ---- two inputs, and many

  joins : (z : Plan-F Plan) (p q : Plan) → reserving z ≡ Some false → GrowsOf f p → GrowsOf f q
      → Grows f (λ k. lay_both (layout p k) (layout q) k) (stages_in p + stages_in q)
      (λ k s. paired (f.operator z 2) (partitions_of f p k s) (partitions_of f q (k + stages_in p) (s + sources_in p)))
      (λ k s. tops p k s ++ tops q (k + stages_in p) (s + sources_in p))
  joins z p q e h i = record {
    parts = λ k s. subst (λ (n : ℕ). AreParts k (k + (stages_in p + stages_in q)) (map (consuming false) (beside (layout p k).parts (layout q (k + n)).parts)) (paired (f.operator z 2) (partitions_of f p k s) (partitions_of f q (k + stages_in p) (s + sources_in p))))
        (sym (h.count k))
        (all_paired (f.operator z 2) k (k + stages_in p) (k + (stages_in p + stages_in q)) (layout p k).parts (layout q (k + stages_in p)).parts (partitions_of f p k s) (partitions_of f q (k + stages_in p) (s + sources_in p))
        (are.owes z 2) (λ c. are.consumer z 2 c ∙ ap (λ o. consumer_by o c) e) (omega arith) (omega arith) (h.parts k s)
        (all_wider (k + stages_in p) (k + stages_in p + stages_in q) (k + stages_in p) (k + (stages_in p + stages_in q)) (layout q (k + stages_in p)).parts (partitions_of f q (k + stages_in p) (s + sources_in p)) (omega arith) (omega arith) (i.parts (k + stages_in p) (s + sources_in p))));
    count = λ k. length-append (layout p k).stages (layout q (k + length (layout p k).stages)).stages ∙ ap (λ (n : ℕ). n + length (layout q (k + length (layout p k).stages)).stages) (h.count k) ∙ ap (λ (n : ℕ). stages_in p + n) (i.count (k + length (layout p k).stages));
    tops = λ k s. subst (λ (n : ℕ). AreTops f k ((layout p k).stages ++ (layout q (k + n)).stages) (tops p k s ++ tops q (k + stages_in p) (s + sources_in p)))
        (sym (h.count k))
        (tops_both f k (k + stages_in p) (layout p k).stages (layout q (k + stages_in p)).stages (tops p k s) (tops q (k + stages_in p) (s + sources_in p)) (ap (λ (n : ℕ). k + n) (sym (h.count k))) (h.tops k s) (i.tops (k + stages_in p) (s + sources_in p)));
    sends = λ k s. sends_both (tops p k s) (tops q (k + stages_in p) (s + sources_in p)) (h.sends k s) (i.sends (k + stages_in p) (s + sources_in p));
  }

  abbrev plans : List Known → List Plan
  plans ps = map (λ (p : Known). p.0) ps

  abbrev layings : List Known → List Laying
  layings ps = map layout (plans ps)

  abbrev growings : List Known → List (Plan × Growing)
  growings ps = map (λ (p : Plan). (p, partitions_of f p)) (plans ps)

  abbrev toppings : List Known → List (Plan × Topping)
  toppings ps = map (λ (p : Plan). (p, tops p)) (plans ps)

  united : (ps : List Known) → Grows f (end_to_end (layings ps)) (sum_all (map stages_in (plans ps))) (grown_after (growings ps)) (tops_after (toppings ps))
  united [] = record { parts = λ k s. tt; count = λ k. refl; tops = λ k s. tt; sends = λ k s. tt }
  united (p ∷ ps) =
      let h = p.1 in
      let i = united ps in
      let n = stages_in p.0 in
      let m = sum_all (map stages_in (plans ps)) in
      let l = layout p.0 in
      let r = end_to_end (layings ps) in
      let g = partitions_of f p.0 in
      let u = grown_after (growings ps) in
      let t = tops p.0 in
      let v = tops_after (toppings ps) in
      record {
        parts = λ k s. subst (λ (x : ℕ). AreParts k (k + (n + m)) ((l k).parts ++ (r (k + x)).parts) (g k s ++ u (k + n) (s + sources_in p.0))) (sym (h.count k))
            (all_after k (k + (n + m)) (l k).parts (r (k + n)).parts (g k s) (u (k + n) (s + sources_in p.0))
            (all_wider k (k + n) k (k + (n + m)) (l k).parts (g k s) (omega arith) (omega arith) (h.parts k s))
            (all_wider (k + n) (k + n + m) k (k + (n + m)) (r (k + n)).parts (u (k + n) (s + sources_in p.0)) (omega arith) (omega arith) (i.parts (k + n) (s + sources_in p.0))));
        count = λ k. length-append (l k).stages (r (k + length (l k).stages)).stages ∙ ap (λ (x : ℕ). x + length (r (k + length (l k).stages)).stages) (h.count k) ∙ ap (λ (x : ℕ). n + x) (i.count (k + length (l k).stages));
        tops = λ k s. subst (λ (x : ℕ). AreTops f k ((l k).stages ++ (r (k + x)).stages) (t k s ++ v (k + n) (s + sources_in p.0))) (sym (h.count k))
            (tops_both f k (k + n) (l k).stages (r (k + n)).stages (t k s) (v (k + n) (s + sources_in p.0)) (ap (λ (x : ℕ). k + x) (sym (h.count k))) (h.tops k s) (i.tops (k + n) (s + sources_in p.0)));
        sends = λ k s. sends_both (t k s) (v (k + n) (s + sources_in p.0)) (h.sends k s) (i.sends (k + n) (s + sources_in p.0));
      }

  merge_parts : (p : Plan) (z : Plan-F Plan) → reserving z ≡ None → GrowsOf f p → (k s : ℕ)
      → AreParts k (k + (stages_in p + 1)) (merger k (length (layout p (k + 1)).parts) ∷ []) (merged (f.operator z) k (length (partitions_of f p (k + 1) s)) ∷ [])
  merge_parts p z e h k s =
      let q : length (partitions_of f p (k + 1) s) ≡ length (layout p (k + 1)).parts = same_length (k + 1) (k + 1 + stages_in p) (layout p (k + 1)).parts (partitions_of f p (k + 1) s) (h.parts (k + 1) s) in
      subst (λ (n : ℕ). AreParts k (k + (stages_in p + 1)) (merger k (length (layout p (k + 1)).parts) ∷ []) (merged (f.operator z) k n ∷ [])) (sym q)
      (merged_part (f.operator z) k (k + (stages_in p + 1)) (length (layout p (k + 1)).parts) (are.owes z (length (layout p (k + 1)).parts)) (λ c. are.consumer z (length (layout p (k + 1)).parts) c ∙ ap (λ o. consumer_by o c) e) (room k (stages_in p)), tt)

  -- ---- every node

  step : (y : Plan-F Known) → GrowsOf f (roll-Plan (map-Plan Known Plan (λ k. k.0) y))
  step (Plan-F.Scan table kinds files partitions) = level (Plan-F.Scan table kinds files partitions) (record {
    parts = λ k s. all_scans (f.items table) k (k + 0) s files partitions 0 partitions;
    count = λ k. refl;
    tops = λ k s. tt;
    sends = λ k s. tt;
  })
  step (Plan-F.Filter input test) = level (Plan-F.Filter input.0 test) (passed (Plan-F.Filter input.0 test) (layout input.0) (stages_in input.0) (partitions_of f input.0) (tops input.0) refl input.1)
  step (Plan-F.Project input items) = level (Plan-F.Project input.0 items) (passed (Plan-F.Project input.0 items) (layout input.0) (stages_in input.0) (partitions_of f input.0) (tops input.0) refl input.1)
  step (Plan-F.PartialGroup input keys calls) = level (Plan-F.PartialGroup input.0 keys calls) (held true (Plan-F.PartialGroup input.0 keys calls) (layout input.0) (stages_in input.0) (partitions_of f input.0) (tops input.0) refl input.1)
  step (Plan-F.FinalGroup input keys calls) = level (Plan-F.FinalGroup input.0 keys calls) (held false (Plan-F.FinalGroup input.0 keys calls) (layout input.0) (stages_in input.0) (partitions_of f input.0) (tops input.0) refl input.1)
  step (Plan-F.HashJoin kind left right keys rest) = level (Plan-F.HashJoin kind left.0 right.0 keys rest) (joins (Plan-F.HashJoin kind left.0 right.0 keys rest) left.0 right.0 refl left.1 right.1)
  step (Plan-F.Sort input keys) = level (Plan-F.Sort input.0 keys) (held true (Plan-F.Sort input.0 keys) (layout input.0) (stages_in input.0) (partitions_of f input.0) (tops input.0) refl input.1)
  step (Plan-F.Merge input keys) = level (Plan-F.Merge input.0 keys)
      (opens (layout input.0) input.0 ToOwn (λ k. merger k (length (layout input.0 (k + 1)).parts) ∷ []) (λ k. map (λ (c : ℕ). c ∷ []) (numbers (length (layout input.0 (k + 1)).parts))) (λ k. length (layout input.0 (k + 1)).parts)
      (λ k s. merged (f.operator (Plan-F.Merge input.0 keys)) k (length (partitions_of f input.0 (k + 1) s)) ∷ []) input.1 (merge_parts input.0 (Plan-F.Merge input.0 keys) refl input.1) (λ k. merging_aims 0 (layout input.0 (k + 1)).parts) (λ k. refl) (λ g i. refl))
  step (Plan-F.Coalesce input) = level (Plan-F.Coalesce input.0)
      (opens (layout input.0) input.0 ToOne (λ k. readers k 1) (λ k. map (λ (p : Part). 0 ∷ []) (layout input.0 (k + 1)).parts) (λ k. 1)
      (λ k s. inlets k 1) input.1 (λ k s. all_readers k (k + (stages_in input.0 + 1)) 0 1 (room k (stages_in input.0))) (λ k. coalesced_aims 0 (layout input.0 (k + 1)).parts) (λ k. refl) (λ g i. refl))
  step (Plan-F.Repartition input to) = level (Plan-F.Repartition input.0 to)
      (opens (layout input.0) input.0 (way_to to) (λ k. readers k (partition_count to)) (λ k. map (λ (p : Part). numbers (partition_count to)) (layout input.0 (k + 1)).parts) (λ k. partition_count to)
      (λ k s. inlets k (partition_count to)) input.1 (λ k s. all_readers k (k + (stages_in input.0 + 1)) 0 (partition_count to) (room k (stages_in input.0))) (λ k. exchanged_aims to 0 (layout input.0 (k + 1)).parts) (λ k. exchanged_width to (length (layout input.0 (k + 1)).parts)) (way_sends to))
  step (Plan-F.UnionAll inputs) = level (Plan-F.UnionAll (plans inputs)) (united inputs)
  step (Plan-F.Limit input skip fetch) = level (Plan-F.Limit input.0 skip fetch) (passed (Plan-F.Limit input.0 skip fetch) (layout input.0) (stages_in input.0) (partitions_of f input.0) (tops input.0) refl input.1)

  pub grows : (p : Plan) → GrowsOf f p
  grows = ind-Plan (GrowsOf f) (λ x y is. subst (λ z. GrowsOf f (roll-Plan z)) is (step y))
