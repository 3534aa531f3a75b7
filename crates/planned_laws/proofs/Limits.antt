-- Where the limit of a query stands in its plan.
use Rattle.std.specs.Prelude.{nat_lt, is_some}
use Rattle.std.proofs.Common.{ℕ, ◌≡◌, refl, sym, ap, ◌∙◌, subst, cond, Bool, true, false, ◌||◌, List, [], ◌∷◌}
use Rattle.std.proofs.lemmas.Bool.{false≢true}
use Rattle.dfx_value.specs.declared.rows.SortKey.{SortKey}
use Rattle.logical_plan.specs.declared.query.Query.{Query}
use Rattle.physical_plan.specs.declared.plan.Plan.{Plan, out-Plan}
use Rattle.physical_plan.specs.declared.plan.Plan.TheOpen.{Plan-F}
use Rattle.physical_plan.specs.declared.plan.Plan.TheViews.{roll-Plan, roll-out-Plan}
use Rattle.physical_plan.specs.declared.plan.Plan.TheVariants.{Limit, outs-Sort, outs-Limit, rolls-Limit}
use Rattle.physical_plan.specs.Everywhere.{everywhere}
use Rattle.planned_laws.specs.Finished.{no_limit, LimitAtRoot}
use Rattle.planned_laws.specs.Plain.{plain, lone, IsBody}
use Rattle.physical_build.specs.Build.{sorted_by, body_plan, build}
use Rattle.physical_plan.proofs.Everywhere.{and_parts, parts-Limit}
use Rattle.planned_laws.proofs.Weaker.{weaker}
use Rattle.planned_laws.specs.Planned.{IsPlanned}
use Rattle.planned_laws.proofs.Plains.{body_is_plain}

pub no_top : (z : Plan-F Plan) → everywhere no_limit (roll-Plan z) ≡ true → no_limit z ≡ true
no_top (Plan-F.Limit x skip fetch) e = absurd (false≢true (parts-Limit no_limit x skip fetch (sym (ap (everywhere no_limit) (rolls-Limit x skip fetch)) ∙ e)).0)
no_top _ e = refl

sorted_top : (order : List SortKey) (b : Plan) → IsBody b → no_limit (out-Plan (sorted_by order b)) ≡ true
sorted_top [] b h = no_top (out-Plan b) (ap (everywhere no_limit) (roll-out-Plan b) ∙ weaker lone no_limit (λ z t. (and_parts (no_limit z) (plain z) t).0) b h.everywhere_lone)
sorted_top (k ∷ ks) b h = ap no_limit (outs-Sort b (k ∷ ks))

none_by : (z : Plan-F Plan) (p : Plan) → no_limit z ≡ true → LimitAtRoot z p → everywhere no_limit p ≡ true
none_by (Plan-F.Limit x skip fetch) p e h = absurd (false≢true e)
none_by _ p e h = h

module _ (q : Query) (files : List ℕ) (p : Plan) (n : ℕ) (f : IsPlanned q files p n) where
  abbrev body : Plan
  body = sorted_by q.order (body_plan files n q.body)

  pub on_top : is_some q.limit || nat_lt 0 q.offset ≡ true → (r : Plan) × (p ≡ Limit r q.offset q.limit) × (everywhere no_limit r ≡ true)
  on_top e =
      let d : build q files n ≡ Limit body q.offset q.limit = ap (λ (b : Bool). cond b (Limit body q.offset q.limit) body) e in
      subst (λ (z : Plan-F Plan). LimitAtRoot z p) (ap out-Plan d ∙ outs-Limit body q.offset q.limit) f.limit_top

  pub without : is_some q.limit || nat_lt 0 q.offset ≡ false → everywhere no_limit p ≡ true
  without e =
      let d : build q files n ≡ body = ap (λ (b : Bool). cond b (Limit body q.offset q.limit) body) e in
      none_by (out-Plan (build q files n)) p (ap (λ (r : Plan). no_limit (out-Plan r)) d ∙ sorted_top q.order (body_plan files n q.body) (body_is_plain files n q.body)) f.limit_top
