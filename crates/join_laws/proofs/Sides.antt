-- What each row of one side gives with all rows of the other.
use Rattle.std.proofs.Common.{ℕ, ◌+◌, ◌≡◌, refl, sym, ap, ◌∙◌, List, [], ◌∷◌, ◌++◌, Bool, true, false}
use Rattle.std.specs.List.{sum_by, flat_map}
use Rattle.std.proofs.lemmas.List.{append-nil}
use Rattle.std.proofs.lemmas.List.Concat.{flat_map-append}
use Rattle.std.proofs.lemmas.List.Sums.{sum_by-append}
use Rattle.logical_plan.specs.Items.{Cells, Item}
use Rattle.logical_plan.specs.Joins.{alone, when}
use Rattle.plan_props.specs.Meets.{Each}
use Rattle.content_laws.specs.Bags.{SameBag}
use Rattle.content_laws.proofs.Weights.{sum_same, sum-flat_map, bag-flat_map, none_left}

-- of each row, something of it and of what it has with all rows of the other side
abbrev pub side : (Cells → Cells → List Item) → (Cells → List Item → List Item) → List Cells → List Cells → List Item
side p g rs ls = flat_map (λ l. g l (flat_map (p l) rs)) ls

-- no row of these has anything with a row of those
abbrev pub Nothing : (Cells → Cells → List Item) → List Cells → List Cells → Type 0
Nothing p ls rs = Each (λ l. Each (λ r. p l r ≡ []) rs) ls

pub nothing_given : (p : Cells → Cells → List Item) (l : Cells) (rs : List Cells) → Each (λ r. p l r ≡ []) rs → flat_map (p l) rs ≡ []
nothing_given p l [] h = refl
nothing_given p l (r ∷ rs) h = ap (λ zs. zs ++ flat_map (p l) rs) h.0 ∙ nothing_given p l rs h.1

-- rows that nothing joins are left out
pub side_left : (p : Cells → Cells → List Item) (g : Cells → List Item → List Item) (rs more ls : List Cells) → Nothing p ls more → side p g (rs ++ more) ls ≡ side p g rs ls
side_left p g rs more [] h = refl
side_left p g rs more (l ∷ ls) h =
    ap (λ zs. g l zs ++ side p g (rs ++ more) ls) (flat_map-append (p l) rs more ∙ (ap (λ zs. flat_map (p l) rs ++ zs) (nothing_given p l more h.0) ∙ append-nil (flat_map (p l) rs)))
    ∙ ap (λ zs. g l (flat_map (p l) rs) ++ zs) (side_left p g rs more ls h.1)

pub side_right : (p : Cells → Cells → List Item) (g : Cells → List Item → List Item) (rs more ls : List Cells) → Nothing p ls more → side p g (more ++ rs) ls ≡ side p g rs ls
side_right p g rs more [] h = refl
side_right p g rs more (l ∷ ls) h =
    ap (λ zs. g l zs ++ side p g (more ++ rs) ls) (flat_map-append (p l) more rs ∙ ap (λ zs. zs ++ flat_map (p l) rs) (nothing_given p l more h.0))
    ∙ ap (λ zs. g l (flat_map (p l) rs) ++ zs) (side_right p g rs more ls h.1)

pub side_apart : (p : Cells → Cells → List Item) (g : Cells → List Item → List Item) (rs ss ls ks : List Cells) → Nothing p ls ss → Nothing p ks rs
    → side p g (rs ++ ss) (ls ++ ks) ≡ side p g rs ls ++ side p g ss ks
side_apart p g rs ss ls ks h k =
    flat_map-append (λ l. g l (flat_map (p l) (rs ++ ss))) ls ks
    ∙ (ap (λ zs. zs ++ side p g (rs ++ ss) ks) (side_left p g rs ss ls h) ∙ ap (λ zs. side p g rs ls ++ zs) (side_right p g ss rs ks k))

-- it doesn't hang on the order of either side, where g doesn't hang on that of what it takes
pub side_bag : (w : Item → ℕ) (p : Cells → Cells → List Item) (g : Cells → List Item → List Item) → ((l : Cells) (xs ys : List Item) → SameBag xs ys → sum_by w (g l xs) ≡ sum_by w (g l ys))
    → (rs ss ls ks : List Cells) → SameBag rs ss → SameBag ls ks → sum_by w (side p g rs ls) ≡ sum_by w (side p g ss ks)
side_bag w p g keeps rs ss ls ks h k =
    bag-flat_map (λ l. g l (flat_map (p l) rs)) ls ks k w
    ∙ (sum-flat_map (λ l. g l (flat_map (p l) rs)) w ks
    ∙ (sum_same (λ l. sum_by w (g l (flat_map (p l) rs))) (λ l. sum_by w (g l (flat_map (p l) ss))) (λ l. keeps l (flat_map (p l) rs) (flat_map (p l) ss) (bag-flat_map (p l) rs ss h)) ks
    ∙ sym (sum-flat_map (λ l. g l (flat_map (p l) ss)) w ks)))

pub nothing_turned : (p : Cells → Cells → List Item) (ls rs : List Cells) → Nothing p ls rs → Nothing (λ r l. p l r) rs ls
nothing_turned p ls [] h = tt
nothing_turned p ls (r ∷ rs) h = (heads ls h, nothing_turned p ls rs (tails ls h))
  where
    heads : (ks : List Cells) → Each (λ l. Each (λ r. p l r ≡ []) (r ∷ rs)) ks → Each (λ l. p l r ≡ []) ks
    heads [] h = tt
    heads (k ∷ ks) h = (h.0.0, heads ks h.1)

    tails : (ks : List Cells) → Each (λ l. Each (λ r. p l r ≡ []) (r ∷ rs)) ks → Each (λ l. Each (λ r. p l r ≡ []) rs) ks
    tails [] h = tt
    tails (k ∷ ks) h = (h.0.1, tails ks h.1)

-- ---- padded rows

-- whether anything is found doesn't hang on the order
pub alone_bag : (padded : Cells) (xs ys : List Item) → SameBag xs ys → alone padded xs ≡ alone padded ys
alone_bag padded [] [] h = refl
alone_bag padded (x ∷ xs) (y ∷ ys) h = refl
alone_bag padded [] (y ∷ ys) h = none_left y ys h
alone_bag padded (x ∷ xs) [] h = none_left x xs (λ w. sym (h w))

pub when_weigh : (w : Item → ℕ) (b : Bool) (xs ys : List Item) → sum_by w xs ≡ sum_by w ys → sum_by w (when b xs) ≡ sum_by w (when b ys)
when_weigh w true xs ys e = e
when_weigh w false xs ys e = refl

pub when_apart : (w : Item → ℕ) (b : Bool) (xs ys zs : List Item) → xs ≡ ys ++ zs → sum_by w (when b xs) ≡ sum_by w (when b ys) + sum_by w (when b zs)
when_apart w true xs ys zs e = ap (sum_by w) e ∙ sum_by-append w ys zs
when_apart w false xs ys zs e = refl

pub when_none : (w : Item → ℕ) (b : Bool) → sum_by w (when b []) ≡ 0
when_none w true = refl
when_none w false = refl
