-- Figures that stop one above their limits are those of the trees.
use Rattle.std.proofs.Common.{◌≡◌, ℕ, ◌+◌, ◌*◌, ◌<◌, ◌≤◌, max, min, List, [], ◌∷◌, ◌++◌, length, get_or, fold, Some, sym, ◌∙◌, ap, subst, arith, inl, inr}
use Rattle.std.specs.Prelude.{slice_get, All}
use Rattle.std.specs.List.{AllByRecursion}
use Rattle.std.proofs.Common.{length-append}
use Rattle.std.proofs.Math.ListN.{get_or-append}
use Rattle.std.proofs.Math.Seq.{get_or-append_seam}
use Rattle.std.proofs.lemmas.Bool.{cases_lt}
use Rattle.code_isa.specs.declared.machine.Kid.{Kid}
use Rattle.code_isa.specs.declared.machine.Machine.{Machine}
use Rattle.code_isa.specs.Tree.{Tree, node, Forest, no_tree, tree_and}
use Rattle.linked_units.specs.declared.unit.Unit as declared
use Rattle.linked_units.specs.declared.limits.TheConstants.{DEPTH_LIMIT, PRODUCT_LIMIT, MODEL_LIMIT}
use Rattle.linked_units.specs.declared.figures.Figures.{Figures}
use Rattle.linked_units.specs.Figures.{depth_of, depth_below, factor_with, factor_of, product_of, product_below, models_of, models_below}
use Rattle.linked_units.specs.Units.{Units, IsTreeOf, AreTreesOf}
use Rattle.linked_units.specs.code.Counting.{alone, joined, all_joined, with_factor, Stop, AreOf, AreFigures}
use Rattle.linked_units.proofs.Numbers.{product_stops}
use Rattle.linked_units.proofs.Places.{code_is, kids_are, one_code, each_of_all}

joined_stop : (f g : Figures) (d p m e q n : ℕ) → Stop f d p m → Stop g e q n → Stop (joined f g) (max d (e + 1)) (max p q) (m + n)
joined_stop f g d p m e q n a b = record {
  depth = omega (arith, a.depth, b.depth);
  product = omega (arith, a.product, b.product);
  models = omega (arith, a.models, b.models);
}

stop_as : (f : Figures) (d p m e q n : ℕ) → d ≡ e → p ≡ q → m ≡ n → Stop f d p m → Stop f e q n
stop_as f d p m e q n x y z s = record {
  depth = subst (λ k. f.depth ≡ min k (DEPTH_LIMIT + 1)) x s.depth;
  product = subst (λ k. f.product ≡ min k (PRODUCT_LIMIT + 1)) y s.product;
  models = subst (λ k. f.models ≡ min k (MODEL_LIMIT + 1)) z s.models;
}

-- the figures of all kids of a unit
all_stop : (figures : List Figures) (units : Units) → AreFigures figures units
    → (trees : Forest) (kids : List ℕ) (f : Figures) (d p m : ℕ) → AreTreesOf trees units kids → AllByRecursion (λ kid. kid < length figures) kids
    → 1 ≤ p → Stop f d p m
    → Stop (fold (λ others kid. joined others (get_or figures kid alone)) f kids) (max d (depth_below trees)) (max p (product_below trees)) (m + models_below trees)
all_stop figures units known no_tree [] f d p m below within one s = stop_as f d p m (max d 0) (max p 1) (m + 0) (omega arith) (omega arith) (omega arith) s
all_stop figures units known no_tree (kid ∷ kids) f d p m below within one s = absurd below
all_stop figures units known (tree_and t trees) [] f d p m below within one s = absurd below
all_stop figures units known (tree_and t trees) (kid ∷ kids) f d p m below within one s =
    let own = known kid t within.0 below.0 in
    let more = joined_stop f (get_or figures kid alone) d p m (depth_of t) (product_of t) (models_of t) s own in
    let z = joined f (get_or figures kid alone) in
    let a : ℕ = max d (depth_of t + 1) in
    let b : ℕ = max p (product_of t) in
    let c : ℕ = m + models_of t in
    stop_as _ (max a (depth_below trees)) (max b (product_below trees)) (c + models_below trees) _ _ _ (omega arith) (omega arith) (omega arith)
    (all_stop figures units known trees kids z a b c below.1 within.1 (omega arith) more)

pub product_positive : (trees : Forest) → 1 ≤ product_below trees
product_positive no_tree = omega arith
product_positive (tree_and t trees) = let h = product_positive trees in omega (arith, h)

pub factor_with_positive : (kids : List Kid) (chain : ℕ) → 1 ≤ factor_with kids chain
factor_with_positive [] chain = omega arith
factor_with_positive (kid ∷ kids) chain = omega arith

-- the figures of a unit are those of its tree, where those of the units before it are
pub own_figures : (figures : List Figures) (units : Units) (n : ℕ) (u : declared.Unit) (t : Tree) → AreFigures figures units
    → slice_get units n ≡ Some u → All (λ kid. kid < length figures) u.kids → IsTreeOf t units n
    → AreOf (with_factor (factor_of u.code) (all_joined figures u.kids)) t
own_figures figures units n u (node m trees) known is lower below =
    let same : m ≡ u.code = one_code units n m u.code below.0 (code_is units n u is) in
    let trees_are : AreTreesOf trees units u.kids = subst (λ kids. AreTreesOf trees units kids) (kids_are units n u is) below.1 in
    let p : ℕ = product_below trees in
    let one : 1 ≤ p = product_positive trees in
    let all = all_joined figures u.kids in
    let start : Stop alone 0 1 1 = record { depth = omega arith; product = omega arith; models = omega arith } in
    let s = all_stop figures units known trees u.kids alone 0 1 1 trees_are (each_of_all (λ kid. kid < length figures) u.kids lower) (omega arith) start in
    let f : ℕ = factor_of u.code in
    let e : all.product ≡ min p (PRODUCT_LIMIT + 1) = omega (arith, s.product) in
    let product : min (f * all.product) (PRODUCT_LIMIT + 1) ≡ min (f * p) (PRODUCT_LIMIT + 1) =
    ap (λ x. min (f * x) (PRODUCT_LIMIT + 1)) e ∙ product_stops f p (PRODUCT_LIMIT + 1) (factor_with_positive u.code.kids u.code.chain) in
    record {
      depth = omega (arith, s.depth);
      product = subst (λ (k : Machine). min (f * all.product) (PRODUCT_LIMIT + 1) ≡ min (factor_of k * p) (PRODUCT_LIMIT + 1)) (sym same) product;
      models = omega (arith, s.models);
    }

-- one unit more
pub figures_more : (figures : List Figures) (units : Units) (u : declared.Unit) → AreFigures figures units
    → slice_get units (length figures) ≡ Some u → All (λ kid. kid < length figures) u.kids
    → AreFigures (figures ++ with_factor (factor_of u.code) (all_joined figures u.kids) ∷ []) units
figures_more figures units u known is lower k t inside below =
    let f : Figures = with_factor (factor_of u.code) (all_joined figures u.kids) in
    elim (cases_lt k (length figures)) [
      | inl before ↦ subst (λ g. AreOf g t) (sym (get_or-append figures (f ∷ []) alone k before)) (known k t before below)
      | inr above ↦ (
          let last : k ≡ length figures = omega (arith, length-append figures (f ∷ [])) in
          let at : get_or (figures ++ f ∷ []) k alone ≡ f = subst (λ i. get_or (figures ++ f ∷ []) i alone ≡ f) (sym last) (get_or-append_seam figures f [] alone) in
          subst (λ g. AreOf g t) (sym at)
          (own_figures figures units (length figures) u t known is lower (subst (λ i. IsTreeOf t units i) last below)))
    ]
