-- Figures that stop one above their limits, counted from those of the kids.
use Rattle.std.specs.Prelude.{◌≡◌, ℕ, ◌+◌, ◌*◌, ◌<◌, max, min, List, length, slice_index_or, fold}
use Rattle.code_isa.specs.Tree.{Tree}
use Rattle.linked_units.specs.declared.limits.TheConstants.{DEPTH_LIMIT, PRODUCT_LIMIT, MODEL_LIMIT}
use Rattle.linked_units.specs.declared.figures.Figures.{Figures}
use Rattle.linked_units.specs.Figures.{depth_of, product_of, models_of}
use Rattle.linked_units.specs.Units.{Units, IsTreeOf}

-- the figures of a unit without kids, its own factor apart
abbrev pub alone : Figures
alone = record { depth = 0; product = 1; models = 1 }

-- with one kid more
abbrev pub joined : Figures → Figures → Figures
joined others kid = record {
  depth = min (max others.depth (kid.depth + 1)) (DEPTH_LIMIT + 1);
  product = max others.product kid.product;
  models = min (others.models + kid.models) (MODEL_LIMIT + 1);
}

-- with all of these kids
abbrev pub all_joined : List Figures → List ℕ → Figures
all_joined figures kids = fold (λ others kid. joined others (slice_index_or figures kid alone)) alone kids

-- with its own factor
abbrev pub with_factor : ℕ → Figures → Figures
with_factor factor f = record { depth = f.depth; product = min (factor * f.product) (PRODUCT_LIMIT + 1); models = f.models }

-- these numbers, where they do not stop before
pub record Stop (f : Figures) (d p m : ℕ) : Type 0 where
  pub depth : f.depth ≡ min d (DEPTH_LIMIT + 1)
  pub product : f.product ≡ min p (PRODUCT_LIMIT + 1)
  pub models : f.models ≡ min m (MODEL_LIMIT + 1)

-- the figures of a tree
abbrev pub AreOf : Figures → Tree → Type 0
AreOf f t = Stop f (depth_of t) (product_of t) (models_of t)

-- the figures of the trees of units, from the first on
abbrev pub AreFigures : List Figures → Units → Type 0
AreFigures figures units = (k : ℕ) (t : Tree) → k < length figures → IsTreeOf t units k → AreOf (slice_index_or figures k alone) t
