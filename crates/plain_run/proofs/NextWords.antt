-- The words that are held after what drivers sample.
use Rattle.std.proofs.Common.{◌≡◌, ℕ, suc, ◌<◌, ◌≤◌, ◌^◌, ◌+◌, List, [], ◌∷◌, length, drop, get_or, add-one, drop-cons, Bool, true, false, refl, sym, ◌∙◌, ap, subst, Option, None, Some}
use Rattle.std.specs.Prelude.{slice_index, slice_get, unwrap_or, if◌then◌else◌}
use Rattle.std.specs.List.{AllByRecursion, flat_map, list_any}
use Rattle.std.specs.Int.{bit_at}
use Rattle.std.proofs.lemmas.List.{length-map, drop_all}
use Rattle.net_ir.specs.declared.design.Var.{Var}
use Rattle.net_ir.specs.declared.design.Driver.{Driver}
use Rattle.net_ir.specs.declared.design.Driver.TheVariants as driver
use Rattle.net_ir.specs.declared.design.Driver.TheVariants.{Assign, Comb, Clocked}
use Rattle.net_ir.specs.declared.design.Spec.{Spec}
use Rattle.net_ir.specs.declared.statement.Stmt.{Stmt}
use Rattle.net_ir.specs.Value.{widths_of}
use Rattle.net_ir.specs.Target.{Write, last_bit, later_or, overlaid}
use Rattle.net_ir.specs.Statement.{bit_after, clocked_writes, targets_of}
use Rattle.net_ir.specs.Drive.{any_may_write, holds, NoneHolds}
use Rattle.net_ir.specs.Register.{Register, registers_of, register_words, part_of}
use Rattle.net_ir.specs.Run.{occurs, sampled, all_sampled}
use Rattle.net_ir.specs.Stepping.{Samples}
use Rattle.net_values.specs.Writes.{IsWithin, AreWithin}
use Rattle.plain_run.specs.code.Pass.{KeepsInitial}
use Rattle.net_values.proofs.Elements.{all_from, all_flat}
use Rattle.net_values.proofs.Variables.{length-widths}
use Rattle.net_values.proofs.BitWrites.{last_append}
use Rattle.plain_run.proofs.Registers.{part_fits, register_word, register_bit, word_bit}
use Rattle.net_values.proofs.Overlays.{overlaid_bits, overlaid-append}
use Rattle.net_values.proofs.Statements.{statement_within, statement_may}

-- ---- what is sampled is within the widths

if_all : {X : Type 0} (P : X → Type 0) (t : Bool) (xs : List X) → AllByRecursion P xs → AllByRecursion P (if t then xs else [])
if_all P true xs all = all
if_all P false xs all = tt

pub sampled_within : (vars : List Var) (u before after : List ℕ) (d : Driver) → AreWithin (widths_of vars) (sampled vars u before after d)
sampled_within vars u before after (Assign target value at) = tt
sampled_within vars u before after (Comb body at) = tt
sampled_within vars u before after (Clocked triggers body at) =
    if_all (IsWithin (widths_of vars)) (list_any (occurs before after) triggers) (clocked_writes vars u body) (statement_within vars u body)
sampled_within vars u before after (driver.Instance made) = tt

pub all_sampled_within : (spec : Spec) (u before after : List ℕ) → AreWithin (widths_of spec.vars) (all_sampled spec u before after)
all_sampled_within spec u before after =
    all_flat (IsWithin (widths_of spec.vars)) (sampled spec.vars u before after) spec.drivers (each spec.drivers) where
      each : (drivers : List Driver) → AllByRecursion (λ d. AreWithin (widths_of spec.vars) (sampled spec.vars u before after d)) drivers
      each [] = tt
      each (d ∷ drivers) = (sampled_within spec.vars u before after d, each drivers)

-- ---- what no register has is not sampled

clocked_none : (vars : List Var) (u : List ℕ) (x k : ℕ) (body : Stmt) → any_may_write vars (targets_of body) x k ≡ false →
    last_bit (clocked_writes vars u body) x k ≡ None
clocked_none vars u x k body clear = by_found (last_bit (clocked_writes vars u body) x k) refl where
  by_found : (found : Option ℕ) → last_bit (clocked_writes vars u body) x k ≡ found → found ≡ None
  by_found None is = refl
  by_found (Some bit) is = absurd (let clash : true ≡ false = sym (statement_may vars u body x k bit is) ∙ clear in cc)

sampled_none : (vars : List Var) (u before after : List ℕ) (x k : ℕ) (d : Driver) → holds vars d x k ≡ false → last_bit (sampled vars u before after d) x k ≡ None
sampled_none vars u before after x k (Assign target value at) clear = refl
sampled_none vars u before after x k (Comb body at) clear = refl
sampled_none vars u before after x k (Clocked triggers body at) clear = by_test (list_any (occurs before after) triggers) where
  by_test : (t : Bool) → last_bit (if t then clocked_writes vars u body else []) x k ≡ None
  by_test true = clocked_none vars u x k body clear
  by_test false = refl
sampled_none vars u before after x k (driver.Instance made) clear = refl

none_flat : {X : Type 0} (f : X → List Write) (xs : List X) (x k : ℕ) → AllByRecursion (λ a. last_bit (f a) x k ≡ None) xs → last_bit (flat_map f xs) x k ≡ None
none_flat f [] x k none = refl
none_flat f (a ∷ xs) x k none =
    last_append (f a) (flat_map f xs) x k ∙ ap (λ found. later_or found (last_bit (f a) x k)) (none_flat f xs x k none.1) ∙ none.0

all_sampled_none : (spec : Spec) (u before after : List ℕ) (x k : ℕ) → NoneHolds spec.vars spec.drivers x k → last_bit (all_sampled spec u before after) x k ≡ None
all_sampled_none spec u before after x k none =
    none_flat (sampled spec.vars u before after) spec.drivers x k
    (all_from (λ d. holds spec.vars d x k ≡ false) (λ d. last_bit (sampled spec.vars u before after d) x k ≡ None)
    (λ d clear. sampled_none spec.vars u before after x k d clear) spec.drivers none)

-- ---- drivers one after another

-- the writes of one element more
pub overlaid_more : {X : Type 0} (f : X → List Write) (xs : List X) (i : ℕ) (x : X) (u v : List ℕ) → i < length xs → x ≡ get_or xs i x → v ≡ overlaid u (f x) →
    overlaid v (flat_map f (drop (i + 1) xs)) ≡ overlaid u (flat_map f (drop i xs))
overlaid_more f xs i x u v within is step =
    let split : drop i xs ≡ x ∷ drop (i + 1) xs = rw (add-one, drop-cons xs i x within) (ap (λ y. y ∷ drop (suc i) xs) (sym is)) in
    ap (λ w. overlaid w (flat_map f (drop (i + 1) xs))) step
    ∙ sym (overlaid-append u (f x) (flat_map f (drop (i + 1) xs)))
    ∙ sym (ap (λ ys. overlaid u (flat_map f ys)) split)

pub overlaid_all : {X : Type 0} (f : X → List Write) (xs : List X) (i : ℕ) (u : List ℕ) → length xs ≤ i → overlaid u (flat_map f (drop i xs)) ≡ u
overlaid_all f xs i u past = ap (λ ys. overlaid u (flat_map f ys)) (drop_all i xs past)

-- ---- the next words

-- the words that are held, with what the drivers sample on them
abbrev pub next_words : Spec → List ℕ → List ℕ → List ℕ → List ℕ → List ℕ
next_words spec u before after held = overlaid held (all_sampled spec u before after)

next_bit : (spec : Spec) (u before after held : List ℕ) (x k : ℕ) (v : Var) → length held ≡ length spec.vars → slice_get spec.vars x ≡ Some v →
    bit_at (slice_index (next_words spec u before after held) x) k ≡ bit_after (all_sampled spec u before after) x k (bit_at (slice_index held x) k)
next_bit spec u before after held x k v long at =
    overlaid_bits (widths_of spec.vars) held (all_sampled spec u before after) x k (long ∙ sym (length-widths spec.vars))
    (all_sampled_within spec u before after)

-- so the registers sample
pub samples_next : (spec : Spec) (u before after held : List ℕ) → length held ≡ length spec.vars →
    Samples spec u before after (register_words (registers_of spec) held) (register_words (registers_of spec) (overlaid held (all_sampled spec u before after)))
samples_next spec u before after held long =
    let next = next_words spec u before after held in record {
      each = length-map (registers_of spec) (λ (r : Register). part_of (slice_index next r.var) r.low r.width);
      fits = λ i r at. subst (λ n. n < 2 ^ r.width) (sym (register_word (registers_of spec) next i r at)) (part_fits (slice_index next r.var) r.low r.width);
      bits = λ i k r at below.
          let bit = register_bit spec i r k at below in
          word_bit spec next i r k at below
          ∙ next_bit spec u before after held r.var (r.low + k) bit.variable long bit.at
          ∙ ap (λ n. bit_after (all_sampled spec u before after) r.var (r.low + k) n) (sym (word_bit spec held i r k at below));
    }

-- what no register has stays initial
pub initial_next : (spec : Spec) (u before after held : List ℕ) → length held ≡ length spec.vars → KeepsInitial spec held →
    KeepsInitial spec (overlaid held (all_sampled spec u before after))
initial_next spec u before after held long initial x k v at within none =
    next_bit spec u before after held x k v long at
    ∙ ap (λ found. unwrap_or found (bit_at (slice_index held x) k)) (all_sampled_none spec u before after x k none)
    ∙ initial x k v at within none
