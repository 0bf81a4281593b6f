-- What the evaluator's pass leaves.
use Rattle.std.proofs.Common.{◌≡◌, ℕ, zero, suc, ◌<◌, ◌≤◌, ◌+◌, List, [], ◌∷◌, ◌++◌, length, map, take, drop, get_or, refl, sym, ◌∙◌, ap, subst, arith}
use Rattle.std.specs.Prelude.{slice_set}
use Rattle.std.specs.List.{AllByRecursion}
use Rattle.std.proofs.lemmas.List.{length-map, take_more, take_more_set}
use Rattle.std.proofs.Common.{take_all, add-one, drop-cons}
use Rattle.net_ir.specs.declared.design.Role.{Role}
use Rattle.net_ir.specs.declared.design.Role.TheVariants.{Input, Output, Inner}
use Rattle.bit_ops.specs.declared.value.Bits.{Bits}
use Rattle.net_ir.specs.declared.design.Var.{Var}
use Rattle.net_ir.specs.declared.design.Driver.{Driver}
use Rattle.bit_ops.specs.Lists.{words, widths}
use Rattle.net_ir.specs.Value.{widths_of}
use Rattle.plain_run.specs.code.Pass.{turn, run, source_at, source_of, sources_of}

-- what a function of each element gives of a list with one element changed
pub map-set : {X Y : Type 0} (f : X → Y) (xs : List X) (i : ℕ) (x : X) → map f (slice_set xs i x) ≡ slice_set (map f xs) i (f x)
map-set f [] i x = refl
map-set f (y ∷ xs) zero x = refl
map-set f (y ∷ xs) (suc i) x = ap (λ ys. f y ∷ ys) (map-set f xs i x)

-- ---- the loop over the drivers

pub all_at : {X : Type 0} (P : X → Type 0) (xs : List X) (i : ℕ) (x : X) → AllByRecursion P xs → i < length xs → x ≡ get_or xs i x → P x
all_at P [] i x all within is = absurd (omega arith)
all_at P (y ∷ xs) zero x all within is = subst P (sym is) all.0
all_at P (y ∷ xs) (suc i) x all within is = all_at P xs i x all.1 (omega arith) is

-- one driver more
pub run_more : (vars : List Var) (drivers : List Driver) (i : ℕ) (d : Driver) (u v : List ℕ) → i < length drivers → d ≡ get_or drivers i d → v ≡ turn vars d u →
    run vars (drop (i + 1) drivers) v ≡ run vars (drop i drivers) u
run_more vars drivers i d u v within is step =
    let split : drop i drivers ≡ d ∷ drop (i + 1) drivers = rw (add-one, drop-cons drivers i d within) (ap (λ x. x ∷ drop (suc i) drivers) (sym is)) in
    ap (run vars (drop (i + 1) drivers)) step ∙ sym (ap (λ ds. run vars ds u) split)

-- ---- what stands before the drivers

length_sources : (vars : List Var) (inputs held : List Bits) → length inputs ≡ length vars → length held ≡ length vars →
    length (sources_of vars inputs held) ≡ length vars
length_sources [] inputs held long kept = refl
length_sources (v ∷ vars) [] held long kept = absurd (omega arith)
length_sources (v ∷ vars) (b ∷ inputs) [] long kept = absurd (omega arith)
length_sources (v ∷ vars) (b ∷ inputs) (h ∷ held) long kept = ap (λ n. suc n) (length_sources vars inputs held (omega arith) (omega arith))

pub source_index : (vars : List Var) (inputs held : List Bits) (i : ℕ) (v : Var) (b h d : Bits) → i < length vars → i < length inputs → i < length held →
    v ≡ get_or vars i v → b ≡ get_or inputs i b → h ≡ get_or held i h → get_or (sources_of vars inputs held) i d ≡ source_of v b h
source_index [] inputs held i v b h d here there near is_v is_b is_h = absurd (omega arith)
source_index (w ∷ vars) [] held i v b h d here there near is_v is_b is_h = absurd (omega arith)
source_index (w ∷ vars) (a ∷ inputs) [] i v b h d here there near is_v is_b is_h = absurd (omega arith)
source_index (w ∷ vars) (a ∷ inputs) (g ∷ held) zero v b h d here there near is_v is_b is_h =
    ap (λ x. source_of x a g) (sym is_v) ∙ ap (λ x. source_of v x g) (sym is_b) ∙ ap (source_of v b) (sym is_h)
source_index (w ∷ vars) (a ∷ inputs) (g ∷ held) (suc i) v b h d here there near is_v is_b is_h =
    source_index vars inputs held i v b h d (omega arith) (omega arith) (omega arith) is_v is_b is_h

pub more_sources : (vars : List Var) (inputs held values : List Bits) (i : ℕ) (v : Var) (b h s : Bits) → length inputs ≡ length vars →
    length held ≡ length vars → length values ≡ length vars → i < length vars → v ≡ get_or vars i v → b ≡ get_or inputs i b → h ≡ get_or held i h →
    s ≡ source_of v b h → take i values ≡ take i (sources_of vars inputs held) →
    take (i + 1) (slice_set values i s) ≡ take (i + 1) (sources_of vars inputs held)
more_sources vars inputs held values i v b h s long kept shape within is_v is_b is_h is so_far =
    let n = length_sources vars inputs held long kept in
    take_more_set values i s (omega arith)
    ∙ ap (λ xs. xs ++ s ∷ []) so_far
    ∙ ap (λ x. take i (sources_of vars inputs held) ++ x ∷ []) (is ∙ sym (source_index vars inputs held i v b h s within (omega arith) (omega arith) is_v is_b is_h))
    ∙ sym (take_more (sources_of vars inputs held) i s (omega arith))

pub all_sources : (vars : List Var) (inputs held values : List Bits) (i : ℕ) → length inputs ≡ length vars → length held ≡ length vars →
    length values ≡ length vars → length vars ≤ i → take i values ≡ take i (sources_of vars inputs held) → values ≡ sources_of vars inputs held
all_sources vars inputs held values i long kept shape all so_far =
    sym (take_all i values (omega arith)) ∙ so_far ∙ take_all i (sources_of vars inputs held) (let n = length_sources vars inputs held long kept in omega arith)

source_width : (r : Role) (input held : Bits) (width : ℕ) → input.width ≡ width → held.width ≡ width → (source_at r input held).width ≡ width
source_width Input input held width a b = a
source_width Output input held width a b = b
source_width Inner input held width a b = b

pub sources_widths : (vars : List Var) (inputs held : List Bits) → widths inputs ≡ widths_of vars → widths held ≡ widths_of vars →
    widths (sources_of vars inputs held) ≡ widths_of vars
sources_widths [] inputs held is kept = refl
sources_widths (v ∷ vars) [] held is kept = is
sources_widths (v ∷ vars) (b ∷ inputs) [] is kept = kept
sources_widths (v ∷ vars) (b ∷ inputs) (h ∷ held) is kept =
    let first : b.width ≡ v.width = cc in
    let second : h.width ≡ v.width = cc in
    let rest : widths inputs ≡ widths_of vars = cc in
    let others : widths held ≡ widths_of vars = cc in
    ap (λ n. n ∷ widths (sources_of vars inputs held)) (source_width v.role b h v.width first second)
    ∙ ap (λ xs. v.width ∷ xs) (sources_widths vars inputs held rest others)

pub length_from_widths : (values : List Bits) (vars : List Var) → widths values ≡ widths_of vars → length values ≡ length vars
length_from_widths values vars is = sym (length-map values (λ b. b.width)) ∙ ap length is ∙ length-map vars (λ v. v.width)

pub long_words : (values : List Bits) (vars : List Var) → widths values ≡ widths_of vars → length (words values) ≡ length vars
long_words values vars is = length-map values (λ b. b.word) ∙ length_from_widths values vars is
