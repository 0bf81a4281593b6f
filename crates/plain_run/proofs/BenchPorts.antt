-- The ports of a design among its variables.
use Rattle.std.proofs.Common.{◌≡◌, ℕ, zero, suc, ◌<◌, ◌≤◌, ◌+◌, List, [], ◌∷◌, ◌++◌, length, map, take, drop, get_or, Bool, true, false, refl, sym, ◌∙◌, ap, subst, arith, Some}
use Rattle.std.specs.Prelude.{slice_get, slice_index, if◌then◌else◌, option_map}
use Rattle.std.specs.List.{AllByRecursion}
use Rattle.std.specs.Int.{bit_at}
use Rattle.std.proofs.lemmas.List.{length-map}
use Rattle.std.proofs.lemmas.Option.{slice_get-map, slice_get_read, get_or_from_slice_get, slice_get-get_or}
use Rattle.std.proofs.lemmas.Grind.{get_or_default_zero}
use Rattle.bit_ops.specs.declared.value.Bits.{Bits}
use Rattle.bit_ops.specs.Lists.{words, widths}
use Rattle.sv_base.specs.declared.face.Class.{Class}
use Rattle.sv_base.specs.declared.face.Class.TheVariants as class
use Rattle.sv_base.specs.declared.face.Port.{Port}
use Rattle.net_ir.specs.declared.design.Role.{Role}
use Rattle.net_ir.specs.declared.design.Role.TheVariants.{Input, Output, Inner}
use Rattle.net_ir.specs.declared.design.Var.{Var}
use Rattle.net_ir.specs.declared.design.Spec.{Spec}
use Rattle.net_ir.specs.Value.{widths_of}
use Rattle.net_ir.specs.Face.{stands_in, clocks_of, all_reads, input_class, class_of, port_of, is_inner, ports_from, ports_of}
use Rattle.plain_run.specs.Plain.{IsPlain}
use Rattle.plain_run.specs.code.Pass.{KeepsInitial, state_of}
use Rattle.net_ir.specs.Stepping.{Samples}
use Rattle.net_ir.specs.Solution.{Solves}
use Rattle.net_ir.specs.Register.{registers_of, register_words}
use Rattle.plain_run.specs.Places.{places_from, set_places}
use Rattle.sv_base.specs.Classes.{is_value, is_clock, is_output, words_of_class}
use Rattle.sv_base.specs.Meaning.{held_in, widths_of_class}
use Rattle.net_ir.specs.Run.{start}
use Rattle.plain_run.specs.Settled.{held_of}
use Rattle.plain_run.proofs.Ports.{ports_among}
use Rattle.plain_run.proofs.PlainFaces.{some_clock}
use Rattle.plain_run.proofs.Places.{all_at, all_from, map_agree, all_below, place_if, written_whole, at_places, class_words, class_count, class_taken, class_kept}

-- ---- ports are first variables

widths_if : (b : Bool) (p : Port) (ports : List Port) (v : Var) (vars : List Var) (i : ℕ) → p.width ≡ v.width →
    ((k : ℕ) → k < length ports → slice_index (map (λ (q : Port). q.width) ports) k ≡ slice_index (widths_of vars) k) →
    i < length (if b then [] else p ∷ ports) →
    slice_index (map (λ (q : Port). q.width) (if b then [] else p ∷ ports)) i ≡ slice_index (widths_of (v ∷ vars)) i
widths_if true p ports v vars i here rest within = absurd (omega arith)
widths_if false p ports v vars zero here rest within = here
widths_if false p ports v vars (suc i) here rest within = rest i (omega arith)

pub ports_widths : (spec : Spec) (n : ℕ) (vars : List Var) (i : ℕ) → i < length (ports_from spec n vars) →
    slice_index (map (λ (q : Port). q.width) (ports_from spec n vars)) i ≡ slice_index (widths_of vars) i
ports_widths spec n [] i within = absurd (omega arith)
ports_widths spec n (v ∷ vars) i within =
    widths_if (is_inner v.role) (port_of spec n v) (ports_from spec (n + 1) vars) v vars i refl (λ k less. ports_widths spec (n + 1) vars k less) within

-- the widths of the ports of a class are those of the variables at their places
pub widths_at_places : (chosen : Class → Bool) (spec : Spec) →
    widths_of_class chosen (ports_of spec) ≡ at_places (widths_of spec.vars) (places_from chosen 0 (ports_of spec))
widths_at_places chosen spec =
    let ports = ports_of spec in
    let port_widths = map (λ (p : Port). p.width) ports in
    let long : length ports ≤ length port_widths = let same = length-map ports (λ (p : Port). p.width) in omega (arith, same) in
    sym (class_words chosen ports port_widths long)
    ∙ map_agree (slice_index port_widths) (slice_index (widths_of spec.vars)) (places_from chosen 0 ports)
    (all_from (λ p. p < length ports) (λ p. slice_index port_widths p ≡ slice_index (widths_of spec.vars) p)
    (λ p less. ports_widths spec 0 spec.vars p less) (places_from chosen 0 ports)
    (all_below chosen ports (length ports) (omega arith)))

-- there are as many values as ports at least
pub ports_long : (spec : Spec) (values : List Bits) → widths values ≡ widths_of spec.vars → length (ports_of spec) ≤ length values
ports_long spec values same =
    let each : length values ≡ length spec.vars = sym (length-map values (λ b. b.width)) ∙ ap length same ∙ length-map spec.vars (λ v. v.width) in
    let few = ports_among spec in omega (arith, each, few)

pub words_long : (spec : Spec) (values : List Bits) → widths values ≡ widths_of spec.vars → length (ports_of spec) ≤ length (words values)
words_long spec values same = let long = ports_long spec values same in let each = length-map values (λ (b : Bits). b.word) in omega (arith, long, each)

-- and a word for each port of a class
pub each_word : (chosen : Class → Bool) (spec : Spec) (values : List Bits) → widths values ≡ widths_of spec.vars →
    length (words_of_class chosen (ports_of spec) (words values)) ≡ length (widths_of_class chosen (ports_of spec))
each_word chosen spec values same =
    class_count chosen (ports_of spec) (words values) (words_long spec values same)
    ∙ sym (ap length (widths_at_places chosen spec) ∙ length-map (places_from chosen 0 (ports_of spec)) (slice_index (widths_of spec.vars)))

-- there are as many clocks as places of clocks
pub clocks_counted : (spec : Spec) → length (widths_of_class is_clock (ports_of spec)) ≡ length (places_from is_clock 0 (ports_of spec))
clocks_counted spec = ap length (widths_at_places is_clock spec) ∙ length-map (places_from is_clock 0 (ports_of spec)) (slice_index (widths_of spec.vars))

-- ---- clocks have one bit

abbrev HasOneBit : Spec → ℕ → Type 0
HasOneBit spec x = slice_index (widths_of spec.vars) x ≡ 1

-- a clock stands in an event control
clock_class : (stands read : Bool) → is_clock (input_class stands read) ≡ true → stands ≡ true
clock_class true read is = refl
clock_class false true is = absurd (cc)
clock_class false false is = absurd (cc)

clock_stands : (spec : Spec) (n : ℕ) (role : Role) → is_clock (class_of spec n role) ≡ true → stands_in n (clocks_of spec) ≡ true
clock_stands spec n Input is = clock_class (stands_in n (clocks_of spec)) (stands_in n (all_reads spec)) is
clock_stands spec n Output is = absurd (cc)
clock_stands spec n Inner is = absurd (cc)

ports_if : (P : ℕ → Type 0) (inner : Bool) (n : ℕ) (p : Port) (ports : List Port) → (is_clock p.class ≡ true → P n) →
    AllByRecursion P (places_from is_clock (n + 1) ports) → AllByRecursion P (places_from is_clock n (if inner then [] else p ∷ ports))
ports_if P true n p ports here all = tt
ports_if P false n p ports here all = place_if P (is_clock p.class) n (places_from is_clock (n + 1) ports) here all

clocks_from : (spec : Spec) → IsPlain spec → (n : ℕ) (vars : List Var) → AllByRecursion (HasOneBit spec) (places_from is_clock n (ports_from spec n vars))
clocks_from spec plain n [] = tt
clocks_from spec plain n (v ∷ vars) =
    ports_if (HasOneBit spec) (is_inner v.role) n (port_of spec n v) (ports_from spec (n + 1) vars)
    (λ is. (some_clock spec n spec.drivers plain.clocks (clock_stands spec n v.role is)).one_bit) (clocks_from spec plain (n + 1) vars)

pub clocks_one_bit : (spec : Spec) → IsPlain spec →
    AllByRecursion (λ place. slice_index (widths_of spec.vars) place ≡ 1) (places_from is_clock 0 (ports_of spec))
clocks_one_bit spec plain = clocks_from spec plain 0 spec.vars

-- the place of each port is that of a variable
pub places_there : (chosen : Class → Bool) (spec : Spec) (values : List Bits) (places : List ℕ) → widths values ≡ widths_of spec.vars →
    places ≡ places_from chosen 0 (ports_of spec) → AllByRecursion (λ p. p < length values) places
places_there chosen spec values places same is =
    subst (AllByRecursion (λ p. p < length values)) (sym is) (all_below chosen (ports_of spec) (length values) (ports_long spec values same))

-- ---- the beginning, and what is shown

pub initial_kept : (spec : Spec) (held : List ℕ) → held ≡ map (λ v. v.init.word) spec.vars → KeepsInitial spec held
initial_kept spec held is = λ x k v at within none.
    ap (λ w. bit_at w k)
    (get_or_from_slice_get held x v.init.word 0
    (ap (λ ws. slice_get ws x) is ∙ slice_get-map (λ (w : Var). w.init.word) spec.vars x ∙ ap (option_map (λ (w : Var). w.init.word)) at))

-- an output's value, found at its place
pub record IsShownAt (spec : Spec) (values : List Bits) (k : ℕ) (value : Bits) : Type 0 where
  pub word : slice_get (words_of_class is_output (ports_of spec) (words values)) k ≡ Some value.word
  pub width : slice_get (widths_of_class is_output (ports_of spec)) k ≡ Some value.width

at_place : (f : Bits → ℕ) (values : List Bits) (outputs : List ℕ) (k : ℕ) (value : Bits) → k < length outputs → get_or outputs k 0 < length values →
    value ≡ get_or values (get_or outputs k 0) value →
    slice_get (at_places (map f values) outputs) k ≡ Some (f value)
at_place f values outputs k value within there is =
    slice_get-map (slice_index (map f values)) outputs k
    ∙ ap (option_map (slice_index (map f values))) (slice_get-get_or outputs k 0 within)
    ∙ ap Some (get_or_from_slice_get (map f values) (get_or outputs k 0) (f value) 0
    (slice_get-map f values (get_or outputs k 0) ∙ ap (option_map f) (slice_get_read values (length values) (get_or outputs k 0) value refl there is)))

is_shown : (spec : Spec) (values : List Bits) (outputs : List ℕ) (k : ℕ) (value : Bits) → widths values ≡ widths_of spec.vars →
    outputs ≡ places_from is_output 0 (ports_of spec) → k < length outputs → get_or outputs k 0 < length values →
    value ≡ get_or values (get_or outputs k 0) value → IsShownAt spec values k value
is_shown spec values outputs k value same places within there is = record {
  word = ap (λ ws. slice_get ws k)
      (sym (class_words is_output (ports_of spec) (words values) (words_long spec values same)) ∙ ap (at_places (words values)) (sym places))
      ∙ at_place (λ b. b.word) values outputs k value within there is;
  width = ap (λ ws. slice_get ws k)
      (widths_at_places is_output spec ∙ ap (at_places (widths_of spec.vars)) (sym places) ∙ ap (λ ws. at_places ws outputs) (sym same))
      ∙ at_place (λ b. b.width) values outputs k value within there is;
}

-- the number of an output counts its place
pub output_counted : (spec : Spec) (values : List Bits) (outputs : List ℕ) (k : ℕ) → widths values ≡ widths_of spec.vars →
    outputs ≡ places_from is_output 0 (ports_of spec) → k < length (words_of_class is_output (ports_of spec) (words values)) → k < length outputs
output_counted spec values outputs k same places within =
    subst (λ n. k < n) (class_count is_output (ports_of spec) (words values) (words_long spec values same) ∙ sym (ap length places)) within

-- its place is that of a variable
pub output_there : (spec : Spec) (values : List Bits) (outputs : List ℕ) (k place len : ℕ) → widths values ≡ widths_of spec.vars →
    outputs ≡ places_from is_output 0 (ports_of spec) → k < length outputs → place ≡ get_or outputs k place → len ≡ length values → place < len
output_there spec values outputs k place len same places within is count =
    subst (λ n. place < n) (sym count) (all_at (λ p. p < length values) outputs k place (places_there is_output spec values outputs same places) within is)

pub output_shown : (spec : Spec) (values : List Bits) (outputs : List ℕ) (k place : ℕ) (value : Bits) → widths values ≡ widths_of spec.vars →
    outputs ≡ places_from is_output 0 (ports_of spec) → k < length outputs → place ≡ get_or outputs k place → value ≡ get_or values place value →
    IsShownAt spec values k value
output_shown spec values outputs k place value same places within at is =
    let zero_at : place ≡ get_or outputs k 0 = at ∙ get_or_default_zero outputs k place within in
    is_shown spec values outputs k value same places within
    (subst (λ p. p < length values) zero_at (output_there spec values outputs k place (length values) same places within at refl))
    (subst (λ p. value ≡ get_or values p value) zero_at is)

words_0 : (chosen : Class → Bool) (ports : List Port) (vars : List Var) → length ports ≤ length vars →
    words_of_class chosen ports (map (λ _. 0) vars) ≡ words_of_class chosen ports (map (λ _. 0) ports)
words_0 chosen [] vars long = refl
words_0 chosen (p ∷ ports) [] long = absurd (omega arith)
words_0 chosen (p ∷ ports) (v ∷ vars) long = ap (λ ws. if chosen p.class then 0 ∷ ws else ws) (words_0 chosen ports vars (omega arith))

-- what is held at the start
pub held_at_start : (spec : Spec) (inputs registers : List Bits) → words inputs ≡ map (λ _. 0) spec.vars →
    words registers ≡ map (λ v. v.init.word) spec.vars → held_of spec inputs registers ≡ held_in (ports_of spec) (start spec)
held_at_start spec inputs registers zeros initials =
    let few = ports_among spec in
    let values = ap (words_of_class is_value (ports_of spec)) zeros ∙ words_0 is_value (ports_of spec) spec.vars few in
    let levels = ap (words_of_class is_clock (ports_of spec)) zeros ∙ words_0 is_clock (ports_of spec) spec.vars few in
    let held = ap (register_words (registers_of spec)) initials in
    λ i. record { values = values i; levels = levels i; registers = held i }

-- ---- what a step of the bench sets

pub inputs_given : (spec : Spec) (given values : List Bits) (places : List ℕ) → widths values ≡ widths_of spec.vars →
    places ≡ places_from is_value 0 (ports_of spec) → widths given ≡ widths_of_class is_value (ports_of spec) →
    widths given ≡ map (slice_index (widths values)) places
inputs_given spec given values places same is fit =
    fit ∙ widths_at_places is_value spec ∙ ap (at_places (widths_of spec.vars)) (sym is) ∙ ap (λ ws. at_places ws places) (sym same)

pub clocks_have_one_bit : (spec : Spec) (values : List Bits) (places : List ℕ) → IsPlain spec → widths values ≡ widths_of spec.vars →
    places ≡ places_from is_clock 0 (ports_of spec) → AllByRecursion (λ p. slice_index (widths values) p ≡ 1) places
clocks_have_one_bit spec values places plain same is =
    subst (λ ws. AllByRecursion (λ p. slice_index ws p ≡ 1) places) (sym same)
    (subst (AllByRecursion (λ p. slice_index (widths_of spec.vars) p ≡ 1)) (sym is) (clocks_one_bit spec plain))

-- what the ports of a class have taken, and the words of other classes, where their places took words
pub taken_at : (chosen : Class → Bool) (spec : Spec) (places given : List ℕ) (old new : List Bits) → widths old ≡ widths_of spec.vars →
    places ≡ places_from chosen 0 (ports_of spec) → length given ≡ length places →
    words new ≡ set_places places given (words old) → words_of_class chosen (ports_of spec) (words new) ≡ given
taken_at chosen spec places given old new same is each set =
    ap (words_of_class chosen (ports_of spec)) (set ∙ ap (λ ps. set_places ps given (words old)) is)
    ∙ class_taken chosen (ports_of spec) given (words old) (words_long spec old same) (each ∙ ap length is)

pub kept_at : (chosen other : Class → Bool) → ((c : Class) → chosen c ≡ true → other c ≡ false) →
    (spec : Spec) (places given : List ℕ) (old new : List Bits) → places ≡ places_from chosen 0 (ports_of spec) →
    words new ≡ set_places places given (words old) → words_of_class other (ports_of spec) (words new) ≡ words_of_class other (ports_of spec) (words old)
kept_at chosen other apart spec places given old new is set =
    ap (words_of_class other (ports_of spec)) (set ∙ ap (λ ps. set_places ps given (words old)) is)
    ∙ class_kept chosen other apart (ports_of spec) given (words old)

pub value_no_clock : (c : Class) → is_value c ≡ true → is_clock c ≡ false
value_no_clock class.Value is = refl
value_no_clock class.Clock is = absurd (cc)
value_no_clock class.Idle is = refl
value_no_clock class.Output is = refl

pub clock_no_value : (c : Class) → is_clock c ≡ true → is_value c ≡ false
clock_no_value class.Value is = absurd (cc)
clock_no_value class.Clock is = refl
clock_no_value class.Idle is = refl
clock_no_value class.Output is = refl

-- ---- values that were written back

pub written : (n : ℕ) (old new : List Bits) (ws : List ℕ) → n ≡ length old → widths old ≡ ws → widths new ≡ ws → take n (new ++ drop (length new) old) ≡ new
written n old new ws count before after =
    written_whole n old new count (sym (length-map new (λ b. b.width)) ∙ ap length (after ∙ sym before) ∙ length-map old (λ b. b.width))

pub written_widths : (n : ℕ) (old new : List Bits) (ws : List ℕ) → n ≡ length old → widths old ≡ ws → widths new ≡ ws →
    widths (take n (new ++ drop (length new) old)) ≡ ws
written_widths n old new ws count before after = ap widths (written n old new ws count before after) ∙ after

-- so with the state of other lists that are the same
pub solves_same : (spec : Spec) (i i' r r' u u' : List Bits) → i ≡ i' → r ≡ r' → u ≡ u' → Solves spec (state_of spec i r) (words u) →
    Solves spec (state_of spec i' r') (words u')
solves_same spec i i' r r' u u' pi pr pu solves =
    subst (λ x. Solves spec (state_of spec x r') (words u')) pi
    (subst (λ x. Solves spec (state_of spec i x) (words u')) pr (subst (λ x. Solves spec (state_of spec i r) (words x)) pu solves))

pub samples_same : (spec : Spec) (u u' b b' a a' : List Bits) (k k' n n' : List Bits) → u ≡ u' → b ≡ b' → a ≡ a' → k ≡ k' → n ≡ n' →
    Samples spec (words u) (words b) (words a) (register_words (registers_of spec) (words k)) (register_words (registers_of spec) (words n)) →
    Samples spec (words u') (words b') (words a') (register_words (registers_of spec) (words k')) (register_words (registers_of spec) (words n'))
samples_same spec u u' b b' a a' k k' n n' pu pb pa pk pn samples =
    subst (λ x. Samples spec (words x) (words b') (words a') (register_words (registers_of spec) (words k')) (register_words (registers_of spec) (words n'))) pu
    (subst (λ x. Samples spec (words u) (words x) (words a') (register_words (registers_of spec) (words k')) (register_words (registers_of spec) (words n'))) pb
    (subst (λ x. Samples spec (words u) (words b) (words x) (register_words (registers_of spec) (words k')) (register_words (registers_of spec) (words n'))) pa
    (subst (λ x. Samples spec (words u) (words b) (words a) (register_words (registers_of spec) (words x)) (register_words (registers_of spec) (words n'))) pk
    (subst (λ x. Samples spec (words u) (words b) (words a) (register_words (registers_of spec) (words k))
    (register_words (registers_of spec) (words x))) pn samples))))

pub given_each : (given values : List Bits) (places : List ℕ) → widths given ≡ map (slice_index (widths values)) places → length (words given) ≡ length places
given_each given values places is =
    length-map given (λ b. b.word) ∙ sym (length-map given (λ b. b.width)) ∙ ap length is ∙ length-map places (slice_index (widths values))
