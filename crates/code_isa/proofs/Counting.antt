-- How many slots a machine has.
use Rattle.std.proofs.Common.{◌≡◌, ℕ, Bool, ◌+◌, ◌*◌, ◌<◌, ◌≤◌, List, [], ◌∷◌, ◌++◌, length, map, take, get_or, refl, sym, ◌∙◌, ap, arith, append_assoc}
use Rattle.std.specs.List.{flat_map}
use Rattle.std.proofs.lemmas.List.{length-map, length-append, take_more, take_all}
use Rattle.std.specs.Prelude.{All}
use Rattle.std.proofs.lemmas.List.Sums.{length-filter, count_by-le-length}
use Rattle.std.proofs.lemmas.List.Elements.{All-append, All-filter, All-head, All-map, All-nil, All-tail}
use Rattle.bit_ops.specs.Width.{IsWidth}
use Rattle.sv_base.specs.Classes.{is_value, is_output}
use Rattle.sv_base.specs.declared.face.Class.{Class}
use Rattle.sv_base.specs.declared.face.Port.{Port}
use Rattle.sv_base.specs.declared.face.Face.{Face}
use Rattle.code_isa.specs.declared.machine.Reg.{Reg}
use Rattle.code_isa.specs.declared.machine.Instr.{Instr}
use Rattle.code_isa.specs.declared.machine.Kid.{Kid}
use Rattle.code_isa.specs.declared.machine.Machine.{Machine}
use Rattle.code_isa.specs.Faces.{IsFace, input_widths, output_widths, ports_of, input_count}
use Rattle.code_isa.specs.Slots.{slot_widths, first_instruction}

-- how many slots the outputs of one child take
pub output_slots : (kid : Kid) → length kid.summary.rows ≡ length (output_widths kid.face)
output_slots kid = kid.summary_fits.rows ∙ sym (length-map (ports_of is_output kid.face) (λ p. p.width))

pub few_outputs : (kid : Kid) → length kid.summary.rows ≤ 1024
few_outputs kid =
    let most = count_by-le-length (λ p. is_output p.class) kid.face.ports in
    omega (arith, kid.summary_fits.rows, length-filter (λ p. is_output p.class) kid.face.ports, kid.face_fits.few)

pub few_inputs : (m : Machine) → input_count m.face ≤ 1024
few_inputs m =
    let most = count_by-le-length (λ p. is_value p.class) m.face.ports in
    omega (arith, length-filter (λ p. is_value p.class) m.face.ports, m.face_fits.few)

pub flat_map-append : {X Y : Type 0} (f : X → List Y) (xs ys : List X) → flat_map f (xs ++ ys) ≡ flat_map f xs ++ flat_map f ys
flat_map-append f [] ys = refl
flat_map-append f (x ∷ xs) ys = ap (λ zs. f x ++ zs) (flat_map-append f xs ys) ∙ sym (append_assoc (f x) (flat_map f xs) (flat_map f ys))

-- what the outputs of the children up to one take
pub record AreCounted (kids : List Kid) (outputs count : ℕ) : Type 0 where
  pub sum : outputs ≡ length (flat_map (λ (kid : Kid). output_widths kid.face) (take count kids))
  pub few : outputs ≤ 1024 * count

pub one_more : (kids : List Kid) (outputs count : ℕ) (kid : Kid) → count < length kids → kid ≡ get_or kids count kid → AreCounted kids outputs count → AreCounted kids (outputs + length kid.summary.rows) (count + 1)
one_more kids outputs count kid inside is was =
    let f = λ (k : Kid). output_widths k.face in
    let more : take (count + 1) kids ≡ take count kids ++ kid ∷ [] = take_more kids count kid inside ∙ ap (λ k. take count kids ++ k ∷ []) (sym is) in
    let size : length (flat_map f (take (count + 1) kids)) ≡ length (flat_map f (take count kids)) + length (output_widths kid.face) =
    ap (λ ks. length (flat_map f ks)) more ∙ ap length (flat_map-append f (take count kids) (kid ∷ [])) ∙ length-append (flat_map f (take count kids)) (output_widths kid.face ++ [])
    ∙ ap (λ n. length (flat_map f (take count kids)) + n) (length-append (output_widths kid.face) [] ∙ let e : length (output_widths kid.face) + 0 ≡ length (output_widths kid.face) = omega arith in e) in
    record {
      sum = omega (arith, size, output_slots kid, was.sum);
      few = omega (arith, few_outputs kid, was.few);
    }

pub all_counted : (m : Machine) (values outputs count : ℕ) → values ≡ input_count m.face → AreCounted m.kids outputs count → length m.kids ≤ count → values + length m.regs + outputs ≡ first_instruction m
all_counted m values outputs count inputs counted all =
    let f = λ (k : Kid). output_widths k.face in
    let given : outputs ≡ length (flat_map f m.kids) = counted.sum ∙ ap (λ ks. length (flat_map f ks)) (take_all count m.kids all) in
    let first = length-append (input_widths m.face) (map (λ (r : Reg). r.width) m.regs) in
    let whole = length-append (input_widths m.face ++ map (λ (r : Reg). r.width) m.regs) (flat_map f m.kids) in
    omega (arith, given, first, whole, inputs, length-map (ports_of is_value m.face) (λ p. p.width), length-map m.regs (λ (r : Reg). r.width))

-- ---- each width is one that a value may have

all_flat : {X Y : Type 0} (P : Y → Type 0) (f : X → List Y) (xs : List X) → All (λ x. All P (f x)) xs → All P (flat_map f xs)
all_flat P f [] all = All-nil P
all_flat P f (x ∷ xs) all = All-append P (f x) (flat_map f xs) (All-head (λ y. All P (f y)) x xs all) (all_flat P f xs (All-tail (λ y. All P (f y)) x xs all))

port_widths_fit : (face : Face) (of_class : Class → Bool) → IsFace face → All IsWidth (map (λ p. p.width) (ports_of of_class face))
port_widths_fit face of_class fits =
    All-map IsWidth (λ (p : Port). p.width) (ports_of of_class face)
    (All-filter (λ (p : Port). of_class p.class) (λ (p : Port). IsWidth p.width) face.ports (λ k d inside. (fits.ports k d inside).width))

pub widths_fit : (m : Machine) → All IsWidth (slot_widths m)
widths_fit m =
    let inputs = input_widths m.face in
    let regs = map (λ (r : Reg). r.width) m.regs in
    let outputs = flat_map (λ (kid : Kid). output_widths kid.face) m.kids in
    let code = map (λ (i : Instr). i.width) m.code in
    All-append IsWidth (inputs ++ regs ++ outputs) code
    (All-append IsWidth (inputs ++ regs) outputs
    (All-append IsWidth inputs regs (port_widths_fit m.face is_value m.face_fits) (All-map IsWidth (λ (r : Reg). r.width) m.regs (λ k d inside. (get_or m.regs k d).wide)))
    (all_flat IsWidth (λ (kid : Kid). output_widths kid.face) m.kids (λ k d inside. port_widths_fit (get_or m.kids k d).face is_output (get_or m.kids k d).face_fits)))
    (All-map IsWidth (λ (i : Instr). i.width) m.code (λ k d inside. (get_or m.code k d).wide))
