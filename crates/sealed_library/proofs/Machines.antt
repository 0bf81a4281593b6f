-- Machines with one table of fields are one: the facts that they keep have one proof at most.
use Rattle.std.proofs.Common.{◌≡◌, ℕ, ◌^◌, ◌<◌, ◌≤◌, List, [], ◌∷◌, length, map, refl, ap, ◌∙◌}
use Rattle.std.specs.Prelude.{IsFalse}
use Rattle.std.proofs.Props.{props}
use mathlib.Core.HLevel.{is_prop→PathP}
use Rattle.bit_ops.specs.Width.{IsWidth}
use Rattle.sv_base.specs.declared.face.Face.{Face}
use Rattle.sv_base.specs.declared.face.Summary.{Summary}
use Rattle.code_isa.specs.Faces.{IsFace, IsSummary, input_count, clock_count, output_count}
use Rattle.code_isa.specs.Operands.{operand_count, names_position, is_constant}
use Rattle.code_isa.specs.declared.machine.Reg.{Reg}
use Rattle.code_isa.specs.declared.machine.Kid.{Kid}
use Rattle.code_isa.specs.declared.machine.Instr.{Instr}
use Rattle.code_isa.specs.declared.machine.Machine.{Machine}
use Rattle.sealed_library.specs.Version1.{register_fields, child_fields, instruction_fields, machine_fields}

head_is : {X : Type 0} (x y : X) (xs ys : List X) → x ∷ xs ≡ y ∷ ys → x ≡ y
head_is x y xs ys e = cc

tail_is : {X : Type 0} (x y : X) (xs ys : List X) → x ∷ xs ≡ y ∷ ys → xs ≡ ys
tail_is x y xs ys e = cc

-- lists with one image under a function that tells things apart are one
map_decides : {X Y : Type 0} (f : X → Y) → ((x y : X) → f x ≡ f y → x ≡ y) → (xs ys : List X) → map f xs ≡ map f ys → xs ≡ ys
map_decides f one [] [] e = refl
map_decides f one [] (y ∷ ys) e = absurd cc
map_decides f one (x ∷ xs) [] e = absurd cc
map_decides f one (x ∷ xs) (y ∷ ys) e =
    ap (λ z. z ∷ xs) (one x y (head_is (f x) (f y) (map f xs) (map f ys) e))
    ∙ ap (λ zs. y ∷ zs) (map_decides f one xs ys (tail_is (f x) (f y) (map f xs) (map f ys) e))

width_prop : (w : ℕ) → IsProp (IsWidth w)
width_prop w = hlevel props

lt_prop : (m n : ℕ) → IsProp (m < n)
lt_prop m n = hlevel props

le_prop : (m n : ℕ) → IsProp (m ≤ n)
le_prop m n = hlevel props

reg_decides : (r s : Reg) → register_fields r ≡ register_fields s → r ≡ s
reg_decides r s p i = record {
  width = (p i).0;
  init = (p i).1.0;
  clock = (p i).1.1.0;
  falling = (p i).1.1.1.0;
  next = (p i).1.1.1.1;
  wide = is_prop→PathP (λ j. IsWidth (p j).0) (λ j. width_prop (p j).0) r.wide s.wide i;
  fits = is_prop→PathP (λ j. (p j).1.0 < 2 ^ (p j).0) (λ j. lt_prop (p j).1.0 (2 ^ (p j).0)) r.fits s.fits i;
}

face_prop : (f : Face) → IsProp (IsFace f)
face_prop f = hlevel props

summary_prop : (f : Face) (s : Summary) → IsProp (IsSummary f s)
summary_prop f s = hlevel props

eq_prop : (m n : ℕ) → IsProp (m ≡ n)
eq_prop m n = hlevel props

kid_decides : (k l : Kid) → child_fields k ≡ child_fields l → k ≡ l
kid_decides k l p i = record {
  digest = (p i).0;
  face = (p i).1.0;
  summary = (p i).1.1.0;
  ins = (p i).1.1.1.0;
  clocks = (p i).1.1.1.1;
  face_fits = is_prop→PathP (λ j. IsFace (p j).1.0) (λ j. face_prop (p j).1.0) k.face_fits l.face_fits i;
  summary_fits = is_prop→PathP (λ j. IsSummary (p j).1.0 (p j).1.1.0) (λ j. summary_prop (p j).1.0 (p j).1.1.0) k.summary_fits l.summary_fits i;
  all_joined = is_prop→PathP (λ j. length (p j).1.1.1.0
      ≡ input_count (p j).1.0) (λ j. eq_prop (length (p j).1.1.1.0) (input_count (p j).1.0)) k.all_joined l.all_joined i;
  all_clocked = is_prop→PathP (λ j. length (p j).1.1.1.1
      ≡ clock_count (p j).1.0) (λ j. eq_prop (length (p j).1.1.1.1) (clock_count (p j).1.0)) k.all_clocked l.all_clocked i;
}

where_prop : (P : Type 0) (n : ℕ) → IsProp (P → n ≡ 0)
where_prop P n = hlevel props

instr_decides : (a b : Instr) → instruction_fields a ≡ instruction_fields b → a ≡ b
instr_decides a b p i = record {
  op = (p i).0;
  width = (p i).1.0;
  c = (p i).1.1.0;
  a = (p i).1.1.1.0;
  b = (p i).1.1.1.1.0;
  lo = (p i).1.1.1.1.1.0;
  value = (p i).1.1.1.1.1.1;
  wide = is_prop→PathP (λ j. IsWidth (p j).1.0) (λ j. width_prop (p j).1.0) a.wide b.wide i;
  low = is_prop→PathP (λ j. (p j).1.1.1.1.1.0 < 2 ^ 8) (λ j. lt_prop (p j).1.1.1.1.1.0 (2 ^ 8)) a.low b.low i;
  fits = is_prop→PathP (λ j. (p j).1.1.1.1.1.1 < 2 ^ (p j).1.0) (λ j. lt_prop (p j).1.1.1.1.1.1 (2 ^ (p j).1.0)) a.fits b.fits i;
  no_first = is_prop→PathP (λ j. operand_count (p j).0 ≤ 0 → (p j).1.1.1.0
      ≡ 0) (λ j. where_prop (operand_count (p j).0 ≤ 0) (p j).1.1.1.0) a.no_first b.no_first i;
  no_second = is_prop→PathP (λ j. operand_count (p j).0 ≤ 1 → (p j).1.1.1.1.0
      ≡ 0) (λ j. where_prop (operand_count (p j).0 ≤ 1) (p j).1.1.1.1.0) a.no_second b.no_second i;
  no_third = is_prop→PathP (λ j. operand_count (p j).0 ≤ 2 → (p j).1.1.0
      ≡ 0) (λ j. where_prop (operand_count (p j).0 ≤ 2) (p j).1.1.0) a.no_third b.no_third i;
  no_position = is_prop→PathP (λ j. IsFalse (names_position (p j).0) → (p j).1.1.1.1.1.0
      ≡ 0) (λ j. where_prop (IsFalse (names_position (p j).0)) (p j).1.1.1.1.1.0) a.no_position b.no_position i;
  no_value = is_prop→PathP (λ j. IsFalse (is_constant (p j).0) → (p j).1.1.1.1.1.1
      ≡ 0) (λ j. where_prop (IsFalse (is_constant (p j).0)) (p j).1.1.1.1.1.1) a.no_value b.no_value i;
}

-- a machine's own fields, those of its parts seen as they are
module _ (m n : Machine) (p : machine_fields m ≡ machine_fields n) where
  regs_are : m.regs ≡ n.regs
  regs_are = map_decides register_fields reg_decides m.regs n.regs (ap (λ x. x.1.1.1.0) p)

  kids_are : m.kids ≡ n.kids
  kids_are = map_decides child_fields kid_decides m.kids n.kids (ap (λ x. x.1.1.1.1.0) p)

  code_is : m.code ≡ n.code
  code_is = map_decides instruction_fields instr_decides m.code n.code (ap (λ x. x.1.1.1.1.1.0) p)

  pub machine_decides : m ≡ n
  machine_decides i = record {
    face = (p i).0;
    summary = (p i).1.0;
    chain = (p i).1.1.0;
    regs = regs_are i;
    kids = kids_are i;
    code = code_is i;
    outs = (p i).1.1.1.1.1.1;
    face_fits = is_prop→PathP (λ j. IsFace (p j).0) (λ j. face_prop (p j).0) m.face_fits n.face_fits i;
    summary_fits = is_prop→PathP (λ j. IsSummary (p j).0 (p j).1.0) (λ j. summary_prop (p j).0 (p j).1.0) m.summary_fits n.summary_fits i;
    chain_fits = is_prop→PathP (λ j. (p j).1.1.0 ≤ 4294967294) (λ j. le_prop (p j).1.1.0 4294967294) m.chain_fits n.chain_fits i;
    few_kids = is_prop→PathP (λ j. length (kids_are j) < 2 ^ 32) (λ j. lt_prop (length (kids_are j)) (2 ^ 32)) m.few_kids n.few_kids i;
    all_driven = is_prop→PathP (λ j. length (p j).1.1.1.1.1.1
        ≡ output_count (p j).0) (λ j. eq_prop (length (p j).1.1.1.1.1.1) (output_count (p j).0)) m.all_driven n.all_driven i;
  }
