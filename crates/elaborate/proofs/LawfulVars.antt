-- The extents of declarations are lawful, and so are nets and variables that have them.
use Rattle.std.proofs.Common.{◌≡◌, ℕ, ◌+◌, ◌-◌, ◌^◌, ◌≤◌, Bool, true, false, ◌||◌, Option, None, Some, refl, sym, subst, arith, lit≤}
use Rattle.std.specs.Prelude.{ℤ, pos, negsuc, ◌+ℤ◌, ◌-ℤ◌, int_lt, unsigned_abs, not, nat_lt, codes, Ok, Err, IfOk, if◌then◌else◌}
use Rattle.std.proofs.lemmas.Bool.{ltb-false}
use Rattle.std.proofs.lemmas.Int.{ints}
use Rattle.bit_ops.specs.declared.value.Bits.{Bits}
use Rattle.bit_ops.specs.declared.value.TheConstants.{MAX_WIDTH}
use Rattle.bit_ops.specs.Width.{IsWidth}
use Rattle.sv_base.specs.declared.kind.Kind.TheVariants.{BadRange, TooWide}
use Rattle.sv_ast.specs.declared.expression.Id.{Id}
use Rattle.sv_ast.specs.declared.item.Shape.{Shape}
use Rattle.const_eval.specs.Expressions.{refused_at}
use Rattle.net_ir.specs.declared.design.Role.{Role}
use Rattle.net_ir.specs.Lawful.{IsLawfulVar}
use Rattle.elaborate.specs.declared.extent.Extent.{Extent}
use Rattle.elaborate.specs.Extent.{says, is_integer, is_bad_span, spanned, ranged_extent, extent_of}
use Rattle.elaborate.specs.Declaration.{var_of}

-- a width that a value may have, and positions from 0, or from that of a range, to one below 2^32
pub record IsLawfulExtent (x : Extent) : Type 0 where
  pub wide : IsWidth x.width
  pub unranged : x.ranged ≡ false → x.low ≡ 0
  pub high : x.low + x.width ≤ 2 ^ 32

spanned_lawful : (name : Id) (signed : Bool) (width low : ℕ) → 1 ≤ width → low + width ≤ 2 ^ 32 → IfOk (spanned name signed width low) IsLawfulExtent
spanned_lawful name signed width low some high = by_test (nat_lt MAX_WIDTH width) refl where
  by_test : (b : Bool) → nat_lt MAX_WIDTH width ≡ b →
      IfOk (if b then Err (refused_at TooWide name) else Ok (record { width = width; low = low; ranged = true; signed = signed })) IsLawfulExtent
  by_test true is = tt
  by_test false is = record {
    wide = (some, ltb-false MAX_WIDTH width is);
    unranged = λ no. absurd (let clash : true ≡ false = no in cc);
    high = high;
  }

-- how many positions a range has, and up to which
record AreInOrder (high low : ℤ) : Type 0 where
  some : 1 ≤ unsigned_abs (high -ℤ low +ℤ pos 1)
  below : unsigned_abs low + unsigned_abs (high -ℤ low +ℤ pos 1) ≤ 2 ^ 32

positions : (a b : ℕ) → int_lt (pos a) (pos b) ≡ false → int_lt (pos 4294967295) (pos a) ≡ false → AreInOrder (pos a) (pos b)
positions a b order most =
    let least : b ≤ a = grind (arith, ints) in
    let greatest : a ≤ 4294967295 = grind (arith, ints) in
    let count : pos a -ℤ pos b +ℤ pos 1 ≡ pos (a - b + 1) = omega (arith, ints) in
    record {
      some = subst (λ z. 1 ≤ unsigned_abs z) (sym count) (omega arith);
      below = subst (λ z. b + unsigned_abs z ≤ 2 ^ 32) (sym count) (omega arith);
    }

in_order : (high low : ℤ) → int_lt high low ≡ false → int_lt low (pos 0) ≡ false → int_lt (pos 4294967295) high ≡ false → AreInOrder high low
in_order (pos a) (pos b) order least most = positions a b order most
in_order (negsuc a) (pos b) order least most = absurd (let clash : true ≡ false = order in cc)
in_order high (negsuc b) order least most = absurd (let clash : true ≡ false = least in cc)

none_of : (a b c : Bool) → (a || b || c) ≡ false → (a ≡ false) × (b ≡ false) × (c ≡ false)
none_of true b c is = absurd (let clash : true ≡ false = is in cc)
none_of false true c is = absurd (let clash : true ≡ false = is in cc)
none_of false false true is = absurd (let clash : true ≡ false = is in cc)
none_of false false false is = (refl, refl, refl)

ranged_lawful : (name : Id) (signed : Bool) (span : Option (ℤ × ℤ)) → IfOk (ranged_extent name signed span) IsLawfulExtent
ranged_lawful name signed None = record { wide = (lit≤ tt, lit≤ tt); unranged = λ is. refl; high = lit≤ tt }
ranged_lawful name signed (Some span) = by_test (is_bad_span span.0 span.1) refl where
  by_test : (b : Bool) → is_bad_span span.0 span.1 ≡ b →
      IfOk (if b then Err (refused_at BadRange name) else spanned name signed (unsigned_abs (span.0 -ℤ span.1 +ℤ pos 1)) (unsigned_abs span.1)) IsLawfulExtent
  by_test true is = tt
  by_test false is =
      let parts = none_of (int_lt span.0 span.1) (int_lt span.1 (pos 0)) (int_lt (pos 4294967295) span.0) is in
      let order = in_order span.0 span.1 parts.0 parts.1 parts.2 in
      spanned_lawful name signed (unsigned_abs (span.0 -ℤ span.1 +ℤ pos 1)) (unsigned_abs span.1) order.some order.below

pub extent_lawful : (name : Id) (shape : Shape) (span : Option (ℤ × ℤ)) → IfOk (extent_of name shape span) IsLawfulExtent
extent_lawful name shape span = by_test (is_integer shape.words) where
  by_test : (b : Bool) →
      IfOk (if b
      then Ok (record { width = 32; low = 0; ranged = false; signed = not (says (codes "unsigned") shape.sign) })
      else ranged_extent name (says (codes "signed") shape.sign) span) IsLawfulExtent
  by_test true = record { wide = (lit≤ tt, lit≤ tt); unranged = λ is. refl; high = lit≤ tt }
  by_test false = ranged_lawful name (says (codes "signed") shape.sign) span

-- a net or variable of a lawful extent, with an initial value of as many bits
pub lawful_var : (role : Role) (wire : Bool) (x : Extent) (name : Id) (init : Bits) → IsLawfulExtent x → init.width ≡ x.width → IsLawfulVar (var_of role wire x name init)
lawful_var role wire x name init h same = record { initial = same; low = h.unranged; high = h.high }
