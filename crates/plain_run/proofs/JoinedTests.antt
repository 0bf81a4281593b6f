-- Tests that are joined.
use Rattle.std.proofs.Common.{◌≡◌, Bool, true, false, refl, ap}
use Rattle.std.specs.Prelude.{not, ◌&&◌, ◌||◌}

pub and_true : (a b : Bool) → a ≡ true → b ≡ true → (a && b) ≡ true
and_true a b p q = cc

pub and_front : (a b : Bool) → (a && b) ≡ true → a ≡ true
and_front true b h = refl
and_front false b h = h

pub and_back : (a b : Bool) → (a && b) ≡ true → b ≡ true
and_back true b h = h
and_back false b h = cc

pub or_front : (a b : Bool) → (a || b) ≡ false → a ≡ false
or_front false b h = refl
or_front true b h = absurd (cc)

pub or_back : (a b : Bool) → (a || b) ≡ false → b ≡ false
or_back false b h = h
or_back true b h = absurd (cc)

pub false_or : (a b : Bool) → a ≡ false → b ≡ false → (a || b) ≡ false
false_or a b p q = cc

pub or_swap : (a b : Bool) → (a || b) ≡ (b || a)
or_swap true true = refl
or_swap true false = refl
or_swap false true = refl
or_swap false false = refl

pub not_true : (t : Bool) → not t ≡ true → t ≡ false
not_true false h = refl
not_true true h = cc

pub true_not : (t : Bool) → t ≡ false → not t ≡ true
true_not t h = ap not h
