-- What is read is what was spelled, and what is spelled is read again, field by field.
use Rattle.std.proofs.Common.{◌≡◌, ℕ, zero, suc, ◌+◌, ◌*◌, ◌%◌, ◌^◌, ◌<◌, ◌≤◌, Bool, true, false, cond, ltb, List, [], ◌∷◌, ◌++◌, length, get_or, take, drop, Option, Some, None, Result, Ok, Err, refl, sym, ap, subst, ◌∙◌, append_assoc, arith, inl, inr}
use Rattle.std.specs.Prelude.{All}
use Rattle.std.specs.List.{flat_map}
use Rattle.std.specs.Int.{Width, w8, w16, w32, w64, byte_len, from_be_bytes, to_be_bytes}
use Rattle.std.proofs.lemmas.Bool.{cases_lt, ltb-false, le-ltb}
use Rattle.std.proofs.lemmas.List.{take_at, drop_at, take-append-drop, length-append, length-take, get_or-drop, get_or-take, get_or_past, get_or_default}
use Rattle.std.proofs.lemmas.List.Elements.{All-nil, All-cons, All-head, All-tail}
use Rattle.std.proofs.lemmas.Nat.{be_bytes_2, be_bytes_4, be_bytes_8, from_be_bytes-to_be_bytes_2, from_be_bytes-to_be_bytes_4, from_be_bytes-to_be_bytes_8}
use Rattle.sealed_library.specs.declared.fault.FormatFault.{FormatFault}
use Rattle.sealed_library.specs.declared.fault.FormatFault.TheVariants.{Truncated, BadField}
use Rattle.sealed_library.specs.Fields.{◌>>=◌, Field, number, bytes_of, nothing, meant, named, tested, ◌▷◌, sized, items_at, repeated, counted, seen}

abbrev pub IsBytes : List ℕ → Type 0
IsBytes bytes = (i : ℕ) → get_or bytes i 0 < 256

pub IsBytes-drop : (n : ℕ) (bytes : List ℕ) → IsBytes bytes → IsBytes (drop n bytes)
IsBytes-drop n bytes h i = rw get_or-drop (h (n + i))

pub IsBytes-take : (n : ℕ) (bytes : List ℕ) → IsBytes bytes → IsBytes (take n bytes)
IsBytes-take n bytes h i =
    elim (cases_lt i n) [
      | inl lt ↦ rw (get_or-take n bytes i 0 lt) (h i)
      | inr le ↦ rw (get_or_past (take n bytes) i 0 (omega (arith, length-take n bytes))) (omega arith)
    ]

-- the value of a step that was not refused
pub bind_ok : {A B : Type 0} (r : Result A FormatFault) (f : A → Result B FormatFault) (y : B) → (r >>= f) ≡ Ok y → (x : A) × (r ≡ Ok x) × (f x ≡ Ok y)
bind_ok (Ok x) f y e = (x, refl, e)
bind_ok (Err d) f y e = absurd cc

-- a test that was passed
pub guard_ok : {A : Type 0} (b : Bool) (d : FormatFault) (x y : A) → cond b (Err d) (Ok x) ≡ Ok y → (b ≡ false) × (x ≡ y)
guard_ok true d x y e = absurd cc
guard_ok false d x y e = (refl, cc)

pub pass_ok : {A : Type 0} (b : Bool) (d : FormatFault) (x y : A) → cond b (Ok x) (Err d) ≡ Ok y → (b ≡ true) × (x ≡ y)
pass_ok true d x y e = (refl, cc)
pass_ok false d x y e = absurd cc

abbrev done : {A : Type 0} → A → Result A FormatFault
done x = Ok x

pub ok_is : {A : Type 0} (x y : A) → done x ≡ done y → x ≡ y
ok_is x y e = cc

-- what a field took from the front: the spelling of a value that fits
pub record Takes {X : Type 0} (f : Field X) (bytes : List ℕ) (x : X × List ℕ) : Type 0 where
  pub parts : bytes ≡ f.spell x.0 ++ x.1
  pub rest : IsBytes x.1
  pub fits : f.Fits x.0

-- what a field reads is what it spells
pub record IsLawful {X : Type 0} (f : Field X) : Type 0 where
  pub takes : (bytes : List ℕ) (x : X × List ℕ) → IsBytes bytes → f.read bytes ≡ Ok x → Takes f bytes x
  pub again : (x : X) (rest : List ℕ) → f.Fits x → f.read (f.spell x ++ rest) ≡ Ok (x, rest)

-- ---- numbers

pub record IsWide (w : Width) : Type 0 where
  pub len : (n : ℕ) → length (to_be_bytes w n) ≡ byte_len w
  pub back : (bytes : List ℕ) → length bytes ≡ byte_len w → IsBytes bytes → to_be_bytes w (from_be_bytes w bytes) ≡ bytes
  pub again : (n : ℕ) → n < 2 ^ (8 * byte_len w) → from_be_bytes w (to_be_bytes w n) ≡ n
  pub below : (bytes : List ℕ) → IsBytes bytes → from_be_bytes w bytes < 2 ^ (8 * byte_len w)

one_byte : (bytes : List ℕ) → length bytes ≡ 1 → IsBytes bytes → to_be_bytes w8 (from_be_bytes w8 bytes) ≡ bytes
one_byte [] len fits = absurd (let clash : ⊥ = omega arith in clash)
one_byte (b ∷ []) len fits = let small : b < 256 = fits 0 in let same : b % 256 ≡ b = omega arith in ap (λ c. c ∷ []) same
one_byte (b ∷ c ∷ bytes) len fits = absurd (let clash : ⊥ = omega arith in clash)

pub wide8 : IsWide w8
wide8 = record {
  len = λ n. refl;
  back = one_byte;
  again = λ n lt. omega (arith, lt);
  below = λ bytes fits. omega (arith, fits 0);
}

pub wide16 : IsWide w16
wide16 = record {
  len = λ n. refl;
  back = λ bytes len fits. be_bytes_2 bytes _ len fits refl;
  again = λ n lt. from_be_bytes-to_be_bytes_2 n lt;
  below = λ bytes fits. omega (arith, fits 0, fits 1);
}

pub wide32 : IsWide w32
wide32 = record {
  len = λ n. refl;
  back = λ bytes len fits. be_bytes_4 bytes _ len fits refl;
  again = λ n lt. from_be_bytes-to_be_bytes_4 n lt;
  below = λ bytes fits. omega (arith, fits 0, fits 1, fits 2, fits 3);
}

pub wide64 : IsWide w64
wide64 = record {
  len = λ n. refl;
  back = λ bytes len fits. be_bytes_8 bytes _ len fits refl;
  again = λ n lt. from_be_bytes-to_be_bytes_8 n lt;
  below = λ bytes fits. omega (arith, fits 0, fits 1, fits 2, fits 3, fits 4, fits 5, fits 6, fits 7);
}

pub lawful_number : (w : Width) → IsWide w → IsLawful (number w)
lawful_number w wide = record {
  takes = λ bytes x fits e.
      let n : ℕ = from_be_bytes w (take (byte_len w) bytes) in
      let rest : List ℕ = drop (byte_len w) bytes in
      let g = guard_ok (ltb (length bytes) (byte_len w)) Truncated (n, rest) x e in
      let long : byte_len w ≤ length bytes = ltb-false _ _ g.0 in
      let front : to_be_bytes w n ≡ take (byte_len w) bytes =
      wide.back (take (byte_len w) bytes) (omega (arith, length-take (byte_len w) bytes)) (IsBytes-take (byte_len w) bytes fits) in
      subst (Takes (number w) bytes) g.1 (record {
        parts = rw front (sym (take-append-drop (byte_len w) bytes));
        rest = IsBytes-drop (byte_len w) bytes fits;
        fits = wide.below (take (byte_len w) bytes) (IsBytes-take (byte_len w) bytes fits);
      });
  again = λ n rest lt.
      let len = wide.len n in
      let long : ltb (length (to_be_bytes w n ++ rest)) (byte_len w) ≡ false = le-ltb _ _ (omega (arith, length-append (to_be_bytes w n) rest)) in
      rw (long, take_at (to_be_bytes w n) rest (byte_len w) len, drop_at (to_be_bytes w n) rest (byte_len w) len, wide.again n lt) refl;
}

-- ---- bytes as they are, and no byte

pub lawful_bytes : (n : ℕ) → IsLawful (bytes_of n)
lawful_bytes n = record {
  takes = λ bytes x fits e.
      let g = guard_ok (ltb (length bytes) n) Truncated (take n bytes, drop n bytes) x e in
      let long : n ≤ length bytes = ltb-false _ _ g.0 in
      subst (Takes (bytes_of n) bytes) g.1 (record {
        parts = sym (take-append-drop n bytes);
        rest = IsBytes-drop n bytes fits;
        fits = (
          (let size : length (take n bytes) ≡ n = omega (arith, length-take n bytes) in size),
          λ k d inside. rw (get_or_default (take n bytes) k d 0 inside) (IsBytes-take n bytes fits k),
        );
      });
  again = λ text rest h.
      let long : ltb (length (text ++ rest)) n ≡ false = le-ltb _ _ (omega (arith, length-append text rest, h.0)) in
      rw (long, take_at text rest n h.0, drop_at text rest n h.0) refl;
}

pub lawful_nothing : IsLawful nothing
lawful_nothing = record {
  takes = λ bytes x fits e. subst (Takes nothing bytes) (ok_is (0, bytes) x e) (record { parts = refl; rest = fits; fits = refl });
  again = λ n rest none. ap (λ k. Ok (k, rest)) (sym none);
}

-- ---- bytes that stand for things

-- a thing has one byte, which stands for it alone
pub record IsCode {X : Type 0} (byte_of : X → ℕ) (meaning_of : ℕ → Option X) : Type 0 where
  pub small : (x : X) → byte_of x < 256
  pub there : (x : X) → meaning_of (byte_of x) ≡ Some x
  pub back : (n : ℕ) (x : X) → meaning_of n ≡ Some x → byte_of x ≡ n

meant_ok : {X : Type 0} (o : Option X) (rest : List ℕ) (y : X × List ℕ) → meant o rest ≡ Ok y → (x : X) × (o ≡ Some x) × ((x, rest) ≡ y)
meant_ok None rest y e = absurd cc
meant_ok (Some x) rest y e = (x, refl, ok_is (x, rest) y e)

pub lawful_named : {X : Type 0} (byte_of : X → ℕ) (meaning_of : ℕ → Option X) → IsCode byte_of meaning_of → IsLawful (named byte_of meaning_of)
lawful_named {X} byte_of meaning_of code = record {
  takes = λ bytes x fits e.
      let a = bind_ok ((number w8).read bytes) (λ b. meant (meaning_of b.0) b.1) x e in
      let m = meant_ok (meaning_of a.0.0) a.0.1 x a.2 in
      let t = (lawful_number w8 wide8).takes bytes a.0 fits a.1 in
      let byte : byte_of m.0 ≡ a.0.0 = code.back a.0.0 m.0 m.1 in
      let same : byte_of m.0 ∷ [] ≡ to_be_bytes w8 a.0.0 = ap (λ b. b ∷ []) (let e : byte_of m.0 ≡ a.0.0 % 256 = omega (arith, t.fits) in e) in
      subst (Takes (named byte_of meaning_of) bytes) m.2 (record {
        parts = t.parts ∙ ap (λ text. text ++ a.0.1) (sym same);
        rest = t.rest;
        fits = tt;
      });
  again = λ x rest h.
      let same : byte_of x ∷ rest ≡ to_be_bytes w8 (byte_of x) ++ rest = ap (λ b. b ∷ rest) (let e : byte_of x ≡ byte_of x % 256 = omega (
        arith,
        code.small x,
      ) in e) in
      ap (λ bytes. (number w8).read bytes >>= λ b. meant (meaning_of b.0) b.1) same
      ∙ rw ((lawful_number w8 wide8).again (byte_of x) rest (code.small x), code.there x) refl;
}

-- ---- fields of other fields

pub lawful_tested : {X : Type 0} (f : Field X) (passes : X → Bool) → IsLawful f → IsLawful (tested f passes)
lawful_tested f passes lf = record {
  takes = λ bytes x fits e.
      let a = bind_ok (f.read bytes) (λ y. cond (passes y.0) (Ok y) (Err BadField)) x e in
      let p = pass_ok (passes a.0.0) BadField a.0 x a.2 in
      let t = lf.takes bytes a.0 fits a.1 in
      subst (Takes (tested f passes) bytes) p.1 (record { parts = t.parts; rest = t.rest; fits = (t.fits, p.0) });
  again = λ x rest h. rw (lf.again x rest h.0, h.1) refl;
}

pub lawful_then : {A B : Type 0} (f : Field A) (g : A → Field B) → IsLawful f → ((a : A) → IsLawful (g a)) → IsLawful (f ▷ g)
lawful_then f g lf lg = record {
  takes = λ bytes x fits e.
      let a = bind_ok (f.read bytes) (λ y. (g y.0).read y.1 >>= λ z. Ok ((y.0, z.0), z.1)) x e in
      let b = bind_ok ((g a.0.0).read a.0.1) (λ z. Ok ((a.0.0, z.0), z.1)) x a.2 in
      let t = lf.takes bytes a.0 fits a.1 in
      let u = (lg a.0.0).takes a.0.1 b.0 t.rest b.1 in
      subst (Takes (f ▷ g) bytes) (ok_is ((a.0.0, b.0.0), b.0.1) x b.2) (record {
        parts = t.parts ∙ ap (λ rest. f.spell a.0.0 ++ rest) u.parts ∙ sym (append_assoc (f.spell a.0.0) ((g a.0.0).spell b.0.0) b.0.1);
        rest = u.rest;
        fits = (t.fits, u.fits);
      });
  again = λ x rest h.
      ap (f ▷ g).read (append_assoc (f.spell x.0) ((g x.0).spell x.1) rest)
      ∙ rw (lf.again x.0 ((g x.0).spell x.1 ++ rest) h.0, (lg x.0).again x.1 rest h.1) refl;
}

pub lawful_sized : {X : Type 0} (count : Field ℕ) (size_of : X → ℕ) (f : ℕ → Field X) → IsLawful count → ((n : ℕ) → IsLawful (f n))
    → ((n : ℕ) (x : X) → (f n).Fits x → size_of x ≡ n) → IsLawful (sized count size_of f)
lawful_sized count size_of f lc lf size = record {
  takes = λ bytes x fits e.
      let a = bind_ok (count.read bytes) (λ n. (f n.0).read n.1) x e in
      let t = lc.takes bytes a.0 fits a.1 in
      let u = (lf a.0.0).takes a.0.1 x t.rest a.2 in
      let same : a.0.0 ≡ size_of x.0 = sym (size a.0.0 x.0 u.fits) in
      let parts : bytes ≡ (count.spell a.0.0 ++ (f a.0.0).spell x.0) ++ x.1 =
      t.parts ∙ ap (λ rest. count.spell a.0.0 ++ rest) u.parts ∙ sym (append_assoc (count.spell a.0.0) ((f a.0.0).spell x.0) x.1) in
      record {
        parts = subst (λ n. bytes ≡ (count.spell n ++ (f n).spell x.0) ++ x.1) same parts;
        rest = u.rest;
        fits = subst (λ n. count.Fits n × (f n).Fits x.0) same (t.fits, u.fits);
      };
  again = λ x rest h.
      ap (sized count size_of f).read (append_assoc (count.spell (size_of x)) ((f (size_of x)).spell x) rest)
      ∙ rw (lc.again (size_of x) ((f (size_of x)).spell x ++ rest) h.0, (lf (size_of x)).again x rest h.1) refl;
}

repeated_takes : {X : Type 0} (f : Field X) → IsLawful f → (n : ℕ) (bytes : List ℕ) (x : List X × List ℕ) → IsBytes bytes → items_at f.read n bytes
    ≡ Ok x → Takes (repeated f n) bytes x
unfolding items_at
repeated_takes {X} f lf zero bytes x fits e =
    subst (Takes (repeated f 0) bytes) (ok_is ([], bytes) x e) (record { parts = refl; rest = fits; fits = (refl, All-nil f.Fits) })
repeated_takes {X} f lf (suc n) bytes x fits e =
    let a = bind_ok (f.read bytes) (λ first. items_at f.read n first.1 >>= λ others. Ok (first.0 ∷ others.0, others.1)) x e in
    let b = bind_ok (items_at f.read n a.0.1) (λ others. Ok (a.0.0 ∷ others.0, others.1)) x a.2 in
    let t = lf.takes bytes a.0 fits a.1 in
    let u = repeated_takes f lf n a.0.1 b.0 t.rest b.1 in
    subst (Takes (repeated f (suc n)) bytes) (ok_is (a.0.0 ∷ b.0.0, b.0.1) x b.2) (record {
      parts = t.parts ∙ ap (λ rest. f.spell a.0.0 ++ rest) u.parts ∙ sym (append_assoc (f.spell a.0.0) (flat_map f.spell b.0.0) b.0.1);
      rest = u.rest;
      fits = (ap suc u.fits.0, All-cons f.Fits a.0.0 b.0.0 t.fits u.fits.1);
    })

repeated_again : {X : Type 0} (f : Field X) → IsLawful f → (n : ℕ) (xs : List X) (rest : List ℕ) → length xs ≡ n → All f.Fits xs
    → items_at f.read n (flat_map f.spell xs ++ rest) ≡ Ok (xs, rest)
unfolding items_at
repeated_again f lf zero [] rest size fits = refl
repeated_again f lf zero (x ∷ xs) rest size fits = absurd (let clash : ⊥ = omega arith in clash)
repeated_again f lf (suc n) [] rest size fits = absurd (let clash : ⊥ = omega arith in clash)
repeated_again f lf (suc n) (x ∷ xs) rest size fits =
    let regrouped : flat_map f.spell (x ∷ xs) ++ rest ≡ f.spell x ++ (flat_map f.spell xs ++ rest) = append_assoc (f.spell x) (flat_map f.spell xs) rest in
    let first : f.read (f.spell x ++ (flat_map f.spell xs ++ rest)) ≡ Ok (x, flat_map f.spell xs ++ rest) =
    lf.again x (flat_map f.spell xs ++ rest) (All-head f.Fits x xs fits) in
    let more : items_at f.read n (flat_map f.spell xs ++ rest) ≡ Ok (xs, rest) =
    repeated_again f lf n xs rest (omega arith) (All-tail f.Fits x xs fits) in
    ap (items_at f.read (suc n)) regrouped ∙ rw (first, more) refl

pub lawful_repeated : {X : Type 0} (f : Field X) (n : ℕ) → IsLawful f → IsLawful (repeated f n)
lawful_repeated f n lf = record {
  takes = λ bytes x fits e. repeated_takes f lf n bytes x fits e;
  again = λ xs rest h. repeated_again f lf n xs rest h.0 h.1;
}

pub lawful_counted : {X : Type 0} (count : Field ℕ) (f : Field X) → IsLawful count → IsLawful f → IsLawful (counted count f)
lawful_counted count f lc lf = lawful_sized count length (repeated f) lc (λ n. lawful_repeated f n lf) (λ n x h. h.0)

pub lawful_seen : {X Y : Type 0} (to : X → Y) (from : Y → X) (f : Field Y) → IsLawful f → ((x : X) → from (to x) ≡ x) → ((y : Y) → to (from y) ≡ y)
    → IsLawful (seen to from f)
lawful_seen to from f lf there back = record {
  takes = λ bytes x fits e.
      let a = bind_ok (f.read bytes) (λ y. Ok (from y.0, y.1)) x e in
      let t = lf.takes bytes a.0 fits a.1 in
      subst (Takes (seen to from f) bytes) (ok_is (from a.0.0, a.0.1) x a.2) (record {
        parts = t.parts ∙ ap (λ y. f.spell y ++ a.0.1) (sym (back a.0.0));
        rest = t.rest;
        fits = subst f.Fits (sym (back a.0.0)) t.fits;
      });
  again = λ x rest h. rw (lf.again (to x) rest h) (ap (λ y. Ok (y, rest)) (there x));
}
