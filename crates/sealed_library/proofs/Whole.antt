-- The laws of whole libraries: what is read is what is spelled, one machine a text, one answer a text.
use Rattle.std.proofs.Common.{◌≡◌, ◌≢◌, ℕ, zero, suc, Bool, true, false, cond, eqb, List, [], ◌∷◌, ◌++◌, length, take, drop, Result, Ok, Err, refl, sym, ap, subst, ◌∙◌, arith, inl, inr, ◌⊎◌}
use Rattle.std.specs.Prelude.{IfOk, IfErr}
use Rattle.std.specs.Str.{bytes_eq}
use Rattle.std.specs.Int.{w8, to_be_bytes}
use Rattle.std.proofs.lemmas.Bool.{cases_lt, eqb-true}
use Rattle.std.proofs.lemmas.List.{take-append-drop, append-nil, nil_from_length}
use Rattle.std.proofs.lemmas.Slice.Eq.{bytes_eq-Decides}
use Rattle.code_isa.specs.declared.machine.Machine.{Machine}
use Rattle.code_isa.specs.declared.fault.CodeFault.{CodeFault}
use Rattle.code_isa.specs.declared.fault.CodeFault.TheVariants as code
use Rattle.code_isa.specs.Checks.{IsChecked}
use Rattle.code_isa.specs.Faults.{Holds, IsFirstFault, number_of}
use Rattle.sealed_library.specs.declared.fault.FormatFault.{FormatFault}
use Rattle.sealed_library.specs.declared.fault.FormatFault.TheVariants as format
use Rattle.sealed_library.specs.declared.fault.LibFault.{LibFault}
use Rattle.sealed_library.specs.declared.fault.LibFault.TheVariants.{BadMagic, BadVersion, Truncated, BadField, Trailing, Code, NoMemory}
use Rattle.sealed_library.specs.Fields.{◌>>=◌, number}
use Rattle.sealed_library.specs.Version1.{Fields, machine_field, machine_fields}
use Rattle.sealed_library.specs.Library.{magic, library_text, Spells, IsLibrary, magic_at, version_at, library_at, IsRefused}
use Rattle.sealed_library.specs.code.Parts.{told}
use Rattle.sealed_library.proofs.Laws.{IsBytes, IsBytes-drop, bind_ok, pass_ok, ok_is, wide8, lawful_number}
use Rattle.sealed_library.proofs.Table.{lawful_machine}
use Rattle.sealed_library.proofs.Machines.{machine_decides}

cases_known : (b : Bool) → (b ≡ true) ⊎ (b ≡ false)
cases_known true = inl refl
cases_known false = inr refl

-- ---- what is read is what is spelled

-- bytes that begin with the name of the format
magic_takes : (bytes start : List ℕ) → IsBytes bytes → magic_at bytes ≡ Ok start → (bytes ≡ magic ++ start) × IsBytes start
unfolding magic_at
magic_takes bytes start fits e =
    let p = pass_ok (bytes_eq (take 7 bytes) magic) format.BadMagic (drop 7 bytes) start e in
    let front : take 7 bytes ≡ magic = (bytes_eq-Decides (take 7 bytes) magic).0 p.0 in
    subst (λ rest. (bytes ≡ magic ++ rest) × IsBytes rest) p.1 (
      sym (take-append-drop 7 bytes) ∙ ap (λ text. text ++ drop 7 bytes) front,
      IsBytes-drop 7 bytes fits,
    )

magic_again : (rest : List ℕ) → magic_at (magic ++ rest) ≡ Ok rest
unfolding magic_at
magic_again rest = refl

-- the version is the one that there is
version_takes : (version : ℕ) (bytes : List ℕ) (x : Fields × List ℕ) → version_at version bytes ≡ Ok x → (version ≡ 1) × (machine_field.read bytes ≡ Ok x)
unfolding version_at
version_takes version bytes x e =
    elim (cases_known (eqb version 1)) [
      | inl is ↦ (eqb-true version 1 is, sym (ap (λ b. cond b (machine_field.read bytes) (Err format.BadVersion)) is) ∙ e)
      | inr not ↦ absurd (let clash : (let r : Result (Fields × List ℕ) FormatFault = Err format.BadVersion in r)
          ≡ Ok x = sym (ap (λ b. cond b (machine_field.read bytes) (Err format.BadVersion)) not) ∙ e in cc)
    ]

-- the parts that were taken are the whole
joined : (bytes start behind text rest : List ℕ) (version : ℕ) → bytes ≡ magic ++ start → start ≡ to_be_bytes w8 version ++ behind → version ≡ 1
    → behind ≡ text ++ rest → rest ≡ [] → bytes ≡ magic ++ 1 ∷ text
joined bytes start behind text rest version p q r s none =
    p ∙ ap (λ t. magic ++ t) (q ∙ ap (λ n. to_be_bytes w8 n ++ behind) r ∙ ap (λ t. 1 ∷ t) (s ∙ ap (λ t. text ++ t) none ∙ append-nil text))

pub library_takes : (bytes : List ℕ) (x : Fields) → IsBytes bytes → library_at bytes ≡ Ok x → (bytes ≡ library_text x) × machine_field.Fits x
unfolding library_at library_text
library_takes bytes x fits e =
    let ended : Fields × List ℕ → Result Fields FormatFault = λ fields. cond (eqb (length fields.1) 0) (Ok fields.0) (Err format.Trailing) in
    let fields_of : ℕ × List ℕ → Result Fields FormatFault = λ version. version_at version.0 version.1 >>= ended in
    let a = bind_ok (magic_at bytes) (λ start. (number w8).read start >>= fields_of) x e in
    let b = bind_ok ((number w8).read a.0) fields_of x a.2 in
    let c = bind_ok (version_at b.0.0 b.0.1) ended x b.2 in
    let p = pass_ok (eqb (length c.0.1) 0) format.Trailing c.0.0 x c.2 in
    let t = magic_takes bytes a.0 fits a.1 in
    let u = (lawful_number w8 wide8).takes a.0 b.0 t.1 b.1 in
    let v = version_takes b.0.0 b.0.1 c.0 c.1 in
    let w = lawful_machine.takes b.0.1 c.0 u.rest v.1 in
    let none : c.0.1 ≡ [] = nil_from_length c.0.1 (eqb-true (length c.0.1) 0 p.0) in
    let whole : bytes ≡ magic ++ 1 ∷ machine_field.spell c.0.0 =
    joined bytes a.0 b.0.1 (machine_field.spell c.0.0) c.0.1 b.0.0 t.0 u.parts v.0 w.parts none in
    subst (λ y. (bytes ≡ magic ++ 1 ∷ machine_field.spell y) × machine_field.Fits y) p.1 (whole, w.fits)

pub library_again : (x : Fields) → machine_field.Fits x → library_at (library_text x) ≡ Ok x
unfolding library_at library_text version_at
library_again x fits =
    let read : machine_field.read (machine_field.spell x) ≡ Ok (x, []) = ap machine_field.read (sym (append-nil (machine_field.spell x)))
    ∙ lawful_machine.again x [] fits in
    let version : (number w8).read (1 ∷ machine_field.spell x) ≡ Ok (
      1,
      machine_field.spell x,
    ) = (lawful_number w8 wide8).again 1 (machine_field.spell x) (omega arith) in
    rw (magic_again (1 ∷ machine_field.spell x), version, read) refl

-- ---- one machine a text

pub fields_are : (bytes : List ℕ) (m : Machine) → Spells bytes m → library_at bytes ≡ Ok (machine_fields m)
fields_are bytes m spells = ap library_at spells.text ∙ library_again (machine_fields m) spells.fits

pub one_machine_spelled : (bytes : List ℕ) (m n : Machine) → Spells bytes m → Spells bytes n → m ≡ n
one_machine_spelled bytes m n p q =
    machine_decides m n (ok_is (machine_fields m) (machine_fields n) (sym (fields_are bytes m p) ∙ fields_are bytes n q))

-- what was read is the machine that the bytes spell
pub spells_read : (bytes : List ℕ) (m : Machine) → IsBytes bytes → library_at bytes ≡ Ok (machine_fields m) → Spells bytes m
spells_read bytes m fits e = let t = library_takes bytes (machine_fields m) fits e in record { fits = t.1; text = t.0 }

-- ---- one answer a text

faults_are : (m : Machine) (e f : CodeFault) → IsFirstFault m e → IsFirstFault m f → number_of e ≡ number_of f
faults_are m e f p q =
    elim (cases_lt (number_of e) (number_of f)) [
      | inl less ↦ absurd (p.has (q.first e less))
      | inr le ↦ elim (cases_lt (number_of f) (number_of e)) [
        | inl less ↦ absurd (q.has (p.first f less))
        | inr more ↦ omega arith
      ]
    ]

-- a fault by its number
fault_at : ℕ → CodeFault
fault_at zero = code.PortShape
fault_at (suc zero) = code.PortShape
fault_at (suc (suc zero)) = code.SlotOrder
fault_at (suc (suc (suc zero))) = code.SlotWidth
fault_at (suc (suc (suc (suc zero)))) = code.CycleInside
fault_at (suc (suc (suc (suc (suc zero))))) = code.SummaryShort
fault_at (suc (suc (suc (suc (suc (suc n)))))) = code.ChainShort

fault_is : (e : CodeFault) → fault_at (number_of e) ≡ e
unfolding fault_at
fault_is code.PortShape = refl
fault_is code.SlotOrder = refl
fault_is code.SlotWidth = refl
fault_is code.CycleInside = refl
fault_is code.SummaryShort = refl
fault_is code.ChainShort = refl

one_fault : (m : Machine) (e f : CodeFault) → IsFirstFault m e → IsFirstFault m f → e ≡ f
one_fault m e f p q = sym (fault_is e) ∙ ap fault_at (faults_are m e f p q) ∙ fault_is f

-- what all refusals of a text have in common: a field that the format refuses, or the first fault of the machine that it spells
data Says (bytes : List ℕ) : LibFault → Type 0 where
  field : {e : FormatFault} → library_at bytes ≡ Err e → Says bytes (told e)
  fault : {e : CodeFault} → (m : Machine) → Spells bytes m → IsFirstFault m e → Says bytes (Code e)

says : (bytes : List ℕ) (e : LibFault) → e ≢ NoMemory → IsRefused bytes e → Says bytes e
says bytes BadMagic other h = field {e = format.BadMagic} h
says bytes BadVersion other h = field {e = format.BadVersion} h
says bytes Truncated other h = field {e = format.Truncated} h
says bytes BadField other h = field {e = format.BadField} h
says bytes Trailing other h = field {e = format.Trailing} h
says bytes (Code e) other h = fault h.0 h.1 h.2
says bytes NoMemory other h = absurd (other refl)

pub refused_as_told : (bytes : List ℕ) (e : FormatFault) → library_at bytes ≡ Err e → IsRefused bytes (told e)
refused_as_told bytes format.BadMagic h = h
refused_as_told bytes format.BadVersion h = h
refused_as_told bytes format.Truncated h = h
refused_as_told bytes format.BadField h = h
refused_as_told bytes format.Trailing h = h

err_is : (e f : FormatFault) → (let r : Result Fields FormatFault = Err e in r) ≡ Err f → e ≡ f
err_is e f h = cc

no_err : (x : Fields) (e : FormatFault) → (let r : Result Fields FormatFault = Ok x in r) ≡ Err e → ⊥
no_err x e h = cc

one_said : (bytes : List ℕ) (e f : LibFault) → Says bytes e → Says bytes f → e ≡ f
one_said bytes e f (field {e = c} h) (field {e = d} k) = ap told (err_is c d (sym h ∙ k))
one_said bytes e f (field {e = c} h) (fault m s p) = absurd (no_err (machine_fields m) c (sym (fields_are bytes m s) ∙ h))
one_said bytes e f (fault m s p) (field {e = d} k) = absurd (no_err (machine_fields m) d (sym (fields_are bytes m s) ∙ k))
one_said bytes e f (fault {e = c} m s p) (fault {e = d} n t q) =
    ap Code (one_fault n c d (subst (λ x. IsFirstFault x c) (one_machine_spelled bytes m n s t) p) q)

pub one_refusal_told : (bytes : List ℕ) (e f : LibFault) → e ≢ NoMemory → f ≢ NoMemory → IsRefused bytes e → IsRefused bytes f → e ≡ f
one_refusal_told bytes e f p q h k = one_said bytes e f (says bytes e p h) (says bytes f q k)

holds_all : (m : Machine) (e : CodeFault) → IsChecked m → Holds m e
holds_all m code.PortShape c = c.port_shape
holds_all m code.SlotOrder c = c.slot_order
holds_all m code.SlotWidth c = c.slot_width
holds_all m code.CycleInside c = c.acyclic
holds_all m code.SummaryShort c = c.summarised
holds_all m code.ChainShort c = c.chained

not_said : (bytes : List ℕ) (m : Machine) (e : LibFault) → IsLibrary bytes m → Says bytes e → ⊥
not_said bytes m e l (field {e = c} h) = no_err (machine_fields m) c (sym (fields_are bytes m l.spells) ∙ h)
not_said bytes m e l (fault {e = c} n s p) =
    p.has (holds_all n c (subst IsChecked (one_machine_spelled bytes m n l.spells s) l.checked))

pub never_both : (bytes : List ℕ) (m : Machine) (e : LibFault) → IsLibrary bytes m → e ≢ NoMemory → IsRefused bytes e → ⊥
never_both bytes m e l other h = not_said bytes m e l (says bytes e other h)

pub never_refused : (bytes : List ℕ) (m : Machine) (e : FormatFault) → IsLibrary bytes m → library_at bytes ≡ Err e → ⊥
never_refused bytes m e l h = no_err (machine_fields m) e (sym (fields_are bytes m l.spells) ∙ h)

-- ---- what is read of a library

pub read_same : (bytes : List ℕ) (m : Machine) (read : Result Machine LibFault) → IsLibrary bytes m → IfOk read (λ x. IsLibrary bytes x)
    → IfOk read (λ x. x ≡ m)
read_same bytes m (Ok x) l h = one_machine_spelled bytes x m h.spells l.spells
read_same bytes m (Err e) l h = tt

is_memory : (e : LibFault) → (e ≡ NoMemory) ⊎ (e ≢ NoMemory)
is_memory BadMagic = inr (λ h. cc)
is_memory BadVersion = inr (λ h. cc)
is_memory Truncated = inr (λ h. cc)
is_memory BadField = inr (λ h. cc)
is_memory Trailing = inr (λ h. cc)
is_memory (Code e) = inr (λ h. cc)
is_memory NoMemory = inl refl

pub memory_alone : (bytes : List ℕ) (m : Machine) (read : Result Machine LibFault) → IsLibrary bytes m → IfErr read (λ e. IsRefused bytes e)
    → IfErr read (λ e. e ≡ NoMemory)
memory_alone bytes m (Ok x) l h = tt
memory_alone bytes m (Err e) l h =
    elim (is_memory e) [
      | inl is ↦ is
      | inr other ↦ absurd (never_both bytes m e l other h)
    ]
