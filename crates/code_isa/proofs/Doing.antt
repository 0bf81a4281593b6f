-- Marked instructions, done one by one.
use Rattle.std.proofs.Common.{◌≡◌, ◌≢◌, ℕ, ◌+◌, ◌<◌, ◌⊎◌, inl, inr, Bool, true, List, length, get_or, set, refl, sym, ◌∙◌, ap, subst, arith}
use Rattle.std.specs.Prelude.{Contains, slice_index, slice_get, Some}
use Rattle.std.proofs.lemmas.List.{get_or-set_other, get_or-set_same, length-map, map-set, get_or-map}
use Rattle.std.proofs.lemmas.Option.{slice_get_within}
use Rattle.bit_ops.specs.Lists.{words, widths}
use Rattle.bit_ops.specs.declared.value.Bits.{Bits}
use Rattle.code_isa.specs.declared.machine.Instr.{Instr}
use Rattle.code_isa.specs.declared.machine.Machine.{Machine}
use Rattle.code_isa.specs.Slots.{slot_widths, first_instruction}
use Rattle.code_isa.specs.Values.{instr_value}
use Rattle.code_isa.specs.Checks.{IsSlotOrdered}
use Rattle.code_isa.specs.Marks.{is_member}
use Rattle.code_isa.specs.Uses.{operands_at}
use Rattle.code_isa.specs.Activity.{MarksReaders, RunsOne}
use Rattle.code_isa.proofs.Running.{gained, size}

-- an instruction whose value is as it was is done, and nothing changes
pub one_same : (m : Machine) (k n : ℕ) (i : Instr) (u : List ℕ) (marks : List Bool) → slice_get m.code k ≡ Some i → n ≡ instr_value (slot_widths m) u i → n ≡ slice_index u (first_instruction m + k) → RunsOne m k u u marks marks
one_same m k n i u marks at value same = record {
  sized = refl;
  others = λ slot other. refl;
  value = λ other is. let e : i ≡ other = let both : Some i ≡ Some other = sym at ∙ is in cc in sym same ∙ value ∙ ap (instr_value (slot_widths m) u) e;
  readers = λ j. (λ h. inl h, λ choice. elim choice as (λ w. is_member marks j ≡ true) [ inl before ↦ before | inr changed ↦ absurd (changed.1 refl) ]);
}

-- an instruction whose value has changed is done, and the readers of its slot are marked
pub one_changed : (m : Machine) (k n : ℕ) (i : Instr) (u : List ℕ) (before after : List Bool) → IsSlotOrdered m → slice_get m.code k ≡ Some i → first_instruction m + k < length u → n ≡ instr_value (slot_widths m) u i → n ≢ slice_index u (first_instruction m + k) → MarksReaders m (first_instruction m + k) before after → RunsOne m k u (set u (first_instruction m + k) n) before after
one_changed m k n i u before after order at inside value other marked =
    let slot = first_instruction m + k in
    let here : slice_index (set u slot n) slot ≡ n = get_or-set_same u slot n 0 inside in
    record {
      sized = marked.sized;
      others = λ s apart. get_or-set_other u slot s n 0 apart;
      value = gained m u slot n k i order refl inside at value;
      readers = λ j. (
        λ h. elim ((marked.exact j).0 h) [
          | inl was ↦ inl was
          | inr there ↦ inr (there, λ e. other (sym here ∙ e))
        ],
        λ choice. (marked.exact j).1 (elim choice as (λ w. (is_member before j ≡ true) ⊎ Contains (operands_at m j) slot) [ inl was ↦ inl was | inr changed ↦ inr changed.0 ]),
      );
    }

-- the word that stands in an instruction's slot
pub read_here : (m : Machine) (slots : List Bits) (first k : ℕ) (b : Bits) → first ≡ first_instruction m → widths slots ≡ slot_widths m → k < length m.code → b ≡ get_or slots (first + k) b → b.word ≡ slice_index (words slots) (first_instruction m + k)
read_here m slots first k b here shape inside is =
    let within : first + k < length slots = omega (arith, size m slots shape) in
    ap (λ (x : Bits). x.word) is ∙ sym (get_or-map (λ (x : Bits). x.word) slots (first + k) b 0 within) ∙ ap (λ n. slice_index (words slots) (n + k)) here

-- the same with a value that is written
pub set_here : (m : Machine) (slots : List Bits) (first k : ℕ) (i : Instr) (b : Bits) (before after : List Bool) → first ≡ first_instruction m → widths slots ≡ slot_widths m → IsSlotOrdered m → slice_get m.code k ≡ Some i → b.word ≡ instr_value (slot_widths m) (words slots) i → b.word ≢ slice_index (words slots) (first_instruction m + k) → MarksReaders m (first_instruction m + k) before after → RunsOne m k (words slots) (words (set slots (first + k) b)) before after
set_here m slots first k i b before after here shape order at value other marked =
    let stored : words (set slots (first + k) b) ≡ set (words slots) (first_instruction m + k) b.word =
    map-set (λ (x : Bits). x.word) slots (first + k) b ∙ ap (λ n. set (words slots) (n + k) b.word) here in
    let within : first_instruction m + k < length (words slots) = omega (arith, size m slots shape, slice_get_within m.code k i at, length-map slots (λ (x : Bits). x.word)) in
    subst (λ new. RunsOne m k (words slots) new before after) (sym stored) (one_changed m k b.word i (words slots) before after order at within value other marked)
