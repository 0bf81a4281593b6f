-- Where a design has one solution in each state, it has one run and one trace.
use Rattle.std.proofs.Common.{◌≡◌, ℕ, ◌<◌, ◌≤◌, get_or, List, [], ◌∷◌, length, take, sym, ◌∙◌, ap, subst, arith, None, Some, inl, inr}
use Rattle.std.specs.Prelude.{slice_index, slice_get, ◌⊎◌}
use Rattle.std.proofs.lemmas.Nat.Bits.{same_from_bits_below}
use Rattle.std.proofs.lemmas.List.{ext_get_or}
use Rattle.std.proofs.lemmas.Option.{slice_get_cases}
use Rattle.sv_base.specs.Steps.{Step, Values, Clocks}
use Rattle.sv_base.specs.TraceText.{trace_text}
use Rattle.sv_base.specs.Runs.{Runs}
use Rattle.sv_base.specs.Meaning.{State}
use Rattle.net_ir.specs.declared.design.Spec.{Spec}
use Rattle.net_ir.specs.Face.{ports_of}
use Rattle.net_ir.specs.Register.{registers_of}
use Rattle.net_ir.specs.Facts.{HasOneSolution}
use Rattle.net_ir.specs.Run.{start}
use Rattle.net_ir.specs.Stepping.{Samples, Follows}
use Rattle.net_ir.specs.Trace.{Shows, IsTrace}

-- an element stands at each number below their count
element_at : {X : Type 0} (xs : List X) (i : ℕ) → i < length xs → (x : X) × (slice_get xs i ≡ Some x)
element_at {X = X} xs i within = by_case (slice_get_cases xs i).1 where
  by_case : ((x : X) × (i < length xs) × (slice_get xs i ≡ Some x) × (get_or xs i x ≡ x)) ⊎ ((length xs ≤ i) × (slice_get xs i ≡ None)) →
      (x : X) × (slice_get xs i ≡ Some x)
  by_case (inl found) = (found.0, found.2)
  by_case (inr past) = absurd (let far : length xs ≤ i = past.0 in omega arith)

-- ---- one run

pub one_sample : (spec : Spec) (u before after kept a b : List ℕ) → Samples spec u before after kept a → Samples spec u before after kept b → a ≡ b
one_sample spec u before after kept a b p q =
    ext_get_or 0 a b (p.each ∙ sym q.each) (λ i within.
    let found = element_at (registers_of spec) i (subst (λ n. i < n) p.each within) in
    same_from_bits_below found.0.width (slice_index a i) (slice_index b i) (p.fits i found.0 found.1) (q.fits i found.0 found.1)
    (λ k below. p.bits i k found.0 found.1 below ∙ sym (q.bits i k found.0 found.1 below)))

-- states of the same levels and registers are one
pub same_state : (a b : State) → a.inputs ≡ b.inputs → a.registers ≡ b.registers → a ≡ b
same_state a b levels kept =
    ap (λ i. record { inputs = i; registers = a.registers }) levels ∙ ap (λ r. record { inputs = b.inputs; registers = r }) kept

pub one_next : (spec : Spec) (state : State) (step : Step) (a b : State) → HasOneSolution spec → Follows spec state step a → Follows spec state step b → a ≡ b
one_next spec state (Values settings) a b one p q = same_state a b (p.0 ∙ sym q.0) (p.1 ∙ sym q.1)
one_next spec state (Clocks settings) a b one p q =
    let levels : a.inputs ≡ b.inputs = p.0 ∙ sym q.0 in
    let before : p.1.0 ≡ q.1.0 = one.only state p.1.0 q.1.0 p.1.1 q.1.1 in
    let first : Samples spec q.1.0 state.inputs b.inputs state.registers a.registers =
    subst (λ i. Samples spec q.1.0 state.inputs i state.registers a.registers) levels (subst (λ u. Samples spec u state.inputs a.inputs state.registers a.registers) before p.1.2) in
    same_state a b levels (one_sample spec q.1.0 state.inputs b.inputs state.registers a.registers b.registers first q.1.2)

one_row : (spec : Spec) (state : State) (a b : List ℕ) → HasOneSolution spec → Shows spec state a → Shows spec state b → a ≡ b
one_row spec state a b one p q =
    p.row_is ∙ ap (λ u. take (length (ports_of spec)) u) (one.only state p.solution q.solution p.solves q.solves) ∙ sym q.row_is

pub one_run : (spec : Spec) (state : State) (steps : List Step) (rows others : List (List ℕ)) (last other : State) → HasOneSolution spec →
    Runs (Shows spec) (Follows spec) state steps rows last → Runs (Shows spec) (Follows spec) state steps others other → (rows ≡ others) × (last ≡ other)
one_run spec state [] rows others last other one p q =
    (p.rows_are ∙ ap (λ row. row ∷ []) (one_row spec state p.row q.row one p.shown q.shown) ∙ sym q.rows_are, p.last_is ∙ sym q.last_is)
one_run spec state (step ∷ steps) rows others last other one p q =
    let first : p.row ≡ q.row = one_row spec state p.row q.row one p.shown q.shown in
    let next : p.next ≡ q.next = one_next spec state step p.next q.next one p.follows_to q.follows_to in
    let rest = one_run spec q.next steps p.rest q.rest last other one (subst (λ s. Runs (Shows spec) (Follows spec) s steps p.rest last) next p.goes) q.goes in
    (p.rows_are ∙ ap (λ row. row ∷ p.rest) first ∙ ap (λ rows. q.row ∷ rows) rest.0 ∙ sym q.rows_are, rest.1)

pub one_trace : (spec : Spec) (steps : List Step) (a b : List ℕ) → HasOneSolution spec → IsTrace spec steps a → IsTrace spec steps b → a ≡ b
one_trace spec steps a b one p q =
    p.text ∙ ap (trace_text (ports_of spec)) (one_run spec (start spec) steps p.rows q.rows p.last q.last one p.run q.run).0 ∙ sym q.text
