-- What is answered of an expression.
use Rattle.std.proofs.Common.{◌≡◌, ℕ, zero, suc, ◌+◌, ◌*◌, ◌≤◌, ◌<◌, ◌^◌, Bool, not, ◌&&◌, List, [], Option, None, Some, Result, Ok, Err, refl, sym, ◌∙◌, ap, subst, arith}
use Rattle.std.specs.Prelude.{IfOk, IfErr, IfSome, slice_index, unwrap_or}
use Rattle.std.proofs.lemmas.Nat.{pow_pos}
use Rattle.bit_ops.specs.Width.{IsWidth}
use Rattle.sv_base.specs.declared.refusal.Refusal.{Refusal}
use Rattle.sv_base.specs.declared.fault.Fault.{Fault}
use Rattle.sv_base.specs.declared.fault.Fault.TheVariants.{Refused, NoMemory}
use Rattle.sv_base.specs.Faults.{IfRefused}
use Rattle.sv_ast.specs.declared.expression.Expr.{Expr}
use Rattle.net_ir.specs.declared.design.Var.{Var}
use Rattle.net_ir.specs.declared.term.Term.{Term}
use Rattle.net_ir.specs.Value.{widths_of, size, AreWordsOf}
use Rattle.net_ir.specs.Lawful.{IsLawful}
use Rattle.net_ir.specs.Terms.{Has}
use Rattle.const_eval.specs.Env.{bound_of}
use Rattle.const_eval.specs.Meaning.{Meaning, assigned, assigned_size}
use Rattle.const_eval.specs.Expressions.{Judged, ◌>>=◌}
use Rattle.const_eval.specs.Alike.{Alike}
use Rattle.const_eval.specs.code.Agreeing.{Agrees}
use Rattle.const_eval.proofs.Judged.{ok_behind}
use Rattle.width_rules.specs.declared.measured.Measured.{Measured}
use Rattle.width_rules.specs.declared.scope.Scope.{Scope}
use Rattle.width_rules.specs.Scope.{AreThere, IsScope, AreWordsIn, meaning_by, meaning_in}
use Rattle.width_rules.specs.Sized.{IsSizedTerm, IsSized, IsMeasuredIn}
use Rattle.width_rules.specs.Nodes.{nodes_of, parts_of}
use Rattle.width_rules.specs.Waiting.{term_in}
use Rattle.width_rules.specs.Assigning.{context_size, assigned_term}
use Rattle.width_rules.specs.Selecting.{Lookup}
use Rattle.width_rules.specs.Built.{measured_of, term_of}
use Rattle.width_rules.specs.code.Waiting.{weight_of}
use Rattle.width_rules.specs.code.Standing.{Stands}
use Rattle.width_rules.proofs.Standings.{ValuesFit, WordsOfSigned}
use Rattle.width_rules.proofs.Assigned.{CutIsRest, assigned_has}
use Rattle.width_rules.proofs.Stood.{ExpressionsSized, stood}
use Rattle.width_rules.proofs.Weights.{cut_nodes, term_fits}
use Rattle.width_rules.proofs.Weighed.{weighed}

-- words that are all 0 are words of any widths
zero_word : (x : ℕ) → slice_index [] x ≡ 0
zero_word zero = refl
zero_word (suc x) = refl

no_words : (ws : List ℕ) → AreWordsOf ws []
no_words ws x within = subst (λ n. n < 2 ^ slice_index ws x) (sym (zero_word x)) (pow_pos (slice_index ws x))

-- an answer has the size, the value and the sign of a meaning
abbrev pub Answers : List ℕ → List ℕ → Option ℕ → Bool → Term × Bool → Meaning → Type 0
Answers ws u target unsigned answer m = IsSizedTerm ws u target unsigned m answer.0 answer.1

-- what is answered of what was measured
abbrev answer_of : Option ℕ → Bool → Measured → Term × Bool
answer_of target unsigned m = (assigned_term m target unsigned, m.signed)

-- ---- terms

module _ (law : ValuesFit) (word : WordsOfSigned) (sizes : ExpressionsSized) (cut : CutIsRest) where
  answered : (ws u : List ℕ) (target : Option ℕ) (unsigned : Bool) → IfSome target IsWidth → (measured : Result Measured Refusal) (judged : Judged) → Alike (Stands ws u) measured judged →
      Alike (Answers ws u target unsigned) (measured >>= λ m. Ok (answer_of target unsigned m)) judged
  answered ws u target unsigned wide (Ok m) (Ok a) h =
      let has : Has ws u (assigned_term m target unsigned) (assigned_size target a) (assigned target unsigned a) = assigned_has law cut ws u m a target unsigned h wide in
      record { size = has.size; value = has.word; sign = h.signed }
  answered ws u target unsigned wide (Err refusal) (Err other) h = h
  answered ws u target unsigned wide (Ok m) (Err refusal) h = absurd h
  answered ws u target unsigned wide (Err refusal) (Ok a) h = absurd h

  lawfully : (ws u : List ℕ) (target : Option ℕ) (unsigned : Bool) → IfSome target IsWidth → (measured : Result Measured Refusal) (judged : Judged) → Alike (Stands ws u) measured judged →
      IfOk {T = Term × Bool} (measured >>= λ m. Ok (answer_of target unsigned m)) (λ answer. IsLawful ws answer.0)
  lawfully ws u target unsigned wide (Ok m) (Ok a) h =
      let has : Has ws u (assigned_term m target unsigned) (assigned_size target a) (assigned target unsigned a) = assigned_has law cut ws u m a target unsigned h wide in has.lawful
  lawfully ws u target unsigned wide (Err refusal) (Err other) h = tt
  lawfully ws u target unsigned wide (Ok m) (Err refusal) h = absurd h
  lawfully ws u target unsigned wide (Err refusal) (Ok a) h = absurd h

  pub terms_sized : (scope : Scope) (u : List ℕ) (target : Option ℕ) (unsigned : Bool) (e : Expr) → IsScope scope → IfSome target IsWidth → AreWordsIn scope u →
      Alike (Answers (widths_of scope.vars) u target unsigned) (term_of (bound_of scope.names) scope.vars target unsigned e) (meaning_in scope u e)
  terms_sized scope u target unsigned e lawful wide words =
      answered (widths_of scope.vars) u target unsigned wide (measured_of (bound_of scope.names) scope.vars e) (meaning_in scope u e) (stood law word sizes (bound_of scope.names) scope.vars lawful u words e)

  pub terms_lawful : (scope : Scope) (target : Option ℕ) (unsigned : Bool) (e : Expr) → IsScope scope → IfSome target IsWidth →
      IfOk (term_of (bound_of scope.names) scope.vars target unsigned e) (λ answer. IsLawful (widths_of scope.vars) answer.0)
  terms_lawful scope target unsigned e lawful wide =
      lawfully (widths_of scope.vars) [] target unsigned wide (measured_of (bound_of scope.names) scope.vars e) (meaning_in scope [] e)
      (stood law word sizes (bound_of scope.names) scope.vars lawful [] (no_words (widths_of scope.vars)) e)

  -- ---- what was measured

  measured_size : (ws u : List ℕ) (m : Measured) (a : Meaning) (target : Option ℕ) (unsigned : Bool) → Stands ws u m a →
      Has ws u (assigned_term m target unsigned) (assigned_size target a) (assigned target unsigned a) → size ws (assigned_term m target unsigned) ≡ unwrap_or target m.size
  measured_size ws u m a None unsigned h has = has.size ∙ sym h.size
  measured_size ws u m a (Some n) unsigned h has = has.size

  measured_in : (ws u : List ℕ) (m : Measured) (a : Meaning) → Stands ws u m a → IsMeasuredIn ws m
  measured_in ws u m a h = record {
    width = subst IsWidth (sym h.size) h.width;
    lawful = λ target unsigned wide. (assigned_has law cut ws u m a target unsigned h wide).lawful;
    sized = λ target unsigned wide. measured_size ws u m a target unsigned h (assigned_has law cut ws u m a target unsigned h wide);
  }

  all_measured : (ws u : List ℕ) (measured : Result Measured Refusal) (judged : Judged) → Alike (Stands ws u) measured judged → IfOk measured (IsMeasuredIn ws)
  all_measured ws u (Ok m) (Ok a) h = measured_in ws u m a h
  all_measured ws u (Err refusal) (Err other) h = tt
  all_measured ws u (Ok m) (Err refusal) h = absurd h
  all_measured ws u (Err refusal) (Ok a) h = absurd h

  pub measured_lawful : (lookup : Lookup) (vars : List Var) (e : Expr) → AreThere lookup vars → IfOk (measured_of lookup vars e) (IsMeasuredIn (widths_of vars))
  measured_lawful lookup vars e there =
      all_measured (widths_of vars) [] (measured_of lookup vars e) (meaning_by lookup vars [] e) (stood law word sizes lookup vars there [] (no_words (widths_of vars)) e)

assigned_nodes : (m : Measured) (target : Option ℕ) (unsigned : Bool) → nodes_of (assigned_term m target unsigned) ≤ 1 + weight_of m.pending
assigned_nodes m target unsigned =
    let n = context_size target m.size in
    let s = not unsigned && m.signed in
    omega (arith, cut_nodes (unwrap_or target m.size) n (term_in m.pending n s), term_fits m.pending n s)

pub terms_short : (lookup : Lookup) (vars : List Var) (target : Option ℕ) (unsigned : Bool) (e : Expr) →
    IfOk (term_of lookup vars target unsigned e) (λ answer. nodes_of answer.0 ≤ 6 * parts_of e)
terms_short lookup vars target unsigned e =
    ok_behind (λ m. weight_of m.pending + 1 ≤ 6 * parts_of e) (λ (answer : Term × Bool). nodes_of answer.0 ≤ 6 * parts_of e) (measured_of lookup vars e)
    (λ m. Ok (answer_of target unsigned m)) (weighed lookup vars e) (λ m h. omega (arith, h, assigned_nodes m target unsigned))

-- ---- what the code answers

pub ok_told : {X : Type 0} (P : X → Type 0) (r : Result X Fault) (told : Result X Refusal) → Agrees (λ x y. x ≡ y) r told → IfOk told P → IfOk r P
ok_told P (Ok x) (Ok y) same h = subst P (sym same) h
ok_told P (Ok x) (Err refusal) same h = absurd same
ok_told P (Err fault) told same h = tt

pub sized_told : (ws u : List ℕ) (target : Option ℕ) (unsigned : Bool) (r : Result (Term × Bool) Fault) (told : Result (Term × Bool) Refusal) (judged : Judged) →
    Agrees (λ x y. x ≡ y) r told → Alike (Answers ws u target unsigned) told judged → IfOk r (IsSized ws u target unsigned judged)
sized_told ws u target unsigned (Ok x) (Ok y) (Ok m) same h = subst (λ answer. Answers ws u target unsigned answer m) (sym same) h
sized_told ws u target unsigned (Ok x) (Ok y) (Err refusal) same h = absurd h
sized_told ws u target unsigned (Ok x) (Err refusal) judged same h = absurd same
sized_told ws u target unsigned (Err fault) told judged same h = tt

pub refused_told : {X Y : Type 0} (S : X → Y → Type 0) (r : Result X Fault) (told : Result X Refusal) (judged : Result Y Refusal) →
    Agrees (λ x y. x ≡ y) r told → Alike S told judged → IfErr r (IfRefused (λ refusal. judged ≡ Err refusal))
refused_told S (Ok x) told judged same h = tt
refused_told S (Err NoMemory) told judged same h = tt
refused_told S (Err (Refused refusal)) (Ok y) judged same h = absurd same
refused_told S (Err (Refused refusal)) (Err other) (Ok m) same h = absurd h
refused_told S (Err (Refused refusal)) (Err other) (Err third) same h = ap Err (sym h ∙ sym same)
