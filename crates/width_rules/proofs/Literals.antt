-- Numbers and fills.
use Rattle.std.proofs.Common.{◌≡◌, ℕ, ◌+◌, ◌-◌, ◌*◌, ◌^◌, ◌≤◌, Bool, true, false, List, Ok, Option, None, Some, pos, negsuc, ◌-ℤ◌, if◌then◌else◌, refl, sym, ◌∙◌, ap, subst, arith}
use Rattle.std.specs.Prelude.{position, ◌==◌}
use Rattle.std.specs.Option.{IfSome}
use Rattle.std.proofs.lemmas.Int.{ints}
use Rattle.std.proofs.lemmas.Nat.{pow-add, pow_pos}
use Rattle.std.proofs.lemmas.Bool.{lt-ltb, le-ltb}
use Rattle.bit_ops.specs.Width.{IsWidth}
use Rattle.bit_ops.specs.Meaning.{signed_of, word_of, sext_of}
use Rattle.bit_ops.specs.declared.operation.Op.TheVariants as op
use Rattle.sv_base.specs.declared.kind.Kind.TheVariants.{BadNumber}
use Rattle.sv_ast.specs.declared.expression.Id.{Id}
use Rattle.sv_ast.specs.declared.expression.Sel.{Sel}
use Rattle.sv_ast.specs.declared.expression.Expr.{Expr}
use Rattle.sv_ast.specs.declared.expression.Expr.TheOpen.{Expr-F}
use Rattle.sv_ast.specs.declared.expression.Expr.TheViews.{out-Expr}
use Rattle.sv_ast.specs.declared.expression.Expr.TheFolds.{map-Expr, fold_out-Expr}
use Rattle.net_ir.specs.declared.term.Term.{Const}
use Rattle.net_ir.specs.Value.{AreWordsOf}
use Rattle.net_ir.specs.Terms.{Has, has_const, has_one}
use Rattle.const_eval.specs.declared.env.Const as found
use Rattle.const_eval.specs.Literal.{Literal, number_of, fill_of}
use Rattle.const_eval.specs.Meaning.{own, alone, fill}
use Rattle.const_eval.specs.Expressions as spec
use Rattle.const_eval.specs.Expressions.{Names, Judged, Select, expression_layer, select_layer, meaning_of, select_of, refused_at, or_refused, ◌>>=◌}
use Rattle.const_eval.specs.code.Agreeing.{Agrees}
use Rattle.const_eval.proofs.Means.{means}
use Rattle.const_eval.proofs.Sizes.{IsSizedLiteral, number_at_sized}
use Rattle.width_rules.specs.declared.measured.Measured.{Measured}
use Rattle.width_rules.specs.declared.pending.Pending as pending
use Rattle.width_rules.specs.Building.{one_of}
use Rattle.width_rules.specs.code.Standing.{Stands, IsFound}
use Rattle.width_rules.proofs.Pendings.{in_fill}
use Rattle.width_rules.proofs.Standings.{WordsOfSigned, one_wide}

-- an expression is what its layer makes of its parts
pub opened : (names : Names) (needed : Bool) (e : Expr) (x : Expr-F Expr Sel) → out-Expr e ≡ x →
    meaning_of names needed e ≡ expression_layer names (map-Expr Expr Sel (Bool → Judged) Select (means names) (select_of names) x) needed
opened names needed e x is =
    ap (λ (f : Bool → Judged). f needed) (fold_out-Expr (Bool → Judged) Select (expression_layer names) select_layer e)
    ∙ ap (λ y. expression_layer names (map-Expr Expr Sel (Bool → Judged) Select (means names) (select_of names) y) needed) is

-- ---- numbers

pub literal_stands : WordsOfSigned → (ws u : List ℕ) (text : Id) (c : found.Const) (r : Measured) → Agrees IsFound (Ok c) (spec.literal text) →
    (IsWidth c.value.width → Has ws u (Const c.value) c.value.width c.value.word → Stands ws u r (alone c.value.width c.signed c.value.word)) →
    Agrees (Stands ws u) (Ok r) (spec.literal text)
literal_stands law ws u text c r h step = by_number (number_of text.name) (number_at_sized (position (λ b. b == 39) text.name) text.name) h where
  own_word : (l : Literal) → IsSizedLiteral l → own (alone l.size l.signed l.word) ≡ l.word
  own_word l sized = by_sign l.signed where
    by_sign : (s : Bool) → (if s then sext_of l.size l.size l.word else l.word) ≡ l.word
    by_sign true = law l.size l.word sized.1
    by_sign false = refl

  by_number : (o : Option Literal) → IfSome o IsSizedLiteral → Agrees IsFound (Ok c) (or_refused (refused_at BadNumber text) o >>= λ l. Ok (alone l.size l.signed l.word)) →
      Agrees (Stands ws u) (Ok r) (or_refused (refused_at BadNumber text) o >>= λ l. Ok (alone l.size l.signed l.word))
  by_number None sized found = absurd found
  by_number (Some l) sized found =
      let wide : IsWidth c.value.width = subst IsWidth (sym found.0) sized.0 in
      subst (λ n. Stands ws u r (alone n l.signed l.word)) found.0
      (subst (λ s. Stands ws u r (alone c.value.width s l.word)) found.1
      (subst (λ a. Stands ws u r (alone c.value.width c.signed a)) (found.2 ∙ own_word l sized) (step wide (has_const ws u c.value))))

-- ---- fills

signed_ones : (n : ℕ) → 1 ≤ n → signed_of n (2 ^ n - 1) ≡ negsuc 0
signed_ones n some =
    let twice : 2 ^ n ≡ 2 ^ (n - 1) * 2 ^ 1 = ap (λ k. 2 ^ k) (let parts : n ≡ (n - 1) + 1 = omega arith in parts) ∙ pow-add 2 (n - 1) 1 in
    let half : 1 ≤ 2 ^ (n - 1) = pow_pos (n - 1) in
    let whole : 1 ≤ 2 ^ n = pow_pos n in
    ap (λ (b : Bool). if b then pos (2 ^ n - 1) else pos (2 ^ n - 1) -ℤ pos (2 ^ n)) (le-ltb (2 ^ n - 1) (2 ^ (n - 1)) (omega (arith, twice, half)))
    ∙ omega (arith, ints, whole)

ones_extended : WordsOfSigned → (n : ℕ) → 1 ≤ n → sext_of 1 n 1 ≡ 2 ^ n - 1
ones_extended law n some = ap (word_of n) (sym (signed_ones n some)) ∙ law n (2 ^ n - 1) (omega (arith, pow_pos n))

zero_extended : WordsOfSigned → (n : ℕ) → 1 ≤ n → sext_of 1 n 0 ≡ 0
zero_extended law n some =
    ap (word_of n) (sym (ap (λ (b : Bool). if b then pos 0 else pos 0 -ℤ pos (2 ^ n)) (lt-ltb 0 (2 ^ (n - 1)) (pow_pos (n - 1))))) ∙ law n 0 (pow_pos n)

fill_extended : WordsOfSigned → (n word : ℕ) (one : Bool) → 1 ≤ n → word ≡ own (fill one) → sext_of 1 n word ≡ (if one then 2 ^ n - 1 else 0)
fill_extended law n word true some is = ap (sext_of 1 n) is ∙ ones_extended law n some
fill_extended law n word false some is = ap (sext_of 1 n) is ∙ zero_extended law n some

fill_stands : WordsOfSigned → (ws u : List ℕ) (c : found.Const) (one : Bool) → AreWordsOf ws u → IsFound c (fill one) →
    Stands ws u (record { size = 1; signed = false; pending = pending.Fill c.value }) (fill one)
fill_stands law ws u c one words h = record {
  words = words;
  width = one_wide;
  size = refl;
  signed = refl;
  terms = λ n s least most.
      subst (λ t. Has ws u t n (if one then 2 ^ n - 1 else 0)) (sym (in_fill c.value n s))
      (subst (λ a. Has ws u (one_of op.Sext n (Const c.value)) n a) (fill_extended law n c.value.word one least h.2)
      (has_one ws u op.Sext n 0 (Const c.value) 1 c.value.word (least, most) least (subst (λ k. Has ws u (Const c.value) k c.value.word) h.0 (has_const ws u c.value))));
}

pub filled_stands : WordsOfSigned → (ws u : List ℕ) (text : Id) (c : found.Const) → AreWordsOf ws u → Agrees IsFound (Ok c) (spec.filled text) →
    Agrees (Stands ws u) (Ok (record { size = 1; signed = false; pending = pending.Fill c.value })) (spec.filled text)
filled_stands law ws u text c words h = by_fill (fill_of text.name) h where
  by_fill : (o : Option Bool) → Agrees IsFound (Ok c) (or_refused (refused_at BadNumber text) o >>= λ one. Ok (fill one)) →
      Agrees (Stands ws u) (Ok (record { size = 1; signed = false; pending = pending.Fill c.value })) (or_refused (refused_at BadNumber text) o >>= λ one. Ok (fill one))
  by_fill None found = absurd found
  by_fill (Some one) found = fill_stands law ws u c one words found
