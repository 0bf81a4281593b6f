-- Where a reading stands in the whole text: what was read, what may still come, and what the machine makes of it.
use Rattle.std.proofs.Common.{◌≡◌, ◌∙◌, ◌⊎◌, inl, inr, ℕ, ◌+◌, ◌-◌, ◌<◌, ◌≤◌, List, [], ◌∷◌, ◌++◌, length, Some, Ok, Err, sym, ap, subst, arith, append_assoc, length-append}
use Rattle.std.proofs.lemmas.Bool.Decides.{leb_tells}
use Rattle.sv_lexer.specs.declared.token.Token.{Token}
use Rattle.sv_base.specs.declared.refusal.Refusal.{Refusal}
use Rattle.sv_ast.specs.declared.expression.Expr.{Expr}
use Rattle.sv_base.specs.declared.fault.Fault.{Fault}
use Rattle.sv_base.specs.declared.fault.Fault.TheVariants.{Refused, NoMemory}
use Rattle.expr_parser.specs.Grammar.{Phrase, tokens_of, IsPhrase, strength}
use Rattle.expr_parser.specs.Nesting.{nesting, greatest_nesting}
use Rattle.expr_parser.specs.Outcome.{refusal_at, nesting_refusal, BeginsWith, IsShallow}
use Rattle.expr_parser.specs.Input.{Input, Outcome, Parser, past_marks, front_of, and_then}
use Rattle.expr_parser.proofs.Machine.{Frame, wants, failed, reduce, step, steps, operand_of}
use Rattle.expr_parser.proofs.Took.{Took, Took-then}
use Rattle.expr_parser.proofs.Complete.{Holds, steps-append}

-- holds together at least so tightly
abbrev pub Fits : ℕ → Phrase → Type 0
Fits least p = least ≤ strength p

-- ---- how a reading of the top ends in a refusal

-- the next token goes on with nothing, and what was read is none
pub record Stuck (top : Input) (r : Refusal) : Type 0 where
  pub rest : List Token
  pub run : List Token
  pub took : Took top.rest rest run
  pub phrase : Phrase
  pub begins : BeginsWith run phrase
  pub shallow : IsShallow top.nested phrase (length run)
  pub fails : (t : Token) → front_of (past_marks rest) ≡ Some t → step t (steps (wants []) run) ≡ failed
  pub unfinished : (x : Expr) (fs : List Frame) → operand_of (steps (wants []) run) ≡ Some (x, fs) → (reduce 0 fs x).1 ≡ [] → ⊥
  pub refused : r ≡ refusal_at top.last (past_marks rest)

-- the next token nests too deep
pub record Deep (top : Input) (r : Refusal) : Type 0 where
  pub rest : List Token
  pub run : List Token
  pub took : Took top.rest rest run
  pub deep : Token
  pub is_next : front_of (past_marks rest) ≡ Some deep
  pub phrase : Phrase
  pub begins : BeginsWith (run ++ deep ∷ []) phrase
  pub shallow : IsShallow top.nested phrase (length run)
  pub reached : top.nested + nesting phrase (length run + 1) ≡ greatest_nesting + 1
  pub refused : r ≡ nesting_refusal deep

abbrev pub IsFinal : Input → Fault → Type 0
IsFinal top (Refused r) = Stuck top r ⊎ Deep top r
IsFinal top NoMemory = ⊥

-- what a reading gives, or a refusal of the top
abbrev pub Judged : {A : Type 0} → Input → (A → Input → Type 0) → Outcome A → Type 0
Judged top good (Ok p) = good p.0 p.1
Judged top good (Err e) = IsFinal top e

pub judged_then : {A B : Type 0} (top : Input) (good : A → Input → Type 0) (then_good : B → Input → Type 0) (o : Outcome A) (f : A → Parser B)
    → Judged top good o → ((a : A) (j : Input) → good a j → Judged top then_good (f a j)) → Judged top then_good (and_then o f)
judged_then top good then_good (Ok p) f h k = k p.0 p.1 h
judged_then top good then_good (Err e) f h k = h

-- ---- a place where an expression is wanted, in a phrase of the whole text that has it as its last open part

pub record Spot (top : Input) (least : ℕ) (i : Input) (fs : List Frame) : Type 0 where
  pub before : List Token
  pub after_it : List Token
  pub wrap : Phrase → Phrase
  pub tokens : (q : Phrase) → tokens_of (wrap q) ≡ before ++ (tokens_of q ++ after_it)
  pub grammar : (q : Phrase) → IsPhrase q → Fits least q → IsPhrase (wrap q)
  pub nest : (q : Phrase) (m : ℕ) → m ≤ length (tokens_of q) → top.nested + nesting (wrap q) (length before + m) ≡ i.nested + nesting q m
  pub shallow : (q : Phrase) (k : ℕ) → k ≤ length before → top.nested + nesting (wrap q) k ≤ greatest_nesting
  pub took : Took top.rest i.rest before
  pub last_is : i.last ≡ top.last
  pub state : steps (wants []) before ≡ wants fs
  pub holds : (q : Phrase) → Fits least q → Holds fs (strength q)

-- such a place inside a phrase at another
pub record Inner (least : ℕ) (i : Input) (fs : List Frame) (inner : ℕ) (j : Input) (gs : List Frame) : Type 0 where
  pub before : List Token
  pub after_it : List Token
  pub wrap : Phrase → Phrase
  pub tokens : (q : Phrase) → tokens_of (wrap q) ≡ before ++ (tokens_of q ++ after_it)
  pub grammar : (q : Phrase) → IsPhrase q → Fits inner q → IsPhrase (wrap q)
  pub fits : (q : Phrase) → Fits inner q → Fits least (wrap q)
  pub nest : (q : Phrase) (m : ℕ) → m ≤ length (tokens_of q) → i.nested + nesting (wrap q) (length before + m) ≡ j.nested + nesting q m
  pub shallow : (q : Phrase) (k : ℕ) → k ≤ length before → i.nested + nesting (wrap q) k ≤ greatest_nesting
  pub took : Took i.rest j.rest before
  pub last_is : j.last ≡ i.last
  pub state : steps (wants fs) before ≡ wants gs
  pub holds : (q : Phrase) → Fits inner q → Holds gs (strength q)

pub in_three : (a b q c d w : List Token) → w ≡ b ++ (q ++ c) → a ++ (w ++ d) ≡ (a ++ b) ++ (q ++ (c ++ d))
in_three a b q c d w h =
    ap (λ k. a ++ (k ++ d)) h ∙ ap (λ k. a ++ k) (append_assoc b (q ++ c) d ∙ ap (λ k. b ++ k) (append_assoc q c d)) ∙ sym (append_assoc a b (q ++ (c ++ d)))

pub before-within : (b q c : List Token) (w : List Token) → w ≡ b ++ (q ++ c) → (m : ℕ) → m ≤ length q → length b + m ≤ length w
before-within b q c w h m le =
    let whole : length w ≡ length (b ++ (q ++ c)) = ap length h in
    omega (arith, length-append b (q ++ c), length-append q c)

pub cases_le : (k n : ℕ) → (k ≤ n) ⊎ (n < k)
cases_le k n = elim (leb_tells k n) [ inl h ↦ inl h.1 | inr h ↦ inr h.1 ]

inside-shallow : (top : Input) (least : ℕ) (i : Input) (fs : List Frame) (inner : ℕ) (j : Input) (gs : List Frame)
    → (s : Spot top least i fs) (n : Inner least i fs inner j gs) (q : Phrase) (k : ℕ) → k ≤ length s.before + length n.before
    → top.nested + nesting (s.wrap (n.wrap q)) k ≤ greatest_nesting
inside-shallow top least i fs inner j gs s n q k le =
    elim (cases_le k (length s.before)) [
      | inl low ↦ s.shallow (n.wrap q) k low
      | inr high ↦
          let at : k ≡ length s.before + (k - length s.before) = omega arith in
          let short : k - length s.before ≤ length n.before = omega arith in
          let within : k - length s.before ≤ length (tokens_of (n.wrap q)) =
          omega (arith, short, before-within n.before (tokens_of q) n.after_it (tokens_of (n.wrap q)) (n.tokens q) 0 (omega arith)) in
          let deep : top.nested + nesting (s.wrap (n.wrap q)) (length s.before + (k - length s.before)) ≡ i.nested + nesting (n.wrap q) (k - length s.before) =
          s.nest (n.wrap q) (k - length s.before) within in
          let low = n.shallow q (k - length s.before) short in
          let P : ℕ → Type 0 = λ x. top.nested + nesting (s.wrap (n.wrap q)) x ≤ greatest_nesting in
          subst P (sym at) (omega (arith, deep, low))
    ]

-- a place inside, as a place of the whole
pub inside : (top : Input) (least : ℕ) (i : Input) (fs : List Frame) (inner : ℕ) (j : Input) (gs : List Frame)
    → Spot top least i fs → Inner least i fs inner j gs → Spot top inner j gs
inside top least i fs inner j gs s n = record {
  before = s.before ++ n.before;
  after_it = n.after_it ++ s.after_it;
  wrap = λ q. s.wrap (n.wrap q);
  tokens = λ q. s.tokens (n.wrap q) ∙ in_three s.before n.before (tokens_of q) n.after_it s.after_it (tokens_of (n.wrap q)) (n.tokens q);
  grammar = λ q h k. s.grammar (n.wrap q) (n.grammar q h k) (n.fits q k);
  nest = λ q m le.
      let at : length (s.before ++ n.before) + m ≡ length s.before + (length n.before + m) = omega (arith, length-append s.before n.before) in
      ap (λ x. top.nested + nesting (s.wrap (n.wrap q)) x) at
      ∙ s.nest (n.wrap q) (length n.before + m) (before-within n.before (tokens_of q) n.after_it (tokens_of (n.wrap q)) (n.tokens q) m le)
      ∙ n.nest q m le;
  shallow = λ q k le. inside-shallow top least i fs inner j gs s n q k (omega (arith, length-append s.before n.before, le));
  took = Took-then top.rest i.rest j.rest s.before n.before s.took n.took;
  last_is = n.last_is ∙ s.last_is;
  state = steps-append (wants []) s.before n.before ∙ ap (λ x. steps x n.before) s.state ∙ n.state;
  holds = n.holds;
}
