-- What was read from a place on, and how a reading ends there.
use Rattle.std.proofs.Common.{◌≡◌, ◌∙◌, ◌⊎◌, inl, inr, ℕ, suc, ◌+◌, ◌-◌, ◌<◌, ◌≤◌, Bool, true, false, List, [], ◌∷◌, ◌++◌, length, Option, Some, None, Ok, Err, refl, sym, ap, subst, arith, codes, append_assoc, length-append, if◌then◌else◌}
use Rattle.std.proofs.lemmas.Bool.Decides.{leb_tells}
use Rattle.sv_lexer.specs.declared.token.Token.{Token}
use Rattle.sv_lexer.specs.declared.token.TokenKind.TheVariants as kind
use Rattle.sv_base.specs.declared.refusal.Place.{Place}
use Rattle.sv_base.specs.declared.refusal.Refusal.{Refusal}
use Rattle.sv_ast.specs.declared.expression.Id.{Id}
use Rattle.sv_ast.specs.declared.expression.Expr.{Expr}
use Rattle.sv_base.specs.declared.fault.Fault.TheVariants.{Refused}
use Rattle.expr_parser.specs.Spelling.{is_this, binds, left_least}
use Rattle.expr_parser.specs.Grammar.{Phrase, number, tokens_of, tree_of, id_of, IsPhrase, strength}
use Rattle.expr_parser.specs.Nesting.{nesting, operators, greatest_nesting}
use Rattle.expr_parser.specs.Outcome.{refusal_at, nesting_refusal}
use Rattle.expr_parser.specs.Input.{Input, Outcome, Parser, past_marks, front_of, ahead, next, after, sees, is_some_this, and_then, refusal, refuse, too_deep, deep_refusal, rise, take_id, expect}
use Rattle.expr_parser.proofs.Machine.{Frame, wants, failed, reduce, step, steps, operand_of}
use Rattle.expr_parser.proofs.Took.{Took, Took-then, Took-one}
use Rattle.expr_parser.proofs.Complete.{steps-append}
use Rattle.expr_parser.proofs.Spot.{Fits, IsFinal, Judged, judged_then, Spot, cases_le}

-- the next token of a list
abbrev pub Next : List Token → Token → Type 0
Next rest t = front_of (past_marks rest) ≡ Some t

-- a phrase was read from here to there
pub record Part (fs : List Frame) (i : Input) (tree : Expr) (j : Input) : Type 0 where
  pub phrase : Phrase
  pub in_grammar : IsPhrase phrase
  pub tree_is : tree_of phrase ≡ tree
  pub took : Took i.rest j.rest (tokens_of phrase)
  pub last_is : j.last ≡ i.last
  pub nested_is : j.nested ≡ i.nested + operators phrase
  pub small : j.nested ≤ greatest_nesting
  pub shallow : (k : ℕ) → k ≤ length (tokens_of phrase) → i.nested + nesting phrase k ≤ greatest_nesting
  pub binds_less : (t : Token) → Next j.rest t → 0 < binds t → left_least t ≤ strength phrase
  pub no_select : (t : Token) → Next j.rest t → is_this (codes "[") t ≡ true → step t (steps (wants fs) (tokens_of phrase)) ≡ failed

-- an expression that holds together at least so tightly, the longest
pub record Good (least : ℕ) (fs : List Frame) (i : Input) (tree : Expr) (j : Input) : Type 0 where
  pub part : Part fs i tree j
  pub fits : Fits least part.phrase
  pub stops : (t : Token) → Next j.rest t → binds t ≤ least - 1
  pub no_question : least ≡ 0 → (t : Token) → Next j.rest t → is_this (codes "?") t ≡ false

-- a token that stands for any operand
abbrev pub spare : Token
spare = record { kind = kind.Number; text = []; place = record { file = 0; line = 0 } }

-- the open nesting is nowhere too great up to the n-th token of a phrase at a place
pub shallow_in : (top : Input) (least : ℕ) (i : Input) (fs : List Frame) (s : Spot top least i fs) (q : Phrase) (n : ℕ) → n ≤ length (tokens_of q)
    → ((k : ℕ) → k ≤ n → i.nested + nesting q k ≤ greatest_nesting)
    → (k : ℕ) → k ≤ length s.before + n → top.nested + nesting (s.wrap q) k ≤ greatest_nesting
shallow_in top least i fs s q n within low k le =
    elim (cases_le k (length s.before)) [
      | inl short ↦ s.shallow q k short
      | inr long ↦
          let at : k ≡ length s.before + (k - length s.before) = omega arith in
          let here : k - length s.before ≤ n = omega arith in
          let inner : top.nested + nesting (s.wrap q) (length s.before + (k - length s.before)) ≡ i.nested + nesting q (k - length s.before) =
          s.nest q (k - length s.before) (omega (arith, here, within)) in
          let fine = low (k - length s.before) here in
          let P : ℕ → Type 0 = λ x. top.nested + nesting (s.wrap q) x ≤ greatest_nesting in
          subst P (sym at) (omega (arith, inner, fine))
    ]

front-within : (q run tail : List Token) → q ≡ run ++ tail → length run ≤ length q
front-within q run tail h = let whole : length q ≡ length (run ++ tail) = ap length h in omega (arith, length-append run tail)

parts : (a b c d : List Token) → a ++ ((b ++ c) ++ d) ≡ (a ++ b) ++ (c ++ d)
parts a b c d = ap (λ x. a ++ x) (append_assoc b c d) ∙ sym (append_assoc a b (c ++ d))

-- so far a phrase was begun, and the next token does not go on with it
pub stuck_at : (top : Input) (least : ℕ) (i : Input) (fs : List Frame) (s : Spot top least i fs) (j : Input) (q : Phrase) (run tail : List Token)
    → IsPhrase q → Fits least q → tokens_of q ≡ run ++ tail → Took i.rest j.rest run → j.last ≡ i.last
    → ((k : ℕ) → k ≤ length run → i.nested + nesting q k ≤ greatest_nesting)
    → ((t : Token) → Next j.rest t → step t (steps (wants fs) run) ≡ failed)
    → ((x : Expr) (gs : List Frame) → operand_of (steps (wants fs) run) ≡ Some (x, gs) → (reduce 0 gs x).1 ≡ [] → ⊥)
    → IsFinal top (refusal j)
unfolding refusal ahead
stuck_at top least i fs s j q run tail h fits whole took last low fails unfinished =
    let state : steps (wants []) (s.before ++ run) ≡ steps (wants fs) run = steps-append (wants []) s.before run ∙ ap (λ x. steps x run) s.state in
    inl (record {
      rest = j.rest;
      run = s.before ++ run;
      took = Took-then top.rest i.rest j.rest s.before run s.took took;
      phrase = s.wrap q;
      begins = record { in_grammar = s.grammar q h fits; tail = tail ++ s.after_it; whole = s.tokens q ∙ ap (λ x. s.before ++ (x ++ s.after_it)) whole ∙ parts s.before run tail s.after_it };
      shallow = λ k le. shallow_in top least i fs s q (length run) (front-within (tokens_of q) run tail whole) low k (omega (arith, le, length-append s.before run));
      fails = λ t n. ap (step t) state ∙ fails t n;
      unfinished = λ x gs is none. unfinished x gs (sym (ap operand_of state) ∙ is) none;
      refused = ap (λ p. refusal_at p (past_marks j.rest)) (last ∙ s.last_is);
    })

-- so far a phrase was begun, and the next token goes on with it, but nests too deep
pub deep_at : (top : Input) (least : ℕ) (i : Input) (fs : List Frame) (s : Spot top least i fs) (j : Input) (q : Phrase) (run : List Token) (t : Token) (tail : List Token)
    → IsPhrase q → Fits least q → tokens_of q ≡ (run ++ t ∷ []) ++ tail → Took i.rest j.rest run → Next j.rest t
    → ((k : ℕ) → k ≤ length run → i.nested + nesting q k ≤ greatest_nesting)
    → i.nested + nesting q (length run + 1) ≡ greatest_nesting + 1
    → IsFinal top (Refused (nesting_refusal t))
deep_at top least i fs s j q run t tail h fits whole took is_next low reached =
    let within : length (run ++ t ∷ []) ≤ length (tokens_of q) = front-within (tokens_of q) (run ++ t ∷ []) tail whole in
    let here : length run + 1 ≤ length (tokens_of q) = omega (arith, within, length-append run (t ∷ [])) in
    inr (record {
      rest = j.rest;
      run = s.before ++ run;
      took = Took-then top.rest i.rest j.rest s.before run s.took took;
      deep = t;
      is_next = is_next;
      phrase = s.wrap q;
      begins = record {
        in_grammar = s.grammar q h fits;
        tail = tail ++ s.after_it;
        whole = s.tokens q ∙ ap (λ x. s.before ++ (x ++ s.after_it)) whole ∙ parts s.before (run ++ t ∷ []) tail s.after_it
            ∙ ap (λ x. x ++ (tail ++ s.after_it)) (sym (append_assoc s.before run (t ∷ [])));
      };
      shallow = λ k le. shallow_in top least i fs s q (length run) (omega (arith, here)) low k (omega (arith, le, length-append s.before run));
      reached =
          let at : length (s.before ++ run) + 1 ≡ length s.before + (length run + 1) = omega (arith, length-append s.before run) in
          ap (λ x. top.nested + nesting (s.wrap q) x) at ∙ s.nest q (length run + 1) here ∙ reached;
      refused = refl;
    })

-- ---- the steps of reading

deep-next : (last : Place) (a : List Token) (t : Token) → front_of a ≡ Some t → deep_refusal last a ≡ nesting_refusal t
deep-next last [] t h = absurd cc
deep-next last (u ∷ a) t h = let same : u ≡ t = cc in ap nesting_refusal same

rise_by_test : (top i : Input) (c : Bool) → ((c ≡ true) × (suc i.nested ≤ greatest_nesting)) ⊎ ((c ≡ false) × (greatest_nesting < suc i.nested))
    → (greatest_nesting ≤ i.nested → IsFinal top (too_deep i))
    → Judged top (λ _ j. (j ≡ record i { nested = i.nested + 1 }) × (i.nested + 1 ≤ greatest_nesting))
    (if c then Ok (tt {0}, record i { nested = i.nested + 1 }) else Err (too_deep i))
rise_by_test top i true (inl h) deep = (refl, omega arith)
rise_by_test top i true (inr h) deep = absurd cc
rise_by_test top i false (inl h) deep = absurd cc
rise_by_test top i false (inr h) deep = deep (omega arith)

-- one more is open at the next token, or that is too deep
pub judged_rise : (top i : Input) (t : Token) → Next i.rest t → (greatest_nesting ≤ i.nested → IsFinal top (Refused (nesting_refusal t)))
    → Judged top (λ _ j. (j ≡ record i { nested = i.nested + 1 }) × (i.nested + 1 ≤ greatest_nesting)) (rise i)
unfolding rise too_deep ahead
judged_rise top i t is_next deep =
    let P : Refusal → Type 0 = λ r. IsFinal top (Refused r) in
    rise_by_test top i _ (leb_tells (suc i.nested) greatest_nesting) (λ h. subst P (sym (deep-next i.last (past_marks i.rest) t is_next)) (deep h))

pub take_id-next : (i : Input) (t : Token) → Next i.rest t → take_id i ≡ Ok (id_of t, after i)
unfolding take_id next ahead
take_id-next i t is_next = rw is_next refl

sees_by : (text : List ℕ) (o : Option Token) → is_some_this text o ≡ true → (t : Token) × ((o ≡ Some t) × (is_this text t ≡ true))
sees_by text None h = absurd cc
sees_by text (Some t) h = (t, (refl, h))

-- a sign that comes next
pub sees-yes : (text : List ℕ) (i : Input) → sees text i ≡ true → (t : Token) × (Next i.rest t × (is_this text t ≡ true))
unfolding sees next ahead
sees-yes text i h = sees_by text (front_of (past_marks i.rest)) h

pub sees-no : (text : List ℕ) (i : Input) → sees text i ≡ false → (t : Token) → Next i.rest t → is_this text t ≡ false
unfolding sees next ahead
sees-no text i h t is_next = sym (ap (is_some_this text) is_next) ∙ h

expect_by : (top i : Input) (c : Bool) (text : List ℕ) → sees text i ≡ c → (((t : Token) → Next i.rest t → is_this text t ≡ false) → IsFinal top (refusal i))
    → Judged top (λ _ j. (j ≡ after i) × ((t : Token) × (Next i.rest t × (is_this text t ≡ true)))) (if c then Ok (tt {0}, after i) else refuse i)
expect_by top i true text h stuck = (refl, sees-yes text i h)
expect_by top i false text h stuck = stuck (sees-no text i h)

-- a sign that has to come next
pub judged_expect : (top i : Input) (text : List ℕ) → (((t : Token) → Next i.rest t → is_this text t ≡ false) → IsFinal top (refusal i))
    → Judged top (λ _ j. (j ≡ after i) × ((t : Token) × (Next i.rest t × (is_this text t ≡ true)))) (expect text i)
unfolding expect
judged_expect top i text stuck = expect_by top i (sees text i) text refl stuck

-- the token that is taken
pub Took-after : (i : Input) (t : Token) → Next i.rest t → Took i.rest (after i).rest (t ∷ [])
unfolding after ahead
Took-after i t h = Took-one i.rest t h

-- ---- tokens that count

pub after-last : (i : Input) → (after i).last ≡ i.last
unfolding after
after-last i = refl

pub after-nested : (i : Input) → (after i).nested ≡ i.nested
unfolding after
after-nested i = refl

pub judged_take : {B : Type 0} (top : Input) (good : B → Input → Type 0) (i : Input) (t : Token) (f : Id → Parser B) → Next i.rest t
    → Judged top good (f (id_of t) (after i)) → Judged top good (and_then (take_id i) f)
judged_take top good i t f is_next h =
    let P : Outcome Id → Type 0 = λ o. Judged top good (and_then o f) in subst P (sym (take_id-next i t is_next)) h

pub risen : {B : Type 0} (top i : Input) (t : Token) (good : B → Input → Type 0) (f : Id → Parser B) → Next i.rest t
    → (greatest_nesting ≤ i.nested → IsFinal top (Refused (nesting_refusal t)))
    → ((j : Input) → Took i.rest j.rest (t ∷ []) → j.last ≡ i.last → j.nested ≡ i.nested + 1 → j.nested ≤ greatest_nesting → Judged top good (f (id_of t) j))
    → Judged top good (and_then (rise i) (λ _ i1. and_then (take_id i1) f))
risen top i t good f is_next deep k =
    judged_then top (λ _ j. (j ≡ record i { nested = i.nested + 1 }) × (i.nested + 1 ≤ greatest_nesting)) good (rise i) (λ _ i1. and_then (take_id i1) f)
    (judged_rise top i t is_next deep)
    (λ _ i1 g.
    let rest : i1.rest ≡ i.rest = ap (λ x. x.rest) g.0 in
    let here : Next i1.rest t = ap (λ ts. front_of (past_marks ts)) rest ∙ is_next in
    let count : (after i1).nested ≡ i.nested + 1 = after-nested i1 ∙ ap (λ x. x.nested) g.0 in
    let P : List Token → Type 0 = λ ts. Took ts (after i1).rest (t ∷ []) in
    judged_take top good i1 t f here
    (k (after i1) (subst P rest (Took-after i1 t here)) (after-last i1 ∙ ap (λ x. x.last) g.0) count (omega (arith, count, g.1))))

pub spot-small : (top : Input) (least : ℕ) (i : Input) (fs : List Frame) → Spot top least i fs → i.nested ≤ greatest_nesting
spot-small top least i fs s =
    let here = s.nest (number spare) 0 (omega arith) in
    let fine = s.shallow (number spare) (length s.before + 0) (omega arith) in
    omega (arith, here, fine)
