-- The places of operands inside a phrase with operators.
use Rattle.std.proofs.Common.{◌≡◌, ◌∙◌, inl, inr, ℕ, ◌+◌, ◌-◌, ◌<◌, ◌≤◌, ◌==◌, Bool, true, false, nat_le, List, [], ◌∷◌, ◌++◌, length, refl, sym, ap, subst, arith, codes, append_assoc, append-nil, length-append, if◌then◌else◌}
use Rattle.std.proofs.lemmas.Bool.{le-leb, lt-leb, ne_eqb}
use Rattle.sv_lexer.specs.declared.token.Token.{Token}
use Rattle.sv_ast.specs.declared.expression.Expr.{Expr}
use Rattle.expr_parser.specs.Spelling.{is_unary, binds, left_least, right_least}
use Rattle.expr_parser.specs.Grammar.{Phrase, number, fill, name, selected, ranged, group, concat, repeat, call, unary, binary, choice, Phrases, only, more, tokens_of, tree_of, Is, strength, signed_strength}
use Rattle.expr_parser.specs.Nesting.{nesting, nestings, operators, operands, one_after, in_brackets, greatest_nesting}
use Rattle.expr_parser.specs.Input.{Input}
use Rattle.expr_parser.proofs.Machine.{Frame, under_sign, behind_left, in_first, in_second, wants, begun, step, steps}
use Rattle.expr_parser.proofs.Took.{Took, Took-then}
use Rattle.expr_parser.proofs.Roles.{start_of-sign}
use Rattle.expr_parser.proofs.Complete.{Holds, steps-append, reads_phrase, left-step, first-step}
use Rattle.expr_parser.proofs.Spot.{Fits, Inner, cases_le}
use Rattle.expr_parser.proofs.Part.{Part, spare}

-- ---- nesting in parts

pub operands-first : (len : ℕ) (f : ℕ → ℕ) (b : ℕ) (g : ℕ → ℕ) (n : ℕ) → n ≤ len → operands len f b g n ≡ f n
operands-first len f b g n h = rw (le-leb n len h) refl

pub operands-second : (len : ℕ) (f : ℕ → ℕ) (b : ℕ) (g : ℕ → ℕ) (m : ℕ) → operands len f b g (len + (1 + m)) ≡ b + g m
operands-second len f b g m =
    let beyond : nat_le (len + (1 + m)) len ≡ false = lt-leb (len + (1 + m)) len (omega arith) in
    let at : len + (1 + m) - len - 1 ≡ m = omega arith in
    ap (λ (c : Bool). if c then f (len + (1 + m)) else b + g (len + (1 + m) - len - 1)) beyond ∙ ap (λ x. b + g x) at

pub one_after-first : (len : ℕ) (f g : ℕ → ℕ) (n : ℕ) → n ≤ len → one_after len f g n ≡ f n
one_after-first len f g n h = rw (le-leb n len h) refl

pub one_after-second : (len : ℕ) (f g : ℕ → ℕ) (m : ℕ) → one_after len f g (len + (1 + m)) ≡ g m
one_after-second len f g m =
    let beyond : nat_le (len + (1 + m)) len ≡ false = lt-leb (len + (1 + m)) len (omega arith) in
    let at : len + (1 + m) - len - 1 ≡ m = omega arith in
    ap (λ (c : Bool). if c then f (len + (1 + m)) else g (len + (1 + m) - len - 1)) beyond ∙ ap g at

pub in_brackets-at : (len : ℕ) (f : ℕ → ℕ) (m : ℕ) → m ≤ len → in_brackets len f (1 + m) ≡ 1 + f m
in_brackets-at len f m h =
    let some : (1 + m == 0) ≡ false = ne_eqb (1 + m) 0 (omega arith) in
    let within : nat_le (1 + m) (1 + len) ≡ true = le-leb (1 + m) (1 + len) (omega arith) in
    let at : 1 + m - 1 ≡ m = omega arith in
    ap (λ (c : Bool). if c then 0 else (if nat_le (1 + m) (1 + len) then 1 + f (1 + m - 1) else 0)) some
    ∙ ap (λ (c : Bool). if c then 1 + f (1 + m - 1) else 0) within ∙ ap (λ x. 1 + f x) at

pub unary-at : (t : Token) (q : Phrase) (m : ℕ) → nesting (unary t q) (1 + m) ≡ 1 + nesting q m
unary-at t q m =
    let some : (1 + m == 0) ≡ false = ne_eqb (1 + m) 0 (omega arith) in
    let at : 1 + m - 1 ≡ m = omega arith in
    ap (λ (c : Bool). if c then 0 else 1 + nesting q (1 + m - 1)) some ∙ ap (λ x. 1 + nesting q x) at

-- at no token nothing is open
mutual
  pub nesting-zero : (q : Phrase) → nesting q 0 ≡ 0
  nesting-zero (number t) = refl
  nesting-zero (fill t) = refl
  nesting-zero (name t) = refl
  nesting-zero (selected id o p c) = refl
  nesting-zero (ranged w id o p b q c) = refl
  nesting-zero (group o p c) = refl
  nesting-zero (concat o ps c) = refl
  nesting-zero (repeat o p i ps d c) = refl
  nesting-zero (call f o p c) = refl
  nesting-zero (unary t p) = refl
  nesting-zero (binary p t q) = operands-first (length (tokens_of p)) (nesting p) (operators p + 1) (nesting q) 0 (omega arith) ∙ nesting-zero p
  nesting-zero (choice p t q u r) =
      operands-first (length (tokens_of p)) (nesting p) (operators p + 1) (operands (length (tokens_of q)) (nesting q) (operators q) (nesting r)) 0 (omega arith) ∙ nesting-zero p

  pub nestings-zero : (ps : Phrases) → nestings ps 0 ≡ 0
  nestings-zero (only p) = nesting-zero p
  nestings-zero (more p c ps) = one_after-first (length (tokens_of p)) (nesting p) (nestings ps) 0 (omega arith) ∙ nesting-zero p

-- a first token that counts one
pub one_shallow : (base : ℕ) (f : ℕ → ℕ) → f 0 ≡ 0 → f 1 ≡ 1 → base + 1 ≤ greatest_nesting → (k : ℕ) → k ≤ 1 → base + f k ≤ greatest_nesting
one_shallow base f a b h k le =
    elim (cases_le k 0) [
      | inl low ↦ let at : k ≡ 0 = omega arith in let P : ℕ → Type 0 = λ x. base + f x ≤ greatest_nesting in subst P (sym at) (omega arith)
      | inr high ↦ let at : k ≡ 1 = omega arith in let P : ℕ → Type 0 = λ x. base + f x ≤ greatest_nesting in subst P (sym at) (omega arith)
    ]

-- ---- the operand of a sign

unfoldable pub inner-unary : (least : ℕ) (i : Input) (fs : List Frame) (t : Token) (j : Input) → least ≤ signed_strength → is_unary t ≡ true
    → Took i.rest j.rest (t ∷ []) → j.last ≡ i.last → j.nested ≡ i.nested + 1 → i.nested + 1 ≤ greatest_nesting
    → Inner least i fs signed_strength j (under_sign t ∷ fs)
inner-unary least i fs t j small sign took last nested fine = record {
  before = t ∷ [];
  after_it = [];
  wrap = λ q. unary t q;
  tokens = λ q. ap (λ x. t ∷ x) (sym (append-nil (tokens_of q)));
  grammar = λ q h k. (sign, h, k);
  fits = λ q k. omega arith;
  nest = λ q m le. ap (λ x. i.nested + x) (unary-at t q m) ∙ omega (arith, nested);
  shallow = λ q k le. one_shallow i.nested (nesting (unary t q)) refl (unary-at t q 0 ∙ ap (λ x. 1 + x) (nesting-zero q)) fine k le;
  took = took;
  last_is = last;
  state = ap (λ k. begun k t fs) (start_of-sign t sign);
  holds = λ q k. k;
}

-- ---- the second operand of a sign

pub after-first : (a q : List Token) (t : Token) → a ++ t ∷ q ≡ (a ++ t ∷ []) ++ (q ++ [])
after-first a q t = ap (λ x. a ++ t ∷ x) (sym (append-nil q)) ∙ sym (append_assoc a (t ∷ []) (q ++ []))

-- up to a phrase, and one token more
pub two_shallow : (base len : ℕ) (f : ℕ → ℕ) → ((k : ℕ) → k ≤ len → base + f k ≤ greatest_nesting) → base + f (len + (1 + 0)) ≤ greatest_nesting
    → (k : ℕ) → k ≤ len + 1 → base + f k ≤ greatest_nesting
two_shallow base len f low last k le =
    elim (cases_le k len) [
      | inl short ↦ low k short
      | inr long ↦ let at : k ≡ len + (1 + 0) = omega arith in let P : ℕ → Type 0 = λ x. base + f x ≤ greatest_nesting in subst P (sym at) last
    ]

unfoldable pub inner-binary : (least : ℕ) (i : Input) (fs : List Frame) → ((q : Phrase) → Fits least q → Holds fs (strength q))
    → (tree : Expr) (j : Input) (p : Part fs i tree j) (t : Token) (k : Input) → 0 < binds t → least ≤ binds t → left_least t ≤ strength p.phrase
    → Took j.rest k.rest (t ∷ []) → k.last ≡ j.last → k.nested ≡ j.nested + 1 → k.nested ≤ greatest_nesting
    → Inner least i fs (right_least t) k (behind_left (tree_of p.phrase) t ∷ fs)
inner-binary least i fs holds tree j p t k some above le took last nested fine = record {
  before = tokens_of p.phrase ++ t ∷ [];
  after_it = [];
  wrap = λ q. binary p.phrase t q;
  tokens = λ q. after-first (tokens_of p.phrase) (tokens_of q) t;
  grammar = λ q h f. (some, p.in_grammar, le, h, f);
  fits = λ q f. above;
  nest = λ q m short.
      let at : length (tokens_of p.phrase ++ t ∷ []) + m ≡ length (tokens_of p.phrase) + (1 + m) = omega (arith, length-append (tokens_of p.phrase) (t ∷ [])) in
      ap (λ x. i.nested + nesting (binary p.phrase t q) x) at
      ∙ ap (λ x. i.nested + x) (operands-second (length (tokens_of p.phrase)) (nesting p.phrase) (operators p.phrase + 1) (nesting q) m)
      ∙ omega (arith, nested, p.nested_is);
  shallow = λ q x short.
      two_shallow i.nested (length (tokens_of p.phrase)) (nesting (binary p.phrase t q))
      (λ y within. let here = operands-first (length (tokens_of p.phrase)) (nesting p.phrase) (operators p.phrase + 1) (nesting q) y within in
      let low = p.shallow y within in omega (arith, here, low))
      (let here = operands-second (length (tokens_of p.phrase)) (nesting p.phrase) (operators p.phrase + 1) (nesting q) 0 in
      let none = nesting-zero q in omega (arith, here, none, nested, p.nested_is, fine))
      x (omega (arith, short, length-append (tokens_of p.phrase) (t ∷ [])));
  took = Took-then i.rest j.rest k.rest (tokens_of p.phrase) (t ∷ []) p.took took;
  last_is = last ∙ p.last_is;
  state = steps-append (wants fs) (tokens_of p.phrase) (t ∷ [])
      ∙ left-step p.phrase t fs (reads_phrase p.phrase p.in_grammar) some le
      (holds (binary p.phrase t (number spare)) above);
  holds = λ q f. f;
}

-- ---- behind `?`, and behind its `:`

pub between_parts : (a q c : List Token) (t : Token) → (a ++ t ∷ q) ++ c ≡ (a ++ t ∷ []) ++ (q ++ c)
between_parts a q c t = append_assoc a (t ∷ q) c ∙ sym (append_assoc a (t ∷ []) (q ++ c))

unfoldable pub inner-first : (i : Input) (fs : List Frame) → ((q : Phrase) → Fits 0 q → Holds fs (strength q))
    → (tree : Expr) (j : Input) (p : Part fs i tree j) (t u : Token) (k : Input) → 0 < strength p.phrase → Is (codes "?") t → Is (codes ":") u
    → Took j.rest k.rest (t ∷ []) → k.last ≡ j.last → k.nested ≡ j.nested + 1 → k.nested ≤ greatest_nesting
    → Inner 0 i fs 0 k (in_first (tree_of p.phrase) t ∷ fs)
inner-first i fs holds tree j p t u k some is colon took last nested fine = record {
  before = tokens_of p.phrase ++ t ∷ [];
  after_it = u ∷ spare ∷ [];
  wrap = λ q. choice p.phrase t q u (number spare);
  tokens = λ q. between_parts (tokens_of p.phrase) (tokens_of q) (u ∷ spare ∷ []) t;
  grammar = λ q h f. (is, p.in_grammar, some, h, colon, refl);
  fits = λ q f. omega arith;
  nest = λ q m short.
      let at : length (tokens_of p.phrase ++ t ∷ []) + m ≡ length (tokens_of p.phrase) + (1 + m) = omega (arith, length-append (tokens_of p.phrase) (t ∷ [])) in
      let rest = operands (length (tokens_of q)) (nesting q) (operators q) (nesting (number spare)) in
      ap (λ x. i.nested + nesting (choice p.phrase t q u (number spare)) x) at
      ∙ ap (λ x. i.nested + x) (operands-second (length (tokens_of p.phrase)) (nesting p.phrase) (operators p.phrase + 1) rest m)
      ∙ ap (λ x. i.nested + (operators p.phrase + 1 + x)) (operands-first (length (tokens_of q)) (nesting q) (operators q) (nesting (number spare)) m short)
      ∙ omega (arith, nested, p.nested_is);
  shallow = λ q x short.
      let rest = operands (length (tokens_of q)) (nesting q) (operators q) (nesting (number spare)) in
      two_shallow i.nested (length (tokens_of p.phrase)) (nesting (choice p.phrase t q u (number spare)))
      (λ y within. let here = operands-first (length (tokens_of p.phrase)) (nesting p.phrase) (operators p.phrase + 1) rest y within in
      let low = p.shallow y within in omega (arith, here, low))
      (let here = operands-second (length (tokens_of p.phrase)) (nesting p.phrase) (operators p.phrase + 1) rest 0 in
      let inner = operands-first (length (tokens_of q)) (nesting q) (operators q) (nesting (number spare)) 0 (omega arith) in
      let none = nesting-zero q in omega (arith, here, inner, none, nested, p.nested_is, fine))
      x (omega (arith, short, length-append (tokens_of p.phrase) (t ∷ [])));
  took = Took-then i.rest j.rest k.rest (tokens_of p.phrase) (t ∷ []) p.took took;
  last_is = last ∙ p.last_is;
  state = steps-append (wants fs) (tokens_of p.phrase) (t ∷ [])
      ∙ first-step p.phrase t fs (reads_phrase p.phrase p.in_grammar) is some
      (holds (choice p.phrase t (number spare) u (number spare)) (omega arith));
  holds = λ q f. tt;
}

pub all_parts : (a q r : List Token) (t u : Token) → (a ++ t ∷ q) ++ u ∷ r ≡ ((a ++ t ∷ []) ++ (q ++ u ∷ [])) ++ (r ++ [])
all_parts a q r t u =
    between_parts a q (u ∷ r) t ∙ ap (λ x. (a ++ t ∷ []) ++ x) (after-first q r u) ∙ sym (append_assoc (a ++ t ∷ []) (q ++ u ∷ []) (r ++ []))

-- up to the `:`
pub choice_shallow : (fs gs : List Frame) (i : Input) (tree : Expr) (j : Input) (p : Part fs i tree j) (t : Token) (k : Input) (first_tree : Expr) (l : Input) (q : Part gs k first_tree l) (u : Token)
    → k.nested ≡ j.nested + 1 → (r : Phrase) (x : ℕ) → x ≤ length (tokens_of p.phrase) + (1 + (length (tokens_of q.phrase) + 1))
    → i.nested + nesting (choice p.phrase t q.phrase u r) x ≤ greatest_nesting
choice_shallow fs gs i tree j p t k first_tree l q u nested r x short =
    let lp = length (tokens_of p.phrase) in
    let lq = length (tokens_of q.phrase) in
    let inside = operands lq (nesting q.phrase) (operators q.phrase) (nesting r) in
    elim (cases_le x lp) [
      | inl low ↦ let here = operands-first lp (nesting p.phrase) (operators p.phrase + 1) inside x low in let fine = p.shallow x low in omega (arith, here, fine)
      | inr high ↦
          let y = x - lp - 1 in
          let at : x ≡ lp + (1 + y) = omega arith in
          let here = operands-second lp (nesting p.phrase) (operators p.phrase + 1) inside y in
          let rest : k.nested + inside y ≤ greatest_nesting =
          two_shallow k.nested lq inside
          (λ z within. let first = operands-first lq (nesting q.phrase) (operators q.phrase) (nesting r) z within in let fine = q.shallow z within in omega (arith, first, fine))
          (let last = operands-second lq (nesting q.phrase) (operators q.phrase) (nesting r) 0 in let none = nesting-zero r in
          omega (arith, last, none, q.nested_is, q.small))
          y (omega arith) in
          let P : ℕ → Type 0 = λ v. i.nested + nesting (choice p.phrase t q.phrase u r) v ≤ greatest_nesting in
          subst P (sym at) (omega (arith, here, rest, nested, p.nested_is))
    ]

unfoldable pub inner-second : (i : Input) (fs : List Frame) → ((q : Phrase) → Fits 0 q → Holds fs (strength q))
    → (tree : Expr) (j : Input) (p : Part fs i tree j) (t : Token) (k : Input) (first_tree : Expr) (l : Input) (gs : List Frame) (q : Part gs k first_tree l) (u : Token) (m : Input)
    → 0 < strength p.phrase → Is (codes "?") t → Is (codes ":") u
    → Took j.rest k.rest (t ∷ []) → k.last ≡ j.last → k.nested ≡ j.nested + 1
    → Took l.rest m.rest (u ∷ []) → m.last ≡ l.last → m.nested ≡ l.nested
    → step u (steps (wants (in_first (tree_of p.phrase) t ∷ fs)) (tokens_of q.phrase)) ≡ wants (in_second (tree_of p.phrase) t (tree_of q.phrase) ∷ fs)
    → Inner 0 i fs 0 m (in_second (tree_of p.phrase) t (tree_of q.phrase) ∷ fs)
inner-second i fs holds tree j p t k first_tree l gs q u m some is colon took last nested took_u last_u nested_u stepped =
    let lp = length (tokens_of p.phrase) in
    let lq = length (tokens_of q.phrase) in
    record {
      before = (tokens_of p.phrase ++ t ∷ []) ++ (tokens_of q.phrase ++ u ∷ []);
      after_it = [];
      wrap = λ r. choice p.phrase t q.phrase u r;
      tokens = λ r. all_parts (tokens_of p.phrase) (tokens_of q.phrase) (tokens_of r) t u;
      grammar = λ r h f. (is, p.in_grammar, some, q.in_grammar, colon, h);
      fits = λ r f. omega arith;
      nest = λ r n short.
          let at : length ((tokens_of p.phrase ++ t ∷ []) ++ (tokens_of q.phrase ++ u ∷ [])) + n ≡ lp + (1 + (lq + (1 + n))) =
          omega (arith, length-append (tokens_of p.phrase ++ t ∷ []) (tokens_of q.phrase ++ u ∷ []), length-append (tokens_of p.phrase) (t ∷ []), length-append (tokens_of q.phrase) (u ∷ [])) in
          ap (λ x. i.nested + nesting (choice p.phrase t q.phrase u r) x) at
          ∙ ap (λ x. i.nested + x) (operands-second lp (nesting p.phrase) (operators p.phrase + 1) (operands lq (nesting q.phrase) (operators q.phrase) (nesting r)) (lq + (1 + n)))
          ∙ ap (λ x. i.nested + (operators p.phrase + 1 + x)) (operands-second lq (nesting q.phrase) (operators q.phrase) (nesting r) n)
          ∙ omega (arith, nested, p.nested_is, nested_u, q.nested_is);
      shallow = λ r x short.
          choice_shallow fs gs i tree j p t k first_tree l q u nested r x
          (omega (arith, short, length-append (tokens_of p.phrase ++ t ∷ []) (tokens_of q.phrase ++ u ∷ []), length-append (tokens_of p.phrase) (t ∷ []), length-append (tokens_of q.phrase) (u ∷ [])));
      took = Took-then i.rest k.rest m.rest (tokens_of p.phrase ++ t ∷ []) (tokens_of q.phrase ++ u ∷ [])
          (Took-then i.rest j.rest k.rest (tokens_of p.phrase) (t ∷ []) p.took took)
          (Took-then k.rest l.rest m.rest (tokens_of q.phrase) (u ∷ []) q.took took_u);
      last_is = last_u ∙ q.last_is ∙ last ∙ p.last_is;
      state = steps-append (wants fs) (tokens_of p.phrase ++ t ∷ []) (tokens_of q.phrase ++ u ∷ [])
          ∙ ap (λ x. steps x (tokens_of q.phrase ++ u ∷ [])) (steps-append (wants fs) (tokens_of p.phrase) (t ∷ [])
          ∙ first-step p.phrase t fs (reads_phrase p.phrase p.in_grammar) is some (holds (choice p.phrase t (number spare) u (number spare)) (omega arith)))
          ∙ steps-append (wants (in_first (tree_of p.phrase) t ∷ fs)) (tokens_of q.phrase) (u ∷ []) ∙ stepped;
      holds = λ r f. tt;
    }
