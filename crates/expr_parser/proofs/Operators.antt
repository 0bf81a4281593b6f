-- What reading gives where operators stand.
use Rattle.std.proofs.Common.{◌≡◌, ◌∙◌, ◌⊎◌, inl, inr, ℕ, zero, suc, ◌+◌, ◌-◌, ◌<◌, ◌≤◌, Bool, true, false, List, [], ◌∷◌, ◌++◌, length, Option, Some, None, Ok, refl, sym, ap, subst, arith, codes, append_assoc, append-nil, length-append, if◌then◌else◌}
use Rattle.std.proofs.lemmas.Bool.{eq-eqb, ne_eqb}
use Rattle.std.proofs.lemmas.Bool.Decides.{leb_tells}
use Rattle.sv_lexer.specs.declared.token.Token.{Token}
use Rattle.sv_lexer.specs.declared.token.TokenKind.TheVariants as kind
use Rattle.sv_ast.specs.declared.expression.Expr.{Expr}
use Rattle.sv_ast.specs.declared.expression.Expr.TheVariants as e
use Rattle.expr_parser.specs.Spelling.{is_this, is_unary, binds, left_least, right_least}
use Rattle.expr_parser.specs.Grammar.{Phrase, number, unary, binary, choice, tokens_of, tree_of, id_of, Is, IsPhrase, strength, signed_strength}
use Rattle.expr_parser.specs.Nesting.{nesting, operators, operands, greatest_nesting}
use Rattle.expr_parser.specs.Input.{Input, Parser, past_marks, front_of, after, next, ahead, turns, and_then, expect}
use Rattle.expr_parser.specs.Reading.{prefixed, operation, climb, operations, chosen, binds_next, right_least_next, is_looser}
use Rattle.expr_parser.proofs.Machine.{Frame, under_sign, behind_left, in_first, in_second, wants, failed, reduce, closed, step, steps, operand_of}
use Rattle.expr_parser.proofs.Took.{Took, Took-none, Took-then, Took-shorter}
use Rattle.expr_parser.proofs.Roles.{left_least-small, right_least-over, right_least-small, left_first}
use Rattle.expr_parser.proofs.Complete.{Holds, steps-append, reads_phrase, in-brackets, end-colon, same_ends}
use Rattle.expr_parser.proofs.Spot.{Fits, Judged, judged_then, Spot, Inner, inside, cases_le}
use Rattle.expr_parser.proofs.Part.{Next, Part, Good, spare, deep_at, stuck_at, risen, spot-small, judged_expect, Took-after, after-last, after-nested}
use Rattle.expr_parser.proofs.Inners.{unary-at, operands-first, operands-second, inner-unary, inner-binary, inner-first, inner-second}

-- a reader of expressions, for a nesting to which the depth is enough
abbrev pub IsReader : Input → (ℕ → Parser Expr) → ℕ → Type 0
IsReader top expr depth =
    (least : ℕ) → least ≤ signed_strength → (i : Input) (fs : List Frame) → Spot top least i fs → greatest_nesting + 1 ≤ i.nested + depth → Judged top (Good least fs i) (expr least i)

-- an operand, with or without signs before it
pub record IsOperand (fs : List Frame) (i : Input) (tree : Expr) (j : Input) : Type 0 where
  pub part : Part fs i tree j
  pub strong : signed_strength ≤ strength part.phrase

pub wrapped_shallow : (least : ℕ) (i : Input) (fs : List Frame) (inner : ℕ) (j : Input) (gs : List Frame) → (n : Inner least i fs inner j gs)
    → (x : Expr) (k : Input) (g : Good inner gs j x k) (m : ℕ) → m ≤ length n.before + length (tokens_of g.part.phrase)
    → i.nested + nesting (n.wrap g.part.phrase) m ≤ greatest_nesting
wrapped_shallow least i fs inner j gs n x k g m le =
    let q = g.part.phrase in
    elim (cases_le m (length n.before)) [
      | inl low ↦ n.shallow q m low
      | inr high ↦
          let at : m ≡ length n.before + (m - length n.before) = omega arith in
          let short : m - length n.before ≤ length (tokens_of q) = omega arith in
          let here = n.nest q (m - length n.before) short in
          let fine = g.part.shallow (m - length n.before) short in
          let P : ℕ → Type 0 = λ y. i.nested + nesting (n.wrap q) y ≤ greatest_nesting in
          subst P (sym at) (omega (arith, here, fine))
    ]

-- what was read at a place inside is read with what stands before it
unfoldable pub wrapped : (least : ℕ) (i : Input) (fs : List Frame) (inner : ℕ) (j : Input) (gs : List Frame) → (n : Inner least i fs inner j gs) → n.after_it ≡ []
    → (x : Expr) (k : Input) (g : Good inner gs j x k) (tree : Expr) → tree_of (n.wrap g.part.phrase) ≡ tree
    → j.nested + operators g.part.phrase ≡ i.nested + operators (n.wrap g.part.phrase)
    → ((t : Token) → Next k.rest t → 0 < binds t → left_least t ≤ strength (n.wrap g.part.phrase))
    → Part fs i tree k
wrapped least i fs inner j gs n none x k g tree tree_is count less =
    let q = g.part.phrase in
    let all : tokens_of (n.wrap q) ≡ n.before ++ tokens_of q = n.tokens q ∙ ap (λ z. n.before ++ (tokens_of q ++ z)) none ∙ ap (λ z. n.before ++ z) (append-nil (tokens_of q)) in
    record {
      phrase = n.wrap q;
      in_grammar = n.grammar q g.part.in_grammar g.fits;
      tree_is = tree_is;
      took = let P : List Token → Type 0 = λ ts. Took i.rest k.rest ts in subst P (sym all) (Took-then i.rest j.rest k.rest n.before (tokens_of q) n.took g.part.took);
      last_is = g.part.last_is ∙ n.last_is;
      nested_is = g.part.nested_is ∙ count;
      small = g.part.small;
      shallow = λ m le. wrapped_shallow least i fs inner j gs n x k g m (omega (arith, le, ap length all, length-append n.before (tokens_of q)));
      binds_less = less;
      no_select = λ t is_next h.
          ap (λ ts. step t (steps (wants fs) ts)) all ∙ ap (step t) (steps-append (wants fs) n.before (tokens_of q) ∙ ap (λ s. steps s (tokens_of q)) n.state)
          ∙ g.part.no_select t is_next h;
    }

-- ---- a sign and its operand

pub judged_prefixed : (top : Input) (expr : ℕ → Parser Expr) (depth : ℕ) → IsReader top expr depth → (least : ℕ) → least ≤ signed_strength
    → (i : Input) (fs : List Frame) → Spot top least i fs → greatest_nesting + 1 ≤ i.nested + suc depth
    → (t : Token) → Next i.rest t → is_unary t ≡ true → Judged top (IsOperand fs i) (prefixed expr i)
unfolding prefixed inner-unary wrapped
judged_prefixed top expr depth reader least small i fs s enough t is_next sign =
    let fine = spot-small top least i fs s in
    risen top i t (IsOperand fs i) _ is_next
    (λ full. deep_at top least i fs s i (unary t (number spare)) [] t (spare ∷ []) (sign, refl, omega arith) (omega arith) refl (Took-none i.rest) is_next
    (λ k le. let none : k ≡ 0 = omega arith in let P : ℕ → Type 0 = λ x. i.nested + nesting (unary t (number spare)) x ≤ greatest_nesting in subst P (sym none) (omega arith))
    (let one = unary-at t (number spare) 0 in omega (arith, one)))
    (λ j took last count within.
    let n = inner-unary least i fs t j small sign took last count (omega (arith, count, within)) in
    judged_then top (Good signed_strength (under_sign t ∷ fs) j) (IsOperand fs i) (expr signed_strength j) _
    (reader signed_strength (omega arith) j (under_sign t ∷ fs) (inside top least i fs signed_strength j (under_sign t ∷ fs) s n) (omega (arith, count)))
    (λ x k g. record {
      part = wrapped least i fs signed_strength j (under_sign t ∷ fs) n refl x k g (e.Unary (id_of t) x) (ap (λ z. e.Unary (id_of t) z) g.part.tree_is) (omega (arith, count))
          (λ u u_next some. omega (arith, left_least-small u));
      strong = omega arith;
    }))

-- ---- a sign between operands

-- what was read with signs that bind tighter
pub record IsTighter (least : ℕ) (fs : List Frame) (i : Input) (tree : Expr) (j : Input) : Type 0 where
  pub part : Part fs i tree j
  pub fits : Fits least part.phrase
  pub some : 0 < strength part.phrase

judged_operation : (top : Input) (expr : ℕ → Parser Expr) (depth : ℕ) → IsReader top expr depth → (least : ℕ) → least ≤ signed_strength
    → (i : Input) (fs : List Frame) → Spot top least i fs → greatest_nesting + 1 ≤ i.nested + suc depth
    → (tree : Expr) (j : Input) → IsTighter least fs i tree j → (t : Token) → Next j.rest t → 0 < binds t → least ≤ binds t
    → Judged top (λ x k. IsTighter least fs i x k × (length k.rest < length j.rest)) (operation expr tree (right_least t) j)
unfolding operation inner-binary wrapped
judged_operation top expr depth reader least small i fs s enough tree j tighter t is_next some above =
    let p = tighter.part in
    let lp = length (tokens_of p.phrase) in
    let le = p.binds_less t is_next some in
    let at = right_least-small t in
    let over = binary p.phrase t (number spare) in
    risen top j t (λ x k. IsTighter least fs i x k × (length k.rest < length j.rest)) _ is_next
    (λ full. deep_at top least i fs s j over (tokens_of p.phrase) t (spare ∷ []) (some, p.in_grammar, le, refl, omega (arith, at))
    above (sym (append_assoc (tokens_of p.phrase) (t ∷ []) (spare ∷ []))) p.took is_next
    (λ m within. let here = operands-first lp (nesting p.phrase) (operators p.phrase + 1) (nesting (number spare)) m within in
    let fine = p.shallow m within in omega (arith, here, fine))
    (let here = operands-second lp (nesting p.phrase) (operators p.phrase + 1) (nesting (number spare)) 0 in omega (arith, here, p.nested_is, p.small, full)))
    (λ k took last count within.
    let n = inner-binary least i fs s.holds tree j p t k some above le took last count within in
    let gs = behind_left (tree_of p.phrase) t ∷ fs in
    judged_then top (Good (right_least t) gs k) (λ x m. IsTighter least fs i x m × (length m.rest < length j.rest)) (expr (right_least t) k) _
    (reader (right_least t) (omega (arith, at)) k gs (inside top least i fs (right_least t) k gs s n) (omega (arith, count, p.nested_is)))
    (λ x m g. (
      record {
        part = wrapped least i fs (right_least t) k gs n refl x m g (e.Binary (id_of t) tree x)
            (ap (λ z. e.Binary (id_of t) z (tree_of g.part.phrase)) p.tree_is ∙ ap (λ z. e.Binary (id_of t) tree z) g.part.tree_is)
            (omega (arith, count, p.nested_is))
            (λ u u_next more. let stops = g.stops u u_next in left_first t u (omega (arith, stops, some, right_least-over t)));
        fits = above;
        some = some;
      },
      Took-shorter j.rest m.rest (tokens_of g.part.phrase) t (Took-then j.rest k.rest m.rest (t ∷ []) (tokens_of g.part.phrase) took g.part.took),
    )))

-- what was read where no tighter sign comes next
pub record IsClimbed (least : ℕ) (fs : List Frame) (i : Input) (tree : Expr) (j : Input) : Type 0 where
  pub tighter : IsTighter least fs i tree j
  pub stops : (t : Token) → Next j.rest t → binds t ≤ least - 1

empty_next : (ts : List Token) (t : Token) → length ts ≤ 0 → Next ts t → ⊥
empty_next [] t h is_next = cc
empty_next (u ∷ ts) t h is_next = omega arith

-- where a token ends an expression
looser_tells : (level least : ℕ) → ((is_looser level least ≡ true) × (level ≤ least - 1)) ⊎ ((is_looser level least ≡ false) × (least - 1 < level))
looser_tells level least =
    elim (cases_le level 0) [
      | inl none ↦ inl (rw (eq-eqb level 0 (omega arith)) refl, omega arith)
      | inr some ↦
          elim (leb_tells (suc level) least) [
            | inl h ↦ inl (rw (ne_eqb level 0 (omega arith), h.0) refl, omega (arith, h.1))
            | inr h ↦ inr (rw (ne_eqb level 0 (omega arith), h.0) refl, omega (arith, h.1, some))
          ]
    ]

stop_at : (o : Option Token) (t : Token) (least : ℕ) → o ≡ Some t → binds_next o ≤ least → binds t ≤ least
stop_at None t least h le = absurd cc
stop_at (Some u) t least h le = let same : u ≡ t = cc in let P : Token → Type 0 = λ x. binds x ≤ least in subst P same le

climb_at : (top : Input) (expr : ℕ → Parser Expr) (depth : ℕ) → IsReader top expr depth → (least : ℕ) → least ≤ signed_strength
    → (i : Input) (fs : List Frame) → Spot top least i fs → greatest_nesting + 1 ≤ i.nested + suc depth
    → (n : ℕ) → ((tree : Expr) (j : Input) → IsTighter least fs i tree j → length j.rest ≤ n → Judged top (IsClimbed least fs i) (climb expr least n tree j))
    → (tree : Expr) (j : Input) → IsTighter least fs i tree j → length j.rest ≤ suc n → (o : Option Token) → front_of (past_marks j.rest) ≡ o
    → (c : Bool) → ((c ≡ true) × (binds_next o ≤ least - 1)) ⊎ ((c ≡ false) × (least - 1 < binds_next o))
    → Judged top (IsClimbed least fs i) (if c then Ok (tree, j) else and_then (operation expr tree (right_least_next o) j) (climb expr least n))
climb_at top expr depth reader least small i fs s enough n rec tree j tighter le o h true (inl test) =
    record { tighter = tighter; stops = λ t is_next. stop_at o t (least - 1) (sym h ∙ is_next) test.1 }
climb_at top expr depth reader least small i fs s enough n rec tree j tighter le o h true (inr test) = absurd cc
climb_at top expr depth reader least small i fs s enough n rec tree j tighter le o h false (inl test) = absurd cc
climb_at top expr depth reader least small i fs s enough n rec tree j tighter le None h false (inr test) = absurd (omega (arith, test.1))
climb_at top expr depth reader least small i fs s enough n rec tree j tighter le (Some t) h false (inr test) =
    judged_then top (λ x k. IsTighter least fs i x k × (length k.rest < length j.rest)) (IsClimbed least fs i) (operation expr tree (right_least t) j) (climb expr least n)
    (judged_operation top expr depth reader least small i fs s enough tree j tighter t h (omega (arith, test.1)) (omega (arith, test.1)))
    (λ x k g. rec x k g.0 (omega (arith, g.1)))

judged_climb : (top : Input) (expr : ℕ → Parser Expr) (depth : ℕ) → IsReader top expr depth → (least : ℕ) → least ≤ signed_strength
    → (i : Input) (fs : List Frame) → Spot top least i fs → greatest_nesting + 1 ≤ i.nested + suc depth
    → (n : ℕ) (tree : Expr) (j : Input) → IsTighter least fs i tree j → length j.rest ≤ n → Judged top (IsClimbed least fs i) (climb expr least n tree j)
unfolding climb next ahead
judged_climb top expr depth reader least small i fs s enough zero tree j tighter le =
    record { tighter = tighter; stops = λ t is_next. absurd (empty_next j.rest t le is_next) }
judged_climb top expr depth reader least small i fs s enough (suc n) tree j tighter le =
    climb_at top expr depth reader least small i fs s enough n (judged_climb top expr depth reader least small i fs s enough n) tree j tighter le
    (front_of (past_marks j.rest)) refl _ (looser_tells (binds_next (front_of (past_marks j.rest))) least)

pub judged_operations : (top : Input) (expr : ℕ → Parser Expr) (depth : ℕ) → IsReader top expr depth → (least : ℕ) → least ≤ signed_strength
    → (i : Input) (fs : List Frame) → Spot top least i fs → greatest_nesting + 1 ≤ i.nested + suc depth
    → (tree : Expr) (j : Input) → IsTighter least fs i tree j → Judged top (IsClimbed least fs i) (operations expr least tree j)
unfolding operations turns
judged_operations top expr depth reader least small i fs s enough tree j tighter =
    judged_climb top expr depth reader least small i fs s enough (length j.rest) tree j tighter (omega arith)

-- ---- a whole expression and the token behind it

cons_none : (f : Frame) (fs : List Frame) → f ∷ fs ≡ [] → ⊥
cons_none f fs h = cc

whole_fails_by : (f : Frame) (fs : List Frame) (q : Phrase) → IsPhrase q → Holds (f ∷ fs) (strength q) → reduce 0 (f ∷ fs) (tree_of q) ≡ (tree_of q, f ∷ fs)
    → (t : Token) → binds t ≤ 0 → is_this (codes "?") t ≡ false → (c : Bool) → is_this (codes "[") t ≡ c
    → (is_this (codes "[") t ≡ true → step t (steps (wants (f ∷ fs)) (tokens_of q)) ≡ failed)
    → closed t (tree_of q) (f ∷ fs) ≡ failed → step t (steps (wants (f ∷ fs)) (tokens_of q)) ≡ failed
whole_fails_by f fs q h holds rests t none no_question true is select ends = select is
whole_fails_by f fs q h holds rests t none no_question false is select ends =
    in-brackets f fs q (reads_phrase q h) holds rests t (record { binds_none = omega arith; no_question = no_question; no_select = is }) ∙ ends

-- a token that ends no bracket goes on with nothing behind a whole expression
pub whole_fails : (f : Frame) (fs : List Frame) (q : Phrase) → IsPhrase q → Holds (f ∷ fs) (strength q) → reduce 0 (f ∷ fs) (tree_of q) ≡ (tree_of q, f ∷ fs)
    → (t : Token) → binds t ≤ 0 → is_this (codes "?") t ≡ false → (is_this (codes "[") t ≡ true → step t (steps (wants (f ∷ fs)) (tokens_of q)) ≡ failed)
    → closed t (tree_of q) (f ∷ fs) ≡ failed → step t (steps (wants (f ∷ fs)) (tokens_of q)) ≡ failed
whole_fails f fs q h holds rests t none no_question select ends = whole_fails_by f fs q h holds rests t none no_question _ refl select ends

-- in a bracket nothing is finished
pub whole_unfinished : (f : Frame) (fs : List Frame) (q : Phrase) → IsPhrase q → Holds (f ∷ fs) (strength q) → reduce 0 (f ∷ fs) (tree_of q) ≡ (tree_of q, f ∷ fs)
    → (x : Expr) (gs : List Frame) → operand_of (steps (wants (f ∷ fs)) (tokens_of q)) ≡ Some (x, gs) → (reduce 0 gs x).1 ≡ [] → ⊥
whole_unfinished f fs q h holds rests x gs is none =
    let ended = reads_phrase q h (f ∷ fs) holds in
    let same = same_ends (steps (wants (f ∷ fs)) (tokens_of q)) (x, gs) (ended.operand, ended.frames) is ended.is in
    let whole : reduce 0 gs x ≡ (tree_of q, f ∷ fs) = ap (λ p. reduce 0 p.1 p.0) same ∙ ended.folds 0 (omega arith) ∙ rests in
    cons_none f fs (sym (ap (λ p. p.1) whole) ∙ none)

-- ---- a choice

-- a `:` that stands for any
abbrev colon_sign : Token
colon_sign = record { kind = kind.Sign; text = codes ":"; place = record { file = 0; line = 0 } }

colon_is : Is (codes ":") colon_sign
unfolding is_this
colon_is = refl

abbrev one_operand : ℕ → ℕ
one_operand = operands 1 (nesting (number spare)) 0 (nesting (number spare))

judged_second : (top : Input) (expr : ℕ → Parser Expr) (depth : ℕ) → IsReader top expr depth → (i : Input) (fs : List Frame) → Spot top 0 i fs
    → greatest_nesting + 1 ≤ i.nested + suc depth → (tree : Expr) (j : Input) (p : Part fs i tree j) → 0 < strength p.phrase
    → (t : Token) → Is (codes "?") t → (k : Input) → Took j.rest k.rest (t ∷ []) → k.last ≡ j.last → k.nested ≡ j.nested + 1
    → (x : Expr) (l : Input) (g : Good 0 (in_first (tree_of p.phrase) t ∷ fs) k x l) (u : Token) → Next l.rest u → Is (codes ":") u
    → Judged top (Good 0 fs i) (and_then (expr 0 (after l)) (λ y m. Ok (e.Choice (id_of t) tree x y, m)))
unfolding inner-second wrapped
judged_second top expr depth reader i fs s enough tree j p some t is k took last count x l g u u_next colon =
    let q = g.part in
    let gs = in_second (tree_of p.phrase) t (tree_of q.phrase) ∷ fs in
    let stepped : step u (steps (wants (in_first (tree_of p.phrase) t ∷ fs)) (tokens_of q.phrase)) ≡ wants gs =
    in-brackets (in_first (tree_of p.phrase) t) fs q.phrase (reads_phrase q.phrase q.in_grammar) tt refl u (end-colon u colon) ∙ rw colon refl in
    let n = inner-second i fs s.holds tree j p t k x l (in_first (tree_of p.phrase) t ∷ fs) q u (after l) some is colon took last count
    (Took-after l u u_next) (after-last l) (after-nested l) stepped in
    judged_then top (Good 0 gs (after l)) (Good 0 fs i) (expr 0 (after l)) (λ y m. Ok (e.Choice (id_of t) tree x y, m))
    (reader 0 (omega arith) (after l) gs (inside top 0 i fs 0 (after l) gs s n) (omega (arith, after-nested l, q.nested_is, count, p.nested_is)))
    (λ y m r. record {
      part = wrapped 0 i fs 0 (after l) gs n refl y m r (e.Choice (id_of t) tree x y)
          (ap (λ z. e.Choice (id_of t) z (tree_of q.phrase) (tree_of r.part.phrase)) p.tree_is
          ∙ ap (λ z. e.Choice (id_of t) tree z (tree_of r.part.phrase)) q.tree_is ∙ ap (λ z. e.Choice (id_of t) tree x z) r.part.tree_is)
          (omega (arith, after-nested l, q.nested_is, count, p.nested_is)) (λ u u_next some. let stops = r.stops u u_next in omega (arith, stops, some));
      fits = omega arith;
      stops = r.stops;
      no_question = r.no_question;
    })

pub judged_chosen : (top : Input) (expr : ℕ → Parser Expr) (depth : ℕ) → IsReader top expr depth → (i : Input) (fs : List Frame) → Spot top 0 i fs
    → greatest_nesting + 1 ≤ i.nested + suc depth → (tree : Expr) (j : Input) (p : Part fs i tree j) → 0 < strength p.phrase
    → (t : Token) → Next j.rest t → Is (codes "?") t → Judged top (Good 0 fs i) (chosen expr tree j)
unfolding chosen inner-first
judged_chosen top expr depth reader i fs s enough tree j p some t is_next is =
    let lp = length (tokens_of p.phrase) in
    let over = choice p.phrase t (number spare) colon_sign (number spare) in
    risen top j t (Good 0 fs i) _ is_next
    (λ full. deep_at top 0 i fs s j over (tokens_of p.phrase) t (spare ∷ colon_sign ∷ spare ∷ [])
    (is, p.in_grammar, some, refl, colon_is, refl) (omega arith)
    (append_assoc (tokens_of p.phrase) (t ∷ spare ∷ []) (colon_sign ∷ spare ∷ []) ∙ sym (append_assoc (tokens_of p.phrase) (t ∷ []) (spare ∷ colon_sign ∷ spare ∷ []))) p.took is_next
    (λ m within. let here = operands-first lp (nesting p.phrase) (operators p.phrase + 1) one_operand m within in let fine = p.shallow m within in omega (arith, here, fine))
    (let here = operands-second lp (nesting p.phrase) (operators p.phrase + 1) one_operand 0 in
    let none = operands-first 1 (nesting (number spare)) 0 (nesting (number spare)) 0 (omega arith) in omega (arith, here, none, p.nested_is, p.small, full)))
    (λ k took last count within.
    let gs = in_first (tree_of p.phrase) t ∷ fs in
    let n = inner-first i fs s.holds tree j p t colon_sign k some is colon_is took last count within in
    let spot = inside top 0 i fs 0 k gs s n in
    judged_then top (Good 0 gs k) (Good 0 fs i) (expr 0 k) _
    (reader 0 (omega arith) k gs spot (omega (arith, count, p.nested_is)))
    (λ x l g.
    judged_then top (λ _ m. (m ≡ after l) × ((u : Token) × (Next l.rest u × (is_this (codes ":") u ≡ true)))) (Good 0 fs i) (expect (codes ":") l) _
    (judged_expect top l (codes ":") (λ no. stuck_at top 0 k gs spot l g.part.phrase (tokens_of g.part.phrase) [] g.part.in_grammar g.fits
    (sym (append-nil (tokens_of g.part.phrase))) g.part.took g.part.last_is g.part.shallow
    (λ u u_next. whole_fails (in_first (tree_of p.phrase) t) fs g.part.phrase g.part.in_grammar tt refl u (g.stops u u_next) (g.no_question refl u u_next)
    (g.part.no_select u u_next) (rw (no u u_next) refl))
    (whole_unfinished (in_first (tree_of p.phrase) t) fs g.part.phrase g.part.in_grammar tt refl)))
    (λ _ m found.
    let P : Input → Type 0 = λ z. Judged top (Good 0 fs i) (and_then (expr 0 z) (λ y w. Ok (e.Choice (id_of t) tree x y, w))) in
    subst P (sym found.0) (judged_second top expr depth reader i fs s enough tree j p some t is k took last count x l g found.1.0 found.1.1.0 found.1.1.1))))
