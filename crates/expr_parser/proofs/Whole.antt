-- What reading gives, for every kind of operand.
use Rattle.std.proofs.Common.{◌≡◌, ◌∙◌, ℕ, suc, ◌+◌, ◌≤◌, Bool, true, false, List, [], ◌∷◌, Option, Some, None, Ok, Err, refl, sym, ap, subst, arith, codes, if◌then◌else◌}
use Rattle.sv_lexer.specs.declared.token.Token.{Token}
use Rattle.sv_lexer.specs.declared.token.TokenKind.{TokenKind}
use Rattle.sv_lexer.specs.declared.token.TokenKind.TheVariants as kind
use Rattle.sv_ast.specs.declared.expression.Expr.{Expr}
use Rattle.sv_ast.specs.declared.expression.Expr.TheVariants as e
use Rattle.expr_parser.specs.Spelling.{is_this, is_unary, is_identifier, is_function, is_number, is_fill}
use Rattle.expr_parser.specs.Grammar.{number, concat, only, Is, signed_strength}
use Rattle.expr_parser.specs.Nesting.{nesting, greatest_nesting}
use Rattle.expr_parser.specs.Input.{Input, Outcome, Parser, past_marks, front_of, after, next, ahead, sees, and_then, take_id, refusal, refuse, expect}
use Rattle.expr_parser.specs.Reading.{whole, read, system, parenthesised, repeated, braced_from, braced, primary, primary_by}
use Rattle.expr_parser.specs.Reading as reading
use Rattle.expr_parser.proofs.Machine.{Frame, in_braces, in_group, begun, no_start, start_of, start_by, step}
use Rattle.expr_parser.proofs.Roles.{start_is}
use Rattle.expr_parser.proofs.Took.{Took, Took-none, Took-then}
use Rattle.expr_parser.proofs.Spot.{IsFinal, Judged, judged_then, Spot, inside}
use Rattle.expr_parser.proofs.Part.{Next, spare, deep_at, stuck_at, spot-small, judged_expect, sees-yes, sees-no, Took-after, after-last}
use Rattle.expr_parser.proofs.Inners.{in_brackets-at}
use Rattle.expr_parser.proofs.Operators.{IsReader, IsOperand}
use Rattle.expr_parser.proofs.Levels.{PrimaryIs, NoSign, IsWhole, judged_whole}
use Rattle.expr_parser.proofs.Primaries.{sign_token, select_fails, primary_at, one_shallow_none, no_operand, opened, judged_group, group_operand, judged_system, judged_number, judged_fill, IsParen}
use Rattle.expr_parser.proofs.Selects.{judged_read}
use Rattle.expr_parser.proofs.Lists.{first_inner}
use Rattle.expr_parser.proofs.Braces.{close_brace_is, concat_place, IsBraced, judged_concat}
use Rattle.expr_parser.proofs.Repeats.{judged_repeat}

braced_by : (top : Input) (expr : ℕ → Parser Expr) (depth : ℕ) → IsReader top expr depth → (least : ℕ) → least ≤ signed_strength → (i : Input) (fs : List Frame) → Spot top least i fs
    → greatest_nesting + 1 ≤ i.nested + suc depth → (o : Token) → Is (codes "{") o → (j : Input) → Took i.rest j.rest (o ∷ []) → j.last ≡ i.last → j.nested ≡ i.nested + 1 → j.nested ≤ greatest_nesting
    → (x : Expr) (k : Input) → IsWhole (in_braces o [] ∷ fs) j x k → (c : Bool) → sees (codes "{") k ≡ c
    → Judged top (IsBraced top fs i)
    (if c then and_then (repeated expr k) (λ parts m. Ok (e.Repeat o.place x parts, m)) else and_then (reading.more expr x k) (λ parts m. Ok (e.Concat o.place parts, m)))
braced_by top expr depth reader least small i fs s enough o is j took last count within x k w false h =
    judged_concat top expr depth reader least small i fs s enough o is j took last count within x k w h
braced_by top expr depth reader least small i fs s enough o is j took last count within x k w true h =
    let found = sees-yes (codes "{") k h in
    judged_repeat top expr depth reader least small i fs s enough o is j took last count within x k w found.0 found.1.0 found.1.1

judged_braced : (top : Input) (expr : ℕ → Parser Expr) (depth : ℕ) → IsReader top expr depth → (least : ℕ) → least ≤ signed_strength → (i : Input) (fs : List Frame) → Spot top least i fs
    → greatest_nesting + 1 ≤ i.nested + suc depth → (o : Token) → Next i.rest o → Is (codes "{") o → Judged top (IsOperand fs i) (braced expr i)
unfolding braced
judged_braced top expr depth reader least small i fs s enough o o_next is =
    let fine = spot-small top least i fs s in
    let over = concat o (only (number spare)) (sign_token (codes "}")) in
    opened top i (codes "{") o (IsOperand fs i) _ o_next is
    (λ full. deep_at top least i fs s i over [] o (spare ∷ sign_token (codes "}") ∷ []) (is, refl, close_brace_is) (omega arith) refl (Took-none i.rest) o_next
    (λ k le. one_shallow_none i over refl fine k le)
    (let one = in_brackets-at 1 (nesting (number spare)) 0 (omega arith) in omega (arith, one, full)))
    (λ j took last count within.
    let place = concat_place least i fs o j small is took last count within in
    let gs = in_braces o [] ∷ fs in
    judged_then top (IsWhole gs j) (IsOperand fs i) (whole expr j) _
    (judged_whole top expr depth reader j gs (inside top least i fs 0 j gs s (first_inner least i fs (in_braces o) j place)) (omega (arith, count)))
    (λ x k w.
    judged_then top (IsBraced top fs i) (IsOperand fs i) (braced_from expr o.place x k) _
    (braced_by top expr depth reader least small i fs s enough o is j took last count within x k w _ refl)
    (λ tree m b.
    judged_then top (λ _ z. (z ≡ after m) × ((c : Token) × (Next m.rest c × (is_this (codes "}") c ≡ true)))) (IsOperand fs i) (expect (codes "}") m) _
    (judged_expect top m (codes "}") b.stuck)
    (λ _ z closing.
    let c = closing.1.0 in
    let c_is = closing.1.1.1 in
    let P : Input → Type 0 = λ y. Took m.rest y.rest (c ∷ []) in
    let Q : List Token → Type 0 = λ ts. Took i.rest z.rest ts in
    primary_at fs i (b.phrase c) (b.grammar c c_is) tree (b.tree_is c) (b.strong c) (b.none c) (record z { nested = i.nested })
    (subst Q (sym (b.tokens c)) (Took-then i.rest m.rest z.rest b.body (c ∷ []) b.took (subst P (sym closing.0) (Took-after m c closing.1.1.0))))
    (ap (λ y. y.last) closing.0 ∙ after-last m ∙ b.last_is) refl fine (λ y le. b.shallow c y)
    (λ t t_next t_is. ap (step t) (b.has_it c c_is) ∙ select_fails t t_is _ fs)))))

-- ---- no operand begins here

number_kind : (k : TokenKind) → is_number k ≡ true → k ≡ kind.Number
number_kind kind.Number h = refl
number_kind kind.Word h = absurd cc
number_kind kind.System h = absurd cc
number_kind kind.Fill h = absurd cc
number_kind kind.Sign h = absurd cc
number_kind kind.Mark h = absurd cc

fill_kind : (k : TokenKind) → is_fill k ≡ true → k ≡ kind.Fill
fill_kind kind.Fill h = refl
fill_kind kind.Word h = absurd cc
fill_kind kind.System h = absurd cc
fill_kind kind.Number h = absurd cc
fill_kind kind.Sign h = absurd cc
fill_kind kind.Mark h = absurd cc

no_start_by : (k : TokenKind) (t : Token) → is_number k ≡ false → is_fill k ≡ false → is_identifier t ≡ false → is_function t ≡ false → is_unary t ≡ false
    → is_this (codes "(") t ≡ false → is_this (codes "{") t ≡ false → start_by k t ≡ no_start
no_start_by kind.Number t a b c d f g h = absurd cc
no_start_by kind.Fill t a b c d f g h = absurd cc
no_start_by kind.Word t a b c d f g h = rw c refl
no_start_by kind.System t a b c d f g h = rw d refl
no_start_by kind.Sign t a b c d f g h = rw (f, g, h) refl
no_start_by kind.Mark t a b c d f g h = refl

-- nothing was read, and an operand is wanted
wanted_stuck : (top : Input) (least : ℕ) (i : Input) (fs : List Frame) → least ≤ signed_strength → Spot top least i fs → ((t : Token) → Next i.rest t → start_of t ≡ no_start) → IsFinal top (refusal i)
wanted_stuck top least i fs small s none =
    let fine = spot-small top least i fs s in
    stuck_at top least i fs s i (number spare) [] (spare ∷ []) refl (omega arith) refl (Took-none i.rest) refl
    (λ k le. omega arith) (λ t t_next. ap (λ z. begun z t fs) (none t t_next)) (λ x gs is. absurd (no_operand (x, gs) is))

next_same : (o : Option Token) (t u : Token) → o ≡ Some t → o ≡ Some u → t ≡ u
next_same o t u a b = let same : Some t ≡ Some u = sym a ∙ b in cc

none_starts : (t : Token) → is_number t.kind ≡ false → is_fill t.kind ≡ false → is_identifier t ≡ false → is_function t ≡ false → is_unary t ≡ false
    → is_this (codes "(") t ≡ false → is_this (codes "{") t ≡ false → start_of t ≡ no_start
none_starts t a b c d f g h = start_is t ∙ no_start_by t.kind t a b c d f g h

nothing_next : (t : Token) → None ≡ Some t → ⊥
nothing_next t h = cc

group_judged : (top : Input) (fs : List Frame) (i : Input) (o : Token) (out : Outcome Expr) → Judged top (IsParen in_group fs o i) out
    → ((x : Expr) (k : Input) → IsParen in_group fs o i x k → IsOperand fs i x k) → Judged top (IsOperand fs i) out
group_judged top fs i o (Ok p) h keep = keep p.0 p.1 h
group_judged top fs i o (Err e) h keep = h

-- the choice of a reading function, where it is made before what is left is looked at
by_kind : (a b c d : Bool) (top : Input) (fs : List Frame) (i : Input) (expr : ℕ → Parser Expr)
    → Judged top (IsOperand fs i)
    (if a then and_then (take_id i) (λ x k. Ok (e.Number x, k))
    else (if b then and_then (take_id i) (λ x k. Ok (e.Fill x, k))
    else (if c then read expr i
    else (if d then system expr i
    else (if sees (codes "(") i then parenthesised expr i else (if sees (codes "{") i then braced expr i else refuse i))))))
    → Judged top (IsOperand fs i)
    ((if a then (λ j. and_then (take_id j) (λ x k. Ok (e.Number x, k)))
    else (if b then (λ j. and_then (take_id j) (λ x k. Ok (e.Fill x, k)))
    else (if c then read expr
    else (if d then system expr
    else (λ j. if sees (codes "(") j then parenthesised expr j else (if sees (codes "{") j then braced expr j else refuse j)))))) i)
by_kind true b c d top fs i expr h = h
by_kind false true c d top fs i expr h = h
by_kind false false true d top fs i expr h = h
by_kind false false false true top fs i expr h = h
by_kind false false false false top fs i expr h = h

primary_some : (top : Input) (expr : ℕ → Parser Expr) (depth : ℕ) → IsReader top expr depth → (least : ℕ) → least ≤ signed_strength → (i : Input) (fs : List Frame) → Spot top least i fs
    → greatest_nesting + 1 ≤ i.nested + suc depth → (t : Token) → Next i.rest t → is_unary t ≡ false
    → (a b c d g h : Bool) → is_number t.kind ≡ a → is_fill t.kind ≡ b → is_identifier t ≡ c → is_function t ≡ d → sees (codes "(") i ≡ g → sees (codes "{") i ≡ h
    → Judged top (IsOperand fs i)
    (if a then and_then (take_id i) (λ x k. Ok (e.Number x, k))
    else (if b then and_then (take_id i) (λ x k. Ok (e.Fill x, k))
    else (if c then read expr i
    else (if d then system expr i
    else (if g then parenthesised expr i else (if h then braced expr i else refuse i))))))
primary_some top expr depth reader least small i fs s enough t t_next sign true b c d g h ha hb hc hd hg hh =
    judged_number top i fs (spot-small top least i fs s) t t_next (number_kind t.kind ha)
primary_some top expr depth reader least small i fs s enough t t_next sign false true c d g h ha hb hc hd hg hh =
    judged_fill top i fs (spot-small top least i fs s) t t_next (fill_kind t.kind hb)
primary_some top expr depth reader least small i fs s enough t t_next sign false false true d g h ha hb hc hd hg hh =
    judged_read top expr depth reader least small i fs s enough t t_next hc
primary_some top expr depth reader least small i fs s enough t t_next sign false false false true g h ha hb hc hd hg hh =
    judged_system top expr depth reader least small i fs s enough t t_next hd
primary_some top expr depth reader least small i fs s enough t t_next sign false false false false true h ha hb hc hd hg hh =
    let found = sees-yes (codes "(") i hg in
    let o = found.0 in
    group_judged top fs i o (parenthesised expr i) (judged_group top expr depth reader least small i fs s enough o found.1.0 found.1.1)
    (λ x k p. group_operand least i fs (spot-small top least i fs s) o found.1.1 x k p)
primary_some top expr depth reader least small i fs s enough t t_next sign false false false false false true ha hb hc hd hg hh =
    let found = sees-yes (codes "{") i hh in
    judged_braced top expr depth reader least small i fs s enough found.0 found.1.0 found.1.1
primary_some top expr depth reader least small i fs s enough t t_next sign false false false false false false ha hb hc hd hg hh =
    wanted_stuck top least i fs small s (λ u u_next.
    let same = next_same (front_of (past_marks i.rest)) t u t_next u_next in
    let P : Token → Type 0 = λ v. start_of v ≡ no_start in
    subst P same (none_starts t ha hb hc hd sign (sees-no (codes "(") i hg t t_next) (sees-no (codes "{") i hh t t_next)))

primary_at_next : (top : Input) (expr : ℕ → Parser Expr) (depth : ℕ) → IsReader top expr depth → (least : ℕ) → least ≤ signed_strength → (i : Input) (fs : List Frame) → Spot top least i fs
    → greatest_nesting + 1 ≤ i.nested + suc depth → NoSign i → (o : Option Token) → front_of (past_marks i.rest) ≡ o → Judged top (IsOperand fs i) (primary_by expr o i)
primary_at_next top expr depth reader least small i fs s enough no_sign None is =
    wanted_stuck top least i fs small s (λ t t_next. absurd (nothing_next t (sym is ∙ t_next)))
primary_at_next top expr depth reader least small i fs s enough no_sign (Some t) is =
    let all = primary_some top expr depth reader least small i fs s enough t is (no_sign t is) _ _ _ _ _ _ refl refl refl refl refl refl in
    by_kind (is_number t.kind) (is_fill t.kind) (is_identifier t) (is_function t) top fs i expr all

pub primary_is : (top : Input) → PrimaryIs top
unfolding primary next ahead
primary_is top expr depth reader least small i fs s enough no_sign =
    primary_at_next top expr depth reader least small i fs s enough no_sign (front_of (past_marks i.rest)) refl
