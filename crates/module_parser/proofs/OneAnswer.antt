-- A list of tokens has one reading or one refusal, and not both.
use Rattle.std.proofs.Common.{◌≡◌, ◌∙◌, ◌⊎◌, inl, inr, ◌+◌, ◌≤◌, List, [], ◌∷◌, ◌++◌, Some, None, sym, ap, subst, arith, append_assoc, append-nil}
use Rattle.sv_base.specs.declared.refusal.Refusal.{Refusal}
use Rattle.sv_lexer.specs.declared.token.Token.{Token}
use Rattle.sv_ast.specs.declared.module.Module.{Module}
use Rattle.expr_parser.specs.Nesting.{greatest_nesting}
use Rattle.expr_parser.specs.Outcome.{grammar_tokens, last_place, refusal_at, nesting_refusal}
use Rattle.expr_parser.specs.Input.{front_of}
use Rattle.module_parser.specs.Rule.{Piece, written, AreMarked}
use Rattle.module_parser.specs.Grammar as grammar
use Rattle.module_parser.specs.Outcome.{IsFile, IsBegun, IsShallow, IsRead, IsStuck, IsTooDeep, IsRefused}
use Rattle.module_parser.proofs.Rules.{SameDepth, first_of, LawAt}
use Rattle.module_parser.proofs.Streams.{written-append, past_marks-token, AreMarked-front, AreMarked-back}
use Rattle.module_parser.proofs.Expressions.{Exact}
use Rattle.module_parser.proofs.Modules.{at_end}
use Rattle.module_parser.proofs.Files.{file_fact}
use Rattle.module_parser.proofs.Answer.{at_file, marks_end}
use Rattle.module_parser.proofs.Cuts.{Ahead, Cut, cut, before_last, last_token, no_last, ends_by}

file_law : Exact → LawAt at_end grammar.file grammar.file
file_law exact = (file_fact exact).law 0 0

-- ---- one reading

pub one_file_lem : Exact → (tokens : List Token) (a b : List Module) → IsFile tokens a → IsFile tokens b → a ≡ b
one_file_lem exact tokens a b f g =
    ((file_law exact).same tokens a b f.text g.text (at_file tokens a f.text f.marks f.tokens_are f.are_marks f.in_grammar)
    (at_file tokens b g.text g.marks g.tokens_are g.are_marks g.in_grammar)).0

pub read_file : (tokens : List Token) (modules : List Module) → IsRead tokens modules → IsFile tokens modules
read_file tokens modules r = record { text = r.text; marks = r.marks; in_grammar = r.in_grammar; are_marks = r.are_marks; tokens_are = r.tokens_are }

pub one_reading_lem : Exact → (tokens : List Token) (a b : List Module) → IsRead tokens a → IsRead tokens b → a ≡ b
one_reading_lem exact tokens a b r s = one_file_lem exact tokens a b (read_file tokens a r) (read_file tokens b s)

-- ---- what a refusal excludes

begun_marked : Exact → (text : List Piece) → IsBegun text → AreMarked text
begun_marked exact text b = AreMarked-front text b.more ((file_law exact).clean b.modules (text ++ b.more) None b.in_grammar)

file_begun : (modules : List Module) (text : List Piece) → grammar.file modules text None → IsBegun text
file_begun modules text h =
    let P : List Piece → Type 0 = λ z. grammar.file modules z None in
    record { modules = modules; more = []; in_grammar = subst P (sym (append-nil text)) h }

front_begun : (xs ys : List Piece) → IsBegun (xs ++ ys) → IsBegun xs
front_begun xs ys b =
    let P : List Piece → Type 0 = λ z. grammar.file b.modules z None in
    record { modules = b.modules; more = ys ++ b.more; in_grammar = subst P (append_assoc xs ys b.more) b.in_grammar }

piece_moved : (a m : List Token) (t : Token) (w z : List Token) → (a ++ (m ++ t ∷ w)) ++ z ≡ (a ++ m ++ t ∷ []) ++ (w ++ z)
piece_moved a m t w z =
    append_assoc a (m ++ t ∷ w) z ∙ ap (λ y. a ++ y) (append_assoc m (t ∷ w) z) ∙ sym (append_assoc a m (t ∷ (w ++ z))) ∙ sym (append_assoc (a ++ m) (t ∷ []) (w ++ z))

-- no text of a file goes on where another is stuck
stuck_ahead : Exact → (tokens : List Token) (r : Refusal) (s : IsStuck tokens r) (text : List Piece) (c : List Token) → IsBegun text → Ahead s.seen s.rest text c → ⊥
stuck_ahead exact tokens r s text c b a =
    let marked = begun_marked exact text b in
    let P : List Piece → Type 0 = AreMarked in
    let piece = AreMarked-back a.front (a.piece ∷ a.more) (subst P a.is marked) in
    let front : written text ≡ written s.seen ++ (a.piece.marks ++ a.piece.token ∷ written a.more) =
    ap written a.is ∙ written-append a.front (a.piece ∷ a.more) ∙ ap (λ z. z ++ written (a.piece ∷ a.more)) a.alike in
    let tail : List Token = written a.more ++ written b.more in
    s.none_goes_on a.piece.token (record { marks = a.piece.marks; behind = written a.more ++ c; are_marks = piece.0; no_mark = piece.1; is = a.rest_is })
    (record { modules = b.modules; text = text ++ b.more; in_grammar = b.in_grammar; tail = tail; whole = written-append text b.more ∙ ap (λ z. z ++ written b.more) front ∙ piece_moved (written s.seen) a.piece.marks a.piece.token (written a.more) (written b.more) })

-- marks alone hold no token of a text
marks_ahead : Exact → (text : List Piece) (marks : List Token) (more : List Piece) (c : List Token) → grammar_tokens marks ≡ [] → IsBegun more → Ahead text marks more c → ⊥
marks_ahead exact text marks more c none b a =
    let piece = AreMarked-back a.front (a.piece ∷ a.more) (subst AreMarked a.is (begun_marked exact more b)) in
    let end = marks_end marks none in
    let first : first_of marks ≡ Some a.piece.token =
    ap first_of a.rest_is ∙ ap front_of (past_marks-token a.piece.marks a.piece.token (written a.more ++ c) piece.0 piece.1) in
    absurd cc

shallow_at : (us : List Piece) (u : Piece) (us' : List Piece) → IsShallow (us ++ u ∷ us') → u.depth ≤ greatest_nesting
shallow_at [] u us' h = h.0
shallow_at (p ∷ us) u us' h = shallow_at us u us' h.1

shallow_by : SameDepth grammar.file grammar.file → (front more ds : List Piece) (d : Piece) → IsBegun (front ++ more) → IsShallow (front ++ more) → IsBegun (ds ++ d ∷ [])
    → d.depth ≡ greatest_nesting + 1 → written front ≡ written (ds ++ d ∷ []) → (front ≡ []) ⊎ ((us : List Piece) × ((u : Piece) × (front ≡ us ++ u ∷ []))) → ⊥
shallow_by depth front more ds d b low e deep same (inl none) = no_last ds d (sym same ∙ ap written none)
shallow_by depth front more ds d b low e deep same (inr h) =
    let us = h.0 in
    let u = h.1.0 in
    let whole : front ++ more ≡ us ++ u ∷ more = ap (λ z. z ++ more) h.1.1 ∙ append_assoc us (u ∷ []) more in
    let here : u.depth ≤ greatest_nesting = shallow_at us u more (subst IsShallow whole low) in
    let P : List Piece → Type 0 = λ z. grammar.file b.modules z None in
    let Q : List Piece → Type 0 = λ z. grammar.file e.modules z None in
    let one = subst P (ap (λ z. z ++ b.more) whole ∙ append_assoc us (u ∷ more) b.more) b.in_grammar in
    let two = subst Q (append_assoc ds (d ∷ []) e.more) e.in_grammar in
    let at : u.depth ≡ d.depth = depth b.modules e.modules us (more ++ b.more) ds e.more u d [] [] one two (sym (ap written h.1.1) ∙ same) in
    absurd (omega (arith, here, at, deep))

-- the front of a shallow text is not written as a text whose last token is too deep
shallow_deep : SameDepth grammar.file grammar.file → (front more ds : List Piece) (d : Piece) → IsBegun (front ++ more) → IsShallow (front ++ more) → IsBegun (ds ++ d ∷ [])
    → d.depth ≡ greatest_nesting + 1 → written front ≡ written (ds ++ d ∷ []) → ⊥
shallow_deep depth front more ds d b low e deep same = shallow_by depth front more ds d b low e deep same (ends_by front)

deep_front : SameDepth grammar.file grammar.file → (text front more : List Piece) → text ≡ front ++ more → IsBegun text → IsShallow text → (ds : List Piece) (d : Piece) → IsBegun (ds ++ d ∷ [])
    → d.depth ≡ greatest_nesting + 1 → written front ≡ written (ds ++ d ∷ []) → ⊥
deep_front depth text front more is b low ds d e deep same = shallow_deep depth front more ds d (subst IsBegun is b) (subst IsShallow is low) e deep same

-- ---- one refusal

-- the tokens cut by the two texts
cut_at : Exact → (tokens : List Token) (xs : List Piece) (b : List Token) (ys : List Piece) (c : List Token) → IsBegun xs → IsBegun ys → tokens ≡ written xs ++ b → tokens ≡ written ys ++ c → Cut xs b ys c
cut_at exact tokens xs b ys c h k one two = cut xs b ys c (begun_marked exact xs h) (begun_marked exact ys k) (sym one ∙ two)

stuck_stuck : Exact → (tokens : List Token) (a b : Refusal) (s : IsStuck tokens a) (t : IsStuck tokens b) → Cut s.seen s.rest t.seen t.rest → a ≡ b
stuck_stuck exact tokens a b s t (inl h) = s.refused ∙ ap (λ z. refusal_at (last_place tokens) (grammar_tokens z)) h.1 ∙ sym t.refused
stuck_stuck exact tokens a b s t (inr (inl h)) = absurd (stuck_ahead exact tokens a s t.seen t.rest t.begun h)
stuck_stuck exact tokens a b s t (inr (inr h)) = absurd (stuck_ahead exact tokens b t s.seen s.rest s.begun h)

stuck_deep : Exact → SameDepth grammar.file grammar.file → (tokens : List Token) (a b : Refusal) (s : IsStuck tokens a) (d : IsTooDeep tokens b)
    → Cut s.seen s.rest (d.seen ++ d.deep ∷ []) d.rest → ⊥
stuck_deep exact depth tokens a b s d (inl h) = deep_front depth s.seen s.seen [] (sym (append-nil s.seen)) s.begun s.shallow d.seen d.deep d.begun d.reached h.0
stuck_deep exact depth tokens a b s d (inr (inl h)) = stuck_ahead exact tokens a s (d.seen ++ d.deep ∷ []) d.rest d.begun h
stuck_deep exact depth tokens a b s d (inr (inr h)) = deep_front depth s.seen h.front (h.piece ∷ h.more) h.is s.begun s.shallow d.seen d.deep d.begun d.reached h.alike

-- a token that is too deep is not before another that is the first
deep_ahead : SameDepth grammar.file grammar.file → (tokens : List Token) (a b : Refusal) (d : IsTooDeep tokens a) (e : IsTooDeep tokens b)
    → Ahead (d.seen ++ d.deep ∷ []) d.rest (e.seen ++ e.deep ∷ []) e.rest → ⊥
deep_ahead depth tokens a b d e h =
    let found = before_last h.front h.piece h.more e.seen e.deep h.is in
    deep_front depth e.seen h.front found.0 found.1 (front_begun e.seen (e.deep ∷ []) e.begun) e.shallow d.seen d.deep d.begun d.reached h.alike

deep_deep : SameDepth grammar.file grammar.file → (tokens : List Token) (a b : Refusal) (d : IsTooDeep tokens a) (e : IsTooDeep tokens b)
    → Cut (d.seen ++ d.deep ∷ []) d.rest (e.seen ++ e.deep ∷ []) e.rest → a ≡ b
deep_deep depth tokens a b d e (inl h) = d.refused ∙ ap nesting_refusal (last_token d.seen e.seen d.deep e.deep h.0) ∙ sym e.refused
deep_deep depth tokens a b d e (inr (inl h)) = absurd (deep_ahead depth tokens a b d e h)
deep_deep depth tokens a b d e (inr (inr h)) = absurd (deep_ahead depth tokens b a e d h)

pub one_refusal_lem : Exact → SameDepth grammar.file grammar.file → (tokens : List Token) (a b : Refusal) → IsRefused tokens a → IsRefused tokens b → a ≡ b
one_refusal_lem exact depth tokens a b (inl s) (inl t) = stuck_stuck exact tokens a b s t (cut_at exact tokens s.seen s.rest t.seen t.rest s.begun t.begun s.tokens_are t.tokens_are)
one_refusal_lem exact depth tokens a b (inl s) (inr d) = absurd (stuck_deep exact depth tokens a b s d (cut_at exact tokens s.seen s.rest (d.seen ++ d.deep ∷ []) d.rest s.begun d.begun s.tokens_are d.tokens_are))
one_refusal_lem exact depth tokens a b (inr d) (inl s) = absurd (stuck_deep exact depth tokens b a s d (cut_at exact tokens s.seen s.rest (d.seen ++ d.deep ∷ []) d.rest s.begun d.begun s.tokens_are d.tokens_are))
one_refusal_lem exact depth tokens a b (inr d) (inr e) =
    deep_deep depth tokens a b d e (cut_at exact tokens (d.seen ++ d.deep ∷ []) d.rest (e.seen ++ e.deep ∷ []) e.rest d.begun e.begun d.tokens_are e.tokens_are)

-- ---- not both

read_stuck : Exact → (tokens : List Token) (modules : List Module) (r : Refusal) (f : IsRead tokens modules) (s : IsStuck tokens r) → Cut s.seen s.rest f.text f.marks → ⊥
read_stuck exact tokens modules r f s (inl h) = s.none_ends (ap grammar_tokens h.1 ∙ f.are_marks) modules (read_file tokens modules f)
read_stuck exact tokens modules r f s (inr (inl h)) = stuck_ahead exact tokens r s f.text f.marks (file_begun modules f.text f.in_grammar) h
read_stuck exact tokens modules r f s (inr (inr h)) = marks_ahead exact f.text f.marks s.seen s.rest f.are_marks s.begun h

read_deep : Exact → SameDepth grammar.file grammar.file → (tokens : List Token) (modules : List Module) (r : Refusal) (f : IsRead tokens modules) (d : IsTooDeep tokens r)
    → Cut (d.seen ++ d.deep ∷ []) d.rest f.text f.marks → ⊥
read_deep exact depth tokens modules r f d (inl h) =
    deep_front depth f.text f.text [] (sym (append-nil f.text)) (file_begun modules f.text f.in_grammar) f.shallow d.seen d.deep d.begun d.reached (sym h.0)
read_deep exact depth tokens modules r f d (inr (inl h)) =
    deep_front depth f.text h.front (h.piece ∷ h.more) h.is (file_begun modules f.text f.in_grammar) f.shallow d.seen d.deep d.begun d.reached h.alike
read_deep exact depth tokens modules r f d (inr (inr h)) = marks_ahead exact f.text f.marks (d.seen ++ d.deep ∷ []) d.rest f.are_marks d.begun h

pub not_both_lem : Exact → SameDepth grammar.file grammar.file → (tokens : List Token) (modules : List Module) (r : Refusal) → IsRead tokens modules → IsRefused tokens r → ⊥
not_both_lem exact depth tokens modules r f (inl s) =
    read_stuck exact tokens modules r f s (cut_at exact tokens s.seen s.rest f.text f.marks s.begun (file_begun modules f.text f.in_grammar) s.tokens_are f.tokens_are)
not_both_lem exact depth tokens modules r f (inr d) =
    read_deep exact depth tokens modules r f d (cut_at exact tokens (d.seen ++ d.deep ∷ []) d.rest f.text f.marks d.begun (file_begun modules f.text f.in_grammar) d.tokens_are f.tokens_are)

-- how deep each token of a file stands is told by the tokens up to it
pub file_depth : Exact → SameDepth grammar.file grammar.file
file_depth exact = ((file_fact exact).law 0 0).depth
