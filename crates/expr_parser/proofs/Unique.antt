-- What is read and refused of given tokens from a place on is one thing at most.
use Rattle.std.proofs.Common.{◌≡◌, ◌∙◌, ◌⊎◌, inl, inr, ℕ, ◌+◌, Bool, true, false, List, [], ◌∷◌, ◌++◌, length, drop, refl, sym, ap, subst, arith, codes, append_assoc, append-nil, length-append, if◌then◌else◌}
use Rattle.sv_base.specs.declared.refusal.Refusal.{Refusal}
use Rattle.sv_lexer.specs.declared.token.TokenKind.{TokenKind}
use Rattle.sv_lexer.specs.declared.token.TokenKind.TheVariants as kind
use Rattle.sv_lexer.specs.declared.token.Token.{Token}
use Rattle.sv_ast.specs.declared.expression.Expr.{Expr}
use Rattle.sv_ast.specs.declared.expression.Expr.TheVariants as e
use Rattle.expr_parser.specs.Spelling.{is_mark, is_sign, is_this, binds}
use Rattle.expr_parser.specs.Grammar.{Phrase, id_of}
use Rattle.expr_parser.specs.Nesting.{nesting, greatest_nesting}
use Rattle.expr_parser.specs.Outcome.{grammar_tokens, BeginsWith, Begins, NoneGoesOn, EndsInGrammar, IsShallow, IsRead, IsStuck, IsTooDeep, IsRefused, refusal_at, nesting_refusal, last_place}
use Rattle.expr_parser.proofs.Machine.{Frame, under_sign, behind_left, in_first, in_second, in_group, in_call, in_select, in_range, in_braces, in_parts, State, wants, wants_argument, has_name, has, wants_brace, failed, reduce, closed, went_on, begun, no_start, start_by, step, steps}
use Rattle.expr_parser.proofs.Roles.{start_is}
use Rattle.expr_parser.proofs.Took.{grammar_tokens-append}
use Rattle.expr_parser.proofs.Complete.{steps-append, none_begins, same_tree}
use Rattle.expr_parser.proofs.Depths.{one_nesting_lem}

-- ---- a mark goes on with nothing

no_sign_by : (k : TokenKind) → is_mark k ≡ true → is_sign k ≡ false
no_sign_by kind.Mark h = refl
no_sign_by kind.Sign h = absurd cc
no_sign_by kind.Word h = refl
no_sign_by kind.System h = refl
no_sign_by kind.Number h = refl
no_sign_by kind.Fill h = refl

mark-this : (text : List ℕ) (t : Token) → is_mark t.kind ≡ true → is_this text t ≡ false
unfolding is_this
mark-this text t h = rw (no_sign_by t.kind h) refl

mark-binds : (t : Token) → is_mark t.kind ≡ true → binds t ≡ 0
unfolding binds
mark-binds t h = rw (no_sign_by t.kind h) refl

mark-start_by : (k : TokenKind) (t : Token) → is_mark k ≡ true → start_by k t ≡ no_start
mark-start_by kind.Mark t h = refl
mark-start_by kind.Sign t h = absurd cc
mark-start_by kind.Word t h = absurd cc
mark-start_by kind.System t h = absurd cc
mark-start_by kind.Number t h = absurd cc
mark-start_by kind.Fill t h = absurd cc

mark-closed : (t : Token) → is_mark t.kind ≡ true → (x : Expr) (fs : List Frame) → closed t x fs ≡ failed
mark-closed t h x [] = refl
mark-closed t h x (under_sign s ∷ fs) = refl
mark-closed t h x (behind_left l s ∷ fs) = refl
mark-closed t h x (in_first c q ∷ fs) = rw (mark-this (codes ":") t h) refl
mark-closed t h x (in_second c q m ∷ fs) = refl
mark-closed t h x (in_group ∷ fs) = rw (mark-this (codes ")") t h) refl
mark-closed t h x (in_call f ∷ fs) = rw (mark-this (codes ")") t h) refl
mark-closed t h x (in_select id o ∷ fs) = rw (mark-this (codes ":") t h, mark-this (codes "+:") t h, mark-this (codes "-:") t h, mark-this (codes "]") t h) refl
mark-closed t h x (in_range w id o a ∷ fs) = rw (mark-this (codes "]") t h) refl
mark-closed t h x (in_braces o ys ∷ fs) = rw (mark-this (codes "{") t h, mark-this (codes ",") t h, mark-this (codes "}") t h) refl
mark-closed t h x (in_parts o n ys ∷ fs) = rw (mark-this (codes ",") t h, mark-this (codes "}") t h) refl

mark-went_on : (t : Token) → is_mark t.kind ≡ true → (x : Expr) (fs : List Frame) → went_on t x fs ≡ failed
mark-went_on t h x fs = rw (mark-binds t h, mark-this (codes "?") t h) (mark-closed t h (reduce 0 fs x).0 (reduce 0 fs x).1)

mark-step : (t : Token) → is_mark t.kind ≡ true → (s : State) → step t s ≡ failed
mark-step t h (wants fs) = ap (λ k. begun k t fs) (start_is t ∙ mark-start_by t.kind t h)
mark-step t h (wants_argument f fs) = rw (mark-this (codes "(") t h) refl
mark-step t h (has_name id fs) = rw (mark-this (codes "[") t h) (mark-went_on t h (e.Read (id_of id) []) fs)
mark-step t h (has x fs) = mark-went_on t h x fs
mark-step t h (wants_brace x fs) = rw (mark-this (codes "}") t h) refl
mark-step t h failed = refl

no_mark_by : (c : Bool) → (c ≡ true → ⊥) → c ≡ false
no_mark_by true h = absurd (h refl)
no_mark_by false h = refl

-- the last token of a run is no mark
no_mark : (run : List Token) (t : Token) → Begins (run ++ t ∷ []) → is_mark t.kind ≡ false
no_mark run t b =
    no_mark_by (is_mark t.kind) (λ h.
    none_begins (run ++ t ∷ []) (steps-append (wants []) run (t ∷ []) ∙ mark-step t h (steps (wants []) run)) b.0 b.1.in_grammar b.1.tail b.1.whole)

-- ---- two ways to cut one list

abbrev pub Cut : List Token → List Token → List Token → List Token → Type 0
Cut a b c d = ((m : List Token) × ((c ≡ a ++ m) × (b ≡ m ++ d))) ⊎ ((t : Token) × ((m : List Token) × ((a ≡ c ++ t ∷ m) × (d ≡ t ∷ m ++ b))))

cut_more : (x : Token) (a b c d : List Token) → Cut a b c d → Cut (x ∷ a) b (x ∷ c) d
cut_more x a b c d (inl h) = inl (h.0, (ap (λ z. x ∷ z) h.1.0, h.1.1))
cut_more x a b c d (inr h) = inr (h.0, (h.1.0, (ap (λ z. x ∷ z) h.1.1.0, h.1.1.1)))

cuts : (a b c d : List Token) → a ++ b ≡ c ++ d → Cut a b c d
cuts [] b c d h = inl (c, (refl, h))
cuts (x ∷ a) b [] d h = inr (x, (a, (refl, sym h)))
cuts (x ∷ a) b (y ∷ c) d h =
    let same : x ≡ y = cc in
    let tails : a ++ b ≡ c ++ d = cc in
    let P : Token → Type 0 = λ z. Cut (x ∷ a) b (z ∷ c) d in
    subst P same (cut_more x a b c d (cuts a b c d tails))

begins_less : (run : List Token) (t : Token) (m : List Token) → Begins (run ++ t ∷ m) → Begins (run ++ t ∷ [])
begins_less run t m b = (
  b.0,
  record {
    in_grammar = b.1.in_grammar;
    tail = m ++ b.1.tail;
    whole = b.1.whole ∙ append_assoc run (t ∷ m) b.1.tail ∙ sym (append_assoc run (t ∷ []) (m ++ b.1.tail));
  },
)

none_at : (run : List Token) (t : Token) (m more : List Token) → more ≡ t ∷ m → NoneGoesOn run more → Begins (run ++ t ∷ []) → ⊥
none_at run t m more is none b = let P : List Token → Type 0 = λ z. NoneGoesOn run z in (subst P is none) b

-- the longest run has every run
pub record Within (run more inner behind : List Token) : Type 0 where
  pub middle : List Token
  pub longer : run ≡ inner ++ middle
  pub left : behind ≡ middle ++ more

within_by : (run more inner behind : List Token) → NoneGoesOn run more → Begins inner → Cut inner behind run more → Within run more inner behind
within_by run more inner behind none b (inl h) = record { middle = h.0; longer = h.1.0; left = h.1.1 }
within_by run more inner behind none b (inr h) =
    let P : List Token → Type 0 = λ z. Begins z in
    absurd (none_at run h.0 (h.1.0 ++ behind) more h.1.1.1 none (begins_less run h.0 h.1.0 (subst P h.1.1.0 b)))

within : (run more inner behind : List Token) → NoneGoesOn run more → Begins inner → run ++ more ≡ inner ++ behind → Within run more inner behind
within run more inner behind none b same = within_by run more inner behind none b (cuts inner behind run more (sym same))

-- ---- the longest run

pub record IsRun (whole : List Token) (front rest : List Token) : Type 0 where
  pub stands : (whole ≡ front ++ rest) × EndsInGrammar front
  pub begins : Begins (grammar_tokens front)
  pub longest : NoneGoesOn (grammar_tokens front) (grammar_tokens rest)

read_run : (tokens : List Token) (at depth : ℕ) (tree : Expr) (n : ℕ) → (r : IsRead tokens at depth tree n) → IsRun (drop at tokens) r.front r.rest
read_run tokens at depth tree n r = record {
  stands = r.stands;
  begins = (r.phrase, record { in_grammar = r.in_grammar; tail = []; whole = r.tokens_are ∙ sym (append-nil (grammar_tokens r.front)) });
  longest = r.longest;
}

stuck_run : (tokens : List Token) (at depth : ℕ) (r : Refusal) → (s : IsStuck tokens at depth r) → IsRun (drop at tokens) s.front s.rest
stuck_run tokens at depth r s = record { stands = s.stands; begins = (s.phrase, s.begins); longest = s.longest }

ends_after : (a : List Token) (t : Token) (m : List Token) → EndsInGrammar (a ++ t ∷ m) → EndsInGrammar (t ∷ m)
ends_after [] t m h = h
ends_after (x ∷ []) t m h = h
ends_after (x ∷ y ∷ a) t m h = ends_after (y ∷ a) t m h

kept_some : (c : Bool) (t : Token) (ts : List Token) → (if c then ts else t ∷ ts) ≡ [] → (c ≡ true) × (ts ≡ [])
kept_some true t ts h = (refl, h)
kept_some false t ts h = absurd cc

ends_some : (t : Token) (m : List Token) → EndsInGrammar (t ∷ m) → grammar_tokens (t ∷ m) ≡ [] → ⊥
ends_some t [] h none = let k = kept_some (is_mark t.kind) t [] none in cc
ends_some t (u ∷ m) h none = ends_some u m h (kept_some (is_mark t.kind) t (grammar_tokens (u ∷ m)) none).1

-- what is added to a run adds a token of the grammar
added_none : (a m : List Token) → EndsInGrammar (a ++ m) → grammar_tokens m ≡ [] → m ≡ []
added_none a [] h none = refl
added_none a (t ∷ m) h none = absurd (ends_some t m (ends_after a t m h) none)

nothing_added : (a m : List Token) → length a ≡ length (a ++ m) → m ≡ []
nothing_added a [] h = refl
nothing_added a (t ∷ m) h = absurd (omega (arith, length-append a (t ∷ m)))

cancelled : (a m : List Token) → a ≡ a ++ m → m ≡ []
cancelled a m h = nothing_added a m (ap length h)

pub record SameRun (front rest other left : List Token) : Type 0 where
  pub fronts : front ≡ other
  pub rests : rest ≡ left

whole_run : (whole front rest : List Token) → whole ≡ front ++ rest → grammar_tokens whole ≡ grammar_tokens front ++ grammar_tokens rest
whole_run whole front rest h = ap grammar_tokens h ∙ grammar_tokens-append front rest

same_lengths : (a b m n : List Token) → a ≡ b ++ m → b ≡ a ++ n → a ≡ b
same_lengths a b m n h k =
    let none : m ≡ [] = nothing_added b m (omega (arith, ap length h, ap length k, length-append b m, length-append a n)) in
    h ∙ ap (λ z. b ++ z) none ∙ append-nil b

same_run_tokens : (whole front rest other left : List Token) → IsRun whole front rest → IsRun whole other left → grammar_tokens front ≡ grammar_tokens other
same_run_tokens whole front rest other left r s =
    let x = whole_run whole front rest r.stands.0 in
    let y = whole_run whole other left s.stands.0 in
    let a = within (grammar_tokens front) (grammar_tokens rest) (grammar_tokens other) (grammar_tokens left) r.longest s.begins (sym x ∙ y) in
    let b = within (grammar_tokens other) (grammar_tokens left) (grammar_tokens front) (grammar_tokens rest) s.longest r.begins (sym y ∙ x) in
    same_lengths (grammar_tokens front) (grammar_tokens other) a.middle b.middle a.longer b.longer

same_cut : (front rest other left : List Token) → EndsInGrammar front → EndsInGrammar other → grammar_tokens front ≡ grammar_tokens other → Cut front rest other left
    → SameRun front rest other left
same_cut front rest other left ends ends_too same (inl h) =
    let m = h.0 in
    let P : List Token → Type 0 = λ z. EndsInGrammar z in
    let none : grammar_tokens m ≡ [] = cancelled (grammar_tokens front) (grammar_tokens m) (same ∙ ap grammar_tokens h.1.0 ∙ grammar_tokens-append front m) in
    let empty : m ≡ [] = added_none front m (subst P h.1.0 ends_too) none in
    record { fronts = sym (h.1.0 ∙ ap (λ z. front ++ z) empty ∙ append-nil front); rests = h.1.1 ∙ ap (λ z. z ++ left) empty }
same_cut front rest other left ends ends_too same (inr h) =
    let m = h.0 ∷ h.1.0 in
    let P : List Token → Type 0 = λ z. EndsInGrammar z in
    let none : grammar_tokens m ≡ [] = cancelled (grammar_tokens other) (grammar_tokens m) (sym same ∙ ap grammar_tokens h.1.1.0 ∙ grammar_tokens-append other m) in
    absurd (ends_some h.0 h.1.0 (ends_after other h.0 h.1.0 (subst P h.1.1.0 ends)) none)

same_run : (whole front rest other left : List Token) → IsRun whole front rest → IsRun whole other left → SameRun front rest other left
same_run whole front rest other left r s =
    same_cut front rest other left r.stands.1 s.stands.1 (same_run_tokens whole front rest other left r s) (cuts front rest other left (sym r.stands.0 ∙ s.stands.0))

pub one_reading_lem : (tokens : List Token) (at depth : ℕ) (a b : Expr) (m n : ℕ) → IsRead tokens at depth a m → IsRead tokens at depth b n → (a ≡ b) × (m ≡ n)
one_reading_lem tokens at depth a b m n x y =
    let same = same_run (drop at tokens) x.front x.rest y.front y.rest (read_run tokens at depth a m x) (read_run tokens at depth b n y) in (
      sym x.tree_is ∙ same_tree x.phrase y.phrase x.in_grammar y.in_grammar (x.tokens_are ∙ ap grammar_tokens same.fronts ∙ sym y.tokens_are) ∙ y.tree_is,
      x.place ∙ ap (λ z. at + length z) same.fronts ∙ sym y.place,
    )

-- ---- a token of the run that is nested too deep

-- the run up to that token, and the tokens of the grammar behind it
abbrev pub deep_run : (tokens : List Token) (at depth : ℕ) (r : Refusal) → IsTooDeep tokens at depth r → List Token
deep_run tokens at depth r s = grammar_tokens s.front ++ s.deep ∷ []

one_kept : (c : Bool) (t : Token) (ts : List Token) → c ≡ false → (if c then ts else t ∷ ts) ≡ t ∷ ts
one_kept true t ts h = absurd cc
one_kept false t ts h = refl

deep_whole : (tokens : List Token) (at depth : ℕ) (r : Refusal) → (s : IsTooDeep tokens at depth r)
    → grammar_tokens (drop at tokens) ≡ deep_run tokens at depth r s ++ grammar_tokens s.rest
deep_whole tokens at depth r s =
    whole_run (drop at tokens) s.front (s.deep ∷ s.rest) s.split
    ∙ ap (λ z. grammar_tokens s.front ++ z) (one_kept (is_mark s.deep.kind) s.deep (grammar_tokens s.rest) (no_mark (grammar_tokens s.front) s.deep (s.phrase, s.begins)))
    ∙ sym (append_assoc (grammar_tokens s.front) (s.deep ∷ []) (grammar_tokens s.rest))

deep_length : (run : List Token) (t : Token) → length (run ++ t ∷ []) ≡ length run + 1
deep_length run t = length-append run (t ∷ [])

deep_reached : (tokens : List Token) (at depth : ℕ) (r : Refusal) → (s : IsTooDeep tokens at depth r)
    → depth + nesting s.phrase (length (deep_run tokens at depth r s)) ≡ greatest_nesting + 1
deep_reached tokens at depth r s = ap (λ k. depth + nesting s.phrase k) (deep_length (grammar_tokens s.front) s.deep) ∙ s.reached

-- a run in which nothing is nested too deep does not have that token
not_shallow : (tokens : List Token) (at depth : ℕ) (r : Refusal) → (s : IsTooDeep tokens at depth r) → (run middle : List Token) (p : Phrase)
    → BeginsWith run p → IsShallow depth p (length run) → run ≡ deep_run tokens at depth r s ++ middle → ⊥
not_shallow tokens at depth r s run middle p b low longer =
    let inner = deep_run tokens at depth r s in
    let here : BeginsWith inner p = record {
      in_grammar = b.in_grammar;
      tail = middle ++ b.tail;
      whole = b.whole ∙ ap (λ z. z ++ b.tail) longer ∙ append_assoc inner middle b.tail;
    } in
    let same = one_nesting_lem inner p s.phrase here s.begins in
    let reached = deep_reached tokens at depth r s in
    let fine = low (length inner) (omega (arith, ap length longer, length-append inner middle)) in
    omega (arith, same, reached, fine)

run_not_deep : (tokens : List Token) (at depth : ℕ) (front rest : List Token) → IsRun (drop at tokens) front rest → (p : Phrase) → BeginsWith (grammar_tokens front) p
    → IsShallow depth p (length (grammar_tokens front)) → (r : Refusal) → IsTooDeep tokens at depth r → ⊥
run_not_deep tokens at depth front rest run p b low r s =
    let inner = deep_run tokens at depth r s in
    let w = within (grammar_tokens front) (grammar_tokens rest) inner (grammar_tokens s.rest) run.longest (s.phrase, s.begins)
    (sym (whole_run (drop at tokens) front rest run.stands.0) ∙ deep_whole tokens at depth r s) in
    not_shallow tokens at depth r s (grammar_tokens front) w.middle p b low w.longer

pub not_both_lem : (tokens : List Token) (at depth : ℕ) (tree : Expr) (n : ℕ) (r : Refusal) → IsRead tokens at depth tree n → IsRefused tokens at depth r → ⊥
unfolding read_run
not_both_lem tokens at depth tree n r x (inl s) =
    let same = same_run (drop at tokens) x.front x.rest s.front s.rest (read_run tokens at depth tree n x) (stuck_run tokens at depth r s) in
    s.none tree (record { phrase = x.phrase; in_grammar = x.in_grammar; tokens_are = x.tokens_are ∙ ap grammar_tokens same.fronts; tree_is = x.tree_is })
not_both_lem tokens at depth tree n r x (inr s) =
    let run = read_run tokens at depth tree n x in
    run_not_deep tokens at depth x.front x.rest run x.phrase run.begins.1 x.shallow r s

-- ---- one refusal

-- the first of two such tokens is the second one
deep_by : (tokens : List Token) (at depth : ℕ) (a b : Refusal) → (x : IsTooDeep tokens at depth a) → (y : IsTooDeep tokens at depth b)
    → Cut (grammar_tokens x.front) (x.deep ∷ grammar_tokens x.rest) (grammar_tokens y.front) (y.deep ∷ grammar_tokens y.rest) → x.deep ≡ y.deep
deep_by tokens at depth a b x y (inl ([], h)) =
    let same : x.deep ∷ grammar_tokens x.rest ≡ y.deep ∷ grammar_tokens y.rest = h.1 in cc
deep_by tokens at depth a b x y (inl (t ∷ m, h)) =
    let first : x.deep ≡ t = cc in
    let longer : grammar_tokens y.front ≡ deep_run tokens at depth a x ++ m =
    h.0 ∙ ap (λ z. grammar_tokens x.front ++ z ∷ m) (sym first) ∙ sym (append_assoc (grammar_tokens x.front) (x.deep ∷ []) m) in
    absurd (not_shallow tokens at depth a x (grammar_tokens y.front) m y.phrase
    (record { in_grammar = y.begins.in_grammar; tail = y.deep ∷ y.begins.tail; whole = y.begins.whole ∙ append_assoc (grammar_tokens y.front) (y.deep ∷ []) y.begins.tail })
    y.shallow longer)
deep_by tokens at depth a b x y (inr h) =
    let first : y.deep ≡ h.0 = cc in
    let longer : grammar_tokens x.front ≡ deep_run tokens at depth b y ++ h.1.0 =
    h.1.1.0 ∙ ap (λ z. grammar_tokens y.front ++ z ∷ h.1.0) (sym first) ∙ sym (append_assoc (grammar_tokens y.front) (y.deep ∷ []) h.1.0) in
    absurd (not_shallow tokens at depth b y (grammar_tokens x.front) h.1.0 x.phrase
    (record { in_grammar = x.begins.in_grammar; tail = x.deep ∷ x.begins.tail; whole = x.begins.whole ∙ append_assoc (grammar_tokens x.front) (x.deep ∷ []) x.begins.tail })
    x.shallow longer)

deep_cut : (tokens : List Token) (at depth : ℕ) (r : Refusal) → (s : IsTooDeep tokens at depth r)
    → grammar_tokens (drop at tokens) ≡ grammar_tokens s.front ++ s.deep ∷ grammar_tokens s.rest
deep_cut tokens at depth r s = deep_whole tokens at depth r s ∙ append_assoc (grammar_tokens s.front) (s.deep ∷ []) (grammar_tokens s.rest)

pub one_refusal_lem : (tokens : List Token) (at depth : ℕ) (a b : Refusal) → IsRefused tokens at depth a → IsRefused tokens at depth b → a ≡ b
one_refusal_lem tokens at depth a b (inl x) (inl y) =
    let same = same_run (drop at tokens) x.front x.rest y.front y.rest (stuck_run tokens at depth a x) (stuck_run tokens at depth b y) in
    x.refused ∙ ap (λ z. refusal_at (last_place tokens) (grammar_tokens z)) same.rests ∙ sym y.refused
one_refusal_lem tokens at depth a b (inl x) (inr y) =
    absurd (run_not_deep tokens at depth x.front x.rest (stuck_run tokens at depth a x) x.phrase x.begins x.shallow b y)
one_refusal_lem tokens at depth a b (inr x) (inl y) =
    absurd (run_not_deep tokens at depth y.front y.rest (stuck_run tokens at depth b y) y.phrase y.begins y.shallow a x)
one_refusal_lem tokens at depth a b (inr x) (inr y) =
    let same = deep_by tokens at depth a b x y
    (cuts (grammar_tokens x.front) (x.deep ∷ grammar_tokens x.rest) (grammar_tokens y.front) (y.deep ∷ grammar_tokens y.rest) (sym (deep_cut tokens at depth a x) ∙ deep_cut tokens at depth b y)) in
    x.refused ∙ ap nesting_refusal same ∙ sym y.refused
