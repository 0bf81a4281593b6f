-- Expressions as a rule of the grammar, and reading them.
use Rattle.std.proofs.Common.{◌≡◌, ◌∙◌, inl, inr, ℕ, ◌+◌, ◌≤◌, Bool, true, List, [], ◌∷◌, ◌++◌, length, if◌then◌else◌, Option, Some, None, Ok, Err, refl, sym, ap, subst, arith, codes, append_assoc, append-nil, length-append}
use Rattle.sv_base.specs.declared.refusal.Refusal.{Refusal}
use Rattle.sv_lexer.specs.declared.token.TokenKind.TheVariants as kind
use Rattle.sv_lexer.specs.declared.token.Token.{Token}
use Rattle.sv_ast.specs.declared.expression.Expr.{Expr}
use Rattle.sv_base.specs.declared.fault.Fault.{Fault}
use Rattle.sv_base.specs.declared.fault.Fault.TheVariants.{Refused, NoMemory}
use Rattle.expr_parser.specs.Grammar.{Phrase, number, fill, name, selected, ranged, group, concat, repeat, call, unary, binary, choice, tokens_of, tree_of, IsPhrase, Reads}
use Rattle.expr_parser.specs.Nesting.{nesting, greatest_nesting}
use Rattle.expr_parser.specs.Outcome.{grammar_tokens, Begins, BeginsWith, NoneGoesOn, nesting_refusal}
use Rattle.expr_parser.specs.Input.{Input, Outcome, front_of, past_marks}
use Rattle.expr_parser.specs.Reading.{any}
use Rattle.expr_parser.specs.Steady.{ends_expression, ReadsFrom, StopsAt, TooDeepAt, RefusesAt}
use Rattle.module_parser.specs.Rule.{Piece, written, spoken, AreMarked, AreNested, as_list, IsExpression, expression}
use Rattle.module_parser.proofs.Rules as rules
use Rattle.module_parser.proofs.Rules.{Stop, first_of, At, LawAt, NeverEmpty, Spare, Fits, Good, Opens, Nothing, Judged, Fact}
use Rattle.module_parser.proofs.Streams.{AreMarked-append, spoken-append}
use Rattle.module_parser.proofs.Forks.{Longer, Fork, fork, alike-spoken}
use Rattle.module_parser.proofs.Depths.{Agree, depth_by, alike_agree}
use Rattle.module_parser.proofs.Grouping.{first_of-grammar, refusal_at-front, grammar_tokens-append, NoMarks, NoMarks-back, unmarked, EndsInGrammar-last, plain, pieces, pieces-written, pieces-spoken, pieces-marked, pieces-nested, AreNested-append, fits_by, last_piece}

-- what is known of reading an expression
pub record Exact : Type 0 where
  pub reading : (i : Input) → i.nested ≤ greatest_nesting
      → ((tree : Expr) (k : Input) → any i ≡ Ok (tree, k) → ReadsFrom i tree k) × ((e : Fault) → any i ≡ Err e → RefusesAt i e)
  pub apart : (p : Phrase) (t : Token) → IsPhrase p → ends_expression t ≡ true → Begins (tokens_of p ++ t ∷ []) → ⊥
  pub one_tree : (tokens : List Token) (a b : Expr) → Reads tokens a → Reads tokens b → a ≡ b
  pub one_nesting : (run : List Token) (p q : Phrase) → BeginsWith run p → BeginsWith run q → nesting p (length run) ≡ nesting q (length run)

-- the end, and the tokens that go on with no expression
abbrev pub ends : Stop
ends None = true
ends (Some t) = ends_expression t

-- ---- an expression and what goes on with it

-- the token behind what is longest does not go on with it
goes_on : (run : List Token) (next : Option Token) (t : Token) (more : List Token) (p : Phrase) → NoneGoesOn run (as_list next) → next ≡ Some t
    → BeginsWith (run ++ t ∷ more) p → ⊥
goes_on run None t more p longest is b = absurd cc
goes_on run (Some u) t more p longest is b =
    let same : u ≡ t = cc in
    let P : Token → Type 0 = λ z. Begins (run ++ z ∷ []) in
    longest (subst P (sym same) (
      p,
      record {
        in_grammar = b.in_grammar;
        tail = more ++ b.tail;
        whole = b.whole ∙ append_assoc run (t ∷ more) b.tail ∙ sym (append_assoc run (t ∷ []) (more ++ b.tail));
      },
    ))

-- a phrase begins with its tokens
whole_phrase : (p : Phrase) (run : List Token) → IsPhrase p → tokens_of p ≡ run → BeginsWith run p
whole_phrase p run h is = record { in_grammar = h; tail = []; whole = is ∙ sym (append-nil run) }

begins_same : (run other : List Token) (p : Phrase) → run ≡ other → BeginsWith run p → BeginsWith other p
begins_same run other p same b = let P : List Token → Type 0 = λ z. BeginsWith z p in subst P same b

-- the text after an expression, which is longer, is none
not_longer : (xs : List Piece) (behind : List Token) (ys : List Piece) (p : Phrase) → Longer xs behind ys → NoneGoesOn (spoken xs) (as_list (first_of behind))
    → BeginsWith (spoken ys) p → ⊥
not_longer xs behind ys p l longest b = goes_on (spoken xs) (first_of behind) l.token l.more p longest l.comes (begins_same (spoken ys) _ p l.is b)

-- ---- the law

-- two phrases are nested alike as long as their tokens are the same
depths_agree : Exact → (p q : Phrase) → IsPhrase p → IsPhrase q → (run : List Token) (xs ys : List Piece) → tokens_of p ≡ run ++ spoken xs → tokens_of q ≡ run ++ spoken ys
    → AreNested p (length run) xs → AreNested q (length run) ys → Agree xs ys
depths_agree exact p q hp hq run [] ys a b h k = tt
depths_agree exact p q hp hq run (x ∷ xs) [] a b h k = tt
depths_agree exact p q hp hq run (x ∷ xs) (y ∷ ys) a b h k = λ ms t.
    let run1 = run ++ x.token ∷ [] in
    let one = length-append run (x.token ∷ []) in
    let pa : tokens_of p ≡ run1 ++ spoken xs = a ∙ sym (append_assoc run (x.token ∷ []) (spoken xs)) in
    let qb : tokens_of q ≡ run1 ++ spoken ys = b ∙ ap (λ z. run ++ z ∷ spoken ys) (sym t) ∙ sym (append_assoc run (x.token ∷ []) (spoken ys)) in
    let nest = exact.one_nesting run1 p q (record { in_grammar = hp; tail = spoken xs; whole = pa }) (record { in_grammar = hq; tail = spoken ys; whole = qb }) in
    let P : ℕ → Type 0 = λ n. AreNested p n xs in
    let Q : ℕ → Type 0 = λ n. AreNested q n ys in (
      h.0 ∙ ap (nesting p) (sym one) ∙ nest ∙ ap (nesting q) one ∙ sym k.0,
      depths_agree exact p q hp hq run1 xs ys pa qb (subst P (sym one) h.1) (subst Q (sym one) k.1),
    )

same_by : Exact → (a b : Expr) (xs ys : List Piece) (c d : List Token) → IsExpression a xs (first_of c) → IsExpression b ys (first_of d) → Fork xs c ys d → (a ≡ b) × (xs ≡ ys)
same_by exact a b xs ys c d x y (inl alike) =
    let same = alike-spoken xs ys alike in (
      exact.one_tree (spoken ys) a b (record { phrase = x.phrase; in_grammar = x.in_grammar; tokens_are = x.tokens_are ∙ same; tree_is = x.tree_is })
          (record { phrase = y.phrase; in_grammar = y.in_grammar; tokens_are = y.tokens_are; tree_is = y.tree_is }),
      alike_agree xs ys alike (depths_agree exact x.phrase y.phrase x.in_grammar y.in_grammar [] xs ys x.tokens_are y.tokens_are x.nested y.nested),
    )
same_by exact a b xs ys c d x y (inr (inl l)) =
    absurd (not_longer xs c ys y.phrase l x.longest (whole_phrase y.phrase (spoken ys) y.in_grammar y.tokens_are))
same_by exact a b xs ys c d x y (inr (inr l)) =
    absurd (not_longer ys d xs x.phrase l y.longest (whole_phrase x.phrase (spoken xs) x.in_grammar x.tokens_are))

-- behind an expression may stand what ends one
longest_at : Exact → (p : Phrase) (run : List Token) → IsPhrase p → tokens_of p ≡ run → (v : Option Token) → ends v ≡ true → NoneGoesOn run (as_list v)
longest_at exact p run h is None stops = tt
longest_at exact p run h is (Some t) stops =
    λ b. let P : List Token → Type 0 = λ z. Begins (z ++ t ∷ []) in exact.apart p t h stops (subst P (sym is) b)

pub law_expression : Exact → LawAt ends expression expression
law_expression exact = record {
  clean = λ a xs n h. h.marked;
  clean_too = λ a xs n h. h.marked;
  calm = λ a xs n v h stops.
      record {
        phrase = h.phrase;
        in_grammar = h.in_grammar;
        tokens_are = h.tokens_are;
        tree_is = h.tree_is;
        marked = h.marked;
        nested = h.nested;
        longest = longest_at exact h.phrase (spoken xs) h.in_grammar h.tokens_are v stops;
      };
  same = λ stream a b xs ys x y.
      same_by exact a b xs ys x.behind y.behind x.reads y.reads (fork xs x.behind ys y.behind x.reads.marked y.reads.marked (sym x.is ∙ y.is));
  depth = depth_by expression expression (λ a xs n h. h.marked) (λ a xs n h. h.marked)
      (λ a b xs ys c d x y. depths_agree exact x.phrase y.phrase x.in_grammar y.in_grammar [] xs ys x.tokens_are y.tokens_are x.nested y.nested);
}

-- ---- an expression has a token

some-append : (a : List Token) (t : Token) (b : List Token) → a ++ t ∷ b ≡ [] → ⊥
some-append [] t b h = absurd cc
some-append (u ∷ a) t b h = absurd cc

some_tokens : (p : Phrase) → tokens_of p ≡ [] → ⊥
some_tokens (number t) h = absurd cc
some_tokens (fill t) h = absurd cc
some_tokens (name t) h = absurd cc
some_tokens (selected id o p c) h = absurd cc
some_tokens (ranged w id o p b q c) h = absurd cc
some_tokens (group o p c) h = absurd cc
some_tokens (concat o ps c) h = absurd cc
some_tokens (repeat o p i ps d c) h = absurd cc
some_tokens (call f o p c) h = absurd cc
some_tokens (unary s p) h = absurd cc
some_tokens (binary p s q) h = some-append (tokens_of p) s (tokens_of q) h
some_tokens (choice p t q u r) h = some-append (tokens_of p ++ t ∷ tokens_of q) u (tokens_of r) h

pub never_expression : NeverEmpty expression
never_expression a n h = some_tokens h.phrase h.tokens_are

-- ---- reading an expression

-- a phrase with its tokens in pieces is an expression, whatever ends it
pub expression_of : Exact → (p : Phrase) (text : List Piece) → IsPhrase p → tokens_of p ≡ spoken text → AreMarked text → AreNested p 0 text
    → (v : Option Token) → ends v ≡ true → expression (tree_of p) text v
expression_of exact p text h is m n v stops = record {
  phrase = p;
  in_grammar = h;
  tokens_are = is;
  tree_is = refl;
  marked = m;
  nested = n;
  longest = longest_at exact p (spoken text) h is v stops;
}

-- what a phrase begins with opens an expression
opens_by : Exact → (p : Phrase) (front : List Token) → BeginsWith (grammar_tokens front) p → Opens ends (λ _. expression) (pieces p 0 front)
opens_by exact p front b =
    let seen = pieces p 0 front in
    let n = length (grammar_tokens front) in
    let rest = pieces p n b.tail in
    let said = pieces-spoken p 0 front in
    let tail_is : spoken rest ≡ b.tail =
    pieces-spoken p n b.tail ∙ unmarked b.tail (let P : List Token → Type 0 = λ z. NoMarks z in NoMarks-back (grammar_tokens front) b.tail (subst P b.whole (plain p b.in_grammar))) in
    let at : n ≡ 0 + length (spoken seen) = let same = ap length said in omega (arith, same) in
    let P : ℕ → Type 0 = λ k. AreNested p k rest in
    let m = AreMarked-append seen rest (pieces-marked p 0 front) (pieces-marked p n b.tail) in
    let nest = AreNested-append p 0 seen rest (pieces-nested p 0 front) (subst P at (pieces-nested p n b.tail)) in
    let is : tokens_of p ≡ spoken (seen ++ rest) =
    b.whole ∙ ap (λ z. z ++ b.tail) (sym said) ∙ ap (λ z. spoken seen ++ z) (sym tail_is) ∙ sym (spoken-append seen rest) in
    record { tree = tree_of p; more = rest; marked = m; least = 0; reads = λ k le v stops. expression_of exact p (seen ++ rest) b.in_grammar is m nest v stops }

none_goes_same : (run ts : List Token) → NoneGoesOn run ts → NoneGoesOn run (as_list (front_of ts))
none_goes_same run [] h = tt
none_goes_same run (t ∷ ts) h = h

-- no expression goes on with what is next
none_next : (run rest : List Token) → NoneGoesOn run (grammar_tokens rest) → NoneGoesOn run (as_list (first_of rest))
none_next run rest h = let P : Option Token → Type 0 = λ v. NoneGoesOn run (as_list v) in subst P (first_of-grammar rest) (none_goes_same run (grammar_tokens rest) h)

-- the same with the tokens of pieces
none_spoken : (p : Phrase) (front rest : List Token) → NoneGoesOn (grammar_tokens front) (grammar_tokens rest) → NoneGoesOn (spoken (pieces p 0 front)) (as_list (first_of rest))
none_spoken p front rest h =
    let P : List Token → Type 0 = λ run. NoneGoesOn run (as_list (first_of rest)) in subst P (sym (pieces-spoken p 0 front)) (none_next (grammar_tokens front) rest h)

pieces_rest : (p : Phrase) (front rest : List Token) (i : Input) → i.rest ≡ front ++ rest → (written (pieces p 0 front) ≡ front) → i.rest ≡ written (pieces p 0 front) ++ rest
pieces_rest p front rest i is w = is ∙ ap (λ z. z ++ rest) (sym w)

good_lem : (i : Input) (tree : Expr) (k : Input) → ReadsFrom i tree k → Good (λ _. expression) i tree k
good_lem i tree k r =
    let p = r.phrase in
    let text = pieces p 0 r.front in
    let said = pieces-spoken p 0 r.front in
    record {
      text = text;
      reads = (
        0,
        λ n le. record {
          phrase = p;
          in_grammar = r.in_grammar;
          tokens_are = r.tokens_are ∙ sym said;
          tree_is = r.tree_is;
          marked = pieces-marked p 0 r.front;
          nested = pieces-nested p 0 r.front;
          longest = none_spoken p r.front k.rest r.longest;
        },
      );
      rest_is = pieces_rest p r.front k.rest i r.rest_is (pieces-written p 0 r.front r.ends);
      nested_is = r.nested_is;
      last_is = r.last_is;
      fits = fits_by i.nested p 0 (length (grammar_tokens r.front)) text (pieces-nested p 0 r.front) (let same = ap length said in omega (arith, same)) r.shallow;
    }

-- where reading stops, no expression stands
nothing_by : (i : Input) (r : Refusal) (s : StopsAt i r) (b : List Token) → first_of b ≡ first_of s.rest → (tree : Expr) (text : List Piece) (c : List Token)
    → IsExpression tree text (first_of c) → Fork (pieces s.phrase 0 s.front) b text c → ⊥
nothing_by i r s b next tree text c x (inl alike) =
    let same : spoken text ≡ grammar_tokens s.front = sym (alike-spoken (pieces s.phrase 0 s.front) text alike) ∙ pieces-spoken s.phrase 0 s.front in
    s.none tree (record { phrase = x.phrase; in_grammar = x.in_grammar; tokens_are = x.tokens_are ∙ same; tree_is = x.tree_is })
nothing_by i r s b next tree text c x (inr (inl l)) =
    let seen = pieces s.phrase 0 s.front in
    let P : Option Token → Type 0 = λ v. NoneGoesOn (spoken seen) (as_list v) in
    not_longer seen b text x.phrase l (subst P (sym next) (none_spoken s.phrase s.front s.rest s.longest)) (whole_phrase x.phrase (spoken text) x.in_grammar x.tokens_are)
nothing_by i r s b next tree text c x (inr (inr l)) =
    let seen = pieces s.phrase 0 s.front in
    not_longer text c seen s.phrase l x.longest (begins_same (grammar_tokens s.front) (spoken seen) s.phrase (sym (pieces-spoken s.phrase 0 s.front)) s.begins)

stuck_lem : Exact → (i : Input) (r : Refusal) → StopsAt i r → rules.Stuck ends (λ _. expression) i r
stuck_lem exact i r s =
    let p = s.phrase in
    let seen = pieces p 0 s.front in
    let said = pieces-spoken p 0 s.front in
    record {
      seen = seen;
      rest = s.rest;
      rest_is = pieces_rest p s.front s.rest i s.rest_is (pieces-written p 0 s.front s.ends);
      fits = fits_by i.nested p 0 (length (grammar_tokens s.front)) seen (pieces-nested p 0 s.front) (let same = ap length said in omega (arith, same)) s.shallow;
      opens = λ some. opens_by exact p s.front s.begins;
      none = λ k b next tree text at.
          nothing_by i r s b next tree text at.behind at.reads (fork seen b text at.behind (pieces-marked p 0 s.front) at.reads.marked at.is);
      refused = s.refused ∙ refusal_at-front i.last (grammar_tokens s.rest) (past_marks s.rest) (first_of-grammar s.rest);
    }

deep_lem : Exact → (i : Input) (r : Refusal) → TooDeepAt i r → rules.Deep ends (λ _. expression) i r
deep_lem exact i r s =
    let p = s.phrase in
    let seen = pieces p 0 s.front in
    let said = pieces-spoken p 0 s.front in
    let last = last_piece p 0 s.front s.deep s.no_mark in
    let run = s.front ++ s.deep ∷ [] in
    let one : grammar_tokens (s.deep ∷ []) ≡ s.deep ∷ [] = ap (λ (c : Bool). if c then [] else s.deep ∷ []) s.no_mark in
    let run_is : grammar_tokens run ≡ grammar_tokens s.front ++ s.deep ∷ [] =
    grammar_tokens-append s.front (s.deep ∷ []) ∙ ap (λ z. grammar_tokens s.front ++ z) one in
    let P : List Piece → Type 0 = λ z. Opens ends (λ _. expression) z in
    let n = length (grammar_tokens s.front) in
    record {
      seen = seen;
      deep = last.deep;
      rest = s.rest;
      rest_is = s.rest_is ∙ sym (append_assoc s.front (s.deep ∷ []) s.rest)
          ∙ ap (λ z. z ++ s.rest) (sym (pieces-written p 0 run (EndsInGrammar-last s.front s.deep s.no_mark)) ∙ ap written last.split);
      fits = fits_by i.nested p 0 n seen (pieces-nested p 0 s.front) (let same = ap length said in omega (arith, same)) s.shallow;
      opens = subst P last.split (opens_by exact p run (begins_same _ (grammar_tokens run) p (sym run_is) s.begins));
      reached = ap (λ k. i.nested + k) (last.depth_is ∙ (let at : 0 + n + 1 ≡ n + 1 = omega arith in ap (nesting p) at)) ∙ s.reached;
      refused = s.refused ∙ ap nesting_refusal (sym last.token_is);
    }

refused_lem : Exact → (i : Input) (e : Fault) → RefusesAt i e → Judged {A = Expr} ends (λ _. expression) i (Err e)
refused_lem exact i (Refused r) (inl s) = inl (stuck_lem exact i r s)
refused_lem exact i (Refused r) (inr s) = inr (deep_lem exact i r s)
refused_lem exact i NoMemory h = absurd h

pub judged_by : Exact → (i : Input) → i.nested ≤ greatest_nesting → (o : Outcome Expr) → any i ≡ o → Judged ends (λ _. expression) i o
judged_by exact i fine (Ok p) is = good_lem i p.0 p.1 ((exact.reading i fine).0 p.0 p.1 is)
judged_by exact i fine (Err e) is = refused_lem exact i e ((exact.reading i fine).1 e is)

-- the number 0, which stands for any expression
abbrev pub zero_token : Token
zero_token = record { kind = kind.Number; text = codes "0"; place = record { file = 0; line = 0 } }

unfoldable pub spare_expression : Exact → Spare ends (λ _. expression)
spare_expression exact = record {
  tree = tree_of (number zero_token);
  text = record { marks = []; token = zero_token; depth = 0 } ∷ [];
  marked = (refl, refl, tt);
  least = 0;
  reads = λ k le v stops. expression_of exact (number zero_token) _ refl refl (refl, refl, tt) (refl, tt) v stops;
}

unfoldable pub fact_expression : (floor : ℕ) → Exact → Fact floor ends (λ _. expression) any
fact_expression floor exact = record {
  law = λ n k. law_expression exact;
  spare = spare_expression exact;
  judged = λ i le fine. judged_by exact i fine (any i) refl;
}
