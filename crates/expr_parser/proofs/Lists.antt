-- What reading gives for lists of expressions in braces.
use Rattle.std.proofs.Common.{◌≡◌, ◌∙◌, inl, inr, ℕ, zero, suc, ◌+◌, ◌-◌, ◌≤◌, Bool, true, false, List, [], ◌∷◌, ◌++◌, length, Ok, refl, sym, ap, subst, arith, codes, append_assoc, length-append, if◌then◌else◌}
use Rattle.sv_lexer.specs.declared.token.Token.{Token}
use Rattle.sv_ast.specs.declared.expression.Expr.{Expr}
use Rattle.expr_parser.specs.Spelling.{is_this}
use Rattle.expr_parser.specs.Grammar.{Phrase, Phrases, only, more, tokens_of, all_tokens_of, tree_of, trees_of, Is, IsPhrase, ArePhrases, strength}
use Rattle.expr_parser.specs.Nesting.{nesting, nestings, greatest_nesting}
use Rattle.expr_parser.specs.Input.{Input, Parser, after, sees, and_then}
use Rattle.expr_parser.specs.Reading.{whole, list_from}
use Rattle.expr_parser.proofs.Machine.{Frame, wants, failed, closed, step, steps}
use Rattle.expr_parser.proofs.Took.{Took, Took-then, Took-shorter}
use Rattle.expr_parser.proofs.Complete.{steps-append, reads_list, list-end, end-comma, IsListFrame}
use Rattle.expr_parser.proofs.Spot.{Fits, Judged, judged_then, Spot, Inner, inside, cases_le}
use Rattle.expr_parser.proofs.Part.{Next, sees-yes, sees-no, Took-after, after-last, after-nested}
use Rattle.expr_parser.proofs.Inners.{nesting-zero, one_after-first, one_after-second}
use Rattle.expr_parser.proofs.Operators.{IsReader, whole_fails}
use Rattle.expr_parser.proofs.Levels.{IsWhole, judged_whole}
use Rattle.expr_parser.proofs.Primaries.{whole_took, whole_next, whole_last, whole_nested}

-- ---- one expression more at the end of a list

abbrev pub with_last : Phrases → Token → Phrase → Phrases
with_last (only p) c q = more p c (only q)
with_last (more p d ps) c q = more p d (with_last ps c q)

pub with_last-tokens : (ps : Phrases) (c : Token) (q : Phrase) → all_tokens_of (with_last ps c q) ≡ all_tokens_of ps ++ c ∷ tokens_of q
with_last-tokens (only p) c q = refl
with_last-tokens (more p d ps) c q = ap (λ x. tokens_of p ++ d ∷ x) (with_last-tokens ps c q) ∙ sym (append_assoc (tokens_of p) (d ∷ all_tokens_of ps) (c ∷ tokens_of q))

pub with_last-trees : (ps : Phrases) (c : Token) (q : Phrase) → trees_of (with_last ps c q) ≡ trees_of ps ++ tree_of q ∷ []
with_last-trees (only p) c q = refl
with_last-trees (more p d ps) c q = ap (λ x. tree_of p ∷ x) (with_last-trees ps c q)

pub with_last-are : (ps : Phrases) (c : Token) (q : Phrase) → ArePhrases ps → Is (codes ",") c → IsPhrase q → ArePhrases (with_last ps c q)
with_last-are (only p) c q h is k = (h, is, k)
with_last-are (more p d ps) c q h is k = (h.0, h.1, with_last-are ps c q h.2 is k)

pub with_last-first : (ps : Phrases) (c : Token) (q : Phrase) (n : ℕ) → n ≤ length (all_tokens_of ps) → nestings (with_last ps c q) n ≡ nestings ps n
with_last-first (only p) c q n le = one_after-first (length (tokens_of p)) (nesting p) (nestings (only q)) n le
with_last-first (more p d ps) c q n le =
    elim (cases_le n (length (tokens_of p))) [
      | inl short ↦ one_after-first (length (tokens_of p)) (nesting p) (nestings (with_last ps c q)) n short ∙ sym (one_after-first (length (tokens_of p)) (nesting p) (nestings ps) n short)
      | inr long ↦
          let r = n - length (tokens_of p) - 1 in
          let at : n ≡ length (tokens_of p) + (1 + r) = omega arith in
          let short : r ≤ length (all_tokens_of ps) = omega (arith, le, length-append (tokens_of p) (d ∷ all_tokens_of ps)) in
          let P : ℕ → Type 0 = λ x. nestings (more p d (with_last ps c q)) x ≡ nestings (more p d ps) x in
          subst P (sym at) (one_after-second (length (tokens_of p)) (nesting p) (nestings (with_last ps c q)) r ∙ with_last-first ps c q r short
          ∙ sym (one_after-second (length (tokens_of p)) (nesting p) (nestings ps) r))
    ]

pub with_last-second : (ps : Phrases) (c : Token) (q : Phrase) (m : ℕ) → nestings (with_last ps c q) (length (all_tokens_of ps) + (1 + m)) ≡ nesting q m
with_last-second (only p) c q m = one_after-second (length (tokens_of p)) (nesting p) (nestings (only q)) m
with_last-second (more p d ps) c q m =
    let at : length (all_tokens_of (more p d ps)) + (1 + m) ≡ length (tokens_of p) + (1 + (length (all_tokens_of ps) + (1 + m))) =
    omega (arith, length-append (tokens_of p) (d ∷ all_tokens_of ps)) in
    ap (nestings (more p d (with_last ps c q))) at ∙ one_after-second (length (tokens_of p)) (nesting p) (nestings (with_last ps c q)) (length (all_tokens_of ps) + (1 + m))
    ∙ with_last-second ps c q m

-- ---- the place of a list in a phrase

pub record ListPlace (least : ℕ) (i : Input) (fs : List Frame) (frame : List Expr → Frame) (j : Input) : Type 0 where
  pub before : List Token
  pub after_it : List Token
  pub wrap : Phrases → Phrase
  pub tokens : (ps : Phrases) → tokens_of (wrap ps) ≡ before ++ (all_tokens_of ps ++ after_it)
  pub grammar : (ps : Phrases) → ArePhrases ps → IsPhrase (wrap ps)
  pub fits : (ps : Phrases) → Fits least (wrap ps)
  pub nest : (ps : Phrases) (m : ℕ) → m ≤ length (all_tokens_of ps) → i.nested + nesting (wrap ps) (length before + m) ≡ j.nested + nestings ps m
  pub shallow : (ps : Phrases) (k : ℕ) → k ≤ length before → i.nested + nesting (wrap ps) k ≤ greatest_nesting
  pub took : Took i.rest j.rest before
  pub last_is : j.last ≡ i.last
  pub state : steps (wants fs) before ≡ wants (frame [] ∷ fs)
  pub is_frame : IsListFrame frame
  pub small : j.nested ≤ greatest_nesting

pub first_inner : (least : ℕ) (i : Input) (fs : List Frame) (frame : List Expr → Frame) (j : Input) → ListPlace least i fs frame j → Inner least i fs 0 j (frame [] ∷ fs)
first_inner least i fs frame j l = record {
  before = l.before;
  after_it = l.after_it;
  wrap = λ q. l.wrap (only q);
  tokens = λ q. l.tokens (only q);
  grammar = λ q h f. l.grammar (only q) h;
  fits = λ q f. l.fits (only q);
  nest = λ q m le. l.nest (only q) m le;
  shallow = λ q k le. l.shallow (only q) k le;
  took = l.took;
  last_is = l.last_is;
  state = l.state;
  holds = λ q f. l.is_frame.holds [] fs (strength q);
}

-- what was read of a list
pub record ListPart (first_ok : Token → Type 0) (fs : List Frame) (frame : List Expr → Frame) (j : Input) (found : List Expr) (k : Input) : Type 0 where
  pub phrases : Phrases
  pub in_grammar : ArePhrases phrases
  pub trees_are : trees_of phrases ≡ found
  pub took : Took j.rest k.rest (all_tokens_of phrases)
  pub last_is : k.last ≡ j.last
  pub nested_is : k.nested ≡ j.nested
  pub low : (m : ℕ) → m ≤ length (all_tokens_of phrases) → j.nested + nestings phrases m ≤ greatest_nesting
  pub fails : (t : Token) → Next k.rest t → ((x : Expr) (ys : List Expr) → (ys ≡ [] → first_ok t) → closed t x (frame ys ∷ fs) ≡ failed)
      → step t (steps (wants (frame [] ∷ fs)) (all_tokens_of phrases)) ≡ failed

-- behind a comma
comma_state : (fs : List Frame) (frame : List Expr → Frame) → IsListFrame frame → (ps : Phrases) → ArePhrases ps → (c : Token) → Is (codes ",") c
    → step c (steps (wants (frame [] ∷ fs)) (all_tokens_of ps)) ≡ wants (frame (trees_of ps) ∷ fs)
comma_state fs frame is_frame ps are c is =
    let ended = reads_list ps are frame is_frame [] fs in
    list-end c (end-comma c is) frame fs (trees_of ps) _ ended ∙ is_frame.goes_on c is ended.before fs ended.last ∙ ap (λ all. wants (frame all ∷ fs)) ended.all_are

list_parts : (a b q d : List Token) (c : Token) → a ++ ((b ++ c ∷ q) ++ d) ≡ (a ++ (b ++ c ∷ [])) ++ (q ++ d)
list_parts a b q d c =
    ap (λ x. a ++ x) (append_assoc b (c ∷ q) d ∙ sym (append_assoc b (c ∷ []) (q ++ d))) ∙ sym (append_assoc a (b ++ c ∷ []) (q ++ d))

cons_some : (x : Expr) (xs : List Expr) → x ∷ xs ≡ [] → ⊥
cons_some x xs h = cc

some_trees : (ps : Phrases) → trees_of ps ≡ [] → ⊥
some_trees (only p) h = cons_some (tree_of p) [] h
some_trees (more p c ps) h = cons_some (tree_of p) (trees_of ps) h

-- the open nesting in a list and one expression more
more_low : (first_ok : Token → Type 0) (fs : List Frame) (frame : List Expr → Frame) (j : Input) (found : List Expr) (k : Input) (p : ListPart first_ok fs frame j found k) (c : Token) (q : Phrase)
    → j.nested ≤ greatest_nesting → ((m : ℕ) → m ≤ length (tokens_of q) → j.nested + nesting q m ≤ greatest_nesting)
    → (n : ℕ) → n ≤ length (all_tokens_of p.phrases) + 1 + length (tokens_of q) → j.nested + nestings (with_last p.phrases c q) n ≤ greatest_nesting
more_low first_ok fs frame j found k p c q small high n le =
    elim (cases_le n (length (all_tokens_of p.phrases))) [
      | inl short ↦ let here = with_last-first p.phrases c q n short in let fine = p.low n short in omega (arith, here, fine)
      | inr long ↦
          let r = n - length (all_tokens_of p.phrases) - 1 in
          let at : n ≡ length (all_tokens_of p.phrases) + (1 + r) = omega arith in
          let here = with_last-second p.phrases c q r in
          let fine = high r (omega arith) in
          let P : ℕ → Type 0 = λ x. j.nested + nestings (with_last p.phrases c q) x ≤ greatest_nesting in
          subst P (sym at) (omega (arith, here, fine))
    ]

next_shallow : (first_ok : Token → Type 0) (least : ℕ) (i : Input) (fs : List Frame) (frame : List Expr → Frame) (j : Input) (l : ListPlace least i fs frame j) (found : List Expr) (k : Input)
    → (p : ListPart first_ok fs frame j found k) (c : Token) (q : Phrase) (x : ℕ) → x ≤ length l.before + (length (all_tokens_of p.phrases) + 1)
    → i.nested + nesting (l.wrap (with_last p.phrases c q)) x ≤ greatest_nesting
next_shallow first_ok least i fs frame j l found k p c q x le =
    elim (cases_le x (length l.before)) [
      | inl short ↦ l.shallow (with_last p.phrases c q) x short
      | inr long ↦
          let r = x - length l.before in
          let at : x ≡ length l.before + r = omega arith in
          let len : length (all_tokens_of (with_last p.phrases c q)) ≡ length (all_tokens_of p.phrases ++ c ∷ tokens_of q) = ap length (with_last-tokens p.phrases c q) in
          let here = l.nest (with_last p.phrases c q) r (omega (arith, len, length-append (all_tokens_of p.phrases) (c ∷ tokens_of q))) in
          let fine : j.nested + nestings (with_last p.phrases c q) r ≤ greatest_nesting =
          elim (cases_le r (length (all_tokens_of p.phrases))) [
            | inl low ↦ let first = with_last-first p.phrases c q r low in let ok = p.low r low in omega (arith, first, ok)
            | inr high ↦
                let last : r ≡ length (all_tokens_of p.phrases) + (1 + 0) = omega arith in
                let second = with_last-second p.phrases c q 0 in
                let none = nesting-zero q in
                let small = l.small in
                let P : ℕ → Type 0 = λ y. j.nested + nestings (with_last p.phrases c q) y ≤ greatest_nesting in
                subst P (sym last) (omega (arith, second, none, small))
          ] in
          let P : ℕ → Type 0 = λ y. i.nested + nesting (l.wrap (with_last p.phrases c q)) y ≤ greatest_nesting in
          subst P (sym at) (omega (arith, here, fine))
    ]

next_inner : (first_ok : Token → Type 0) (least : ℕ) (i : Input) (fs : List Frame) (frame : List Expr → Frame) (j : Input) (l : ListPlace least i fs frame j) (found : List Expr) (k : Input)
    → (p : ListPart first_ok fs frame j found k) (c : Token) → Is (codes ",") c → (m : Input) → Took k.rest m.rest (c ∷ []) → m.last ≡ k.last → m.nested ≡ k.nested
    → Inner least i fs 0 m (frame (trees_of p.phrases) ∷ fs)
next_inner first_ok least i fs frame j l found k p c is m took last count =
    let all = all_tokens_of p.phrases in
    record {
      before = l.before ++ (all ++ c ∷ []);
      after_it = l.after_it;
      wrap = λ q. l.wrap (with_last p.phrases c q);
      tokens = λ q. l.tokens (with_last p.phrases c q) ∙ ap (λ x. l.before ++ (x ++ l.after_it)) (with_last-tokens p.phrases c q) ∙ list_parts l.before all (tokens_of q) l.after_it c;
      grammar = λ q h f. l.grammar (with_last p.phrases c q) (with_last-are p.phrases c q p.in_grammar is h);
      fits = λ q f. l.fits (with_last p.phrases c q);
      nest = λ q n le.
          let at : length (l.before ++ (all ++ c ∷ [])) + n ≡ length l.before + (length all + (1 + n)) = omega (arith, length-append l.before (all ++ c ∷ []), length-append all (c ∷ [])) in
          let len : length (all_tokens_of (with_last p.phrases c q)) ≡ length (all ++ c ∷ tokens_of q) = ap length (with_last-tokens p.phrases c q) in
          ap (λ x. i.nested + nesting (l.wrap (with_last p.phrases c q)) x) at
          ∙ l.nest (with_last p.phrases c q) (length all + (1 + n)) (omega (arith, le, len, length-append all (c ∷ tokens_of q)))
          ∙ ap (λ x. j.nested + x) (with_last-second p.phrases c q n) ∙ omega (arith, count, p.nested_is);
      shallow = λ q x le.
          next_shallow first_ok least i fs frame j l found k p c q x (omega (arith, le, length-append l.before (all ++ c ∷ []), length-append all (c ∷ [])));
      took = Took-then i.rest j.rest m.rest l.before (all ++ c ∷ []) l.took (Took-then j.rest k.rest m.rest all (c ∷ []) p.took took);
      last_is = last ∙ p.last_is ∙ l.last_is;
      state = steps-append (wants fs) l.before (all ++ c ∷ []) ∙ ap (λ s. steps s (all ++ c ∷ [])) l.state ∙ steps-append (wants (frame [] ∷ fs)) all (c ∷ [])
          ∙ comma_state fs frame l.is_frame p.phrases p.in_grammar c is;
      holds = λ q f. l.is_frame.holds (trees_of p.phrases) fs (strength q);
    }

-- the list with one expression more
list_more : (first_ok : Token → Type 0) (fs : List Frame) (frame : List Expr → Frame) → IsListFrame frame → (j : Input) (found : List Expr) (k : Input) (p : ListPart first_ok fs frame j found k)
    → (c : Token) → Is (codes ",") c → Next k.rest c → (tree : Expr) (n : Input) → IsWhole (frame (trees_of p.phrases) ∷ fs) (after k) tree n
    → j.nested ≤ greatest_nesting → ListPart first_ok fs frame j (found ++ tree ∷ []) n
list_more first_ok fs frame is_frame j found k p c is c_next tree n w small =
    let g = w.good in
    let q = g.part.phrase in
    let gs = frame (trees_of p.phrases) ∷ fs in
    let all = all_tokens_of p.phrases in
    let tokens_are = with_last-tokens p.phrases c q in
    record {
      phrases = with_last p.phrases c q;
      in_grammar = with_last-are p.phrases c q p.in_grammar is g.part.in_grammar;
      trees_are = with_last-trees p.phrases c q ∙ ap (λ x. x ++ tree_of q ∷ []) p.trees_are ∙ ap (λ x. found ++ x ∷ []) g.part.tree_is;
      took = let P : List Token → Type 0 = λ ts. Took j.rest n.rest ts in
          subst P (sym tokens_are) (Took-then j.rest k.rest n.rest all (c ∷ tokens_of q) p.took
          (Took-then k.rest (after k).rest n.rest (c ∷ []) (tokens_of q) (Took-after k c c_next) (whole_took gs (after k) tree n w)));
      last_is = whole_last gs (after k) tree n w ∙ after-last k ∙ p.last_is;
      nested_is = whole_nested gs (after k) tree n w ∙ after-nested k ∙ p.nested_is;
      low = λ m le. more_low first_ok fs frame j found k p c q small (λ v v_le. let fine = g.part.shallow v v_le in omega (arith, fine, after-nested k, p.nested_is)) m
          (omega (arith, le, ap length tokens_are, length-append all (c ∷ tokens_of q)));
      fails = λ t t_next ends.
          let there = whole_next gs (after k) tree n w t t_next in
          ap (λ ts. step t (steps (wants (frame [] ∷ fs)) ts)) tokens_are ∙ ap (step t) (steps-append (wants (frame [] ∷ fs)) all (c ∷ tokens_of q))
          ∙ ap (λ s. step t (steps s (tokens_of q))) (comma_state fs frame is_frame p.phrases p.in_grammar c is)
          ∙ whole_fails (frame (trees_of p.phrases)) fs q g.part.in_grammar (is_frame.holds (trees_of p.phrases) fs (strength q)) (is_frame.rests (trees_of p.phrases) fs (tree_of q)) t
          (g.stops t there) (g.no_question refl t there) (g.part.no_select t there) (ends (tree_of q) (trees_of p.phrases) (λ none. absurd (some_trees p.phrases none)));
    }

-- a list of one
pub list_only : (first_ok : Token → Type 0) (fs : List Frame) (frame : List Expr → Frame) → IsListFrame frame → (j : Input) (tree : Expr) (k : Input) → (w : IsWhole (frame [] ∷ fs) j tree k)
    → ((t : Token) → Next k.rest t → first_ok t) → ListPart first_ok fs frame j (tree ∷ []) k
list_only first_ok fs frame is_frame j tree k w ok =
    let g = w.good in
    let q = g.part.phrase in
    record {
      phrases = only q;
      in_grammar = g.part.in_grammar;
      trees_are = ap (λ x. x ∷ []) g.part.tree_is;
      took = whole_took (frame [] ∷ fs) j tree k w;
      last_is = whole_last (frame [] ∷ fs) j tree k w;
      nested_is = whole_nested (frame [] ∷ fs) j tree k w;
      low = g.part.shallow;
      fails = λ t t_next ends.
          let there = whole_next (frame [] ∷ fs) j tree k w t t_next in
          whole_fails (frame []) fs q g.part.in_grammar (is_frame.holds [] fs (strength q)) (is_frame.rests [] fs (tree_of q)) t (g.stops t there) (g.no_question refl t there)
          (g.part.no_select t there) (ends (tree_of q) [] (λ none. ok t t_next));
    }

-- a list that no comma goes on with
pub record IsList (first_ok : Token → Type 0) (fs : List Frame) (frame : List Expr → Frame) (j : Input) (found : List Expr) (k : Input) : Type 0 where
  pub part : ListPart first_ok fs frame j found k
  pub no_comma : (t : Token) → Next k.rest t → is_this (codes ",") t ≡ false

empty_next : (ts : List Token) (t : Token) → length ts ≤ 0 → Next ts t → ⊥
empty_next [] t h is_next = cc
empty_next (u ∷ ts) t h is_next = omega arith

list_by : (top : Input) (expr : ℕ → Parser Expr) (depth : ℕ) → IsReader top expr depth → (least : ℕ) (i : Input) (fs : List Frame) → Spot top least i fs
    → (first_ok : Token → Type 0) (frame : List Expr → Frame) (j : Input) → ListPlace least i fs frame j → greatest_nesting + 1 ≤ j.nested + depth → (n : ℕ)
    → ((found : List Expr) (k : Input) → ListPart first_ok fs frame j found k → length k.rest ≤ n → Judged top (IsList first_ok fs frame j) (list_from expr n found k))
    → (found : List Expr) (k : Input) → ListPart first_ok fs frame j found k → length k.rest ≤ suc n → (c : Bool) → sees (codes ",") k ≡ c
    → Judged top (IsList first_ok fs frame j) (if c then and_then (whole expr (after k)) (λ tree. list_from expr n (found ++ tree ∷ [])) else Ok (found, k))
list_by top expr depth reader least i fs s first_ok frame j l enough n rec found k p le false h = record { part = p; no_comma = sees-no (codes ",") k h }
list_by top expr depth reader least i fs s first_ok frame j l enough n rec found k p le true h =
    let comma = sees-yes (codes ",") k h in
    let c = comma.0 in
    let gs = frame (trees_of p.phrases) ∷ fs in
    let inner = next_inner first_ok least i fs frame j l found k p c comma.1.1 (after k) (Took-after k c comma.1.0) (after-last k) (after-nested k) in
    judged_then top (IsWhole gs (after k)) (IsList first_ok fs frame j) (whole expr (after k)) (λ tree. list_from expr n (found ++ tree ∷ []))
    (judged_whole top expr depth reader (after k) gs (inside top least i fs 0 (after k) gs s inner) (omega (arith, after-nested k, p.nested_is)))
    (λ tree m w. rec (found ++ tree ∷ []) m (list_more first_ok fs frame l.is_frame j found k p c comma.1.1 comma.1.0 tree m w l.small)
    (let less = Took-shorter k.rest m.rest (tokens_of w.good.part.phrase) c
    (Took-then k.rest (after k).rest m.rest (c ∷ []) (tokens_of w.good.part.phrase) (Took-after k c comma.1.0) (whole_took gs (after k) tree m w)) in omega (arith, less, le)))

pub judged_list : (top : Input) (expr : ℕ → Parser Expr) (depth : ℕ) → IsReader top expr depth → (least : ℕ) (i : Input) (fs : List Frame) → Spot top least i fs
    → (first_ok : Token → Type 0) (frame : List Expr → Frame) (j : Input) → ListPlace least i fs frame j → greatest_nesting + 1 ≤ j.nested + depth
    → (n : ℕ) (found : List Expr) (k : Input) → ListPart first_ok fs frame j found k → length k.rest ≤ n → Judged top (IsList first_ok fs frame j) (list_from expr n found k)
unfolding list_from
judged_list top expr depth reader least i fs s first_ok frame j l enough zero found k p le =
    record { part = p; no_comma = λ t t_next. absurd (empty_next k.rest t le t_next) }
judged_list top expr depth reader least i fs s first_ok frame j l enough (suc n) found k p le =
    list_by top expr depth reader least i fs s first_ok frame j l enough n (judged_list top expr depth reader least i fs s first_ok frame j l enough n) found k p le _ refl
