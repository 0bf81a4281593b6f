-- What holds of a parser of what opens with a token.
use Rattle.std.proofs.Common.{◌≡◌, ◌∙◌, ◌≢◌, ◌⊎◌, inl, inr, ℕ, suc, ◌+◌, ◌<◌, ◌≤◌, Bool, true, false, if◌then◌else◌, List, [], ◌∷◌, ◌++◌, Option, Some, None, Ok, Err, refl, sym, ap, subst, arith, append_assoc}
use Rattle.std.proofs.lemmas.Bool.Decides.{leb_tells}
use Rattle.sv_base.specs.declared.refusal.Place.{Place}
use Rattle.sv_base.specs.declared.refusal.Refusal.{Refusal}
use Rattle.sv_lexer.specs.declared.token.Token.{Token}
use Rattle.sv_ast.specs.declared.expression.Id.{Id}
use Rattle.sv_base.specs.declared.fault.Fault.TheVariants.{Refused, NoMemory}
use Rattle.expr_parser.specs.Spelling.{is_mark}
use Rattle.expr_parser.specs.Grammar.{id_of}
use Rattle.expr_parser.specs.Nesting.{greatest_nesting}
use Rattle.expr_parser.specs.Outcome.{grammar_tokens, refusal_at, nesting_refusal}
use Rattle.expr_parser.specs.Input.{Input, Outcome, Parser, and_then, front_of, past_marks, behind, ahead, next, after, refusal, refuse, too_deep, deep_refusal, rise, take_id, id_from, ◌>>◌}
use Rattle.module_parser.specs.Rule.{Piece, Test, meets, written, deeper, AreMarked, opened}
use Rattle.module_parser.specs.Input.{comes, take_open}
use Rattle.module_parser.specs.Input as input
use Rattle.module_parser.proofs.Rules.{Family, Stop, first_of, At, Spare, Fits, Good, Opens, Nothing, Stuck, Deep, Judged, Fact}
use Rattle.module_parser.proofs.Streams.{deeper-written, deeper-append, deeper-marked, past_marks-token}
use Rattle.module_parser.proofs.Readers.{Marked, marked_front}
use Rattle.module_parser.proofs.Laws.{law_opened}

-- ---- one more open around a text

pub fits-deeper : (depth : ℕ) (xs : List Piece) → Fits (depth + 1) xs → Fits depth (deeper xs)
fits-deeper depth [] h = tt
fits-deeper depth (p ∷ xs) h = (let low = h.0 in omega (arith, low), fits-deeper depth xs h.1)

meets_by : (test : Test) (o : Option Token) → meets test o ≡ true → (t : Token) × ((o ≡ Some t) × (test t ≡ true))
meets_by test None h = absurd cc
meets_by test (Some t) h = (t, (refl, h))

-- the token that opens
abbrev head_of : (t : Token) → List Token → Piece
head_of t marks = record { marks = marks; token = t; depth = 0 }

-- ---- rules

module _ {A : Type 0} (test : Test) (fs : Id → Family A) where
  abbrev pub opens_with : Family A
  opens_with = λ k. opened test (λ x. fs x k)

  -- the token that opens, and what it opens
  pub built : (t : Token) (marks : List Token) → grammar_tokens marks ≡ [] → is_mark t.kind ≡ false → test t ≡ true → (k : ℕ) (tree : A) (xs : List Piece) (n : Option Token)
      → fs (id_of t) k tree xs n → opens_with k tree (deeper (head_of t marks ∷ xs)) n
  built t marks are none passes k tree xs n h = record {
    inner = head_of t marks ∷ xs;
    is = refl;
    inside = record {
      first = id_of t;
      front = head_of t marks ∷ [];
      back = xs;
      is = refl;
      begins = (t, record { marks = marks; are_marks = are; no_mark = none; passes = passes; is = refl }, refl);
      goes_on = h;
    };
  }

  -- such a token comes first
  opened_at : (k : ℕ) (stream : List Token) (tree : A) (text : List Piece) → At (opens_with k) stream tree text
      → (t : Token) × ((past_marks stream ≡ t ∷ behind (past_marks stream)) × (test t ≡ true) × (back : List Piece) × At (fs (id_of t) k) (behind (past_marks stream)) tree back)
  opened_at k stream tree text at =
      let o = at.reads in
      let j = o.inside in
      let t = j.begins.0 in
      let b = j.begins.1 in
      let text_is : text ≡ deeper (head_of t b.marks ∷ j.back) = o.is ∙ ap deeper (j.is ∙ ap (λ ps. ps ++ j.back) b.is) in
      let stream_is : stream ≡ b.marks ++ t ∷ (written j.back ++ at.behind) =
      at.is ∙ ap (λ ps. written ps ++ at.behind) text_is ∙ append_assoc b.marks (t ∷ written (deeper j.back)) at.behind
      ∙ ap (λ ts. b.marks ++ t ∷ (ts ++ at.behind)) (deeper-written j.back) in
      let past : past_marks stream ≡ t ∷ (written j.back ++ at.behind) = ap past_marks stream_is ∙ past_marks-token b.marks t (written j.back ++ at.behind) b.are_marks b.no_mark in
      let rest : behind (past_marks stream) ≡ written j.back ++ at.behind = ap behind past in
      let P : Id → Type 0 = λ x. fs x k tree j.back (first_of at.behind) in
      (t, (past ∙ ap (λ ts. t ∷ ts) (sym rest), b.passes, j.back, record { behind = at.behind; is = rest; reads = subst P j.begins.2 j.goes_on }))

  -- ---- how it goes on behind that token

  module _ (stop : Stop) (i : Input) (t : Token) (m : Marked i.rest t) (passes : test t ≡ true) where
    abbrev head : Piece
    head = head_of t m.marks

    abbrev within : Family A
    within = fs (id_of t)

    opens_deeper : (seen : List Piece) → Opens stop within seen → Opens stop opens_with (deeper (head ∷ seen))
    opens_deeper seen o = record {
      tree = o.tree;
      more = deeper o.more;
      marked =
          let P : List Piece → Type 0 = λ ps. AreMarked (deeper (head ∷ []) ++ ps) in
          subst P (deeper-append seen o.more) (m.none, m.no_mark, deeper-marked (seen ++ o.more) o.marked);
      least = o.least;
      reads = λ k h v stops.
          let P : List Piece → Type 0 = λ ps. opens_with k o.tree (deeper (head ∷ []) ++ ps) v in
          subst P (deeper-append seen o.more) (built t m.marks m.none m.no_mark passes k o.tree (seen ++ o.more) v (o.reads k h v stops));
    }

    opens_any : Spare stop within → (seen : List Piece) → (seen ≢ [] → Opens stop within seen) → Opens stop within seen
    opens_any s [] h = record { tree = s.tree; more = s.text; marked = s.marked; least = s.least; reads = s.reads }
    opens_any s (p ∷ seen) h = h (λ e. absurd cc)

    -- what stands behind that token
    stands : (seen : List Piece) (rest : List Token) → behind (past_marks i.rest) ≡ written seen ++ rest → i.rest ≡ written (deeper (head ∷ seen)) ++ rest
    stands seen rest h =
        m.split ∙ ap (λ ts. m.marks ++ t ∷ ts) (h ∙ ap (λ ts. ts ++ rest) (sym (deeper-written seen))) ∙ sym (append_assoc m.marks (t ∷ written (deeper seen)) rest)

    none_deeper : (seen : List Piece) (rest : List Token) → Nothing within seen rest → Nothing opens_with (deeper (head ∷ seen)) rest
    none_deeper seen rest none k more same tree text at =
        let o = opened_at k (written (deeper (head ∷ seen)) ++ more) tree text at in
        let past : past_marks (written (deeper (head ∷ seen)) ++ more) ≡ t ∷ (written seen ++ more) =
        ap past_marks (append_assoc m.marks (t ∷ written (deeper seen)) more) ∙ past_marks-token m.marks t (written (deeper seen) ++ more) m.none m.no_mark
        ∙ ap (λ ts. t ∷ (ts ++ more)) (deeper-written seen) in
        let both : o.0 ∷ behind (past_marks (written (deeper (head ∷ seen)) ++ more)) ≡ t ∷ (written seen ++ more) = sym o.1.0 ∙ past in
        let first : o.0 ≡ t = cc in
        let P : Token → List Token → Type 0 = λ x ts. At (fs (id_of x) k) ts tree o.1.2 in
        let Q : Token → Type 0 = λ x. At (fs (id_of x) k) (written seen ++ more) tree o.1.2 in
        let here : At (fs (id_of o.0) k) (written seen ++ more) tree o.1.2 = subst (P o.0) (ap behind past) o.1.3 in
        none k more same tree o.1.2 (subst Q first here)

    good_deeper : (j : Input) → j.rest ≡ behind (past_marks i.rest) → j.nested ≡ i.nested + 1 → j.last ≡ i.last → i.nested + 1 ≤ greatest_nesting
        → (tree : A) (k : Input) → Good within j tree k → Good opens_with i tree (record k { nested = i.nested })
    good_deeper j rest nested last low tree k g = record {
      text = deeper (head ∷ g.text);
      reads = (g.reads.0, λ n h. built t m.marks m.none m.no_mark passes n tree g.text (first_of k.rest) (g.reads.1 n h));
      rest_is = stands g.text k.rest (sym rest ∙ g.rest_is);
      nested_is = refl;
      last_is = g.last_is ∙ last;
      fits = (omega (arith, low), let P : ℕ → Type 0 = λ n. Fits n g.text in fits-deeper i.nested g.text (subst P nested g.fits));
    }

    stuck_deeper : (j : Input) → j.rest ≡ behind (past_marks i.rest) → j.nested ≡ i.nested + 1 → j.last ≡ i.last → i.nested + 1 ≤ greatest_nesting
        → Spare stop within → (r : Refusal) → Stuck stop within j r → Stuck stop opens_with i r
    stuck_deeper j rest nested last low spare r s = record {
      seen = deeper (head ∷ s.seen);
      rest = s.rest;
      rest_is = stands s.seen s.rest (sym rest ∙ s.rest_is);
      fits = (omega (arith, low), let P : ℕ → Type 0 = λ n. Fits n s.seen in fits-deeper i.nested s.seen (subst P nested s.fits));
      opens = λ some. opens_deeper s.seen (opens_any spare s.seen s.opens);
      none = none_deeper s.seen s.rest s.none;
      refused = s.refused ∙ ap (λ (l : Place). refusal_at l (past_marks s.rest)) last;
    }

    deep_deeper : (j : Input) → j.rest ≡ behind (past_marks i.rest) → j.nested ≡ i.nested + 1 → i.nested + 1 ≤ greatest_nesting
        → (r : Refusal) → Deep stop within j r → Deep stop opens_with i r
    deep_deeper j rest nested low r s =
        let all : deeper (head ∷ (s.seen ++ s.deep ∷ [])) ≡ deeper (head ∷ s.seen) ++ deeper (s.deep ∷ []) = deeper-append (head ∷ s.seen) (s.deep ∷ []) in
        let P : List Piece → Type 0 = λ ps. Opens stop opens_with ps in
        let Q : ℕ → Type 0 = λ n. Fits n s.seen in
        let reached = s.reached in
        record {
          seen = deeper (head ∷ s.seen);
          deep = record s.deep { depth = s.deep.depth + 1 };
          rest = s.rest;
          rest_is = stands (s.seen ++ s.deep ∷ []) s.rest (sym rest ∙ s.rest_is) ∙ ap (λ ps. written ps ++ s.rest) all;
          fits = (omega (arith, low), fits-deeper i.nested s.seen (subst Q nested s.fits));
          opens = subst P all (opens_deeper (s.seen ++ s.deep ∷ []) s.opens);
          reached = omega (arith, reached, nested);
          refused = s.refused;
        }

    -- the outcome behind that token
    finished : (j : Input) → j.rest ≡ behind (past_marks i.rest) → j.nested ≡ i.nested + 1 → j.last ≡ i.last → i.nested + 1 ≤ greatest_nesting
        → Spare stop within → (o : Outcome A) → Judged stop within j o → Judged stop opens_with i (and_then o (λ tree k. Ok (tree, record k { nested = i.nested })))
    finished j rest nested last low spare (Ok p) g = good_deeper j rest nested last low p.0 p.1 g
    finished j rest nested last low spare (Err (Refused r)) (inl s) = inl (stuck_deeper j rest nested last low spare r s)
    finished j rest nested last low spare (Err (Refused r)) (inr s) = inr (deep_deeper j rest nested low r s)
    finished j rest nested last low spare (Err NoMemory) h = h

    -- that token nests too deep
    too_deep_at : Spare stop within → greatest_nesting < suc i.nested → i.nested ≤ greatest_nesting → Deep stop opens_with i (nesting_refusal t)
    too_deep_at spare high low = record {
      seen = [];
      deep = record head { depth = 1 };
      rest = behind (past_marks i.rest);
      rest_is = stands [] (behind (past_marks i.rest)) refl;
      fits = tt;
      opens = opens_deeper [] (opens_any spare [] (λ h. absurd (h refl)));
      reached = omega (arith, high, low);
      refused = refl;
    }

  deep-next : (last : Place) (a : List Token) (t : Token) → front_of a ≡ Some t → deep_refusal last a ≡ nesting_refusal t
  deep-next last [] t h = absurd cc
  deep-next last (u ∷ a) t h = let same : u ≡ t = cc in ap nesting_refusal same

  -- no such token comes
  refused_at : (stop : Stop) (i : Input) → meets test (first_of i.rest) ≡ false → Stuck stop opens_with i (refusal_at i.last (past_marks i.rest))
  refused_at stop i not_it = record {
    seen = [];
    rest = i.rest;
    rest_is = refl;
    fits = tt;
    opens = λ some. absurd (some refl);
    none = λ k more same tree text at.
        let o = opened_at k more tree text at in
        let first : meets test (first_of more) ≡ true = ap (λ ts. meets test (front_of ts)) o.1.0 ∙ o.1.1 in
        let other : meets test (first_of more) ≡ false = ap (meets test) same ∙ not_it in
        absurd cc;
    refused = refl;
  }

  -- ---- the parser

  module _ (floor : ℕ) (stop : Stop) (f : Id → Parser A) (facts : (x : Id) → Fact (floor + 1) stop (fs x) (f x)) where
    abbrev closing : Input → Id → Parser A
    closing i x = λ j. and_then (f x j) (λ tree k. Ok (tree, record k { nested = i.nested }))

    after_open : (i : Input) → floor ≤ i.nested → i.nested + 1 ≤ greatest_nesting → (t : Token) → first_of i.rest ≡ Some t → test t ≡ true
        → Judged stop opens_with i (and_then (take_id (record i { nested = i.nested + 1 })) (closing i))
    unfolding take_id next ahead after
    after_open i above low t first passes =
        let j : Input = record { rest = behind (past_marks i.rest); nested = i.nested + 1; last = i.last } in
        let P : Option Token → Type 0 = λ o. Judged stop opens_with i (and_then (id_from o (record i { nested = i.nested + 1 })) (closing i)) in
        subst P (sym first)
        (finished stop i t (marked_front i.rest t first) passes j refl refl refl low (facts (id_of t)).spare (f (id_of t) j) ((facts (id_of t)).judged j (omega (arith, above)) low))

    with_room : (i : Input) → floor ≤ i.nested → i.nested ≤ greatest_nesting → (t : Token) → first_of i.rest ≡ Some t → test t ≡ true
        → (c : Bool) → ((c ≡ true) × (suc i.nested ≤ greatest_nesting)) ⊎ ((c ≡ false) × (greatest_nesting < suc i.nested))
        → Judged stop opens_with i (and_then (and_then (if c then Ok (tt {0}, record i { nested = i.nested + 1 }) else Err (too_deep i)) (λ _. take_id)) (closing i))
    unfolding too_deep ahead
    with_room i above low t first passes true (inl h) = after_open i above (omega (arith, h.1)) t first passes
    with_room i above low t first passes true (inr h) = absurd cc
    with_room i above low t first passes false (inl h) = absurd cc
    with_room i above low t first passes false (inr h) =
        let P : Refusal → Type 0 = λ r. Deep stop opens_with i r in
        inr (subst P (sym (deep-next i.last (past_marks i.rest) t first)) (too_deep_at stop i t (marked_front i.rest t first) passes (facts (id_of t)).spare h.1 low))

    by_test : (i : Input) → floor ≤ i.nested → i.nested ≤ greatest_nesting → (c : Bool) → meets test (first_of i.rest) ≡ c
        → Judged stop opens_with i (and_then (if c then (rise >> take_id) i else refuse i) (closing i))
    unfolding rise refusal ahead
    by_test i above low true h =
        let t = meets_by test (first_of i.rest) h in with_room i above low t.0 t.1.0 t.1.1 _ (leb_tells (suc i.nested) greatest_nesting)
    by_test i above low false h = inl (refused_at stop i h)

    pub judged_opened : (i : Input) → floor ≤ i.nested → i.nested ≤ greatest_nesting → Judged stop opens_with i (input.opened test f i)
    unfolding take_open comes next ahead
    judged_opened i above low = by_test i above low (meets test (first_of i.rest)) refl

unfoldable pub fact_opened : {A : Type 0} (floor : ℕ) (stop : Stop) (test : Test) (token : Token) → is_mark token.kind ≡ false → test token ≡ true → (fs : Id → Family A) (f : Id → Parser A)
    → ((x : Id) → Fact (floor + 1) stop (fs x) (f x)) → Fact floor stop (λ k. opened test (λ x. fs x k)) (input.opened test f)
fact_opened floor stop test token no_mark passes fs f facts =
    let spare = (facts (id_of token)).spare in
    record {
      law = λ n k. law_opened stop test (λ x. fs x n) (λ x. fs x k) (λ x. (facts x).law n k);
      spare = record {
        tree = spare.tree;
        text = deeper (head_of token [] ∷ spare.text);
        marked = (refl, no_mark, deeper-marked spare.text spare.marked);
        least = spare.least;
        reads = λ k h v stops. built test fs token [] refl no_mark passes k spare.tree spare.text v (spare.reads k h v stops);
      };
      judged = judged_opened test fs floor stop f facts;
    }
