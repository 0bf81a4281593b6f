-- The lines of bytes that were read one after another.
use Rattle.std.proofs.Common.{◌≡◌, ℕ, suc, ◌+◌, ◌<◌, ◌≤◌, Bool, true, false, ◌==◌, List, [], ◌∷◌, ◌++◌, length, refl, sym, ap, subst, ◌∙◌, arith, append-nil, append_assoc, length-append, Option, None, Some}
use Rattle.std.proofs.lemmas.Bool.Decides.{nat_tests}
use Rattle.stimulus_reader.specs.declared.reason.Reason.TheVariants.{LineTooLong, FileTooLong}
use Rattle.stimulus_reader.specs.declared.found.Found.{Found}
use Rattle.stimulus_reader.specs.declared.found.Found.TheVariants as found
use Rattle.stimulus_reader.specs.declared.found.Turn.TheVariants as turn
use Rattle.stimulus_reader.specs.Stimulus.{Line, onto_line, lines_of, span, limit_of}
use Rattle.stimulus_reader.specs.code.LineSource.{Ahead, MayCome, Goes, TakesSo, IsOpenLine, IsNextAhead, IsNextByte, HasNoLf, IsTurn, IsFound}
use Rattle.stimulus_reader.specs.declared.found.TheConstants.{LINE_LIMIT, FILE_LIMIT}
use Rattle.stimulus_reader.proofs.StimulusLines.{all_more_fit}
use Rattle.io_edge.specs.Told.{Took, took_both, took_nothing}

-- ---- what is taken

come_after : (y z : Ahead) (taken rest : List ℕ) → (y.over ≡ true → (taken ≡ []) × (z.over ≡ true)) → MayCome z rest → MayCome y (taken ++ rest)
come_after y z taken rest ends come is =
    let none = ends is in
    ap (λ (xs : List ℕ). xs ++ rest) none.0 ∙ come none.1

goes_after : (P Q R : List ℕ → List ℕ → Type 0) (x y z : Ahead) (t u : List ℕ) → ((xs ys zs : List ℕ) → P xs ys → Q ys zs → R xs zs) → Goes x y t P → Goes y z u Q → Goes x z (t ++ u) R
goes_after P Q R x y z t u joins p q = record {
  ends = λ is.
      let first = p.ends is in
      let second = q.ends first.1 in
      (ap (λ (xs : List ℕ). xs ++ u) first.0 ∙ second.0, second.1);
  holds = λ rest come.
      joins (x.bytes ++ ((t ++ u) ++ rest)) (y.bytes ++ (u ++ rest)) (z.bytes ++ rest)
      (subst (λ (xs : List ℕ). P (x.bytes ++ xs) (y.bytes ++ (u ++ rest))) (sym (append_assoc t u rest)) (p.holds (u ++ rest) (come_after y z u rest q.ends come)))
      (q.holds rest come);
}

-- bytes that are taken, and then others, are taken together
pub takes_after : (P Q R : List ℕ → List ℕ → Type 0) (a b c : Option (List ℕ)) (x y z : Ahead) → ((xs ys zs : List ℕ) → P xs ys → Q ys zs → R xs zs) → TakesSo a b x y P → TakesSo b c y z Q → TakesSo a c x z R
takes_after P Q R a b c x y z joins p q = (p.0 ++ q.0, took_both a b c p.0 q.0 p.1 q.1, goes_after P Q R x y z p.0 q.0 joins p.2 q.2)

pub goes_as : (P Q : List ℕ → List ℕ → Type 0) (x y : Ahead) (taken : List ℕ) → ((xs ys : List ℕ) → P xs ys → Q xs ys) → Goes x y taken P → Goes x y taken Q
goes_as P Q x y taken as_well p = record { ends = p.ends; holds = λ rest come. as_well (x.bytes ++ (taken ++ rest)) (y.bytes ++ rest) (p.holds rest come) }

-- nothing is taken, and the line is as it was
pub takes_none : (a : Option (List ℕ)) (x : Ahead) (line : List ℕ) → TakesSo a a x x (λ bytes rest. line ++ bytes ≡ line ++ rest)
takes_none a x line = ([], took_nothing a, record { ends = λ is. (refl, is); holds = λ rest come. refl })

-- one byte more is in the line
pub takes_byte : (a b c : Option (List ℕ)) (x y z : Ahead) (at n : ℕ) (old line : List ℕ) (next : Option ℕ) (byte : ℕ) → TakesSo a b x y (λ bytes rest. old ++ bytes ≡ line ++ rest) → TakesSo b c y z (IsNextByte next) → IsTurn at n next (turn.More byte) → TakesSo a c x z (λ bytes rest. old ++ bytes ≡ (line ++ byte ∷ []) ++ rest)
takes_byte a b c x y z at n old line None byte so_far next is_turn = absurd is_turn
takes_byte a b c x y z at n old line (Some first) byte so_far next is_turn =
    takes_after (λ bytes rest. old ++ bytes ≡ line ++ rest) (IsNextByte (Some first)) (λ bytes rest. old ++ bytes ≡ (line ++ byte ∷ []) ++ rest) a b c x y z
    (λ us vs ws p q. p ∙ ap (λ (xs : List ℕ). line ++ xs) q ∙ ap (λ (b : ℕ). line ++ b ∷ ws) (sym is_turn.0) ∙ sym (append_assoc line (byte ∷ []) ws)) so_far next

pub open_more : (at n : ℕ) (line : List ℕ) (next : Option ℕ) (byte : ℕ) → IsOpenLine at line → n ≡ length line → IsTurn at n next (turn.More byte) → IsOpenLine at (line ++ byte ∷ [])
open_more at n line None byte front n_is is_turn = absurd is_turn
open_more at n line (Some first) byte front n_is is_turn =
    let long = length-append line (byte ∷ []) in
    let short : n < LINE_LIMIT = is_turn.2 in
    let early : at + n < FILE_LIMIT = is_turn.3 in
    record {
      no_lf = all_more_fit (λ (b : ℕ). (b == 10) ≡ false) line byte front.no_lf (subst (λ (b : ℕ). (b == 10) ≡ false) (sym is_turn.0) is_turn.1);
      in_line = omega arith;
      in_file = omega arith;
    }

-- ---- the next byte

-- a byte that was taken before
pub byte_ahead : (a : Option (List ℕ)) (x z : Ahead) (byte : ℕ) → IsNextAhead (Some byte) x z → TakesSo a a x z (IsNextByte (Some byte))
byte_ahead a x z byte next = ([], took_nothing a, record { ends = λ is. (refl, next.1 ∙ is); holds = λ rest come. ap (λ (xs : List ℕ). xs ++ rest) next.0 })

-- no byte is left, and none comes
pub byte_over : (a : Option (List ℕ)) (x z : Ahead) (byte : Option ℕ) → x.bytes ≡ [] → x.over ≡ true → IsNextAhead byte x z → TakesSo a a x z (IsNextByte byte)
byte_over a x z (Some byte) none over next = byte_ahead a x z byte next
byte_over a x z None none over next =
    let same : z.over ≡ x.over = ap (λ (y : Ahead). y.over) next.1 in
    let empty : z.bytes ≡ [] = ap (λ (y : Ahead). y.bytes) next.1 ∙ none in
    ([], took_nothing a, record { ends = λ is. (refl, same ∙ is); holds = λ rest come. let rest_none = come (same ∙ over) in (ap (λ (xs : List ℕ). xs ++ rest) none ∙ rest_none, ap (λ (xs : List ℕ). xs ++ rest) empty ∙ rest_none) })

-- the first byte of a piece, or its end
pub byte_taken : (a b : Option (List ℕ)) (x y z : Ahead) (byte : Option ℕ) → x.bytes ≡ [] → x.over ≡ false → Took a b y.bytes → (y.bytes ≡ [] → y.over ≡ true) → IsNextAhead byte y z → TakesSo a b x z (IsNextByte byte)
byte_taken a b x y z (Some byte) none open_is took some next =
    (y.bytes, took, record { ends = λ is. absurd (cc); holds = λ rest come. ap (λ (xs : List ℕ). xs ++ (y.bytes ++ rest)) none ∙ ap (λ (xs : List ℕ). xs ++ rest) next.0 })
byte_taken a b x y z None none open_is took some next =
    let same : z.over ≡ y.over = ap (λ (y : Ahead). y.over) next.1 in
    let empty : z.bytes ≡ [] = ap (λ (y : Ahead). y.bytes) next.1 ∙ next.0 in (
      y.bytes,
      took,
      record {
        ends = λ is. absurd (cc);
        holds = λ rest come.
            let rest_none = come (same ∙ some next.0) in
            (ap (λ (xs : List ℕ). xs ++ (y.bytes ++ rest)) none ∙ ap (λ (xs : List ℕ). xs ++ rest) next.0 ∙ rest_none, ap (λ (xs : List ℕ). xs ++ rest) empty ∙ rest_none);
      },
    )

-- ---- lines

lf_line : (xs rest : List ℕ) → HasNoLf xs → lines_of (xs ++ 10 ∷ rest) ≡ record { text = xs; ended = true } ∷ lines_of rest
lf_line [] rest none = refl
lf_line (x ∷ xs) rest none = rw none.0 (ap (onto_line x) (lf_line xs rest none.1))

last_line : (x : ℕ) (xs : List ℕ) → HasNoLf (x ∷ xs) → lines_of (x ∷ xs) ≡ record { text = x ∷ xs; ended = false } ∷ []
last_line x [] none = rw none.0 refl
last_line x (y ∷ xs) none = rw none.0 (ap (onto_line x) (last_line y xs none.1))

-- a line begins with bytes among which is no LF
pub record LongLine (bytes : List ℕ) (n : ℕ) : Type 0 where
  pub line : Line
  pub lines : List Line
  pub is : lines_of bytes ≡ line ∷ lines
  pub long : n ≤ length line.text

onto_long : (x : ℕ) (xs : List ℕ) (n : ℕ) → (x == 10) ≡ false → LongLine xs n → LongLine (x ∷ xs) (suc n)
onto_long x xs n other line = record { line = record { text = x ∷ line.line.text; ended = line.line.ended }; lines = line.lines; is = rw other (ap (onto_line x) line.is); long = let long = line.long in omega arith }

first_long : (x : ℕ) (rest : List ℕ) → (x == 10) ≡ false → (lines : List Line) → lines_of rest ≡ lines → LongLine (x ∷ rest) 1
first_long x rest other [] is = record { line = record { text = x ∷ []; ended = false }; lines = []; is = rw other (ap (onto_line x) is); long = omega arith }
first_long x rest other (line ∷ lines) is = record { line = record { text = x ∷ line.text; ended = line.ended }; lines = lines; is = rw other (ap (onto_line x) is); long = omega arith }

long_line : (xs rest : List ℕ) (b : ℕ) → HasNoLf xs → (b == 10) ≡ false → LongLine (xs ++ b ∷ rest) (suc (length xs))
long_line [] rest b none other = first_long b rest other (lines_of rest) refl
long_line (x ∷ xs) rest b none other = onto_long x (xs ++ b ∷ rest) (suc (length xs)) none.0 (long_line xs rest b none.1 other)

-- ---- limits

limit_line : (at : ℕ) (line : Line) → LINE_LIMIT < length line.text → at + LINE_LIMIT ≤ FILE_LIMIT → limit_of at line ≡ Some LineTooLong
limit_line at line long early = grind (arith, nat_tests)

limit_none : (at : ℕ) (line : Line) → length line.text ≤ LINE_LIMIT → at + span line ≤ FILE_LIMIT → limit_of at line ≡ None
limit_none at line short early = grind (arith, nat_tests)

limit_file : (at : ℕ) (line : Line) → length line.text ≤ LINE_LIMIT → FILE_LIMIT < at + span line → limit_of at line ≡ Some FileTooLong
limit_file at line short late = grind (arith, nat_tests)

limit_late : (at : ℕ) (line : Line) → FILE_LIMIT < at + LINE_LIMIT → FILE_LIMIT < at + span line → limit_of at line ≡ Some FileTooLong
limit_late at line late past = grind (arith, nat_tests)

-- ---- what the next byte makes of a line

over_file : (at : ℕ) (line rest : List ℕ) (b : ℕ) (lf : Bool) → (b == 10) ≡ lf → HasNoLf line → length line ≤ LINE_LIMIT → at + length line ≡ FILE_LIMIT → (length line ≡ LINE_LIMIT → b ≡ 10) → IsFound at line (found.Long FileTooLong) (line ++ b ∷ rest) rest
over_file at line rest b true is none short full last =
    let ten : b ≡ 10 = grind (arith, nat_tests) in
    let whole : Line = record { text = line; ended = true } in
    (whole, lines_of rest, subst (λ c. lines_of (line ++ c ∷ rest) ≡ whole ∷ lines_of rest) (sym ten) (lf_line line rest none), limit_file at whole short (omega arith))
over_file at line rest b false is none short full last =
    let l = long_line line rest b none is in
    let long : suc (length line) ≤ length l.line.text = l.long in
    let apart : length line ≡ LINE_LIMIT → ⊥ = λ e. let ten : b ≡ 10 = last e in let yes : (b == 10) ≡ true = grind (arith, nat_tests) in absurd (cc) in
    (l.line, l.lines, l.is, limit_late at l.line (omega arith) (omega arith))

over_line : (at : ℕ) (line rest : List ℕ) (b : ℕ) → (b == 10) ≡ false → HasNoLf line → length line ≡ LINE_LIMIT → at + length line ≤ FILE_LIMIT → IsFound at line (found.Long LineTooLong) (line ++ b ∷ rest) rest
over_line at line rest b is none full early =
    let l = long_line line rest b none is in
    let long : suc (length line) ≤ length l.line.text = l.long in
    (l.line, l.lines, l.is, limit_line at l.line (omega arith) (omega arith))

at_end : (at : ℕ) (line : List ℕ) → HasNoLf line → 0 < length line → length line ≤ LINE_LIMIT → at + length line ≤ FILE_LIMIT → IsFound at line (found.Line false) line []
at_end at [] none some short early = absurd (omega arith)
at_end at (x ∷ xs) none some short early = (last_line x xs none, limit_none at (record { text = x ∷ xs; ended = false }) short (omega arith))

at_lf : (at : ℕ) (line rest : List ℕ) → HasNoLf line → length line ≤ LINE_LIMIT → at + length line < FILE_LIMIT → IsFound at line (found.Line true) (line ++ 10 ∷ rest) rest
at_lf at line rest none short early = (lf_line line rest none, limit_none at (record { text = line; ended = true }) short (omega arith))

-- no byte and none to come
at_none : (line : List ℕ) → length line ≡ 0 → line ++ [] ≡ []
at_none [] none = refl
at_none (x ∷ xs) none = absurd (omega arith)

found_after : (at : ℕ) (line : List ℕ) (byte : Option ℕ) (what : Found) → HasNoLf line → length line ≤ LINE_LIMIT → at + length line ≤ FILE_LIMIT → IsTurn at (length line) byte (turn.Done what) → (x y z : List ℕ) → x ≡ line ++ y → IsNextByte byte y z → IsFound at line what x z
found_after at line None found.End none short early turn x y z read next =
    read ∙ ap (λ (ys : List ℕ). line ++ ys) next.0 ∙ at_none line turn
found_after at line None (found.Line over) none short early turn x y z read next =
    let whole : line ≡ x = sym (read ∙ ap (λ (ys : List ℕ). line ++ ys) next.0 ∙ append-nil line) in
    subst (λ (e : Bool). IsFound at line (found.Line e) x z) (sym turn.0)
    (subst (λ (zs : List ℕ). IsFound at line (found.Line false) x zs) (sym next.1)
    (subst (λ (xs : List ℕ). IsFound at line (found.Line false) xs []) whole (at_end at line none turn.1 short early)))
found_after at line None (found.Long reason) none short early turn x y z read next = absurd turn
found_after at line (Some b) found.End none short early turn x y z read next = absurd turn
found_after at line (Some b) (found.Line over) none short early turn x y z read next =
    let whole : line ++ 10 ∷ z ≡ x = sym (read ∙ ap (λ (ys : List ℕ). line ++ ys) next ∙ ap (λ c. line ++ c ∷ z) turn.1) in
    subst (λ (e : Bool). IsFound at line (found.Line e) x z) (sym turn.0)
    (subst (λ (xs : List ℕ). IsFound at line (found.Line true) xs z) whole (at_lf at line z none short turn.2))
found_after at line (Some b) (found.Long LineTooLong) none short early turn x y z read next =
    subst (λ (xs : List ℕ). IsFound at line (found.Long LineTooLong) xs z) (sym (read ∙ ap (λ (ys : List ℕ). line ++ ys) next)) (over_line at line z b turn.0 none turn.1 early)
found_after at line (Some b) (found.Long FileTooLong) none short early turn x y z read next =
    subst (λ (xs : List ℕ). IsFound at line (found.Long FileTooLong) xs z) (sym (read ∙ ap (λ (ys : List ℕ). line ++ ys) next)) (over_file at line z b (b == 10) refl none short turn.0 turn.1)
found_after at line (Some b) (found.Long reason) none short early turn x y z read next = absurd turn

-- what a line that goes on behind bytes that were read before comes to
pub found_in : (a b c : Option (List ℕ)) (x y z : Ahead) (at n : ℕ) (old line : List ℕ) (byte : Option ℕ) (what : Found) → TakesSo a b x y (λ bytes rest. old ++ bytes ≡ line ++ rest) → TakesSo b c y z (IsNextByte byte) → HasNoLf line → length line ≤ LINE_LIMIT → at + length line ≤ FILE_LIMIT → n ≡ length line → IsTurn at n byte (turn.Done what) → TakesSo a c x z (λ bytes rest. IsFound at line what (old ++ bytes) rest)
found_in a b c x y z at n old line byte what before next none short early n_is is_turn =
    let so : IsTurn at (length line) byte (turn.Done what) = subst (λ (m : ℕ). IsTurn at m byte (turn.Done what)) n_is is_turn in
    takes_after (λ bytes rest. old ++ bytes ≡ line ++ rest) (IsNextByte byte) (λ bytes rest. IsFound at line what (old ++ bytes) rest) a b c x y z (λ us vs ws p q. found_after at line byte what none short early so (old ++ us) vs ws p q) before next

-- at the end the line has no byte
pub none_at_end : (at n : ℕ) (line : List ℕ) (byte : Option ℕ) → n ≡ length line → IsTurn at n byte (turn.Done found.End) → line ≡ []
none_at_end at n [] byte n_is turn = refl
none_at_end at n (b ∷ line) None n_is turn = let zero_is : n ≡ 0 = turn in absurd (omega arith)
none_at_end at n (b ∷ line) (Some c) n_is turn = absurd turn
