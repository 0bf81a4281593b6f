-- Each number and each fill that the lexer gives means something.
use Rattle.std.specs.Prelude.{◌≡◌, ◌⊎◌, ℕ, ◌+◌, ◌%◌, ◌^◌, ◌<◌, Bool, true, false, cond, not, ◌&&◌, ◌==◌, nat_lt, nat_le, is_some, IsSome, List, [], ◌∷◌, ◌++◌, length, drop, position, Option, None, Some, if◌then◌else◌}
use Rattle.std.specs.List.{AllByRecursion, cons_option, position_or_len}
use Rattle.std.proofs.Common.{refl, sym, subst, ap, ◌∙◌, inl, inr, arith, append_assoc, length-append}
use Rattle.std.proofs.Math.Seq.{take-append_seam, drop-append-add}
use Rattle.std.proofs.lemmas.Bool.{true≢false, eqb-true, eqb-false, or_left, or_cases, or_parts, and_from, ltb-false, leb-false, lt-ltb, le-ltb, le-leb}
use Rattle.bit_ops.specs.declared.value.TheConstants.{MAX_WIDTH}
use Rattle.bit_ops.specs.Width.{IsWidth}
use Rattle.sv_base.specs.declared.kind.Kind.{Kind}
use Rattle.sv_base.specs.declared.kind.Kind.TheVariants as kind
use Rattle.sv_lexer.specs.declared.form.Base.{Base}
use Rattle.sv_lexer.specs.declared.form.Form.{Form}
use Rattle.sv_lexer.specs.declared.form.Form.TheVariants as form
use Rattle.sv_lexer.specs.declared.token.Token.{Token}
use Rattle.sv_lexer.specs.Bytes.{is_decimal_byte, radix, spelled, line_ends, Each}
use Rattle.sv_lexer.specs.Piece.{IsDecimal, IsBased, base_of, has_bad_digits, decimal_fault, width_fault, based_fault, named, HasForm, FaultOf}
use Rattle.sv_lexer.specs.Cutting.{Piece, CutsTo, IsTokens, kind_of, token_of, tokens_of}
use Rattle.const_eval.specs.Literal.{Literal, is_width, cut_to, in_base, with_base, is_sign_letter, behind_quote, size_of, number_at, number_of}
use Rattle.const_eval.specs.Tokens.{HasMeaning}

-- ---- the first quote

no_quote_byte : (b : ℕ) → is_decimal_byte b ≡ true → (b == 39) ≡ false
no_quote_byte b h = go (b == 39) refl
  where
    go : (c : Bool) → (b == 39) ≡ c → (b == 39) ≡ false
    go true e = absurd (true≢false (sym h ∙ ap is_decimal_byte (eqb-true b 39 e)))
    go false e = e

-- no quote among digits
past_all : (bs : List ℕ) → Each is_decimal_byte bs → position_or_len (λ b. b == 39) bs ≡ length bs
past_all [] h = refl
past_all (b ∷ bs) h =
    let one_more : 1 + length bs ≡ length (b ∷ bs) = omega arith in
    ap (λ (c : Bool). cond (not c) (1 + position_or_len (λ b. b == 39) bs) 0) (no_quote_byte b h.0) ∙ ap (λ n. 1 + n) (past_all bs h.1) ∙ one_more

no_quote : (bs : List ℕ) → Each is_decimal_byte bs → position (λ b. b == 39) bs ≡ None
no_quote bs h =
    ap (λ n. cond (nat_lt n (length bs)) (Some n) None) (past_all bs h) ∙ ap (λ (c : Bool). cond c (Some (length bs)) None)
    (le-ltb (length bs) (length bs) (omega arith))

-- the first quote behind digits
past_digits : (size rest : List ℕ) → Each is_decimal_byte size → position_or_len (λ b. b == 39) (size ++ 39 ∷ rest) ≡ length size
past_digits [] rest h = refl
past_digits (b ∷ bs) rest h =
    let one_more : 1 + length bs ≡ length (b ∷ bs) = omega arith in
    ap (λ (c : Bool). cond (not c) (1 + position_or_len (λ b. b == 39) (bs ++ 39 ∷ rest)) 0) (no_quote_byte b h.0) ∙ ap (λ n. 1 + n)
    (past_digits bs rest h.1) ∙ one_more

quote_after : (size rest : List ℕ) → Each is_decimal_byte size → position (λ b. b == 39) (size ++ 39 ∷ rest) ≡ Some (length size)
quote_after size rest h =
    let long : length (size ++ 39 ∷ rest) ≡ length size + length (39 ∷ rest) = length-append size (39 ∷ rest) in
    ap (λ n. cond (nat_lt n (length (size ++ 39 ∷ rest))) (Some n) None) (past_digits size rest h)
    ∙ ap (λ (c : Bool). cond c (Some (length size)) None) (lt-ltb (length size) (length (size ++ 39 ∷ rest)) (omega arith))

all_decimal : (bs : List ℕ) → IsDecimal bs → Each is_decimal_byte bs
all_decimal [] h = absurd h
all_decimal (b ∷ bs) h = (or_left _ _ h.0, h.1)

size_decimal : (size : List ℕ) → (size ≡ []) ⊎ IsDecimal size → Each is_decimal_byte size
size_decimal size (inl none) = subst (λ (bs : List ℕ). Each is_decimal_byte bs) (sym none) tt
size_decimal size (inr h) = all_decimal size h

-- what stands behind the quote counts, with the size in front
quote_splits : (size rest : List ℕ) → Each is_decimal_byte size → number_of (size ++ 39 ∷ rest) ≡ behind_quote (size_of size) rest
quote_splits size rest h =
    ap (λ q. number_at q (size ++ 39 ∷ rest)) (quote_after size rest h)
    ∙ ap (λ (s : List ℕ). behind_quote (size_of s) (drop (length size + 1) (size ++ 39 ∷ rest))) (take-append_seam size (39 ∷ rest))
    ∙ ap (λ (t : List ℕ). behind_quote (size_of size) t) (drop-append-add size (39 ∷ rest) 1)

-- ---- digits

-- digits are cut to a size
cut_some : (size : ℕ) (signed : Bool) (r : ℕ) (digits : List ℕ) → IsWidth size → spelled r digits < 2 ^ MAX_WIDTH → IsSome (cut_to size signed r digits)
cut_some size signed r digits width small =
    let fits : (is_width size && nat_lt (spelled r digits) (2 ^ MAX_WIDTH)) ≡ true =
    and_from (is_width size) (nat_lt (spelled r digits) (2 ^ MAX_WIDTH))
    (and_from (nat_le 1 size) (nat_le size MAX_WIDTH) (le-leb 1 size width.0) (le-leb size MAX_WIDTH width.1))
    (lt-ltb (spelled r digits) (2 ^ MAX_WIDTH) small) in
    let l : Literal = record { size = size; signed = signed; word = spelled r digits % 2 ^ size } in
    ap (λ (c : Bool). is_some {T = Literal} (if c then Some l else None)) fits

digits_fit : (base : Base) (digits : List ℕ) → has_bad_digits base digits ≡ false → spelled (radix base) digits < 2 ^ MAX_WIDTH
digits_fit base [] h = absurd (true≢false h)
digits_fit base (d ∷ ds) h = leb-false (2 ^ MAX_WIDTH) (spelled (radix base) (d ∷ ds)) (or_parts _ _ h).1

-- no fault
none_of : (b : Bool) (k : Kind) (o : Option Kind) → (if b then Some k else o) ≡ None → (b ≡ false) × (o ≡ None)
none_of true k o h = absurd cc
none_of false k o h = (refl, h)

unnamed : (piece : List ℕ) (o : Option Kind) → None ≡ named piece o → o ≡ None
unnamed piece None h = refl
unnamed piece (Some k) h = absurd cc

width_found : (size : List ℕ) (base : Base) (digits : List ℕ) → width_fault size base digits ≡ None → IsWidth (size_of size)
width_found [] base digits h = (omega arith, omega arith)
width_found (b ∷ bs) base digits h =
    let p = none_of (spelled 10 (b ∷ bs) == 0) kind.BadNumber (if nat_lt MAX_WIDTH (spelled 10 (b ∷ bs)) then Some kind.TooWide else None) h in
    let q = none_of (nat_lt MAX_WIDTH (spelled 10 (b ∷ bs))) kind.TooWide None p.1 in
    let some = eqb-false (spelled 10 (b ∷ bs)) 0 p.0 in
    (omega arith, ltb-false MAX_WIDTH (spelled 10 (b ∷ bs)) q.0)

-- ---- numbers

decimal_some : (piece : List ℕ) → IsDecimal piece → None ≡ named piece (decimal_fault piece) → IsSome (number_of piece)
decimal_some piece h allowed =
    let p = none_of (nat_lt 2147483647 (spelled 10 piece)) kind.BadNumber None (unnamed piece (decimal_fault piece) allowed) in
    let most = ltb-false 2147483647 (spelled 10 piece) p.0 in
    subst (λ (quote : Option ℕ). IsSome (number_at quote piece)) (sym (no_quote piece (all_decimal piece h)))
    (cut_some 32 true 10 piece (omega arith, omega arith) (omega arith))

-- a base letter is no `s`
no_sign_letter : (letter : ℕ) (base : Base) → base_of letter ≡ Some base → is_sign_letter letter ≡ false
no_sign_letter letter base h = go (is_sign_letter letter) refl
  where
    other : (letter ≡ 115) ⊎ (letter ≡ 83) → ⊥
    other (inl e) = (let clash : base_of 115 ≡ Some base = ap base_of (sym e) ∙ h in absurd cc)
    other (inr e) = (let clash : base_of 83 ≡ Some base = ap base_of (sym e) ∙ h in absurd cc)

    which : ((letter == 115) ≡ true) ⊎ ((letter == 83) ≡ true) → (letter ≡ 115) ⊎ (letter ≡ 83)
    which (inl e) = inl (eqb-true letter 115 e)
    which (inr e) = inr (eqb-true letter 83 e)

    go : (c : Bool) → is_sign_letter letter ≡ c → is_sign_letter letter ≡ false
    go true e = absurd (other (which (or_cases (letter == 115) (letter == 83) e)))
    go false e = e

with_base_some : (size : ℕ) (signed : Bool) (letter : ℕ) (base : Base) (digits : List ℕ) → base_of letter ≡ Some base → IsWidth size → spelled
    (radix base) digits < 2 ^ MAX_WIDTH
    → IsSome (with_base size signed (letter ∷ digits))
with_base_some size signed letter base digits h width small =
    subst (λ (found : Option Base). IsSome (in_base size signed found digits)) (sym h) (cut_some size signed (radix base) digits width small)

based_some : (piece size : List ℕ) (base : Base) (digits : List ℕ) → IsBased piece size base digits → based_fault size base digits ≡ None → IsSome
    (number_of piece)
based_some piece size base digits is allowed = by_head is.head_form.2
  where
    p : (has_bad_digits base digits ≡ false) × (width_fault size base digits ≡ None)
    p = none_of (has_bad_digits base digits) kind.BadNumber (width_fault size base digits) allowed

    letter : ℕ
    letter = is.head_form.0

    -- the piece with this head, cut at its quote
    cut_at : (tail : List ℕ) → is.head ≡ 39 ∷ tail → number_of piece ≡ behind_quote (size_of size) (tail ++ digits)
    cut_at tail e =
        ap number_of (is.whole ∙ append_assoc size is.head digits ∙ ap (λ (h : List ℕ). size ++ (h ++ digits)) e)
        ∙ quote_splits size (tail ++ digits) (size_decimal size is.size_form)

    found : (signed : Bool) → IsSome (with_base (size_of size) signed (letter ∷ digits))
    found signed = with_base_some (size_of size) signed letter base digits is.head_form.1 (width_found size base digits p.1) (digits_fit base digits p.0)

    by_head : (is.head ≡ 39 ∷ letter ∷ []) ⊎ (is.head ≡ 39 ∷ 115 ∷ letter ∷ []) ⊎ (is.head ≡ 39 ∷ 83 ∷ letter ∷ []) → IsSome (number_of piece)
    by_head (inl e) =
        subst (λ (l : Option Literal). IsSome l) (sym (cut_at (letter ∷ []) e))
        (subst (λ (c : Bool). IsSome (if c then with_base (size_of size) true digits else with_base (size_of size) false (letter ∷ digits)))
        (sym (no_sign_letter letter base is.head_form.1)) (found false))
    by_head (inr (inl e)) = subst (λ (l : Option Literal). IsSome l) (sym (cut_at (115 ∷ letter ∷ []) e)) (found true)
    by_head (inr (inr e)) = subst (λ (l : Option Literal). IsSome l) (sym (cut_at (83 ∷ letter ∷ []) e)) (found true)

-- ---- tokens

-- the token of a piece, if it is one, in front of others
front_means : (f : Form) (piece : List ℕ) → HasForm f piece → FaultOf f piece None → (file ends : ℕ) (more : List Token) → AllByRecursion HasMeaning more
    → AllByRecursion HasMeaning (cons_option (token_of file ends piece (kind_of f)) more)
front_means form.Mark piece h k file ends more all = (tt, all)
front_means form.Word piece h k file ends more all = (tt, all)
front_means form.System piece h k file ends more all = (tt, all)
front_means form.Decimal piece h k file ends more all = (decimal_some piece h k, all)
front_means form.Based piece h k file ends more all = (based_some piece k.0 k.1 k.2 k.3 (unnamed piece (based_fault k.0 k.1 k.2) k.4), all)
front_means form.Fill piece (inl e) k file ends more all = (rw e refl, all)
front_means form.Fill piece (inr e) k file ends more all = (rw e refl, all)
front_means form.Sign piece h k file ends more all = (tt, all)
front_means form.Blank piece h k file ends more all = all
front_means form.Comment piece h k file ends more all = all
front_means form.OpenComment piece h k file ends more all = all
front_means form.Directive piece h k file ends more all = all
front_means form.OtherDirective piece h k file ends more all = all

pieces_mean : (file ends : ℕ) (text : List ℕ) (pieces : List Piece) (rest : List ℕ) → CutsTo text pieces rest → AllByRecursion HasMeaning
    (tokens_of file ends pieces)
pieces_mean file ends text [] rest cut = tt
pieces_mean file ends text (p ∷ ps) rest cut =
    front_means p.0 p.1 cut.2.has_form cut.2.allowed file ends (tokens_of file (ends + line_ends p.1) ps)
    (pieces_mean file (ends + line_ends p.1) cut.0 ps rest cut.3)

pub numbers_have_meaning_lem : (file : ℕ) (text : List ℕ) (tokens : List Token) → IsTokens file text tokens → AllByRecursion HasMeaning tokens
numbers_have_meaning_lem file text tokens is = subst (λ (ts : List Token). AllByRecursion HasMeaning ts) (sym is.2) (pieces_mean file 0 text is.0 [] is.1)
