-- the pieces at the front of a text, by their lengths
use Rattle.std.proofs.Common.{◌≡◌, ◌⊎◌, ℕ, zero, suc, ◌+◌, ◌<◌, ◌≤◌, true, false, List, [], ◌∷◌, ◌++◌, length, get_or, take, drop, refl, sym, ◌∙◌, ap, subst, inl, inr, arith}
use Rattle.std.proofs.Math.Seq.{take-add, drop-length}
use Rattle.std.proofs.Math.Nat.{suc-add}
use Rattle.std.proofs.Math.Numerals.{add-one}
use Rattle.std.proofs.lemmas.List.{drop-drop, take-append-drop, length-drop, length-take, take_more, take_all, length-take-le, get_or-take, get_or_past}
use Rattle.std.proofs.lemmas.Bool.{cases_lt}
use Rattle.std.specs.Char.{is_ascii_digit}
use Rattle.sv_base.specs.Spelling.{begins_name, continues_name}
use Rattle.sv_lexer.specs.Bytes.{Each, Stops, is_blank, is_in_line, is_decimal_byte, is_digit_of, is_based_byte}
use Rattle.sv_lexer.specs.Piece.{HasNoForm, IsDigits, HasNoClose, is_skipped, is_sign}
use Rattle.sv_lexer.specs.Scan.{lead_of, IsFoundAt, IsNameAt, IsCommentForm, ClosesAt, IsTail, IsTailAt, IsHeadAt, HasNoHead, DigitsStop}
use Rattle.sv_lexer.proofs.Runs.{clash, head_eq, tail_eq}
use Rattle.sv_lexer.proofs.Leads.{blank_lead}
use Rattle.sv_lexer.proofs.Longest.{start_continues_name, other_no_form, system_none, directive_none, blank_found, word_found, system_found, sign_found, slash_found, line_found, block_found, open_found, directive_found, other_directive_found}
use Rattle.sv_lexer.proofs.Numbers.{digit_is_byte, tail_first, tail_found, sized_found, decimal_found, unsized_found, fill_found, quote_none}
use Rattle.sv_lexer.specs.declared.form.Base.{Base}
use Rattle.sv_lexer.specs.declared.form.Form.{Form}
use Rattle.sv_lexer.specs.declared.form.Form.TheVariants as form
use Rattle.sv_lexer.specs.declared.lead.Lead.TheVariants.{Sign, Other}

-- ---- numbers

pub digits_from_run : (base : Base) (s : List ℕ) (n : ℕ) → is_digit_of base (get_or s 0 0) ≡ true → Each (is_based_byte base) (take n s) → IsDigits base (take n s)
digits_from_run base [] zero h r = tt
digits_from_run base [] (suc n) h r = tt
digits_from_run base (b ∷ t) zero h r = tt
digits_from_run base (b ∷ t) (suc n) h r = (h, r.1)

pub tail_at : (base : Base) (n m : ℕ) (s : List ℕ) → IsHeadAt base n s → m ≤ length (drop n s) → IsDigits base (take m (drop n s)) → DigitsStop base (take m (drop n s)) (drop m (drop n s)) → IsTailAt (n + m) s
tail_at base n m s h le d st =
    let size = length-drop n s in
    let w = h.within in
    record {
      within = omega arith;
      longest_tail = rw (take-add n m s, ← drop-drop m n s) (tail_found base (take n s) (take m (drop n s)) (drop m (drop n s)) h.is_head d st);
    }

pub sized_at : (n m : ℕ) (s : List ℕ) → 0 < length s → is_ascii_digit (get_or s 0 0) ≡ true → n ≤ length s → Each is_decimal_byte (take n s) → Stops is_decimal_byte (drop n s) → IsTailAt m (drop n s) → IsFoundAt (record { form = form.Based; len = n + m }) s
sized_at n m [] some d le r st t = absurd (omega arith)
sized_at zero m (b ∷ s) some d le r st t = absurd (clash (is_decimal_byte b) (digit_is_byte b d) st)
sized_at (suc n) m (b ∷ s) some d le r st t =
    let size = length-drop n s in
    let w = t.within in
    record {
      some = omega arith;
      within = omega arith;
      is_found = rw (take-add (suc n) m (b ∷ s), ← drop-drop m (suc n) (b ∷ s)) (sized_found b (take n s) (take m (drop n s)) (drop m (drop n s)) (d, r.1) t.longest_tail);
    }

pub decimal_at : (n : ℕ) (s : List ℕ) → 0 < length s → is_ascii_digit (get_or s 0 0) ≡ true → n ≤ length s → Each is_decimal_byte (take n s) → Stops is_decimal_byte (drop n s) → HasNoHead (drop n s) → IsFoundAt (record { form = form.Decimal; len = n }) s
decimal_at n [] some d le r st none = absurd (omega arith)
decimal_at zero (b ∷ s) some d le r st none = absurd (clash (is_decimal_byte b) (digit_is_byte b d) st)
decimal_at (suc n) (b ∷ s) some d le r st none =
    record { some = omega arith; within = le; is_found = decimal_found b (take n s) (drop n s) (d, r.1) st none }

tail_some : (n : ℕ) (s : List ℕ) → IsTailAt n s → 0 < n
tail_some zero s t = let h = t.longest_tail.is_tail in absurd (no_tail h)
  where
    no_tail : IsTail [] → ⊥
    no_tail h = let r = tail_first [] h in let e = r.1 in cc
tail_some (suc n) s t = omega arith

pub unsized_at : (n : ℕ) (s : List ℕ) → IsTailAt n s → IsFoundAt (record { form = form.Based; len = n }) s
unsized_at n s t = record { some = tail_some n s t; within = t.within; is_found = unsized_found (take n s) (drop n s) t.longest_tail }

pub fill_at : (s : List ℕ) → s ≡ 39 ∷ drop 1 s → (get_or s 1 0 ≡ 48) ⊎ (get_or s 1 0 ≡ 49) → HasNoHead s → IsFoundAt (record { form = form.Fill; len = 2 }) s
fill_at [] e h none = cc
fill_at (q ∷ []) e h none = elim h [ inl x ↦ cc | inr x ↦ cc ]
fill_at (q ∷ b ∷ s) e h none =
    let first : q ≡ 39 = head_eq e in
    record {
      some = omega arith;
      within = omega arith;
      is_found = rw first (fill_found b s h (subst (λ (x : ℕ). HasNoHead (x ∷ b ∷ s)) first none));
    }

pub quote_none_at : (s : List ℕ) → s ≡ 39 ∷ drop 1 s → (get_or s 1 0 ≡ 48 → ⊥) → (get_or s 1 0 ≡ 49 → ⊥) → HasNoHead s → HasNoForm s
quote_none_at [] e no_0 no_1 none = cc
quote_none_at (q ∷ s) e no_0 no_1 none =
    let first : q ≡ 39 = head_eq e in
    rw first (quote_none s (subst (λ (x : ℕ). HasNoHead (x ∷ s)) first none) (λ b r x h. no_fill b r x h))
  where
    no_fill : (b : ℕ) (r : List ℕ) → s ≡ b ∷ r → (b ≡ 48) ⊎ (b ≡ 49) → ⊥
    no_fill b r x (inl h) = no_0 (ap (λ (v : List ℕ). get_or v 0 0) x ∙ h)
    no_fill b r x (inr h) = no_1 (ap (λ (v : List ℕ). get_or v 0 0) x ∙ h)

-- ---- comments

two : (n : ℕ) → n + 2 ≡ suc (suc n)
two n = omega arith

four : (n : ℕ) → n + 4 ≡ suc (suc (suc (suc n)))
four n = omega arith

pub line_at : (f : Form) (n : ℕ) (s : List ℕ) → s ≡ 47 ∷ 47 ∷ drop 2 s → n ≤ length (drop 2 s) → IsCommentForm f (take n (drop 2 s)) → Each is_in_line (take n (drop 2 s)) → Stops is_in_line (drop n (drop 2 s)) → IsFoundAt (record { form = f; len = n + 2 }) s
line_at f n [] e le c h st = cc
line_at f n (a ∷ []) e le c h st = let x = tail_eq e in cc
line_at f n (a ∷ b ∷ s) e le c h st =
    let first : a ≡ 47 = head_eq e in
    let second : b ≡ 47 = head_eq (tail_eq e) in
    record {
      some = omega arith;
      within = omega arith;
      is_found = rw (two n, first, second) (line_found f (take n s) (drop n s) c h st);
    }

-- the front up to two known bytes
take_two : (n : ℕ) (s : List ℕ) (a b : ℕ) → n + 1 < length s → get_or s n 0 ≡ a → get_or s (n + 1) 0 ≡ b → take (suc (suc n)) s ≡ take n s ++ a ∷ b ∷ []
take_two n [] a b lt x y = absurd (omega arith)
take_two zero (c ∷ []) a b lt x y = absurd (omega arith)
take_two zero (c ∷ d ∷ s) a b lt x y = rw (x, y) refl
take_two (suc n) (c ∷ s) a b lt x y = ap (λ (t : List ℕ). c ∷ t) (take_two n s a b (omega arith) x (rw suc-add at y))

front_no_close : (n : ℕ) (s : List ℕ) → ClosesAt n s → HasNoClose (take n s ++ 42 ∷ [])
front_no_close n s h k star slash =
    let whole : take (n + 1) s ≡ take n s ++ get_or s n 0 ∷ [] = let w = h.within in take_more s n 0 (omega arith) in
    let front : take n s ++ 42 ∷ [] ≡ take (n + 1) s = ap (λ (b : ℕ). take n s ++ b ∷ []) (sym h.star) ∙ sym whole in
    let star' : get_or (take (n + 1) s) k 0 ≡ 42 = ap (λ (t : List ℕ). get_or t k 0) (sym front) ∙ star in
    let slash' : get_or (take (n + 1) s) (k + 1) 0 ≡ 47 = ap (λ (t : List ℕ). get_or t (k + 1) 0) (sym front) ∙ slash in
    elim (cases_lt (k + 1) (n + 1)) [
      | inl lt ↦ h.first k (omega arith) (sym (get_or-take (n + 1) s k 0 (omega arith)) ∙ star') (sym (get_or-take (n + 1) s (k + 1) 0 lt) ∙ slash')
      | inr past ↦ let size = length-take (n + 1) s in
          let none : get_or (take (n + 1) s) (k + 1) 0 ≡ 0 = get_or_past (take (n + 1) s) (k + 1) 0 (omega arith) in absurd (omega arith)
    ]

pub block_at : (f : Form) (n : ℕ) (s : List ℕ) → s ≡ 47 ∷ 42 ∷ drop 2 s → ClosesAt n (drop 2 s) → IsCommentForm f (take n (drop 2 s)) → IsFoundAt (record { form = f; len = n + 4 }) s
block_at f n [] e h c = cc
block_at f n (a ∷ []) e h c = let x = tail_eq e in cc
block_at f n (a ∷ b ∷ s) e h c =
    let first : a ≡ 47 = head_eq e in
    let second : b ≡ 42 = head_eq (tail_eq e) in
    let w = h.within in
    record {
      some = omega arith;
      within = omega arith;
      is_found = rw (four n, first, second, take_two n s 42 47 h.within h.star h.slash) (block_found f (take n s) (drop (suc (suc n)) s) c (front_no_close n s h));
    }

pub open_at : (s : List ℕ) → s ≡ 47 ∷ 42 ∷ drop 2 s → HasNoClose (drop 2 s) → IsFoundAt (record { form = form.OpenComment; len = length s }) s
open_at [] e h = cc
open_at (a ∷ []) e h = let x = tail_eq e in cc
open_at (a ∷ b ∷ s) e h =
    let first : a ≡ 47 = head_eq e in
    let second : b ≡ 42 = head_eq (tail_eq e) in
    record {
      some = omega arith;
      within = omega arith;
      is_found = rw (take_all (length (a ∷ b ∷ s)) (a ∷ b ∷ s) (omega arith), drop-length, first, second) (open_found s h);
    }

-- ---- names, directives, slashes

pub name_at : (n : ℕ) (s : List ℕ) → 0 < length s → begins_name (get_or s 0 0) ≡ true → n ≤ length s → Each continues_name (take n s) → Stops continues_name (drop n s) → IsNameAt n s
name_at n [] some h le r st = absurd (omega arith)
name_at zero (b ∷ s) some h le r st = absurd (clash (continues_name b) (start_continues_name b h) st)
name_at (suc n) (b ∷ s) some h le r st = record { some = omega arith; within = le; is_name = (h, r.1); stops = st }

pub word_at : (n : ℕ) (s : List ℕ) → IsNameAt n s → IsFoundAt (record { form = form.Word; len = n }) s
word_at n [] h = let w = h.within in let x = h.some in absurd (omega arith)
word_at zero (b ∷ s) h = let x = h.some in absurd (omega arith)
word_at (suc n) (b ∷ s) h = record { some = h.some; within = h.within; is_found = word_found b (take n s) (drop n s) h.is_name h.stops }

pub system_at : (n : ℕ) (s : List ℕ) → s ≡ 36 ∷ drop 1 s → IsNameAt n (drop 1 s) → IsFoundAt (record { form = form.System; len = n + 1 }) s
system_at n [] e h = cc
system_at n (a ∷ s) e h =
    let first : a ≡ 36 = head_eq e in
    let w = h.within in
    record { some = omega arith; within = omega arith; is_found = rw (add-one, first) (system_found (take n s) (drop n s) h.is_name h.stops) }

pub system_none_at : (s : List ℕ) → s ≡ 36 ∷ drop 1 s → Stops begins_name (drop 1 s) → HasNoForm s
system_none_at s e h = rw e (system_none (drop 1 s) h)

pub directive_at : (n m : ℕ) (s : List ℕ) → s ≡ 96 ∷ drop 1 s → IsNameAt n (drop 1 s) → is_skipped (take n (drop 1 s)) ≡ true → m ≤ length (drop n (drop 1 s)) → Each is_in_line (take m (drop n (drop 1 s))) → Stops is_in_line (drop m (drop n (drop 1 s))) → IsFoundAt (record { form = form.Directive; len = n + m + 1 }) s
directive_at n m [] e h w le r st = cc
directive_at n m (a ∷ s) e h w le r st =
    let first : a ≡ 96 = head_eq e in
    let inside = h.within in
    let size = length-drop n s in
    let stop : Stops continues_name (take m (drop n s) ++ drop m (drop n s)) = rw take-append-drop h.stops in
    record {
      some = omega arith;
      within = omega arith;
      is_found = rw (add-one, first, take-add n m s, ← drop-drop m n s) (directive_found (take n s) (take m (drop n s)) (drop m (drop n s)) w stop r st);
    }

pub other_directive_at : (n : ℕ) (s : List ℕ) → s ≡ 96 ∷ drop 1 s → IsNameAt n (drop 1 s) → is_skipped (take n (drop 1 s)) ≡ false → IsFoundAt (record { form = form.OtherDirective; len = n + 1 }) s
other_directive_at n [] e h w = cc
other_directive_at n (a ∷ s) e h w =
    let first : a ≡ 96 = head_eq e in
    let inside = h.within in
    record { some = omega arith; within = omega arith; is_found = rw (add-one, first) (other_directive_found (take n s) (drop n s) h.is_name w h.stops) }

pub directive_none_at : (s : List ℕ) → s ≡ 96 ∷ drop 1 s → Stops begins_name (drop 1 s) → HasNoForm s
directive_none_at s e h = rw e (directive_none (drop 1 s) h)

pub second_is : (s : List ℕ) (b : ℕ) → s ≡ 47 ∷ drop 1 s → get_or s 1 0 ≡ b → (b ≡ 0 → ⊥) → s ≡ 47 ∷ b ∷ drop 2 s
second_is [] b e h some = cc
second_is (a ∷ []) b e h some = absurd (some (sym h))
second_is (a ∷ c ∷ s) b e h some = ap (λ (x : ℕ). x ∷ c ∷ s) (head_eq e) ∙ ap (λ (x : ℕ). 47 ∷ x ∷ s) h

pub slash_at : (s : List ℕ) → s ≡ 47 ∷ drop 1 s → (get_or s 1 0 ≡ 47 → ⊥) → (get_or s 1 0 ≡ 42 → ⊥) → IsFoundAt (record { form = form.Sign; len = 1 }) s
slash_at [] e no_line no_block = cc
slash_at (a ∷ s) e no_line no_block =
    let first : a ≡ 47 = head_eq e in
    record {
      some = omega arith;
      within = omega arith;
      is_found = rw first (slash_found s (λ t x. no_line (ap (λ (v : List ℕ). get_or v 0 0) x)) (λ t x. no_block (ap (λ (v : List ℕ). get_or v 0 0) x)));
    }

pub blank_at : (s : List ℕ) → 0 < length s → is_blank (get_or s 0 0) ≡ true → IsFoundAt (record { form = form.Blank; len = 1 }) s
blank_at [] some h = absurd (omega arith)
blank_at (b ∷ s) some h = record { some = omega arith; within = omega arith; is_found = blank_found b s (blank_lead b h) h }

pub sign_at : (n : ℕ) (s : List ℕ) → lead_of (get_or s 0 0) ≡ Sign → 0 < n → n ≤ length s → is_sign (take n s) ≡ true → ((m : ℕ) → n < m → m ≤ length s → is_sign (take m s) ≡ false) → IsFoundAt (record { form = form.Sign; len = n }) s
sign_at n [] l some le h none = absurd (omega arith)
sign_at zero (b ∷ s) l some le h none = absurd (omega arith)
sign_at (suc n) (b ∷ s) l some le h none =
    let size : length (take n s) ≡ n = length-take-le n s (omega arith) in
    let whole : (b ∷ take n s) ++ drop n s ≡ b ∷ s = ap (λ (t : List ℕ). b ∷ t) (take-append-drop n s) in
    record {
      some = some;
      within = le;
      is_found = sign_found b (take n s) (drop n s) l h (λ m lt within.
          subst (λ (t : List ℕ). is_sign (take m t) ≡ false) (sym whole) (none m (omega arith) (subst (λ (t : List ℕ). m ≤ length t) whole within)));
    }

pub first_is : (s : List ℕ) (b : ℕ) → 0 < length s → get_or s 0 0 ≡ b → s ≡ b ∷ drop 1 s
first_is [] b some e = absurd (omega arith)
first_is (a ∷ s) b some e = ap (λ (x : ℕ). x ∷ s) e

pub first_sign : (s : List ℕ) → 0 < length s → is_sign (get_or s 0 0 ∷ []) ≡ true → is_sign (take 1 s) ≡ true
first_sign [] some h = absurd (omega arith)
first_sign (a ∷ s) some h = h

pub no_form_at : (s : List ℕ) → 0 < length s → lead_of (get_or s 0 0) ≡ Other → HasNoForm s
no_form_at [] some h = absurd (omega arith)
no_form_at (a ∷ s) some h = other_no_form a s h
