-- which number at the front of a text is the longest
use Rattle.std.proofs.Common.{◌≡◌, ◌⊎◌, ℕ, true, eqb, List, [], ◌∷◌, ◌++◌, take, drop, refl, sym, ◌∙◌, ap, subst, inl, inr, arith, Some, None}
use Rattle.std.proofs.lemmas.Bool.{or_left}
use Rattle.std.proofs.lemmas.List.{append_assoc, append-nil, take-append-drop}
use Rattle.std.specs.Char.{is_ascii_digit}
use Rattle.sv_lexer.specs.Bytes.{Each, Stops, is_decimal_byte, is_digit_of, is_based_byte}
use Rattle.sv_lexer.specs.Piece.{HasForm, HasNoForm, IsLongest, IsDecimal, IsDigits, IsHead, IsBased, base_of, based_fault}
use Rattle.sv_lexer.specs.Scan.{IsFound, IsTail, IsLongestTail, IsHeadAt, HasNoHead, DigitsStop}
use Rattle.sv_lexer.proofs.Runs.{Each-append, clash, stops_here, Stops-front, runs_agree, head_eq, tail_eq}
use Rattle.sv_lexer.proofs.Leads.{digit_lead, quote_lead, head_first, elsewhere}
use Rattle.sv_lexer.proofs.Longest.{no_form_from}
use Rattle.sv_lexer.specs.declared.form.Base.{Base}
use Rattle.sv_lexer.specs.declared.form.Form.{Form}
use Rattle.sv_lexer.specs.declared.form.Form.TheVariants as form
use Rattle.sv_lexer.specs.declared.lead.Lead.TheVariants.{Digit, Quote}

-- ---- the base part

pub no_base : (l : ℕ) (base : Base) → base_of l ≡ Some base → base_of l ≡ None → ⊥
no_base l base h k = cc

-- `s` is no base letter
not_s : (l : ℕ) (base : Base) → base_of l ≡ Some base → l ≡ 115 → ⊥
not_s l base h e = no_base l base h (ap base_of e)

not_S : (l : ℕ) (base : Base) → base_of l ≡ Some base → l ≡ 83 → ⊥
not_S l base h e = no_base l base h (ap base_of e)

same_base : (l m : ℕ) (base other : Base) → base_of l ≡ Some base → base_of m ≡ Some other → l ≡ m → base ≡ other
same_base l m base other h k e = let f : base_of l ≡ base_of m = ap base_of e in cc

-- no base part begins another
pub heads_agree : (base other : Base) (h k x y : List ℕ) → IsHead base h → IsHead other k → h ++ x ≡ k ++ y → (base ≡ other) × (h ≡ k) × (x ≡ y)
heads_agree base other h k x y hh kk e = go hh.2 kk.2
  where
    go : ((h ≡ 39 ∷ hh.0 ∷ []) ⊎ (h ≡ 39 ∷ 115 ∷ hh.0 ∷ []) ⊎ (h ≡ 39 ∷ 83 ∷ hh.0 ∷ []))
        → ((k ≡ 39 ∷ kk.0 ∷ []) ⊎ (k ≡ 39 ∷ 115 ∷ kk.0 ∷ []) ⊎ (k ≡ 39 ∷ 83 ∷ kk.0 ∷ [])) → (base ≡ other) × (h ≡ k) × (x ≡ y)
    go (inl p) (inl q) =
        let t : hh.0 ∷ x ≡ kk.0 ∷ y = tail_eq (sym (ap (λ (v : List ℕ). v ++ x) p) ∙ e ∙ ap (λ (v : List ℕ). v ++ y) q) in
        (same_base hh.0 kk.0 base other hh.1 kk.1 (head_eq t), p ∙ ap (λ (v : ℕ). 39 ∷ v ∷ []) (head_eq t) ∙ sym q, tail_eq t)
    go (inl p) (inr (inl q)) =
        let t : hh.0 ∷ x ≡ 115 ∷ kk.0 ∷ y = tail_eq (sym (ap (λ (v : List ℕ). v ++ x) p) ∙ e ∙ ap (λ (v : List ℕ). v ++ y) q) in
        absurd (not_s hh.0 base hh.1 (head_eq t))
    go (inl p) (inr (inr q)) =
        let t : hh.0 ∷ x ≡ 83 ∷ kk.0 ∷ y = tail_eq (sym (ap (λ (v : List ℕ). v ++ x) p) ∙ e ∙ ap (λ (v : List ℕ). v ++ y) q) in
        absurd (not_S hh.0 base hh.1 (head_eq t))
    go (inr (inl p)) (inl q) =
        let t : 115 ∷ hh.0 ∷ x ≡ kk.0 ∷ y = tail_eq (sym (ap (λ (v : List ℕ). v ++ x) p) ∙ e ∙ ap (λ (v : List ℕ). v ++ y) q) in
        absurd (not_s kk.0 other kk.1 (sym (head_eq t)))
    go (inr (inl p)) (inr (inl q)) =
        let t : hh.0 ∷ x ≡ kk.0 ∷ y = tail_eq (tail_eq (sym (ap (λ (v : List ℕ). v ++ x) p) ∙ e ∙ ap (λ (v : List ℕ). v ++ y) q)) in
        (same_base hh.0 kk.0 base other hh.1 kk.1 (head_eq t), p ∙ ap (λ (v : ℕ). 39 ∷ 115 ∷ v ∷ []) (head_eq t) ∙ sym q, tail_eq t)
    go (inr (inl p)) (inr (inr q)) =
        let t : 115 ∷ hh.0 ∷ x ≡ 83 ∷ kk.0 ∷ y = tail_eq (sym (ap (λ (v : List ℕ). v ++ x) p) ∙ e ∙ ap (λ (v : List ℕ). v ++ y) q) in
        let z = head_eq t in absurd (omega arith)
    go (inr (inr p)) (inl q) =
        let t : 83 ∷ hh.0 ∷ x ≡ kk.0 ∷ y = tail_eq (sym (ap (λ (v : List ℕ). v ++ x) p) ∙ e ∙ ap (λ (v : List ℕ). v ++ y) q) in
        absurd (not_S kk.0 other kk.1 (sym (head_eq t)))
    go (inr (inr p)) (inr (inl q)) =
        let t : 83 ∷ hh.0 ∷ x ≡ 115 ∷ kk.0 ∷ y = tail_eq (sym (ap (λ (v : List ℕ). v ++ x) p) ∙ e ∙ ap (λ (v : List ℕ). v ++ y) q) in
        let z = head_eq t in absurd (omega arith)
    go (inr (inr p)) (inr (inr q)) =
        let t : hh.0 ∷ x ≡ kk.0 ∷ y = tail_eq (tail_eq (sym (ap (λ (v : List ℕ). v ++ x) p) ∙ e ∙ ap (λ (v : List ℕ). v ++ y) q)) in
        (same_base hh.0 kk.0 base other hh.1 kk.1 (head_eq t), p ∙ ap (λ (v : ℕ). 39 ∷ 83 ∷ v ∷ []) (head_eq t) ∙ sym q, tail_eq t)

-- ---- digits

pub digits_longest : (base : Base) (digits rest more after : List ℕ) → DigitsStop base digits rest → rest ≡ more ++ after → IsDigits base (digits ++ more) → more ≡ []
digits_longest base [] rest [] after s e h = refl
digits_longest base [] rest (m ∷ more) after s e h = absurd (clash (is_digit_of base m) h.0 (subst (Stops (is_digit_of base)) e s))
digits_longest base (d ∷ ds) rest more after s e h = stops_here (is_based_byte base) rest more after e s (Each-append (is_based_byte base) ds more h.1).1

pub tail_found : (base : Base) (head digits rest : List ℕ) → IsHead base head → IsDigits base digits → DigitsStop base digits rest → IsLongestTail (head ++ digits) rest
tail_found base head digits rest h d s = record { is_tail = (base, head, digits, refl, h, d); longest = go }
  where
    go : (more after : List ℕ) → rest ≡ more ++ after → IsTail ((head ++ digits) ++ more) → more ≡ []
    go more after x k =
        let r = heads_agree base k.0 head k.1 (digits ++ more) k.2 h k.4 (sym (append_assoc head digits more) ∙ k.3) in
        let of_base : IsDigits base k.2 = subst (λ (b : Base). IsDigits b k.2) (sym r.0) k.5 in
        digits_longest base digits rest more after s x (subst (IsDigits base) (sym r.2) of_base)

-- the part after a size begins with `'`
pub tail_first : (tail : List ℕ) → IsTail tail → (rest : List ℕ) × (tail ≡ 39 ∷ rest)
tail_first tail h = let r = head_first h.0 h.1 h.2 h.4 in (r.0, h.3 ∙ r.1)

quote_stops : (tail more : List ℕ) → IsTail tail → Stops is_decimal_byte (tail ++ more)
quote_stops tail more h =
    let r = tail_first tail h in subst (Stops is_decimal_byte) (sym (ap (λ (t : List ℕ). t ++ more) r.1)) refl

-- ---- numbers

pub digit_is_byte : (b : ℕ) → is_ascii_digit b ≡ true → is_decimal_byte b ≡ true
digit_is_byte b h = or_left (is_ascii_digit b) (eqb b 95) h

pub decimal_bytes : (size : List ℕ) → IsDecimal size → Each is_decimal_byte size
decimal_bytes [] h = elim h [ ]
decimal_bytes (b ∷ bs) h = (digit_is_byte b h.0, h.1)

pub size_bytes : (size : List ℕ) → (size ≡ []) ⊎ IsDecimal size → Each is_decimal_byte size
size_bytes size (inl e) = subst (Each is_decimal_byte) (sym e) tt
size_bytes size (inr h) = decimal_bytes size h

-- a based number is its size and the part after it
pub based_parts : (piece size : List ℕ) (base : Base) (digits : List ℕ) → IsBased piece size base digits → (tail : List ℕ) × (piece ≡ size ++ tail) × IsTail tail
based_parts piece size base digits h =
    (h.head ++ digits, h.whole ∙ append_assoc size h.head digits, (base, h.head, digits, refl, h.head_form, h.digits_form))

pub tail_based : (size tail : List ℕ) → (size ≡ []) ⊎ IsDecimal size → IsTail tail → HasForm form.Based (size ++ tail)
tail_based size tail s t = (
  size,
  t.0,
  t.2,
  record {
    head = t.1;
    whole = ap (λ (x : List ℕ). size ++ x) t.3 ∙ sym (append_assoc size t.1 t.2);
    size_form = s;
    head_form = t.4;
    digits_form = t.5;
  },
)

-- what goes on from a based number goes on from the part after its size
based_goes_on : (size tail rest more after : List ℕ) → (size ≡ []) ⊎ IsDecimal size → IsLongestTail tail rest → rest ≡ more ++ after → HasForm form.Based ((size ++ tail) ++ more) → more ≡ []
based_goes_on size tail rest more after s t x k =
    let parts = based_parts ((size ++ tail) ++ more) k.0 k.1 k.2 k.3 in
    let whole : size ++ (tail ++ more) ≡ k.0 ++ parts.0 = sym (append_assoc size tail more) ∙ parts.1 in
    let other : Stops is_decimal_byte parts.0 = subst (Stops is_decimal_byte) (append-nil parts.0) (quote_stops parts.0 [] parts.2) in
    let r = runs_agree is_decimal_byte size k.0 (tail ++ more) parts.0 whole (size_bytes size s) (size_bytes k.0 k.3.size_form) (quote_stops tail more t.is_tail) other in
    t.longest more after x (subst IsTail (sym r.1) parts.2)

pub sized_found : (b : ℕ) (bs tail rest : List ℕ) → IsDecimal (b ∷ bs) → IsLongestTail tail rest → IsFound form.Based ((b ∷ bs) ++ tail) rest
sized_found b bs tail rest s t = record { has_form = tail_based (b ∷ bs) tail (inr s) t.is_tail; longest = go }
  where
    go : IsLongest ((b ∷ bs) ++ tail) rest
    go form.Based more after x k = based_goes_on (b ∷ bs) tail rest more after (inr s) t x k
    go form.Decimal more after x k =
        let bytes : Each is_decimal_byte (bs ++ (tail ++ more)) = subst (Each is_decimal_byte) (append_assoc bs tail more) k.1 in
        let none : tail ++ more ≡ [] = stops_here is_decimal_byte (tail ++ more) (tail ++ more) [] (sym (append-nil (tail ++ more))) (quote_stops tail more t.is_tail) (Each-append is_decimal_byte bs (tail ++ more) bytes).1 in
        let r = tail_first tail t.is_tail in
        let some : 39 ∷ r.0 ++ more ≡ [] = sym (ap (λ (v : List ℕ). v ++ more) r.1) ∙ none in
        cc
    go g more after x k = absurd (elsewhere g b ((bs ++ tail) ++ more) Digit (digit_lead b s.0) refl k)

pub decimal_found : (b : ℕ) (bs rest : List ℕ) → IsDecimal (b ∷ bs) → Stops is_decimal_byte rest → HasNoHead rest → IsFound form.Decimal (b ∷ bs) rest
decimal_found b bs rest d s none = record { has_form = d; longest = go }
  where
    go : IsLongest (b ∷ bs) rest
    go form.Decimal more after x k = stops_here is_decimal_byte rest more after x s (Each-append is_decimal_byte bs more k.1).1
    go form.Based more after x k =
        let parts = based_parts ((b ∷ bs) ++ more) k.0 k.1 k.2 k.3 in
        let stop : Stops is_decimal_byte more = Stops-front is_decimal_byte more after (subst (Stops is_decimal_byte) x s) in
        let other : Stops is_decimal_byte parts.0 = subst (Stops is_decimal_byte) (append-nil parts.0) (quote_stops parts.0 [] parts.2) in
        let r = runs_agree is_decimal_byte (b ∷ bs) k.0 more parts.0 parts.1 (decimal_bytes (b ∷ bs) d) (size_bytes k.0 k.3.size_form) stop other in
        let t = parts.2 in
        let text : rest ≡ t.1 ++ (t.2 ++ after) = x ∙ ap (λ (v : List ℕ). v ++ after) (r.1 ∙ t.3) ∙ append_assoc t.1 t.2 after in
        absurd (none t.0 t.1 (t.2 ++ after) text t.4)
    go g more after x k = absurd (elsewhere g b (bs ++ more) Digit (digit_lead b d.0) refl k)

-- ---- what begins with `'`

-- a text that begins with `'` and has a based number as its front begins with a base part
quote_based : (t piece after : List ℕ) → 39 ∷ t ≡ piece ++ after → HasForm form.Based piece → HasNoHead (39 ∷ t) → ⊥
quote_based t piece after e k none = go k.0 k.3.size_form k.3.whole
  where
    go : (size : List ℕ) → (size ≡ []) ⊎ IsDecimal size → piece ≡ size ++ k.3.head ++ k.2 → ⊥
    go [] s w = none k.1 k.3.head (k.2 ++ after) (e ∙ ap (λ (v : List ℕ). v ++ after) w ∙ append_assoc k.3.head k.2 after) k.3.head_form
    go (b ∷ bs) (inl s) w = cc
    go (b ∷ bs) (inr s) w =
        let first : 39 ≡ b = head_eq (e ∙ ap (λ (v : List ℕ). v ++ after) w) in
        clash (is_ascii_digit b) s.0 (ap is_ascii_digit (sym first))

pub unsized_found : (tail rest : List ℕ) → IsLongestTail tail rest → IsFound form.Based tail rest
unsized_found tail rest t = record { has_form = tail_based [] tail (inl refl) t.is_tail; longest = go }
  where
    fill : (b : ℕ) (more : List ℕ) → base_of b ≡ None → tail ++ more ≡ 39 ∷ b ∷ [] → ⊥
    fill b more none e =
        let h = t.is_tail in
        let begin : h.1 ++ (h.2 ++ more) ≡ 39 ∷ b ∷ [] = sym (append_assoc h.1 h.2 more) ∙ sym (ap (λ (v : List ℕ). v ++ more) h.3) ∙ e in
        elim h.4.2 [
          | inl p ↦ let f = head_eq (tail_eq (sym (ap (λ (v : List ℕ). v ++ (h.2 ++ more)) p) ∙ begin)) in no_base h.4.0 h.0 h.4.1 (ap base_of f ∙ none)
          | inr q ↦ elim q [
            | inl p ↦ let f = tail_eq (tail_eq (sym (ap (λ (v : List ℕ). v ++ (h.2 ++ more)) p) ∙ begin)) in cc
            | inr p ↦ let f = tail_eq (tail_eq (sym (ap (λ (v : List ℕ). v ++ (h.2 ++ more)) p) ∙ begin)) in cc
          ]
        ]

    go : IsLongest tail rest
    go form.Based more after x k = based_goes_on [] tail rest more after (inl refl) t x k
    go form.Fill more after x k = elim k [ inl e ↦ absurd (fill 48 more refl e) | inr e ↦ absurd (fill 49 more refl e) ]
    go g more after x k =
        let r = tail_first tail t.is_tail in
        absurd (elsewhere g 39 (r.0 ++ more) Quote quote_lead refl (subst (HasForm g) (ap (λ (v : List ℕ). v ++ more) r.1) k))

pub fill_found : (b : ℕ) (rest : List ℕ) → (b ≡ 48) ⊎ (b ≡ 49) → HasNoHead (39 ∷ b ∷ rest) → IsFound form.Fill (39 ∷ b ∷ []) rest
fill_found b rest h none = record { has_form = elim h [ inl e ↦ inl (ap (λ (v : ℕ). 39 ∷ v ∷ []) e) | inr e ↦ inr (ap (λ (v : ℕ). 39 ∷ v ∷ []) e) ]; longest = go }
  where
    go : IsLongest (39 ∷ b ∷ []) rest
    go form.Fill more after x k = elim k [ inl e ↦ tail_eq (tail_eq e) | inr e ↦ tail_eq (tail_eq e) ]
    go form.Based more after x k = absurd (quote_based (b ∷ rest) (39 ∷ b ∷ more) after (ap (λ (v : List ℕ). 39 ∷ b ∷ v) x) k none)
    go g more after x k = absurd (elsewhere g 39 (b ∷ more) Quote quote_lead refl k)

pub quote_none : (t : List ℕ) → HasNoHead (39 ∷ t) → ((b : ℕ) (r : List ℕ) → t ≡ b ∷ r → (b ≡ 48) ⊎ (b ≡ 49) → ⊥) → HasNoForm (39 ∷ t)
quote_none t none no_fill = no_form_from 39 t go
  where
    go : (g : Form) (more after : List ℕ) → t ≡ more ++ after → HasForm g (39 ∷ more) → ⊥
    go form.Based more after x k = quote_based t (39 ∷ more) after (ap (λ (v : List ℕ). 39 ∷ v) x) k none
    go form.Fill more after x k =
        elim k [
          | inl e ↦ no_fill 48 after (x ∙ ap (λ (v : List ℕ). v ++ after) (tail_eq e)) (inl refl)
          | inr e ↦ no_fill 49 after (x ∙ ap (λ (v : List ℕ). v ++ after) (tail_eq e)) (inr refl)
        ]
    go g more after x k = elsewhere g 39 more Quote quote_lead refl k

-- ---- the parts of a based number, as they are read again

pub based_reads : (piece : List ℕ) (h : HasForm form.Based piece) (n : ℕ) → Each is_decimal_byte (take n piece) → Stops is_decimal_byte (drop n piece) → (take n piece ≡ h.0) × (drop n piece ≡ h.3.head ++ h.2)
based_reads piece h n r s =
    let tail = h.3.head ++ h.2 in
    let whole : take n piece ++ drop n piece ≡ h.0 ++ (h.3.head ++ h.2) = take-append-drop n piece ∙ h.3.whole ∙ append_assoc h.0 h.3.head h.2 in
    let first = head_first h.1 h.3.head h.2 h.3.head_form in
    let stop : Stops is_decimal_byte (h.3.head ++ h.2) = subst (Stops is_decimal_byte) (sym first.1) refl in
    runs_agree is_decimal_byte (take n piece) h.0 (drop n piece) (h.3.head ++ h.2) whole r (size_bytes h.0 h.3.size_form) s stop

pub based_has_head : (piece : List ℕ) (h : HasForm form.Based piece) (n : ℕ) → Each is_decimal_byte (take n piece) → Stops is_decimal_byte (drop n piece) → HasNoHead (drop n piece) → ⊥
based_has_head piece h n r s none = none h.1 h.3.head h.2 (based_reads piece h n r s).1 h.3.head_form

pub based_fault_reads : (piece : List ℕ) (h : HasForm form.Based piece) (n m : ℕ) (base : Base) → Each is_decimal_byte (take n piece) → Stops is_decimal_byte (drop n piece) → IsHeadAt base m (drop n piece) → based_fault (take n piece) base (drop m (drop n piece)) ≡ based_fault h.0 h.1 h.2
based_fault_reads piece h n m base r s at =
    let reads = based_reads piece h n r s in
    let whole : take m (drop n piece) ++ drop m (drop n piece) ≡ h.3.head ++ h.2 = take-append-drop m (drop n piece) ∙ reads.1 in
    let same = heads_agree base h.1 (take m (drop n piece)) h.3.head (drop m (drop n piece)) h.2 at.is_head h.3.head_form whole in
    ap (λ (x : List ℕ). based_fault x base (drop m (drop n piece))) reads.0
    ∙ ap (λ (x : Base). based_fault h.0 x (drop m (drop n piece))) same.0
    ∙ ap (λ (x : List ℕ). based_fault h.0 h.1 x) same.2
