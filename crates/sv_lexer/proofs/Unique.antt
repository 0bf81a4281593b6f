-- a text is cut in one way
use Rattle.std.proofs.Common.{◌≡◌, ◌⊎◌, ℕ, Bool, true, false, ◌||◌, ◌&&◌, List, [], ◌∷◌, ◌++◌, refl, sym, ◌∙◌, ap, subst, inl, inr, arith, Some, None}
use Rattle.std.proofs.lemmas.Bool.{or_left, or_right, and_from}
use Rattle.std.proofs.lemmas.List.{append_assoc, append-nil, append_cancel_right}
use Rattle.std.specs.Char.{is_ascii_digit}
use Rattle.sv_base.specs.declared.kind.Kind.{Kind}
use Rattle.sv_base.specs.declared.kind.Kind.TheVariants as kind
use Rattle.sv_base.specs.declared.refusal.Place.{Place}
use Rattle.sv_base.specs.declared.refusal.Refusal.{Refusal}
use Rattle.sv_base.specs.Spelling.{continues_name}
use Rattle.sv_lexer.specs.Bytes.{Each, Stops, is_decimal_byte}
use Rattle.sv_lexer.specs.Piece.{HasForm, IsLongest, IsComment, IsMarkText, HasNoClose, IsBased, IsDecimal, base_of, FaultOf, PieceFault, is_skipped, is_sign, named, based_fault, length_fault}
use Rattle.sv_lexer.specs.Cutting.{Piece, Stands, CutsTo, Fails, refused, no_form, byte_name, IsTokens, IsRefused, tokens_of, ends_of, place_at}
use Rattle.sv_lexer.specs.Scan.{lead_of}
use Rattle.sv_lexer.proofs.Runs.{Each-append, clash, stops_here, runs_agree, head_eq, tail_eq}
use Rattle.sv_lexer.proofs.Leads.{leads, lead, no_empty, head_first}
use Rattle.sv_lexer.proofs.Longest.{slash_sign, no_close_absurd, name_bytes}
use Rattle.sv_lexer.proofs.Numbers.{heads_agree, size_bytes, decimal_bytes, no_base}
use Rattle.sv_lexer.specs.declared.form.Base.{Base}
use Rattle.sv_lexer.specs.declared.form.Form.{Form}
use Rattle.sv_lexer.specs.declared.form.Form.TheVariants as form
use Rattle.sv_lexer.specs.declared.token.Token.{Token}
use Rattle.sv_lexer.specs.declared.lead.Lead.{Lead}
use Rattle.sv_lexer.specs.declared.lead.Lead.TheVariants.{Blank, Letter, Digit, Dollar, Quote, Slash, Backquote, Sign, Other}

-- ---- a piece has one form

-- some first byte passes
abbrev some_lead : (Lead → Bool) → Bool
some_lead p = p Blank || (p Letter || (p Digit || (p Dollar || (p Quote || (p Slash || (p Backquote || (p Sign || p Other)))))))

some_lead_at : (p : Lead → Bool) (l : Lead) → p l ≡ true → some_lead p ≡ true
some_lead_at p Blank h = or_left (p Blank) _ h
some_lead_at p Letter h = or_right (p Blank) _ (or_left (p Letter) _ h)
some_lead_at p Digit h = or_right (p Blank) _ (or_right (p Letter) _ (or_left (p Digit) _ h))
some_lead_at p Dollar h = or_right (p Blank) _ (or_right (p Letter) _ (or_right (p Digit) _ (or_left (p Dollar) _ h)))
some_lead_at p Quote h = or_right (p Blank) _ (or_right (p Letter) _ (or_right (p Digit) _ (or_right (p Dollar) _ (or_left (p Quote) _ h))))
some_lead_at p Slash h = or_right (p Blank) _ (or_right (p Letter) _ (or_right (p Digit) _ (or_right (p Dollar) _ (or_right (p Quote) _ (or_left (p Slash) _ h)))))
some_lead_at p Backquote h = or_right (p Blank) _ (or_right (p Letter) _ (or_right (p Digit) _ (or_right (p Dollar) _ (or_right (p Quote) _ (or_right (p Slash) _ (or_left (p Backquote) _ h))))))
some_lead_at p Sign h = or_right (p Blank) _ (or_right (p Letter) _ (or_right (p Digit) _ (or_right (p Dollar) _ (or_right (p Quote) _ (or_right (p Slash) _ (or_right (p Backquote) _ (or_left (p Sign) _ h)))))))
some_lead_at p Other h = or_right (p Blank) _ (or_right (p Letter) _ (or_right (p Digit) _ (or_right (p Dollar) _ (or_right (p Quote) _ (or_right (p Slash) _ (or_right (p Backquote) _ (or_right (p Sign) _ (h))))))))

-- whether one first byte leads to both forms
abbrev meet : Form → Form → Bool
meet f g = some_lead (λ l. leads f l && leads g l)

meets : (f g : Form) (l : Lead) → leads f l ≡ true → leads g l ≡ true → meet f g ≡ true
meets f g l h k = some_lead_at (λ x. leads f x && leads g x) l (and_from (leads f l) (leads g l) h k)

-- forms that no first byte shares have no piece in common
apart : (f g : Form) (piece : List ℕ) → meet f g ≡ false → HasForm f piece → HasForm g piece → ⊥
apart f g [] e h k = no_empty f h
apart f g (b ∷ more) e h k = clash (meet f g) (meets f g (lead_of b) (lead f b more h) (lead g b more k)) e

one_content : (c d piece : List ℕ) → IsComment c piece → IsComment d piece → c ≡ d
one_content c d piece (inl h) (inl k) = tail_eq (tail_eq (sym h.0 ∙ k.0))
one_content c d piece (inl h) (inr k) = let z = head_eq (tail_eq (sym h.0 ∙ k.0)) in absurd (omega arith)
one_content c d piece (inr h) (inl k) = let z = head_eq (tail_eq (sym h.0 ∙ k.0)) in absurd (omega arith)
one_content c d piece (inr h) (inr k) = append_cancel_right c d (42 ∷ 47 ∷ []) (tail_eq (tail_eq (sym h.0 ∙ k.0)))

comment_open : (c piece : List ℕ) → IsComment c piece → HasForm form.OpenComment piece → ⊥
comment_open c piece (inl h) k = let z = head_eq (tail_eq (sym h.0 ∙ k.1)) in omega arith
comment_open c piece (inr h) k = no_close_absurd c [] (subst HasNoClose (sym (tail_eq (tail_eq (sym h.0 ∙ k.1)))) k.2)

long_sign : (b : ℕ) (more piece : List ℕ) → piece ≡ 47 ∷ b ∷ more → is_sign piece ≡ true → ⊥
long_sign b more piece e h = let z : b ∷ more ≡ [] = slash_sign (b ∷ more) (subst (λ (x : List ℕ). is_sign x ≡ true) e h) in cc

comment_sign : (c piece : List ℕ) → IsComment c piece → is_sign piece ≡ true → ⊥
comment_sign c piece (inl h) k = long_sign 47 c piece h.0 k
comment_sign c piece (inr h) k = long_sign 42 (c ++ 42 ∷ 47 ∷ []) piece h.0 k

-- the word of a directive
directive_other : (piece : List ℕ) → HasForm form.Directive piece → HasForm form.OtherDirective piece → ⊥
directive_other piece h k =
    let whole : h.0 ++ h.1 ≡ k.0 = tail_eq (sym h.2 ∙ k.1) in
    let bytes : Each continues_name h.1 = (Each-append continues_name h.0 h.1 (subst (Each continues_name) (sym whole) (name_bytes k.0 k.2))).1 in
    let none : h.1 ≡ [] = stops_here continues_name h.1 h.1 [] (sym (append-nil h.1)) h.4 bytes in
    let same : h.0 ≡ k.0 = sym (append-nil h.0) ∙ ap (λ (x : List ℕ). h.0 ++ x) (sym none) ∙ whole in
    clash (is_skipped k.0) (subst (λ (x : List ℕ). is_skipped x ≡ true) same h.3) k.3

decimal_based : (piece : List ℕ) → HasForm form.Decimal piece → HasForm form.Based piece → ⊥
decimal_based piece h k =
    let whole : piece ≡ k.0 ++ (k.3.head ++ k.2) = k.3.whole ∙ append_assoc k.0 k.3.head k.2 in
    let first = head_first k.1 k.3.head k.2 k.3.head_form in
    let bytes : Each is_decimal_byte (k.3.head ++ k.2) = (Each-append is_decimal_byte k.0 (k.3.head ++ k.2) (subst (Each is_decimal_byte) whole (decimal_bytes piece h))).1 in
    let quote : Each is_decimal_byte (39 ∷ first.0) = subst (Each is_decimal_byte) first.1 bytes in
    clash (is_decimal_byte 39) quote.0 refl

based_fill : (b : ℕ) (piece : List ℕ) → base_of b ≡ None → piece ≡ 39 ∷ b ∷ [] → HasForm form.Based piece → ⊥
based_fill b piece d e k = go k.0 k.3.size_form k.3.whole
  where
    letter : 39 ∷ b ∷ [] ≡ k.3.head ++ k.2 → ⊥
    letter w =
        let h = k.3.head_form in
        elim h.2 [
          | inl p ↦ let f : b ≡ h.0 = head_eq (tail_eq (w ∙ ap (λ (v : List ℕ). v ++ k.2) p)) in no_base h.0 k.1 h.1 (ap base_of (sym f) ∙ d)
          | inr q ↦ elim q [
            | inl p ↦ let f = tail_eq (tail_eq (w ∙ ap (λ (v : List ℕ). v ++ k.2) p)) in cc
            | inr p ↦ let f = tail_eq (tail_eq (w ∙ ap (λ (v : List ℕ). v ++ k.2) p)) in cc
          ]
        ]

    go : (size : List ℕ) → (size ≡ []) ⊎ IsDecimal size → piece ≡ size ++ k.3.head ++ k.2 → ⊥
    go [] s w = letter (sym e ∙ w)
    go (a ∷ size) (inl s) w = cc
    go (a ∷ size) (inr s) w = let first : a ≡ 39 = head_eq (sym w ∙ e) in clash (is_ascii_digit a) s.0 (ap is_ascii_digit first)

fill_based : (piece : List ℕ) → HasForm form.Fill piece → HasForm form.Based piece → ⊥
fill_based piece (inl e) k = based_fill 48 piece refl e k
fill_based piece (inr e) k = based_fill 49 piece refl e k

pub one_form : (f g : Form) (piece : List ℕ) → HasForm f piece → HasForm g piece → f ≡ g
one_form form.Blank form.Blank piece h k = refl
one_form form.Comment form.Comment piece h k = refl
one_form form.Comment form.Mark piece h k = absurd (h.2 (subst IsMarkText (one_content k.0 h.0 piece k.1 h.1) k.2))
one_form form.Comment form.OpenComment piece h k = absurd (comment_open h.0 piece h.1 k)
one_form form.Comment form.Sign piece h k = absurd (comment_sign h.0 piece h.1 k)
one_form form.Mark form.Comment piece h k = absurd (k.2 (subst IsMarkText (one_content h.0 k.0 piece h.1 k.1) h.2))
one_form form.Mark form.Mark piece h k = refl
one_form form.Mark form.OpenComment piece h k = absurd (comment_open h.0 piece h.1 k)
one_form form.Mark form.Sign piece h k = absurd (comment_sign h.0 piece h.1 k)
one_form form.OpenComment form.Comment piece h k = absurd (comment_open k.0 piece k.1 h)
one_form form.OpenComment form.Mark piece h k = absurd (comment_open k.0 piece k.1 h)
one_form form.OpenComment form.OpenComment piece h k = refl
one_form form.OpenComment form.Sign piece h k = absurd (long_sign 42 h.0 piece h.1 k)
one_form form.Sign form.Comment piece h k = absurd (comment_sign k.0 piece k.1 h)
one_form form.Sign form.Mark piece h k = absurd (comment_sign k.0 piece k.1 h)
one_form form.Sign form.OpenComment piece h k = absurd (long_sign 42 k.0 piece k.1 h)
one_form form.Sign form.Sign piece h k = refl
one_form form.Directive form.Directive piece h k = refl
one_form form.Directive form.OtherDirective piece h k = absurd (directive_other piece h k)
one_form form.OtherDirective form.Directive piece h k = absurd (directive_other piece k h)
one_form form.OtherDirective form.OtherDirective piece h k = refl
one_form form.Word form.Word piece h k = refl
one_form form.System form.System piece h k = refl
one_form form.Decimal form.Decimal piece h k = refl
one_form form.Decimal form.Based piece h k = absurd (decimal_based piece h k)
one_form form.Based form.Decimal piece h k = absurd (decimal_based piece k h)
one_form form.Based form.Based piece h k = refl
one_form form.Based form.Fill piece h k = absurd (fill_based piece k h)
one_form form.Fill form.Based piece h k = absurd (fill_based piece h k)
one_form form.Fill form.Fill piece h k = refl
one_form f g piece h k = absurd (apart f g piece refl h k)

-- ---- a piece has one fault

one_base : (piece s t : List ℕ) (a b : Base) (d e : List ℕ) → IsBased piece s a d → IsBased piece t b e → based_fault s a d ≡ based_fault t b e
one_base piece s t a b d e h k =
    let whole : s ++ (h.head ++ d) ≡ t ++ (k.head ++ e) = sym (append_assoc s h.head d) ∙ sym h.whole ∙ k.whole ∙ append_assoc t k.head e in
    let first = head_first a h.head d h.head_form in
    let second = head_first b k.head e k.head_form in
    let r = runs_agree is_decimal_byte s t (h.head ++ d) (k.head ++ e) whole (size_bytes s h.size_form) (size_bytes t k.size_form)
    (subst (Stops is_decimal_byte) (sym first.1) refl) (subst (Stops is_decimal_byte) (sym second.1) refl) in
    let same = heads_agree a b h.head k.head d e h.head_form k.head_form r.1 in
    ap (λ (x : List ℕ). based_fault x a d) r.0 ∙ ap (λ (x : Base). based_fault t x d) same.0 ∙ ap (λ (x : List ℕ). based_fault t b x) same.2

pub one_fault : (f : Form) (piece : List ℕ) (a b : PieceFault) → FaultOf f piece a → FaultOf f piece b → a ≡ b
one_fault form.OpenComment piece a b h k = h ∙ sym k
one_fault form.OtherDirective piece a b h k =
    h.2 ∙ ap (λ (x : List ℕ). let r : PieceFault = Some (kind.Unsupported, x) in r) (tail_eq (sym h.1 ∙ k.1)) ∙ sym k.2
one_fault form.Word piece a b h k = h ∙ sym k
one_fault form.System piece a b h k = h.2 ∙ ap length_fault (tail_eq (sym h.1 ∙ k.1)) ∙ sym k.2
one_fault form.Decimal piece a b h k = h ∙ sym k
one_fault form.Based piece a b h k = h.4 ∙ ap (named piece) (one_base piece h.0 k.0 h.1 k.1 h.2 k.2 h.3 k.3) ∙ sym k.4
one_fault form.Blank piece a b h k = h ∙ sym k
one_fault form.Comment piece a b h k = h ∙ sym k
one_fault form.Mark piece a b h k = h ∙ sym k
one_fault form.Directive piece a b h k = h ∙ sym k
one_fault form.Fill piece a b h k = h ∙ sym k
one_fault form.Sign piece a b h k = h ∙ sym k

-- ---- a text is cut in one way

-- of two fronts of one text one is the front of the other
fronts : (p q a b : List ℕ) → p ++ a ≡ q ++ b → ((m : List ℕ) × (q ≡ p ++ m) × (a ≡ m ++ b)) ⊎ ((m : List ℕ) × (p ≡ q ++ m) × (b ≡ m ++ a))
fronts [] q a b e = inl (q, refl, e)
fronts (x ∷ p) [] a b e = inr (x ∷ p, refl, sym e)
fronts (x ∷ p) (y ∷ q) a b e =
    elim (fronts p q a b (tail_eq e)) [
      | inl r ↦ inl (r.0, ap (λ (v : ℕ). v ∷ q) (sym (head_eq e)) ∙ ap (λ (v : List ℕ). x ∷ v) r.1, r.2)
      | inr r ↦ inr (r.0, ap (λ (v : ℕ). v ∷ p) (head_eq e) ∙ ap (λ (v : List ℕ). y ∷ v) r.1, r.2)
    ]

-- the longest piece is one
pub longest_agree : (f g : Form) (p q a b : List ℕ) → HasForm f p → HasForm g q → IsLongest p a → IsLongest q b → p ++ a ≡ q ++ b → (p ≡ q) × (a ≡ b)
longest_agree f g p q a b h k l m e =
    elim (fronts p q a b e) [
      | inl r ↦ let none : r.0 ≡ [] = l g r.0 b r.2 (subst (HasForm g) r.1 k) in
          (sym (r.1 ∙ ap (λ (v : List ℕ). p ++ v) none ∙ append-nil p), r.2 ∙ ap (λ (v : List ℕ). v ++ b) none)
      | inr r ↦ let none : r.0 ≡ [] = m f r.0 a r.2 (subst (HasForm f) r.1 h) in
          (r.1 ∙ ap (λ (v : List ℕ). q ++ v) none ∙ append-nil q, sym (r.2 ∙ ap (λ (v : List ℕ). v ++ a) none))
    ]

-- no piece stands here
abbrev pub IsEnd : List ℕ → Type 0
IsEnd text = (f : Form) (piece after : List ℕ) → text ≡ piece ++ after → Stands f piece after → ⊥

empty_end : IsEnd []
empty_end f [] after e s = no_empty f s.has_form
empty_end f (b ∷ piece) after e s = cc

fails_end : (text : List ℕ) (k : Kind) (name : List ℕ) → Fails text k name → IsEnd text
fails_end text k name (refused g piece rest e h l fault) f p after x s =
    let same = longest_agree g f piece p rest after h s.has_form l s.longest (sym e ∙ x) in
    let form_is : g ≡ f = one_form g f piece h (subst (HasForm f) (sym same.0) s.has_form) in
    let none : FaultOf f p None = s.allowed in
    let fine : FaultOf g piece None = subst (λ (v : Form). FaultOf v piece None) (sym form_is) (subst (λ (v : List ℕ). FaultOf f v None) (sym same.0) none) in
    let z = one_fault g piece (Some (k, name)) None fault fine in
    cc
fails_end text k name (no_form b rest e none kk nn) f p after x s = none f p after x s.has_form

-- two cuttings of one text that go on as far as they can are one
pub cuts_agree : (text : List ℕ) (ps qs : List Piece) (r s : List ℕ) → CutsTo text ps r → CutsTo text qs s → IsEnd r → IsEnd s → (ps ≡ qs) × (r ≡ s)
cuts_agree text [] [] r s c d x y = (refl, sym c ∙ d)
cuts_agree text [] (q ∷ qs) r s c d x y = absurd (x q.0 q.1 d.0 (sym c ∙ d.1) d.2)
cuts_agree text (p ∷ ps) [] r s c d x y = absurd (y p.0 p.1 c.0 (sym d ∙ c.1) c.2)
cuts_agree text (p ∷ ps) (q ∷ qs) r s c d x y =
    let same = longest_agree p.0 q.0 p.1 q.1 c.0 d.0 c.2.has_form d.2.has_form c.2.longest d.2.longest (sym c.1 ∙ d.1) in
    let form_is : p.0 ≡ q.0 = one_form p.0 q.0 p.1 c.2.has_form (subst (HasForm q.0) (sym same.0) d.2.has_form) in
    let rest = cuts_agree d.0 ps qs r s (subst (λ (v : List ℕ). CutsTo v ps r) same.1 c.3) d.3 x y in
    let piece : p ≡ q = ap (λ (v : Form). let z : Piece = (v, p.1) in z) form_is ∙ ap (λ (v : List ℕ). let z : Piece = (q.0, v) in z) same.0 in
    (ap (λ (v : Piece). v ∷ ps) piece ∙ ap (λ (v : List Piece). q ∷ v) rest.0, rest.1)

-- ---- the laws

pub one_list_lem : (file : ℕ) (text : List ℕ) (a b : List Token) → IsTokens file text a → IsTokens file text b → a ≡ b
one_list_lem file text a b h k =
    let same = cuts_agree text h.0 k.0 [] [] h.1 k.1 empty_end empty_end in
    h.2 ∙ ap (tokens_of file 0) same.0 ∙ sym k.2

some_fault : (a b : Kind × List ℕ) → ◌≡◌ {A = PieceFault} (Some a) (Some b) → (a.0 ≡ b.0) × (a.1 ≡ b.1)
some_fault a b e = let z : a ≡ b = cc in (ap (λ (v : Kind × List ℕ). v.0) z, ap (λ (v : Kind × List ℕ). v.1) z)

fails_agree : (text : List ℕ) (j k : Kind) (m n : List ℕ) → Fails text j m → Fails text k n → (j ≡ k) × (m ≡ n)
fails_agree text j k m n (refused f p a e h l x) (refused g q b d i o y) =
    let same = longest_agree f g p q a b h i l o (sym e ∙ d) in
    let form_is : f ≡ g = one_form f g p h (subst (HasForm g) (sym same.0) i) in
    let other : FaultOf f p (Some (k, n)) = subst (λ (v : Form). FaultOf v p (Some (k, n))) (sym form_is) (subst (λ (v : List ℕ). FaultOf g v (Some (k, n))) (sym same.0) y) in
    some_fault (j, m) (k, n) (one_fault f p (Some (j, m)) (Some (k, n)) x other)
fails_agree text j k m n (refused f p a e h l x) (no_form b rest d none kk nn) = absurd (none f p a e h)
fails_agree text j k m n (no_form b rest e none kk nn) (refused g q a d i o y) = absurd (none g q a d i)
fails_agree text j k m n (no_form b rest e none kk nn) (no_form c other d off jj mm) =
    (kk ∙ sym jj, nn ∙ ap byte_name (head_eq (sym e ∙ d)) ∙ sym mm)

same_refusal : (a b : Refusal) → a.kind ≡ b.kind → a.place ≡ b.place → a.name ≡ b.name → a ≡ b
same_refusal a b e f g =
    ap (λ (v : Kind). let r : Refusal = record { kind = v; place = a.place; name = a.name } in r) e
    ∙ ap (λ (v : Place). let r : Refusal = record { kind = b.kind; place = v; name = a.name } in r) f
    ∙ ap (λ (v : List ℕ). let r : Refusal = record { kind = b.kind; place = b.place; name = v } in r) g

pub one_refusal_lem : (file : ℕ) (text : List ℕ) (a b : Refusal) → IsRefused file text a → IsRefused file text b → a ≡ b
one_refusal_lem file text a b h k =
    let same = cuts_agree text h.pieces k.pieces h.rest k.rest h.cut k.cut (fails_end h.rest a.kind a.name h.fails) (fails_end k.rest b.kind b.name k.fails) in
    let fault = fails_agree h.rest a.kind b.kind a.name b.name h.fails (subst (λ (v : List ℕ). Fails v b.kind b.name) (sym same.1) k.fails) in
    same_refusal a b fault.0 (h.place ∙ ap (λ (v : List Piece). place_at file (ends_of v)) same.0 ∙ sym k.place) fault.1

empty_fails : (k : Kind) (name : List ℕ) → Fails [] k name → ⊥
empty_fails k name (refused f [] rest e h l x) = no_empty f h
empty_fails k name (refused f (b ∷ piece) rest e h l x) = cc
empty_fails k name (no_form b rest e none kk nn) = cc

pub not_both_lem : (file : ℕ) (text : List ℕ) (tokens : List Token) (refusal : Refusal) → IsTokens file text tokens → IsRefused file text refusal → ⊥
not_both_lem file text tokens refusal h k =
    let same = cuts_agree text h.0 k.pieces [] k.rest h.1 k.cut empty_end (fails_end k.rest refusal.kind refusal.name k.fails) in
    empty_fails refusal.kind refusal.name (subst (λ (v : List ℕ). Fails v refusal.kind refusal.name) (sym same.1) k.fails)
