-- the first byte of a piece, and the forms that it leads to
use Rattle.std.proofs.Common.{◌≡◌, ◌⊎◌, ℕ, Bool, true, false, cond, eqb, List, [], ◌∷◌, ◌++◌, refl, sym, ◌∙◌, ap, subst, inl, inr, arith}
use Rattle.std.specs.List.{list_any, list_all}
use Rattle.std.specs.Str.{bytes_eq}
use Rattle.std.specs.Char.{is_ascii_digit}
use Rattle.std.proofs.lemmas.Bool.{eqb-true, or_cases, and_parts, cond-true, cond-false}
use Rattle.std.proofs.lemmas.Bool.Decides.{nat_tests}
use Rattle.std.proofs.lemmas.Slice.Eq.{bytes_eq-Decides}
use Rattle.sv_base.specs.Spelling.{begins_name}
use Rattle.sv_lexer.specs.Bytes.{is_blank}
use Rattle.sv_lexer.specs.Piece.{HasForm, IsHead, IsDecimal, signs, is_sign}
use Rattle.sv_lexer.specs.declared.form.Base.{Base}
use Rattle.sv_lexer.specs.Scan.{lead_of}
use Rattle.sv_lexer.specs.declared.form.Form.{Form}
use Rattle.sv_lexer.specs.declared.form.Form.TheVariants as form
use Rattle.sv_lexer.specs.declared.lead.Lead.{Lead}
use Rattle.sv_lexer.specs.declared.lead.Lead.TheVariants.{Blank, Letter, Digit, Dollar, Quote, Slash, Backquote, Sign, Other}

-- which forms begin with which first byte
abbrev pub leads : Form → Lead → Bool
leads form.Blank Blank = true
leads form.Comment Slash = true
leads form.Mark Slash = true
leads form.OpenComment Slash = true
leads form.Directive Backquote = true
leads form.OtherDirective Backquote = true
leads form.Word Letter = true
leads form.System Dollar = true
leads form.Decimal Digit = true
leads form.Based Digit = true
leads form.Based Quote = true
leads form.Fill Quote = true
leads form.Sign Sign = true
leads form.Sign Slash = true
leads f l = false

-- a byte that is one of five
pub blank_lead : (b : ℕ) → is_blank b ≡ true → lead_of b ≡ Blank
unfolding lead_of is_sign
blank_lead b h =
    elim (or_cases _ (eqb b 13) h) [
      | inr e ↦ rw (eqb-true b 13 e) refl
      | inl h3 ↦ elim (or_cases _ (eqb b 12) h3) [
        | inr e ↦ rw (eqb-true b 12 e) refl
        | inl h2 ↦ elim (or_cases _ (eqb b 10) h2) [
          | inr e ↦ rw (eqb-true b 10 e) refl
          | inl h1 ↦ elim (or_cases (eqb b 32) (eqb b 9) h1) [
            | inl e ↦ rw (eqb-true b 32 e) refl
            | inr e ↦ rw (eqb-true b 9 e) refl
          ]
        ]
      ]
    ]

pub letter_lead : (b : ℕ) → begins_name b ≡ true → lead_of b ≡ Letter
unfolding lead_of is_sign
letter_lead b h = cond-true _ _ _ h

pub digit_no_start : (b : ℕ) → is_ascii_digit b ≡ true → begins_name b ≡ false
digit_no_start b h = grind (arith, nat_tests)

pub digit_lead : (b : ℕ) → is_ascii_digit b ≡ true → lead_of b ≡ Digit
unfolding lead_of is_sign
digit_lead b h = cond-false _ _ _ (digit_no_start b h) ∙ cond-true _ _ _ h

pub dollar_lead : lead_of 36 ≡ Dollar
unfolding lead_of is_sign
dollar_lead = refl

pub quote_lead : lead_of 39 ≡ Quote
unfolding lead_of is_sign
quote_lead = refl

pub slash_lead : lead_of 47 ≡ Slash
unfolding lead_of is_sign
slash_lead = refl

pub backquote_lead : lead_of 96 ≡ Backquote
unfolding lead_of is_sign
backquote_lead = refl

-- what each sign of a table passes, a sign passes
pub sign_passes : (test : List ℕ → Bool) (table : List (List ℕ)) (piece : List ℕ) → list_all test table ≡ true → list_any (bytes_eq piece) table ≡ true → test piece ≡ true
sign_passes test [] piece h k = absurd (cc)
sign_passes test (s ∷ table) piece h k =
    let parts : (test s ≡ true) × (list_all test table ≡ true) = and_parts (test s) (list_all test table) h in
    elim (or_cases (bytes_eq piece s) (list_any (bytes_eq piece) table) k) [
      | inl e ↦ subst (λ (x : List ℕ). test x ≡ true) (sym ((bytes_eq-Decides piece s).0 e)) parts.0
      | inr e ↦ sign_passes test table piece parts.1 e
    ]

-- the first byte of a sign
abbrev leads_sign : List ℕ → Bool
leads_sign [] = false
leads_sign (b ∷ bs) = leads form.Sign (lead_of b)

signs_lead : list_all leads_sign signs ≡ true
unfolding lead_of is_sign
signs_lead = refl

pub sign_lead : (b : ℕ) (more : List ℕ) → is_sign (b ∷ more) ≡ true → leads form.Sign (lead_of b) ≡ true
unfolding is_sign
sign_lead b more h = sign_passes leads_sign signs (b ∷ more) signs_lead h

-- a base part begins with `'`
pub head_first : (base : Base) (head digits : List ℕ) → IsHead base head → (rest : List ℕ) × (head ++ digits ≡ 39 ∷ rest)
head_first base head digits h =
    elim h.2 [
      | inl e ↦ (_, ap (λ (x : List ℕ). x ++ digits) e)
      | inr r ↦ elim r [
        | inl e ↦ (_, ap (λ (x : List ℕ). x ++ digits) e)
        | inr e ↦ (_, ap (λ (x : List ℕ). x ++ digits) e)
      ]
    ]

-- a based number begins with a digit or `'`
pub based_first : (text size head digits : List ℕ) (base : Base) → text ≡ size ++ head ++ digits → (size ≡ []) ⊎ IsDecimal size → IsHead base head → (b : ℕ) × (rest : List ℕ) × (text ≡ b ∷ rest) × ((is_ascii_digit b ≡ true) ⊎ (b ≡ 39))
based_first text [] head digits base e f h =
    let r : (rest : List ℕ) × (head ++ digits ≡ 39 ∷ rest) = head_first base head digits h in (39, r.0, e ∙ r.1, inr refl)
based_first text (b ∷ bs) head digits base e (inl f) h = absurd (cc)
based_first text (b ∷ bs) head digits base e (inr f) h = (b, _, e, inl f.0)

pub empty_sign : is_sign [] ≡ true → ⊥
unfolding is_sign
empty_sign h = cc

pub slash_is_sign : is_sign (47 ∷ []) ≡ true
unfolding is_sign
slash_is_sign = refl

-- a piece isn't empty
pub no_empty : (g : Form) → HasForm g [] → ⊥
no_empty form.Blank h = let e = h.1 in cc
no_empty form.Comment h = elim h.1 [ inl e ↦ let x = e.0 in cc | inr e ↦ let x = e.0 in cc ]
no_empty form.Mark h = elim h.1 [ inl e ↦ let x = e.0 in cc | inr e ↦ let x = e.0 in cc ]
no_empty form.OpenComment h = let e = h.1 in cc
no_empty form.Directive h = let e = h.2 in cc
no_empty form.OtherDirective h = let e = h.1 in cc
no_empty form.Word h = h
no_empty form.System h = let e = h.1 in cc
no_empty form.Decimal h = h
no_empty form.Based h = let r = based_first [] h.0 h.3.head h.2 h.1 h.3.whole h.3.size_form h.3.head_form in let e = r.2 in cc
no_empty form.Fill h = elim h [ inl e ↦ cc | inr e ↦ cc ]
no_empty form.Sign h = empty_sign h

-- the first byte of a piece
pub lead : (g : Form) (b : ℕ) (more : List ℕ) → HasForm g (b ∷ more) → leads g (lead_of b) ≡ true
lead form.Blank b more h =
    let e : h.0 ≡ b = let x = h.1 in cc in
    ap (leads form.Blank) (blank_lead b (subst (λ (x : ℕ). is_blank x ≡ true) e h.2))
lead form.Comment b more h =
    elim h.1 [
      | inl k ↦ let e : b ≡ 47 = let x = k.0 in cc in ap (λ (x : ℕ). leads form.Comment (lead_of x)) e ∙ ap (leads form.Comment) slash_lead
      | inr k ↦ let e : b ≡ 47 = let x = k.0 in cc in ap (λ (x : ℕ). leads form.Comment (lead_of x)) e ∙ ap (leads form.Comment) slash_lead
    ]
lead form.Mark b more h =
    elim h.1 [
      | inl k ↦ let e : b ≡ 47 = let x = k.0 in cc in ap (λ (x : ℕ). leads form.Mark (lead_of x)) e ∙ ap (leads form.Mark) slash_lead
      | inr k ↦ let e : b ≡ 47 = let x = k.0 in cc in ap (λ (x : ℕ). leads form.Mark (lead_of x)) e ∙ ap (leads form.Mark) slash_lead
    ]
lead form.OpenComment b more h =
    let e : b ≡ 47 = let x = h.1 in cc in ap (λ (x : ℕ). leads form.OpenComment (lead_of x)) e ∙ ap (leads form.OpenComment) slash_lead
lead form.Directive b more h =
    let e : b ≡ 96 = let x = h.2 in cc in ap (λ (x : ℕ). leads form.Directive (lead_of x)) e ∙ ap (leads form.Directive) backquote_lead
lead form.OtherDirective b more h =
    let e : b ≡ 96 = let x = h.1 in cc in ap (λ (x : ℕ). leads form.OtherDirective (lead_of x)) e ∙ ap (leads form.OtherDirective) backquote_lead
lead form.Word b more h = ap (leads form.Word) (letter_lead b h.0)
lead form.System b more h =
    let e : b ≡ 36 = let x = h.1 in cc in ap (λ (x : ℕ). leads form.System (lead_of x)) e ∙ ap (leads form.System) dollar_lead
lead form.Decimal b more h = ap (leads form.Decimal) (digit_lead b h.0)
lead form.Based b more h =
    let r = based_first (b ∷ more) h.0 h.3.head h.2 h.1 h.3.whole h.3.size_form h.3.head_form in
    let e : r.0 ≡ b = let x = r.2 in cc in
    elim r.3 [
      | inl k ↦ ap (leads form.Based) (digit_lead b (subst (λ (x : ℕ). is_ascii_digit x ≡ true) e k))
      | inr k ↦ ap (λ (x : ℕ). leads form.Based (lead_of x)) (sym e ∙ k) ∙ ap (leads form.Based) quote_lead
    ]
lead form.Fill b more h =
    elim h [
      | inl k ↦ let e : b ≡ 39 = cc in ap (λ (x : ℕ). leads form.Fill (lead_of x)) e ∙ ap (leads form.Fill) quote_lead
      | inr k ↦ let e : b ≡ 39 = cc in ap (λ (x : ℕ). leads form.Fill (lead_of x)) e ∙ ap (leads form.Fill) quote_lead
    ]
lead form.Sign b more h = sign_lead b more h

-- A piece whose first byte leads elsewhere has not this form.
pub elsewhere : (g : Form) (b : ℕ) (more : List ℕ) (l : Lead) → lead_of b ≡ l → leads g l ≡ false → HasForm g (b ∷ more) → ⊥
elsewhere g b more l e off h = let yes : leads g l ≡ true = sym (ap (leads g) e) ∙ lead g b more h in cc

chain : (a b c d e f g h : Bool) → cond a Letter (cond b Digit (cond c Blank (cond d Dollar (cond e Quote (cond f Slash (cond g Backquote (cond h Sign Other))))))) ≡ Sign → h ≡ true
chain true b c d e f g h x = cc
chain false true c d e f g h x = cc
chain false false true d e f g h x = cc
chain false false false true e f g h x = cc
chain false false false false true f g h x = cc
chain false false false false false true g h x = cc
chain false false false false false false true h x = cc
chain false false false false false false false true x = refl
chain false false false false false false false false x = cc

-- a byte that leads to signs is one
pub lead_is_sign : (b : ℕ) → lead_of b ≡ Sign → is_sign (b ∷ []) ≡ true
unfolding lead_of is_sign
lead_is_sign b e = chain (begins_name b) (is_ascii_digit b) (is_blank b) (eqb b 36) (eqb b 39) (eqb b 47) (eqb b 96) (is_sign (b ∷ [])) e
