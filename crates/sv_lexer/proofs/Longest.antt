-- which piece at the front of a text is the longest
use Rattle.std.proofs.Common.{◌≡◌, ℕ, suc, ◌+◌, ◌<◌, ◌≤◌, Bool, true, false, cond, eqb, leb, List, [], ◌∷◌, ◌++◌, length, get_or, take, refl, sym, ◌∙◌, ap, subst, inl, inr, arith}
use Rattle.std.specs.List.{list_all}
use Rattle.std.specs.Str.{bytes_eq}
use Rattle.std.specs.Prelude.{codes}
use Rattle.std.proofs.lemmas.Slice.Eq.{bytes_eq-Decides}
use Rattle.std.proofs.Math.Seq.{take-append_seam}
use Rattle.std.proofs.lemmas.Bool.Decides.{nat_tests}
use Rattle.std.proofs.lemmas.Bool.{or_cases, and_parts, false_from_ne_true, cases_eq, leb-true}
use Rattle.std.proofs.lemmas.List.{append_assoc, length-append, length-take, get_or_append_left}
use Rattle.std.proofs.Math.Nat.{suc-add}
use Rattle.sv_base.specs.Spelling.{begins_name, continues_name}
use Rattle.sv_lexer.specs.Bytes.{Each, Stops, is_blank, is_in_line}
use Rattle.sv_lexer.specs.Piece.{HasForm, HasNoForm, IsLongest, IsName, IsComment, HasNoClose, is_skipped, signs, is_sign}
use Rattle.sv_lexer.specs.Scan.{lead_of, IsFound, IsCommentForm}
use Rattle.sv_lexer.proofs.Runs.{Each-append, clash, stops_here, Stops-front, runs_agree, head_eq, tail_eq}
use Rattle.sv_lexer.proofs.Leads.{leads, letter_lead, dollar_lead, slash_lead, backquote_lead, slash_is_sign, sign_passes, no_empty, elsewhere}
use Rattle.sv_lexer.specs.declared.form.Form.{Form}
use Rattle.sv_lexer.specs.declared.form.Form.TheVariants as form
use Rattle.sv_lexer.specs.declared.lead.Lead.TheVariants.{Blank, Letter, Dollar, Slash, Backquote, Sign, Other}

-- ---- where no form leads

pub no_form_from : (b : ℕ) (t : List ℕ) → ((g : Form) (more after : List ℕ) → t ≡ more ++ after → HasForm g (b ∷ more) → ⊥) → HasNoForm (b ∷ t)
no_form_from b t h g [] after e k = no_empty g k
no_form_from b t h g (c ∷ more) after e k =
    let head : c ≡ b = cc in
    let tail : t ≡ more ++ after = cc in
    h g more after tail (subst (λ (x : ℕ). HasForm g (x ∷ more)) head k)

none_other : (g : Form) → leads g Other ≡ false
none_other form.Blank = refl
none_other g = refl

pub other_no_form : (b : ℕ) (t : List ℕ) → lead_of b ≡ Other → HasNoForm (b ∷ t)
other_no_form b t e = no_form_from b t (λ g more after _ k. elsewhere g b more Other e (none_other g) k)

-- ---- blanks, words, system names

pub blank_found : (b : ℕ) (rest : List ℕ) → lead_of b ≡ Blank → is_blank b ≡ true → IsFound form.Blank (b ∷ []) rest
blank_found b rest e h = record { has_form = (b, refl, h); longest = go }
  where
    go : IsLongest (b ∷ []) rest
    go form.Blank more after x k = let y = k.1 in cc
    go g more after x k = absurd (elsewhere g b more Blank e refl k)

pub word_found : (b : ℕ) (bs rest : List ℕ) → IsName (b ∷ bs) → Stops continues_name rest → IsFound form.Word (b ∷ bs) rest
word_found b bs rest n s = record { has_form = n; longest = go }
  where
    go : IsLongest (b ∷ bs) rest
    go form.Word more after x k = stops_here continues_name rest more after x s (Each-append continues_name bs more k.1).1
    go g more after x k = absurd (elsewhere g b (bs ++ more) Letter (letter_lead b n.0) refl k)

pub start_continues_name : (b : ℕ) → begins_name b ≡ true → continues_name b ≡ true
start_continues_name b h = grind (arith, nat_tests)

-- a name has only name bytes
pub name_bytes : (word : List ℕ) → IsName word → Each continues_name word
name_bytes [] n = elim n [ ]
name_bytes (b ∷ bs) n = (start_continues_name b n.0, n.1)

name_front : (xs ys : List ℕ) → (xs ≡ [] → ⊥) → IsName (xs ++ ys) → Each continues_name ys
name_front [] ys some n = absurd (some refl)
name_front (x ∷ xs) ys some n = (Each-append continues_name xs ys n.1).1

-- a name doesn't go on past where it stops
pub name_stops : (word rest more after : List ℕ) → IsName word → Stops continues_name rest → rest ≡ more ++ after → IsName (word ++ more) → more ≡ []
name_stops [] rest more after n s e k = absurd n
name_stops (b ∷ bs) rest more after n s e k = stops_here continues_name rest more after e s (Each-append continues_name bs more k.1).1

pub system_found : (word rest : List ℕ) → IsName word → Stops continues_name rest → IsFound form.System (36 ∷ word) rest
system_found word rest n s = record { has_form = (word, refl, n); longest = go }
  where
    go : IsLongest (36 ∷ word) rest
    go form.System more after x k =
        let e : k.0 ≡ word ++ more = let y = k.1 in cc in
        name_stops word rest more after n s x (subst IsName e k.2)
    go g more after x k = absurd (elsewhere g 36 (word ++ more) Dollar dollar_lead refl k)

-- no name begins where its first byte can't stand
pub no_name : (t name after : List ℕ) → Stops begins_name t → t ≡ name ++ after → IsName name → ⊥
no_name t [] after s e n = n
no_name t (b ∷ bs) after s e n = clash (begins_name b) n.0 (subst (Stops begins_name) e s)

pub system_none : (t : List ℕ) → Stops begins_name t → HasNoForm (36 ∷ t)
system_none t s = no_form_from 36 t go
  where
    go : (g : Form) (more after : List ℕ) → t ≡ more ++ after → HasForm g (36 ∷ more) → ⊥
    go form.System more after x k =
        let e : more ≡ k.0 = let y = k.1 in cc in
        no_name t k.0 after s (subst (λ (m : List ℕ). t ≡ m ++ after) e x) k.2
    go g more after x k = elsewhere g 36 more Dollar dollar_lead refl k

-- ---- signs

-- the only sign with `/` first is `/`
abbrev is_empty : List ℕ → Bool
is_empty [] = true
is_empty (b ∷ bs) = false

abbrev slash_alone : List ℕ → Bool
slash_alone [] = true
slash_alone (b ∷ bs) = cond (eqb b 47) (is_empty bs) true

signs_slash : list_all slash_alone signs ≡ true
signs_slash = refl

pub slash_sign : (more : List ℕ) → is_sign (47 ∷ more) ≡ true → more ≡ []
unfolding is_sign
slash_sign [] h = refl
slash_sign (m ∷ more) h = let x : false ≡ true = sign_passes slash_alone signs (47 ∷ m ∷ more) signs_slash h in cc

-- a sign has one to three bytes
abbrev is_short : List ℕ → Bool
is_short bs = leb (length bs) 3

signs_short : list_all is_short signs ≡ true
signs_short = refl

pub sign_short : (piece : List ℕ) → is_sign piece ≡ true → length piece ≤ 3
unfolding is_sign
sign_short piece h = leb-true (length piece) 3 (sign_passes is_short signs piece signs_short h)

-- a longer front is no sign
pub long_no_sign : (s : List ℕ) (m : ℕ) → 3 < m → m ≤ length s → is_sign (take m s) ≡ false
long_no_sign s m lt le =
    false_from_ne_true (is_sign (take m s)) (λ h. let short = sign_short (take m s) h in let size = length-take m s in absurd (omega arith))

-- the front of one length is no sign, and no longer one is
pub no_sign_from : (s : List ℕ) (n : ℕ) → (n ≤ length s → is_sign (take n s) ≡ false) → ((m : ℕ) → n < m → m ≤ length s → is_sign (take m s) ≡ false) → (k : ℕ) → n ≡ suc k → (m : ℕ) → k < m → m ≤ length s → is_sign (take m s) ≡ false
no_sign_from s n here above k e m lt le =
    elim (cases_eq n m) [
      | inl same ↦ rw (sym same) (here (omega arith))
      | inr other ↦ above m (omega arith) le
    ]

pub sign_found : (b : ℕ) (bs rest : List ℕ) → lead_of b ≡ Sign → is_sign (b ∷ bs) ≡ true → ((m : ℕ) → length (b ∷ bs) < m → m ≤ length ((b ∷ bs) ++ rest) → is_sign (take m ((b ∷ bs) ++ rest)) ≡ false) → IsFound form.Sign (b ∷ bs) rest
sign_found b bs rest e h none = record { has_form = h; longest = go }
  where
    goes_on : (more after : List ℕ) → rest ≡ more ++ after → is_sign ((b ∷ bs) ++ more) ≡ true → more ≡ []
    goes_on [] after x k = refl
    goes_on (c ∷ more) after x k =
        let front : List ℕ = (b ∷ bs) ++ (c ∷ more) in
        let text : (b ∷ bs) ++ rest ≡ front ++ after = ap (λ (r : List ℕ). (b ∷ bs) ++ r) x ∙ sym (append_assoc (b ∷ bs) (c ∷ more) after) in
        let size : length front ≡ length (b ∷ bs) + length (c ∷ more) = length-append (b ∷ bs) (c ∷ more) in
        let whole : length ((b ∷ bs) ++ rest) ≡ length front + length after = ap length text ∙ length-append front after in
        let cut : take (length front) ((b ∷ bs) ++ rest) ≡ front = ap (take (length front)) text ∙ take-append_seam front after in
        let off : is_sign (take (length front) ((b ∷ bs) ++ rest)) ≡ false = none (length front) (omega arith) (omega arith) in
        absurd (clash (is_sign front) k (ap is_sign (sym cut) ∙ off))

    go : IsLongest (b ∷ bs) rest
    go form.Sign more after x k = goes_on more after x k
    go g more after x k = absurd (elsewhere g b (bs ++ more) Sign e refl k)

-- `/` alone, where no comment begins
pub slash_found : (rest : List ℕ) → ((t : List ℕ) → rest ≡ 47 ∷ t → ⊥) → ((t : List ℕ) → rest ≡ 42 ∷ t → ⊥) → IsFound form.Sign (47 ∷ []) rest
slash_found rest no_line no_block = record { has_form = slash_is_sign; longest = go }
  where
    comment : (content more after : List ℕ) → rest ≡ more ++ after → IsComment content (47 ∷ more) → ⊥
    comment content more after x k =
        elim k [
          | inl y ↦ let e : more ≡ 47 ∷ content = let z = y.0 in cc in no_line _ (x ∙ ap (λ (m : List ℕ). m ++ after) e)
          | inr y ↦ let e : more ≡ 42 ∷ content ++ 42 ∷ 47 ∷ [] = let z = y.0 in cc in no_block _ (x ∙ ap (λ (m : List ℕ). m ++ after) e)
        ]

    go : IsLongest (47 ∷ []) rest
    go form.Sign more after x k = slash_sign more k
    go form.Comment more after x k = absurd (comment k.0 more after x k.1)
    go form.Mark more after x k = absurd (comment k.0 more after x k.1)
    go form.OpenComment more after x k =
        let e : more ≡ 42 ∷ k.0 = let z = k.1 in cc in absurd (no_block _ (x ∙ ap (λ (m : List ℕ). m ++ after) e))
    go g more after x k = absurd (elsewhere g 47 more Slash slash_lead refl k)

-- ---- comments

pub comment_form : (f : Form) (content piece : List ℕ) → IsCommentForm f content → IsComment content piece → HasForm f piece
comment_form f content piece (inl k) h = subst (λ (x : Form). HasForm x piece) (sym k.0) (content, h, k.1)
comment_form f content piece (inr k) h = subst (λ (x : Form). HasForm x piece) (sym k.0) (content, h, k.1)

pub line_found : (f : Form) (content rest : List ℕ) → IsCommentForm f content → Each is_in_line content → Stops is_in_line rest → IsFound f (47 ∷ 47 ∷ content) rest
line_found f content rest c h s = record { has_form = comment_form f content _ c (inl (refl, h)); longest = go }
  where
    comment : (other more after : List ℕ) → rest ≡ more ++ after → IsComment other (47 ∷ 47 ∷ content ++ more) → more ≡ []
    comment other more after x k =
        elim k [
          | inl y ↦ let e : other ≡ content ++ more = let z = y.0 in cc in
              stops_here is_in_line rest more after x s (Each-append is_in_line content more (subst (Each is_in_line) e y.1)).1
          | inr y ↦ let z = head_eq (tail_eq y.0) in absurd (omega arith)
        ]

    go : IsLongest (47 ∷ 47 ∷ content) rest
    go form.Comment more after x k = comment k.0 more after x k.1
    go form.Mark more after x k = comment k.0 more after x k.1
    go form.OpenComment more after x k = let z = head_eq (tail_eq k.1) in absurd (omega arith)
    go form.Sign more after x k = let z : 47 ∷ content ++ more ≡ [] = slash_sign (47 ∷ content ++ more) k in cc
    go g more after x k = absurd (elsewhere g 47 (47 ∷ content ++ more) Slash slash_lead refl k)

-- the place of a `*/` in a comment that isn't closed before it
closes : (content more : List ℕ) → (get_or (content ++ 42 ∷ 47 ∷ more) (length content) 0 ≡ 42) × (get_or (content ++ 42 ∷ 47 ∷ more) (length content + 1) 0 ≡ 47)
closes [] more = (refl, refl)
closes (c ∷ content) more =
    let r : (get_or (content ++ 42 ∷ 47 ∷ more) (length content) 0 ≡ 42) × (get_or (content ++ 42 ∷ 47 ∷ more) (length content + 1) 0 ≡ 47) = closes content more in
    (r.0, rw (suc-add (length content) 1) r.1)

-- a list that has a `*/` is not open
pub no_close_absurd : (content more : List ℕ) → HasNoClose (content ++ 42 ∷ 47 ∷ more) → ⊥
no_close_absurd content more h = let r = closes content more in h (length content) r.0 r.1

-- a comment that is closed has no `*/` before its last
closed_once : (content other more : List ℕ) → content ++ 42 ∷ 47 ∷ more ≡ other ++ 42 ∷ 47 ∷ [] → HasNoClose (other ++ 42 ∷ []) → more ≡ []
closed_once content other [] e h = refl
closed_once content other (m ∷ more) e h =
    let sizes : length content + suc (suc (length (m ∷ more))) ≡ length other + 2 = sym (length-append content (42 ∷ 47 ∷ m ∷ more)) ∙ ap length e ∙ length-append other (42 ∷ 47 ∷ []) in
    let shorter : length content < length other = omega arith in
    let r = closes content (m ∷ more) in
    let split : other ++ 42 ∷ 47 ∷ [] ≡ (other ++ 42 ∷ []) ++ 47 ∷ [] = sym (append_assoc other (42 ∷ []) (47 ∷ [])) in
    let size : length (other ++ 42 ∷ []) ≡ length other + 1 = length-append other (42 ∷ []) in
    let star : get_or (other ++ 42 ∷ []) (length content) 0 ≡ 42 =
    sym (get_or_append_left (other ++ 42 ∷ []) (47 ∷ []) 0 (length content) (omega arith)) ∙ ap (λ (x : List ℕ). get_or x (length content) 0) (sym (e ∙ split)) ∙ r.0 in
    let slash : get_or (other ++ 42 ∷ []) (length content + 1) 0 ≡ 47 =
    sym (get_or_append_left (other ++ 42 ∷ []) (47 ∷ []) 0 (length content + 1) (omega arith)) ∙ ap (λ (x : List ℕ). get_or x (length content + 1) 0) (sym (e ∙ split)) ∙ r.1 in
    absurd (h (length content) star slash)

pub block_found : (f : Form) (content rest : List ℕ) → IsCommentForm f content → HasNoClose (content ++ 42 ∷ []) → IsFound f (47 ∷ 42 ∷ content ++ 42 ∷ 47 ∷ []) rest
block_found f content rest c h = record { has_form = comment_form f content _ c (inr (refl, h)); longest = go }
  where
    comment : (other more : List ℕ) → IsComment other (47 ∷ 42 ∷ (content ++ 42 ∷ 47 ∷ []) ++ more) → more ≡ []
    comment other more k =
        elim k [
          | inl y ↦ let z = head_eq (tail_eq y.0) in absurd (omega arith)
          | inr y ↦ closed_once content other more (sym (append_assoc content (42 ∷ 47 ∷ []) more) ∙ tail_eq (tail_eq y.0)) y.1
        ]

    go : IsLongest (47 ∷ 42 ∷ content ++ 42 ∷ 47 ∷ []) rest
    go form.Comment more after x k = comment k.0 more k.1
    go form.Mark more after x k = comment k.0 more k.1
    go form.OpenComment more after x k =
        let e : content ++ 42 ∷ 47 ∷ more ≡ k.0 = sym (append_assoc content (42 ∷ 47 ∷ []) more) ∙ tail_eq (tail_eq k.1) in
        absurd (no_close_absurd content more (subst HasNoClose (sym e) k.2))
    go form.Sign more after x k = let z : 42 ∷ (content ++ 42 ∷ 47 ∷ []) ++ more ≡ [] = slash_sign _ k in cc
    go g more after x k = absurd (elsewhere g 47 (42 ∷ (content ++ 42 ∷ 47 ∷ []) ++ more) Slash slash_lead refl k)

-- an open comment goes on to the end of the text
pub open_found : (content : List ℕ) → HasNoClose content → IsFound form.OpenComment (47 ∷ 42 ∷ content) []
open_found content h = record { has_form = (content, refl, h); longest = go }
  where
    go : IsLongest (47 ∷ 42 ∷ content) []
    go g [] after x k = refl
    go g (m ∷ more) after x k = cc

-- ---- directives

each_test : (p : ℕ → Bool) (xs : List ℕ) → list_all p xs ≡ true → Each p xs
each_test p [] h = tt
each_test p (x ∷ xs) h = let r = and_parts (p x) (list_all p xs) h in (r.0, each_test p xs r.1)

skipped_name : (word : List ℕ) → is_skipped word ≡ true → IsName word
skipped_name word h =
    elim (or_cases _ (bytes_eq word (codes "resetall")) h) [
      | inr e ↦ subst IsName (sym ((bytes_eq-Decides word (codes "resetall")).0 e)) (refl, each_test continues_name (codes "esetall") refl)
      | inl r ↦ elim (or_cases (bytes_eq word (codes "timescale")) (bytes_eq word (codes "default_nettype")) r) [
        | inl e ↦ subst IsName (sym ((bytes_eq-Decides word (codes "timescale")).0 e)) (refl, each_test continues_name (codes "imescale") refl)
        | inr e ↦ subst IsName (sym ((bytes_eq-Decides word (codes "default_nettype")).0 e)) (refl, each_test continues_name (codes "efault_nettype") refl)
      ]
    ]

append_empty : (xs ys : List ℕ) → xs ++ ys ≡ [] → ys ≡ []
append_empty [] ys e = e
append_empty (x ∷ xs) ys e = cc

-- what stops at a longer text stops at its front
stops_front : (p : ℕ → Bool) (tail rest more after : List ℕ) → rest ≡ more ++ after → Stops p (tail ++ rest) → Stops p (tail ++ more)
stops_front p tail rest more after e s =
    Stops-front p (tail ++ more) after (subst (Stops p) (ap (λ (r : List ℕ). tail ++ r) e ∙ sym (append_assoc tail more after)) s)

pub directive_found : (word tail rest : List ℕ) → is_skipped word ≡ true → Stops continues_name (tail ++ rest) → Each is_in_line tail → Stops is_in_line rest → IsFound form.Directive (96 ∷ word ++ tail) rest
directive_found word tail rest w s l e = record {
  has_form = (word, tail, refl, w, Stops-front continues_name tail rest s, l);
  longest = go;
}
  where
    go : IsLongest (96 ∷ word ++ tail) rest
    go form.Directive more after x k =
        let whole : word ++ (tail ++ more) ≡ k.0 ++ k.1 = sym (append_assoc word tail more) ∙ tail_eq k.2 in
        let r = runs_agree continues_name word k.0 (tail ++ more) k.1 whole (name_bytes word (skipped_name word w)) (name_bytes k.0 (skipped_name k.0 k.3)) (stops_front continues_name tail rest more after x s) k.4 in
        stops_here is_in_line rest more after x e (Each-append is_in_line tail more (subst (Each is_in_line) (sym r.1) k.5)).1
    go form.OtherDirective more after x k =
        let whole : word ++ (tail ++ more) ≡ k.0 = sym (append_assoc word tail more) ∙ tail_eq k.1 in
        let bytes : Each continues_name (tail ++ more) = (Each-append continues_name word (tail ++ more) (subst (Each continues_name) (sym whole) (name_bytes k.0 k.2))).1 in
        let split : tail ++ rest ≡ (tail ++ more) ++ after = ap (λ (r : List ℕ). tail ++ r) x ∙ sym (append_assoc tail more after) in
        append_empty tail more (stops_here continues_name (tail ++ rest) (tail ++ more) after split s bytes)
    go g more after x k = absurd (elsewhere g 96 ((word ++ tail) ++ more) Backquote backquote_lead refl k)

pub other_directive_found : (word rest : List ℕ) → IsName word → is_skipped word ≡ false → Stops continues_name rest → IsFound form.OtherDirective (96 ∷ word) rest
other_directive_found word rest n w s = record { has_form = (word, refl, n, w); longest = go }
  where
    go : IsLongest (96 ∷ word) rest
    go form.Directive more after x k =
        let r = runs_agree continues_name word k.0 more k.1 (tail_eq k.2) (name_bytes word n) (name_bytes k.0 (skipped_name k.0 k.3)) (stops_front continues_name [] rest more after x s) k.4 in
        absurd (clash (is_skipped word) (subst (λ (v : List ℕ). is_skipped v ≡ true) (sym r.0) k.3) w)
    go form.OtherDirective more after x k = name_stops word rest more after n s x (subst IsName (sym (tail_eq k.1)) k.2)
    go g more after x k = absurd (elsewhere g 96 (word ++ more) Backquote backquote_lead refl k)

pub directive_none : (t : List ℕ) → Stops begins_name t → HasNoForm (96 ∷ t)
directive_none t s = no_form_from 96 t go
  where
    go : (g : Form) (more after : List ℕ) → t ≡ more ++ after → HasForm g (96 ∷ more) → ⊥
    go form.Directive more after x k =
        let e : t ≡ k.0 ++ (k.1 ++ after) = x ∙ ap (λ (m : List ℕ). m ++ after) (tail_eq k.2) ∙ append_assoc k.0 k.1 after in
        no_name t k.0 (k.1 ++ after) s e (skipped_name k.0 k.3)
    go form.OtherDirective more after x k = no_name t k.0 after s (x ∙ ap (λ (m : List ℕ). m ++ after) (tail_eq k.1)) k.2
    go g more after x k = elsewhere g 96 more Backquote backquote_lead refl k
