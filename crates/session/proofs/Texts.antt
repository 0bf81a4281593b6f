-- The text of a trace, line by line.
use Rattle.std.proofs.Common.{◌≡◌, ℕ, ◌+◌, ◌≤◌, List, [], ◌∷◌, ◌++◌, length, take, Option, refl, sym, ◌∙◌, ap, subst, append_assoc, length-append, arith}
use Rattle.std.proofs.lemmas.List.{append-nil, take-append-le}
use Rattle.std.proofs.Math.Seq.{take-append-add}
use Rattle.io_edge.specs.Told.{Added, AddedShort, added_both}
use Rattle.sv_base.specs.declared.face.Port.{Port}
use Rattle.sv_base.specs.TraceText.{header, line, lines_of_rows, trace_text}
use Rattle.session.specs.Playing.{text_before, text_with}

lines-snoc : (n : ℕ) (ports : List Port) (rows : List (List ℕ)) (row : List ℕ) →
    lines_of_rows n ports (rows ++ row ∷ []) ≡ lines_of_rows n ports rows ++ line (n + length rows) ports row
lines-snoc n ports [] row = let e : n + 0 ≡ n = omega arith in append-nil (line n ports row) ∙ sym (ap (λ k. line k ports row) e)
lines-snoc n ports (first ∷ rows) row =
    let e : n + 1 + length rows ≡ n + length (first ∷ rows) = omega arith in
    ap (λ text. line n ports first ++ text) (lines-snoc (n + 1) ports rows row)
    ∙ sym (append_assoc (line n ports first) (lines_of_rows (n + 1) ports rows) (line (n + 1 + length rows) ports row))
    ∙ ap (λ k. line n ports first ++ lines_of_rows (n + 1) ports rows ++ line k ports row) e

-- what is due before the row behind these is what was due before the last of them, and with it
pub before-snoc : (ports : List Port) (rows : List (List ℕ)) (row : List ℕ) →
    text_before ports (rows ++ row ∷ []) ≡ text_before ports rows ++ text_with ports rows row
before-snoc ports [] row = ap (λ text. header ports ++ text) (append-nil (line 0 ports row))
before-snoc ports (first ∷ rows) row =
    let e : 0 + length (first ∷ rows) ≡ length (first ∷ rows) = omega arith in
    ap (λ text. header ports ++ text) (lines-snoc 0 ports (first ∷ rows) row)
    ∙ sym (append_assoc (header ports) (lines_of_rows 0 ports (first ∷ rows)) (line (0 + length (first ∷ rows)) ports row))
    ∙ ap (λ k. header ports ++ lines_of_rows 0 ports (first ∷ rows) ++ line k ports row) e

-- the whole text of rows
pub text-snoc : (ports : List Port) (shown : List (List ℕ)) (row : List ℕ) →
    trace_text ports (shown ++ row ∷ []) ≡ text_before ports shown ++ text_with ports shown row
text-snoc ports [] row = before-snoc ports [] row
text-snoc ports (first ∷ rows) row = before-snoc ports (first ∷ rows) row

-- and with it comes its line alone
pub with-snoc : (ports : List Port) (rows : List (List ℕ)) (row next : List ℕ) → text_with ports (rows ++ row ∷ []) next ≡ line (length rows + 1) ports next
with-snoc ports [] row next = refl
with-snoc ports (first ∷ rows) row next = ap (λ n. line n ports next) (length-append (first ∷ rows) (row ∷ []))

-- ---- what was added

-- some bytes, and then a front of others without its last
pub short_after : (before mid after : Option (List ℕ)) (xs ys : List ℕ) → Added before mid xs → AddedShort mid after ys → AddedShort before after (xs ++ ys)
short_after before mid after xs ys added short = (
  length xs + short.0,
  omega (arith, length-append xs ys, short.1),
  subst (λ zs. Added before after zs) (sym (take-append-add xs ys short.0)) (added_both before mid after xs (take short.0 ys) added short.2),
)

-- a front without its last is so of more bytes
pub short_of_more : (before after : Option (List ℕ)) (xs ys : List ℕ) → AddedShort before after xs → AddedShort before after (xs ++ ys)
short_of_more before after xs ys short =
    let within : short.0 ≤ length xs = omega (arith, short.1) in
    (short.0, omega (arith, length-append xs ys, short.1), subst (λ zs. Added before after zs) (sym (take-append-le short.0 xs ys within)) short.2)
