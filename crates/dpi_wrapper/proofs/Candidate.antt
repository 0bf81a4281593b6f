-- What the comments of the text of a good face say is that face.
use Rattle.std.proofs.Common.{◌≡◌, ℕ, suc, ◌+◌, ◌-◌, ◌*◌, ◌^◌, ◌≤◌, ◌<◌, Bool, false, inl, inr, List, [], ◌∷◌, ◌++◌, length, get_or, map, Option, Some, None, Result, Ok, Err, refl, sym, ap, subst, ◌∙◌, append_assoc, arith}
use Rattle.std.specs.Prelude.{codes, nat_lt, IfOk, IfNone}
use Rattle.std.specs.List.{flat_map, filter, enumerate_from, All, AllPairs, AllByRecursion}
use Rattle.std.specs.Fmt.{decimal}
use Rattle.std.proofs.lemmas.Bool.{cases_Bool, cases_lt, le-ltb}
use Rattle.std.proofs.lemmas.List.{take_at, drop_at, length-append, map-id, get_or_past}
use Rattle.std.proofs.lemmas.List.Elements.{All-head, All-tail, recursion_from_All}
use Rattle.std.proofs.lemmas.List.FromFn.{length-enumerate_from}
use Rattle.hex.specs.Hex.{encode_lower, lower_digits, decode_sized, IsBytes}
use Rattle.hex.proofs.HexLemmas.{length-encode_with, decode_sized-twice, decode_of-encode_lower}
use Rattle.sv_base.specs.Classes.{is_value, is_output}
use Rattle.sv_base.specs.declared.face.Port.{Port}
use Rattle.sv_base.specs.declared.face.Face.{Face}
use Rattle.sv_base.specs.declared.face.WrapperFace.{WrapperFace}
use Rattle.dpi_wrapper.specs.declared.good.TheConstants.{PORT_LIMIT, DIGEST_LENGTH}
use Rattle.dpi_wrapper.specs.WrapperText.{ports_of, class_word, sign_word, version_line, digest_line, port_line, position_word, depends_line, comments, module_line, declarations, header, imports, variables, processes, module_text, wrapper_text}
use Rattle.dpi_wrapper.specs.GoodFace.{IsGoodPort, IsDigest, IsGoodWrapper}
use Rattle.dpi_wrapper.specs.code.Reading.{behind, number_at, digest_at, items_at, port_at, row_at, candidate_of}
use Rattle.dpi_wrapper.proofs.Again.{behind_again, word_again, name_has_no_blank, class_has_no_blank, class_again, sign_has_no_blank, sign_again, number_again}
use Rattle.dpi_wrapper.proofs.Items.{IsReadable, items_text, no_digit_behind, items_again}

-- texts that are one for each item are one for all
flat_map-same : {X : Type 0} (f g : X → List ℕ) → ((x : X) → f x ≡ g x) → (xs : List X) → flat_map f xs ≡ flat_map g xs
flat_map-same f g same [] = refl
flat_map-same f g same (x ∷ xs) = ap (λ t. t ++ flat_map f xs) (same x) ∙ ap (λ t. g x ++ t) (flat_map-same f g same xs)

-- ---- ports

-- what stands behind the front of a port's line
abbrev port_text : Port → List ℕ
port_text p = p.name ++ (codes " " ++ (class_word p.class ++ (codes " " ++ (sign_word p.signed ++ (codes " " ++ (decimal p.width ++ codes "\n"))))))

grouped_port : (a n b c s d e : List ℕ) → ((((((((a ++ n) ++ b) ++ c) ++ b) ++ s) ++ b) ++ d) ++ e) ≡ a ++ (n ++ (b ++ (c ++ (b ++ (s ++ (b ++ (d ++ e)))))))
grouped_port a n b c s d e = simp append_assoc

port_line_is : (p : Port) → port_line p ≡ codes "// port " ++ port_text p
unfolding port_line
port_line_is p = grouped_port (codes "// port ") p.name (codes " ") (class_word p.class) (sign_word p.signed) (decimal p.width) (codes "\n")

grouped_words : (n b c s d e r : List ℕ) → (n ++ (b ++ (c ++ (b ++ (s ++ (b ++ (d ++ e))))))) ++ r ≡ n ++ (b ++ (c ++ (b ++ (s ++ (b ++ (d ++ (e ++ r)))))))
grouped_words n b c s d e r = simp append_assoc

port_again : (p : Port) (rest : List ℕ) → IsGoodPort p → port_at (port_text p ++ rest) ≡ Some (p, rest)
unfolding port_at
port_again p rest good =
    let last : List ℕ = codes "\n" ++ rest in
    let small : p.width < 2 ^ 32 = omega (arith, good.width) in
    let grouped : port_text p ++ rest
    ≡ p.name ++ (codes " " ++ (class_word p.class ++ (codes " " ++ (sign_word p.signed ++ (codes " " ++ (decimal p.width ++ last)))))) =
    grouped_words p.name (codes " ") (class_word p.class) (sign_word p.signed) (decimal p.width) (codes "\n") rest in
    ap port_at grouped
    ∙ rw (
      word_again p.name (class_word p.class ++ (codes " " ++ (sign_word p.signed ++ (codes " " ++ (decimal p.width ++ last)))))
          (name_has_no_blank p.name good.name.form),
      word_again (class_word p.class) (sign_word p.signed ++ (codes " " ++ (decimal p.width ++ last))) (class_has_no_blank p.class),
      class_again p.class,
      word_again (sign_word p.signed) (decimal p.width ++ last) (sign_has_no_blank p.signed),
      sign_again p.signed,
      number_again p.width last small refl,
      behind_again (codes "\n") rest,
    ) refl

port_readable : IsReadable (codes "// port ") port_at port_text (λ p. p) IsGoodPort
port_readable = record {
  again = λ p rest good h. port_again p rest good;
  no_digit = λ rest. refl;
}

-- ---- rows

-- rising positions from low on and below n are no more than there are numbers between
rises_short : (row : List ℕ) (low n : ℕ) → AllPairs (λ p q. p < q) row → All (λ p. p < n) row → All (λ p. low ≤ p) row → length row ≤ n - low
rises_short [] low n rises within above = omega arith
rises_short (x ∷ row) low n rises within above =
    let here : x < n = within 0 0 (omega arith) in
    let start : low ≤ x = above 0 0 (omega arith) in
    let rest : length row ≤ n - (x + 1) = rises_short row (x + 1) n
    (λ i j d before inside. rises (suc i) (suc j) d (omega arith) (omega arith))
    (λ k d inside. within (suc k) d (omega arith))
    (λ k d inside. let later : x < get_or row k d = rises 0 (suc k) d (omega arith) (omega arith) in omega arith) in
    omega arith

filter_short : {X : Type 0} (test : X → Bool) (xs : List X) → length (filter test xs) ≤ length xs
filter_short test [] = omega arith
filter_short test (x ∷ xs) =
    let rest : length (filter test xs) ≤ length xs = filter_short test xs in
    elim (cases_Bool (test x)) [
      | inl passes ↦ rw passes (omega arith)
      | inr fails ↦ rw fails (omega arith)
    ]

position_readable : IsReadable (codes " ") number_at decimal (λ p. p) (λ p. p < 2 ^ 32)
position_readable = record {
  again = λ p rest small h. number_again p rest small h;
  no_digit = λ rest. refl;
}

-- what stands behind the front of a row's line
abbrev row_text : ℕ × List ℕ → List ℕ
row_text row = decimal row.0 ++ (items_text (codes " ") decimal row.1 ++ codes "\n")

grouped_row : (a o r e : List ℕ) → ((a ++ o) ++ r) ++ e ≡ a ++ (o ++ (r ++ e))
grouped_row a o r e = simp append_assoc

depends_line_is : (row : ℕ × List ℕ) → depends_line row ≡ codes "// depends " ++ row_text row
unfolding depends_line position_word
depends_line_is row = grouped_row (codes "// depends ") (decimal row.0) (items_text (codes " ") decimal row.1) (codes "\n")

-- a row that is read again, with the number of its output
record IsReadableRow (row : ℕ × List ℕ) : Type 0 where
  output : row.0 < 2 ^ 32
  few : length row.1 ≤ PORT_LIMIT
  small : AllByRecursion (λ p. p < 2 ^ 32) row.1

row_again : (row : ℕ × List ℕ) (rest : List ℕ) → IsReadableRow row → row_at (row_text row ++ rest) ≡ Some (row.1, rest)
unfolding row_at behind
row_again row rest good =
    let last : List ℕ = codes "\n" ++ rest in
    let positions : List ℕ = items_text (codes " ") decimal row.1 in
    let grouped : row_text row ++ rest ≡ decimal row.0 ++ (positions ++ last) =
    append_assoc (decimal row.0) (positions ++ codes "\n") rest
    ∙ ap (λ t. decimal row.0 ++ t) (append_assoc positions (codes "\n") rest) in
    let read : items_at (codes " ") number_at PORT_LIMIT (positions ++ last) ≡ Some (row.1, last) =
    items_again (codes " ") number_at decimal (λ p. p) (λ p. p < 2 ^ 32) position_readable last refl refl PORT_LIMIT row.1 good.few good.small
    ∙ ap (λ ps. Some (ps, last)) (map-id row.1) in
    ap row_at grouped
    ∙ rw (
      number_again row.0 (positions ++ last) good.output
          (no_digit_behind (codes " ") number_at decimal (λ p. p) (λ p. p < 2 ^ 32) position_readable row.1 last refl),
      read,
    ) refl

row_readable : IsReadable (codes "// depends ") row_at row_text (λ row. row.1) IsReadableRow
row_readable = record {
  again = λ row rest good h. row_again row rest good;
  no_digit = λ rest. refl;
}

-- the positions of a row rise and are below a number
abbrev Rises : List ℕ → Type 0
Rises row = AllPairs (λ p q. p < q) row

abbrev IsWithin : ℕ → List ℕ → Type 0
IsWithin inputs row = All (λ p. p < inputs) row

row_readable_at : (inputs : ℕ) → inputs ≤ PORT_LIMIT → (n : ℕ) (row : List ℕ) → n < 2 ^ 32 → Rises row → IsWithin inputs row → IsReadableRow (n, row)
row_readable_at inputs few n row small rises within =
    let short : length row ≤ inputs - 0 = rises_short row 0 inputs rises within (λ k d inside. omega arith) in
    record {
      output = small;
      few = omega arith;
      small = recursion_from_All (λ p. p < 2 ^ 32) row (λ k d inside. let below : get_or row k d < inputs = within k d inside in omega arith);
    }

rows_readable : (inputs : ℕ) → inputs ≤ PORT_LIMIT → (n : ℕ) (rows : List (List ℕ)) → n + length rows < 2 ^ 32 → All Rises rows → All (IsWithin inputs) rows
    → AllByRecursion IsReadableRow (enumerate_from n rows)
rows_readable inputs few n [] small rise within = tt
rows_readable inputs few n (row ∷ rows) small rise within = (
  row_readable_at inputs few n row (omega arith) (All-head Rises row rows rise) (All-head (IsWithin inputs) row rows within),
  rows_readable inputs few (n + 1) rows (omega arith) (All-tail Rises row rows rise) (All-tail (IsWithin inputs) row rows within),
)

rows_alone : (n : ℕ) (rows : List (List ℕ)) → map (λ row. row.1) (enumerate_from n rows) ≡ rows
rows_alone n [] = refl
rows_alone n (row ∷ rows) = ap (λ others. row ∷ others) (rows_alone (n + 1) rows)

-- ---- the digest

digest_again : (digest rest : List ℕ) → IsDigest digest → digest_at (encode_lower digest ++ rest) ≡ Some (digest, rest)
unfolding digest_at
digest_again digest rest good =
    let text : List ℕ = encode_lower digest in
    let size : length text ≡ 2 * DIGEST_LENGTH = length-encode_with lower_digits digest ∙ ap (λ n. 2 * n) good.size in
    let long : nat_lt (length (text ++ rest)) (2 * DIGEST_LENGTH) ≡ false = le-ltb _ _ (omega (arith, length-append text rest)) in
    let bytes : IsBytes digest =
    λ i. elim (cases_lt i (length digest)) [
      | inl inside ↦ good.small i 0 inside
      | inr past ↦ rw (get_or_past digest i 0 past) (omega arith)
    ] in
    let back : decode_sized text DIGEST_LENGTH ≡ Ok digest = decode_sized-twice text DIGEST_LENGTH size ∙ decode_of-encode_lower digest bytes in
    rw (long, take_at text rest (2 * DIGEST_LENGTH) size, drop_at text rest (2 * DIGEST_LENGTH) size, back) refl

-- ---- the whole

grouped_module : (a n c d e i v p : List ℕ) → ((((((a ++ n) ++ c) ++ d) ++ e) ++ i) ++ v) ++ p ≡ a ++ (n ++ (c ++ (d ++ (e ++ (i ++ (v ++ p))))))
grouped_module a n c d e i v p = simp append_assoc

-- what stands behind the name of a module
abbrev behind_name : Face → List ℕ
behind_name face = codes "(\n" ++ (declarations face.ports ++ (codes ");\n" ++ (imports face ++ (variables face ++ processes face))))

module_text_is : (face : Face) → module_text face ≡ codes "module " ++ (face.name ++ 32 ∷ behind_name face)
unfolding module_text header module_line
module_text_is face =
    grouped_module (codes "module ") face.name (codes " (\n") (declarations face.ports) (codes ");\n") (imports face) (variables face) (processes face)

grouped_comments : (v a d e p r m : List ℕ) → (((v ++ ((a ++ d) ++ e)) ++ p) ++ r) ++ m ≡ (v ++ a) ++ (d ++ (e ++ (p ++ (r ++ m))))
grouped_comments v a d e p r m = simp append_assoc

-- a text by the digest, the lines of ports, the lines of rows, and what stands behind them
abbrev begun : List ℕ → List ℕ → List ℕ → List ℕ → List ℕ
begun digest ports rows last = codes "// hier_wrapper 1\n// digest " ++ (encode_lower digest ++ (codes "\n" ++ (ports ++ (rows ++ last))))

wrapper_text_is : (w : WrapperFace) → wrapper_text w
    ≡ begun w.digest (items_text (codes "// port ") port_text w.face.ports) (items_text (codes "// depends ") row_text (enumerate_from 0 w.summary.rows))
    (codes "module " ++ (w.face.name ++ 32 ∷ behind_name w.face))
unfolding wrapper_text comments version_line digest_line
wrapper_text_is w =
    let ports : List ℕ = flat_map port_line w.face.ports in
    let rows : List ℕ = flat_map depends_line (enumerate_from 0 w.summary.rows) in
    let headed : List ℕ = codes "module " ++ (w.face.name ++ 32 ∷ behind_name w.face) in
    let ported : List ℕ = items_text (codes "// port ") port_text w.face.ports in
    let ports_are : ports ≡ ported = flat_map-same port_line (λ p. codes "// port " ++ port_text p) port_line_is w.face.ports in
    let rows_are : rows ≡ items_text (codes "// depends ") row_text (enumerate_from 0 w.summary.rows) =
    flat_map-same depends_line (λ row. codes "// depends " ++ row_text row) depends_line_is (enumerate_from 0 w.summary.rows) in
    grouped_comments (codes "// hier_wrapper 1\n") (codes "// digest ") (encode_lower w.digest) (codes "\n") ports rows (module_text w.face)
    ∙ ap (λ m. begun w.digest ports rows m) (module_text_is w.face)
    ∙ ap (λ p. begun w.digest p rows headed) ports_are
    ∙ ap (λ r. begun w.digest ported r headed) rows_are

-- no line of a port stands behind those of the ports
no_port : (rows : List (ℕ × List ℕ)) (rest : List ℕ)
    → behind (codes "// port ") (items_text (codes "// depends ") row_text rows ++ (codes "module " ++ rest)) ≡ None
unfolding behind
no_port [] rest = refl
no_port (row ∷ rows) rest = refl

no_row : (rest : List ℕ) → behind (codes "// depends ") (codes "module " ++ rest) ≡ None
unfolding behind
no_row rest = refl

pub candidate_again : (w : WrapperFace) → IsGoodWrapper w → candidate_of (wrapper_text w) ≡ Some w
unfolding candidate_of
candidate_again w good =
    let named : List ℕ = w.face.name ++ 32 ∷ behind_name w.face in
    let headed : List ℕ = codes "module " ++ named in
    let rows : List (ℕ × List ℕ) = enumerate_from 0 w.summary.rows in
    let rowed : List ℕ = items_text (codes "// depends ") row_text rows ++ headed in
    let ported : List ℕ = items_text (codes "// port ") port_text w.face.ports ++ rowed in
    let inputs_few : length (ports_of is_value w.face.ports) ≤ PORT_LIMIT =
    omega (arith, filter_short (λ (p : Port). is_value p.class) w.face.ports, good.face.few) in
    let rows_few : length w.summary.rows ≤ PORT_LIMIT =
    omega (arith, filter_short (λ (p : Port). is_output p.class) w.face.ports, good.face.few, good.summary.rows) in
    let ports_read : items_at (codes "// port ") port_at PORT_LIMIT ported ≡ Some (w.face.ports, rowed) =
    items_again (codes "// port ") port_at port_text (λ p. p) IsGoodPort port_readable rowed (no_port rows named)
    (no_digit_behind (codes "// depends ") row_at row_text (λ row. row.1) IsReadableRow row_readable rows headed refl)
    PORT_LIMIT w.face.ports good.face.few (recursion_from_All IsGoodPort w.face.ports good.face.ports)
    ∙ ap (λ ps. Some (ps, rowed)) (map-id w.face.ports) in
    let rows_read : items_at (codes "// depends ") row_at PORT_LIMIT rowed ≡ Some (w.summary.rows, headed) =
    items_again (codes "// depends ") row_at row_text (λ row. row.1) IsReadableRow row_readable headed (no_row named) refl
    PORT_LIMIT rows (omega (arith, length-enumerate_from 0 w.summary.rows))
    (rows_readable (length (ports_of is_value w.face.ports)) inputs_few 0 w.summary.rows (omega arith) good.summary.rise good.summary.within)
    ∙ ap (λ rs. Some (rs, headed)) (rows_alone 0 w.summary.rows) in
    ap candidate_of (wrapper_text_is w)
    ∙ rw (
      behind_again (codes "// hier_wrapper 1\n// digest ") (encode_lower w.digest ++ (codes "\n" ++ ported)),
      digest_again w.digest (codes "\n" ++ ported) good.digest,
      behind_again (codes "\n") ported,
      ports_read,
      rows_read,
      behind_again (codes "module ") named,
      word_again w.face.name (behind_name w.face) (name_has_no_blank w.face.name good.face.name.form),
    ) refl

abbrev found : WrapperFace → Option WrapperFace
found w = Some w

one_found : (v w : WrapperFace) → found v ≡ found w → v ≡ w
one_found v w e = cc

-- two good faces with one text are one
pub one_good_face : (v w : WrapperFace) → IsGoodWrapper v → IsGoodWrapper w → wrapper_text v ≡ wrapper_text w → v ≡ w
one_good_face v w good_v good_w same = one_found v w (sym (candidate_again v good_v) ∙ ap candidate_of same ∙ candidate_again w good_w)

-- a candidate is the one good face that the bytes are the text of
is_candidate : (bytes : List ℕ) (c w : WrapperFace) → candidate_of bytes ≡ Some c → IsGoodWrapper w → bytes ≡ wrapper_text w → w ≡ c
is_candidate bytes c w read good text = one_found w c (sym (candidate_again w good) ∙ ap candidate_of (sym text) ∙ read)

-- where a candidate is not good, or has another text, the bytes are the text of no good face
pub candidate_alone : (bytes : List ℕ) (c : WrapperFace) → candidate_of bytes ≡ Some c → (IsGoodWrapper c → bytes ≡ wrapper_text c → ⊥)
    → (w : WrapperFace) → IsGoodWrapper w → bytes ≡ wrapper_text w → ⊥
candidate_alone bytes c read refused w good text =
    let same : w ≡ c = is_candidate bytes c w read good text in
    refused (subst IsGoodWrapper same good) (text ∙ ap wrapper_text same)

-- where there is no candidate, the bytes are the text of no good face
pub no_candidate : (bytes : List ℕ) → candidate_of bytes ≡ None → (w : WrapperFace) → IsGoodWrapper w → bytes ≡ wrapper_text w → ⊥
no_candidate bytes none w good text =
    let found_one : Some w ≡ None = sym (candidate_again w good) ∙ ap candidate_of (sym text) ∙ none in
    cc

-- what holds where nothing was found
pub IfNone-weaker : {A E : Type 0} (r : Result (Option A) E) (P Q : Type 0) → (P → Q) → IfOk r (λ found. IfNone found P) → IfOk r (λ found. IfNone found Q)
IfNone-weaker (Ok None) P Q weaker h = weaker h
IfNone-weaker (Ok (Some x)) P Q weaker h = tt
IfNone-weaker (Err e) P Q weaker h = tt
