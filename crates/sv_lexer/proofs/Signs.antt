-- Operators among the signs.
use Rattle.std.proofs.Common.{◌≡◌, ◌∙◌, ◌||◌, ◌++◌, ℕ, List, Option, ap}
use Rattle.std.specs.List.{list_any}
use Rattle.std.specs.Map.{keys_of}
use Rattle.std.specs.Option.{is_some}
use Rattle.std.specs.Str.{bytes_eq}
use Rattle.std.proofs.lemmas.List.Folds.{list_any-append}
use Rattle.std.proofs.lemmas.Map.Made.{is_some-lookup}
use Rattle.sv_base.specs.declared.operator.Unary.{Unary}
use Rattle.sv_base.specs.declared.operator.Binary.{Binary}
use Rattle.sv_base.specs.Operators.{unary_of, unary_rows, binary_of, binary_rows, refused_operators, is_refused_operator}
use Rattle.sv_lexer.specs.Piece.{is_sign, punctuation}

-- a text spells an operator where it is one of the table's
pub spells_unary : (text : List ℕ) (found : Option Unary) → found ≡ unary_of text → is_some found ≡ list_any (bytes_eq text) (keys_of unary_rows)
unfolding unary_of
spells_unary text found is = ap is_some is ∙ is_some-lookup (bytes_eq text) unary_rows

pub spells_binary : (text : List ℕ) (found : Option Binary) → found ≡ binary_of text → is_some found ≡ list_any (bytes_eq text) (keys_of binary_rows)
unfolding binary_of
spells_binary text found is = ap is_some is ∙ is_some-lookup (bytes_eq text) binary_rows

-- the signs are what stands in four tables
pub sign_tables : (text : List ℕ) → is_sign text ≡ (list_any (bytes_eq text) (keys_of unary_rows)
    || (list_any (bytes_eq text) (keys_of binary_rows) || (is_refused_operator text || list_any (bytes_eq text) punctuation)))
unfolding is_sign is_refused_operator
sign_tables text =
    let p = bytes_eq text in
    list_any-append p (keys_of unary_rows) (keys_of binary_rows ++ refused_operators ++ punctuation)
    ∙ ap (λ b. list_any p (keys_of unary_rows) || b) (list_any-append p (keys_of binary_rows) (refused_operators ++ punctuation)
    ∙ ap (λ b. list_any p (keys_of binary_rows) || b) (list_any-append p refused_operators punctuation))
