-- What tokens are to the grammar of expressions, by their kind and spelling.
use Rattle.std.specs.Prelude.{ℕ, ◌+◌, Bool, true, false, not, ◌&&◌, if◌then◌else◌, List, Option, None, Some}
use Rattle.std.specs.List.{list_any}
use Rattle.std.specs.Option.{is_some}
use Rattle.std.specs.Str.{bytes_eq}
use Rattle.sv_base.specs.declared.operator.Binary.{Binary}
use Rattle.sv_base.specs.declared.operator.Grouping.{Grouping}
use Rattle.sv_base.specs.declared.operator.Grouping.TheVariants.{ToTheLeft, ToTheRight}
use Rattle.sv_base.specs.Operators.{unary_of, binary_of, function_of, is_refused_operator, level_of, tightness, grouping_of}
use Rattle.sv_base.specs.Spelling.{refused_words, is_reserved}
use Rattle.sv_lexer.specs.declared.token.TokenKind.{TokenKind}
use Rattle.sv_lexer.specs.declared.token.TokenKind.TheVariants as kind
use Rattle.sv_lexer.specs.declared.token.Token.{Token}

-- one of these
abbrev pub is_among : List (List ℕ) → List ℕ → Bool
is_among texts text = list_any (bytes_eq text) texts

-- how tightly an operator between two operands binds, and 0 where there is none (11.3.2)
abbrev pub tightness_of : Option Binary → ℕ
tightness_of None = 0
tightness_of (Some operator) = tightness (level_of operator)

-- how operators beside one of its level are grouped, as if to the left where there is none (11.3.2)
abbrev pub grouping_by : Option Binary → Grouping
grouping_by None = ToTheLeft
grouping_by (Some operator) = grouping_of (level_of operator)

-- how tightly a text binds between two operands, and 0 where it is no such operator
unfoldable pub precedence : List ℕ → ℕ
precedence text = tightness_of (binary_of text)

-- ---- tokens

abbrev pub is_word : TokenKind → Bool
is_word kind.Word = true
is_word kind.System = false
is_word kind.Number = false
is_word kind.Fill = false
is_word kind.Sign = false
is_word kind.Mark = false

abbrev pub is_system : TokenKind → Bool
is_system kind.System = true
is_system kind.Word = false
is_system kind.Number = false
is_system kind.Fill = false
is_system kind.Sign = false
is_system kind.Mark = false

abbrev pub is_sign : TokenKind → Bool
is_sign kind.Sign = true
is_sign kind.Word = false
is_sign kind.System = false
is_sign kind.Number = false
is_sign kind.Fill = false
is_sign kind.Mark = false

abbrev pub is_mark : TokenKind → Bool
is_mark kind.Mark = true
is_mark kind.Word = false
is_mark kind.System = false
is_mark kind.Number = false
is_mark kind.Fill = false
is_mark kind.Sign = false

abbrev pub is_number : TokenKind → Bool
is_number kind.Number = true
is_number kind.Word = false
is_number kind.System = false
is_number kind.Fill = false
is_number kind.Sign = false
is_number kind.Mark = false

abbrev pub is_fill : TokenKind → Bool
is_fill kind.Fill = true
is_fill kind.Word = false
is_fill kind.System = false
is_fill kind.Number = false
is_fill kind.Sign = false
is_fill kind.Mark = false

-- an identifier: a word that the language neither uses nor refuses (5.6)
unfoldable pub is_identifier : Token → Bool
is_identifier token = is_word token.kind && not (is_reserved token.text)

-- a system function of the subset
unfoldable pub is_function : Token → Bool
is_function token = is_system token.kind && is_some (function_of token.text)

-- a sign before an operand
unfoldable pub is_unary : Token → Bool
is_unary token = is_sign token.kind && is_some (unary_of token.text)

-- this sign
unfoldable pub is_this : List ℕ → Token → Bool
is_this text token = is_sign token.kind && bytes_eq token.text text

-- how tightly a token binds between two operands, 0 where it is no such sign
unfoldable pub binds : Token → ℕ
binds token = if is_sign token.kind then precedence token.text else 0

-- how operators beside a token are grouped
unfoldable pub grouping : Token → Grouping
grouping token = if is_sign token.kind then grouping_by (binary_of token.text) else ToTheLeft

-- where operators are grouped to the left, the left operand may be one of the same level, and the right one holds tighter
abbrev pub least_left : Grouping → ℕ → ℕ
least_left ToTheLeft level = level
least_left ToTheRight level = level + 1

-- where they are grouped to the right, the right operand may be one of the same level, and the left one holds tighter
abbrev pub least_right : Grouping → ℕ → ℕ
least_right ToTheLeft level = level + 1
least_right ToTheRight level = level

-- how tightly the left operand of an operator between two holds together at least
unfoldable pub left_least : Token → ℕ
left_least token = least_left (grouping token) (binds token)

-- how tightly its right operand holds together at least
unfoldable pub right_least : Token → ℕ
right_least token = least_right (grouping token) (binds token)

-- a word, system name or sign of the standard outside the subset
abbrev pub is_refused_by : TokenKind → List ℕ → Bool
is_refused_by kind.Word text = is_among refused_words text
is_refused_by kind.System text = not (is_some (function_of text))
is_refused_by kind.Sign text = is_refused_operator text
is_refused_by kind.Number text = false
is_refused_by kind.Fill text = false
is_refused_by kind.Mark text = false

-- a token of the standard outside the subset
unfoldable pub is_refused : Token → Bool
is_refused token = is_refused_by token.kind token.text
