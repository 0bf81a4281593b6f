-- Tokens that stand in for any of their sort, and what may stand behind.
use Rattle.std.proofs.Common.{◌≡◌, refl, Bool, true, false, not, ◌&&◌, List, ℕ, codes}
use Rattle.std.specs.Str.{bytes_eq}
use Rattle.std.proofs.lemmas.Slice.Eq.{bytes_eq-Decides}
use Rattle.sv_lexer.specs.declared.token.Token.{Token}
use Rattle.sv_lexer.specs.declared.token.TokenKind.TheVariants as kind
use Rattle.expr_parser.specs.Spelling.{is_this, is_identifier}
use Rattle.module_parser.specs.Words.{is_keyword}
use Rattle.module_parser.specs.Rule.{Test, meets}
use Rattle.module_parser.proofs.Rules.{Stop}

abbrev pub spare_sign : List ℕ → Token
spare_sign text = record { kind = kind.Sign; text = text; place = record { file = 0; line = 0 } }

abbrev pub spare_word : List ℕ → Token
spare_word text = record { kind = kind.Word; text = text; place = record { file = 0; line = 0 } }

abbrev pub spare_number : Token
spare_number = record { kind = kind.Number; text = codes "0"; place = record { file = 0; line = 0 } }

abbrev pub anything : Stop
anything v = true

-- any token but those of this sort
abbrev pub but : Test → Stop
but test v = not (meets test v)

abbrev pub also : Stop → Stop → Stop
also a b v = a v && b v

pub not_of : (b : Bool) → not b ≡ true → b ≡ false
not_of true h = absurd cc
not_of false h = refl

pub left_of : (a b : Bool) → (a && b) ≡ true → a ≡ true
left_of true b h = refl
left_of false b h = absurd cc

pub right_of : (a b : Bool) → (a && b) ≡ true → b ≡ true
right_of true b h = h
right_of false b h = absurd cc

abbrev pub colon : Test
colon = is_this (codes ":")

abbrev pub otherwise : Test
otherwise = is_keyword (codes "else")

abbrev pub comma : Test
comma = is_this (codes ",")

-- what may stand behind a target
abbrev pub no_select : Stop
no_select = but (is_this (codes "["))

-- what may stand behind a statement, an item or a block
abbrev pub closes : Stop
closes = also (but colon) (but otherwise)

-- a name
abbrev pub spare_name : Token
spare_name = spare_word (codes "a")

pub spare_is_name : is_identifier spare_name ≡ true
unfolding is_identifier
spare_is_name = refl

pub bytes_same : (text : List ℕ) → bytes_eq text text ≡ true
bytes_same text = (bytes_eq-Decides text text).1 refl
