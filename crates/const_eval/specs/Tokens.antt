-- Tokens that have a meaning by themselves.
use Rattle.std.specs.Prelude.{ℕ, List, IsSome}
use Rattle.sv_lexer.specs.declared.token.TokenKind.{TokenKind}
use Rattle.sv_lexer.specs.declared.token.TokenKind.TheVariants as kind
use Rattle.sv_lexer.specs.declared.token.Token.{Token}
use Rattle.const_eval.specs.Literal.{number_of, fill_of}

-- a number means something, and so does a fill; of other tokens nothing is asked
abbrev pub MeansSomething : TokenKind → List ℕ → Type 0
MeansSomething kind.Number text = IsSome (number_of text)
MeansSomething kind.Fill text = IsSome (fill_of text)
MeansSomething kind.Mark text = Unit {0}
MeansSomething kind.Word text = Unit {0}
MeansSomething kind.System text = Unit {0}
MeansSomething kind.Sign text = Unit {0}

abbrev pub HasMeaning : Token → Type 0
HasMeaning token = MeansSomething token.kind token.text
