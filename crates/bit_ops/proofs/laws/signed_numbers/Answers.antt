use Rattle.bit_ops.proofs.Algebra.{word_of_signed, signed_extended, signed_within, signed_word}
use Rattle.bit_ops.proofs.laws.signed_numbers.Goals as goal

pub returns-clause-within : goal.returns-clause-within
returns-clause-within c = signed_within

pub returns-clause-number : goal.returns-clause-number
returns-clause-number c = signed_word

pub returns-clause-word : goal.returns-clause-word
returns-clause-word c = word_of_signed

pub returns-clause-extended : goal.returns-clause-extended
returns-clause-extended c = signed_extended
