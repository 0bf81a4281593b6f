-- Reading a file, where reading expressions is exact.
use Rattle.std.proofs.Common.{ℕ, true, Some, refl}
use Rattle.expr_parser.specs.Reading.{any}
use Rattle.module_parser.specs.Rule.{expression}
use Rattle.module_parser.specs.Grammar as grammar
use Rattle.module_parser.specs.Reading as reading
use Rattle.module_parser.proofs.Rules.{Fact}
use Rattle.module_parser.proofs.Spares.{spare_number}
use Rattle.module_parser.proofs.Expressions.{Exact, ends, never_expression, spare_expression, fact_expression}
use Rattle.module_parser.proofs.Readings.{Reading}
use Rattle.module_parser.proofs.Modules.{at_end, file_reads}

expressions : Exact → (floor : ℕ) → Reading floor ends (Some spare_number) true (λ _. expression) any
unfolding fact_expression spare_expression
expressions exact floor = record { fact = fact_expression floor exact; heads = λ v. refl; never = λ _ k. never_expression }

pub file_fact : Exact → Fact 0 at_end (λ _. grammar.file) reading.file
file_fact exact = (file_reads (expressions exact)).fact
