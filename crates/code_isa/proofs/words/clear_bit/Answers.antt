use Rattle.std.proofs.Common.{◌∙◌, ap, arith, ◌%◌, ◌/◌}
use Rattle.std.specs.Int.{bit_at, w64}
use Rattle.std.proofs.lemmas.Nat.Bits.{bit_at_clear_same, bit_at_clear_other}
use Rattle.code_isa.proofs.Bits.{written, read_at}
use Rattle.code_isa.proofs.words.clear_bit.Goals as goal

pub returns : goal.returns
returns c =
    let word = read_at c.args.words.now.items (c.args.k / 64) c.index_mut.result.now (omega arith) c.index_mut.ensures.value in
    written c.args.words.now.items c.args.k 0 _ c.requires (bit_at_clear_same w64 c.index_mut.result.now (c.args.k % 64) (omega arith))
    (λ i below other. bit_at_clear_other w64 c.index_mut.result.now (c.args.k % 64) (omega arith) i below other ∙ ap (λ n. bit_at n i) word)
