use Rattle.std.proofs.Common.{◌∙◌, ap, arith, ◌%◌, ◌/◌}
use Rattle.std.specs.Int.{bit_at, w64}
use Rattle.std.proofs.lemmas.Nat.Bits.{bit_at_set_same, bit_at_set_other}
use Rattle.code_check.proofs.Bits.{written, read_at}
use Rattle.code_check.proofs.sets.insert.Goals as goal

pub returns : goal.returns
returns c =
    let word = read_at c.args.row.now.items (c.args.p / 64) c.index_mut.result.now (omega arith) c.index_mut.ensures.value in
    written c.args.row.now.items c.args.p 1 _ c.requires (bit_at_set_same w64 c.index_mut.result.now (c.args.p % 64) (omega arith))
    (λ i below other. bit_at_set_other w64 c.index_mut.result.now (c.args.p % 64) (omega arith) i other ∙ ap (λ n. bit_at n i) word)
