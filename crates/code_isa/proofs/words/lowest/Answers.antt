use Rattle.std.proofs.Common.{refl, arith, ◌<◌, ◌^◌, length}
use Rattle.std.specs.Prelude.{slice_index}
use Rattle.std.proofs.lemmas.Nat.{trailing_le}
use Rattle.code_isa.proofs.Bits.{word_inside, lowest_in}
use Rattle.code_isa.proofs.words.lowest.Goals as goal

pub overflow_add-result : goal.overflow_add-result
overflow_add-result c =
    let inside : c.args.j < length c.args.words.now = word_inside c.args.words.now c.args.j c.requires.some in
    omega (arith, trailing_le 64 (slice_index c.args.words.now c.args.j), c.requires.inside)

pub returns : goal.returns
returns c =
    let fits : slice_index c.args.words.now c.args.j < 2 ^ 64 = omega (arith, c.type_inv.words c.args.j) in
    lowest_in c.args.words.now c.args.j (slice_index c.args.words.now c.args.j) refl c.requires.some fits
