use Rattle.std.proofs.Common.{◌<◌, ◌∙◌, length, arith}
use Rattle.wrapper_core.proofs.Blocking.{read_word, word_same, word_set, given_size, put_block}
use Rattle.wrapper_core.proofs.block.Block.put.Goals as goal

pub returns-then-index-value-clause-given : goal.returns-then-index-value-clause-given
returns-then-index-value-clause-given c =
    let given = c.args.self.now.given.items in
    let inside : c.args.s < length given = omega (arith, given_size c.args.self.now c.requires.block, c.requires.slot) in
    word_same given c.args.s c.args.value.word (read_word given c.args.s c.index.result.now inside c.index.ensures ∙ c.if-index-value.true)

pub returns-clause-block : goal.returns-clause-block
returns-clause-block c = put_block c.args.self.now c.args.s c.args.value c.insert.new.self c.requires.block c.requires.slot c.requires.wide c.insert.ensures

pub returns-clause-given : goal.returns-clause-given
returns-clause-given c = word_set c.args.self.now.given.items c.args.s c.args.value
