use Rattle.std.proofs.Common.{add-one, arith}
use Rattle.sv_lexer.proofs.Runs.{Each_more}
use Rattle.sv_lexer.specs.Bytes.{is_in}
use Rattle.sv_lexer.proofs.run.run_len.Goals as goal

pub loop-n-preserved : goal.loop-n-preserved
loop-n-preserved c =
    (omega arith, rw add-one (Each_more (is_in c.args.class) c.args.bytes.now c.loop-n.n (omega arith) c.loop-n.invariant.1 (cc)))
