use Rattle.lib_create.proofs.Compiled.{loaded_compiled}
use Rattle.lib_create.proofs.compile.compile.Goals as goal

pub returns-in-Bytes-clause-compiled : goal.returns-in-Bytes-clause-compiled
returns-in-Bytes-clause-compiled g c =
    loaded_compiled c.compile_bytes.result (g.D.Folder.content c.args.folder.now) c.args.sim.file.now _ c.args.sim.top.now c.as_slice.result.now c.in_ok-load.field-0 c.in-Bytes.bytes
    c.in-Bytes.is c.as_slice.ensures.value c.in_ok-load.ensures.loaded c.compile_bytes.ensures.compiled
