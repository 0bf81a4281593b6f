use Rattle.std.specs.Prelude.{map}
use Rattle.std.specs.String.{string_bytes}
use Rattle.lib_create.specs.code.CommandWords.{sim_seen}
use Rattle.lib_create.specs.code.Verdicts.{verdict_seen}
use Rattle.lib_create.proofs.Simulated.{absent_told, refused_told, run_ends_told, run_cut_told}
use Rattle.lib_create.proofs.simulate.simulate.Goals as goal

pub returns-in-Absent-clause-ends : goal.returns-in-Absent-clause-ends
returns-in-Absent-clause-ends g c =
    absent_told (g.D.Folder.content c.args.folder.now) (map string_bytes c.args.words.now) (sim_seen c.in-Ok.sim) c.in_ok-compile.field-0
    (g.K.Sink.written c.args.out.now) c.in-Ok.ensures c.in_ok-compile.ensures.compiled c.in-Absent.is

pub returns-in-Refused-clause-ends : goal.returns-in-Refused-clause-ends
returns-in-Refused-clause-ends g c =
    refused_told (g.D.Folder.content c.args.folder.now) (map string_bytes c.args.words.now) (sim_seen c.in-Ok.sim) c.in_ok-compile.field-0
    c.in-Refused.refusal (g.K.Sink.written c.args.out.now) c.in-Ok.ensures c.in_ok-compile.ensures.compiled c.in-Refused.is

pub returns-in-Design-clause-ends : goal.returns-in-Design-clause-ends
returns-in-Design-clause-ends g c =
    run_ends_told verdict_seen (g.D.Folder.content c.args.folder.now) (g.D.Folder.content c.compile.new.folder) (map string_bytes c.args.words.now)
    (sim_seen c.in-Ok.sim) c.in_ok-compile.field-0 c.in-Design.spec c.run_design.result (g.K.Sink.written c.args.out.now) _
    c.in-Ok.ensures c.compile.ensures.unchanged c.in_ok-compile.ensures.compiled c.in-Design.is c.run_design.ensures.ends

pub returns-in-Design-clause-cut : goal.returns-in-Design-clause-cut
returns-in-Design-clause-cut g c =
    run_cut_told (g.D.Folder.content c.args.folder.now) (g.D.Folder.content c.compile.new.folder) (map string_bytes c.args.words.now)
    (sim_seen c.in-Ok.sim) c.in_ok-compile.field-0 c.in-Design.spec c.run_design.result (g.K.Sink.written c.args.out.now) (g.K.Sink.written c.run_design.new.out)
    c.in-Ok.ensures c.compile.ensures.unchanged c.in_ok-compile.ensures.compiled c.in-Design.is c.run_design.ensures.cut
