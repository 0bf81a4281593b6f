use Rattle.std.proofs.Common.{◌≡◌, ◌∙◌, ap, subst, sym, Ok, Err, map}
use Rattle.std.specs.Prelude.{IfSome, is_some}
use Rattle.std.specs.FinMap.{get}
use Rattle.sv_base.specs.declared.face.Face.{Face}
use Rattle.session.specs.declared.fault.PlayFault.TheVariants as fault
use Rattle.session.specs.Playing.{ArePlayable}
use Rattle.lib_create.proofs.PlayedOut.{by_design, by_fault, absent_told, done_told, steps_told, bad_told, whole_cut, read_cut, write_cut, memory_cut}
use Rattle.lib_create.proofs.playing.run_design.Goals as goal

pub play_file-requires-clause-ports : goal.play_file-requires-clause-ports
play_file-requires-clause-ports g c =
    subst ArePlayable (sym (ap (λ (f : Face). f.ports) c.in-Ok.ensures))
    (record { widths = c.plain_ports.ensures.widths c.args.spec c.requires.plain; clocks = c.plain_ports.ensures.clocks c.args.spec c.requires.plain; distinct = c.requires.names })

pub returns-in-Err-is_there-clause-cut : goal.returns-in-Err-is_there-clause-cut
returns-in-Err-is_there-clause-cut g c =
    whole_cut (g.D.Folder.content c.args.folder.now) c.args.stimulus.now c.args.spec _ _ _
    (λ steps rows last. c.benched_run.ensures c.args.spec steps rows last (c.plain_idle.ensures c.args.spec c.requires.plain)) c.text_of_rows.ensures
    (by_design (g.D.Folder.content c.args.folder.now) c.args.stimulus.now c.in-Ok-new.bench.spec c.args.spec _ _ _ c.in-Ok-new.ensures.design c.in-Ok-eq0.ensures.played)

pub returns-in-Ok-false-clause-ends : goal.returns-in-Ok-false-clause-ends
returns-in-Ok-false-clause-ends g c =
    absent_told (g.D.Folder.content c.args.folder.now) (g.D.Folder.content c.play_file.new.folder) c.args.stimulus.now c.args.spec _ _ _
    (λ steps rows last. c.benched_run.ensures c.args.spec steps rows last (c.plain_idle.ensures c.args.spec c.requires.plain)) c.text_of_rows.ensures
    c.in-Ok-eq0.ensures.unchanged
    (by_design (g.D.Folder.content c.args.folder.now) c.args.stimulus.now c.in-Ok-new.bench.spec c.args.spec _ _ _ c.in-Ok-new.ensures.design c.in-Ok-eq0.ensures.played)
    (subst (λ b. IfSome (g.D.Folder.content c.play_file.new.folder) (λ files. b ≡ is_some (get files c.args.stimulus.now))) c.in-Ok-false.field-0-test c.in-Ok-false.ensures.there)

pub returns-in-Ok-eq0-clause-ends : goal.returns-in-Ok-eq0-clause-ends
returns-in-Ok-eq0-clause-ends g c =
    done_told (g.D.Folder.content c.args.folder.now) (g.D.Folder.content c.play_file.new.folder) c.args.stimulus.now c.args.spec _ _ _
    (λ steps rows last. c.benched_run.ensures c.args.spec steps rows last (c.plain_idle.ensures c.args.spec c.requires.plain)) c.text_of_rows.ensures
    c.in-Ok-eq0.ensures.unchanged
    (by_design (g.D.Folder.content c.args.folder.now) c.args.stimulus.now c.in-Ok-new.bench.spec c.args.spec _ _ _ c.in-Ok-new.ensures.design c.in-Ok-eq0.ensures.played)
    (subst (λ b. IfSome (g.D.Folder.content c.play_file.new.folder) (λ files. b ≡ is_some (get files c.args.stimulus.now))) c.in-Ok-true.field-0-test c.in-Ok-true.ensures.there)

pub returns-in-Ok-play_file-clause-ends : goal.returns-in-Ok-play_file-clause-ends
returns-in-Ok-play_file-clause-ends g c =
    steps_told (g.D.Folder.content c.args.folder.now) c.args.stimulus.now c.args.spec c.in-Ok-play_file.field-0 _ _
    (λ steps rows last. c.benched_run.ensures c.args.spec steps rows last (c.plain_idle.ensures c.args.spec c.requires.plain)) c.text_of_rows.ensures
    c.in-Ok-play_file.field-0-test.1
    (by_design (g.D.Folder.content c.args.folder.now) c.args.stimulus.now c.in-Ok-new.bench.spec c.args.spec _ _ _ c.in-Ok-new.ensures.design c.in-Ok-play_file.ensures.played)

pub returns-in-Err-Stimulus-clause-ends : goal.returns-in-Err-Stimulus-clause-ends
returns-in-Err-Stimulus-clause-ends g c =
    let bad = c.in-Err-Stimulus in
    bad_told (g.D.Folder.content c.args.folder.now) c.args.stimulus.now c.args.spec bad.line bad.reason bad.word _ _
    (λ steps rows last. c.benched_run.ensures c.args.spec steps rows last (c.plain_idle.ensures c.args.spec c.requires.plain)) c.text_of_rows.ensures
    (by_design (g.D.Folder.content c.args.folder.now) c.args.stimulus.now c.in-Ok-new.bench.spec c.args.spec (Err (fault.Stimulus bad.line bad.reason bad.word)) _ _ c.in-Ok-new.ensures.design
    (by_fault (g.D.Folder.content c.args.folder.now) c.args.stimulus.now c.in-Ok-new.bench.spec _ (fault.Stimulus bad.line bad.reason bad.word) _ _ bad.field-0-is bad.ensures.played))

pub returns-in-Err-ReadFault-clause-cut : goal.returns-in-Err-ReadFault-clause-cut
returns-in-Err-ReadFault-clause-cut g c =
    read_cut (g.D.Folder.content c.args.folder.now) c.args.stimulus.now c.args.spec _ _
    (λ steps rows last. c.benched_run.ensures c.args.spec steps rows last (c.plain_idle.ensures c.args.spec c.requires.plain)) c.text_of_rows.ensures
    (by_design (g.D.Folder.content c.args.folder.now) c.args.stimulus.now c.in-Ok-new.bench.spec c.args.spec (Err fault.ReadFault) _ _ c.in-Ok-new.ensures.design
    (by_fault (g.D.Folder.content c.args.folder.now) c.args.stimulus.now c.in-Ok-new.bench.spec _ fault.ReadFault _ _ c.in-Err-ReadFault.field-0-is c.in-Err-ReadFault.ensures.played))

pub returns-in-Err-WriteFault-clause-cut : goal.returns-in-Err-WriteFault-clause-cut
returns-in-Err-WriteFault-clause-cut g c =
    write_cut (g.D.Folder.content c.args.folder.now) c.args.stimulus.now c.args.spec _ _
    (λ steps rows last. c.benched_run.ensures c.args.spec steps rows last (c.plain_idle.ensures c.args.spec c.requires.plain)) c.text_of_rows.ensures
    (by_design (g.D.Folder.content c.args.folder.now) c.args.stimulus.now c.in-Ok-new.bench.spec c.args.spec (Err fault.WriteFault) _ _ c.in-Ok-new.ensures.design
    (by_fault (g.D.Folder.content c.args.folder.now) c.args.stimulus.now c.in-Ok-new.bench.spec _ fault.WriteFault _ _ c.in-Err-WriteFault.field-0-is c.in-Err-WriteFault.ensures.played))

pub returns-clause-cut : goal.returns-clause-cut
returns-clause-cut g c =
    memory_cut (g.D.Folder.content c.args.folder.now) c.args.stimulus.now c.args.spec _ _
    (by_design (g.D.Folder.content c.args.folder.now) c.args.stimulus.now c.in-Ok-new.bench.spec c.args.spec (Err fault.NoMemory) _ _ c.in-Ok-new.ensures.design
    (by_fault (g.D.Folder.content c.args.folder.now) c.args.stimulus.now c.in-Ok-new.bench.spec _ fault.NoMemory _ _ c.in-Err-NoMemory.field-0-is c.in-Err-NoMemory.ensures.played))
