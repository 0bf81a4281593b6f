use Rattle.std.proofs.Common.{◌∙◌, map}
use Rattle.stimulus_reader.specs.code.LineReading.{Fits}
use Rattle.stimulus_reader.proofs.StimulusValues.{set_more, set_widths, all_or}
use Rattle.stimulus_reader.proofs.values.set_values.Goals as goal

pub loop-setting-preserved : goal.loop-setting-preserved
loop-setting-preserved c =
    let before = c.loop-setting.invariant in
    let s = c.setting-item.result in
    let fits = rw (← c.setting-item.is) at (all_or (Fits (map (λ v. v.width) c.args.values.now.items)) c.args.settings.now c.loop-setting.setting-index s c.requires c.loop-setting-test.true) in
    record {
      words = set_more c.args.settings.now c.loop-setting.values.items c.loop-setting.setting-index s _ c.loop-setting-test.true c.setting-item.is before.words;
      widths = set_widths c.loop-setting.values.items s (rw (before.widths) fits) ∙ before.widths;
    }
