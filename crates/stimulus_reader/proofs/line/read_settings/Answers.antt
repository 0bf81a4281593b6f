use Rattle.std.proofs.Common.{refl, ◌∙◌, ◌<◌, arith, length}
use Rattle.stimulus_reader.specs.code.LineReading.{IsFitting}
use Rattle.stimulus_reader.proofs.StimulusParts.{passed_none, passed_word, stands_in_word}
use Rattle.stimulus_reader.proofs.StimulusLines.{read_more, read_bad, read_whole, all_more_fit, apart_none, apart_more, room_left}
use Rattle.stimulus_reader.proofs.line.read_settings.Goals as goal

pub loop-word-init : goal.loop-word-init
loop-word-init c = record {
  so_far = rw c.clear.ensures.items refl;
  fitting = rw c.clear.ensures.items tt;
  apart = rw c.clear.ensures.items apart_none;
  passed = passed_none c.args.text.now;
  capacity = c.clear.ensures.capacity;
}

pub push_reserved-requires : goal.push_reserved-requires
push_reserved-requires c =
    let settings = c.loop-word.settings in
    let before = c.loop-word.invariant in
    let few : length settings.items < length c.args.ports.now = room_left c.args.ports.now c.args.kind settings.items c.in-Ok.setting before.fitting c.in-Ok.ensures.fitting before.apart (rw c.deref.ensures.value at c.in-Ok.ensures.once) in
    let room = c.requires.room in
    let same = before.capacity in
    let len = settings.ok.0 in
    omega arith

pub returns-in-Err-clause-gives : goal.returns-in-Err-clause-gives
returns-in-Err-clause-gives c =
    read_bad c.args.ports.now c.args.kind c.loop-word.settings.items _ c.in-Err.bad c.in-Some.word.now c.in-Some.rest.now c.loop-word.left.now c.args.text.now c.in-Some.ensures.words c.deref.ensures.value c.in-Err.ensures.gives c.loop-word.invariant.so_far

pub returns-in-Err-clause-part : goal.returns-in-Err-clause-part
returns-in-Err-clause-part c =
    stands_in_word c.args.text.now c.loop-word.left.now c.in-Some.word.now c.in-Some.rest.now c.in-Err.bad.word.now c.in-Err.bad.behind c.loop-word.invariant.passed c.in-Some.ensures.part c.in-Err.ensures.part

pub loop-word-preserved : goal.loop-word-preserved
loop-word-preserved c =
    let settings = c.loop-word.settings.items in
    let before = c.loop-word.invariant in
    record {
      so_far = rw c.push_reserved.ensures.items (read_more c.args.ports.now c.args.kind settings _ c.in-Ok.setting c.in-Some.word.now c.in-Some.rest.now c.loop-word.left.now c.args.text.now c.in-Some.ensures.words c.deref.ensures.value c.in-Ok.ensures.gives before.so_far);
      fitting = rw c.push_reserved.ensures.items (all_more_fit (IsFitting c.args.ports.now c.args.kind) settings c.in-Ok.setting before.fitting c.in-Ok.ensures.fitting);
      apart = rw c.push_reserved.ensures.items (apart_more settings c.in-Ok.setting before.apart (rw c.deref.ensures.value at c.in-Ok.ensures.once));
      passed = passed_word c.args.text.now c.loop-word.left.now c.in-Some.word.now c.in-Some.rest.now before.passed c.in-Some.ensures.part;
      capacity = c.push_reserved.ensures.capacity ∙ before.capacity;
    }

pub returns-clause-gives : goal.returns-clause-gives
returns-clause-gives c = read_whole c.args.ports.now c.args.kind c.loop-word.settings.items c.loop-word.left.now c.args.text.now c.in_default.ensures.words c.loop-word.invariant.so_far
