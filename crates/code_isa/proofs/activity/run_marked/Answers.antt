use Rattle.std.proofs.Common.{◌≡◌, ◌∙◌, ◌+◌, ◌-◌, ◌<◌, ◌≤◌, ap, subst, arith, length, set, false}
use Rattle.bit_ops.specs.Lists.{words, widths}
use Rattle.std.proofs.lemmas.List.{length-set}
use Rattle.code_isa.specs.Slots.{slot_widths}
use Rattle.code_isa.specs.Checks.{IsSlotOrdered}
use Rattle.code_isa.specs.Marks.{IsLeast}
use Rattle.code_isa.specs.Activity.{RunsOne, is_due}
use Rattle.code_isa.proofs.Running.{size}
use Rattle.code_isa.proofs.Active.{IsActive, active_start, active_more, all_done, given_kept, least_is_first, first_above, first_member, member_inside, later, count_le}
use Rattle.code_isa.proofs.activity.run_marked.Goals as goal

pub loop-k-init : goal.loop-k-init
loop-k-init c = (0, active_start c.args.m.now c.args.marks.now c.args.slots.now.items c.requires.marks c.requires.shape c.requires.unmarked)

pub overflow_add-done : goal.overflow_add-done
overflow_add-done c =
    let m = c.args.m.now in
    let was : IsActive m c.args.marks.now (words c.args.slots.now.items) c.loop-k.slots.items c.loop-k.marks c.loop-k.done c.loop-k.invariant.0 = c.loop-k.invariant.1 in
    let k = c.in-Some.k in
    let inside : k < length c.loop-k.marks = member_inside c.loop-k.marks k c.in-Some.ensures.none.member in
    let most = count_le (is_due m c.args.marks.now (words c.args.slots.now.items) (words c.loop-k.slots.items)) c.loop-k.invariant.0 in
    let low : c.loop-k.invariant.0 ≤ k = was.ahead k c.in-Some.ensures.none.member in
    let room = size m c.args.slots.now.items c.requires.shape in
    omega (arith, inside, most, low, room, was.counted, was.sized, c.len.ensures, c.len.type_inv)

pub loop-k-smaller : goal.loop-k-smaller
loop-k-smaller c =
    let m = c.args.m.now in
    let old = words c.args.slots.now.items in
    let slots = c.loop-k.slots.items in
    let marks = c.loop-k.marks in
    let more = c.run_one.new.slots.items in
    let after = c.run_one.new.marks in
    let k = c.in-Some.k in
    let was : IsActive m c.args.marks.now old slots marks c.loop-k.done c.loop-k.invariant.0 = c.loop-k.invariant.1 in
    let order : IsSlotOrdered m = c.machine-machine.ensures.checked.slot_order in
    let least : IsLeast marks k = c.in-Some.ensures.none in
    let shape : widths more ≡ slot_widths m = c.run_one.ensures.shape ∙ ap slot_widths c.machine-machine.ensures.same in
    let one : RunsOne m k (words slots) (words more) (set marks k false) after =
    subst (λ x. RunsOne x k (words slots) (words more) (set marks k false) after) c.machine-machine.ensures.same
    (subst (λ ms. RunsOne c.machine-machine.result.now k (words slots) (words more) ms after) c.in-Some.ensures.taken c.run_one.ensures.done) in
    let next : k + 1 ≤ first_member after =
    first_above after (k + 1) (omega (arith, member_inside marks k least.member, one.sized, length-set marks k false)) (later m c.args.marks.now old slots more marks after c.loop-k.done c.loop-k.invariant.0 k order was least shape one) in
    let here : first_member marks ≡ k = least_is_first marks k least in
    let goal_now : length after - first_member after < length marks - first_member marks = omega (arith, member_inside marks k least.member, one.sized, length-set marks k false) in
    goal_now

pub loop-k-preserved : goal.loop-k-preserved
loop-k-preserved c =
    let m = c.args.m.now in
    let old = words c.args.slots.now.items in
    let slots = c.loop-k.slots.items in
    let marks = c.loop-k.marks in
    let more = c.run_one.new.slots.items in
    let after = c.run_one.new.marks in
    let k = c.in-Some.k in
    let was : IsActive m c.args.marks.now old slots marks c.loop-k.done c.loop-k.invariant.0 = c.loop-k.invariant.1 in
    let order : IsSlotOrdered m = c.machine-machine.ensures.checked.slot_order in
    let least : IsLeast marks k = c.in-Some.ensures.none in
    let shape : widths more ≡ slot_widths m = c.run_one.ensures.shape ∙ ap slot_widths c.machine-machine.ensures.same in
    let one : RunsOne m k (words slots) (words more) (set marks k false) after =
    subst (λ x. RunsOne x k (words slots) (words more) (set marks k false) after) c.machine-machine.ensures.same
    (subst (λ ms. RunsOne c.machine-machine.result.now k (words slots) (words more) ms after) c.in-Some.ensures.taken c.run_one.ensures.done) in
    (k + 1, active_more m c.args.marks.now old slots more marks after c.loop-k.done c.loop-k.invariant.0 k order was least shape one)

pub returns-clause-given : goal.returns-clause-given
returns-clause-given c = given_kept c.args.m.now c.args.marks.now c.args.slots.now.items c.loop-k.slots.items c.loop-k.marks c.loop-k.done c.loop-k.invariant.0 c.loop-k.invariant.1 c.requires.shape

pub returns-clause-done : goal.returns-clause-done
returns-clause-done c = all_done c.args.m.now c.args.marks.now (words c.args.slots.now.items) c.loop-k.slots.items c.loop-k.marks c.loop-k.done c.loop-k.invariant.0 c.loop-k.invariant.1 c.in_default.ensures.none
