use Rattle.std.proofs.Common.{arith}
use Rattle.code_check.proofs.Rows.{few_inputs}
use Rattle.code_check.proofs.flow.regions_of.Goals as goal

pub overflow_add-result : goal.overflow_add-result
overflow_add-result c = omega (arith, few_inputs c.args.m.now.face c.args.m.now.face_fits, c.input_count-inputs.ensures, c.as_slice.type_inv)
