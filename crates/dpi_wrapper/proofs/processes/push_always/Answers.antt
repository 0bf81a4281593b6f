use Rattle.std.proofs.Common.{◌++◌, ap, ◌∙◌}
use Rattle.std.specs.Prelude.{codes}
use Rattle.std.specs.List.{flat_map}
use Rattle.sv_base.specs.Classes.{is_clock}
use Rattle.dpi_wrapper.specs.WrapperText.{ports_of, or_clock, clock_names, always_line}
use Rattle.dpi_wrapper.proofs.Grouping.{four_parts}
use Rattle.dpi_wrapper.proofs.processes.push_always.Goals as goal

pub returns : goal.returns
unfolding always_line clock_names
returns c =
    let whole = four_parts _ _ _ _ _ _ _ _ _ c.in_ok-extend_from_slice.ensures.items c.in_ok-extend_from_slice-2.ensures.items c.in_ok-push_pieces.ensures
    c.in_ok-extend_from_slice-3.ensures.items in
    whole ∙ ap (λ name. c.args.into.now.items
    ++ (codes "  always @(" ++ (name ++ flat_map or_clock (ports_of is_clock c.args.behind.now)) ++ codes ") begin\n")) c.bytes.ensures
