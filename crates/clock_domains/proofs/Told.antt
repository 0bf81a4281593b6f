-- What a module's parts tell, told of the module.
use Rattle.std.proofs.Common.{◌≡◌, List, Bool, length, ◌∙◌, ap, subst, arith}
use Rattle.sv_base.specs.declared.face.Face.{Face}
use Rattle.net_ir.specs.declared.design.Var.{Var}
use Rattle.net_ir.specs.declared.design.Driver.{Driver}
use Rattle.net_ir.specs.declared.design.Spec.{Spec}
use Rattle.net_ir.specs.Marks.{AreMarksOf}
use Rattle.clock_domains.specs.Each.{of_each}
use Rattle.clock_domains.specs.Clocks.{joins_refused}
use Rattle.clock_domains.specs.Reads.{reads_in, reads_refused}
use Rattle.clock_domains.specs.Order.{clocks_of, reads_of}
use Rattle.clock_domains.specs.Classes.{ports_in}
use Rattle.clock_domains.specs.code.Walking.{driver_refusals, ports_by}
use Rattle.clock_domains.proofs.Same.{refusals_same, ports_same}

-- what is refused of event controls and clock connections
pub joins_are : (spec : Spec) (faces given : List Face) (vars : List Var) (ds : List Driver) → vars ≡ spec.vars → ds ≡ spec.drivers → given ≡ faces →
    of_each (joins_refused vars) ds given ≡ of_each (joins_refused spec.vars) spec.drivers faces
joins_are spec faces given vars ds vars_are ds_are faces_are =
    ap (λ v. of_each (joins_refused v) ds given) vars_are
    ∙ ap (λ d. of_each (joins_refused spec.vars) d given) ds_are
    ∙ ap (λ f. of_each (joins_refused spec.vars) spec.drivers f) faces_are

-- marks of the clocks
pub clocks_tell : (spec : Spec) (faces given : List Face) (clocks : List Bool) → given ≡ faces → AreMarksOf (length spec.vars) (clocks_of spec given) clocks →
    AreMarksOf (length spec.vars) (clocks_of spec faces) clocks
clocks_tell spec faces given clocks faces_are tell = subst (λ f. AreMarksOf (length spec.vars) (clocks_of spec f) clocks) faces_are tell

-- what marks of the clocks refuse of reads
pub reads_are : (spec : Spec) (faces given : List Face) (vars : List Var) (ds : List Driver) (clocks marks : List Bool) → vars ≡ spec.vars → ds ≡ spec.drivers →
    given ≡ faces → marks ≡ clocks → AreMarksOf (length spec.vars) (clocks_of spec faces) clocks →
    of_each (driver_refusals vars marks) ds given ≡ of_each (reads_refused spec.vars (clocks_of spec faces)) spec.drivers faces
reads_are spec faces given vars ds clocks marks vars_are ds_are faces_are marks_are tell =
    ap (λ v. of_each (driver_refusals v marks) ds given) vars_are
    ∙ ap (λ m. of_each (driver_refusals spec.vars m) ds given) marks_are
    ∙ ap (λ d. of_each (driver_refusals spec.vars clocks) d given) ds_are
    ∙ ap (λ f. of_each (driver_refusals spec.vars clocks) spec.drivers f) faces_are
    ∙ refusals_same spec.vars (clocks_of spec faces) clocks tell spec.drivers faces

-- marks of what is read
pub reads_tell : (spec : Spec) (faces given : List Face) (vars : List Var) (ds : List Driver) (read : List Bool) → vars ≡ spec.vars → ds ≡ spec.drivers →
    given ≡ faces → AreMarksOf (length vars) (of_each reads_in ds given) read → AreMarksOf (length spec.vars) (reads_of spec faces) read
reads_tell spec faces given vars ds read vars_are ds_are faces_are tell =
    subst (λ f. AreMarksOf (length spec.vars) (of_each reads_in spec.drivers f) read) faces_are
    (subst (λ d. AreMarksOf (length spec.vars) (of_each reads_in d given) read) ds_are
    (subst (λ v. AreMarksOf (length v) (of_each reads_in ds given) read) vars_are tell))

-- the ports that marks tell
pub ports_are : (spec : Spec) (faces : List Face) (vars : List Var) (clocks clock read reading : List Bool) → vars ≡ spec.vars → clock ≡ clocks →
    reading ≡ read →
    AreMarksOf (length spec.vars) (clocks_of spec faces) clocks → AreMarksOf (length spec.vars) (reads_of spec faces) read →
    ports_by clock reading 0 vars ≡ ports_in (clocks_of spec faces) (reads_of spec faces) 0 spec.vars
ports_are spec faces vars clocks clock read reading vars_are clock_is reading_is first second =
    ap (λ v. ports_by clock reading 0 v) vars_are
    ∙ ap (λ m. ports_by m reading 0 spec.vars) clock_is
    ∙ ap (λ m. ports_by clocks m 0 spec.vars) reading_is
    ∙ ports_same (length spec.vars) (clocks_of spec faces) (reads_of spec faces) clocks read first second 0 spec.vars (omega arith)
