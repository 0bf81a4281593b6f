-- A module without instances has the face that its own drivers show.
use Rattle.std.proofs.Common.{◌≡◌, ℕ, ◌+◌, List, [], ◌∷◌, ◌++◌, refl, ◌∙◌, ap}
use Rattle.std.specs.Prelude.{if◌then◌else◌}
use Rattle.std.specs.List.{AllByRecursion, flat_map}
use Rattle.sv_base.specs.declared.face.Face.{Face}
use Rattle.net_ir.specs.declared.design.Role.{Role}
use Rattle.net_ir.specs.declared.design.Role.TheVariants.{Input, Output, Inner}
use Rattle.net_ir.specs.declared.design.Var.{Var}
use Rattle.net_ir.specs.declared.design.Driver.{Driver}
use Rattle.net_ir.specs.declared.design.Driver.TheVariants as driver
use Rattle.net_ir.specs.declared.design.Driver.TheVariants.{Assign, Comb, Clocked}
use Rattle.net_ir.specs.declared.design.Spec.{Spec}
use Rattle.net_ir.specs.Drive.{driver_reads, driver_clocks}
use Rattle.net_ir.specs.Face.{clocks_of, all_reads, class_of, port_of, is_inner, ports_from, face_of}
use Rattle.clock_domains.specs.Each.{of_each}
use Rattle.clock_domains.specs.Clocks.{clocks_at}
use Rattle.clock_domains.specs.Reads.{reads_in}
use Rattle.clock_domains.specs.Classes.{class_in, port_in, ports_in, face_with}
use Rattle.clock_domains.specs.Alone.{IsOwn, HasNoInstance}

own_clocks : (ds : List Driver) (faces : List Face) → AllByRecursion IsOwn ds → of_each clocks_at ds faces ≡ flat_map driver_clocks ds
own_clocks [] faces all = refl
own_clocks (Assign target value place ∷ ds) faces all = own_clocks ds faces all.1
own_clocks (Comb body place ∷ ds) faces all = own_clocks ds faces all.1
own_clocks (Clocked triggers body place ∷ ds) faces all = ap (λ xs. driver_clocks (Clocked triggers body place) ++ xs) (own_clocks ds faces all.1)
own_clocks (driver.Instance made ∷ ds) faces all = absurd all.0

own_reads : (ds : List Driver) (faces : List Face) → AllByRecursion IsOwn ds → of_each reads_in ds faces ≡ flat_map driver_reads ds
own_reads [] faces all = refl
own_reads (Assign target value place ∷ ds) faces all = ap (λ xs. driver_reads (Assign target value place) ++ xs) (own_reads ds faces all.1)
own_reads (Comb body place ∷ ds) faces all = ap (λ xs. driver_reads (Comb body place) ++ xs) (own_reads ds faces all.1)
own_reads (Clocked triggers body place ∷ ds) faces all = ap (λ xs. driver_reads (Clocked triggers body place) ++ xs) (own_reads ds faces all.1)
own_reads (driver.Instance made ∷ ds) faces all = absurd all.0

own_class : (spec : Spec) (x : ℕ) (r : Role) → class_in (clocks_of spec) (all_reads spec) x r ≡ class_of spec x r
own_class spec x Input = refl
own_class spec x Output = refl
own_class spec x Inner = refl

own_ports : (spec : Spec) (x : ℕ) (vars : List Var) → ports_in (clocks_of spec) (all_reads spec) x vars ≡ ports_from spec x vars
own_ports spec x [] = refl
own_ports spec x (v ∷ vars) =
    let port : port_in (clocks_of spec) (all_reads spec) x v ≡ port_of spec x v =
    ap (λ c. record { name = v.name; class = c; signed = v.signed; width = v.width }) (own_class spec x v.role) in
    ap (λ p. if is_inner v.role then [] else p ∷ ports_in (clocks_of spec) (all_reads spec) (x + 1) vars) port
    ∙ ap (λ ps. if is_inner v.role then [] else port_of spec x v ∷ ps) (own_ports spec (x + 1) vars)

pub without_instances : (spec : Spec) (faces : List Face) → HasNoInstance spec → face_with spec faces ≡ face_of spec
without_instances spec faces own =
    let ports : ports_in (of_each clocks_at spec.drivers faces) (of_each reads_in spec.drivers faces) 0 spec.vars ≡ ports_from spec 0 spec.vars =
    ap (λ clocks. ports_in clocks (of_each reads_in spec.drivers faces) 0 spec.vars) (own_clocks spec.drivers faces own)
    ∙ ap (λ reads. ports_in (clocks_of spec) reads 0 spec.vars) (own_reads spec.drivers faces own)
    ∙ own_ports spec 0 spec.vars in
    ap (λ ps. record { name = spec.«module»; ports = ps }) ports
