-- Lists that are compared item by item.
use Rattle.std.proofs.Common.{◌≡◌, ℕ, ◌≤◌, Bool, List, length, take, sym, ◌∙◌, ap, arith}
use Rattle.std.proofs.lemmas.List.{take_all}
use Rattle.sv_base.specs.declared.face.Class.{Class}
use Rattle.sv_base.specs.declared.face.Port.{Port}
use Rattle.sv_base.specs.declared.face.Face.{Face}
use Rattle.sv_base.specs.declared.face.Summary.{Summary}

-- two lists that agree as far as both go
pub whole : {X : Type 0} (xs ys : List X) (n : ℕ) → length xs ≡ length ys → length xs ≤ n → take n xs ≡ take n ys → xs ≡ ys
whole xs ys n size long same =
    sym (take_all n xs long) ∙ same ∙ take_all n ys (let e : length ys ≤ n = omega (arith, size, long) in e)

-- what is the same in all parts
pub same_port : (p q : Port) → p.name ≡ q.name → p.class ≡ q.class → p.signed ≡ q.signed → p.width ≡ q.width → p ≡ q
same_port p q name class signed width =
    ap (λ (x : List ℕ). let port : Port = record { name = x; class = p.class; signed = p.signed; width = p.width } in port) name
    ∙ ap (λ (x : Class). let port : Port = record { name = q.name; class = x; signed = p.signed; width = p.width } in port) class
    ∙ ap (λ (x : Bool). let port : Port = record { name = q.name; class = q.class; signed = x; width = p.width } in port) signed
    ∙ ap (λ (x : ℕ). let port : Port = record { name = q.name; class = q.class; signed = q.signed; width = x } in port) width

pub same_face : (f g : Face) → f.name ≡ g.name → f.ports ≡ g.ports → f ≡ g
same_face f g name ports =
    ap (λ (x : List ℕ). let face : Face = record { name = x; ports = f.ports } in face) name
    ∙ ap (λ (x : List Port). let face : Face = record { name = g.name; ports = x } in face) ports

pub same_summary : (s t : Summary) → s.rows ≡ t.rows → s ≡ t
same_summary s t rows = ap (λ (x : List (List ℕ)). let summary : Summary = record { rows = x } in summary) rows
