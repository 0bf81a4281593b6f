-- What the answers on names of ports say.
use Rattle.std.proofs.Common.{◌≡◌, ◌≢◌, ℕ, ◌<◌, List, length, take, get_or, sym, ◌∙◌, ap, arith}
use Rattle.std.specs.Prelude.{All, AllPairs}
use Rattle.std.proofs.lemmas.List.{get_or_default, get_or-take, length-take-le}
use Rattle.sv_base.specs.declared.face.Port.{Port}

pub new_pair : (ports : List Port) (k : ℕ) (item : Port) → k < length ports → item ≡ get_or ports k item → All (λ p. p.name ≢ item.name) (take k ports)
    → (i : ℕ) (d : Port) → i < k → (get_or ports i d).name ≢ (get_or ports k d).name
new_pair ports k item inside is all i d low same =
    let sized : length (take k ports) ≡ k = length-take-le k ports (omega arith) in
    all i d (omega arith) (ap (λ (p : Port). p.name) (get_or-take k ports i d low) ∙ same
    ∙ sym (ap (λ (p : Port). p.name) (is ∙ get_or_default ports k item d inside)))

pub pair_new : (ports : List Port) (k : ℕ) (item : Port) → k < length ports → item ≡ get_or ports k item → AllPairs (λ p q. p.name ≢ q.name) ports
    → All (λ p. p.name ≢ item.name) (take k ports)
pair_new ports k item inside is pairs i d low same =
    let sized : length (take k ports) ≡ k = length-take-le k ports (omega arith) in
    let before : i < k = omega arith in
    pairs i k d before inside (sym (ap (λ (p : Port). p.name) (get_or-take k ports i d before)) ∙ same
    ∙ ap (λ (p : Port). p.name) (is ∙ get_or_default ports k item d inside))
