-- Sources with the runs of bits that they take.
use Rattle.std.proofs.Common.{◌≡◌, ℕ, zero, suc, List, [], ◌∷◌, ◌++◌, map, Bool, true, false, refl, ◌∙◌, ap}
use Rattle.std.specs.Prelude.{◌==◌, if◌then◌else◌}
use Rattle.std.specs.List.{flat_map}
use Rattle.std.proofs.lemmas.List.{map-append}
use Rattle.net_ir.specs.declared.design.Var.{Var}
use Rattle.net_ir.specs.declared.design.Output.{Output}
use Rattle.driver_check.specs.Driven.{joined_source, at_port, outputs_below}
use Rattle.driver_check.specs.Taking.{taken_source, taken_joined, taken_at_port, taken_below}

module _ (vars : List Var) where
  one_taken : (port : ℕ) (o : Output) → map (taken_source vars) (map joined_source (at_port port o)) ≡ taken_at_port vars port o
  one_taken port o = by_test (o.port == port) where
    by_test : (t : Bool) → map (taken_source vars) (map joined_source (if t then o ∷ [] else [])) ≡ (if t then taken_joined vars o ∷ [] else [])
    by_test true = refl
    by_test false = refl

  both_taken : (xs ys : List Output) →
      map (taken_source vars) (map joined_source (xs ++ ys)) ≡ (map (taken_source vars) (map joined_source xs) ++ map (taken_source vars) (map joined_source ys))
  both_taken xs ys = ap (map (taken_source vars)) (map-append joined_source xs ys) ∙ map-append (taken_source vars) (map joined_source xs) (map joined_source ys)

  port_taken : (port : ℕ) (outputs : List Output) → map (taken_source vars) (map joined_source (flat_map (at_port port) outputs)) ≡ flat_map (taken_at_port vars port) outputs
  port_taken port [] = refl
  port_taken port (o ∷ outputs) =
      both_taken (at_port port o) (flat_map (at_port port) outputs)
      ∙ ap (λ xs. xs ++ map (taken_source vars) (map joined_source (flat_map (at_port port) outputs))) (one_taken port o)
      ∙ ap (λ xs. taken_at_port vars port o ++ xs) (port_taken port outputs)

  pub below_taken : (outputs : List Output) (n : ℕ) → map (taken_source vars) (map joined_source (outputs_below outputs n)) ≡ taken_below vars outputs n
  below_taken outputs zero = refl
  below_taken outputs (suc n) =
      both_taken (outputs_below outputs n) (flat_map (at_port n) outputs)
      ∙ ap (λ xs. xs ++ map (taken_source vars) (map joined_source (flat_map (at_port n) outputs))) (below_taken outputs n)
      ∙ ap (λ xs. taken_below vars outputs n ++ xs) (port_taken n outputs)
