-- Ports behind the first.
use Rattle.std.proofs.Common.{◌≡◌, ◌∙◌, [], ◌∷◌, codes, Ok, sym, ap}
use Rattle.sv_ast.specs.declared.module.PortDecl.{PortDecl}
use Rattle.expr_parser.specs.Spelling.{is_this}
use Rattle.expr_parser.specs.Input.{Input, and_then, ◌>>=◌, ◌>>◌, pure, turns}
use Rattle.module_parser.specs.Input.{many, many_from}
use Rattle.module_parser.specs.Reading.{ports, whole_port, further_port, sign}
use Rattle.module_parser.proofs.Many.{behind_first}

pub ports_first : (i j : Input) (x : PortDecl) → whole_port i ≡ Ok (x, j)
    → ports i ≡ many_from (is_this (codes ",")) (λ _. sign (codes ",") >> further_port) (turns j) (x ∷ []) j
unfolding many ports
ports_first i j x e =
    ap (λ r. and_then r (λ first. many (is_this (codes ",")) (λ _. sign (codes ",") >> further_port) >>= λ rest. pure (first ∷ rest))) e
    ∙ sym (behind_first (is_this (codes ",")) (λ _. sign (codes ",") >> further_port) x (turns j) [] j)
