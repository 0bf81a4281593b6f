-- A generate region, step by step.
use Rattle.std.proofs.Common.{◌≡◌, ◌∙◌, ℕ, List, codes, Ok, ap}
use Rattle.sv_ast.specs.declared.expression.Id.{Id}
use Rattle.sv_ast.specs.declared.item.Item.{Item}
use Rattle.sv_ast.specs.declared.item.Item.TheVariants as item
use Rattle.expr_parser.specs.Input.{Input, Parser, and_then, ◌>>=◌, ◌>>◌, pure, enter, leave}
use Rattle.module_parser.specs.Rule.{Test}
use Rattle.module_parser.specs.Words.{is_keyword, is_no_keyword}
use Rattle.module_parser.specs.Input.{pass, take_open, many, opened}
use Rattle.module_parser.specs.Reading.{generated, word}

opened_steps : {A : Type 0} (test : Test) (f : Id → Parser A) (i i1 i2 i3 : Input) (outer : ℕ) (opens : Id) (tree : A)
    → enter i ≡ Ok (outer, i) → take_open test i ≡ Ok (opens, i1) → f opens i1 ≡ Ok (tree, i2) → leave outer i2 ≡ Ok (tt, i3)
    → opened test f i ≡ Ok (tree, i3)
opened_steps test f i i1 i2 i3 outer opens tree a b c d =
    ap (λ r. and_then r (λ outer. take_open test >>= λ opens. f opens >>= λ tree. leave outer >> pure tree)) a
    ∙ ap (λ r. and_then r (λ opens. f opens >>= λ tree. leave outer >> pure tree)) b
    ∙ ap (λ r. and_then r (λ tree. leave outer >> pure tree)) c ∙ ap (λ r. and_then r (λ _. pure tree)) d

-- up to `endgenerate`
pub generated_steps : (item_rule : Parser Item) (i i1 i2 i3 : Input) (outer : ℕ) (opens : Id) (found : List Item)
    → enter i ≡ Ok (outer, i) → take_open (is_keyword (codes "generate")) i ≡ Ok (opens, i1)
    → many (is_no_keyword (codes "endgenerate")) (λ _. item_rule) i1 ≡ Ok (found, i2) → leave outer i2 ≡ Ok (tt, i3)
    → generated item_rule i ≡ and_then (pass (is_keyword (codes "endgenerate")) i3) (λ _. pure (item.Generate found))
unfolding generated
generated_steps item_rule i i1 i2 i3 outer opens found a b c d =
    ap (λ r. and_then r (λ inner. word (codes "endgenerate") >> pure (item.Generate inner)))
    (opened_steps (is_keyword (codes "generate")) (λ _. many (is_no_keyword (codes "endgenerate")) (λ _. item_rule)) i i1 i2 i3 outer opens found a b c d)
