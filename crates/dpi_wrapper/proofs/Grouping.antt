-- Texts that were added one after the other are one text.
use Rattle.std.proofs.Common.{◌≡◌, ℕ, List, ◌++◌, ap, ◌∙◌, append_assoc}

pub three_parts : (old x y z a b c : List ℕ) → a ≡ old ++ x → b ≡ a ++ y → c ≡ b ++ z → c ≡ old ++ (x ++ y ++ z)
three_parts old x y z a b c first second third = third ∙ ap (λ t. t ++ z) (second ∙ ap (λ t. t ++ y) first) ∙ simp append_assoc

pub four_parts : (old w x y z a b c d : List ℕ) → a ≡ old ++ w → b ≡ a ++ x → c ≡ b ++ y → d ≡ c ++ z → d ≡ old ++ (w ++ (x ++ y) ++ z)
four_parts old w x y z a b c d first second third fourth =
    fourth ∙ ap (λ t. t ++ z) (third ∙ ap (λ t. t ++ y) (second ∙ ap (λ t. t ++ x) first)) ∙ simp append_assoc
