-- one more numbered call
use Rattle.std.proofs.Common.{◌≡◌, ℕ, suc, ◌+◌, Bool, List, ap, sym, subst, arith}
use Rattle.std.specs.Prelude.{◌==◌, if◌then◌else◌}
use Rattle.std.specs.List.{list_any}
use Rattle.io_edge.specs.Fault.{listed_faults}

-- the call with the next number adds a fault exactly where its number is listed
pub one_more_call : (fail : List ℕ) (n number : ℕ) (listed : Bool) → number ≡ n + 1 → listed ≡ list_any (λ k. k == number) fail → listed_faults fail number ≡ listed_faults fail n + (if listed then 1 else 0)
unfolding listed_faults
one_more_call fail n number listed next is =
    let e : number ≡ suc n = omega arith in
    subst (λ (k : ℕ). listed ≡ list_any (λ l. l == k) fail → listed_faults fail k ≡ listed_faults fail n + (if listed then 1 else 0)) (sym e)
    (λ found. ap (λ b. listed_faults fail n + (if b then 1 else 0)) (sym found)) is
