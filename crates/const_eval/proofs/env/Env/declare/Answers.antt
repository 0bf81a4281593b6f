use Rattle.std.proofs.Common.{◌≡◌, List, ℕ, Some, ap, subst, ◌∙◌, bytes_eq, vec_items}
use Rattle.std.specs.Map.{lookup}
use Rattle.const_eval.specs.Env.{bound_of, at_bytes, IsUnchanged}
use Rattle.const_eval.proofs.Naming.{rebound_at, in_any_error}
use Rattle.const_eval.proofs.env.Env.declare.Goals as goal

pub returns-in_err-insert-clause-err : goal.returns-in_err-insert-clause-err
unfolding bound_of
returns-in_err-insert-clause-err c =
    in_any_error c.from_residual-in_err-insert.result (IsUnchanged c.args.self.now (record { names = c.insert.new.self }))
    (λ n. ap (lookup (λ key. bytes_eq n (vec_items key))) c.in_err-insert.ensures.err)

pub returns-clause-before : goal.returns-clause-before
unfolding bound_of
returns-clause-before c =
    let key : vec_items c.in_ok-key.key ≡ c.args.name.now = c.in_ok-key.ensures.items ∙ c.bytes.ensures in
    c.in_ok-insert.ensures.old ∙ ap (λ (name : List ℕ). at_bytes c.args.self.now.names name) key

pub returns-clause-here : goal.returns-clause-here
unfolding bound_of
returns-clause-here c =
    let key : vec_items c.in_ok-key.key ≡ c.args.name.now = c.in_ok-key.ensures.items ∙ c.bytes.ensures in
    subst (λ (name : List ℕ). at_bytes c.insert.new.self name ≡ Some c.args.bound) key c.in_ok-insert.ensures.updates.1

pub returns-clause-declared : goal.returns-clause-declared
unfolding bound_of
returns-clause-declared c =
    let key : vec_items c.in_ok-key.key ≡ c.args.name.now = c.in_ok-key.ensures.items ∙ c.bytes.ensures in
    rebound_at c.in_ok-key.key c.args.name.now c.args.self.now.names c.insert.new.self (Some c.args.bound) key c.in_ok-insert.ensures.updates
