use Rattle.std.proofs.Common.{◌≡◌, ℕ, length, map, take, drop, false}
use Rattle.std.specs.Prelude.{slice_get, Some}
use Rattle.std.specs.Vec.Iter.{into_iter_items}
use Rattle.code_isa.specs.declared.machine.Kid.{Kid}
use Rattle.wrapper_core.specs.declared.wrapped.Wrapped.{Wrapped}
use Rattle.wrapper_core.specs.Start.{IsNewWrapper}
use Rattle.wrapper_core.specs.code.Cores.{IsSeated}
use Rattle.wrapper_core.proofs.making.wrap_all.Given as goal

abbrev pub invariant-loop-child : goal.invariant-loop-child
invariant-loop-child g l = record {
  left : into_iter_items l.left ≡ drop (length l.wrapped.items) l.fn.children.items;
  children : map (λ (x : Wrapped g.row.C.Denot). x.child) l.wrapped.items ≡ take (length l.wrapped.items) l.fn.children.items;
  seated : (i : ℕ) (kid : Kid) (x : Wrapped g.row.C.Denot) → slice_get l.kids i ≡ Some kid → slice_get l.wrapped.items i ≡ Some x → IsSeated g.C.Child.model g.C.Child.ready g.C.Child.struck kid x;
  wrappers : (i : ℕ) (x : Wrapped g.row.C.Denot) → slice_get l.wrapped.items i ≡ Some x → IsNewWrapper (g.C.Child.model x.child).shown x.wrapper × (x.struck ≡ false);
}

abbrev pub decreases-loop-child : goal.decreases-loop-child
decreases-loop-child g l = length (into_iter_items l.left)
