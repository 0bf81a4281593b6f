-- What is kept by several events is kept by all of them.
use Rattle.std.proofs.Common.{◌≡◌, ℕ, ◌+◌, ◌<◌, ◌≤◌, List, length, get_or, refl, sym, ◌∙◌, subst, arith}
use Rattle.std.specs.Prelude.{slice_get, Some}
use Rattle.std.proofs.lemmas.Option.{same_Some, slice_get_within, slice_get-get_or}
use Rattle.model_stage.specs.Model.{Model}
use Rattle.wrapper_core.specs.declared.wrapped.Wrapped.{Wrapped}
use Rattle.wrapper_core.specs.Snapshot.{Snapshot}
use Rattle.wrapper_core.specs.Events.{HasRoom}
use Rattle.settle_loop.specs.Kept.{IsKept, Keeps}
use Rattle.settle_loop.proofs.Registers.{same_refl, same_trans}

-- a list that is as long has an item there
pub found_in : {Y : Type 0} (xs ys : List Y) (i : ℕ) (y d : Y) → length ys ≡ length xs → slice_get ys i ≡ Some y → (x : Y) × (slice_get xs i ≡ Some x)
found_in xs ys i y d same at =
    let inside : i < length xs = omega (arith, same, slice_get_within ys i y at) in
    (get_or xs i d, slice_get-get_or xs i d inside)

module _ {X : Type 0} (model : X → Model) where
  pub kept_none : (c : Wrapped X) → IsKept model 0 c c
  kept_none c = record {
    tree = refl;
    levels = refl;
    registers = same_refl (model c.child).state;
    least = omega arith;
    most = omega arith;
    room = omega arith;
    struck = refl;
  }

  pub kept_more : (n k : ℕ) (c d : Wrapped X) → n ≤ k → IsKept model n c d → IsKept model k c d
  kept_more n k c d low was = record {
    tree = was.tree;
    levels = was.levels;
    registers = was.registers;
    least = was.least;
    most = omega (arith, was.most);
    room = omega (arith, was.room);
    struck = was.struck;
  }

  pub kept_then : (n k : ℕ) (b c d : Wrapped X) → IsKept model n b c → IsKept model k c d → IsKept model (n + k) b d
  kept_then n k b c d was now = record {
    tree = now.tree ∙ was.tree;
    levels = now.levels ∙ was.levels;
    registers = same_trans (model b.child).state (model c.child).state (model d.child).state was.registers now.registers;
    least = omega (arith, was.least, now.least);
    most = omega (arith, was.most, now.most);
    room = omega (arith, was.room, now.room);
    struck = now.struck ∙ was.struck;
  }

  pub keeps_none : (s : Snapshot X) → Keeps model 0 s s
  keeps_none s = record {
    code = refl;
    held = refl;
    registers = refl;
    levels = refl;
    phase = refl;
    each = refl;
    children = λ i c d ci di. subst (IsKept model 0 c) (same_Some c d (sym ci ∙ di)) (kept_none c);
  }

  pub keeps_then : (n k : ℕ) (s t z : Snapshot X) → Keeps model n s t → Keeps model k t z → Keeps model (n + k) s z
  keeps_then n k s t z was now = record {
    code = now.code ∙ was.code;
    held = now.held ∙ was.held;
    registers = now.registers ∙ was.registers;
    levels = now.levels ∙ was.levels;
    phase = now.phase ∙ was.phase;
    each = now.each ∙ was.each;
    children = λ i b d bi di.
        let mid = found_in t.children s.children i b b (sym was.each) bi in
        kept_then n k b mid.0 d (was.children i b mid.0 bi mid.1) (now.children i mid.0 d mid.1 di);
  }

  -- the room that is left
  pub room_left : (n k : ℕ) (s z : Snapshot X) → Keeps model n s z → HasRoom model (k + n) s → HasRoom model k z
  room_left n k s z keeps room i d di =
      let old = found_in s.children z.children i d d keeps.each di in
      let low = room i old.0 old.1 in
      let kept = keeps.children i old.0 d old.1 di in
      omega (arith, low, kept.room)
