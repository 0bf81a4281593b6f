-- What is known of models in their stages.
use Rattle.std.proofs.Common.{◌≡◌, ℕ, ◌+◌, ◌-◌, ◌^◌, ◌≤◌, ◌/◌, List, [], ◌∷◌, length, map, sym, ◌∙◌, ap, refl, arith}
use Rattle.std.proofs.lemmas.List.{length-map}
use Rattle.std.proofs.Math.Nat.{min-le_right}
use Rattle.bit_ops.specs.declared.value.Bits.{Bits}
use Rattle.bit_ops.specs.Lists.{words}
use Rattle.code_isa.specs.Faces.{output_count}
use Rattle.code_isa.specs.Tree.{outs_of}
use Rattle.model_stage.specs.Model.{Stage, Model, IsModel, IsReady, IsStruck}
use Rattle.wrapper_core.specs.declared.wrapped.Wrapped.{Wrapped}
use Rattle.wrapper_core.specs.declared.world.World.{World}
use Rattle.wrapper_core.specs.Snapshot.{tree_in, state_in}
use Rattle.wrapper_core.specs.World.{moment_of}
use Rattle.wrapper_core.proofs.Worlds.{world_settled}
use Rattle.settle_loop.proofs.Ending.{world_whole}
use Rattle.model_handle.specs.declared.node.Node.{Node}
use Rattle.model_handle.specs.declared.node.Hit.{Hit}
use Rattle.model_handle.specs.Models.{least_room, model_in, node_model, hit_model, IsRest, IsReadyNode, IsStruckHit}

own_most : (own by : ℕ) (rooms : List ℕ) → least_room own by rooms ≤ own
own_most own by [] = omega arith
own_most own by (r ∷ rooms) = omega (arith, min-le_right (r / by) (least_room own by rooms), own_most own by rooms)

module _ {X : Type 0} (model : X → Model) (ready struck : X → Type 0) (law : (c : X) → ready c → IsReady (model c)) where
  rest_model : (w : World X) (number : ℕ) (shown : List ℕ) (stage : Stage) → IsRest model ready struck w number → length shown ≡ output_count (moment_of w).code.face → IsModel (model_in model (moment_of w) shown number stage)
  rest_model w number shown stage rest each = record {
    linked = (world_whole model ready struck law w rest.world rest.checked rest.quiescent.calm).linked;
    settled = world_settled model ready struck w law rest.world rest.quiescent;
    levels_each = rest.world.levels_each;
    shown_each = each;
    numbers =
        let s = moment_of w in
        omega (arith, rest.numbers, own_most (2 ^ 63 - number) (s.code.chain + 2) (map (λ (c : Wrapped X). (model c.child).room) s.children));
  }

  pub node_is_ready : (n : Node X) → IsReadyNode model ready struck n → IsReady (node_model model n)
  node_is_ready n is =
      let s = moment_of n.world in
      record {
        model = rest_model n.world n.number (outs_of (tree_in model s) (state_in model s)) _ is.rest (length-map s.code.outs _ ∙ s.code.all_driven);
        stage = refl;
        shown = refl;
      }

  pub hit_is_struck : (h : Hit X) → IsStruckHit model ready struck h → IsStruck (hit_model model h)
  hit_is_struck h is = record {
    model = rest_model h.world h.number (words h.shown.items) _ is.rest
        (length-map h.shown.items (λ (b : Bits). b.word) ∙ sym (length-map h.shown.items (λ (b : Bits). b.width)) ∙ ap length is.wide ∙ length-map _ (λ p. p.width));
    stage = refl;
  }
