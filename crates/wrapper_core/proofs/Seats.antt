-- A child behind its wrapper, before and after a call.
use Rattle.std.proofs.Common.{◌≡◌, ℕ, ◌<◌, ◌≤◌, Bool, true, false, List, sym, ◌∙◌, ap, subst, arith}
use Rattle.std.specs.Prelude.{nat_lt}
use Rattle.std.proofs.lemmas.Bool.{cond_both}
use Rattle.bit_ops.specs.Lists.{words, widths}
use Rattle.code_isa.specs.declared.machine.Kid.{Kid}
use Rattle.code_isa.specs.Tree.{Tree, top_of}
use Rattle.model_stage.specs.Model.{Model, Updates, Strikes}
use Rattle.sequence_select.specs.Shown.{Taken, shown}
use Rattle.wrapper_core.specs.declared.wrapped.Wrapped.{Wrapped}
use Rattle.wrapper_core.specs.Events.{TakesUpdate, IsPublished}
use Rattle.wrapper_core.specs.code.Cores.{StandsReady, StandsStruck, Stands, IsSeated}

-- what is shown has the widths of both lists
pub shown_wide : (w : Taken) (ws : List ℕ) → widths w.out_combo ≡ ws → widths w.out_seq ≡ ws → widths (shown w) ≡ ws
shown_wide w ws combo seq = cond_both (nat_lt w.combo_no w.seq_no) w.out_seq w.out_combo (λ xs. widths xs ≡ ws) (λ _. seq) (λ _. combo)

module _ {X : Type 0} (model : X → Model) (ready struck : X → Type 0) where
  pub stands_ready : (kid : Kid) (c : Wrapped X) → IsSeated model ready struck kid c → c.struck ≡ false → StandsReady model ready c
  stands_ready kid c seated free = subst (λ b. Stands model ready struck b c) free seated.stage

  pub stands_struck : (kid : Kid) (c : Wrapped X) → IsSeated model ready struck kid c → c.struck ≡ true → StandsStruck model struck c
  stands_struck kid c seated set_so = subst (λ b. Stands model ready struck b c) set_so seated.stage

  pub seated_update : (kid : Kid) (inputs : List ℕ) (c d : Wrapped X) → IsSeated model ready struck kid c → c.struck ≡ false → ready d.child → Updates inputs (model c.child) (model d.child) → TakesUpdate (model d.child) c.wrapper d.wrapper → words (shown d.wrapper) ≡ (model d.child).shown → d.struck ≡ false → IsSeated model ready struck kid d
  seated_update kid inputs c d was free now updates takes shows still =
      let before = stands_ready kid c was free in
      record {
        face = ap (λ (t : Tree). (top_of t).face) updates.tree ∙ was.face;
        summary = ap (λ (t : Tree). (top_of t).summary) updates.tree ∙ was.summary;
        stage = subst (λ b. Stands model ready struck b d) (sym still) (record {
          ready_now = now;
          numbers = (
            let e : d.wrapper.combo_no ≤ (model d.child).number = omega (arith, takes.number) in e,
            let e : d.wrapper.seq_no ≤ (model d.child).number = omega (arith, takes.seq_no, before.numbers.1, updates.number) in e,
          );
        });
        shown_is = shows;
        combo_wide = takes.wide ∙ was.combo_wide;
        seq_wide = ap widths takes.out_seq ∙ was.seq_wide;
      }

  pub seated_strike : (kid : Kid) (given : List Bool) (c d : Wrapped X) → IsSeated model ready struck kid c → c.struck ≡ false → struck d.child → Strikes given (model c.child) (model d.child) → d.wrapper ≡ c.wrapper → d.struck ≡ true → IsSeated model ready struck kid d
  seated_strike kid given c d was free now strikes same set_so =
      let before = stands_ready kid c was free in
      record {
        face = ap (λ (t : Tree). (top_of t).face) strikes.tree ∙ was.face;
        summary = ap (λ (t : Tree). (top_of t).summary) strikes.tree ∙ was.summary;
        stage = subst (λ b. Stands model ready struck b d) (sym set_so) (record {
          struck_now = now;
          numbers = (
            let e : d.wrapper.combo_no < (model d.child).number = omega (arith, ap (λ (w : Taken). w.combo_no) same, before.numbers.0, strikes.number) in e,
            let e : d.wrapper.seq_no < (model d.child).number = omega (arith, ap (λ (w : Taken). w.seq_no) same, before.numbers.1, strikes.number) in e,
          );
        });
        shown_is = ap (λ (w : Taken). words (shown w)) same ∙ was.shown_is ∙ sym strikes.shown;
        combo_wide = ap (λ (w : Taken). widths w.out_combo) same ∙ was.combo_wide;
        seq_wide = ap (λ (w : Taken). widths w.out_seq) same ∙ was.seq_wide;
      }

  pub seated_publish : (kid : Kid) (c d : Wrapped X) → IsSeated model ready struck kid c → c.struck ≡ true → ready d.child → IsPublished model c d → words (shown d.wrapper) ≡ (model d.child).shown → IsSeated model ready struck kid d
  seated_publish kid c d was set_so now published shows =
      let before = stands_struck kid c was set_so in
      let number : (model d.child).number ≡ (model c.child).number = ap (λ (m : Model). m.number) published.publishes in
      record {
        face = ap (λ (m : Model). (top_of m.tree).face) published.publishes ∙ was.face;
        summary = ap (λ (m : Model). (top_of m.tree).summary) published.publishes ∙ was.summary;
        stage = subst (λ b. Stands model ready struck b d) (sym published.unstruck) (record {
          ready_now = now;
          numbers = (
            let e : d.wrapper.combo_no ≤ (model d.child).number = omega (arith, published.takes.combo_no, before.numbers.0, number) in e,
            let e : d.wrapper.seq_no ≤ (model d.child).number = omega (arith, published.takes.number) in e,
          );
        });
        shown_is = shows;
        combo_wide = ap widths published.takes.out_combo ∙ was.combo_wide;
        seq_wide = published.takes.wide ∙ was.seq_wide;
      }
