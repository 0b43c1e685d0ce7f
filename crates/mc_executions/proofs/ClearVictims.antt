-- In every execution the recency bit of each victim was 0 when the hand's step read it.
use Rattle.std.specs.Prelude.{slice_get}
use Rattle.std.proofs.Common.{◌≡◌, ℕ, suc, ◌<◌, ◌∷◌, [], ◌++◌, length, set, ap, sym, ◌∙◌, arith, Some}
use Rattle.mc_words.specs.declared.policy.Policy.{Policy}
use Rattle.mc_words.specs.Standing.{Stands}
use Rattle.mc_words.specs.declared.shape.Shape.{Shape}
use Rattle.mc_theory.specs.Laws.{OpensOrSweeps}
use Rattle.mc_theory.specs.Lists.{Made, front}
use Rattle.mc_theory.specs.declared.act.Act.TheVariants.{Hand, Open}
use Rattle.mc_theory.specs.declared.act.Deed.TheVariants as deed
use Rattle.mc_theory.proofs.Lists.ClearReadings.{evicts_are_clear}
use Rattle.mc_shared.specs.Views.{layout_with, writer_view, with_bit, with_note}
use Rattle.mc_shared.specs.declared.layout.Layout.{Layout}
use Rattle.mc_executions.specs.ClearVictims.{WasClear, VictimsWereClear}
use Rattle.mc_executions.specs.Executions.{TableState, IsExecution}
use Rattle.mc_executions.proofs.ExecutionRuns.{FoundAct, act_before, act_there, acts_in_order, got_short, one_made}

-- the eviction of the key that was opened by the step found at g, after the turn of the hand at f
module _ (V : ℕ) {policy : Policy} (sh : Shape) (states : ℕ → TableState) (run : IsExecution (layout_with V policy sh) states) (j n k slot item turn : ℕ) (f : FoundAct (layout_with V policy sh) states run 0 j turn) (g : FoundAct (layout_with V policy sh) states run 0 j n) where
  was_clear : Stands V sh (front V sh ((run.ruled j).log) n).words k slot item → turn < n → slice_get ((run.ruled j).log) turn ≡ Some (with_bit (Hand item) 0)
      → ((m : ℕ) (d : Made) → turn < m → m < n → slice_get ((run.ruled j).log) m ≡ Some d → OpensOrSweeps d.act → ⊥) → WasClear V sh states run j n k
  was_clear stands before act alone =
      let l : Layout = layout_with V policy sh in
      let is : f.m ≡ with_bit (Hand item) 0 = one_made f.m (with_bit (Hand item) 0) (sym (act_there l states run 0 j turn f) ∙ act) in
      let clear = f.honest item (ap (λ (z : Made). z.act) is) in
      record {
        slot = slot;
        item = item;
        turn = turn;
        at = f.p;
        opens = g.p;
        stands = stands;
        turned = before;
        act = act;
        in_order = acts_in_order l states run 0 j turn n f g before;
        ends = g.until;
        counted = f.place;
        opened = g.place;
        step = record {
          before = run.ruled f.p;
          after = run.ruled (suc f.p);
          seat = f.seat;
          tally = (run.ruled f.p).tally;
          note = f.note;
          knows = f.knows;
          step = f.step ∙ ap (λ (m : Made). set (states f.p).views f.seat (writer_view l ((run.ruled f.p).log ++ m ∷ []) (with_note (run.ruled f.p).tally f.note))) is;
        };
        clear = sym clear ∙ ap (λ (z : Made). z.bit) is;
        alone = alone;
      }

pub victims_were_clear : (V : ℕ) → VictimsWereClear V
victims_were_clear V policy sh states run j n k b at =
    let l : Layout = layout_with V policy sh in
    let c = evicts_are_clear V sh ((run.ruled j).log) n k b (run.ruled j).lawful at in
    let below : n < length ((run.ruled j).log) = got_short ((run.ruled j).log) n (with_bit (Open k deed.Evict) b) at in
    was_clear V sh states run j n k c.0 c.1 c.2 (act_before l states run j c.2 (omega (arith, below, c.4))) (act_before l states run j n below) c.3 c.4 c.5 c.6
