-- Victims: the recency bit of each was clear when the hand read it.
use Rattle.std.specs.Prelude.{◌≡◌, ℕ, suc, ◌<◌, length, slice_get, Some}
use Rattle.mc_words.specs.declared.policy.Policy.{Policy}
use Rattle.mc_words.specs.Standing.{Stands}
use Rattle.mc_words.specs.declared.shape.Shape.{Shape}
use Rattle.mc_theory.specs.Laws.{OpensOrSweeps}
use Rattle.mc_theory.specs.Lists.{Made, front}
use Rattle.mc_theory.specs.declared.act.Act.TheVariants.{Hand, Open}
use Rattle.mc_theory.specs.declared.act.Deed.TheVariants as deed
use Rattle.mc_shared.specs.ExactLaws.{AddsTurn}
use Rattle.mc_shared.specs.TableRule.{bit_in}
use Rattle.mc_shared.specs.Views.{with_bit, layout_with}
use Rattle.mc_executions.specs.Executions.{TableState, IsExecution, log_at}

-- The eviction of the key is act n of those that were made by state j. The step from state `at` is the hand's: it read the recency bit of
-- the victim's item, and the bit was 0 then. The step from state `opens` opened the eviction, and between the two acts nothing was opened,
-- nor did the hand turn
pub record WasClear (V : ℕ) {policy : Policy} (sh : Shape) (states : ℕ → TableState) (run : IsExecution (layout_with V policy sh) states) (j n k : ℕ) : Type 0 where
  pub slot : ℕ
  pub item : ℕ
  pub turn : ℕ
  pub at : ℕ
  pub opens : ℕ
  pub stands : Stands V sh (front V sh (log_at run j) n).words k slot item
  pub turned : turn < n
  pub act : slice_get (log_at run j) turn ≡ Some (with_bit (Hand item) 0)
  pub in_order : at < opens
  pub ends : opens < j
  pub counted : length (log_at run at) ≡ turn
  pub opened : length (log_at run opens) ≡ n
  pub step : AddsTurn (layout_with V policy sh) (states at) (states (suc at)) (log_at run at) item 0
  pub clear : bit_in (layout_with V policy sh) (states at).words item ≡ 0
  pub alone : (m : ℕ) (d : Made) → turn < m → m < n → slice_get (log_at run j) m ≡ Some d → OpensOrSweeps d.act → ⊥

-- so was each victim
abbrev pub VictimsWereClear : ℕ → Type 0
VictimsWereClear V =
    (policy : Policy) (sh : Shape) (states : ℕ → TableState) (run : IsExecution (layout_with V policy sh) states) (j n k b : ℕ) →
    slice_get (log_at run j) n ≡ Some (with_bit (Open k deed.Evict) b) → WasClear V sh states run j n k
