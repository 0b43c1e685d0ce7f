-- Lookups one after the other: one more, what they leave, and that their replies are true.
use Rattle.std.proofs.Common.{ℕ, ◌≡◌, ◌^◌, ◌<◌, ◌≤◌, List, [], ◌∷◌, ◌++◌, length, refl, ap, sym, ◌∙◌, subst, arith, append_assoc}
use Rattle.std.specs.Prelude.{All}
use Rattle.std.proofs.lemmas.List.{append-nil}
use Rattle.std.proofs.lemmas.List.Elements.{All-head, All-tail}
use Rattle.mc_words.specs.declared.policy.Policy.{Policy}
use Rattle.mc_words.specs.Shapes.{IsShape}
use Rattle.mc_words.specs.History.{IsTrueAnswer}
use Rattle.mc_words.specs.declared.history.Reply.{Reply}
use Rattle.mc_words.specs.declared.shape.Shape.{Shape}
use Rattle.mc_theory.specs.Lists.{state_of}
use Rattle.mc_theory.specs.Plain.{IsBetween}
use Rattle.mc_theory.specs.Readings.{Reading, AreRead, RiseTo}
use Rattle.mc_theory.specs.States.{State}
use Rattle.mc_theory.proofs.Lists.Fronts.{front_all}
use Rattle.mc_theory.proofs.Lists.Readings.{read_parts, rise_on}
use Rattle.mc_theory.proofs.Replies.TrueReplies.{replies_are_true}
use Rattle.mc_shared.specs.Records.{ReaderRecord}
use Rattle.mc_shared.specs.TableRule.{IsRecord}
use Rattle.mc_shared.specs.Views.{layout_with, AreLawful, IsFrontOf}
use Rattle.mc_shared.proofs.ReaderRecords.{front_self, front_trans, front_length}
use Rattle.mc_reader.specs.Records.{HasLooked, HaveLooked, AreTrueAnswers}
use Rattle.mc_reader.proofs.Course.{old_front}

-- one lookup more
pub looked_more : (V : ℕ) (sh : Shape) (ks : List ℕ) (k : ℕ) (before mid after : ReaderRecord) (rs : List (Reply V)) (r : Reply V) → HaveLooked V sh ks before mid rs → HasLooked V sh k mid after r → HaveLooked V sh (ks ++ k ∷ []) before after (rs ++ r ∷ [])
looked_more V sh [] k before mid after [] r h one = (after, subst (λ (b : ReaderRecord). HasLooked V sh k b after r) h one, refl)
looked_more V sh (x ∷ ks) k before mid after (y ∷ rs) r h one = (h.0, h.1, looked_more V sh ks k h.0 mid after rs r h.2 one)
looked_more V sh [] k before mid after (y ∷ rs) r h one = absurd h
looked_more V sh (x ∷ ks) k before mid after [] r h one = absurd h

-- what lookups leave of a record
pub record Grown (before after : ReaderRecord) : Type 0 where
  pub of : after.of ≡ before.of
  pub more : List Reading
  pub done : after.done ≡ before.done ++ more
  pub begins : IsFrontOf before.front after.front

pub grown : (V : ℕ) (sh : Shape) (ks : List ℕ) (before after : ReaderRecord) (rs : List (Reply V)) → HaveLooked V sh ks before after rs → Grown before after
grown V sh [] before after [] h = subst (Grown before) (sym h) (record { of = refl; more = []; done = sym (append-nil before.done); begins = front_self before.front })
grown V sh (k ∷ ks) before after (r ∷ rs) h =
    let g = grown V sh ks h.0 after rs h.2 in
    record {
      of = g.of ∙ h.1.of;
      more = h.1.rs ++ g.more;
      done = g.done ∙ (ap (λ (z : List Reading). z ++ g.more) h.1.done ∙ append_assoc before.done h.1.rs g.more);
      begins = front_trans before.front h.0.front after.front h.1.begins g.begins;
    }
grown V sh [] before after (r ∷ rs) h = absurd h
grown V sh (k ∷ ks) before after [] h = absurd h

-- fronts that rise from a number rise from a lower one
rise_from : (e f : ℕ) (rs : List Reading) (g : ℕ) → e ≤ f → RiseTo f rs g → RiseTo e rs g
rise_from e f [] g l up = omega (arith, up)
rise_from e f (x ∷ xs) g l up = (omega (arith, up.0), up.1)

module _ (V : ℕ) {policy : Policy} (sh : Shape) (start after : ReaderRecord) (shape : IsShape sh) (lawful : AreLawful (layout_with V policy sh) after.front) (recorded : IsRecord (layout_with V policy sh) after.front after.done) where
  -- a lookup that others follow
  one_true : (k : ℕ) (before mid : ReaderRecord) (r : Reply V) → k < 2 ^ 64 → IsFrontOf start.front before.front → HasLooked V sh k before mid r → Grown mid after
      → IsTrueAnswer (state_of V sh after.front).history k r × IsBetween (length (state_of V sh start.front).history) (length (state_of V sh after.front).history) r
  one_true k before mid r small begins h g =
      let whole : after.done ≡ before.done ++ (h.rs ++ g.more) = g.done ∙ (ap (λ (z : List Reading). z ++ g.more) h.done ∙ append_assoc before.done h.rs g.more) in
      let later : AreRead V sh after.front (h.rs ++ g.more) = (read_parts V sh after.front before.done (h.rs ++ g.more) (subst (λ (z : List Reading). AreRead V sh after.front z) whole recorded.read)).1 in
      let read : AreRead V sh after.front h.rs = (read_parts V sh after.front h.rs g.more later).0 in
      let rise : RiseTo (length start.front) h.rs (length after.front) = rise_from (length start.front) (length before.front) h.rs (length after.front) (front_length start.front before.front begins) (rise_on (length before.front) h.rs (length mid.front) (length after.front) h.rise (front_length mid.front after.front g.begins)) in
      let from : IsFrontOf start.front after.front = front_trans start.front before.front after.front begins (front_trans before.front mid.front after.front h.begins g.begins) in
      let both = replies_are_true V sh after.front k sh.tries (length start.front) (length after.front) h.rs r shape lawful small (omega arith) read rise h.looked in
      (both.0, subst (λ (y : State V × State V). IsBetween (length y.0.history) (length y.1.history) r) (λ i. (old_front V sh start.front after.front from i, front_all V sh after.front (length after.front) (omega arith) i)) both.1)

  pub all_true : (ks : List ℕ) (before : ReaderRecord) (rs : List (Reply V)) → All (λ (k : ℕ). k < 2 ^ 64) ks → IsFrontOf start.front before.front → HaveLooked V sh ks before after rs
      → AreTrueAnswers (state_of V sh after.front).history (length (state_of V sh start.front).history) (length (state_of V sh after.front).history) ks rs
  all_true [] before [] small begins h = tt
  all_true (k ∷ ks) before (r ∷ rs) small begins h =
      let one = one_true k before h.0 r (All-head (λ (n : ℕ). n < 2 ^ 64) k ks small) begins h.1 (grown V sh ks h.0 after rs h.2) in
      (one.0, one.1, all_true ks h.0 rs (All-tail (λ (n : ℕ). n < 2 ^ 64) k ks small) (front_trans start.front before.front h.0.front begins h.1.begins) h.2)
  all_true [] before (r ∷ rs) small begins h = absurd h
  all_true (k ∷ ks) before [] small begins h = absurd h
