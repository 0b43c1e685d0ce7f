-- The history of a front begins those of later fronts.
use Rattle.std.proofs.Common.{ℕ, ◌≡◌, ◌≤◌, List, [], ◌∷◌, ◌++◌, length, refl, sym, ◌∙◌, ap, arith}
use Rattle.std.proofs.lemmas.List.{append_assoc, append-nil, length-append}
use Rattle.mc_theory.proofs.Lists.Fronts.{between, front_between}
use Rattle.mc_theory.specs.Effects.{after_act, change_of, history_after}
use Rattle.mc_theory.specs.Lists.{Made, after_all, front}
use Rattle.mc_theory.specs.Phases.{Phase}
use Rattle.mc_theory.specs.States.{State}
use Rattle.mc_theory.specs.declared.act.Act.{Act}
use Rattle.mc_words.specs.declared.history.Change.{Change}
use Rattle.mc_words.specs.declared.shape.Shape.{Shape}
use Rattle.mc_theory.specs.declared.act.Act.TheVariants as act

-- ---- the history of a front begins those of later fronts
pub history_step : {V : ℕ} (h : List (Change V)) (p : Phase) (a : Act) → (ys : List (Change V)) × (history_after h p a ≡ h ++ ys)
history_step h p act.Moment = (change_of p, refl)
history_step h p (act.Open k d) = ([], sym (append-nil h))
history_step h p (act.Slot q x) = ([], sym (append-nil h))
history_step h p (act.Item i j x) = ([], sym (append-nil h))
history_step h p act.Close = ([], sym (append-nil h))
history_step h p (act.Hand i) = ([], sym (append-nil h))
history_step h p (act.Mark i) = ([], sym (append-nil h))

pub history_all : {V : ℕ} (sh : Shape) (s : State V) (xs : List Made) → (ys : List (Change V)) × ((after_all sh s xs).history ≡ s.history ++ ys)
history_all sh s [] = ([], sym (append-nil s.history))
history_all sh s (x ∷ xs) =
    let one = history_step s.history s.phase x.act in
    let rest = history_all sh (after_act sh s x.act x.bit) xs in
    (one.0 ++ rest.0, rest.1 ∙ ap (λ y. y ++ rest.0) one.1 ∙ append_assoc s.history one.0 rest.0)

pub history_rises : (V : ℕ) (sh : Shape) (acts : List Made) (f g : ℕ) → f ≤ g → (ys : List (Change V)) × ((front V sh acts g).history ≡ (front V sh acts f).history ++ ys)
history_rises V sh acts f g le =
    let all = history_all sh (front V sh acts f) (between acts f g) in
    (all.0, ap (λ (s : State V). s.history) (front_between V sh acts f g le) ∙ all.1)

pub moments_rise : (V : ℕ) (sh : Shape) (acts : List Made) (f g : ℕ) → f ≤ g → length (front V sh acts f).history ≤ length (front V sh acts g).history
moments_rise V sh acts f g le =
    let all = history_rises V sh acts f g le in
    omega (arith, ap length all.1, length-append (front V sh acts f).history all.0)
