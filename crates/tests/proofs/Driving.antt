-- Acts that are made on a plain list of words.
use Rattle.std.proofs.Common.{ℕ, ◌≡◌, ◌∙◌, List, [], ◌∷◌, ◌++◌, Option, Some, ap, refl, sym, subst}
use Rattle.mc_words.specs.declared.shape.Shape.{Shape}
use Rattle.mc_theory.specs.Acts.{IsAllowed, MayFrom}
use Rattle.mc_theory.specs.Effects.{phase_after, words_after}
use Rattle.mc_theory.specs.Lists.{Made, after_all}
use Rattle.mc_theory.specs.Phases.{Phase, Quiet, Filling, Keyed, Placed, Renewing, Removing, Removed, Moving, Moved, Closing, first_phase, deed_key}
use Rattle.mc_theory.specs.States.{State}
use Rattle.mc_theory.specs.declared.act.Act.{Act}
use Rattle.mc_theory.specs.declared.act.Act.TheVariants.{Open, Slot, Item, Moment, Close, Hand, Mark}
use Rattle.mc_theory.specs.declared.act.Deed.{Deed}
use Rattle.mc_theory.specs.declared.act.Deed.TheVariants as deed
use Rattle.mc_theory.proofs.Lists.Fronts.{after_all-append}
use Rattle.tests.specs.Drivers.{key_after, IsTied}

opened_running : (k : ℕ) (d : Deed) → deed_key (first_phase k d) ≡ Some k
opened_running k deed.Fill = refl
opened_running k deed.Renew = refl
opened_running k deed.Remove = refl
opened_running k deed.Evict = refl
opened_running k deed.Move = refl

-- an allowed act keeps the tie
tied_after : (V : ℕ) (sh : Shape) (w : List ℕ) (hand : ℕ) (cleared : Option ℕ) (p : Phase) (a : Act) (key : ℕ) → MayFrom V sh w hand cleared p a → IsTied key p → IsTied (key_after key a) (phase_after p a)
tied_after V sh w hand cleared Quiet (Open k d) key may tie = λ j e. let is = opened_running k d in cc
tied_after V sh w hand cleared Quiet (Hand g) key may tie = tie
tied_after V sh w hand cleared Quiet (Mark g) key may tie = tie
tied_after V sh w hand cleared (Filling k) (Item g j x) key may tie = tie
tied_after V sh w hand cleared (Keyed k f xs) (Item g j x) key may tie = tie
tied_after V sh w hand cleared (Keyed k f xs) (Slot p x) key may tie = tie
tied_after V sh w hand cleared (Placed k f xs) Moment key may tie = tie
tied_after V sh w hand cleared (Renewing k xs) (Item g j x) key may tie = tie
tied_after V sh w hand cleared (Renewing k xs) Moment key may tie = tie
tied_after V sh w hand cleared (Removing k e) (Slot p x) key may tie = tie
tied_after V sh w hand cleared (Removed k e) Moment key may tie = tie
tied_after V sh w hand cleared (Moving k) (Slot p x) key may tie = tie
tied_after V sh w hand cleared (Moved k f) (Slot p x) key may tie = tie
tied_after V sh w hand cleared (Closing k) Close key may tie = λ j e. absurd (cc)
tied_after V sh w hand cleared _ _ key may tie = absurd may

-- a close is one for the tied key
close_tied : (V : ℕ) (sh : Shape) (w : List ℕ) (hand : ℕ) (cleared : Option ℕ) (p : Phase) (key : ℕ) → MayFrom V sh w hand cleared p Close → IsTied key p → deed_key p ≡ Some key
close_tied V sh w hand cleared (Closing k) key may tie = ap Some (tie k refl)
close_tied V sh w hand cleared _ key may tie = absurd may

module _ (sh : Shape) (s : State 1) (acts : List Made) (a : Act) (bit : ℕ) (key : ℕ) (may : IsAllowed sh (after_all sh s acts) a) (tie : IsTied key (after_all sh s acts).phase) where
  pub tied_next : IsTied (key_after key a) (after_all sh s (acts ++ record { act = a; bit = bit } ∷ [])).phase
  tied_next =
      let t = after_all sh s acts in
      subst (λ (u : State 1). IsTied (key_after key a) u.phase) (sym (after_all-append sh s acts (record { act = a; bit = bit } ∷ [])))
      (tied_after 1 sh t.words t.hand t.cleared t.phase a key may tie)

  pub closes_tied : a ≡ Close → deed_key (after_all sh s acts).phase ≡ Some key
  closes_tied e =
      let t = after_all sh s acts in
      close_tied 1 sh t.words t.hand t.cleared t.phase key (subst (λ (b : Act). IsAllowed {V = 1} sh t b) e may) tie

  pub words_next : (words later : List ℕ) → words ≡ (after_all sh s acts).words → later ≡ words_after 1 sh words (after_all sh s acts).phase a → later ≡ (after_all sh s (acts ++ record { act = a; bit = bit } ∷ [])).words
  words_next words later now is =
      let t = after_all sh s acts in
      is ∙ ap (λ (w : List ℕ). words_after 1 sh w t.phase a) now ∙ sym (ap (λ (u : State 1). u.words) (after_all-append sh s acts (record { act = a; bit = bit } ∷ [])))
