-- Versions and moments are bounded by the version changes.
use Rattle.std.proofs.Common.{ℕ, ◌+◌, ◌<◌, ◌≤◌, List, length, Option, inl, inr, arith}
use Rattle.std.proofs.lemmas.Bool.{cases_eq}
use Rattle.std.proofs.lemmas.List.{length_push}
use Rattle.mc_theory.specs.Acts.{MayFrom}
use Rattle.mc_theory.specs.Effects.{with_bump, version_steps_after, history_after, phase_after, removal_of, words_after}
use Rattle.mc_theory.specs.Inner.{IsCounted}
use Rattle.mc_theory.specs.Phases.{Closing, Filling, Keyed, Moved, Moving, Phase, Placed, Quiet, Removed, Removing, Renewing}
use Rattle.mc_words.specs.History.{value_of}
use Rattle.mc_words.proofs.Keys.{stripe_of-lt}
use Rattle.mc_words.proofs.Places.{version-with_item, version-with_moment, version-with_slot, version-with_version_other, version-with_version_same}
use Rattle.mc_words.specs.Keys.{stripe_of}
use Rattle.mc_words.specs.Places.{slot_number, version, word_count}
use Rattle.mc_words.specs.Shapes.{IsShape}
use Rattle.mc_theory.specs.declared.act.Act.{Act}
use Rattle.mc_words.specs.declared.history.Change.{Change}
use Rattle.mc_words.specs.declared.shape.Shape.{Shape}
use Rattle.mc_theory.specs.declared.act.Act.TheVariants.{Open, Slot, Item, Moment, Close, Hand, Mark}
use Rattle.mc_words.specs.declared.history.Change.TheVariants.{Put}
use Rattle.mc_theory.specs.declared.act.Deed.TheVariants as deed

-- a change of a version raises none by more than one
bumped_le : (V : ℕ) (sh : Shape) (w : List ℕ) (k c t : ℕ) → IsShape sh → word_count V sh ≤ length w → ((u : ℕ) → u < sh.stripes → version w u ≤ c) → t < sh.stripes → version (with_bump sh w k) t ≤ c + 1
bumped_le V sh w k c t s size v l =
    let st = stripe_of sh k in
    let below : st < sh.stripes = stripe_of-lt sh k s in
    elim (cases_eq t st) [
      | inl e ↦ rw (e, version-with_version_same w st (version w st + 1) (omega arith)) (omega (arith, v st below))
      | inr ne ↦ rw (version-with_version_other w st t (version w st + 1) ne) (omega (arith, v t l))
    ]

-- each act keeps the versions and the moment within the number of version steps
pub counted_after : (V : ℕ) (sh : Shape) (w : List ℕ) (hand : ℕ) (cleared : Option ℕ) (h : List (Change V)) (c : ℕ) (p : Phase) (a : Act) → IsShape sh → word_count V sh ≤ length w → MayFrom V sh w hand cleared p a → IsCounted sh w p (length h) c → IsCounted sh (words_after V sh w p a) (phase_after p a) (length (history_after h p a)) (version_steps_after c a)
counted_after V sh w hand cleared h c Quiet (Open k deed.Fill) s size may i = record { versions = λ t l. bumped_le V sh w k c t s size i.versions l; moments = omega (arith, i.moments) }
counted_after V sh w hand cleared h c Quiet (Open k deed.Renew) s size may i = record { versions = λ t l. bumped_le V sh w k c t s size i.versions l; moments = omega (arith, i.moments) }
counted_after V sh w hand cleared h c Quiet (Open k deed.Remove) s size may i = record { versions = λ t l. bumped_le V sh w k c t s size i.versions l; moments = omega (arith, i.moments) }
counted_after V sh w hand cleared h c Quiet (Open k deed.Evict) s size may i = record { versions = λ t l. bumped_le V sh w k c t s size i.versions l; moments = omega (arith, i.moments) }
counted_after V sh w hand cleared h c Quiet (Open k deed.Move) s size may i = record { versions = λ t l. bumped_le V sh w k c t s size i.versions l; moments = omega (arith, i.moments) }
counted_after V sh w hand cleared h c Quiet (Hand g) s size may i = i
counted_after V sh w hand cleared h c Quiet (Mark g) s size may i = i
counted_after V sh w hand cleared h c (Filling k) (Item g j x) s size may i = record { versions = λ t l. rw (version-with_item V sh w g j x t l) (i.versions t l); moments = i.moments }
counted_after V sh w hand cleared h c (Keyed k f xs) (Item g j x) s size may i = record { versions = λ t l. rw (version-with_item V sh w g j x t l) (i.versions t l); moments = i.moments }
counted_after V sh w hand cleared h c (Keyed k f xs) (Slot p x) s size may i = record { versions = λ t l. rw (version-with_slot sh w (slot_number p) x t l) (i.versions t l); moments = i.moments }
counted_after V sh w hand cleared h c (Placed k f xs) Moment s size may i = record { versions = λ t l. rw (version-with_moment w t _) (i.versions t l); moments = omega (arith, i.moments, length_push h (Put k (value_of V xs))) }
counted_after V sh w hand cleared h c (Renewing k xs) (Item g j x) s size may i = record { versions = λ t l. rw (version-with_item V sh w g j x t l) (i.versions t l); moments = i.moments }
counted_after V sh w hand cleared h c (Renewing k xs) Moment s size may i = record { versions = λ t l. rw (version-with_moment w t _) (i.versions t l); moments = omega (arith, i.moments, length_push h (Put k (value_of V xs))) }
counted_after V sh w hand cleared h c (Removing k e) (Slot p x) s size may i = record { versions = λ t l. rw (version-with_slot sh w (slot_number p) x t l) (i.versions t l); moments = i.moments }
counted_after V sh w hand cleared h c (Removed k e) Moment s size may i = record { versions = λ t l. rw (version-with_moment w t _) (i.versions t l); moments = omega (arith, i.moments, length_push h (removal_of e k)) }
counted_after V sh w hand cleared h c (Moving k) (Slot p x) s size may i = record { versions = λ t l. rw (version-with_slot sh w (slot_number p) x t l) (i.versions t l); moments = i.moments }
counted_after V sh w hand cleared h c (Moved k f) (Slot p x) s size may i = record { versions = λ t l. rw (version-with_slot sh w (slot_number p) x t l) (i.versions t l); moments = i.moments }
counted_after V sh w hand cleared h c (Closing k) Close s size may i = record { versions = λ t l. bumped_le V sh w k c t s size i.versions l; moments = omega (arith, i.moments) }
counted_after V sh w hand cleared h c _ _ s size may i = absurd may
