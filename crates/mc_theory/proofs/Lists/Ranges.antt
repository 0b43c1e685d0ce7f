-- The numbers of every history are in their ranges.
use Rattle.std.proofs.Common.{ℕ, ◌≡◌, Bool, true, false, List, [], ◌∷◌, length, take, Option}
use Rattle.std.specs.Prelude.{All}
use Rattle.std.proofs.lemmas.List.Elements.{All-nil, All-push, All-take}
use Rattle.mc_theory.specs.Acts.{MayFrom}
use Rattle.mc_theory.specs.Effects.{after_act, history_after, phase_after, removal_of}
use Rattle.mc_theory.specs.Laws.{ChangesFit}
use Rattle.mc_theory.specs.Lists.{AreAllowed, IsLawful, Made, after_all, front}
use Rattle.mc_theory.specs.Phases.{Closing, Filling, Keyed, Moved, Moving, Phase, Placed, Quiet, Removed, Removing, Renewing}
use Rattle.mc_theory.specs.States.{State, opening}
use Rattle.mc_theory.proofs.Lists.Fronts.{allowed_take}
use Rattle.mc_words.proofs.Payload.{value_length}
use Rattle.mc_words.specs.History.{IsChange, IsWord, value_of}
use Rattle.mc_words.specs.Places.{payload}
use Rattle.mc_theory.specs.declared.act.Act.{Act}
use Rattle.mc_words.specs.declared.history.Change.{Change}
use Rattle.mc_words.specs.declared.history.Change.TheVariants.{Put}
use Rattle.mc_words.specs.declared.shape.Shape.{Shape}
use Rattle.mc_theory.specs.declared.act.Act.TheVariants.{Open, Slot, Item, Moment, Close, Hand, Mark}
use Rattle.mc_theory.specs.declared.act.Deed.TheVariants as deed

-- what a deed has written so far, and will change
abbrev pub PhaseFits : ℕ → Phase → Type 0
PhaseFits V (Filling k) = IsWord k
PhaseFits V (Keyed k i xs) = IsWord k × All IsWord xs
PhaseFits V (Placed k i xs) = IsWord k × All IsWord xs × (length xs ≡ payload V)
PhaseFits V (Renewing k xs) = IsWord k × All IsWord xs
PhaseFits V (Removing k e) = IsWord k
PhaseFits V (Removed k e) = IsWord k
PhaseFits V _ = Unit {0}

-- a change of the key to the value written
put_fits : (V k : ℕ) (xs : List ℕ) → IsWord k → All IsWord xs → length xs ≡ payload V → IsChange {V = V} (Put k (value_of V xs))
put_fits V k xs key words fits = (key, value_length V xs fits, All-take IsWord V xs words)

-- a removal of a key that is a word fits
taken_out_fits : (V k : ℕ) (e : Bool) → IsWord k → IsChange {V = V} (removal_of e k)
taken_out_fits V k true key = key
taken_out_fits V k false key = key

-- each act keeps to what fits in words
fits_after : (V : ℕ) (sh : Shape) (w : List ℕ) (hand : ℕ) (cleared : Option ℕ) (h : List (Change V)) (p : Phase) (a : Act) → MayFrom V sh w hand cleared p a
    → All (IsChange {V = V}) h → PhaseFits V p → All (IsChange {V = V}) (history_after h p a) × PhaseFits V (phase_after p a)
fits_after V sh w hand cleared h Quiet (Open k deed.Fill) may all fits = (all, may.0)
fits_after V sh w hand cleared h Quiet (Open k deed.Renew) may all fits = (all, (may.0, All-nil IsWord))
fits_after V sh w hand cleared h Quiet (Open k deed.Remove) may all fits = (all, may.0)
fits_after V sh w hand cleared h Quiet (Open k deed.Evict) may all fits = (all, may.0)
fits_after V sh w hand cleared h Quiet (Open k deed.Move) may all fits = (all, tt)
fits_after V sh w hand cleared h Quiet (Hand i) may all fits = (all, tt)
fits_after V sh w hand cleared h Quiet (Mark i) may all fits = (all, tt)
fits_after V sh w hand cleared h (Filling k) (Item i j x) may all fits = (all, (fits, All-nil IsWord))
fits_after V sh w hand cleared h (Keyed k i xs) (Item g j x) may all fits = (all, (fits.0, All-push IsWord xs x fits.1 may.3))
fits_after V sh w hand cleared h (Keyed k i xs) (Slot q x) may all fits = (all, (fits.0, fits.1, may.0))
fits_after V sh w hand cleared h (Placed k i xs) Moment may all fits = (All-push IsChange h (Put k (value_of V xs)) all (put_fits V k xs fits.0 fits.1 fits.2), tt)
fits_after V sh w hand cleared h (Renewing k xs) (Item i j x) may all fits = (all, (fits.0, All-push IsWord xs x fits.1 may.2))
fits_after V sh w hand cleared h (Renewing k xs) Moment may all fits = (All-push IsChange h (Put k (value_of V xs)) all (put_fits V k xs fits.0 fits.1 may), tt)
fits_after V sh w hand cleared h (Removing k e) (Slot q x) may all fits = (all, fits)
fits_after V sh w hand cleared h (Removed k e) Moment may all fits = (All-push IsChange h (removal_of e k) all (taken_out_fits V k e fits), tt)
fits_after V sh w hand cleared h (Moving k) (Slot q x) may all fits = (all, tt)
fits_after V sh w hand cleared h (Moved k fresh) (Slot q x) may all fits = (all, tt)
fits_after V sh w hand cleared h (Closing k) Close may all fits = (all, tt)
fits_after V sh w hand cleared h _ _ may all fits = absurd may

all_fit : (V : ℕ) (sh : Shape) (s : State V) (xs : List Made) → AreAllowed sh s xs → All (IsChange {V = V}) s.history → PhaseFits V s.phase → All (IsChange {V = V}) (after_all sh s xs).history
all_fit V sh s [] may all fits = all
all_fit V sh s (x ∷ xs) may all fits =
    let r = fits_after V sh s.words s.hand s.cleared s.history s.phase x.act may.0 all fits in
    all_fit V sh (after_act sh s x.act x.bit) xs may.1 r.0 r.1

pub front_fits : (V : ℕ) → ChangesFit V
unfolding front IsLawful opening
front_fits V sh acts f lawful = all_fit V sh (opening V sh) (take f acts) (allowed_take sh (opening V sh) f acts lawful) (All-nil IsChange) tt
