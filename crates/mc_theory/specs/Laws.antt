-- The laws of lawful lists of acts.
use Rattle.std.specs.Prelude.{ℕ, ◌≡◌, ◌+◌, ◌*◌, ◌%◌, ◌^◌, ◌<◌, ◌≤◌, ◌↔◌, All, List, length, Some, slice_get}
use Rattle.mc_theory.specs.Inner.{StateCounted}
use Rattle.mc_theory.specs.Lists.{IsLawful, Made, front, state_of}
use Rattle.mc_theory.specs.Lookups.{IsLookup}
use Rattle.mc_theory.specs.Phases.{deed_key}
use Rattle.mc_theory.specs.Plain.{IsBetween}
use Rattle.mc_theory.specs.Readings.{AreRead, Reading, RiseTo}
use Rattle.mc_words.specs.History.{IsChange, IsLegal, IsTrueAnswer, map_value}
use Rattle.mc_words.specs.Keys.{stripe_of}
use Rattle.mc_words.specs.Places.{item, payload, version}
use Rattle.mc_words.specs.Shapes.{IsShape}
use Rattle.mc_words.specs.Standing.{Agrees, Stands}
use Rattle.mc_theory.specs.declared.act.Act.{Act}
use Rattle.mc_words.specs.declared.history.Reply.{Reply}
use Rattle.mc_words.specs.declared.shape.Shape.{Shape}
use Rattle.mc_theory.specs.declared.act.Act.TheVariants.{Open, Hand}
use Rattle.mc_theory.specs.declared.act.Deed.TheVariants as deed

-- at each front the words agree with the history, which is legal
abbrev pub AgreesAlways : ℕ → Type 0
AgreesAlways V =
    (sh : Shape) (acts : List Made) (f : ℕ) → IsShape sh → IsLawful V sh acts →
    Agrees V sh (front V sh acts f).words (deed_key (front V sh acts f).phase) (front V sh acts f).history × IsLegal sh.items (front V sh acts f).history

-- while the version of a key's stripe stays at an even number, the key stands where it stood, with the same words, and the map holds the
-- same of it
abbrev pub StaysWhileEven : ℕ → Type 0
StaysWhileEven V =
    (sh : Shape) (acts : List Made) (f e g k : ℕ) → IsShape sh → IsLawful V sh acts → f ≤ e → e ≤ g →
    version (front V sh acts f).words (stripe_of sh k) % 2 ≡ 0 →
    version (front V sh acts g).words (stripe_of sh k) ≡ version (front V sh acts f).words (stripe_of sh k) →
    ((q i : ℕ) → Stands V sh (front V sh acts f).words k q i ↔ Stands V sh (front V sh acts e).words k q i) ×
    ((q i j : ℕ) → Stands V sh (front V sh acts f).words k q i → j ≤ payload V → item V sh (front V sh acts e).words i j ≡ item V sh (front V sh acts f).words i j) ×
    (map_value (front V sh acts e).history k ≡ map_value (front V sh acts f).history k)

-- a reply of readings at fronts that do not fall is true, at a moment of their span
abbrev pub RepliesAreTrue : ℕ → Type 0
RepliesAreTrue V =
    (sh : Shape) (acts : List Made) (k tries d e : ℕ) (rs : List Reading) (reply : Reply V) → IsShape sh → IsLawful V sh acts → k < 2 ^ 64 → e ≤ length acts →
    AreRead V sh acts rs → RiseTo d rs e → IsLookup V sh k tries rs reply →
    IsTrueAnswer (state_of V sh acts).history k reply × IsBetween (length (front V sh acts d).history) (length (front V sh acts e).history) reply

abbrev pub OpensOrSweeps : Act → Type 0
OpensOrSweeps (Open k d) = Unit {0}
OpensOrSweeps (Hand i) = Unit {0}
OpensOrSweeps _ = ⊥

-- each eviction follows the reading of a clear bit at the victim's item, with no open and no other reading between
abbrev pub EvictsAreClear : ℕ → Type 0
EvictsAreClear V =
    (sh : Shape) (acts : List Made) (j k b : ℕ) → IsLawful V sh acts → slice_get acts j ≡ Some (record { act = Open k deed.Evict; bit = b }) →
    (q : ℕ) × (i : ℕ) × (m : ℕ) × Stands V sh (front V sh acts j).words k q i × (m < j) × (slice_get acts m ≡ Some (record { act = Hand i; bit = 0 })) ×
    ((l : ℕ) (d : Made) → m < l → l < j → slice_get acts l ≡ Some d → OpensOrSweeps d.act → ⊥)

-- no version is more than the version changes so far, and each change of the map took two of them
abbrev pub CountsAlways : ℕ → Type 0
CountsAlways V = (sh : Shape) (acts : List Made) (f : ℕ) → IsShape sh → IsLawful V sh acts → StateCounted sh (front V sh acts f)

-- the hand is at an item
abbrev pub HandStays : ℕ → Type 0
HandStays V = (sh : Shape) (acts : List Made) (f : ℕ) → IsShape sh → IsLawful V sh acts → (front V sh acts f).hand < sh.items

-- at each front the keys and the values of the history are in their ranges
abbrev pub ChangesFit : ℕ → Type 0
ChangesFit V = (sh : Shape) (acts : List Made) (f : ℕ) → IsLawful V sh acts → All (IsChange {V = V}) (front V sh acts f).history

-- a lookup with t tries left reads at most this many words
abbrev pub LookupsAreShort : ℕ → Type 0
LookupsAreShort V = (sh : Shape) (k t : ℕ) (rs : List Reading) (reply : Reply V) → IsLookup V sh k t rs reply → length rs ≤ t * (19 + payload V) + 1
