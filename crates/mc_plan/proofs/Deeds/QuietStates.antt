-- Quiet states, and what a walk between two of them makes.
use Rattle.std.proofs.Common.{ℕ, [], ◌∷◌, ◌<◌, None, refl, ◌≡◌, ◌+◌, ◌∙◌, List, ◌++◌, Option, ap, sym, subst, length}
use Rattle.std.specs.Option.{IsSome}
use Rattle.mc_words.specs.declared.history.Change.{Change}
use Rattle.mc_words.specs.declared.shape.Shape.{Shape}
use Rattle.mc_words.specs.Places.{moment}
use Rattle.mc_words.specs.Shapes.{IsShape}
use Rattle.mc_words.specs.History.{map_value}
use Rattle.mc_words.specs.Standing.{Stands, Agrees, AgreesAt, IsAbsent}
use Rattle.mc_theory.specs.Lists.{AreAllowed}
use Rattle.mc_theory.specs.Phases.{Phase, Quiet, deed_key}
use Rattle.mc_theory.specs.declared.act.Act.TheVariants.{Mark}
use Rattle.mc_theory.proofs.Invariant.RunningDeed.{held_from_absent, held_from_present, some_from}
use Rattle.mc_theory.specs.States.{State}
use Rattle.mc_theory.specs.declared.act.Act.{Act}
use Rattle.mc_plan.specs.Making.{IsQuiet, Makes, state_after_acts, as_made}
use Rattle.mc_plan.proofs.Deeds.Walks.{Walk, walk_holds, walk_then}

-- a state by its parts
abbrev pub state : (V : ℕ) → List ℕ → Phase → ℕ → Option ℕ → List (Change V) → ℕ → State V
state V w p hand cleared h c = record { words = w; phase = p; hand = hand; cleared = cleared; history = h; version_steps = c }

-- what holds of every state whose phase is the quiet one holds of a quiet state
pub at_quiet : (V : ℕ) (sh : Shape) (P : State V → Type 0) → ((w : List ℕ) (hand : ℕ) (cleared : Option ℕ) (h : List (Change V)) (c : ℕ) → IsQuiet V sh (state V w Quiet hand cleared h c) → P (state V w Quiet hand cleared h c))
    → (s : State V) → IsQuiet V sh s → P s
at_quiet V sh P f s q =
    let same : state V s.words Quiet s.hand s.cleared s.history s.version_steps ≡ s =
    ap (λ (p : Phase). state V s.words p s.hand s.cleared s.history s.version_steps) (sym q.quiet) in
    subst P same (f s.words s.hand s.cleared s.history s.version_steps (subst (λ (x : State V). IsQuiet V sh x) (sym same) q))

-- acts that lead back to a quiet state, with these changes and version steps, make them
pub makes_from_walk : (V : ℕ) (sh : Shape) (s t : State V) (acts : List Act) (new : List (Change V)) (steps : ℕ) → IsShape sh → IsQuiet V sh s → Walk V sh s acts t
    → t.phase ≡ Quiet → t.history ≡ s.history ++ new → t.version_steps ≡ s.version_steps + steps → t.hand ≡ s.hand → Makes V sh s acts new steps
makes_from_walk V sh s t acts new steps shape q walk quiet history changes hand =
    let kept = walk_holds V sh s acts shape walk.allowed q.holds q.counted in
    record {
      allowed = walk.allowed;
      quiet = record { quiet = ap (λ (x : State V). x.phase) walk.leads ∙ quiet; holds = kept.0; counted = kept.1 };
      history = ap (λ (x : State V). x.history) walk.leads ∙ history;
      version_steps = ap (λ (x : State V). x.version_steps) walk.leads ∙ changes;
      hand = ap (λ (x : State V). x.hand) walk.leads ∙ hand;
    }

-- the words of a quiet state agree with its history, for every key
pub agrees_quiet : (V : ℕ) (sh : Shape) (s : State V) → IsQuiet V sh s → Agrees V sh s.words None s.history
agrees_quiet V sh s quiet = subst (λ (p : Phase). Agrees V sh s.words (deed_key p) s.history) quiet.quiet quiet.holds.agrees

-- each key agrees with the history while nothing runs
pub keys_quiet : (V : ℕ) (sh : Shape) (s : State V) → IsQuiet V sh s → (k : ℕ) → AgreesAt V sh s.words k (map_value s.history k)
keys_quiet V sh s quiet k = (agrees_quiet V sh s quiet).keys k (λ e. cc)

-- the moment of a quiet state is the length of its history
pub at_length : (V : ℕ) (sh : Shape) (s : State V) → IsQuiet V sh s → moment s.words ≡ length s.history
at_length V sh s quiet = (agrees_quiet V sh s quiet).at_moment

pub same_moment : (V : ℕ) (sh : Shape) (s t : State V) → IsQuiet V sh s → IsQuiet V sh t → t.history ≡ s.history → moment t.words ≡ moment s.words
same_moment V sh s t one two same = at_length V sh t two ∙ ap (λ (h : List (Change V)). length h) same ∙ sym (at_length V sh s one)

-- a key that does not stand is not in the map, and one that stands is
pub absent_held : (V : ℕ) (sh : Shape) (s : State V) (k : ℕ) → IsQuiet V sh s → IsAbsent V sh s.words k → map_value s.history k ≡ None
absent_held V sh s k quiet absent = held_from_absent V sh s.words k (map_value s.history k) (keys_quiet V sh s quiet k) absent

-- a key that stands somewhere is held by the history
pub stands_held : (V : ℕ) (sh : Shape) (s : State V) (k q i : ℕ) → IsQuiet V sh s → Stands V sh s.words k q i → IsSome (map_value s.history k)
stands_held V sh s k q i quiet stands =
    let here = held_from_present V sh s.words k (map_value s.history k) (keys_quiet V sh s quiet k) (q, i, stands) in
    some_from (map_value s.history k) here.0 here.1

-- a mark leaves a quiet state as it was
pub mark_stays : (V : ℕ) (sh : Shape) (s : State V) (i : ℕ) → IsQuiet V sh s → i < sh.items → AreAllowed sh s (as_made (Mark i ∷ [])) × (state_after_acts V sh s (Mark i ∷ []) ≡ s)
mark_stays V sh s i quiet l =
    at_quiet V sh (λ (s : State V). AreAllowed sh s (as_made (Mark i ∷ [])) × (state_after_acts V sh s (Mark i ∷ []) ≡ s)) (λ w hand cleared h c q. ((l, tt), refl)) s quiet

-- acts that end quiet, and then a mark, lead where the acts led
pub marked : (V : ℕ) (sh : Shape) (s : State V) (acts : List Act) (new : List (Change V)) (steps i : ℕ) → Makes V sh s acts new steps → i < sh.items → Walk V sh s (acts ++ Mark i ∷ []) (state_after_acts V sh s acts)
marked V sh s acts new steps i makes l =
    let t = state_after_acts V sh s acts in
    let mark = mark_stays V sh t i makes.quiet l in
    walk_then V sh s t t acts (Mark i ∷ []) (record { allowed = makes.allowed; leads = refl }) (record { allowed = mark.0; leads = mark.1 })
