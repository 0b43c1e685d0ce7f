-- The invariant holds at the opening, and each allowed act keeps it.
use Rattle.std.proofs.Common.{ℕ, ◌≡◌, ◌+◌, Bool, true, false, List, [], ◌∷◌, ◌++◌, Option, get_or, replicate, Some, refl, subst, inl, inr, arith}
use Rattle.std.specs.Option.{IsSome}
use Rattle.std.proofs.lemmas.Bool.{cases_eq, cases_lt}
use Rattle.std.proofs.lemmas.List.{length-replicate, get_or-replicate, get_or_past}
use Rattle.mc_theory.proofs.Invariant.EachAct.{agrees_after, deed_after}
use Rattle.mc_theory.specs.Acts.{IsAllowed, MayFrom}
use Rattle.mc_theory.specs.Effects.{after_act, history_after, phase_after, removal_of, words_after}
use Rattle.mc_theory.specs.Inner.{DeedFacts, StateHolds}
use Rattle.mc_theory.specs.Phases.{deed_key, Phase, Placed, Removed, Renewing}
use Rattle.mc_theory.specs.States.{State, opening}
use Rattle.mc_words.proofs.Count.{keys_fit}
use Rattle.mc_words.proofs.Frames.{empty_names_none}
use Rattle.mc_words.proofs.Maps.{held-none, legal-push}
use Rattle.mc_words.specs.History.{key_count, IsLegal, MayFollow, map_value, map_from, value_of}
use Rattle.mc_words.specs.Places.{moment, slot, version, word_count}
use Rattle.mc_words.specs.Shapes.{IsShape}
use Rattle.mc_words.specs.Standing.{Agrees, AgreesAt, Stands}
use Rattle.mc_theory.specs.declared.act.Act.{Act}
use Rattle.mc_words.specs.declared.history.Change.{Change}
use Rattle.mc_words.specs.declared.shape.Shape.{Shape}
use Rattle.mc_theory.specs.declared.act.Act.TheVariants.{Open, Slot, Item, Moment, Close, Hand, Mark}
use Rattle.mc_words.specs.declared.history.Change.TheVariants.{Put}

-- between the moment and the close, all keys agree
all_agree : (V : ℕ) (sh : Shape) (w : List ℕ) (h : List (Change V)) (f : ℕ) → Agrees V sh w (Some f) h → AgreesAt V sh w f (map_value h f) → (k : ℕ) → AgreesAt V sh w k (map_value h k)
all_agree V sh w h f g d k =
    elim (cases_eq f k) [
      | inl e ↦ subst (λ (y : ℕ). AgreesAt V sh w y (map_value h y)) e d
      | inr ne ↦ g.keys k (λ e. ne (cc))
    ]

-- a key that is held may be taken out
taken_may : {V : ℕ} (h : List (Change V)) (e : Bool) (k : ℕ) → IsSome (map_value h k) → MayFollow {V = V} (map_from 1 [] h) (removal_of e k)
unfolding map_value
taken_may h true k s = s
taken_may h false k s = s

-- one more change that may follow keeps a legal history legal
legal_more : (V : ℕ) (sh : Shape) (w : List ℕ) (h : List (Change V)) (c : Change V) (f : ℕ) → IsLegal sh.items h → MayFollow (map_from 1 [] h) c → Agrees V sh w (Some f) (h ++ c ∷ []) → AgreesAt V sh w f (map_value (h ++ c ∷ []) f) → IsLegal sh.items (h ++ c ∷ [])
unfolding IsLegal key_count
legal_more V sh w h c f l may g d = legal-push sh.items 1 [] h c l may (keys_fit V sh w (h ++ c ∷ []) (all_agree V sh w (h ++ c ∷ []) f g d))

-- each act leaves a legal history
legal_after : (V : ℕ) (sh : Shape) (w : List ℕ) (hand : ℕ) (cleared : Option ℕ) (h : List (Change V)) (p : Phase) (a : Act) → DeedFacts V sh w h p → MayFrom V sh w hand cleared p a → IsLegal sh.items h → Agrees V sh (words_after V sh w p a) (deed_key (phase_after p a)) (history_after h p a) → DeedFacts V sh (words_after V sh w p a) (history_after h p a) (phase_after p a) → IsLegal sh.items (history_after h p a)
legal_after V sh w hand cleared h (Placed k i xs) Moment d may l g e = legal_more V sh _ h (Put k (value_of V xs)) k l tt g e
legal_after V sh w hand cleared h (Renewing k xs) Moment d may l g e = legal_more V sh _ h (Put k (value_of V xs)) k l tt g e
legal_after V sh w hand cleared h (Removed k u) Moment d may l g e = legal_more V sh _ h (removal_of u k) k l (taken_may h u k d.1) g e
legal_after V sh w hand cleared h p (Open k u) d may l g e = l
legal_after V sh w hand cleared h p (Slot q x) d may l g e = l
legal_after V sh w hand cleared h p (Item i j x) d may l g e = l
legal_after V sh w hand cleared h p Close d may l g e = l
legal_after V sh w hand cleared h p (Hand i) d may l g e = l
legal_after V sh w hand cleared h p (Mark i) d may l g e = l
legal_after V sh w hand cleared h _ Moment d may l g e = absurd may

-- each allowed act keeps the invariant
pub holds_after : {V : ℕ} (sh : Shape) (s : State V) (a : Act) (bit : ℕ) → IsShape sh → StateHolds sh s → IsAllowed sh s a → StateHolds sh (after_act sh s a bit)
holds_after {V} sh s a bit shape i may =
    let g = agrees_after V sh s.words s.hand s.cleared s.history s.phase a shape i.agrees i.deed may in
    let d = deed_after V sh s.words s.hand s.cleared s.history s.phase a shape i.agrees i.deed may in
    record {
      agrees = g;
      deed = d;
      legal = legal_after V sh s.words s.hand s.cleared s.history s.phase a i.deed may i.legal g d;
    }

-- a list of zeros has 0 everywhere
pub zeros : (V i : ℕ) → get_or (replicate {A = ℕ} V 0) i 0 ≡ 0
zeros V i =
    elim (cases_lt i V) [
      | inl l ↦ get_or-replicate V i 0 0 l
      | inr past ↦ get_or_past (replicate V 0) i 0 (omega (arith, length-replicate {A = ℕ} V 0))
    ]

-- an empty history is legal
opening_legal : (V : ℕ) (z : ℕ) → IsLegal {V = V} z []
unfolding IsLegal
opening_legal V z = omega arith

pub opening_holds : (V : ℕ) (sh : Shape) → StateHolds sh (opening V sh)
unfolding moment version slot opening
opening_holds V sh =
    let no_stand : (q i : ℕ) (k : ℕ) → Stands V sh (opening V sh).words k q i → ⊥ =
    λ q i k a. empty_names_none sh (opening V sh).words q i (zeros (word_count V sh) (1 + sh.stripes + q)) a.names in
    record {
      agrees = record {
        size = omega (arith, length-replicate {A = ℕ} (word_count V sh) 0);
        at_moment = zeros (word_count V sh) 0;
        filled = λ q l. inl (zeros (word_count V sh) (1 + sh.stripes + q));
        versions = λ t l. rw (zeros (word_count V sh) (1 + t)) refl;
        keys = λ k ne. rw (held-none V k) (λ q i a. no_stand q i k a);
      };
      deed = tt;
      legal = opening_legal V sh.items;
    }
