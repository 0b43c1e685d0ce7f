-- Whole calls of a writer: their acts, and what their answers mean.
use Rattle.std.specs.Prelude.{ℕ, ◌≡◌, ◌*◌, List, [], ◌∷◌, ◌++◌, map, length, Some, None, Ok, Err}
use Rattle.mc_words.specs.declared.policy.Policy.{Policy}
use Rattle.mc_words.specs.declared.policy.Policy.TheVariants.{Clock, ScanResistant}
use Rattle.mc_words.specs.declared.shape.Shape.{Shape}
use Rattle.mc_words.specs.Answers.{Quiet}
use Rattle.mc_words.specs.Standing.{Stands}
use Rattle.mc_theory.specs.Lists.{Made, AreAllowed, after_all}
use Rattle.mc_theory.specs.States.{State}
use Rattle.mc_theory.specs.declared.act.Act.{Act}
use Rattle.mc_theory.specs.declared.act.Act.TheVariants.{Hand, Mark}
use Rattle.mc_plan.specs.declared.answer.Answer.{Answer}
use Rattle.mc_plan.specs.declared.answer.Answer.TheVariants as answer
use Rattle.mc_plan.specs.declared.answer.Put.{Put}
use Rattle.mc_plan.specs.declared.answer.Put.TheVariants as put
use Rattle.mc_plan.specs.declared.answer.PutError.TheVariants as why
use Rattle.mc_plan.specs.Calls.{IfAnswers, KeptAnswers, PutAnswers, RemoveAnswers}
use Rattle.mc_plan.specs.Making.{IsQuiet}
use Rattle.mc_search.specs.Sweeps.{Swept, IsSearchBy, hand_acts, victim_of}

-- a call of a clerk
pub data Call : Type 0 where
  PutCall : (key : ℕ) (value : List ℕ) → Call
  -- on the condition that the key's last put was at this moment
  PutIfCall : (key since : ℕ) (value : List ℕ) → Call
  RemoveCall : (key : ℕ) → Call
  -- a put that takes no other key's item
  KeptCall : (key : ℕ) (value : List ℕ) → Call

-- a state as answers speak of it
abbrev pub quiet_of : {V : ℕ} → State V → Quiet V
quiet_of s = record { words = s.words; hand = s.hand; history = s.history; version_steps = s.version_steps }

-- what the answer of a call means for the states before the call and after it
abbrev pub Means : {V : ℕ} → Shape → Call → Answer → State V → State V → Type 0
Means sh (PutCall k v) (answer.Put told) s t = PutAnswers sh (quiet_of s) k v told (quiet_of t)
Means sh (PutIfCall k since v) (answer.PutIf told) s t = IfAnswers sh (quiet_of s) k since v told (quiet_of t)
Means sh (RemoveCall k) (answer.Remove told) s t = RemoveAnswers sh (quiet_of s) k told (quiet_of t)
Means sh (KeptCall k v) (answer.Kept told) s t = KeptAnswers sh (quiet_of s) k v told (quiet_of t)
Means sh call told s t = ⊥

-- the acts without the bits that they read
abbrev pub acts_of : List Made → List Act
acts_of acts = map (λ (m : Made). m.act) acts

-- the act belongs to a deed: it is neither a mark nor one of the hand
abbrev pub IsOfDeed : Act → Type 0
IsOfDeed (Hand i) = ⊥
IsOfDeed (Mark i) = ⊥
IsOfDeed _ = Unit {0}

abbrev pub AreOfDeeds : List Act → Type 0
AreOfDeeds [] = Unit {0}
AreOfDeeds (a ∷ acts) = IsOfDeed a × AreOfDeeds acts

-- the last act marks the item at which the key stands, and all others belong to deeds
pub record MarksLast (V : ℕ) (sh : Shape) (w : List ℕ) (k : ℕ) (acts : List Act) : Type 0 where
  pub before : List Act
  pub slot : ℕ
  pub item : ℕ
  pub last : acts ≡ before ++ Mark item ∷ []
  pub deeds : AreOfDeeds before
  pub stands : Stands V sh w k slot item

-- a put that succeeds ends with the mark of its key's item: with CLOCK each, and else that of a key that was there. A new key is then not marked
abbrev pub MarksPut : Policy → ℕ → Shape → List ℕ → ℕ → Put → List Act → Type 0
MarksPut Clock V sh w k told acts = MarksLast V sh w k acts
MarksPut ScanResistant V sh w k (put.Renewed at) acts = MarksLast V sh w k acts
MarksPut ScanResistant V sh w k (put.Stored at moves evicted) acts = AreOfDeeds acts

-- the acts after the sweep: there are no marks but a put's last, and none is one of the hand
abbrev pub Marks : ℕ → Shape → Policy → List ℕ → Call → Answer → List Act → Type 0
Marks V sh policy w (PutCall k v) (answer.Put (Ok told)) acts = MarksPut policy V sh w k told acts
Marks V sh policy w (PutCall k v) (answer.Put (Err why)) acts = AreOfDeeds acts
Marks V sh policy w (PutIfCall k since v) (answer.PutIf (Ok at)) acts = MarksLast V sh w k acts
Marks V sh policy w (PutIfCall k since v) (answer.PutIf (Err why)) acts = AreOfDeeds acts
Marks V sh policy w (RemoveCall k) told acts = AreOfDeeds acts
Marks V sh policy w (KeptCall k v) (answer.Kept (Ok told)) acts = MarksPut policy V sh w k told acts
Marks V sh policy w (KeptCall k v) (answer.Kept (Err why)) acts = AreOfDeeds acts
Marks V sh policy w call told acts = ⊥

-- the state after the readings
abbrev pub state_after_sweep : (V : ℕ) → Shape → State V → List Swept → State V
state_after_sweep V sh s rs = after_all sh s (hand_acts rs)

-- which readings an answer has: those of one search if every item was in use, which named the evicted key's item or none; and none otherwise. With
-- CLOCK the hand is back at its item if it named none
abbrev pub IsSweepOf : (V : ℕ) → Shape → Policy → State V → List Swept → Answer → Type 0
IsSweepOf V sh policy s rs (answer.Put (Ok (put.Stored at moves (Some evicted)))) =
    IsSearchBy policy sh.items s.hand rs × ((i : ℕ) × (q : ℕ) × (victim_of rs ≡ Some i) × Stands V sh s.words evicted q i)
IsSweepOf V sh policy s rs (answer.Put (Err why.AllRecent)) = IsSearchBy policy sh.items s.hand rs × (length rs ≡ 2 * sh.items) × (victim_of rs ≡ None) × (policy ≡ Clock → (state_after_sweep V sh s rs).hand ≡ s.hand)
IsSweepOf V sh policy s rs told = rs ≡ []

-- from state s on these acts are a whole call by this policy: a search, and then others. Each is allowed after those before it, they end quiet, and the
-- answer is true
pub record AnsweredBy (V : ℕ) (sh : Shape) (policy : Policy) (call : Call) (s : State V) (acts : List Made) (told : Answer) : Type 0 where
  pub sweep : List Swept
  pub others : List Made
  pub parts : acts ≡ hand_acts sweep ++ others
  pub allowed : AreAllowed sh s acts
  pub quiet : IsQuiet V sh (after_all sh s acts)
  pub means : Means sh call told s (after_all sh s acts)
  pub sweeps : IsSweepOf V sh policy s sweep told
  pub marks : Marks V sh policy (after_all sh s acts).words call told (acts_of others)

-- with CLOCK
abbrev pub Answered : (V : ℕ) → Shape → Call → State V → List Made → Answer → Type 0
Answered V sh = AnsweredBy V sh Clock
