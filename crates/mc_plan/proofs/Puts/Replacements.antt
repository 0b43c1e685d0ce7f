-- A put that first takes out another key.
use Rattle.std.proofs.Common.{ℕ, ◌≡◌, ◌+◌, ◌*◌, ◌<◌, ◌∙◌, List, [], ◌∷◌, ◌++◌, ap, refl, sym, subst, length, arith, inl, inr, length-append}
use Rattle.std.proofs.lemmas.Bool.{cases_eq}
use Rattle.mc_words.specs.Keys.{item_in}
use Rattle.mc_words.specs.declared.history.Change.TheVariants.{Put, Evict}
use Rattle.mc_words.specs.declared.place.Place.{Place}
use Rattle.mc_words.specs.declared.shape.Shape.{Shape}
use Rattle.mc_words.specs.Chains.{IsOccupied}
use Rattle.mc_words.specs.History.{IsWord}
use Rattle.mc_words.specs.Places.{slot_number, moment, slot, item}
use Rattle.mc_words.specs.Standing.{NamesItem, Stands, IsAbsent, IsFree}
use Rattle.mc_words.proofs.Frames.{moved_names, empty_names_none}
use Rattle.mc_theory.specs.States.{State}
use Rattle.mc_theory.specs.declared.act.Act.{Act}
use Rattle.mc_plan.specs.Making.{Makes, state_after_acts}
use Rattle.mc_search.specs.Kept.{SetsSlot, KeepsItems, KeepsNamed}
use Rattle.mc_plan.specs.Moves.{AreTaken, AreKeys}
use Rattle.mc_plan.specs.Plans.{key_named, evict_acts, moves_acts, fill_acts}
use Rattle.mc_search.specs.Paths.{first_place}
use Rattle.mc_plan.specs.Puts.{CanPut, TakesItem, put_acts}
use Rattle.mc_plan.specs.Replacing.{CanReplace, EvictionsMakeRoom}
use Rattle.mc_search.proofs.CutChains.{cut_chain}
use Rattle.mc_plan.proofs.Puts.NamedItems.{GivesItem, slot_given}
use Rattle.mc_plan.proofs.Deeds.QuietStates.{at_length}
use Rattle.mc_plan.proofs.Deeds.Removals.{evicts}
use Rattle.mc_plan.proofs.Puts.MadeRoom.{makes_then, puts_room}
use Rattle.mc_plan.proofs.Puts.PathSteps.{chain_taken}

-- what is read of the words when one slot was cleared and no item was written
module _ (V : ℕ) (sh : Shape) (w x : List ℕ) (q : ℕ) (set : SetsSlot sh w x q 0) (items : KeepsItems V sh w x) where
  -- a key that is not there did not come
  absent_still : (k : ℕ) → IsAbsent V sh w k → IsAbsent V sh x k
  absent_still k absent o i stands = elim (cases_eq o q) [
    | inl e ↦ empty_names_none sh x o i (ap (slot sh x) e ∙ set.here) stands.names
    | inr ne ↦ absent o i (record {
      names = moved_names sh x w o i (sym (set.others o stands.names.in_table ne)) stands.names;
      key = sym (items i 0) ∙ stands.key;
    })
  ]

  -- a slot that is occupied is not the one that was cleared
  slot_still : (p : Place) → IsOccupied sh x p → slot sh x (slot_number p) ≡ slot sh w (slot_number p)
  slot_still p taken =
      let below : slot_number p < 4 * sh.buckets = omega (arith, taken.0.in_table, taken.0.in_bucket) in
      set.others (slot_number p) below (λ e. taken.1 (ap (slot sh x) e ∙ set.here))

  key_still : (p : Place) → IsOccupied sh x p → key_named V sh x p ≡ key_named V sh w p
  key_still p taken = items _ 0 ∙ ap (λ (word : ℕ). item V sh w (item_in word) 0) (slot_still p taken)

  keys_still : (ps : List Place) → AreTaken sh x ps → AreKeys V sh w ps → AreKeys V sh x ps
  keys_still [] taken keys = tt
  keys_still (p ∷ ps) taken keys = (subst IsWord (sym (key_still p taken.0)) keys.0, keys_still ps taken.1 keys.1)

  moves_still : (ps : List Place) (hole : Place) → AreTaken sh x ps → moves_acts V sh x ps hole ≡ moves_acts V sh w ps hole
  moves_still [] hole taken = refl
  moves_still (p ∷ ps) hole taken = rw (moves_still ps hole taken.1, key_still p taken.0, slot_still p taken.0) refl

  -- after the eviction the key can be put, at the item that became free
  can_put : (k i e : ℕ) (p : Place) (places : List Place) (hole : Place) (kept : List Place) (end : Place) → slot_number p ≡ q → CanReplace V sh w k i e p places hole kept end → IsFree sh x i → CanPut V sh x k i kept end
  can_put k i e p places hole kept end at can free =
      let chain = cut_chain sh w x k p places hole kept end can.cut can.victim can.chain (subst (λ (n : ℕ). SetsSlot sh w x n 0) (sym at) set) in
      record {
        absent = absent_still k can.absent;
        in_items = can.stands.names.in_items;
        free = free;
        chain = chain;
        keys = keys_still kept (chain_taken sh x k kept end chain) can.keys;
      }

-- the item is given, and then it is taken
still_named : (sh : Shape) (w x y : List ℕ) (i : ℕ) → GivesItem sh w x i → TakesItem sh x y i → KeepsNamed sh w y
still_named sh w x y i gives takes q j n = elim (cases_eq j i) [
  | inl e ↦ (takes.taken.0, subst (λ (g : ℕ). NamesItem sh y takes.taken.0 g) (sym e) takes.taken.1)
  | inr ne ↦ let there = gives.named q j ne n in takes.named there.0 j there.1
]

pub evictions_room : (V : ℕ) → EvictionsMakeRoom V
evictions_room V sh s k v at i e p places hole kept end shape key other value word quiet clear can is =
    let w = s.words in
    let q = slot_number p in
    let first = first_place kept end in
    let evict = evict_acts e p in
    let put = put_acts V sh w k v at i kept end in
    let t = state_after_acts V sh s evict in
    let x = t.words in
    let one = evicts V sh e p shape other s i quiet can.victim.in_bucket can.stands clear in
    let fit = can_put V sh w x q one.2 one.3 k i e p places hole kept end refl can one.1 in
    let same : put_acts V sh x k v at i kept end ≡ put = ap (λ (acts : List Act). acts ++ fill_acts sh k v at i first) (moves_still V sh w x q one.2 one.3 kept end (chain_taken sh x k kept end fit.chain)) in
    let more = length-append s.history (Evict e ∷ []) in
    let next : at ≡ moment x + 1 = omega (arith, is, at_length V sh s quiet, at_length V sh t one.0.quiet, ap length one.0.history, more) in
    let two : Makes V sh t put (Put k v ∷ []) (2 * length kept + 2) × Stands V sh (state_after_acts V sh t put).words k (slot_number first) i × TakesItem sh x (state_after_acts V sh t put).words i =
    subst (λ (acts : List Act). Makes V sh t acts (Put k v ∷ []) (2 * length kept + 2) × Stands V sh (state_after_acts V sh t acts).words k (slot_number first) i × TakesItem sh x (state_after_acts V sh t acts).words i) same
    (puts_room V sh t k v at i kept end shape key value word one.0.quiet fit next) in
    let both = makes_then V sh s evict put (Evict e ∷ []) (Put k v ∷ []) 2 (2 * length kept + 2) one.0 two.0 in
    let steps : 2 + (2 * length kept + 2) ≡ 2 * length kept + 4 = omega arith in
    let gives = slot_given sh w x q i shape can.stands.names one.2 one.1 in (
      subst (λ (n : ℕ). Makes V sh s (evict ++ put) (Evict e ∷ Put k v ∷ []) n) steps both.0,
      subst (λ (y : State V). Stands V sh y.words k (slot_number first) i) (sym both.1) two.1,
      subst (λ (y : State V). KeepsNamed sh w y.words) (sym both.1) (still_named sh w x _ i gives two.2),
    )
