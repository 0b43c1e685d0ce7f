-- A put of a new key that has a free item.
use Rattle.std.proofs.Common.{ℕ, ◌≡◌, ◌+◌, ◌*◌, ◌<◌, ◌≤◌, ◌∙◌, inl, inr, List, [], ◌∷◌, ◌++◌, Option, None, Ok, ap, refl, sym, subst, length, arith, append-nil}
use Rattle.std.proofs.lemmas.Bool.{cases_eq}
use Rattle.mc_words.specs.declared.history.Change.{Change}
use Rattle.mc_words.specs.declared.history.Change.TheVariants.{Put}
use Rattle.mc_words.specs.declared.policy.Policy.{Policy}
use Rattle.mc_words.specs.declared.policy.Policy.TheVariants.{Clock, ScanResistant}
use Rattle.mc_words.specs.declared.shape.Shape.{Shape}
use Rattle.mc_words.specs.Answers as means
use Rattle.mc_words.specs.Answers.{PutIsSpent, RemoveIsSpent}
use Rattle.mc_words.specs.Checks.{policy_of, shape_of}
use Rattle.mc_words.specs.History.{IsWord}
use Rattle.mc_words.specs.Places.{moment, slot_number}
use Rattle.mc_words.specs.Shapes.{IsShape}
use Rattle.mc_words.specs.Standing.{NamesItem, Stands, IsAbsent}
use Rattle.mc_words.proofs.Count.{room_from_free}
use Rattle.mc_theory.specs.Lists.{AreAllowed}
use Rattle.mc_theory.specs.States.{State}
use Rattle.mc_theory.specs.declared.act.Act.{Act}
use Rattle.mc_plan.specs.declared.answer.Answer.TheVariants as answer
use Rattle.mc_plan.specs.declared.answer.Put.TheVariants as put
use Rattle.mc_plan.specs.declared.books.Books.{Books}
use Rattle.mc_search.specs.declared.items.FreeItems.{FreeItems}
use Rattle.mc_search.specs.declared.path.Path.{Path}
use Rattle.mc_plan.specs.WholeCalls.{PutCall, Means, MarksPut, AreOfDeeds, quiet_of}
use Rattle.mc_plan.specs.Books.{AreBooksOf, IsPlanned}
use Rattle.mc_search.specs.Items.{IsConsistent, IsFreeIn, TakesFree, policy_in}
use Rattle.mc_plan.specs.Decisions.{new_marks}
use Rattle.mc_plan.specs.Laws.{IsValue}
use Rattle.mc_plan.specs.Making.{Makes, as_made, state_after_acts}
use Rattle.mc_plan.specs.Moves.{AreKeys}
use Rattle.mc_search.specs.Paths.{IsLeastPath, first_place}
use Rattle.mc_plan.specs.Puts.{CanPut, TakesItem, put_acts}
use Rattle.mc_plan.proofs.Deeds.Walks.{Walk}
use Rattle.mc_plan.proofs.Deeds.QuietStates.{keys_quiet, absent_held, marked}
use Rattle.mc_plan.proofs.Puts.MadeRoom.{puts_room}
use Rattle.mc_plan.proofs.Calls.AfterPlan.{Ends, FreeAfter, books_after, deeds_put, least_length, moment_after, next_word}

-- the mark of a new key's item, if the policy makes one, is allowed, and leaves the state as it is
pub new_marked : (policy : Policy) (V : ℕ) (sh : Shape) (s : State V) (acts : List Act) (new : List (Change V)) (steps i : ℕ) → Makes V sh s acts new steps → i < sh.items → Walk V sh s (acts ++ new_marks policy i) (state_after_acts V sh s acts)
new_marked Clock V sh s acts new steps i makes below = marked V sh s acts new steps i makes below
new_marked ScanResistant V sh s acts new steps i makes below =
    let same = sym (append-nil acts) in
    record { allowed = subst (λ (xs : List Act). AreAllowed sh s (as_made xs)) same makes.allowed; leads = ap (λ (xs : List Act). state_after_acts V sh s xs) (append-nil acts) }

-- a new key's item is marked last, or not at all
pub stored_marks : (policy : Policy) (V : ℕ) (sh : Shape) (w : List ℕ) (k at moves : ℕ) (evicted : Option ℕ) (acts : List Act) (q i : ℕ) → AreOfDeeds acts → Stands V sh w k q i → MarksPut policy V sh w k (put.Stored at moves evicted) (acts ++ new_marks policy i)
stored_marks Clock V sh w k at moves evicted acts q i deeds stands = record { before = acts; slot = q; item = i; last = refl; deeds = deeds; stands = stands }
stored_marks ScanResistant V sh w k at moves evicted acts q i deeds stands = subst AreOfDeeds (sym (append-nil acts)) deeds

free_taken : (V : ℕ) (b : Books) (s : State V) (x : List ℕ) (free : FreeItems) (i : ℕ) → AreBooksOf V b s → IsConsistent free → policy_in free ≡ policy_in b.free → free.list.items ≡ b.free.list.items → TakesFree b.free free i → TakesItem (shape_of b.checked) s.words x i → FreeAfter V b free x
free_taken V b s x free i old kept policy items takes taken = record {
  kept = kept;
  policy = policy;
  items = items;
  frees = λ j f. elim (cases_eq j i) [
    | inl e ↦ absurd (takes.taken (subst (λ (n : ℕ). IsFreeIn free n) e f))
    | inr ne ↦ taken.free j ne (old.free j (takes.free j f))
  ];
  named = λ j l none. elim (cases_eq j i) [
    | inl e ↦ (taken.taken.0, subst (λ (n : ℕ). NamesItem (shape_of b.checked) x taken.taken.0 n) (sym e) taken.taken.1)
    | inr ne ↦ let was = old.named j l (λ f. none (takes.others j ne f)) in taken.named was.0 j was.1
  ];
}

-- an absent key is stored at the end of a least path, in a free item
pub stored_planned : (V : ℕ) (b : Books) (k : ℕ) (v : List ℕ) (i at : ℕ) (path : Path) (free : FreeItems) (s : State V) → IsShape (shape_of b.checked) → IsWord k → IsValue V v → AreBooksOf V b s
    → IsAbsent V (shape_of b.checked) s.words k → IsLeastPath (shape_of b.checked) s.words k path → AreKeys V (shape_of b.checked) s.words path.places.items → i < (shape_of b.checked).items
    → (PutIsSpent (shape_of b.checked) (quiet_of s) → ⊥) → at ≡ moment s.words + 1
    → IsFreeIn b.free i → IsConsistent free → policy_in free ≡ policy_in b.free → free.list.items ≡ b.free.list.items → TakesFree b.free free i
    → IsPlanned V (record b { free = free; version_steps = b.version_steps + (2 * length path.places.items + 2) }) (put_acts V (shape_of b.checked) s.words k v at i path.places.items path.hole ++ new_marks (policy_of b.checked) i) (PutCall k v) s s (answer.Put (Ok (put.Stored at (length path.places.items) None)))
stored_planned V b k v i at path free s shape key value old absent least keys in_items unspent is was kept policy items takes =
    let sh = shape_of b.checked in
    let ps = path.places.items in
    let acts = put_acts V sh s.words k v at i ps path.hole in
    let t = state_after_acts V sh s acts in
    let steps = 2 * length ps + 2 in
    let can : CanPut V sh s.words k i ps path.hole = record { absent = absent; in_items = in_items; free = old.free i was; chain = least.chain; keys = keys } in
    let law = puts_room V sh s k v at i ps path.hole shape key value (next_word V b s at old (omega (arith, is))) old.quiet can is in
    let makes = law.0 in
    let walk = new_marked (policy_of b.checked) V sh s acts (Put k v ∷ []) steps i makes in_items in
    let told = answer.Put (Ok (put.Stored at (length ps) None)) in
    let limit : s.version_steps + steps ≤ sh.limit = omega (arith, least.within, unspent) in
    let stored : means.Stores V sh (quiet_of s) (quiet_of t) k v at (length ps) = record {
      unspent = unspent;
      absent = absent_held V sh s k old.quiet absent;
      within = least.within;
      least = least_length sh s.words k path least;
      room = room_from_free V sh s.words s.history (keys_quiet V sh s old.quiet) (i, in_items, old.free i was);
      grows = record { history = makes.history; version_steps = makes.version_steps ∙ omega arith };
      hand = makes.hand;
      moment = moment_after V s t at (Put k v) sh old.quiet makes.history is;
    } in
    let ends : Ends V b s t steps = record { quiet = makes.quiet; version_steps = makes.version_steps; hand = makes.hand; limit = limit } in
    record {
      allowed = walk.allowed;
      means = subst (λ (x : State V). Means sh (PutCall k v) told s x) (sym walk.leads) stored;
      marks = stored_marks (policy_of b.checked) V sh _ k at (length ps) None acts (slot_number (first_place ps path.hole)) i (deeds_put V sh s.words k v at i ps path.hole)
          (subst (λ (x : State V). Stands V sh x.words k (slot_number (first_place ps path.hole)) i) (sym walk.leads) law.1);
      ends = subst (λ (x : State V). AreBooksOf V (record b { free = free; version_steps = b.version_steps + steps }) x) (sym walk.leads) (books_after V b s t steps free old ends (free_taken V b s t.words free i old kept policy items takes law.2));
    }
