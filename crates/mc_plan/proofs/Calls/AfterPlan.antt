-- What the books say of the state after a plan, and what the plan's answer means.
use Rattle.std.proofs.Common.{ℕ, ◌≡◌, ◌+◌, ◌<◌, ◌≤◌, ◌∙◌, inl, inr, List, [], ◌∷◌, ◌++◌, Ok, Err, ap, refl, sym, subst, length, arith, length-append}
use Rattle.std.proofs.lemmas.Bool.{cases_eq}
use Rattle.mc_words.specs.declared.history.Change.{Change}
use Rattle.mc_words.specs.declared.history.Change.TheVariants.{Put, Remove}
use Rattle.mc_words.specs.declared.policy.Policy.{Policy}
use Rattle.mc_words.specs.declared.policy.Policy.TheVariants.{Clock, ScanResistant}
use Rattle.mc_words.specs.declared.place.Place.{Place}
use Rattle.mc_words.specs.declared.shape.Shape.{Shape}
use Rattle.mc_words.specs.Answers as means
use Rattle.mc_words.specs.Answers.{PutIsSpent, RemoveIsSpent}
use Rattle.mc_words.specs.Chains.{IsLeastLength, NoChain}
use Rattle.mc_words.specs.Checks.{policy_of, shape_of}
use Rattle.mc_words.specs.History.{IsWord, key_count}
use Rattle.mc_words.specs.KeyParts.{HasParts}
use Rattle.mc_words.specs.declared.key_parts.KeyParts.{KeyParts}
use Rattle.mc_words.specs.Places.{IsWidth, moment, slot, slot_number, word_count}
use Rattle.mc_words.specs.Shapes.{IsShape}
use Rattle.mc_words.specs.Standing.{NamesItem, Stands, IsAbsent, IsFree}
use Rattle.mc_words.proofs.Count.{full_from_named}
use Rattle.mc_theory.specs.Phases.{close_owed}
use Rattle.mc_theory.specs.States.{State, opening}
use Rattle.mc_theory.specs.declared.act.Act.{Act}
use Rattle.mc_theory.specs.declared.act.Act.TheVariants.{Mark}
use Rattle.mc_plan.specs.declared.answer.Answer.{Answer}
use Rattle.mc_plan.specs.declared.answer.Answer.TheVariants as answer
use Rattle.mc_plan.specs.declared.answer.Put.TheVariants as put
use Rattle.mc_plan.specs.declared.answer.PutError.TheVariants as why
use Rattle.mc_plan.specs.declared.answer.Remove.TheVariants as remove
use Rattle.mc_plan.specs.declared.books.Books.{Books}
use Rattle.mc_plan.specs.declared.far.Far.{Far}
use Rattle.mc_search.specs.Free.{IsInList}
use Rattle.mc_search.specs.declared.free.FreeList.{FreeList}
use Rattle.mc_search.specs.declared.items.FreeItems.{FreeItems}
use Rattle.mc_search.specs.declared.path.Path.{Path}
use Rattle.mc_plan.specs.WholeCalls.{Call, PutCall, RemoveCall, Means, Marks, MarksLast, MarksPut, AreOfDeeds, quiet_of}
use Rattle.mc_plan.specs.Books.{AreBooksOf, HasRoom, IsLackingKey, IsPlanned}
use Rattle.mc_plan.specs.Deciding.{IsWithoutPath}
use Rattle.mc_search.specs.Items.{IsConsistent, IsFreeIn, GivesBack, policy_in}
use Rattle.mc_plan.specs.Laws.{IsValue}
use Rattle.mc_plan.specs.Making.{IsQuiet, state_after_acts}
use Rattle.mc_search.specs.Kept.{KeepsSlots}
use Rattle.mc_search.specs.Paths.{IsCrowded, IsLeastPath, first_place}
use Rattle.mc_search.specs.declared.room.Room.TheVariants as room
use Rattle.mc_plan.specs.Plans.{payload_acts, value_acts, fill_acts, renew_acts, remove_acts, moves_acts}
use Rattle.mc_search.specs.Readable.{IsFilled, IsPlaced}
use Rattle.mc_plan.specs.Puts.{put_acts}
use Rattle.mc_words.proofs.Frames.{empty_names_none}
use Rattle.mc_theory.proofs.Lists.Bounds.{opening_counted}
use Rattle.mc_theory.proofs.Invariant.EachState.{opening_holds, zeros}
use Rattle.mc_plan.proofs.Puts.NamedItems.{GivesItem, slot_given, kept_free, kept_named}
use Rattle.mc_plan.proofs.Deeds.QuietStates.{at_length, agrees_quiet, keys_quiet, absent_held, stands_held, marked}
use Rattle.mc_plan.proofs.Deeds.Removals.{removes}
use Rattle.mc_plan.proofs.Deeds.Renewals.{renews}
use Rattle.mc_search.proofs.KeySlots.{placed-quiet}

-- ---- acts of deeds
pub deeds_then : (xs ys : List Act) → AreOfDeeds xs → AreOfDeeds ys → AreOfDeeds (xs ++ ys)
deeds_then [] ys a b = b
deeds_then (x ∷ xs) ys a b = (a.0, deeds_then xs ys a.1 b)

deeds_value : (i j : ℕ) (v : List ℕ) → AreOfDeeds (value_acts i j v)
deeds_value i j [] = tt
deeds_value i j (x ∷ xs) = (tt, deeds_value i (j + 1) xs)

deeds_payload : (i : ℕ) (v : List ℕ) (at : ℕ) → AreOfDeeds (payload_acts i v at)
deeds_payload i v at = deeds_then (value_acts i 1 v) _ (deeds_value i 1 v) (tt, tt)

deeds_renew : (k : ℕ) (v : List ℕ) (at i : ℕ) → AreOfDeeds (renew_acts k v at i)
deeds_renew k v at i = (tt, deeds_then (payload_acts i v at) _ (deeds_payload i v at) (tt, (tt, tt)))

deeds_fill : (sh : Shape) (k : ℕ) (v : List ℕ) (at i : ℕ) (p : Place) → AreOfDeeds (fill_acts sh k v at i p)
deeds_fill sh k v at i p = (tt, (tt, deeds_then (payload_acts i v at) _ (deeds_payload i v at) (tt, (tt, (tt, tt)))))

deeds_moves : (V : ℕ) (sh : Shape) (w : List ℕ) (ps : List Place) (hole : Place) → AreOfDeeds (moves_acts V sh w ps hole)
deeds_moves V sh w [] hole = tt
deeds_moves V sh w (p ∷ ps) hole = deeds_then (moves_acts V sh w ps hole) _ (deeds_moves V sh w ps hole) (tt, (tt, (tt, (tt, tt))))

pub deeds_put : (V : ℕ) (sh : Shape) (w : List ℕ) (k : ℕ) (v : List ℕ) (at i : ℕ) (ps : List Place) (hole : Place) → AreOfDeeds (put_acts V sh w k v at i ps hole)
deeds_put V sh w k v at i ps hole = deeds_then (moves_acts V sh w ps hole) _ (deeds_moves V sh w ps hole) (deeds_fill sh k v at i (first_place ps hole))

-- ---- the moment after one change more
pub moment_after : (V : ℕ) (s t : State V) (at : ℕ) (change : Change V) (sh : Shape) → IsQuiet V sh s → t.history ≡ s.history ++ change ∷ [] → at ≡ moment s.words + 1 → at ≡ length t.history
moment_after V s t at change sh quiet grows is =
    let now = (agrees_quiet V sh s quiet).at_moment in
    let more = length-append s.history (change ∷ []) in
    omega (arith, is, now, more, ap length grows)

-- the moments that come next have 64 bits: each change took two version changes, and they are within the limit
pub next_word : (V : ℕ) (b : Books) (s : State V) (at : ℕ) → AreBooksOf V b s → at ≤ moment s.words + 2 → IsWord at
next_word V b s at old l =
    let now = at_length V (shape_of b.checked) s old.quiet in
    omega (arith, l, now, old.quiet.counted.moments, ap close_owed old.quiet.quiet, old.limit, b.checked.sound.limit)

-- ---- the books after a plan
-- the state after it, with its version changes counted
pub record Ends (V : ℕ) (b : Books) (s t : State V) (steps : ℕ) : Type 0 where
  pub quiet : IsQuiet V (shape_of b.checked) t
  pub version_steps : t.version_steps ≡ s.version_steps + steps
  pub hand : t.hand ≡ s.hand
  pub limit : s.version_steps + steps ≤ (shape_of b.checked).limit

-- the free items of the state after it
pub record FreeAfter (V : ℕ) (b : Books) (free : FreeItems) (w : List ℕ) : Type 0 where
  pub kept : IsConsistent free
  pub policy : policy_in free ≡ policy_in b.free
  pub items : free.list.items ≡ b.free.list.items
  pub frees : (i : ℕ) → IsFreeIn free i → IsFree (shape_of b.checked) w i
  pub named : (i : ℕ) → i < (shape_of b.checked).items → (IsFreeIn free i → ⊥) → (q : ℕ) × NamesItem (shape_of b.checked) w q i

-- books are right after a plan whose free items and version steps they took over
pub books_after : (V : ℕ) (b : Books) (s t : State V) (steps : ℕ) (free : FreeItems) → AreBooksOf V b s → Ends V b s t steps → FreeAfter V b free t.words → AreBooksOf V (record b { free = free; version_steps = b.version_steps + steps }) t
books_after V b s t steps free old ends after = record {
  width = old.width;
  quiet = ends.quiet;
  hand = λ clock. old.hand clock ∙ sym ends.hand;
  inside = old.inside;
  stands = rw ends.hand old.stands;
  version_steps = omega (arith, old.version_steps, ends.version_steps);
  limit = omega (arith, ends.version_steps, ends.limit);
  finder = old.finder;
  kept = after.kept;
  policy = after.policy ∙ old.policy;
  items = after.items ∙ old.items;
  free = after.frees;
  named = after.named;
}

-- ---- a renewal
free_kept : (V : ℕ) (b : Books) (s : State V) (x : List ℕ) → AreBooksOf V b s → KeepsSlots (shape_of b.checked) s.words x → FreeAfter V b b.free x
free_kept V b s x old kept = record {
  kept = old.kept;
  policy = refl;
  items = refl;
  frees = λ i f. kept_free (shape_of b.checked) s.words x i kept (old.free i f);
  named = λ i l f. let n = old.named i l f in (n.0, kept_named (shape_of b.checked) s.words x n.0 i kept n.1);
}

-- what a renewal makes of the table is what the answer means, whatever the call
abbrev TellsRenewal : (V : ℕ) → Shape → Call → Answer → State V → ℕ → List ℕ → ℕ → Type 0
TellsRenewal V sh call told s k v at = (t : State V) → means.Grows V (quiet_of s) (quiet_of t) (Put k v ∷ []) 2 → t.hand ≡ s.hand → at ≡ length t.history → Means sh call told s t

pub renewal_made : (V : ℕ) (b : Books) (k : ℕ) (v : List ℕ) (i at : ℕ) (s : State V) (q : ℕ) (call : Call) (told : Answer) → IsShape (shape_of b.checked) → IsWord k → IsValue V v → AreBooksOf V b s → Stands V (shape_of b.checked) s.words k q i
    → s.version_steps + 2 ≤ (shape_of b.checked).limit → at ≡ moment s.words + 1 → TellsRenewal V (shape_of b.checked) call told s k v at → ((w : List ℕ) (acts : List Act) → MarksLast V (shape_of b.checked) w k acts → Marks V (shape_of b.checked) (policy_of b.checked) w call told acts)
    → IsPlanned V (record b { version_steps = b.version_steps + 2 }) (renew_acts k v at i ++ Mark i ∷ []) call s s told
renewal_made V b k v i at s q call told shape key value old stands limit is tells marks =
    let sh = shape_of b.checked in
    let acts = renew_acts k v at i in
    let t = state_after_acts V sh s acts in
    let law = renews V sh k v at i shape key value.0 value.1 (next_word V b s at old (omega (arith, is))) s q old.quiet stands is in
    let makes = law.0 in
    let walk = marked V sh s acts (Put k v ∷ []) 2 i makes stands.names.in_items in
    let renewed = tells t (record { history = makes.history; version_steps = makes.version_steps }) makes.hand (moment_after V s t at (Put k v) sh old.quiet makes.history is) in
    let ends : Ends V b s t 2 = record { quiet = makes.quiet; version_steps = makes.version_steps; hand = makes.hand; limit = limit } in
    record {
      allowed = walk.allowed;
      means = subst (λ (x : State V). Means sh call told s x) (sym walk.leads) renewed;
      marks = marks _ _ (record { before = acts; slot = q; item = i; last = refl; deeds = deeds_renew k v at i; stands = subst (λ (x : State V). Stands V sh x.words k q i) (sym walk.leads) law.1 });
      ends = subst (λ (x : State V). AreBooksOf V (record b { version_steps = b.version_steps + 2 }) x) (sym walk.leads) (books_after V b s t 2 b.free old ends (free_kept V b s t.words old law.2));
    }

-- a key that was there is marked by each policy
renewed_marks : (policy : Policy) (V : ℕ) (sh : Shape) (w : List ℕ) (k at : ℕ) (acts : List Act) → MarksLast V sh w k acts → MarksPut policy V sh w k (put.Renewed at) acts
renewed_marks Clock V sh w k at acts m = m
renewed_marks ScanResistant V sh w k at acts m = m

pub renewal_planned : (V : ℕ) (b : Books) (k : ℕ) (v : List ℕ) (i at : ℕ) (s : State V) (q : ℕ) → IsShape (shape_of b.checked) → IsWord k → IsValue V v → AreBooksOf V b s → Stands V (shape_of b.checked) s.words k q i
    → (PutIsSpent (shape_of b.checked) (quiet_of s) → ⊥) → s.version_steps + 2 ≤ (shape_of b.checked).limit → at ≡ moment s.words + 1
    → IsPlanned V (record b { version_steps = b.version_steps + 2 }) (renew_acts k v at i ++ Mark i ∷ []) (PutCall k v) s s (answer.Put (Ok (put.Renewed at)))
renewal_planned V b k v i at s q shape key value old stands unspent limit is =
    renewal_made V b k v i at s q (PutCall k v) (answer.Put (Ok (put.Renewed at))) shape key value old stands limit is
    (λ t grows hand now. record { unspent = unspent; present = stands_held V (shape_of b.checked) s k q i old.quiet stands; grows = grows; hand = hand; moment = now })
    (λ w acts m. renewed_marks (policy_of b.checked) V (shape_of b.checked) w k at acts m)

-- ---- a removal
pub free_given : (V : ℕ) (b : Books) (s : State V) (x : List ℕ) (free : FreeItems) (i : ℕ) → AreBooksOf V b s → IsConsistent free → policy_in free ≡ policy_in b.free → free.list.items ≡ b.free.list.items → GivesBack b.free free i → GivesItem (shape_of b.checked) s.words x i → FreeAfter V b free x
free_given V b s x free i old kept policy items gives given = record {
  kept = kept;
  policy = policy;
  items = items;
  frees = λ j f. elim (cases_eq j i) [
    | inl e ↦ subst (λ (n : ℕ). IsFree (shape_of b.checked) x n) (sym e) given.freed
    | inr ne ↦ given.free j (old.free j (gives.others j ne f))
  ];
  named = λ j l none.
      let was = old.named j l (λ f. none (gives.free j f)) in
      given.named was.0 j (λ e. none (subst (λ (n : ℕ). IsFreeIn free n) (sym e) gives.given)) was.1;
}

-- a key that stands somewhere is removed from there
pub removal_planned : (V : ℕ) (b : Books) (k i at : ℕ) (p : Place) (free : FreeItems) (s : State V) → IsShape (shape_of b.checked) → IsWord k → AreBooksOf V b s → p.slot < 4 → Stands V (shape_of b.checked) s.words k (slot_number p) i
    → (RemoveIsSpent (shape_of b.checked) (quiet_of s) → ⊥) → s.version_steps + 2 ≤ (shape_of b.checked).limit → at ≡ moment s.words + 1
    → IsConsistent free → policy_in free ≡ policy_in b.free → free.list.items ≡ b.free.list.items → GivesBack b.free free i
    → IsPlanned V (record b { free = free; version_steps = b.version_steps + 2 }) (remove_acts k p) (RemoveCall k) s s (answer.Remove (Ok (remove.Removed at)))
removal_planned V b k i at p free s shape key old below stands unspent limit is kept policy items gives =
    let sh = shape_of b.checked in
    let acts = remove_acts k p in
    let t = state_after_acts V sh s acts in
    let law = removes V sh k p shape key s i old.quiet below stands in
    let makes = law.0 in
    let given = slot_given sh s.words t.words (slot_number p) i shape stands.names law.2 law.1 in
    let removed : means.Removes V sh (quiet_of s) (quiet_of t) k at = record {
      unspent = unspent;
      present = stands_held V sh s k (slot_number p) i old.quiet stands;
      grows = record { history = makes.history; version_steps = makes.version_steps };
      hand = makes.hand;
      moment = moment_after V s t at (Remove k) sh old.quiet makes.history is;
    } in
    let ends : Ends V b s t 2 = record { quiet = makes.quiet; version_steps = makes.version_steps; hand = makes.hand; limit = limit } in
    record {
      allowed = makes.allowed;
      means = removed;
      marks = (tt, (tt, (tt, (tt, tt))));
      ends = books_after V b s t 2 free old ends (free_given V b s t.words free i old kept policy items gives given);
    }

-- ---- least paths
-- how long a least path is
pub least_length : (sh : Shape) (w : List ℕ) (k : ℕ) (path : Path) → IsLeastPath sh w k path → IsLeastLength sh w k (length path.places.items)
least_length sh w k path least = record { places = path.places.items; hole = path.hole; chain = least.chain; many = refl; least = least.least }

-- ---- a call that changes nothing
pub idle_planned : (V : ℕ) (b : Books) (call : Call) (s : State V) (told : Answer) → AreBooksOf V b s → Means (shape_of b.checked) call told s s → Marks V (shape_of b.checked) (policy_of b.checked) s.words call told [] → IsPlanned V b [] call s s told
idle_planned V b call s told old means marks = record { allowed = tt; means = means; marks = marks; ends = old }

-- the books with another path found, and other moves
abbrev pub with_far : Books → Far → Books
with_far b far = record b { far = record b.far { value = far } }

-- they are those of the same state
books_listed : (V : ℕ) (b : Books) (far : Far) (s : State V) → AreBooksOf V b s → far.finder ≡ b.far.value.finder → AreBooksOf V (with_far b far) s
books_listed V b far s old same = record {
  width = old.width;
  quiet = old.quiet;
  hand = old.hand;
  inside = old.inside;
  stands = old.stands;
  version_steps = old.version_steps;
  limit = old.limit;
  finder = same ∙ old.finder;
  kept = old.kept;
  policy = old.policy;
  items = old.items;
  free = old.free;
  named = old.named;
}

pub listed_planned : (V : ℕ) (b : Books) (far : Far) (plan : List Act) (call : Call) (s m : State V) (told : Answer) → far.finder ≡ b.far.value.finder → IsPlanned V b plan call s m told → IsPlanned V (with_far b far) plan call s m told
listed_planned V b far plan call s m told same p = record { allowed = p.allowed; means = p.means; marks = p.marks; ends = books_listed V b far (state_after_acts V (shape_of b.checked) m plan) p.ends same }

-- books with another list of the same free items
pub books_still : (V : ℕ) (b : Books) (s : State V) (free : FreeItems) → AreBooksOf V b s → IsConsistent free → policy_in free ≡ policy_in b.free → free.list.items ≡ b.free.list.items → ((j : ℕ) → IsFreeIn b.free j → ⊥) → ((j : ℕ) → IsFreeIn free j → ⊥) → AreBooksOf V (record b { free = free }) s
books_still V b s free old kept policy items none still = record {
  width = old.width;
  quiet = old.quiet;
  hand = old.hand;
  inside = old.inside;
  stands = old.stands;
  version_steps = old.version_steps;
  limit = old.limit;
  finder = old.finder;
  kept = kept;
  policy = policy ∙ old.policy;
  items = items ∙ old.items;
  free = λ i f. absurd (still i f);
  named = λ i l f. old.named i l (none i);
}

-- books of the same list of free items, whatever is known of the others
pub books_kept : (V : ℕ) (b : Books) (s : State V) (free : FreeItems) → AreBooksOf V b s → IsConsistent free → policy_in free ≡ policy_in b.free → free.list ≡ b.free.list → AreBooksOf V (record b { free = free }) s
books_kept V b s free old kept policy same = record {
  width = old.width;
  quiet = old.quiet;
  hand = old.hand;
  inside = old.inside;
  stands = old.stands;
  version_steps = old.version_steps;
  limit = old.limit;
  finder = old.finder;
  kept = kept;
  policy = policy ∙ old.policy;
  items = ap (λ (l : FreeList). l.items) same ∙ old.items;
  free = λ i f. old.free i (subst (λ (l : FreeList). IsInList l i) same f);
  named = λ i l f. old.named i l (λ g. f (subst (λ (x : FreeList). IsInList x i) (sym same) g));
}

-- if no chain is short enough, the path is refused
pub path_refused : (V : ℕ) (sh : Shape) (s : State V) (k : ℕ) → IsQuiet V sh s → (PutIsSpent sh (quiet_of s) → ⊥) → IsAbsent V sh s.words k → NoChain sh s.words k sh.depth → means.RefusesPath V sh (quiet_of s) (quiet_of s) k
path_refused V sh s k quiet unspent absent none = record { unspent = unspent; absent = absent_held V sh s k quiet absent; none = none; unchanged = refl }

-- if no item is free, there are as many keys as items
pub full_books : (V : ℕ) (b : Books) (s : State V) → AreBooksOf V b s → ((j : ℕ) → IsFreeIn b.free j → ⊥) → key_count s.history ≡ (shape_of b.checked).items
full_books V b s old none =
    let sh = shape_of b.checked in
    full_from_named V sh s.words s.history (keys_quiet V sh s old.quiet) (λ i l. old.named i l (none i))

-- what is asked of a put before an item is taken from another key
pub needs_item : (V : ℕ) (b : Books) (s : State V) (k : ℕ) (path : Path) → AreBooksOf V b s → (PutIsSpent (shape_of b.checked) (quiet_of s) → ⊥) → IsAbsent V (shape_of b.checked) s.words k → IsLeastPath (shape_of b.checked) s.words k path
    → ((j : ℕ) → IsFreeIn b.free j → ⊥) → (needs : means.NeedsItem V (shape_of b.checked) (quiet_of s) k) × (needs.count ≡ length path.places.items)
needs_item V b s k path old unspent absent least none =
    let sh = shape_of b.checked in (
      record {
        unspent = unspent;
        absent = absent_held V sh s k old.quiet absent;
        count = length path.places.items;
        within = least.within;
        least = least_length sh s.words k path least;
        full = full_books V b s old none;
      },
      refl,
    )

-- an absent key is not found, and nothing is removed
pub nothing_found : (V : ℕ) (sh : Shape) (s : State V) (k at : ℕ) → IsQuiet V sh s → (RemoveIsSpent sh (quiet_of s) → ⊥) → IsAbsent V sh s.words k → at ≡ moment s.words → means.FindsNothing V sh (quiet_of s) (quiet_of s) k at
nothing_found V sh s k at quiet unspent absent is =
    record { unspent = unspent; absent = absent_held V sh s k quiet absent; unchanged = refl; moment = is ∙ (agrees_quiet V sh s quiet).at_moment }

-- ---- the words of a state that the books know
module _ (V : ℕ) (b : Books) (s : State V) (w : List ℕ) (old : AreBooksOf V b s) (same : w ≡ s.words) where
  pub reaches : word_count V (shape_of b.checked) ≤ length w
  reaches = rw same old.quiet.holds.agrees.size

  pub filled_in : IsFilled (shape_of b.checked) w
  filled_in = rw same (agrees_quiet V (shape_of b.checked) s old.quiet).filled

  pub placed_in : (k : ℕ) → IsPlaced V (shape_of b.checked) w k
  placed_in k = rw same (placed-quiet V (shape_of b.checked) s.words s.history k (agrees_quiet V (shape_of b.checked) s old.quiet))

  -- what a finder says that is for tables of their shape
  module _ (f : Shape) (for : f ≡ shape_of b.checked) where
    pub none_in : (k : ℕ) → NoChain f w k f.depth → NoChain (shape_of b.checked) s.words k (shape_of b.checked).depth
    none_in k none = subst (λ (sh : Shape). NoChain sh s.words k sh.depth) for (subst (λ (x : List ℕ). NoChain f x k f.depth) same none)

    pub crowded_in : (k : ℕ) (parts : KeyParts) → HasParts (shape_of b.checked) k parts → NoChain (shape_of b.checked) s.words k 0 → IsCrowded f w k parts
    crowded_in k parts has full =
        subst (λ (sh : Shape). IsCrowded sh w k parts) (sym for) (record { has = has; full = subst (λ (x : List ℕ). NoChain (shape_of b.checked) x k 0) (sym same) full })

    pub least_in : (k : ℕ) (path : Path) → IsLeastPath f w k path → IsLeastPath (shape_of b.checked) s.words k path
    least_in k path least = subst (λ (sh : Shape). IsLeastPath sh s.words k path) for (subst (λ (x : List ℕ). IsLeastPath f x k path) same least)

  pub moment_in : (at : ℕ) → at ≡ moment w + 1 → at ≡ moment s.words + 1
  moment_in at is = is ∙ ap (λ (x : List ℕ). moment x + 1) same

  pub absent_in : (k : ℕ) → IsAbsent V (shape_of b.checked) w k → IsAbsent V (shape_of b.checked) s.words k
  absent_in k absent = subst (λ (x : List ℕ). IsAbsent V (shape_of b.checked) x k) same absent

-- ---- a new table
-- no slot names an item
none_names : (V : ℕ) (sh : Shape) (q i : ℕ) → NamesItem sh (opening V sh).words q i → ⊥
unfolding slot opening
none_names V sh q i n = empty_names_none sh (opening V sh).words q i (zeros (word_count V sh) (1 + sh.stripes + q)) n

-- no deed runs in an opening state
opening_quiet : (V : ℕ) (sh : Shape) → IsQuiet V sh (opening V sh)
unfolding opening
opening_quiet V sh = record { quiet = refl; holds = opening_holds V sh; counted = opening_counted V sh }

-- its hand is at the first item
opening_hand : (V : ℕ) (sh : Shape) → (opening V sh).hand ≡ 0
unfolding opening
opening_hand V sh = refl

-- and it has changed no version
opening_changes : (V : ℕ) (sh : Shape) → (opening V sh).version_steps ≡ 0
unfolding opening
opening_changes V sh = refl

pub new_books : (V : ℕ) (b : Books) → IsWidth V → b.far.value.finder ≡ shape_of b.checked → b.hand ≡ 0 → b.version_steps ≡ 0 → IsConsistent b.free → policy_in b.free ≡ policy_of b.checked → b.free.list.items ≡ (shape_of b.checked).items → ((i : ℕ) → i < (shape_of b.checked).items → IsFreeIn b.free i) → AreBooksOf V b (opening V (shape_of b.checked))
new_books V b width finder hand changes kept policy items all =
    let sh = shape_of b.checked in
    let none = opening_changes V sh in
    record {
      width = width;
      quiet = opening_quiet V sh;
      hand = λ clock. hand ∙ sym (opening_hand V sh);
      inside = omega (arith, hand, b.checked.sound.items.0);
      stands = omega (arith, opening_hand V sh, b.checked.sound.items.0);
      version_steps = omega arith;
      limit = omega (arith, none);
      finder = finder;
      kept = kept;
      policy = policy;
      items = items;
      free = λ i f q n. none_names V sh q i n;
      named = λ i l f. absurd (f (all i l));
    }

-- no path leads to a hole: the put is refused
pub no_path : (V : ℕ) (b : Books) (far : Far) (s : State V) (k at : ℕ) (v : List ℕ) → IsLackingKey V b k v s at → far.finder ≡ b.far.value.finder → NoChain (shape_of b.checked) s.words k (shape_of b.checked).depth
    → IsWithoutPath V (with_far b far) k v s
no_path V b far s k at v lacks kept none =
    let refused = path_refused V (shape_of b.checked) s k lacks.known.quiet lacks.unspent lacks.absent none in
    let told = answer.Put (Err why.NoPath) in
    listed_planned V b far [] (PutCall k v) s s told kept (idle_planned V b (PutCall k v) s told lacks.known refused tt)

-- a path leads to a hole, and the books keep it
pub refound : (V : ℕ) (b : Books) (far : Far) (s : State V) (k : ℕ) (v : List ℕ) (at : ℕ) → far.finder ≡ b.far.value.finder → IsLackingKey V b k v s at → IsLeastPath (shape_of b.checked) s.words k far.path
    → HasRoom V (with_far b far) k v s at room.Path
refound V b far s k v at kept lacks least = record {
  lacks = record { known = books_listed V b far s lacks.known kept; key = lacks.key; value = lacks.value; unspent = lacks.unspent; absent = lacks.absent; next = lacks.next };
  least = least;
}
