-- An eviction without a put, after the search for its item.
use Rattle.std.proofs.Common.{ℕ, ◌≡◌, ◌+◌, ◌%◌, ◌<◌, ◌≤◌, List, [], ◌∷◌, Option, Some, None, cond, eqb, eq-eqb, get_or, length, refl, sym, subst, arith}
use Rattle.std.proofs.Math.Nat.{mod-lt}
use Rattle.std.proofs.lemmas.Bool.{false≢true}
use Rattle.std.specs.Map.{lookup}
use Rattle.std.specs.Option.{IsSome}
use Rattle.mc_words.specs.Checks.{policy_of, shape_of}
use Rattle.mc_words.specs.History.{key_count, map_from, map_value}
use Rattle.mc_words.specs.Places.{slot_number}
use Rattle.mc_words.specs.Shapes.{IsShape}
use Rattle.mc_words.specs.Standing.{AgreesAt, IsPresent}
use Rattle.mc_words.specs.declared.history.Change.{Change}
use Rattle.mc_words.specs.declared.shape.Shape.{Shape}
use Rattle.mc_words.specs.declared.policy.Policy.TheVariants.{Clock}
use Rattle.mc_theory.specs.Effects.{after_act}
use Rattle.mc_theory.specs.Lists.{after_all}
use Rattle.mc_theory.specs.States.{State}
use Rattle.mc_theory.specs.declared.act.Act.TheVariants.{Hand}
use Rattle.mc_search.specs.Items.{IsConsistent, IsUsedIn, GivesBack, policy_in}
use Rattle.mc_search.specs.Sweeps.{Swept, IsSearch, hand_acts}
use Rattle.mc_search.specs.declared.items.FreeItems.{FreeItems}
use Rattle.mc_plan.specs.Books.{AreBooksOf}
use Rattle.mc_plan.specs.Evicting.{IsEvicted, IsVictim}
use Rattle.mc_plan.specs.Making.{state_after_acts}
use Rattle.mc_plan.specs.Plans.{evict_acts}
use Rattle.mc_plan.specs.declared.books.Books.{Books}
use Rattle.mc_plan.specs.declared.decision.Victim.{Victim}
use Rattle.mc_plan.proofs.Deeds.QuietStates.{keys_quiet}
use Rattle.mc_plan.proofs.Deeds.Removals.{evicts}
use Rattle.mc_plan.proofs.Puts.NamedItems.{slot_given}
use Rattle.mc_plan.proofs.Calls.AfterPlan.{Ends, books_after, free_given}
use Rattle.mc_plan.proofs.Calls.AfterSweep.{books_swept}
use Rattle.mc_plan.proofs.Calls.SweptStates.{swept_below, swept_still, sweep_allowed, sweep_quiet}

-- ---- a map that holds a key
first_held : (m : List (ℕ × List ℕ)) → 0 < length m → (k : ℕ) × IsSome (lookup (λ q. eqb k q) m)
first_held [] some = absurd (omega (arith, some))
first_held (e ∷ es) some = (e.0, subst (λ b. IsSome (cond b (Some e.1) (lookup (λ q. eqb e.0 q) es))) (sym (eq-eqb e.0 e.0 refl)) refl)

some_held : {V : ℕ} (h : List (Change V)) → 0 < key_count h → (k : ℕ) × IsSome (map_value h k)
unfolding map_value key_count
some_held h some = first_held (map_from 1 [] h) some

stands_somewhere : (V : ℕ) (sh : Shape) (w : List ℕ) (k : ℕ) (o : Option (List ℕ)) → AgreesAt V sh w k o → IsSome o → IsPresent V sh w k
stands_somewhere V sh w k None agrees some = absurd (false≢true some)
stands_somewhere V sh w k (Some v) agrees some = (agrees.0, agrees.1, agrees.2.stands)

-- has an item in use
pub some_used : (V : ℕ) (b : Books) (s : State V) → AreBooksOf V b s → 0 < key_count s.history → (i : ℕ) × IsUsedIn b.free i
some_used V b s known some =
    let held = some_held s.history some in
    let there = stands_somewhere V (shape_of b.checked) s.words held.0 (map_value s.history held.0) (keys_quiet V (shape_of b.checked) s known.quiet held.0) held.1 in
    (there.1, (omega (arith, there.2.names.in_items, known.items), λ free. known.free there.1 free there.0 there.2.names))

-- ---- the books after readings
pub books_read : (V : ℕ) (b : Books) (hand : ℕ) (s : State V) (rs : List Swept) → AreBooksOf V b s → IsSearch (shape_of b.checked).items rs → (policy_of b.checked ≡ Clock → hand ≡ (after_all (shape_of b.checked) s (hand_acts rs)).hand)
    → hand < (shape_of b.checked).items → AreBooksOf V (record b { hand = hand }) (after_all (shape_of b.checked) s (hand_acts rs))
books_read V b hand s rs known searches is inside =
    let sh = shape_of b.checked in
    let still = swept_still V sh s rs in
    let quiet = sweep_quiet V sh s rs known.quiet b.checked.sound (sweep_allowed V sh s rs known.quiet searches) in
    books_swept V b hand s (after_all sh s (hand_acts rs)) known quiet still.words still.version_steps is inside (swept_below V sh s rs known.stands)

-- CLOCK's hand has read one item
pub books_passed : (V : ℕ) (b : Books) (s : State V) (i bit : ℕ) → AreBooksOf V b s → i < (shape_of b.checked).items → AreBooksOf V (record b { hand = (i + 1) % (shape_of b.checked).items }) (after_act (shape_of b.checked) s (Hand i) bit)
books_passed V b s i bit known inside =
    let items = (shape_of b.checked).items in
    let r : Swept = record { item = i; bit = bit } in
    let first : (n : ℕ) (d : Swept) → n < 1 → (get_or (r ∷ []) n d).item < items = λ n d l. let zeroth : n ≡ 0 = omega (arith, l) in rw zeroth inside in
    let searches : IsSearch items (r ∷ []) = record { inside = first; most = omega (arith, inside); marked = λ n d l. absurd (omega (arith, l)) } in
    books_read V b ((i + 1) % items) s (r ∷ []) known searches (λ clock. refl) (mod-lt (i + 1) (omega (arith, inside)))

-- ---- the key at the item whose bit was clear is taken out
pub is_evicted : (V : ℕ) (b : Books) (m : State V) (i : ℕ) (victim : Victim) (free : FreeItems) → IsShape (shape_of b.checked) → AreBooksOf V b m → m.cleared ≡ Some i → IsVictim V b m i victim → b.version_steps + 2 ≤ (shape_of b.checked).limit
    → IsConsistent free → policy_in free ≡ policy_in b.free → free.list.items ≡ b.free.list.items → GivesBack b.free free i → IsEvicted V (record b { free = free; version_steps = b.version_steps + 2 }) m i victim
is_evicted V b m i victim free shape known cleared there limit kept policy items gives =
    let sh = shape_of b.checked in
    let k = victim.key in
    let p = victim.place in
    let law = evicts V sh k p shape there.word m i known.quiet there.place.in_bucket there.stands cleared in
    let makes = law.0 in
    let t = state_after_acts V sh m (evict_acts k p) in
    let given = slot_given sh m.words t.words (slot_number p) i shape there.stands.names law.2 law.1 in
    let ends : Ends V b m t 2 = record { quiet = makes.quiet; version_steps = makes.version_steps; hand = makes.hand; limit = omega (arith, limit, known.version_steps) } in
    record {
      taken = record { word = there.word; parts = there.parts; place = there.place; stands = there.stands };
      makes = makes;
      ends = books_after V b m t 2 free known ends (free_given V b m t.words free i known kept policy items gives given);
    }
