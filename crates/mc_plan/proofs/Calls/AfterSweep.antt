-- What a put makes that takes its item from another key, or finds every item in use and recent.
use Rattle.std.proofs.Common.{ℕ, ◌≡◌, ◌+◌, ◌*◌, ◌%◌, ◌<◌, ◌≤◌, ◌∙◌, inl, inr, List, [], ◌∷◌, ◌++◌, Some, None, Ok, Err, ap, refl, sym, subst, length, arith, length-append}
use Rattle.std.proofs.Math.Nat.{mod-lt}
use Rattle.mc_words.specs.declared.policy.Policy.TheVariants.{Clock, ScanResistant}
use Rattle.mc_words.specs.declared.policy.Policy.{Policy}
use Rattle.mc_words.specs.declared.history.Change.{Change}
use Rattle.mc_words.specs.declared.history.Change.TheVariants.{Put, Evict}
use Rattle.mc_words.specs.declared.place.Place.{Place}
use Rattle.mc_words.specs.Answers as means
use Rattle.mc_words.specs.Chains.{IsChain}
use Rattle.mc_words.specs.Checks.{policy_of, shape_of}
use Rattle.mc_words.specs.History.{IsWord}
use Rattle.mc_words.specs.Places.{IsPlace, item, moment, slot_number}
use Rattle.mc_words.specs.Standing.{NamesItem, Stands, IsAbsent}
use Rattle.mc_words.specs.declared.shape.Shape.{Shape}
use Rattle.mc_theory.specs.States.{State}
use Rattle.mc_theory.specs.declared.act.Act.{Act}
use Rattle.mc_plan.specs.declared.answer.Answer.TheVariants as answer
use Rattle.mc_plan.specs.declared.answer.Put.TheVariants as put
use Rattle.mc_plan.specs.declared.answer.PutError.TheVariants as why
use Rattle.mc_plan.specs.declared.books.Books.{Books}
use Rattle.mc_plan.specs.WholeCalls.{Call, PutCall, Means, AreOfDeeds, IsSweepOf, quiet_of, state_after_sweep}
use Rattle.mc_plan.specs.Books.{AreBooksOf, IsPlanned, IsSweeping, Waits}
use Rattle.mc_plan.specs.declared.waiting.Waiting.{Waiting}
use Rattle.mc_plan.specs.Inside.Clerks.{IsReplacing}
use Rattle.mc_plan.specs.Making.{IsQuiet, Makes, state_after_acts}
use Rattle.mc_search.specs.Items.{IsUsedIn}
use Rattle.mc_search.specs.Kept.{KeepsNamed}
use Rattle.mc_search.specs.declared.room.Room.{Room}
use Rattle.mc_plan.specs.Decisions.{new_marks}
use Rattle.mc_plan.specs.Moves.{AreKeys}
use Rattle.mc_search.specs.Paths.{IsCut, first_place, path_of_room}
use Rattle.mc_search.specs.declared.path.Path.{Path}
use Rattle.mc_plan.specs.Replacing.{CanReplace, replace_acts}
use Rattle.mc_search.specs.Sweeps.{Swept, IsOver, IsSearch, IsSearchBy, victim_of}
use Rattle.mc_plan.proofs.Calls.AfterPlan.{deeds_put, needs_item, next_word}
use Rattle.mc_plan.proofs.Calls.NewKeys.{new_marked, stored_marks}
use Rattle.mc_plan.proofs.Deeds.QuietStates.{agrees_quiet, stands_held}
use Rattle.mc_plan.proofs.Puts.Replacements.{evictions_room}
use Rattle.mc_plan.proofs.Calls.SweptStates.{over_without, swept_below, sweep_allowed, swept_cleared, swept_hand, swept_home, sweep_quiet, swept_still, victim_below}

-- ---- the victim
-- the readings are those of a search, by either policy
pub searches_by : (policy : Policy) (items hand : ℕ) (rs : List Swept) → IsSearchBy policy items hand rs → IsSearch items rs
searches_by Clock items hand rs sweeps = sweeps.searches
searches_by ScanResistant items hand rs searches = searches

-- if an item is in use, its key stands at it
pub used_stands : (V : ℕ) (b : Books) (s : State V) (i : ℕ) → AreBooksOf V b s → IsUsedIn b.free i
    → (i < (shape_of b.checked).items) × ((q : ℕ) × Stands V (shape_of b.checked) s.words (item V (shape_of b.checked) s.words i 0) q i)
used_stands V b s i old used =
    let below : i < (shape_of b.checked).items = omega (arith, used.0, old.items) in
    let named = old.named i below used.1 in
    (below, (named.0, record { names = named.1; key = refl }))

-- so is the item that was found for a put
pub victim_used : (V : ℕ) (b : Books) (k : ℕ) (v : List ℕ) (room : Room) (call : Call) (s : State V) (rs : List Swept) (i : ℕ) → IsReplacing V b k v room call s rs i → IsUsedIn b.free i
victim_used V b k v room call s rs i on =
    let below = victim_below (shape_of b.checked).items rs i (searches_by (policy_of b.checked) (shape_of b.checked).items s.hand rs on.searched) on.found in
    (omega (arith, below, on.waits.known.items), on.waits.none i)

pub victim_stands : (V : ℕ) (b : Books) (k : ℕ) (v : List ℕ) (room : Room) (call : Call) (s : State V) (rs : List Swept) (i : ℕ) → IsReplacing V b k v room call s rs i
    → (i < (shape_of b.checked).items) × ((q : ℕ) × Stands V (shape_of b.checked) s.words (item V (shape_of b.checked) s.words i 0) q i)
victim_stands V b k v room call s rs i on = used_stands V (record b { hand = on.before }) s i on.waits.known (victim_used V b k v room call s rs i on)

-- ---- CLOCK's sweep
pub swept_by : (V : ℕ) (b : Books) (waiting : Waiting V) (call : Call) (s : State V) (rs : List Swept) → IsSweeping V b waiting call s rs → IsSearchBy (policy_of b.checked) (shape_of b.checked).items s.hand rs
swept_by V b waiting call s rs on = subst (λ (p : Policy). IsSearchBy p (shape_of b.checked).items s.hand rs) (sym on.clock) on.has.sweeps

-- it has found an item for its put
pub replacing_swept : (V : ℕ) (b : Books) (waiting : Waiting V) (call : Call) (s : State V) (rs : List Swept) (i hand : ℕ) → IsSweeping V b waiting call s rs → victim_of rs ≡ Some i → hand ≡ (s.hand + length rs) % (shape_of b.checked).items
    → IsReplacing V (record b { hand = hand }) waiting.key waiting.value waiting.room call s rs i
replacing_swept V b waiting call s rs i hand on found at =
    let start = on.has.start in
    record {
      before = b.hand;
      waits = on.waits;
      called = on.called;
      searched = swept_by V b waiting call s rs on;
      found = found;
      hand = λ clock. at;
      inside = subst (λ (h : ℕ). h < (shape_of b.checked).items) (sym at) (mod-lt (s.hand + length rs) (omega (arith, start)));
    }

-- ---- the books after a search that found none
pub books_swept : (V : ℕ) (b : Books) (hand : ℕ) (s m : State V) → AreBooksOf V b s → IsQuiet V (shape_of b.checked) m → m.words ≡ s.words → m.version_steps ≡ s.version_steps → (policy_of b.checked ≡ Clock → hand ≡ m.hand) → hand < (shape_of b.checked).items
    → m.hand < (shape_of b.checked).items → AreBooksOf V (record b { hand = hand }) m
books_swept V b hand s m old quiet words changes is inside stands = record {
  width = old.width;
  quiet = quiet;
  hand = is;
  inside = inside;
  stands = stands;
  version_steps = old.version_steps ∙ sym changes;
  limit = omega (arith, old.limit, changes);
  finder = old.finder;
  kept = old.kept;
  policy = old.policy;
  items = old.items;
  free = λ i f. rw words (old.free i f);
  named = λ i l f. rw words (old.named i l f);
}

-- a search leaves what answers speak of, but for the hand
same_quiet : (V : ℕ) (s m : State V) → m.words ≡ s.words → m.history ≡ s.history → m.version_steps ≡ s.version_steps → quiet_of m ≡ record (quiet_of s) { hand = m.hand }
same_quiet V s m words history changes =
    let of : List ℕ → List (Change V) → ℕ → means.Quiet V = λ w c n. record { words = w; hand = m.hand; history = c; version_steps = n } in
    ap (λ (w : List ℕ). of w m.history m.version_steps) words ∙ ap (λ (c : List (Change V)). of s.words c m.version_steps) history ∙ ap (λ (n : ℕ). of s.words s.history n) changes

-- ---- every item is recent
pub recent_planned : (V : ℕ) (b : Books) (k : ℕ) (v : List ℕ) (room : Room) (call : Call) (s : State V) (rs : List Swept) (hand : ℕ) → Waits V b k v s room → call ≡ PutCall k v → IsSearchBy (policy_of b.checked) (shape_of b.checked).items s.hand rs
    → IsOver (shape_of b.checked).items rs → victim_of rs ≡ None → (policy_of b.checked ≡ Clock → hand ≡ s.hand) → hand < (shape_of b.checked).items
    → IsPlanned V (record b { hand = hand }) [] call s (state_after_sweep V (shape_of b.checked) s rs) (answer.Put (Err why.AllRecent)) × IsSweepOf V (shape_of b.checked) (policy_of b.checked) s rs (answer.Put (Err why.AllRecent))
recent_planned V b k v room call s rs hand waits called searched over none is inside =
    let sh = shape_of b.checked in
    let m = state_after_sweep V sh s rs in
    let still = swept_still V sh s rs in
    let many = over_without sh.items rs over none in
    let searches = searches_by (policy_of b.checked) sh.items s.hand rs searched in
    let home : policy_of b.checked ≡ Clock → m.hand ≡ s.hand = λ clock.
    swept_hand V sh s s.hand rs refl (subst (λ (p : Policy). IsSearchBy p sh.items s.hand rs) clock searched) waits.known.stands ∙ swept_home sh.items s.hand rs waits.known.stands many in
    let quiet = sweep_quiet V sh s rs waits.known.quiet b.checked.sound (sweep_allowed V sh s rs waits.known.quiet searches) in
    let needs = needs_item V b s k (path_of_room b.far.value.path room) waits.known waits.unspent waits.absent waits.least waits.none in
    let refuses : means.RefusesAll V sh (quiet_of s) (quiet_of m) k = record { needs = needs.0; unchanged = same_quiet V s m still.words still.history still.version_steps } in
    let told = answer.Put (Err why.AllRecent) in
    let planned : IsPlanned V (record b { hand = hand }) [] (PutCall k v) s m told = record {
      allowed = tt;
      means = refuses;
      marks = tt;
      ends = books_swept V b hand s m waits.known quiet still.words still.version_steps (λ clock. is clock ∙ sym (home clock)) inside (swept_below V sh s rs waits.known.stands);
    } in (
      subst (λ (c : Call). IsPlanned V (record b { hand = hand }) [] c s m told) (sym called) planned,
      (searched, many, none, home),
    )

-- ---- an item is taken from another key
-- a cut path is no longer
pub cut_few : (victim : Place) (places : List Place) (hole : Place) (kept : List Place) (end : Place) → IsCut victim places hole kept end → length kept ≤ length places
cut_few victim places hole kept end (inl cut) =
    let many = length-append kept (victim ∷ cut.0) in
    omega (arith, ap length cut.1, many)
cut_few victim places hole kept end (inr cut) = omega (arith, ap length cut.1)

deeds_replace : (V : ℕ) (sh : Shape) (w : List ℕ) (k : ℕ) (v : List ℕ) (at i e : ℕ) (p : Place) (kept : List Place) (end : Place) → AreOfDeeds (replace_acts V sh w k v at i e p kept end)
deeds_replace V sh w k v at i e p kept end = (tt, (tt, (tt, (tt, deeds_put V sh w k v at i kept end))))

-- the moment after two changes more
two_more : (V : ℕ) (sh : Shape) (s t : State V) (at : ℕ) (one two : Change V) → IsQuiet V sh s → t.history ≡ s.history ++ one ∷ two ∷ [] → at ≡ moment s.words + 2 → at ≡ length t.history
two_more V sh s t at one two quiet grows is =
    let now = (agrees_quiet V sh s quiet).at_moment in
    let more = length-append s.history (one ∷ two ∷ []) in
    omega (arith, is, now, more, ap length grows)

module _ (V : ℕ) (b : Books) (k : ℕ) (v : List ℕ) (room : Room) (call : Call) (s : State V) (rs : List Swept) (i at : ℕ) (on : IsReplacing V b k v room call s rs i) where
  abbrev pub sh : Shape
  sh = shape_of b.checked

  abbrev pub mid : State V
  mid = state_after_sweep V sh s rs

  -- the path to the room that the put has found
  abbrev pub path : Path
  path = path_of_room b.far.value.path room

  abbrev pub acts_for : ℕ → Place → List Place → Place → List Act
  acts_for e p kept end = replace_acts V sh mid.words k v at i e p kept end

  searches : IsSearch sh.items rs
  searches = searches_by (policy_of b.checked) sh.items s.hand rs on.searched

  -- where CLOCK's hand is after them
  now_at : policy_of b.checked ≡ Clock → mid.hand ≡ b.hand
  now_at clock = swept_hand V sh s s.hand rs refl (subst (λ (p : Policy). IsSearchBy p sh.items s.hand rs) clock on.searched) on.waits.known.stands ∙ sym (on.hand clock)

  -- what the eviction, the moves and the fill make
  record Replaced (e : ℕ) (p : Place) (kept : List Place) (end : Place) : Type 0 where
    makes : Makes V sh mid (acts_for e p kept end) (Evict e ∷ Put k v ∷ []) (2 * length kept + 4)
    stands : Stands V sh (state_after_acts V sh mid (acts_for e p kept end)).words k (slot_number (first_place kept end)) i
    named : KeepsNamed sh mid.words (state_after_acts V sh mid (acts_for e p kept end)).words

  replaced : (e : ℕ) (p : Place) (kept : List Place) (end : Place) → IsWord e → IsPlace sh p → Stands V sh mid.words e (slot_number p) i → IsCut p path.places.items path.hole kept end → AreKeys V sh mid.words kept
      → at ≡ moment mid.words + 2 → Replaced e p kept end
  replaced e p kept end word place stands cut keys is =
      let waits = on.waits in
      let same = (swept_still V sh s rs).words in
      let quiet = sweep_quiet V sh s rs waits.known.quiet b.checked.sound (sweep_allowed V sh s rs waits.known.quiet searches) in
      let cleared = swept_cleared V sh s sh.items rs i searches on.found in
      let can : CanReplace V sh mid.words k i e p path.places.items path.hole kept end = record {
        absent = subst (λ (w : List ℕ). IsAbsent V sh w k) (sym same) waits.absent;
        victim = place;
        stands = stands;
        chain = subst (λ (w : List ℕ). IsChain sh w k path.places.items path.hole) (sym same) waits.least.chain;
        cut = cut;
        keys = keys;
      } in
      let next = next_word V (record b { hand = on.before }) s at waits.known (omega (arith, is, ap moment same)) in
      let law = evictions_room V sh mid k v at i e p path.places.items path.hole kept end b.checked.sound waits.key word waits.value next quiet cleared can is in
      record { makes = law.0; stands = law.1; named = law.2 }

  -- the books after it
  replaced_books : (e : ℕ) (p : Place) (kept : List Place) (end : Place) (changes : ℕ) → Replaced e p kept end → length kept ≤ length path.places.items → changes ≡ b.version_steps + (2 * length kept + 4)
      → AreBooksOf V (record b { version_steps = changes }) (state_after_acts V sh mid (acts_for e p kept end))
  replaced_books e p kept end changes r few is =
      let waits = on.waits in
      let known = waits.known in
      let still = swept_still V sh s rs in
      let makes = r.makes in
      record {
        width = known.width;
        quiet = makes.quiet;
        hand = λ clock. sym (makes.hand ∙ now_at clock);
        inside = on.inside;
        stands = rw makes.hand (swept_below V sh s rs waits.known.stands);
        version_steps = omega (arith, is, known.version_steps, makes.version_steps, still.version_steps);
        limit = omega (arith, makes.version_steps, still.version_steps, few, waits.least.within, waits.unspent);
        finder = known.finder;
        kept = known.kept;
        policy = known.policy;
        items = known.items;
        free = λ j f. absurd (waits.none j f);
        named = λ j l f.
            let was = known.named j l f in
            r.named was.0 j (subst (λ (w : List ℕ). NamesItem sh w was.0 j) (sym still.words) was.1);
      }

  -- what its answer means
  replaced_means : (e : ℕ) (p : Place) (kept : List Place) (end : Place) → Replaced e p kept end → length kept ≤ length path.places.items → Stands V sh mid.words e (slot_number p) i → at ≡ moment mid.words + 2
      → means.Replaces V sh (quiet_of s) (quiet_of (state_after_acts V sh mid (acts_for e p kept end))) k v at (length kept) e
  replaced_means e p kept end r few stands is =
      let waits = on.waits in
      let still = swept_still V sh s rs in
      let needs = needs_item V (record b { hand = on.before }) s k path waits.known waits.unspent waits.absent waits.least waits.none in
      let grown = r.makes.history ∙ ap (λ (h : List (Change V)). h ++ Evict e ∷ Put k v ∷ []) still.history in
      record {
        needs = needs.0;
        few = omega (arith, few, needs.1);
        was = stands_held V sh s e (slot_number p) i waits.known.quiet (subst (λ (w : List ℕ). Stands V sh w e (slot_number p) i) still.words stands);
        grows = record { history = grown; version_steps = r.makes.version_steps ∙ ap (λ (n : ℕ). n + (2 * length kept + 4)) still.version_steps ∙ omega arith };
        moment = two_more V sh s (state_after_acts V sh mid (acts_for e p kept end)) at (Evict e) (Put k v) waits.known.quiet grown (is ∙ ap (λ (w : List ℕ). moment w + 2) still.words);
      }

  pub replaced_planned : (e : ℕ) (p : Place) (kept : List Place) (end : Place) (changes : ℕ) → IsWord e → IsPlace sh p → Stands V sh mid.words e (slot_number p) i → IsCut p path.places.items path.hole kept end → AreKeys V sh mid.words kept
      → at ≡ moment mid.words + 2 → changes ≡ b.version_steps + (2 * length kept + 4)
      → IsPlanned V (record b { version_steps = changes }) (acts_for e p kept end ++ new_marks (policy_of b.checked) i) call s mid (answer.Put (Ok (put.Stored at (length kept) (Some e)))) × IsSweepOf V sh (policy_of b.checked) s rs (answer.Put (Ok (put.Stored at (length kept) (Some e))))
  replaced_planned e p kept end changes word place stands cut keys is counts =
      let few = cut_few p path.places.items path.hole kept end cut in
      let r = replaced e p kept end word place stands cut keys is in
      let t = state_after_acts V sh mid (acts_for e p kept end) in
      let below = (victim_stands V b k v room call s rs i on).0 in
      let walk = new_marked (policy_of b.checked) V sh mid (acts_for e p kept end) (Evict e ∷ Put k v ∷ []) (2 * length kept + 4) i r.makes below in
      let told = answer.Put (Ok (put.Stored at (length kept) (Some e))) in
      let put_call = PutCall k v in
      let planned : IsPlanned V (record b { version_steps = changes }) (acts_for e p kept end ++ new_marks (policy_of b.checked) i) put_call s mid told = record {
        allowed = walk.allowed;
        means = subst (λ (x : State V). Means sh put_call told s x) (sym walk.leads) (replaced_means e p kept end r few stands is);
        marks = stored_marks (policy_of b.checked) V sh _ k at (length kept) (Some e) (acts_for e p kept end) (slot_number (first_place kept end)) i (deeds_replace V sh mid.words k v at i e p kept end)
            (subst (λ (x : State V). Stands V sh x.words k (slot_number (first_place kept end)) i) (sym walk.leads) r.stands);
        ends = subst (λ (x : State V). AreBooksOf V (record b { version_steps = changes }) x) (sym walk.leads) (replaced_books e p kept end changes r few counts);
      } in (
        subst (λ (c : Call). IsPlanned V (record b { version_steps = changes }) (acts_for e p kept end ++ new_marks (policy_of b.checked) i) c s mid told) (sym on.called) planned,
        (on.searched, (i, slot_number p, on.found, subst (λ (w : List ℕ). Stands V sh w e (slot_number p) i) (swept_still V sh s rs).words stands)),
      )
