-- What a search and then an eviction make of the seat.
use Rattle.std.proofs.Common.{ℕ, ◌≡◌, ◌+◌, ◌<◌, ◌≤◌, ◌∙◌, List, [], ◌∷◌, ◌++◌, None, Some, ap, arith, append_assoc, append-nil, length, length-append, refl, sym, subst}
use Rattle.mc_words.specs.Checks.{policy_of, shape_of}
use Rattle.mc_words.specs.History.{key_count}
use Rattle.mc_words.specs.KeyParts.{HasParts}
use Rattle.mc_words.specs.Places.{slot_number}
use Rattle.mc_words.specs.Standing.{Agrees, NamesItem, Stands}
use Rattle.mc_words.specs.declared.history.Change.{Change}
use Rattle.mc_words.specs.declared.history.Change.TheVariants.{Evict}
use Rattle.mc_words.specs.declared.policy.Policy.{Policy}
use Rattle.mc_words.specs.declared.shape.Shape.{Shape}
use Rattle.mc_theory.specs.Lists.{Made, AreAllowed, after_all, state_of}
use Rattle.mc_theory.specs.States.{State}
use Rattle.mc_theory.specs.declared.act.Act.{Act}
use Rattle.mc_theory.proofs.Lists.Fronts.{state_append}
use Rattle.mc_search.specs.Items.{IsUsedIn}
use Rattle.mc_search.specs.Sweeps.{Swept, hand_acts, victim_of}
use Rattle.mc_plan.specs.Books.{AreBooksOf}
use Rattle.mc_plan.specs.Due.{AreDue}
use Rattle.mc_plan.specs.Evicting.{IsEvicted, IsSearchIn, IsWholeSearch}
use Rattle.mc_plan.specs.Making.{IsQuiet, Makes, as_made, state_after_acts}
use Rattle.mc_plan.specs.Plans.{evict_acts}
use Rattle.mc_plan.specs.declared.books.Books.{Books}
use Rattle.mc_plan.specs.declared.decision.Victim.{Victim}
use Rattle.mc_plan.proofs.Calls.MidCall.{allowed_then}
use Rattle.mc_plan.proofs.Calls.SweptStates.{swept_cleared, swept_still, victim_holds}
use Rattle.mc_plan.proofs.Deeds.QuietStates.{agrees_quiet}
use Rattle.mc_shared.specs.Records.{Opening}
use Rattle.mc_shared.specs.Views.{layout_of}
use Rattle.mc_shared.specs.declared.layout.Layout.{Layout}
use Rattle.mc_shared.proofs.GrownNotes.{grow_trans}
use Rattle.mc_writer.specs.Evictions.{HasEvicted, HasFoundRecent, HasSearchedAnd}
use Rattle.mc_writer.specs.GivenWay.{Holds}
use Rattle.mc_writer.specs.WriterCalls.{IsRested}
use Rattle.mc_writer.specs.Inside.Pens.{HasMade, IsDue, state_at}
use Rattle.mc_writer.specs.Inside.Turns.{HasSearched}
use Rattle.mc_writer.specs.declared.entry.Entry.{Entry}
use Rattle.mc_writer.specs.declared.pen.Pen.{Pen}
use Rattle.mc_writer.proofs.Pens.{plan_is_due, shape_kept}
use Rattle.mc_writer.proofs.Searched.{state_read}
use Rattle.mc_writer.proofs.WholeCalls.{shape_there, words_still}

module _ (V : ℕ) (b : Books) (p q : Pen V) (rs : List Swept) (h : HasSearched V b p q rs) where
  abbrev sh : Shape
  sh = p.cells.now.layout.shape

  shape_p : shape_of b.checked ≡ sh
  shape_p = shape_there V p b h.layout

  pub shape_q : shape_of b.checked ≡ q.cells.now.layout.shape
  shape_q = shape_p ∙ sym (shape_kept h.read.same)

  -- the readings changed no word, no history and no version
  pub searched_history : (state_at V q).history ≡ (state_at V p).history
  searched_history = ap (λ (s : State V). s.history) (state_read V p q b rs h.layout h.read) ∙ (swept_still V (shape_of b.checked) (state_at V p) rs).history

  pub searched_steps : b.version_steps ≡ (state_at V p).version_steps
  searched_steps = h.known.version_steps ∙ ap (λ (s : State V). s.version_steps) (state_read V p q b rs h.layout h.read) ∙ (swept_still V (shape_of b.checked) (state_at V p) rs).version_steps

  -- the item whose bit was clear is in use, and it is the one that is cleared
  pub found_used : (i : ℕ) → victim_of rs ≡ Some i → IsUsedIn b.free i
  found_used i found =
      let named : (slot : ℕ) × NamesItem (shape_of b.checked) (state_at V p).words slot i = victim_holds (λ j. (slot : ℕ) × NamesItem (shape_of b.checked) (state_at V p).words slot j) rs i h.searches.in_use found in
      let now = subst (λ (w : List ℕ). NamesItem (shape_of b.checked) w named.0 i) (sym (words_still V p q rs h.read)) named.1 in
      (omega (arith, now.in_items, h.known.items), λ free. h.known.free i free named.0 now)

  pub found_cleared : (i : ℕ) → victim_of rs ≡ Some i → (state_at V q).cleared ≡ Some i
  found_cleared i found = ap (λ (s : State V). s.cleared) (state_read V p q b rs h.layout h.read) ∙ swept_cleared V (shape_of b.checked) (state_at V p) (shape_of b.checked).items rs i h.searches.searches found

  -- the words agree with the history
  pub searched_agrees : Agrees V q.cells.now.layout.shape (state_at V q).words None (state_at V p).history
  searched_agrees =
      subst (λ (c : List (Change V)). Agrees V q.cells.now.layout.shape (state_at V q).words None c) searched_history
      (subst (λ (x : Shape). Agrees V x (state_at V q).words None (state_at V q).history) shape_q (agrees_quiet V (shape_of b.checked) (state_at V q) h.known.quiet))

  -- the state after the readings, by the shape of the pen
  abbrev m : State V
  m = state_of V sh q.seat.now.acts

  m_is : state_at V q ≡ m
  m_is = ap (λ (x : Shape). state_of V x q.seat.now.acts) (shape_kept h.read.same)

  m_read : m ≡ after_all sh (state_at V p) (hand_acts rs)
  m_read = ap (state_of V sh) h.read.acts ∙ state_append V sh p.seat.now.acts (hand_acts rs)

  pub searched_in : IsSearchIn sh (state_at V p).words rs
  searched_in = subst (λ (x : Shape). IsSearchIn x (state_at V p).words rs) shape_p h.searches

  -- ---- no bit was clear
  pub found_recent : 0 < key_count (state_at V p).history → victim_of rs ≡ None → IsWholeSearch (policy_of b.checked) (key_count (state_at V p).history) (shape_of b.checked) (state_at V p).words rs → HasFoundRecent V sh p.seat.now q.seat.now
  found_recent some none whole =
      let policy : p.seat.now.of.layout.policy ≡ policy_of b.checked = ap (λ (l : Layout). l.policy) (ap (λ (o : Opening). o.layout) p.of ∙ h.layout) in
      let all = append-nil (hand_acts rs) in
      let quiet = subst (λ (x : Shape). IsQuiet V x m) shape_p (subst (λ (s : State V). IsQuiet V (shape_of b.checked) s) m_is h.known.quiet) in
      record {
        readings = rs;
        some = some;
        none = none;
        whole = subst (λ (x : Policy). IsWholeSearch x (key_count (state_at V p).history) sh (state_at V p).words rs) (sym policy) (subst (λ (x : Shape). IsWholeSearch (policy_of b.checked) (key_count (state_at V p).history) x (state_at V p).words rs) shape_p whole);
        made = record {
          of = h.read.of;
          notes = h.read.notes;
          acts = h.read.acts ∙ ap (λ (xs : List Made). p.seat.now.acts ++ xs) (sym all);
          allowed = subst (λ (xs : List Made). AreAllowed sh (state_at V p) xs) (sym all) h.read.may;
          quiet = quiet;
          searches = searched_in;
        };
        words = ap (λ (s : State V). s.words) (sym m_is) ∙ words_still V p q rs h.read;
        history = ap (λ (s : State V). s.history) (sym m_is) ∙ searched_history;
        version_steps = ap (λ (s : State V). s.version_steps) (sym m_is) ∙ (sym h.known.version_steps ∙ searched_steps);
      }

  -- ---- and then what was decided
  module _ (b1 : Books) (item : ℕ) (victim : Victim) (kept : b1.checked ≡ b.checked) (ev : IsEvicted V b1 (state_at V q) item victim) where
    abbrev acts : List Act
    acts = evict_acts victim.key victim.place

    shape_b : shape_of b1.checked ≡ sh
    shape_b = ap shape_of kept ∙ shape_p

    makes : Makes V sh m acts (Evict victim.key ∷ []) 2
    makes = subst (λ (x : Shape). Makes V x m acts (Evict victim.key ∷ []) 2) shape_b (subst (λ (s : State V). Makes V (shape_of b1.checked) s acts (Evict victim.key ∷ []) 2) m_is ev.makes)

    ends : AreBooksOf V b1 (state_after_acts V sh m acts)
    ends = subst (λ (x : Shape). AreBooksOf V b1 (state_after_acts V x m acts)) shape_b (subst (λ (s : State V). AreBooksOf V b1 (state_after_acts V (shape_of b1.checked) s acts)) m_is ev.ends)

    pub evicted_parts : HasParts q.cells.now.layout.shape victim.key victim.parts
    evicted_parts = subst (λ (x : Shape). HasParts x victim.key victim.parts) (ap shape_of kept ∙ shape_q) ev.taken.parts

    pub evicted_stands : Stands V q.cells.now.layout.shape (state_at V q).words victim.key (slot_number victim.place) item
    evicted_stands = subst (λ (x : Shape). Stands V x (state_at V q).words victim.key (slot_number victim.place) item) (ap shape_of kept ∙ shape_q) ev.taken.stands

    -- the acts are due
    pub evicted_due : IsDue V acts q
    evicted_due =
        let due : AreDue V sh (q.seat.now.acts ++ as_made acts) q.seat.now.acts acts = record {
          whole = refl;
          allowed = makes.allowed;
          quiet = makes.quiet.quiet;
          within = subst (λ (x : Shape). (state_after_acts V sh m acts).version_steps ≤ x.limit) shape_b ends.limit;
        } in
        plan_is_due V q (q.seat.now.acts ++ as_made acts) acts (subst (λ (x : Shape). AreDue V x (q.seat.now.acts ++ as_made acts) q.seat.now.acts acts) (sym (shape_kept h.read.same)) due)

    -- and once they are made, the key is evicted
    module _ (after : Pen V) (made : HasMade V acts q after) where
      all_acts : after.seat.now.acts ≡ p.seat.now.acts ++ (hand_acts rs ++ as_made acts)
      all_acts = made.acts ∙ (ap (λ (xs : List Made). xs ++ as_made acts) h.read.acts ∙ append_assoc p.seat.now.acts (hand_acts rs) (as_made acts))

      end_is : state_of V sh after.seat.now.acts ≡ state_after_acts V sh m acts
      end_is = ap (state_of V sh) made.acts ∙ state_append V sh q.seat.now.acts (as_made acts)

      of : after.seat.now.of ≡ p.seat.now.of
      of = made.of ∙ h.read.of

      pub evicted_rests : IsRested V b1 after.seat.now
      evicted_rests = record {
        layout = ap (λ (o : Opening). o.layout) of ∙ (ap (λ (o : Opening). o.layout) p.of ∙ (h.layout ∙ ap (layout_of V) (sym kept)));
        known = subst (λ (x : Shape). AreBooksOf V b1 (state_of V x after.seat.now.acts)) (sym shape_b) (subst (λ (s : State V). AreBooksOf V b1 s) (sym end_is) ends);
      }

      whole : HasSearchedAnd V sh p.seat.now after.seat.now rs (as_made acts)
      whole = record {
        of = of;
        notes = grow_trans h.read.notes made.notes;
        acts = all_acts;
        allowed = allowed_then V sh (state_at V p) (hand_acts rs) (as_made acts) h.read.may (subst (λ (s : State V). AreAllowed sh s (as_made acts)) m_read makes.allowed);
        quiet = subst (λ (s : State V). IsQuiet V sh s) (sym end_is) makes.quiet;
        searches = searched_in;
      }

      grown : (state_of V sh after.seat.now.acts).history ≡ (state_at V p).history ++ Evict victim.key ∷ []
      grown = ap (λ (s : State V). s.history) end_is ∙ makes.history ∙ ap (λ (c : List (Change V)). c ++ Evict victim.key ∷ []) (ap (λ (s : State V). s.history) (sym m_is) ∙ searched_history)

      pub has_evicted : (at : ℕ) (old : Entry V) → victim_of rs ≡ Some item → Holds (state_at V p).history victim.key (Some old) → at ≡ length (state_at V p).history + 1 → HasEvicted V sh p.seat.now after.seat.now at old
      has_evicted at old found holds moment =
          let s = state_at V p in
          let t = state_of V sh after.seat.now.acts in
          let P : ℕ → Type 0 = λ k. Stands V sh s.words k (slot_number victim.place) item × HasSearchedAnd V sh p.seat.now after.seat.now rs (as_made (evict_acts k victim.place)) × Holds s.history k (Some old) × (t.history ≡ s.history ++ Evict k ∷ []) in
          let stands = subst (λ (x : Shape). Stands V x s.words victim.key (slot_number victim.place) item) (shape_kept h.read.same) (subst (λ (w : List ℕ). Stands V q.cells.now.layout.shape w victim.key (slot_number victim.place) item) (words_still V p q rs h.read) evicted_stands) in
          let all : P old.key = subst P (sym holds.0) (stands, whole, holds, grown) in
          let steps = ap (λ (x : State V). x.version_steps) end_is ∙ makes.version_steps in
          let still = (swept_still V sh s rs).version_steps in
          let read = ap (λ (x : State V). x.version_steps) m_read in
          record {
            readings = rs;
            item = item;
            place = victim.place;
            found = found;
            stands = all.0;
            made = all.1;
            holds = all.2;
            history = all.3;
            version_steps = omega (arith, steps, read, still);
            moment = moment ∙ sym (ap (λ (c : List (Change V)). length c) grown ∙ length-append s.history (Evict victim.key ∷ []));
          }
