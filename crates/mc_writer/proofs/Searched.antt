-- The search for an item that gives way, though no put waits for it.
use Rattle.std.proofs.Common.{ℕ, ◌≡◌, ◌*◌, ◌<◌, ◌⊎◌, ◌∙◌, List, Option, inl, inr, ap, sym, subst}
use Rattle.mc_words.specs.Checks.{shape_of}
use Rattle.mc_words.specs.History.{key_count}
use Rattle.mc_words.specs.declared.policy.Policy.{Policy}
use Rattle.mc_words.specs.declared.shape.Shape.{Shape}
use Rattle.mc_theory.specs.Lists.{Made, after_all, state_of}
use Rattle.mc_theory.specs.States.{State}
use Rattle.mc_theory.proofs.Lists.Fronts.{state_append}
use Rattle.mc_search.specs.Items.{IsUsedIn}
use Rattle.mc_search.specs.Sweeps.{Swept, IsOver, hand_acts, victim_of}
use Rattle.mc_search.specs.declared.pick.Pick.{Pick}
use Rattle.mc_plan.specs.Books.{AreBooksOf}
use Rattle.mc_plan.specs.Evicting.{IsWholeSearch}
use Rattle.mc_plan.specs.declared.books.Books.{Books}
use Rattle.mc_plan.proofs.Calls.Evictions.{books_read, some_used}
use Rattle.mc_plan.proofs.Calls.Picks.{picking_policy, picks_named}
use Rattle.mc_plan.proofs.Calls.SweptStates.{over_without}
use Rattle.mc_shared.specs.Views.{layout_of}
use Rattle.mc_writer.specs.Inside.Pens.{state_at}
use Rattle.mc_writer.specs.Inside.Turns.{HasEndedSearch, HasPicked, HasRead}
use Rattle.mc_writer.specs.declared.pen.Pen.{Pen}
use Rattle.mc_writer.proofs.Pens.{shape_kept}
use Rattle.mc_writer.proofs.Picked.{picked_read, picked_search}
use Rattle.mc_writer.proofs.WholeCalls.{shape_there}

-- the state after the readings
pub state_read : (V : ℕ) (p q : Pen V) (b : Books) (rs : List Swept) → p.cells.now.layout ≡ layout_of V b.checked → HasRead V p q rs → state_at V q ≡ after_all (shape_of b.checked) (state_at V p) (hand_acts rs)
state_read V p q b rs layout read =
    let sh = p.cells.now.layout.shape in
    ap (λ (x : Shape). state_of V x q.seat.now.acts) (shape_kept read.same) ∙ ap (λ (xs : List Made). state_of V sh xs) read.acts ∙ state_append V sh p.seat.now.acts (hand_acts rs)
    ∙ ap (λ (x : Shape). after_all x (state_at V p) (hand_acts rs)) (sym (shape_there V p b layout))

-- ---- by the choice
-- it is over, for some item is in use
picked_over : (V : ℕ) (b : Books) (s : State V) (keys : ℕ) (rs : List Swept) → AreBooksOf V b s → 0 < key_count s.history → IsOver keys rs ⊎ ((j : ℕ) → IsUsedIn b.free j → ⊥) → IsOver keys rs
picked_over V b s keys rs known some over = elim over [
  | inl is ↦ is
  | inr none ↦ let used = some_used V b s known some in absurd (none used.0 used.1)
]

pub picked_ended : (V : ℕ) (b : Books) (pick : Pick) (p q : Pen V) (rs : List Swept) (told : Option ℕ) → p.cells.now.layout ≡ layout_of V b.checked → 0 < key_count (state_at V p).history → HasPicked V b pick p q rs
    → pick.items ≡ key_count (state_at V p).history → IsOver pick.items rs ⊎ ((j : ℕ) → IsUsedIn b.free j → ⊥) → told ≡ victim_of rs → HasEndedSearch V b p q told
picked_ended V b pick p q rs told layout some h keys over is =
    let sh = shape_of b.checked in
    let s = state_at V p in
    let searches = picked_search V b pick p q rs h in
    let policy = picking_policy V b pick s rs h.known h.picking in
    let read = picked_read V b pick p q rs h in
    let after = books_read V b b.hand s rs h.known searches (λ clock. absurd (cc (sym clock ∙ policy))) h.known.inside in
    record {
      readings = rs;
      searched = record {
        layout = layout;
        began = h.known.quiet;
        read = read;
        searches = record { searches = searches; in_use = λ n d below. picks_named V b pick s rs n d h.known h.picking below };
        known = subst (λ (x : State V). AreBooksOf V b x) (sym (state_read V p q b rs layout read)) after;
      };
      found = is;
      whole = λ none.
          let many = over_without pick.items rs (picked_over V b s pick.items rs h.known some over) (sym is ∙ none) in
          subst (λ (x : Policy). IsWholeSearch x (key_count s.history) sh s.words rs) (sym policy) (many ∙ ap (λ (n : ℕ). 2 * n) keys);
    }
