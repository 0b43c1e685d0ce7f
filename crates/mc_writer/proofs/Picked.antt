-- The readings of a choice.
use Rattle.std.proofs.Common.{ℕ, ◌≡◌, ◌<◌, ◌++◌, ◌∙◌, List, [], append-nil, refl, sym, subst}
use Rattle.mc_words.specs.Checks.{shape_of}
use Rattle.mc_words.specs.declared.shape.Shape.{Shape}
use Rattle.mc_theory.specs.Acts.{IsAllowed, MayFrom}
use Rattle.mc_theory.specs.Lists.{AreAllowed, Made, after_all, state_of}
use Rattle.mc_theory.specs.Phases.{Phase, Quiet}
use Rattle.mc_theory.specs.States.{State}
use Rattle.mc_theory.specs.declared.act.Act.TheVariants.{Hand}
use Rattle.mc_theory.proofs.Lists.Fronts.{state_append}
use Rattle.mc_search.specs.Items.{IsPicking}
use Rattle.mc_search.specs.Sweeps.{Swept, IsSearch, hand_acts}
use Rattle.mc_search.specs.declared.pick.Pick.{Pick}
use Rattle.mc_search.proofs.TiedItems.{picking_victim}
use Rattle.mc_plan.specs.Books.{AreBooksOf}
use Rattle.mc_plan.specs.declared.books.Books.{Books}
use Rattle.mc_plan.proofs.Calls.SweptStates.{sweep_allowed, swept_still}
use Rattle.mc_shared.proofs.GrownNotes.{grow_self}
use Rattle.mc_writer.specs.Inside.Pens.{state_at}
use Rattle.mc_writer.specs.Inside.Turns.{HasPicked, HasRead}
use Rattle.mc_writer.specs.declared.pen.Pen.{Pen}

-- between two deeds each item may be read, whatever was read before
pub read_may : (V : ℕ) (sh : Shape) (acts : List Made) (rs : List Swept) (i : ℕ) → (state_of V sh acts).phase ≡ Quiet → i < sh.items → IsAllowed sh (state_of V sh (acts ++ hand_acts rs)) (Hand i)
read_may V sh acts rs i quiet inside =
    let s = state_of V sh acts in
    let t = after_all sh s (hand_acts rs) in
    let may : IsAllowed sh t (Hand i) = subst (λ (p : Phase). MayFrom V sh t.words t.hand t.cleared p (Hand i)) (sym ((swept_still V sh s rs).phase ∙ quiet)) inside in
    subst (λ (x : State V). IsAllowed sh x (Hand i)) (sym (state_append V sh acts (hand_acts rs))) may

-- nothing was read yet
pub picks_none : (V : ℕ) (b : Books) (pick : Pick) (p : Pen V) → shape_of b.checked ≡ p.cells.now.layout.shape → AreBooksOf V b (state_at V p) → IsPicking b.free pick [] → HasPicked V b pick p p []
picks_none V b pick p shape known on = record {
  same = record { cells = refl; seat = refl };
  of = refl;
  acts = sym (append-nil p.seat.now.acts);
  notes = grow_self p.seat.now.notes;
  shape = shape;
  known = known;
  picking = on;
}

-- the readings are a search
pub picked_search : (V : ℕ) (b : Books) (pick : Pick) (p q : Pen V) (rs : List Swept) → HasPicked V b pick p q rs → IsSearch (shape_of b.checked).items rs
picked_search V b pick p q rs h = subst (λ (n : ℕ). IsSearch n rs) h.known.items (picking_victim b.free pick rs _ h.known.kept h.picking refl).0

-- and were allowed one after the other
pub picked_read : (V : ℕ) (b : Books) (pick : Pick) (p q : Pen V) (rs : List Swept) → HasPicked V b pick p q rs → HasRead V p q rs
picked_read V b pick p q rs h =
    let may = sweep_allowed V (shape_of b.checked) (state_at V p) rs h.known.quiet (picked_search V b pick p q rs h) in
    record { same = h.same; of = h.of; acts = h.acts; notes = h.notes; may = subst (λ (x : Shape). AreAllowed x (state_at V p) (hand_acts rs)) h.shape may }
