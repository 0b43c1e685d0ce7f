-- What a seat shows after a step.
use Rattle.std.proofs.Common.{◌≡◌, ℕ, zero, suc, List, [], ◌∷◌, ◌++◌, get_or, refl, ap, sym, ◌∙◌, subst}
use mathlib.Core.Option.{some, some-injective, some-ne-none}
use lib.ListN.{get_elem?}
use Rattle.mc_words.specs.Places.{all_words}
use Rattle.mc_theory.specs.declared.access.Access.{Access}
use Rattle.mc_theory.proofs.Lists.Fronts.{lawful_none}
use Rattle.mc_shared.specs.declared.layout.Layout.{Layout}
use Rattle.mc_shared.specs.Views.{Both, View, view_as, writer_view, reader_view, acts_of, tally_of, number_of, front_of, done_of, AreLawful}
use Rattle.mc_shared.specs.TableRule.{IsRecord}
use Rattle.mc_shared.specs.Steps.{SeatView, ReadsOne, mark_at, with_mark, joined_view}
use Rattle.mc_shared.specs.Inside.Seats.{IsReader}
use Rattle.mc_shared.proofs.ReaderRecords.{record_none, record_mark}

-- what the writer's seat is once a reader was joined to it
pub met_is : (l : Layout) (me me' : SeatView) (w : View) → me ≡ (writer_view l (acts_of me.0) (tally_of me.0), []) → me' ≡ (joined_view me.0 w, me.1) → me' ≡ (view_as l (Both (acts_of me'.0) (tally_of me'.0) (number_of me'.0) (front_of me'.0) (done_of me'.0)), [])
met_is l me me' w is now' =
    let layout : me.0.layout ≡ l = ap (λ (m : SeatView). m.0.layout) is in
    let empty : me.1 ≡ [] = ap (λ (m : SeatView). m.1) is in
    subst (λ (x : SeatView). x ≡ (view_as l (Both (acts_of x.0) (tally_of x.0) (number_of x.0) (front_of x.0) (done_of x.0)), [])) (sym now') (λ i. (view_as (layout i) (Both (acts_of me.0) (tally_of me.0) (number_of w) (front_of w) (done_of w)), empty i))

-- what a mark leaves
pub marked_is : (l : Layout) (me mid me' : SeatView) (i j : ℕ) → i ≡ j → mid ≡ me → me ≡ (reader_view l (number_of me.0) (front_of me.0) (done_of me.0), []) → me' ≡ with_mark i mid → me' ≡ (reader_view l (number_of me.0) (front_of me.0) (done_of me.0 ++ mark_at j (front_of me.0) ∷ []), [])
marked_is l me mid me' i j same still is e = e ∙ (ap (with_mark i) still ∙ (λ z. (reader_view (ap (λ (m : SeatView). m.0.layout) is z) (number_of me.0) (front_of me.0) (done_of me.0 ++ mark_at (same z) (front_of me.0) ∷ []), ap (λ (m : SeatView). m.1) is z)))

-- what is known of a reader's badge after a mark
pub marked_as : (l : Layout) (views views' : List View) (v v' : View) (i : ℕ) → IsReader views → views ≡ v ∷ [] → v.layout ≡ l → v' ≡ reader_view l (number_of v) (front_of v) (done_of v ++ mark_at i (front_of v) ∷ []) → views' ≡ v' ∷ [] → IsReader views'
marked_as l views views' v v' i mine is layout now' is' =
    let h : IsReader (v ∷ []) = subst IsReader is mine in
    let lawful : AreLawful l (front_of v) = subst (λ (z : Layout). AreLawful z (front_of v)) layout h.lawful in
    let r : IsRecord l (front_of v) (done_of v) = subst (λ (z : Layout). IsRecord z (front_of v) (done_of v)) layout h.recorded in
    subst IsReader (sym is') (subst (λ (x : View). IsReader (x ∷ [])) (sym now') (record { seat = refl; lawful = lawful; recorded = record_mark l (front_of v) (done_of v) i r }))

-- the element that is found at a place is the one that the index gives
pub index_at : (xs : List ℕ) (i x : ℕ) → get_elem? xs i ≡ some x → x ≡ get_or xs i 0
index_at [] i x e = absurd (some-ne-none x (sym e))
index_at (y ∷ ys) zero x e = sym (some-injective _ _ e)
index_at (y ∷ ys) (suc i) x e = index_at ys i x e

-- a new reader's badge
pub new_reader : (l : Layout) (n : ℕ) (views : List View) (v : View) → views ≡ v ∷ [] → v ≡ reader_view l n [] [] → IsReader views
new_reader l n views v is new = subst IsReader (sym (is ∙ ap (λ (x : View). x ∷ []) new)) (record { seat = refl; lawful = lawful_none l.width l.shape; recorded = record_none l [] })

-- how many words a table of the layout has
abbrev pub all_of : Layout → ℕ
all_of l = all_words l.width l.shape

-- what a reading leaves
pub read_seat : (l : Layout) (me me' : SeatView) → me ≡ (reader_view l (number_of me.0) (front_of me.0) (done_of me.0), []) → me' ≡ (reader_view me.0.layout (number_of me.0) (front_of me'.0) (done_of me'.0), me.1) → me' ≡ (reader_view l (number_of me.0) (front_of me'.0) (done_of me'.0), [])
read_seat l me me' is e = e ∙ (λ i. (reader_view (ap (λ (m : SeatView). m.0.layout) is i) (number_of me.0) (front_of me'.0) (done_of me'.0), ap (λ (m : SeatView). m.1) is i))

-- an entry may be written with an equal access, of the view as the seat has it
pub read_one : (l : Layout) (me me' : SeatView) (a b : Access) (x : ℕ) → a ≡ b → me ≡ (reader_view l (number_of me.0) (front_of me.0) (done_of me.0), []) → ReadsOne me.0.layout (front_of me.0) (done_of me.0) a x (front_of me'.0) (done_of me'.0) → ReadsOne l (front_of me.0) (done_of me.0) b x (front_of me'.0) (done_of me'.0)
read_one l me me' a b x same is r = subst (λ (y : Layout × Access). ReadsOne y.0 (front_of me.0) (done_of me.0) y.1 x (front_of me'.0) (done_of me'.0)) (λ i. (ap (λ (m : SeatView). m.0.layout) is i, same i)) r
