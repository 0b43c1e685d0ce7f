-- A put that first makes room.
use Rattle.std.proofs.Common.{ℕ, ◌≡◌, ◌+◌, ◌*◌, ◌∙◌, List, [], ◌∷◌, ◌++◌, ap, refl, sym, subst, length, arith, append_assoc, append-nil}
use Rattle.mc_words.specs.declared.history.Change.{Change}
use Rattle.mc_words.specs.declared.history.Change.TheVariants.{Put}
use Rattle.mc_words.specs.declared.place.Place.{Place}
use Rattle.mc_words.specs.declared.shape.Shape.{Shape}
use Rattle.mc_words.specs.Places.{moment, slot_number}
use Rattle.mc_words.specs.Standing.{Stands}
use Rattle.mc_theory.specs.States.{State}
use Rattle.mc_theory.specs.declared.act.Act.{Act}
use Rattle.mc_plan.specs.Making.{IsQuiet, Makes, CanFill, state_after_acts}
use Rattle.mc_plan.specs.Moves.{HasRoomFor}
use Rattle.mc_plan.specs.Plans.{fill_acts, moves_acts}
use Rattle.mc_search.specs.Paths.{first_place}
use Rattle.mc_plan.specs.Puts.{CanPut, TakesItem, PutsMakeRoom}
use Rattle.mc_plan.proofs.Puts.PathMoves.{room_made}
use Rattle.mc_plan.proofs.Deeds.Fills.{fills}
use Rattle.mc_plan.proofs.Puts.NamedItems.{slot_taken}
use Rattle.mc_plan.proofs.Deeds.QuietStates.{same_moment}
use Rattle.mc_plan.proofs.Deeds.Walks.{Walk, walk_then}

-- what some acts make, and then others, they make together
pub makes_then : (V : ℕ) (sh : Shape) (s : State V) (xs ys : List Act) (a b : List (Change V)) (m n : ℕ) → Makes V sh s xs a m → Makes V sh (state_after_acts V sh s xs) ys b n
    → Makes V sh s (xs ++ ys) (a ++ b) (m + n) × (state_after_acts V sh s (xs ++ ys) ≡ state_after_acts V sh (state_after_acts V sh s xs) ys)
makes_then V sh s xs ys a b m n one two =
    let t = state_after_acts V sh s xs in
    let u = state_after_acts V sh t ys in
    let walk : Walk V sh s (xs ++ ys) u = walk_then V sh s t u xs ys (record { allowed = one.allowed; leads = refl }) (record { allowed = two.allowed; leads = refl }) in
    let is = walk.leads in (
      record {
        allowed = walk.allowed;
        quiet = subst (λ (x : State V). IsQuiet V sh x) (sym is) two.quiet;
        history = ap (λ (x : State V). x.history) is ∙ two.history ∙ ap (λ (h : List (Change V)). h ++ b) one.history ∙ append_assoc s.history a b;
        version_steps = ap (λ (x : State V). x.version_steps) is ∙ two.version_steps ∙ ap (λ (c : ℕ). c + n) one.version_steps ∙ omega arith;
        hand = ap (λ (x : State V). x.hand) is ∙ two.hand ∙ one.hand;
      },
      is,
    )

-- the moves leave the item free, and the key can be put into the first place
can_fill : (V : ℕ) (sh : Shape) (w x : List ℕ) (k i : ℕ) (places : List Place) (hole : Place) → CanPut V sh w k i places hole → HasRoomFor V sh w x k (first_place places hole) → CanFill V sh x k i (first_place places hole)
can_fill V sh w x k i places hole can room = record {
  absent = room.absent can.absent;
  in_items = can.in_items;
  free = room.free i can.free;
  hole = room.hole;
  bucket = room.bucket;
}

-- first the same items are free, and then one is taken
then_taken : (V : ℕ) (sh : Shape) (w x y : List ℕ) (k i : ℕ) (first : Place) → HasRoomFor V sh w x k first → TakesItem sh x y i → TakesItem sh w y i
then_taken V sh w x y k i first room takes = record {
  taken = takes.taken;
  free = λ j ne free. takes.free j ne (room.free j free);
  named = λ q j n. let there = room.named q j n in takes.named there.0 j there.1;
}

pub puts_room : (V : ℕ) → PutsMakeRoom V
puts_room V sh s k v at i places hole shape key value word quiet can is =
    let w = s.words in
    let p = first_place places hole in
    let moves = moves_acts V sh w places hole in
    let fill = fill_acts sh k v at i p in
    let t = state_after_acts V sh s moves in
    let one = room_made V sh w places hole shape can.keys k can.chain s quiet refl in
    let fit = can_fill V sh w t.words k i places hole can one.1 in
    let next : at ≡ moment t.words + 1 = is ∙ ap (λ (n : ℕ). n + 1) (sym (same_moment V sh s t quiet one.0.quiet (one.0.history ∙ append-nil s.history))) in
    let two = fills V sh k v at i p shape key value.0 value.1 word t one.0.quiet fit next in
    let both = makes_then V sh s moves fill [] (Put k v ∷ []) (2 * length places) 2 one.0 two.0 in
    let takes = slot_taken sh t.words (state_after_acts V sh t fill).words (slot_number p) i _ shape fit.hole.1 two.2 two.1.names in (
      both.0,
      subst (λ (x : State V). Stands V sh x.words k (slot_number p) i) (sym both.1) two.1,
      subst (λ (x : State V). TakesItem sh w x.words i) (sym both.1) (then_taken V sh w t.words _ k i p one.1 takes),
    )
