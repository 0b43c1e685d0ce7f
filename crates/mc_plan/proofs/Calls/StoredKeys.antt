-- A put whose key is stored as was decided is planned: with a free item, and once its sweep is over with another key's.
use Rattle.std.proofs.Common.{ℕ, ◌≡◌, ◌+◌, ◌*◌, ◌<◌, ◌∙◌, List, Some, None, Ok, ap, arith, length, refl, subst, sym}
use Rattle.mc_words.specs.declared.place.Place.{Place}
use Rattle.mc_words.specs.Checks.{policy_of, shape_of}
use Rattle.mc_words.specs.Places.{moment, slot_number}
use Rattle.mc_words.specs.Standing.{Stands}
use Rattle.mc_theory.specs.States.{State}
use Rattle.mc_theory.specs.declared.act.Act.{Act}
use Rattle.mc_search.specs.Items.{IsConsistent, IsFreeIn, TakesFree, policy_in}
use Rattle.mc_search.specs.Paths.{IsCut, first_place, path_of_room}
use Rattle.mc_search.specs.Sweeps.{Swept}
use Rattle.mc_search.specs.declared.items.FreeItems.{FreeItems}
use Rattle.mc_search.specs.declared.room.Room.{Room}
use Rattle.mc_search.proofs.TakenItems.{free_below}
use Rattle.mc_plan.specs.Books.{HasRoom, IsPlanned}
use Rattle.mc_plan.specs.Deciding.{IsInserted, IsReplaced}
use Rattle.mc_plan.specs.Decisions.{acts_of_moves, moves_of, replacement_acts, storing_acts, storing_told}
use Rattle.mc_plan.specs.Evicting.{IsVictim}
use Rattle.mc_plan.specs.Inside.Clerks.{IsReplacing}
use Rattle.mc_plan.specs.Moves.{AreKeys}
use Rattle.mc_plan.specs.Plans.{moves_acts}
use Rattle.mc_plan.specs.WholeCalls.{Call, IsSweepOf, PutCall, state_after_sweep}
use Rattle.mc_plan.specs.declared.answer.Answer.TheVariants as answer
use Rattle.mc_plan.specs.declared.answer.Put.{Put}
use Rattle.mc_plan.specs.declared.answer.Put.TheVariants as put
use Rattle.mc_plan.specs.declared.books.Books.{Books}
use Rattle.mc_plan.specs.declared.far.Far.{Far}
use Rattle.mc_plan.specs.declared.decision.Replacement.{Replacement}
use Rattle.mc_plan.specs.declared.decision.Storing.{Storing}
use Rattle.mc_plan.proofs.Calls.AfterPlan.{books_kept, listed_planned, with_far}
use Rattle.mc_plan.proofs.Calls.NewKeys.{stored_planned}
use Rattle.mc_plan.proofs.Calls.AfterSweep.{victim_stands, replaced_planned}
use Rattle.mc_plan.proofs.Calls.SweptStates.{swept_still}
use Rattle.mc_plan.proofs.Puts.MoveLists.{replaced_acts, stored_acts}

-- a key is stored at a free item, in the room that it has found
pub stored_by : (V : ℕ) (b other : Books) (k : ℕ) (v : List ℕ) (at : ℕ) (room : Room) (s : State V) (storing : Storing) (has : HasRoom V b k v s at room)
    → AreKeys V (shape_of b.checked) s.words (path_of_room b.far.value.path room).places.items
    → storing.at ≡ at → IsFreeIn b.free storing.item → IsConsistent other.free → policy_in other.free ≡ policy_in b.free → other.free.list.items ≡ b.free.list.items → TakesFree b.free other.free storing.item
    → acts_of_moves (moves_of other.far.value.moves.items storing.moves) ≡ moves_acts V (shape_of b.checked) s.words (path_of_room b.far.value.path room).places.items (path_of_room b.far.value.path room).hole
    → storing.place ≡ first_place (path_of_room b.far.value.path room).places.items (path_of_room b.far.value.path room).hole → length (moves_of other.far.value.moves.items storing.moves) ≡ length (path_of_room b.far.value.path room).places.items
    → IsInserted V (with_far (record b { free = other.free; version_steps = b.version_steps + (2 * length (path_of_room b.far.value.path room).places.items + 2) }) (record b.far.value { moves = other.far.value.moves })) k v s room (Some storing)
stored_by V b other k v at room s storing has keys is was kept policy items takes moves place many =
    let sh = shape_of b.checked in
    let lacks = has.lacks in
    let path = path_of_room b.far.value.path room in
    let ps = path.places.items in
    let counted : Books = record b { free = other.free; version_steps = b.version_steps + (2 * length ps + 2) } in
    let far : Far = record b.far.value { moves = other.far.value.moves } in
    let after = with_far counted far in
    let item = free_below b.free.list storing.item lacks.known.kept.kept was in
    let below : storing.item < sh.items = omega (arith, item, lacks.known.items) in
    let planned = stored_planned V b k v storing.item storing.at path other.free s b.checked.sound lacks.key lacks.value lacks.known lacks.absent has.least keys below lacks.unspent (is ∙ lacks.next) was kept policy items takes in
    let acts = stored_acts (policy_of b.checked) V sh s.words k v ps path.hole other.far.value.moves.items storing moves place in
    let all = listed_planned V counted far _ (PutCall k v) s s _ refl planned in
    let tells : put.Stored storing.at (length ps) None ≡ storing_told other.far.value.moves.items storing None = ap (λ (n : ℕ). put.Stored storing.at n None) (sym many) in (
      below,
      subst (λ (x : Put). IsPlanned V after (storing_acts (policy_of b.checked) other.far.value.moves.items sh k v storing) (PutCall k v) s s (answer.Put (Ok x))) tells
          (subst (λ (x : List Act). IsPlanned V after x (PutCall k v) s s (answer.Put (Ok (put.Stored storing.at (length ps) None)))) acts all),
    )

-- once a sweep is over, it is stored at the victim's item, in what is left of its room
pub replaced_by : (V : ℕ) (b : Books) (far : Far) → far.finder ≡ b.far.value.finder → (k : ℕ) (v : List ℕ) (room : Room) (call : Call) (s : State V) (rs : List Swept) (r : Replacement) (kept : List Place) (end : Place) (changes : ℕ)
    → IsReplacing V b k v room call s rs r.storing.item → IsVictim V b s r.storing.item r.victim → IsCut r.victim.place (path_of_room b.far.value.path room).places.items (path_of_room b.far.value.path room).hole kept end → AreKeys V (shape_of b.checked) s.words kept
    → r.storing.at ≡ moment s.words + 2 → changes ≡ b.version_steps + (2 * length kept + 4)
    → acts_of_moves (moves_of far.moves.items r.storing.moves) ≡ moves_acts V (shape_of b.checked) s.words kept end → r.storing.place ≡ first_place kept end → length (moves_of far.moves.items r.storing.moves) ≡ length kept
    → IsReplaced V (with_far (record b { version_steps = changes }) far) k v call s rs r
replaced_by V b far same k v room call s rs r kept end changes on victim cut keys at counts moves place many =
    let sh = shape_of b.checked in
    let storing = r.storing in
    let e = r.victim.key in
    let counted : Books = record b { version_steps = changes } in
    let after = with_far counted far in
    let mid = state_after_sweep V sh s rs in
    let back : s.words ≡ mid.words = sym (swept_still V sh s rs).words in
    let stands = subst (λ (w : List ℕ). Stands V sh w e (slot_number r.victim.place) storing.item) back victim.stands in
    let planned = replaced_planned V b k v room call s rs storing.item storing.at on e r.victim.place kept end changes victim.word victim.place stands cut (subst (λ (w : List ℕ). AreKeys V sh w kept) back keys) (at ∙ ap (λ (w : List ℕ). moment w + 2) back) counts in
    let acts = replaced_acts (policy_of b.checked) V sh mid.words k v kept end far.moves.items r (moves ∙ ap (λ (w : List ℕ). moves_acts V sh w kept end) back) place in
    let all = listed_planned V counted far _ call s mid _ same planned.0 in
    let tells : put.Stored storing.at (length kept) (Some e) ≡ storing_told far.moves.items storing (Some e) = ap (λ (n : ℕ). put.Stored storing.at n (Some e)) (sym many) in
    record {
      in_items = (victim_stands V b k v room call s rs storing.item on).0;
      parts = victim.parts;
      planned = subst (λ (x : Put). IsPlanned V after (replacement_acts (policy_of b.checked) far.moves.items sh k v r) call s mid (answer.Put (Ok x))) tells
          (subst (λ (x : List Act). IsPlanned V after x call s mid (answer.Put (Ok (put.Stored storing.at (length kept) (Some e))))) acts all);
      sweeps = subst (λ (x : Put). IsSweepOf V sh (policy_of b.checked) s rs (answer.Put (Ok x))) tells planned.1;
    }

-- the item may then be handed on to the put's key
pub handed_on : (V : ℕ) (b : Books) (free : FreeItems) (k : ℕ) (v : List ℕ) (call : Call) (s : State V) (rs : List Swept) (r : Replacement) → IsReplaced V b k v call s rs r → IsConsistent free → policy_in free ≡ policy_in b.free → free.list ≡ b.free.list
    → IsReplaced V (record b { free = free }) k v call s rs r
handed_on V b free k v call s rs r done kept policy same =
    let told = answer.Put (Ok (storing_told b.far.value.moves.items r.storing (Some r.victim.key))) in
    let planned : IsPlanned V (record b { free = free }) (replacement_acts (policy_of b.checked) b.far.value.moves.items (shape_of b.checked) k v r) call s (state_after_sweep V (shape_of b.checked) s rs) told = record {
      allowed = done.planned.allowed;
      means = done.planned.means;
      marks = done.planned.marks;
      ends = books_kept V b _ free done.planned.ends kept policy same;
    } in
    record { in_items = done.in_items; parts = done.parts; planned = planned; sweeps = done.sweeps }
