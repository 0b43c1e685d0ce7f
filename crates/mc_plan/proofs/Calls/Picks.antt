-- A put for which a choice looks for an item.
use Rattle.std.proofs.Common.{ℕ, ◌≡◌, ◌^◌, ◌<◌, ◌≤◌, ◌∙◌, List, [], Option, Some, None, ap, arith, get_or, length, refl, sym, subst}
use Rattle.mc_words.specs.Checks.{policy_of, shape_of}
use Rattle.mc_words.specs.History.{key_count}
use Rattle.mc_words.specs.declared.policy.Policy.{Policy}
use Rattle.mc_words.specs.declared.policy.Policy.TheVariants.{ScanResistant}
use Rattle.mc_words.proofs.Count.{keys_fit}
use Rattle.mc_theory.specs.States.{State}
use Rattle.mc_words.specs.Standing.{NamesItem}
use Rattle.mc_search.specs.Items.{Follows, IsConsistent, IsPicking, IsTied, policy_by, policy_in}
use Rattle.mc_search.specs.Picks.{HasPicked}
use Rattle.mc_search.specs.Sweeps.{Swept, IsSearch, IsSearchBy, victim_of}
use Rattle.mc_search.specs.declared.choice.Choice.{Choice}
use Rattle.mc_search.specs.declared.free.FreeList.{FreeList}
use Rattle.mc_search.specs.declared.items.FreeItems.{FreeItems}
use Rattle.mc_search.specs.declared.pick.Pick.{Pick}
use Rattle.mc_search.specs.declared.room.Room.{Room}
use Rattle.mc_plan.specs.Books.{AreBooksOf, IsPickingFor}
use Rattle.mc_plan.specs.Inside.Clerks.{IsReplacing}
use Rattle.mc_plan.specs.WholeCalls.{PutCall}
use Rattle.mc_plan.specs.declared.books.Books.{Books}
use Rattle.mc_plan.proofs.Deeds.QuietStates.{keys_quiet}

-- items that are not CLOCK's have a choice
choice_by : (f : FreeList) (o : Option Choice) → IsTied f o → policy_by o ≡ ScanResistant → (c : Choice) × (o ≡ Some c) × Follows f c
choice_by f None tied is = absurd (cc is)
choice_by f (Some c) tied is = (c, refl, tied)

-- so a search of theirs begins
pub picks_now : (f : FreeItems) (p : Pick) → IsConsistent f → policy_in f ≡ ScanResistant → ((c : Choice) → c.items ≡ f.list.items → HasPicked c p []) → IsPicking f p []
picks_now f p kept is starts =
    let there = choice_by f.list f.choice kept.tied is in
    (there.0, there.1, starts there.0 there.2.items)

-- they are few
pub few_items : (f : FreeItems) → IsConsistent f → policy_in f ≡ ScanResistant → f.list.items < 2 ^ 31
few_items f kept is =
    let there = choice_by f.list f.choice kept.tied is in
    omega (arith, there.2.choice.fresh.few, there.2.choice.fresh_items, there.2.items)

-- and there are no more keys than items
pub keys_within : (V : ℕ) (b : Books) (s : State V) → AreBooksOf V b s → key_count s.history ≤ b.free.list.items
keys_within V b s known =
    let sh = shape_of b.checked in
    omega (arith, keys_fit V sh s.words s.history (keys_quiet V sh s known.quiet), known.items)

-- the books of a table with a choice are of its policy
pub picking_policy : (V : ℕ) (b : Books) (pick : Pick) (s : State V) (rs : List Swept) → AreBooksOf V b s → IsPicking b.free pick rs → policy_of b.checked ≡ ScanResistant
picking_policy V b pick s rs known on = sym known.policy ∙ ap policy_by on.1

-- and each reading is of an item that a slot names
pub picks_named : (V : ℕ) (b : Books) (pick : Pick) (s : State V) (rs : List Swept) (n : ℕ) (d : Swept) → AreBooksOf V b s → IsPicking b.free pick rs → n < length rs → (q : ℕ) × NamesItem (shape_of b.checked) s.words q (get_or rs n d).item
picks_named V b pick s rs n d known on below =
    let tied : Follows b.free.list on.0 = subst (IsTied b.free.list) on.1 known.kept.tied in
    let used = (tied.used (get_or rs n d).item).0 (on.2.in_use n d below) in
    known.named (get_or rs n d).item (omega (arith, used.0, known.items)) used.1

pub picked_by : (V : ℕ) (b : Books) (pick : Pick) (k : ℕ) (v : List ℕ) (room : Room) (s : State V) (rs : List Swept) → IsPickingFor V b pick k v room s rs → policy_of b.checked ≡ ScanResistant
picked_by V b pick k v room s rs on = picking_policy V b pick s rs on.waits.known on.picking

pub searched_picked : (V : ℕ) (b : Books) (pick : Pick) (k : ℕ) (v : List ℕ) (room : Room) (s : State V) (rs : List Swept) → IsPickingFor V b pick k v room s rs → IsSearch b.free.list.items rs → IsSearchBy (policy_of b.checked) (shape_of b.checked).items s.hand rs
searched_picked V b pick k v room s rs on searches =
    subst (λ (p : Policy). IsSearchBy p (shape_of b.checked).items s.hand rs) (sym (picked_by V b pick k v room s rs on)) (subst (λ (n : ℕ). IsSearch n rs) on.waits.known.items searches)

-- it has found an item for its put
pub replacing_picked : (V : ℕ) (b : Books) (pick : Pick) (k : ℕ) (v : List ℕ) (room : Room) (s : State V) (rs : List Swept) (i : ℕ) → IsPickingFor V b pick k v room s rs → IsSearch b.free.list.items rs → victim_of rs ≡ Some i
    → IsReplacing V b k v room (PutCall k v) s rs i
replacing_picked V b pick k v room s rs i on searches found =
    let policy = picked_by V b pick k v room s rs on in
    record {
      before = b.hand;
      waits = on.waits;
      called = refl;
      searched = searched_picked V b pick k v room s rs on searches;
      found = found;
      hand = λ clock. absurd (cc (sym clock ∙ policy));
      inside = on.waits.known.inside;
    }
