-- The moves of a path, from its end backwards, make room where it begins.
use Rattle.std.proofs.Common.{ℕ, ◌≡◌, ◌≢◌, ◌+◌, ◌*◌, ◌/◌, ◌^◌, ◌<◌, ◌∙◌, List, [], ◌∷◌, map, Option, Some, None, false, ap, refl, sym, subst, length, arith, inl, inr, append-nil}
use Rattle.std.specs.Prelude.{eqb}
use Rattle.std.specs.List.{IsDistinct, AllByRecursion}
use Rattle.std.proofs.lemmas.Bool.{cases_eq, eqb-false}
use Rattle.mc_words.specs.declared.place.Place.{Place}
use Rattle.mc_words.specs.declared.shape.Shape.{Shape}
use Rattle.mc_words.specs.Chains.{IsHole, IsOccupied, Leads, IsChain, beyond}
use Rattle.mc_words.specs.History.{map_value}
use Rattle.mc_words.specs.Keys.{tag_of, slot_word, alternate, first_of, second_of, IsBucketOf, tag_in, item_in}
use Rattle.mc_words.specs.Places.{slot_number, slot, item}
use Rattle.mc_words.specs.Shapes.{IsShape}
use Rattle.mc_words.specs.Standing.{NamesItem, Stands, Agrees, AgreesAt, IsAbsent, IsFree}
use Rattle.mc_words.proofs.SlotWords.{tag_in-word, item_in-word}
use Rattle.mc_words.proofs.Frames.{moved_names, empty_names_none}
use Rattle.mc_theory.specs.States.{State}
use Rattle.mc_plan.specs.Making.{state_after_acts, IsQuiet, Makes}
use Rattle.mc_plan.specs.Moves.{CanMove, MovesSlot, AreKeys, HasRoomFor, MovesMakeRoom}
use Rattle.mc_plan.specs.Plans.{key_named, move_acts, moves_acts}
use Rattle.mc_search.specs.Paths.{first_place}
use Rattle.mc_plan.proofs.Deeds.Moves.{moves}
use Rattle.mc_plan.proofs.Deeds.QuietStates.{agrees_quiet, makes_from_walk}
use Rattle.mc_plan.proofs.Deeds.Walks.{Walk, walk_none, walk_then}

-- the bucket is none of those on the path
abbrev OffPath : ℕ → List Place → Place → Type 0
OffPath b [] hole = b ≢ hole.bucket
OffPath b (p ∷ ps) hole = (b ≢ p.bucket) × OffPath b ps hole

-- the moves were made and led to t: the path's first slot is empty, and what is off the path is as it was
record Cleared (V : ℕ) (sh : Shape) (s : State V) (ps : List Place) (hole : Place) : Type 0 where
  t : State V
  walk : Walk V sh s (moves_acts V sh s.words ps hole) t
  quiet : IsQuiet V sh t
  history : t.history ≡ s.history
  version_steps : t.version_steps ≡ s.version_steps + 2 * length ps
  hand : t.hand ≡ s.hand
  empty : IsHole sh t.words (first_place ps hole)
  off : (q : ℕ) → q < 4 * sh.buckets → OffPath (q / 4) ps hole → slot sh t.words q ≡ slot sh s.words q
  items : (i j : ℕ) → item V sh t.words i j ≡ item V sh s.words i j
  free : (i : ℕ) → IsFree sh s.words i → IsFree sh t.words i
  named : (q i : ℕ) → NamesItem sh s.words q i → (p : ℕ) × NamesItem sh t.words p i

-- a path begins in the bucket from which it leads
first_bucket : (sh : Shape) (w : List ℕ) (b : ℕ) (ps : List Place) (hole : Place) → Leads sh w b ps hole → (first_place ps hole).bucket ≡ b
first_bucket sh w b [] hole l = l.1
first_bucket sh w b (p ∷ ps) hole l = l.1

-- ---- distinct buckets
differs : (a b : ℕ) → eqb a b ≡ false → a ≢ b
differs a b other e = eqb-false a b other e

-- a bucket that is none of the path's is off the path
off_from_distinct : (b : ℕ) (ps : List Place) (hole : Place) → b ≢ hole.bucket → AllByRecursion (λ y. eqb b y ≡ false) (map (λ (p : Place). p.bucket) ps) → OffPath b ps hole
off_from_distinct b [] hole ne all = ne
off_from_distinct b (p ∷ ps) hole ne all = (differs b p.bucket all.0, off_from_distinct b ps hole ne all.1)

-- the first place is off the path of the others, whose buckets are distinct too
distinct_parts : (p : Place) (ps : List Place) (hole : Place) → IsDistinct eqb (hole.bucket ∷ map (λ (p : Place). p.bucket) (p ∷ ps))
    → OffPath p.bucket ps hole × IsDistinct eqb (hole.bucket ∷ map (λ (p : Place). p.bucket) ps)
unfolding IsDistinct
distinct_parts p ps hole d =
    (off_from_distinct p.bucket ps hole (λ e. differs hole.bucket p.bucket d.0.0 (sym e)) d.1.0, (d.0.1, d.1.1))

-- ---- the item at a place
items_small : (sh : Shape) (i : ℕ) → IsShape sh → i < sh.items → i < 2 ^ 32
items_small sh i s l =
    let items = s.items.1 in
    let buckets = s.buckets.1 in
    omega arith

-- the key that stands at an occupied place of words that agree, and its tag
record Tenant (V : ℕ) (sh : Shape) (w : List ℕ) (p : Place) : Type 0 where
  i : ℕ
  stands : Stands V sh w (key_named V sh w p) (slot_number p) i
  tag : tag_in (slot sh w (slot_number p)) ≡ tag_of sh (key_named V sh w p)

-- a slot in which a key stands has the key's tag
tagged_at : (V : ℕ) (sh : Shape) (w : List ℕ) (k q i : ℕ) (o : Option (List ℕ)) → AgreesAt V sh w k o → Stands V sh w k q i → slot sh w q ≡ slot_word (tag_of sh k) i
tagged_at V sh w k q i None a stands = absurd (a q i stands)
tagged_at V sh w k q i (Some v) a stands =
    let is = a.2.once q i stands in
    ap (slot sh w) is.0 ∙ a.2.tagged ∙ ap (λ (y : ℕ). slot_word (tag_of sh k) y) (sym is.1)

-- an occupied place has a key that stands there
tenant : (V : ℕ) (sh : Shape) (s : State V) (p : Place) → IsShape sh → IsQuiet V sh s → IsOccupied sh s.words p → Tenant V sh s.words p
tenant V sh s p shape quiet taken =
    let w = s.words in
    let q = slot_number p in
    let k = key_named V sh w p in
    let below : q < 4 * sh.buckets = omega (arith, taken.0.in_table, taken.0.in_bucket) in
    let agrees = agrees_quiet V sh s quiet in
    let found : (i : ℕ) × NamesItem sh w q i = elim (agrees.filled q below) [ inl e ↦ absurd (taken.1 e) | inr n ↦ n ] in
    let small = items_small sh found.0 shape found.1.in_items in
    let is : item_in (slot sh w q) ≡ found.0 = ap item_in found.1.word ∙ item_in-word found.1.tag found.0 small in
    let stands : Stands V sh w k q found.0 = record { names = found.1; key = ap (λ (g : ℕ). item V sh w g 0) (sym is) } in
    record {
      i = found.0;
      stands = stands;
      tag = ap tag_in (tagged_at V sh w k q found.0 (map_value s.history k) (agrees.keys k (λ e. cc)) stands) ∙ tag_in-word (tag_of sh k) found.0 small;
    }

-- ---- the moves
cleared_none : (V : ℕ) (sh : Shape) (s : State V) (hole : Place) → IsQuiet V sh s → IsHole sh s.words hole → Cleared V sh s [] hole
cleared_none V sh s hole quiet empty = record {
  t = s;
  walk = walk_none V sh s;
  quiet = quiet;
  history = refl;
  version_steps = omega arith;
  hand = refl;
  empty = empty;
  off = λ q l off. refl;
  items = λ i j. refl;
  free = λ i f. f;
  named = λ q i n. (q, n);
}

-- a move leaves free items free
moved_free : (V : ℕ) (sh : Shape) (w x : List ℕ) (from to i : ℕ) → from < 4 * sh.buckets → MovesSlot V sh w x from to → IsFree sh w i → IsFree sh x i
moved_free V sh w x from to i below m free o n =
    elim (cases_eq o to) [
      | inl e ↦ free from (record { tag = n.tag; in_table = below; in_items = n.in_items; is_tag = n.is_tag; word = sym m.there ∙ ap (slot sh x) (sym e) ∙ n.word })
      | inr ne ↦ elim (cases_eq o from) [
        | inl e ↦ empty_names_none sh x o i (ap (slot sh x) e ∙ m.here) n
        | inr apart ↦ free o (moved_names sh x w o i (sym (m.others o n.in_table apart ne)) n)
      ]
    ]

-- and named items named
moved_named : (V : ℕ) (sh : Shape) (w x : List ℕ) (from to i : ℕ) → to < 4 * sh.buckets → slot sh w to ≡ 0 → MovesSlot V sh w x from to → (o : ℕ) → NamesItem sh w o i → (p : ℕ) × NamesItem sh x p i
moved_named V sh w x from to i below empty m o n =
    elim (cases_eq o from) [
      | inl e ↦ (to, record { tag = n.tag; in_table = below; in_items = n.in_items; is_tag = n.is_tag; word = m.there ∙ ap (slot sh w) (sym e) ∙ n.word })
      | inr ne ↦ elim (cases_eq o to) [
        | inl e ↦ absurd (empty_names_none sh w o i (ap (slot sh w) e ∙ empty) n)
        | inr apart ↦ (o, moved_names sh w x o i (m.others o n.in_table ne apart) n)
      ]
    ]

-- a bucket off the path is not that of its first place
off_first : (b : ℕ) (ps : List Place) (hole : Place) → OffPath b ps hole → b ≢ (first_place ps hole).bucket
off_first b [] hole off = off
off_first b (p ∷ ps) hole off = off.0

-- the bucket of a slot's number is the place's
row_of : (p : Place) → p.slot < 4 → slot_number p / 4 ≡ p.bucket
row_of p l = omega arith

-- one move more: the item at the place moves to the next place of the path
cleared_step : (V : ℕ) (sh : Shape) (s : State V) (p : Place) (ps : List Place) (hole : Place) → IsShape sh → IsQuiet V sh s → IsOccupied sh s.words p → Leads sh s.words (beyond sh s.words p) ps hole → OffPath p.bucket ps hole → key_named V sh s.words p < 2 ^ 64
    → Cleared V sh s ps hole → Cleared V sh s (p ∷ ps) hole
cleared_step V sh s p ps hole shape quiet taken leads apart key c =
    let w = s.words in
    let k = key_named V sh w p in
    let q = slot_number p in
    let to = first_place ps hole in
    let ten = tenant V sh s p shape quiet taken in
    let row = row_of p taken.0.in_bucket in
    let last = row_of to c.empty.0.in_bucket in
    let below : q < 4 * sh.buckets = omega (arith, taken.0.in_table, taken.0.in_bucket) in
    let same : slot sh c.t.words q ≡ slot sh w q = c.off q below (subst (λ (b : ℕ). OffPath b ps hole) (sym row) apart) in
    let can : CanMove V sh c.t.words k ten.i p to = record {
      in_bucket = taken.0.in_bucket;
      stands = record { names = moved_names sh w c.t.words q ten.i same ten.stands.names; key = c.items ten.i 0 ∙ ten.stands.key };
      hole = c.empty;
      other = first_bucket sh w (beyond sh w p) ps hole leads ∙ ap (λ (tag : ℕ). alternate sh p.bucket tag) ten.tag;
    } in
    let acts = move_acts k (slot sh w q) p to in
    let one = moves V sh k (slot sh w q) p to shape key c.t ten.i c.quiet can (sym same) in
    record {
      t = state_after_acts V sh c.t acts;
      walk = walk_then V sh s c.t (state_after_acts V sh c.t acts) (moves_acts V sh w ps hole) acts c.walk (record { allowed = one.0.allowed; leads = refl });
      quiet = one.0.quiet;
      history = one.0.history ∙ append-nil c.t.history ∙ c.history;
      version_steps = omega (arith, one.0.version_steps, c.version_steps);
      hand = one.0.hand ∙ c.hand;
      empty = (taken.0, one.2.here);
      off = λ o l off.
          one.2.others o l (λ e. off.0 (ap (λ (y : ℕ). y / 4) e ∙ row)) (λ e. off_first (o / 4) ps hole off.1 (ap (λ (y : ℕ). y / 4) e ∙ last)) ∙ c.off o l off.1;
      items = λ i j. one.2.items i j ∙ c.items i j;
      free = λ i f. moved_free V sh c.t.words _ q (slot_number to) i below one.2 (c.free i f);
      named = λ o i n.
          let there = c.named o i n in
          moved_named V sh c.t.words _ q (slot_number to) i (omega (arith, c.empty.0.in_table, c.empty.0.in_bucket)) c.empty.1 one.2 there.0 there.1;
    }

-- the moves of a path, from its end, empty its first place
cleared : (V : ℕ) (sh : Shape) (s : State V) (b : ℕ) (ps : List Place) (hole : Place) → IsShape sh → IsQuiet V sh s → Leads sh s.words b ps hole → IsDistinct eqb (hole.bucket ∷ map (λ (p : Place). p.bucket) ps) → AreKeys V sh s.words ps → Cleared V sh s ps hole
cleared V sh s b [] hole shape quiet leads distinct keys = cleared_none V sh s hole quiet leads.0
cleared V sh s b (p ∷ ps) hole shape quiet leads distinct keys =
    let parts = distinct_parts p ps hole distinct in
    cleared_step V sh s p ps hole shape quiet leads.0 leads.2 parts.0 keys.0 (cleared V sh s (beyond sh s.words p) ps hole shape quiet leads.2 parts.1 keys.1)

-- if the words agree with one map before and after, an absent key stays absent
absent_on : (V : ℕ) (sh : Shape) (w x : List ℕ) (k : ℕ) (o : Option (List ℕ)) → AgreesAt V sh w k o → AgreesAt V sh x k o → IsAbsent V sh w k → IsAbsent V sh x k
absent_on V sh w x k None before later absent = later
absent_on V sh w x k (Some v) before later absent = absurd (absent before.0 before.1 before.2.stands)

-- a chain as a path from one of the key's buckets
chain_leads : (V : ℕ) (sh : Shape) (s : State V) (k : ℕ) (ps : List Place) (hole : Place) → IsChain sh s.words k ps hole → (b : ℕ) × IsBucketOf sh k b × Leads sh s.words b ps hole
chain_leads V sh s k ps hole chain = elim chain.leads [ inl l ↦ (first_of sh k, inl refl, l) | inr l ↦ (second_of sh k, inr refl, l) ]

-- the moves along a chain make room for the key
room_from : (V : ℕ) (sh : Shape) (s : State V) (k : ℕ) (ps : List Place) (hole : Place) → IsShape sh → IsQuiet V sh s → IsChain sh s.words k ps hole → AreKeys V sh s.words ps
    → Makes V sh s (moves_acts V sh s.words ps hole) [] (2 * length ps) × HasRoomFor V sh s.words (state_after_acts V sh s (moves_acts V sh s.words ps hole)).words k (first_place ps hole)
room_from V sh s k ps hole shape quiet chain keys =
    let from = chain_leads V sh s k ps hole chain in
    let c = cleared V sh s from.0 ps hole shape quiet from.2 chain.distinct keys in
    let acts = moves_acts V sh s.words ps hole in
    let after : Agrees V sh c.t.words None s.history = subst (λ h. Agrees V sh c.t.words None h) c.history (agrees_quiet V sh c.t c.quiet) in
    let room : HasRoomFor V sh s.words c.t.words k (first_place ps hole) = record {
      hole = c.empty;
      bucket = subst (λ (b : ℕ). IsBucketOf sh k b) (sym (first_bucket sh s.words from.0 ps hole from.2)) from.1;
      absent = absent_on V sh s.words c.t.words k (map_value s.history k) ((agrees_quiet V sh s quiet).keys k (λ e. cc)) (after.keys k (λ e. cc));
      free = c.free;
      named = c.named;
    } in (
      makes_from_walk V sh s c.t acts [] (2 * length ps) shape quiet c.walk c.quiet.quiet (c.history ∙ sym (append-nil s.history)) c.version_steps c.hand,
      subst (λ (x : State V). HasRoomFor V sh s.words x.words k (first_place ps hole)) (sym c.walk.leads) room,
    )

pub room_made : (V : ℕ) → MovesMakeRoom V
room_made V sh w ps hole shape keys k chain s quiet same =
    let acts = λ (x : List ℕ). moves_acts V sh x ps hole in
    subst (λ (x : List ℕ). IsChain sh x k ps hole → AreKeys V sh x ps → Makes V sh s (acts x) [] (2 * length ps) × HasRoomFor V sh x (state_after_acts V sh s (acts x)).words k (first_place ps hole)) same (room_from V sh s k ps hole shape quiet) chain keys
