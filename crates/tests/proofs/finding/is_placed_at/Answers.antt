use Rattle.std.proofs.Common.{ℕ, ◌≡◌, ◌≢◌, ◌∙◌, ◌+◌, ◌*◌, ◌/◌, List, inl, inr, sym, ap, subst, arith}
use Rattle.std.proofs.lemmas.Bool.{eqb-true}
use Rattle.mc_words.specs.declared.place.Place.{Place}
use Rattle.mc_words.specs.declared.shape.Shape.{Shape}
use Rattle.mc_words.specs.Checks.{shape_of}
use Rattle.mc_words.specs.Keys.{alternate, first_of, tag_of, slot_word, IsBucketOf, NamesUnder}
use Rattle.mc_words.specs.Places.{IsPlace, slot, item, slot_number}
use Rattle.mc_words.specs.Shapes.{IsShape}
use Rattle.mc_words.specs.Standing.{Stands}
use Rattle.mc_words.proofs.Frames.{one_named}
use Rattle.mc_search.specs.Readable.{IsPlacedAt}
use Rattle.tests.proofs.finding.is_placed_at.Goals as goal
use Rattle.tests.proofs.finding.is_placed_at.Goals.{After-alt-second}

-- the item that stands is the one that the word names
same_item : (sh : Shape) (w : List ℕ) (k q i word tag g : ℕ) → IsShape sh → word ≡ slot sh w q → NamesUnder sh word tag g → Stands 1 sh w k q i → i ≡ g
same_item sh w k q i word tag g s read n a = one_named sh w q i g s a.names (record { tag = tag; in_table = a.names.in_table; in_items = n.1; is_tag = n.0; word = sym read ∙ n.2 })

-- a slot of another key
placed_other : (sh : Shape) (w u : List ℕ) (k q word tag g stored : ℕ) → IsShape sh → word ≡ slot sh w q → NamesUnder sh word tag g → u ≡ w → stored ≡ item 1 sh u g 0 → stored ≢ k → IsPlacedAt 1 sh w k q
placed_other sh w u k q word tag g stored s read n same key ne i a =
    absurd (ne (key ∙ ap (λ (y : List ℕ). item 1 sh y g 0) same ∙ ap (λ y. item 1 sh w y 0) (sym (same_item sh w k q i word tag g s read n a)) ∙ a.key))

-- a slot of the key, under its tag in its bucket
placed_right : (sh : Shape) (w : List ℕ) (k : ℕ) (p : Place) (word tag g : ℕ) → IsShape sh → IsPlace sh p → word ≡ slot sh w (slot_number p) → NamesUnder sh word tag g → tag ≡ tag_of sh k → IsBucketOf sh k p.bucket → IsPlacedAt 1 sh w k (slot_number p)
placed_right sh w k p word tag g s at read n t b i a =
    let low = at.in_bucket in
    let bucket : p.bucket ≡ (4 * p.bucket + p.slot) / 4 = omega arith in
    (sym read ∙ n.2 ∙ ap (λ y. slot_word y g) t ∙ ap (λ y. slot_word (tag_of sh k) y) (sym (same_item sh w k (slot_number p) i word tag g s read n a)), subst (λ (y : ℕ). IsBucketOf sh k y) bucket b)

-- so the code found it
right : (c : After-alt-second) → c.in-Some.named ≡ c.tag-tag.result → IsBucketOf (shape_of c.args.checked.now) c.args.key c.args.place.bucket → IsPlacedAt 1 (shape_of c.args.checked.now) c.args.table.now.list c.args.key (slot_number c.args.place)
right c t b = placed_right (shape_of c.args.checked.now) c.args.table.now.list c.args.key c.args.place c.slot_at-word.result c.in-Some.named c.in-Some.item c.args.checked.now.sound c.requires.place c.slot_at-word.ensures.value c.in-Some.ensures (t ∙ c.tag-tag.ensures) b

pub returns-then-stored-key-clause-placed : goal.returns-then-stored-key-clause-placed
returns-then-stored-key-clause-placed c = λ t.
    placed_other (shape_of c.args.checked.now) c.args.table.now.list c.slot_at-word.new.table.list c.args.key (slot_number c.args.place) c.slot_at-word.result c.in-Some.named c.in-Some.item c.key_at-stored.result c.args.checked.now.sound c.slot_at-word.ensures.value c.in-Some.ensures c.slot_at-word.ensures.same c.key_at-stored.ensures.value c.if-stored-key.true

pub returns-then-place-first-clause-placed : goal.returns-then-place-first-clause-placed
returns-then-place-first-clause-placed c = λ t.
    right (goal.at.returns-then-place-first-clause-placed c).After-alt-second c.if-named-tag.false (inl (c.if-place-first.true ∙ c.first-first.ensures.bucket))

pub returns-else-place-first-clause-placed : goal.returns-else-place-first-clause-placed
returns-else-place-first-clause-placed c = λ t.
    let sh = shape_of c.args.checked.now in
    let is : c.args.place.bucket ≡ c.alt-second.result = eqb-true _ _ t in
    right (goal.at.returns-else-place-first-clause-placed c).After-alt-second c.if-named-tag.false (inr (is ∙ c.alt-second.ensures.bucket ∙ ap (λ b. alternate sh b c.tag-tag.result) c.first-first.ensures.bucket ∙ ap (alternate sh (first_of sh c.args.key)) c.tag-tag.ensures))
