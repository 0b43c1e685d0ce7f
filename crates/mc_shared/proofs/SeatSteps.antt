-- What a call on the writer's seat knows of the seat's view, and what its step leaves there.
use Rattle.std.proofs.Common.{◌≡◌, ℕ, ◌+◌, ◌^◌, ◌<◌, List, [], ◌∷◌, ◌++◌, refl, ap, sym, ◌∙◌, subst, arith, Option, Some}
use Rattle.std.specs.Prelude.{slice_index}
use Rattle.mc_words.specs.declared.policy.Policy.{Policy}
use Rattle.mc_words.specs.declared.shape.Shape.{Shape}
use Rattle.atomic_table.specs.Seated.{TableId}
use Rattle.mc_words.specs.Keys.{stripe_of}
use Rattle.mc_words.specs.Places.{version_place, moment, version}
use Rattle.mc_words.specs.Shapes.{IsShape}
use Rattle.mc_theory.specs.Acts.{IsAllowed}
use Rattle.mc_theory.specs.Lists.{Made, state_of}
use Rattle.mc_theory.specs.Traces.{HasVersionSteps}
use Rattle.mc_theory.specs.declared.act.Act.{Act}
use Rattle.mc_theory.specs.declared.act.Act.TheVariants.{Open, Slot, Item, Moment, Close, Hand, Mark}
use Rattle.mc_theory.specs.declared.act.Deed.{Deed}
use Rattle.mc_shared.specs.declared.layout.Layout.{Layout}
use Rattle.mc_shared.specs.Records.{Opening, WriterRecord, writer_record, HasActed}
use Rattle.mc_shared.specs.Inside.Seats.{opening_of}
use Rattle.mc_shared.specs.Views.{Note, writer_view, acts_of, tally_of, with_note, layout_state, with_bit, layout_with}
use Rattle.mc_shared.specs.Steps.{SeatView, IsStored, bit_of}
use Rattle.mc_shared.specs.Inside.Steps.{WritesAt, IsOffBits, IsPlain, AddsNote}
use Rattle.mc_shared.specs.Inside.Seats.{MayMake}
use Rattle.mc_shared.specs.Running.{RunsIn, IsRunning}
use Rattle.mc_shared.specs.declared.running.Running.{Running}
use Rattle.mc_shared.specs.TableRule.{word_after}
use Rattle.mc_shared.specs.SeatFacts.{IsRun}
use Rattle.mc_shared.specs.Inside.Seats.{IsWriter}
use Rattle.mc_theory.specs.Writes.{NamesIn}
use Rattle.mc_shared.proofs.WrittenPlaces.{act_names_in, write_small}
use Rattle.mc_shared.proofs.WriterSeats.{may_make, has_plain, after_made}
use Rattle.mc_shared.proofs.RunningVersion.{close_writes, opened_acted}

-- an act that is stored read no bit
pub stored_bit : (a : Act) (x : ℕ) → IsOffBits a → bit_of a x ≡ 0
stored_bit (Open k d) x is = refl
stored_bit (Slot p y) x is = refl
stored_bit (Item i j y) x is = refl
stored_bit Moment x is = refl
stored_bit Close x is = refl
stored_bit (Hand i) x is = absurd is
stored_bit (Mark i) x is = absurd is

pub off_stored : (a : Act) → IsOffBits a → IsStored a
off_stored (Open k d) is = tt
off_stored (Slot p y) is = tt
off_stored (Item i j y) is = tt
off_stored Moment is = tt
off_stored Close is = tt
off_stored (Hand i) is = absurd is
off_stored (Mark i) is = absurd is

-- the act is noted with some note
abbrev pub Noted : Act → SeatView → ℕ → SeatView → Type 0
Noted a me x me' = (note : Note) × (me' ≡ (writer_view me.0.layout (acts_of me.0 ++ with_bit a (bit_of a x) ∷ []) (with_note (tally_of me.0) note), me.1))

-- an act that is noted adds one note
pub note_of : (a : Act) (me me' : SeatView) (x : ℕ) → Noted a me x me' → AddsNote me me'
note_of a me me' x e = (e.0, ap (λ (m : SeatView). (tally_of m.0).notes) e.1)

-- what a step of the writer leaves, whatever the tally is
noted : (l : Layout) (me me' : SeatView) (a : Act) (x : ℕ) → Noted a me x me' → me' ≡ (writer_view me.0.layout (acts_of me.0 ++ with_bit a (bit_of a x) ∷ []) (tally_of me'.0), me.1)
noted l me me' a x e = e.1 ∙ λ i. (writer_view me.0.layout (acts_of me.0 ++ with_bit a (bit_of a x) ∷ []) (ap (λ (m : SeatView). tally_of m.0) (sym e.1) i), me.1)

-- what a store leaves, and what the hand leaves
pub put_is : (l : Layout) (me me' : SeatView) (a b : Act) (x : ℕ) → a ≡ b → IsOffBits b → me ≡ (writer_view l (acts_of me.0) (tally_of me.0), []) → Noted a me x me' → me' ≡ (writer_view l (acts_of me.0 ++ with_bit b 0 ∷ []) (tally_of me'.0), [])
put_is l me me' a b x same st is e =
    let bit : bit_of a x ≡ 0 = ap (λ (c : Act). bit_of c x) same ∙ stored_bit b x st in
    noted l me me' a x e ∙ λ i. (writer_view (ap (λ (m : SeatView). m.0.layout) is i) (acts_of me.0 ++ with_bit (same i) (bit i) ∷ []) (tally_of me'.0), ap (λ (m : SeatView). m.1) is i)

-- a turn of the hand leaves the act with the bit that it read
pub take_is : (l : Layout) (me me' : SeatView) (a : Act) (i x y : ℕ) → a ≡ Hand i → y ≡ bit_of (Hand i) x → me ≡ (writer_view l (acts_of me.0) (tally_of me.0), []) → Noted a me x me' → me' ≡ (writer_view l (acts_of me.0 ++ with_bit (Hand i) y ∷ []) (tally_of me'.0), [])
take_is l me me' a i x y same bit is e =
    let found : bit_of a x ≡ y = ap (λ (b : Act). bit_of b x) same ∙ sym bit in
    noted l me me' a x e ∙ λ j. (writer_view (ap (λ (m : SeatView). m.0.layout) is j) (acts_of me.0 ++ with_bit (same j) (found j) ∷ []) (tally_of me'.0), ap (λ (m : SeatView). m.1) is j)

-- what a mark leaves
pub touch_is : (l : Layout) (me me' : SeatView) (a : Act) (i x : ℕ) → a ≡ Mark i → me ≡ (writer_view l (acts_of me.0) (tally_of me.0), []) → Noted a me x me' → me' ≡ (writer_view l (acts_of me.0 ++ with_bit (Mark i) 0 ∷ []) (tally_of me'.0), [])
touch_is l me me' a i x same is e =
    let found : bit_of a x ≡ 0 = ap (λ (b : Act). bit_of b x) same in
    noted l me me' a x e ∙ λ j. (writer_view (ap (λ (m : SeatView). m.0.layout) is j) (acts_of me.0 ++ with_bit (same j) (found j) ∷ []) (tally_of me'.0), ap (λ (m : SeatView). m.1) is j)

-- the word at the place of a version is that version
version_is : (w : List ℕ) (s n x : ℕ) → n ≡ version_place s → x ≡ slice_index w n → x ≡ version w s
unfolding version
version_is w s n x here is = is ∙ ap (λ (z : ℕ). slice_index w z) here

-- so opening or closing writes the word after it there
version_at : (sh : Shape) (w : List ℕ) (s n x : ℕ) → n ≡ version_place s → x ≡ slice_index w n → ◌≡◌ {A = Option (ℕ × ℕ)} (Some (version_place s, version w s + 1)) (Some (n, x + 1))
version_at sh w s n x here is = let e = version_is w s n x here is in λ i. Some (sym here i, sym e i + 1)

-- the word at the place of the moment is the moment, and counting writes the one after it there
counted_word : (w : List ℕ) (x : ℕ) → x ≡ slice_index w 0 → ◌≡◌ {A = Option (ℕ × ℕ)} (Some (0, moment w + 1)) (Some (0, x + 1))
unfolding moment
counted_word w x is = ap (λ (y : ℕ). Some (0, y + 1)) (sym is)

-- the layout that a caller names by its shape and the number of words of a value is the table's
pub layout_in : {V : ℕ} {policy : Policy} {sh : Shape} {o now : Opening} → o ≡ now → o.layout ≡ layout_with V policy sh → layout_with V now.layout.policy now.layout.shape ≡ o.layout
layout_in {V} {policy} {sh} {o} {now} same wide =
    let named : Layout → Layout = λ l. layout_with V l.policy l.shape in
    ap (λ (p : Opening). named p.layout) (sym same) ∙ (ap named wide ∙ sym wide)

-- a call on the writer's seat, whose caller knows how many words a value has
module _ {V : ℕ} {policy : Policy} {sh : Shape} {t : TableId} {me : SeatView} {o now : Opening} {w : WriterRecord} (mine : IsWriter me) (v : writer_record (opening_of t me.0.layout) (acts_of me.0) (tally_of me.0).notes ≡ w) (same : o ≡ now) (wide : o.layout ≡ layout_with V policy sh) (of : w.of ≡ now) where
  layout_is : me.0.layout ≡ o.layout
  layout_is = ap (λ (r : WriterRecord). r.of.layout) v ∙ ap (λ (p : Opening). p.layout) (of ∙ sym same)

  size_is : layout_with V now.layout.policy now.layout.shape ≡ o.layout
  size_is = layout_in same wide

  acts_is : acts_of me.0 ≡ w.acts
  acts_is = ap (λ (r : WriterRecord). r.acts) v

  may_in : (a : Act) → IsAllowed now.layout.shape (state_of V now.layout.shape w.acts) a → MayMake me.0.layout (acts_of me.0) a
  may_in a h = may_make me a mine (subst (λ (y : Layout × List Made). IsAllowed y.0.shape (layout_state y.0 y.1) a) (λ i. ((size_is ∙ sym layout_is) i, sym acts_is i)) h)

  may_at : (a : Act) → IsAllowed now.layout.shape (state_of V now.layout.shape w.acts) a → MayMake o.layout (acts_of me.0) a
  may_at a h = subst (λ (l : Layout). MayMake l (acts_of me.0) a) layout_is (may_in a h)

  -- where the moment and a close write, and that it fits
  pub moment_at : (x : ℕ) → x ≡ word_after o.layout (acts_of me.0) 0 → WritesAt o.layout (acts_of me.0) Moment 0 (x + 1)
  moment_at x is = counted_word (layout_state o.layout (acts_of me.0)).words x is

  pub moment_fits : (x : ℕ) → x ≡ word_after o.layout (acts_of me.0) 0 → IsAllowed now.layout.shape (state_of V now.layout.shape w.acts) Moment → x + 1 < 2 ^ 64
  moment_fits x is h = write_small o.layout (acts_of me.0) Moment 0 (x + 1) (may_at Moment h) (moment_at x is)

  pub close_at : (r : Running) → IsAllowed now.layout.shape (state_of V now.layout.shape w.acts) Close → IsRunning V w r → WritesAt o.layout (acts_of me.0) Close r.place (r.count + 1)
  close_at r h run =
      let s = state_of V now.layout.shape w.acts in
      let runs = subst (λ (p : Opening). RunsIn p.layout.shape (state_of V p.layout.shape w.acts) r) of run.runs in
      subst (λ (y : Layout × List Made). WritesAt y.0 y.1 Close r.place (r.count + 1)) (λ i. (size_is i, sym acts_is i)) (close_writes V now.layout.shape s.words s.hand s.cleared s.phase r h runs)

  pub close_fits : (r : Running) → IsAllowed now.layout.shape (state_of V now.layout.shape w.acts) Close → IsRunning V w r → r.count + 1 < 2 ^ 64
  close_fits r h run = write_small o.layout (acts_of me.0) Close r.place (r.count + 1) (may_at Close h) (close_at r h run)

  -- where an opening writes, and that it fits
  pub open_at : (k : ℕ) (d : Deed) (n x : ℕ) → n ≡ version_place (stripe_of now.layout.shape k) → x ≡ word_after o.layout (acts_of me.0) n → WritesAt o.layout (acts_of me.0) (Open k d) n (x + 1)
  open_at k d n x here is =
      version_at o.layout.shape (layout_state o.layout (acts_of me.0)).words (stripe_of o.layout.shape k) n x (here ∙ ap (λ (p : Opening). version_place (stripe_of p.layout.shape k)) (sym same)) is

  pub open_fits : (k : ℕ) (d : Deed) (n x : ℕ) → n ≡ version_place (stripe_of now.layout.shape k) → x ≡ word_after o.layout (acts_of me.0) n → IsAllowed now.layout.shape (state_of V now.layout.shape w.acts) (Open k d) → x + 1 < 2 ^ 64
  open_fits k d n x here is h = write_small o.layout (acts_of me.0) (Open k d) n (x + 1) (may_at (Open k d) h) (open_at k d n x here is)

  -- ---- after a step
  -- what the caller sees of it
  pub acted_in : (t' : TableId) (me' : SeatView) (w' : WriterRecord) (a : Act) (b : ℕ) → t' ≡ t → writer_record (opening_of t' me'.0.layout) (acts_of me'.0) (tally_of me'.0).notes ≡ w' → me' ≡ (writer_view o.layout (acts_of me.0 ++ with_bit a b ∷ []) (tally_of me'.0), []) → AddsNote me me' → HasActed w w' a b
  acted_in t' me' w' a b table v' e note =
      let layout : me'.0.layout ≡ me.0.layout = ap (λ (m : SeatView). m.0.layout) e ∙ sym layout_is in
      record {
        of = sym (ap (λ (r : WriterRecord). r.of) v') ∙ ((λ i. opening_of (table i) (layout i)) ∙ ap (λ (r : WriterRecord). r.of) v);
        acts = sym (ap (λ (r : WriterRecord). r.acts) v') ∙ (ap (λ (m : SeatView). acts_of m.0) e ∙ ap (λ (r : WriterRecord). r.acts ++ with_bit a b ∷ []) v);
        note = note.0;
        notes = sym (ap (λ (r : WriterRecord). r.notes) v') ∙ (note.1 ∙ ap (λ (r : WriterRecord). r.notes ++ note.0 ∷ []) v);
      }

  made_in : (me' : SeatView) (a : Act) (b : ℕ) → me' ≡ (writer_view o.layout (acts_of me.0 ++ with_bit a b ∷ []) (tally_of me'.0), []) → me' ≡ (writer_view me.0.layout (acts_of me.0 ++ with_bit a b ∷ []) (tally_of me'.0), [])
  made_in me' a b e = e ∙ (λ i. (writer_view (sym layout_is i) (acts_of me.0 ++ with_bit a b ∷ []) (tally_of me'.0), []))

  pub after_plain : (me' : SeatView) (a : Act) (b : ℕ) → IsPlain a → IsAllowed now.layout.shape (state_of V now.layout.shape w.acts) a → me' ≡ (writer_view o.layout (acts_of me.0 ++ with_bit a b ∷ []) (tally_of me'.0), []) → AddsNote me me' → IsWriter me'
  after_plain me' a b is h e note = after_made me me' a b mine (may_in a h) (has_plain _ _ a is) (made_in me' a b e) note

  pub after_moment : (me' : SeatView) (b : ℕ) → IsAllowed now.layout.shape (state_of V now.layout.shape w.acts) Moment → me' ≡ (writer_view o.layout (acts_of me.0 ++ with_bit Moment b ∷ []) (tally_of me'.0), []) → AddsNote me me' → IsWriter me'
  after_moment me' b h e note = after_made me me' Moment b mine (may_in Moment h) tt (made_in me' Moment b e) note

  pub after_close : (me' : SeatView) (b : ℕ) → IsAllowed now.layout.shape (state_of V now.layout.shape w.acts) Close → me' ≡ (writer_view o.layout (acts_of me.0 ++ with_bit Close b ∷ []) (tally_of me'.0), []) → AddsNote me me' → IsWriter me'
  after_close me' b h e note = after_made me me' Close b mine (may_in Close h) tt (made_in me' Close b e) note

  pub after_open : (me' : SeatView) (k : ℕ) (d : Deed) (b : ℕ) → IsAllowed now.layout.shape (state_of V now.layout.shape w.acts) (Open k d) → HasVersionSteps now.layout.shape.limit (state_of V now.layout.shape w.acts).version_steps (Open k d)
      → me' ≡ (writer_view o.layout (acts_of me.0 ++ with_bit (Open k d) b ∷ []) (tally_of me'.0), []) → AddsNote me me' → IsWriter me'
  after_open me' k d b h has e note =
      let has' : HasVersionSteps me.0.layout.shape.limit (layout_state me.0.layout (acts_of me.0)).version_steps (Open k d) = subst (λ (y : Layout × List Made). HasVersionSteps y.0.shape.limit (layout_state y.0 y.1).version_steps (Open k d)) (λ i. ((size_is ∙ sym layout_is) i, sym acts_is i)) has in
      after_made me me' (Open k d) b mine (may_in (Open k d) h) has' (made_in me' (Open k d) b e) note

  -- and the version of the deed that it opens
  pub opened_runs : (w' : WriterRecord) (k : ℕ) (d : Deed) (r : Running) (x : ℕ) → r.place ≡ version_place (stripe_of now.layout.shape k) → x ≡ word_after o.layout (acts_of me.0) r.place → r.count ≡ x + 1 → HasActed w w' (Open k d) 0 → IsRunning V w' r
  opened_runs w' k d r x here is next h =
      let shape : IsShape w.of.layout.shape = subst (λ (l : Layout). IsShape l.shape) (ap (λ (z : WriterRecord). z.of.layout) v) mine.shape in
      let place : r.place ≡ version_place (stripe_of w.of.layout.shape k) = here ∙ ap (λ (p : Opening). version_place (stripe_of p.layout.shape k)) (sym of) in
      let word : x ≡ word_after (layout_with V w.of.layout.policy w.of.layout.shape) w.acts r.place = subst (λ (y : Layout × List Made). x ≡ word_after y.0 y.1 r.place) (λ i. ((sym size_is ∙ ap (λ (p : Opening). layout_with V p.layout.policy p.layout.shape) (sym of)) i, acts_is i)) is in
      opened_acted r shape place (next ∙ ap (λ y. y + 1) (version_is (state_of V w.of.layout.shape w.acts).words _ r.place x place word)) h

-- what an allowed act names belongs to the table, for a caller that knows the number of words of a value
pub named_in : (V : ℕ) {policy : Policy} (sh : Shape) (o : Opening) (w : WriterRecord) (a : Act) → o.layout ≡ layout_with V policy sh → w.of ≡ o → IsRun w.of.layout w.acts → IsAllowed o.layout.shape (state_of V o.layout.shape w.acts) a → NamesIn V sh a
named_in V {policy} sh o w a e of run h =
    let r : IsRun (layout_with V policy sh) w.acts = subst (λ (l : Layout). IsRun l w.acts) (ap (λ (p : Opening). p.layout) of ∙ e) run in
    let allowed : IsAllowed sh (state_of V sh w.acts) a = subst (λ (z : Shape). IsAllowed z (state_of V z w.acts) a) (ap (λ (l : Layout). l.shape) e) h in
    act_names_in (layout_with V policy sh) w.acts a (record { shape = r.shape; lawful = r.lawful; allowed = allowed; few = omega (arith, r.within, r.shape.limit) })
