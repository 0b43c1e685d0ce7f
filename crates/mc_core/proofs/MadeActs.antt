-- The state after an act that was made, from its parts.
use Rattle.std.proofs.Common.{ℕ, eqb, ◌⊎◌, ◌≢◌, ◌≡◌, ◌+◌, ◌≤◌, Bool, List, Option, Some, None, refl, subst, sym, ◌∙◌, ap, inl, inr}
use Rattle.std.specs.Prelude.{Result, Ok, Err, OnOk}
use Rattle.std.proofs.lemmas.Bool.{cond-true, cond-false, eq-eqb, ne_eqb}
use Rattle.mc_theory.specs.declared.act.Act.TheVariants.{Hand}
use Rattle.mc_words.specs.Checks.{shape_of}
use Rattle.mc_words.specs.declared.checked.Checked.{Checked}
use Rattle.mc_words.specs.declared.history.Change.{Change}
use Rattle.mc_theory.specs.Phases.{Phase}
use Rattle.mc_theory.specs.States.{State}
use Rattle.mc_words.specs.declared.shape.Shape.{Shape}
use Rattle.mc_words.proofs.Places.{slot-with_version, slot-with_item}
use Rattle.mc_words.proofs.Keys.{stripe_of-lt}
use Rattle.mc_words.specs.Places.{with_item}
use Rattle.mc_words.specs.Shapes.{IsShape}
use Rattle.mc_theory.specs.Effects.{words_after, phase_after, hand_after, cleared_after, history_after, version_steps_after, with_bump}
use Rattle.mc_core.specs.Inside.Writers.{shape_of_writer, words_of_writer, phase_at, room_of, UsedIn, IsMade}
use Rattle.mc_theory.specs.declared.act.Act.{Act}
use Rattle.mc_core.specs.declared.progress.Progress.{Progress}
use Rattle.mc_core.specs.declared.writer.Writer.{Writer}
use Rattle.mc_core.proofs.FreeFlags.{used_kept}

-- states with equal parts are equal
same_state : {V : ℕ} (w x : List ℕ) (p q : Phase) (h k : ℕ) (c d : Option ℕ) (hs ks : List (Change V)) (n m : ℕ) → w ≡ x → p ≡ q → h ≡ k → c ≡ d → hs ≡ ks → n ≡ m →
    ◌≡◌ {A = State V} (record { words = w; phase = p; hand = h; cleared = c; history = hs; version_steps = n }) (record { words = x; phase = q; hand = k; cleared = d; history = ks; version_steps = m })
same_state w x p q h k c d hs ks n m a b e f g i = rw (a, b, e, f, g, i) refl

-- an act is made if each part of the writer is what the theory says
pub made : {V : ℕ} (old new : Writer V) → room_of {V = V} old ≤ room_of {V = V} new + 1 → (a : Act) (bit : ℕ) (p q : Progress) → old.progress ≡ p → new.progress ≡ q → new.table.checked ≡ old.table.checked →
    words_of_writer {V = V} new ≡ words_after V (shape_of_writer {V = V} old) (words_of_writer {V = V} old) (phase_at {V = V} old.written p) a → phase_at {V = V} new.written q ≡ phase_after (phase_at {V = V} old.written p) a →
    new.hand ≡ hand_after (shape_of_writer {V = V} old) old.hand a → new.cleared ≡ cleared_after old.cleared a bit →
    new.history.items ≡ history_after {V = V} old.history.items (phase_at {V = V} old.written p) a → new.version_steps ≡ version_steps_after old.version_steps a →
    UsedIn (shape_of_writer {V = V} old) (words_of_writer {V = V} new) new.table.used.items new.table.free → IsMade {V = V} old new a bit
made {V} old new room a bit p q before then shape words phase hand cleared history changes used = record {
  shape = shape;
  state =
      let phase_is : phase_at {V = V} new.written new.progress ≡ phase_after (phase_at {V = V} old.written old.progress) a = ap (λ (y : Progress). phase_at {V = V} new.written y) then ∙ phase ∙ ap (λ (y : Progress). phase_after (phase_at {V = V} old.written y) a) (sym before) in
      let words_is : words_of_writer {V = V} new ≡ words_after V (shape_of_writer {V = V} old) (words_of_writer {V = V} old) (phase_at {V = V} old.written old.progress) a = words ∙ ap (λ (y : Progress). words_after V (shape_of_writer {V = V} old) (words_of_writer {V = V} old) (phase_at {V = V} old.written y) a) (sym before) in
      let history_is : new.history.items ≡ history_after {V = V} old.history.items (phase_at {V = V} old.written old.progress) a = history ∙ ap (λ (y : Progress). history_after {V = V} old.history.items (phase_at {V = V} old.written y) a) (sym before) in
      same_state _ _ _ _ _ _ _ _ _ _ _ _ words_is phase_is hand cleared history_is changes;
  used = subst (λ (y : Checked). UsedIn (shape_of y) (words_of_writer {V = V} new) new.table.used.items new.table.free) (sym shape) used;
  room = room;
}

-- a version more, and a word of an item, name no other items
pub used_bumped : (sh : Shape) (w : List ℕ) (k : ℕ) (flags : List Bool) (free : ℕ) → IsShape sh → UsedIn sh w flags free → UsedIn sh (with_bump sh w k) flags free
used_bumped sh w k flags free s u = used_kept sh w (with_bump sh w k) flags free (λ q l. slot-with_version sh w _ _ q (stripe_of-lt sh k s)) u

pub used_item : (V : ℕ) (sh : Shape) (w : List ℕ) (i j x : ℕ) (flags : List Bool) (free : ℕ) → UsedIn sh w flags free → UsedIn sh (with_item V sh w i j x) flags free
used_item V sh w i j x flags free u = used_kept sh w (with_item V sh w i j x) flags free (λ q l. slot-with_item V sh w i j x q l) u

-- what the hand remembers of a bit
pub cleared_by : (i bit : ℕ) (o : Option ℕ) → ((bit ≡ 0) × (o ≡ Some i)) ⊎ ((bit ≢ 0) × (o ≡ None)) → o ≡ cleared_after None (Hand i) bit
cleared_by i bit o (inl h) = h.1 ∙ sym (cond-true {A = Option ℕ} (eqb bit 0) (Some i) None (eq-eqb bit 0 h.0))
cleared_by i bit o (inr h) = h.1 ∙ sym (cond-false {A = Option ℕ} (eqb bit 0) (Some i) None (ne_eqb bit 0 h.0))

-- what follows from a fact of a success
pub on_ok : {A E : Type 0} (r : Result A E) (P Q : Type 0) → (P → Q) → OnOk r P → OnOk r Q
on_ok (Ok x) P Q f h = f h
on_ok (Err e) P Q f h = h
