-- What is known of the words while the writer rests.
use Rattle.std.proofs.Common.{ℕ, ◌≡◌, ◌<◌, [], ◌∷◌, ◌++◌, None, ap, sym, ◌∙◌, subst}
use Rattle.mc_words.specs.declared.policy.Policy.{Policy}
use Rattle.mc_words.specs.Checks.{shape_of}
use Rattle.mc_words.specs.Standing.{Agrees}
use Rattle.mc_words.specs.declared.shape.Shape.{Shape}
use Rattle.mc_theory.specs.Acts.{IsAllowed, MayFrom}
use Rattle.mc_theory.specs.Effects.{after_act, history_after, phase_after, words_after}
use Rattle.mc_theory.specs.Lists.{state_of}
use Rattle.mc_theory.specs.Phases.{Phase, Quiet}
use Rattle.mc_theory.specs.States.{State}
use Rattle.mc_theory.specs.declared.act.Act.TheVariants.{Mark}
use Rattle.mc_theory.proofs.Lists.Fronts.{state_push}
use Rattle.mc_plan.specs.Books.{AreBooksOf}
use Rattle.mc_plan.specs.declared.books.Books.{Books}
use Rattle.mc_plan.proofs.Deeds.QuietStates.{agrees_quiet}
use Rattle.mc_shared.specs.Records.{Opening, WriterRecord, HasActed}
use Rattle.mc_shared.specs.Views.{layout_with, with_bit}
use Rattle.mc_shared.specs.declared.layout.Layout.{Layout}
use Rattle.mc_writer.specs.WriterCalls.{IsRested}

module _ (V : ℕ) (o : Opening) (books : Books) (seat : WriterRecord) (of : seat.of ≡ o) (rested : IsRested V books seat) where
  -- the shape that the books have is that of the table
  pub shape_is : shape_of books.checked ≡ o.layout.shape
  shape_is = ap (λ (l : Layout). l.shape) (sym rested.layout ∙ ap (λ (p : Opening). p.layout) of)

  pub agrees_now : Agrees V o.layout.shape (state_of V o.layout.shape seat.acts).words None (state_of V o.layout.shape seat.acts).history
  agrees_now = subst (λ (sh : Shape). Agrees V sh (state_of V sh seat.acts).words None (state_of V sh seat.acts).history) shape_is
      (agrees_quiet V (shape_of books.checked) (state_of V (shape_of books.checked) seat.acts) rested.known.quiet)

  -- the same, for a shape that is the table's
  pub agrees_in : {policy : Policy} (sh : Shape) → o.layout ≡ layout_with V policy sh → Agrees V sh (state_of V o.layout.shape seat.acts).words None (state_of V o.layout.shape seat.acts).history
  agrees_in sh e = subst (λ (z : Shape). Agrees V z (state_of V o.layout.shape seat.acts).words None (state_of V o.layout.shape seat.acts).history) (ap (λ (l : Layout). l.shape) e) agrees_now

-- a mark leaves a quiet state as it is
marked_same : (V : ℕ) (sh : Shape) (s : State V) (i : ℕ) → s.phase ≡ Quiet → after_act sh s (Mark i) 0 ≡ s
marked_same V sh s i e =
    (λ k. record { words = words_after V sh s.words (e k) (Mark i); phase = phase_after (e k) (Mark i); hand = s.hand; cleared = s.cleared; history = history_after s.history (e k) (Mark i); version_steps = s.version_steps })
    ∙ (λ k. record { words = s.words; phase = sym e k; hand = s.hand; cleared = s.cleared; history = s.history; version_steps = s.version_steps })

module _ (V : ℕ) (o : Opening) (books : Books) (seat : WriterRecord) (of : seat.of ≡ o) (rested : IsRested V books seat) where
  -- the writer may mark an item while it rests
  pub may_mark : (i : ℕ) → i < o.layout.shape.items → IsAllowed o.layout.shape (state_of V o.layout.shape seat.acts) (Mark i)
  may_mark i within =
      let s = state_of V o.layout.shape seat.acts in
      let quiet : s.phase ≡ Quiet = subst (λ (sh : Shape). (state_of V sh seat.acts).phase ≡ Quiet) (shape_is V o books seat of rested) rested.known.quiet.quiet in
      subst (λ (p : Phase). MayFrom V o.layout.shape s.words s.hand s.cleared p (Mark i)) (sym quiet) within

  -- and rests after it
  pub marked_rests : (i : ℕ) (before after : WriterRecord) → before ≡ seat → HasActed before after (Mark i) 0 → IsRested V books after
  marked_rests i before after same_seat e =
      let sh = shape_of books.checked in
      let same : state_of V sh (seat.acts ++ with_bit (Mark i) 0 ∷ []) ≡ state_of V sh seat.acts = state_push V sh seat.acts (with_bit (Mark i) 0) ∙ marked_same V sh (state_of V sh seat.acts) i rested.known.quiet.quiet in
      let acts : after.acts ≡ seat.acts ++ with_bit (Mark i) 0 ∷ [] = e.acts ∙ ap (λ (w : WriterRecord). w.acts ++ with_bit (Mark i) 0 ∷ []) same_seat in
      record {
        layout = ap (λ (p : Opening). p.layout) (e.of ∙ ap (λ (w : WriterRecord). w.of) same_seat) ∙ rested.layout;
        known = subst (AreBooksOf V books) (sym (ap (state_of V sh) acts ∙ same)) rested.known;
      }
