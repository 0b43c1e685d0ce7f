-- A new writer rests, at moment 0.
use Rattle.std.proofs.Common.{ℕ, ◌≡◌, [], ap, sym, ◌∙◌, subst}
use Rattle.mc_words.specs.Checks.{shape_of}
use Rattle.mc_words.specs.Places.{word_count, moment}
use Rattle.mc_words.specs.declared.checked.Checked.{Checked}
use Rattle.mc_words.specs.declared.shape.Shape.{Shape}
use Rattle.mc_theory.specs.Lists.{state_of}
use Rattle.mc_theory.specs.States.{State, opening}
use Rattle.mc_theory.proofs.Invariant.EachState.{zeros}
use Rattle.mc_theory.proofs.Lists.Fronts.{state_none}
use Rattle.mc_plan.specs.Books.{AreBooksOf}
use Rattle.mc_plan.specs.declared.books.Books.{Books}
use Rattle.mc_shared.specs.Records.{Opening, WriterRecord, writer_record}
use Rattle.mc_shared.specs.Views.{layout_of}
use Rattle.mc_writer.specs.WriterCalls.{IsRested}
use Rattle.mc_cache.specs.Inside.KeptMoments.{KeepsMoment}

pub rested_new : (V : ℕ) (checked : Checked) (books : Books) (seat : WriterRecord) (o : Opening) → seat ≡ writer_record o [] [] → o.layout ≡ layout_of V checked → books.checked ≡ checked → AreBooksOf V books (opening V (shape_of checked)) → IsRested V books seat
rested_new V checked books seat o e lay shape known = record {
  layout = ap (λ (r : WriterRecord). r.of.layout) e ∙ (lay ∙ ap (layout_of V) (sym shape));
  known = subst (AreBooksOf V books) (sym (ap (λ (r : WriterRecord). state_of V (shape_of books.checked) r.acts) e ∙ (state_none V (shape_of books.checked) ∙ ap (λ (c : Checked). opening V (shape_of c)) shape))) known;
}

-- a new table is at moment 0
moment_new : (V : ℕ) (sh : Shape) → moment (opening V sh).words ≡ 0
unfolding opening moment
moment_new V sh = zeros (word_count V sh) 0

pub keeps_new : (V : ℕ) (seat : WriterRecord) (o : Opening) → seat ≡ writer_record o [] [] → KeepsMoment V seat 0
keeps_new V seat o e =
    sym (ap (λ (r : WriterRecord). moment (state_of V r.of.layout.shape r.acts).words) e ∙ (ap (λ (s : State V). moment s.words) (state_none V o.layout.shape) ∙ moment_new V o.layout.shape))
