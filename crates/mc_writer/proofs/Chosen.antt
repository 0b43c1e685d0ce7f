-- Puts that take an item: once it is chosen whose, the words still agree with the history, and once its acts are made, the put is over.
use Rattle.std.proofs.Common.{ℕ, ◌≡◌, List, Result, Ok, Err, IfOk, IfErr, None, Some, ap, refl, sym, subst, ◌∙◌, []}
use Rattle.std.proofs.lemmas.Option.{none-some}
use Rattle.mc_words.specs.declared.policy.Policy.{Policy}
use Rattle.mc_words.specs.Checks.{policy_of, shape_of}
use Rattle.mc_words.specs.History.{map_value}
use Rattle.mc_words.specs.Standing.{Agrees}
use Rattle.mc_words.specs.declared.shape.Shape.{Shape}
use Rattle.mc_theory.specs.States.{State}
use Rattle.mc_search.specs.Sweeps.{Swept}
use Rattle.mc_plan.specs.Books.{AreBooksOf}
use Rattle.mc_plan.specs.Deciding.{IsFinished}
use Rattle.mc_plan.specs.Decisions.{replacement_acts, storing_told}
use Rattle.mc_plan.specs.WholeCalls.{IsSweepOf, PutCall}
use Rattle.mc_plan.specs.declared.answer.Answer.TheVariants as answer
use Rattle.mc_plan.specs.declared.answer.Put.{Put}
use Rattle.mc_plan.specs.declared.answer.Put.TheVariants.{Stored, Renewed}
use Rattle.mc_plan.specs.declared.answer.PutError.{PutError}
use Rattle.mc_plan.specs.declared.books.Books.{Books}
use Rattle.mc_plan.specs.declared.decision.Replacement.{Replacement}
use Rattle.mc_plan.proofs.Deeds.QuietStates.{agrees_quiet}
use Rattle.mc_shared.specs.Views.{layout_of}
use Rattle.mc_writer.specs.GivenWay.{giving_way}
use Rattle.mc_writer.specs.WriterCalls.{HasCalled, IsRested}
use Rattle.mc_writer.specs.Inside.Pens.{HasMade, IsDue, IsSamePen, state_at}
use Rattle.mc_writer.specs.Inside.Turns.{HasRead, IsChosen}
use Rattle.mc_writer.specs.declared.pen.Pen.{Pen}
use Rattle.mc_writer.proofs.Pens.{shape_kept}
use Rattle.mc_writer.proofs.WholeCalls.{due_now, made_now, refused_now, shape_there, words_still}

-- the hand writes no word, so the words agree with the history as before
pub agrees_read : (V : ℕ) (p q : Pen V) (b : Books) (rs : List Swept) → p.cells.now.layout ≡ layout_of V b.checked → AreBooksOf V b (state_at V p) → HasRead V p q rs → Agrees V q.cells.now.layout.shape (state_at V q).words None (state_at V p).history
agrees_read V p q b rs layout known read =
    subst (λ (sh : Shape). Agrees V sh (state_at V q).words None (state_at V p).history) (shape_there V p b layout ∙ sym (shape_kept read.same))
    (subst (λ (w : List ℕ). Agrees V (shape_of b.checked) w None (state_at V p).history) (sym (words_still V p q rs read)) (agrees_quiet V (shape_of b.checked) (state_at V p) known.quiet))

-- ---- what was decided once the readings are made
module _ (V : ℕ) (p q : Pen V) (b0 b1 : Books) (k : ℕ) (v : List ℕ) (rs : List Swept) (layout : p.cells.now.layout ≡ layout_of V b0.checked) (kept : b1.checked ≡ b0.checked) (read : HasRead V p q rs) where
  -- the victim's item is taken for the put's key
  pub finished_chosen : (r : Result Replacement PutError) → IsFinished V b1 k v (PutCall k v) (state_at V p) rs r → IfOk r (λ taken. IsChosen V b1 k v p q taken)
  finished_chosen (Err why) f = tt
  finished_chosen (Ok taken) f = record { readings = rs; layout = layout ∙ ap (layout_of V) (sym kept); read = read; in_items = f.in_items; parts = f.parts; planned = f.planned; sweeps = f.sweeps }

  -- every item is recent, and the call is over
  pub finished_refused : (r : Result Replacement PutError) → IsFinished V b1 k v (PutCall k v) (state_at V p) rs r
      → IfErr r (λ why. HasCalled V p.cells.now.layout.shape (PutCall k v) p.seat.now q.seat.now (answer.Put (Err why)) × IsRested V b1 q.seat.now)
  finished_refused (Ok taken) f = tt
  finished_refused (Err why) f = let done = refused_now V p q b0 b1 (PutCall k v) (answer.Put (Err why)) rs layout kept read f.0 f.1 in (done.1, done.2)

module _ (V : ℕ) (b : Books) (k : ℕ) (v : List ℕ) (p q : Pen V) (r : Replacement) (is : IsChosen V b k v p q r) where
  -- the acts of the replacement are due
  pub chosen_due : IsDue V (replacement_acts (policy_of b.checked) b.far.value.moves.items q.cells.now.layout.shape k v r) q
  chosen_due = due_now V p q b b (PutCall k v) (answer.Put (Ok (storing_told b.far.value.moves.items r.storing (Some r.victim.key)))) (λ sh. replacement_acts (policy_of b.checked) b.far.value.moves.items sh k v r) is.readings is.layout refl is.read is.planned

  -- and once they are made, the put is over
  pub chosen_made : (after : Pen V) → HasMade V (replacement_acts (policy_of b.checked) b.far.value.moves.items q.cells.now.layout.shape k v r) q after
      → IsSamePen V p after × HasCalled V p.cells.now.layout.shape (PutCall k v) p.seat.now after.seat.now (answer.Put (Ok (storing_told b.far.value.moves.items r.storing (Some r.victim.key)))) × IsRested V b after.seat.now
  chosen_made after m = made_now V p q b b (PutCall k v) (answer.Put (Ok (storing_told b.far.value.moves.items r.storing (Some r.victim.key)))) (λ sh. replacement_acts (policy_of b.checked) b.far.value.moves.items sh k v r) is.readings is.layout refl is.read is.planned after m is.sweeps

-- a put for which the hand did not turn evicts nothing: what gives way is the key itself, which the map did not hold
pub unswept_old : (V : ℕ) (sh : Shape) (policy : Policy) (s : State V) (k : ℕ) (told : Put) → IsSweepOf V sh policy s [] (answer.Put (Ok told)) → map_value s.history k ≡ None → map_value s.history (giving_way k told) ≡ None
unswept_old V sh policy s k (Stored at moves None) sweeps none = none
unswept_old V sh policy s k (Stored at moves (Some other)) sweeps none = absurd (none-some sweeps.1.0 sweeps.1.2)
unswept_old V sh policy s k (Renewed at) sweeps none = none
