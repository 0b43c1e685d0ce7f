-- How many accesses a reader makes of one lookup.
use Rattle.std.proofs.Common.{◌≡◌, ℕ, ◌+◌, ◌*◌, ◌<◌, ◌≤◌, List, [], ◌∷◌, ◌++◌, Some, None, sym, ap, ◌∙◌, inl, inr, arith, length, length-append}
use Rattle.std.specs.Prelude.{slice_get}
use Rattle.mc_words.proofs.Payload.{payload_few}
use Rattle.mc_words.specs.Places.{payload, most_payload, IsWidth}
use Rattle.mc_words.specs.Shapes.{IsShape}
use Rattle.mc_words.specs.declared.history.Reply.{Reply}
use Rattle.mc_words.specs.declared.shape.Shape.{Shape}
use Rattle.mc_core.proofs.PairedLists.{set_there}
use Rattle.mc_theory.proofs.Replies.Lengths.{lookup_length}
use Rattle.mc_theory.specs.Readings.{Reading}
use Rattle.mc_theory.specs.Traces.{Trace, OpenLookup, StepsByClock, ReadsNext, first_read}
use Rattle.mc_theory.specs.declared.event.Event.TheVariants as event
use Rattle.mc_replay.specs.Inside.Players.{HasAccessed, most_accesses}

-- no product of larger factors is less
product_le : (a b c d : ℕ) → a ≤ c → b ≤ d → a * b ≤ c * d
product_le a b c d l m = grind arith

-- the readings of a lookup are few
few_readings : (V : ℕ) (sh : Shape) (k : ℕ) (rs : List Reading) (reply : Reply V) → IsShape sh → IsWidth V → sh.tries ≤ 64 → length rs ≤ sh.tries * (19 + payload V) + 1 → length rs ≤ most_accesses
few_readings V sh k rs reply sound width tries few =
    let wide = payload_few V width in
    let most = product_le sh.tries (19 + payload V) 64 (19 + most_payload) tries (omega (arith, wide)) in
    omega (arith, few, most)

-- a reading more leaves room for itself
sofar_few : (V : ℕ) (sh : Shape) (w : Trace V) (run : OpenLookup) (reading : Reading) → IsShape sh → IsWidth V → ReadsNext V sh w run reading → length run.sofar < most_accesses
sofar_few V sh w run reading sound width next =
    let few = few_readings V sh run.key (run.sofar ++ reading ∷ next.rest) next.reply sound width sound.tries.1 (lookup_length V sh run.key sh.tries (run.sofar ++ reading ∷ next.rest) next.reply next.next) in
    let parts = length-append run.sofar (reading ∷ next.rest) in
    omega (arith, few, parts)

-- of the same place the same lookup is found
same_run : (a b : OpenLookup) → Some (Some a) ≡ Some (Some b) → a ≡ b
same_run a b e = cc

-- each access is one more of the lookup that runs, and there are not many
pub made_more : (V : ℕ) (sh : Shape) (w x : Trace V) (r n : ℕ) → IsShape sh → IsWidth V → StepsByClock V sh w (event.Read r) x → HasAccessed w r n → HasAccessed x r (n + 1) × (n < most_accesses)
made_more V sh w x r n sound width steps made =
    let run = steps.0 in
    let reading = steps.1 in
    let before = made run steps.2 in
    let few = sofar_few V sh w run reading sound width steps.3 in
    let n_few : n < most_accesses = omega (arith, before, few) in
    let more = length-append run.sofar (reading ∷ []) in
    elim steps.5 [
      | inl ends ↦ (
          let there = ap (λ (y : Trace V). slice_get y.readers r) ends.2 ∙ set_there w.readers r None (Some run) steps.2 in
          (λ other is. absurd (ended other (sym there ∙ is)), n_few)
          )
      | inr on ↦ (
          let later : OpenLookup = record { key = run.key; sofar = run.sofar ++ reading ∷ []; first = first_read w.events run } in
          let there = ap (λ (y : Trace V). slice_get y.readers r) on.1 ∙ set_there w.readers r (Some later) (Some run) steps.2 in
          (λ other is. let same = ap (λ (y : OpenLookup). length y.sofar) (same_run later other (sym there ∙ is)) in omega (arith, same, more, before), n_few)
          )
    ]
  where
    ended : (other : OpenLookup) → Some None ≡ Some (Some other) → ⊥
    ended other e = absurd (cc (e))
