-- What is always known of the writer's seat stays so after each act.
use Rattle.std.proofs.Common.{◌≡◌, ℕ, ◌+◌, ◌≤◌, List, [], ◌∷◌, ◌++◌, length, length-append, refl, ap, sym, subst, arith}
use Rattle.mc_words.specs.Shapes.{IsShape}
use Rattle.mc_words.specs.declared.shape.Shape.{Shape}
use Rattle.mc_theory.specs.Acts.{IsAllowed}
use Rattle.mc_theory.specs.Effects.{after_act}
use Rattle.mc_theory.specs.Lists.{Made}
use Rattle.mc_theory.specs.Phases.{close_owed}
use Rattle.mc_theory.specs.States.{State, opening}
use Rattle.mc_theory.specs.Traces.{HasVersionSteps}
use Rattle.mc_theory.specs.declared.act.Act.{Act}
use Rattle.mc_theory.specs.declared.act.Act.TheVariants.{Open, Slot, Item, Moment, Close, Hand, Mark}
use Rattle.mc_theory.proofs.Lists.Fronts.{lawful_none, lawful_push, state_none, state_push}
use Rattle.mc_theory.proofs.Invariant.Limits.{within_after}
use Rattle.mc_shared.specs.declared.layout.Layout.{Layout}
use Rattle.mc_shared.specs.Views.{Tally, writer_view, acts_of, tally_of, layout_state, with_bit}
use Rattle.mc_shared.specs.Steps.{SeatView}
use Rattle.mc_shared.specs.Inside.Steps.{IsPlain, AddsNote}
use Rattle.mc_shared.specs.Inside.Seats.{MayMake, IsWriter}

-- what the caller of a step knows makes it one that may be made
pub may_make : (me : SeatView) (a : Act) → IsWriter me → IsAllowed me.0.layout.shape (layout_state me.0.layout (acts_of me.0)) a → MayMake me.0.layout (acts_of me.0) a
may_make me a mine allowed = record { shape = mine.shape; lawful = mine.lawful; allowed = allowed; few = omega (arith, mine.within, mine.shape.limit) }

-- an act that changes no version is within any limit of version steps
pub has_plain : (limit changes : ℕ) (a : Act) → IsPlain a → HasVersionSteps limit changes a
has_plain limit changes (Open k d) is = absurd is
has_plain limit changes (Slot p x) is = tt
has_plain limit changes (Item i j x) is = tt
has_plain limit changes Moment is = absurd is
has_plain limit changes Close is = absurd is
has_plain limit changes (Hand i) is = tt
has_plain limit changes (Mark i) is = tt

-- after an act
pub after_made : (me me' : SeatView) (a : Act) (b : ℕ) → IsWriter me → MayMake me.0.layout (acts_of me.0) a → HasVersionSteps me.0.layout.shape.limit (layout_state me.0.layout (acts_of me.0)).version_steps a → me' ≡ (writer_view me.0.layout (acts_of me.0 ++ with_bit a b ∷ []) (tally_of me'.0), []) → AddsNote me me' → IsWriter me'
after_made me me' a b mine may has is note =
    let l : Layout = me.0.layout in
    let acts : List Made = acts_of me.0 in
    let s : State l.width = layout_state l acts in
    let next : layout_state l (acts ++ with_bit a b ∷ []) ≡ after_act l.shape s a b = state_push l.width l.shape acts (with_bit a b) in
    let within = within_after l.width l.shape s.words s.hand s.cleared s.version_steps l.shape.limit s.phase a may.allowed has mine.within in
    subst (λ (x : SeatView). IsWriter x) (sym is) (record {
      seat = refl;
      shape = mine.shape;
      lawful = lawful_push l.width l.shape acts (with_bit a b) may.lawful may.allowed;
      paired = omega (arith, ap length note.1, length-append (tally_of me.0).notes (note.0 ∷ []), length-append acts (with_bit a b ∷ []), mine.paired);
      within = subst (λ (z : State l.width). z.version_steps + close_owed z.phase ≤ l.shape.limit) (sym next) within;
    })

-- ---- a new table
within_new : (V : ℕ) (sh : Shape) → (opening V sh).version_steps + close_owed (opening V sh).phase ≤ sh.limit
unfolding opening
within_new V sh = omega arith

-- a new writer's seat
pub new_writer : (l : Layout) (me : SeatView) (tally : Tally) → tally.notes ≡ [] → me ≡ (writer_view l [] tally, []) → IsShape l.shape → IsWriter me
new_writer l me tally none is shape = subst (λ (x : SeatView). IsWriter x) (sym is) (record {
  seat = refl;
  shape = shape;
  lawful = lawful_none l.width l.shape;
  paired = ap length none;
  within = subst (λ (s : State l.width). s.version_steps + close_owed s.phase ≤ l.shape.limit) (sym (state_none l.width l.shape)) (within_new l.width l.shape);
})
