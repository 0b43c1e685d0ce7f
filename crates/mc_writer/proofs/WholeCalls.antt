-- A call of the writer that was decided: its acts are due, and once they are made, it is over.
use Rattle.std.proofs.Common.{ℕ, ◌≡◌, ◌∙◌, List, [], ◌++◌, ap, append-nil, append_assoc, refl, sym, subst}
use Rattle.mc_words.specs.declared.policy.Policy.{Policy}
use Rattle.mc_words.specs.KeyParts.{HasParts}
use Rattle.mc_words.specs.declared.key_parts.KeyParts.{KeyParts}
use Rattle.mc_words.specs.declared.shape.Shape.{Shape}
use Rattle.mc_words.specs.Checks.{policy_of, shape_of}
use Rattle.mc_theory.specs.Lists.{Made, state_of}
use Rattle.mc_theory.specs.States.{State}
use Rattle.mc_theory.specs.declared.act.Act.{Act}
use Rattle.mc_theory.proofs.Lists.Fronts.{state_append}
use Rattle.mc_search.specs.Sweeps.{Swept, hand_acts}
use Rattle.mc_plan.specs.WholeCalls.{AnsweredBy, Call, IsSweepOf, state_after_sweep}
use Rattle.mc_plan.specs.Books.{AreBooksOf, IsPlanned}
use Rattle.mc_plan.specs.declared.waiting.Waiting.{Waiting}
use Rattle.mc_plan.specs.Making.{as_made}
use Rattle.mc_plan.specs.declared.answer.Answer.{Answer}
use Rattle.mc_plan.specs.declared.books.Books.{Books}
use Rattle.mc_plan.proofs.Calls.DueActs.{plan_ends, planned_due, sweep_may}
use Rattle.mc_plan.proofs.Calls.SweptStates.{swept_still}
use Rattle.mc_shared.specs.declared.layout.Layout.{Layout}
use Rattle.mc_shared.specs.Records.{Opening}
use Rattle.mc_shared.specs.Views.{layout_of}
use Rattle.mc_shared.proofs.GrownNotes.{grow_self, grow_trans}
use Rattle.mc_writer.specs.WriterCalls.{HasCalled, IsRested}
use Rattle.mc_writer.specs.Inside.Pens.{HasMade, IsDue, IsSamePen, state_at}
use Rattle.mc_writer.specs.Inside.Turns.{HasRead, HasTurned}
use Rattle.mc_writer.specs.declared.pen.Pen.{Pen}
use Rattle.mc_writer.proofs.Pens.{made_none, plan_is_due, same_then, shape_kept}

-- ---- what is known of a pen between two calls
pub layout_rested : (V : ℕ) (p : Pen V) (b : Books) → IsRested V b p.seat.now → p.cells.now.layout ≡ layout_of V b.checked
layout_rested V p b rested = sym (ap (λ (o : Opening). o.layout) p.of) ∙ rested.layout

module _ (V : ℕ) (p : Pen V) (b : Books) (layout : p.cells.now.layout ≡ layout_of V b.checked) where
  pub shape_there : shape_of b.checked ≡ p.cells.now.layout.shape
  shape_there = sym (ap (λ (l : Layout). l.shape) layout)

  -- parts of a key by the pen's table are those by the books'
  pub parts_there : (k : ℕ) (parts : KeyParts) → HasParts p.cells.now.layout.shape k parts → HasParts (shape_of b.checked) k parts
  parts_there k parts = subst (λ (x : Shape). HasParts x k parts) (sym shape_there)

-- the pen that a decision leaves as it is
abbrev pub pen_of : {V : ℕ} {p q : Pen V} → q ≡ p → Pen V
pen_of {V} {p} {q} same = p

-- after the decision
pub still_there : (V : ℕ) (p q : Pen V) (b0 b1 : Books) (k : ℕ) (parts : KeyParts) (C : State V → Type 0) → q ≡ p → p.cells.now.layout ≡ layout_of V b0.checked → b1.checked ≡ b0.checked → HasParts p.cells.now.layout.shape k parts → C (state_at V p)
    → (q.cells.now.layout ≡ layout_of V b1.checked) × (HasParts q.cells.now.layout.shape k parts × C (state_at V q))
still_there V p q b0 b1 k parts C same layout kept has holds =
    subst (λ (x : Pen V). (x.cells.now.layout ≡ layout_of V b1.checked) × (HasParts x.cells.now.layout.shape k parts × C (state_at V x))) (sym same) (layout ∙ ap (layout_of V) (sym kept), (has, holds))

-- the books are those of the pen's state
pub known_there : (V : ℕ) (p : Pen V) (b : Books) → IsRested V b p.seat.now → AreBooksOf V b (state_at V p)
known_there V p b rested = subst (λ (x : Shape). AreBooksOf V b (state_of V x p.seat.now.acts)) (shape_there V p b (layout_rested V p b rested)) rested.known

-- ---- the hand's readings, and those of a call that sweeps for no item
pub has_read : (V : ℕ) (p q : Pen V) (b : Books) (waiting : Waiting V) (call : Call) (t : HasTurned V b waiting call p q) → shape_of b.checked ≡ p.cells.now.layout.shape → HasRead V p q t.readings
has_read V p q b waiting call t shape =
    record { same = t.same; of = t.of; acts = t.acts; notes = t.notes; may = (sweep_may V p.cells.now.layout.shape b waiting call p.seat.now.acts t.readings shape t.sweeping).0 }

-- a decision leaves the pen as it is
pub not_turned : (V : ℕ) (p q : Pen V) → q ≡ p → HasRead V p q []
not_turned V p q is =
    subst (λ (x : Pen V). HasRead V p x []) (sym is) (record { same = record { cells = refl; seat = refl }; of = refl; acts = sym (append-nil p.seat.now.acts); notes = grow_self p.seat.now.notes; may = tt })

pub still_read : (V : ℕ) (p q r : Pen V) (rs : List Swept) → r ≡ q → HasRead V p q rs → HasRead V p r rs
still_read V p q r rs is = subst (λ (x : Pen V). HasRead V p x rs) (sym is)

-- the hand writes no word
pub words_still : (V : ℕ) (p q : Pen V) (rs : List Swept) → HasRead V p q rs → (state_at V q).words ≡ (state_at V p).words
words_still V p q rs read =
    let sh = p.cells.now.layout.shape in
    ap (λ (x : Shape). (state_of V x q.seat.now.acts).words) (shape_kept read.same)
    ∙ (ap (λ (xs : List Made). (state_of V sh xs).words) read.acts ∙ (ap (λ (s : State V). s.words) (state_append V sh p.seat.now.acts (hand_acts rs)) ∙ (swept_still V sh (state_at V p) rs).words))

-- the shape by which a plan was decided is that of the pen's table
pub shape_read : (V : ℕ) (p q : Pen V) (b0 b1 : Books) (rs : List Swept) → p.cells.now.layout ≡ layout_of V b0.checked → b1.checked ≡ b0.checked → HasRead V p q rs → shape_of b1.checked ≡ q.cells.now.layout.shape
shape_read V p q b0 b1 rs layout kept read = ap shape_of kept ∙ (shape_there V p b0 layout ∙ sym (shape_kept read.same))

-- ---- the call was decided in the state of the pen `p`. The plan is that of each shape
module _ (V : ℕ) (p q : Pen V) (b0 b1 : Books) (call : Call) (told : Answer) (plan : Shape → List Act) (rs : List Swept) (layout : p.cells.now.layout ≡ layout_of V b0.checked) (kept : b1.checked ≡ b0.checked) (read : HasRead V p q rs)
    (planned : IsPlanned V b1 (plan (shape_of b1.checked)) call (state_at V p) (state_after_sweep V (shape_of b1.checked) (state_at V p) rs) told) where
  abbrev sh : Shape
  sh = p.cells.now.layout.shape

  shape_now : shape_of b1.checked ≡ sh
  shape_now = ap shape_of kept ∙ shape_there V p b0 layout

  policy_now : policy_of b1.checked ≡ p.seat.now.of.layout.policy
  policy_now = ap policy_of kept ∙ sym (ap (λ (l : Layout). l.policy) (ap (λ (o : Opening). o.layout) p.of ∙ layout))

  planned_now : IsPlanned V b1 (plan sh) call (state_at V p) (state_after_sweep V sh (state_at V p) rs) told
  planned_now = subst (λ (x : Shape). IsPlanned V b1 (plan x) call (state_at V p) (state_after_sweep V x (state_at V p) rs) told) shape_now planned

  state_now : (x : Shape) → x ≡ sh → state_of V x q.seat.now.acts ≡ state_after_sweep V sh (state_at V p) rs
  state_now x is = ap (λ (y : Shape). state_of V y q.seat.now.acts) is ∙ (ap (state_of V sh) read.acts ∙ state_append V sh p.seat.now.acts (hand_acts rs))

  -- the acts of the plan are due
  pub due_now : IsDue V (plan q.cells.now.layout.shape) q
  due_now =
      let there = shape_kept read.same in
      subst (λ (x : Shape). IsDue V (plan x) q) (sym there)
      (plan_is_due V q (q.seat.now.acts ++ as_made (plan sh)) (plan sh) (planned_due V q.cells.now.layout.shape b1 (plan sh) call (state_at V p) (state_after_sweep V sh (state_at V p) rs) told q.seat.now.acts (shape_now ∙ sym there) (state_now q.cells.now.layout.shape there) planned_now))

  -- and once they are made, the call is over
  pub made_now : (after : Pen V) → HasMade V (plan q.cells.now.layout.shape) q after → IsSweepOf V (shape_of b1.checked) (policy_of b1.checked) (state_at V p) rs told
      → IsSamePen V p after × HasCalled V p.cells.now.layout.shape call p.seat.now after.seat.now told × IsRested V b1 after.seat.now
  made_now after m sweeps =
      let made = subst (λ (x : Shape). HasMade V (plan x) q after) (shape_kept read.same) m in
      let ends = plan_ends V sh b1 (plan sh) call p.seat.now.acts rs told shape_now read.may (subst (λ (x : Shape). IsSweepOf V x (policy_of b1.checked) (state_at V p) rs told) shape_now sweeps) planned_now in
      let of = made.of ∙ read.of in
      let acts : after.seat.now.acts ≡ p.seat.now.acts ++ (hand_acts rs ++ as_made (plan sh)) = made.acts ∙ (ap (λ (xs : List Made). xs ++ as_made (plan sh)) read.acts ∙ append_assoc p.seat.now.acts (hand_acts rs) (as_made (plan sh))) in (
        same_then read.same made.same,
        record { made = hand_acts rs ++ as_made (plan sh); of = of; acts = acts; notes = grow_trans read.notes made.notes; answered = subst (λ (x : Policy). AnsweredBy V sh x call (state_at V p) (hand_acts rs ++ as_made (plan sh)) told) policy_now ends.0 },
        record {
          layout = ap (λ (o : Opening). o.layout) of ∙ (ap (λ (o : Opening). o.layout) p.of ∙ (layout ∙ ap (layout_of V) (sym kept)));
          known = subst (λ (x : Shape). AreBooksOf V b1 (state_of V x after.seat.now.acts)) (sym shape_now) (subst (λ (xs : List Made). AreBooksOf V b1 (state_of V sh xs)) (sym acts) ends.1);
        },
      )

-- if the plan has no acts, the call is over at once
pub refused_now : (V : ℕ) (p q : Pen V) (b0 b1 : Books) (call : Call) (told : Answer) (rs : List Swept) → p.cells.now.layout ≡ layout_of V b0.checked → b1.checked ≡ b0.checked → HasRead V p q rs → IsPlanned V b1 [] call (state_at V p) (state_after_sweep V (shape_of b1.checked) (state_at V p) rs) told → IsSweepOf V (shape_of b1.checked) (policy_of b1.checked) (state_at V p) rs told
    → IsSamePen V p q × HasCalled V p.cells.now.layout.shape call p.seat.now q.seat.now told × IsRested V b1 q.seat.now
refused_now V p q b0 b1 call told rs layout kept read planned = made_now V p q b0 b1 call told (λ _. []) rs layout kept read planned q (made_none V q)
