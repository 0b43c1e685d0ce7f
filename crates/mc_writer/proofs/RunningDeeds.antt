-- The version of the running deed, while the pen makes the acts between an open and its close.
use Rattle.std.proofs.Common.{ℕ, ◌+◌, List, [], ◌∷◌, ◌++◌, ap, append_assoc, append-nil, length, sym, subst}
use Rattle.mc_words.specs.Shapes.{IsShape}
use Rattle.mc_words.specs.declared.shape.Shape.{Shape}
use Rattle.mc_theory.specs.Lists.{Made, state_of}
use Rattle.mc_theory.specs.declared.act.Act.{Act}
use Rattle.mc_theory.specs.declared.act.Act.TheVariants.{Item}
use Rattle.mc_plan.specs.Due.{AreDue}
use Rattle.mc_plan.specs.Making.{as_made}
use Rattle.mc_plan.specs.Plans.{payload_acts, value_acts}
use Rattle.mc_shared.specs.Records.{Opening}
use Rattle.mc_shared.specs.Running.{RunsIn, IsRunning}
use Rattle.mc_shared.specs.Views.{with_bit}
use Rattle.mc_shared.specs.declared.running.Running.{Running}
use Rattle.mc_shared.proofs.RunningVersion.{IsInner, inner_runs}
use Rattle.mc_writer.specs.Inside.Pens.{IsDue, HasMade}
use Rattle.mc_writer.specs.declared.pen.Pen.{Pen}
use Rattle.mc_writer.proofs.Due.{due_made, due_may}

-- none of these acts opens a deed or closes one
abbrev pub AreInner : List Act → Type 0
AreInner [] = Unit {0}
AreInner (x ∷ xs) = IsInner x × AreInner xs

-- acts that are due, none of which opens or closes, leave it
runs_through : (V : ℕ) (sh : Shape) (all acts : List Made) (xs due : List Act) (r : Running) → IsShape sh → AreInner xs → AreDue V sh all acts (xs ++ due) → RunsIn sh (state_of V sh acts) r → RunsIn sh (state_of V sh (acts ++ as_made xs)) r
runs_through V sh all acts [] due r s inner d run = subst (λ (ms : List Made). RunsIn sh (state_of V sh ms) r) (sym (append-nil acts)) run
runs_through V sh all acts (x ∷ xs) due r s inner d run =
    let next = inner_runs V sh acts x 0 r s inner.0 (due_may V sh all acts x (xs ++ due) d).0 run in
    subst (λ (ms : List Made). RunsIn sh (state_of V sh ms) r) (append_assoc acts (with_bit x 0 ∷ []) (as_made xs))
    (runs_through V sh all (acts ++ with_bit x 0 ∷ []) xs due r s inner.1 (due_made V sh all acts x (xs ++ due) d) next)

-- so a pen that makes them still runs the deed
pub still_running : {V : ℕ} {xs : List Act} {p q : Pen V} (ys : List Act) (r : Running) → AreInner xs → IsDue V (xs ++ ys) p → HasMade V xs p q → IsRunning V p.seat.now r → IsRunning V q.seat.now r
still_running {V} {xs} {p} {q} ys r inner d m run =
    let sh = p.seat.now.of.layout.shape in
    let due : AreDue V sh d.all p.seat.now.acts (xs ++ (ys ++ d.later)) =
    subst (λ (y : Shape × List Act). AreDue V y.0 d.all p.seat.now.acts y.1) (λ i. (ap (λ (o : Opening). o.layout.shape) (sym p.of) i, append_assoc xs ys d.later i)) d.due in
    let runs = runs_through V sh d.all p.seat.now.acts xs (ys ++ d.later) r run.shape inner due run.runs in
    record {
      shape = subst (λ (o : Opening). IsShape o.layout.shape) (sym m.of) run.shape;
      runs = subst (λ (y : Opening × List Made). RunsIn y.0.layout.shape (state_of V y.0.layout.shape y.1) r) (λ i. (sym m.of i, sym m.acts i)) runs;
    }

-- the words of an item are written inside a deed
inner_value : (i j : ℕ) (v : List ℕ) (more : List Act) → AreInner more → AreInner (value_acts i j v ++ more)
inner_value i j [] more inner = inner
inner_value i j (x ∷ xs) more inner = (tt, inner_value i (j + 1) xs more inner)

pub inner_payload : (i : ℕ) (v : List ℕ) (at : ℕ) → AreInner (payload_acts i v at)
inner_payload i v at = inner_value i 1 v (Item i (length v + 1) at ∷ []) (tt, tt)
