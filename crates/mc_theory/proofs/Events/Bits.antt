-- Each recency bit of a reached trace is 0 or 1, and each item has one.
use Rattle.std.proofs.Common.{ℕ, ◌≡◌, List, [], ◌∷◌, length, set, refl, sym, ◌∙◌, subst, inl, inr}
use Rattle.std.specs.List.{All}
use Rattle.std.proofs.lemmas.List.{length-replicate, length-set}
use Rattle.std.proofs.lemmas.List.Elements.{All-replicate, All-set}
use Rattle.mc_words.specs.declared.shape.Shape.{Shape}
use Rattle.mc_theory.specs.Traces.{BitsStay, IsBit, StepsAll, Steps, Trace, bits_after, bits_read, first_trace}
use Rattle.mc_theory.specs.declared.access.Access.{Access}
use Rattle.mc_theory.specs.declared.access.Access.TheVariants as access
use Rattle.mc_theory.specs.declared.act.Act.{Act}
use Rattle.mc_theory.specs.declared.act.Act.TheVariants as act
use Rattle.mc_theory.specs.declared.event.Event.{Event}
use Rattle.mc_theory.specs.declared.event.Event.TheVariants.{Write, Begin, Read}

-- n bits
pub record AreBits (n : ℕ) (bits : List ℕ) : Type 0 where
  pub many : length bits ≡ n
  pub each : All IsBit bits

-- a bit that is set to 0 or 1 is one still
set_bit : (n : ℕ) (bits : List ℕ) (i b : ℕ) → IsBit b → AreBits n bits → AreBits n (set bits i b)
set_bit n bits i b is all = record { many = length-set bits i b ∙ all.many; each = All-set IsBit bits i b is all.each }

-- an act of the writer keeps them
act_keeps : (n : ℕ) (bits : List ℕ) (a : Act) → AreBits n bits → AreBits n (bits_after bits a)
act_keeps n bits (act.Hand i) all = set_bit n bits i 0 (inl refl) all
act_keeps n bits (act.Mark i) all = set_bit n bits i 1 (inr refl) all
act_keeps n bits (act.Open k d) all = all
act_keeps n bits (act.Slot q x) all = all
act_keeps n bits (act.Item i j x) all = all
act_keeps n bits act.Moment all = all
act_keeps n bits act.Close all = all

-- an access of a reader keeps them
access_keeps : (n : ℕ) (bits : List ℕ) (a : Access) → AreBits n bits → AreBits n (bits_read bits a)
access_keeps n bits (access.Mark i) all = set_bit n bits i 1 (inr refl) all
access_keeps n bits (access.Version t) all = all
access_keeps n bits (access.Slot p) all = all
access_keeps n bits (access.Key i) all = all
access_keeps n bits (access.Value i j) all = all
access_keeps n bits (access.Stamp i) all = all
access_keeps n bits access.Moment all = all

-- each event keeps them
step_keeps : (V : ℕ) (sh : Shape) (n : ℕ) (w x : Trace V) (e : Event) → Steps V sh w e x → AreBits n w.bits → AreBits n x.bits
step_keeps V sh n w x (Write a) s all = subst (λ (y : Trace V). AreBits n y.bits) (sym s.3) (act_keeps n w.bits a all)
step_keeps V sh n w x (Begin r k) s all = subst (λ (y : Trace V). AreBits n y.bits) (sym s.3) all
step_keeps V sh n w x (Read r) s all = elim s.5 [
  | inl over ↦ subst (λ (y : Trace V). AreBits n y.bits) (sym over.2) (access_keeps n w.bits s.1.access all)
  | inr more ↦ subst (λ (y : Trace V). AreBits n y.bits) (sym more.1) (access_keeps n w.bits s.1.access all)
]

-- and so do events one after the other
run_keeps : (V : ℕ) (sh : Shape) (n : ℕ) (w x : Trace V) (es : List Event) → StepsAll V sh w es x → AreBits n w.bits → AreBits n x.bits
run_keeps V sh n w x [] r all = subst (λ (y : Trace V). AreBits n y.bits) (sym r) all
run_keeps V sh n w x (e ∷ es) r all = run_keeps V sh n r.0 x es r.2 (step_keeps V sh n w r.0 e r.1 all)

-- a new trace has a bit for each item, and so has every one that is reached
pub bits_stay : (V : ℕ) → BitsStay V
bits_stay V sh readers es w runs =
    let new : AreBits sh.items (first_trace V sh readers).bits = record { many = length-replicate {A = ℕ} sh.items 0; each = All-replicate IsBit sh.items 0 (inl refl) } in
    let all = run_keeps V sh sh.items (first_trace V sh readers) w es runs new in
    (all.many, all.each)
