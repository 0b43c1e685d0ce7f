-- What a step owes of the recency bits, when the word at its place becomes f of what it was.
use Rattle.std.proofs.Common.{◌≡◌, Bool, ℕ, ◌<◌, ◌≤◌, eqb, eq-eqb, ne_eqb, List, length, get_or, set, refl, ap, sym, ◌∙◌, subst, arith}
use Rattle.std.specs.Prelude.{if◌then◌else◌}
use mathlib.Core.Logic.{dite}
use native.Mathlib.Decide.{ℕ_discrete}
use Rattle.mc_words.specs.Places.{word_count, recency_place}
use Rattle.mc_words.specs.Recency.{recency_bit}
use Rattle.std.specs.Int.{bit_at}
use Rattle.std.specs.Int.RustNames.{bit_or}
use lib.Bits.{bit_and}
use Rattle.mc_theory.specs.Lists.{Made}
use Rattle.mc_theory.specs.declared.act.Act.{Act}
use Rattle.mc_theory.specs.declared.act.Act.TheVariants.{Open, Slot, Item, Moment, Close, Hand, Mark}
use Rattle.mc_shared.specs.declared.layout.Layout.{Layout}
use Rattle.mc_shared.specs.RecencyTrace.{Trace, trace_swept, trace_marked, trace_after, Coherent}
use Rattle.mc_shared.specs.Views.{View}
use Rattle.mc_shared.specs.TableRule.{marks_of, bit_in}
use Rattle.mc_shared.specs.Steps.{bit_of}
use Rattle.mc_shared.specs.Inside.Steps.{WritesAt, only, all_but, IsOffBits}
use Rattle.mc_shared.specs.Inside.Seats.{MayMake}
use Rattle.mc_shared.proofs.WrittenPlaces.{write_low}
use Rattle.mc_shared.proofs.PackedBits.{bit_low, Spares, or_here, or_spares, and_here, and_spares, bit_elsewhere, bit_there, bit_spared}
use Rattle.mc_shared.proofs.Coherence.{coherent_swept, coherent_touched}

-- what an act owes of the bit of each item
abbrev pub StepBits : Layout → Act → ℕ → (ℕ → ℕ) → (ℕ → ℕ) → Type 0
StepBits l a n f g =
    (t : Trace) (words : List ℕ) → n < length words → (k many : ℕ) → Coherent t many (bit_in l words k)
    → Coherent (trace_after k t a (bit_of a (g (get_or words n 0))) many) many (bit_in l (set words n (f (get_or words n 0))) k)

-- bits past the last item stay
abbrev pub StepPast : Layout → ℕ → (ℕ → ℕ) → Type 0
StepPast l n f = (words : List ℕ) → n < length words → (k : ℕ) → l.shape.items ≤ k → bit_in l (set words n (f (get_or words n 0))) k ≡ bit_in l words k

-- a step at a word that is no recency word
low_bits : (l : Layout) (a : Act) (n x : ℕ) (g : ℕ → ℕ) → ((t : Trace) (k bit many : ℕ) → trace_after k t a bit many ≡ t) → n < word_count l.width l.shape → StepBits l a n (λ _. x) g
low_bits l a n x g quiet low t words long k many c =
    subst (λ (y : Trace × ℕ). Coherent y.0 many y.1) (λ i. (sym (quiet t k (bit_of a (g (get_or words n 0))) many) i, sym (bit_elsewhere l words n x k (λ e. omega (arith, e))) i)) c

-- nor does it change a bit past the last item
low_past : (l : Layout) (n x : ℕ) → n < word_count l.width l.shape → StepPast l n (λ _. x)
low_past l n x low words long k past = bit_elsewhere l words n x k (λ e. omega (arith, e))

-- an act off the recency bits keeps what each item's bit says
pub store_bits : (l : Layout) (acts : List Made) (a : Act) (n x : ℕ) (g : ℕ → ℕ) → IsOffBits a → MayMake l acts a → WritesAt l acts a n x → StepBits l a n (λ _. x) g
store_bits l acts (Open key d) n x g st may w = low_bits l (Open key d) n x g (λ t k bit many. refl) (write_low l acts (Open key d) n x may w)
store_bits l acts (Slot p y) n x g st may w = low_bits l (Slot p y) n x g (λ t k bit many. refl) (write_low l acts (Slot p y) n x may w)
store_bits l acts (Item i j y) n x g st may w = low_bits l (Item i j y) n x g (λ t k bit many. refl) (write_low l acts (Item i j y) n x may w)
store_bits l acts Moment n x g st may w = low_bits l Moment n x g (λ t k bit many. refl) (write_low l acts Moment n x may w)
store_bits l acts Close n x g st may w = low_bits l Close n x g (λ t k bit many. refl) (write_low l acts Close n x may w)
store_bits l acts (Hand i) n x g st may w = absurd st
store_bits l acts (Mark i) n x g st may w = absurd st

-- past the last item too
pub store_past : (l : Layout) (acts : List Made) (a : Act) (n x : ℕ) → IsOffBits a → MayMake l acts a → WritesAt l acts a n x → StepPast l n (λ _. x)
store_past l acts (Open key d) n x st may w = low_past l n x (write_low l acts (Open key d) n x may w)
store_past l acts (Slot p y) n x st may w = low_past l n x (write_low l acts (Slot p y) n x may w)
store_past l acts (Item i j y) n x st may w = low_past l n x (write_low l acts (Item i j y) n x may w)
store_past l acts Moment n x st may w = low_past l n x (write_low l acts Moment n x may w)
store_past l acts Close n x st may w = low_past l n x (write_low l acts Close n x may w)
store_past l acts (Hand i) n x st may w = absurd st
store_past l acts (Mark i) n x st may w = absurd st

-- a step on the bit of an item leaves the bits past the last one
pub spared_past : (l : Layout) (i : ℕ) (f : ℕ → ℕ) → i < l.shape.items → Spares (recency_bit i) f → StepPast l (recency_place l.width l.shape i) f
spared_past l i f within spares words long k past = bit_spared l words i k f spares (λ e. omega (arith, e)) long

-- the hand clears the bit of its item
pub hand_bits : (l : Layout) (i : ℕ) → StepBits l (Hand i) (recency_place l.width l.shape i) (λ w. bit_and w (all_but i)) (λ w. w)
hand_bits l i t words long k many c =
    let n : ℕ = recency_place l.width l.shape i in
    let w : ℕ = get_or words n 0 in
    let f : ℕ → ℕ = λ w. bit_and w (all_but i) in
    let told : ℕ = bit_at w (recency_bit i) in
    dite (ℕ_discrete i k)
    (λ same. subst (λ (j : ℕ). Coherent t many (bit_in l words j) → Coherent (trace_after j t (Hand i) told many) many (bit_in l (set words n (f w)) j)) same
    (λ h. subst (λ (y : Bool × ℕ). Coherent (if y.0 then trace_swept t told many else t) many y.1)
    (λ z. (sym (eq-eqb i i refl) z, sym (bit_there l words i (f w) long ∙ and_here (recency_bit i) w (bit_low i)) z))
    (coherent_swept t many told h)) c)
    (λ ne. subst (λ (y : Bool × ℕ). Coherent (if y.0 then trace_swept t told many else t) many y.1)
    (λ z. (sym (ne_eqb i k ne) z, sym (bit_spared l words i k f (and_spares (recency_bit i) (bit_low i)) ne long) z)) c)

-- the writer's mark sets it
pub touch_bits : (l : Layout) (i : ℕ) → StepBits l (Mark i) (recency_place l.width l.shape i) (λ w. bit_or w (only i)) (λ w. w)
touch_bits l i t words long k many c =
    let n : ℕ = recency_place l.width l.shape i in
    let w : ℕ = get_or words n 0 in
    let f : ℕ → ℕ = λ w. bit_or w (only i) in
    dite (ℕ_discrete i k)
    (λ same. subst (λ (j : ℕ). Coherent t many (bit_in l words j) → Coherent (trace_after j t (Mark i) 0 many) many (bit_in l (set words n (f w)) j)) same
    (λ h. subst (λ (y : Bool × ℕ). Coherent (if y.0 then trace_marked t else t) many y.1)
    (λ z. (sym (eq-eqb i i refl) z, sym (bit_there l words i (f w) long ∙ or_here (recency_bit i) w (bit_low i)) z))
    (coherent_touched t many (bit_at w (recency_bit i)) h)) c)
    (λ ne. subst (λ (y : Bool × ℕ). Coherent (if y.0 then trace_marked t else t) many y.1)
    (λ z. (sym (ne_eqb i k ne) z, sym (bit_spared l words i k f (or_spares (recency_bit i) (bit_low i)) ne long) z)) c)

-- how many marks of its item the hand meets
abbrev pub sum_at : Act → List View → ℕ
sum_at (Hand i) views = marks_of i views
sum_at _ views = 0

-- what the tally has for another item says nothing of this one
pub sum_here : (k : ℕ) (t : Trace) (a : Act) (bit : ℕ) (views : List View) → trace_after k t a bit (sum_at a views) ≡ trace_after k t a bit (marks_of k views)
sum_here k t (Open key d) bit views = refl
sum_here k t (Slot p y) bit views = refl
sum_here k t (Item i j y) bit views = refl
sum_here k t Moment bit views = refl
sum_here k t Close bit views = refl
sum_here k t (Mark i) bit views = refl
sum_here k t (Hand i) bit views = dite (ℕ_discrete i k)
    (λ (e : i ≡ k). ap (λ (j : ℕ). if eqb i k then trace_swept t bit (marks_of j views) else t) e)
    (λ ne. subst (λ (b : Bool). (if b then trace_swept t bit (marks_of i views) else t) ≡ (if b then trace_swept t bit (marks_of k views) else t)) (sym (ne_eqb i k ne)) refl)
