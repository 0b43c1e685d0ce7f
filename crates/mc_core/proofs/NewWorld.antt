-- A new table, and the parts of a new world.
use Rattle.std.proofs.Common.{ℕ, zero, suc, ◌≡◌, ◌-◌, Bool, false, List, [], ◌++◌, take, replicate, get_or, Option, None, refl, sym, ◌∙◌, ap, subst, arith}
use Rattle.std.specs.Prelude.{slice_get}
use Rattle.std.proofs.lemmas.Bool.{false≢true}
use Rattle.mc_words.proofs.Frames.{empty_names_none}
use Rattle.mc_words.specs.Places.{word_count, slot, slot_place}
use Rattle.mc_words.specs.declared.history.Change.{Change}
use Rattle.mc_words.specs.declared.shape.Shape.{Shape}
use Rattle.mc_theory.specs.Lists.{state_of}
use Rattle.mc_core.specs.Inside.Parts.{shape_of_parts, StandFor}
use Rattle.mc_theory.specs.Phases.{Phase, Quiet, close_owed}
use Rattle.mc_core.specs.Seen.{Both, IsOpenLookup}
use Rattle.mc_theory.specs.States.{State, opening}
use Rattle.mc_theory.specs.Traces.{first_trace, OpenLookup}
use Rattle.mc_core.specs.Inside.Writers.{state_in, phase_at, downs, UsedIn, UsedWell}
use Rattle.mc_core.specs.declared.parts.Parts.{Parts}
use Rattle.mc_core.specs.declared.reader.Reader.{Reader}
use Rattle.mc_theory.proofs.Lists.Fronts.{lawful_none, state_none}
use Rattle.mc_theory.proofs.Invariant.EachState.{zeros}

-- the state of a new writer is the opening
pub new_state : (V : ℕ) (sh : Shape) (words : List ℕ) (history : List (Change V)) → words ≡ replicate {A = ℕ} (word_count V sh) 0 → history ≡ [] →
    ◌≡◌ {A = State V} (record { words = words; phase = Quiet; hand = 0; cleared = None; history = history; version_steps = 0 }) (opening V sh)
unfolding opening
new_state V sh words history a b = rw (a, b) refl

-- each flag of a new list is down
all_down : (n i : ℕ) → get_or (replicate {A = Bool} n false) i false ≡ false
all_down zero i = refl
all_down (suc n) zero = refl
all_down (suc n) (suc i) = all_down n i

-- so as many are as there are flags
downs_new : (n : ℕ) → downs (replicate n false) ≡ n
downs_new zero = refl
downs_new (suc n) = let rest = downs_new n in omega (arith, rest)

-- all its items are free
pub new_used : (sh : Shape) (n : ℕ) (words : List ℕ) (flags : List Bool) (free : ℕ) → words ≡ replicate {A = ℕ} n 0 → flags ≡ replicate sh.items false → free ≡ sh.items → UsedIn sh words flags free
unfolding slot
new_used sh n words flags free a b e = record {
  used = λ i l up. absurd (false≢true (sym (all_down sh.items i) ∙ ap (λ (fs : List Bool). get_or fs i false) (sym b) ∙ up));
  unused = λ i l down q named. empty_names_none sh words q i (ap (λ (ws : List ℕ). get_or ws (slot_place sh q) 0) a ∙ zeros n (slot_place sh q)) named;
  many = ap downs b ∙ downs_new sh.items ∙ sym e;
}

-- an empty list has no first elements
take_none : {A : Type 0} (n : ℕ) → take {A = A} n [] ≡ []
take_none zero = refl
take_none (suc n) = refl

-- a new list that was filled up
pub filled : {A : Type 0} (old items : List A) (len n : ℕ) (x : A) → items ≡ take n old ++ replicate (n - len) x → old ≡ [] → len ≡ 0 → items ≡ replicate n x
filled {A} old items len n x e a b =
    let all : n - len ≡ n = omega (arith, b) in
    let none : take n old ≡ [] = ap (λ ys. take n ys) a ∙ take_none {A = A} n in
    e ∙ ap (λ ys. ys ++ replicate (n - len) x) none ∙ ap (λ m. replicate m x) all

-- no reader has a lookup
idle_both : (V : ℕ) (sh : Shape) (n r : ℕ) → Both (Both (IsOpenLookup V sh)) (slice_get (replicate {A = Option (Reader V)} n None) r) (slice_get (replicate {A = Option OpenLookup} n None) r)
idle_both V sh zero r = tt
idle_both V sh (suc n) zero = tt
idle_both V sh (suc n) (suc r) = idle_both V sh n r

-- an opening state has changed no version
new_changes : (V : ℕ) (sh : Shape) (n : ℕ) → n ≡ (opening V sh).version_steps → n ≡ 0
unfolding opening
new_changes V sh n e = e

-- and runs no deed
new_phase : (V : ℕ) (sh : Shape) (p : Phase) → p ≡ (opening V sh).phase → p ≡ Quiet
unfolding opening
new_phase V sh p e = e

-- the parts of a new world
pub new_stands : {V : ℕ} (p : Parts V) (sh : Shape) (readers : ℕ) → shape_of_parts {V = V} p ≡ sh → state_in {V = V} p.writer ≡ opening V sh → UsedWell {V = V} p.writer.table → p.bits.items ≡ replicate sh.items 0 → p.readers.items ≡ replicate {A = Option (Reader V)} readers None → p.events ≡ 0 →
    StandFor {V = V} p (first_trace V sh readers)
new_stands {V} p sh readers shape state used bits idle events =
    let opened : state_in {V = V} p.writer ≡ state_of V sh [] = state ∙ sym (state_none V sh) in
    let changes = new_changes V sh p.writer.version_steps (ap (λ (s : State V). s.version_steps) state) in
    let phase = new_phase V sh (phase_at p.writer.written p.writer.progress) (ap (λ (s : State V). s.phase) state) in
    let all : (r : ℕ) → Both (Both (IsOpenLookup V sh)) (slice_get p.readers.items r) (slice_get (replicate {A = Option OpenLookup} readers None) r) =
    λ r. subst (λ (rs : List (Option (Reader V))). Both (Both (IsOpenLookup V sh)) (slice_get rs r) (slice_get (replicate {A = Option OpenLookup} readers None) r)) (sym idle) (idle_both V sh readers r) in
    record {
      shows = record {
        lawful = lawful_none V (shape_of_parts {V = V} p);
        state = subst (λ (y : Shape). state_in {V = V} p.writer ≡ state_of V y []) (sym shape) opened;
        bits = bits;
        readers = λ r. subst (λ (y : Shape). Both (Both (IsOpenLookup V y)) (slice_get p.readers.items r) (slice_get (replicate {A = Option OpenLookup} readers None) r)) (sym shape) (all r);
        events = events;
      };
      used = used;
      within = omega (arith, changes, ap close_owed phase);
    }
