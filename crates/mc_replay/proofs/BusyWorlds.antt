-- Whether a lookup runs, by a world and by its trace.
use Rattle.std.proofs.Common.{◌≡◌, ℕ, zero, suc, true, false, List, [], ◌∷◌, Option, Some, None, inl, inr, ap, refl, sym, subst, ◌∙◌}
use Rattle.std.specs.Prelude.{is_some, slice_get}
use Rattle.std.specs.List.{list_any}
use Rattle.std.proofs.lemmas.Bool.{false≢true}
use Rattle.mc_core.specs.Seen.{Both, IsOpenLookup}
use Rattle.mc_plan.specs.Clerks.{next_act}
use Rattle.mc_replay.specs.declared.player.Player.{Player}
use Rattle.mc_replay.specs.Replay.{IsBusy, Scene}
use Rattle.mc_replay.specs.Inside.Players.{FitsScene}
use Rattle.mc_replay.proofs.CommandLines.{idle_of, runs_of}
use Rattle.mc_replay.proofs.ReaderLines.{at_of}

-- one runs
pub one_runs : {A B : Type 0} (R : A → B → Type 0) (xs : List (Option A)) (ys : List (Option B)) → ((r : ℕ) → Both (Both R) (slice_get xs r) (slice_get ys r)) → list_any is_some xs ≡ true
    → (r : ℕ) × (run : B) × (slice_get ys r ≡ Some (Some run))
one_runs R [] ys all e = absurd (false≢true e)
one_runs R (x ∷ xs) [] all e = absurd (all zero)
one_runs R (Some a ∷ xs) (Some b ∷ ys) all e = (zero, b, refl)
one_runs R (Some a ∷ xs) (None ∷ ys) all e = absurd (all zero)
one_runs R (None ∷ xs) (y ∷ ys) all e =
    let rest = one_runs R xs ys (λ r. all (suc r)) e in (suc rest.0, rest.1, rest.2)

-- none runs
pub none_runs : {A B : Type 0} (R : A → B → Type 0) (xs : List (Option A)) (ys : List (Option B)) → ((r : ℕ) → Both (Both R) (slice_get xs r) (slice_get ys r)) → list_any is_some xs ≡ false
    → (r : ℕ) (run : B) → slice_get ys r ≡ Some (Some run) → ⊥
none_runs R [] ys all e r run is = subst (λ o. Both (Both R) None o) is (all r)
none_runs R (x ∷ xs) [] all e r run is = absurd (all zero)
none_runs R (Some a ∷ xs) (y ∷ ys) all e r run is = false≢true (sym e)
none_runs R (None ∷ xs) (y ∷ ys) all e zero run is = subst (λ o. Both (Both R) (Some None) o) is (all zero)
none_runs R (None ∷ xs) (y ∷ ys) all e (suc r) run is = none_runs R xs ys (λ n. all (suc n)) e r run is

-- the writer's call runs
pub writer_busy : (V : ℕ) (player : Player V) (most : ℕ) (s : Scene V) → FitsScene V player most s → is_some (next_act player.clerk) ≡ true → IsBusy s.now
writer_busy V player most s fits some = inl (ap is_some (runs_of V player most s.now.running s.now.world fits.1 some).1)

-- the lookups of the trace are those of the world
both_run : (V : ℕ) (player : Player V) (most : ℕ) (s : Scene V) → FitsScene V player most s → (r : ℕ) → Both (Both (IsOpenLookup V player.world.shape)) (slice_get player.world.readers r) (slice_get s.now.world.readers r)
both_run V player most s fits = (at_of V player most s.now.running s.now.world fits.1).world.readers

-- a lookup runs
pub reader_busy : (V : ℕ) (player : Player V) (most : ℕ) (s : Scene V) → FitsScene V player most s → list_any is_some player.world.readers ≡ true → IsBusy s.now
reader_busy V player most s fits looks = inr (one_runs (IsOpenLookup V player.world.shape) player.world.readers s.now.world.readers (both_run V player most s fits) looks)

-- neither runs
pub not_busy : (V : ℕ) (player : Player V) (most : ℕ) (s : Scene V) → FitsScene V player most s → is_some (next_act player.clerk) ≡ false → list_any is_some player.world.readers ≡ false → (s.now.running ≡ None) × (IsBusy s.now → ⊥)
not_busy V player most s fits none looks =
    let idle = (idle_of V player most s.now.running s.now.world fits.1 none).0 in (
      idle,
      λ busy. elim busy [
        | inl runs ↦ false≢true (sym (ap is_some idle) ∙ runs)
        | inr run ↦ none_runs (IsOpenLookup V player.world.shape) player.world.readers s.now.world.readers (both_run V player most s fits) looks run.0 run.1 run.2
      ],
    )
