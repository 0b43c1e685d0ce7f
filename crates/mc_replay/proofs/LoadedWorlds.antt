-- Entries that are put into a new world, one after the other.
use Rattle.std.proofs.Common.{◌≡◌, ℕ, ◌+◌, ◌*◌, ◌≤◌, List, [], ◌∷◌, ◌++◌, Option, None, Result, refl, sym, ap, ◌∙◌, subst, arith, length, length-append}
use Rattle.mc_words.specs.declared.policy.Policy.TheVariants.{Clock}
use Rattle.mc_words.specs.declared.shape.Shape.{Shape}
use Rattle.mc_theory.proofs.Lists.Fronts.{state_append, state_none}
use Rattle.mc_theory.specs.Lists.{Made, after_all, state_of}
use Rattle.mc_theory.specs.States.{State}
use Rattle.mc_theory.specs.Traces.{Trace, first_trace}
use Rattle.mc_search.specs.Entries.{AreInOrder}
use Rattle.mc_plan.proofs.Calls.Loading.{loads_more}
use Rattle.mc_plan.specs.Loads.{Loads, changes_by, left_by}
use Rattle.mc_plan.specs.WholeCalls.{Answered, KeptCall}
use Rattle.mc_plan.specs.declared.answer.Answer.{Answer}
use Rattle.mc_plan.specs.declared.answer.Answer.TheVariants as answer
use Rattle.mc_plan.specs.declared.answer.Put.{Put}
use Rattle.mc_plan.specs.declared.answer.Why.{Why}
use Rattle.mc_replay.specs.declared.player.Player.{Player}
use Rattle.mc_replay.specs.Replay.{Pending, WriterMakes, with_sizes}
use Rattle.mc_replay.specs.Texts.{reopened_lines}
use Rattle.mc_replay.specs.Inside.Players.{CallIsWhole, FitsCall, HasRoom, IsIdle, most_entries, most_loading, most_steps, shape_of_player}
use Rattle.mc_replay.specs.Inside.Reopenings.{HasEntries, HasLoaded, MovesTo}
use Rattle.mc_replay.proofs.WriterCalls.{idle_more, makes_append}

-- entries in order are no more than the items
pub few_in_order : (V : ℕ) (sh : Shape) (w : List ℕ) (from to : ℕ) (es : List (ℕ × List ℕ)) → AreInOrder V sh w from to es → from + length es ≤ to
few_in_order V sh w from to [] in_order = omega (arith, in_order)
few_in_order V sh w from to (e ∷ es) in_order =
    let rest = few_in_order V sh w (in_order.0 + 1) to es in_order.4 in omega (arith, rest, in_order.2)

-- there is room for one more
pub room_to_load : (es : List (ℕ × List ℕ)) → length es ≤ most_entries → HasRoom (length es * most_steps)
room_to_load es few = omega (arith, few)

-- one more was put, or left
pub loaded_more : (V : ℕ) (old now new : Player V) (w : Trace V) (es : List (ℕ × List ℕ)) (n k : ℕ) (v : List ℕ) (left : List (ℕ × Why)) (told : Result Put Why) → n ≡ length es → (so : HasLoaded V old now w es left) → CallIsWhole V now new (length es * most_steps) (KeptCall k v) so.after (answer.Kept told)
    → HasLoaded V old new w (es ++ (k, v) ∷ []) (left ++ left_by n told)
loaded_more V old now new w es n k v left told index so call =
    let sh = shape_of_player old in
    let s : State V = state_of V sh w.acts in
    let here : state_of V sh so.after.acts ≡ after_all sh s so.acts = ap (state_of V sh) so.makes.1 ∙ state_append V sh w.acts so.acts in
    let told_here : Answered V sh (KeptCall k v) (state_of V sh so.after.acts) call.acts (answer.Kept told) = subst (λ (y : Shape). Answered V y (KeptCall k v) (state_of V y so.after.acts) call.acts (answer.Kept told)) so.shape call.answered in
    let more : length (es ++ (k, v) ∷ []) ≡ length es + 1 = length-append es ((k, v) ∷ []) in
    record {
      acts = so.acts ++ call.acts;
      changes = so.changes ++ changes_by k v told;
      after = call.after;
      loads = loads_more V Clock sh s 0 n es k v so.acts call.acts so.changes left told so.loads (omega (arith, index)) (subst (λ (t : State V). Answered V sh (KeptCall k v) t call.acts (answer.Kept told)) here told_here);
      makes = makes_append V sh w so.after call.after so.acts call.acts so.makes (subst (λ (y : Shape). WriterMakes V y so.after call.acts call.after) so.shape call.makes);
      shape = call.shape ∙ so.shape;
      idle = idle_more V new _ _ call.after (omega (arith, more)) call.idle;
    }

-- the entries of a world were put into a new one, and the lines report it
pub moves_to : (V : ℕ) (old first new : Player V) (sh : Shape) (n at b c : ℕ) (es : List (ℕ × List ℕ)) (left : List (ℕ × Why)) (text : List ℕ) → n ≡ length old.world.readers → shape_of_player first ≡ sh → sh ≡ with_sizes (shape_of_player old) b c → length es ≤ most_entries
    → ((most : ℕ) (w : Trace V) → IsIdle V old most w → HasEntries V (shape_of_player old) (state_of V (shape_of_player old) w.acts) es) → (loaded : HasLoaded V first new (first_trace V sh n) es left)
    → at ≡ length (state_of V (shape_of_player new) loaded.after.acts).history → text ≡ reopened_lines at es left → MovesTo V old new b c text
moves_to V old first new sh n at b c es left text many same sizes few has loaded moment told = λ most s none fits.
    let idle : IsIdle V old most s.now.world = subst (λ (r : Option (Pending V)). FitsCall V old most r s.now.world) none fits.1 in
    let listed = subst (λ (y : Shape). HasEntries V y (state_of V y s.now.world.acts) es) fits.0 (has most s.now.world idle) in
    let readers : n ≡ length s.now.world.readers = many ∙ sym idle.at.readers in
    let loads : Loads V sh (state_of V sh []) 0 es loaded.acts loaded.changes left = subst (λ (y : Shape). Loads V y (state_of V y []) 0 es loaded.acts loaded.changes left) same loaded.loads in (
      record { shape = sh; now = record { world = loaded.after; running = None } },
      record {
        entries = es;
        listed = listed.listed;
        held = listed.held;
        sizes = sizes ∙ ap (λ (y : Shape). with_sizes y b c) fits.0;
        acts = loaded.acts;
        changes = loaded.changes;
        left = left;
        loads = subst (λ (z : State V). Loads V sh z 0 es loaded.acts loaded.changes left) (state_none V sh) loads;
        makes = subst (λ (m : ℕ). WriterMakes V sh (first_trace V sh m) loaded.acts loaded.after) readers (subst (λ (y : Shape). WriterMakes V y (first_trace V sh n) loaded.acts loaded.after) same loaded.makes);
        idle = refl;
        told = told ∙ ap (λ (m : ℕ). reopened_lines m es left) (moment ∙ ap (λ (y : Shape). length (state_of V y loaded.after.acts).history) (loaded.shape ∙ same));
      },
      (loaded.shape ∙ same, idle_more V new _ most_loading loaded.after (omega (arith, few)) loaded.idle),
    )

-- a put that takes no other key's item is answered as such
pub only_kept : (V : ℕ) (sh : Shape) (k : ℕ) (v : List ℕ) (s : State V) (acts : List Made) (a : Answer) → Answered V sh (KeptCall k v) s acts a → (told : Result Put Why) × (a ≡ answer.Kept told)
only_kept V sh k v s acts (answer.Put told) answered = absurd answered.means
only_kept V sh k v s acts (answer.PutIf told) answered = absurd answered.means
only_kept V sh k v s acts (answer.Remove told) answered = absurd answered.means
only_kept V sh k v s acts (answer.Kept told) answered = (told, refl)
