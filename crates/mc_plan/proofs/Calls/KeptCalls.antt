-- A put that takes no other key's item: it is a put that sweeps for none, and if one would have to, it is refused.
use Rattle.std.proofs.Common.{ℕ, ◌<◌, List, [], Some, None, Result, Ok, Err, arith, refl}
use Rattle.mc_words.specs.declared.policy.Policy.{Policy}
use Rattle.mc_words.specs.Checks.{policy_of, shape_of}
use Rattle.mc_words.specs.declared.shape.Shape.{Shape}
use Rattle.mc_theory.specs.States.{State}
use Rattle.mc_theory.specs.declared.act.Act.{Act}
use Rattle.mc_search.specs.Paths.{path_of_room}
use Rattle.mc_search.specs.declared.room.Room.{Room}
use Rattle.mc_plan.specs.declared.answer.Answer.TheVariants as answer
use Rattle.mc_plan.specs.declared.answer.Put.{Put}
use Rattle.mc_plan.specs.declared.answer.Put.TheVariants.{Stored, Renewed}
use Rattle.mc_plan.specs.declared.answer.PutError.{PutError}
use Rattle.mc_plan.specs.declared.answer.PutError.TheVariants.{NoPath, AllRecent, Spent}
use Rattle.mc_plan.specs.declared.answer.Why.TheVariants as left
use Rattle.mc_plan.specs.declared.books.Books.{Books}
use Rattle.mc_plan.specs.Books.{IsPlanned, Waits}
use Rattle.mc_plan.specs.Inside.Clerks.{kept_told}
use Rattle.mc_plan.specs.Making.{state_after_acts}
use Rattle.mc_plan.specs.WholeCalls.{IsSweepOf, KeptCall, Marks, Means, PutCall}
use Rattle.mc_plan.proofs.Calls.AfterPlan.{idle_planned, needs_item}

-- what the answer of a put without a sweep means
kept_means : (V : ℕ) (sh : Shape) (policy : Policy) (k : ℕ) (v : List ℕ) (s t : State V) (told : Result Put PutError) → 0 < sh.items → IsSweepOf V sh policy s [] (answer.Put told) → Means sh (PutCall k v) (answer.Put told) s t → Means sh (KeptCall k v) (answer.Kept (kept_told told)) s t
kept_means V sh policy k v s t (Ok (Stored at moves None)) some swept means = means
kept_means V sh policy k v s t (Ok (Stored at moves (Some evicted))) some swept means = absurd (cc swept.1.2)
kept_means V sh policy k v s t (Ok (Renewed at)) some swept means = means
kept_means V sh policy k v s t (Err NoPath) some swept means = means
kept_means V sh policy k v s t (Err AllRecent) some swept means = absurd (omega (arith, swept.1, some))
kept_means V sh policy k v s t (Err Spent) some swept means = means

-- its marks are those of a put
kept_marks : (V : ℕ) (sh : Shape) (policy : Policy) (w : List ℕ) (k : ℕ) (v : List ℕ) (told : Result Put PutError) (acts : List Act) → Marks V sh policy w (PutCall k v) (answer.Put told) acts → Marks V sh policy w (KeptCall k v) (answer.Kept (kept_told told)) acts
kept_marks V sh policy w k v (Ok told) acts marks = marks
kept_marks V sh policy w k v (Err refusal) acts marks = marks

-- a put that is planned without a sweep is planned as one that takes no other key's item
pub kept_planned : (V : ℕ) (b : Books) (plan : List Act) (k : ℕ) (v : List ℕ) (s : State V) (told : Result Put PutError) → IsSweepOf V (shape_of b.checked) (policy_of b.checked) s [] (answer.Put told) → IsPlanned V b plan (PutCall k v) s s (answer.Put told) → IsPlanned V b plan (KeptCall k v) s s (answer.Kept (kept_told told))
kept_planned V b plan k v s told swept p = record {
  allowed = p.allowed;
  means = kept_means V (shape_of b.checked) (policy_of b.checked) k v s (state_after_acts V (shape_of b.checked) s plan) told (omega (arith, p.ends.stands)) swept p.means;
  marks = kept_marks V (shape_of b.checked) (policy_of b.checked) _ k v told plan p.marks;
  ends = p.ends;
}

-- and one that would wait for an item is refused
pub refused_item : (V : ℕ) (b : Books) (k : ℕ) (v : List ℕ) (s : State V) (room : Room) → Waits V b k v s room → IsPlanned V b [] (KeptCall k v) s s (answer.Kept (Err left.NoItem))
refused_item V b k v s room waits =
    let needs = needs_item V b s k (path_of_room b.far.value.path room) waits.known waits.unspent waits.absent waits.least waits.none in
    idle_planned V b (KeptCall k v) s (answer.Kept (Err left.NoItem)) waits.known (record { needs = needs.0; unchanged = refl }) tt
