-- When the answers of lookups from C are true.
use Rattle.std.proofs.Common.{◌≡◌, ⊎_elim, inl, inr, ℕ, ◌^◌, ◌<◌, List, Option, Some, None}
use Rattle.mc_words.specs.declared.history.Reply.{Reply}
use Rattle.mc_door.specs.AnySides.{role_in, width_of}
use Rattle.mc_door.specs.Looks.{reply_of}
use Rattle.mc_door.specs.Means.{GetOrTurnTells, GetTells, Looks, LooksOrTries}
use Rattle.mc_door.specs.Peeks.{Peeks, PeekTells, answer_of}
use Rattle.mc_door.specs.Roles.{Role, Tries, Holds, Idle}
use Rattle.mc_door.specs.declared.outcome.Outcome.{Outcome}
use Rattle.mc_executions.specs.RunningDoor.{AnswersAreTimed, IsTimedBy, PeekIsTimedBy, PeekTellsTimed, TellsTimed}
use Rattle.mc_executions.proofs.RunningShards.{held_peek_is_timed, looked_or_met, holder_is_timed, pass_is_timed}

pub looks_are_timed : (V : ℕ) (role role' : Role) (k : ℕ) (reply : Reply V) → k < 2 ^ 64 → Looks V role role' k reply → IsTimedBy V role role' k reply
looks_are_timed V (Tries s rs) (Tries s' rs') k reply small looks = pass_is_timed V s k rs rs' reply small (looked_or_met V s k rs rs' reply looks.1.goes)
looks_are_timed V (Holds s h) (Holds s' h') k reply small looks = holder_is_timed V s k h h' reply looks.1.of looks.1.got
looks_are_timed V (Tries s rs) (Holds s' h') k reply small looks = absurd looks
looks_are_timed V (Tries s rs) Idle k reply small looks = absurd looks
looks_are_timed V (Holds s h) (Tries s' rs') k reply small looks = absurd looks
looks_are_timed V (Holds s h) Idle k reply small looks = absurd looks
looks_are_timed V Idle role' k reply small looks = absurd looks

pub looks_or_tries_are_timed : (V : ℕ) (role role' : Role) (k : ℕ) (reply : Reply V) → k < 2 ^ 64 → LooksOrTries V role role' k reply → IsTimedBy V role role' k reply
looks_or_tries_are_timed V (Tries s rs) (Tries s' rs') k reply small looks = pass_is_timed V s k rs rs' reply small looks.1.goes
looks_or_tries_are_timed V (Holds s h) (Holds s' h') k reply small looks = holder_is_timed V s k h h' reply looks.1.of looks.1.got
looks_or_tries_are_timed V (Tries s rs) (Holds s' h') k reply small looks = absurd looks
looks_or_tries_are_timed V (Tries s rs) Idle k reply small looks = absurd looks
looks_or_tries_are_timed V (Holds s h) (Tries s' rs') k reply small looks = absurd looks
looks_or_tries_are_timed V (Holds s h) Idle k reply small looks = absurd looks
looks_or_tries_are_timed V Idle role' k reply small looks = absurd looks

-- ---- what was told of them
pub gets_told_are_timed : (V : ℕ) (role role' : Role) (Same : Type 0) (k : ℕ) (old new : List ℕ) (told : Outcome) → k < 2 ^ 64 → GetTells V role role' Same k old new told → TellsTimed V role role' Same k old new told
gets_told_are_timed V role role' Same k old new told small tells =
    ⊎_elim (λ made. inl (record { made = made.made; is = made.is; means = looks_are_timed V role role' k (reply_of V new made.made) small made.means.1 })) (λ refused. inr refused) tells

pub gets_or_turns_told_are_timed : (V : ℕ) (role role' : Role) (Same : Type 0) (k : ℕ) (old new : List ℕ) (told : Outcome) → k < 2 ^ 64 → GetOrTurnTells V role role' Same k old new told → TellsTimed V role role' Same k old new told
gets_or_turns_told_are_timed V role role' Same k old new told small tells =
    ⊎_elim (λ made. inl (record { made = made.made; is = made.is; means = looks_or_tries_are_timed V role role' k (reply_of V new made.made) small made.means.1 })) (λ refused. inr refused) tells

peeks_are_timed : (V : ℕ) (role role' : Role) (k : ℕ) (answer : Option (Reply V)) → Peeks V role role' k answer → PeekIsTimedBy V role k answer
peeks_are_timed V (Holds s h) (Holds s' h') k (Some reply) peeks = λ of. held_peek_is_timed V s k h reply of peeks.2
peeks_are_timed V (Holds s h) (Holds s' h') k None peeks = tt
peeks_are_timed V (Holds s h) (Tries s' rs') k answer peeks = absurd peeks
peeks_are_timed V (Holds s h) Idle k answer peeks = absurd peeks
peeks_are_timed V (Tries s rs) role' k answer peeks = tt
peeks_are_timed V Idle role' k answer peeks = tt

pub peeks_told_are_timed : (V : ℕ) (role role' : Role) (Same : Type 0) (k : ℕ) (old new : List ℕ) (told : Outcome) → PeekTells V role role' Same k old new told → PeekTellsTimed V role Same k old new told
peeks_told_are_timed V role role' Same k old new told tells =
    ⊎_elim (λ made. inl (record { made = made.made; is = made.is; means = peeks_are_timed V role role' k (answer_of V new made.made) made.means.1 })) (λ refused. inr refused) tells

pub answers_are_timed : AnswersAreTimed
answers_are_timed side side' k old new told small = (gets_told_are_timed (width_of side) (role_in side) (role_in side') (side' ≡ side) k old new told small, gets_or_turns_told_are_timed (width_of side) (role_in side) (role_in side') (side' ≡ side) k old new told small)
