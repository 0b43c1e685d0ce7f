-- A call that runs can end: by the rest of its plan, or by a sweep that finds every bit set.
use Rattle.std.proofs.Common.{ℕ, suc, ◌≡◌, ◌+◌, ◌%◌, ◌<◌, ◌∙◌, inr, List, [], ◌∷◌, ◌++◌, Option, Some, None, Err, ap, refl, sym, subst, drop, length, length-drop, append_assoc, append-nil, arith}
use Rattle.std.specs.Prelude.{IsSome, slice_get}
use Rattle.std.proofs.lemmas.List.{map-append, length-map, take-append-drop}
use Rattle.mc_words.specs.Checks.{policy_of}
use Rattle.mc_words.specs.declared.policy.Policy.TheVariants.{Clock}
use Rattle.mc_words.specs.declared.policy.Policy.{Policy}
use Rattle.mc_theory.specs.Lists.{Made}
use Rattle.mc_theory.specs.States.{State}
use Rattle.mc_theory.specs.declared.act.Act.{Act}
use Rattle.mc_plan.specs.WholeCalls.{Answered, AnsweredBy, Call, acts_of}
use Rattle.mc_plan.specs.Books.{IsSweeping}
use Rattle.mc_plan.specs.Clerks.{IsAtStage, IsOn, MakesPlan, next_act, next_in, shape_of_clerk}
use Rattle.mc_plan.specs.Making.{as_made}
use Rattle.mc_search.specs.Sweeps.{Swept, HasSwept, IsSearchBy, hand_acts, next_item}
use Rattle.mc_plan.specs.declared.answer.Answer.{Answer}
use Rattle.mc_plan.specs.declared.answer.Answer.TheVariants as answer
use Rattle.mc_plan.specs.declared.answer.PutError.TheVariants as why
use Rattle.mc_plan.specs.declared.clerk.Clerk.{Clerk}
use Rattle.mc_plan.specs.declared.clerk.Stage.{Stage}
use Rattle.mc_plan.specs.declared.clerk.Stage.TheVariants.{Idle, Sweeping, Planned}
use Rattle.mc_search.specs.declared.sweep.Sweep.{Sweep}
use Rattle.mc_plan.specs.declared.waiting.Waiting.{Waiting}
use Rattle.mc_plan.proofs.Calls.MidSweep.{hands_may, sweep_on}
use Rattle.mc_plan.proofs.Calls.MidCall.{next_below, whole_plan}
use Rattle.mc_plan.proofs.Calls.SweptStates.{hand_acts_then, rest_recent}
use Rattle.mc_plan.proofs.Calls.AfterSweep.{recent_planned}

-- acts that are made as planned are the planned ones
pub acts_made : (xs : List Act) → acts_of (as_made xs) ≡ xs
acts_made [] = refl
acts_made (x ∷ xs) = ap (λ (l : List Act). x ∷ l) (acts_made xs)

-- some acts more end the call with its answer
record CanEnd (V : ℕ) (clerk : Clerk V) (call : Call) (s : State V) (acts : List Made) : Type 0 where
  more : List Made
  told : Answer
  answered : Answered V (shape_of_clerk clerk) call s (acts ++ more) told
  some : IsSome (next_act clerk) → 0 < length more

-- a place that has an act is within the plan
some_below : (plan : List Act) (n : ℕ) (o : Option Act) → slice_get plan n ≡ o → IsSome o → n < length plan
some_below plan n None at some = absurd (cc some)
some_below plan n (Some a) at some = next_below plan n a at

-- the rest of the plan
ends_plan : (V : ℕ) (clerk : Clerk V) (call : Call) (s : State V) (acts : List Made) (told : Answer) → clerk.stage ≡ Planned told → policy_of clerk.books.checked ≡ Clock → MakesPlan V clerk.books clerk.plan.items clerk.made call s acts told → CanEnd V clerk call s acts
unfolding next_act
ends_plan V clerk call s acts told is clock makes =
    let plan = clerk.plan.items in
    let rest = drop clerk.made plan in
    let others = makes.others ++ as_made rest in
    let all : acts_of others ≡ plan =
    map-append (λ (m : Made). m.act) makes.others (as_made rest) ∙ ap (λ (l : List Act). acts_of makes.others ++ l) (acts_made rest) ∙ ap (λ (l : List Act). l ++ rest) makes.done ∙ take-append-drop clerk.made plan in
    let whole = whole_plan V clerk.books plan call s makes.sweep others told makes.hands makes.sweeps makes.planned all in
    let same : hand_acts makes.sweep ++ others ≡ acts ++ as_made rest = sym (append_assoc (hand_acts makes.sweep) makes.others (as_made rest)) ∙ ap (λ (l : List Made). l ++ as_made rest) (sym makes.parts) in
    let many : length (as_made rest) ≡ length rest = length-map rest (λ (a : Act). record { act = a; bit = 0 }) in
    let by_clock = λ (w : AnsweredBy V (shape_of_clerk clerk) (policy_of clerk.books.checked) call s (hand_acts makes.sweep ++ others) told). subst (λ (p : Policy). AnsweredBy V (shape_of_clerk clerk) p call s (hand_acts makes.sweep ++ others) told) clock w in
    record {
      more = as_made rest;
      told = told;
      answered = subst (λ (l : List Made). Answered V (shape_of_clerk clerk) call s l told) same (by_clock whole.0);
      some = λ some.
          let below = some_below plan clerk.made (slice_get plan clerk.made) refl (subst (λ (st : Stage V). IsSome (next_in st plan clerk.made)) is some) in
          let left = length-drop clerk.made plan in
          omega (arith, below, left, many);
    }

-- there are as many acts as readings
pub many_acts : (rs : List Swept) → length (hand_acts rs) ≡ length rs
many_acts [] = refl
many_acts (r ∷ rs) = ap suc (many_acts rs)

-- a sweep that finds every bit set from here on
ends_sweep : (V : ℕ) (clerk : Clerk V) (call : Call) (s : State V) (acts : List Made) (waiting : Waiting V) (rs : List Swept) → IsSweeping V clerk.books waiting call s rs → IsSome (next_item waiting.sweep) → acts ≡ hand_acts rs → CanEnd V clerk call s acts
ends_sweep V clerk call s acts waiting rs on next parts =
    let b = clerk.books in
    let items = (shape_of_clerk clerk).items in
    let rest = rest_recent waiting.sweep items s.hand rs on.has next in
    let all = rs ++ rest.0 in
    let sweep : Sweep = record { items = items; hand = (s.hand + length all) % items; left = 0; victim = None } in
    let has : HasSwept sweep items s.hand all = record { sweeps = rest.1; count = refl; start = on.has.start; left = omega (arith, rest.2); stands = refl; found = sym rest.3 } in
    let still : IsSweeping V b (record waiting { sweep = sweep }) call s all = sweep_on V b waiting call s rs on sweep all has in
    let searched : IsSearchBy (policy_of b.checked) items s.hand all = subst (λ (p : Policy). IsSearchBy p items s.hand all) (sym on.clock) rest.1 in
    let planned = recent_planned V b waiting.key waiting.value waiting.room call s all s.hand on.waits on.called searched (inr rest.2) rest.3 (λ clock. refl) on.waits.known.stands in
    let hands = hands_may V b (record waiting { sweep = sweep }) call s all still in
    let told = answer.Put (Err why.AllRecent) in
    let whole = whole_plan V (record b { hand = s.hand }) [] call s all [] told hands planned.1 planned.0 refl in
    let same : hand_acts all ++ [] ≡ acts ++ hand_acts rest.0 = append-nil (hand_acts all) ∙ hand_acts_then rs rest.0 ∙ ap (λ (l : List Made). l ++ hand_acts rest.0) (sym parts) in
    let by_clock = λ (w : AnsweredBy V (shape_of_clerk clerk) (policy_of b.checked) call s (hand_acts all ++ []) told). subst (λ (p : Policy). AnsweredBy V (shape_of_clerk clerk) p call s (hand_acts all ++ []) told) on.clock w in
    record {
      more = hand_acts rest.0;
      told = told;
      answered = subst (λ (l : List Made). Answered V (shape_of_clerk clerk) call s l told) same (by_clock whole.0);
      some = λ some. omega (arith, rest.4, many_acts rest.0);
    }

-- a call can end from whatever stage it is at
ends_at : (V : ℕ) (clerk : Clerk V) (call : Call) (s : State V) (acts : List Made) (st : Stage V) → clerk.stage ≡ st → policy_of clerk.books.checked ≡ Clock → IsAtStage V st clerk.books clerk.plan.items clerk.made call s acts → CanEnd V clerk call s acts
ends_at V clerk call s acts Idle is clock now = absurd now
ends_at V clerk call s acts (Sweeping waiting) is clock now = ends_sweep V clerk call s acts waiting now.0 now.1 now.2 now.4
ends_at V clerk call s acts (Planned told) is clock now = ends_plan V clerk call s acts told is clock now

-- some acts end the call with an answer: at least one, if one is to be made
pub can_end : (V : ℕ) (clerk : Clerk V) (call : Call) (s : State V) (acts : List Made) → IsOn V clerk call s acts → (more : List Made) × (told : Answer) × Answered V (shape_of_clerk clerk) call s (acts ++ more) told × (IsSome (next_act clerk) → 0 < length more)
can_end V clerk call s acts on =
    let ends = ends_at V clerk call s acts clerk.stage refl on.clock on.now in
    (ends.more, ends.told, ends.answered, ends.some)
