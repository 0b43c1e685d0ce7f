-- The writes of a value, one after the other.
use Rattle.std.proofs.Common.{ℕ, ◌≡◌, ◌+◌, ◌^◌, ◌<◌, ◌≤◌, ◌∙◌, All, List, [], ◌∷◌, ◌++◌, ap, drop, get_or, length, append_assoc, append-nil, add-one, drop-cons, sym, arith, length-append}
use Rattle.std.proofs.Math.ListN.{drop_of_length-le}
use Rattle.std.proofs.lemmas.Grind.{get_or_default_zero}
use Rattle.mc_words.specs.History.{IsWord}
use Rattle.mc_words.specs.Places.{payload}
use Rattle.mc_words.proofs.Payload.{payload_is}
use Rattle.mc_theory.specs.declared.act.Act.{Act}
use Rattle.mc_theory.specs.declared.act.Act.TheVariants.{Item}
use Rattle.mc_plan.specs.Plans.{value_acts}

-- one write more is in the list, and one is left less
pub value_step : (acts : List Act) (i j x : ℕ) (v : List ℕ) → j < length v → x ≡ get_or v j 0
    → (acts ++ Item i (j + 1) x ∷ []) ++ value_acts i (j + 1 + 1) (drop (j + 1) v) ≡ acts ++ value_acts i (j + 1) (drop j v)
value_step acts i j x v l is =
    let parts : drop j v ≡ get_or v j 0 ∷ drop (j + 1) v = rw add-one (drop-cons v j 0 l) in
    rw (is, parts) (append_assoc acts (Item i (j + 1) (get_or v j 0) ∷ []) (value_acts i (j + 1 + 1) (drop (j + 1) v)))

-- no write is left
pub values_done : (acts all : List Act) (i j n : ℕ) (v : List ℕ) → length v ≤ n → acts ++ value_acts i j (drop n v) ≡ all → acts ≡ all
values_done acts all i j n v l left = sym (append-nil acts) ∙ ap (λ (rest : List ℕ). acts ++ value_acts i j rest) (sym (drop_of_length-le v l)) ∙ left

-- numbers that each fit 64 bits are words
pub are_words : (v : List ℕ) → ((i : ℕ) → get_or v i 0 < 2 ^ 64) → All IsWord v
are_words v each k d l = rw get_or_default_zero (each k)

-- a value and its stamp are all that an item keeps after its key
pub payload_of : (V : ℕ) (v : List ℕ) (at : ℕ) → length v ≡ V → length (v ++ at ∷ []) ≡ payload V
payload_of V v at e =
    let all = length-append v (at ∷ []) in
    omega (arith, e, all, payload_is V)

-- the stamp follows the value
pub stamp_at : (V : ℕ) (v : List ℕ) → length v ≡ V → length v + 1 ≡ payload V
stamp_at V v e = omega (arith, e, payload_is V)

-- acts added to none are the plan
pub plan_is : (acts before plan : List Act) → acts ≡ before ++ plan → before ≡ [] → acts ≡ plan
plan_is acts before plan added none = added ∙ ap (λ (b : List Act). b ++ plan) none
