-- The call of two puts.
use Rattle.std.specs.Prelude.{ℕ, List}
use Rattle.mc_cache.specs.Put.{Put}
use Rattle.mc_cache.specs.PutError.{PutError}
use Rattle.mc_cache.specs.TurnCalls.{Contract}
use Rattle.uses.specs.OneTurn.{MeansBoth}

-- the contract of such a call, in plain words alone
abbrev pub both_contract : ℕ → ℕ → List ℕ → List ℕ → Contract 1 Put PutError
both_contract k l v w = record {
  called = λ sh told before after. Unit {0};
  means = λ h h' told. MeansBoth h h' k l v w told;
  fails = λ sh h made told. Unit {0};
}
