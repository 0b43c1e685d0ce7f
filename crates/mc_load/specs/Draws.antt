-- What the workers of a load draw. Worker 0 is the writer, and worker r + 1 is reader r.
use Rattle.std.specs.Prelude.{ℕ, ◌+◌, ◌*◌, ◌%◌, ◌==◌, replicate, if◌then◌else◌}
use Rattle.rand_pcg.specs.Lcg.{Lcg, advance, increment_of, started}
use Rattle.rand_pcg.specs.Pcg.{multiplier_64, pcg32}
use Rattle.mc_plan.specs.WholeCalls.{Call}
use Rattle.mc_plan.specs.WholeCalls.Call.{PutCall, RemoveCall}
use Rattle.mc_load.specs.declared.asked.Load.{Load}

-- the generator of a worker, which is that of the load's seed on the worker's stream, once it has given n words
unfoldable pub generator_after : Load → ℕ → ℕ → Lcg
generator_after load who n = advance 64 multiplier_64 n (started 64 multiplier_64 load.seed (increment_of 64 who))

-- word n that it gives, counted from 0
unfoldable pub drawn_word : Load → ℕ → ℕ → ℕ
drawn_word load who n = (pcg32 (generator_after load who n)).0

-- the key that this word draws
abbrev pub drawn_key : Load → ℕ → ℕ → ℕ
drawn_key load who n = drawn_word load who n % load.keys

-- call n of a worker that writes, counted from 0: a first word draws its key, and a second one whether it is a removal, as one in eight is; each word of a value is this one
unfoldable pub call_drawn : ℕ → Load → ℕ → ℕ → ℕ → Call
call_drawn V load who n word =
    if drawn_word load who (2 * n + 1) % 8 == 0 then RemoveCall (drawn_key load who (2 * n)) else PutCall (drawn_key load who (2 * n)) (replicate V word)

-- a single writer's call n: the words of a value are the call's number from 1 on
abbrev pub drawn_call : ℕ → Load → ℕ → Call
drawn_call V load n = call_drawn V load 0 n (n + 1)
