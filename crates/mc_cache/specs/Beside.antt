-- A lookup with the writer beside the reader.
use Rattle.std.specs.Prelude.{ℕ, ◌≡◌, List}
use Rattle.mc_words.specs.declared.history.Reply.{Reply}
use Rattle.mc_words.specs.declared.shape.Shape.{Shape}
use Rattle.mc_theory.specs.Lists.{Made, state_of}
use Rattle.mc_shared.specs.Records.{ReaderRecord}
use Rattle.mc_shared.specs.Steps.{mark_at}
use Rattle.mc_shared.specs.Views.{IsFrontOf}
use Rattle.mc_writer.specs.WriterCalls.{RepliesNow}

-- the reader has seen all of the writer's acts, and its reply is that of the state after them
pub record HasLookedBeside (V : ℕ) (sh : Shape) (k : ℕ) (acts : List Made) (before after : ReaderRecord) (reply : Reply V) : Type 0 where
  pub of : after.of ≡ before.of
  pub number : after.number ≡ before.number
  pub begins : IsFrontOf before.front acts
  pub front : after.front ≡ acts
  pub replies : RepliesNow V sh k (state_of V sh acts) (λ i. mark_at i acts) before.done after.done reply
