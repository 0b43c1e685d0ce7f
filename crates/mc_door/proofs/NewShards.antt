-- What the passes of new shards have seen.
use Rattle.std.proofs.Common.{ℕ, ◌≡◌, All, List, sym, subst}
use Rattle.mc_plan.specs.declared.answer.Why.{Why}
use Rattle.mc_words.specs.declared.history.Change.{Change}
use Rattle.mc_words.specs.declared.shape.Shape.{Shape}
use Rattle.mc_shards.specs.Loadings.{HaveLoaded, HoldEntries}
use Rattle.mc_shards.specs.Openings.{HasSeenNothing}
use Rattle.mc_shards.specs.Plain.{seens}
use Rattle.mc_shards.specs.Sharded.{Sharded}
use Rattle.mc_shared.specs.Records.{ReaderRecord}
use Rattle.mc_door.specs.Loading.{HaveSeenLoads}
use Rattle.mc_door.specs.NewPasses.{HaveSeenNothing}

-- the passes of new shards, put behind a pointer
pub have_seen_nothing : (V : ℕ) (passes passes' : List (List ReaderRecord)) → passes' ≡ passes → All (HasSeenNothing V) passes → HaveSeenNothing V passes'
have_seen_nothing V passes passes' same fresh = subst (HaveSeenNothing V) (sym same) record { each = fresh }

-- the shards were opened with this shape and these entries, and then put behind a pointer
pub have_seen_loads : (V : ℕ) (sh : Shape) (s s' : Sharded) (es es' : List (ℕ × List ℕ)) (left : List (ℕ × Why)) (passes passes' : List (List ReaderRecord)) → s.shape ≡ sh → s' ≡ s → es ≡ es'
    → passes' ≡ passes → HaveLoaded V sh es s.tables passes left
    → ((hs : List (List (Change V))) × HoldEntries V sh es hs left × All (λ pass. seens V pass ≡ hs) passes) → HaveSeenLoads V s' es' left passes'
have_seen_loads V sh s s' es es' left passes passes' shaped kept are same loaded plain =
    subst (λ (s : Sharded). HaveSeenLoads V s es' left passes') (sym kept)
    (subst (λ (es : List (ℕ × List ℕ)). HaveSeenLoads V s es left passes') are
    (subst (λ (passes : List (List ReaderRecord)). HaveSeenLoads V s es left passes) (sym same) record {
      loaded = subst (λ (sh : Shape). HaveLoaded V sh es s.tables passes left) (sym shaped) loaded;
      histories = plain.0;
      plain = subst (λ (sh : Shape). HoldEntries V sh es plain.0 left) (sym shaped) plain.1;
      seen = plain.2;
    }))
