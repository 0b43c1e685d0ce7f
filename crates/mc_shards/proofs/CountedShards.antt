-- The keys of shards are counted one shard after the other, from the last one back.
use Rattle.std.specs.Prelude.{IfSome}
use Rattle.std.proofs.Common.{ℕ, ◌≡◌, ◌+◌, ◌*◌, ◌≤◌, ◌∙◌, List, [], ◌∷◌, length, drop, Some, ap, arith, subst, sym}
use Rattle.std.proofs.lemmas.List.{length-map}
use Rattle.std.proofs.Math.Nat.{mul-suc}
use Rattle.std.proofs.lemmas.List.Sums.{sum_by-cons}
use Rattle.std.proofs.lemmas.Option.{none-some}
use Rattle.std.proofs.Math.Numerals.{add-one}
use Rattle.mc_words.proofs.Count.{keys_fit}
use Rattle.mc_words.specs.History.{key_count}
use Rattle.mc_words.specs.declared.history.Change.{Change}
use Rattle.mc_shared.specs.Records.{ReaderRecord, WriterRecord}
use Rattle.mc_theory.specs.Lists.{state_of}
use Rattle.mc_cache.specs.Plain.{Begins, history, seen}
use Rattle.mc_cache.specs.Resting.{IsAtRest}
use Rattle.mc_cache.specs.Turns.{HasMetAtDesk}
use Rattle.mc_shards.proofs.Dealt.{as_many}
use Rattle.mc_shards.proofs.ListedShards.{drop_all, from_change}
use Rattle.mc_shards.specs.Counted.{keys_in_all}
use Rattle.mc_shards.specs.Plain.{seens}
use Rattle.mc_shards.specs.Sharded.{ArePassOf, ChangesAt, Sharded}

-- a cache holds no more keys than it has items
pub few_keys : (V : ℕ) (old new : ReaderRecord) → HasMetAtDesk V old new → key_count (seen V new) ≤ old.of.layout.shape.items
unfolding seen
few_keys V old new met =
    let writer = met.writer in
    let state = state_of V writer.of.layout.shape writer.acts in
    let fit : key_count state.history ≤ writer.of.layout.shape.items = keys_fit V writer.of.layout.shape state.words state.history (λ k. met.stood.rests.agrees.keys k (none-some k)) in
    let same : (key_count (seen V new) ≡ key_count (state_of V old.of.layout.shape writer.acts).history) = ap (λ (r : ReaderRecord). key_count (seen V r)) met.caught in
    subst (λ (n : ℕ). n ≤ old.of.layout.shape.items) (sym same) (subst (λ o. key_count (state_of V o.layout.shape writer.acts).history ≤ o.layout.shape.items) met.of fit)

pub few_at_rest : (V : ℕ) (w : WriterRecord) → IsAtRest V w → key_count (history V w) ≤ w.of.layout.shape.items
unfolding history
few_at_rest V w rests =
    let state = state_of V w.of.layout.shape w.acts in
    keys_fit V w.of.layout.shape state.words state.history (λ k. rests.agrees.keys k (none-some k))

-- ---- before the first, after one more
pub counted_none : (V : ℕ) (s : Sharded) (rs : List ReaderRecord) (n : ℕ) → ArePassOf s rs → n ≡ length s.tables → 0 ≡ keys_in_all (drop n (seens V rs))
counted_none V s rs n are is =
    let none : drop n (seens V rs) ≡ [] = drop_all (seens V rs) n (omega (arith, is, length-map rs (seen V), as_many s rs are)) in
    sym (ap (λ (hs : List (List (Change V))). keys_in_all hs) none)

pub counted_more : (V m n : ℕ) (hs hs' : List (List (Change V))) (many more : ℕ) → m ≡ n + 1 → many ≡ keys_in_all (drop m hs)
    → ChangesAt n hs hs' (λ h h'. Begins h h' × IfSome (Some more) (λ x. x ≡ key_count h')) → many + more ≡ keys_in_all (drop n hs')
counted_more V m n hs hs' many more next was c =
    let after : drop n hs' ≡ c.after ∷ drop m hs = from_change m n hs hs' _ next c in
    let now : keys_in_all (drop n hs') ≡ key_count c.after + keys_in_all (drop m hs) = ap (λ (z : List (List (Change V))). keys_in_all z) after ∙ sum_by-cons key_count c.after (drop m hs) in
    omega (arith, now, was, c.goes.1)

-- the shards that are left have room for all their keys
pub room_left : (items left now most many more : ℕ) → left ≡ now + 1 → more ≤ items → many + items * left ≤ most → many + more + items * now ≤ most
room_left items left now most many more next few room =
    let each : items * left ≡ items * now + items = ap (λ (n : ℕ). items * n) (next ∙ add-one now) ∙ mul-suc items now in
    omega (arith, each, few, room)
