-- Lookups of a pass, one after the other.
use Rattle.std.proofs.Common.{ℕ, zero, suc, ◌≡◌, ◌+◌, ◌<◌, ◌≤◌, ◌∙◌, List, [], ◌∷◌, ◌++◌, length, ap, append_assoc, arith, get_or, inl, inr, refl, subst, sym}
use Rattle.std.specs.Prelude.{slice_index, slice_set}
use Rattle.std.proofs.lemmas.Bool.{cases_eq}
use Rattle.std.proofs.lemmas.List.{get_or-set_other, get_or-set_same, length-append, length-map}
use Rattle.mc_words.specs.Keys.{shard_of}
use Rattle.mc_words.specs.declared.history.Change.{Change}
use Rattle.mc_words.specs.declared.history.Reply.{Reply}
use Rattle.mc_words.specs.declared.history.Reply.TheVariants.{Found, Absent, Busy}
use Rattle.mc_words.specs.declared.mix.Mix.{Mix}
use Rattle.mc_theory.specs.Plain.{IsBetween}
use Rattle.mc_cache.specs.Plain.{Begins}
use Rattle.mc_cache.proofs.HistoryLaws.{history_laws}
use Rattle.mc_shards.proofs.OneMap.{Histories, all_begin_set, own_history, was_history}
use Rattle.mc_shared.specs.Records.{ReaderRecord}
use Rattle.mc_cache.specs.Plain.{seen}
use Rattle.mc_shards.proofs.Dealt.{as_many}
use Rattle.mc_shards.specs.Plain.{AllBegin, HasAnswered, history_of, seens}
use Rattle.mc_reader.specs.Records.{HasLooked}
use Rattle.mc_shards.specs.Sharded.{ArePassOf, ChangesAt, HaveLookedAt, Sharded, shard_in}
use Rattle.std.proofs.lemmas.Option.{slice_get_within}

begins_then : {V : ℕ} (h h' h'' : List (Change V)) → Begins h h' → Begins h' h'' → Begins h h''
begins_then {V} h h' h'' a b = (a.0 ++ b.0, b.1 ∙ (ap (λ (z : List (Change V)). z ++ b.0) a.1 ∙ append_assoc h a.0 b.0))

pub all_begin_then : {V : ℕ} (hs hs' hs'' : Histories V) → AllBegin hs hs' → AllBegin hs' hs'' → AllBegin hs hs''
all_begin_then [] [] [] a b = tt
all_begin_then [] [] (x ∷ xs) a b = absurd b
all_begin_then [] (x ∷ xs) zs a b = absurd a
all_begin_then (x ∷ xs) [] zs a b = absurd a
all_begin_then (x ∷ xs) (y ∷ ys) [] a b = absurd b
all_begin_then (x ∷ xs) (y ∷ ys) (z ∷ zs) a b = (begins_then x y z a.0 b.0, all_begin_then xs ys zs a.1 b.1)

pub as_long : {V : ℕ} (hs hs' : Histories V) → AllBegin hs hs' → length hs ≡ length hs'
as_long [] [] a = refl
as_long [] (x ∷ xs) a = absurd a
as_long (x ∷ xs) [] a = absurd a
as_long (x ∷ xs) (y ∷ ys) a = ap suc (as_long xs ys a.1)

begins_at : {V : ℕ} (hs hs' : Histories V) (n : ℕ) → AllBegin hs hs' → Begins (get_or hs n []) (get_or hs' n [])
begins_at [] [] n a = ([], refl)
begins_at [] (x ∷ xs) n a = absurd a
begins_at (x ∷ xs) [] n a = absurd a
begins_at (x ∷ xs) (y ∷ ys) zero a = a.0
begins_at (x ∷ xs) (y ∷ ys) (suc n) a = begins_at xs ys n a.1

-- the history of a key's shard grows
pub history_begins : (V : ℕ) (mix : Mix) (hs hs' : Histories V) (k : ℕ) → AllBegin hs hs' → Begins (history_of mix hs k) (history_of mix hs' k)
history_begins V mix hs hs' k a =
    subst (λ (n : ℕ). Begins (history_of mix hs k) (get_or hs' (shard_of mix n k) [])) (as_long hs hs' a) (begins_at hs hs' (shard_of mix (length hs) k) a)

between_longer : {V : ℕ} (lo hi more : ℕ) (r : Reply V) → hi ≤ more → IsBetween lo hi r → IsBetween lo more r
between_longer lo hi more (Found v at since) l b = (b.0, omega (arith, l, b.1))
between_longer lo hi more (Absent at) l b = (b.0, omega (arith, l, b.1))
between_longer lo hi more Busy l b = tt

between_later : {V : ℕ} (less lo hi : ℕ) (r : Reply V) → less ≤ lo → IsBetween lo hi r → IsBetween less hi r
between_later less lo hi (Found v at since) l b = (omega (arith, l, b.0), b.1)
between_later less lo hi (Absent at) l b = (omega (arith, l, b.0), b.1)
between_later less lo hi Busy l b = tt

long_of : {V : ℕ} (h h' : List (Change V)) → Begins h h' → length h ≤ length h'
long_of h h' b = omega (arith, ap length b.1, length-append h b.0)

-- an answer stays one as more is seen
pub answered_longer : (V : ℕ) (h h' h'' : List (Change V)) (k : ℕ) (r : Reply V) → Begins h' h'' → HasAnswered V h h' k r → HasAnswered V h h'' k r
answered_longer V h h' h'' k r b a = record {
  begins = begins_then h h' h'' a.begins b;
  true = (history_laws V).stay h' h'' k r b a.true;
  between = between_longer (length h) (length h') (length h'') r (long_of h' h'' b) a.between;
}

-- and is one from an earlier beginning on
pub answered_later : (V : ℕ) (h h' h'' : List (Change V)) (k : ℕ) (r : Reply V) → Begins h h' → HasAnswered V h' h'' k r → HasAnswered V h h'' k r
answered_later V h h' h'' k r b a = record {
  begins = begins_then h h' h'' b a.begins;
  true = a.true;
  between = between_later (length h) (length h') (length h'') r (long_of h h' b) a.between;
}

-- one lookup more
pub looked_more : (V : ℕ) (of : Sharded) (ks : List ℕ) (k : ℕ) (old mid new : List ReaderRecord) (rs : List (Reply V)) (r : Reply V) → HaveLookedAt V of ks old mid rs → ChangesAt (shard_in of k) mid new (λ a b. HasLooked V of.shape k a b r) → HaveLookedAt V of (ks ++ k ∷ []) old new (rs ++ r ∷ [])
looked_more V of [] k old mid new [] r h one = (new, subst (λ (x : List ReaderRecord). ChangesAt (shard_in of k) x new (λ a b. HasLooked V of.shape k a b r)) h one, refl)
looked_more V of (x ∷ ks) k old mid new (y ∷ rs) r h one = (h.0, h.1, looked_more V of ks k h.0 mid new rs r h.2 one)
looked_more V of [] k old mid new (y ∷ rs) r h one = absurd h
looked_more V of (x ∷ ks) k old mid new [] r h one = absurd h

-- one lookup, of the one map
pub all_begin_lookup : (V : ℕ) (n : ℕ) (hs hs' : Histories V) (k : ℕ) (r : Reply V) → ChangesAt n hs hs' (λ h h'. HasAnswered V h h' k r) → AllBegin hs hs'
all_begin_lookup V n hs hs' k r c = subst (λ (z : Histories V). AllBegin hs z) (sym c.is) (all_begin_set hs n c.before c.after c.was c.goes.begins)

pub answered_here : (V : ℕ) (mix : Mix) (hs hs' : Histories V) (k : ℕ) (r : Reply V) → ChangesAt (shard_of mix (length hs) k) hs hs' (λ h h'. HasAnswered V h h' k r) → HasAnswered V (history_of mix hs k) (history_of mix hs' k) k r
answered_here V mix hs hs' k r c =
    let was : history_of mix hs k ≡ c.before = was_history V mix hs k c.before c.was in
    let is : history_of mix hs' k ≡ c.after = ap (λ (z : Histories V). history_of mix z k) c.is ∙ own_history V mix hs k c.after (slice_get_within hs (shard_of mix (length hs) k) c.before c.was) in
    subst (λ (p : List (Change V) × List (Change V)). HasAnswered V p.0 p.1 k r) (λ i. (sym was i, sym is i)) c.goes

-- ---- one lookup more of a row of keys
abbrev Answers : (V : ℕ) → Mix → Histories V → Histories V → List ℕ → List (Reply V) → ℕ → Type 0
Answers V mix hs hs' ks replies i = HasAnswered V (history_of mix hs (slice_index ks i)) (history_of mix hs' (slice_index ks i)) (slice_index ks i) (get_or replies i Busy)

pub one_more : (V : ℕ) (s : Sharded) (before now : List ReaderRecord) (hs hs'' : Histories V) (ks : List ℕ) (replies : List (Reply V)) (n : ℕ) (r : Reply V) → hs ≡ seens V before → ArePassOf s now → n < length replies → AllBegin hs (seens V now)
    → ((i : ℕ) → i < n → Answers V s.shape.mix hs (seens V now) ks replies i) → ChangesAt (shard_in s (slice_index ks n)) (seens V now) hs'' (λ h h'. HasAnswered V h h' (slice_index ks n) r)
    → AllBegin hs hs'' × ((i : ℕ) → i < n + 1 → Answers V s.shape.mix hs hs'' ks (slice_set replies n r) i)
one_more V s before now hs hs'' ks replies n r is are within begun was c =
    let mix : Mix = s.shape.mix in
    let k : ℕ = slice_index ks n in
    let hs' : Histories V = seens V now in
    let long : length hs' ≡ length s.tables = length-map now (seen V) ∙ as_many s now are in
    let here : ChangesAt (shard_of mix (length hs') k) hs' hs'' (λ h h'. HasAnswered V h h' k r) = subst (λ (m : ℕ). ChangesAt (shard_of mix m k) hs' hs'' (λ h h'. HasAnswered V h h' k r)) (sym long) c in
    let grew : AllBegin hs' hs'' = all_begin_lookup V (shard_of mix (length hs') k) hs' hs'' k r here in (
      all_begin_then hs hs' hs'' begun grew,
      λ i l. elim (cases_eq i n) [
        | inl same ↦
            subst (λ (j : ℕ). Answers V mix hs hs'' ks (slice_set replies n r) j) (sym same)
            (subst (λ (x : Reply V). HasAnswered V (history_of mix hs k) (history_of mix hs'' k) k x) (sym (get_or-set_same replies n r Busy within))
            (answered_later V (history_of mix hs k) (history_of mix hs' k) (history_of mix hs'' k) k r (history_begins V mix hs hs' k begun) (answered_here V mix hs' hs'' k r here)))
        | inr other ↦
            let q : ℕ = slice_index ks i in
            subst (λ (x : Reply V). HasAnswered V (history_of mix hs q) (history_of mix hs'' q) q x) (sym (get_or-set_other replies n i r Busy other))
            (answered_longer V (history_of mix hs q) (history_of mix hs' q) (history_of mix hs'' q) q (get_or replies i Busy) (history_begins V mix hs' hs'' q grew) (was i (omega (arith, l, other))))
      ],
    )
