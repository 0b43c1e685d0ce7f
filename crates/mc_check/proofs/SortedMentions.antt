-- A search in the sorted mentions of a history.
use Rattle.std.proofs.Common.{ℕ, ◌≡◌, ◌≢◌, ◌-◌, ◌^◌, ◌<◌, ◌≤◌, List, length, get_or, Some, None, refl, ap, sym, ◌∙◌, inl, inr, arith}
use Rattle.std.specs.Prelude.{slice_get, slice_index_or}
use Rattle.std.specs.List.Sorted.{IsNonDecreasingBy, IsPermutation}
use Rattle.std.proofs.lemmas.List.Sorted.{Contains-permutation, IsPermutation-sym}
use Rattle.std.proofs.lemmas.Bool.{cases_lt}
use Rattle.std.proofs.lemmas.List.{get_or_default}
use Rattle.std.proofs.lemmas.Option.{slice_get-get_or, slice_get_within}
use Rattle.mc_words.specs.declared.history.Change.{Change}
use Rattle.mc_words.specs.declared.history.Change.TheVariants.{Remove}
use Rattle.mc_check.specs.declared.mentions.Mention.{Mention}
use Rattle.mc_check.specs.Changes.{key_in}
use Rattle.mc_check.specs.Inside.Last.{IsLast}
use Rattle.mc_check.specs.Inside.Mentions.{AreInTime, AreMentionsOf, IsBound, MentionAll, mention, rank, rank_of}

-- ---- in the order of time
pub in_time : {V : ℕ} (h : List (Change V)) (ms : List Mention) → length h < 2 ^ 64 → AreInTime h (length h) ms → MentionAll h ms
in_time h ms small t = record {
  small = small;
  named = λ m k.
      let c = get_or h k.0 (Remove 0) in
      let there : slice_get h k.0 ≡ Some c = slice_get-get_or h k.0 (Remove 0) (omega (arith, t.count, k.1)) in
      let is : m ≡ mention c k.0 = sym k.2 ∙ t.at k.0 c m (omega (arith, t.count, k.1)) there in
      (c, rw is there, rw is refl);
  all = λ i c there. (i, omega (arith, t.count, slice_get_within h i c there), t.at i c (mention c i) (slice_get_within h i c there) there);
}

-- ---- sorted
pub sorted_mentions : {V : ℕ} (h : List (Change V)) (ms ns : List Mention) → MentionAll h ms → IsPermutation ms ns → IsNonDecreasingBy rank_of ns → AreMentionsOf h ns
sorted_mentions h ms ns a p s = record {
  mentioned = record {
    small = a.small;
    named = λ m k. a.named m (Contains-permutation ns ms m (IsPermutation-sym ms ns p) k);
    all = λ i c there. Contains-permutation ms ns (mention c i) p (a.all i c there);
  };
  sorted = s;
}

-- ---- searched: p mentions come before the place that a mention of the key at moment n would have
-- a change of the key before moment n is mentioned among the first p, and no later than the last of these
mentioned_before : {V : ℕ} (h : List (Change V)) (ms : List Mention) (k n p : ℕ) (d : Mention) → AreMentionsOf h ms → IsBound ms (rank k n) p → (j : ℕ) (c : Change V) → j < n → slice_get h j ≡ Some c → key_in c ≡ k
    → (0 < p) × (rank k j ≤ rank_of (slice_index_or ms (p - 1) d))
mentioned_before h ms k n p d a b j c before there e =
    let q = a.mentioned.all j c there in
    let m = mention c j in
    let at : get_or ms q.0 d ≡ m = get_or_default ms q.0 d m q.1 ∙ q.2 in
    let ranked : rank_of (get_or ms q.0 d) ≡ rank k j = ap rank_of at ∙ ap (λ (x : ℕ). rank x j) e in
    let first : q.0 < p = elim (cases_lt q.0 p) [
      | inl low ↦ low
      | inr past ↦ absurd (omega (arith, b.above q.0 d past q.1, ranked, before))
    ] in
    (omega (arith, first), omega (arith, ranked, a.sorted q.0 (p - 1) d (omega (arith, first)) (omega (arith, first, b.within))))

pub none_before : {V : ℕ} (h : List (Change V)) (ms : List Mention) (k n p : ℕ) → AreMentionsOf h ms → IsBound ms (rank k n) p → p ≡ 0 → IsLast h k n None
none_before h ms k n p a b none = λ j c low before there e. absurd (omega (arith, none, (mentioned_before h ms k n p (mention c j) a b j c before there e).0))

pub other_before : {V : ℕ} (h : List (Change V)) (ms : List Mention) (k n p : ℕ) (d : Mention) → n ≤ length h → AreMentionsOf h ms → IsBound ms (rank k n) p → 0 < p → (slice_index_or ms (p - 1) d).key ≢ k → IsLast h k n None
other_before h ms k n p d within a b some ne = λ j c low before there e.
    let m = slice_index_or ms (p - 1) d in
    let named = a.mentioned.named m (p - 1, omega (arith, some, b.within), get_or_default ms (p - 1) m d (omega (arith, some, b.within))) in
    ne (omega (arith, a.mentioned.small, slice_get_within h m.moment named.0 named.1, before, within, b.below (p - 1) d (omega (arith, some)), (mentioned_before h ms k n p d a b j c before there e).1))

pub last_before : {V : ℕ} (h : List (Change V)) (ms : List Mention) (k n p : ℕ) (d : Mention) → n ≤ length h → AreMentionsOf h ms → IsBound ms (rank k n) p → 0 < p → (slice_index_or ms (p - 1) d).key ≡ k → IsLast h k n (Some (slice_index_or ms (p - 1) d).moment)
last_before h ms k n p d within a b some e =
    let m = slice_index_or ms (p - 1) d in
    let named = a.mentioned.named m (p - 1, omega (arith, some, b.within), get_or_default ms (p - 1) m d (omega (arith, some, b.within))) in (
      omega (arith, e, b.below (p - 1) d (omega (arith, some))),
      (named.0, named.1, named.2 ∙ e),
      λ j c after before there e'. absurd (omega (arith, e, after, (mentioned_before h ms k n p d a b j c before there e').1)),
    )
