-- Shards are listed with their stamps, from the last one back.
use Rattle.std.proofs.Common.{ℕ, ◌≡◌, ◌+◌, ◌<◌, ◌∙◌, Bool, cond, eqb, eq-eqb, false, get_or, List, [], ◌∷◌, ◌++◌, drop, length, map, ne_eqb, Some, true, All, ap, inl, inr, refl, subst, sym}
use Rattle.std.proofs.lemmas.Bool.{cases_eq}
use Rattle.std.proofs.lemmas.List.{map-append}
use Rattle.std.proofs.lemmas.List.Elements.{All-append, All-cons, All-head, All-nil, All-tail}
use Rattle.mc_cache.specs.Stamped.{pair_of}
use Rattle.mc_words.specs.Keys.{shard_of}
use Rattle.mc_words.specs.Shapes.{HasShards}
use Rattle.mc_words.specs.declared.history.Change.{Change}
use Rattle.mc_words.specs.declared.mix.Mix.{Mix}
use Rattle.mc_writer.specs.GivenWay.{Holds}
use Rattle.mc_writer.specs.declared.entry.Entry.{Entry}
use Rattle.mc_shards.proofs.ListedShards.{held_all, held_more}
use Rattle.mc_shards.specs.Inside.Listed.{AddsStamped, AreListed, own_stamped_of}
use Rattle.mc_shards.specs.Own.{own_of}
use Rattle.mc_shards.specs.Plain.{history_of}
use Rattle.mc_shards.specs.Stamped.{AreStampedEntriesOfAll}

-- each is in the map of its key's shard, with its stamp
abbrev pub AreStamped : (V : ℕ) → Mix → List (List (Change V)) → List (Entry V) → Type 0
AreStamped V mix hs es = All (λ e. Holds (history_of mix hs e.key) e.key (Some e)) es

pairs_of_own : {V : ℕ} (mix : Mix) (many n : ℕ) (es : List (Entry V)) → map pair_of (own_stamped_of mix many n es) ≡ own_of mix many n (map pair_of es)
pairs_of_own mix many n [] = refl
pairs_of_own {V} mix many n (e ∷ es) =
    elim (eqb (shard_of mix many e.key) n) as (λ b. map pair_of (cond b (e ∷ own_stamped_of {V = V} mix many n es) (own_stamped_of mix many n es)) ≡ cond b (pair_of e ∷ own_of mix many n (map pair_of es)) (own_of mix many n (map pair_of es))) [
      | true ↦ ap (λ (xs : List (ℕ × List ℕ)). pair_of e ∷ xs) (pairs_of_own mix many n es)
      | false ↦ pairs_of_own mix many n es
    ]

-- the keys of a shard have their entries in its map
own_stamps : (V : ℕ) (mix : Mix) (many n : ℕ) (hs : List (List (Change V))) (es : List (Entry V)) → length hs ≡ many → All (λ e. Holds (get_or hs n []) e.key (Some e)) es → AreStamped V mix hs (own_stamped_of mix many n es)
own_stamps V mix many n hs [] long a = All-nil (λ (e : Entry V). Holds (history_of mix hs e.key) e.key (Some e))
own_stamps V mix many n hs (e ∷ es) long a =
    let Here : Entry V → Type 0 = λ d. Holds (history_of mix hs d.key) d.key (Some d) in
    let rest = own_stamps V mix many n hs es long (All-tail (λ (d : Entry V). Holds (get_or hs n []) d.key (Some d)) e es a) in
    let head = All-head (λ (d : Entry V). Holds (get_or hs n []) d.key (Some d)) e es a in
    elim (cases_eq (shard_of mix many e.key) n) [
      | inl same ↦
          let own : n ≡ shard_of mix (length hs) e.key = sym same ∙ ap (λ (m : ℕ). shard_of mix m e.key) (sym long) in
          subst (λ (b : Bool). All Here (cond b (e ∷ own_stamped_of mix many n es) (own_stamped_of mix many n es))) (sym (eq-eqb (shard_of mix many e.key) n same))
          (All-cons Here e (own_stamped_of mix many n es) (subst (λ (m : ℕ). Holds (get_or hs m []) e.key (Some e)) own head) rest)
      | inr other ↦ subst (λ (b : Bool). All Here (cond b (e ∷ own_stamped_of mix many n es) (own_stamped_of mix many n es))) (sym (ne_eqb (shard_of mix many e.key) n other)) rest
    ]

-- ---- before the first, after one more, after all
pub stamped_more : (V : ℕ) (mix : Mix) (many n : ℕ) (hs : List (List (Change V))) (es es' : List (Entry V)) → length hs ≡ many → AreStamped V mix hs es → AddsStamped V mix many n (get_or hs n []) es es' → AreStamped V mix hs es'
stamped_more V mix many n hs es es' long were adds =
    subst (λ (xs : List (Entry V)). AreStamped V mix hs xs) (sym adds.2)
    (All-append (λ (e : Entry V). Holds (history_of mix hs e.key) e.key (Some e)) es (own_stamped_of mix many n adds.0) were (own_stamps V mix many n hs adds.0 long adds.1.stamps))

pub pairs_more : (V : ℕ) (mix : Mix) (many m n : ℕ) (hs : List (List (Change V))) (es es' : List (Entry V)) → m ≡ n + 1 → n < length hs → AreListed V mix many m (drop m hs) (map pair_of es)
    → AddsStamped V mix many n (get_or hs n []) es es' → AreListed V mix many n (drop n hs) (map pair_of es')
pairs_more V mix many m n hs es es' next within l adds =
    held_more V mix many m n hs (map pair_of es) (map pair_of es') next within l
    (map pair_of adds.0, adds.1.entries, ap (map pair_of) adds.2 ∙ (map-append pair_of es (own_stamped_of mix many n adds.0) ∙ ap (λ (xs : List (ℕ × List ℕ)). map pair_of es ++ xs) (pairs_of_own mix many n adds.0)))

pub stamped_all : (V : ℕ) (mix : Mix) (many n : ℕ) (hs : List (List (Change V))) (es : List (Entry V)) → HasShards many → length hs ≡ many → n ≡ 0 → AreListed V mix many n (drop n hs) (map pair_of es) → AreStamped V mix hs es → AreStampedEntriesOfAll V mix hs es
stamped_all V mix many n hs es shards long none l stamps = record { entries = held_all V mix many n hs (map pair_of es) shards long none l; stamps = stamps }
