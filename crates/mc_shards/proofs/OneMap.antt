-- Shards are one map.
use Rattle.std.proofs.Common.{ℕ, zero, suc, ◌≡◌, ◌≢◌, ◌-◌, ◌<◌, ◌≤◌, ◌∙◌, List, [], ◌∷◌, ◌++◌, length, take, drop, Some, None, All, ap, append_assoc, arith, get_or, inl, inr, refl, subst, sym}
use Rattle.std.specs.Prelude.{slice_get, slice_set}
use Rattle.std.proofs.lemmas.List.{append-nil, get_or-set_other, get_or-set_same, length-set, take-append-drop}
use Rattle.std.proofs.lemmas.Option.{get_or_from_slice_get, slice_get_within}
use Rattle.std.proofs.lemmas.Bool.{cases_eq}
use Rattle.std.proofs.lemmas.List.Elements.{All-head, All-tail}
use Rattle.mc_words.specs.History.{map_value}
use Rattle.mc_words.specs.Keys.{shard_of}
use Rattle.mc_words.specs.declared.history.Change.{Change}
use Rattle.mc_words.specs.declared.history.Change.TheVariants as change
use Rattle.mc_words.specs.declared.history.Reply.{Reply}
use Rattle.mc_words.specs.declared.history.Reply.TheVariants.{Found, Absent, Busy}
use Rattle.mc_words.specs.declared.mix.Mix.{Mix}
use Rattle.mc_plan.specs.declared.answer.Put.{Put}
use Rattle.mc_plan.specs.declared.answer.Put.TheVariants.{Stored, Renewed}
use Rattle.mc_cache.specs.Plain.{Begins, HasPut, moment_of, put_changes}
use Rattle.mc_cache.proofs.HistoryLaws.{history_laws}
use Rattle.mc_shards.specs.OneMap.{IsLocal, OneMap, Spares}
use Rattle.mc_shards.specs.Plain.{AllBegin, HasAnswered, Tells, history_of, plain_of}
use Rattle.mc_shards.specs.Sharded.{ChangesAt}

abbrev pub Histories : ℕ → Type 0
Histories V = List (List (Change V))

-- ---- the history of a key's shard
other_history : (V : ℕ) (mix : Mix) (hs : Histories V) (n k : ℕ) (x : List (Change V)) → shard_of mix (length hs) k ≢ n → history_of mix (slice_set hs n x) k ≡ history_of mix hs k
other_history V mix hs n k x ne =
    ap (λ (m : ℕ). get_or (slice_set hs n x) (shard_of mix m k) []) (length-set hs n x) ∙ get_or-set_other hs n (shard_of mix (length hs) k) x [] ne

pub own_history : (V : ℕ) (mix : Mix) (hs : Histories V) (k : ℕ) (x : List (Change V)) → shard_of mix (length hs) k < length hs → history_of mix (slice_set hs (shard_of mix (length hs) k) x) k ≡ x
own_history V mix hs k x within =
    let n = shard_of mix (length hs) k in
    ap (λ (m : ℕ). get_or (slice_set hs n x) (shard_of mix m k) []) (length-set hs n x) ∙ get_or-set_same hs n x [] within

pub was_history : (V : ℕ) (mix : Mix) (hs : Histories V) (k : ℕ) (h : List (Change V)) → slice_get hs (shard_of mix (length hs) k) ≡ Some h → history_of mix hs k ≡ h
was_history V mix hs k h was = get_or_from_slice_get hs (shard_of mix (length hs) k) h [] was

-- ---- the keys of one shard, and of others
others_stay : (V : ℕ) (mix : Mix) (n : ℕ) (hs hs' : Histories V) (P : List (Change V) → List (Change V) → Type 0) (k : ℕ) → ChangesAt n hs hs' P → shard_of mix (length hs) k ≢ n → plain_of mix hs' k ≡ plain_of mix hs k
others_stay V mix n hs hs' P k c ne =
    ap (λ (z : Histories V). plain_of mix z k) c.is ∙ ap (λ (h : List (Change V)). map_value h k) (other_history V mix hs n k c.after ne)

own_change : (V : ℕ) (mix : Mix) (hs hs' : Histories V) (P : List (Change V) → List (Change V) → Type 0) (k : ℕ) (c : ChangesAt (shard_of mix (length hs) k) hs hs' P) → (plain_of mix hs k ≡ map_value c.before k) × (plain_of mix hs' k ≡ map_value c.after k)
own_change V mix hs hs' P k c = (
  ap (λ (h : List (Change V)). map_value h k) (was_history V mix hs k c.before c.was),
  ap (λ (z : Histories V). plain_of mix z k) c.is ∙ ap (λ (h : List (Change V)). map_value h k) (own_history V mix hs k c.after (slice_get_within hs (shard_of mix (length hs) k) c.before c.was)),
)

is_local : (V : ℕ) → IsLocal V
is_local V = record {
  others = λ mix n hs h k ne. ap (λ (z : List (Change V)). map_value z k) (other_history V mix hs n k h ne);
  own = λ mix hs h k within. ap (λ (z : List (Change V)). map_value z k) (own_history V mix hs k h within);
}

-- ---- new shards
blank_at : (V : ℕ) (hs : Histories V) (n : ℕ) → All (λ h. h ≡ []) hs → get_or hs n [] ≡ []
blank_at V [] n a = refl
blank_at V (h ∷ hs) zero a = All-head (λ (x : List (Change V)). x ≡ []) h hs a
blank_at V (h ∷ hs) (suc n) a = blank_at V hs n (All-tail (λ (x : List (Change V)). x ≡ []) h hs a)

none_yet : (V : ℕ) (mix : Mix) (hs : Histories V) (k : ℕ) → All (λ h. h ≡ []) hs → plain_of mix hs k ≡ None
none_yet V mix hs k blank = ap (λ (h : List (Change V)). map_value h k) (blank_at V hs (shard_of mix (length hs) k) blank) ∙ (history_laws V).maps.empty k

-- ---- puts
spared : (V : ℕ) (h : List (Change V)) (k q : ℕ) (v : List ℕ) (told : Put) → q ≢ k → Spares q told → map_value (h ++ put_changes k v told) q ≡ map_value h q
spared V h k q v (Stored at moves None) ne s = (history_laws V).maps.others h (change.Put k v) q ne
spared V h k q v (Stored at moves (Some other)) ne s =
    ap (λ (z : List (Change V)). map_value z q) (sym (append_assoc h (change.Evict other ∷ []) (change.Put k v ∷ [])))
    ∙ ((history_laws V).maps.others (h ++ change.Evict other ∷ []) (change.Put k v) q ne ∙ (history_laws V).maps.others h (change.Evict other) q s)
spared V h k q v (Renewed at) ne s = (history_laws V).maps.others h (change.Put k v) q ne

others_spared : (V : ℕ) (mix : Mix) (hs hs' : Histories V) (k q : ℕ) (v : List ℕ) (told : Put) → ChangesAt (shard_of mix (length hs) k) hs hs' (λ h h'. HasPut V h h' k v told) → q ≢ k → Spares q told → plain_of mix hs' q ≡ plain_of mix hs q
others_spared V mix hs hs' k q v told c ne s =
    let Goes : List (Change V) → List (Change V) → Type 0 = λ h h'. HasPut V h h' k v told in
    elim (cases_eq (shard_of mix (length hs) q) (shard_of mix (length hs) k)) [
      | inl same ↦
          let here : ChangesAt (shard_of mix (length hs) q) hs hs' Goes = subst (λ (n : ℕ). ChangesAt n hs hs' Goes) (sym same) c in
          let own = own_change V mix hs hs' Goes q here in
          own.1 ∙ (ap (λ (z : List (Change V)). map_value z q) here.goes.grew ∙ (spared V here.before k q v told ne s ∙ sym own.0))
      | inr other ↦ others_stay V mix (shard_of mix (length hs) k) hs hs' Goes q c other
    ]

put_means : (V : ℕ) (mix : Mix) (hs hs' : Histories V) (k : ℕ) (v : List ℕ) (told : Put) → ChangesAt (shard_of mix (length hs) k) hs hs' (λ h h'. HasPut V h h' k v told)
    → (plain_of mix hs' k ≡ Some (v ++ moment_of told ∷ [])) × ((q : ℕ) → q ≢ k → Spares q told → plain_of mix hs' q ≡ plain_of mix hs q)
put_means V mix hs hs' k v told c = (
  (own_change V mix hs hs' (λ h h'. HasPut V h h' k v told) k c).1 ∙ c.goes.holds,
  λ q ne s. others_spared V mix hs hs' k q v told c ne s,
)

-- ---- lookups
begins_same : {V : ℕ} (h : List (Change V)) → Begins h h
begins_same h = ([], sym (append-nil h))

pub all_begin_same : {V : ℕ} (hs : Histories V) → AllBegin hs hs
all_begin_same [] = tt
all_begin_same (h ∷ hs) = (begins_same h, all_begin_same hs)

-- one of them grows
pub all_begin_set : {V : ℕ} (hs : Histories V) (n : ℕ) (h x : List (Change V)) → slice_get hs n ≡ Some h → Begins h x → AllBegin hs (slice_set hs n x)
all_begin_set [] n h x was b = tt
all_begin_set {V} (g ∷ hs) zero h x was b = (subst (λ (z : List (Change V)). Begins z x) (sym (get_or_from_slice_get (g ∷ hs) 0 h [] was)) b, all_begin_same hs)
all_begin_set (g ∷ hs) (suc n) h x was b = (begins_same g, all_begin_set hs n h x was b)

-- and one that was set grows
all_begin_sets : {V : ℕ} (hs : Histories V) (n : ℕ) (x y : List (Change V)) → Begins x y → AllBegin (slice_set hs n x) (slice_set hs n y)
all_begin_sets [] n x y b = tt
all_begin_sets (g ∷ hs) zero x y b = (b, all_begin_same hs)
all_begin_sets (g ∷ hs) (suc n) x y b = (begins_same g, all_begin_sets hs n x y b)

-- a front of a history that is no shorter than a beginning of it
begins_front : {V : ℕ} (h h' : List (Change V)) (at : ℕ) → Begins h h' → length h ≤ at → Begins h (take at h')
begins_front {V} h h' at b long = (take (at - length h) b.0, ap (take at) b.1 ∙ split h b.0 at long)
  where
    split : (xs ys : List (Change V)) (n : ℕ) → length xs ≤ n → take n (xs ++ ys) ≡ xs ++ take (n - length xs) ys
    split [] ys n l = ap (λ (m : ℕ). take m ys) (omega arith)
    split (x ∷ xs) ys zero l = absurd (omega (arith, l))
    split (x ∷ xs) ys (suc n) l = ap (λ (z : List (Change V)). x ∷ z) (split xs ys n (omega (arith, l)) ∙ ap (λ (m : ℕ). xs ++ take m ys) (omega arith))

front_begins : {V : ℕ} (h : List (Change V)) (at : ℕ) → Begins (take at h) h
front_begins h at = (drop at h, sym (take-append-drop at h))

-- what the shards held when the key's had made this many changes
answered_at : (V : ℕ) (mix : Mix) (hs hs' : Histories V) (k at : ℕ) (P : List (Change V) → List (Change V) → Type 0) (c : ChangesAt (shard_of mix (length hs) k) hs hs' P) → Begins c.before c.after → length c.before ≤ at
    → (then : Histories V) × AllBegin hs then × AllBegin then hs' × (plain_of mix then k ≡ map_value (take at c.after) k)
answered_at V mix hs hs' k at P c b low =
    let n = shard_of mix (length hs) k in
    let x = take at c.after in (
      slice_set hs n x,
      all_begin_set hs n c.before x c.was (begins_front c.before c.after at b low),
      subst (λ (z : Histories V). AllBegin (slice_set hs n x) z) (sym c.is) (all_begin_sets hs n x c.after (front_begins c.after at)),
      ap (λ (h : List (Change V)). map_value h k) (own_history V mix hs k x (slice_get_within hs n c.before c.was)),
    )

answer_means : (V : ℕ) (mix : Mix) (hs hs' : Histories V) (k : ℕ) (reply : Reply V) → ChangesAt (shard_of mix (length hs) k) hs hs' (λ h h'. HasAnswered V h h' k reply)
    → (then : Histories V) × AllBegin hs then × AllBegin then hs' × Tells mix then k reply
answer_means V mix hs hs' k (Found v at since) c =
    let a = answered_at V mix hs hs' k at (λ h h'. HasAnswered V h h' k (Found v at since)) c c.goes.begins c.goes.between.0 in
    (a.0, a.1, a.2, a.3 ∙ c.goes.true.1)
answer_means V mix hs hs' k (Absent at) c =
    let a = answered_at V mix hs hs' k at (λ h h'. HasAnswered V h h' k (Absent at)) c c.goes.begins c.goes.between.0 in
    (a.0, a.1, a.2, a.3 ∙ c.goes.true.1)
answer_means V mix hs hs' k Busy c = (
  hs,
  all_begin_same hs,
  subst (λ (z : Histories V). AllBegin hs z) (sym c.is) (all_begin_set hs (shard_of mix (length hs) k) c.before c.after c.was c.goes.begins),
  tt,
)

pub one_map : (V : ℕ) → OneMap V
one_map V = record {
  empty = λ mix hs k blank. none_yet V mix hs k blank;
  local = is_local V;
  puts = λ mix hs hs' k v told c. put_means V mix hs hs' k v told c;
  answers = λ mix hs hs' k reply c. answer_means V mix hs hs' k reply c;
}
