-- Shards are listed one after the other, from the last one back.
use Rattle.std.specs.Prelude.{Err, slice_get, slice_set}
use Rattle.std.proofs.Common.{ℕ, zero, suc, ◌≡◌, ◌+◌, ◌<◌, ◌≤◌, ◌∙◌, get_or, List, [], ◌∷◌, length, drop, set, Some, ap, arith, inl, inr, refl, subst, sym}
use Rattle.std.proofs.Math.Nat.{eq-or-lt_of_le}
use Rattle.std.proofs.lemmas.List.{length-map}
use Rattle.std.proofs.lemmas.Option.{none-some, same_Some, slice_get_within}
use Rattle.mc_words.specs.Keys.{shard_of}
use Rattle.mc_words.specs.Shapes.{HasShards}
use Rattle.mc_words.specs.declared.history.Change.{Change}
use Rattle.mc_words.specs.declared.mix.Mix.{Mix}
use Rattle.mc_shared.specs.Records.{ReaderRecord}
use Rattle.mc_words.specs.declared.no_memory.NoMemory.{NoMemory}
use Rattle.mc_cache.specs.Plain.{Begins, seen}
use Rattle.mc_cache.specs.Turns.{HasMetAtDesk, HasTriedToList}
use Rattle.mc_cache.specs.declared.desk.DeskError.{DeskError}
use Rattle.mc_cache.specs.declared.desk.DeskError.TheVariants as desk
use Rattle.mc_shards.proofs.Dealt.{as_many}
use Rattle.mc_shards.proofs.Entries.{entries_of_all}
use Rattle.mc_shards.proofs.Many.{all_begin_then}
use Rattle.mc_shards.proofs.OneMap.{all_begin_set}
use Rattle.mc_shards.specs.Inside.Listed.{AddsShard, AreListed}
use Rattle.mc_shards.specs.Plain.{AllBegin, AreEntriesOfAll, seens}
use Rattle.mc_shards.specs.Sharded.{ArePassOf, ChangesAt, Sharded}
use Rattle.mc_shards.specs.Unlisted.{HasNotListed, HaveMetFrom, StopsAt}

-- ---- lists
pub drop_all : {A : Type 0} (xs : List A) (n : ℕ) → n ≡ length xs → drop n xs ≡ []
drop_all [] zero l = refl
drop_all [] (suc n) l = absurd (omega (arith, l))
drop_all (x ∷ xs) zero l = absurd (omega (arith, l))
drop_all (x ∷ xs) (suc n) l = drop_all xs n (omega (arith, l))

drop_set : {A : Type 0} (xs : List A) (n : ℕ) (y : A) → n < length xs → drop n (set xs n y) ≡ y ∷ drop (suc n) xs
drop_set [] n y l = absurd (omega (arith, l))
drop_set (x ∷ xs) zero y l = refl
drop_set (x ∷ xs) (suc n) y l = drop_set xs n y (omega (arith, l))

-- a list from the place of a change on
pub from_change : {A : Type 0} (m n : ℕ) (xs ys : List A) (Goes : A → A → Type 0) → m ≡ n + 1 → (c : ChangesAt n xs ys Goes) → drop n ys ≡ c.after ∷ drop m xs
from_change {A} m n xs ys Goes next c =
    let within : n < length xs = slice_get_within xs n c.before c.was in
    let same : suc n ≡ m = omega (arith, next) in
    ap (λ (z : List A). drop n z) c.is ∙ (drop_set xs n c.after within ∙ ap (λ (k : ℕ). c.after ∷ drop k xs) same)

-- and from any place on
pub from_place : {A : Type 0} (xs : List A) (n m : ℕ) (d : A) → m ≡ n + 1 → n < length xs → drop n xs ≡ get_or xs n d ∷ drop m xs
from_place [] n m d next within = absurd (omega (arith, within))
from_place (x ∷ xs) zero m d next within = ap (λ (k : ℕ). x ∷ drop k (x ∷ xs)) (sym next)
from_place (x ∷ xs) (suc n) m d next within =
    let later : suc (n + 1) ≡ m = omega (arith, next) in
    from_place xs n (n + 1) d refl (omega (arith, within)) ∙ ap (λ (k : ℕ). get_or xs n d ∷ drop k (x ∷ xs)) later

-- ---- before the first, after one more, after all
pub listed_none : (V : ℕ) (s : Sharded) (rs : List ReaderRecord) (n : ℕ) → ArePassOf s rs → n ≡ length s.tables → AreListed V s.shape.mix (length s.tables) n (drop n (seens V rs)) []
listed_none V s rs n are is =
    let none : drop n (seens V rs) ≡ [] = drop_all (seens V rs) n (omega (arith, is, length-map rs (seen V), as_many s rs are)) in
    subst (λ (hs : List (List (Change V))). AreListed V s.shape.mix (length s.tables) n hs []) (sym none) refl

pub listed_more : (V : ℕ) (mix : Mix) (many m n : ℕ) (hs hs' : List (List (Change V))) (es es' : List (ℕ × List ℕ)) → m ≡ n + 1 → AreListed V mix many m (drop m hs) es
    → ChangesAt n hs hs' (λ h h'. AddsShard V mix many n h' es es') → AreListed V mix many n (drop n hs') es'
listed_more V mix many m n hs hs' es es' next l c =
    let after : drop n hs' ≡ c.after ∷ drop m hs = from_change m n hs hs' _ next c in
    let rest : AreListed V mix many (n + 1) (drop m hs) es = subst (λ (k : ℕ). AreListed V mix many k (drop m hs) es) next l in
    subst (λ (z : List (List (Change V))). AreListed V mix many n z es') (sym after) (es, rest, c.goes)

-- what is seen of the shards grows
pub begins_more : (V n : ℕ) (hs hs' hs'' : List (List (Change V))) → AllBegin hs hs' → ChangesAt n hs' hs'' (λ h h'. Begins h h') → AllBegin hs hs''
begins_more V n hs hs' hs'' b c =
    all_begin_then hs hs' hs'' b (subst (λ (z : List (List (Change V))). AllBegin hs' z) (sym c.is) (all_begin_set hs' n c.before c.after c.was c.goes))

shard_below : (mix : Mix) (n k : ℕ) → 1 ≤ n → shard_of mix n k < n
unfolding shard_of
shard_below mix n k some = omega (arith, some)

pub listed_all : (V : ℕ) (s : Sharded) (rs : List ReaderRecord) (n : ℕ) (es : List (ℕ × List ℕ)) → HasShards (length s.tables) → ArePassOf s rs → n ≡ 0 → AreListed V s.shape.mix (length s.tables) n (drop n (seens V rs)) es → AreEntriesOfAll V s.shape.mix (seens V rs) es
listed_all V s rs n es shards are none l =
    let long : length (seens V rs) ≡ length s.tables = length-map rs (seen V) ∙ as_many s rs are in
    let whole : AreListed V s.shape.mix (length s.tables) 0 (seens V rs) es = subst (λ (k : ℕ). AreListed V s.shape.mix (length s.tables) k (drop k (seens V rs)) es) none l in
    entries_of_all V s.shape.mix (seens V rs) es (λ k. shard_below s.shape.mix (length (seens V rs)) k (omega (arith, long, shards.0)))
    (subst (λ (m : ℕ). AreListed V s.shape.mix m 0 (seens V rs) es) (sym long) whole)

-- ---- the shard that was not listed
pub not_listed : (T : Type 0) (V : ℕ) (why : DeskError NoMemory) (r r' : ReaderRecord) → HasTriedToList {T = T} V r r' (Err why) → HasNotListed V why r r'
not_listed T V desk.Held r r' t = t
not_listed T V (desk.Call refused) r r' t = t

pub changes_as : {A : Type 0} (n : ℕ) (xs ys : List A) (Goes Went : A → A → Type 0) → ((x y : A) → Goes x y → Went x y) → ChangesAt n xs ys Goes → ChangesAt n xs ys Went
changes_as n xs ys Goes Went then c = record { before = c.before; after = c.after; was = c.was; is = c.is; goes = then c.before c.after c.goes }

pub get_set_same : {A : Type 0} (xs : List A) (n : ℕ) (x y : A) → slice_get xs n ≡ Some x → slice_get (slice_set xs n y) n ≡ Some y
get_set_same [] n x y was = absurd (none-some x was)
get_set_same (x ∷ xs) zero x' y was = refl
get_set_same (x ∷ xs) (suc n) x' y was = get_set_same xs n x' y was

get_set_below : {A : Type 0} (xs : List A) (n m : ℕ) (y : A) → m < n → slice_get (slice_set xs n y) m ≡ slice_get xs m
get_set_below [] n m y l = refl
get_set_below (x ∷ xs) zero m y l = absurd (omega (arith, l))
get_set_below (x ∷ xs) (suc n) zero y l = refl
get_set_below (x ∷ xs) (suc n) (suc m) y l = get_set_below xs n m y (omega (arith, l))

pub get_set_above : {A : Type 0} (xs : List A) (n m : ℕ) (y : A) → n < m → slice_get (slice_set xs n y) m ≡ slice_get xs m
get_set_above [] n m y l = refl
get_set_above (x ∷ xs) zero zero y l = absurd (omega (arith, l))
get_set_above (x ∷ xs) zero (suc m) y l = refl
get_set_above (x ∷ xs) (suc n) zero y l = absurd (omega (arith, l))
get_set_above (x ∷ xs) (suc n) (suc m) y l = get_set_above xs n m y (omega (arith, l))

-- the readers of the shards below are as they were
pub still_below : {A : Type 0} (n m k : ℕ) (first xs ys : List A) (Goes : A → A → Type 0) → m ≡ n + 1 → ((i : ℕ) → i < m → slice_get xs i ≡ slice_get first i) → ChangesAt n xs ys Goes → k < n → slice_get ys k ≡ slice_get first k
still_below n m k first xs ys Goes next same c less = ap (λ zs. slice_get zs k) c.is ∙ (get_set_below xs n k c.after less ∙ same k (omega (arith, less, next)))

-- no reader has met the writer behind the last shard
pub met_none : (V : ℕ) (s : Sharded) (rs : List ReaderRecord) (n : ℕ) → ArePassOf s rs → n ≡ length s.tables → HaveMetFrom V n rs rs
met_none V s rs n are is i r r' from was now = absurd (omega (arith, from, is, as_many s rs are, slice_get_within rs i r was))

-- what is so of the readers behind a change stays so
pub met_behind : (V n m : ℕ) (first rs rs' : List ReaderRecord) (Goes : ReaderRecord → ReaderRecord → Type 0) → m ≡ n + 1 → HaveMetFrom V m first rs → ChangesAt n rs rs' Goes → HaveMetFrom V (n + 1) first rs'
met_behind V n m first rs rs' Goes next met c i r r' from was now =
    met i r r' (omega (arith, from, next)) was (sym (get_set_above rs n i c.after (omega (arith, from))) ∙ (sym (ap (λ zs. slice_get zs i) c.is) ∙ now))

-- one more reader has met it
pub met_more : (V n m : ℕ) (first rs rs' : List ReaderRecord) → m ≡ n + 1 → ((i : ℕ) → i < m → slice_get rs i ≡ slice_get first i) → HaveMetFrom V m first rs
    → ChangesAt n rs rs' (λ r r'. HasMetAtDesk V r r') → HaveMetFrom V n first rs'
met_more V n m first rs rs' next same met c i r r' from was now = elim (eq-or-lt_of_le from) [
  | inl here ↦
      let before : c.before ≡ r = same_Some c.before r (sym c.was ∙ (same n (omega (arith, next)) ∙ subst (λ (k : ℕ). slice_get first k ≡ Some r) (sym here) was)) in
      let after : c.after ≡ r' = same_Some c.after r' (sym (get_set_same rs n c.before c.after c.was) ∙ (sym (ap (λ zs. slice_get zs n) c.is) ∙ subst (λ (k : ℕ). slice_get rs' k ≡ Some r') (sym here) now)) in
      subst (λ (x : ReaderRecord). HasMetAtDesk V x r') before (subst (λ (x : ReaderRecord). HasMetAtDesk V c.before x) after c.goes)
  | inr behind ↦ met_behind V n m first rs rs' _ next met c i r r' (omega (arith, behind)) was now
]

pub stopped : (V n m : ℕ) (first rs rs' : List ReaderRecord) (why : DeskError NoMemory) → m ≡ n + 1 → ((i : ℕ) → i < m → slice_get rs i ≡ slice_get first i) → HaveMetFrom V m first rs
    → ChangesAt n rs rs' (λ r r'. HasNotListed V why r r') → StopsAt V n first rs' why
stopped V n m first rs rs' why next same met c = record {
  before = c.before;
  after = c.after;
  was = sym (same n (omega (arith, next))) ∙ c.was;
  is = ap (λ zs. slice_get zs n) c.is ∙ get_set_same rs n c.before c.after c.was;
  failed = c.goes;
  asked = met_behind V n m first rs rs' _ next met c;
  left = λ i less. still_below n m i first rs rs' _ next same c less;
}

-- ---- the same of a holder, whose histories stay
pub held_more : (V : ℕ) (mix : Mix) (many m n : ℕ) (hs : List (List (Change V))) (es es' : List (ℕ × List ℕ)) → m ≡ n + 1 → n < length hs → AreListed V mix many m (drop m hs) es
    → AddsShard V mix many n (get_or hs n []) es es' → AreListed V mix many n (drop n hs) es'
held_more V mix many m n hs es es' next within l adds =
    let rest : AreListed V mix many (n + 1) (drop m hs) es = subst (λ (k : ℕ). AreListed V mix many k (drop m hs) es) next l in
    subst (λ (z : List (List (Change V))). AreListed V mix many n z es') (sym (from_place hs n m [] next within)) (es, rest, adds)

pub held_all : (V : ℕ) (mix : Mix) (many n : ℕ) (hs : List (List (Change V))) (es : List (ℕ × List ℕ)) → HasShards many → length hs ≡ many → n ≡ 0 → AreListed V mix many n (drop n hs) es → AreEntriesOfAll V mix hs es
held_all V mix many n hs es shards long none l =
    let whole : AreListed V mix many 0 hs es = subst (λ (k : ℕ). AreListed V mix many k (drop k hs) es) none l in
    entries_of_all V mix hs es (λ k. shard_below mix (length hs) k (omega (arith, long, shards.0))) (subst (λ (m : ℕ). AreListed V mix m 0 hs es) (sym long) whole)
