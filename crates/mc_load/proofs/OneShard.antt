-- A cache as one shard, and whose readers are in a handle.
use Rattle.std.proofs.Common.{ℕ, ◌≡◌, List, [], ◌∷◌, Some, All, ap, get_or, refl, subst, sym, arith}
use Rattle.std.proofs.lemmas.Option.{same_Some}
use Rattle.mc_words.specs.Keys.{shard_of}
use Rattle.mc_words.specs.declared.mix.Mix.{Mix}
use Rattle.mc_words.specs.declared.shape.Shape.{Shape}
use Rattle.mc_shared.specs.Records.{Opening, ReaderRecord}
use Rattle.mc_shards.specs.Sharded.{ArePassOf, ChangesAt, shard_in}
use Rattle.mc_load.specs.Inside.Handles.{cache_of, place_of, records_of}
use Rattle.mc_load.specs.Lookups.{one_shard}
use Rattle.mc_load.specs.declared.handle.CacheReader.{CacheReader}
use Rattle.mc_load.specs.declared.handle.DeskPass.{DeskPass}
use Rattle.mc_load.specs.declared.handle.Handle.{Handle}
use Rattle.mc_load.specs.declared.handle.Handle.TheVariants as handle

first_of_one : (mix : Mix) (k : ℕ) → shard_of mix 1 k ≡ 0
unfolding shard_of
first_of_one mix k = omega arith

-- if there is one shard, it is the one that changes
pub one_changes : {A : Type 0} (mix : Mix) (k : ℕ) (x y : A) (Goes : A → A → Type 0) → Goes x y → ChangesAt (shard_of mix 1 k) (x ∷ []) (y ∷ []) Goes
one_changes {A} mix k x y Goes goes = subst (λ (n : ℕ). ChangesAt n (x ∷ []) (y ∷ []) Goes) (sym (first_of_one mix k)) (record { before = x; after = y; was = refl; is = refl; goes = goes })

-- a try at a desk
pub desk_changes : {V : ℕ} (h : Handle V) (held : DeskPass V) (k : ℕ) (new : ReaderRecord) (Goes : Shape → ReaderRecord → ReaderRecord → Type 0) → h ≡ handle.Desk held → Goes held.cache.now.layout.shape held.pass new
    → ChangesAt (shard_in (place_of h) k) (records_of h) (new ∷ []) (Goes (place_of h).shape)
desk_changes {V} h held k new Goes is goes =
    subst (λ (x : Handle V). ChangesAt (shard_in (place_of x) k) (records_of x) (new ∷ []) (Goes (place_of x).shape)) (sym is) (one_changes held.cache.now.layout.shape.mix k held.pass new (Goes held.cache.now.layout.shape) goes)

-- a lookup in a cache with no desk
pub reader_changes : {V : ℕ} (h : Handle V) (held : CacheReader V) (k : ℕ) (new : ReaderRecord) (Goes : Shape → ReaderRecord → ReaderRecord → Type 0) → h ≡ handle.Cache held → Goes held.cache.now.layout.shape held.reader new
    → ChangesAt (shard_in (place_of h) k) (records_of h) (new ∷ []) (Goes (place_of h).shape)
reader_changes {V} h held k new Goes is goes =
    subst (λ (x : Handle V). ChangesAt (shard_in (place_of x) k) (records_of x) (new ∷ []) (Goes (place_of x).shape)) (sym is) (one_changes held.cache.now.layout.shape.mix k held.reader new (Goes held.cache.now.layout.shape) goes)

-- if there is no desk, nothing changes
pub nothing_changes : {V : ℕ} (h : Handle V) (held : CacheReader V) (k : ℕ) → h ≡ handle.Cache held → ChangesAt (shard_in (place_of h) k) (records_of h) (records_of h) (λ r r'. r' ≡ r)
nothing_changes {V} h held k is =
    subst (λ (x : Handle V). ChangesAt (shard_in (place_of x) k) (records_of x) (records_of x) (λ r r'. r' ≡ r)) (sym is) (one_changes held.cache.now.layout.shape.mix k held.reader held.reader (λ r r'. r' ≡ r) refl)

-- what belongs to a cache with no desk belongs to it as one shard
cache_place : {V : ℕ} (h : Handle V) (o : Opening) → cache_of h ≡ Some o → place_of h ≡ one_shard o
cache_place (handle.Cache held) o is = ap one_shard (same_Some held.cache.now o is)
cache_place (handle.Desk held) o is = absurd (cc)
cache_place (handle.Shards held) o is = absurd (cc)

pub cache_places : {V : ℕ} (hs : List (Handle V)) (o : Opening) → All (λ (h : Handle V). cache_of h ≡ Some o) hs → All (λ (h : Handle V). place_of h ≡ one_shard o) hs
cache_places hs o all = λ n d low. cache_place (get_or hs n d) o (all n d low)

-- the readers in a handle are those of its tables
pub belongs : {V : ℕ} (h : Handle V) → ArePassOf (place_of h) (records_of h)
belongs (handle.Cache held) = λ i. held.belongs i ∷ []
belongs (handle.Desk held) = λ i. held.belongs.1 i ∷ []
belongs (handle.Shards held) = held.belongs
