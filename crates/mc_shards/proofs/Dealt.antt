-- The records of a pass, and what is seen by them, when one of them changes.
use Rattle.std.proofs.Common.{ℕ, zero, suc, ◌≡◌, ◌<◌, ◌∙◌, get_or, List, [], ◌∷◌, ◌++◌, length, map, Some, All, ap, arith, refl, subst, sym}
use Rattle.std.specs.Prelude.{slice_get, slice_set}
use Rattle.std.specs.Option.{option_map}
use Rattle.std.proofs.lemmas.List.{length-map, length_push, map-append, map-set}
use Rattle.std.proofs.lemmas.List.Elements.{All-cons, All-head, All-nil, All-push, All-tail, All-weaker}
use Rattle.std.proofs.lemmas.Option.{get_or_from_slice_get, same_Some, slice_get-map, slice_get_read}
use Rattle.std.proofs.Math.Seq.{map-set_same}
use lib.Seq.{set-get_or}
use Rattle.mc_words.specs.Keys.{shard_of}
use Rattle.mc_words.specs.declared.history.Change.{Change}
use Rattle.mc_words.specs.declared.mix.Mix.{Mix}
use Rattle.mc_shared.specs.Records.{IsNewReader, Opening, ReaderRecord, new_readers, reader_record}
use Rattle.mc_cache.specs.Plain.{seen}
use Rattle.mc_cache.proofs.PlainCalls.{seen_new}
use Rattle.mc_shards.specs.Inside.Dealt.{AreDealt}
use Rattle.mc_shards.specs.Openings.{HasSeenNothing}
use Rattle.mc_shards.specs.Plain.{seens}
use Rattle.mc_shards.specs.Sharded.{ArePassOf, ChangesAt, Sharded}

-- a reader of a pass is that of its shard's table
pub at_table : (s : Sharded) (rs : List ReaderRecord) (n : ℕ) (o : Opening) (r : ReaderRecord) → ArePassOf s rs → slice_get s.tables n ≡ Some o → slice_get rs n ≡ Some r → r.of ≡ o
at_table s rs n o r are table reader =
    let of : ReaderRecord → Opening = λ x. x.of in
    same_Some r.of o (sym (ap (option_map of) reader) ∙ (sym (slice_get-map of rs n) ∙ (ap (λ (os : List Opening). slice_get os n) are ∙ table)))

-- there are as many readers as tables
pub as_many : (s : Sharded) (rs : List ReaderRecord) → ArePassOf s rs → length rs ≡ length s.tables
as_many s rs are = sym (length-map rs (λ (x : ReaderRecord). x.of)) ∙ ap length are

-- a reader that changes stays that of its table
pub still_pass : (s : Sharded) (rs : List ReaderRecord) (n : ℕ) (r r' : ReaderRecord) → ArePassOf s rs → slice_get rs n ≡ Some r → r'.of ≡ r.of → ArePassOf s (slice_set rs n r')
still_pass s rs n r r' are reader of =
    let at : ReaderRecord → Opening = λ x. x.of in
    map-set_same at rs n r' r (of ∙ ap at (sym (get_or_from_slice_get rs n r r reader))) ∙ are

-- a record changes
pub changes : {A : Type 0} (n : ℕ) (xs : List A) (x y : A) (Goes : A → A → Type 0) → slice_get xs n ≡ Some x → Goes x y → ChangesAt n xs (slice_set xs n y) Goes
changes n xs x y Goes was goes = record { before = x; after = y; was = was; is = refl; goes = goes }

-- and so does what is seen by it
pub seens_change : (V n : ℕ) (rs : List ReaderRecord) (r r' : ReaderRecord) (Goes : List (Change V) → List (Change V) → Type 0) → slice_get rs n ≡ Some r → Goes (seen V r) (seen V r') → ChangesAt n (seens V rs) (seens V (slice_set rs n r')) Goes
seens_change V n rs r r' Goes was goes = record {
  before = seen V r;
  after = seen V r';
  was = slice_get-map (seen V) rs n ∙ ap (option_map (seen V)) was;
  is = map-set (seen V) rs n r';
  goes = goes;
}

-- a record that is replaced by itself changes nothing
pub unchanged : {A : Type 0} (n : ℕ) (xs ys : List A) → ChangesAt n xs ys (λ x y. y ≡ x) → ys ≡ xs
unchanged {A} n xs ys c = c.is ∙ (ap (λ (x : A). slice_set xs n x) (c.goes ∙ sym (get_or_from_slice_get xs n c.before c.before c.was)) ∙ set-get_or xs n c.before)

-- ---- while shards are opened
-- a pass gets one reader more
pub dealt_more : (ts : List Opening) (o : Opening) (rs : List ReaderRecord) (r : ReaderRecord) → AreDealt ts rs → r.of ≡ o → r.front ≡ [] → AreDealt (ts ++ o ∷ []) (rs ++ r ∷ [])
dealt_more ts o rs r d of blank = record {
  of = map-append (λ (x : ReaderRecord). x.of) rs (r ∷ []) ∙ (ap (λ (z : List Opening). z ++ r.of ∷ []) d.of ∙ ap (λ (x : Opening). ts ++ x ∷ []) of);
  fresh = All-push (λ (x : ReaderRecord). x.front ≡ []) rs r d.fresh blank;
}

-- new passes have seen nothing
sees_none : (V : ℕ) (rs : List ReaderRecord) → All (λ r. r.front ≡ []) rs → HasSeenNothing V rs
sees_none V [] a = All-nil (λ (h : List (Change V)). h ≡ [])
sees_none V (r ∷ rs) a =
    let Blank : ReaderRecord → Type 0 = λ x. x.front ≡ [] in
    All-cons (λ (h : List (Change V)). h ≡ []) (seen V r) (seens V rs) (seen_new V r.of r refl (All-head Blank r rs a)) (sees_none V rs (All-tail Blank r rs a))

pub passes_new : (V : ℕ) (tables : List Opening) (ps : List (List ReaderRecord)) → All (AreDealt tables) ps → All (HasSeenNothing V) ps
passes_new V tables [] a = All-nil (HasSeenNothing V)
passes_new V tables (p ∷ ps) a = All-cons (HasSeenNothing V) p ps (sees_none V p (All-head (AreDealt tables) p ps a).fresh) (passes_new V tables ps (All-tail (AreDealt tables) p ps a))

new_length : (o : Opening) (n : ℕ) → length (new_readers o n) ≡ n
new_length o zero = refl
new_length o (suc n) = let h = new_length o n in omega (arith, h, length_push (new_readers o n) (reader_record o n [] []))

pub as_many_new : (o : Opening) (n : ℕ) (rs : List ReaderRecord) → rs ≡ new_readers o n → length rs ≡ n
as_many_new o n rs is = ap length is ∙ new_length o n

pub fresh_new : (o : Opening) (rs : List ReaderRecord) → All (IsNewReader o) rs → All (λ r. (r.of ≡ o) × (r.front ≡ [])) rs
fresh_new o rs a = All-weaker (IsNewReader o) (λ (r : ReaderRecord). (r.of ≡ o) × (r.front ≡ [])) (λ r new. (new.of, new.front)) rs a

-- ---- a call at one reader, as the code of a pass makes it: the readers are those of the pass, and the place is the key's shard
pub here : (s : Sharded) (self items : List ReaderRecord) (n : ℕ) (r : ReaderRecord) → items ≡ self → ArePassOf s self → n < length s.tables → r ≡ get_or items n r → slice_get items n ≡ Some r
here s self items n r is are within at = slice_get_read items (length items) n r refl (omega (arith, within, as_many s self are, ap length is)) at

pub kept_here : (s : Sharded) (self items : List ReaderRecord) (n : ℕ) (r r' : ReaderRecord) → items ≡ self → ArePassOf s self → slice_get items n ≡ Some r → r'.of ≡ r.of → ArePassOf s (slice_set items n r')
kept_here s self items n r r' is are at of = still_pass s items n r r' (ap (map (λ (x : ReaderRecord). x.of)) is ∙ are) at of

pub changes_here : (n m : ℕ) (self items : List ReaderRecord) (r r' : ReaderRecord) (Goes : ReaderRecord → ReaderRecord → Type 0) → items ≡ self → n ≡ m → slice_get items n ≡ Some r → Goes r r' → ChangesAt m self (slice_set items n r') Goes
changes_here n m self items r r' Goes is here at goes =
    subst (λ (p : ℕ × List ReaderRecord). ChangesAt p.0 p.1 (slice_set items n r') Goes) (λ i. (here i, is i)) (changes n items r r' Goes at goes)

pub seens_here : (V n m : ℕ) (self items : List ReaderRecord) (r r' : ReaderRecord) (Goes : List (Change V) → List (Change V) → Type 0) → items ≡ self → n ≡ m → slice_get items n ≡ Some r → Goes (seen V r) (seen V r') → ChangesAt m (seens V self) (seens V (slice_set items n r')) Goes
seens_here V n m self items r r' Goes is here at goes =
    subst (λ (p : ℕ × List ReaderRecord). ChangesAt p.0 (seens V p.1) (seens V (slice_set items n r')) Goes) (λ i. (here i, is i)) (seens_change V n items r r' Goes at goes)

-- the only shard has every key
pub only_shard : (mix : Mix) (k n : ℕ) → n ≡ 1 → shard_of mix n k ≡ 0
unfolding shard_of
only_shard mix k n one = omega (arith, one)
