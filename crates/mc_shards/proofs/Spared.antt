-- Shards with spare readers: why they are not opened, and their lists.
use Rattle.std.proofs.Common.{ℕ, zero, suc, ◌≡◌, ◌<◌, ◌≤◌, ◌∙◌, get_or, List, [], ◌∷◌, ◌++◌, length, set, take, All, Global, Option, None, Some, Vec, IfSome, ap, arith, refl, subst, sym}
use Rattle.std.specs.Option.{option_to_list}
use Rattle.std.proofs.lemmas.List.{length_push}
use Rattle.std.proofs.lemmas.List.Elements.{All-pop}
use Rattle.std.specs.List.{AllZip}
use Rattle.mc_cache.specs.declared.opening.OpenError.{OpenError}
use Rattle.mc_cache.specs.declared.opening.OpenError.TheVariants as error
use Rattle.mc_cache.specs.Openings.{RefusesOpening}
use Rattle.mc_words.specs.Readers.{HasReaders}
use Rattle.mc_words.specs.Shapes.{HasShards, IsShape}
use Rattle.mc_words.specs.declared.shape.Shape.{Shape}
use Rattle.mc_shared.specs.Records.{Opening, ReaderRecord}
use Rattle.mc_shards.specs.Openings.{RefusesShards}
use Rattle.mc_shards.specs.declared.opening.OpenShardsError.TheVariants as refused

-- the shards are opened with other readers too. If the request is right, only memory can be refused
pub refused_as_asked : (sh : Shape) (shards asked all : ℕ) (why : OpenError) → HasShards shards → IsShape sh → HasReaders asked → HasReaders all → RefusesOpening sh all why → RefusesShards sh shards asked (refused.Open why)
refused_as_asked sh shards asked all (error.Shape fault) many is has has' why' = (many, why')
refused_as_asked sh shards asked all error.Readers many is has has' why' = absurd (why'.1 has')
refused_as_asked sh shards asked all error.NoMemory many is has has' why' = (many, (is, has))

-- ---- the lists, place by place
abbrev pub Readers : Type 0
Readers = Vec ReaderRecord Global

abbrev pub OfTable : Opening → Readers → Type 0
OfTable o list = All (λ r. r.of ≡ o) list.items

pub zip_push : (R : Opening → Readers → Type 0) (xs : List Opening) (ys : List Readers) (x : Opening) (y : Readers) → AllZip R xs ys → R x y → AllZip R (xs ++ x ∷ []) (ys ++ y ∷ [])
zip_push R [] [] x y a r = (r, tt)
zip_push R [] (z ∷ ys) x y a r = absurd a
zip_push R (w ∷ xs) [] x y a r = absurd a
zip_push R (w ∷ xs) (z ∷ ys) x y a r = (a.0, zip_push R xs ys x y a.1 r)

pub zip_long : (xs : List Opening) (ys : List Readers) → AllZip OfTable xs ys → length ys ≡ length xs
zip_long [] [] a = refl
zip_long [] (y ∷ ys) a = absurd a
zip_long (x ∷ xs) [] a = absurd a
zip_long (x ∷ xs) (y ∷ ys) a = ap suc (zip_long xs ys a.1)

some_then : {A : Type 0} (P Q : A → Type 0) (r : Option A) → ((x : A) → P x → Q x) → IfSome r P → IfSome r Q
some_then P Q None then a = tt
some_then P Q (Some x) then a = then x a

-- a reader is taken from one of the lists: it is that of the list's table
pub popped : (tables : List Opening) (lists : List Readers) (n m : ℕ) (list list' : Readers) (r : Option ReaderRecord) → AllZip OfTable tables lists → n < length tables → m ≡ suc n → get_or lists n list ≡ list
    → list.items ≡ list'.items ++ option_to_list r → AllZip OfTable tables (set lists n list') × IfSome r (λ x. take m tables ≡ take n tables ++ x.of ∷ [])
popped [] lists n m list list' r a l next here items = absurd (omega (arith, l))
popped (t ∷ ts) [] n m list list' r a l next here items = absurd a
popped (t ∷ ts) (y ∷ ys) zero m list list' r a l next here items =
    let pop = All-pop (λ (x : ReaderRecord). x.of ≡ t) list.items list'.items r items (subst (OfTable t) here a.0) in (
      (pop.0, a.1),
      some_then (λ x. x.of ≡ t) (λ x. take m (t ∷ ts) ≡ take zero (t ∷ ts) ++ x.of ∷ []) r (λ x is. ap (λ (k : ℕ). take k (t ∷ ts)) next ∙ ap (λ (o : Opening). o ∷ []) (sym is)) pop.1,
    )
popped (t ∷ ts) (y ∷ ys) (suc n) m list list' r a l next here items =
    let rest = popped ts ys n (suc n) list list' r a.1 (omega (arith, l)) refl here items in (
      (a.0, rest.0),
      some_then (λ x. take (suc n) ts ≡ take n ts ++ x.of ∷ []) (λ x. take m (t ∷ ts) ≡ take (suc n) (t ∷ ts) ++ x.of ∷ []) r
          (λ x is. ap (λ (k : ℕ). take k (t ∷ ts)) next ∙ ap (λ (os : List Opening). t ∷ os) is) rest.1,
    )

-- the first n lists have had one reader more
abbrev pub ArePopped : ℕ → ℕ → List Readers → Type 0
ArePopped n many [] = Unit {0}
ArePopped zero many (y ∷ ys) = (length y.items ≡ many) × ArePopped zero many ys
ArePopped (suc n) many (y ∷ ys) = (suc (length y.items) ≡ many) × ArePopped n many ys

pub all_long : (many : ℕ) (tables : List Opening) (lists : List Readers) → AllZip (λ o list. (length list.items ≡ many) × OfTable o list) tables lists → AllZip OfTable tables lists × ArePopped zero many lists
all_long many [] [] a = (tt, tt)
all_long many [] (y ∷ ys) a = absurd a
all_long many (t ∷ ts) [] a = absurd a
all_long many (t ∷ ts) (y ∷ ys) a = let rest = all_long many ts ys a.1 in ((a.0.1, rest.0), (a.0.0, rest.1))

pub all_popped : (n many fewer : ℕ) (tables : List Opening) (lists : List Readers) → AllZip OfTable tables lists → ArePopped n many lists → length lists ≤ n → suc fewer ≡ many → AllZip (λ o list. (length list.items ≡ fewer) × OfTable o list) tables lists
all_popped n many fewer [] [] a p l e = tt
all_popped n many fewer [] (y ∷ ys) a p l e = absurd a
all_popped n many fewer (t ∷ ts) [] a p l e = absurd a
all_popped zero many fewer (t ∷ ts) (y ∷ ys) a p l e = absurd (omega (arith, l))
all_popped (suc n) many fewer (t ∷ ts) (y ∷ ys) a p l e = ((omega (arith, p.0, e), a.0), all_popped n many fewer ts ys a.1 p.1 (omega (arith, l)) e)

-- the list that comes next is as long as at first
pub not_popped : (n many : ℕ) (lists : List Readers) (list : Readers) → ArePopped n many lists → n < length lists → get_or lists n list ≡ list → length list.items ≡ many
not_popped n many [] list p l here = absurd (omega (arith, l))
not_popped zero many (y ∷ ys) list p l here = subst (λ (x : Readers). length x.items ≡ many) here p.0
not_popped (suc n) many (y ∷ ys) list p l here = not_popped n many ys list p.1 (omega (arith, l)) here

pub popped_more : (n m many : ℕ) (lists : List Readers) (list list' : Readers) (r : ReaderRecord) → ArePopped n many lists → n < length lists → m ≡ suc n → get_or lists n list ≡ list → list.items ≡ list'.items ++ r ∷ [] → ArePopped m many (set lists n list')
popped_more n m many [] list list' r p l next here items = absurd (omega (arith, l))
popped_more zero m many (y ∷ ys) list list' r p l next here items =
    subst (λ (k : ℕ). ArePopped k many (list' ∷ ys)) (sym next)
    (omega (arith, subst (λ (x : Readers). length x.items ≡ many) here p.0, ap length items ∙ length_push list'.items r), p.1)
popped_more (suc n) m many (y ∷ ys) list list' r p l next here items =
    subst (λ (k : ℕ). ArePopped k many (y ∷ set ys n list')) (sym next)
    (p.0, popped_more n (suc n) many ys list list' r p.1 (omega (arith, l)) refl here items)
