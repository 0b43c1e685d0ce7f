-- What a write of one word leaves of each word: the places do not overlap.
use Rattle.std.proofs.Common.{ℕ, ◌≡◌, ◌≢◌, ◌+◌, ◌*◌, ◌<◌, ◌≤◌, List, length, arith, length-set, get_or-set_other, get_or-set_same}
use Rattle.std.proofs.lemmas.Nat.{same_from_place, mul-add-lt}
use Rattle.mc_words.specs.declared.shape.Shape.{Shape}
use Rattle.mc_words.specs.Places.{payload, item_place, word_count, moment, version, slot, item, with_moment, with_version, with_slot, with_item}

-- a row and a column are those of one place only
pub rows_apart : (n i j g h : ℕ) → j ≤ n → h ≤ n → i ≢ g → i * (1 + n) + j ≢ g * (1 + n) + h
rows_apart n i j g h a b ne e = ne (same_from_place i j g h (1 + n) (omega arith) (omega arith) e).0

pub row_below : (n i j c : ℕ) → i < c → j ≤ n → i * (1 + n) + j < c * (1 + n)
row_below n i j c a b = omega (arith, mul-add-lt i (1 + n) j c a (omega arith))

pub length-with_moment : (w : List ℕ) (x : ℕ) → length (with_moment w x) ≡ length w
unfolding with_moment
length-with_moment w x = length-set w 0 x

pub length-with_version : (w : List ℕ) (t x : ℕ) → length (with_version w t x) ≡ length w
unfolding with_version
length-with_version w t x = length-set w (1 + t) x

pub length-with_slot : (sh : Shape) (w : List ℕ) (q x : ℕ) → length (with_slot sh w q x) ≡ length w
unfolding with_slot
length-with_slot sh w q x = length-set w (1 + sh.stripes + q) x

pub length-with_item : (V : ℕ) (sh : Shape) (w : List ℕ) (i j x : ℕ) → length (with_item V sh w i j x) ≡ length w
unfolding with_item
length-with_item V sh w i j x = length-set w (item_place V sh i j) x

-- the moment
pub moment-with_moment : (w : List ℕ) (x : ℕ) → 0 < length w → moment (with_moment w x) ≡ x
unfolding moment with_moment
moment-with_moment w x l = get_or-set_same w 0 x 0 l

pub moment-with_version : (w : List ℕ) (t x : ℕ) → moment (with_version w t x) ≡ moment w
unfolding moment with_version
moment-with_version w t x = get_or-set_other w (1 + t) 0 x 0 (omega arith)

pub moment-with_slot : (sh : Shape) (w : List ℕ) (q x : ℕ) → moment (with_slot sh w q x) ≡ moment w
unfolding moment with_slot
moment-with_slot sh w q x = get_or-set_other w (1 + sh.stripes + q) 0 x 0 (omega arith)

pub moment-with_item : (V : ℕ) (sh : Shape) (w : List ℕ) (i j x : ℕ) → moment (with_item V sh w i j x) ≡ moment w
unfolding moment with_item
moment-with_item V sh w i j x = get_or-set_other w (item_place V sh i j) 0 x 0 (omega arith)

-- a version
pub version-with_moment : (w : List ℕ) (t x : ℕ) → version (with_moment w x) t ≡ version w t
unfolding version with_moment
version-with_moment w t x = get_or-set_other w 0 (1 + t) x 0 (omega arith)

pub version-with_version_same : (w : List ℕ) (t x : ℕ) → 1 + t < length w → version (with_version w t x) t ≡ x
unfolding version with_version
version-with_version_same w t x l = get_or-set_same w (1 + t) x 0 l

pub version-with_version_other : (w : List ℕ) (t u x : ℕ) → u ≢ t → version (with_version w t x) u ≡ version w u
unfolding version with_version
version-with_version_other w t u x ne = get_or-set_other w (1 + t) (1 + u) x 0 (omega arith)

pub version-with_slot : (sh : Shape) (w : List ℕ) (q x t : ℕ) → t < sh.stripes → version (with_slot sh w q x) t ≡ version w t
unfolding version with_slot
version-with_slot sh w q x t l = get_or-set_other w (1 + sh.stripes + q) (1 + t) x 0 (omega arith)

pub version-with_item : (V : ℕ) (sh : Shape) (w : List ℕ) (i j x t : ℕ) → t < sh.stripes → version (with_item V sh w i j x) t ≡ version w t
unfolding version with_item
version-with_item V sh w i j x t l = get_or-set_other w (item_place V sh i j) (1 + t) x 0 (omega arith)

-- a slot
pub slot-with_moment : (sh : Shape) (w : List ℕ) (q x : ℕ) → slot sh (with_moment w x) q ≡ slot sh w q
unfolding slot with_moment
slot-with_moment sh w q x = get_or-set_other w 0 (1 + sh.stripes + q) x 0 (omega arith)

pub slot-with_version : (sh : Shape) (w : List ℕ) (t x q : ℕ) → t < sh.stripes → slot sh (with_version w t x) q ≡ slot sh w q
unfolding slot with_version
slot-with_version sh w t x q l = get_or-set_other w (1 + t) (1 + sh.stripes + q) x 0 (omega arith)

pub slot-with_slot_same : (sh : Shape) (w : List ℕ) (q x : ℕ) → 1 + sh.stripes + q < length w → slot sh (with_slot sh w q x) q ≡ x
unfolding slot with_slot
slot-with_slot_same sh w q x l = get_or-set_same w (1 + sh.stripes + q) x 0 l

pub slot-with_slot_other : (sh : Shape) (w : List ℕ) (q x p : ℕ) → p ≢ q → slot sh (with_slot sh w q x) p ≡ slot sh w p
unfolding slot with_slot
slot-with_slot_other sh w q x p ne = get_or-set_other w (1 + sh.stripes + q) (1 + sh.stripes + p) x 0 (omega arith)

pub slot-with_item : (V : ℕ) (sh : Shape) (w : List ℕ) (i j x q : ℕ) → q < 4 * sh.buckets → slot sh (with_item V sh w i j x) q ≡ slot sh w q
unfolding slot with_item
slot-with_item V sh w i j x q l = get_or-set_other w (item_place V sh i j) (1 + sh.stripes + q) x 0 (omega arith)

-- a word of an item
pub item-with_moment : (V : ℕ) (sh : Shape) (w : List ℕ) (x i j : ℕ) → item V sh (with_moment w x) i j ≡ item V sh w i j
unfolding item with_moment
item-with_moment V sh w x i j = get_or-set_other w 0 (item_place V sh i j) x 0 (omega arith)

pub item-with_version : (V : ℕ) (sh : Shape) (w : List ℕ) (t x i j : ℕ) → t < sh.stripes → item V sh (with_version w t x) i j ≡ item V sh w i j
unfolding item with_version
item-with_version V sh w t x i j l = get_or-set_other w (1 + t) (item_place V sh i j) x 0 (omega arith)

pub item-with_slot : (V : ℕ) (sh : Shape) (w : List ℕ) (q x i j : ℕ) → q < 4 * sh.buckets → item V sh (with_slot sh w q x) i j ≡ item V sh w i j
unfolding item with_slot
item-with_slot V sh w q x i j l = get_or-set_other w (1 + sh.stripes + q) (item_place V sh i j) x 0 (omega arith)

pub item-with_item_same : (V : ℕ) (sh : Shape) (w : List ℕ) (i j x : ℕ) → i < sh.items → j ≤ payload V → word_count V sh ≤ length w → item V sh (with_item V sh w i j x) i j ≡ x
unfolding item with_item
item-with_item_same V sh w i j x a b e =
    get_or-set_same w (item_place V sh i j) x 0 (omega (arith, row_below (payload V) i j sh.items a b))

pub item-with_item_other : (V : ℕ) (sh : Shape) (w : List ℕ) (i j x g h : ℕ) → i ≢ g → j ≤ payload V → h ≤ payload V → item V sh (with_item V sh w i j x) g h ≡ item V sh w g h
unfolding item with_item
item-with_item_other V sh w i j x g h ne a b =
    let apart = rows_apart (payload V) i j g h a b ne in
    get_or-set_other w (item_place V sh i j) (item_place V sh g h) x 0 (omega arith)

pub item-with_item_word : (V : ℕ) (sh : Shape) (w : List ℕ) (i j x h : ℕ) → h ≢ j → item V sh (with_item V sh w i j x) i h ≡ item V sh w i h
unfolding item with_item
item-with_item_word V sh w i j x h ne = get_or-set_other w (item_place V sh i j) (item_place V sh i h) x 0 (omega arith)
