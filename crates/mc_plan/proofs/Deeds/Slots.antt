-- What the acts of a plan leave of the slots and of the items.
use Rattle.std.proofs.Common.{ℕ, ◌≡◌, ◌+◌, ◌*◌, ◌<◌, ◌∙◌, List, [], ◌∷◌, length, refl, arith}
use Rattle.mc_words.specs.declared.shape.Shape.{Shape}
use Rattle.mc_words.specs.Keys.{stripe_of}
use Rattle.mc_words.specs.Places.{slot, item, moment, with_item, with_moment}
use Rattle.mc_words.specs.Shapes.{IsShape}
use Rattle.mc_words.proofs.Keys.{stripe_of-lt}
use Rattle.mc_words.proofs.Places.{moment-with_item, moment-with_version, slot-with_version, slot-with_item, slot-with_moment, item-with_version, item-with_moment, item-with_item_word, length-with_version, length-with_item}
use Rattle.mc_theory.specs.Effects.{with_bump}

-- the words of an item from word j on are these
abbrev pub valued : ℕ → Shape → List ℕ → ℕ → ℕ → List ℕ → List ℕ
valued V sh w i j [] = w
valued V sh w i j (x ∷ xs) = valued V sh (with_item V sh w i j x) i (j + 1) xs

-- a value, and after it a stamp
abbrev pub stamped : ℕ → Shape → List ℕ → ℕ → List ℕ → ℕ → List ℕ
stamped V sh w i v at = with_item V sh (valued V sh w i 1 v) i (length v + 1) at

-- the moment is one more, and the stripe's version too
abbrev pub ended : Shape → List ℕ → ℕ → List ℕ
ended sh w k = with_bump sh (with_moment w (moment w + 1)) k

-- slots stay when a version changes
pub slot-bumped : (sh : Shape) (w : List ℕ) (k q : ℕ) → IsShape sh → slot sh (with_bump sh w k) q ≡ slot sh w q
slot-bumped sh w k q s = slot-with_version sh w (stripe_of sh k) _ q (stripe_of-lt sh k s)

-- when a value is written
pub slot-valued : (V : ℕ) (sh : Shape) (w : List ℕ) (i j q : ℕ) (xs : List ℕ) → q < 4 * sh.buckets → slot sh (valued V sh w i j xs) q ≡ slot sh w q
slot-valued V sh w i j q [] l = refl
slot-valued V sh w i j q (x ∷ xs) l = slot-valued V sh (with_item V sh w i j x) i (j + 1) q xs l ∙ slot-with_item V sh w i j x q l

-- and at the end of a deed
pub slot-ended : (sh : Shape) (w : List ℕ) (k q : ℕ) → IsShape sh → slot sh (ended sh w k) q ≡ slot sh w q
slot-ended sh w k q s = slot-bumped sh (with_moment w (moment w + 1)) k q s ∙ slot-with_moment sh w q _

-- items stay when a version changes
pub item-bumped : (V : ℕ) (sh : Shape) (w : List ℕ) (k i j : ℕ) → IsShape sh → item V sh (with_bump sh w k) i j ≡ item V sh w i j
item-bumped V sh w k i j s = item-with_version V sh w (stripe_of sh k) _ i j (stripe_of-lt sh k s)

-- the writes of a value leave the key of the item
pub key-valued : (V : ℕ) (sh : Shape) (w : List ℕ) (i j : ℕ) (xs : List ℕ) → 0 < j → item V sh (valued V sh w i j xs) i 0 ≡ item V sh w i 0
key-valued V sh w i j [] l = refl
key-valued V sh w i j (x ∷ xs) l = key-valued V sh (with_item V sh w i j x) i (j + 1) xs (omega arith) ∙ item-with_item_word V sh w i j x 0 (omega arith)

-- the end of a deed leaves items, too
pub item-ended : (V : ℕ) (sh : Shape) (w : List ℕ) (k i j : ℕ) → IsShape sh → item V sh (ended sh w k) i j ≡ item V sh w i j
item-ended V sh w k i j s = item-bumped V sh (with_moment w (moment w + 1)) k i j s ∙ item-with_moment V sh w _ i j

-- no word is added when a version changes
pub length-bumped : (sh : Shape) (w : List ℕ) (k : ℕ) → length (with_bump sh w k) ≡ length w
length-bumped sh w k = length-with_version w (stripe_of sh k) _

-- nor when a value is written
pub length-valued : (V : ℕ) (sh : Shape) (w : List ℕ) (i j : ℕ) (xs : List ℕ) → length (valued V sh w i j xs) ≡ length w
length-valued V sh w i j [] = refl
length-valued V sh w i j (x ∷ xs) = length-valued V sh (with_item V sh w i j x) i (j + 1) xs ∙ length-with_item V sh w i j x

-- the same of a value with its stamp
pub slot-stamped : (V : ℕ) (sh : Shape) (w : List ℕ) (i at q : ℕ) (v : List ℕ) → q < 4 * sh.buckets → slot sh (stamped V sh w i v at) q ≡ slot sh w q
slot-stamped V sh w i at q v l = slot-with_item V sh (valued V sh w i 1 v) i (length v + 1) at q l ∙ slot-valued V sh w i 1 q v l

pub key-stamped : (V : ℕ) (sh : Shape) (w : List ℕ) (i at : ℕ) (v : List ℕ) → item V sh (stamped V sh w i v at) i 0 ≡ item V sh w i 0
key-stamped V sh w i at v = item-with_item_word V sh (valued V sh w i 1 v) i (length v + 1) at 0 (omega arith) ∙ key-valued V sh w i 1 v (omega arith)

pub length-stamped : (V : ℕ) (sh : Shape) (w : List ℕ) (i at : ℕ) (v : List ℕ) → length (stamped V sh w i v at) ≡ length w
length-stamped V sh w i at v = length-with_item V sh (valued V sh w i 1 v) i (length v + 1) at ∙ length-valued V sh w i 1 v

-- until the moment itself is written, it is as it was
pub moment-bumped : (sh : Shape) (w : List ℕ) (k : ℕ) → moment (with_bump sh w k) ≡ moment w
moment-bumped sh w k = moment-with_version w (stripe_of sh k) _

pub moment-valued : (V : ℕ) (sh : Shape) (w : List ℕ) (i j : ℕ) (xs : List ℕ) → moment (valued V sh w i j xs) ≡ moment w
moment-valued V sh w i j [] = refl
moment-valued V sh w i j (x ∷ xs) = moment-valued V sh (with_item V sh w i j x) i (j + 1) xs ∙ moment-with_item V sh w i j x
