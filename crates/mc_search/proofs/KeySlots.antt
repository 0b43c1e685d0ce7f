-- Where a key does not stand, slot by slot, and that a key stands in its buckets alone.
use Rattle.std.proofs.Common.{ℕ, ◌≡◌, ◌≢◌, ◌+◌, ◌*◌, ◌/◌, ◌%◌, ◌^◌, ◌<◌, inl, inr, List, [], ◌∷◌, ◌++◌, Option, Some, None, IfNone, sym, ◌∙◌, ap, subst, arith}
use Rattle.mc_words.specs.declared.shape.Shape.{Shape}
use Rattle.mc_words.specs.Keys.{tag_of, slot_word, first_of, second_of, IsBucketOf, MatchesTag}
use Rattle.mc_words.specs.Places.{payload, slot, item}
use Rattle.mc_words.specs.Shapes.{IsShape}
use Rattle.std.proofs.lemmas.Grind.{same_number_lists}
use Rattle.mc_words.specs.Inside.Values.{HasValue}
use Rattle.mc_words.specs.Standing.{Stands, HasPayload, IsAbsent, AgreesAt, Agrees}
use Rattle.mc_words.specs.History.{map_value}
use Rattle.mc_words.specs.declared.history.Change.{Change}
use Rattle.mc_words.proofs.Frames.{slot_word-parts}
use Rattle.mc_words.proofs.Keys.{tag_of-lt}
use Rattle.mc_words.proofs.Payload.{payload_from}
use Rattle.mc_search.specs.Readable.{IsPlaced}
use Rattle.mc_search.specs.Inside.Readable.{HasNot, IsNotAt, IsNotAmong}

-- a slot whose word names no item under the key's tag
pub not_at-none : (V : ℕ) (sh : Shape) (w v : List ℕ) (k q word : ℕ) → v ≡ w → word ≡ slot sh v q → MatchesTag sh (tag_of sh k) word None → IsNotAt V sh w k q
not_at-none V sh w v k q word same read none i l e = absurd (none i l (read ∙ ap (λ (y : List ℕ). slot sh y q) same ∙ e))

-- a slot whose word names an item of another key
pub not_at-other : (V : ℕ) (sh : Shape) (w v u : List ℕ) (k q word g stored : ℕ) → IsShape sh → v ≡ w → word ≡ slot sh v q → MatchesTag sh (tag_of sh k) word (Some g) → u ≡ v → stored ≡ item V sh u g 0 → stored ≢ k → IsNotAt V sh w k q
not_at-other V sh w v u k q word g stored s same read names again key ne i l e at =
    let tag = tag_of sh k in
    let both : slot_word tag i ≡ slot_word tag g = sym e ∙ sym (read ∙ ap (λ (y : List ℕ). slot sh y q) same) ∙ names.1 in
    let items = s.items.1 in
    let buckets = s.buckets.1 in
    let below = names.0 in
    let one : i ≡ g = (slot_word-parts tag tag i g (omega arith) (omega arith) both).1 in
    ne (key ∙ ap (λ (y : List ℕ). item V sh y g 0) (again ∙ same) ∙ ap (λ y. item V sh w y 0) (sym one) ∙ at)

-- a slot whose word names an item of the key
pub stands_at : (V : ℕ) (sh : Shape) (w v u : List ℕ) (k q word g stored : ℕ) → k < 2 ^ 64 → q < 4 * sh.buckets → v ≡ w → word ≡ slot sh v q → MatchesTag sh (tag_of sh k) word (Some g) → u ≡ v → stored ≡ item V sh u g 0 → stored ≡ k → Stands V sh w k q g
stands_at V sh w v u k q word g stored fits below same read names again key is = record {
  names = record {
    tag = tag_of sh k;
    in_table = below;
    in_items = names.0;
    is_tag = tag_of-lt sh k fits;
    word = sym (read ∙ ap (λ (y : List ℕ). slot sh y q) same) ∙ names.1;
  };
  key = sym (key ∙ ap (λ (y : List ℕ). item V sh y g 0) (again ∙ same)) ∙ is;
}

-- what follows if nothing was found
pub where_none : (A : Type 0) (P Q : Type 0) (o : Option A) → (P → Q) → IfNone o P → IfNone o Q
where_none A P Q None f h = f h
where_none A P Q (Some a) f h = tt

-- a key that stands under its tag in its buckets alone, and not there, stands nowhere
pub absent_from-buckets : (V : ℕ) (sh : Shape) (w : List ℕ) (k : ℕ) → IsPlaced V sh w k → IsNotAmong V sh w k (first_of sh k) 4 → IsNotAmong V sh w k (second_of sh k) 4 → IsAbsent V sh w k
absent_from-buckets V sh w k placed one two q i s =
    let at = placed q i s in
    let there : (b : ℕ) → q / 4 ≡ b → IsNotAmong V sh w k b 4 → ⊥ =
    λ b e none.
    let is : q ≡ 4 * b + q % 4 = omega arith in
    none (q % 4) (omega arith) i s.names.in_items (ap (slot sh w) (sym is) ∙ at.0) s.key in
    elim at.1 [ inl e ↦ there (first_of sh k) e one | inr e ↦ there (second_of sh k) e two ]

-- if no slot of its buckets names the item under its tag, it doesn't stand at the item
pub not_at_item : (V : ℕ) (sh : Shape) (w : List ℕ) (k i : ℕ) → IsPlaced V sh w k → HasNot sh w (first_of sh k) (slot_word (tag_of sh k) i) 4 → HasNot sh w (second_of sh k) (slot_word (tag_of sh k) i) 4 → (q : ℕ) → Stands V sh w k q i → ⊥
not_at_item V sh w k i placed one two q s =
    let at = placed q i s in
    let there : (b : ℕ) → q / 4 ≡ b → HasNot sh w b (slot_word (tag_of sh k) i) 4 → ⊥ =
    λ b e none.
    let is : q ≡ 4 * b + q % 4 = omega arith in
    none (q % 4) (omega arith) (ap (slot sh w) (sym is) ∙ at.0) in
    elim at.1 [ inl e ↦ there (first_of sh k) e one | inr e ↦ there (second_of sh k) e two ]

-- if the words agree with what a map says of the key, the key is found
pub placed-agrees : (V : ℕ) (sh : Shape) (w : List ℕ) (k : ℕ) (o : Option (List ℕ)) → AgreesAt V sh w k o → IsPlaced V sh w k
placed-agrees V sh w k None a q i s = absurd (a q i s)
placed-agrees V sh w k (Some v) a q i s =
    let is = a.2.once q i s in
    (ap (slot sh w) is.0 ∙ a.2.tagged ∙ ap (λ y. slot_word (tag_of sh k) y) (sym is.1), subst (λ (y : ℕ). IsBucketOf sh k (y / 4)) (sym is.0) a.2.placed)

-- if the words agree with a history and no deed runs, every key is found
pub placed-quiet : (V : ℕ) (sh : Shape) (w : List ℕ) (h : List (Change V)) (k : ℕ) → Agrees V sh w None h → IsPlaced V sh w k
placed-quiet V sh w h k a = placed-agrees V sh w k (map_value h k) (a.keys k (λ e. cc))

-- ---- the value and the stamp of a key that stands
payload_once : (V : ℕ) (sh : Shape) (w : List ℕ) (i : ℕ) (v x : List ℕ) → HasPayload V sh w i v → HasPayload V sh w i x → x ≡ v
payload_once V sh w i v x a b =
    same_number_lists x v (b.0 ∙ sym a.0) (λ j l. sym (b.1 j l) ∙ a.1 j (omega (arith, a.0, b.0, l)))

pub held_payload : (V : ℕ) (sh : Shape) (w : List ℕ) (k q i n : ℕ) (v : List ℕ) (o : Option (List ℕ)) → AgreesAt V sh w k o → Stands V sh w k q i → HasValue V sh w i v → n ≡ item V sh w i (payload V) → o ≡ Some (v ++ n ∷ [])
held_payload V sh w k q i n v None a stands value stamp = absurd (a q i stands)
held_payload V sh w k q i n v (Some x) a stands value stamp =
    let same : i ≡ a.1 = (a.2.once q i stands).1 in
    ap Some (payload_once V sh w a.1 (v ++ n ∷ []) x (rw same at (payload_from V sh w i n v value (sym stamp))) a.3)
