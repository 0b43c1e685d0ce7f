-- Lists of entries, one item after the other.
use Rattle.std.proofs.Common.{ℕ, zero, suc, ◌≡◌, ◌≢◌, ◌+◌, ◌<◌, Bool, true, eqb, eq-eqb, ne_eqb, List, [], ◌∷◌, ◌++◌, length, get_or, Option, Some, None, refl, ap, sym, ◌∙◌, subst, arith}
use Rattle.std.specs.Prelude.{IfNone, if◌then◌else◌}
use Rattle.std.specs.Map.{lookup}
use Rattle.std.specs.Option.{option_map}
use Rattle.std.proofs.lemmas.List.Quantifiers.{all_pairs_push}
use mathlib.Core.Logic.{dite}
use native.Mathlib.Decide.{ℕ_discrete}
use Rattle.mc_words.specs.History.{map_value, value_held, value_of}
use Rattle.mc_words.specs.Places.{item}
use Rattle.mc_words.specs.Standing.{Agrees, AgreesAt, Stands}
use Rattle.mc_words.specs.declared.history.Change.{Change}
use Rattle.mc_words.specs.declared.shape.Shape.{Shape}
use Rattle.mc_search.specs.Entries.{AreEntriesOf, AreInOrder}
use Rattle.mc_search.specs.Inside.Entries.{AreEntriesBelow}

-- ---- one entry more
lookup_other : (k x : ℕ) (v : List ℕ) (es : List (ℕ × List ℕ)) → k ≢ x → lookup (λ q. eqb k q) (es ++ (x, v) ∷ []) ≡ lookup (λ q. eqb k q) es
lookup_other k x v [] ne = ap (λ (b : Bool). if b then Some v else None) (ne_eqb k x ne)
lookup_other k x v (e ∷ es) ne = ap (λ (o : Option (List ℕ)). if eqb k e.0 then Some e.1 else o) (lookup_other k x v es ne)

lookup_new : (x : ℕ) (v : List ℕ) (es : List (ℕ × List ℕ)) → lookup (λ q. eqb x q) es ≡ None → lookup (λ q. eqb x q) (es ++ (x, v) ∷ []) ≡ Some v
lookup_new x v [] e = ap (λ (b : Bool). if b then Some v else None) (eq-eqb x x refl)
lookup_new x v (y ∷ es) e = at (eqb x y.0) e (lookup_new x v es)
  where
    at : (b : Bool) → (if b then Some y.1 else lookup (λ q. eqb x q) es) ≡ None → (lookup (λ q. eqb x q) es ≡ None → lookup (λ q. eqb x q) (es ++ (x, v) ∷ []) ≡ Some v) → (if b then Some y.1 else lookup (λ q. eqb x q) (es ++ (x, v) ∷ [])) ≡ Some v
    at true e next = absurd (cc)
    at _ e next = next e

-- a key that isn't there is none of them
not_among : (x : ℕ) (es : List (ℕ × List ℕ)) → lookup (λ q. eqb x q) es ≡ None → (k : ℕ) (d : ℕ × List ℕ) → k < length es → (get_or es k d).0 ≢ x
not_among x [] e k d l = absurd (omega (arith, l))
not_among x (y ∷ es) e zero d l = λ is. absurd (hit (eq-eqb x y.0 (sym is)))
  where
    hit : eqb x y.0 ≡ true → ⊥
    hit b = let f : (if true then Some y.1 else lookup (λ q. eqb x q) es) ≡ None = subst (λ (c : Bool). (if c then Some y.1 else lookup (λ q. eqb x q) es) ≡ None) b e in cc
not_among x (y ∷ es) e (suc k) d l = not_among x es (rest (eqb x y.0) e) k d (omega (arith, l))
  where
    rest : (b : Bool) → (if b then Some y.1 else lookup (λ q. eqb x q) es) ≡ None → lookup (λ q. eqb x q) es ≡ None
    rest true e = absurd (cc)
    rest _ e = e

-- ---- where keys stand
-- a key stands once
stands_once : (V : ℕ) (sh : Shape) (w : List ℕ) (k q i p g : ℕ) (o : Option (List ℕ)) → AgreesAt V sh w k o → Stands V sh w k q i → Stands V sh w k p g → g ≡ i
stands_once V sh w k q i p g None a s t = absurd (a q i s)
stands_once V sh w k q i p g (Some v) a s t = (a.2.once p g t).1 ∙ sym ((a.2.once q i s).1)

pub at_one_item : (V : ℕ) (sh : Shape) (w : List ℕ) (h : List (Change V)) (k q i p g : ℕ) → Agrees V sh w None h → Stands V sh w k q i → Stands V sh w k p g → g ≡ i
at_one_item V sh w h k q i p g a s t = stands_once V sh w k q i p g (map_value h k) (a.keys k (λ e. cc)) s t

-- ---- their order
-- an entry at the next item
in_order_then : (V : ℕ) (sh : Shape) (w : List ℕ) (from n q x : ℕ) (v : List ℕ) (es : List (ℕ × List ℕ)) → AreInOrder V sh w from n es → Stands V sh w x q n → AreInOrder V sh w from (n + 1) (es ++ (x, v) ∷ [])
in_order_then V sh w from n q x v [] o s = (n, q, o, s, omega arith)
in_order_then V sh w from n q x v (e ∷ es) o s = (o.0, o.1, o.2, o.3, in_order_then V sh w (o.0 + 1) n q x v es o.4 s)

-- an item without an entry
in_order_past : (V : ℕ) (sh : Shape) (w : List ℕ) (from n : ℕ) (es : List (ℕ × List ℕ)) → AreInOrder V sh w from n es → AreInOrder V sh w from (n + 1) es
in_order_past V sh w from n [] o = omega (arith, o)
in_order_past V sh w from n (e ∷ es) o = (o.0, o.1, o.2, o.3, in_order_past V sh w (o.0 + 1) n es o.4)

-- ---- the lists
pub one_more : (V : ℕ) (sh : Shape) (w : List ℕ) (h : List (Change V)) (n q x : ℕ) (v : List ℕ) (es : List (ℕ × List ℕ)) → Agrees V sh w None h → AreEntriesBelow V sh w h n es → Stands V sh w x q n → value_held h x ≡ Some v → AreEntriesBelow V sh w h (n + 1) (es ++ (x, v) ∷ [])
one_more V sh w h n q x v es agrees b stands value =
    let fresh : lookup (λ y. eqb x y) es ≡ None = b.away x (λ p g l s. absurd (omega (arith, l, at_one_item V sh w h x q n p g agrees stands s))) in
    record {
      here = λ k p i l s. dite (ℕ_discrete k x)
          (λ (e : k ≡ x). ap (λ (y : ℕ). lookup (λ z. eqb y z) (es ++ (x, v) ∷ [])) e ∙ (lookup_new x v es fresh ∙ (sym value ∙ ap (value_held h) (sym e))))
          (λ (ne : k ≢ x).
          let other : i ≢ n = λ e. ne (sym s.key ∙ (ap (λ (j : ℕ). item V sh w j 0) e ∙ stands.key)) in
          lookup_other k x v es ne ∙ b.here k p i (omega (arith, l, other)) s);
      away = λ k no.
          let ne : k ≢ x = λ e. no q n (omega arith) (subst (λ (y : ℕ). Stands V sh w y q n) (sym e) stands) in
          lookup_other k x v es ne ∙ b.away k (λ p i l s. no p i (omega (arith, l)) s);
      once = all_pairs_push (λ d e. d.0 ≢ e.0) es (x, v) b.once (not_among x es fresh);
      order = in_order_then V sh w 0 n q x v es b.order stands;
    }

pub none_more : (V : ℕ) (sh : Shape) (w : List ℕ) (h : List (Change V)) (n : ℕ) (es : List (ℕ × List ℕ)) → AreEntriesBelow V sh w h n es → ((k q : ℕ) → Stands V sh w k q n → ⊥) → AreEntriesBelow V sh w h (n + 1) es
none_more V sh w h n es b unused = record {
  here = λ k p i l s. b.here k p i (below k p i l s) s;
  away = λ k nowhere. b.away k (λ p i l s. nowhere p i (omega (arith, l)) s);
  once = b.once;
  order = in_order_past V sh w 0 n es b.order;
}
  where
    below : (k p i : ℕ) → i < n + 1 → Stands V sh w k p i → i < n
    below k p i l s = dite (ℕ_discrete i n) (λ (e : i ≡ n). absurd (unused k p (subst (Stands V sh w k p) e s))) (λ ne. omega (arith, l, ne))

pub all_entries : (V : ℕ) (sh : Shape) (w : List ℕ) (h : List (Change V)) (es : List (ℕ × List ℕ)) → Agrees V sh w None h → AreEntriesBelow V sh w h sh.items es → AreEntriesOf V h es
all_entries V sh w h es agrees b = record { values = λ k. of (map_value h k) k (agrees.keys k (λ e. cc)) refl; once = b.once }
  where
    of : (o : Option (List ℕ)) (k : ℕ) → AgreesAt V sh w k o → map_value h k ≡ o → lookup (λ q. eqb k q) es ≡ value_held h k
    of None k a e = b.away k (λ q i l s. a q i s) ∙ sym (ap (option_map (value_of V)) e)
    of (Some v) k a e = b.here k a.0 a.1 a.2.stands.names.in_items a.2.stands

-- ---- an item at which no key stands
-- a key that stands there would be the one of the item's first word
pub unstood : (V : ℕ) (sh : Shape) (w : List ℕ) (h : List (Change V)) (x n : ℕ) → Agrees V sh w None h → x ≡ item V sh w n 0 → map_value h x ≡ None → (k q : ℕ) → Stands V sh w k q n → ⊥
unstood V sh w h x n agrees here none k q s =
    let absent : AgreesAt V sh w x None = subst (AgreesAt V sh w x) none (agrees.keys x (λ e. cc)) in
    absent q n (record { names = s.names; key = sym here })

pub stood_elsewhere : (V : ℕ) (sh : Shape) (w : List ℕ) (h : List (Change V)) (x n p g : ℕ) → Agrees V sh w None h → x ≡ item V sh w n 0 → Stands V sh w x p g → g ≢ n → (k q : ℕ) → Stands V sh w k q n → ⊥
stood_elsewhere V sh w h x n p g agrees here there ne k q s = ne (at_one_item V sh w h x q n p g agrees (record { names = s.names; key = sym here }) there)

pub if_none_any : {A : Type 0} (o : Option A) (P : Type 0) → P → IfNone o P
if_none_any None P p = p
if_none_any (Some x) P p = tt

pub none_of : {A : Type 0} (o : Option A) (P : Type 0) → o ≡ None → IfNone o P → P
none_of None P e p = p
none_of (Some x) P e p = absurd (cc)
