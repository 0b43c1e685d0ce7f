-- The last change of a key determines what the map holds of it.
use Rattle.std.proofs.Common.{ℕ, zero, suc, ◌≡◌, ◌≢◌, ◌+◌, ◌-◌, ◌≤◌, List, [], ◌∷◌, ◌++◌, length, get_or, take, Bool, true, false, not, ◌&&◌, eqb, Option, Some, None, refl, ap, sym, subst, ◌∙◌, arith}
use Rattle.std.specs.Prelude.{slice_get}
use Rattle.std.specs.Bool.{Decides}
use Rattle.std.specs.Cmp.Lexicographic.{pointwise}
use Rattle.std.specs.Option.{is_some, option_eq}
use Rattle.std.proofs.lemmas.Bool.Decides.{Decides-and}
use Rattle.std.proofs.lemmas.List.{length-take-le, same_from_push}
use Rattle.std.proofs.lemmas.Slice.Eq.{bytes_eq-Decides}
use Rattle.std.proofs.Math.Seq.{take-suc}
use Rattle.std.proofs.lemmas.Option.{get_or_from_slice_get, slice_get-get_or, slice_get_within}
use Rattle.mc_words.specs.History.{IsTrueAnswer, map_value}
use Rattle.mc_words.specs.declared.history.Change.{Change}
use Rattle.mc_words.specs.declared.history.Change.TheVariants.{Put, Remove, Evict}
use Rattle.mc_words.specs.declared.history.Reply.{Reply}
use Rattle.mc_words.specs.declared.history.Reply.TheVariants.{Found, Absent}
use Rattle.mc_words.proofs.Maps.{held-none, held-put, held-remove, held-evict, held-other, key_of}
use Rattle.mc_check.specs.Changes.{key_in}
use Rattle.mc_check.specs.Inside.Last.{moment_in, value_in, value_after, AreOthers, IsLast, IsStampOf}

pub Some-injective : {A : Type 0} (x y : A) → Some x ≡ Some y → x ≡ y
Some-injective x y e = cc

same_key : {V : ℕ} (c : Change V) → key_of c ≡ key_in c
same_key (Put k v) = refl
same_key (Remove k) = refl
same_key (Evict k) = refl

-- changes of other keys leave what the map holds of the key
kept_over : {V : ℕ} (h : List (Change V)) (k lo d : ℕ) → d + lo ≤ length h → AreOthers h k lo (d + lo) → map_value (take (d + lo) h) k ≡ map_value (take lo h) k
kept_over h k lo zero within o = ap (λ (n : ℕ). map_value (take n h) k) (omega arith)
kept_over {V} h k lo (suc d) within o =
    let c = get_or h (d + lo) (Remove 0) in
    let next : suc d + lo ≡ suc (d + lo) = omega arith in
    let there : slice_get h (d + lo) ≡ Some c = slice_get-get_or h (d + lo) (Remove 0) (omega arith) in
    let other : k ≢ key_of c = λ e. o (d + lo) c (omega arith) (omega arith) there (sym (e ∙ same_key c)) in
    ap (λ (z : List (Change V)). map_value z k) (ap (λ (n : ℕ). take n h) next ∙ take-suc h (d + lo) (Remove 0) (omega arith))
    ∙ (held-other (take (d + lo) h) c k other ∙ kept_over h k lo d (omega arith) (λ j c' low high. o j c' low (omega arith)))

-- a value with a stamp after it
abbrev stamped : ℕ → Option (List ℕ) → Option (List ℕ)
stamped n None = None
stamped n (Some v) = Some (v ++ n ∷ [])

-- what the map holds of a key after its last change
abbrev held_after : {V : ℕ} → List (Change V) → Option ℕ → Option (List ℕ)
held_after h None = None
held_after h (Some i) = stamped (i + 1) (value_after h (Some i))

-- a change says what the map holds of its key
held_by : {V : ℕ} (h : List (Change V)) (c : Change V) → map_value (h ++ c ∷ []) (key_in c) ≡ stamped (length h + 1) (value_in c)
held_by h (Put k v) = held-put h k v
held_by h (Remove k) = held-remove h k
held_by h (Evict k) = held-evict h k

told_by : {V : ℕ} (h : List (Change V)) (k i : ℕ) (c : Change V) → slice_get h i ≡ Some c → key_in c ≡ k → map_value (take (suc i) h) k ≡ stamped (i + 1) (value_in c)
told_by {V} h k i c there e =
    let is : get_or h i (Remove 0) ≡ c = get_or_from_slice_get h i c (Remove 0) there in
    ap (λ (z : List (Change V)). map_value z k) (take-suc h i (Remove 0) (slice_get_within h i c there) ∙ ap (λ (x : Change V). take i h ++ x ∷ []) is)
    ∙ (ap (map_value (take i h ++ c ∷ [])) (sym e) ∙ held_by (take i h) c ∙ ap (λ (n : ℕ). stamped (n + 1) (value_in c)) (length-take-le i h (omega (arith, slice_get_within h i c there))))

value_there : {V : ℕ} (h : List (Change V)) (i : ℕ) (c : Change V) → slice_get h i ≡ Some c → value_after h (Some i) ≡ value_in c
value_there h i c e = rw e refl

pub last_tells : {V : ℕ} (h : List (Change V)) (k n : ℕ) (last : Option ℕ) → n ≤ length h → IsLast h k n last → map_value (take n h) k ≡ held_after h last
last_tells {V} h k n None within o =
    subst (λ (m : ℕ). map_value (take m h) k ≡ None) (omega arith) (kept_over h k 0 n (omega arith) (λ j c low high. o j c low (omega arith)) ∙ held-none V k)
last_tells {V} h k n (Some i) within l =
    let c = l.1.0 in
    subst (λ (m : ℕ). map_value (take m h) k ≡ map_value (take (suc i) h) k) (omega (arith, l.0)) (kept_over h k (suc i) (n - suc i) (omega (arith, l.0)) (λ j c' low high. l.2 j c' (omega arith) (omega (arith, l.0))))
    ∙ (told_by h k i c l.1.1 l.1.2 ∙ ap (stamped (i + 1)) (sym (value_there h i c l.1.1)))

-- ---- whether an answer is true
value_decides : (o : Option (List ℕ)) (v : List ℕ) → Decides (option_eq (pointwise eqb) o (Some v)) (o ≡ Some v)
value_decides None v = (λ t. absurd (cc), λ e. absurd (cc))
value_decides (Some x) v = (λ t. ap Some ((bytes_eq-Decides x v).0 t), λ e. (bytes_eq-Decides x v).1 (Some-injective x v e))

none_decides : (o : Option (List ℕ)) (r : Bool) → is_some o ≡ not r → Decides r (o ≡ None)
none_decides None true e = (λ t. refl, λ x. refl)
none_decides None false e = absurd (cc)
none_decides (Some x) true e = absurd (cc)
none_decides (Some x) false e = (λ t. absurd (cc), λ y. absurd (cc))

-- the value and the stamp are those of the last change
to_held : {V : ℕ} (h : List (Change V)) (last : Option ℕ) (v : List ℕ) (n : ℕ) → value_after h last ≡ Some v → IsStampOf last n → held_after h last ≡ Some (v ++ n ∷ [])
to_held h None v n e is = absurd is
to_held h (Some i) v n e is = rw (e, is) refl

from_stamped : (o : Option (List ℕ)) (m n : ℕ) (v : List ℕ) → stamped m o ≡ Some (v ++ n ∷ []) → (o ≡ Some v) × (m ≡ n)
from_stamped None m n v e = absurd (cc)
from_stamped (Some x) m n v e = let same = same_from_push x v m n (Some-injective (x ++ m ∷ []) (v ++ n ∷ []) e) in (ap Some same.0, same.1)

from_held : {V : ℕ} (h : List (Change V)) (last : Option ℕ) (v : List ℕ) (n : ℕ) → held_after h last ≡ Some (v ++ n ∷ []) → (value_after h last ≡ Some v) × IsStampOf last n
from_held h None v n e = absurd (cc)
from_held h (Some i) v n e = from_stamped (value_after h (Some i)) (i + 1) n v e

pub found_decides : {V : ℕ} (h : List (Change V)) (k : ℕ) (reply : Reply V) (v : List ℕ) (at since : ℕ) (last : Option ℕ) (s r : Bool) → reply ≡ Found v at since → moment_in reply ≤ length h → IsLast h k (moment_in reply) last
    → Decides s (IsStampOf last since) → r ≡ option_eq (pointwise eqb) (value_after h last) (Some v) → Decides (s && r) (IsTrueAnswer h k reply)
found_decides {V} h k reply v at since last s r e within l stamp is = subst (λ (x : Reply V). moment_in x ≤ length h → IsLast h k (moment_in x) last → Decides (s && r) (IsTrueAnswer h k x)) (sym e) on within l
  where
    on : at ≤ length h → IsLast h k at last → Decides (s && r) (IsTrueAnswer {V = V} h k (Found v at since))
    on w l' =
        let tells = last_tells h k at last w l' in
        let value = value_decides (value_after h last) v in
        let both = Decides-and {P = IsStampOf last since} {Q = value_after h last ≡ Some v} s r stamp (λ t. value.0 (sym is ∙ t), λ a. is ∙ value.1 a) in
        (λ t. let are = both.0 t in (w, tells ∙ to_held h last v since are.1 are.0), λ a. both.1 (let are = from_held h last v since (sym tells ∙ a.1) in (are.1, are.0)))

none_held : {V : ℕ} (h : List (Change V)) (last : Option ℕ) → value_after h last ≡ None → held_after h last ≡ None
none_held h None e = refl
none_held h (Some i) e = rw e refl

from_none_stamped : (o : Option (List ℕ)) (m : ℕ) → stamped m o ≡ None → o ≡ None
from_none_stamped None m e = refl
from_none_stamped (Some x) m e = absurd (cc)

from_none_held : {V : ℕ} (h : List (Change V)) (last : Option ℕ) → held_after h last ≡ None → value_after h last ≡ None
from_none_held h None e = refl
from_none_held h (Some i) e = from_none_stamped (value_after h (Some i)) (i + 1) e

pub absent_decides : {V : ℕ} (h : List (Change V)) (k : ℕ) (reply : Reply V) (at : ℕ) (last : Option ℕ) (r : Bool) → reply ≡ Absent at → moment_in reply ≤ length h → IsLast h k (moment_in reply) last
    → is_some (value_after h last) ≡ not r → Decides r (IsTrueAnswer h k reply)
absent_decides {V} h k reply at last r e within l is = subst (λ (x : Reply V). moment_in x ≤ length h → IsLast h k (moment_in x) last → Decides r (IsTrueAnswer h k x)) (sym e) on within l
  where
    on : at ≤ length h → IsLast h k at last → Decides r (IsTrueAnswer {V = V} h k (Absent at))
    on w l' =
        let tells = last_tells h k at last w l' in
        let decides = none_decides (value_after h last) r is in
        (λ t. (w, tells ∙ none_held h last (decides.0 t)), λ a. decides.1 (from_none_held h last (sym tells ∙ a.1)))
