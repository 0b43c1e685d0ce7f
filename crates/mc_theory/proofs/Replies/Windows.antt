-- A window of fronts in which nothing of a key changes.
use Rattle.std.proofs.Common.{ℕ, ◌≡◌, ◌/◌, ◌%◌, ◌≤◌, List, length, Option, Some, None, sym, ◌∙◌, ap, subst, arith}
use Rattle.mc_theory.proofs.Lists.Fronts.{front_holds, kept_while_even, versions_rise}
use Rattle.mc_theory.proofs.Lists.KeptWhileEven.{Kept, even_not_running}
use Rattle.mc_theory.specs.Lists.{IsLawful, Made, front}
use Rattle.mc_words.proofs.Keys.{stripe_of-lt}
use Rattle.mc_words.specs.History.{map_value}
use Rattle.mc_words.specs.Keys.{IsBucketOf, slot_word, stripe_of, tag_of}
use Rattle.mc_words.specs.Places.{moment, slot, version}
use Rattle.mc_words.specs.Shapes.{IsShape}
use Rattle.mc_words.specs.Standing.{AgreesAt, Stands}
use Rattle.mc_words.specs.declared.shape.Shape.{Shape}

-- ---- a window in which nothing of the key changes
pub record Window (V : ℕ) (sh : Shape) (acts : List Made) (k f g : ℕ) : Type 0 where
  pub kept : (d e : ℕ) → f ≤ d → d ≤ e → e ≤ g → Kept sh (front V sh acts d) (front V sh acts e) k
  pub agrees : (d : ℕ) → f ≤ d → d ≤ g → AgreesAt V sh (front V sh acts d).words k (map_value (front V sh acts d).history k)
  pub at_moment : (d : ℕ) → moment (front V sh acts d).words ≡ length (front V sh acts d).history

-- while the version of a key is even and stays, a window is open on it
pub window : (V : ℕ) (sh : Shape) (acts : List Made) (k f g : ℕ) → IsShape sh → IsLawful V sh acts → f ≤ g → version (front V sh acts f).words (stripe_of sh k) % 2 ≡ 0 → version (front V sh acts g).words (stripe_of sh k) ≡ version (front V sh acts f).words (stripe_of sh k) → Window V sh acts k f g
window V sh acts k f g shape l le even e =
    let below = stripe_of-lt sh k shape in
    let v : (d : ℕ) → f ≤ d → d ≤ g → version (front V sh acts d).words (stripe_of sh k) ≡ version (front V sh acts f).words (stripe_of sh k) =
    λ d a b. omega (arith, versions_rise V sh acts f d (stripe_of sh k) shape l a below, versions_rise V sh acts d g (stripe_of sh k) shape l b below, e) in
    record {
      kept = λ d h a b c.
          let x : version (front V sh acts d).words (stripe_of sh k) ≡ version (front V sh acts f).words (stripe_of sh k) = v d a (omega arith) in
          let y : version (front V sh acts h).words (stripe_of sh k) ≡ version (front V sh acts f).words (stripe_of sh k) = v h (omega arith) c in
          kept_while_even V sh acts d h k shape l b (rw x even) (y ∙ sym x);
      agrees = λ d a b.
          let x : version (front V sh acts d).words (stripe_of sh k) ≡ version (front V sh acts f).words (stripe_of sh k) = v d a b in
          let i = front_holds V sh acts d shape l in
          i.agrees.keys k (even_not_running V sh _ _ _ k shape i.agrees (rw x even));
      at_moment = λ d. (front_holds V sh acts d shape l).agrees.at_moment;
    }

-- a key that stands where it agrees stands under its tag, in a bucket of its own
pub tag_from_agree : (V : ℕ) (sh : Shape) (w : List ℕ) (k q i : ℕ) (o : Option (List ℕ)) → AgreesAt V sh w k o → Stands V sh w k q i → (slot sh w q ≡ slot_word (tag_of sh k) i) × IsBucketOf sh k (q / 4)
tag_from_agree V sh w k q i None a s = absurd (a q i s)
tag_from_agree V sh w k q i (Some v) a s =
    let one = a.2.once q i s in
    (ap (λ y. slot sh w y) one.0 ∙ a.2.tagged ∙ ap (λ y. slot_word (tag_of sh k) y) (sym one.1), subst (λ (y : ℕ). IsBucketOf sh k (y / 4)) (sym one.0) a.2.placed)
