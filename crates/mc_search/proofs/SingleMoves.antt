-- A path of one place.
use Rattle.std.proofs.Common.{ℕ, ◌≡◌, ◌≢◌, ◌<◌, ◌⊎◌, inl, inr, ap, ◌∙◌, List, [], ◌∷◌, length, subst, sym, arith}
use Rattle.std.proofs.lemmas.Bool.{ne_eqb}
use Rattle.std.specs.List.{IsDistinct}
use Rattle.mc_words.specs.declared.place.Place.{Place}
use Rattle.mc_words.specs.declared.shape.Shape.{Shape}
use Rattle.mc_words.specs.Chains.{Leads, IsChain, NoChain, beyond}
use Rattle.mc_words.specs.Keys.{first_of, second_of}
use Rattle.mc_words.specs.Shapes.{IsShape}
use Rattle.mc_words.proofs.Keys.{alternate-ne}
use Rattle.mc_search.specs.declared.path.Path.{Path}
use Rattle.mc_search.specs.Paths.{IsLeastPath}

-- a move to a hole is a least path, if both buckets of the key are full
pub least_move : (sh : Shape) (w : List ℕ) (k a b : ℕ) (p : Path) (from : Place) → IsShape sh → a ≡ first_of sh k → b ≡ second_of sh k → p.places.items ≡ from ∷ [] → Leads sh w a (from ∷ []) p.hole ⊎ Leads sh w b (from ∷ []) p.hole → 0 < sh.depth → NoChain sh w k 0 → IsLeastPath sh w k p
unfolding IsDistinct
least_move sh w k a b p from shape ea eb one moves deep none =
    let many : length p.places.items ≡ 1 = ap length one in
    let to : p.hole.bucket ≡ beyond sh w from = elim moves [ inl x ↦ x.2.1 | inr x ↦ x.2.1 ] in
    let apart : p.hole.bucket ≢ from.bucket = λ e. alternate-ne sh from.bucket _ shape (sym to ∙ e) in
    record {
      chain = subst (λ (ps : List Place). IsChain sh w k ps p.hole) (sym one) (record {
        leads = elim moves [
          | inl x ↦ inl (subst (λ (y : ℕ). Leads sh w y (from ∷ []) p.hole) ea x)
          | inr x ↦ inr (subst (λ (y : ℕ). Leads sh w y (from ∷ []) p.hole) eb x)
        ];
        distinct = ((ne_eqb p.hole.bucket from.bucket apart, tt), (tt, tt));
      });
      within = omega arith;
      least = λ ps g c. let long = none ps g c in omega arith;
    }

-- if no single move makes room, and both buckets are full, each chain moves at least two
pub none_short : (sh : Shape) (w : List ℕ) (k a b : ℕ) → a ≡ first_of sh k → b ≡ second_of sh k → ((from hole : Place) → Leads sh w a (from ∷ []) hole → ⊥) → ((from hole : Place) → Leads sh w b (from ∷ []) hole → ⊥) → NoChain sh w k 0 → NoChain sh w k 1
none_short sh w k a b ea eb fa fb none [] h c = absurd (let long = none [] h c in omega arith)
none_short sh w k a b ea eb fa fb none (p ∷ []) h c = elim c.leads [
  | inl x ↦ absurd (fa p h (subst (λ (y : ℕ). Leads sh w y (p ∷ []) h) (sym ea) x))
  | inr x ↦ absurd (fb p h (subst (λ (y : ℕ). Leads sh w y (p ∷ []) h) (sym eb) x))
]
none_short sh w k a b ea eb fa fb none (p ∷ q ∷ ps) h c = omega arith
