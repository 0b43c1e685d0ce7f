-- A search for an item that gives way, reading by reading.
use Rattle.std.proofs.Common.{ℕ, ◌≡◌, ◌+◌, ◌<◌, ◌↔◌, ◌∙◌, inl, inr, List, [], ◌∷◌, ◌++◌, Some, None, cond, eqb, ap, sym, subst, arith, get_or, length}
use Rattle.std.proofs.lemmas.Bool.{cases_lt}
use Rattle.std.proofs.lemmas.List.{get_or_push, get_or_append_left, length_push}
use Rattle.mc_search.specs.Sweeps.{Swept, victim_of}
use Rattle.mc_search.proofs.SweepReadings.{all_marked, victim_push}
use Rattle.mc_search.specs.Choices.{IsInUse}
use Rattle.mc_search.specs.Picks.{HasPicked}
use Rattle.mc_search.specs.declared.choice.Choice.{Choice}
use Rattle.mc_search.specs.declared.pick.Pick.{Pick}

-- one reading more
pub pick_push : (c d : Choice) (p q : Pick) (rs : List Swept) (i bit : ℕ) → HasPicked c p rs → victim_of rs ≡ None → IsInUse c i → ((j : ℕ) → IsInUse d j ↔ IsInUse c j) → d.items ≡ c.items → q.items ≡ p.items
    → q.left + 1 ≡ p.left → q.victim ≡ cond (eqb bit 0) (Some i) None → HasPicked d q (rs ++ record { item = i; bit = bit } ∷ [])
pick_push c d p q rs i bit has none used same items most left found =
    let r : Swept = record { item = i; bit = bit } in
    let many = length_push rs r in
    let was = has.left in
    record {
      in_use = λ n e l. (same (get_or (rs ++ r ∷ []) n e).item).1 (elim (cases_lt n (length rs)) [
        | inl before ↦ subst (λ (x : Swept). IsInUse c x.item) (sym (get_or_append_left rs (r ∷ []) e n before)) (has.in_use n e before)
        | inr past ↦
            let last : length rs ≡ n = omega arith in
            subst (λ (x : Swept). IsInUse c x.item) (sym (get_or_push rs r e n last)) used
      ]);
      marked = λ n e l is.
          let before : n < length rs = omega arith in
          all_marked rs none n e before (sym (ap (λ (x : Swept). x.bit) (get_or_append_left rs (r ∷ []) e n before)) ∙ is);
      left = omega (arith, was, many, left, most);
      few = omega (arith, has.few, most, items);
      found = found ∙ sym (victim_push rs r none);
    }
