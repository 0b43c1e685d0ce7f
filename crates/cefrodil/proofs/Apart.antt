-- A box that is taken apart. Its parts are the box's own fields, so they own what it owned, at the same machine value. Assumes `Logic`.
use Rattle.std.proofs.Common.{◌≡◌, ℕ, List, [], ◌∷◌}
use mir.Syntax.{Dict}
use mir.Val.{Val}
use seplogic.Ra.Ura.{Ura}
use base.Logic.{id⊢}
use types.Logic.{Logic}
use types.Kit.{Item, Goal, Seq, Step, step, ‵, ◌$◌, use1, fsplit, fjoin}
use denote.RattleType.{RattleType}
use denote.Param.Laws.{Laws}
use denote.RawPtr.{block_ptr}
use Rattle.core.specs.declared.alloc.Allocator.{Ghosts}
use Rattle.core.proofs.alloc.Calls.{Fits, token}
use Rattle.std_alloc.specs.Box.Ownership.{box_owns}
use Rattle.std_alloc.proofs.BoxSteps.Form.{Bx, R, P, word}
use Rattle.std_alloc.proofs.BoxSteps.Steps.{box_out, box_in}
use Rattle.cefrodil.specs.contracts.unboxed.Unboxed as unboxed

-- what the generic functions are given, in one
abbrev pub boxes : (T A : RattleType) → Laws T → Laws A → Ghosts A.Denot → (of_A drops_A : Dict) → Bx
boxes T A LT LA g of_A drops_A = record { row = T; laws = LT; al = record { row = A; laws = LA; g = g; d = of_A; drops = drops_A } }

module _ (E : Bx) where
  abbrev pub Parts : RattleType
  Parts = unboxed.the_row (R E) (P E) E.al.g

  module _ {M : Type 1} {𝓤 : Ura M} {𝓛 : Logic 𝓤} {K : Type 0} {Γ : List (Item 𝓤)} {G : Goal 𝓤 𝓛.H} where
    -- the parts in hand: the block with its value, and the allocator
    pub parts_out : K → (d : Parts.Denot) (vs : List Val)
        → ((b o : ℕ) (h : Val) → d.at ≡ block_ptr b o → vs ≡ word E h b o ∷ [] → Fits E.al h
        → Seq K 𝓛 (‵ (box_owns (token E.al d.alloc) (R E) (block_ptr b o) d.value) ∷ ‵ ((P E).own_val d.alloc (h ∷ [])) ∷ Γ) G)
        → Seq K 𝓛 (‵ (Parts.own_val d vs) ∷ Γ) G
    parts_out t d vs go = box_out E t (record { ptr = d.at; alloc = d.alloc; value = d.value }) vs (λ b o h at is fits. fjoin t $ go b o h at is fits)

    pub parts_in : K → (b o : ℕ) (h : Val) (d : Parts.Denot) → d.at ≡ block_ptr b o
        → Step K 𝓛 (‵ (Parts.own_val d (word E h b o ∷ [])) ∷ Γ) G (‵ (box_owns (token E.al d.alloc) (R E) (block_ptr b o) d.value) ∷ ‵ ((P E).own_val d.alloc (h ∷ [])) ∷ Γ) G
    parts_in t b o h d at = step (λ s. fsplit t $
        box_in E t (record { ptr = d.at; alloc = d.alloc; value = d.value }) b o d.value at Rattle.std.proofs.Common.refl $ use1 𝓛 (‵ (Parts.own_val d (word E h b o ∷ []))) (id⊢ 𝓤 _) $ s)
