-- The machine values of a `Handle`, and of the box behind it. Assumes `Logic`.
use Rattle.std.proofs.Common.{◌≡◌, ℕ, List, [], ◌∷◌, refl, lit<}
use mathlib.Core.Bool.{true, ◌&&◌}
use mathlib.Core.Option.{Option, none, some}
use lib.Dec.{T}
use mir.Syntax.{impl, tnil, dnil}
use mir.Val.{Val, vnull, vstruct, of_list, has_ty, WT}
use base.Logic.{id⊢}
use types.Logic.{Logic}
use types.Kit.{Item, Goal, Seq, Step, step, ‵, ◌$◌, move, use1, fsplit, fjoin, fpack, rewrite, feq_i}
use seplogic.Ra.Ura.{Ura}
use denote.RattleType.{RattleType, Valss}
use denote.Builtin.{RawPtr}
use denote.RawPtr.{block_ptr, null_ptr}
use denote.Steps.{nothing}
use denote.Param.{layout}
use denote.Struct.Struct.{within}
use denote.Struct.Owning.{shape}
use Rattle.core.proofs.cell.Inside.{Good}
use Rattle.std_alloc.specs.Box.Ownership.{box_owns}
use Rattle.std_alloc.proofs.ResultValues.{and_tt}
use Rattle.std_alloc.proofs.BoxSteps.Form.{Bx, word, box_typed}
use Rattle.std.specs.contracts.alloc.Global as global
use Rattle.std.proofs.alloc.Global.TheLaws as global_laws
use Rattle.std.specs.contracts.impls.GlobalAllocator.TheImpl.{ghosts}
use Rattle.mc_door.specs.contracts.any_side.AnySide as held
use Rattle.mc_door.proofs.any_side.AnySide.TheLaws as held_laws
use Rattle.cefrodil.specs.Kept.{kept_at}
use Rattle.cefrodil.specs.contracts.handle.Handle as handle
use Rattle.cefrodil.specs.contracts.unboxed.Unboxed as unboxed
use Rattle.cefrodil.proofs.Apart.{boxes, parts_out, parts_in}

abbrev pub AnySide : RattleType
AnySide = held.the_row

abbrev pub Heap : RattleType
Heap = global.the_row

abbrev pub Handle : RattleType
Handle = handle.the_row

abbrev pub Boxed : RattleType
Boxed = unboxed.the_row AnySide Heap ghosts

abbrev pub E : Bx
E = boxes AnySide Heap held_laws.the_row_laws global_laws.the_row_laws ghosts (impl [] tnil dnil) (impl [] tnil dnil)

-- the machine value of both: a pointer and the allocator
abbrev pub at_block : Val → ℕ → ℕ → Val
at_block = word E

abbrev pub at_null : Val → Val
at_null h = vstruct (of_list (vnull ∷ h ∷ []))

pub block_typed : (h : Val) (b o : ℕ) → Good (layout Heap) h → T (has_ty (layout Heap) h && true) × WT (at_block h b o)
block_typed h b o fits = box_typed E h b o fits

pub null_typed : (h : Val) → Good (layout Heap) h → T (has_ty (layout Heap) h && true) × WT (at_null h)
null_typed h fits = (and_tt (has_ty (layout Heap) h) fits.0, (record { fits = lit< tt }, (fits.1, tt)))

pub some_of : (kept : Option AnySide.Denot) → ¬ (kept ≡ none) → (x : AnySide.Denot) × (kept ≡ some x)
some_of none full = absurd (full refl)
some_of (some x) full = (x, refl)

module _ {M : Type 1} {𝓤 : Ura M} {𝓛 : Logic 𝓤} {K : Type 0} {Γ : List (Item 𝓤)} {G : Goal 𝓤 𝓛.H} where
  pub boxed_out : K → (d : Boxed.Denot) (vs : List Val)
      → ((b o : ℕ) (h : Val) → d.at ≡ block_ptr b o → vs ≡ at_block h b o ∷ [] → Good (layout Heap) h
      → Seq K 𝓛 (‵ (box_owns (ghosts.dealloc_token d.alloc) AnySide (block_ptr b o) d.value) ∷ ‵ (Heap.own_val d.alloc (h ∷ [])) ∷ Γ) G)
      → Seq K 𝓛 (‵ (Boxed.own_val d vs) ∷ Γ) G
  boxed_out t d vs go = parts_out E t d vs go

  pub boxed_in : K → (b o : ℕ) (h : Val) (d : Boxed.Denot) → d.at ≡ block_ptr b o
      → Step K 𝓛 (‵ (Boxed.own_val d (at_block h b o ∷ [])) ∷ Γ) G (‵ (box_owns (ghosts.dealloc_token d.alloc) AnySide (block_ptr b o) d.value) ∷ ‵ (Heap.own_val d.alloc (h ∷ [])) ∷ Γ) G
  boxed_in t b o h d at = parts_in E t b o h d at

  -- a handle with something behind it, in hand
  pub full_out : K → (d : Handle.Denot) (x : AnySide.Denot) → d.value ≡ some x → (vs : List Val)
      → ((b o : ℕ) (h : Val) → d.at ≡ block_ptr b o → vs ≡ at_block h b o ∷ [] → Good (layout Heap) h
      → Seq K 𝓛 (‵ (box_owns (ghosts.dealloc_token d.alloc) AnySide (block_ptr b o) x) ∷ ‵ (Heap.own_val d.alloc (h ∷ [])) ∷ Γ) G)
      → Seq K 𝓛 (‵ (Handle.own_val d vs) ∷ Γ) G
  full_out t d x full vs go =
      fsplit t $ move t (1 ∷ []) $ rewrite t 0 (λ (kept : Option AnySide.Denot). ‵ (kept_at d.alloc d.at kept)) full refl $ move t (1 ∷ 0 ∷ []) $ fjoin t $
      use1 𝓛 (‵ (Boxed.own_val (record { at = d.at; alloc = d.alloc; value = x }) vs)) (id⊢ 𝓤 _) $
      boxed_out t (record { at = d.at; alloc = d.alloc; value = x }) vs go

  pub full_in : K → (b o : ℕ) (h : Val) (a : Heap.Denot) (x : AnySide.Denot)
      → Step K 𝓛 (‵ (Handle.own_val (record { at = block_ptr b o; alloc = a; value = some x }) (at_block h b o ∷ [])) ∷ Γ) G (‵ (box_owns (ghosts.dealloc_token a) AnySide (block_ptr b o) x) ∷ ‵ (Heap.own_val a (h ∷ [])) ∷ Γ) G
  full_in t b o h a x = step (λ s.
      boxed_in t b o h (record { at = block_ptr b o; alloc = a; value = x }) refl $
      use1 𝓛 (‵ (Handle.own_val (record { at = block_ptr b o; alloc = a; value = some x }) (at_block h b o ∷ []))) (id⊢ 𝓤 _) $ s)

  -- a handle with nothing behind it owns its allocator alone
  pub empty_in : K → (h : Val) (a : Heap.Denot)
      → Step K 𝓛 (‵ (Handle.own_val (record { at = null_ptr; alloc = a; value = none }) (at_null h ∷ [])) ∷ Γ) G (‵ (Heap.own_val a (h ∷ [])) ∷ Γ) G
  empty_in t h a = step (λ s.
      nothing t $ nothing t $ move t (2 ∷ 0 ∷ []) $ fjoin t $ feq_i t (List Val) (vnull ∷ []) (vnull ∷ []) refl $ fjoin t $ feq_i t (List Val) (at_null h ∷ []) (at_null h ∷ []) refl $ fjoin t $
      fpack t (Valss (RawPtr ∷ Heap ∷ [])) (within (shape handle.the_type) (null_ptr, ((global.the_field).into a, tt)) (at_null h ∷ [])) (vnull ∷ [], (h ∷ [], tt)) $ fjoin t $ s)
