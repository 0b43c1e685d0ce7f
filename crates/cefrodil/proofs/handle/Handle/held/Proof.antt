-- `held` lends what is behind the handle, and the handle follows it.
use Rattle.std.proofs.Common.{◌≡◌, ℕ, List, [], ◌∷◌, ◌++◌, refl, sym, subst}
use mathlib.Core.Option.{none, some}
use seplogic.Ra.Ura.{Ura}
use mir.Raw.{raw as bare}
use mir.Syntax.{Fn, named}
use mir.Val.{Val, vptr}
use base.Fraction.{full_share}
use base.Fml.{Lft, GName, Share, Fml, ftrue, fsep, flft, fobs, fbor}
use base.Logic.{SProp, ent, sep}
use contract.Monad.{Fun}
use contract.Running.{tables, tables_of}
use prog.Memory.{Memory}
use prog.Routine.{Routine}
use prog.Wp.{Env, Calls, Loops, WpFn, Tables}
use sound.WpLaws.{WpFn-mono}
use types.ByLocal.{alloc_all, pass_all, free_all, look_at, get, through, sets, sets_last, env}
use types.Kit.{Item, ⋆, ‵, raw, ◌⊛◌, some as any, later, await, pick, at_ret, ◌$◌, ◌∵◌, !, qed, by, move, keep, use1, split, join, group, rewrite, fsplit, fsplit3, fjoin, fpack, feq_l, suffices, frame, done}
use types.Logic.{Logic, sem}
use types.Part.{whole, sub, look_in}
use types.Run.{stop, fld, load, of_opd, addr, first, blocks, exec, returns, enter}
use types.SemTy.{Body as Borrowed}
use denote.Exit.{no}
use denote.Follow.{follows, Part, lends_Part}
use denote.Memory.{cell_at, lone, mem, part_at, part_of}
use denote.RattleType.{owns}
use denote.RawPtr.{Ptr, block_ptr}
use denote.Ref.{MutBor, MutRef}
use denote.Signature.{plain, mut_ref_to}
use denote.Steps.{nothing, opens}
use denote.Triple.Clauses.{Clauses, closing}
use denote.Triple.Entry.{on_entry}
use denote.Triple.Spec.{Meets, triple_of}
use denote.Triple.Table.{entered}
use denote.Triple.Walked.{says, needs, Stays, stay_dropped, walk_of, ends_at, Goes-spent_ref, walk_Meets}
use Rattle.std.specs.contracts.impls.GlobalAllocator.TheImpl.{ghosts}
use Rattle.std_alloc.proofs.VecSteps.Shapes.{after}
use Rattle.cefrodil.proofs.Behind.{Handle, AnySide, Heap, at_block, some_of, full_out, full_in}
use Rattle.cefrodil.specs.Inside.Lent.{with_held}
use Rattle.cefrodil.specs.contracts.handle.Handle.held as f
use Rattle.cefrodil.proofs.handle.Handle.held.Statement.{statement}
use Rattle.cefrodil.proofs.handle.Handle.held.Code as code

abbrev function : Fn
function = code.function

abbrev stayed : Stays f.ended.signature.params f.ended.kept
stayed = (stay_dropped (mut_ref_to (0 ∷ []) tt (plain (λ _. Handle))) no, tt)

abbrev Full : Handle.Denot → Type 0
Full d = ¬ (d.value ≡ none)

module _ {M : Type 1} {𝓤 : Ura M} (𝓛 : Logic 𝓤) (at_mem : Memory → SProp 𝓤) (run : Routine → Fun 𝓤) where
  open 𝓛 use {H, A}

  abbrev spec : Clauses 𝓤 f.ended
  spec = f.clauses 𝓛 at_mem run

  module _ (C : Calls 𝓤 H) (Λ : Loops 𝓤 H) (κ : Lft) (q : Share) (rb ro : ℕ) (γ : GName) (d : Handle.Denot) (ps : List Val) where
    abbrev self : MutBor Handle.Denot
    self = record { ref_ptr = (rb, ro); ghost_name = γ; now = d }

    abbrev bound : (walk_of 𝓛 f.ended stayed spec).Ghost
    bound = (((κ, tt), (q, tt), tt, (self, tt), (ps, tt)), tt)

    abbrev Post : Val → SProp 𝓤
    Post = (walk_of 𝓛 f.ended stayed spec).post bound

    abbrev new : AnySide.Denot → Handle.Denot
    new = with_held d

    module _ (b o : ℕ) (h : Val) where
      -- all but what is behind the handle
      abbrev Rest : Fml
      Rest = fsep (fsep (ghosts.dealloc_token d.alloc (bare (lone AnySide.mir)) (block_ptr b o)) (Heap.own_val d.alloc (h ∷ []))) (cell_at full_share Handle.mir (at_block h b o ∷ []) rb ro)

      back : d.at ≡ block_ptr b o → (w : AnySide.Denot) → ent 𝓤 (sep 𝓤 (sem 𝓛 ((mem AnySide).own_at w b o)) (sem 𝓛 Rest)) (sem 𝓛 ((mem Handle).own_at (new w) rb ro))
      unfolding part_of
      back at w =
          qed 𝓛 (‵ (part_at AnySide full_share w b o) ∷ ‵ Rest ∷ []) ∵ move ! (1 ∷ []) $ fsplit ! $ fsplit ! $ move ! (3 ∷ 0 ∷ []) $ fjoin ! $
          full_in ! b o h d.alloc w $ rewrite ! 0 (λ (p : Ptr). ‵ (Handle.own_val (record { at = p; alloc = d.alloc; value = some w }) (at_block h b o ∷ []))) (sym at) refl $
          move ! (1 ∷ 0 ∷ []) $ fjoin ! $
          fpack ! (List Val) (λ us. fsep (cell_at full_share Handle.mir us rb ro) (Handle.own_val (new w) us)) (at_block h b o ∷ []) $ done !

    exits : (b o : ℕ) (x : AnySide.Denot) → some x ≡ d.value → (δ : GName)
        → ent 𝓤 (sep 𝓤 (sem 𝓛 ((MutRef (named 0) κ AnySide).own_val (record { ref_ptr = (b, o); ghost_name = δ; now = x }) (vptr b o ∷ []))) (sep 𝓤 (A.lft κ q) (sem 𝓛 (follows Handle AnySide γ δ new)))) (Post (vptr b o))
    exits b o x is δ =
        qed 𝓛 (‵ ((MutRef (named 0) κ AnySide).own_val (record { ref_ptr = (b, o); ghost_name = δ; now = x }) (vptr b o ∷ [])) ∷ ‵ (flft κ q) ∷ ‵ (follows Handle AnySide γ δ new) ∷ []) ∵
        suffices ! _ (ends_at 𝓛 f.ended stayed spec bound (vptr b o) (record { ref_ptr = (b, o); ghost_name = δ; now = x }) (tt, tt) (tt, tt)) $
        nothing ! $ nothing ! $ fjoin ! $ join ! $ nothing ! $ move ! (2 ∷ 0 ∷ []) $ join ! $ join ! $ frame ! $ says ! is $ done !

    abbrev Had : List (Item 𝓤)
    Had = ‵ (fobs γ (Handle.coded.code d)) ∷ ‵ (fbor κ (Borrowed (mem Handle) rb ro γ)) ∷ ‵ (flft κ q) ∷ []

    walk : Full d → ent 𝓤 (⋆ 𝓛 Had) (WpFn 𝓤 H C Λ function (vptr rb ro ∷ []) Post)
    walk full =
        let kept = some_of d.value full in
        qed 𝓛 Had ∵ enter ! C Λ function (vptr rb ro ∷ []) _ $ alloc_all ! (λ l. pass_all ! refl ((tt, tt), tt) $
        let En : Env 𝓤 H = env function.locals l in
        opens ! tt Handle {h = d} rb ro (λ vs. move ! (1 ∷ []) $ full_out ! d kept.0 kept.1 vs (λ b o h at is fits.
        -- [what is behind; the allocator; the word; the open borrow; obs; auth]
        fsplit ! $ move ! (1 ∷ 2 ∷ []) $ fjoin ! $ move ! (1 ∷ []) $ rewrite ! 2 (λ (us : List Val). ‵ (cell_at full_share Handle.mir us rb ro)) is refl $
        first ! $ blocks ! $
        sets ! (of_opd ! (load ! (through ! refl (fld ! refl (stop !))) (look_in ! 2 (sub ! 0 refl (whole !))))) refl (tt, tt) $
        sets ! (of_opd ! (get ! refl)) refl (tt, tt) $
        sets_last ! (addr ! (through ! refl (stop !))) refl (tt, tt) $
        exec ! C Λ En (after 1 function.body) (at_ret En Post) $ sets ! (of_opd ! (get ! refl)) refl (tt, tt) $
        move ! (1 ∷ 2 ∷ []) $ fjoin ! $ move ! (2 ∷ 3 ∷ 4 ∷ 1 ∷ 0 ∷ []) $ group ! 5 $
        use1 𝓛 (later (any (λ (δ : GName). raw (Part 𝓛 Handle AnySide new (named 0) κ q rb ro b o γ (sem 𝓛 (Rest b o h)) (back b o h at) kept.0 δ))))
        (lends_Part 𝓛 Handle AnySide new (named 0) κ q rb ro b o γ (sem 𝓛 (Rest b o h)) (back b o h at) (Handle.coded.code d) (Handle.coded.code d) kept.0) $ await ! tt $ pick ! (λ δ.
        returns ! (look_at ! 0 refl) $ free_all ! refl $ keep ! (0 ∷ []) $ by ! (exits b o kept.0 (sym kept.1) δ)))))

    entry : Full d → ent 𝓤 (on_entry 𝓛 f.ended.signature (κ, tt) (q, tt) (self, tt) (ps, tt)) (WpFn 𝓤 H C Λ function (ps ++ []) Post)
    entry full =
        qed 𝓛 ((‵ (flft κ q) ⊛ ‵ ftrue) ∷ ‵ (owns (MutRef (named 0) κ Handle ∷ []) (self, tt) (ps, tt)) ∷ []) ∵ split ! $ move ! (2 ∷ []) $ fsplit ! $ fsplit3 ! $ feq_l ! (λ is. keep ! (0 ∷ 1 ∷ 3 ∷ []) $
        by ! (subst (λ (ws : List Val). ent 𝓤 (⋆ 𝓛 Had) (WpFn 𝓤 H C Λ function (ws ++ []) Post)) (sym is) (walk full)))

  meets : (𝓣 : Tables 𝓤 H) → Meets 𝓛 f.ended.signature (WpFn 𝓤 H 𝓣.C 𝓣.Λ function) (closing 𝓛 f.ended spec)
  meets 𝓣 =
      walk_Meets 𝓛 f.ended stayed (Goes-spent_ref 𝓛 1 (0 ∷ []) tt (plain (λ _. Handle)), tt) spec (WpFn 𝓤 H 𝓣.C 𝓣.Λ function) (WpFn-mono 𝓤 H 𝓛.laws 𝓣 function)
      (λ z. let a = z.0.3.0 in needs 𝓤 (Full a.now) _ (entry 𝓣.C 𝓣.Λ z.0.0.0 z.0.1.0 a.ref_ptr.0 a.ref_ptr.1 a.ghost_name a.now z.0.4.0))

pub held_spec : {M : Type 1} → statement M
unfolding tables_of
held_spec 𝓤 𝓛 𝓜 𝓡 wired =
    let 𝓣 : Tables 𝓤 𝓛.H = tables_of 𝓤 𝓛.H 𝓜 (tables 𝓤 𝓛.H 𝓜 𝓡 𝓡.env) in
    entered 𝓤 𝓛.H (triple_of 𝓛 f.ended.signature (closing 𝓛 f.ended (f.clauses 𝓛 𝓜.mem 𝓡.returns))) 𝓣.C 𝓣.Λ f.Key.name function (code.unfolded 𝓤 𝓛.H 𝓜 𝓡 wired) (meets 𝓛 𝓜.mem 𝓡.returns 𝓣)
