-- `empty`: nothing is behind the null pointer.
use Rattle.std.proofs.Common.{List, [], ◌∷◌, ◌++◌, refl, sym, subst}
use mathlib.Core.Option.{none}
use mir.Syntax.{Fn}
use mir.Val.{Val}
use base.Logic.{SProp, ent, id⊢}
use contract.Running.{tables}
use prog.Wp.{WpFn}
use types.Kit.{‵, raw, ◌⊛◌, ◌$◌, ◌∵◌, !, qed, move, keep, split, join, fsplit, fjoin, suffices, done}
use types.Part.{agg}
use types.Run.{lit, no_more, and_then, returns, enter}
use types.ByLocal.{alloc_all, pass_all, free_all, look_at, get, sets}
use denote.Exit.{yes}
use denote.RattleType.{owns}
use denote.RawPtr.{null_ptr}
use denote.Signature.{types_at, plain}
use denote.Steps.{nothing}
use denote.Triple.Entry.{alive}
use denote.Triple.Walked.{Stays, stay_dropped, walk_of, ends_at, says}
use Rattle.core.proofs.alloc.Calls.{Goes-blank, handle_tells}
use Rattle.std.proofs.raw_atomic.Walks.{proved_at}
use Rattle.cefrodil.proofs.Behind.{E, Heap, Handle, at_null, null_typed, empty_in}
use Rattle.cefrodil.specs.contracts.handle.Handle.empty as f
use Rattle.cefrodil.proofs.handle.Handle.empty.Statement.{statement}
use Rattle.cefrodil.proofs.handle.Handle.empty.Code as code

pub empty_spec : {M : Type 1} → statement M
empty_spec 𝓤 𝓛 𝓜 𝓡 wired =
    let H = 𝓛.H in let 𝓣 = tables 𝓤 H 𝓜 𝓡 𝓡.env in let c = f.clauses 𝓛 𝓜.mem 𝓡.returns in let fn : Fn = code.function in
    let stayed : Stays f.ended.signature.params f.ended.kept = (stay_dropped (plain (λ _. Heap)) yes, tt) in
    proved_at 𝓛 f.ended stayed c 𝓜 𝓡 (Goes-blank 𝓛 0 (plain (λ _. Heap)) yes (λ κs x w. tt), tt) f.Key.name fn (code.unfolded 𝓤 H 𝓜 𝓡 wired) (λ z are.
    let a = z.0.3.0 in let Runs : List Val → SProp 𝓤 = λ ws. WpFn 𝓤 H 𝓣.C 𝓣.Λ fn ws ((walk_of 𝓛 f.ended stayed c).post z) in
    qed 𝓛 ((raw (alive 𝓛 f.ended.signature z.0.0 z.0.1) ⊛ ‵ (owns (types_at f.ended.signature.params z.0.0) z.0.3 z.0.4)) ∷ raw ((c z.0.0 z.0.3).requires z.1) ∷ []) ∵
    split ! $ move ! (1 ∷ []) $ fsplit ! $ handle_tells E.al ! a z.0.4.0 (λ h is fits.
    let w : Val = at_null h in let made : Handle.Denot = record { at = null_ptr; alloc = a; value = none } in
    suffices ! (Runs (h ∷ [])) (subst (λ (ws : List Val). ent 𝓤 (Runs (h ∷ [])) (Runs ws)) (sym (λ i. is i ++ [])) (id⊢ 𝓤 (Runs (h ∷ [])))) $
    enter ! 𝓣.C 𝓣.Λ fn (h ∷ []) _ $ alloc_all ! (λ locals. pass_all ! refl (fits, tt) $
    sets ! (agg ! (and_then ! (lit ! tt) (and_then ! (get ! refl) (no_more !)))) refl (null_typed h fits) $
    returns ! (look_at ! 0 refl) $ free_all ! refl $
    -- [the allocator; nothing; the tokens; what is asked]
    empty_in ! h a $ keep ! (0 ∷ 2 ∷ []) $
    suffices ! _ (ends_at 𝓛 f.ended stayed c z w made (tt, tt) (tt, tt)) $ says ! refl $
    nothing ! $ nothing ! $ fjoin ! $ join ! $ move ! (1 ∷ 0 ∷ []) $ join ! $ done !)))
