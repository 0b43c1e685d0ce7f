-- A call, when it is known what is behind its handle.
use Rattle.std.proofs.Common.{◌≡◌, sym, subst}
use mathlib.Core.Option.{Option, none, some}
use Rattle.mc_door.specs.declared.any_side.AnySide.{AnySide}
use Rattle.cefrodil.specs.Calls.{Gives}

pub gives_closed : (b b' : Option AnySide) (Closed : Type 0) (Open : AnySide → AnySide → Type 0) → b ≡ none → b' ≡ none → Closed → Gives b b' Closed Open
gives_closed b b' Closed Open is is' holds =
    subst (λ x. Gives x b' Closed Open) (sym is) (subst (λ x. Gives none x Closed Open) (sym is') holds)

pub gives_open : (b b' : Option AnySide) (Closed : Type 0) (Open : AnySide → AnySide → Type 0) (h h' : AnySide) → b ≡ some h → b' ≡ some h' → Open h h' → Gives b b' Closed Open
gives_open b b' Closed Open h h' is is' holds =
    subst (λ x. Gives x b' Closed Open) (sym is) (subst (λ x. Gives (some h) x Closed Open) (sym is') holds)
