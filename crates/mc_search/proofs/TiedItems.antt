-- A choice that follows a list of free items.
use Rattle.std.proofs.Common.{ℕ, suc, List, [], ◌∷◌, Bool, true, false, cond, eqb, get_or, length, ◌≡◌, ◌<◌, ◌⊎◌, inl, inr, Option, Some, None, sym, subst, arith}
use Rattle.std.specs.Option.{IfSome}
use Rattle.mc_search.specs.Sweeps.{Swept, IsSearch, victim_of}
use Rattle.mc_search.specs.declared.items.FreeItems.{FreeItems}
use Rattle.mc_search.specs.declared.pick.Pick.{Pick}
use Rattle.mc_search.specs.Items.{IsConsistent, IsPicking, IsUsedIn, Follows, IsTied}
use Rattle.mc_search.specs.declared.choice.Choice.{Choice}

-- ---- the victim of a search
first_victim : (r : Swept) (rs : List Swept) (i : ℕ) → victim_of (r ∷ rs) ≡ Some i → (r.item ≡ i) ⊎ (victim_of rs ≡ Some i)
first_victim r rs i found =
    let P : Bool → Type 0 = λ b. cond b (Some r.item) (victim_of rs) ≡ Some i → (r.item ≡ i) ⊎ (victim_of rs ≡ Some i) in
    let all : (b : Bool) → P b = λ b. elim b as P [ true ↦ λ e. inl (cc) | false ↦ λ e. inr e ] in
    all (eqb r.bit 0) found

-- it is the item of a reading
victim_holds : (P : ℕ → Type 0) (rs : List Swept) (i : ℕ) → ((n : ℕ) (d : Swept) → n < length rs → P (get_or rs n d).item) → victim_of rs ≡ Some i → P i
victim_holds P [] i all found = absurd (cc)
victim_holds P (r ∷ rs) i all found = elim (first_victim r rs i found) [
  | inl e ↦ subst P e (all 0 r (omega arith))
  | inr rest ↦ victim_holds P rs i (λ n d l. all (suc n) d (omega (arith, l))) rest
]

-- the choice of consistent items follows them
follows : (f : FreeItems) (o : Option Choice) (c : Choice) → IsTied f.list o → o ≡ Some c → Follows f.list c
follows f None c tied is = absurd (cc)
follows f (Some d) c tied is = let same : d ≡ c = cc in subst (λ (x : Choice). Follows f.list x) same tied

used_victim : (f : FreeItems) (rs : List Swept) (o : Option ℕ) → ((n : ℕ) (d : Swept) → n < length rs → IsUsedIn f (get_or rs n d).item) → o ≡ victim_of rs → IfSome o (IsUsedIn f)
used_victim f rs None all is = tt
used_victim f rs (Some i) all is = victim_holds (IsUsedIn f) rs i all (sym is)

pub picking_victim : (f : FreeItems) (p : Pick) (rs : List Swept) (o : Option ℕ) → IsConsistent f → (on : IsPicking f p rs) → o ≡ victim_of rs → IsSearch f.list.items rs × (o ≡ victim_of rs) × IfSome o (IsUsedIn f)
picking_victim f p rs o kept on is =
    let tied = follows f f.choice on.0 kept.tied on.1 in
    let has = on.2 in
    let used : (n : ℕ) (d : Swept) → n < length rs → IsUsedIn f (get_or rs n d).item = λ n d l. (tied.used (get_or rs n d).item).0 (has.in_use n d l) in (
      record { inside = λ n d l. (used n d l).0; most = omega (arith, has.left, tied.items); marked = has.marked },
      is,
      used_victim f rs o used is,
    )
