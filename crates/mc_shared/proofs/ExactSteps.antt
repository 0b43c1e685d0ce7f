-- Each step keeps the fronts of readings exact.
use Rattle.std.proofs.Common.{◌≡◌, ℕ, zero, suc, ◌+◌, ◌-◌, ◌*◌, ◌<◌, ◌≤◌, eq-eqb, Bool, List, [], ◌∷◌, ◌++◌, length, get_or, refl, ap, sym, ◌∙◌, subst, arith, length-append}
use Rattle.std.specs.Prelude.{if◌then◌else◌}
use mathlib.Core.Logic.{dite}
use mathlib.Core.Option.{some, some-injective, some-ne-none}
use native.Mathlib.Decide.{dec_le}
use lib.ListN.{get_elem?}
use Rattle.mc_theory.specs.Readings.{Reading}
use Rattle.mc_theory.specs.declared.access.Access.{Access}
use Rattle.mc_theory.specs.declared.access.Access.TheVariants as access
use Rattle.mc_theory.specs.declared.act.Act.{Act}
use Rattle.mc_shared.specs.RecencyTrace.{total}
use Rattle.mc_shared.specs.Views.{Note, Role, Spent, Writes, Reads, Both, View, seated_in, done_in, done_of}
use Rattle.mc_shared.specs.ExactFronts.{steps_by, StepsRise, made_by, StandsAt, StandAt, IsExact}
use Rattle.mc_shared.specs.TableRule.{seats_of}
use Rattle.mc_shared.proofs.RecencySteps.{sum_at}

-- ---- what a reader did is never undone
pub rise_end : (a f : ℕ) (ts : List Note) (g : ℕ) → StepsRise a f ts g → f ≤ g
rise_end a f [] g r = r
rise_end a f (t ∷ ts) g r = let h = rise_end a (steps_by a t) ts g r.1 in omega (arith, r.0, h)

-- notes that end by g end by any later number
pub rise_later : (a f : ℕ) (ts : List Note) (g h : ℕ) → g ≤ h → StepsRise a f ts g → StepsRise a f ts h
rise_later a f [] g h le r = omega (arith, le, r)
rise_later a f (t ∷ ts) g h le r = (r.0, rise_later a (steps_by a t) ts g h le r.1)

-- one more note may follow, if it names as many entries as there are
pub rise_push : (a f : ℕ) (ts : List Note) (t : Note) (g : ℕ) → steps_by a t ≡ g → StepsRise a f ts g → StepsRise a f (ts ++ t ∷ []) g
rise_push a f [] t g e r = (omega (arith, e, r), omega (arith, e))
rise_push a f (x ∷ xs) t g e r = (r.0, rise_push a (steps_by a x) xs t g e r.1)

-- ---- how many acts were made by then
pub made_all : (a f : ℕ) (ts : List Note) (g n : ℕ) → g ≤ n → StepsRise a f ts g → made_by a n ts ≡ length ts
made_all a f [] g n le r = refl
made_all a f (t ∷ ts) g n le r =
    let top = rise_end a (steps_by a t) ts g r.1 in
    let h = made_all a (steps_by a t) ts g n le r.1 in
    omega (arith, top, h, le)

-- one more act counts if its note is at most n
pub made_push : (a n : ℕ) (ts : List Note) (t : Note) → made_by a n (ts ++ t ∷ []) ≡ made_by a n ts + (1 - (steps_by a t - n))
made_push a n [] t = omega arith
made_push a n (x ∷ xs) t = let h = made_push a n xs t in omega (arith, h)

-- an entry may stand at the front of all acts that were made
pub stands_here : (x : Access) (front made : ℕ) → front ≡ made → StandsAt x front made
stands_here (access.Version t) front made e = e
stands_here (access.Slot p) front made e = e
stands_here (access.Key k) front made e = e
stands_here (access.Value k j) front made e = e
stands_here (access.Stamp k) front made e = e
stands_here access.Moment front made e = e
stands_here (access.Mark k) front made e = omega (arith, e)

-- an act that is made later than these entries is before none of them
stand_act : (a n : ℕ) (ts : List Note) (t : Note) (rs : List Reading) → n + length rs ≤ steps_by a t → StandAt a ts n rs → StandAt a (ts ++ t ∷ []) n rs
stand_act a n ts t [] le s = tt
stand_act a n ts t (r ∷ rs) le s =
    let same : made_by a n ts ≡ made_by a n (ts ++ t ∷ []) = omega (arith, made_push a n ts t, le) in
    (subst (StandsAt r.access r.front) same s.0, stand_act a (suc n) ts t rs (omega (arith, le)) s.1)

-- one more entry stands where the acts that were made by then put it
stand_push : (a n : ℕ) (ts : List Note) (rs : List Reading) (r : Reading) → StandsAt r.access r.front (made_by a (n + length rs) ts) → StandAt a ts n rs → StandAt a ts n (rs ++ r ∷ [])
stand_push a n ts [] r h s = (subst (λ (k : ℕ). StandsAt r.access r.front (made_by a k ts)) (omega arith) h, tt)
stand_push a n ts (x ∷ xs) r h s = (s.0, stand_push a (suc n) ts xs r (subst (λ (k : ℕ). StandsAt r.access r.front (made_by a k ts)) (omega arith) h) s.1)

-- with no acts and no entries all stand
pub exact_none : (a : ℕ) → IsExact a [] []
exact_none a = record { rise = omega arith; fronts = tt }

-- the writer makes an act
pub exact_act : (a : ℕ) (ts : List Note) (t : Note) (done : List Reading) → steps_by a t ≡ length done → IsExact a ts done → IsExact a (ts ++ t ∷ []) done
exact_act a ts t done e is = record {
  rise = rise_push a 0 ts t (length done) e is.rise;
  fronts = stand_act a 0 ts t done (omega (arith, e)) is.fronts;
}

-- the reader makes an entry: all acts were made by then
pub exact_entry : (a : ℕ) (ts : List Note) (done : List Reading) (r : Reading) → StandsAt r.access r.front (length ts) → IsExact a ts done → IsExact a ts (done ++ r ∷ [])
exact_entry a ts done r h is = record {
  rise = rise_later a 0 ts (length done) (length (done ++ r ∷ [])) (omega (arith, length-append done (r ∷ []))) is.rise;
  fronts = stand_push a 0 ts done r (subst (StandsAt r.access r.front) (sym (made_all a 0 ts (length done) (0 + length done) (omega arith) is.rise)) h) is.fronts;
}

-- and it could not make another one
pub entry_is : (a : ℕ) (ts : List Note) (done : List Reading) (r : Reading) → IsExact a ts done → IsExact a ts (done ++ r ∷ []) → StandsAt r.access r.front (length ts)
entry_is a ts done r was is = subst (StandsAt r.access r.front) (made_all a 0 ts (length done) (0 + length done) (omega arith) was.rise) (last 0 done is.fronts)
  where
    last : (n : ℕ) (rs : List Reading) → StandAt a ts n (rs ++ r ∷ []) → StandsAt r.access r.front (made_by a (n + length rs) ts)
    last n [] s = subst (λ (k : ℕ). StandsAt r.access r.front (made_by a k ts)) (omega arith) s.0
    last n (x ∷ xs) s = subst (λ (k : ℕ). StandsAt r.access r.front (made_by a k ts)) (omega arith) (last (suc n) xs s.1)

-- ---- how many entries each reader has
-- the number of entries of this reader
abbrev pub steps_in : ℕ → List View → ℕ
steps_in a views = total (λ (v : View). seated_in a v.role * length (done_of v)) views

-- those of k readers, from this one on
abbrev pub steps_from : ℕ → ℕ → List View → List ℕ
steps_from a zero views = []
steps_from a (suc k) views = steps_in a views ∷ steps_from (suc a) k views

-- what is noted beside an act, in a table with these views and `readers` readers
abbrev pub note_at : Act → ℕ → List View → Note
note_at a readers views = record { marks = sum_at a views; steps = steps_from 0 readers views }

-- the list of the readers' entries has those of each at its number
steps_here : (a k j : ℕ) (views : List View) → j < k → get_or (steps_from a k views) j 0 ≡ steps_in (a + j) views
steps_here a zero j views below = absurd (omega arith)
steps_here a (suc k) zero views below = ap (λ (b : ℕ). steps_in b views) (omega arith)
steps_here a (suc k) (suc j) views below = steps_here (suc a) k j views (omega arith) ∙ ap (λ (b : ℕ). steps_in b views) (omega arith)

-- a reader on no seat has no entries
steps_none : (a : ℕ) (views : List View) → seats_of a views ≡ 0 → steps_in a views ≡ 0
steps_none a [] e = refl
steps_none a (x ∷ xs) e =
    let h = steps_none a xs (omega (arith, e)) in
    let none : seated_in a x.role ≡ 0 = omega (arith, e) in
    let p : seated_in a x.role * length (done_of x) ≡ 0 * length (done_of x) = ap (λ (z : ℕ). z * length (done_of x)) none in
    omega (arith, h, p)

-- a seat counts for no more than all seats do
pub seat_counts : (a : ℕ) (views : List View) (j : ℕ) (v : View) → get_elem? views j ≡ some v → seated_in a v.role ≤ seats_of a views
seat_counts a [] j v e = absurd (some-ne-none v (sym e))
seat_counts a (x ∷ xs) zero v e = let s : seated_in a x.role ≡ seated_in a v.role = ap (λ (u : View). seated_in a u.role) (some-injective _ _ e) in omega (arith, s)
seat_counts a (x ∷ xs) (suc j) v e = let h = seat_counts a xs j v e in omega (arith, h)

-- a reader on one seat has just the entries of that seat
steps_one : (a : ℕ) (views : List View) (j : ℕ) (v : View) → get_elem? views j ≡ some v → seats_of a views ≤ 1 → seated_in a v.role ≡ 1 → steps_in a views ≡ length (done_of v)
steps_one a [] j v e one here = absurd (some-ne-none v (sym e))
steps_one a (x ∷ xs) zero v e one here =
    let is : x ≡ v = some-injective _ _ e in
    let s : seated_in a x.role ≡ 1 = ap (λ (u : View). seated_in a u.role) is ∙ here in
    let others = steps_none a xs (omega (arith, s, one)) in
    let p : seated_in a x.role * length (done_of x) ≡ 1 * length (done_of v) = λ i. s i * length (done_of (is i)) in
    omega (arith, others, p)
steps_one a (x ∷ xs) (suc j) v e one here =
    let more = seat_counts a xs j v e in
    let none : seated_in a x.role ≡ 0 = omega (arith, more, one, here) in
    let p : seated_in a x.role * length (done_of x) ≡ 0 * length (done_of x) = ap (λ (z : ℕ). z * length (done_of x)) none in
    let h = steps_one a xs j v e (omega (arith, one)) here in
    omega (arith, h, p)

-- the note has the number of entries of the reader with this role
abbrev pub Counted : Note → Role → Type 0
Counted n Spent = Unit {0}
Counted n (Writes acts tally) = Unit {0}
Counted n (Reads a front done) = steps_by a n ≡ length done
Counted n (Both acts tally a front done) = steps_by a n ≡ length done

module _ (act : Act) (readers : ℕ) (views : List View) (single : (a : ℕ) → a < readers → seats_of a views ≡ 1) (unseated : (a : ℕ) → readers ≤ a → seats_of a views ≡ 0) where
  counted_at : (j : ℕ) (v : View) (a : ℕ) → get_elem? views j ≡ some v → seated_in a v.role ≡ 1 → steps_by a (note_at act readers views) ≡ length (done_of v)
  counted_at j v a e here = dite (dec_le readers a)
      (λ over. let none = unseated a over in let some' = seat_counts a views j v e in absurd (omega (arith, none, some', here)))
      (λ under. steps_here 0 readers a views (omega (arith, under)) ∙ (ap (λ (b : ℕ). steps_in b views) (omega arith) ∙ steps_one a views j v e (omega (arith, single a (omega (arith, under)))) here))

  counted_as : (j : ℕ) (v : View) → get_elem? views j ≡ some v → (r : Role) → v.role ≡ r → Counted (note_at act readers views) r
  counted_as j v e Spent is = tt
  counted_as j v e (Writes acts tally) is = tt
  counted_as j v e (Reads a front done) is =
      let here : seated_in a v.role ≡ 1 = ap (seated_in a) is ∙ ap (λ (b : Bool). if◌then◌else◌ {A = ℕ} b 1 0) (eq-eqb a a refl) in
      counted_at j v a e here ∙ ap (λ (x : Role). length (done_in x)) is
  counted_as j v e (Both acts tally a front done) is =
      let here : seated_in a v.role ≡ 1 = ap (seated_in a) is ∙ ap (λ (b : Bool). if◌then◌else◌ {A = ℕ} b 1 0) (eq-eqb a a refl) in
      counted_at j v a e here ∙ ap (λ (x : Role). length (done_in x)) is

  pub counted : (j : ℕ) (v : View) → get_elem? views j ≡ some v → Counted (note_at act readers views) v.role
  counted j v e = counted_as j v e v.role refl
