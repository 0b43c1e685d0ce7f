-- Of two puts of one key that must be absent, the later one found it taken out.
use Rattle.std.proofs.Common.{ℕ, ◌≡◌, ◌∙◌, ◌⊎◌, List, [], ◌∷◌, ◌++◌, Some, None, IsSome, Result, Ok, Err, ap, append-nil, append_assoc, arith, inl, inr, refl, subst, sym}
use Rattle.std.proofs.lemmas.Bool.{false≢true}
use Rattle.std.proofs.lemmas.Bool.Decides.{eqb_tells}
use Rattle.std.proofs.lemmas.List.{append_cancel_left}
use Rattle.mc_cache.specs.AbsentError.{AbsentError}
use Rattle.mc_cache.specs.Change.{Change}
use Rattle.mc_cache.specs.Change.TheVariants as change
use Rattle.mc_cache.specs.Plain.{Begins, HasPut, PutIfAbsentMeans, TurnMeans, map_value, put_changes}
use Rattle.mc_cache.specs.PlainLaws.{HistoryLaws}
use Rattle.mc_cache.specs.Put.{Put}
use Rattle.mc_cache.specs.Put.TheVariants.{Stored, Renewed}
use Rattle.mc_cache.specs.declared.desk.DeskError.{DeskError}
use Rattle.uses.specs.Absent.{BothPutMeans, WasTakenOut}

-- ---- lists
-- of two beginnings of one list, one begins the other
nested : {A : Type 0} (xs ys rs ss : List A) → xs ++ rs ≡ ys ++ ss → ((more : List A) × (ys ≡ xs ++ more)) ⊎ ((more : List A) × (xs ≡ ys ++ more))
nested [] ys rs ss e = inl (ys, refl)
nested (x ∷ xs) [] rs ss e = inr (x ∷ xs, refl)
nested {A} (x ∷ xs) (y ∷ ys) rs ss e =
    let same : x ≡ y = cc in
    let rest : xs ++ rs ≡ ys ++ ss = cc in
    elim (nested xs ys rs ss rest) [
      | inl p ↦ inl (p.0, λ i. sym same i ∷ p.1 i)
      | inr p ↦ inr (p.0, λ i. same i ∷ p.1 i)
    ]

ends_empty : {A : Type 0} (xs ys : List A) → [] ≡ xs ++ ys → ys ≡ []
ends_empty [] ys e = sym e
ends_empty (x ∷ xs) ys e = absurd (cc)

tail_empty : {A : Type 0} (a x : A) (xs ys : List A) → a ∷ [] ≡ x ∷ (xs ++ ys) → ys ≡ []
tail_empty {A} a x xs ys e =
    let rest : [] ≡ xs ++ ys = cc in
    ends_empty xs ys rest

-- ---- histories
module _ (law : HistoryLaws 1) where
  evicted_or_other : (h : List (Change 1)) (k other : ℕ) → map_value h k ≡ None → map_value (h ++ change.Evict other ∷ []) k ≡ None
  evicted_or_other h k other absent =
      elim (eqb_tells k other) [
        | inl same ↦ subst (λ (o : ℕ). map_value (h ++ change.Evict o ∷ []) k ≡ None) same.1 (law.maps.evicted h k)
        | inr differ ↦ law.maps.others h (change.Evict other) k differ.1 ∙ absent
      ]

  -- the changes of a put, cut in two: all of them come first, or the first ones leave the key absent
  cut_put : (h : List (Change 1)) (k : ℕ) (v : List ℕ) (told : Put) (first rest : List (Change 1)) → map_value h k ≡ None → put_changes k v told ≡ first ++ rest → (rest ≡ []) ⊎ (map_value (h ++ first) k ≡ None)
  cut_put h k v told [] rest absent e = inr (ap (λ (x : List (Change 1)). map_value x k) (append-nil h) ∙ absent)
  cut_put h k v (Renewed at) (c ∷ first) rest absent e = inl (tail_empty (change.Put k v) c first rest e)
  cut_put h k v (Stored at moves None) (c ∷ first) rest absent e = inl (tail_empty (change.Put k v) c first rest e)
  cut_put h k v (Stored at moves (Some other)) (c ∷ []) rest absent e =
      let is : change.Evict other ≡ c = cc in
      inr (subst (λ (x : Change 1). map_value (h ++ x ∷ []) k ≡ None) is (evicted_or_other h k other absent))
  cut_put h k v (Stored at moves (Some other)) (c ∷ d ∷ first) rest absent e =
      let tail : change.Put k v ∷ [] ≡ d ∷ (first ++ rest) = cc in
      inl (tail_empty (change.Put k v) d first rest tail)

  -- one put left the key in the map, and a later one found it absent
  later : (early b h all : List (Change 1)) (k : ℕ) (v : List ℕ) (told : Put) → IsSome (map_value early k) → map_value b k ≡ None → h ≡ b ++ put_changes k v told → Begins early h → (h ≡ early → ⊥) → Begins h all → WasTakenOut all k
  later early b h all k v told held absent grew begins other ends =
      let sum : early ++ begins.0 ≡ b ++ put_changes k v told = sym begins.1 ∙ grew in
      elim (nested early b begins.0 (put_changes k v told) sum) [
        | inl p ↦ record {
          early = early;
          late = b;
          begins = p;
          ends = (put_changes k v told ++ ends.0, ends.1 ∙ (ap (λ (x : List (Change 1)). x ++ ends.0) grew ∙ append_assoc b (put_changes k v told) ends.0));
          held = held;
          gone = absent;
        }
        | inr p ↦
            let cut : put_changes k v told ≡ p.0 ++ begins.0 = append_cancel_left b (put_changes k v told) (p.0 ++ begins.0) (sym sum ∙ (ap (λ (x : List (Change 1)). x ++ begins.0) p.1 ∙ append_assoc b p.0 begins.0)) in
            absurd (elim (cut_put b k v told p.0 begins.0 absent cut) [
              | inl none ↦ other (begins.1 ∙ (ap (λ (x : List (Change 1)). early ++ x) none ∙ append-nil early))
              | inr gone ↦ false≢true (subst IsSome (ap (λ (x : List (Change 1)). map_value x k) p.1 ∙ gone) held)
            ])
      ]

  both : (b1 h1 b2 h2 all : List (Change 1)) (t1 t2 : Put) → map_value b1 7 ≡ None → HasPut 1 b1 h1 7 (70 ∷ []) t1 → map_value b2 7 ≡ None → HasPut 1 b2 h2 7 (80 ∷ []) t2 → Begins h1 all → Begins h2 all → WasTakenOut all 7
  both b1 h1 b2 h2 all t1 t2 absent1 p1 absent2 p2 e1 e2 =
      elim (nested h1 h2 e1.0 e2.0 (sym e1.1 ∙ e2.1)) [
        | inl p ↦ later h1 b2 h2 all 7 (80 ∷ []) t2 (subst IsSome (sym p1.holds) refl) absent2 p2.grew p differ e2
        | inr p ↦ later h2 b1 h1 all 7 (70 ∷ []) t1 (subst IsSome (sym p2.holds) refl) absent1 p1.grew p (λ e. differ (sym e)) e1
      ]
    where
      differ : h2 ≡ h1 → ⊥
      differ e =
          let values = sym p2.holds ∙ (ap (λ (x : List (Change 1)). map_value x 7) e ∙ p1.holds) in
          let same : ◌≡◌ {A = ℕ} 80 70 = cc in
          absurd (omega (arith, same))

  pub both_put : (s1 s2 h1 h2 all : List (Change 1)) (one two : Result Put (DeskError AbsentError)) → TurnMeans (λ h h' told. PutIfAbsentMeans 1 h h' 7 (70 ∷ []) told) s1 h1 one → TurnMeans (λ h h' told. PutIfAbsentMeans 1 h h' 7 (80 ∷ []) told) s2 h2 two → Begins h1 all → Begins h2 all → BothPutMeans one two all
  both_put s1 s2 h1 h2 all (Ok a) (Ok b) m1 m2 e1 e2 = both m1.0 h1 m2.0 h2 all a b m1.2.0 m1.2.1 m2.2.0 m2.2.1 e1 e2
  both_put s1 s2 h1 h2 all (Ok a) (Err why) m1 m2 e1 e2 = tt
  both_put s1 s2 h1 h2 all (Err why) two m1 m2 e1 e2 = tt
