-- The last entry of a record: what the record was made of before it.
use Rattle.std.proofs.Common.{◌≡◌, inl, inr, ℕ, zero, suc, ◌^◌, ◌<◌, ◌≤◌, List, [], ◌∷◌, ◌++◌, length, refl, ap, sym, ◌∙◌, subst, arith, append_assoc, append-nil, length-append, Option, Some, None}
use Rattle.mc_words.specs.declared.history.Reply.{Reply}
use Rattle.mc_words.specs.declared.shape.Shape.{Shape}
use Rattle.mc_theory.specs.Lookups.{IsLookup}
use Rattle.mc_theory.specs.Readings.{Reading}
use Rattle.mc_executions.specs.ExecutionTraces.{Part, looked, marked, Parts, no_parts, read_by, read_so_far, AreParts, Runs, IsMadeOf}
use Rattle.mc_executions.proofs.ListParts.{last_of, same_last}

-- the lookup that runs, if it has read something
abbrev pub running_with : ℕ → List Reading → Option (ℕ × List Reading)
running_with k [] = None
running_with k (r ∷ rs) = Some (k, r ∷ rs)

read_with : (k : ℕ) (rs : List Reading) → read_so_far (running_with k rs) ≡ rs
read_with k [] = refl
read_with k (r ∷ rs) = refl

runs_with : (V : ℕ) (sh : Shape) (k : ℕ) (rs more : List Reading) (e : Reading) (reply : Reply V) → k < 2 ^ 64 → IsLookup V sh k sh.tries (rs ++ e ∷ more) reply → Runs V sh (running_with k rs)
runs_with V sh k [] more e reply small looks = tt
runs_with V sh k (r ∷ rs) more e reply small looks = (small, (λ none. absurd (omega (arith, ap length none))), (e, more, reply, looks))

-- the last entry went on with a lookup, ended one, or was a mark by itself
pub data LastEntry (V : ℕ) (sh : Shape) (before : Parts V) (e : Reading) (after : Parts V) : Type 0 where
  goes_on : (k : ℕ) (rs more : List Reading) (next : Reading) (reply : Reply V) → k < 2 ^ 64 → IsLookup V sh k sh.tries (rs ++ e ∷ next ∷ more) reply →
      before ≡ record { ended = after.ended; running = running_with k rs } → after.running ≡ Some (k, rs ++ e ∷ []) → LastEntry V sh before e after
  ends : (k : ℕ) (rs : List Reading) (reply : Reply V) → k < 2 ^ 64 → IsLookup V sh k sh.tries (rs ++ e ∷ []) reply →
      before.running ≡ running_with k rs → after ≡ record { ended = looked k (rs ++ e ∷ []) reply ∷ before.ended; running = None } → LastEntry V sh before e after
  alone : before.running ≡ None → after ≡ record { ended = marked e ∷ before.ended; running = None } → LastEntry V sh before e after

pub record Undone (V : ℕ) (sh : Shape) (done : List Reading) (e : Reading) (after : Parts V) : Type 0 where
  pub before : Parts V
  pub made : IsMadeOf V sh done before
  pub last : LastEntry V sh before e after

-- a lookup reads something
some_read : (V : ℕ) (sh : Shape) (k t : ℕ) (reply : Reply V) → 1 ≤ t → IsLookup V sh k t [] reply → ⊥
some_read V sh k zero reply few looks = omega (arith, few)
some_read V sh k (suc t) reply few looks = elim looks [
  | inl m ↦ (
      let all = ap length m.2 in
      let parts = length-append m.0 m.1 in
      elim m.3 [
        | inl odd ↦ omega (arith, all, parts, ap length odd.1)
        | inr n ↦ omega (arith, all, parts, ap length n.6.parts)
      ]
      )
  | inr m ↦ omega (arith, ap length m.6, length-append m.0 m.1, ap length m.7.parts)
]

-- what was read by the parts before the last entry
undo_running : (V : ℕ) (sh : Shape) (done : List Reading) (e : Reading) (ended : List (Part V)) (k : ℕ) (qs : List Reading) → done ++ e ∷ [] ≡ read_by ended ++ qs → AreParts V sh ended → Runs V sh (Some (k, qs)) → Undone V sh done e (record { ended = ended; running = Some (k, qs) })
undo_running V sh done e ended k qs is each runs = elim (last_of qs) [
  | inl none ↦ absurd (runs.1 none)
  | inr q ↦ (
      let cut = same_last done (read_by ended ++ q.0) e q.1 (is ∙ (ap (λ (z : List Reading). read_by ended ++ z) q.2 ∙ sym (append_assoc (read_by ended) q.0 (q.1 ∷ [])))) in
      let whole : qs ≡ q.0 ++ e ∷ [] = q.2 ∙ ap (λ (z : Reading). q.0 ++ z ∷ []) (sym cut.1) in
      let n = runs.2 in
      let looks : IsLookup V sh k sh.tries (q.0 ++ e ∷ n.0 ∷ n.1) n.2 = subst (λ (z : List Reading). IsLookup V sh k sh.tries z n.2) (ap (λ (z : List Reading). z ++ n.0 ∷ n.1) whole ∙ append_assoc q.0 (e ∷ []) (n.0 ∷ n.1)) n.3 in
      record {
        before = record { ended = ended; running = running_with k q.0 };
        made = record { is = cut.0 ∙ ap (λ (z : List Reading). read_by ended ++ z) (sym (read_with k q.0)); each = each; runs = runs_with V sh k q.0 (n.0 ∷ n.1) e n.2 runs.0 looks };
        last = goes_on k q.0 n.1 n.0 n.2 runs.0 looks refl (ap (λ (z : List Reading). Some (k, z)) whole);
      }
      )
]

undo_ended : (V : ℕ) (sh : Shape) (done : List Reading) (e : Reading) (ended : List (Part V)) → 1 ≤ sh.tries → done ++ e ∷ [] ≡ read_by ended ++ [] → AreParts V sh ended → Undone V sh done e (record { ended = ended; running = None })
undo_ended V sh done e [] some' is each = absurd (omega (arith, ap length is, length-append done (e ∷ [])))
undo_ended V sh done e (marked r ∷ ps) some' is each =
    let cut = same_last done (read_by ps) e r (is ∙ append-nil (read_by ps ++ r ∷ [])) in
    record {
      before = record { ended = ps; running = None };
      made = record { is = cut.0 ∙ sym (append-nil (read_by ps)); each = each.1; runs = tt };
      last = alone refl (ap (λ (z : Reading). record { ended = marked z ∷ ps; running = None }) (sym cut.1));
    }
undo_ended V sh done e (looked k qs reply ∷ ps) some' is each = elim (last_of qs) [
  | inl none ↦ absurd (some_read V sh k sh.tries reply some' (subst (λ (z : List Reading). IsLookup V sh k sh.tries z reply) none each.0.1))
  | inr q ↦ (
      let cut = same_last done (read_by ps ++ q.0) e q.1 (is ∙ (append-nil (read_by ps ++ qs) ∙ (ap (λ (z : List Reading). read_by ps ++ z) q.2 ∙ sym (append_assoc (read_by ps) q.0 (q.1 ∷ []))))) in
      let whole : qs ≡ q.0 ++ e ∷ [] = q.2 ∙ ap (λ (z : Reading). q.0 ++ z ∷ []) (sym cut.1) in
      let looks : IsLookup V sh k sh.tries (q.0 ++ e ∷ []) reply = subst (λ (z : List Reading). IsLookup V sh k sh.tries z reply) whole each.0.1 in
      record {
        before = record { ended = ps; running = running_with k q.0 };
        made = record { is = cut.0 ∙ ap (λ (z : List Reading). read_by ps ++ z) (sym (read_with k q.0)); each = each.1; runs = runs_with V sh k q.0 [] e reply each.0.0 looks };
        last = ends k q.0 reply each.0.0 looks refl (ap (λ (z : List Reading). record { ended = looked k z reply ∷ ps; running = None }) whole);
      }
      )
]

pub undo : (V : ℕ) (sh : Shape) (done : List Reading) (e : Reading) (p : Parts V) → 1 ≤ sh.tries → IsMadeOf V sh (done ++ e ∷ []) p → Undone V sh done e p
undo V sh done e p some' made = by p.running made.is made.runs
  where
    by : (running : Option (ℕ × List Reading)) → done ++ e ∷ [] ≡ read_by p.ended ++ read_so_far running → Runs V sh running → Undone V sh done e (record { ended = p.ended; running = running })
    by None is runs = undo_ended V sh done e p.ended some' is made.each
    by (Some run) is runs = undo_running V sh done e p.ended run.0 run.1 is made.each runs

-- an empty record is made of no parts
pub none_made : (V : ℕ) (sh : Shape) (p : Parts V) → 1 ≤ sh.tries → IsMadeOf V sh [] p → p ≡ no_parts
none_made V sh p some' made = by p.ended p.running made.is made.each made.runs
  where
    by : (ended : List (Part V)) (running : Option (ℕ × List Reading)) → [] ≡ read_by ended ++ read_so_far running → AreParts V sh ended → Runs V sh running → ◌≡◌ {A = Parts V} (record { ended = ended; running = running }) no_parts
    by [] None is each runs = refl
    by [] (Some run) is each runs = absurd (runs.1 (sym is))
    by (marked r ∷ ps) running is each runs = absurd (omega (arith, ap length is, length-append (read_by ps ++ r ∷ []) (read_so_far running), length-append (read_by ps) (r ∷ [])))
    by (looked k qs reply ∷ ps) running is each runs = elim (last_of qs) [
      | inl none ↦ absurd (some_read V sh k sh.tries reply some' (subst (λ (z : List Reading). IsLookup V sh k sh.tries z reply) none each.0.1))
      | inr q ↦ absurd (omega (arith, ap length is, length-append (read_by ps ++ qs) (read_so_far running), length-append (read_by ps) qs, ap length q.2, length-append q.0 (q.1 ∷ [])))
    ]
