-- What became of each entry, as its status reports it.
use Rattle.std.proofs.Common.{ℕ, zero, suc, ◌≡◌, ◌+◌, ◌<◌, ◌≤◌, ◌⊎◌, List, [], ◌∷◌, length, get_or, drop, set, refl, sym, subst, inl, inr, arith, add-one, drop-cons}
use Rattle.std.proofs.lemmas.Bool.{cases_eq, eq-eqb, ne_eqb}
use Rattle.std.proofs.lemmas.List.{get_or-set_same, get_or-set_other, length-set}
use Rattle.std.specs.List.{All, AllByRecursion, EachIndex, slice_index}
use Rattle.std.proofs.lemmas.List.Elements.{All-from_recursion}
use Rattle.mc_words.specs.declared.history.Change.{Change}
use Rattle.mc_cache.specs.Plain.{TakesOrNames}
use Rattle.mc_shared.specs.Records.{ReaderRecord}
use Rattle.mc_shards.specs.Loadings.{puts_of}
use Rattle.mc_shards.specs.Sharded.{Sharded}
use Rattle.mc_door.specs.Loading.{HaveSeenLoads, entries_in}
use mathlib.Core.Bool.{cond}
use lib.Dec.{eqb}
use Rattle.mc_plan.specs.declared.answer.Why.{Why}
use Rattle.cefrodil.specs.Loading.{entry_status, left_status}

-- a status is written, and the others stay
written : (statuses : List ℕ) (index i status other : ℕ) → get_or statuses i 0 ≡ other → index < length statuses → (index ≡ i) ⊎ (index ≡ i → ⊥)
    → get_or (set statuses index status) i 0 ≡ cond (eqb index i) status other
written statuses index i status other was below (inl same) = rw (eq-eqb index i same) (rw (sym same) (get_or-set_same statuses index status 0 below))
written statuses index i status other was below (inr apart) = rw (ne_eqb index i apart, get_or-set_other statuses index i status 0 (λ e. apart (sym e))) was

-- one more of the entries that were left is reported
pub one_told : (left : List (ℕ × Why)) (statuses : List ℕ) (k status : ℕ) (d l : ℕ × Why)
    → EachIndex statuses (λ i. slice_index statuses i ≡ entry_status (drop (k + 1) left) i) → k < length left → get_or left k d ≡ l → status ≡ left_status l.1 → l.0 < length statuses
    → EachIndex (set statuses l.0 status) (λ i. slice_index (set statuses l.0 status) i ≡ entry_status (drop k left) i)
one_told left statuses k status d l told lt is why within i below =
    let cut : drop k left ≡ l ∷ drop (k + 1) left = rw (add-one, drop-cons left k d lt, is) refl in
    let within_i : i < length statuses = omega (arith, below, length-set statuses l.0 status) in
    rw (cut, sym why) (written statuses l.0 i status (entry_status (drop (k + 1) left) i) (told i within_i) within (cases_eq l.0 i))

-- each that was left is one of the entries
named_after : {V : ℕ} (n count : ℕ) (entries : List (ℕ × List ℕ)) (changes : List (Change V)) (left : List (ℕ × Why)) → TakesOrNames n entries changes left → n + length entries ≤ count
    → AllByRecursion (λ l. l.0 < count) left
named_after n count [] changes left taken within = subst (λ (ls : List (ℕ × Why)). AllByRecursion (λ l. l.0 < count) ls) (sym taken.1) tt
named_after n count (e ∷ entries) changes left (inl put) within = named_after (n + 1) count entries put.0 left put.2 (omega (arith, within))
named_after n count (e ∷ entries) changes left (inr named) within =
    subst (λ (ls : List (ℕ × Why)). AllByRecursion (λ l. l.0 < count) ls) (sym named.2) (omega (arith, within), named_after (n + 1) count entries changes named.1 named.3 (omega (arith, within)))

length_of_entries : (V n : ℕ) (words : List ℕ) → length (entries_in V n words) ≤ n
length_of_entries V zero words = omega arith
length_of_entries V (suc n) [] = omega arith
length_of_entries V (suc n) (key ∷ words) = let h = length_of_entries V n (drop V words) in omega (arith, h)

pub named_of_shards : (V count : ℕ) (s : Sharded) (words : List ℕ) (left : List (ℕ × Why)) (passes : List (List ReaderRecord)) → HaveSeenLoads V s (entries_in V count words) left passes
    → All (λ l. l.0 < count) left
named_of_shards V count s words left passes loads =
    All-from_recursion (λ l. l.0 < count) left (named_after 0 count (entries_in V count words) (puts_of {V = V} loads.plain.kept) left loads.plain.each (omega (arith, length_of_entries V count words)))
