-- How many answers there are of each kind.
use Rattle.std.proofs.Common.{ℕ, zero, suc, ◌≡◌, ◌+◌, ◌<◌, inl, inr, Bool, List, [], ◌∷◌, ◌++◌, cond, get_or, length, take, ap, refl, ◌∙◌, arith}
use Rattle.std.proofs.Math.Seq.{take-suc}
use Rattle.std.proofs.lemmas.List.{map-append}
use Rattle.std.specs.Prelude.{All, count_by, sum_by}
use Rattle.std.proofs.lemmas.List.Sums.{sum_by-append, sum_by-cons}
use Rattle.mc_words.specs.History.{IsTrueAnswer}
use Rattle.mc_words.specs.declared.history.Change.{Change}
use Rattle.mc_words.specs.declared.history.Reply.{Reply}
use Rattle.mc_words.specs.declared.history.Reply.TheVariants.{Found, Absent, Busy}
use Rattle.mc_check.specs.Wrong.{AreWrong}
use Rattle.mc_check.specs.declared.record.Record.{Record}
use Rattle.mc_load.specs.Loads.{is_absent, is_busy, is_found, total_of}
use Rattle.mc_load.specs.Inside.Workers.{answers_of}
use Rattle.mc_load.specs.declared.reader_thread.ReaderThread.{ReaderThread}

-- how many answers of one reader have this kind
abbrev pub count_of : {V : ℕ} → (Reply V → Bool) → List (Record V) → ℕ
count_of {V} kind records = count_by (λ (r : Record V). kind r.reply) records

all_true_at : {V : ℕ} (h : List (Change V)) (r : Record V) (rs : List (Record V)) → IsTrueAnswer h r.key r.reply → All (λ (x : Record V). IsTrueAnswer h x.key x.reply) rs → All (λ (x : Record V). IsTrueAnswer h x.key x.reply) (r ∷ rs)
all_true_at {V} h r rs one all zero d low = one
all_true_at {V} h r rs one all (suc k) d low = all k d (omega (arith, low))

-- an answer has one kind
of_one_kind : {V : ℕ} (reply : Reply V) → cond (is_found reply) 1 0 + cond (is_absent reply) 1 0 + cond (is_busy reply) 1 0 ≡ 1
of_one_kind (Found v at since) = refl
of_one_kind (Absent at) = refl
of_one_kind Busy = refl

-- so all are as many as the kinds together
pub kinds_add_up : {V : ℕ} (records : List (Record V)) → count_of is_found records + count_of is_absent records + count_of is_busy records ≡ length records
kinds_add_up [] = refl
kinds_add_up {V} (r ∷ rs) =
    let found = sum_by-cons (λ (x : Record V). cond (is_found x.reply) 1 0) r rs in
    let absent = sum_by-cons (λ (x : Record V). cond (is_absent x.reply) 1 0) r rs in
    let busy = sum_by-cons (λ (x : Record V). cond (is_busy x.reply) 1 0) r rs in
    let one = of_one_kind r.reply in
    let rest = kinds_add_up rs in omega (arith, found, absent, busy, one, rest)

-- and so these counts add up to their number
pub kinds_add : {V : ℕ} (found absent busy many : ℕ) (records : List (Record V)) → found ≡ count_of is_found records → absent ≡ count_of is_absent records → busy ≡ count_of is_busy records → length records ≡ many → found + absent + busy ≡ many
kinds_add found absent busy many records f a b e = let all = kinds_add_up records in omega (arith, all, f, a, b, e)

-- a reader more
pub total_more : {V : ℕ} (kind : Reply V → Bool) (ls : List (ReaderThread V)) (n : ℕ) (d : ReaderThread V) → n < length ls → total_of kind (answers_of (take (n + 1) ls)) ≡ total_of kind (answers_of (take n ls)) + count_of kind (get_or ls n d).records.items
total_more {V} kind ls n d low =
    let count : List (Record V) → ℕ = λ (records : List (Record V)). count_of kind records in
    let x = get_or ls n d in
    let front = answers_of (take n ls) in
    let next : n + 1 ≡ suc n = omega arith in
    let split : answers_of (take (n + 1) ls) ≡ front ++ x.records.items ∷ [] =
    ap (λ (m : ℕ). answers_of (take m ls)) next ∙ (ap (λ (z : List (ReaderThread V)). answers_of z) (take-suc ls n d low) ∙ map-append (λ (l : ReaderThread V). l.records.items) (take n ls) (x ∷ [])) in
    ap (λ (z : List (List (Record V))). sum_by count z) split ∙ (sum_by-append count front (x.records.items ∷ []) ∙ (let one = sum_by-cons count x.records.items [] in omega (arith, one)))

-- if none is wrong, all are true
pub all_true : {V : ℕ} (h : List (Change V)) (records : List (Record V)) (n : ℕ) → n ≡ 0 → AreWrong h records n → All (λ (r : Record V). IsTrueAnswer h r.key r.reply) records
all_true {V} h [] n none w = λ k d low. absurd (omega (arith, low))
all_true {V} h (r ∷ rs) n none (inl w) = λ k d low. all_true_at h r rs w.0 (all_true h rs n none w.1) k d low
all_true {V} h (r ∷ rs) n none (inr w) = absurd (omega (arith, none, w.1.1))
