-- The turns that a handle takes, keeps and gives back.
use Rattle.std.proofs.Common.{ℕ, zero, suc, ◌≡◌, ◌+◌, ◌<◌, ◌∙◌, get_or, List, [], ◌∷◌, ◌++◌, length, map, Some, All, ap, append_assoc, arith, inl, inr, refl, subst, sym}
use Rattle.std.specs.Prelude.{slice_get, slice_set}
use Rattle.std.specs.Option.{option_map}
use Rattle.std.proofs.lemmas.List.{append-nil, length-append, length-map, map-append}
use Rattle.std.proofs.lemmas.List.Elements.{All-cons, All-head, All-nil, All-push, All-tail}
use Rattle.std.proofs.lemmas.Bool.{cases_eq}
use lib.Seq.{set-get_or}
use Rattle.std.proofs.lemmas.Option.{get_or_from_slice_get, none-some, same_Some, slice_get-map, slice_get_read, slice_get_within}
use Rattle.atomic_table.specs.Lent.{seat_with}
use Rattle.atomic_table.specs.Seated.{TableId}
use Rattle.atomic_table.specs.Table.{rest}
use Rattle.std.specs.declared.snapshot.Snapshot.{Snapshot}
use Rattle.mc_shared.specs.Records.{Opening, ReaderRecord, WriterRecord}
use Rattle.mc_words.specs.declared.history.Change.{Change}
use Rattle.mc_cache.specs.Plain.{Begins, history, seen}
use Rattle.mc_cache.specs.Resting.{IsFit}
use Rattle.mc_shards.specs.Inside.Held.{HaveTaken, HaveWriters, holding, lock_of, locks_of, writer_in, writer_of, writers_of}
use Rattle.mc_shards.specs.Holding.{HasBegunToHold, IsHolderOf}
use Rattle.mc_shards.specs.Loadings.{HaveMet}
use Rattle.mc_shards.specs.Plain.{AllBegin, seens}
use Rattle.mc_shards.specs.Sharded.{ArePassOf, Sharded}
use Rattle.mc_shards.specs.Lending.{HasTaken, Lock, table_of}
use Rattle.mc_shards.specs.declared.lending.Turn.{Turn}

-- ---- lists
at_join : {A : Type 0} (xs ys : List A) (x : A) → slice_get (xs ++ ys) (length xs) ≡ Some x → (zs : List A) × (ys ≡ x ∷ zs)
at_join [] [] x at = absurd (none-some x at)
at_join [] (y ∷ ys) x at = (ys, ap (λ (z : _). z ∷ ys) (same_Some y x at))
at_join (z ∷ xs) ys x at = at_join xs ys x at

get_join : {A : Type 0} (xs : List A) (x : A) (ys : List A) → slice_get (xs ++ x ∷ ys) (length xs) ≡ Some x
get_join [] x ys = refl
get_join (z ∷ xs) x ys = get_join xs x ys

no_more : {A : Type 0} (xs ys : List A) → length ys ≡ 0 → ys ≡ []
no_more xs [] none = refl
no_more xs (y ∷ ys) none = absurd (omega (arith, none))

-- the lock that a turn has
pub has_lock : (V : ℕ) (t : Turn V) (lock inside : Lock) → inside ≡ lock → t.seat.table_id ≡ inside.id → t.seat.me.0 ≡ inside.key → lock_of t ≡ lock
has_lock V t lock inside is id key = ap (λ (x : TableId). record { key = t.seat.me.0; id = x }) id ∙ (ap (λ (x : Snapshot WriterRecord). record { key = x; id = inside.id }) key ∙ is)

-- ---- turns are taken one after the other
pub taken_none : (V : ℕ) (locks : List Lock) (turns : List (Turn V)) → turns ≡ [] → HaveTaken V locks turns
taken_none V locks turns none = subst (λ (ts : List (Turn V)). HaveTaken V locks ts) (sym none) (record { others = locks; all = refl; writers = All-nil (λ (t : Turn V). HasTaken V t.seat.me) })

pub taken_more : (V : ℕ) (locks : List Lock) (turns : List (Turn V)) (t : Turn V) → HaveTaken V locks turns → slice_get locks (length turns) ≡ Some (lock_of t) → HasTaken V t.seat.me → HaveTaken V locks (turns ++ t ∷ [])
taken_more V locks turns t was at has =
    let ls : List Lock = locks_of turns in
    let here : slice_get (ls ++ was.others) (length ls) ≡ Some (lock_of t) =
    subst (λ (n : ℕ). slice_get (ls ++ was.others) n ≡ Some (lock_of t)) (sym (length-map turns lock_of)) (ap (λ (xs : List Lock). slice_get xs (length turns)) (sym was.all) ∙ at) in
    let next = at_join ls was.others (lock_of t) here in
    record {
      others = next.0;
      all = was.all ∙ (ap (λ (xs : List Lock). ls ++ xs) next.1 ∙ (sym (append_assoc ls (lock_of t ∷ []) next.0) ∙ ap (λ (xs : List Lock). xs ++ next.0) (sym (map-append lock_of turns (t ∷ [])))));
      writers = All-push (λ (x : Turn V). HasTaken V x.seat.me) turns t was.writers has;
    }

-- and given back, from the last one on
all_split : {A : Type 0} (P : A → Type 0) (xs : List A) (x : A) → All P (xs ++ x ∷ []) → All P xs × P x
all_split P [] x a = (All-nil P, All-head P x [] a)
all_split P (y ∷ ys) x a = let more = all_split P ys x (All-tail P y (ys ++ x ∷ []) a) in (All-cons P y ys (All-head P y (ys ++ x ∷ []) a) more.0, more.1)

pub taken_less : (V : ℕ) (locks : List Lock) (all turns : List (Turn V)) (t : Turn V) → all ≡ turns ++ t ∷ [] → HaveTaken V locks all → HaveTaken V locks turns × (slice_get locks (length turns) ≡ Some (lock_of t)) × HasTaken V t.seat.me
taken_less V locks all turns t is was =
    let ls : List Lock = locks_of turns in
    let split = all_split (λ (x : Turn V). HasTaken V x.seat.me) turns t (subst (λ (xs : List (Turn V)). HaveWriters xs) is was.writers) in
    let locked : locks ≡ ls ++ lock_of t ∷ was.others =
    was.all ∙ (ap (λ (xs : List (Turn V)). locks_of xs ++ was.others) is ∙ (ap (λ (xs : List Lock). xs ++ was.others) (map-append lock_of turns (t ∷ [])) ∙ append_assoc ls (lock_of t ∷ []) was.others)) in
    let here : slice_get locks (length ls) ≡ Some (lock_of t) = ap (λ (xs : List Lock). slice_get xs (length ls)) locked ∙ get_join ls (lock_of t) was.others in (
      record { others = lock_of t ∷ was.others; all = locked; writers = split.0 },
      subst (λ (n : ℕ). slice_get locks n ≡ Some (lock_of t)) (length-map turns lock_of) here,
      split.1,
    )

-- all of them
pub taken_all : (V : ℕ) (locks : List Lock) (turns : List (Turn V)) → HaveTaken V locks turns → length turns ≡ length locks → locks_of turns ≡ locks
taken_all V locks turns was many =
    let none : was.others ≡ [] = no_more (locks_of turns) was.others (omega (arith, ap length was.all, length-append (locks_of turns) was.others, length-map turns lock_of, many)) in
    sym (was.all ∙ (ap (λ (xs : List Lock). locks_of turns ++ xs) none ∙ append-nil (locks_of turns)))

pub has_taken : (V : ℕ) (locks : List Lock) (turns : List (Turn V)) → locks_of turns ≡ locks → HaveWriters turns → HaveTaken V locks turns
has_taken V locks turns is have = record { others = []; all = sym is ∙ sym (append-nil (locks_of turns)); writers = have }

-- ---- the turn of one shard
has_at : (V : ℕ) (turns : List (Turn V)) (n : ℕ) (t : Turn V) → HaveWriters turns → slice_get turns n ≡ Some t → HasTaken V t.seat.me
has_at V [] n t a at = absurd (none-some t at)
has_at V (x ∷ xs) zero t a at = subst (λ (y : Turn V). HasTaken V y.seat.me) (same_Some x t at) (All-head (λ (y : Turn V). HasTaken V y.seat.me) x xs a)
has_at V (x ∷ xs) (suc n) t a at = has_at V xs n t (All-tail (λ (y : Turn V). HasTaken V y.seat.me) x xs a) at

pub within_turns : (V : ℕ) (locks : List Lock) (turns : List (Turn V)) (n : ℕ) (lock : Lock) → locks_of turns ≡ locks → slice_get locks n ≡ Some lock → n < length turns
within_turns V locks turns n lock is at = omega (arith, slice_get_within locks n lock at, ap length is, length-map turns lock_of)

-- it has the shard's lock, and its writer
pub turn_fits : (V : ℕ) (locks : List Lock) (turns : List (Turn V)) (n : ℕ) (t : Turn V) (lock : Lock) → locks_of turns ≡ locks → HaveWriters turns → slice_get locks n ≡ Some lock → t ≡ get_or turns n t
    → (slice_get turns n ≡ Some t) × (lock_of t ≡ lock) × HasTaken V t.seat.me
turn_fits V locks turns n t lock is have at here =
    let read : slice_get turns n ≡ Some t = slice_get_read turns (length turns) n t refl (within_turns V locks turns n lock is at) here in (
      read,
      same_Some (lock_of t) lock (sym (ap (option_map lock_of) read) ∙ (sym (slice_get-map lock_of turns n) ∙ (ap (λ (ls : List Lock). slice_get ls n) is ∙ at))),
      has_at V turns n t have read,
    )

-- the writer that it lends is the one that it has
pub lends_own : (V : ℕ) (t : Turn V) (w : WriterRecord) → t.seat.me.1 ≡ (0, w) ∷ rest t.seat.me.1 → writer_of t ≡ w
lends_own V t w lent = ap (writer_in t.seat.me.0.value) lent

pub lends_fit : (V : ℕ) (t : Turn V) (w : WriterRecord) → HasTaken V t.seat.me → t.seat.me.1 ≡ (0, w) ∷ rest t.seat.me.1 → IsFit V (table_of (lock_of t)) w
lends_fit V t w has lent = subst (λ (x : WriterRecord). IsFit V (table_of (lock_of t)) x) (sym (ap (writer_in t.seat.me.0.value) has.1) ∙ lends_own V t w lent) has.2

-- a turn with this writer
abbrev pub turn_with : {V : ℕ} → Turn V → WriterRecord → Turn V
turn_with t w = record { seat = seat_with t.seat 0 w }

same_turn : (V : ℕ) (t : Turn V) (w : WriterRecord) → t.seat.me.1 ≡ (0, w) ∷ rest t.seat.me.1 → turn_with t w ≡ t
same_turn V t w lent =
    ap (λ (slots : List (ℕ × WriterRecord)). record { seat = record { marker = t.seat.marker; table_id = t.seat.table_id; id = t.seat.id; me = (t.seat.me.0, slots) } }) (sym lent)

-- a writer that stays as it is leaves all turns as they are
pub same_turns : (V : ℕ) (turns : List (Turn V)) (n : ℕ) (t : Turn V) (w w' : WriterRecord) → t ≡ get_or turns n t → t.seat.me.1 ≡ (0, w) ∷ rest t.seat.me.1 → w' ≡ w → slice_set turns n (turn_with t w') ≡ turns
same_turns V turns n t w w' at lent same =
    ap (λ (x : WriterRecord). slice_set turns n (turn_with t x)) same ∙ (ap (λ (x : Turn V). slice_set turns n x) (same_turn V t w lent ∙ at) ∙ set-get_or turns n t)

-- ---- the writers of all turns
pub tables_of_writers : (V : ℕ) (turns : List (Turn V)) → HaveWriters turns → map (λ w. w.of) (writers_of turns) ≡ map table_of (locks_of turns)
tables_of_writers V [] a = refl
tables_of_writers V (t ∷ ts) a =
    let has : HasTaken V t.seat.me = All-head (λ (y : Turn V). HasTaken V y.seat.me) t ts a in
    let first : (writer_of t).of ≡ table_of (lock_of t) = ap (λ (slots : List (ℕ × WriterRecord)). (writer_in t.seat.me.0.value slots).of) has.1 ∙ has.2.0 in
    let others : map (λ (w : WriterRecord). w.of) (writers_of ts) ≡ map table_of (locks_of ts) = tables_of_writers V ts (All-tail (λ (y : Turn V). HasTaken V y.seat.me) t ts a) in
    ap (λ (o : Opening). o ∷ map (λ (w : WriterRecord). w.of) (writers_of ts)) first ∙ ap (λ (os : List Opening). table_of (lock_of t) ∷ os) others

pub writer_at : (V : ℕ) (turns : List (Turn V)) (n : ℕ) (t : Turn V) (w : WriterRecord) → slice_get turns n ≡ Some t → t.seat.me.1 ≡ (0, w) ∷ rest t.seat.me.1 → slice_get (writers_of turns) n ≡ Some w
writer_at V turns n t w read lent = slice_get-map writer_of turns n ∙ (ap (option_map writer_of) read ∙ ap Some (lends_own V t w lent))

-- ---- one reader more has met its writer
pub begun_more : (V : ℕ) (rs first : List ReaderRecord) (ws : List WriterRecord) (n : ℕ) (r : ReaderRecord) (w : WriterRecord) → slice_get rs n ≡ Some r → slice_get rs n ≡ slice_get first n → slice_get ws n ≡ Some w → Begins (seen V r) (history V w)
    → ((k : ℕ) → k < n → Begins (get_or (seens V first) k []) (get_or (map (history V) ws) k [])) → (k : ℕ) → k < n + 1 → Begins (get_or (seens V first) k []) (get_or (map (history V) ws) k [])
begun_more V rs first ws n r w reader left writer begins was k less =
    let sees : get_or (seens V first) n [] ≡ seen V r = get_or_from_slice_get (seens V first) n (seen V r) [] (slice_get-map (seen V) first n ∙ ap (option_map (seen V)) (sym left ∙ reader)) in
    let makes : get_or (map (history V) ws) n [] ≡ history V w = get_or_from_slice_get (map (history V) ws) n (history V w) [] (slice_get-map (history V) ws n ∙ ap (option_map (history V)) writer) in
    elim (cases_eq k n) [
      | inl same ↦
          subst (λ (j : ℕ). Begins (get_or (seens V first) j []) (get_or (map (history V) ws) j [])) (sym same)
          (subst (λ (h : List (Change V)). Begins h (get_or (map (history V) ws) n [])) (sym sees) (subst (λ (h : List (Change V)). Begins (seen V r) h) (sym makes) begins))
      | inr other ↦ was k (omega (arith, less, other))
    ]

pub all_begun : {V : ℕ} (hs hs' : List (List (Change V))) → length hs ≡ length hs' → ((k : ℕ) → k < length hs → Begins (get_or hs k []) (get_or hs' k [])) → AllBegin hs hs'
all_begun [] [] long each = tt
all_begun [] (x ∷ xs) long each = absurd (omega (arith, long))
all_begun (x ∷ xs) [] long each = absurd (omega (arith, long))
all_begun (x ∷ xs) (y ∷ ys) long each = (each 0 (omega arith), all_begun xs ys (omega (arith, long)) (λ k less. each (suc k) (omega (arith, less))))

-- ---- all turns are held
pub holds_all : (V : ℕ) (s : Sharded) (rs : List ReaderRecord) (turns : List (Turn V)) → ArePassOf s rs → HaveWriters turns → locks_of turns ≡ s.locks → map table_of s.locks ≡ s.tables → IsHolderOf s (holding rs turns)
holds_all V s rs turns of have locks lenders = record { readers = of; writers = tables_of_writers V turns have ∙ (ap (map table_of) locks ∙ lenders); locks = locks }

pub begins_to_hold : (V : ℕ) (s : Sharded) (first rs : List ReaderRecord) (turns turns' : List (Turn V)) → turns' ≡ turns → ArePassOf s rs → HaveWriters turns → locks_of turns ≡ s.locks → map table_of s.locks ≡ s.tables
    → HaveMet (writers_of turns) rs → AllBegin (seens V first) (map (history V) (writers_of turns)) → HasBegunToHold V s first (holding rs turns')
begins_to_hold V s first rs turns turns' same of have locks lenders met begins =
    subst (λ (ts : List (Turn V)). HasBegunToHold V s first (holding rs ts)) (sym same) (record { of = holds_all V s rs turns of have locks lenders; met = met; begins = begins })
