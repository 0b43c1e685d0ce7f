-- A call of a holder, at the writer of one shard.
use Rattle.std.proofs.Common.{ℕ, ◌≡◌, ◌∙◌, get_or, List, [], ◌∷◌, length, map, Some, ap, subst, sym}
use Rattle.std.specs.Prelude.{slice_get, slice_set}
use Rattle.std.specs.Option.{option_map}
use Rattle.std.proofs.lemmas.List.{length-map, map-set}
use Rattle.std.proofs.lemmas.List.Elements.{All-set}
use Rattle.std.proofs.lemmas.Option.{get_or_from_slice_get, same_Some, slice_get-map}
use Rattle.std.proofs.Math.Seq.{map-set_same}
use Rattle.atomic_table.specs.Table.{rest}
use Rattle.mc_words.specs.Keys.{shard_of}
use Rattle.mc_words.specs.declared.history.Change.{Change}
use Rattle.mc_shared.specs.Records.{Opening, ReaderRecord, WriterRecord}
use Rattle.mc_cache.specs.Plain.{history}
use Rattle.mc_cache.specs.Resting.{IsAtRest, IsFit}
use Rattle.mc_shards.proofs.HeldTurns.{lends_fit, same_turns, turn_fits, turn_with, writer_at}
use Rattle.mc_shards.specs.Holding.{Holding, IsHolderOf, histories}
use Rattle.mc_shards.specs.Inside.Held.{HaveWriters, holding, lock_of, writer_of, writers_of}
use Rattle.mc_shards.specs.Lending.{HasTaken, Lock, table_of}
use Rattle.mc_shards.proofs.OneMap.{was_history}
use Rattle.mc_shards.specs.Plain.{history_of}
use Rattle.mc_shards.specs.Sharded.{ChangesAt, Sharded, shard_in}
use Rattle.mc_shards.specs.declared.lending.Turn.{Turn}

-- a turn, with what is known of it: the holder has these readers and turns, this one is the n-th, and it lends this writer
pub record At (V : ℕ) (s : Sharded) (h : Holding) (rs : List ReaderRecord) (turns : List (Turn V)) (n : ℕ) (t : Turn V) (lock : Lock) : Type 0 where
  pub is : holding rs turns ≡ h
  pub of : IsHolderOf s h
  pub have : HaveWriters turns
  pub locked : slice_get s.locks n ≡ Some lock
  pub here : t ≡ get_or turns n t

module _ {V : ℕ} {s : Sharded} {h : Holding} {rs : List ReaderRecord} {turns : List (Turn V)} {n : ℕ} {t : Turn V} {lock : Lock} where
  pub fits_at : At V s h rs turns n t lock → (slice_get turns n ≡ Some t) × (lock_of t ≡ lock) × HasTaken V t.seat.me
  fits_at a = turn_fits V s.locks turns n t lock (ap (λ (x : Holding). x.locks) a.is ∙ a.of.locks) a.have a.locked a.here

  pub takes_at : (inside : Lock) → inside ≡ lock → At V s h rs turns n t lock → (t.seat.table_id ≡ inside.id) × HasTaken V t.seat.me
  takes_at inside view a = (ap (λ (l : Lock). l.id) ((fits_at a).1 ∙ sym view), (fits_at a).2)

  -- the writer that is lent is that of the shard's table, and rests
  pub lends_at : (w : WriterRecord) → t.seat.me.1 ≡ (0, w) ∷ rest t.seat.me.1 → At V s h rs turns n t lock → IsFit V (table_of lock) w
  lends_at w lent a = subst (λ (l : Lock). IsFit V (table_of l) w) (fits_at a).1 (lends_fit V t w (fits_at a).2 lent)

  pub table_at : (w : WriterRecord) (o : Opening) → t.seat.me.1 ≡ (0, w) ∷ rest t.seat.me.1 → slice_get s.tables n ≡ Some (table_of lock) → slice_get s.tables n ≡ Some o → At V s h rs turns n t lock → w.of ≡ o
  table_at w o lent lender cache a = (lends_at w lent a).0 ∙ same_Some (table_of lock) o (sym lender ∙ cache)

  -- the writer is one of the holder's
  pub own_at : (w : WriterRecord) → t.seat.me.1 ≡ (0, w) ∷ rest t.seat.me.1 → At V s h rs turns n t lock → slice_get h.writers n ≡ Some w
  own_at w lent a = sym (ap (λ (x : Holding). slice_get x.writers n) a.is) ∙ writer_at V turns n t w (fits_at a).0 lent

  -- a call that leaves the writer as it is leaves the holder as it is
  pub stays_at : (w w' : WriterRecord) → t.seat.me.1 ≡ (0, w) ∷ rest t.seat.me.1 → w' ≡ w → At V s h rs turns n t lock → holding rs (slice_set turns n (turn_with t w')) ≡ h
  stays_at w w' lent same a = ap (λ (ts : List (Turn V)). holding rs ts) (same_turns V turns n t w w' a.here lent same) ∙ a.is

  -- what a call leaves
  pub keeps_writers : (w w' : WriterRecord) → t.seat.me.1 ≡ (0, w) ∷ rest t.seat.me.1 → w'.of ≡ w.of → IsAtRest V w' → At V s h rs turns n t lock → HaveWriters (slice_set turns n (turn_with t w'))
  keeps_writers w w' lent of rests a =
      let has = (fits_at a).2 in
      let slots : (0, w') ∷ rest t.seat.me.1 ≡ (0, w') ∷ [] = ap (λ (xs : List (ℕ × WriterRecord)). (0, w') ∷ rest xs) has.1 in
      let table : w'.of ≡ table_of (lock_of t) = of ∙ (lends_fit V t w has lent).0 in
      All-set (λ (x : Turn V). HasTaken V x.seat.me) turns n (turn_with t w') (w', slots, (table, rests)) a.have

  pub changed_writers : (w w' : WriterRecord) → At V s h rs turns n t lock → writers_of (slice_set turns n (turn_with t w')) ≡ slice_set h.writers n w'
  changed_writers w w' a = map-set writer_of turns n (turn_with t w') ∙ ap (λ (x : Holding). slice_set x.writers n w') a.is

  pub holds_at : (w w' : WriterRecord) → t.seat.me.1 ≡ (0, w) ∷ rest t.seat.me.1 → w'.of ≡ w.of → At V s h rs turns n t lock → IsHolderOf s (holding rs (slice_set turns n (turn_with t w')))
  holds_at w w' lent of a =
      let of_writer : WriterRecord → Opening = λ x. x.of in
      let own : slice_get h.writers n ≡ Some w = own_at w lent a in
      record {
        readers = ap (λ (x : Holding). map (λ (r : ReaderRecord). r.of) x.readers) a.is ∙ a.of.readers;
        writers = ap (map of_writer) (changed_writers w w' a) ∙ (map-set_same of_writer h.writers n w' w (of ∙ ap of_writer (sym (get_or_from_slice_get h.writers n w w own))) ∙ a.of.writers);
        locks = map-set_same lock_of turns n (turn_with t w') t (ap lock_of a.here) ∙ (ap (λ (x : Holding). x.locks) a.is ∙ a.of.locks);
      }

  pub changes_at : (m : ℕ) (w w' : WriterRecord) (Goes : WriterRecord → WriterRecord → Type 0) → t.seat.me.1 ≡ (0, w) ∷ rest t.seat.me.1 → n ≡ m → Goes w w' → At V s h rs turns n t lock → ChangesAt m h.writers (writers_of (slice_set turns n (turn_with t w'))) Goes
  changes_at m w w' Goes lent same goes a =
      subst (λ (k : ℕ). ChangesAt k h.writers (writers_of (slice_set turns n (turn_with t w'))) Goes) same
      (record { before = w; after = w'; was = own_at w lent a; is = changed_writers w w' a; goes = goes })

  pub means_at : (m : ℕ) (w w' : WriterRecord) (Means : List (Change V) → List (Change V) → Type 0) → t.seat.me.1 ≡ (0, w) ∷ rest t.seat.me.1 → n ≡ m → Means (history V w) (history V w') → At V s h rs turns n t lock
      → ChangesAt m (histories V h) (map (history V) (writers_of (slice_set turns n (turn_with t w')))) Means
  means_at m w w' Means lent same means a =
      subst (λ (k : ℕ). ChangesAt k (histories V h) (map (history V) (writers_of (slice_set turns n (turn_with t w')))) Means) same
      (record {
        before = history V w;
        after = history V w';
        was = slice_get-map (history V) h.writers n ∙ ap (option_map (history V)) (own_at w lent a);
        is = ap (map (history V)) (changed_writers w w' a) ∙ map-set (history V) h.writers n w';
        goes = means;
      })

  -- a writer that stays as it is rests
  pub rests_at : (w w' : WriterRecord) → t.seat.me.1 ≡ (0, w) ∷ rest t.seat.me.1 → w' ≡ w → At V s h rs turns n t lock → IsAtRest V w'
  rests_at w w' lent same a = subst (λ (x : WriterRecord). IsAtRest V x) (sym same) (lends_at w lent a).1

  -- the history of the shard's writer is that of its keys
  pub history_at : (w : WriterRecord) (k : ℕ) → t.seat.me.1 ≡ (0, w) ∷ rest t.seat.me.1 → n ≡ shard_in s k → At V s h rs turns n t lock → history_of s.shape.mix (histories V h) k ≡ history V w
  history_at w k lent same a =
      let own : slice_get h.writers n ≡ Some w = own_at w lent a in
      let many : length (histories V h) ≡ length s.tables = length-map h.writers (history V) ∙ (sym (length-map h.writers (λ (x : WriterRecord). x.of)) ∙ ap length a.of.writers) in
      let read : slice_get (histories V h) n ≡ Some (history V w) = slice_get-map (history V) h.writers n ∙ ap (option_map (history V)) own in
      was_history V s.shape.mix (histories V h) k (history V w)
      (ap (λ (m : ℕ). slice_get (histories V h) (shard_of s.shape.mix m k)) many ∙ (ap (slice_get (histories V h)) (sym same) ∙ read))

  pub same_histories_at : (w w' : WriterRecord) → t.seat.me.1 ≡ (0, w) ∷ rest t.seat.me.1 → history V w' ≡ history V w → At V s h rs turns n t lock → map (history V) (writers_of (slice_set turns n (turn_with t w'))) ≡ histories V h
  same_histories_at w w' lent same a =
      ap (map (history V)) (changed_writers w w' a) ∙ map-set_same (history V) h.writers n w' w (same ∙ ap (history V) (sym (get_or_from_slice_get h.writers n w w (own_at w lent a))))

  -- the history of the n-th shard
  pub history_of_shard : (w : WriterRecord) → t.seat.me.1 ≡ (0, w) ∷ rest t.seat.me.1 → At V s h rs turns n t lock → get_or (histories V h) n [] ≡ history V w
  history_of_shard w lent a =
      get_or_from_slice_get (histories V h) n (history V w) [] (slice_get-map (history V) h.writers n ∙ ap (option_map (history V)) (own_at w lent a))

-- there are as many histories as shards
pub as_many_histories : (V : ℕ) (s : Sharded) (h : Holding) → IsHolderOf s h → length (histories V h) ≡ length s.tables
as_many_histories V s h of = length-map h.writers (history V) ∙ (sym (length-map h.writers (λ (x : WriterRecord). x.of)) ∙ ap length of.writers)
