-- What calls of the cache mean, from what they do to records.
use Rattle.std.proofs.Common.{ℕ, ◌≡◌, ◌∙◌, List, [], ◌∷◌, ◌++◌, length, Option, Some, None, Result, Ok, Err, All, IfOk, ap, arith, append-nil, append_assoc, refl, sym, subst}
use Rattle.std.proofs.lemmas.List.{length_push, same_from_push}
use Rattle.std.proofs.lemmas.List.Elements.{All-weaker}
use Rattle.mc_words.proofs.Maps.{held-evict, held-put, held-remove}
use Rattle.mc_words.specs.History.{key_count, map_value, IsLegal, IsTrueAnswer}
use Rattle.mc_words.specs.declared.history.Change.{Change}
use Rattle.mc_words.specs.declared.history.Change.TheVariants as change
use Rattle.mc_words.specs.declared.history.Reply.{Reply}
use Rattle.mc_words.specs.declared.history.Reply.TheVariants.{Found, Absent, Busy}
use Rattle.mc_words.specs.declared.shape.Shape.{Shape}
use Rattle.mc_theory.proofs.Lists.Fronts.{front_all, state_append, state_none}
use Rattle.mc_theory.proofs.Lists.Histories.{history_all}
use Rattle.mc_theory.specs.Lists.{IsLawful, Made, after_all, state_of}
use Rattle.mc_theory.specs.Plain.{IsBetween}
use Rattle.mc_theory.specs.States.{State, opening}
use Rattle.mc_plan.specs.Calls.{IfAnswers, KeptAnswers, PutAnswers, RemoveAnswers}
use Rattle.mc_plan.specs.Loads.{changes_by}
use Rattle.mc_plan.specs.WholeCalls.{KeptCall, PutCall, PutIfCall, RemoveCall, quiet_of}
use Rattle.mc_plan.specs.declared.answer.Answer.TheVariants as answer
use Rattle.mc_plan.specs.declared.answer.AbsentError.{AbsentError}
use Rattle.mc_plan.specs.declared.answer.AbsentError.TheVariants as absent
use Rattle.mc_plan.specs.declared.answer.EvictError.{EvictError}
use Rattle.mc_plan.specs.declared.answer.EvictError.TheVariants as evict
use Rattle.mc_plan.specs.declared.answer.IfError.{IfError}
use Rattle.mc_plan.specs.declared.answer.IfError.TheVariants as why
use Rattle.mc_plan.specs.declared.answer.Put.{Put}
use Rattle.mc_plan.specs.declared.answer.Put.TheVariants.{Stored, Renewed}
use Rattle.mc_plan.specs.declared.answer.PutError.{PutError}
use Rattle.mc_plan.specs.declared.answer.PutError.TheVariants.{NoPath, AllRecent, Spent}
use Rattle.mc_plan.specs.declared.answer.Remove.{Remove}
use Rattle.mc_plan.specs.declared.answer.Remove.TheVariants.{Removed, NotThere}
use Rattle.mc_plan.specs.declared.answer.Spent.{Spent as RemoveSpent}
use Rattle.mc_plan.specs.declared.answer.Why.{Why}
use Rattle.mc_plan.specs.declared.answer.Why.TheVariants as left
use Rattle.mc_words.specs.Answers.{Quiet}
use Rattle.mc_shared.specs.Records.{IsNewReader, Opening, ReaderRecord, WriterRecord}
use Rattle.mc_shared.specs.Views.{IsFrontOf, with_bit}
use Rattle.mc_reader.specs.Records.{AreTrueAnswers, HaveLooked}
use Rattle.mc_reader.proofs.ManyLookups.{grown}
use Rattle.mc_writer.specs.Evictions.{HasTriedToEvict}
use Rattle.mc_writer.specs.WriterCalls.{HasCalled, HasGot, HasPutIfAbsent, IsRested}
use Rattle.mc_writer.proofs.Rests.{agrees_now, shape_is}
use Rattle.mc_words.specs.Checks.{shape_of}
use Rattle.mc_theory.specs.Phases.{Quiet as QuietPhase}
use Rattle.mc_theory.proofs.Replies.TrueReplies.{agrees_always}
use Rattle.mc_shared.specs.SeatFacts.{IsRun}
use Rattle.mc_cache.proofs.HistoryLaws.{some_same}
use Rattle.mc_cache.specs.Inside.KeptMoments.{KeepsMoment}
use Rattle.mc_cache.specs.Resting.{IsAtRest}
use Rattle.mc_search.specs.Entries.{AreEntriesOf}
use Rattle.mc_plan.specs.declared.books.Books.{Books}
use Rattle.mc_words.specs.Places.{moment}
use Rattle.mc_theory.specs.declared.act.Act.TheVariants.{Mark}
use Rattle.mc_shared.specs.declared.layout.Layout.{Layout}
use Rattle.mc_writer.specs.declared.entry.Entry.{Entry}
use Rattle.mc_writer.specs.declared.entry.Evict.{Evict}
use Rattle.mc_writer.specs.declared.entry.Evict.TheVariants.{Evicted, Empty}
use Rattle.mc_writer.specs.declared.entry.Swapped.{Swapped}
use Rattle.std.specs.declared.convert.Infallible.{Infallible}
use Rattle.mc_cache.specs.Showing.{ShowMeans}
use Rattle.mc_cache.specs.Stamped.{AreStampedEntriesOf}
use Rattle.mc_cache.specs.Taking.{EvictMeans, Holds, SwapMeans, giving_way, put_of, swap_answer}
use Rattle.mc_cache.specs.Plain.{Begins, HasAnswered, HasMet, PutIfAbsentMeans, PutIfMeans, PutMeans, RemovalMeans, TellsNow, history, moment_of, seen}

-- ---- the states before a call and after it
-- after a put its key has the value, with the moment of the put after it
put_holds : {V : ℕ} (h h' : List (Change V)) (k at : ℕ) (v : List ℕ) → h' ≡ h ++ change.Put k v ∷ [] → at ≡ length h' → map_value h' k ≡ Some (v ++ at ∷ [])
put_holds {V} h h' k at v grown is =
    ap (λ (x : List (Change V)). map_value x k) grown ∙ held-put h k v ∙ ap (λ (n : ℕ). Some (v ++ n ∷ [])) (omega (arith, is, ap length grown, length_push h (change.Put k v)))

put_answer_means : (V : ℕ) (sh : Shape) (s t : State V) (k : ℕ) (v : List ℕ) (told : Result Put PutError) → PutAnswers sh (quiet_of s) k v told (quiet_of t) → PutMeans V s.history t.history k v told
put_answer_means V sh s t k v (Ok (Stored at moves None)) a = record {
  was = a.absent;
  grew = a.grows.history;
  holds = put_holds s.history t.history k at v a.grows.history a.moment;
  at = a.moment;
}
put_answer_means V sh s t k v (Ok (Stored at moves (Some e))) a = record {
  was = (a.needs.absent, a.was);
  grew = a.grows.history;
  holds = put_holds (s.history ++ change.Evict e ∷ []) t.history k at v (a.grows.history ∙ sym (append_assoc s.history (change.Evict e ∷ []) (change.Put k v ∷ []))) a.moment;
  at = a.moment;
}
put_answer_means V sh s t k v (Ok (Renewed at)) a = record {
  was = a.present;
  grew = a.grows.history;
  holds = put_holds s.history t.history k at v a.grows.history a.moment;
  at = a.moment;
}
put_answer_means V sh s t k v (Err NoPath) a = ap (λ (q : Quiet V). q.history) a.unchanged
put_answer_means V sh s t k v (Err AllRecent) a = ap (λ (q : Quiet V). q.history) a.unchanged
put_answer_means V sh s t k v (Err Spent) a = ap (λ (q : Quiet V). q.history) a.1

if_answer_means : (V : ℕ) (sh : Shape) (s t : State V) (k since : ℕ) (v : List ℕ) (told : Result ℕ IfError) → IfAnswers sh (quiet_of s) k since v told (quiet_of t) → PutIfMeans V s.history t.history k since v told
if_answer_means V sh s t k since v (Ok at) a = record {
  was = (a.value, a.held, a.size);
  grew = a.grows.history;
  holds = put_holds s.history t.history k at v a.grows.history a.moment;
  at_end = a.moment;
}
if_answer_means V sh s t k since v (Err why.Spent) a = ap (λ (q : Quiet V). q.history) a.1
if_answer_means V sh s t k since v (Err (why.NotThere at)) a = (a.absent, ap (λ (q : Quiet V). q.history) a.unchanged, a.moment)
if_answer_means V sh s t k since v (Err (why.Changed stands)) a = ((a.value, a.held, a.size), a.other, ap (λ (q : Quiet V). q.history) a.unchanged)

removal_answer_means : (V : ℕ) (sh : Shape) (s t : State V) (k : ℕ) (told : Result Remove RemoveSpent) → RemoveAnswers sh (quiet_of s) k told (quiet_of t) → RemovalMeans V s.history t.history k told
removal_answer_means V sh s t k (Ok (Removed at)) a = (a.present, a.grows.history, ap (λ (h : List (Change V)). map_value h k) a.grows.history ∙ held-remove s.history k, a.moment)
removal_answer_means V sh s t k (Ok (NotThere at)) a = (a.absent, ap (λ (q : Quiet V). q.history) a.unchanged, a.moment)
removal_answer_means V sh s t k (Err spent) a = ap (λ (q : Quiet V). q.history) a.1

-- an eviction without a put is of the same table
pub evict_same : (V : ℕ) (sh : Shape) (before after : WriterRecord) (told : Result (Evict V) EvictError) → HasTriedToEvict V sh before after told → after.of ≡ before.of
evict_same V sh before after (Ok (Evicted at old)) h = h.made.of
evict_same V sh before after (Ok (Empty at)) h = ap (λ (w : WriterRecord). w.of) h.2
evict_same V sh before after (Err evict.AllRecent) h = h.made.of
evict_same V sh before after (Err evict.Spent) h = ap (λ (w : WriterRecord). w.of) h.1

evict_answer_means : (V : ℕ) (sh : Shape) (before after : WriterRecord) (told : Result (Evict V) EvictError) → HasTriedToEvict V sh before after told → EvictMeans V (state_of V sh before.acts).history (state_of V sh after.acts).history told
evict_answer_means V sh before after (Ok (Evicted at old)) h = (h.holds, h.history, ap (λ (x : List (Change V)). map_value x old.key) h.history ∙ held-evict (state_of V sh before.acts).history old.key, h.moment)
evict_answer_means V sh before after (Ok (Empty at)) h = (h.0, ap (λ (w : WriterRecord). (state_of V sh w.acts).history) h.2, h.1)
evict_answer_means V sh before after (Err evict.AllRecent) h = h.history
evict_answer_means V sh before after (Err evict.Spent) h = ap (λ (w : WriterRecord). (state_of V sh w.acts).history) h.1

kept_changes : (V : ℕ) (sh : Shape) (s t : State V) (k : ℕ) (v : List ℕ) (told : Result Put Why) → KeptAnswers sh (quiet_of s) k v told (quiet_of t) → t.history ≡ s.history ++ changes_by k v told
kept_changes V sh s t k v (Ok (Stored at moves None)) a = a.grows.history
kept_changes V sh s t k v (Ok (Stored at moves (Some evicted))) a = absurd a
kept_changes V sh s t k v (Ok (Renewed at)) a = a.grows.history
kept_changes V sh s t k v (Err left.NoPath) a = ap (λ (q : Quiet V). q.history) a.unchanged ∙ sym (append-nil s.history)
kept_changes V sh s t k v (Err left.NoItem) a = ap (λ (q : Quiet V). q.history) a.unchanged ∙ sym (append-nil s.history)
kept_changes V sh s t k v (Err left.Spent) a = ap (λ (q : Quiet V). q.history) a.1 ∙ sym (append-nil s.history)

-- a refused call leaves the history
pub refused_if : (V : ℕ) (h h' : List (Change V)) (k since : ℕ) (v : List ℕ) (why : IfError) → PutIfMeans V h h' k since v (Err why) → h' ≡ h
refused_if V h h' k since v why.Spent m = m
refused_if V h h' k since v (why.NotThere at) m = m.1
refused_if V h h' k since v (why.Changed stands) m = m.2

pub refused_if_absent : (V : ℕ) (h h' : List (Change V)) (k : ℕ) (v : List ℕ) (why : AbsentError) → PutIfAbsentMeans V h h' k v (Err why) → h' ≡ h
refused_if_absent V h h' k v (absent.Put why) m = m.1
refused_if_absent V h h' k v (absent.Present since) m = m.1

-- ---- the histories of records
-- the history of a record, and of one with these acts more
history_is : (V : ℕ) (o : Opening) (w : WriterRecord) → w.of ≡ o → history V w ≡ (state_of V o.layout.shape w.acts).history
unfolding history
history_is V o w of = ap (λ (p : Opening). (state_of V p.layout.shape w.acts).history) of

seen_is : (V : ℕ) (o : Opening) (r : ReaderRecord) → r.of ≡ o → seen V r ≡ (state_of V o.layout.shape r.front).history
unfolding seen
seen_is V o r of = ap (λ (p : Opening). (state_of V p.layout.shape r.front).history) of

history_grown : (V : ℕ) (sh : Shape) (acts all more : List Made) → all ≡ acts ++ more → (state_of V sh all).history ≡ (after_all sh (state_of V sh acts) more).history
history_grown V sh acts all more e = ap (λ (xs : List Made). (state_of V sh xs).history) e ∙ ap (λ (s : State V). s.history) (state_append V sh acts more)

-- ---- the calls of the writer. Each is made on a seat, which is what callers see of the writer
module _ (V : ℕ) (o cells : Opening) (self seat : WriterRecord) (table : cells ≡ o) (same : seat ≡ self) (of : self.of ≡ o) where
  seat_of : seat.of ≡ cells
  seat_of = ap (λ (w : WriterRecord). w.of) same ∙ (of ∙ sym table)

  history_before : history V self ≡ (state_of V cells.layout.shape seat.acts).history
  history_before = ap (history V) (sym same) ∙ history_is V cells seat seat_of

  history_after : (after : WriterRecord) → after.of ≡ seat.of → history V after ≡ (state_of V cells.layout.shape after.acts).history
  history_after after of' = history_is V cells after (of' ∙ seat_of)

  history_called : (after : WriterRecord) (made : List Made) → after.of ≡ seat.of → after.acts ≡ seat.acts ++ made → history V after ≡ (after_all cells.layout.shape (state_of V cells.layout.shape seat.acts) made).history
  history_called after made of' acts = history_is V cells after (of' ∙ seat_of) ∙ history_grown V cells.layout.shape seat.acts after.acts made acts

  pub put_means : (after : WriterRecord) (k : ℕ) (v : List ℕ) (told : Result Put PutError) → HasCalled V cells.layout.shape (PutCall k v) seat after (answer.Put told) → PutMeans V (history V self) (history V after) k v told
  put_means after k v told h =
      let s = state_of V cells.layout.shape seat.acts in
      subst (λ (p : List (Change V) × List (Change V)). PutMeans V p.0 p.1 k v told) (λ i. (sym history_before i, sym (history_called after h.made h.of h.acts) i))
      (put_answer_means V cells.layout.shape s (after_all cells.layout.shape s h.made) k v told h.answered.means)

  pub put_if_means : (after : WriterRecord) (k since : ℕ) (v : List ℕ) (told : Result ℕ IfError) → HasCalled V cells.layout.shape (PutIfCall k since v) seat after (answer.PutIf told) → PutIfMeans V (history V self) (history V after) k since v told
  put_if_means after k since v told h =
      let s = state_of V cells.layout.shape seat.acts in
      subst (λ (p : List (Change V) × List (Change V)). PutIfMeans V p.0 p.1 k since v told) (λ i. (sym history_before i, sym (history_called after h.made h.of h.acts) i))
      (if_answer_means V cells.layout.shape s (after_all cells.layout.shape s h.made) k since v told h.answered.means)

  pub removal_means : (after : WriterRecord) (k : ℕ) (told : Result Remove RemoveSpent) → HasCalled V cells.layout.shape (RemoveCall k) seat after (answer.Remove told) → RemovalMeans V (history V self) (history V after) k told
  removal_means after k told h =
      let s = state_of V cells.layout.shape seat.acts in
      subst (λ (p : List (Change V) × List (Change V)). RemovalMeans V p.0 p.1 k told) (λ i. (sym history_before i, sym (history_called after h.made h.of h.acts) i))
      (removal_answer_means V cells.layout.shape s (after_all cells.layout.shape s h.made) k told h.answered.means)

  pub evict_means : (after : WriterRecord) (told : Result (Evict V) EvictError) → HasTriedToEvict V cells.layout.shape seat after told → EvictMeans V (history V self) (history V after) told
  evict_means after told h =
      subst (λ (p : List (Change V) × List (Change V)). EvictMeans V p.0 p.1 told) (λ i. (sym history_before i, sym (history_after after (evict_same V cells.layout.shape seat after told h)) i)) (evict_answer_means V cells.layout.shape seat after told h)

  -- a mark changes no map
  history_kept : (after : WriterRecord) (k : ℕ) (reply : Reply V) → HasGot V cells.layout.shape k seat after reply → history V after ≡ (state_of V cells.layout.shape seat.acts).history
  history_kept after k (Found v at since) h = history_called after (with_bit (Mark h.replies.2.1) 0 ∷ []) h.of h.replies.2.3
  history_kept after k (Absent at) h = history_called after [] h.of (h.replies.2 ∙ sym (append-nil seat.acts))
  history_kept after k Busy h = absurd h.replies

  told_now : (h : List (Change V)) (after : WriterRecord) (k : ℕ) (reply : Reply V) → h ≡ (state_of V cells.layout.shape seat.acts).history → HasGot V cells.layout.shape k seat after reply → TellsNow h k reply
  told_now h after k (Found v at since) e g = (ap (λ (x : List (Change V)). map_value x k) e ∙ g.replies.0, g.replies.1 ∙ sym (ap length e))
  told_now h after k (Absent at) e g = (ap (λ (x : List (Change V)). map_value x k) e ∙ g.replies.0, g.replies.1 ∙ sym (ap length e))
  told_now h after k Busy e g = absurd g.replies

  pub got_means : (after : WriterRecord) (k : ℕ) (reply : Reply V) → HasGot V cells.layout.shape k seat after reply → TellsNow (history V self) k reply × (history V after ≡ history V self)
  got_means after k reply h = (told_now (history V self) after k reply history_before h, history_kept after k reply h ∙ sym history_before)

  -- what the map holds while the writer rests
  pub held_now : (k : ℕ) (held : Option (List ℕ)) → map_value (state_of V cells.layout.shape seat.acts).history k ≡ held → map_value (history V self) k ≡ held
  held_now k held e = ap (λ (x : List (Change V)). map_value x k) history_before ∙ e

  pub put_if_absent_means : (after : WriterRecord) (k : ℕ) (v : List ℕ) (told : Result Put AbsentError) → HasPutIfAbsent V cells.layout.shape k v seat after told → PutIfAbsentMeans V (history V self) (history V after) k v told
  put_if_absent_means after k v (Ok told) h = (held_now k None h.absent, put_means after k v (Ok told) h.called)
  put_if_absent_means after k v (Err (absent.Put refused)) h = (held_now k None h.absent, put_means after k v (Err refused) h.called)
  put_if_absent_means after k v (Err (absent.Present since)) h =
      ((h.value, held_now k (Some (h.value ++ since ∷ [])) h.got.replies.0, h.size), history_kept after k (Found h.value h.at since) h.got ∙ sym history_before)

  pub kept_means : (after : WriterRecord) (k : ℕ) (v : List ℕ) (told : Result Put Why) → HasCalled V cells.layout.shape (KeptCall k v) seat after (answer.Kept told) → history V after ≡ history V self ++ changes_by k v told
  kept_means after k v told h = history_called after h.made h.of h.acts ∙ kept_changes V cells.layout.shape (state_of V cells.layout.shape seat.acts) (after_all cells.layout.shape (state_of V cells.layout.shape seat.acts) h.made) k v told h.answered.means
      ∙ ap (λ (x : List (Change V)). x ++ changes_by k v told) (sym history_before)

  pub kept_leaves : (after : WriterRecord) (k : ℕ) (v : List ℕ) (why : Why) → HasCalled V cells.layout.shape (KeptCall k v) seat after (answer.Kept (Err why)) → history V after ≡ history V self
  kept_leaves after k v why h = kept_means after k v (Err why) h ∙ append-nil (history V self)

  pub kept_at : (after : WriterRecord) (k : ℕ) (v : List ℕ) (told : Put) → HasCalled V cells.layout.shape (KeptCall k v) seat after (answer.Kept (Ok told)) → moment_of told ≡ length (history V after)
  kept_at after k v (Stored at moves None) h = h.answered.means.moment ∙ sym (ap length (history_called after h.made h.of h.acts))
  kept_at after k v (Stored at moves (Some evicted)) h = absurd h.answered.means
  kept_at after k v (Renewed at) h = h.answered.means.moment ∙ sym (ap length (history_called after h.made h.of h.acts))

  -- one entry has one stamp
  pub stamp_is : (k s : ℕ) (v : List ℕ) (entry : Entry V) → map_value (state_of V cells.layout.shape seat.acts).history k ≡ Some (v ++ s ∷ []) → Holds (history V self) k (Some entry) → entry.since ≡ s
  stamp_is k s v entry e holds = (same_from_push entry.value v entry.since s (some_same (entry.value ++ entry.since ∷ []) (v ++ s ∷ []) (sym holds.1 ∙ held_now k (Some (v ++ s ∷ [])) e))).1

  -- and it is there
  pub is_there : (k : ℕ) (entry : Entry V) → map_value (state_of V cells.layout.shape seat.acts).history k ≡ None → Holds (history V self) k (Some entry) → ⊥
  is_there k entry e holds = none_some (sym (held_now k None e) ∙ holds.1)
    where
      none_some : ◌≡◌ {A = Option (List ℕ)} None (Some (entry.value ++ entry.since ∷ [])) → ⊥
      none_some e = absurd (cc)

  pub entry_now : (k : ℕ) (entry : Option (Entry V)) → Holds (state_of V cells.layout.shape seat.acts).history k entry → Holds (history V self) k entry
  entry_now k entry = subst (λ (h : List (Change V)). Holds h k entry) (sym history_before)

  pub swap_means : (after : WriterRecord) (k : ℕ) (v : List ℕ) (told : Result (Swapped V) PutError) → HasCalled V cells.layout.shape (PutCall k v) seat after (swap_answer told)
      → IfOk told (λ swapped. Holds (state_of V cells.layout.shape seat.acts).history (giving_way k swapped.put) swapped.old) → SwapMeans V (history V self) (history V after) k v told
  swap_means after k v told h old =
      (put_means after k v (put_of told) h, subst (λ (x : List (Change V)). IfOk told (λ swapped. Holds x (giving_way k swapped.put) swapped.old)) (sym history_before) old)

  pub entries_now : (es : List (ℕ × List ℕ)) → AreEntriesOf V (state_of V cells.layout.shape seat.acts).history es → AreEntriesOf V (history V self) es
  entries_now es e = subst (λ (h : List (Change V)). AreEntriesOf V h es) (sym history_before) e

  pub stamped_now : (es : List (Entry V)) → AreStampedEntriesOf V (state_of V cells.layout.shape seat.acts).history es → AreStampedEntriesOf V (history V self) es
  stamped_now es e = subst (λ (h : List (Change V)). AreStampedEntriesOf V h es) (sym history_before) e

  -- a call that shows an entry changes nothing
  pub shown_now : (after : WriterRecord) (told : Result (Option (Entry V)) Infallible) → after ≡ seat → ShowMeans V (state_of V cells.layout.shape seat.acts).history (state_of V cells.layout.shape seat.acts).history told → ShowMeans V (history V self) (history V after) told
  shown_now after told kept means =
      subst (λ (p : List (Change V) × List (Change V)). ShowMeans V p.0 p.1 told) (λ i. (sym history_before i, sym (ap (history V) kept ∙ history_is V cells seat seat_of) i)) means

-- the moment that a writer keeps is the length of the history
pub moment_tells : (V : ℕ) (books : Books) (self seat : WriterRecord) (n : ℕ) → seat ≡ self → IsRested V books seat → KeepsMoment V seat n → n ≡ length (history V self)
unfolding history
moment_tells V books self seat n same rested e = e ∙ (agrees_now V seat.of books seat refl rested).at_moment ∙ ap (λ (w : WriterRecord). length (history V w)) same

-- the number of keys that the books know is that of the history
pub keys_now : (V : ℕ) (books : Books) (self seat : WriterRecord) (n : ℕ) → seat ≡ self → IsRested V books seat → n ≡ key_count (state_of V (shape_of books.checked) seat.acts).history → n ≡ key_count (history V self)
unfolding history
keys_now V books self seat n same rested e =
    e ∙ ap (λ (sh : Shape). key_count (state_of V sh seat.acts).history) (shape_is V seat.of books seat refl rested) ∙ ap (λ (w : WriterRecord). key_count (history V w)) same

-- the moment that the words hold, which a reader finds where it meets the writer
pub moment_met : (V : ℕ) (o cells : Opening) (books : Books) (self seat : WriterRecord) (n : ℕ) → cells ≡ o → seat ≡ self → self.of ≡ o → IsRested V books seat → n ≡ moment (state_of V cells.layout.shape seat.acts).words → n ≡ length (state_of V o.layout.shape self.acts).history
moment_met V o cells books self seat n here same of rested e =
    let at : seat.of ≡ o = ap (λ (w : WriterRecord). w.of) same ∙ of in
    e ∙ ap (λ (x : Opening). moment (state_of V x.layout.shape seat.acts).words) here ∙ (agrees_now V o books seat at rested).at_moment ∙ ap (λ (w : WriterRecord). length (state_of V o.layout.shape w.acts).history) same

pub moment_in : (V : ℕ) (o : Opening) (self : WriterRecord) (n : ℕ) → self.of ≡ o → n ≡ length (state_of V o.layout.shape self.acts).history → n ≡ length (history V self)
unfolding history
moment_in V o self n of e = e ∙ ap (λ (x : Opening). length (state_of V x.layout.shape self.acts).history) (sym of)

-- ---- a writer between two calls
pub rests_now : (V : ℕ) (books : Books) (self seat : WriterRecord) → seat ≡ self → IsRested V books seat → IsAtRest V self
rests_now V books self seat same rested =
    let sh : shape_of books.checked ≡ seat.of.layout.shape = shape_is V seat.of books seat refl rested in
    subst (IsAtRest V) same (record {
      quiet = subst (λ (z : Shape). (state_of V z seat.acts).phase ≡ QuietPhase) sh rested.known.quiet.quiet;
      agrees = agrees_now V seat.of books seat refl rested;
    })

pub legal_now : (V : ℕ) (books : Books) (self seat : WriterRecord) → seat ≡ self → IsRested V books seat → IsRun seat.of.layout seat.acts → IsLegal self.of.layout.shape.items (history V self)
unfolding history
legal_now V books self seat same rested run =
    let sh = seat.of.layout.shape in
    let wide : seat.of.layout.width ≡ V = ap (λ (l : Layout). l.width) rested.layout in
    let lawful : IsLawful V sh seat.acts = subst (λ (w : ℕ). IsLawful w sh seat.acts) wide run.lawful in
    subst (λ (w : WriterRecord). IsLegal w.of.layout.shape.items (history V w)) same
    (subst (λ (s : State V). IsLegal sh.items s.history) (front_all V sh seat.acts (length seat.acts) (omega arith)) (agrees_always V sh seat.acts (length seat.acts) run.shape lawful).1)

-- a new cache has no history, and no reader has seen any
pub history_new : (V : ℕ) (o : Opening) (w : WriterRecord) → w.of ≡ o → w.acts ≡ [] → history V w ≡ []
unfolding opening
history_new V o w of e = history_is V o w of ∙ (ap (λ (xs : List Made). (state_of V o.layout.shape xs).history) e ∙ ap (λ (s : State V). s.history) (state_none V o.layout.shape))

pub seen_new : (V : ℕ) (o : Opening) (r : ReaderRecord) → r.of ≡ o → r.front ≡ [] → seen V r ≡ []
unfolding opening
seen_new V o r of e = seen_is V o r of ∙ (ap (λ (xs : List Made). (state_of V o.layout.shape xs).history) e ∙ ap (λ (s : State V). s.history) (state_none V o.layout.shape))

pub new_sees_none : (V : ℕ) (o : Opening) (rs : List ReaderRecord) → All (IsNewReader o) rs → All (λ (r : ReaderRecord). seen V r ≡ []) rs
new_sees_none V o rs all = All-weaker (IsNewReader o) (λ (r : ReaderRecord). seen V r ≡ []) (λ r new. seen_new V o r new.of new.front) rs all

-- ---- the calls of a reader
-- one list of acts begins another, and so do their histories
front_begins : (V : ℕ) (sh : Shape) (front acts : List Made) → IsFrontOf front acts → Begins (state_of V sh front).history (state_of V sh acts).history
front_begins V sh front acts b =
    let grown = history_all sh (state_of V sh front) b.0 in
    (grown.0, history_grown V sh front acts b.0 b.1 ∙ grown.1)

pub answered : (V : ℕ) (o cells : Opening) (self seat after : ReaderRecord) (k : ℕ) (reply : Reply V) → cells ≡ o → seat ≡ self → self.of ≡ o → after.of ≡ seat.of → IsFrontOf seat.front after.front → IsTrueAnswer (state_of V cells.layout.shape after.front).history k reply
    → IsBetween (length (state_of V cells.layout.shape seat.front).history) (length (state_of V cells.layout.shape after.front).history) reply → HasAnswered V (seen V self) (seen V after) k reply
answered V o cells self seat after k reply table same of of' b true between =
    let at : seat.of ≡ cells = ap (λ (r : ReaderRecord). r.of) same ∙ (of ∙ sym table) in
    let was : (state_of V cells.layout.shape seat.front).history ≡ seen V self = sym (seen_is V cells seat at) ∙ ap (seen V) same in
    let is : (state_of V cells.layout.shape after.front).history ≡ seen V after = sym (seen_is V cells after (of' ∙ at)) in
    record {
      begins = subst (λ (p : List (Change V) × List (Change V)). Begins p.0 p.1) (λ i. (was i, is i)) (front_begins V cells.layout.shape seat.front after.front b);
      true = subst (λ (h : List (Change V)). IsTrueAnswer h k reply) is true;
      between = subst (λ (p : List (Change V) × List (Change V)). IsBetween (length p.0) (length p.1) reply) (λ i. (was i, is i)) between;
    }

pub many_answered : (V : ℕ) (o cells : Opening) (self seat after : ReaderRecord) (ks : List ℕ) (replies : List (Reply V)) → cells ≡ o → seat ≡ self → self.of ≡ o → after.of ≡ seat.of → HaveLooked V cells.layout.shape ks seat after replies
    → AreTrueAnswers (state_of V cells.layout.shape after.front).history (length (state_of V cells.layout.shape seat.front).history) (length (state_of V cells.layout.shape after.front).history) ks replies
    → Begins (seen V self) (seen V after) × AreTrueAnswers (seen V after) (length (seen V self)) (length (seen V after)) ks replies
many_answered V o cells self seat after ks replies table same of of' looked true =
    let at : seat.of ≡ cells = ap (λ (r : ReaderRecord). r.of) same ∙ (of ∙ sym table) in
    let was : (state_of V cells.layout.shape seat.front).history ≡ seen V self = sym (seen_is V cells seat at) ∙ ap (seen V) same in
    let is : (state_of V cells.layout.shape after.front).history ≡ seen V after = sym (seen_is V cells after (of' ∙ at)) in (
      subst (λ (p : List (Change V) × List (Change V)). Begins p.0 p.1) (λ i. (was i, is i)) (front_begins V cells.layout.shape seat.front after.front (grown V cells.layout.shape ks seat after replies looked).begins),
      subst (λ (p : List (Change V) × List (Change V)). AreTrueAnswers p.1 (length p.0) (length p.1) ks replies) (λ i. (was i, is i)) true,
    )

pub met : (V : ℕ) (o : Opening) (self seat after : ReaderRecord) (writer beside : WriterRecord) → seat ≡ self → beside ≡ writer → self.of ≡ o → writer.of ≡ o → after.of ≡ seat.of → after.front ≡ beside.acts → IsFrontOf seat.front beside.acts
    → HasMet V (seen V self) (seen V after) (history V writer)
met V o self seat after writer beside same same' of of' kept front b =
    let at : seat.of ≡ o = ap (λ (r : ReaderRecord). r.of) same ∙ of in
    let acts : beside.acts ≡ writer.acts = ap (λ (w : WriterRecord). w.acts) same' in
    let was : (state_of V o.layout.shape seat.front).history ≡ seen V self = sym (seen_is V o seat at) ∙ ap (seen V) same in
    let all : (state_of V o.layout.shape beside.acts).history ≡ history V writer = ap (λ (xs : List Made). (state_of V o.layout.shape xs).history) acts ∙ sym (history_is V o writer of') in
    record {
      begins = subst (λ (p : List (Change V) × List (Change V)). Begins p.0 p.1) (λ i. (was i, all i)) (front_begins V o.layout.shape seat.front beside.acts b);
      now = seen_is V o after (kept ∙ at) ∙ (ap (λ (xs : List Made). (state_of V o.layout.shape xs).history) front ∙ all);
    }

-- what is read or marked besides changes nothing of what was seen
seen_same : (V : ℕ) (r t : ReaderRecord) → r.of ≡ t.of → r.front ≡ t.front → seen V r ≡ seen V t
unfolding seen
seen_same V r t of front = λ i. (state_of V (of i).layout.shape (front i)).history

pub met_still : (V : ℕ) (h all : List (Change V)) (r t : ReaderRecord) → HasMet V h (seen V t) all → r.of ≡ t.of → r.front ≡ t.front → HasMet V h (seen V r) all
met_still V h all r t m of front = record { begins = m.begins; now = seen_same V r t of front ∙ m.now }
