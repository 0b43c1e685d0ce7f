-- When a call may fail, from what its answer means.
use Rattle.std.proofs.Common.{ℕ, ◌≡◌, ◌+◌, ◌*◌, ◌<◌, ◌∙◌, List, Result, Ok, Err, ap, arith, refl, subst, sym}
use Rattle.mc_words.specs.Answers.{Quiet}
use Rattle.mc_words.specs.History.{key_count, map_value}
use Rattle.mc_words.specs.declared.history.Change.{Change}
use Rattle.mc_words.specs.declared.shape.Shape.{Shape}
use Rattle.mc_theory.proofs.Lists.Fronts.{state_append}
use Rattle.mc_theory.specs.Lists.{after_all, state_of}
use Rattle.mc_theory.specs.Phases.{close_owed, moment_owed}
use Rattle.mc_theory.specs.States.{State}
use Rattle.mc_plan.specs.Calls.{IfAnswers, PutAnswers, RemoveAnswers}
use Rattle.mc_plan.specs.Making.{IsQuiet}
use Rattle.mc_plan.specs.WholeCalls.{Call, PutCall, PutIfCall, RemoveCall, quiet_of}
use Rattle.mc_plan.specs.declared.answer.Answer.{Answer}
use Rattle.mc_plan.specs.declared.answer.Answer.TheVariants as answer
use Rattle.mc_plan.specs.declared.answer.AbsentError.{AbsentError}
use Rattle.mc_plan.specs.declared.answer.AbsentError.TheVariants as absent
use Rattle.mc_plan.specs.declared.answer.EvictError.{EvictError}
use Rattle.mc_plan.specs.declared.answer.EvictError.TheVariants as evict
use Rattle.mc_plan.specs.declared.answer.IfError.{IfError}
use Rattle.mc_plan.specs.declared.answer.IfError.TheVariants as why
use Rattle.mc_plan.specs.declared.answer.Put.{Put}
use Rattle.mc_plan.specs.declared.answer.PutError.{PutError}
use Rattle.mc_plan.specs.declared.answer.PutError.TheVariants.{NoPath, AllRecent, Spent}
use Rattle.mc_plan.specs.declared.answer.Remove.{Remove}
use Rattle.mc_plan.specs.declared.answer.Spent.{Spent as RemoveSpent}
use Rattle.mc_shared.specs.Records.{Opening, ReaderRecord, WriterRecord}
use Rattle.mc_plan.specs.declared.books.Books.{Books}
use Rattle.mc_writer.specs.Evictions.{HasTriedToEvict}
use Rattle.mc_writer.specs.WriterCalls.{HasCalled, HasPutIfAbsent, IsRested}
use Rattle.mc_writer.specs.declared.entry.Evict.{Evict}
use Rattle.mc_writer.proofs.Rests.{shape_is}
use Rattle.mc_cache.specs.Failing.{EvictFails, IsSpent, PutFails, PutIfAbsentFails, PutIfFails, RemovalFails, TurnFails, version_changes, versions_seen}
use Rattle.mc_cache.specs.Inside.Turned.{HasEnded, turned}
use Rattle.mc_cache.specs.Plain.{history, seen}
use Rattle.mc_cache.specs.declared.desk.DeskError.{DeskError}
use Rattle.mc_cache.proofs.PlainCalls.{evict_same}

-- ---- answers, at the state after the call
-- in a quiet state each change of the history has taken two version changes
spent_now : (V : ℕ) (sh : Shape) (s t : State V) (more : ℕ) → IsQuiet V sh t → quiet_of t ≡ quiet_of s → sh.limit < s.version_steps + more → IsSpent sh t.history t.version_steps more
spent_now V sh s t more q same over = (
  omega (arith, q.counted.moments, ap moment_owed q.quiet, ap close_owed q.quiet),
  omega (arith, over, ap (λ (x : Quiet V). x.version_steps) same),
)

put_answer_fails : (V : ℕ) (sh : Shape) (s t : State V) (k : ℕ) (v : List ℕ) (told : Result Put PutError) → IsQuiet V sh t → PutAnswers sh (quiet_of s) k v told (quiet_of t) → PutFails sh t.history t.version_steps k told
put_answer_fails V sh s t k v (Ok done) q a = tt
put_answer_fails V sh s t k v (Err NoPath) q a = ap (λ (x : Quiet V). map_value x.history k) a.unchanged ∙ a.absent
put_answer_fails V sh s t k v (Err AllRecent) q a = (
  ap (λ (x : Quiet V). map_value x.history k) a.unchanged ∙ a.needs.absent,
  ap (λ (x : Quiet V). key_count x.history) a.unchanged ∙ a.needs.full,
)
put_answer_fails V sh s t k v (Err Spent) q a = spent_now V sh s t (2 * (sh.depth + 2)) q a.1 a.0

if_answer_fails : (V : ℕ) (sh : Shape) (s t : State V) (k since : ℕ) (v : List ℕ) (told : Result ℕ IfError) → IsQuiet V sh t → IfAnswers sh (quiet_of s) k since v told (quiet_of t) → PutIfFails sh t.history t.version_steps told
if_answer_fails V sh s t k since v (Ok at) q a = tt
if_answer_fails V sh s t k since v (Err why.Spent) q a = spent_now V sh s t 2 q a.1 a.0
if_answer_fails V sh s t k since v (Err (why.NotThere at)) q a = tt
if_answer_fails V sh s t k since v (Err (why.Changed stands)) q a = tt

removal_answer_fails : (V : ℕ) (sh : Shape) (s t : State V) (k : ℕ) (told : Result Remove RemoveSpent) → IsQuiet V sh t → RemoveAnswers sh (quiet_of s) k told (quiet_of t) → RemovalFails sh t.history t.version_steps told
removal_answer_fails V sh s t k (Ok done) q a = tt
removal_answer_fails V sh s t k (Err spent) q a = spent_now V sh s t 2 q a.1 a.0

evict_answer_fails : (V : ℕ) (sh : Shape) (before after : WriterRecord) (told : Result (Evict V) EvictError) → IsQuiet V sh (state_of V sh before.acts) → HasTriedToEvict V sh before after told
    → EvictFails sh (state_of V sh after.acts).history (state_of V sh after.acts).version_steps told
evict_answer_fails V sh before after (Ok done) q h = tt
evict_answer_fails V sh before after (Err evict.AllRecent) q h = subst (λ (x : List (Change V)). 0 < key_count x) (sym h.history) h.some
evict_answer_fails V sh before after (Err evict.Spent) q h =
    let s = state_of V sh before.acts in
    subst (λ (w : WriterRecord). IsSpent sh (state_of V sh w.acts).history (state_of V sh w.acts).version_steps 2) (sym h.1) (spent_now V sh s s 2 q refl h.0)

-- ---- the calls of the writer. Each is made on a seat, which is what callers see of the writer
module _ (V : ℕ) (o cells : Opening) (self seat after : WriterRecord) (table : cells ≡ o) (same : seat ≡ self) (of : self.of ≡ o) where
  -- what is so of the state after the call is so of the record's
  of_record : (Fails : Shape → State V → Type 0) (call : Call) (told : Answer) (h : HasCalled V cells.layout.shape call seat after told)
      → Fails cells.layout.shape (after_all cells.layout.shape (state_of V cells.layout.shape seat.acts) h.made) → Fails o.layout.shape (state_of V after.of.layout.shape after.acts)
  of_record Fails call told h is =
      let sh = cells.layout.shape in
      let here : after.of ≡ cells = h.of ∙ (ap (λ (w : WriterRecord). w.of) same ∙ (of ∙ sym table)) in
      let all : state_of V after.of.layout.shape after.acts ≡ after_all sh (state_of V sh seat.acts) h.made =
      ap (λ (p : Opening). state_of V p.layout.shape after.acts) here ∙ (ap (state_of V sh) h.acts ∙ state_append V sh seat.acts h.made) in
      subst (λ (p : Opening). Fails p.layout.shape (state_of V after.of.layout.shape after.acts)) table (subst (Fails sh) (sym all) is)

  pub put_fails : (k : ℕ) (v : List ℕ) (told : Result Put PutError) → HasCalled V cells.layout.shape (PutCall k v) seat after (answer.Put told) → PutFails o.layout.shape (history V after) (version_changes V after) k told
  unfolding history version_changes
  put_fails k v told h =
      of_record (λ (sh : Shape) (s : State V). PutFails sh s.history s.version_steps k told) (PutCall k v) (answer.Put told) h (put_answer_fails V cells.layout.shape (state_of V cells.layout.shape seat.acts) (after_all cells.layout.shape (state_of V cells.layout.shape seat.acts) h.made) k v told h.answered.quiet h.answered.means)

  pub put_if_fails : (k since : ℕ) (v : List ℕ) (told : Result ℕ IfError) → HasCalled V cells.layout.shape (PutIfCall k since v) seat after (answer.PutIf told) → PutIfFails o.layout.shape (history V after) (version_changes V after) told
  unfolding history version_changes
  put_if_fails k since v told h =
      of_record (λ (sh : Shape) (s : State V). PutIfFails sh s.history s.version_steps told) (PutIfCall k since v) (answer.PutIf told) h (if_answer_fails V cells.layout.shape (state_of V cells.layout.shape seat.acts) (after_all cells.layout.shape (state_of V cells.layout.shape seat.acts) h.made) k since v told h.answered.quiet h.answered.means)

  pub put_if_absent_fails : (k : ℕ) (v : List ℕ) (told : Result Put AbsentError) → HasPutIfAbsent V cells.layout.shape k v seat after told → PutIfAbsentFails o.layout.shape (history V after) (version_changes V after) k told
  put_if_absent_fails k v (Ok told) h = tt
  put_if_absent_fails k v (Err (absent.Put refused)) h = put_fails k v (Err refused) h.called
  put_if_absent_fails k v (Err (absent.Present since)) h = tt

  pub removal_fails : (k : ℕ) (told : Result Remove RemoveSpent) → HasCalled V cells.layout.shape (RemoveCall k) seat after (answer.Remove told) → RemovalFails o.layout.shape (history V after) (version_changes V after) told
  unfolding history version_changes
  removal_fails k told h =
      of_record (λ (sh : Shape) (s : State V). RemovalFails sh s.history s.version_steps told) (RemoveCall k) (answer.Remove told) h (removal_answer_fails V cells.layout.shape (state_of V cells.layout.shape seat.acts) (after_all cells.layout.shape (state_of V cells.layout.shape seat.acts) h.made) k told h.answered.quiet h.answered.means)

  pub evict_fails : (books : Books) (told : Result (Evict V) EvictError) → IsRested V books seat → HasTriedToEvict V cells.layout.shape seat after told → EvictFails o.layout.shape (history V after) (version_changes V after) told
  unfolding history version_changes
  evict_fails books told rested h =
      let seated : seat.of ≡ cells = ap (λ (w : WriterRecord). w.of) same ∙ (of ∙ sym table) in
      let here : after.of ≡ o = evict_same V cells.layout.shape seat after told h ∙ (seated ∙ table) in
      let quiet = subst (λ (sh : Shape). IsQuiet V sh (state_of V sh seat.acts)) (shape_is V cells books seat seated rested) rested.known.quiet in
      let P : Shape → Shape → Type 0 = λ sh x. EvictFails sh (state_of V x after.acts).history (state_of V x after.acts).version_steps told in
      subst (λ (p : Opening). P o.layout.shape p.layout.shape) (sym here) (subst (λ (p : Opening). P p.layout.shape p.layout.shape) table (evict_answer_fails V cells.layout.shape seat after told quiet h))

-- ---- turns: the pass has seen all that the writer has done
met_all : (V : ℕ) (o : Opening) (mid new : ReaderRecord) (w : WriterRecord) → mid.of ≡ o → w.of ≡ o → HasEnded V o.layout.shape mid new w → (seen V new ≡ history V w) × (versions_seen V new ≡ version_changes V w)
unfolding history seen version_changes versions_seen
met_all V o mid new w of with_it e =
    let same : state_of V new.of.layout.shape new.front ≡ state_of V w.of.layout.shape w.acts =
    ap (λ (r : ReaderRecord). state_of V r.of.layout.shape r.front) e.caught ∙ ap (λ (p : Opening). state_of V p.layout.shape w.acts) (of ∙ sym with_it) in
    (ap (λ (s : State V). s.history) same, ap (λ (s : State V). s.version_steps) same)

turn_fails_as : {T E : Type 0} (Fails : Result T E → Type 0) (r : Result T E) → Fails r → TurnFails Fails (turned r)
turn_fails_as Fails (Ok done) is = tt
turn_fails_as Fails (Err why) is = is

-- what is so of the writer's history after the call is so of what the pass has seen after the turn
pub turn_fails : {T E : Type 0} (V : ℕ) (Fails : List (Change V) → ℕ → Result T E → Type 0) (o : Opening) (mid new : ReaderRecord) (w : WriterRecord) (r : Result T E) (result : Result T (DeskError E))
    → mid.of ≡ o → w.of ≡ o → HasEnded V o.layout.shape mid new w → Fails (history V w) (version_changes V w) r → result ≡ turned r → TurnFails (Fails (seen V new) (versions_seen V new)) result
turn_fails V Fails o mid new w r result of with_it e is same =
    let met = met_all V o mid new w of with_it e in
    subst (TurnFails (Fails (seen V new) (versions_seen V new))) (sym same)
    (turn_fails_as (Fails (seen V new) (versions_seen V new)) r (subst (λ (h : List (Change V)). Fails h (versions_seen V new) r) (sym met.0) (subst (λ (n : ℕ). Fails (history V w) n r) (sym met.1) is)))
