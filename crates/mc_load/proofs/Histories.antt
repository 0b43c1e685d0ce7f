-- The history of the writer's acts, and what the answers say of it.
use Rattle.std.proofs.Common.{ℕ, ◌≡◌, ◌+◌, ◌*◌, ◌%◌, add-one, eq-eqb, false, below_more, List, [], ◌∷◌, ◌++◌, length, get_or, Some, None, Ok, Err, Result, refl, ap, sym, subst, ◌∙◌, arith}
use Rattle.std.specs.Prelude.{replicate}
use Rattle.std.proofs.Math.Dec.{eqb}
use Rattle.std.proofs.lemmas.Bool.Decides.{nat_tests}
use Rattle.std.proofs.Math.Seq.{get_or-append_seam}
use Rattle.std.proofs.lemmas.List.{append_assoc, append-nil, get_or_append_left, length-append, take-append-le}
use Rattle.mc_words.specs.History.{IsTrueAnswer, map_value}
use Rattle.mc_words.specs.declared.history.Change.{Change}
use Rattle.mc_words.specs.declared.history.Reply.{Reply}
use Rattle.mc_words.specs.declared.history.Reply.TheVariants.{Found, Absent, Busy}
use Rattle.mc_words.specs.declared.shape.Shape.{Shape}
use Rattle.mc_theory.specs.Lists.{AreAllowed, IsLawful, Made, after_all, state_of}
use Rattle.mc_theory.specs.States.{State, opening}
use Rattle.mc_theory.proofs.Lists.Fronts.{lawful_push, state_append, state_none, state_push}
use Rattle.mc_theory.proofs.Lists.Histories.{history_all}
use Rattle.mc_plan.specs.Calls.{PutAnswers, RemoveAnswers}
use Rattle.mc_plan.specs.WholeCalls.{PutCall, RemoveCall, quiet_of}
use Rattle.mc_plan.specs.declared.answer.Answer.{Answer}
use Rattle.mc_plan.specs.declared.answer.Answer.TheVariants as answer
use Rattle.mc_plan.specs.declared.answer.Put.{Put}
use Rattle.mc_plan.specs.declared.answer.Put.TheVariants.{Stored, Renewed}
use Rattle.mc_plan.specs.declared.answer.PutError.{PutError}
use Rattle.mc_plan.specs.declared.answer.PutError.TheVariants as why
use Rattle.mc_plan.specs.declared.answer.Remove.{Remove}
use Rattle.mc_plan.specs.declared.answer.Remove.TheVariants.{Removed, NotThere}
use Rattle.mc_plan.specs.declared.answer.Spent.{Spent}
use Rattle.mc_shared.specs.Records.{WriterRecord}
use Rattle.mc_shared.specs.Views.{IsFrontOf}
use Rattle.mc_writer.specs.WriterCalls.{HasCalled}
use Rattle.mc_check.specs.declared.record.Record.{Record}
use Rattle.mc_load.specs.Inside.Journals.{put_changes, remove_changes}
use Rattle.mc_load.specs.Draws.{call_drawn, drawn_call, drawn_key, drawn_word}
use Rattle.mc_load.specs.Loads.{AreDrawn, AreTrue, HasMade}
use Rattle.mc_load.specs.declared.asked.Load.{Load}

-- ---- the writer
opening_history : (V : ℕ) (sh : Shape) → (opening V sh).history ≡ []
unfolding opening
opening_history V sh = refl

pub history_none : (V : ℕ) (sh : Shape) (acts : List Made) → acts ≡ [] → (state_of V sh acts).history ≡ []
history_none V sh acts none = ap (λ (z : List Made). (state_of V sh z).history) none ∙ (ap (λ (s : State V). s.history) (state_none V sh) ∙ opening_history V sh)

pub lawful_append : (V : ℕ) (sh : Shape) (acts made : List Made) → IsLawful V sh acts → AreAllowed sh (state_of V sh acts) made → IsLawful V sh (acts ++ made)
lawful_append V sh acts [] l a = subst (IsLawful V sh) (sym (append-nil acts)) l
lawful_append V sh acts (m ∷ ms) l a =
    subst (IsLawful V sh) (append_assoc acts (m ∷ []) ms)
    (lawful_append V sh (acts ++ m ∷ []) ms (lawful_push V sh acts m l a.0) (subst (λ (s : State V). AreAllowed sh s ms) (sym (state_push V sh acts m)) a.1))

put_history : (V : ℕ) (sh : Shape) (s t : State V) (k : ℕ) (v : List ℕ) (told : Result Put PutError) → PutAnswers sh (quiet_of s) k v told (quiet_of t) → t.history ≡ s.history ++ put_changes k v told
put_history V sh s t k v (Ok (Stored at moves None)) a = a.grows.history
put_history V sh s t k v (Ok (Stored at moves (Some other))) a = a.grows.history
put_history V sh s t k v (Ok (Renewed at)) a = a.grows.history
put_history V sh s t k v (Err why.NoPath) a = ap (λ q. q.history) a.unchanged ∙ sym (append-nil s.history)
put_history V sh s t k v (Err why.AllRecent) a = ap (λ q. q.history) a.unchanged ∙ sym (append-nil s.history)
put_history V sh s t k v (Err why.Spent) a = ap (λ q. q.history) a.1 ∙ sym (append-nil s.history)

remove_history : (V : ℕ) (sh : Shape) (s t : State V) (k : ℕ) (told : Result Remove Spent) → RemoveAnswers sh (quiet_of s) k told (quiet_of t) → t.history ≡ s.history ++ remove_changes k told
remove_history V sh s t k (Ok (Removed at)) a = a.grows.history
remove_history V sh s t k (Ok (NotThere at)) a = ap (λ q. q.history) a.unchanged ∙ sym (append-nil s.history)
remove_history V sh s t k (Err spent) a = ap (λ q. q.history) a.1 ∙ sym (append-nil s.history)

-- what a call changed of the history is what its answer says
pub put_told : (V : ℕ) (sh : Shape) (before after : WriterRecord) (k : ℕ) (v : List ℕ) (told : Result Put PutError) → IsLawful V sh before.acts → HasCalled V sh (PutCall k v) before after (answer.Put told)
    → IsLawful V sh after.acts × ((state_of V sh after.acts).history ≡ (state_of V sh before.acts).history ++ put_changes k v told)
put_told V sh before after k v told lawful h = (
  subst (IsLawful V sh) (sym h.acts) (lawful_append V sh before.acts h.made lawful h.answered.allowed),
  ap (λ (z : List Made). (state_of V sh z).history) h.acts ∙ (ap (λ (s : State V). s.history) (state_append V sh before.acts h.made)
      ∙ put_history V sh (state_of V sh before.acts) (after_all sh (state_of V sh before.acts) h.made) k v told h.answered.means),
)

pub remove_told : (V : ℕ) (sh : Shape) (before after : WriterRecord) (k : ℕ) (told : Result Remove Spent) → IsLawful V sh before.acts → HasCalled V sh (RemoveCall k) before after (answer.Remove told)
    → IsLawful V sh after.acts × ((state_of V sh after.acts).history ≡ (state_of V sh before.acts).history ++ remove_changes k told)
remove_told V sh before after k told lawful h = (
  subst (IsLawful V sh) (sym h.acts) (lawful_append V sh before.acts h.made lawful h.answered.allowed),
  ap (λ (z : List Made). (state_of V sh z).history) h.acts ∙ (ap (λ (s : State V). s.history) (state_append V sh before.acts h.made)
      ∙ remove_history V sh (state_of V sh before.acts) (after_all sh (state_of V sh before.acts) h.made) k told h.answered.means),
)

-- ---- the calls that were drawn
pub made_none : (V : ℕ) (load : Load) (w : WriterRecord) → w.acts ≡ [] → HasMade V load 0 w
unfolding HasMade
made_none V load w none = none

pub made_more : (V : ℕ) (load : Load) (n : ℕ) (before after : WriterRecord) (told : Answer) → HasMade V load n before → HasCalled V load.shape (drawn_call V load n) before after told → HasMade V load (n + 1) after
unfolding HasMade
made_more V load n before after told made called = rw add-one (before, told, made, called)

not_eqb : (a b : ℕ) → (a ≡ b → ⊥) → eqb a b ≡ false
not_eqb a b h = grind (arith, nat_tests)

-- a word draws a removal
pub removal_drawn : (V : ℕ) (load : Load) (who n word : ℕ) → drawn_word load who (2 * n + 1) % 8 ≡ 0 → call_drawn V load who n word ≡ RemoveCall (drawn_key load who (2 * n))
unfolding call_drawn
removal_drawn V load who n word h = rw (eq-eqb (drawn_word load who (2 * n + 1) % 8) 0 h) refl

-- and any other a put
pub put_drawn : (V : ℕ) (load : Load) (who n word : ℕ) → (drawn_word load who (2 * n + 1) % 8 ≡ 0 → ⊥) → call_drawn V load who n word ≡ PutCall (drawn_key load who (2 * n)) (replicate V word)
unfolding call_drawn
put_drawn V load who n word h = rw (not_eqb (drawn_word load who (2 * n + 1) % 8) 0 h) refl

-- ---- the readers
-- an answer stays true as the history grows
still_true : {V : ℕ} (h more : List (Change V)) (k : ℕ) (reply : Reply V) → IsTrueAnswer h k reply → IsTrueAnswer (h ++ more) k reply
still_true h more k (Found v at since) t = (omega (arith, t.0, length-append h more), ap (λ z. map_value z k) (take-append-le at h more t.0) ∙ t.1)
still_true h more k (Absent at) t = (omega (arith, t.0, length-append h more), ap (λ z. map_value z k) (take-append-le at h more t.0) ∙ t.1)
still_true h more k Busy t = t

pub true_later : (V : ℕ) (sh : Shape) (front acts : List Made) (k : ℕ) (reply : Reply V) → IsFrontOf front acts → IsTrueAnswer (state_of V sh front).history k reply → IsTrueAnswer (state_of V sh acts).history k reply
true_later V sh front acts k reply begins t =
    let grown = history_all sh (state_of V sh front) begins.0 in
    subst (λ h. IsTrueAnswer h k reply) (sym (ap (λ (z : List Made). (state_of V sh z).history) begins.1 ∙ (ap (λ (s : State V). s.history) (state_append V sh front begins.0) ∙ grown.1)))
    (still_true (state_of V sh front).history grown.0 k reply t)

pub told_later : (V : ℕ) (sh : Shape) (front acts : List Made) (records : List (Record V)) → IsFrontOf front acts → AreTrue (state_of V sh front).history records → AreTrue (state_of V sh acts).history records
told_later V sh front acts records begins all = λ n d low. true_later V sh front acts (get_or records n d).key (get_or records n d).reply begins (all n d low)

-- a key more was drawn
pub drawn_more : {V : ℕ} (load : Load) (r : ℕ) (records : List (Record V)) (x : Record V) → AreDrawn load r records → x.key ≡ drawn_key load (r + 1) (length records) → AreDrawn load r (records ++ x ∷ [])
drawn_more {V} load r records x all one = λ n d low.
    below_more (λ (k : ℕ). (e : Record V) → (get_or (records ++ x ∷ []) k e).key ≡ drawn_key load (r + 1) k) (length records)
    (λ k under e. ap (λ (y : Record V). y.key) (get_or_append_left records (x ∷ []) e k under) ∙ all k e under)
    (λ e. ap (λ (y : Record V). y.key) (get_or-append_seam records x [] e) ∙ one)
    n (omega (arith, low, length-append records (x ∷ []))) d
