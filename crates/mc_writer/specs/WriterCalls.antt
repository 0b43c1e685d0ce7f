-- What a call of the writer makes of its seat and of its books.
use Rattle.std.specs.Prelude.{◌≡◌, ℕ, List, [], ◌∷◌, ◌++◌, length, Some, None, Result, Ok, Err}
use Rattle.mc_words.specs.declared.shape.Shape.{Shape}
use Rattle.mc_words.specs.Checks.{shape_of}
use Rattle.mc_words.specs.History.{map_value}
use Rattle.mc_words.specs.Standing.{Stands}
use Rattle.mc_words.specs.declared.history.Reply.{Reply}
use Rattle.mc_words.specs.declared.history.Reply.TheVariants.{Found, Absent, Busy}
use Rattle.mc_theory.specs.Lists.{Made, state_of}
use Rattle.mc_theory.specs.States.{State}
use Rattle.mc_theory.specs.declared.act.Act.TheVariants.{Mark}
use Rattle.mc_plan.specs.WholeCalls.{AnsweredBy, Call, PutCall}
use Rattle.mc_plan.specs.Books.{AreBooksOf}
use Rattle.mc_plan.specs.declared.answer.AbsentError.{AbsentError}
use Rattle.mc_plan.specs.declared.answer.AbsentError.TheVariants as absent
use Rattle.mc_plan.specs.declared.answer.Answer.{Answer}
use Rattle.mc_plan.specs.declared.answer.Answer.TheVariants as answer
use Rattle.mc_plan.specs.declared.answer.Put.{Put}
use Rattle.mc_plan.specs.declared.books.Books.{Books}
use Rattle.mc_shared.specs.Records.{WriterRecord, NotesGrow}
use Rattle.mc_shared.specs.Views.{layout_of, with_bit}

-- a whole call was made on the seat, by the policy of its table, and this is its true answer. The notes beside earlier acts are as they were
pub record HasCalled (V : ℕ) (sh : Shape) (call : Call) (before after : WriterRecord) (told : Answer) : Type 0 where
  pub made : List Made
  pub of : after.of ≡ before.of
  pub acts : after.acts ≡ before.acts ++ made
  pub notes : NotesGrow before.notes after.notes
  pub answered : AnsweredBy V sh before.of.layout.policy call (state_of V sh before.acts) made told

-- between two calls the books are those of the state after the acts of the seat
pub record IsRested (V : ℕ) (books : Books) (seat : WriterRecord) : Type 0 where
  pub layout : seat.of.layout ≡ layout_of V books.checked
  pub known : AreBooksOf V books (state_of V (shape_of books.checked) seat.acts)

-- the reply is what the map holds of the key at the end of the history; what was done grew by a mark of the item of a hit, and a miss does nothing
abbrev pub RepliesNow : {A : Type 0} (V : ℕ) → Shape → ℕ → State V → (ℕ → A) → List A → List A → Reply V → Type 0
RepliesNow V sh k s mark done done' (Found v at since) =
    (map_value s.history k ≡ Some (v ++ since ∷ [])) × (at ≡ length s.history) × ((q : ℕ) × (i : ℕ) × Stands V sh s.words k q i × (done' ≡ done ++ mark i ∷ []))
RepliesNow V sh k s mark done done' (Absent at) = (map_value s.history k ≡ None) × (at ≡ length s.history) × (done' ≡ done)
RepliesNow V sh k s mark done done' Busy = ⊥

-- a key was looked up by the writer
pub record HasGot (V : ℕ) (sh : Shape) (k : ℕ) (before after : WriterRecord) (reply : Reply V) : Type 0 where
  pub of : after.of ≡ before.of
  pub notes : NotesGrow before.notes after.notes
  pub replies : RepliesNow V sh k (state_of V sh before.acts) (λ i. with_bit (Mark i) 0) before.acts after.acts reply

-- the map lacks the key, and a whole put of it was made, with this answer
pub record HasPutAbsent (V : ℕ) (sh : Shape) (k : ℕ) (v : List ℕ) (before after : WriterRecord) (told : Answer) : Type 0 where
  pub absent : map_value (state_of V sh before.acts).history k ≡ None
  pub called : HasCalled V sh (PutCall k v) before after told

-- the key was looked up and found, with this stamp
pub record HasFoundPresent (V : ℕ) (sh : Shape) (k : ℕ) (before after : WriterRecord) (since : ℕ) : Type 0 where
  pub value : List ℕ
  pub size : length value ≡ V
  pub at : ℕ
  pub got : HasGot V sh k before after (Found value at since)

-- a key was put if it was absent. One that was there was looked up
abbrev pub HasPutIfAbsent : (V : ℕ) → Shape → ℕ → List ℕ → WriterRecord → WriterRecord → Result Put AbsentError → Type 0
HasPutIfAbsent V sh k v before after (Ok put) = HasPutAbsent V sh k v before after (answer.Put (Ok put))
HasPutIfAbsent V sh k v before after (Err (absent.Put why)) = HasPutAbsent V sh k v before after (answer.Put (Err why))
HasPutIfAbsent V sh k v before after (Err (absent.Present since)) = HasFoundPresent V sh k before after since
