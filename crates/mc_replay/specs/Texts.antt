-- The lines that are written for answers.
use Rattle.std.specs.Prelude.{ℕ, List, [], ◌++◌, ◌∷◌, codes, length, slice_get, Option, Some, None, Ok, Err}
use Rattle.std.specs.Fmt.{decimal}
use Rattle.std.specs.List.{flat_map}
use Rattle.mc_words.specs.declared.history.Reply.{Reply}
use Rattle.mc_words.specs.declared.history.Reply.TheVariants.{Found, Absent, Busy}
use Rattle.mc_theory.specs.declared.event.Done.{Done}
use Rattle.mc_plan.specs.declared.answer.Answer.{Answer}
use Rattle.mc_plan.specs.declared.answer.Answer.TheVariants as answer
use Rattle.mc_plan.specs.declared.answer.Put.{Put}
use Rattle.mc_plan.specs.declared.answer.Put.TheVariants.{Stored, Renewed}
use Rattle.mc_plan.specs.declared.answer.PutError.TheVariants.{NoPath, AllRecent, Spent}
use Rattle.mc_plan.specs.declared.answer.IfError.TheVariants as condition
use Rattle.mc_plan.specs.declared.answer.Remove.TheVariants.{Removed, NotThere}
use Rattle.mc_plan.specs.declared.answer.Why.{Why}
use Rattle.mc_plan.specs.declared.answer.Why.TheVariants as left

-- the words of a value, a blank before each
abbrev pub words_text : List ℕ → List ℕ
words_text words = flat_map (λ word. 32 ∷ decimal word) words

abbrev pub put_text : Put → List ℕ
put_text (Stored at moves None) = codes "stored at " ++ decimal at ++ codes " moves " ++ decimal moves
put_text (Stored at moves (Some key)) = codes "stored at " ++ decimal at ++ codes " moves " ++ decimal moves ++ codes " evicted " ++ decimal key
put_text (Renewed at) = codes "renewed at " ++ decimal at

abbrev pub answer_text : Answer → List ℕ
answer_text (answer.Put (Ok put)) = put_text put
answer_text (answer.Put (Err NoPath)) = codes "refused no path"
answer_text (answer.Put (Err AllRecent)) = codes "refused all recent"
answer_text (answer.Put (Err Spent)) = codes "refused spent"
answer_text (answer.PutIf (Ok at)) = codes "renewed at " ++ decimal at
answer_text (answer.PutIf (Err condition.Spent)) = codes "refused spent"
answer_text (answer.PutIf (Err (condition.NotThere at))) = codes "not there at " ++ decimal at
answer_text (answer.PutIf (Err (condition.Changed since))) = codes "refused changed since " ++ decimal since
answer_text (answer.Remove (Ok (Removed at))) = codes "removed at " ++ decimal at
answer_text (answer.Remove (Ok (NotThere at))) = codes "not there at " ++ decimal at
answer_text (answer.Remove (Err spent)) = codes "refused spent"
answer_text (answer.Kept (Ok put)) = put_text put
answer_text (answer.Kept (Err left.NoPath)) = codes "refused no path"
answer_text (answer.Kept (Err left.NoItem)) = codes "refused no item"
answer_text (answer.Kept (Err left.Spent)) = codes "refused spent"

abbrev pub reply_text : {V : ℕ} → Reply V → List ℕ
reply_text (Found value at since) = codes "found" ++ words_text value ++ codes " at " ++ decimal at
reply_text (Absent at) = codes "absent at " ++ decimal at
reply_text Busy = codes "busy"

-- a reply with the moment of the key's last put
abbrev pub stamp_text : {V : ℕ} → Reply V → List ℕ
stamp_text {V} (Found value at since) = reply_text {V = V} (Found value at since) ++ codes " since " ++ decimal since
stamp_text {V} (Absent at) = reply_text {V = V} (Absent at)
stamp_text {V} Busy = reply_text {V = V} Busy

-- a reader's lookup that has ended
abbrev pub done_text : {V : ℕ} → Done V → List ℕ
done_text done = codes "reader " ++ decimal done.reader ++ codes " " ++ reply_text done.reply

-- a line has its end
abbrev pub line : List ℕ → List ℕ
line text = text ++ 10 ∷ []

abbrev pub answer_line : Answer → List ℕ
answer_line a = line (answer_text a)

abbrev pub reply_line : {V : ℕ} → Reply V → List ℕ
reply_line reply = line (reply_text reply)

abbrev pub stamp_line : {V : ℕ} → Reply V → List ℕ
stamp_line reply = line (stamp_text reply)

abbrev pub done_line : {V : ℕ} → Done V → List ℕ
done_line done = line (done_text done)

-- why an entry was left
abbrev pub why_text : Why → List ℕ
why_text left.NoPath = codes "no path"
why_text left.NoItem = codes "no item"
why_text left.Spent = codes "spent"

-- an entry of this key was left
abbrev pub left_text : ℕ → Why → List ℕ
left_text key why = codes "left " ++ decimal key ++ codes " " ++ why_text why

-- another world was opened: its moment, and how many entries were left
abbrev pub reopened_text : ℕ → ℕ → List ℕ
reopened_text at many = codes "reopened at " ++ decimal at ++ codes " left " ++ decimal many

abbrev pub left_line : Why → Option (ℕ × List ℕ) → List ℕ
left_line why None = []
left_line why (Some entry) = line (left_text entry.0 why)

-- a line for each entry that was left, named by its index
abbrev pub left_lines : List (ℕ × List ℕ) → List (ℕ × Why) → List ℕ
left_lines entries lefts = flat_map (λ l. left_line l.1 (slice_get entries l.0)) lefts

abbrev pub reopened_lines : ℕ → List (ℕ × List ℕ) → List (ℕ × Why) → List ℕ
reopened_lines at entries lefts = line (reopened_text at (length lefts)) ++ left_lines entries lefts
