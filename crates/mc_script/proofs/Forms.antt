-- What the parser reads, one word after the other, is what the forms say.
use Rattle.std.proofs.Common.{◌≡◌, ◌≢◌, ℕ, zero, suc, ◌+◌, ◌==◌, Bool, true, false, ◌&&◌, List, [], ◌∷◌, length, drop, map, replicate, slice_index, Some, None, Result, Ok, Err, cond, ◌⊎◌, inl, inr, codes, arith, refl, sym, ap, subst, ◌∙◌, ne_eqb}
use Rattle.std.specs.List.{list_all, find}
use Rattle.std.specs.Cmp.Lexicographic.{pointwise}
use Rattle.std.specs.Str.{bytes_eq, is_utf8}
use Rattle.std.specs.Str.Parse.{digits_value}
use Rattle.std.proofs.lemmas.Slice.Eq.{bytes_eq-Decides}
use Rattle.std.proofs.lemmas.Bool.{cases_eq}
use Rattle.mc_script.specs.declared.command.LineFault.{LineFault}
use Rattle.mc_script.specs.declared.command.LineFault.TheVariants.{NotACommand, BadNumber}
use Rattle.mc_script.specs.declared.command.Command.{Command}
use Rattle.mc_script.specs.declared.command.Command.TheVariants.{Put, PutIf, Remove, Get, Stamp, BeginPut, BeginPutIf, BeginRemove, Write, BeginGet, Read, Reopen}
use Rattle.mc_script.specs.Words.{words_of}
use Rattle.mc_script.specs.Numbers.{is_number}
use Rattle.mc_script.specs.Commands.{Fixed, Number, Steps, Form, form, first, second, may_stand, is_good, values, read_by, command_of, said, command_by, command_in}
use Rattle.mc_script.specs.Inside.Numbers.{numbers_in}
use Rattle.mc_script.specs.Inside.Commands.{command_from, otherwise, stepping, begin_put_in, begin_put_if_in, begin_remove_in, begin_get_in, begin_in, write_in, read_in, form_in}
use Rattle.mc_script.proofs.NumberLists.{other_count, same_count}

-- as many words as numbers may be read as them
numbers_fit : (n : ℕ) (words : List (List ℕ)) → length words ≡ n → pointwise may_stand (replicate n Number) words ≡ true
numbers_fit zero [] same = refl
numbers_fit zero (word ∷ words) same = absurd (omega (arith, same))
numbers_fit (suc n) [] same = absurd (omega (arith, same))
numbers_fit (suc n) (word ∷ words) same = numbers_fit n words (omega (arith, same))

-- fewer or more words may not
numbers_differ : (n : ℕ) (words : List (List ℕ)) → (length words ≡ n → ⊥) → pointwise may_stand (replicate n Number) words ≡ false
numbers_differ zero [] other = absurd (other refl)
numbers_differ zero (word ∷ words) other = refl
numbers_differ (suc n) [] other = refl
numbers_differ (suc n) (word ∷ words) other = numbers_differ n words (λ same. other (omega (arith, same)))

-- they are good if all are numbers
numbers_good : (n : ℕ) (words : List (List ℕ)) → length words ≡ n → pointwise is_good (replicate n Number) words ≡ list_all is_number words
numbers_good zero [] same = refl
numbers_good zero (word ∷ words) same = absurd (omega (arith, same))
numbers_good (suc n) [] same = absurd (omega (arith, same))
numbers_good (suc n) (word ∷ words) same = ap (λ t. is_number word && t) (numbers_good n words (omega (arith, same)))

-- and have the values of all
numbers_valued : (n : ℕ) (words : List (List ℕ)) → length words ≡ n → values (replicate n Number) words ≡ map (digits_value 10) words
numbers_valued zero [] same = refl
numbers_valued zero (word ∷ words) same = absurd (omega (arith, same))
numbers_valued (suc n) [] same = absurd (omega (arith, same))
numbers_valued (suc n) (word ∷ words) same = ap (λ ns. digits_value 10 word ∷ ns) (numbers_valued n words (omega (arith, same)))

-- what words say that may stand or not, and are good or not
abbrev told : {v : ℕ} → Bool → Bool → Command v → Result (Command v) LineFault
told fits good command = cond fits (cond good (Ok command) (Err BadNumber)) (Err NotACommand)

-- n numbers, by their count and then by their form
counted : {v : ℕ} (n : ℕ) (words : List (List ℕ)) (make : List ℕ → Command v)
    → command_from make (numbers_in n words) ≡ told (pointwise may_stand (replicate n Number) words) (pointwise is_good (replicate n Number) words) (make (values (replicate n Number) words))
counted {v = v} n words make = elim (cases_eq (length words) n) [
  | inl same ↦ by_form same (list_all is_number words) refl
  | inr other ↦
      ap (command_from make) (other_count n words other)
      ∙ sym (ap (λ t. told t (pointwise is_good (replicate n Number) words) (make (values (replicate n Number) words))) (numbers_differ n words other))
]
  where
    by_form : length words ≡ n → (t : Bool) → list_all is_number words ≡ t
        → command_from make (numbers_in n words) ≡ told (pointwise may_stand (replicate n Number) words) (pointwise is_good (replicate n Number) words) (make (values (replicate n Number) words))
    by_form same true all =
        ap (command_from make) (same_count n words true same all)
        ∙ rw (numbers_fit n words same, numbers_good n words same, all, numbers_valued n words same) refl
    by_form same false all =
        ap (command_from make) (same_count n words false same all)
        ∙ rw (numbers_fit n words same, numbers_good n words same, all) refl

-- what words say by one form alone
abbrev reads : {v : ℕ} → List (List ℕ) → Form v → Result (Command v) LineFault
reads words f = cond (pointwise may_stand f.parts words) (read_by words (Some f)) (Err NotACommand)

-- by the first of some forms
abbrev by_forms : {v : ℕ} → List (List ℕ) → List (Form v) → Result (Command v) LineFault
by_forms words fs = read_by words (find (λ f. pointwise may_stand f.parts words) fs)

-- by a form that is the only one
only : {v : ℕ} (words : List (List ℕ)) (f : Form v) → reads words f ≡ by_forms words (f ∷ [])
only words f = at (pointwise may_stand f.parts words)
  where
    at : (fits : Bool) → cond fits (read_by words (Some f)) (Err NotACommand) ≡ read_by words (cond fits (Some f) None)
    at true = refl
    at false = refl

-- by the first form, and otherwise by the next ones
next : {v : ℕ} (words : List (List ℕ)) (f : Form v) (fs : List (Form v)) → otherwise (reads words f) (by_forms words fs) ≡ by_forms words (f ∷ fs)
next {v = v} words f fs = at (pointwise may_stand f.parts words)
  where
    has : (good : Bool) (command : Command v) → otherwise (cond good (Ok command) (Err BadNumber)) (by_forms words fs) ≡ cond good (Ok command) (Err BadNumber)
    has true command = refl
    has false command = refl

    at : (fits : Bool) → otherwise (cond fits (read_by words (Some f)) (Err NotACommand)) (by_forms words fs) ≡ read_by words (cond fits (Some f) (find (λ f. pointwise may_stand f.parts words) fs))
    at true = has (pointwise is_good f.parts words) (f.command (values f.parts words))
    at false = refl

joined : {v : ℕ} {a b c d : Result (Command v) LineFault} → a ≡ b → c ≡ d → otherwise a c ≡ otherwise b d
joined {b = b} {c = c} e h = ap (λ r. otherwise r c) e ∙ ap (otherwise b) h

-- a key and a value
entry_counted : (v : ℕ) (words : List (List ℕ)) (make : List ℕ → Command v)
    → command_from make (numbers_in (v + 1) words) ≡ told (pointwise may_stand (replicate (suc v) Number) words) (pointwise is_good (replicate (suc v) Number) words) (make (values (replicate (suc v) Number) words))
entry_counted v words make = ap (λ n. command_from make (numbers_in n words)) (omega arith) ∙ counted (suc v) words make

-- a key, a moment and a value
entry_if_counted : (v : ℕ) (words : List (List ℕ)) (make : List ℕ → Command v)
    → command_from make (numbers_in (v + 2) words) ≡ told (pointwise may_stand (replicate (suc (suc v)) Number) words) (pointwise is_good (replicate (suc (suc v)) Number) words) (make (values (replicate (suc (suc v)) Number) words))
entry_if_counted v words make = ap (λ n. command_from make (numbers_in n words)) (omega arith) ∙ counted (suc (suc v)) words make

-- a test of a fixed word comes first
fixed_first : {v : ℕ} (is fits good : Bool) (command : Command v) → cond is (told fits good command) (Err NotACommand) ≡ told (is && fits) good command
fixed_first true fits good command = refl
fixed_first false fits good command = refl

-- one count of steps
one_count : {v : ℕ} (words : List (List ℕ)) (make : List ℕ → Command v)
    → command_from make (stepping 0 (numbers_in 1 words)) ≡ told (pointwise may_stand (Steps ∷ []) words) (pointwise is_good (Steps ∷ []) words) (make (values (Steps ∷ []) words))
one_count [] make = ap (λ r. command_from make (stepping 0 r)) (other_count 1 [] (λ same. absurd (omega (arith, same))))
one_count (a ∷ b ∷ words) make = ap (λ r. command_from make (stepping 0 r)) (other_count 1 (a ∷ b ∷ words) (λ same. absurd (omega (arith, same))))
one_count {v = v} (a ∷ []) make = at (is_number a) (digits_value 10 a == 0) refl refl
  where
    at : (number none : Bool) → is_number a ≡ number → (digits_value 10 a == 0) ≡ none
        → command_from make (stepping 0 (numbers_in 1 (a ∷ []))) ≡ told (pointwise may_stand (Steps ∷ []) (a ∷ [])) (pointwise is_good (Steps ∷ []) (a ∷ [])) (make (values (Steps ∷ []) (a ∷ [])))
    at true true e z = rw (same_count 1 (a ∷ []) true refl (ap (λ t. t && true) e), e, z) refl
    at true false e z = rw (same_count 1 (a ∷ []) true refl (ap (λ t. t && true) e), e, z) refl
    at false z e is = rw (same_count 1 (a ∷ []) false refl (ap (λ t. t && true) e), e) refl

-- a number and a count of steps
number_and_count : {v : ℕ} (words : List (List ℕ)) (make : List ℕ → Command v)
    → command_from make (stepping 1 (numbers_in 2 words)) ≡ told (pointwise may_stand (Number ∷ Steps ∷ []) words) (pointwise is_good (Number ∷ Steps ∷ []) words) (make (values (Number ∷ Steps ∷ []) words))
number_and_count [] make = ap (λ r. command_from make (stepping 1 r)) (other_count 2 [] (λ same. absurd (omega (arith, same))))
number_and_count (a ∷ []) make = ap (λ r. command_from make (stepping 1 r)) (other_count 2 (a ∷ []) (λ same. absurd (omega (arith, same))))
number_and_count (a ∷ b ∷ c ∷ words) make = ap (λ r. command_from make (stepping 1 r)) (other_count 2 (a ∷ b ∷ c ∷ words) (λ same. absurd (omega (arith, same))))
number_and_count {v = v} (a ∷ b ∷ []) make = at (is_number a) (is_number b) (digits_value 10 b == 0) refl refl refl
  where
    at : (x y none : Bool) → is_number a ≡ x → is_number b ≡ y → (digits_value 10 b == 0) ≡ none
        → command_from make (stepping 1 (numbers_in 2 (a ∷ b ∷ []))) ≡ told (pointwise may_stand (Number ∷ Steps ∷ []) (a ∷ b ∷ [])) (pointwise is_good (Number ∷ Steps ∷ []) (a ∷ b ∷ [])) (make (values (Number ∷ Steps ∷ []) (a ∷ b ∷ [])))
    at true true true e d z = rw (same_count 2 (a ∷ b ∷ []) true refl (rw (e, d) refl), e, d, z) refl
    at true true false e d z = rw (same_count 2 (a ∷ b ∷ []) true refl (rw (e, d) refl), e, d, z) refl
    at true false none e d z = rw (same_count 2 (a ∷ b ∷ []) false refl (rw (e, d) refl), e, d) refl
    at false y none e d z = rw (same_count 2 (a ∷ b ∷ []) false refl (rw e refl), e) refl

-- `put`, a key and a value
put_says : (v : ℕ) (words : List (List ℕ)) → command_from (λ numbers. Put (first numbers) (drop 1 numbers)) (numbers_in (v + 1) words) ≡ command_of v (codes "put" ∷ words)
unfolding command_of
put_says v words =
    let whole : Form v = form (Fixed (codes "put") ∷ Number ∷ replicate v Number) (λ numbers. Put (first numbers) (drop 1 numbers)) in
    entry_counted v words whole.command ∙ only (codes "put" ∷ words) whole

-- `putif`, a key, a moment and a value
put_if_says : (v : ℕ) (words : List (List ℕ)) → command_from (λ numbers. PutIf (first numbers) (second numbers) (drop 2 numbers)) (numbers_in (v + 2) words) ≡ command_of v (codes "putif" ∷ words)
unfolding command_of
put_if_says v words =
    let whole : Form v = form (Fixed (codes "putif") ∷ Number ∷ Number ∷ replicate v Number) (λ numbers. PutIf (first numbers) (second numbers) (drop 2 numbers)) in
    entry_if_counted v words whole.command ∙ only (codes "putif" ∷ words) whole

-- `remove` and a key
remove_says : (v : ℕ) (words : List (List ℕ)) → command_from (λ numbers. Remove (first numbers)) (numbers_in 1 words) ≡ command_of v (codes "remove" ∷ words)
unfolding command_of
remove_says v words =
    let whole : Form v = form (Fixed (codes "remove") ∷ Number ∷ []) (λ numbers. Remove (first numbers)) in
    counted 1 words whole.command ∙ only (codes "remove" ∷ words) whole

-- `get` and a key
get_says : (v : ℕ) (words : List (List ℕ)) → command_from (λ numbers. Get (first numbers)) (numbers_in 1 words) ≡ command_of v (codes "get" ∷ words)
unfolding command_of
get_says v words =
    let whole : Form v = form (Fixed (codes "get") ∷ Number ∷ []) (λ numbers. Get (first numbers)) in
    counted 1 words whole.command ∙ only (codes "get" ∷ words) whole

-- `stamp` and a key
stamp_says : (v : ℕ) (words : List (List ℕ)) → command_from (λ numbers. Stamp (first numbers)) (numbers_in 1 words) ≡ command_of v (codes "stamp" ∷ words)
unfolding command_of
stamp_says v words =
    let whole : Form v = form (Fixed (codes "stamp") ∷ Number ∷ []) (λ numbers. Stamp (first numbers)) in
    counted 1 words whole.command ∙ only (codes "stamp" ∷ words) whole

-- `w`, alone or with a count
write_says : (v : ℕ) (words : List (List ℕ)) → write_in v words ≡ command_of v (codes "w" ∷ words)
unfolding command_of
write_says v words =
    let all : List (List ℕ) = codes "w" ∷ words in
    let one : Form v = form (Fixed (codes "w") ∷ []) (λ numbers. Write 1) in
    let many : Form v = form (Fixed (codes "w") ∷ Steps ∷ []) (λ numbers. Write (first numbers)) in
    joined (counted 0 words one.command) (one_count words many.command ∙ only all many) ∙ next all one (many ∷ [])

-- `r` and a reader, alone or with a count
read_says : (v : ℕ) (words : List (List ℕ)) → read_in v words ≡ command_of v (codes "r" ∷ words)
unfolding command_of
read_says v words =
    let all : List (List ℕ) = codes "r" ∷ words in
    let one : Form v = form (Fixed (codes "r") ∷ Number ∷ []) (λ numbers. Read (first numbers) 1) in
    let many : Form v = form (Fixed (codes "r") ∷ Number ∷ Steps ∷ []) (λ numbers. Read (first numbers) (second numbers)) in
    joined (counted 1 words one.command) (number_and_count words many.command ∙ only all many) ∙ next all one (many ∷ [])

-- `reopen` and two numbers
reopen_says : (v : ℕ) (words : List (List ℕ)) → command_from (λ numbers. Reopen (first numbers) (second numbers)) (numbers_in 2 words) ≡ command_of v (codes "reopen" ∷ words)
unfolding command_of
reopen_says v words =
    let whole : Form v = form (Fixed (codes "reopen") ∷ Number ∷ Number ∷ []) (λ numbers. Reopen (first numbers) (second numbers)) in
    counted 2 words whole.command ∙ only (codes "reopen" ∷ words) whole

-- `begin`, and then `put`, `putif`, `remove` or a reader
begin_says : (v : ℕ) (words : List (List ℕ)) → begin_in v words ≡ command_of v (codes "begin" ∷ words)
unfolding command_of
begin_says v [] = refl
begin_says v (word ∷ words) =
    let all : List (List ℕ) = codes "begin" ∷ word ∷ words in
    let put : Form v = form (Fixed (codes "begin") ∷ Fixed (codes "put") ∷ Number ∷ replicate v Number) (λ numbers. BeginPut (first numbers) (drop 1 numbers)) in
    let put_if : Form v = form (Fixed (codes "begin") ∷ Fixed (codes "putif") ∷ Number ∷ Number ∷ replicate v Number) (λ numbers. BeginPutIf (first numbers) (second numbers) (drop 2 numbers)) in
    let remove : Form v = form (Fixed (codes "begin") ∷ Fixed (codes "remove") ∷ Number ∷ []) (λ numbers. BeginRemove (first numbers)) in
    let look : Form v = form (Fixed (codes "begin") ∷ Number ∷ Fixed (codes "get") ∷ Number ∷ []) (λ numbers. BeginGet (first numbers) (second numbers)) in
    let by_put : begin_put_in v word words ≡ reads all put =
    ap (λ r. cond (bytes_eq word (codes "put")) r (Err NotACommand)) (entry_counted v words put.command) ∙ fixed_first (bytes_eq word (codes "put")) _ _ _ in
    let by_put_if : begin_put_if_in v word words ≡ reads all put_if =
    ap (λ r. cond (bytes_eq word (codes "putif")) r (Err NotACommand)) (entry_if_counted v words put_if.command) ∙ fixed_first (bytes_eq word (codes "putif")) _ _ _ in
    let by_remove : begin_remove_in v word words ≡ reads all remove =
    ap (λ r. cond (bytes_eq word (codes "remove")) r (Err NotACommand)) (counted 1 words remove.command) ∙ fixed_first (bytes_eq word (codes "remove")) _ _ _ in
    joined by_put
    (joined by_put_if (joined by_remove (by_look words ∙ only all look) ∙ next all remove (look ∷ [])) ∙ next all put_if (remove ∷ look ∷ []))
    ∙ next all put (put_if ∷ remove ∷ look ∷ [])
  where
    by_look : (words : List (List ℕ)) → begin_get_in v word words ≡ reads (codes "begin" ∷ word ∷ words) (form (Fixed (codes "begin") ∷ Number ∷ Fixed (codes "get") ∷ Number ∷ []) (λ numbers. BeginGet (first numbers) (second numbers)))
    by_look [] = refl
    by_look (name ∷ words) =
        ap (λ r. cond (bytes_eq name (codes "get")) r (Err NotACommand)) (counted 2 (word ∷ words) (λ numbers. BeginGet (first numbers) (second numbers))) ∙ fixed_first (bytes_eq name (codes "get")) _ _ _

-- a word is a fixed one, or the test of that fails
is_word : (word name : List ℕ) → (word ≡ name) ⊎ (bytes_eq word name ≡ false)
is_word word name = at (bytes_eq word name) refl
  where
    at : (t : Bool) → bytes_eq word name ≡ t → (word ≡ name) ⊎ (bytes_eq word name ≡ false)
    at true e = inl ((bytes_eq-Decides word name).0 e)
    at false e = inr e

-- what a first word and those that follow it say
pub form_says : (v : ℕ) (name : List ℕ) (words : List (List ℕ)) → form_in v name words ≡ command_of v (name ∷ words)
unfolding command_of form_in
form_says v name words =
    let P : List ℕ → Type 0 = λ name. form_in v name words ≡ command_of v (name ∷ words) in
    elim (is_word name (codes "put")) [
      | inl e ↦ subst P (sym e) (put_says v words)
      | inr no_put ↦ elim (is_word name (codes "putif")) [
        | inl e ↦ subst P (sym e) (put_if_says v words)
        | inr no_put_if ↦ elim (is_word name (codes "remove")) [
          | inl e ↦ subst P (sym e) (remove_says v words)
          | inr no_remove ↦ elim (is_word name (codes "get")) [
            | inl e ↦ subst P (sym e) (get_says v words)
            | inr no_get ↦ elim (is_word name (codes "stamp")) [
              | inl e ↦ subst P (sym e) (stamp_says v words)
              | inr no_stamp ↦ elim (is_word name (codes "begin")) [
                | inl e ↦ subst P (sym e) (begin_says v words)
                | inr no_begin ↦ elim (is_word name (codes "w")) [
                  | inl e ↦ subst P (sym e) (write_says v words)
                  | inr no_write ↦ elim (is_word name (codes "r")) [
                    | inl e ↦ subst P (sym e) (read_says v words)
                    | inr no_read ↦ elim (is_word name (codes "reopen")) [
                      | inl e ↦ subst P (sym e) (reopen_says v words)
                      | inr no_reopen ↦ rw (no_put, no_put_if, no_remove, no_get, no_stamp, no_begin, no_write, no_read, no_reopen) refl
                    ]
                  ]
                ]
              ]
            ]
          ]
        ]
      ]
    ]

-- what a line says that is neither empty nor a comment
pub line_says : (v : ℕ) (line name : List ℕ) (words : List (List ℕ)) → words_of line ≡ name ∷ words → slice_index name 0 ≢ 35 → is_utf8 line ≡ true
    → command_in v line ≡ said (form_in v name words)
unfolding command_by
line_says v line name words are other text =
    ap (command_by v line) are ∙ rw (ne_eqb (slice_index name 0) 35 other, text) (ap said (sym (form_says v name words)))
