-- What reading a line gives, from the bytes that were taken.
use Rattle.std.proofs.Common.{◌≡◌, ◌≢◌, ℕ, zero, suc, ◌+◌, ◌<◌, ◌≤◌, inl, inr, true, false, All, List, [], ◌∷◌, ◌++◌, length, Option, Some, None, arith, sym, ap, ◌∙◌, length-append, append-nil, take, drop, take_all, drop_of_length-le, Ok, Err, not, ◌==◌}
use Rattle.std.specs.Io.BufRead.{first_line, drop_through, strip_last}
use Rattle.std.specs.Io.KnownBytes.{Consumes, IsAtEnd}
use Rattle.std.proofs.lemmas.List.Elements.{All-append}
use Rattle.std.proofs.Math.Seq.{take-append_seam, drop-append_seam}
use Rattle.std.proofs.lemmas.Bool.Decides.{nat_tests}
use Rattle.mc_script.specs.Lines.{is_over, length_over, IsUnfinished, GivesLine}
use Rattle.mc_script.specs.declared.line.ReadFault.TheVariants.{TooLong}
use Rattle.std.proofs.KnownBytes.{Consumes-trans}
use Rattle.mc_script.proofs.FirstLines.{over_cases, over_stays, last_line, ended_line, fits, length_over-first, length_over-last}

-- one more byte that is no line feed
plain_more : (line : List ℕ) (b : ℕ) → All (λ x. x ≢ 10) line → b ≢ 10 → All (λ x. x ≢ 10) (line ++ b ∷ [])
plain_more line b plain other = All-append (λ x. x ≢ 10) line (b ∷ []) plain one
  where
    one : All (λ x. x ≢ 10) (b ∷ [])
    one zero d lt = other
    one (suc k) d lt = absurd (omega arith)

-- a line grows by a byte that is no line feed
pub unfinished_more : (a b c : Option (List ℕ)) (line : List ℕ) (x : ℕ) → IsUnfinished a b line → Consumes b c (x ∷ []) → x ≢ 10 → is_over (line ++ x ∷ []) ≡ false
    → IsUnfinished a c (line ++ x ∷ [])
unfinished_more a b c line x so_far took other short = record {
  taken = Consumes-trans a b c line (x ∷ []) so_far.taken took;
  plain = plain_more line x so_far.plain other;
  short = short;
}

-- the input ended, and the line is too long
pub gives_too_long_end : (a b c : Option (List ℕ)) (line : List ℕ) → IsUnfinished a b line → Consumes b c [] → IsAtEnd c → 4096 < length line → GivesLine a c line (Err TooLong)
gives_too_long_end None b c line so_far none end long = tt
gives_too_long_end (Some x) None c line so_far none end long = absurd so_far.taken
gives_too_long_end (Some x) (Some y) None line so_far none end long = absurd none
gives_too_long_end (Some x) (Some y) (Some z) line so_far none end long =
    let whole : x ≡ line = so_far.taken ∙ ap (λ l. line ++ l) (none ∙ end) ∙ append-nil line in
    let last = (last_line line so_far.plain).0 in
    let over = length_over-last line so_far.short long in
    rw whole (omega (arith, long), omega (arith, long, ap length last), sym (take_all _ line (omega (arith, over.0, over.1))), ap Some (end ∙ sym (drop_of_length-le line (omega (arith, over.0, over.1)))))

-- the input ended, and with it the line, if there is one
pub gives_last : (a b c : Option (List ℕ)) (line : List ℕ) → IsUnfinished a b line → Consumes b c [] → IsAtEnd c → length line ≤ 4096 → GivesLine a c line (Ok (not (length line == 0)))
gives_last None b c line so_far none end short = tt
gives_last (Some x) None c line so_far none end short = absurd so_far.taken
gives_last (Some x) (Some y) None line so_far none end short = absurd none
gives_last (Some x) (Some y) (Some z) line so_far none end short =
    let whole : x ≡ line = so_far.taken ∙ ap (λ l. line ++ l) (none ∙ end) ∙ append-nil line in
    at line whole short (last_line line so_far.plain) end
  where
    at : (line : List ℕ) → x ≡ line → length line ≤ 4096 → (first_line line ≡ line) × (drop_through 10 line ≡ []) → z ≡ [] → GivesLine (Some x) (Some z) line (Ok (not (length line == 0)))
    at [] whole short last end = (whole, ap Some end)
    at (b ∷ bs) whole short last end =
        let more : not (length (b ∷ bs) == 0) ≡ true = grind (arith, nat_tests) in
        rw (more, whole) (omega arith, sym last.0, short, ap Some (end ∙ sym last.1))

-- a line feed ended the line
pub gives_ended : (a b c : Option (List ℕ)) (line new : List ℕ) → IsUnfinished a b line → Consumes b c (10 ∷ []) → new ≡ strip_last 13 line → GivesLine a c new (Ok true)
gives_ended None b c line new so_far feed is = tt
gives_ended (Some x) None c line new so_far feed is = absurd so_far.taken
gives_ended (Some x) (Some y) None line new so_far feed is = absurd feed
gives_ended (Some x) (Some y) (Some z) line new so_far feed is =
    let whole : x ≡ line ++ 10 ∷ z = so_far.taken ∙ ap (λ l. line ++ l) feed in
    let ended = ended_line line z so_far.plain in
    let len = length-append line (10 ∷ z) in
    rw whole (omega (arith, len), is ∙ sym ended.0, rw is (fits line so_far.short), ap Some (sym ended.1))

-- one more byte made the line too long
pub gives_over : (a b c : Option (List ℕ)) (line : List ℕ) (x : ℕ) → IsUnfinished a b line → Consumes b c (x ∷ []) → x ≢ 10 → is_over (line ++ x ∷ []) ≡ true
    → GivesLine a c (line ++ x ∷ []) (Err TooLong)
gives_over a b c line x so_far took other over =
    too_long a c (line ++ x ∷ []) (Consumes-trans a b c line (x ∷ []) so_far.taken took) (plain_more line x so_far.plain other) over (λ more. length_over-first line more x so_far.short over)
  where
    some : (line more : List ℕ) → is_over line ≡ true → length (line ++ more) ≡ length line + length more → 0 < length (line ++ more)
    some line more over len = elim (over_cases line over) [ inl h ↦ omega arith | inr h ↦ omega (arith, h.0) ]

    too_long : (a b : Option (List ℕ)) (line : List ℕ) → Consumes a b line → All (λ x. x ≢ 10) line → is_over line ≡ true → ((more : List ℕ) → length_over (line ++ more) ≡ length line) → GivesLine a b line (Err TooLong)
    too_long None b line took plain over first = tt
    too_long (Some x) None line took plain over first = absurd took
    too_long (Some x) (Some y) line took plain over first =
        let len = length-append line y in
        rw took (
          some line y over len,
          over_stays line y plain over,
          sym (ap (λ k. take k (line ++ y)) (first y) ∙ take-append_seam line y),
          ap Some (sym (ap (λ k. drop k (line ++ y)) (first y) ∙ drop-append_seam line y)),
        )
