-- A line that is printed on standard error.
use Rattle.std.proofs.Common.{◌≡◌, ℕ, ◌++◌, ◌∷◌, ◌∙◌, List, [], Option, Some, None, sym, ap, subst, take, append-nil, append_assoc, length}
use Rattle.std.specs.Prelude.{IfSome}
use Rattle.std.specs.List.{FoldsTo, concat}
use Rattle.std.specs.Io.KnownBytes.{Appends}
use Rattle.std.specs.Fmt.{WritesText, with_newline}
use Rattle.std.specs.Fmt.InlineText.{inline_text, IsIntact, AppendsIfIntact}
use Rattle.std.specs.declared.fmt.InlineText.{InlineText}
use Rattle.std.proofs.Math.Seq.{take-length}
use Rattle.mc_options.specs.Streams.{Stream, Tells}

-- parts written one after the other append all of them
appended : {n : ℕ} (a : InlineText n) (parts : List (List ℕ)) (b : InlineText n) → FoldsTo AppendsIfIntact a parts b → IsIntact a → inline_text b ≡ inline_text a ++ concat parts
appended a [] b same intact = ap inline_text (sym same) ∙ sym (append-nil (inline_text a))
appended a (x ∷ parts) b calls intact =
    let first = calls.1 intact in
    appended calls.0 parts b calls.2 first.0 ∙ ap (λ (l : List ℕ). l ++ concat parts) first.1 ∙ append_assoc (inline_text a) x (concat parts)

-- a line that was formatted is its text and the end
pub line_is : {n : ℕ} (text : List ℕ) (start line : InlineText n) → inline_text start ≡ [] → IsIntact start → WritesText AppendsIfIntact start (with_newline (Some text)) line → inline_text line ≡ text ++ 10 ∷ []
line_is text start line empty intact wrote = appended start wrote.parts line wrote.calls intact ∙ ap (λ (t : List ℕ). t ++ concat wrote.parts) empty ∙ wrote.whole

-- what was taken of it is a beginning of it
pub told : {n : ℕ} (o : Option (List ℕ)) (start line : InlineText n) (errors : Stream) (bytes : List ℕ) (count : ℕ) → inline_text start ≡ [] → IsIntact start
    → WritesText AppendsIfIntact start (with_newline o) line → bytes ≡ inline_text line → Appends errors.old errors.new (take count bytes) → IfSome o (Tells errors)
told None start line errors bytes count empty intact wrote is sent = tt
told (Some text) start line errors bytes count empty intact wrote is sent =
    (count, subst (λ (t : List ℕ). Appends errors.old errors.new (take count t)) (is ∙ line_is text start line empty intact wrote) sent)

-- if all was taken, it is all of it
pub written : {n : ℕ} (text : List ℕ) (start line : InlineText n) (output : Stream) (bytes : List ℕ) (count : ℕ) → inline_text start ≡ [] → IsIntact start
    → WritesText AppendsIfIntact start (with_newline (Some text)) line → bytes ≡ inline_text line → Appends output.old output.new (take count bytes) → count ≡ length bytes → Appends output.old output.new (text ++ 10 ∷ [])
written text start line output bytes count empty intact wrote is sent all =
    subst (λ (t : List ℕ). Appends output.old output.new t) (ap (λ (k : ℕ). take k bytes) all ∙ (take-length bytes ∙ (is ∙ line_is text start line empty intact wrote))) sent
