-- A report's lines, and what is written after them.
use Rattle.std.proofs.Common.{◌≡◌, ℕ, ◌++◌, ◌∷◌, ◌∙◌, Bool, true, false, List, [], Option, Some, None, ap, append_assoc, inl, inr, length, refl, subst, sym}
use Rattle.std.proofs.Math.Seq.{take-length}
use Rattle.std.specs.Io.KnownBytes.{Appends}
use Rattle.mc_load.specs.Inside.Histograms.{AppendsSome}
use Rattle.mc_load.specs.LoadPrograms.{WritesLines}
use Rattle.mc_options.specs.Streams.{Stream, stream}

appends_both : (a b c : Option (List ℕ)) (xs ys : List ℕ) → Appends a b xs → Appends b c ys → Appends a c (xs ++ ys)
appends_both None b c xs ys p q = tt
appends_both (Some u) None c xs ys p q = absurd p
appends_both (Some u) (Some v) None xs ys p q = absurd q
appends_both (Some u) (Some v) (Some w) xs ys p q = q ∙ (ap (λ (z : List ℕ). z ++ ys) p ∙ append_assoc u xs ys)

-- lines that were written, and bytes after them
pub lines_more : (a b c : Option (List ℕ)) (text : List ℕ) (status end : ℕ) → WritesLines false (stream a b) text status → status ≡ 0 → AppendsSome (stream b c) end → WritesLines true (stream a c) text end
lines_more a b c text status end lines zero some =
    let more = some.0.0 in
    let empty = lines.1 refl in
    elim lines.2 [
      | inl all ↦
          let first : Appends a b (text ++ 10 ∷ []) = subst (λ (z : List ℕ). Appends a b (text ++ 10 ∷ z)) empty all.1 in
          let both : Appends a c (text ++ 10 ∷ more) = subst (Appends a c) (append_assoc text (10 ∷ []) more) (appends_both a b c (text ++ 10 ∷ []) more first some.0.1) in (
            more,
            (λ e. absurd (cc)),
            (elim some.1 [
              | inl z ↦ inl (z, both)
              | inr t ↦ inr (t, (length (text ++ 10 ∷ more), subst (Appends a c) (sym (take-length (text ++ 10 ∷ more))) both))
            ]),
          )
      | inr part ↦ absurd (cc (part.0, zero))
    ]

-- lines that say what is to be reported
pub lines_told : (s : Stream) (text due : List ℕ) (status : ℕ) (asked : Bool) → asked ≡ true → text ≡ due → WritesLines true s text status → WritesLines asked s due status
lines_told s text due status asked wanted same lines = subst (λ (b : Bool). WritesLines b s due status) (sym wanted) (subst (λ (t : List ℕ). WritesLines true s t status) same lines)
