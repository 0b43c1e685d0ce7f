-- Notes that are added at the end alone.
use Rattle.std.proofs.Common.{ℕ, List, [], ◌∷◌, ◌++◌, ap, sym, ◌∙◌, append_assoc}
use Rattle.std.proofs.lemmas.List.{append-nil}
use Rattle.mc_theory.specs.declared.act.Act.{Act}
use Rattle.mc_shared.specs.Records.{WriterRecord, NotesGrow, HasActed}
use Rattle.mc_shared.specs.Views.{Note}

-- notes are an extension of themselves
pub grow_self : (notes : List Note) → NotesGrow notes notes
grow_self notes = record { more = []; is = sym (append-nil notes) }

-- and of what those that they extend extend
pub grow_trans : {a b c : List Note} → NotesGrow a b → NotesGrow b c → NotesGrow a c
grow_trans {a} {b} {c} p q = record { more = p.more ++ q.more; is = q.is ∙ (ap (λ (z : List Note). z ++ q.more) p.is ∙ append_assoc a p.more q.more) }

-- an act leaves the notes and adds its own
pub grow_acted : {before after : WriterRecord} {a : Act} {bit : ℕ} → HasActed before after a bit → NotesGrow before.notes after.notes
grow_acted h = record { more = h.note ∷ []; is = h.notes }
