-- Runs of the whole program, from those of its parts.
use Rattle.std.proofs.Common.{◌≡◌, ℕ, List, codes, subst, inl, inr}
use Rattle.clap.specs.declared.error.kind.ErrorKind.{ErrorKind}
use Rattle.mc_words.specs.declared.checked.Checked.{Checked}
use Rattle.mc_words.specs.declared.shape.Shape.{Shape}
use Rattle.mc_words.specs.Checks.{shape_of}
use Rattle.mc_words.specs.Shapes.{IsShape}
use Rattle.mc_options.specs.declared.options.Options.{Options}
use Rattle.mc_options.specs.Options.{HasFault, IsUnread}
use Rattle.mc_options.specs.Streams.{Stream, IsUntouched, TellsFault}
use Rattle.mc_step.specs.Programs.{Ends, RunsOptions, Runs}
use Rattle.mc_step.specs.Programs.Runs.{prints, refuses, is_short}

-- a replay over the shape that was checked
pub runs_accepted : (o : Options) (V : ℕ) (c : Checked) (input output errors : Stream) (status : ℕ) → (shape_of c ≡ o.shape) × IsShape o.shape → V ≡ o.words → Ends V (shape_of c) o.readers input output errors status
    → RunsOptions o input output errors status
runs_accepted o V c input output errors status shape width ends =
    let at_width = subst (λ (v : ℕ). Ends v (shape_of c) o.readers input output errors status) width ends in
    inl (shape.1, subst (λ (sh : Shape). Ends o.words sh o.readers input output errors status) shape.0 at_width)

-- the end of a run whose words give no options
pub runs_fault : (words : List (List ℕ)) (k : ErrorKind) (input output errors : Stream) (status : ℕ) → IsUnread (codes "mcstep") words k → IsUntouched input → TellsFault k output errors status → Runs words input output errors status
runs_fault words k input output errors status why kept (inl short) = is_short kept short.1
runs_fault words k input output errors status (inl oom) kept (inr (inl (inl help, printed))) = absurd (cc)
runs_fault words k input output errors status (inl oom) kept (inr (inl (inr version, printed))) = absurd (cc)
runs_fault words k input output errors status (inr (inl fault)) kept (inr (inl (inl help, printed))) = prints (inl (subst (HasFault (codes "mcstep") words) help fault)) kept printed
runs_fault words k input output errors status (inr (inl fault)) kept (inr (inl (inr version, printed))) = prints (inr (subst (HasFault (codes "mcstep") words) version fault)) kept printed
runs_fault words k input output errors status (inr (inr none)) kept (inr (inl (inl help, printed))) = absurd (cc)
runs_fault words k input output errors status (inr (inr none)) kept (inr (inl (inr version, printed))) = absurd (cc)
runs_fault words k input output errors status (inl oom) kept (inr (inr told)) = absurd (told.0 oom)
runs_fault words k input output errors status (inr (inl fault)) kept (inr (inr told)) = refuses (inl (k, told.1, told.2, fault)) kept told.3 told.4
runs_fault words k input output errors status (inr (inr none)) kept (inr (inr told)) = refuses (inr none.1) kept told.3 told.4
