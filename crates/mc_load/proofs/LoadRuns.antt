-- Runs of the whole program `mcload`: whose words give no options, and what options say.
use Rattle.std.proofs.Common.{ℕ, List, codes, subst, sym, inl, inr}
use Rattle.clap.specs.Words.{first_of}
use Rattle.clap.specs.declared.error.kind.ErrorKind.{ErrorKind}
use Rattle.mc_options.proofs.CommandLines.{number-bounds}
use Rattle.mc_options.specs.LoadOptions.{GivesLoad, HasLoadFault, IsLoadUnread, load_texts}
use Rattle.mc_options.specs.declared.load_options.LoadOptions.{LoadOptions}
use Rattle.mc_options.specs.Streams.{Stream, TellsFault}
use Rattle.mc_load.specs.LoadPrograms.{Loads}
use Rattle.mc_load.specs.LoadPrograms.Loads.{shows, faulty, out_of_memory}
use Rattle.mc_load.specs.Loads.{MayAskAtOnce}

pub load_fault : (words : List (List ℕ)) (k : ErrorKind) (output errors : Stream) (status : ℕ) → IsLoadUnread words k → TellsFault k output errors status → Loads words output errors status
load_fault words k output errors status why (inl short) = out_of_memory short.1
load_fault words k output errors status (inl oom) (inr (inl (inl help, printed))) = absurd (cc)
load_fault words k output errors status (inl oom) (inr (inl (inr version, printed))) = absurd (cc)
load_fault words k output errors status (inr (inl fault)) (inr (inl (inl help, printed))) = shows (inl (subst (HasLoadFault words) help fault)) printed
load_fault words k output errors status (inr (inl fault)) (inr (inl (inr version, printed))) = shows (inr (subst (HasLoadFault words) version fault)) printed
load_fault words k output errors status (inr (inr none)) (inr (inl (inl help, printed))) = absurd (cc)
load_fault words k output errors status (inr (inr none)) (inr (inl (inr version, printed))) = absurd (cc)
load_fault words k output errors status (inl oom) (inr (inr told)) = absurd (told.0 oom)
load_fault words k output errors status (inr (inl fault)) (inr (inr told)) = faulty (inl (k, told.1, told.2, fault)) told.3 told.4
load_fault words k output errors status (inr (inr none)) (inr (inr told)) = faulty (inr none.1) told.3 told.4

-- a call of a reader is for as many keys as it may be
pub few_at_once : (words : List (List ℕ)) (o : LoadOptions) → GivesLoad words o → MayAskAtOnce o.many
few_at_once words o given = number-bounds 1 64 o.many (first_of (codes "many") (load_texts given.0 given.1 words)) (sym given.5.many)
