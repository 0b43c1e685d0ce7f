use Rattle.std.specs.Prelude.{◌≡◌}
use Rattle.std.specs.List.{AllWithin}
use Rattle.mc_door.specs.declared.status.TheConstants.{OK}
use Rattle.cefrodil.proofs.loading.tell_done.Given as goal

abbrev pub invariant-loop-status : goal.invariant-loop-status
invariant-loop-status l = AllWithin (λ status. status ≡ OK) l.statuses 0 l.status-index
