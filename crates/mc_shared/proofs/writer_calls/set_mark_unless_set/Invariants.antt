use Rattle.mc_theory.specs.declared.act.Act.TheVariants.{Mark}
use Rattle.mc_shared.proofs.writer_calls.set_mark_unless_set.Given as goal

abbrev pub ghosts-set_mark_unless_set_as_writer : goal.ghosts-set_mark_unless_set_as_writer
ghosts-set_mark_unless_set_as_writer g a = record { act = Mark a.item }
