use Rattle.mc_theory.specs.declared.act.Act.TheVariants.{Hand}
use Rattle.mc_shared.proofs.writer_calls.turn_hand_unless_clear.Given as goal

abbrev pub ghosts-turn_hand_unless_clear_as_writer : goal.ghosts-turn_hand_unless_clear_as_writer
ghosts-turn_hand_unless_clear_as_writer g a = record { act = Hand a.item }
