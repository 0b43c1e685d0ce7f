use Rattle.mc_shared.proofs.writer_calls.write_slot.Given as goal

abbrev pub ghosts-store_as_writer : goal.ghosts-store_as_writer
ghosts-store_as_writer g a = record { act = a.act }
