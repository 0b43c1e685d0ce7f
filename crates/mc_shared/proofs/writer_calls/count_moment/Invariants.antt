use Rattle.mc_shared.proofs.writer_calls.count_moment.Given as goal

abbrev pub ghosts-store_as_writer : goal.ghosts-store_as_writer
ghosts-store_as_writer g a = record { act = a.act }
