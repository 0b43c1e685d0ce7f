use Rattle.mc_shared.proofs.reader_calls.mark_unless_set.Given as goal

abbrev pub ghosts-mark_unless_set_as_reader : goal.ghosts-mark_unless_set_as_reader
ghosts-mark_unless_set_as_reader g a = record { item = a.item }
