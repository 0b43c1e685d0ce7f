use Rattle.mc_shared.proofs.reader_calls.mark.Given as goal

abbrev pub ghosts-mark_as_reader : goal.ghosts-mark_as_reader
ghosts-mark_as_reader g a = record { item = a.item }
