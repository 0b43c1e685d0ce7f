use Rattle.mc_shared.proofs.reader_calls.read_at.Given as goal

abbrev pub ghosts-load_as_reader : goal.ghosts-load_as_reader
ghosts-load_as_reader g a = record { access = a.access }
