use Rattle.mc_load.proofs.turns_ready.seat_workers.Goals as goal

pub returns : goal.returns
returns g c = λ s all. record {
  many = c.in_ok-turn_threads.ensures.len;
  can = c.in_ok-turn_threads.ensures.ready s all;
  readers = c.in_ok-reader_threads.ensures.len;
  ready = c.in_ok-reader_threads.ensures.ready;
  places = c.in_ok-reader_threads.ensures.place s (c.in_ok-turn_threads.ensures.place s all);
  audit = c.in_ok-audit.ensures;
}
