use Rattle.tests.proofs.paths.+shortest.Given as goal

abbrev pub decreases-shortest : goal.decreases-shortest
decreases-shortest l = l.depth
