-- `prism::pieces` ends. The measure is the number of bisections that are left. Assumes nothing.
use Rattle.prism.proofs.+pieces.Given as goal

abbrev pub decreases-pieces : goal.decreases-pieces
decreases-pieces l = l.n
