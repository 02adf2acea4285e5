use Rattle.tree_write.proofs.numbers.+write_leb.Given as goal

abbrev pub decreases-write_leb : goal.decreases-write_leb
decreases-write_leb g l = l.value
