-- Each case of the places has its writer. Written by tools/reports.py. Assumes nothing.
use Rattle.faults.specs.Index.{entries_at}
use Rattle.faults.proofs.Laws.{wrote_none}
use Rattle.writers.proofs.write_rule.Goals as goal

pub returns-in-Nowhere : goal.returns-in-Nowhere
unfolding entries_at
returns-in-Nowhere c = rw (← c.places_of.ensures, c.in-Nowhere.is) (wrote_none _)

pub returns-in-Leaf : goal.returns-in-Leaf
unfolding entries_at
returns-in-Leaf c = rw (← c.places_of.ensures, c.in-Leaf.is) c.write_one.ensures

pub returns-in-Root : goal.returns-in-Root
unfolding entries_at
returns-in-Root c = rw (← c.places_of.ensures, c.in-Root.is, ← c.without-last.ensures) c.write_one-in-Root.ensures

pub returns-in-LeafAndRoot : goal.returns-in-LeafAndRoot
unfolding entries_at
returns-in-LeafAndRoot c = rw (← c.places_of.ensures, c.in-LeafAndRoot.is, ← c.without-last.ensures) c.write_one-in-LeafAndRoot.ensures

pub returns-in-Each : goal.returns-in-Each
unfolding entries_at
returns-in-Each c = rw (← c.places_of.ensures, c.in-Each.is, ← c.without.ensures) c.write_each.ensures

pub returns-in-Neighbours : goal.returns-in-Neighbours
unfolding entries_at
returns-in-Neighbours c = rw (← c.places_of.ensures, c.in-Neighbours.is, ← c.without-last.ensures) c.write_neighbours.ensures

pub returns-in-Pairs : goal.returns-in-Pairs
unfolding entries_at
returns-in-Pairs c = rw (← c.places_of.ensures, c.in-Pairs.is, ← c.without-in-Pairs.ensures) c.write_pairs.ensures
