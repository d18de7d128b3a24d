-- `Regular::listed` meets its contract. The loop's invariant: all rules so far have a conclusion, and they, followed by those that are
-- left, are the whole listing. Assumes nothing.
use Rattle.regular.proofs.Listings.{Listed}
use Rattle.regular.proofs.regular.Regular.listed.Given as goal

abbrev pub invariant-loop-k : goal.invariant-loop-k
invariant-loop-k l = Listed l.self l.rules l.k
