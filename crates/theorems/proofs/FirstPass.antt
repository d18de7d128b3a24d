-- The first pass is what specs/FirstPass.antt says. Assumes nothing.
use Rattle.theorems.specs.FirstPass.{Theorem}
use Rattle.theorems.proofs.AcceptsExactly.{accepts-only, accepts-all, abstract_refused}
use Rattle.theorems.proofs.OneTree.{one_tree_lem}
use Rattle.theorems.proofs.FirstBytes.{first_bytes_lem}

pub first_pass : Theorem
first_pass = record {
  exactly = λ functions s e. (accepts-only functions s e, λ k. accepts-all functions s e k.0 k.1);
  measured = abstract_refused;
  one_tree = one_tree_lem;
  first_bytes = first_bytes_lem;
}
