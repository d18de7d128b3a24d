-- What a contract permits. Of each function F of a crate C the prover makes `Rattle.C.specs.contracts.F.ended`, its parameters and result,
-- and `Rattle.C.proofs.F.Reads.Post`, what its `ensures` clauses say: a claim about lifetimes, the arguments, the answer, and the
-- parameters at the end. Theorems are said of these, so that whoever weakens a clause finds them false.
pub use contract.Lifetimes.{Lfts}
pub use denote.Triple.Entry.{Args, Res}
pub use denote.Triple.Clauses.{Ended, AtExit, Lasts, at_exit}

abbrev pub Post : Ended → Type 1
Post T = (κs : Lfts T.signature.lifetimes) → Args T.signature κs → Res T.signature κs → AtExit T κs → Type 0

-- whatever a contract permits is as claimed
abbrev pub Promises : (T : Ended) → Post T → Post T → Type 0
Promises T post claim =
    (κs : Lfts T.signature.lifetimes) (a : Args T.signature κs) (x : Res T.signature κs) (v : Lasts T κs a)
    → post κs a x (at_exit T κs a v) → claim κs a x (at_exit T κs a v)
