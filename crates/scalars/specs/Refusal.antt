-- 'Answers by number', and document 02's requests: the number and the place of each refusal.
use Rattle.std.specs.Prelude.{ℕ, List, ◌++◌, codes}
use Rattle.std.specs.Fmt.{decimal}
use Rattle.scalars.specs.declared.refusal.Refusal.{Refusal}
use Rattle.scalars.specs.declared.refusal.Refusal.TheVariants.{EmptySet, SeveralConstructors, TooMany, NoSuchArgument, WrongCount, WrongShape, Unknown, IllFormed, TooLarge, NoRoom, NothingToCombine, NoConsensus, NoConclusion, UnknownRun, Misplaced, WrongNumber, MeasuredAbstract}

-- number, and place
abbrev pub numbered : Refusal → ℕ × ℕ
numbered (EmptySet p) = (1, p)
numbered SeveralConstructors = (2, 0)
numbered TooMany = (3, 0)
numbered (NoSuchArgument p) = (4, p)
numbered (WrongCount p) = (5, p)
numbered (WrongShape p) = (6, p)
numbered (Unknown p) = (7, p)
numbered (IllFormed p) = (8, p)
numbered (TooLarge p) = (9, p)
numbered (NoRoom p) = (10, p)
numbered NothingToCombine = (11, 0)
numbered (NoConsensus p) = (12, p)
numbered NoConclusion = (13, 0)
numbered (UnknownRun p) = (14, p)
numbered (Misplaced p) = (15, p)
numbered (WrongNumber p) = (16, p)
numbered (MeasuredAbstract p) = (17, p)

-- as programs print a refusal: the number, a space, the place
abbrev pub printed : Refusal → List ℕ
printed why = decimal (numbered why).0 ++ (codes " " ++ decimal (numbered why).1)
