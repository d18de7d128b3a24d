-- What is asked of a Regular set made by hand, by the answer that making it gave. Assumes nothing.
use mathlib.Core.Path.{◌≡◌, ap, ◌∙◌}
use mathlib.Core.Bool.{Bool, true, false}
use mathlib.Core.List.{List}
use Prim.Native.Nat.{ℕ}
use native.Mathlib.Omega.{arith}
use lib.Dec.{ltb}
use Rattle.std.specs.Prelude.{Ok, Err}
use Rattle.scalars.specs.Mask.{choose}
use Rattle.scalars.specs.Paper.{Paper, refusal, refused}
use Rattle.scalars.specs.declared.refusal.Refusal.{Refusal}
use Rattle.scalars.specs.declared.refusal.Refusal.TheVariants.{Unknown}
use Rattle.regular.specs.declared.regular.ConclusionRule.{ConclusionRule}
use Rattle.regular.specs.declared.regular.Regular.{Regular}
use Rattle.regular.specs.Regular.{regular_of}
use Rattle.regular.specs.SetPaper.{conclusion_of, conclusion_from, set_paper, no_set}
use Rattle.regular.proofs.SetPapers.{set-one}
use Rattle.c_sets.specs.Sets.{of_regular}

-- ---- making it

module _ (arity constructors scalars conclusion : ℕ) where
  unknown_by : (b : Bool) {why : Refusal} → Err why ≡ choose b (Ok (conclusion_of conclusion)) (Err (Unknown 0))
      → refused why no_set ≡ choose b (set_paper (regular_of arity constructors scalars (conclusion_of conclusion))) (refusal 7 0 no_set)
  unknown_by true e = absurd cc
  unknown_by false {why} e = let same : why ≡ Unknown 0 = cc in ap (λ (w : Refusal). refused w no_set) same

  known_by : (b : Bool) {c : ConclusionRule} → Ok c ≡ choose b (Ok (conclusion_of conclusion)) (Err (Unknown 0))
      → set_paper (regular_of arity constructors scalars c) ≡ choose b (set_paper (regular_of arity constructors scalars (conclusion_of conclusion))) (refusal 7 0 no_set)
  known_by true {c} e = let same : c ≡ conclusion_of conclusion = cc in ap (λ (d : ConclusionRule). set_paper (regular_of arity constructors scalars d)) same
  known_by false e = absurd cc

  pub no_conclusion : {why : Refusal} → Err why ≡ conclusion_from conclusion → refused why no_set ≡ of_regular arity constructors scalars conclusion set_paper no_set
  unfolding of_regular conclusion_from
  no_conclusion e = unknown_by (ltb conclusion 10) e

  pub some_conclusion : {c : ConclusionRule} → Ok c ≡ conclusion_from conclusion
      → set_paper (regular_of arity constructors scalars c) ≡ of_regular arity constructors scalars conclusion set_paper no_set
  unfolding of_regular conclusion_from
  some_conclusion e = known_by (ltb conclusion 10) e

-- ---- asking it

module _ (arity constructors scalars conclusion : ℕ) (ask : Regular → Paper) (none : List ℕ) where
  -- the set as it was handed in
  abbrev handed : Regular
  handed = regular_of arity constructors scalars (conclusion_of conclusion)

  refused_by : (b : Bool) (why : Refusal) → refused why no_set ≡ choose b (set_paper handed) (refusal 7 0 no_set)
      → refused why none ≡ choose b (ask handed) (refusal 7 0 none)
  refused_by true why e = let z : ◌≡◌ {A = ℕ} 0 1 = cc in absurd (omega arith)
  refused_by false why e = cc

  accepted_by : (b : Bool) (set : Regular) → set_paper set ≡ choose b (set_paper handed) (refusal 7 0 no_set)
      → ask set ≡ choose b (ask handed) (refusal 7 0 none)
  accepted_by true set e = ap ask (set-one set handed e)
  accepted_by false set e = let z : ◌≡◌ {A = ℕ} 0 1 = cc in absurd (omega arith)

  pub asked-refused : (why : Refusal) → refused why no_set ≡ of_regular arity constructors scalars conclusion set_paper no_set
      → refused why none ≡ of_regular arity constructors scalars conclusion ask none
  unfolding of_regular
  asked-refused why e = refused_by (ltb conclusion 10) why e

  pub asked-accepted : (set : Regular) → set_paper set ≡ of_regular arity constructors scalars conclusion set_paper no_set
      → {p : Paper} → p ≡ ask set → p ≡ of_regular arity constructors scalars conclusion ask none
  unfolding of_regular
  asked-accepted set e is = is ∙ accepted_by (ltb conclusion 10) set e
