-- 'Agreement': a Regular set of arity 1 to 4 and at most 63 members, without refusal 13, expands to a List, and that is the List of its rules;
-- no other set of arity 1 to 4 expands. Said of the definition that the contract of `expand` cites.
use Rattle.std.specs.Prelude.{◌≡◌, true, [], ◌≤◌, length}
use Rattle.scalars.specs.Paper.{accepted, number}
use Rattle.regular.specs.Regular.{regular_verdict, regular_rules, all_conclude}
use Rattle.regular.specs.declared.regular.Regular.{Regular}
use Rattle.lists.specs.List.{most_rules, accepted_list}
use Rattle.lists.specs.Expansion.{list_of, expanded}

-- the sets that Agreement speaks of: arity 1 to 4, at most 63 members, a conclusion for each
pub record Expands (r : Regular) : Type 0 where
  pub known : regular_verdict r ≡ accepted []
  pub some : 1 ≤ r.arity
  pub few : length (regular_rules r) ≤ most_rules
  pub concludes : all_conclude r ≡ true

pub record Theorem : Type 0 where
  pub expands : (r : Regular) → Expands r → expanded r ≡ accepted_list (list_of (regular_rules r))
  pub only : (r : Regular) → 1 ≤ r.arity → number (expanded r) ≡ 0 → Expands r
