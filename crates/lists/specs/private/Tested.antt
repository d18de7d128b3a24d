-- What the walks require of a List.
use Rattle.std.specs.Prelude.{◌≡◌, ◌^◌, ◌≤◌, ◌<◌}
use Rattle.lists.specs.List.{most_rules, clean_list}
use Rattle.lists.specs.declared.list.List.{List}

-- what a List that was tested is: no more rules than it takes, each member one of them, and 255 in what is not in use
pub record Valid (l : List) : Type 0 where
  pub few : l.len ≤ most_rules
  pub within : l.members < 2 ^ l.len
  pub clean : clean_list l ≡ l
