-- Laws of a List's steps: a step keeps the members that pass, with their indices, and leaves a tested List tested. Assumes nothing.
use mathlib.Core.Path.{◌≡◌, ap}
use native.Mathlib.Nat.{lt_of_le_of_lt}
use Rattle.lists.specs.Entry.{keep}
use Rattle.rules.specs.Rule.{passes}
use Rattle.lists.specs.List.{signatures, entries, clean_list, kept}
use Rattle.lists.specs.private.Tested.{Valid}
use Rattle.lists.specs.declared.list.List.{List}
use Rattle.rules.specs.declared.rule.Keep.{Keep}
use Rattle.scalars.proofs.Masks.{sift_le}
use Rattle.lists.proofs.Entries.{select-keep}

pub entries-kept : (k : Keep) (l : List) → entries (kept k l) ≡ keep (passes k) (entries l)
unfolding entries kept signatures
entries-kept k l = select-keep (passes k) 0 (signatures l) l.members

-- a step leaves a tested List tested
pub kept-valid : (k : Keep) (l : List) → Valid l → Valid (kept k l)
unfolding kept clean_list signatures
kept-valid k l v = record {
  few = v.few;
  within = lt_of_le_of_lt (sift_le (passes k) (signatures l) l.members) v.within;
  clean = ap (λ (x : List). record { rules = x.rules; len = l.len; members = (kept k l).members }) v.clean;
}
