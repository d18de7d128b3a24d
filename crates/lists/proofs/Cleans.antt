-- To put 255 into what is not in use leaves what a List says, and makes it a List that was tested. Assumes nothing.
use mathlib.Core.Path.{◌≡◌, ap, ◌∙◌}
use mathlib.Core.List as L
use mathlib.Core.List.{map}
use Prim.Native.Nat.{◌-◌, ◌^◌, ◌≤◌, ◌<◌}
use native.Mathlib.Omega.{arith}
use lib.ListN.{length, replicate, length-map}
use lib.Seq.{take_at}
use Rattle.scalars.specs.Mask.{select, padded}
use Rattle.rules.specs.Signature.{Signature}
use Rattle.lists.specs.Entry.{number}
use Rattle.rules.specs.Rule.{blank_rule, signature_of, rule_of}
use Rattle.lists.specs.List.{most_rules, held, signatures, listing, entries, clean_list}
use Rattle.lists.specs.private.Tested.{Valid}
use Rattle.lists.specs.declared.list.List.{List}
use Rattle.rules.proofs.Records.{records_say}
use Rattle.lists.proofs.Lists.{signatures-length}

module _ (l : List) (long : length l.rules ≡ most_rules) (few : l.len ≤ most_rules) where
  pub clean-signatures : signatures (clean_list l) ≡ signatures l
  unfolding clean_list signatures
  clean-signatures =
      let e : length (map rule_of (signatures l)) ≡ l.len = length-map (signatures l) rule_of ∙ omega (arith, signatures-length l) in
      ap (map signature_of) (take_at (map rule_of (signatures l)) (replicate (most_rules - length (map rule_of (signatures l))) blank_rule) l.len e) ∙ records_say (held l)

  pub clean-listing : listing (clean_list l) ≡ listing l
  unfolding listing clean_list
  clean-listing = ap (λ (ss : L.List Signature). select ss l.members) clean-signatures

  pub clean-entries : entries (clean_list l) ≡ entries l
  unfolding entries clean_list
  clean-entries = ap (λ (ss : L.List Signature). select (number 0 ss) l.members) clean-signatures

  pub clean-valid : l.members < 2 ^ l.len → Valid (clean_list l)
  unfolding clean_list
  clean-valid w = record {
    few = few;
    within = w;
    clean = ap (λ (ss : L.List Signature). record { rules = padded most_rules blank_rule (map rule_of ss); len = l.len; members = l.members }) clean-signatures;
  }
