-- Types put behind those that an array holds: one run after another is one run, and an empty array then holds just them. So a loop over
-- constructors finds the types of all of them, row by row. Assumes nothing.
use mathlib.Core.Path.{◌≡◌, refl, sym, ap, ap₂, ◌∙◌, subst⁻¹}
use mathlib.Core.List.{List, [], ◌∷◌, ◌++◌, map}
use Prim.Native.Nat.{ℕ, suc, ◌+◌, ◌≤◌}
use native.Mathlib.Nat.{add-zero, zero-add, add-suc, suc-add, add_assoc}
use native.Mathlib.Omega.{arith}
use lib.ListN.{length, replicate, length-append, length-map, length-replicate}
use lib.Seq.{sets, length-sets}
use Rattle.scalars.specs.Paper.{unused}
use Rattle.types.specs.TypeCode.{type_code}
use Rattle.rules.specs.Listing.{most_listed}
use Rattle.regular.specs.Regular.{pairs}
use Rattle.regular.specs.private.Tested.{put, codes_found}
use Rattle.rules.specs.declared.listing.AllowedArgs.{AllowedArgs}
use Rattle.scalars.proofs.Fills.{filled}

sets_append : {A : Type 0} (l : List A) (i : ℕ) (xs ys : List A) → sets (sets l i xs) (i + length xs) ys ≡ sets l i (xs ++ ys)
sets_append l i [] ys = ap (λ (n : ℕ). sets l n ys) (add-zero i)
sets_append l i (x ∷ xs) ys =
    ap (λ (n : ℕ). sets (sets l i (x ∷ xs)) n ys) (add-suc i (length xs) ∙ sym (suc-add i (length xs)))
    ∙ sets_append _ (suc i) xs ys

put-again : (found : AllowedArgs) (xs ys : List ℕ) → put (put found xs) ys ≡ put found (xs ++ ys)
unfolding put
put-again found xs ys =
    ap₂ (λ (a : List ℕ) (n : ℕ). record { codes = a; count = n }) (sets_append found.codes found.count xs ys)
    (add_assoc found.count (length xs) (length ys) ∙ ap (λ (n : ℕ). found.count + n) (sym (length-append xs ys)))

put-none : (found : AllowedArgs) → put found [] ≡ found
unfolding put
put-none found = ap (λ (n : ℕ). record { codes = found.codes; count = n }) (add-zero found.count)

put_first : (ts : List ℕ) → length ts ≤ most_listed → put (record { codes = replicate most_listed unused; count = 0 }) ts ≡ codes_found ts
unfolding put codes_found
put_first ts h = ap₂ (λ (a : List ℕ) (n : ℕ). record { codes = a; count = n }) (filled most_listed unused ts h) (zero-add (length ts))

put-length : (found : AllowedArgs) (ts : List ℕ) → length (put found ts).codes ≡ length found.codes
unfolding put
put-length found ts = length-sets found.codes found.count ts

put_count : (found : AllowedArgs) (ts : List ℕ) → (put found ts).count ≡ found.count + length ts
unfolding put
put_count found ts = refl

-- what such a loop has found, and the constructors that are left: together they make all the types
pub record Rows (ss all : List ℕ) (found : AllowedArgs) (left : List ℕ) : Type 0 where
  pub room : found.count + length (pairs left ss) ≤ most_listed
  pub long : length found.codes ≡ most_listed
  pub whole : put found (pairs left ss) ≡ codes_found (pairs all ss)

pub rows_start : (ss all : List ℕ) {a : List ℕ} → length (pairs all ss) ≤ most_listed → a ≡ replicate most_listed unused → Rows ss all (record { codes = a; count = 0 }) all
rows_start ss all h e = record {
  room = omega arith;
  long = ap length e ∙ length-replicate {A = ℕ} most_listed unused;
  whole = ap (λ (b : List ℕ). put (record { codes = b; count = 0 }) (pairs all ss)) e ∙ put_first (pairs all ss) h;
}

module _ {ss all left rest : List ℕ} {found : AllowedArgs} {k : ℕ} (rows : Rows ss all found left) (e : left ≡ k ∷ rest) where
  row-length : length (pairs left ss) ≡ length ss + length (pairs rest ss)
  row-length =
      ap (λ (ks : List ℕ). length (pairs ks ss)) e ∙ length-append (map (type_code k) ss) (pairs rest ss)
      ∙ ap (λ (n : ℕ). n + length (pairs rest ss)) (length-map ss (type_code k))

  pub rows-room : found.count + length ss ≤ most_listed
  rows-room = omega (arith, rows.room, row-length)

  pub rows_next : {next : AllowedArgs} → next ≡ put found (map (type_code k) ss) → Rows ss all next rest
  rows_next f = subst⁻¹ (λ (c : AllowedArgs). Rows ss all c rest) f record {
    room = omega (arith, rows.room, row-length, put_count found (map (type_code k) ss), length-map ss (type_code k));
    long = put-length found (map (type_code k) ss) ∙ rows.long;
    whole = put-again found (map (type_code k) ss) (pairs rest ss) ∙ ap (λ (ks : List ℕ). put found (pairs ks ss)) (sym e) ∙ rows.whole;
  }

pub rows_end : {ss all left : List ℕ} {found : AllowedArgs} → Rows ss all found left → left ≡ [] → found ≡ codes_found (pairs all ss)
rows_end {ss} {all} {left} {found} rows e = sym (ap (λ (ks : List ℕ). put found (pairs ks ss)) e ∙ put-none found) ∙ rows.whole
