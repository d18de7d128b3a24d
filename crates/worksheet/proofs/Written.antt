-- Bytes written one behind the other.
-- Assumes nothing.
use mathlib.Core.Path.{◌≡◌, sym, ap, ◌∙◌}
use mathlib.Core.List.{List, [], ◌++◌, append_assoc, append-nil}
use Prim.Native.Nat.{ℕ}
use native.Mathlib.Omega.{arith}
use lib.ListN.{length-append}
use Rattle.worksheet.specs.declared.sheet.Sheet.{Sheet}
use Rattle.worksheet.specs.private.Sheet.{Wrote, written}

-- bytes behind bytes
pub wrote-both : {h m r : Sheet} {bs bs' : List ℕ} → Wrote h bs m → Wrote m bs' r → Wrote h (bs ++ bs') r
wrote-both {h} {m} {r} {bs} {bs'} w w' = record {
  bytes_are = w'.bytes_are ∙ ap (λ l. l ++ bs') w.bytes_are ∙ append_assoc (written h) bs bs';
  len_is = omega (arith, w.len_is, w'.len_is, length-append bs bs');
}

pub wrote_nothing : (h : Sheet) → Wrote h [] h
wrote_nothing h = record { bytes_are = sym (append-nil (written h)); len_is = omega arith }

pub wrote_as : {h r : Sheet} {bs bs' : List ℕ} → bs ≡ bs' → Wrote h bs r → Wrote h bs' r
wrote_as e w = rw e at w
