-- What the contracts of `call_of` and `survivors_of` permit is by WGSL's ranks, as specs/WgslCalls.antt states it: Demand 2 says which rule and
-- which survivors the answers hold, and they are those of the listing. Assumes nothing.
use mathlib.Core.Path.{◌≡◌, sym, ap, ◌∙◌, subst}
use mathlib.Core.Bool.{Bool, true}
use mathlib.Core.List.{List}
use Prim.Native.Nat.{ℕ}
use Rattle.types.specs.Operand.{any_mark, concrete_only}
use Rattle.rules.specs.Signature.{Signature}
use Rattle.rules.specs.Rule.{signature_of}
use Rattle.rules.proofs.Records.{record_says}
use Rattle.functions.specs.Functions.{listing_of}
use Rattle.functions.proofs.Database.{four-arguments}
use Rattle.lists.specs.declared.list.Chosen.{Chosen}
use Rattle.calls.specs.CallPaper.{call_paper}
use Rattle.calls.specs.SurvivorsPaper.{survivors_paper}
use Rattle.std.specs.Prelude.{Ok}
use Rattle.theorems.specs.Taking.{Taken, Survive}
use Rattle.theorems.specs.Calls.{Call}
use Rattle.theorems.specs.Wgsl.{over_wgsl, Outranks, Ranked}
use Rattle.theorems.specs.WgslCalls.{Survivor, CallByRank, Answers}
use Rattle.theorems.proofs.Calls.{demand_2}
use Rattle.theorems.proofs.AcceptedCalls.{accepted-call}
use Rattle.theorems.proofs.WgslFunctions.{preferred-is_wgsl, ties}

by_rank : (switch : Bool) (f : ℕ) (ts ms : List ℕ) (c : Chosen) (measured : Bool) (m : ℕ) → Call switch f ts ms (call_paper (Ok (record { chosen = c; measured = measured })))
    → Survive (concrete_only switch (any_mark ms)) (listing_of f) ts m → over_wgsl ts ≡ true → CallByRank f ts c m
unfolding Ranked
by_rank switch f ts ms c measured m call survive w =
    let asks = concrete_only switch (any_mark ms) in
    let d = accepted-call switch f ts ms c measured call in
    let p = d.rule in
    let says : signature_of c.rule ≡ p = ap signature_of d.is ∙ record_says p (four-arguments f c.index p d.best.there) in
    let ranked = preferred-is_wgsl f asks ts w c.index p d.best in
    let strict = ties f asks ts w c.index p d.best in
    let taken : (i : ℕ) (q : Signature) → Survivor f m i q → Taken asks (listing_of f) ts =
    λ i q s. record { index = i; rule = q; there = s.there; takes = (survive.exactly i q s.there).0 s.survives } in
    record {
      over = subst (λ (q : Signature). over_wgsl q.arguments ≡ true) (sym says) ranked.over;
      unbeaten = λ i q s o. ranked.unbeaten (taken i q s) s.over (subst (Outranks ts q) says o);
      same = λ i q s. rw says (strict.same (taken i q s) s.over);
      once = λ n i q s. rw says (strict.once n (taken i q s) s.over);
    }

pub answers : Answers
answers κs a q v e r p w c measured called m members =
    by_rank a.1.1.1.0 a.0 a.1.0.now a.1.1.0.now c measured m
    (rw called at (demand_2.calls κs a r v p))
    ((demand_2.survivors κs a q v e r p).survive m (ap survivors_paper members)) w
