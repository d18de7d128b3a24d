-- A call in the second pass, once it is known what the call comes to: the refusal with its place, or the conversions, the call's line and
-- the result in place of the operands.
-- Assumes nothing.
use mathlib.Core.Path.{◌≡◌, refl, sym, ap, ap₂, ◌∙◌, subst⁻¹}
use mathlib.Core.Bool.{Bool}
use mathlib.Core.List.{List, [], ◌∷◌, ◌++◌}
use Prim.Native.Nat.{ℕ, ◌+◌, ◌-◌, ◌≤◌, ◌<◌}
use native.Mathlib.Omega.{arith}
use lib.ListN.{length, get_or, take, drop, length-append, length-take}
use lib.Seq.{take-add, take_at, drop_at, get_or-take, get_or-append-add}
use Rattle.types.specs.Operand.{mark_of, codes, marks, any_measured, any_mark, concrete_only}
use Rattle.types.specs.declared.operand.Operand.{Operand}
use Rattle.types.proofs.Operands.{codes-length, marks-length, measured-marks}
use Rattle.rules.specs.Rule.{arguments_of, rule_of}
use Rattle.rules.specs.Signature.{Signature}
use Rattle.calls.specs.Choice.{none_left, Choice, chosen, wrong_count, none_after, none_concrete, resolve, resolve_of}
use Rattle.functions.specs.Functions.{listing_of}
use Rattle.calls.specs.Call.{answered}
use Rattle.calls.specs.OutcomePaper.{outcome_paper}
use Rattle.calls.specs.declared.outcome.NoRule.TheVariants.{WrongCount, NoneAfter, NoneConcrete}
use Rattle.std.proofs.Common.{Ok, Err}
use Rattle.rules.specs.declared.rule.Rule as rules
use Rattle.rules.specs.declared.rule.Part.{Part}
use Rattle.lists.specs.declared.list.Chosen.{Chosen}
use Rattle.scalars.specs.declared.refusal.Refusal.{Refusal}
use Rattle.scalars.specs.declared.refusal.Refusal.TheVariants as refusal
use Rattle.scalars.specs.Paper as paper
use Rattle.worksheet.specs.declared.sheet.Sheet.{Sheet}
use Rattle.worksheet.specs.declared.stack.Stack.{Stack}
use Rattle.machine.specs.Line.{call_line, call_kind, conversions, call_lines, encode}
use Rattle.worksheet.specs.Typer.{conclude}
use Rattle.worksheet.specs.private.Sheet.{enough_bytes, Wrote}
use Rattle.worksheet.specs.private.Stack.{top_part, Pushed, Cut}
use Rattle.worksheet.specs.private.SecondPass.{ConversionRoom, CallThere, CallClaim, OnTop, CallTyped}
use Rattle.calls.proofs.OutcomePapers.{choice_of, operand-there}
use Rattle.machine.proofs.LineBytes.{encode_append}
use Rattle.worksheet.proofs.Room.{four-each, few-conversions}
use Rattle.worksheet.proofs.Written.{wrote-both, wrote_as}
use Rattle.worksheet.proofs.CallFacts.{Ruled, ruled}

module _ (l : List ℕ) (top n : ℕ) (ts us : List ℕ) (e : take top l ≡ ts ++ us) (many : length us ≡ n) (low : length ts + n ≡ top) where
  halves : take (top - n) l ++ top_part l top n ≡ ts ++ us
  halves =
      let k : (top - n) + (top - (top - n)) ≡ top = omega arith in
      sym (take-add (top - n) (top - (top - n)) l) ∙ ap (λ i. take i l) k ∙ e

  front_long : length (take (top - n) l) ≡ top - n
  front_long = omega (arith, length-take (top - n) l, length-take top l, ap length e, length-append ts us)

  front-is : take (top - n) l ≡ ts
  front-is =
      sym (take_at (take (top - n) l) (top_part l top n) (top - n) front_long) ∙ ap (take (top - n)) halves
      ∙ take_at ts us (top - n) (omega arith)

  part-is : top_part l top n ≡ us
  part-is =
      sym (drop_at (take (top - n) l) (top_part l top n) (top - n) front_long) ∙ ap (drop (top - n)) halves
      ∙ drop_at ts us (top - n) (omega arith)

  at_part : (k : ℕ) → k < n → get_or l (top - n + k) 0 ≡ get_or us k 0
  at_part k h =
      let i : top - n + k ≡ length ts + k = omega arith in
      sym (get_or-take top l (top - n + k) 0 (omega arith)) ∙ ap₂ (λ m j. get_or m j 0) e i ∙ get_or-append-add ts us k 0

-- the part that is asked has as many operands as the call, or fewer
pub part_length : (l : List ℕ) (top n : ℕ) → n ≤ top → length (top_part l top n) ≤ n
part_length l top n h = omega (arith, length-take (top - (top - n)) (drop (top - n) l))

module _ (f n at : ℕ) (switch : Bool) (s : Stack) (h : Sheet) where
  -- the types and the marks that are asked
  abbrev asked : List ℕ
  asked = top_part s.types s.top n

  abbrev marked : List ℕ
  marked = top_part s.marks s.top n

  module _ (measured concrete : Bool) (any : measured ≡ any_mark marked) (only : concrete ≡ concrete_only switch measured) where
    abbrev choice : Choice
    choice = resolve concrete (listing_of f) asked

    -- the operands on top are those that are asked
    module _ (ts ms : List ℕ) (us : List Operand) (ps qs : List ℕ) (on : OnTop s n ts ms us ps qs) where
      types-there : asked ≡ codes us
      types-there = part-is s.types s.top n ts (codes us) on.types_are (codes-length us ∙ on.many) on.types-low

      any-there : measured ≡ any_measured us
      any-there =
          any ∙ ap any_mark (part-is s.marks s.top n ms (marks us) on.marks_are (marks-length us ∙ on.many) on.marks-low)
          ∙ measured-marks us

      -- the choice for the operands themselves
      told : resolve_of switch (listing_of f) us ≡ choice
      told =
          ap₂ (λ b l. resolve b (listing_of f) l) (ap (concrete_only switch) (sym any-there) ∙ sym only) (sym types-there)

    -- ---- a refusal, with its place

    ended_by : (q : Refusal) (c : Choice) (s' : Stack) (h' : Sheet) → choice ≡ c
        → ((us : List Operand) (qs : List ℕ) → ((k : ℕ) → k < n → get_or s.starts (s.top - n + k) 0 ≡ get_or qs k 0)
        → (ts ms ps : List ℕ) → CallClaim at ts ms ps h (Err q) s' h' (conclude f at qs us [] c))
        → CallTyped f n at switch s h (Err q) s' h'
    unfolding CallTyped
    ended_by q c s' h' e claim ts ms us ps qs on =
        subst⁻¹ (λ (x : Choice). CallClaim at ts ms ps h (Err q) s' h' (conclude f at qs us [] x)) (told ts ms us ps qs on ∙ e)
        (claim us qs (at_part s.starts s.top n ps qs on.starts_are on.placed on.starts-low) ts ms ps)

    -- the operand after which no rule is left is one of the call's
    pub operand-here : n ≤ s.top → (part : Part) (k : ℕ) → outcome_paper (Err (NoneAfter part k)) ≡ answered choice → k < n
    operand-here l part k e =
        omega (
          arith,
          operand-there concrete (listing_of f) asked part k (choice_of (Err (NoneAfter part k)) choice e),
          part_length s.types s.top n l,
        )

    module _ (s' : Stack) (h' : Sheet) where
      pub call-miscounted : outcome_paper (Err WrongCount) ≡ answered choice → CallTyped f n at switch s h (Err (refusal.WrongCount at)) s' h'
      call-miscounted e =
          ended_by (refusal.WrongCount at) wrong_count s' h' (choice_of (Err WrongCount) choice e) (λ us qs g ts ms ps. refl)

      pub call-none_after : n ≤ s.top → (part : Part) (k : ℕ) (why : Refusal) → paper.refusal_paper why ≡ paper.refusal (none_left part) (get_or s.starts (s.top - n + k) 0) []
          → outcome_paper (Err (NoneAfter part k)) ≡ answered choice → CallTyped f n at switch s h (Err why) s' h'
      call-none_after l part k why is e =
          ended_by why (none_after part k) s' h' (choice_of (Err (NoneAfter part k)) choice e)
          (λ us qs g ts ms ps. is ∙ ap (λ (x : ℕ). paper.refusal (none_left part) x []) (g k (operand-here l part k e)))

      pub call-none_concrete : outcome_paper (Err NoneConcrete) ≡ answered choice → CallTyped f n at switch s h (Err (refusal.EmptySet at)) s' h'
      call-none_concrete e =
          ended_by (refusal.EmptySet at) none_concrete s' h' (choice_of (Err NoneConcrete) choice e) (λ us qs g ts ms ps. refl)

    -- ---- a rule

    -- the lines of a call whose rule's record is the answer's
    lines_are : (us : List ℕ) (i : ℕ) (r : Signature) → Ruled us r → length us ≡ n
        → encode (conversions us (arguments_of (rule_of r))) ++ (call_kind ∷ f ∷ i ∷ n ∷ []) ≡ encode (call_lines f i us r)
    unfolding encode
    lines_are us i r k m =
        sym (encode_append (conversions us r.arguments) (call_line f i (length us) ∷ [])
        ∙ ap₂ (λ az x. encode (conversions us az) ++ (call_kind ∷ f ∷ i ∷ x ∷ [])) (sym k.fields) m)

    module _ (x : Chosen) (m m' : Sheet) (s' s'' : Stack) (conv : Wrote h (encode (conversions asked (arguments_of x.rule))) m)
        (line : Wrote m (call_kind ∷ f ∷ x.index ∷ n ∷ []) m') (cut : Cut s n s')
        (push : Pushed s' (record { code = x.rule.result; measured = measured } ∷ []) (at ∷ []) s'') where
      pub call-ruled : outcome_paper (Ok x) ≡ answered choice → CallTyped f n at switch s h (Ok tt) s'' m'
      unfolding CallTyped rule_of
      call-ruled e ts ms us ps qs on =
          let c = choice_of (Ok x) choice e in
          let r = c.0 in
          let rule : rule_of r ≡ x.rule = c.2 in
          let is : resolve_of switch (listing_of f) us ≡ chosen x.index r = told ts ms us ps qs on ∙ c.1 in
          let typed : length (codes us) ≡ n = codes-length us ∙ on.many in
          let marked : length (marks us) ≡ n = marks-length us ∙ on.many in
          subst⁻¹ (λ (y : Choice). CallClaim at ts ms ps h (Ok tt) s'' m' (conclude f at qs us [] y)) is
          record {
            answer_is = refl;
            types_are = push.types_are
                ∙ ap₂ (λ l t. l ++ (t ∷ []))
                (ap₂ take cut.top_is cut.types_same ∙ front-is s.types s.top n ts (codes us) on.types_are typed on.types-low)
                (sym (ap (λ y. y.result) rule));
            marks_are = push.marks_are
                ∙ ap₂ (λ l b. l ++ (mark_of b ∷ []))
                (ap₂ take cut.top_is cut.marks-same ∙ front-is s.marks s.top n ms (marks us) on.marks_are marked on.marks-low)
                (any-there ts ms us ps qs on);
            starts_are = push.starts_are
                ∙ ap (λ l. l ++ (at ∷ []))
                (ap₂ take cut.top_is cut.starts-same ∙ front-is s.starts s.top n ps qs on.starts_are on.placed on.starts-low);
            top_is = omega (arith, push.top_is, cut.top_is, on.types-low);
            wrote = wrote_as (lines_are (codes us) x.index r (ruled (concrete_only switch (any_measured us)) f (codes us) x.index r is) typed)
                (wrote-both
                (wrote_as (ap₂ (λ l y. encode (conversions l (arguments_of y))) (types-there ts ms us ps qs on) (sym rule)) conv) line);
          }

-- there is room for the conversions, and then for the call's line
pub conversion-room : {s : Stack} {h : Sheet} (n : ℕ) (rule : rules.Rule) → CallThere n s h
    → length (top_part s.types s.top n) ≤ length (arguments_of rule) → ConversionRoom (top_part s.types s.top n) rule h
conversion-room {s} {h} n rule k t = record { taken = t; room = omega (arith, part_length s.types s.top n k.enough, k.room) }

pub line_room : (n : ℕ) (s : Stack) (h m : Sheet) (az : List ℕ) → CallThere n s h
    → Wrote h (encode (conversions (top_part s.types s.top n) az)) m → m.len + 4 ≤ enough_bytes
line_room n s h m az k w =
    let us = top_part s.types s.top n in
    omega (arith, w.len_is, four-each (conversions us az), few-conversions us az, part_length s.types s.top n k.enough, k.room)
