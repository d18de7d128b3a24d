-- `next_token` answers the definition's next token, by the byte at its place. Assumes nothing.
use Rattle.text.proofs.Tokens.{is-end, is_open, is_close, is_comma, is-run, placed}
use Rattle.text.proofs.token.next_token.Goals as goal

pub returns-in-None : goal.returns-in-None
returns-in-None c = let e = is-end _ _ _ c.skip_spaces-start.ensures c.in-None.ensures.lookup.3 in record { token = e; place = placed _ _ e }

pub returns-in-Some-eq40 : goal.returns-in-Some-eq40
returns-in-Some-eq40 c =
    let e = is_open _ _ _ c.skip_spaces-start.ensures c.in-Some-eq40.ensures.lookup.3.0 _ (c.in-Some-eq40.ensures.lookup.3.1 0) c.in-Some-eq40.field-0-test in
    record { token = e; place = placed _ _ e }

pub returns-in-Some-eq41 : goal.returns-in-Some-eq41
returns-in-Some-eq41 c =
    let e = is_close _ _ _ c.skip_spaces-start.ensures c.in-Some-eq41.ensures.lookup.3.0 _ (c.in-Some-eq41.ensures.lookup.3.1 0) c.in-Some-eq41.field-0-test in
    record { token = e; place = placed _ _ e }

pub returns-in-Some-eq44 : goal.returns-in-Some-eq44
returns-in-Some-eq44 c =
    let e = is_comma _ _ _ c.skip_spaces-start.ensures c.in-Some-eq44.ensures.lookup.3.0 _ (c.in-Some-eq44.ensures.lookup.3.1 0) c.in-Some-eq44.field-0-test in
    record { token = e; place = placed _ _ e }

pub returns-in-Some : goal.returns-in-Some
returns-in-Some c =
    let there = c.in-Some.ensures.lookup.3 in
    let other = c.in-Some.field-0-test in
    let e = is-run _ _ _ c.skip_spaces-start.ensures there.0 _ (there.1 0) other.0.0.1 other.0.1 other.1 _ c.run_end.ensures in
    record { token = e; place = placed _ _ e }
