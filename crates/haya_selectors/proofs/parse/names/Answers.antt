use Rattle.std.proofs.lemmas.List.{map-append}
use Rattle.haya_selectors.proofs.Parsing.{names_closed, names_none, names_last, names_no_comma, names_next}
use Rattle.haya_selectors.proofs.parse.names.Goals as goal

pub returns-then-eat_sign-clause-value : goal.returns-then-eat_sign-clause-value
returns-then-eat_sign-clause-value c = names_closed c.list.invariant c.if-eat_sign.ensures

pub returns-in_default-clause-value : goal.returns-in_default-clause-value
returns-in_default-clause-value c = names_none c.list.invariant c.if-eat_sign.ensures.0 c.if-eat_sign.ensures.1 c.in_default.ensures.0

pub returns-then-eat_sign-2-clause-value : goal.returns-then-eat_sign-2-clause-value
returns-then-eat_sign-2-clause-value c =
    rw (c.in_ok-push.ensures.items, map-append, c.in_ok-from_str.ensures.ok) (names_last c.list.invariant c.if-eat_sign.ensures.1 c.in-Some.ensures c.if-eat_sign-2.ensures)

pub returns-then-not-eat_sign-clause-value : goal.returns-then-not-eat_sign-clause-value
returns-then-not-eat_sign-clause-value c = names_no_comma c.list.invariant c.if-eat_sign.ensures.1 c.in-Some.ensures c.if-eat_sign-2.ensures.0 c.if-eat_sign-2.ensures.1 c.if-not-eat_sign.ensures.0

pub list-preserved : goal.list-preserved
list-preserved c =
    rw (c.in_ok-push.ensures.items, map-append, c.in_ok-from_str.ensures.ok) (names_next c.list.invariant c.if-eat_sign.ensures.1 c.in-Some.ensures c.if-eat_sign-2.ensures.1 c.if-not-eat_sign.ensures)
