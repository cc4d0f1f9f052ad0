use Rattle.std.proofs.Common.{◌≢◌, ◌++◌, ap, ◌∙◌, rules}
use Rattle.std.specs.Prelude.{string_bytes}
use Rattle.haya_hits.proofs.ShownKeys.{shown-char}
use Rattle.haya_hits.proofs.shown.push_escaped_char.Goals as goal

pub returns-in_ok-push-in_default : goal.returns-in_ok-push-in_default
returns-in_ok-push-in_default c =
    let tab : c.args.c ≢ 9 = search rules in
    let feed : c.args.c ≢ 10 = search rules in
    let carriage : c.args.c ≢ 13 = search rules in
    let backslash : c.args.c ≢ 92 = search rules in
    c.in_ok-push-in_default.ensures.bytes ∙ ap (λ l. string_bytes c.args.line.now ++ l) (shown-char c.args.c tab feed carriage backslash)
