use Rattle.std.proofs.Common.{◌≡◌, ◌++◌, [], take, Some, sym, ap, ◌∙◌, append-nil, arith}
use Rattle.std.specs.Prelude.{string_bytes, encode_utf8}
use Rattle.haya_yaml_text.specs.Scalars.{behind, gap_text, is_apart, scalar, sign_of}
use Rattle.haya_yaml_text.specs.Turns.{run}
use Rattle.haya_yaml_text.specs.declared.scalar.Fold.TheVariants.{Inside, Joined}
use Rattle.haya_yaml_text.specs.declared.sign.Sign.TheVariants.{Ends, Closes, Wrong, Stands, Joins, Means}
use Rattle.haya_yaml_text.proofs.Cuts.{behind_sign, sign_is_last}
use Rattle.haya_yaml_text.proofs.Steps.{added, added_two, at_closes, at_ends, at_joins, at_means, at_stands, at_wrong}
use Rattle.haya_yaml_text.proofs.scalar.put_sign.Goals as goal

pub behind-requires : goal.behind-requires
behind-requires c =
    let is : sign_of c.args.lines c.args.style (is_apart c.args.fold c.args.white.now) c.args.text.now ≡ Closes = ap (λ a. sign_of c.args.lines c.args.style a c.args.text.now) (sym c.is_apart.ensures) ∙ sym c.sign_of.ensures ∙ c.in-Closes.is in
    behind_sign 0 c.args.text.now c.utf8.text (sign_is_last _ _ _ c.args.text.now Closes c.requires.some is)

pub behind-requires-in-Joins : goal.behind-requires-in-Joins
behind-requires-in-Joins c =
    let is : sign_of c.args.lines c.args.style (is_apart c.args.fold c.args.white.now) c.args.text.now ≡ Joins = ap (λ a. sign_of c.args.lines c.args.style a c.args.text.now) (sym c.is_apart.ensures) ∙ sym c.sign_of.ensures ∙ c.in-Joins.is in
    behind_sign 1 c.args.text.now c.utf8.text (sign_is_last _ _ _ c.args.text.now Joins c.requires.some is)

pub behind-requires-in-Means : goal.behind-requires-in-Means
behind-requires-in-Means c =
    let is : sign_of c.args.lines c.args.style (is_apart c.args.fold c.args.white.now) c.args.text.now ≡ Means c.in-Means.c c.in-Means.count = ap (λ a. sign_of c.args.lines c.args.style a c.args.text.now) (sym c.is_apart.ensures) ∙ sym c.sign_of.ensures ∙ c.in-Means.is in
    behind_sign c.in-Means.count c.args.text.now c.utf8.text (sign_is_last _ _ _ c.args.text.now (Means c.in-Means.c c.in-Means.count) c.requires.some is)

pub returns-in-Ends-clause-ok : goal.returns-in-Ends-clause-ok
returns-in-Ends-clause-ok c =
    let is : sign_of c.args.lines c.args.style (is_apart c.args.fold c.args.white.now) c.args.text.now ≡ Ends = ap (λ a. sign_of c.args.lines c.args.style a c.args.text.now) (sym c.is_apart.ensures) ∙ sym c.sign_of.ensures ∙ c.in-Ends.is in
    ap (behind (string_bytes c.args.out.now)) (at_ends c.args.lines c.args.style c.args.fold c.args.white.now c.args.text.now c.requires.some c.requires.solid is)
    ∙ ap (λ t. Some (string_bytes c.args.out.now ++ [], t)) (sym c.without_comment.ensures)
    ∙ ap (λ t. Some (t, c.without_comment.result.now)) (append-nil (string_bytes c.args.out.now))

pub returns-in_ok-push_gap-in-Closes-clause-ok : goal.returns-in_ok-push_gap-in-Closes-clause-ok
returns-in_ok-push_gap-in-Closes-clause-ok c =
    let is : sign_of c.args.lines c.args.style (is_apart c.args.fold c.args.white.now) c.args.text.now ≡ Closes = ap (λ a. sign_of c.args.lines c.args.style a c.args.text.now) (sym c.is_apart.ensures) ∙ sym c.sign_of.ensures ∙ c.in-Closes.is in
    ap (behind (string_bytes c.args.out.now)) (at_closes c.args.lines c.args.style c.args.fold c.args.white.now c.args.text.now c.requires.some c.requires.solid is)
    ∙ ap (λ t. Some (string_bytes c.args.out.now ++ gap_text c.args.fold c.args.white.now, t)) (sym c.behind.ensures.rest)
    ∙ ap (λ t. Some (t, c.behind.result.now)) (sym c.in_ok-push_gap-in-Closes.ensures.ok)

pub returns-in-Wrong-clause-refused : goal.returns-in-Wrong-clause-refused
returns-in-Wrong-clause-refused c f e =
    let is : sign_of c.args.lines c.args.style (is_apart c.args.fold c.args.white.now) c.args.text.now ≡ Wrong = ap (λ a. sign_of c.args.lines c.args.style a c.args.text.now) (sym c.is_apart.ensures) ∙ sym c.sign_of.ensures ∙ c.in-Wrong.is in
    at_wrong c.args.lines c.args.style c.args.fold c.args.white.now c.args.text.now c.requires.some c.requires.solid is

pub returns-in_ok-rest-in-Stands-clause-ok : goal.returns-in_ok-rest-in-Stands-clause-ok
returns-in_ok-rest-in-Stands-clause-ok c =
    let text = c.args.text.now in
    let is : sign_of c.args.lines c.args.style (is_apart c.args.fold c.args.white.now) text ≡ Stands = ap (λ a. sign_of c.args.lines c.args.style a text) (sym c.is_apart.ensures) ∙ sym c.sign_of.ensures ∙ c.in-Stands.is in
    added_two (string_bytes c.args.out.now) (string_bytes c.push_gap-in-Stands.new.out) (string_bytes c.push_run.new.out) (gap_text c.args.fold c.args.white.now) (take (run c.args.style text) text) _
    (scalar c.args.lines c.args.style 0 Inside [] c.in_ok-rest-in-Stands.rest.now)
    (at_stands c.args.lines c.args.style c.args.fold c.args.white.now text c.requires.some c.requires.solid is
    ∙ ap (λ t. behind (gap_text c.args.fold c.args.white.now ++ take (run c.args.style text) text) (scalar c.args.lines c.args.style 0 Inside [] t)) (sym c.in_ok-rest-in-Stands.ensures.ok.0))
    c.in_ok-push_gap-in-Stands.ensures.ok c.in_ok-rest-in-Stands.ensures.ok.1

pub returns-in_ok-push_gap-in-Joins-clause-ok : goal.returns-in_ok-push_gap-in-Joins-clause-ok
returns-in_ok-push_gap-in-Joins-clause-ok c =
    let text = c.args.text.now in
    let is : sign_of c.args.lines c.args.style (is_apart c.args.fold c.args.white.now) text ≡ Joins = ap (λ a. sign_of c.args.lines c.args.style a text) (sym c.is_apart.ensures) ∙ sym c.sign_of.ensures ∙ c.in-Joins.is in
    added (string_bytes c.args.out.now) (string_bytes c.push_gap-in-Joins.new.out) (gap_text c.args.fold c.args.white.now) _
    (scalar c.args.lines c.args.style 0 (Joined 0) [] c.behind-in-Joins.result.now)
    (at_joins c.args.lines c.args.style c.args.fold c.args.white.now text c.requires.some c.requires.solid is
    ∙ ap (λ t. behind (gap_text c.args.fold c.args.white.now) (scalar c.args.lines c.args.style 0 (Joined 0) [] t)) (sym c.behind-in-Joins.ensures.rest))
    c.in_ok-push_gap-in-Joins.ensures.ok

pub returns-in_ok-push-in-Means-clause-ok : goal.returns-in_ok-push-in-Means-clause-ok
returns-in_ok-push-in-Means-clause-ok c =
    let text = c.args.text.now in
    let x = c.in-Means.c in
    let n = c.in-Means.count in
    let is : sign_of c.args.lines c.args.style (is_apart c.args.fold c.args.white.now) text ≡ Means x n = ap (λ a. sign_of c.args.lines c.args.style a text) (sym c.is_apart.ensures) ∙ sym c.sign_of.ensures ∙ c.in-Means.is in
    let pushed : string_bytes c.push.new.self ≡ string_bytes c.push_gap-in-Means.new.out ++ encode_utf8 x = grind arith in
    added_two (string_bytes c.args.out.now) (string_bytes c.push_gap-in-Means.new.out) (string_bytes c.push.new.self) (gap_text c.args.fold c.args.white.now) (encode_utf8 x) _
    (scalar c.args.lines c.args.style 0 Inside [] c.behind-in-Means.result.now)
    (at_means c.args.lines c.args.style c.args.fold c.args.white.now text x n c.requires.some c.requires.solid is
    ∙ ap (λ t. behind (gap_text c.args.fold c.args.white.now ++ encode_utf8 x) (scalar c.args.lines c.args.style 0 Inside [] t)) (sym c.behind-in-Means.ensures.rest))
    c.in_ok-push_gap-in-Means.ensures.ok pushed
