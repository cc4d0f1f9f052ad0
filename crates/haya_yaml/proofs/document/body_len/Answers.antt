use Rattle.std.proofs.Common.{◌≡◌, ℕ, List, ◌+◌, ◌<◌, ◌≤◌, ◌&&◌, [], length, drop, get_or, Some, None, Err, true, false, sym, ap, ◌∙◌, arith}
use Rattle.std.specs.Borrow.{Bor}
use Rattle.haya_yaml_text.specs.declared.fault.ReadError.TheVariants.{Refused}
use Rattle.haya_yaml.specs.Documents.{are_ended, behind_start, behind_stop, is_clear}
use Rattle.haya_yaml.specs.Line.{texts}
use Rattle.haya_yaml.proofs.Bodies.{body_all, body_on, body_started, body_stopped, mapped, none_of, some_of}
use Rattle.haya_yaml.proofs.document.body_len.Goals as goal

pub lines-preserved : goal.lines-preserved
lines-preserved c =
    let ls = c.args.lines.now in
    let n = c.lines.count in
    let d : Bor (List ℕ) = record { ref_ptr = (0, 0); now = [] } in
    let within : n < length ls = grind arith in
    let start : behind_start (get_or ls n d).now ≡ None = none_of _ (mapped (behind_start (get_or ls n d).now) c.behind_start.result (grind arith) (grind arith)) in
    let stop : behind_stop (get_or ls n d).now ≡ None = grind arith in
    (omega (arith, within), body_on ls n d within start stop c.lines.invariant.1)

pub returns-clause-ok : goal.returns-clause-ok
returns-clause-ok c =
    let all : length c.args.lines.now ≤ c.lines.count = grind arith in
    body_all c.args.lines.now c.lines.count all c.lines.invariant.1

pub returns-then-is_some-clause-refused : goal.returns-then-is_some-clause-refused
returns-then-is_some-clause-refused c f e =
    let ls = c.args.lines.now in
    let n = c.lines.count in
    let d : Bor (List ℕ) = record { ref_ptr = (0, 0); now = [] } in
    let within : n < length ls = grind arith in
    let start = some_of (behind_start (get_or ls n d).now) (mapped (behind_start (get_or ls n d).now) c.behind_start.result (grind arith) (grind arith)) in
    body_started ls n d start.0 within start.1 c.lines.invariant.1

pub returns-in-Some-clause-ok : goal.returns-in-Some-clause-ok
returns-in-Some-clause-ok c =
    let ls = c.args.lines.now in
    let n = c.lines.count in
    let d : Bor (List ℕ) = record { ref_ptr = (0, 0); now = [] } in
    let within : n < length ls = grind arith in
    let start : behind_start (get_or ls n d).now ≡ None = none_of _ (mapped (behind_start (get_or ls n d).now) c.behind_start.result (grind arith) (grind arith)) in
    let stop : behind_stop (get_or ls n d).now ≡ Some c.in-Some.rest.now = grind arith in
    let ends : (is_clear c.in-Some.rest.now && are_ended (texts (drop (n + 1) ls))) ≡ true = ap (λ ms. is_clear c.in-Some.rest.now && are_ended (texts ms)) (sym c.split_at.ensures.back) ∙ c.in_ok-end_document.ensures.ok in
    body_stopped ls n d c.in-Some.rest.now true within start stop ends c.lines.invariant.1

pub returns-in_err-end_document-clause-refused : goal.returns-in_err-end_document-clause-refused
returns-in_err-end_document-clause-refused c f e =
    let ls = c.args.lines.now in
    let n = c.lines.count in
    let d : Bor (List ℕ) = record { ref_ptr = (0, 0); now = [] } in
    let within : n < length ls = grind arith in
    let start : behind_start (get_or ls n d).now ≡ None = none_of _ (mapped (behind_start (get_or ls n d).now) c.behind_start.result (grind arith) (grind arith)) in
    let stop : behind_stop (get_or ls n d).now ≡ Some c.in-Some.rest.now = grind arith in
    let was : c.end_document.result ≡ Err (Refused f) = grind (arith, e) in
    let ends : (is_clear c.in-Some.rest.now && are_ended (texts (drop (n + 1) ls))) ≡ false = ap (λ ms. is_clear c.in-Some.rest.now && are_ended (texts ms)) (sym c.split_at.ensures.back) ∙ c.end_document.ensures.refused f was in
    body_stopped ls n d c.in-Some.rest.now false within start stop ends c.lines.invariant.1
