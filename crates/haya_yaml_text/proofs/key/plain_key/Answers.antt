use Rattle.std.proofs.Common.{◌≡◌, length, length-drop, take, drop, true, false, sym, ap, ◌∙◌, arith}
use Rattle.std.specs.Prelude.{codes}
use Rattle.std.specs.Str.{bytes_eq}
use Rattle.haya_yaml_text.specs.Signs.{begins_plain, ends_key}
use Rattle.haya_yaml_text.specs.Turns.{plain_length}
use Rattle.haya_yaml_text.specs.declared.scalar.Style.TheVariants.{Plain}
use Rattle.haya_yaml_text.proofs.Cuts.{behind_plain}
use Rattle.haya_yaml_text.proofs.PlainKeys.{found, missing}
use Rattle.haya_yaml_text.proofs.key.plain_key.Goals as goal

pub split_at-requires : goal.split_at-requires
split_at-requires c =
    let is : c.plain_length.result ≡ plain_length Plain c.args.text.now = c.plain_length.ensures.is ∙ ap (plain_length Plain) c.as_bytes-2.ensures.value in
    rw is (behind_plain Plain c.args.text.now)

pub returns-then-is_empty : goal.returns-then-is_empty
returns-then-is_empty c =
    let text = c.args.text.now in
    let is : c.plain_length.result ≡ plain_length Plain text = c.plain_length.ensures.is ∙ ap (plain_length Plain) c.as_bytes-2.ensures.value in
    let plain : begins_plain false text ≡ true = ap (begins_plain false) (sym c.as_bytes.ensures.value) ∙ sym c.begins_plain.ensures ∙ c.if-not-begins_plain.false in
    let empty : length c.split_at.result.1.now ≡ 0 = grind arith in
    let rest : length (drop c.plain_length.result text) ≡ 0 = ap length (sym c.split_at.ensures.back) ∙ empty in
    let all : plain_length Plain text ≡ length text = omega (arith, is, rest, length-drop c.plain_length.result text, c.split_at.ensures.front_len, c.split_at.ensures.back_len) in
    missing text plain all

pub returns : goal.returns
returns c =
    let text = c.args.text.now in
    let n = plain_length Plain text in
    let is : c.plain_length.result ≡ n = c.plain_length.ensures.is ∙ ap (plain_length Plain) c.as_bytes-2.ensures.value in
    let plain : begins_plain false text ≡ true = ap (begins_plain false) (sym c.as_bytes.ensures.value) ∙ sym c.begins_plain.ensures ∙ c.if-not-begins_plain.false in
    let name : c.split_at.result.0.now ≡ take n text = c.split_at.ensures.front ∙ ap (λ k. take k text) is in
    let rest : c.split_at.result.1.now ≡ drop n text = c.split_at.ensures.back ∙ ap (λ k. drop k text) is in
    let ends : ends_key false (drop n text) ≡ true = ap (ends_key false) (sym rest) ∙ ap (ends_key false) (sym c.as_bytes-else-eq.ensures.value) ∙ sym c.ends_key.ensures ∙ c.if-not-ends_key.false in
    let other : bytes_eq (take n text) (codes "<<") ≡ false = ap (λ t. bytes_eq t (codes "<<")) (sym name) ∙ sym c.eq.ensures ∙ c.if-eq.false in
    rw (name, c.tail.ensures.rest, rest) (found text plain ends other)
