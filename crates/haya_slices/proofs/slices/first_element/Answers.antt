use Rattle.std.proofs.Common.{◌≡◌, ◌+◌, ◌-◌, ◌<◌, ◌≤◌, ◌==◌, ◌⊎◌, drop, false, get_or, length, not, take, sym, ap, ◌∙◌, subst, arith, IsUtf8}
use Rattle.std.proofs.lemmas.Str.{IsCharBoundary-after_ascii, IsCharBoundary-before_ascii}
use Rattle.json.specs.Word.{is_space}
use Rattle.haya_slices.specs.Layout.{IsWhite}
use Rattle.haya_slices.specs.Scan.{BeginsWith, EndsAt}
use Rattle.haya_slices.proofs.First.{begins_with, behind_small, end_small, white_boundary}
use Rattle.haya_slices.proofs.slices.first_element.Goals as goal

pub split_at-requires : goal.split_at-requires
split_at-requires c =
    let same = c.as_bytes.ensures.value in
    white_boundary c.args.text.now c.white_len-start.result c.utf8.text
    (omega (arith, ap length same, c.white_len-start.ensures.within))
    (subst (λ t. IsWhite (take c.white_len-start.result t)) same c.white_len-start.ensures.white)

pub split_at-requires-3 : goal.split_at-requires-3
split_at-requires-3 c =
    let b = c.args.brackets in
    let text = c.args.text.now in
    let start = c.white_len-start.result in
    let len = c.in_ok-len.len in
    let stop = c.trimmed_len.result in
    let same = c.as_bytes.ensures.value in
    let left = drop start text in
    let rest_is : c.split_at.result.1.now ≡ left = c.split_at.ensures.back in
    let bytes_is : c.as_bytes-bytes.result.now ≡ left = c.as_bytes-bytes.ensures.value ∙ rest_is in
    let first_is : c.split_at-2.result.0.now ≡ take len left =
    c.split_at-2.ensures.front ∙ ap (take len) bytes_is in
    let ends : EndsAt b left len = subst (λ t. EndsAt b t len) bytes_is c.in_ok-len.ensures in
    let short : stop ≤ length (take len left) =
    omega (arith, c.trimmed_len.ensures.within, ap length first_is) in
    let small = behind_small b text start len stop
    (omega (arith, ap length same, c.white_len-start.ensures.within))
    (subst (λ t. IsWhite (take start t)) same c.white_len-start.ensures.white) ends short
    (subst (λ t. IsWhite (drop stop t)) first_is c.trimmed_len.ensures.white)
    (subst (λ t. (stop ≡ 0) ⊎ (is_space (get_or t (stop - 1) 0) ≡ false)) first_is
    c.trimmed_len.ensures.tight) in
    let within : stop < length c.split_at.result.1.now =
    omega (
      arith,
      c.trimmed_len.ensures.within,
      c.split_at-2.ensures.front_len,
      ends.within,
      ap length rest_is,
    ) in
    IsCharBoundary-before_ascii c.split_at.result.1.now stop within
    (subst (λ t. get_or t stop 0 < 128) (sym rest_is) small)

pub split_at-requires-4 : goal.split_at-requires-4
split_at-requires-4 c =
    let b = c.args.brackets in
    let text = c.args.text.now in
    let start = c.white_len-start.result in
    let len = c.in_ok-len.len in
    let rest = c.split_at.result.1.now in
    let bytes_is : c.as_bytes-bytes.result.now ≡ rest = c.as_bytes-bytes.ensures.value in
    let ends : EndsAt b rest len = subst (λ t. EndsAt b t len) bytes_is c.in_ok-len.ensures in
    let utf8 : IsUtf8 rest = subst IsUtf8 bytes_is c.as_bytes-bytes.ensures.utf8 in
    IsCharBoundary-after_ascii rest len utf8 ends.within (end_small b rest len ends)

pub returns : goal.returns
returns c =
    let b = c.args.brackets in
    let text = c.args.text.now in
    let start = c.white_len-start.result in
    let len = c.in_ok-len.len in
    let stop = c.trimmed_len.result in
    let same = c.as_bytes.ensures.value in
    let left = drop start text in
    let rest_is : c.split_at.result.1.now ≡ left = c.split_at.ensures.back in
    let bytes_is : c.as_bytes-bytes.result.now ≡ left = c.as_bytes-bytes.ensures.value ∙ rest_is in
    let first_is : c.split_at-2.result.0.now ≡ take len left =
    c.split_at-2.ensures.front ∙ ap (take len) bytes_is in
    let ends : EndsAt b left len = subst (λ t. EndsAt b t len) bytes_is c.in_ok-len.ensures in
    let short : stop ≤ length (take len left) =
    omega (arith, c.trimmed_len.ensures.within, ap length first_is) in
    let is_last = not (get_or c.as_bytes-bytes.result.now len 0 == 44) in
    let begins = begins_with b text start len stop
    (omega (arith, ap length same, c.white_len-start.ensures.within))
    (subst (λ t. IsWhite (take start t)) same c.white_len-start.ensures.white) ends short
    (subst (λ t. IsWhite (drop stop t)) first_is c.trimmed_len.ensures.white)
    (subst (λ t. (stop ≡ 0) ⊎ (is_space (get_or t (stop - 1) 0) ≡ false)) first_is
    c.trimmed_len.ensures.tight)
    is_last (ap (λ t. not (get_or t len 0 == 44)) bytes_is) in
    let element_is : c.split_at-3.result.0.now ≡ take stop left =
    c.split_at-3.ensures.front ∙ ap (take stop) rest_is in
    let behind_is : c.split_at-4.result.1.now ≡ drop (len + 1) left =
    c.split_at-4.ensures.back ∙ ap (drop (len + 1)) rest_is in
    subst (λ t. BeginsWith b text t is_last c.split_at-4.result.1.now) (sym element_is)
    (subst (λ t. BeginsWith b text (take stop left) is_last t) (sym behind_is) begins)
