use Rattle.std.proofs.Common.{◌≡◌, ◌+◌, ◌≤◌, ◌-◌, ◌==◌, ◌⊎◌, drop, false, get_or, length, not, take, sym, ap, ◌∙◌, subst, arith}
use Rattle.json.specs.Word.{is_space}
use Rattle.haya_json_elements.specs.Steps.{closing_bracket}
use Rattle.haya_slices.specs.Coming.{LeadsOut}
use Rattle.haya_slices.specs.Layout.{IsWhite}
use Rattle.haya_slices.specs.Scan.{BeginsWith}
use Rattle.haya_slices.proofs.Ending.{ended_there}
use Rattle.haya_slices.proofs.coming.ended.Goals as goal

pub returns-in-Some : goal.returns-in-Some
returns-in-Some c = λ now.
    let b = c.args.brackets in
    let bytes = c.args.bytes.now in
    let white = c.args.white in
    let len = c.args.len in
    let stop = c.trimmed_len.result in
    let left = drop white bytes in
    let rest_is : c.split_at.result.1.now ≡ left = c.split_at.ensures.back in
    let front_is : c.split_at-2.result.0.now ≡ take len left =
    c.split_at-2.ensures.front ∙ ap (take len) rest_is in
    let out : LeadsOut b bytes white len c.args.depth = record {
      mode = c.requires.mode;
      within = c.requires.within;
      before = c.requires.before;
      passed = c.requires.passed;
      outside = c.requires.outside;
      some = c.requires.some;
      begins = c.requires.begins;
    } in
    let short : stop ≤ length (take len left) =
    omega (arith, c.trimmed_len.ensures.within, ap length front_is) in
    let is_last = not (get_or c.split_at.result.1.now len 0 == 44) in
    let begins = ended_there b bytes white len c.args.depth stop is_last out
    c.in-Some.ensures.1 c.in-Some.ensures.2
    (subst (λ t. (get_or t len 0 ≡ 44) ⊎ (get_or t len 0 ≡ closing_bracket b)) rest_is
    c.in-Some.ensures.3)
    short
    (subst (λ t. IsWhite (drop stop t)) front_is c.trimmed_len.ensures.white)
    (subst (λ t. (stop ≡ 0) ⊎ (is_space (get_or t (stop - 1) 0) ≡ false)) front_is
    c.trimmed_len.ensures.tight)
    (ap (λ t. not (get_or t len 0 == 44)) rest_is) in
    let element_is : c.split_at-in-Some.result.0.now ≡ take stop left =
    c.split_at-in-Some.ensures.front ∙ ap (take stop) rest_is in
    let behind_is : c.split_at-in-Some-2.result.1.now ≡ drop (len + 1) left =
    c.split_at-in-Some-2.ensures.back ∙ ap (drop (len + 1)) rest_is in
    subst (λ t. BeginsWith b bytes t is_last c.split_at-in-Some-2.result.1.now) (sym element_is)
    (subst (λ t. BeginsWith b bytes (take stop left) is_last t) (sym behind_is) begins)
