use Rattle.std.proofs.Common.{◌≡◌, ◌++◌, ◌≤◌, length, map, take-append-drop, sym, ap₂, ◌∙◌, subst, rules}
use Rattle.std.specs.Str.{IsUtf8}
use Rattle.haya_yaml_slices.specs.Breaks.{IsBreak}
use Rattle.haya_yaml_slices.proofs.Places.{IsDividedUpTo, break_boundary, none_yet, one_more}
use Rattle.haya_yaml_slices.proofs.dividing.divided.Goals as goal

pub split_at-requires : goal.split_at-requires
split_at-requires c =
    let text = c.unmarked-content.result.now in
    let n = c.start_from.result in
    let utf8 : IsUtf8 text = subst IsUtf8 c.as_bytes-2.ensures.value c.as_bytes-2.ensures.utf8 in
    let within : n ≤ length text = subst (λ t. n ≤ length t) c.as_bytes-2.ensures.value c.start_from.ensures.within in
    let ends : IsBreak text n = subst (λ t. IsBreak t n) c.as_bytes-2.ensures.value c.start_from.ensures.ends in
    break_boundary text n utf8 within ends

pub members-init : goal.members-init
members-init c =
    let text = c.args.text.now in
    let content = c.unmarked-content.result.now in
    let n = c.start_from.result in
    let before = c.split_at.result.0.now in
    let rest = c.split_at.result.1.now in
    let split : content ≡ before ++ rest = sym (ap₂ (λ a b. a ++ b) c.split_at.ensures.front c.split_at.ensures.back ∙ take-append-drop n content) in
    let none = none_yet text content rest c.unmarked-content.ensures.0 before c.unmarked-content.ensures.1 split in
    (search rules, subst (λ ps. IsDividedUpTo text (map (λ s. s.now) ps) rest) (sym c.new-parts.ensures.items) none)

pub split_at-requires-in-members : goal.split_at-requires-in-members
split_at-requires-in-members c =
    let text = c.members.rest.now in
    let n = c.start_from-in-members.result in
    let utf8 : IsUtf8 text = subst IsUtf8 c.as_bytes-in-members-3.ensures.value c.as_bytes-in-members-3.ensures.utf8 in
    let within : n ≤ length text = subst (λ t. n ≤ length t) c.as_bytes-in-members-3.ensures.value c.start_from-in-members.ensures.within in
    let ends : IsBreak text n = subst (λ t. IsBreak t n) c.as_bytes-in-members-3.ensures.value c.start_from-in-members.ensures.ends in
    break_boundary text n utf8 within ends

pub members-preserved : goal.members-preserved
members-preserved c =
    let text = c.args.text.now in
    let rest = c.members.rest.now in
    let n = c.start_from-in-members.result in
    let parts = map (λ s. s.now) c.members.parts.items in
    let part = c.split_at-in-members.result.0.now in
    let more = c.split_at-in-members.result.1.now in
    let split : rest ≡ part ++ more =
    sym (ap₂ (λ a b. a ++ b) c.split_at-in-members.ensures.front c.split_at-in-members.ensures.back ∙ take-append-drop n rest) in
    let longer = one_more text parts part rest more split c.members.invariant.1 in
    (search rules, subst (λ ps. IsDividedUpTo text ps more) (sym c.in_ok-push.ensures) longer)
