use Rattle.std.proofs.Common.{◌≡◌, ℕ, ◌+◌, ◌-◌, ◌<◌, suc, true, false, arith, rules, length, ap, sym, ◌∙◌}
use Rattle.std.specs.Str.{bytes_eq}
use Rattle.haya_formats.specs.Formats.{list_named, members_in}
use Rattle.haya_formats.proofs.Members.{named_here, named_later, named_nowhere}
use Rattle.haya_formats.proofs.format.has_list.Goals as goal

one_less : (k n : ℕ) → k < n → n - k ≡ suc (n - (k + 1))
one_less k n less = omega arith

pub returns-then-eq : goal.returns-then-eq
returns-then-eq c =
    let name = c.args.name.now in
    let is : bytes_eq c.in-Some.found.now name ≡ true = search rules in
    c.begins_list.ensures ∙ named_here name c.in-Some.found.now _ _ c.in-Some.ensures.name _ is
    ∙ ap (λ n. list_named name (members_in n c.members.reader)) (sym (one_less _ _ c.members-test.true)) ∙ c.members.invariant

pub returns-in_default-skip_value : goal.returns-in_default-skip_value
returns-in_default-skip_value c =
    let name = c.args.name.now in
    let other : bytes_eq c.in-Some.found.now name ≡ false = search rules in
    named_nowhere name c.in-Some.found.now _ _ c.in-Some.ensures.name _ other c.in_default-skip_value.ensures.value
    ∙ ap (λ n. list_named name (members_in n c.members.reader)) (sym (one_less _ _ c.members-test.true)) ∙ c.members.invariant

pub members-preserved : goal.members-preserved
members-preserved c =
    let name = c.args.name.now in
    let other : bytes_eq c.in-Some.found.now name ≡ false = search rules in
    named_later name c.in-Some.found.now _ _ c.in-Some.ensures.name _ _ other c.in-Ok.ensures.value
    ∙ ap (λ n. list_named name (members_in n c.members.reader)) (sym (one_less _ _ c.members-test.true)) ∙ c.members.invariant

pub returns : goal.returns
unfolding members_in
returns c =
    let name = c.args.name.now in
    let over : length c.args.members.now - c.members.counter ≡ 0 = omega arith in
    ap (λ n. list_named name (members_in n c.members.reader)) (sym over) ∙ c.members.invariant
