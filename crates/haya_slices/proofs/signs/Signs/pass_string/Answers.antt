use Rattle.std.proofs.Common.{◌≡◌, ◌+◌, ◌-◌, ◌<◌, ◌++◌, ap, arith, drop, get_or, length, sym, take, ◌∙◌}
use Rattle.std.proofs.lemmas.Bool.{ne_eqb}
use Rattle.std.proofs.lemmas.List.{drop-drop, length-drop}
use Rattle.haya_json_elements.specs.declared.place.Mode.TheVariants.{Between, Text}
use Rattle.haya_slices.specs.Layout.{inside}
use Rattle.haya_slices.proofs.First.{get_or-drop_at}
use Rattle.haya_slices.proofs.Scanned.{leads_on}
use Rattle.haya_slices.proofs.Strings.{escaped, other_mark, quoted}
use Rattle.haya_slices.proofs.signs.Signs.pass_string.Goals as goal

pub returns-then-bytes-self-eq34-clause-closed : goal.returns-then-bytes-self-eq34-clause-closed
returns-then-bytes-self-eq34-clause-closed c = λ b d ys.
    let bytes = c.args.bytes.now in
    let from = c.args.self.now.start in
    let at = c.marks.self.start in
    let len = c.in_ok-first.field-0 in
    let found = c.in_ok-first.ensures.first.0 in
    let behind : c.first.new.self.start ≡ at + len + 1 = c.in_ok-first.ensures.first.1 in
    let back : drop (at - from) (drop from bytes) ≡ drop at bytes =
    drop-drop (at - from) from bytes ∙ ap (λ n. drop n bytes) (omega (arith, c.marks.invariant.order)) in
    let is : get_or (drop at bytes) len 0 ≡ 34 =
    get_or-drop_at bytes at len ∙ ap (λ n. get_or bytes n 0) (omega (arith, behind)) ∙ c.if-bytes-self-eq34.true in
    ap (λ n. inside b Text d (take n (drop from bytes) ++ ys)) (omega (arith, behind, c.marks.invariant.order))
    ∙ leads_on b Text d (drop from bytes) (at - from) (len + 1) Text d (c.marks.invariant.leads b d) Between d
    (λ zs. ap (λ t. inside b Text d (take (len + 1) t ++ zs)) back
    ∙ quoted (drop at bytes) len found.before found.within is b d zs) ys

pub marks-preserved : goal.marks-preserved
marks-preserved c =
    let bytes = c.args.bytes.now in
    let from = c.args.self.now.start in
    let at = c.marks.self.start in
    let len = c.in_ok-first.field-0 in
    let found = c.in_ok-first.ensures.first.0 in
    let behind : c.first.new.self.start ≡ at + len + 1 = c.in_ok-first.ensures.first.1 in
    let after : c.pass_byte.new.self.start ≡ at + len + 2 = omega (arith, behind, c.in_ok-pass_byte.ensures.start) in
    let signs = c.in_ok-pass_byte.ensures.signs in
    let back : drop (at - from) (drop from bytes) ≡ drop at bytes =
    drop-drop (at - from) from bytes ∙ ap (λ n. drop n bytes) (omega (arith, c.marks.invariant.order)) in
    let inside_rest : len + 1 < length (drop at bytes) =
    omega (arith, length-drop at bytes, after, signs.order, signs.within) in
    let other = c.if-bytes-self-eq34.false in
    let same : get_or bytes (c.first.new.self.start - 1) 0 ≡ get_or (drop at bytes) len 0 =
    ap (λ n. get_or bytes n 0) (omega (arith, behind)) ∙ sym (get_or-drop_at bytes at len) in
    let is : get_or (drop at bytes) len 0 ≡ 92 =
    other_mark (get_or (drop at bytes) len 0) found.there (ne_eqb (get_or (drop at bytes) len 0) 34 (λ e. other (same ∙ e))) in
    record {
      signs = signs;
      order = omega (arith, after, c.marks.invariant.order);
      leads = λ b d ys.
          ap (λ n. inside b Text d (take n (drop from bytes) ++ ys)) (omega (arith, after, c.marks.invariant.order))
          ∙ leads_on b Text d (drop from bytes) (at - from) (len + 2) Text d (c.marks.invariant.leads b d) Text d
          (λ zs. ap (λ t. inside b Text d (take (len + 2) t ++ zs)) back
          ∙ escaped (drop at bytes) len found.before inside_rest is b d zs) ys;
    }
