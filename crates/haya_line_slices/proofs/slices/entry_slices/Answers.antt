use Rattle.std.proofs.Common.{◌++◌, ◌∷◌, [], ◌<◌, ap, sym, ◌∙◌, subst, arith, length, rules, take}
use Rattle.std.specs.Prelude.{map}
use Rattle.haya_line_slices.specs.Scan.{EndsAt, IsPartedTo}
use Rattle.haya_line_slices.proofs.Ends.{one-more}
use Rattle.haya_line_slices.proofs.slices.entry_slices.Goals as goal

pub entries-preserved : goal.entries-preserved
entries-preserved c =
    let text = c.args.text.now in
    let rest = c.entries.rest.now in
    let n = c.entry_len.result in
    let ps = map (λ s. s.now) c.entries.slices.items in
    let ends : EndsAt rest n = subst (λ t. EndsAt t n) c.as_bytes.ensures.value c.entry_len.ensures in
    let long : 0 < length rest = grind (arith, c.is_empty.ensures, c.entries-test.true) in
    let more = one-more text ps rest n c.entries.invariant.1 long ends in
    let there : IsPartedTo text (ps ++ take n rest ∷ []) c.split_at.result.1.now =
    subst (IsPartedTo text (ps ++ take n rest ∷ [])) (sym c.split_at.ensures.back) more in (
      search rules,
      subst (λ l. IsPartedTo text l c.split_at.result.1.now)
          (sym (c.in_ok-push.ensures ∙ ap (λ p. ps ++ p ∷ []) c.split_at.ensures.front)) there,
    )
