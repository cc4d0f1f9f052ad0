use Rattle.std.proofs.Common.{◌≡◌, [], false, ap, sym, ◌∙◌, subst}
use Rattle.haya_line_slices.specs.EntryLines.{begins_entry}
use Rattle.haya_line_slices.specs.Scan.{EndsAt, IsPartedTo}
use Rattle.haya_line_slices.proofs.Ends.{front-parted}
use Rattle.haya_line_slices.proofs.slices.behind_front.Goals as goal

pub returns : goal.returns
returns c =
    let text = c.args.text.now in
    let n = c.entry_len.result in
    let none : begins_entry text ≡ false =
    ap begins_entry (sym c.as_bytes.ensures.value) ∙ sym c.begins_entry.ensures ∙ c.if-begins_entry.false in
    let ends : EndsAt text n = subst (λ t. EndsAt t n) c.as_bytes-2.ensures.value c.entry_len.ensures in
    subst (IsPartedTo text []) (sym c.split_at.ensures.back) (front-parted text n none ends)
