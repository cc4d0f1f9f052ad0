use Rattle.std.proofs.Common.{Some, None, lit<, nat_eq}
use Rattle.std.proofs.lemmas.Str.Pattern.{split_once_first}
use Rattle.std.proofs.lemmas.List.Splits.{slice_split_first}
use Rattle.haya_lines.proofs.ItemLemmas.{slice_split-whole}
use Rattle.haya_lines.proofs.items.split_item.Goals as goal

pub returns-in-Some : goal.returns-in-Some
returns-in-Some c =
    let cut = split_once_first 9 c.args.text.now (Some (c.in-Some.item, c.in-Some.left)) c.in-Some.ensures.cases (lit< tt) in
    rw (cut.1, cut.2) (slice_split_first (λ b. nat_eq b 9) c.args.text.now 0 cut.0)

pub returns-in-None : goal.returns-in-None
returns-in-None c = slice_split-whole (λ b. nat_eq b 9) c.args.text.now (split_once_first 9 c.args.text.now None c.in-None.ensures.cases (lit< tt))
