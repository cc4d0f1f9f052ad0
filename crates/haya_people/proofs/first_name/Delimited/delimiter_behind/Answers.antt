use Rattle.std.proofs.Common.{◌≡◌, ◌==◌, [], true, false, length, ap, ◌∙◌, sym, cond}
use Rattle.std.proofs.lemmas.Iterator.Consumers.{count_from_yields_List}
use Rattle.unicode_segmentation.proofs.SegmentsLemmas.{YieldsList-from_gives}
use Rattle.unicode_segmentation.specs.Grapheme.{graphemes}
use borrow.Author.Tests.{ne_eqb, eq-eqb}
use Rattle.haya_people.specs.FirstName.{delimiter_behind}
use Rattle.haya_people.proofs.first_name.Delimited.delimiter_behind.Goals as goal

pub returns-then-count-eq1 : goal.returns-then-count-eq1
unfolding delimiter_behind
returns-then-count-eq1 c =
    let number : c.count.result ≡ length (graphemes true c.args.item.now) = count_from_yields_List _ _ c.count.ensures.ran (YieldsList-from_gives _ _ c.graphemes.result) ∙ ap length c.graphemes.ensures.left in
    let test : (c.count.result == 1) ≡ true = eq-eqb c.count.result 1 c.if-count-eq1.true in
    ap (λ b. cond b c.args.self.now.delimiter.now []) (sym test) ∙ ap (λ n. cond (n == 1) c.args.self.now.delimiter.now []) number

pub returns-else-count-eq1 : goal.returns-else-count-eq1
unfolding delimiter_behind
returns-else-count-eq1 c =
    let number : c.count.result ≡ length (graphemes true c.args.item.now) = count_from_yields_List _ _ c.count.ensures.ran (YieldsList-from_gives _ _ c.graphemes.result) ∙ ap length c.graphemes.ensures.left in
    let test : (c.count.result == 1) ≡ false = ne_eqb c.count.result 1 c.if-count-eq1.false in
    ap (λ b. cond b c.args.self.now.delimiter.now []) (sym test) ∙ ap (λ n. cond (n == 1) c.args.self.now.delimiter.now []) number
