use Rattle.std.proofs.Common.{◌≡◌, ◌+◌, ◌≤◌, ◌<◌, List, ℕ, [], None, length, take_all, get_or, true, false, sym, ap₂, ◌∙◌, arith}
use Rattle.std.specs.Borrow.{Bor}
use Rattle.std.proofs.lemmas.List.{drop_all}
use Rattle.haya_yaml.specs.Block.{entries_of}
use Rattle.haya_yaml.specs.Line.{belongs, texts}
use Rattle.haya_yaml.specs.Spans.{is_inside}
use Rattle.haya_yaml.specs.declared.spans.Span.{Span}
use Rattle.haya_yaml.proofs.Cuts.{own_more, own_all, own_end}
use Rattle.haya_yaml.proofs.Depths.{have_length, own_dash, own_run}
use Rattle.haya_yaml.proofs.own.own_lines.Goals as goal

pub bounds-lines-count : goal.bounds-lines-count
bounds-lines-count c = omega (arith, c.lines-test.true, have_length c.args.lines.spans.now c.args.lines.texts.now c.args.lines.spanned)

pub lines-preserved-then-is_inside : goal.lines-preserved-then-is_inside
lines-preserved-then-is_inside c =
    let none : Span = record { depth = None; more = 0 } in
    let empty : Bor (List ℕ) = record { ref_ptr = (0, 0); now = [] } in
    let lines = c.args.lines.texts.now in
    let spans = c.args.lines.spans.now in
    let n = c.lines.count in
    let to = c.saturating_add-count.result in
    let within : n < length spans = omega (arith, c.lines-test.true, have_length spans lines c.args.lines.spanned) in
    let inside : is_inside c.args.column (get_or spans n none).depth ≡ true = sym c.is_inside.ensures ∙ c.if-is_inside.true in
    let up : n ≤ to = omega (arith, c.saturating_add.ensures, c.saturating_add-count.ensures, c.lines.auto.count-fits.fits) in
    let last : to ≤ n + (get_or spans n none).more + 1 = omega (arith, c.saturating_add.ensures, c.saturating_add-count.ensures) in
    own_run c.args.map c.args.dashes c.args.column spans lines n to none empty c.args.lines.spanned within up last inside c.lines.invariant

pub returns-then-not-is_own_item-clause-cut : goal.returns-then-not-is_own_item-clause-cut
returns-then-not-is_own_item-clause-cut c =
    let none : Span = record { depth = None; more = 0 } in
    let empty : Bor (List ℕ) = record { ref_ptr = (0, 0); now = [] } in
    let lines = c.args.lines.texts.now in
    let spans = c.args.lines.spans.now in
    let n = c.lines.count in
    let within : n < length spans = omega (arith, c.lines-test.true, have_length spans lines c.args.lines.spanned) in
    let outside : is_inside c.args.column (get_or spans n none).depth ≡ false = sym c.is_inside.ensures ∙ c.if-is_inside.false in
    let no : c.is_own_item.result ≡ false = grind (arith, c.if-not-is_own_item.true) in
    let other : belongs c.args.dashes c.args.column (get_or lines n empty).now ≡ false =
    own_dash c.args.dashes c.args.column spans lines n none empty c.args.lines.spanned within outside ∙ sym c.is_own_item.ensures ∙ no in
    own_all c.args.map c.args.dashes c.args.column lines n empty c.lines-test.true other c.lines.invariant

pub lines-preserved : goal.lines-preserved
lines-preserved c =
    let none : Span = record { depth = None; more = 0 } in
    let empty : Bor (List ℕ) = record { ref_ptr = (0, 0); now = [] } in
    let lines = c.args.lines.texts.now in
    let spans = c.args.lines.spans.now in
    let n = c.lines.count in
    let within : n < length spans = omega (arith, c.lines-test.true, have_length spans lines c.args.lines.spanned) in
    let outside : is_inside c.args.column (get_or spans n none).depth ≡ false = sym c.is_inside.ensures ∙ c.if-is_inside.false in
    let yes : c.is_own_item.result ≡ true = grind (arith, c.if-not-is_own_item.false) in
    let own : belongs c.args.dashes c.args.column (get_or lines n empty).now ≡ true =
    own_dash c.args.dashes c.args.column spans lines n none empty c.args.lines.spanned within outside ∙ sym c.is_own_item.ensures ∙ yes in
    own_more c.args.map c.args.dashes c.args.column lines n empty c.lines-test.true own c.lines.invariant

pub returns-clause-cut : goal.returns-clause-cut
returns-clause-cut c =
    let lines = c.args.lines.texts.now in
    let n = c.lines.count in
    let all : length lines ≤ length lines = omega arith in
    own_end c.args.map c.args.dashes c.args.column lines n c.lines-test.false c.lines.invariant
    ∙ ap₂ (λ front rest. record { front = texts front; entries = entries_of c.args.map c.args.column (texts rest) })
    (take_all n lines c.lines-test.false ∙ sym (take_all (length lines) lines all)) (drop_all n lines c.lines-test.false ∙ sym (drop_all (length lines) lines all))
