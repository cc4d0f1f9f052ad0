use Rattle.std.proofs.Common.{◌≡◌, [], ◌∷◌, ◌++◌, length, sym, ap, ◌∙◌, append_assoc, append-nil, arith, rules}
use Rattle.std.specs.Str.Lines.{lines}
use Rattle.std.proofs.lemmas.List.{map-append, nil_from_length}
use Rattle.haya_yaml.specs.Line.{texts}
use Rattle.haya_yaml.proofs.feeds.lines_of.Goals as goal

pub lines-preserved : goal.lines-preserved
lines-preserved c =
    let found = c.lines.found.items in
    let line = c.first_line.result.0 in
    let more = lines c.first_line.result.1.now in
    let pushed : c.push.new.self.items ≡ found ++ line ∷ [] = search rules in
    let longer : texts c.push.new.self.items ≡ texts found ++ line.now ∷ [] = ap texts pushed ∙ map-append (λ t. t.now) found (line ∷ []) in
    (search rules, c.lines.invariant.1 ∙ ap (λ ls. texts found ++ ls) c.first_line.ensures.lines ∙ sym (append_assoc (texts found) (line.now ∷ []) more) ∙ ap (λ ts. ts ++ more) (sym longer))

pub returns : goal.returns
returns c =
    let nothing : length c.lines.rest.now ≡ 0 = grind arith in
    let none : c.lines.rest.now ≡ [] = nil_from_length c.lines.rest.now nothing in
    record { lines = sym (c.lines.invariant.1 ∙ ap (λ r. texts c.lines.found.items ++ lines r) none ∙ append-nil (texts c.lines.found.items)) }
