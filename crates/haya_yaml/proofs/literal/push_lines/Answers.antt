use Rattle.std.proofs.Common.{◌≡◌, ℕ, ◌+◌, ◌<◌, ◌≤◌, ◌&&◌, ◌++◌, List, [], length, drop, get_or, true, false, sym, ap, ◌∙◌, arith}
use Rattle.std.specs.Borrow.{Bor}
use Rattle.std.specs.Prelude.{string_bytes}
use Rattle.haya_yaml.specs.Line.{are_skipped}
use Rattle.haya_yaml_text.specs.Signs.{is_empty, is_hash, skip}
use Rattle.haya_yaml.specs.Literal.{block_rest, break_before, end_of, is_content, last_of}
use Rattle.haya_yaml.specs.declared.literal.Last.{Last}
use Rattle.haya_yaml.specs.Line.{texts}
use Rattle.haya_yaml.proofs.Contents.{content_fits}
use Rattle.haya_yaml.proofs.Rests.{adds, behind, empty_rest, end_rest, no_rest, stop_rest, text_rest}
use Rattle.haya_yaml.proofs.literal.push_lines.Goals as goal

pub behind-text-requires : goal.behind-text-requires
behind-text-requires c = content_fits c.args.edge c.args.width _ (sym c.is_content.ensures ∙ c.if-not-is_content.false)

pub lines-preserved-then-is_empty : goal.lines-preserved-then-is_empty
lines-preserved-then-is_empty c =
    let f = c.args.folded in
    let ch = c.args.chomp in
    let e = c.args.edge in
    let w = c.args.width in
    let ls = c.args.lines.now in
    let k = c.lines.place in
    let d : Bor (List ℕ) = record { ref_ptr = (0, 0); now = [] } in
    let line = (get_or ls k d).now in
    let out = string_bytes c.lines.out in
    let within : k < length ls = grind arith in
    let content : is_content e w line ≡ true = grind arith in
    let none : is_empty (drop w line) ≡ true = grind arith in
    (omega (arith, c.lines.invariant.0), omega (arith, within), ap (behind out) (sym (empty_rest f ch e w c.lines.last c.lines.feeds ls k d within content none)) ∙ c.lines.invariant.2)

pub lines-preserved : goal.lines-preserved
lines-preserved c =
    let f = c.args.folded in
    let ch = c.args.chomp in
    let e = c.args.edge in
    let w = c.args.width in
    let ls = c.args.lines.now in
    let k = c.lines.place in
    let d : Bor (List ℕ) = record { ref_ptr = (0, 0); now = [] } in
    let line = (get_or ls k d).now in
    let out = string_bytes c.lines.out in
    let within : k < length ls = grind arith in
    let content : is_content e w line ≡ true = grind arith in
    let some : is_empty (drop w line) ≡ false = grind arith in
    let added : string_bytes c.push_line.new.out ≡ out ++ (break_before c.lines.last c.lines.feeds (drop w line) ++ drop w line) = grind arith in
    let is_last : c.last_of-last.result ≡ last_of f (drop w line) = grind arith in
    let new = string_bytes c.push_line.new.out in (
      omega arith,
      omega (arith, within),
      ap (λ (l : Last). behind new (block_rest f ch e w l 0 (texts (drop (k + 1) ls)))) is_last ∙ text_rest f ch e w c.lines.last c.lines.feeds ls k d out new within content some added
          ∙ c.lines.invariant.2,
    )

pub returns-then-not-are_skipped-clause-refused : goal.returns-then-not-are_skipped-clause-refused
returns-then-not-are_skipped-clause-refused c f e =
    let f = c.args.folded in
    let ch = c.args.chomp in
    let e = c.args.edge in
    let w = c.args.width in
    let ls = c.args.lines.now in
    let k = c.lines.place in
    let d : Bor (List ℕ) = record { ref_ptr = (0, 0); now = [] } in
    let line = (get_or ls k d).now in
    let out = string_bytes c.lines.out in
    let within : k < length ls = grind arith in
    let other : is_content e w line ≡ false = grind arith in
    let no : (is_hash (skip false line) && are_skipped (texts (drop (k + 1) ls))) ≡ false = grind arith in
    no_rest out _ _ (sym (ap (behind out) (stop_rest f ch e w c.lines.last c.lines.feeds ls k d false within other no)) ∙ c.lines.invariant.2)

pub returns-then-not-is_content-clause-ok : goal.returns-then-not-is_content-clause-ok
returns-then-not-is_content-clause-ok c =
    let f = c.args.folded in
    let ch = c.args.chomp in
    let e = c.args.edge in
    let w = c.args.width in
    let ls = c.args.lines.now in
    let k = c.lines.place in
    let d : Bor (List ℕ) = record { ref_ptr = (0, 0); now = [] } in
    let line = (get_or ls k d).now in
    let out = string_bytes c.lines.out in
    let within : k < length ls = grind arith in
    let other : is_content e w line ≡ false = grind arith in
    let yes : (is_hash (skip false line) && are_skipped (texts (drop (k + 1) ls))) ≡ true = grind arith in
    adds out _ _ (end_of ch c.lines.last c.lines.feeds) _ (sym (ap (behind out) (stop_rest f ch e w c.lines.last c.lines.feeds ls k d true within other yes)) ∙ c.lines.invariant.2) c.in_ok-push_end.ensures.ok

pub returns-clause-ok : goal.returns-clause-ok
returns-clause-ok c =
    let out = string_bytes c.lines.out in
    let all : length c.args.lines.now ≤ c.lines.place = grind arith in
    adds out _ _ (end_of c.args.chomp c.lines.last c.lines.feeds) _
    (sym (ap (behind out) (end_rest c.args.folded c.args.chomp c.args.edge c.args.width c.lines.last c.lines.feeds c.args.lines.now c.lines.place all)) ∙ c.lines.invariant.2) c.in_ok-push_end-2.ensures.ok
