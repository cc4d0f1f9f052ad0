use Rattle.std.proofs.Common.{◌≡◌, ℕ, List, ◌++◌, [], take, drop, sym, ap, ◌∙◌, arith, rules}
use Rattle.std.specs.List.{slice_range}
use Rattle.std.proofs.lemmas.List.{take-append-drop}
use Rattle.haya_json.proofs.position.position_at.Goals as goal

from_start : (text : List ℕ) (place : ℕ) → slice_range text 0 place ≡ take place text
from_start text place = grind arith

pub returns-in-Some : goal.returns-in-Some
returns-in-Some c =
    let text = c.args.text.now in
    let front = c.in-Some.ensures.cases.0 ∙ from_start text c.args.place in
    record {
      front = c.in-Some.front.now;
      rest = drop c.args.place text;
      parts = sym (take-append-drop c.args.place text) ∙ ap (λ f. f ++ drop c.args.place text) (sym front);
      whole = search rules;
      behind = search rules;
    }

pub returns-in-None : goal.returns-in-None
returns-in-None c = record {
  front = c.args.text.now;
  rest = [];
  parts = search rules;
  whole = search rules;
  behind = search rules;
}
