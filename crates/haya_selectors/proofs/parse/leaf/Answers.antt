use Rattle.haya_selectors.specs.Grammar.{wildcard, no_value}
use Rattle.haya_selectors.proofs.Parsing.{word_value}
use Rattle.haya_selectors.proofs.Syntaxes.{syntax-wildcard}
use Rattle.haya_selectors.proofs.parse.leaf.Goals as goal

pub returns-then-eat_sign-clause-value : goal.returns-then-eat_sign-clause-value
returns-then-eat_sign-clause-value c no_paren = rw (c.if-eat_sign.ensures, syntax-wildcard) wildcard

pub returns-in_default-clause-value : goal.returns-in_default-clause-value
returns-in_default-clause-value c no_paren =
    let word = rw c.if-eat_sign.ensures.1 at c.in_default.ensures.0 in
    no_value (no_paren, c.if-eat_sign.ensures.0, word)

pub returns-clause-value : goal.returns-clause-value
returns-clause-value c no_paren = word_value _ _ c.if-eat_sign.ensures.1 c.in-Some.ensures (c.entry_type.ensures _)
