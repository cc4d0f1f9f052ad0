use Rattle.std.proofs.Common.{◌≡◌, ◌≤◌, ◌+◌, ◌*◌, List, length, map}
use Rattle.haya_selectors.specs.Grammar.{BindingForm, TermForm}
use Rattle.haya_selectors.specs.Parser.{Gives, after_signs}
use Rattle.haya_selectors.specs.Syntax.{syntax}
use Rattle.haya_selectors.specs.Token.{Token}
use Rattle.haya_selectors.proofs.Parsing.{TermsSoFar, PairsSoFar, RunSoFar}
use Rattle.haya_selectors.proofs.parse.+parser.Given as goal

abbrev pub decreases-value : goal.decreases-value
decreases-value l = 9 * length l.tokens.now

abbrev pub decreases-factor : goal.decreases-factor
decreases-factor l = 9 * length l.tokens.now + 1

abbrev pub invariant-factor-signs : goal.invariant-factor-signs
invariant-factor-signs l = (l.fn.tokens ≡ after_signs l.signs l.tokens) × (length l.tokens ≤ length l.fn.tokens)

abbrev pub decreases-factor-signs : goal.decreases-factor-signs
decreases-factor-signs l = length l.tokens

abbrev pub decreases-attributes : goal.decreases-attributes
decreases-attributes l = 9 * length l.tokens.now + 2

abbrev pub decreases-binding : goal.decreases-binding
decreases-binding l = 9 * length l.tokens.now + 3

abbrev pub decreases-run : goal.decreases-run
decreases-run l = 9 * length l.tokens.now + 4

abbrev pub decreases-runs : goal.decreases-runs
decreases-runs l = 9 * length l.tokens.now + 5

abbrev pub decreases-term : goal.decreases-term
decreases-term l = 9 * length l.tokens.now + 6

abbrev pub decreases-chain : goal.decreases-chain
decreases-chain l = 9 * length l.tokens.now + 7

abbrev pub decreases-expr : goal.decreases-expr
decreases-expr l = 9 * length l.tokens.now + 8

-- whichever tokens the first was read from
abbrev pub invariant-chain-chain : goal.invariant-chain-chain
invariant-chain-chain l =
    ((ts : List Token) → Gives TermForm ts l.fn.tokens l.fn.first → TermsSoFar ts l.tokens (syntax l.left))
    × (length l.tokens ≤ length l.fn.tokens)

abbrev pub decreases-chain-chain : goal.decreases-chain-chain
decreases-chain-chain l = length l.tokens

abbrev pub invariant-runs-runs : goal.invariant-runs-runs
invariant-runs-runs l =
    ((ts : List Token) → Gives BindingForm ts l.fn.tokens l.fn.first → PairsSoFar ts l.tokens (syntax l.left))
    × (length l.tokens ≤ length l.fn.tokens)

abbrev pub decreases-runs-runs : goal.decreases-runs-runs
decreases-runs-runs l = length l.tokens

abbrev pub invariant-run-members : goal.invariant-run-members
invariant-run-members l = RunSoFar l.sign (syntax l.fn.first) l.fn.tokens l.tokens (map syntax l.members.items)

abbrev pub decreases-run-members : goal.decreases-run-members
decreases-run-members l = length l.tokens
