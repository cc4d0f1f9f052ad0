-- Tokens by value.
use Rattle.std.specs.Prelude.{ℕ, ◌≤◌, ◌+◌, ⊤, [], ◌∷◌}
use Rattle.haya_latex.specs.Tokens as tokens
use Rattle.haya_latex.specs.declared.tokens.Token.{Token}
use Rattle.haya_latex.specs.declared.tokens.Output.{Output}
use Rattle.haya_latex.specs.declared.tokens.Output.TheVariants.{Nothing, One, Two, Sign, Text, Formula, Counted, Odd}
use Rattle.haya_latex.specs.declared.kinds.Turn.{Turn}
use Rattle.haya_latex.specs.declared.kinds.Turn.TheVariants as turns

abbrev pub output_view : Output → tokens.Output
output_view Nothing = tokens.nothing
output_view (One c) = tokens.one c
output_view (Two c d) = tokens.two c d
output_view (Sign c) = tokens.text (c ∷ [])
output_view (Text cs) = tokens.text cs.now
output_view (Formula xs) = tokens.math xs.now
output_view (Counted xs) = tokens.counted xs.now
output_view (Odd c xs) = tokens.odd c xs.now

abbrev pub token_view : Token → tokens.Token
token_view t = record { output = output_view t.output; length = t.length; turn = t.turn }

-- a turn, so many characters on, leaves no more braces open than there were characters and braces
abbrev pub IsBelow : ℕ → ℕ → Turn → Type 0
IsBelow n passed turns.Stay = ⊤
IsBelow n passed (turns.Enter k l) = ⊤
IsBelow n passed (turns.Open m) = m ≤ n + passed
IsBelow n passed turns.Close = ⊤
IsBelow n passed (turns.Wait a) = ⊤
IsBelow n passed (turns.Under a k) = ⊤
