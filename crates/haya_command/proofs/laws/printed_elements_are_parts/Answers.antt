use Rattle.haya_command.proofs.PrintedParts.{printed_are_parts}
use Rattle.haya_command.proofs.laws.printed_elements_are_parts.Goals as goal

pub returns : goal.returns
returns c kind texts es hits text given are =
    printed_are_parts kind c.elements_are_parts.ensures texts es are hits given.parts given.each
