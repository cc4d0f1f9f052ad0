use Rattle.std.proofs.Common.{sym, ap, ◌∙◌}
use Rattle.std.specs.Char.{is_whitespace}
use Rattle.std.specs.Str.{encode_utf8_all, skip_leading_whitespace}
use Rattle.std.proofs.lemmas.Str.{encodes-chars}
use Rattle.haya_text.specs.Characters.{run}
use Rattle.haya_numbers.proofs.numeric.round_trip.split_white.Goals as goal

pub returns-clause-white : goal.returns-clause-white
returns-clause-white c =
    sym (encodes-chars c.eat_white-white.result.now c.eat_white-white.utf8)
    ∙ ap encode_utf8_all (c.eat_white-white.ensures.run ∙ ap (λ k. run is_whitespace k.rest) c.new-cursor.ensures)

pub returns-clause-rest : goal.returns-clause-rest
returns-clause-rest c =
    sym (encodes-chars c.rest.result.now c.rest.utf8)
    ∙ ap encode_utf8_all (c.rest.ensures ∙ c.eat_white-white.ensures.rest ∙ ap (λ k. skip_leading_whitespace k.rest) c.new-cursor.ensures)
