use Rattle.std.proofs.Common.{◌≡◌, [], ◌∷◌, ◌++◌, ap, sym, ◌∙◌}
use Rattle.std.specs.Char.{encode_utf8}
use Rattle.std.specs.Str.{chars}
use Rattle.std.proofs.lemmas.List.{append-nil}
use Rattle.std.proofs.lemmas.Str.{chars_past_char, chars-nil}
use Rattle.haya_text.proofs.strings.chunked.ChunkedString.push_char.Goals as goal

pub returns-clause-grows : goal.returns-clause-grows
returns-clause-grows c =
    let here : c.encode_utf8.result.now ≡ encode_utf8 c.args.c ++ [] = c.encode_utf8.ensures.value ∙ sym (append-nil _) in
    let one : chars c.encode_utf8.result.now ≡ c.args.c ∷ [] = chars_past_char _ _ _ c.encode_utf8.utf8 here ∙ ap (λ l. c.args.c ∷ l) chars-nil in
    rw one at c.push_str.ensures.grows
