use Rattle.std.proofs.Common.{ℕ, Vec, Global, ap, ◌∙◌, arith, string_bytes}
use Rattle.std.proofs.lemmas.Str.{chars-nil}
use Rattle.std.specs.Str.{IsAscii}
use Rattle.haya_characters.proofs.Bits.{ascii_text}
use Rattle.haya_characters.proofs.Characters.{spelled}
use Rattle.haya_characters.proofs.texts.string_of.Goals as goal

pub returns-in-Ok-clause-chars : goal.returns-in-Ok-clause-chars
returns-in-Ok-clause-chars c =
    let ascii : IsAscii c.args.characters.now = c.bits_of.ensures (omega arith) in
    ascii_text c.args.characters.now (string_bytes c.in-Ok.text) ascii (ap (λ (v : Vec ℕ Global). v.items) c.in-Ok.ensures.ok ∙ c.in_ok-bytes.ensures)

pub returns-in-Ok-clause-bytes : goal.returns-in-Ok-clause-bytes
returns-in-Ok-clause-bytes c =
    let ascii : IsAscii c.args.characters.now = c.bits_of.ensures (omega arith) in
    spelled c.in-Ok.text c.args.characters.now (ascii_text c.args.characters.now (string_bytes c.in-Ok.text) ascii (ap (λ (v : Vec ℕ Global). v.items) c.in-Ok.ensures.ok ∙ c.in_ok-bytes.ensures))

pub returns-clause-chars : goal.returns-clause-chars
returns-clause-chars c = rw (c.in_ok-text.ensures.bytes, chars-nil) at c.in_ok-push_chars.ensures

pub returns-clause-bytes : goal.returns-clause-bytes
returns-clause-bytes c =
    spelled c.push_chars.new.text c.args.characters.now (rw (c.in_ok-text.ensures.bytes, chars-nil) at c.in_ok-push_chars.ensures)
