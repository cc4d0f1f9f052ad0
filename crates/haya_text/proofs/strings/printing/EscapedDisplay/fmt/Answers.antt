use Rattle.std.proofs.Common.{◌≡◌, [], ◌∷◌, ◌++◌, true, cond, flat_map, refl, sym, ap, ◌∙◌, map-id}
use Rattle.std.proofs.lemmas.Grind.{put_two}
use Rattle.std.proofs.lemmas.Iterator.{YieldsList-from_chars}
use Rattle.std.proofs.lemmas.Iterator.Consumers.{YieldsList-end}
use Rattle.std.proofs.lemmas.Str.{IsUtf8-string_bytes}
use Rattle.std.specs.Char.{encode_utf8}
use Rattle.std.specs.Str.{chars}
use Rattle.std.specs.String.{string_bytes}
use Rattle.haya_text.specs.Printing.{escape_of}
use Rattle.haya_text.proofs.Turns.{flat_map-turn}
use Rattle.haya_text.proofs.strings.printing.EscapedDisplay.fmt.Goals as goal

pub returns-clause-writes : goal.returns-clause-writes
returns-clause-writes g c =
    let end = YieldsList-end (YieldsList-from_chars (string_bytes c.args.self.now.0.now.value) (IsUtf8-string_bytes c.args.self.now.0.now.value) cc) c.loop-c.yielded _ c.loop-c.yielded_by _ _ c.in-None.is c.next.ensures.steps in
    let all : c.loop-c.yielded ≡ chars (string_bytes c.args.self.now.0.now.value) = sym (map-id c.loop-c.yielded) ∙ end.0 in
    λ plain _. rw (← all) (c.loop-c.invariant plain)

pub loop-c-preserved : goal.loop-c-preserved
loop-c-preserved g c = λ plain.
    let before = c.loop-c.invariant plain in
    let alone = encode_utf8 c.in-Some.c in
    let now = c.in_ok-write-2.ensures.writes before.plain (refl {a = true}) in
    put_two g.W.Write.write_str_gives c.args.f.now c.loop-c.f c.write-else-is_control.new.self
    (flat_map escape_of c.loop-c.yielded) alone
    (flat_map escape_of (c.loop-c.yielded ++ c.in-Some.c ∷ [])) before now
    (flat_map-turn escape_of c.loop-c.yielded c.in-Some.c alone
    (ap (λ is. cond is (92 ∷ alone) alone) c.if-is_control.ensures))
