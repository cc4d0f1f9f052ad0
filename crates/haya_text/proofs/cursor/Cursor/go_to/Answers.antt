use Rattle.std.proofs.Common.{arith, ap, ◌≡◌, length}
use Rattle.std.specs.Str.{encode_utf8_all, chars}
use Rattle.haya_text.proofs.Characters.{length-chars, length_by_chars}
use Rattle.haya_text.proofs.cursor.Cursor.go_to.Goals as goal

pub overflow_sub-self : goal.overflow_sub-self
overflow_sub-self c = omega (arith, length_by_chars _ _ c.rest.utf8 c.rest.ensures)

pub overflow_add-self : goal.overflow_add-self
overflow_add-self c =
    let kept : length (encode_utf8_all (chars c.self.inside.rest.now)) ≡ length (encode_utf8_all c.args.self.now.rest) = ap (λ l. length (encode_utf8_all l.rest)) c.self.view_is in
    let all = length_by_chars _ _ c.rest.utf8 c.rest.ensures in
    omega arith

pub invariant_of-self : goal.invariant_of-self
invariant_of-self c =
    let kept : length (encode_utf8_all (chars c.self.inside.rest.now)) ≡ length (encode_utf8_all c.args.self.now.rest) = ap (λ l. length (encode_utf8_all l.rest)) c.self.view_is in
    let all = length_by_chars _ _ c.rest.utf8 c.rest.ensures in
    let few = length-chars _ c.utf8.left in
    omega arith

pub returns-clause-same_text : goal.returns-clause-same_text
returns-clause-same_text c =
    let kept : length (encode_utf8_all (chars c.self.inside.rest.now)) ≡ length (encode_utf8_all c.args.self.now.rest) = ap (λ l. length (encode_utf8_all l.rest)) c.self.view_is in
    let before : c.self.inside.place ≡ c.args.self.now.place = ap (λ l. l.place) c.self.view_is in
    let all = length_by_chars _ _ c.rest.utf8 c.rest.ensures in
    let few = length-chars _ c.utf8.left in
    omega arith
