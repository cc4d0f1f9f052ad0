use Rattle.std.proofs.Common.{◌≡◌, ◌≢◌, ◌==◌, ◌++◌, ℕ, Bool, true, false, List, [], length, ap, sym, ◌∙◌, arith}
use Rattle.std.proofs.lemmas.Bool.Decides.{nat_tests}
use Rattle.std.proofs.lemmas.List.{nil_from_length}
use Rattle.std.proofs.lemmas.Str.{chars-nil}
use Rattle.std.specs.Str.{chars}
use Rattle.haya_text.specs.Chunks.{characters, chunks}
use Rattle.haya_text.specs.Reading.{result_after, scan}
use Rattle.haya_text.proofs.Characters.{place-forward}
use Rattle.haya_text.proofs.Normals.{norm-push_text}
use Rattle.haya_text.proofs.Scans.{scan-behind_run}
use Rattle.haya_text.proofs.strings.reading.Reader.take_plain.Goals as goal

not_empty : (text : List ℕ) (b : Bool) → b ≡ (length text == 0) → b ≡ false → text ≢ []
not_empty text b e h = λ none. let zero : length text ≡ 0 = ap length none in grind (arith, nat_tests)

empty : (text : List ℕ) (b : Bool) → b ≡ (length text == 0) → b ≡ true → text ≡ []
empty text b e h = nil_from_length text (grind (arith, nat_tests))

pub returns-in_err-push_str-clause-forward : goal.returns-in_err-push_str-clause-forward
returns-in_err-push_str-clause-forward c = place-forward _ _ _ c.eat_while-plain.ensures.taken c.eat_while-plain.ensures.same_text

pub returns-in_ok-push_str-clause-reads : goal.returns-in_ok-push_str-clause-reads
returns-in_ok-push_str-clause-reads c =
    ap (λ xs. result_after xs (scan c.args.self.now.depth c.args.self.now.math false c.eat_while-plain.new.self.rest)) c.in_ok-push_str.ensures.grows
    ∙ scan-behind_run c.args.self.now.depth c.args.self.now.math (characters (chunks c.args.self.now.read)) c.kind-kind.result (chars c.eat_while-plain.result.now) c.eat_while-plain.new.self.rest c.args.cursor.now.rest
    c.eat_while-plain.ensures.taken c.kind-kind.ensures c.eat_while-plain.ensures.accepted

pub returns-in_ok-push_str-clause-normal : goal.returns-in_ok-push_str-clause-normal
returns-in_ok-push_str-clause-normal c = λ h.
    norm-push_text _ _ c.eat_while-plain.result.now c.kind-kind.result c.eat_while-plain.utf8 (not_empty _ _ c.is_empty.ensures c.if-not-is_empty.true) h c.in_ok-push_str.ensures.ok c.in_ok-push_str.ensures.grows

pub returns-in_ok-push_str-clause-forward : goal.returns-in_ok-push_str-clause-forward
returns-in_ok-push_str-clause-forward c = place-forward _ _ _ c.eat_while-plain.ensures.taken c.eat_while-plain.ensures.same_text

pub returns-else-not-is_empty-clause-reads : goal.returns-else-not-is_empty-clause-reads
returns-else-not-is_empty-clause-reads c = ap (λ cs. result_after (characters (chunks c.args.self.now.read)) (scan c.args.self.now.depth c.args.self.now.math false cs)) (sym (c.eat_while-plain.ensures.taken ∙ ap (λ cs. cs ++ c.eat_while-plain.new.self.rest) (ap chars (empty _ _ c.is_empty.ensures c.if-not-is_empty.false) ∙ chars-nil)))

pub returns-else-not-is_empty-clause-forward : goal.returns-else-not-is_empty-clause-forward
returns-else-not-is_empty-clause-forward c = place-forward _ _ _ c.eat_while-plain.ensures.taken c.eat_while-plain.ensures.same_text
