use Rattle.std.proofs.Common.{◌≡◌, ◌+◌, ◌<◌, ◌≤◌, [], length, length-drop, take, drop, drop-drop, ap, ◌∙◌, arith}
use Rattle.std.proofs.lemmas.List.{nil_from_length}
use Rattle.std.specs.List.{position_or_len}
use Rattle.haya_yaml.specs.Documents.{ended}
use Rattle.haya_yaml.specs.Line.{is_feed}
use Rattle.haya_yaml.proofs.Ends.{cut, feed_first, goes_on, line_ended, line_left}
use Rattle.haya_yaml.proofs.feeds.first_line.Goals as goal

pub split_at-requires : goal.split_at-requires
split_at-requires c = cut c.args.text.now c.line_length.result (c.line_length.ensures ∙ ap (position_or_len is_feed) c.as_bytes.ensures.value)

pub tail-requires-clause-ascii : goal.tail-requires-clause-ascii
tail-requires-clause-ascii c =
    let text = c.args.text.now in
    let is : c.line_length.result ≡ position_or_len is_feed text = c.line_length.ensures ∙ ap (position_or_len is_feed) c.as_bytes.ensures.value in
    let some : 0 < length c.split_at.result.1.now = grind arith in
    let feed = feed_first text c.split_at.result.1.now c.line_length.result is c.split_at.ensures.back some in
    omega (arith, feed)

pub returns-then-is_empty-clause-lines : goal.returns-then-is_empty-clause-lines
returns-then-is_empty-clause-lines c =
    let text = c.args.text.now in
    let n = c.line_length.result in
    let rest = c.split_at.result.1.now in
    let is : n ≡ position_or_len is_feed text = c.line_length.ensures ∙ ap (position_or_len is_feed) c.as_bytes.ensures.value in
    let nothing : length rest ≡ 0 = grind arith in
    let none : rest ≡ [] = nil_from_length rest nothing in
    let left : length rest ≡ length (drop n text) = ap length c.split_at.ensures.back in
    let all : length text ≤ position_or_len is_feed text = omega (arith, is, left, nothing, length-drop n text) in
    line_left text c.split_at.result.0.now rest c.requires all (c.split_at.ensures.front ∙ ap (λ k. take k text) is) none

pub returns-clause-lines : goal.returns-clause-lines
returns-clause-lines c =
    let text = c.args.text.now in
    let n = c.line_length.result in
    let rest = c.split_at.result.1.now in
    let is : n ≡ position_or_len is_feed text = c.line_length.ensures ∙ ap (position_or_len is_feed) c.as_bytes.ensures.value in
    let some : 0 < length rest = grind arith in
    let within = goes_on text rest n is c.split_at.ensures.back some in
    let front = ap ended (c.split_at.ensures.front ∙ ap (λ k. take k text) is) in
    let behind = ap (drop 1) c.split_at.ensures.back ∙ drop-drop 1 n text ∙ ap (λ k. drop (k + 1) text) is in
    line_ended text c.ended.result.now c.tail.result.now within (c.ended.ensures ∙ front) (c.tail.ensures.rest ∙ behind)
