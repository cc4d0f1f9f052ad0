use Rattle.std.proofs.Common.{◌≡◌, ℕ, [], ◌∷◌, None, Some, arith, rules}
use Rattle.json.specs.Json.{no_items}
use Rattle.json.specs.Lex.{tokens}
use Rattle.json.specs.Reads.{token_of}
use Rattle.json.specs.Token.{Token}
use Rattle.haya_json.proofs.ParseErrors.{error_of_none}
use Rattle.haya_csl.specs.Made.{IsMadeOf}
use Rattle.haya_csl.specs.Turns.{items_left}
use Rattle.haya_csl.proofs.MadeLemmas.{no_document, no_document_before, made_of_text}
use Rattle.haya_csl.proofs.turns.Made.take_text.Goals as goal

pub returns-in-Ok-false-clause-error : goal.returns-in-Ok-false-clause-error
returns-in-Ok-false-clause-error c =
    let opened : tokens c.args.text.now ≡ Token.begin_array ∷ c.next.new.self = grind arith in
    let none : items_left c.next.new.self ≡ None = grind arith in
    error_of_none _ _ _ c.not_json.ensures (no_document c.args.by _ _ opened none)

pub returns-in-Some-clause-error : goal.returns-in-Some-clause-error
returns-in-Some-clause-error c =
    let opened : tokens c.args.text.now ≡ Token.begin_array ∷ c.next.new.self = grind arith in
    let m : (place : ℕ) × IsMadeOf c.args.by (Some (no_items, c.take_items.new.reader)) (items_left c.next.new.self) place c.take_items.new.self = search rules in
    let more : c.take_items.new.reader ≡ token_of c.in-Some.field-0 ∷ c.next-2.new.self = grind arith in
    error_of_none _ _ _ c.not_json-in-Some.ensures (no_document_before c.args.by _ _ opened _ m.0 _ m.1 _ _ more)

pub returns-in-None-clause-made : goal.returns-in-None-clause-made
returns-in-None-clause-made c =
    let opened : tokens c.args.text.now ≡ Token.begin_array ∷ c.next.new.self = grind arith in
    let m : (place : ℕ) × IsMadeOf c.args.by (Some (no_items, c.take_items.new.reader)) (items_left c.next.new.self) place c.take_items.new.self = search rules in
    let ended : c.take_items.new.reader ≡ [] = grind arith in
    λ _. made_of_text c.args.by _ _ opened _ m.0 _ m.1 ended
