use Rattle.std.proofs.Common.{◌≡◌, IsTrue, [], ◌∷◌, Some, ap, ◌∙◌, arith}
use Rattle.json.specs.Lex.{tokens}
use Rattle.json.specs.Token.{Token}
use Rattle.haya_json.specs.Notes.{none_kept, notes_view}
use Rattle.haya_csl.proofs.TakenLists.{list_taken}
use Rattle.haya_csl.proofs.taken.take_csl_entries.Goals as goal

pub returns-in-None : goal.returns-in-None
returns-in-None g c =
    let takes = g.T.EntryTaker.takes in
    let opened : tokens c.args.text.now ≡ Token.begin_array ∷ c.next.new.self = grind arith in
    let all : IsTrue c.take_items.result = grind arith in
    let m = c.take_items.ensures all in
    let ended : c.take_items.new.reader ≡ [] = grind arith in
    let none : notes_view c.with_hash_keys-notes.result ≡ none_kept = c.with_hash_keys-notes.ensures in
    list_taken takes c.args.by c.args.text.now _ m.0 _ _ _ opened (m.1 ∙ ap (λ r. Some (m.0, r)) ended) (rw none at m.2)
