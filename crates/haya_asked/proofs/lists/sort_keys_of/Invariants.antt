use Rattle.std.proofs.Common.{◌≡◌, Some, map, take}
use Rattle.haya_questions.specs.SortText.{sort_key_read, sort_key_view}
use Rattle.haya_asked.proofs.lists.sort_keys_of.Given as goal

-- those so far are of the parts so far
abbrev pub invariant-parts : goal.invariant-parts
invariant-parts l = map Some (map sort_key_view l.keys.items) ≡ map sort_key_read (map (λ p. p.now) (take l.part-index l.parts))
