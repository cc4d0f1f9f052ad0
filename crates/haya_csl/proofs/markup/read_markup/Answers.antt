use Rattle.std.proofs.Common.{rules, ◌≡◌, ◌<◌, [], ◌∷◌, Some, None, sym, ◌∙◌, length}
use Rattle.haya_csl.specs.Markup.{pieces}
use Rattle.haya_csl.proofs.Pieces.{pieces_by}
use Rattle.haya_csl.proofs.markup.read_markup.Goals as goal

pub returns-in_default : goal.returns-in_default
returns-in_default c =
    let whole : pieces c.args.text.now ≡ c.args.text.now ∷ [] = pieces_by c.args.text.now None c.in_default.ensures in
    rw whole (search rules)

pub pieces-init : goal.pieces-init
pieces-init c =
    let parts = pieces_by c.args.text.now (Some (c.in-Some.plain.now, c.in-Some.pieces.now)) c.in-Some.ensures in
    let whole : pieces c.args.text.now ≡ c.in-Some.plain.now ∷ pieces c.in-Some.pieces.now = parts.0 in
    let shorter : length c.in-Some.pieces.now < length c.args.text.now = parts.1 in
    (search rules, rw whole (search rules), search rules)

pub pieces-preserved : goal.pieces-preserved
pieces-preserved c =
    let parts = pieces_by c.pieces.rest.now (Some (c.in-Some-cut.piece.now, c.in-Some-cut.behind.now)) c.in-Some-cut.ensures in
    let next : pieces c.pieces.rest.now ≡ c.in-Some-cut.piece.now ∷ pieces c.in-Some-cut.behind.now = parts.0 in
    let shorter : length c.in-Some-cut.behind.now < length c.pieces.rest.now = parts.1 in
    (search rules, c.pieces.invariant.1 ∙ rw next (search rules), search rules)

pub returns : goal.returns
returns c =
    let last : pieces c.pieces.rest.now ≡ c.pieces.rest.now ∷ [] = pieces_by c.pieces.rest.now None c.in_default-cut.ensures in
    let read = c.pieces.invariant.1 in
    sym (rw last at read ∙ search rules)
