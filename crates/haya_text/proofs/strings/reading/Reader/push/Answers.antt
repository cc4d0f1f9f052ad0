use Rattle.std.proofs.Common.{◌∷◌, [], false, sym}
use Rattle.haya_text.specs.Chunks.{characters, chunks}
use Rattle.haya_text.specs.Reading.{scan}
use Rattle.haya_text.proofs.Normals.{norm-push_str}
use Rattle.haya_text.proofs.Scans.{result_after-append}
use Rattle.haya_text.proofs.strings.reading.Reader.push.Goals as goal

pub returns-clause-reads : goal.returns-clause-reads
returns-clause-reads c = λ rest.
    rw (c.in_ok-push_char.ensures.grows, ← c.kind-kind.ensures) (sym (result_after-append (characters (chunks c.args.self.now.read)) ((c.args.c, c.kind-kind.result) ∷ []) (scan c.args.self.now.depth c.args.self.now.math false rest)))

pub returns-clause-normal : goal.returns-clause-normal
returns-clause-normal c = λ h. norm-push_str _ _ c.args.c c.kind-kind.result h c.in_ok-push_char.ensures.ok c.in_ok-push_char.ensures.grows
