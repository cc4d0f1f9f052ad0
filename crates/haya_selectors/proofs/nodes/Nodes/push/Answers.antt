use Rattle.std.proofs.Common.{◌≡◌, ◌∙◌, arith, length, refl}
use Rattle.std.specs.Prelude.{is_ok}
use Rattle.std.proofs.lemmas.List.{length-append, length-map}
use Rattle.haya_selectors.specs.Nodes.{slot_names}
use Rattle.haya_selectors.proofs.Marks.{marked_push_if}
use Rattle.haya_selectors.proofs.NodeLists.{fit_push_if, push_keeps, push_stands}
use Rattle.haya_selectors.proofs.nodes.Nodes.push.Goals as goal

pub invariant_of-self : goal.invariant_of-self
invariant_of-self c =
    let s = c.args.self.now in
    record { fit = rw c.push.ensures.items (fit_push_if (length s.names.items) s.nodes.items c.args.node (is_ok c.push.result) s.fit (rw length-map at c.requires)); marked = rw c.push.ensures.items (marked_push_if (slot_names s) s.nodes.items s.simple.items s.marked c.args.node (is_ok c.push.result)) }

pub returns-clause-stands : goal.returns-clause-stands
returns-clause-stands c =
    let s = c.args.self.now in
    let e = c.in_ok-push.ensures.items in
    let n : c.len-number.result ≡ length s.nodes.items = c.len-number.ensures ∙ s.nodes.ok.0 in
    rw n (record {
      keeps = record {
        count = rw (e, length-append) (omega arith);
        slots = omega arith;
        names = λ slot h. refl;
        syntaxes = push_keeps (slot_names s) s.nodes.items c.push.new.self.items c.args.node e;
      };
      inside = rw (e, length-append) (omega arith);
      stands = push_stands (slot_names s) s.nodes.items c.push.new.self.items c.args.node e;
    })
