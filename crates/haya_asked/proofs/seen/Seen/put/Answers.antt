use Rattle.std.proofs.Common.{Some, map, string_bytes, sym, ap, ◌∙◌}
use Rattle.std.proofs.Math.Path.{fun_ext}
use Rattle.std.specs.HashMap.{get_by}
use Rattle.std.specs.Option.{option_copied}
use Rattle.haya_asked.specs.Seen.{place_of}
use Rattle.haya_asked.proofs.SeenLemmas.{get_after, put_again, put_new, same_texts}
use Rattle.haya_asked.proofs.seen.Seen.put.Goals as goal

pub returns-in-Some-clause-before : goal.returns-in-Some-clause-before
unfolding place_of
returns-in-Some-clause-before c =
    c.in-Some.ensures.value
    ∙ ap (λ t. get_by t c.args.self.now.places) (fun_ext (λ k. same_texts c.args.values.items k.items))

pub returns-in-Some-clause-after : goal.returns-in-Some-clause-after
unfolding place_of
returns-in-Some-clause-after c = λ others.
    put_again (place_of c.args.self.now) (map string_bytes c.args.values.items) others c.args.place c.in-Some.found.now
    (sym (c.in-Some.ensures.value ∙ ap (λ t. get_by t c.args.self.now.places) (fun_ext (λ k. same_texts c.args.values.items k.items))))

pub returns-clause-before : goal.returns-clause-before
unfolding place_of
returns-clause-before c =
    sym (ap option_copied c.in_default.is) ∙ c.get.ensures.value
    ∙ ap (λ t. get_by t c.args.self.now.places) (fun_ext (λ k. same_texts c.args.values.items k.items))

pub returns-clause-after : goal.returns-clause-after
unfolding place_of
returns-clause-after c = λ others.
    get_after c.args.self.now.places c.insert.new.self c.args.values (Some c.args.place) c.in_ok-insert.ensures.updates others
    ∙ put_new (place_of c.args.self.now) (map string_bytes c.args.values.items) others c.args.place
    (sym (sym (ap option_copied c.in_default.is) ∙ c.get.ensures.value
    ∙ ap (λ t. get_by t c.args.self.now.places) (fun_ext (λ k. same_texts c.args.values.items k.items))))
