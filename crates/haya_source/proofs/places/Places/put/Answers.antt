use Rattle.std.proofs.Common.{◌≡◌, Bool, true, false, cond, Option, Some, option_map, refl, ap, ◌∙◌}
use Rattle.std.specs.Prelude.{string_bytes}
use Rattle.std.proofs.lemmas.Map.Text.{hash_map_updates_text}
use Rattle.haya_source.specs.Places.{kept_part}
use Rattle.haya_source.proofs.places.Places.put.Goals as goal

option_map-cond : {A B : Type 0} (f : A → B) (b : Bool) (w : A) (o : Option A)
    → option_map f (cond b (Some w) o) ≡ cond b (Some (f w)) (option_map f o)
option_map-cond f true w o = refl
option_map-cond f false w o = refl

pub returns : goal.returns
unfolding kept_part
returns c = λ k.
    ap (option_map (λ s. s.now))
    (hash_map_updates_text (string_bytes c.args.key) c.args.self.now.parts c.insert.new.self
    (Some c.args.part) c.in_ok-insert.ensures.updates k)
    ∙ option_map-cond (λ s. s.now) _ _ _
