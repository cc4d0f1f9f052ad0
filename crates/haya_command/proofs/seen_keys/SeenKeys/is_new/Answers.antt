use Rattle.std.proofs.Common.{◌≡◌, ◌||◌, Bool, true, false, not, cond, Option, None, Some, refl, sym, ap, ◌∙◌}
use Rattle.std.specs.Prelude.{is_some, option_map, string_bytes}
use Rattle.std.proofs.lemmas.Map.Text.{hash_map_updates_text}
use Rattle.haya_command.specs.InTurn.{was_seen}
use Rattle.haya_command.proofs.seen_keys.SeenKeys.is_new.Goals as goal

is_some-map : {A B : Type 0} (f : A → B) (o : Option A) → is_some (option_map f o) ≡ is_some o
is_some-map f None = refl
is_some-map f (Some x) = refl

is_some-cond : {A : Type 0} (b : Bool) (w : A) (o : Option A) → is_some (cond b (Some w) o) ≡ (b || is_some o)
is_some-cond true w o = refl
is_some-cond false w o = refl

pub returns-then-is_some-clause-new : goal.returns-then-is_some-clause-new
unfolding was_seen
returns-then-is_some-clause-new c =
    ap not (sym (sym (ap is_some c.get.ensures.value) ∙ is_some-map _ _ ∙ sym c.is_some.ensures ∙ c.if-is_some.true))

pub returns-clause-new : goal.returns-clause-new
unfolding was_seen
returns-clause-new c =
    ap not (sym (sym (ap is_some c.get.ensures.value) ∙ is_some-map _ _ ∙ sym c.is_some.ensures ∙ c.if-is_some.false))

pub returns-clause-seen : goal.returns-clause-seen
unfolding was_seen
returns-clause-seen c = λ _ other.
    rw (← c.in_ok-from_str.ensures.ok)
    (ap is_some (hash_map_updates_text (string_bytes c.in_ok-from_str.field-0) c.args.self.now.keys c.insert.new.self (Some _) c.in_ok-insert.ensures.updates other)
    ∙ is_some-cond _ _ _)
