-- What is written of a value so far.
use Rattle.std.specs.Prelude.{◌≡◌, ◌++◌}
use Rattle.json.specs.Json.{Json, Members}
use Rattle.json.specs.Tree.{json_tokens, members_tokens}
use Rattle.json.specs.Written.{Written}

-- the value is written behind what was there
abbrev pub WritesValue : Written → Written → Json → Type 0
WritesValue old new j = new.tokens ≡ old.tokens ++ json_tokens j

-- Members are written, without the end of their object: whatever members follow, the whole is what
-- was there and these members before them.
abbrev pub WritesMembers : Written → Written → (Members → Members) → Type 0
WritesMembers old new more =
    (ms : Members) → new.tokens ++ members_tokens ms ≡ old.tokens ++ members_tokens (more ms)

-- the bytes that stood before all that is written are the same
abbrev pub KeepsBefore : Written → Written → Type 0
KeepsBefore old new = new.before ≡ old.before
