-- Parts that are left out of an entry's fields.
use Rattle.std.proofs.Common.{◌≡◌, true, List, [], ◌∷◌, ◌++◌, refl, sym, ap, ◌∙◌, subst, append_assoc, append-nil}
use Rattle.haya_entry.specs.declared.field_name.FieldName.{FieldName}
use Rattle.haya_entry.specs.declared.field_name.FieldName.TheVariants as field
use Rattle.haya_entry.specs.FieldName.{all_fields}
use Rattle.haya_entry.specs.Tree.{Fields, Tree, node, fields, new_entry, trees, with_fields, with_parents}
use Rattle.haya_lines.specs.Line.{leaf}
use Rattle.haya_printing.specs.declared.left_out.Part.{Part}
use Rattle.haya_printing.specs.declared.left_out.Part.TheVariants.{ShortForm, Alias, PublisherLocation, VisitDate, Field, Key, Parents}
use Rattle.haya_printing.specs.LeftOut.{IsAlone, IsPrintable, IsUnsaid, LeavesMore, LeavesOut}
use Rattle.haya_printing.specs.Parts.{has_part, without, without_alias_in, without_field, without_fields, without_short_form}

-- ---- an entry alone whose fields change
fields-with_fields : (change : Fields → Fields) (t : Tree) → fields (with_fields change t) ≡ change (fields t)
fields-with_fields change (node f ps) = refl

pub set_fields : (change : Fields → Fields) (old new : Tree) → new ≡ with_fields change old → fields new ≡ change (fields old)
set_fields change old new sets = ap fields sets ∙ fields-with_fields change old

pub set_alone : (change : Fields → Fields) (old new : Tree) → IsAlone old → new ≡ with_fields change old → IsAlone new
set_alone change old new alone sets = sets ∙ ap (with_fields change) alone ∙ ap leaf (sym (set_fields change old new sets))

-- ---- parts that are left out one after another
LeavesOut-append : (ps qs : List Part) (f g h : Fields) → LeavesOut ps f g → LeavesOut qs g h → LeavesOut (ps ++ qs) f h
LeavesOut-append [] qs f g h same leaves = subst (λ f. LeavesOut qs f h) same leaves
LeavesOut-append (p ∷ ps) qs f g h first leaves = (first.0, LeavesOut-append ps qs (without p f) g h first.1 leaves)

pub leaves_none : (parts : List Part) (f : Fields) → LeavesMore parts parts f f
leaves_none parts f = record { more = []; put = sym (append-nil parts); leaves = refl }

pub leaves_one : (old new : List Part) (part : Part) (f g : Fields) → new ≡ old ++ part ∷ [] → IsUnsaid part f → g ≡ without part f → LeavesMore old new f g
leaves_one old new part f g put unsaid is = record { more = part ∷ []; put = put; leaves = (unsaid, is) }

pub leaves_then : (old mid new : List Part) (f g h : Fields) → LeavesMore old mid f g → LeavesMore mid new g h → LeavesMore old new f h
leaves_then old mid new f g h first second = record {
  more = first.more ++ second.more;
  put = second.put ∙ ap (λ l. l ++ second.more) first.put ∙ append_assoc old first.more second.more;
  leaves = LeavesOut-append first.more second.more f g h first.leaves second.leaves;
}

-- ---- the key and the type stay
abbrev head : Fields → Tree
head f = new_entry f.key f.entry_type

head-short : (name : FieldName) (f : Fields) → head (without_short_form name f) ≡ head f
head-short field.Title f = refl
head-short _ f = refl

head-alias : (name : FieldName) (f : Fields) → head (without_alias_in name f) ≡ head f
head-alias field.Author f = refl
head-alias _ f = refl

head-field : (name : FieldName) (f : Fields) → head (without_field name f) ≡ head f
head-field field.Title f = refl
head-field _ f = refl

head-without : (part : Part) (f : Fields) → head (without part f) ≡ head f
head-without (ShortForm name) f = head-short name f
head-without (Alias name) f = head-alias name f
head-without PublisherLocation f = refl
head-without VisitDate f = refl
head-without (Field name) f = head-field name f
head-without _ f = refl

head-leaves : (parts : List Part) (f g : Fields) → LeavesOut parts f g → head g ≡ head f
head-leaves [] f g same = ap head same
head-leaves (p ∷ parts) f g leaves = head-leaves parts (without p f) g leaves.1 ∙ head-without p f

-- without any field an entry is its key and its type
no_field_left : (f : Fields) → leaf (without_fields all_fields f) ≡ head f
no_field_left f = refl

pub head_printable : (old new : List Part) (f g : Fields) → LeavesMore old new f g → IsPrintable (new_entry f.key f.entry_type) → IsPrintable (leaf (without_fields all_fields g))
head_printable old new f g more printable = subst IsPrintable (sym (no_field_left g ∙ head-leaves more.more f g more.leaves)) printable

-- a part that lines have no room for
pub no_room : (part : Part) (f : Fields) → has_part part f ≡ true → IsUnsaid part f
no_room (Field name) f has = cc
no_room (ShortForm name) f has = has
no_room (Alias name) f has = has
no_room PublisherLocation f has = has
no_room VisitDate f has = has
no_room Key f has = cc
no_room Parents f has = cc

-- an entry without parents that is printable
pub printable_alone : (t : Tree) (f : Fields) → IsAlone t → fields t ≡ f → IsPrintable t → IsPrintable (leaf f)
printable_alone t f alone same printable = subst IsPrintable (alone ∙ ap leaf same) printable

pub alone_printable : (t : Tree) (f : Fields) → IsAlone t → fields t ≡ f → IsPrintable (leaf f) → IsPrintable t
alone_printable t f alone same printable = subst IsPrintable (sym (alone ∙ ap leaf same)) printable

pub bare : (t : Tree) → IsAlone (with_parents [] t)
bare (node f ps) = refl

pub fields-bare : (t : Tree) → fields (with_parents [] t) ≡ fields t
fields-bare (node f ps) = refl

pub parents_over : (ts : List Tree) (t whole : Tree) → IsAlone t → whole ≡ with_parents ts t → whole ≡ node (fields t) (trees ts)
parents_over ts t whole alone is = is ∙ ap (with_parents ts) alone

pub no_parents_over : (ts es : List Tree) (t mid whole : Tree) → IsAlone t → mid ≡ with_parents ts t → es ≡ [] → whole ≡ with_parents es mid → (whole ≡ leaf (fields t)) × (whole ≡ t)
no_parents_over ts es t mid whole alone is none bare_is =
    let same : whole ≡ leaf (fields t) = bare_is ∙ ap (λ l. with_parents l mid) none ∙ ap (with_parents []) (parents_over ts t mid alone is) in
    (same, same ∙ sym alone)
