use Rattle.std.proofs.Common.{◌≡◌, ◌&&◌, drop, true, false, Some, sym, ap, ◌∙◌, arith, rules}
use Rattle.haya_yaml_text.specs.Keys.{key}
use Rattle.haya_yaml.specs.Block.{entries_of, is_bare_key, item_value, items, member_value, members, node, takes_dashes, value}
use Rattle.haya_yaml.specs.Line.{begins_dash, texts}
use Rattle.haya_yaml.specs.Saying.{said, said_items, said_members}
use Rattle.haya_yaml.proofs.Nodes.{item_on, items_are, items_inside, list_said, member_on, members_are, node_is, parted}
use Rattle.haya_yaml.proofs.block.+node.Goals as goal

pub write_node-returns-clause-ok : goal.write_node-returns-clause-ok
write_node-returns-clause-ok t c = rw (node_is c.args.depth c.args.edge c.args.column c.args.text.now (texts c.args.lines.texts.now)) c.write_at.ensures.ok

pub write_node-returns-clause-refused : goal.write_node-returns-clause-refused
write_node-returns-clause-refused t c f e = node_is c.args.depth c.args.edge c.args.column c.args.text.now (texts c.args.lines.texts.now) ∙ c.write_at.ensures.refused f e

pub write_list-returns-clause-ok : goal.write_list-returns-clause-ok
write_list-returns-clause-ok t c =
    list_said c.args.out.now.writer.tokens c.begin_array.new.self.tokens c.write_items.new.out.writer.tokens _ c.in_ok-begin_array.ensures.ok
    (ap (said_items c.begin_array.new.self.tokens) (items_inside c.args.depth c.args.column c.args.text.now (texts c.args.lines.texts.now) (grind arith)) ∙ c.in_ok-write_items.ensures.ok)

pub write_one_item-returns-clause-ok : goal.write_one_item-returns-clause-ok
write_one_item-returns-clause-ok t c =
    let f = node c.args.depth in
    let v = value c.args.depth in
    let column = c.args.column in
    let old = c.args.out.now.writer.tokens in
    let own = c.split_at.result.0.texts.now in
    let rest = c.split_at.result.1.texts.now in
    let es = entries_of false column (texts rest) in
    let parts = parted false false column c.args.lines.texts.now own rest c.own_lines.result c.own_lines.ensures.cut c.split_at.ensures.front c.split_at.ensures.back in
    let written : said old (item_value f v column (drop 1 c.args.text.now) (texts own)) ≡ Some c.write_item.new.out.writer.tokens =
    ap (λ t. said old (item_value f v column t (texts own))) (sym c.tail.ensures.rest) ∙ c.in_ok-write_item.ensures.ok in
    ap (said_items old) (items_are f v column c.args.text.now (texts c.args.lines.texts.now) (texts own) es (search rules) parts)
    ∙ item_on old c.write_item.new.out.writer.tokens (item_value f v column (drop 1 c.args.text.now) (texts own)) (items f v column es) written

pub write_one_member-returns-clause-ok : goal.write_one_member-returns-clause-ok
write_one_member-returns-clause-ok t c =
    let f = node c.args.depth in
    let v = value c.args.depth in
    let column = c.args.column in
    let old = c.args.out.now.writer.tokens in
    let own = c.split_at.result.0.texts.now in
    let rest = c.split_at.result.1.texts.now in
    let es = entries_of true column (texts rest) in
    let lines = texts c.args.lines.texts.now in
    let k = c.args.member.name.now in
    let behind = c.args.member.behind.now in
    let dashes = c.takes_dashes-dashes.result in
    let keyed : key c.args.member.text.now ≡ Some (k, behind) = search rules in
    let takes : takes_dashes true column c.args.member.text.now lines ≡ dashes = ap (λ o. is_bare_key o && begins_dash column lines) keyed ∙ sym c.takes_dashes-dashes.ensures in
    let parts = parted true dashes column c.args.lines.texts.now own rest c.own_lines.result c.own_lines.ensures.cut c.split_at.ensures.front c.split_at.ensures.back in
    ap (said_members old) (members_are f v column c.args.member.text.now lines (texts own) es k behind dashes keyed takes parts)
    ∙ member_on old c.key.new.self.tokens c.write_member.new.out.writer.tokens k (member_value f v column behind (texts own)) (members f v column es)
    c.in_ok-key.ensures.ok c.in_ok-write_member.ensures.ok
