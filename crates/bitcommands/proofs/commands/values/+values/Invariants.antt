use Rattle.std.proofs.Common.{◌≡◌, false, drop}
use Rattle.std.specs.Fmt.{IsPlainFormatter}
use Rattle.serde_json.specs.View.{items_view, members_view}
use Rattle.serde_json.specs.Written.{items_have_float, items_text, members_have_float, members_text}
use Rattle.bitcommands.proofs.Writing.{HasBegun}
use Rattle.bitcommands.proofs.commands.values.+values.Given as goal

-- the items left have no float, and are yet to be written behind a comma where others stand before
abbrev pub invariant-write_items-loop-item : goal.invariant-write_items-loop-item
invariant-write_items-loop-item g l =
    let all = items_view l.item-items in
    let left = items_view (drop l.item-index l.item-items) in
    items_have_float all ≡ false → IsPlainFormatter l.initial.f
    → (items_have_float left ≡ false)
    × HasBegun g.W.Write.write_str_gives l.initial.f (items_text l.later left) (items_text false all) l.f

-- the members left likewise
abbrev pub invariant-write_members-loop-key : goal.invariant-write_members-loop-key
invariant-write_members-loop-key g l =
    let all = members_view l.members.entries in
    let left = members_view l.key-iterator in
    members_have_float all ≡ false → IsPlainFormatter l.initial.f
    → (members_have_float left ≡ false)
    × HasBegun g.W.Write.write_str_gives l.initial.f (members_text l.later left) (members_text false all) l.f
