use Rattle.std.proofs.Common.{rules, tests, ap, ◌∙◌}
use Rattle.std.proofs.lemmas.Iterator.{YieldsList-from_slice, YieldsList-from_map}
use Rattle.std.proofs.lemmas.Iterator.Consumers.{YieldsList-at}
use Rattle.std.proofs.lemmas.List.{map-id}
use Rattle.std.proofs.lemmas.Result.{IfOk-weaker}
use Rattle.fixedbitset.specs.Bits.{of_words}
use Rattle.fixedbitset.specs.BlocksFacts.{first_blocks}
use Rattle.bitcommands.proofs.commands.making.set_of_blocks.Goals as goal

pub returns : goal.returns
returns c =
    IfOk-weaker c.with_capacity_and_blocks.result _ _
    (λ set made.
    first_blocks c.args.bits set
    made.2 (YieldsList-at made.1 (YieldsList-from_map _ (λ x. x) (YieldsList-from_slice c.args.blocks.now (cc))
    c.map-words.ensures.closure (λ x r q k. search (rules, tests))))
    ∙ ap (of_words c.args.bits) (map-id c.args.blocks.now)) c.with_capacity_and_blocks.ensures
