use Rattle.std.proofs.Common.{◌≡◌, ◌≤◌, length, map, take, vec_len}
use Rattle.std.specs.Vec.{vec_capacity}
use Rattle.bitcommands.specs.Actions.{action_of}
use Rattle.bitcommands.specs.Answers.{answer_of}
use Rattle.bitcommands.specs.Steps.{Run}
use Rattle.bitcommands.proofs.commands.run.Given as goal

abbrev pub invariant-loop-command : goal.invariant-loop-command
invariant-loop-command l = record {
  run : Run l.limit l.fn.sets (map action_of (take l.command-index l.commands)) (map answer_of l.replies.items) l.sets;
  len : vec_len l.replies ≡ l.command-index;
  room : length l.commands ≤ vec_capacity l.replies;
}
