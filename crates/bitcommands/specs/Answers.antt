-- Replies without where they lie in memory.
use Rattle.std.specs.Prelude.{ℕ, Bool, List, Option, string_bytes}
use Rattle.std.specs.declared.cmp.Ordering.{Ordering}
use Rattle.serde_json.specs.Data.{Data}
use Rattle.serde_json.specs.View.{view}
use Rattle.bitcommands.specs.declared.commands.refusals.Refusal.{Refusal}
use Rattle.bitcommands.specs.declared.commands.replies.Reply.{Reply}
use Rattle.bitcommands.specs.declared.commands.replies.Reply.TheVariants as replies

pub data Answer : Type 0 where
  done : Answer
  bool : Bool → Answer
  number : ℕ → Answer
  position : Option ℕ → Answer
  items : List (Option ℕ) → Answer
  words text : List ℕ → Answer
  order : Ordering → Answer
  value : Data → Answer
  refused : Refusal → Answer

-- what a reply says
abbrev pub answer_of : Reply → Answer
answer_of replies.Done = done
answer_of (replies.Bool e) = bool e
answer_of (replies.Number n) = number n
answer_of (replies.Position p) = position p
answer_of (replies.Items list) = items list.items
answer_of (replies.Words list) = words list.items
answer_of (replies.Order o) = order o
answer_of (replies.Text t) = text (string_bytes t)
answer_of (replies.Value d) = value (view d)
answer_of (replies.Refused f) = refused f
