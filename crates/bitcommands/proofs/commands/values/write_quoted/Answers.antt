use Rattle.std.proofs.Common.{true, refl, append_assoc}
use Rattle.std.proofs.lemmas.Grind.{put_two, flat_map-append}
use Rattle.std.proofs.lemmas.List.{nil_from_length}
use Rattle.bitcommands.specs.Quoting.{quoting, escaped}
use Rattle.bitcommands.proofs.commands.values.write_quoted.Goals as goal

pub loop-character-init : goal.loop-character-init
loop-character-init g c =
    λ plain. rw (c.into_iter-character-iterator.ensures.into_iter_gives, c.chars-character-items.ensures.rest)
    record { plain = plain; ends = λ h all. all }

pub loop-character-preserved : goal.loop-character-preserved
loop-character-preserved g c = λ plain.
    let begun = c.loop-character.invariant plain in
    let one = c.in_ok-write_escaped.ensures begun.plain (refl {a = true}) in
    record {
      plain = one.plain;
      ends = λ h rest.
          begun.ends h
          (put_two _ _ _ _ _ _ _ one rest (rw (c.in-Some.ensures.steps.0, flat_map-append, append_assoc) refl));
    }

pub returns : goal.returns
unfolding escaped quoting
returns g c = λ plain ok.
    let first = c.in_ok-write_str.ensures.writes plain (refl {a = true}) in
    let begun = c.loop-character.invariant first.plain in
    let all = begun.ends _
    (rw (nil_from_length _ c.in-None.ensures.steps.0.0) (c.write_str-2.ensures.writes begun.plain ok)) in
    put_two _ _ _ _ _ _ _ first all refl
