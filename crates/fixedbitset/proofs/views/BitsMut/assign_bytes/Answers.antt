use Rattle.std.proofs.Common.{rules, map, refl, ap, ◌∙◌}
use Rattle.std.specs.List.{range_with_len}
use Rattle.bitjson.specs.Bytes.{word_of}
use Rattle.fixedbitset.proofs.Texts.{keeps_made}
use Rattle.fixedbitset.proofs.views.BitsMut.assign_bytes.Goals as goal

pub invariant_of-self : goal.invariant_of-self
invariant_of-self c =
    let made = c.fill_words.ensures
    ∙ ap (λ n. map (word_of c.args.source.now) (range_with_len 0 n)) c.args.self.now.clean.count in
    record {
      clean =
          (keeps_made c.args.source.now (λ j. search rules) _ c.args.self.now.clean.fits _ _ made
          c.clear_from.ensures).clean;
    }

pub returns : goal.returns
returns c =
    let made = c.fill_words.ensures
    ∙ ap (λ n. map (word_of c.args.source.now) (range_with_len 0 n)) c.args.self.now.clean.count in
    record {
      value =
          (keeps_made c.args.source.now (λ j. search rules) _ c.args.self.now.clean.fits _ _ made
          c.clear_from.ensures).value;
      length = refl;
      same = refl;
    }
