use Rattle.std.proofs.Common.{refl, arith}
use Rattle.fixedbitset.specs.WordsFacts.{words-asc}
use Rattle.fixedbitset.proofs.views.Bits.ones.Goals as goal

pub over-requires : goal.over-requires
over-requires c = omega (arith, c.args.self.clean.fits, c.as_slice.ensures.count, c.iter-words.ensures.len)

pub returns-clause-items : goal.returns-clause-items
returns-clause-items c = rw (c.over.ensures, c.iter-words.ensures.rest, c.as_slice.ensures.value) (words-asc _)

pub returns-clause-words : goal.returns-clause-words
returns-clause-words c = rw (c.over.ensures, c.iter-words.ensures.rest, c.as_slice.ensures.value) refl
