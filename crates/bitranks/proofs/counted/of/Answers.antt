use Rattle.std.proofs.Common.{◌≡◌, length, drop, ap, arith}
use Rattle.std.proofs.Math.Seq.{take-append_seam}
use Rattle.fixedbitset.specs.WordsFacts.{length-words}
use Rattle.bitranks.proofs.counted.of.Goals as goal

pub fill-requires-clause-fits : goal.fill-requires-clause-fits
fill-requires-clause-fits c =
    omega (arith, ap length c.as_slice-words.ensures, length-words c.args.set.now, c.len.ensures)

pub fill-requires-clause-long : goal.fill-requires-clause-long
fill-requires-clause-long c =
    let words = ap length c.as_slice-words.ensures in
    omega (
      arith,
      c.deref_mut.ensures.len,
      c.in_ok-entries.ensures.len,
      c.entries.ensures,
      c.div_ceil.ensures,
      c.len.ensures,
      words,
      length-words c.args.set.now,
    )

pub invariant_of-result : goal.invariant_of-result
invariant_of-result c =
    let filled = c.fill.new.directory in
    let long : c.in_ok-entries.entries.len ≡ length filled = omega (arith, c.deref_mut.ensures.len) in
    record {
      of_value = c.as_slice-words.ensures;
      directory = rw (long, take-append_seam filled (drop (length filled) c.in_ok-entries.entries.items))
          c.fill.ensures.directory;
      fits = omega (arith, ap length c.as_slice-words.ensures, length-words c.args.set.now, c.len.ensures);
    }

pub returns-clause-cost : goal.returns-clause-cost
returns-clause-cost c =
    omega (arith, c.fill.ensures.cost, ap length c.as_slice-words.ensures, length-words c.args.set.now)

pub returns-clause-bound : goal.returns-clause-bound
returns-clause-bound c =
    omega (arith, c.fill.ensures.bound, ap length c.as_slice-words.ensures, length-words c.args.set.now)
