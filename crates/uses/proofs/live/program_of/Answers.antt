use Rattle.uses.proofs.live.program_of.Goals as goal

pub returns : goal.returns
returns c =
    let read = c.in_ok-program.ensures in
    record {
      equally_many = read.many;
      gens_length = read.uses;
      kills_length = read.defines;
      edges_below = λ k d within. (read.from k d within, c.in_ok-check_next.ensures k d within);
    }
