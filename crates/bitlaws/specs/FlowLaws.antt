-- Data-flow problems over all paths, by the solver for problems over some path.
use Rattle.std.specs.Prelude.{ℕ, ◌<◌, ◌↔◌, ◌⊎◌, length, map, zip, Contains}
use Rattle.fixedbitset.specs.Bits.{complement}
use Rattle.fixedbitset.specs.TwoSets.{difference}
use Rattle.flow.specs.Flow.{Edges, Sets, Has, IsProblem, IsFor, IsSolution, ArePaths}

-- the equations over all paths, for each node v and each fact p
pub record IsSolutionOfAll (facts : ℕ) (edges : Edges) (gens kills ins outs : Sets) : Type 0 where
  -- In(v) is the intersection of Out(u) over the edges (u, v): all facts where there is none
  pub of_ins : (v p : ℕ) → v < length gens → p < facts
      → Has ins v p ↔ ((u : ℕ) → Contains edges (u, v) → Has outs u p)
  -- Out(v) is the union of Gen(v) and those members of In(v) that are not in Kill(v)
  pub of_outs : (v p : ℕ) → v < length gens → p < facts
      → Has outs v p ↔ (Has gens v p ⊎ (Has ins v p × ¬ (Has kills v p)))

-- each fact of each node in every solution is one of that node
abbrev pub IsGreatest : ℕ → Edges → Sets → Sets → Sets → Sets → Type 0
IsGreatest facts edges gens kills ins outs =
    (other_ins other_outs : Sets) → IsSolutionOfAll facts edges gens kills other_ins other_outs
    → (v p : ℕ) → v < length gens → p < facts
    → (Has other_ins v p → Has ins v p) × (Has other_outs v p → Has outs v p)

-- what each node kills and does not generate
abbrev pub lost : Sets → Sets → Sets
lost gens kills = map (λ two. difference two.0 two.1) (zip kills gens)

-- the complement of each set
abbrev pub complements : Sets → Sets
complements sets = map complement sets

-- solve with what is lost as Gen and with Gen as Kill: the complements solve the equations over all paths
abbrev pub SolvesByComplement : Type 0
SolvesByComplement =
    (facts : ℕ) (edges : Edges) (gens kills ins outs : Sets) → IsProblem facts edges gens kills
    → IsFor gens facts ins → IsFor gens facts outs → IsSolution edges (lost gens kills) gens ins outs
    → IsSolutionOfAll facts edges gens kills (complements ins) (complements outs)

-- and of a solution by paths, as the least one is, they are the greatest solution over all paths
abbrev pub GreatestByComplement : Type 0
GreatestByComplement =
    (facts : ℕ) (edges : Edges) (gens kills ins outs : Sets) → IsProblem facts edges gens kills
    → IsFor gens facts ins → IsFor gens facts outs → IsSolution edges (lost gens kills) gens ins outs
    → ArePaths edges (lost gens kills) gens outs
    → IsGreatest facts edges gens kills (complements ins) (complements outs)
