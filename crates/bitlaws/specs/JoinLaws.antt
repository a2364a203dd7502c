-- The algebra of joins, for all values of any lengths.
use Rattle.std.specs.Prelude.{◌≡◌, ◌≤◌, IsTrue}
use Rattle.fixedbitset.specs.Bits.{Bits, complement}
use Rattle.fixedbitset.specs.TwoSets.{union, intersection, difference, bitand, is_subset}

-- a join does not depend on which set stands first
abbrev pub Commutes : (Bits → Bits → Bits) → Type 0
Commutes join = (v w : Bits) → join v w ≡ join w v

-- a join of three sets does not depend on which two are joined first
abbrev pub Associates : (Bits → Bits → Bits) → Type 0
Associates join = (u v w : Bits) → join (join u v) w ≡ join u (join v w)

-- a set joined with itself is that set
abbrev pub IsIdempotent : (Bits → Bits → Bits) → Type 0
IsIdempotent join = (v : Bits) → join v v ≡ v

-- what one join adds to a set, the other takes away
abbrev pub Absorbs : (Bits → Bits → Bits) → (Bits → Bits → Bits) → Type 0
Absorbs outer inner = (v w : Bits) → outer v (inner v w) ≡ v

-- one join goes into the two sides of the other
abbrev pub Distributes : (Bits → Bits → Bits) → (Bits → Bits → Bits) → Type 0
Distributes outer inner = (u v w : Bits) → outer u (inner v w) ≡ inner (outer u v) (outer u w)

-- `intersection` is `bitand` where the first set is no longer than the second
abbrev pub IntersectionIsBitand : Type 0
IntersectionIsBitand = (v w : Bits) → v.length ≤ w.length → intersection v w ≡ bitand v w

-- ---- subsets are ordered

abbrev pub SubsetOfItself : Type 0
SubsetOfItself = (v : Bits) → IsTrue (is_subset v v)

abbrev pub SubsetThrough : Type 0
SubsetThrough = (u v w : Bits) → IsTrue (is_subset u v) → IsTrue (is_subset v w) → IsTrue (is_subset u w)

abbrev pub SameSubsets : Type 0
SameSubsets = (v w : Bits) → v.length ≡ w.length → IsTrue (is_subset v w) → IsTrue (is_subset w v) → v ≡ w

-- the union has both sets, and every set that has both has the union
abbrev pub UnionIsLeast : Type 0
UnionIsLeast = (v w : Bits) → IsTrue (is_subset v (union v w)) × IsTrue (is_subset w (union v w))
    × ((u : Bits) → IsTrue (is_subset v u) → IsTrue (is_subset w u) → IsTrue (is_subset (union v w) u))

-- both sets have the intersection, and it has every set that both have
abbrev pub IntersectionIsGreatest : Type 0
IntersectionIsGreatest =
    (v w : Bits) → IsTrue (is_subset (intersection v w) v) × IsTrue (is_subset (intersection v w) w)
    × ((u : Bits) → IsTrue (is_subset u v) → IsTrue (is_subset u w) → IsTrue (is_subset u (intersection v w)))

-- ---- complements, at equal lengths

abbrev pub ComplementTwice : Type 0
ComplementTwice = (v : Bits) → complement (complement v) ≡ v

-- De Morgan: what is in neither, and what is not in both
abbrev pub ComplementOfUnion : Type 0
ComplementOfUnion =
    (v w : Bits) → v.length ≡ w.length → complement (union v w) ≡ intersection (complement v) (complement w)

abbrev pub ComplementOfIntersection : Type 0
ComplementOfIntersection =
    (v w : Bits) → v.length ≡ w.length → complement (intersection v w) ≡ union (complement v) (complement w)

-- the difference is what is in the first and in the complement of the second
abbrev pub DifferenceByComplement : Type 0
DifferenceByComplement = (v w : Bits) → v.length ≤ w.length → difference v w ≡ intersection v (complement w)
