-- What a contract sees of words that are borrowed, and of a result.
use Rattle.std.specs.Prelude.{ℤ, pos, negsuc}
use Rattle.std.specs.declared.cmp.Ordering.{Ordering}
use Rattle.std.specs.declared.cmp.Ordering.TheVariants.{Less, Equal, Greater}
use Rattle.fixedbitset.specs.Bits.{Bits, of_words}
use Rattle.bits_c.specs.declared.structs.Ranks.{Ranks}
use Rattle.bits_c.specs.declared.structs.Room.{Room}

-- the value of the words and the length of room for a set
abbrev pub written : Room → Bits
written room = of_words room.length room.words.now

-- the value of the set that is borrowed with its directory
abbrev pub ranked : Ranks → Bits
ranked ranks = of_words ranks.length ranks.words.now

-- an order as a number: -1, 0 or 1
abbrev pub sign : Ordering → ℤ
sign Less = negsuc 0
sign Equal = pos 0
sign Greater = pos 1
