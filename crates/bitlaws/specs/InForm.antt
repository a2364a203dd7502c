-- The JSON form as a predicate, and what each error says of a value.
use Rattle.std.specs.Prelude.{◌≡◌, ◌≢◌, ◌⊎◌, ℕ, ◌<◌, nat_lt, List, true, Some, None, codes}
use Rattle.std.specs.List.{list_all}
use Rattle.serde_json.specs.Data.{Data, Items, Members, number, array, object, no_items, item, unsigned}
use Rattle.serde_json.specs.Find.{get_member, get_item}
use Rattle.serde_json.specs.Events.{items_len, members_len}
use Rattle.serde_json.specs.View.{items_of}
use Rattle.bitjson.specs.Form.{numbers}
use Rattle.bitjson.specs.declared.fault.JsonFault.{JsonFault}
use Rattle.bitjson.specs.declared.fault.JsonFault.TheVariants as fault

-- a list of just these two, or an object with just the keys `length` and `data`, which have them
abbrev pub HasParts : Data → Data → Data → Type 0
HasParts d l x = (d ≡ array (item l (item x no_items)))
    ⊎ ((ms : Members) × (d ≡ object ms) × (members_len ms ≡ 2) × (get_member (codes "length") ms ≡ Some l)
    × (get_member (codes "data") ms ≡ Some x))

-- the value has a length n and a list of numbers, each of which is a byte
abbrev pub InForm : Data → ℕ → List ℕ → Type 0
InForm d n bs =
    HasParts d (number (unsigned n)) (array (items_of (numbers bs))) × (list_all (λ b. nat_lt b 256) bs ≡ true)

-- item k is there and no byte, and the items before it are bytes
abbrev pub IsFirstNoByte : Items → ℕ → Type 0
IsFirstNoByte ds k = (e : Data) × (get_item k ds ≡ Some e) × ((b : ℕ) → b < 256 → e ≢ number (unsigned b))
    × ((j : ℕ) → j < k → (b : ℕ) × (b < 256) × (get_item j ds ≡ Some (number (unsigned b))))

-- the error that a value has: of any value at most one
abbrev pub HasFault : Data → JsonFault → Type 0
HasFault d fault.Shape = ((ds : Items) → d ≢ array ds) × ((ms : Members) → d ≢ object ms)
HasFault d fault.Count = (ds : Items) × (d ≡ array ds) × (items_len ds ≢ 2)
HasFault d fault.NoLength = (ms : Members) × (d ≡ object ms) × (get_member (codes "length") ms ≡ None)
HasFault d fault.NoData =
    (ms : Members) × (d ≡ object ms) × (get_member (codes "length") ms ≢ None) × (get_member (codes "data") ms ≡ None)
HasFault d fault.Key = (ms : Members) × (d ≡ object ms) × (get_member (codes "length") ms ≢ None)
    × (get_member (codes "data") ms ≢ None) × (members_len ms ≢ 2)
HasFault d fault.Length = (l : Data) × (x : Data) × HasParts d l x × ((n : ℕ) → l ≢ number (unsigned n))
HasFault d fault.Data = (n : ℕ) × (x : Data) × HasParts d (number (unsigned n)) x × ((ds : Items) → x ≢ array ds)
HasFault d (fault.Item k) = (n : ℕ) × (ds : Items) × HasParts d (number (unsigned n)) (array ds) × IsFirstNoByte ds k
HasFault d fault.Memory = ⊥
